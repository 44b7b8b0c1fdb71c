-- The loop over the members for the one of most work. Assumes nothing.
use Rattle.std.specs.Prelude.{List, ◌≡◌, ℕ, ◌+◌, ◌≤◌, ◌<◌, length, get_or, take, drop, Option, None, Some}
use Rattle.std.proofs.Common.{sym, ap, ◌∙◌, add-one, drop_of_length-le, drop-cons, get_or-take}
use borrow.Author.Tests.{lt-ltb, le-ltb}
use Rattle.frontier.specs.Opens.{more_than, more_rank, ranks}
use Rattle.frontier.specs.declared.Most.{Most}

module _ (n : ℕ) (works : List ℕ) (s : Option Most) (p v : ℕ) where
  pub more_leaf : v < n → s ≡ more_rank n works s p v
  unfolding more_rank
  more_leaf h = rw (lt-ltb v n h)

  pub more_node : n ≤ v → more_than s p (get_or works v 0) ≡ more_rank n works s p v
  unfolding more_rank
  more_node h = rw (le-ltb v n h)

-- a node with x work bits, after one found or none
module _ (n : ℕ) (works : List ℕ) (s : Option Most) (p v x : ℕ) (inner : n ≤ v) (e : x ≡ get_or works v 0) where
  as_more : more_than s p x ≡ more_rank n works s p v
  as_more = ap (more_than s p) e ∙ more_node n works s p v inner

  pub more_first : s ≡ None → Some (record { place = p; work = x }) ≡ more_rank n works s p v
  more_first z = ap (λ q. more_than q p x) (sym z) ∙ as_more

  pub more_takes : (o : Most) → s ≡ Some o → o.work < x → Some (record { place = p; work = x }) ≡ more_rank n works s p v
  more_takes o z h =
      let y : Some (record { place = p; work = x }) ≡ more_than (Some o) p x = rw (lt-ltb o.work x h) in
      y ∙ ap (λ q. more_than q p x) (sym z) ∙ as_more

  pub more_stays : (o : Most) → s ≡ Some o → x ≤ o.work → Some o ≡ more_rank n works s p v
  more_stays o z h =
      let y : Some o ≡ more_than (Some o) p x = rw (le-ltb o.work x h) in
      y ∙ ap (λ q. more_than q p x) (sym z) ∙ as_more

-- the nodes from place p on lead from s to the answer
module _ (n : ℕ) (works : List ℕ) (l : List ℕ) where
  abbrev pub Ranking : Option Most → ℕ → Type 0
  Ranking s p = ranks n works s p (drop p l) ≡ ranks n works None 0 l

  pub ranking_next : (s r : Option Most) (p v : ℕ) → p < length l → v ≡ get_or l p 0 → r ≡ more_rank n works s p v → Ranking s p → Ranking r (p + 1)
  ranking_next s r p v h e f k =
      ap (λ x. ranks n works x (p + 1) (drop (p + 1) l)) (f ∙ ap (more_rank n works s p) e)
      ∙ ap (λ q. ranks n works (more_rank n works s p (get_or l p 0)) q (drop q l)) (add-one p)
      ∙ sym (ap (ranks n works s p) (drop-cons l p 0 h))
      ∙ k

  pub ranking_end : (s : Option Most) (p : ℕ) → length l ≤ p → Ranking s p → s ≡ ranks n works None 0 l
  ranking_end s p h k = sym (ap (ranks n works s p) (drop_of_length-le l h)) ∙ k

-- a member of the front
pub front_at : (members : List ℕ) (m p v : ℕ) → p < m → v ≡ get_or members p 0 → v ≡ get_or (take m members) p 0
front_at members m p v h e = e ∙ sym (get_or-take m members p 0 h)
