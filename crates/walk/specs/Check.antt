-- The walk that marks the numbers it meets: what is marked, and what the stack's numbers stand for, make up the root's tree, each way. Assumes nothing.
use Rattle.std.specs.Prelude.{◌≡◌, refl, Bool, true, false, not, cond, List, [], ◌∷◌, ℕ, suc, ◌+◌, ◌-◌, ◌*◌, ◌≤◌, ◌<◌, eqb, leb, ltb, get_or, set, length, Option, Some, slice_get}
use Rattle.std.proofs.Common.{sym, ◌∙◌, ap, ap₂, subst, arith, get_or-set_other, le-leb, eq-eqb, ltb-true, eqb-true}
use Rattle.std.proofs.Math.Decide.{dec_le}
use Rattle.std.proofs.lemmas.Bool.{lt-leb, not-true, not-false}
use Rattle.spec.specs.Lists.{count, memb}
use Rattle.spec.specs.Tree.{Tree, leaf, node, number, numbers, Pair, valid, pairs_of}
use Rattle.laws.specs.Booleans.{by_cases, bool_ext}
use Rattle.laws.specs.ListLaws.{count_three, count_memb, count_not_memb}
use Rattle.laws.specs.Walks.{tree_valid, valid_tree}
use Rattle.laws.specs.FlatLaws.{pairs_length, pair_at, left_of, right_of}
use Rattle.walk.specs.Stack.{stack_of, push, pushed_both, picked, topped, Inside, inside_push, topped_none, topped-one, topped_top, topped_both, stack_agree, both_le, At, Trees, node_at, grown, grown_trees}
use Rattle.walk.specs.Marks.{fresh, marked, fresh_both, marked_both, seen, seen_count, seen_above, seen_agree, seen_clear, one_self, mark_seen, stale_seen, fresh_inside, first_fresh, second_fresh, both_seen, both_length, both_past, both_count, set_seen, count_none, count_agree, count_more, count_le, count_full, full_count}

-- how often k is below the root of a tree, and below the roots of several
abbrev pub under : Tree → ℕ → ℕ
under (leaf i) k = 0
under (node v l r) k = count k (numbers l) + count k (numbers r)

abbrev pub unders : List Tree → ℕ → ℕ
unders [] k = 0
unders (t ∷ ts) k = under t k + unders ts k

count_under : (t : Tree) (k : ℕ) → count k (numbers t) ≡ count k (number t ∷ []) + under t k
count_under (leaf i) k = omega arith
count_under (node v l r) k = omega (arith, count_three k v (numbers l) (numbers r))

-- ---- a number that goes on the stack, and its tree ----

module _ (n : ℕ) (a : List Pair) (x : ℕ) (xs : List ℕ) where
  unpush : (ts : List Tree) → Trees n a (push n x xs) ts
      → (t : Tree) × (us : List Tree) × At n a x t × Trees n a xs us × ((k : ℕ) → unders ts k ≡ under t k + unders us k)
  unpush ts h =
      by_cases (ltb x n)
      (λ e. (leaf x, ts, (ltb-true x n e, refl), rw e at h, λ k. omega arith))
      (λ e. head ts (rw e at h))
    where
      head : (ts : List Tree) → Trees n a (x ∷ xs) ts
          → (t : Tree) × (us : List Tree) × At n a x t × Trees n a xs us × ((k : ℕ) → unders ts k ≡ under t k + unders us k)
      head [] h = absurd h
      head (t ∷ us) h = (t, us, h.0, h.1, λ k. refl)

unders-grown : (t : Tree) (ts : List Tree) (k : ℕ) → unders (grown t ts) k ≡ under t k + unders ts k
unders-grown (leaf i) ts k = omega arith
unders-grown (node v l r) ts k = refl

-- ---- what is met and what is on the stack make up the root's tree ----

pub record Walked (n : ℕ) (a : List Pair) (root : ℕ) (xs : List ℕ) (met : ℕ → ℕ) : Type 0 where
  pub make : (ts : List Tree) → Trees n a xs ts → (t : Tree) × At n a root t × ((k : ℕ) → count k (numbers t) ≡ met k + unders ts k)
  pub take : (t : Tree) → At n a root t → (ts : List Tree) × Trees n a xs ts × ((k : ℕ) → count k (numbers t) ≡ met k + unders ts k)

-- at the root
starts : (n : ℕ) (a : List Pair) (root : ℕ) (met : ℕ → ℕ) → ((k : ℕ) → met k ≡ count k (root ∷ [])) → Walked n a root (root ∷ []) met
starts n a root met f =
    record {
      make = made;
      take = λ t h. (t ∷ [], (h, tt), λ k. omega (arith, whole t h k));
    }
  where
    whole : (t : Tree) → At n a root t → (k : ℕ) → count k (numbers t) ≡ met k + under t k
    whole t h k = count_under t k ∙ ap (λ (z : ℕ). z + under t k) (ap (λ (x : ℕ). count k (x ∷ [])) h.1 ∙ sym (f k))

    made : (ts : List Tree) → Trees n a (root ∷ []) ts → (t : Tree) × At n a root t × ((k : ℕ) → count k (numbers t) ≡ met k + unders ts k)
    made [] h = absurd h
    made (t ∷ []) h = (t, h.0, λ k. omega (arith, whole t h.0 k))
    made (t ∷ u ∷ ts) h = absurd h.1

module _ (n : ℕ) (a : List Pair) (root v x y : ℕ) (xs : List ℕ) (met : ℕ → ℕ) (ge : n ≤ v)
    (here : slice_get a (v - n) ≡ Some (record { left = x; right = y })) (w : Walked n a root (v ∷ xs) met) where
  -- a tree at the root's number has the two children of the stack's top, and what is below them
  parts : (t : Tree) → At n a root t
      → (l r : Tree) × (us : List Tree) × At n a x l × At n a y r × Trees n a xs us
      × ((k : ℕ) → count k (numbers t) ≡ met k + count k (x ∷ []) + count k (y ∷ []) + under l k + under r k + unders us k)
  parts t h = let (ts, g, f) = w.take t h in go ts g f
    where
      go : (ts : List Tree) → Trees n a (v ∷ xs) ts → ((k : ℕ) → count k (numbers t) ≡ met k + unders ts k)
          → (l r : Tree) × (us : List Tree) × At n a x l × At n a y r × Trees n a xs us
          × ((k : ℕ) → count k (numbers t) ≡ met k + count k (x ∷ []) + count k (y ∷ []) + under l k + under r k + unders us k)
      go [] g f = absurd g
      go (u ∷ us) g f =
          let (l, r, e, p, q) = node_at n a v x y u ge here g.0 in (
            l,
            r,
            us,
            p,
            q,
            g.1,
            λ k. omega (
              arith,
              f k,
              ap (λ (z : Tree). under z k) e,
              count_under l k,
              count_under r k,
              ap (λ (z : ℕ). count k (z ∷ [])) p.1,
              ap (λ (z : ℕ). count k (z ∷ [])) q.1,
            ),
          )

  turn : (met' : ℕ → ℕ) → ((k : ℕ) → met' k ≡ met k + count k (x ∷ []) + count k (y ∷ [])) → Walked n a root (push n y (push n x xs)) met'
  turn met' f =
      record {
        make = λ ts h.
            let (r, ts₁, ar, h₁, e₁) = unpush n a y (push n x xs) ts h in
            let (l, us, al, h₂, e₂) = unpush n a x xs ts₁ h₁ in
            let (t, at, e) = w.make (node v l r ∷ us) (((ge, here ∙ children l r al ar, al.0, ar.0), refl), h₂) in (
              t,
              at,
              λ k. omega (
                arith,
                f k,
                e k,
                e₁ k,
                e₂ k,
                count_under l k,
                count_under r k,
                ap (λ (z : ℕ). count k (z ∷ [])) al.1,
                ap (λ (z : ℕ). count k (z ∷ [])) ar.1,
              ),
            );
        take = λ t h.
            let (l, r, us, al, ar, g, e) = parts t h in (
              grown r (grown l us),
              grown_trees n a y (push n x xs) r (grown l us) ar (grown_trees n a x xs l us al g),
              λ k. omega (arith, f k, e k, unders-grown l us k, unders-grown r (grown l us) k),
            );
      }
    where
      children : (l r : Tree) → At n a x l → At n a y r
          → ◌≡◌ {A = Option Pair} (Some (record { left = x; right = y })) (Some (record { left = number l; right = number r }))
      children l r p q = ap₂ (λ (i j : ℕ). Some (record { left = i; right = j })) (sym p.1) (sym q.1)

-- ---- validity, by how often the root's tree has each number ----

abbrev pub Meets : ℕ → Tree → Type 0
Meets root t = (k : ℕ) → count k (numbers t) ≡ cond (leb k root) 1 0

module _ (n : ℕ) (a : List Pair) (root : ℕ) (long : suc (length a) ≡ n) (last : root + 1 ≡ n + length a) where
  met_valid : (t : Tree) → At n a root t → Meets root t → valid n a ≡ true
  met_valid t h m =
      tree_valid n a t (record {
        inner = long;
        described = h.0;
        rooted = h.1 ∙ omega arith;
        met = λ k b. m k ∙ rw (le-leb k root (omega arith));
        above = λ k b. by_cases (memb k (numbers t)) (λ e. absurd (none k b e)) (λ e. e);
      })
    where
      none : (k : ℕ) → n + length a ≤ k → memb k (numbers t) ≡ true → ⊥
      none k b e = let z : count k (numbers t) ≡ 0 = m k ∙ rw (lt-leb k root (omega arith)) in omega (arith, count_memb k (numbers t) e)

  valid_met : valid n a ≡ true → (t : Tree) × At n a root t × Meets root t
  valid_met e =
      let (t, w, ok) = valid_tree n a (omega arith) e in (
        t,
        (ok.described, ok.rooted ∙ omega arith),
        λ k. elim (dec_le k root) [
          | yes i ↦ ok.met k (omega arith) ∙ rw (le-leb k root i)
          | no i ↦ count_not_memb k (numbers t) (ok.above k (omega arith)) ∙ rw (lt-leb k root (omega arith))
        ],
      )

  -- a number of the tree that is seen and is there once more, or is above the root's
  stale : (ws : List ℕ) (x : ℕ) (t : Tree) → Meets root t → fresh ws root x ≡ false → seen ws root x + 1 ≤ count x (numbers t) → ⊥
  stale ws x t m f h =
      elim (dec_le x root) [
        | yes i ↦ let z : count x (numbers t) ≡ 1 = m x ∙ rw (le-leb x root i) in omega (arith, stale_seen ws root x f i)
        | no i ↦ let z : count x (numbers t) ≡ 0 = m x ∙ rw (lt-leb x root (omega arith)) in omega arith
      ]

  -- a child that is not fresh
  stale_child : (ws : List ℕ) (v x y : ℕ) (xs : List ℕ) → root < length ws → n ≤ v → slice_get a (v - n) ≡ Some (record { left = x; right = y })
      → Walked n a root (v ∷ xs) (seen ws root) → fresh_both ws root x y ≡ false → valid n a ≡ false
  unfolding fresh_both
  stale_child ws v x y xs room ge here w f =
      by_cases (valid n a)
      (λ e.
      let (t, at, m) = valid_met e in
      let (l, r, us, al, ar, g, c) = parts n a root v x y xs (seen ws root) ge here w t at in
      absurd (by_cases (fresh ws root x)
      (λ q. stale (marked ws root x) y t m (rw q at f) (omega (arith, c y, mark_seen ws root x room q y, one_self y)))
      (λ q. stale ws x t m q (omega (arith, c x, one_self x)))))
      (λ e. e)

  -- the stack is empty: the tree is valid just if all is seen
  ended : (ws : List ℕ) → Walked n a root [] (seen ws root) → eqb (seen_count ws root) (root + 1) ≡ valid n a
  ended ws w =
      bool_ext (eqb (seen_count ws root) (root + 1)) (valid n a)
      (λ e.
      let (t, at, c) = w.make [] tt in
      met_valid t at (λ k. elim (dec_le k root) [
        | yes i ↦ rw (le-leb k root i) (omega (arith, c k, count_full ws root (eqb-true (seen_count ws root) (root + 1) e) k i))
        | no i ↦ rw (lt-leb k root (omega arith)) (omega (arith, c k, seen_above ws root k (omega arith)))
      ]))
      (λ e.
      let (t, at, m) = valid_met e in
      eq-eqb (seen_count ws root) (root + 1) (full_count ws root (λ k i. all t at m k i (w.take t at))))
    where
      all : (t : Tree) → At n a root t → Meets root t → (k : ℕ) → k ≤ root
          → (ts : List Tree) × Trees n a [] ts × ((k : ℕ) → count k (numbers t) ≡ seen ws root k + unders ts k) → seen ws root k ≡ 1
      all t at m k i ([], g, c) = let z : count k (numbers t) ≡ 1 = m k ∙ rw (le-leb k root i) in omega (arith, c k)
      all t at m k i (u ∷ us, g, c) = absurd g

-- ---- the loop's state: the numbers met, and the stack's places ----

pub record Going (kids : List ℕ) (n : ℕ) (ws : List ℕ) (v p met : ℕ) : Type 0 where
  pub walked : Walked n (pairs_of kids) (n * 2 - 2) (topped 1024 v ws p) (seen ws (n * 2 - 2))
  pub inside : Inside n (n * 2 - 2) (topped 1024 v ws p)
  pub counted : seen_count ws (n * 2 - 2) ≡ met
  pub shallow : p ≤ met

module _ (kids : List ℕ) (n : ℕ) (two : 2 ≤ n) (small : n ≤ 512) (whole : length kids ≡ n * 2 - 2) where
  pairs : length (pairs_of kids) ≡ n - 1
  pairs = pairs_length kids ∙ omega arith

  children : (v : ℕ) → n ≤ v → v ≤ n * 2 - 2 → slice_get (pairs_of kids) (v - n) ≡ Some (record { left = left_of kids n v; right = right_of kids n v })
  children v a b = pair_at kids (v - n) (omega (arith, pairs))

  pub begins : (ws : List ℕ) → 2048 ≤ length ws → ((k : ℕ) → k < n * 2 → get_or ws k 0 ≡ 0) → Going kids n (set ws (n * 2 - 2) 1) (n * 2 - 2) 1 1
  begins ws long clear =
      let root = n * 2 - 2 in
      let none : (k : ℕ) → seen ws root k ≡ 0 = seen_clear ws root (λ k h. clear k (omega arith)) in
      let one : (k : ℕ) → seen (set ws root 1) root k ≡ seen ws root k + count k (root ∷ [])
      = λ k. set_seen ws root root (omega arith) (clear root (omega arith)) (omega arith) k in
      let st : topped 1024 root (set ws root 1) 1 ≡ root ∷ [] = topped-one 1024 root (set ws root 1) in
      record {
        walked = rw st (starts n (pairs_of kids) root (seen (set ws root 1) root) (λ k. omega (arith, one k, none k)));
        inside = rw st (omega arith, omega arith, tt);
        counted = count_more ws (set ws root 1) root root (omega arith) one ∙ ap (λ (z : ℕ). z + 1) (count_none ws root none);
        shallow = omega arith;
      }

  module _ (ws : List ℕ) (v p met : ℕ) (g : Going kids n ws v p met) where
    pub bounded : met ≤ n * 2 - 1
    bounded = omega (arith, g.counted, count_le ws (n * 2 - 2))

    pub ends : p ≡ 0 → eqb met (n * 2 - 2 + 1) ≡ valid n (pairs_of kids)
    ends e =
        ap (λ (z : ℕ). eqb z (n * 2 - 2 + 1)) (sym g.counted)
        ∙ ended n (pairs_of kids) (n * 2 - 2) (omega (arith, pairs)) (omega (arith, pairs)) ws
        (subst (λ (xs : List ℕ). Walked n (pairs_of kids) (n * 2 - 2) xs (seen ws (n * 2 - 2))) (ap (topped 1024 v ws) e ∙ topped_none 1024 v ws) g.walked)

    above : 0 < p → Inside n (n * 2 - 2) (v ∷ stack_of 1024 ws (p - 1))
    above pos = subst (Inside n (n * 2 - 2)) (topped_top 1024 v ws p pos) g.inside

    -- the node on top
    pub internal : 0 < p → (n ≤ v) × (v ≤ n * 2 - 2)
    internal pos = let a = above pos in (a.0, a.1)

    module _ (pos : 0 < p) (long : 2048 ≤ length ws) (x y : ℕ) (ex : x ≡ left_of kids n v) (ey : y ≡ right_of kids n v) (b : Bool)
        (q : b ≡ fresh_both ws (n * 2 - 2) x y) where
      here : slice_get (pairs_of kids) (v - n) ≡ Some (record { left = x; right = y })
      here =
          let a = above pos in
          children v a.0 a.1 ∙ ap₂ (λ (i j : ℕ). Some (record { left = i; right = j })) (sym ex) (sym ey)

      on_top : Walked n (pairs_of kids) (n * 2 - 2) (v ∷ stack_of 1024 ws (p - 1)) (seen ws (n * 2 - 2))
      on_top = subst (λ (xs : List ℕ). Walked n (pairs_of kids) (n * 2 - 2) xs (seen ws (n * 2 - 2))) (topped_top 1024 v ws p pos) g.walked

      pub refuses : not b ≡ true → false ≡ valid n (pairs_of kids)
      refuses z =
          sym (stale_child n (pairs_of kids) (n * 2 - 2) (omega (arith, pairs)) (omega (arith, pairs)) ws v x y (stack_of 1024 ws (p - 1)) (omega arith)
          (above pos).0 here on_top (sym q ∙ not-true b z))

      -- one turn, for the words, the top and the places that the code comes to
      pub goes_on : not b ≡ false → (ws₁ ws₂ : List ℕ) (v₂ p₂ : ℕ) → ws₁ ≡ marked_both ws (n * 2 - 2) x y
          → (v₂ ≡ picked n y (picked n x (get_or ws₁ (1023 + (p - 1)) 0))) × (p₂ ≡ pushed_both n (p - 1) x y) × (ws₂ ≡ set ws₁ (1024 + (p - 1)) x)
          → Going kids n ws₂ v₂ p₂ (met + 2)
      goes_on z ws₁ ws₂ v₂ p₂ e₁ (e₂, e₃, e₄) =
          let f : fresh_both ws (n * 2 - 2) x y ≡ true = sym q ∙ not-false b z in
          let root = n * 2 - 2 in
          let bound = bounded in
          let deep = g.shallow in
          let len : length ws₁ ≡ length ws = ap length e₁ ∙ both_length ws root x y in
          let past : (k : ℕ) → root < k → get_or ws₁ k 0 ≡ get_or ws k 0 = λ k h. ap (λ (l : List ℕ). get_or l k 0) e₁ ∙ both_past ws root x y k h in
          let same : (k : ℕ) → seen ws₂ root k ≡ seen (marked_both ws root x y) root k
          = λ k. ap (λ (l : List ℕ). seen l root k) e₄
          ∙ seen_agree ws₁ (set ws₁ (1024 + (p - 1)) x) root (λ j h. get_or-set_other ws₁ (1024 + (p - 1)) j x 0 (λ r. omega arith)) k
          ∙ ap (λ (l : List ℕ). seen l root k) e₁ in
          let st : topped 1024 v₂ ws₂ p₂ ≡ push n y (push n x (stack_of 1024 ws (p - 1)))
          = (λ i. topped 1024 (e₂ i) (e₄ i) (e₃ i))
          ∙ topped_both 1024 n ws₁ (p - 1) x y (get_or ws₁ (1023 + (p - 1)) 0) (omega (arith, len))
          (λ h. ap (λ (k : ℕ). get_or ws₁ k 0) (let r : 1023 + (p - 1) ≡ 1024 + (p - 1 - 1) = omega arith in r))
          ∙ ap (λ (xs : List ℕ). push n y (push n x xs)) (stack_agree 1024 ws ws₁ (p - 1) (λ k a b. past k (omega arith))) in
          record {
            walked = rw st (turn n (pairs_of kids) root v x y (stack_of 1024 ws (p - 1)) (seen ws root) (above pos).0 here on_top
                (seen ws₂ root) (λ k. same k ∙ both_seen ws root x y f (omega arith) k));
            inside = rw st (inside_push n root y _ (fresh_inside (marked ws root x) root y (second_fresh ws root x y f))
                (inside_push n root x _ (fresh_inside ws root x (first_fresh ws root x y f)) (above pos).2));
            counted = count_agree (marked_both ws root x y) ws₂ root same ∙ both_count ws root x y (omega arith) f ∙ ap (λ (z : ℕ). z + 2) g.counted;
            shallow = omega (arith, e₃, both_le n (p - 1) x y);
          }
