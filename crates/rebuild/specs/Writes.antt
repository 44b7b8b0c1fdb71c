-- One node's children written into a flat list, and a node built over two. Assumes nothing.
use Rattle.std.specs.Prelude.{cond, List, [], ◌∷◌, ◌≡◌, refl, ℕ, zero, suc, ◌+◌, ◌-◌, ◌*◌, ◌≤◌, ◌<◌, ltb, get_or, set, Option, None, Some}
use Rattle.std.proofs.Math.Bool.{and-false}
use Rattle.std.proofs.Common.{sym, ap, ap₂, ◌∙◌, suc-mul, arith, lt-ltb, le-ltb}
use Rattle.spec.specs.Tree.{Pair, pairs_of}
use Rattle.laws.specs.ArrayRebuild.{Wrote, write}
use Rattle.frontier.specs.Opens.{freed}
use Rattle.subset.specs.Regions.{is_split}
use Rattle.rebuild.specs.declared.Freed.{Freed}

abbrev pub pair : ℕ → ℕ → Pair
pair l r = record { left = l; right = r }

-- node v's children written
unfoldable pub with_pair : List Pair → ℕ → ℕ → ℕ → ℕ → List Pair
with_pair a n v l r = set a (v - n) (pair l r)

-- what was written: the flat list, the top, the freed numbers left
unfoldable pub wrote : List ℕ → List ℕ → ℕ → ℕ → Wrote
wrote kids opened top left = record { array = pairs_of kids; top = top; slots = freed opened left }

-- what a number taken leaves
abbrev pub IsTaken : Freed → Freed → Option ℕ → Type 0
IsTaken old new None = (old.left ≡ 0) × (new.left ≡ 0) × (new.nodes.now ≡ old.nodes.now)
IsTaken old new (Some v) = (1 ≤ old.left) × (v ≡ get_or old.nodes.now (old.left - 1) 0) × (new.left ≡ old.left - 1) × (new.nodes.now ≡ old.nodes.now)

-- ---- one node ----

set_two : (kids : List ℕ) (j l r : ℕ) → pairs_of (set (set kids (j * 2) l) (j * 2 + 1) r) ≡ set (pairs_of kids) j (pair l r)
unfolding pairs_of
set_two [] j l r = refl
set_two (x ∷ []) zero l r = refl
set_two (x ∷ []) (suc j) l r =
    let e : suc j * 2 ≡ suc (suc (j * 2)) = omega (arith, suc-mul j 2) in
    let f : suc j * 2 + 1 ≡ suc (suc (j * 2 + 1)) = omega (arith, suc-mul j 2) in
    ap₂ (λ p q. pairs_of (set (set (x ∷ []) p l) q r)) e f
set_two (x ∷ y ∷ kids) zero l r = refl
set_two (x ∷ y ∷ kids) (suc j) l r =
    let e : suc j * 2 ≡ suc (suc (j * 2)) = omega (arith, suc-mul j 2) in
    let f : suc j * 2 + 1 ≡ suc (suc (j * 2 + 1)) = omega (arith, suc-mul j 2) in
    ap₂ (λ p q. pairs_of (set (set (x ∷ y ∷ kids) p l) q r)) e f ∙ ap (λ z. pair x y ∷ z) (set_two kids j l r)

pub put_is : (kids a b : List ℕ) (n v l r j : ℕ) → j ≡ v - n → a ≡ set kids (j * 2) l → b ≡ set a (j * 2 + 1) r → pairs_of b ≡ with_pair (pairs_of kids) n v l r
unfolding with_pair
put_is kids a b n v l r j ej ea eb =
    ap pairs_of (eb ∙ ap (λ z. set z (j * 2 + 1) r) ea) ∙ set_two kids j l r ∙ ap (λ z. set (pairs_of kids) z (pair l r)) ej

-- ---- a node over two ----

pub join_none : (kids opened : List ℕ) (n l r left : ℕ) → left ≡ 0 → wrote kids opened 0 0 ≡ write n (pairs_of kids) l r (freed opened left)
unfolding wrote freed
join_none kids opened n l r left e = ap (λ x. write n (pairs_of kids) l r (freed opened x)) (sym e)

pub join_some : (kids opened b : List ℕ) (n l r left v : ℕ) → (left ≡ 0 → ⊥) → v ≡ get_or opened (left - 1) 0 → pairs_of b ≡ with_pair (pairs_of kids) n v l r
    → wrote b opened v (left - 1) ≡ write n (pairs_of kids) l r (freed opened left)
unfolding wrote freed with_pair
join_some kids opened b n l r left v f ev eb =
    let z : left ≡ suc (left - 1) = omega (arith, f) in
    let now : write n (pairs_of kids) l r (freed opened left) ≡ write n (pairs_of kids) l r (get_or opened (left - 1) 0 ∷ freed opened (left - 1)) =
    ap (λ x. write n (pairs_of kids) l r (freed opened x)) z in
    (λ i. record { array = eb i; top = v; slots = freed opened (left - 1) })
    ∙ ap (λ x. write n (pairs_of kids) l r (x ∷ freed opened (left - 1))) ev
    ∙ sym now

-- by the number that is taken
pub taken_none : (kids : List ℕ) (old new : Freed) (n l r : ℕ) → IsTaken old new None
    → wrote kids new.nodes.now 0 new.left ≡ write n (pairs_of kids) l r (freed old.nodes.now old.left)
unfolding wrote freed
taken_none kids old new n l r h =
    ap (λ x. record { array = pairs_of kids; top = 0; slots = freed new.nodes.now x }) h.1 ∙ join_none kids old.nodes.now n l r old.left h.0

pub taken_some : (kids b : List ℕ) (old new : Freed) (n l r v : ℕ) → IsTaken old new (Some v) → pairs_of b ≡ with_pair (pairs_of kids) n v l r
    → wrote b new.nodes.now v new.left ≡ write n (pairs_of kids) l r (freed old.nodes.now old.left)
taken_some kids b old new n l r v h eb =
    ap₂ (λ x y. wrote b x v y) h.3 h.2 ∙ join_some kids old.nodes.now b n l r old.left v (λ z. omega (arith, h.0)) h.1 eb

-- ---- the part of a mask ----

-- its split, if it is proper
unfoldable pub part_of : (ℕ → ℕ) → ℕ → Option ℕ
part_of split s = cond (is_split split s) (Some (split s)) None

module _ (split : ℕ → ℕ) (s x : ℕ) (e : x ≡ split s) where
  pub part_some : (x ≡ 0 → ⊥) → x < s → Some x ≡ part_of split s
  unfolding part_of
  part_some f h = rw (lt-ltb 0 (split s) (omega (arith, f)), lt-ltb (split s) s (omega arith)) (ap Some e)

  pub part_zero : x ≡ 0 → None ≡ part_of split s
  unfolding part_of
  part_zero z = rw (le-ltb 0 (split s) (omega arith))

  pub part_whole : s ≤ x → None ≡ part_of split s
  unfolding part_of
  part_whole h = rw (le-ltb (split s) s (omega arith), and-false (ltb 0 (split s)))
