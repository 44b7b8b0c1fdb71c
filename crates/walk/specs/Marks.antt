-- Marks of the numbers met, one word a number from the front of the lent words on. Assumes nothing.
use Rattle.std.specs.Prelude.{◌≡◌, refl, Bool, true, false, not, ◌&&◌, cond, List, [], ◌∷◌, ℕ, ◌+◌, ◌-◌, ◌≤◌, ◌<◌, eqb, leb, get_or, set, length}
use Rattle.std.proofs.Common.{sym, ◌∙◌, arith, length-set, get_or-set_same, get_or-set_other, le-leb, leb-true, eq-eqb, ne_eqb, eqb-true}
use Rattle.std.proofs.Math.Path.{ap, fun_ext}
use Rattle.std.proofs.Math.Decide.{ℕ_discrete}
use Rattle.std.proofs.lemmas.Bool.{lt-leb, not-true, not-false}
use Rattle.spec.specs.Lists.{count, sum_of, range}
use Rattle.laws.specs.Booleans.{by_cases, and_left, and_right}
use Rattle.laws.specs.ListLaws.{sum_add, sum_length, range_length, from_memb, memb-range}
use Rattle.laws.specs.MemberLaws.{sum_in, sum_none, memb_in, in_memb}
use Rattle.laws.specs.Counts.{only_in}

-- a number up to the root's that is not marked
unfoldable pub fresh : List ℕ → ℕ → ℕ → Bool
fresh ws root x = leb x root && eqb (get_or ws x 0) 0

-- with such a number marked
unfoldable pub marked : List ℕ → ℕ → ℕ → List ℕ
marked ws root x = cond (fresh ws root x) (set ws x 1) ws

-- two different numbers of that kind; with both marked, or the first one only
unfoldable pub fresh_both : List ℕ → ℕ → ℕ → ℕ → Bool
fresh_both ws root x y = fresh ws root x && fresh (marked ws root x) root y

unfoldable pub marked_both : List ℕ → ℕ → ℕ → ℕ → List ℕ
marked_both ws root x y = cond (fresh ws root x) (marked (marked ws root x) root y) ws

-- 1 for a number that is marked, up to the root's
unfoldable pub seen : List ℕ → ℕ → ℕ → ℕ
seen ws root k = cond (leb k root) (cond (eqb (get_or ws k 0) 0) 0 1) 0

-- ---- what `mark` does ----

pub above_not : (ws : List ℕ) (root x : ℕ) → root < x → (false ≡ fresh ws root x) × (ws ≡ marked ws root x)
unfolding fresh marked
above_not ws root x h = let e : leb x root ≡ false = lt-leb x root h in (rw e, rw e)

pub marked_not : (ws : List ℕ) (root x : ℕ) → x ≤ root → (get_or ws x 0 ≡ 0 → ⊥) → (false ≡ fresh ws root x) × (ws ≡ marked ws root x)
unfolding fresh marked
marked_not ws root x h g =
    let e : leb x root ≡ true = le-leb x root h in
    let f : eqb (get_or ws x 0) 0 ≡ false = ne_eqb (get_or ws x 0) 0 g in
    (rw (e, f), rw (e, f))

pub marks_one : (ws : List ℕ) (root x : ℕ) → x ≤ root → get_or ws x 0 ≡ 0 → (true ≡ fresh ws root x) × (set ws x 1 ≡ marked ws root x)
unfolding fresh marked
marks_one ws root x h g =
    let e : leb x root ≡ true = le-leb x root h in
    let f : eqb (get_or ws x 0) 0 ≡ true = eq-eqb (get_or ws x 0) 0 g in
    (rw (e, f), rw (e, f))

pub first_not : (ws ws' : List ℕ) (root x y : ℕ) (b : Bool) → (b ≡ fresh ws root x) × (ws' ≡ marked ws root x) → not b ≡ true
    → (false ≡ fresh_both ws root x y) × (ws' ≡ marked_both ws root x y)
unfolding fresh_both marked_both marked
first_not ws ws' root x y b m f = let e : fresh ws root x ≡ false = sym m.0 ∙ not-true b f in (rw e, rw e (rw e at m.1))

pub then_second : (ws ws' ws'' : List ℕ) (root x y : ℕ) (b c : Bool) → (b ≡ fresh ws root x) × (ws' ≡ marked ws root x) → not b ≡ false
    → (c ≡ fresh ws' root y) × (ws'' ≡ marked ws' root y) → (c ≡ fresh_both ws root x y) × (ws'' ≡ marked_both ws root x y)
unfolding fresh_both marked_both
then_second ws ws' ws'' root x y b c m f q =
    let e : fresh ws root x ≡ true = sym m.0 ∙ not-false b f in
    (rw (e, ← m.1) q.0, rw (e, ← m.1) q.1)

-- ---- what is marked ----

pub fresh_inside : (ws : List ℕ) (root v : ℕ) → fresh ws root v ≡ true → v ≤ root
unfolding fresh
fresh_inside ws root v f = leb-true v root (and_left (leb v root) (eqb (get_or ws v 0) 0) f)

pub marked_length : (ws : List ℕ) (root x : ℕ) → length (marked ws root x) ≡ length ws
unfolding marked
marked_length ws root x = by_cases (fresh ws root x) (λ e. rw e (simp length-set)) (λ e. rw e)

pub both_length : (ws : List ℕ) (root x y : ℕ) → length (marked_both ws root x y) ≡ length ws
unfolding marked_both
both_length ws root x y =
    by_cases (fresh ws root x)
    (λ e. rw e (marked_length (marked ws root x) root y ∙ marked_length ws root x))
    (λ e. rw e)

-- words past the root's number stay
pub marked_past : (ws : List ℕ) (root x k : ℕ) → root < k → get_or (marked ws root x) k 0 ≡ get_or ws k 0
unfolding marked
marked_past ws root x k h =
    by_cases (fresh ws root x)
    (λ e. let i : x ≤ root = fresh_inside ws root x e in rw e (get_or-set_other ws x k 1 0 (λ q. omega arith)))
    (λ e. rw e)

pub both_past : (ws : List ℕ) (root x y k : ℕ) → root < k → get_or (marked_both ws root x y) k 0 ≡ get_or ws k 0
unfolding marked_both
both_past ws root x y k h =
    by_cases (fresh ws root x)
    (λ e. rw e (marked_past (marked ws root x) root y k h ∙ marked_past ws root x k h))
    (λ e. rw e)

pub seen-le : (ws : List ℕ) (root k : ℕ) → seen ws root k ≤ 1
unfolding seen
seen-le ws root k =
    by_cases (leb k root)
    (λ e. by_cases (eqb (get_or ws k 0) 0) (λ f. rw (e, f) (omega arith)) (λ f. rw (e, f) (omega arith)))
    (λ e. rw e (omega arith))

pub seen_above : (ws : List ℕ) (root k : ℕ) → root < k → seen ws root k ≡ 0
unfolding seen
seen_above ws root k h = rw (lt-leb k root h)

-- words that agree up to the root's number
pub seen_agree : (ws ws' : List ℕ) (root : ℕ) → ((k : ℕ) → k ≤ root → get_or ws' k 0 ≡ get_or ws k 0) → (k : ℕ) → seen ws' root k ≡ seen ws root k
unfolding seen
seen_agree ws ws' root f k =
    by_cases (leb k root) (λ e. rw (e, f k (leb-true k root e))) (λ e. rw e)

pub seen_clear : (ws : List ℕ) (root : ℕ) → ((k : ℕ) → k ≤ root → get_or ws k 0 ≡ 0) → (k : ℕ) → seen ws root k ≡ 0
unfolding seen
seen_clear ws root f k =
    by_cases (leb k root) (λ e. rw (e, f k (leb-true k root e))) (λ e. rw e)

one_else : (k v : ℕ) → (k ≡ v → ⊥) → count k (v ∷ []) ≡ 0
one_else k v g = rw (ne_eqb k v g)

pub one_self : (v : ℕ) → count v (v ∷ []) ≡ 1
one_self v = rw (eq-eqb v v refl)

pub set_seen : (ws : List ℕ) (root v : ℕ) → v ≤ root → get_or ws v 0 ≡ 0 → root < length ws
    → (k : ℕ) → seen (set ws v 1) root k ≡ seen ws root k + count k (v ∷ [])
unfolding seen
set_seen ws root v h g r k =
    elim (ℕ_discrete k v) [
      | yes e ↦ rw (e, le-leb v root h, get_or-set_same ws v 1 0 (omega arith), g) (omega (arith, one_self v))
      | no f ↦ rw (get_or-set_other ws v k 1 0 f) (omega (arith, one_else k v f))
    ]

-- a fresh number is seen from then on
pub mark_seen : (ws : List ℕ) (root v : ℕ) → root < length ws → fresh ws root v ≡ true
    → (k : ℕ) → seen (marked ws root v) root k ≡ seen ws root k + count k (v ∷ [])
unfolding fresh marked
mark_seen ws root v r f k =
    rw f
    (set_seen ws root v (leb-true v root (and_left (leb v root) (eqb (get_or ws v 0) 0) f))
    (eqb-true (get_or ws v 0) 0 (and_right (leb v root) (eqb (get_or ws v 0) 0) f)) r k)

-- a number that is not fresh: above the root's, or seen
pub stale_seen : (ws : List ℕ) (root v : ℕ) → fresh ws root v ≡ false → v ≤ root → seen ws root v ≡ 1
unfolding fresh seen
stale_seen ws root v f h =
    let e : leb v root ≡ true = le-leb v root h in
    let g : eqb (get_or ws v 0) 0 ≡ false = rw e at f in
    rw (e, g)

module _ (ws : List ℕ) (root x y : ℕ) (f : fresh_both ws root x y ≡ true) where
  pub first_fresh : fresh ws root x ≡ true
  unfolding fresh_both
  first_fresh = and_left (fresh ws root x) (fresh (marked ws root x) root y) f

  pub second_fresh : fresh (marked ws root x) root y ≡ true
  unfolding fresh_both
  second_fresh = and_right (fresh ws root x) (fresh (marked ws root x) root y) f

  pub both_seen : root < length ws → (k : ℕ) → seen (marked_both ws root x y) root k ≡ seen ws root k + count k (x ∷ []) + count k (y ∷ [])
  unfolding marked_both
  both_seen r k =
      rw first_fresh
      (mark_seen (marked ws root x) root y (omega (arith, marked_length ws root x)) second_fresh k
      ∙ ap (λ (z : ℕ). z + count k (y ∷ [])) (mark_seen ws root x r first_fresh k))

-- ---- how many are marked ----

unfoldable pub seen_count : List ℕ → ℕ → ℕ
seen_count ws root = sum_of (seen ws root) (range (root + 1))

one_count : (root v : ℕ) → v ≤ root → sum_of (λ k. count k (v ∷ [])) (range (root + 1)) ≡ 1
one_count root v h = only_in v (λ k. 1) 0 (root + 1) (omega arith) (omega arith)

pub count_none : (ws : List ℕ) (root : ℕ) → ((k : ℕ) → seen ws root k ≡ 0) → seen_count ws root ≡ 0
unfolding seen_count
count_none ws root f = sum_none (seen ws root) (range (root + 1)) (λ k i. f k)

pub count_agree : (ws ws' : List ℕ) (root : ℕ) → ((k : ℕ) → seen ws' root k ≡ seen ws root k) → seen_count ws' root ≡ seen_count ws root
unfolding seen_count
count_agree ws ws' root f = ap (λ (g : ℕ → ℕ). sum_of g (range (root + 1))) (fun_ext f)

pub count_more : (ws ws' : List ℕ) (root v : ℕ) → v ≤ root → ((k : ℕ) → seen ws' root k ≡ seen ws root k + count k (v ∷ []))
    → seen_count ws' root ≡ seen_count ws root + 1
unfolding seen_count
count_more ws ws' root v h f =
    ap (λ (g : ℕ → ℕ). sum_of g (range (root + 1))) (fun_ext f)
    ∙ omega (arith, sum_add (seen ws root) (λ k. count k (v ∷ [])) (range (root + 1)), one_count root v h)

pub both_count : (ws : List ℕ) (root x y : ℕ) → root < length ws → fresh_both ws root x y ≡ true → seen_count (marked_both ws root x y) root ≡ seen_count ws root + 2
unfolding marked_both
both_count ws root x y r f =
    let a : fresh ws root x ≡ true = first_fresh ws root x y f in
    let b : fresh (marked ws root x) root y ≡ true = second_fresh ws root x y f in
    rw a
    (count_more (marked ws root x) (marked (marked ws root x) root y) root y (fresh_inside (marked ws root x) root y b)
    (mark_seen (marked ws root x) root y (omega (arith, marked_length ws root x)) b)
    ∙ ap (λ (z : ℕ). z + 1) (count_more ws (marked ws root x) root x (fresh_inside ws root x a) (mark_seen ws root x r a)) ∙ omega arith)

-- what is not marked up to the root's number is the rest
unseen_rest : (ws : List ℕ) (root : ℕ) → seen_count ws root + sum_of (λ k. 1 - seen ws root k) (range (root + 1)) ≡ root + 1
unfolding seen_count
unseen_rest ws root =
    sym (sum_add (seen ws root) (λ k. 1 - seen ws root k) (range (root + 1)))
    ∙ ap (λ (g : ℕ → ℕ). sum_of g (range (root + 1))) (fun_ext whole)
    ∙ sum_length (range (root + 1)) ∙ range_length 0 (root + 1)
  where
    whole : (k : ℕ) → seen ws root k + (1 - seen ws root k) ≡ 1
    whole k = omega (arith, seen-le ws root k)

pub count_le : (ws : List ℕ) (root : ℕ) → seen_count ws root ≤ root + 1
count_le ws root = omega (arith, unseen_rest ws root)

-- all are marked just if as many are as there are
pub count_full : (ws : List ℕ) (root : ℕ) → seen_count ws root ≡ root + 1 → (k : ℕ) → k ≤ root → seen ws root k ≡ 1
count_full ws root e k h =
    omega (
      arith,
      unseen_rest ws root,
      sum_in (λ k. 1 - seen ws root k) k (range (root + 1)) (memb_in k (range (root + 1)) (memb-range k (root + 1) (omega arith))),
      seen-le ws root k,
    )

pub full_count : (ws : List ℕ) (root : ℕ) → ((k : ℕ) → k ≤ root → seen ws root k ≡ 1) → seen_count ws root ≡ root + 1
full_count ws root f =
    omega (
      arith,
      unseen_rest ws root,
      sum_none (λ k. 1 - seen ws root k) (range (root + 1))
          (λ k i. omega (arith, f k (omega (arith, from_memb k 0 (root + 1) (in_memb k (range (root + 1)) i))))),
    )
