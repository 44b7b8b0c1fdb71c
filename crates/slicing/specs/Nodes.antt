-- Sums by index over the steps and over the tables of a tree: what is asked, and one turn. Assumes nothing.
use Rattle.std.specs.Prelude.{Bool, true, false, cond, ◌≡◌, refl, List, [], ◌∷◌, ◌++◌, ℕ, zero, suc, ◌+◌, ◌*◌, ◌^◌, ◌≤◌, ◌<◌, ltb, length, get_or, take, drop}
use Rattle.std.proofs.Common.{sym, ◌∙◌, ap, arith, add-one, lt_of_not-le, take-append-drop, pow_mono, take-suc}
use Rattle.std.proofs.Math.Seq.{take-length}
use Rattle.spec.specs.Lists.{memb, keep, from, range, sum_of}
use Rattle.laws.specs.ListLaws.{sum_append, range_length, memb_at, sum_bound}
use Rattle.laws.specs.MemberLaws.{sum_in, memb_in}
use Rattle.laws.specs.FlatLaws.{left_of, right_of}
use Rattle.slots.specs.Weigh.{either}
use Rattle.nodesets.specs.Passes.{nodes}
use Rattle.nodesets.specs.Steps.{Steps}
use Rattle.slicing.specs.Sums.{Small, Summed, share, Added, summed_next, share_most, share_nothing}

-- ---- steps ----

-- what the step of node v adds at index j
abbrev pub step_share : (W : ℕ) (L R : ℕ → ℕ) (sets works : List ℕ) → ℕ → ℕ → ℕ
step_share W L R sets works j v = share (2 ^ get_or works v 0) j (keep (either sets W (L v) (R v)) (range (W * 64)))

pub record StepsKnown (W n : ℕ) (kids order sets works sums : List ℕ) : Type 0 where
  pub steps : Steps n kids order
  pub fits : W * 64 ≤ length sums
  pub room : nodes n kids * W ≤ length sets
  pub works_in : nodes n kids ≤ length works
  -- the total is exact
  pub total : sum_of (λ v. 2 ^ get_or works v 0) order < 9007199254740992
  pub small : Small 1152921504606846976 sums

pub sum_le : (f g : ℕ → ℕ) (l : List ℕ) → ((v : ℕ) → f v ≤ g v) → sum_of f l ≤ sum_of g l
sum_le f g [] h = omega arith
sum_le f g (x ∷ l) h = omega (arith, h x, sum_le f g l h)

sum_take : (f : ℕ → ℕ) (k : ℕ) (l : List ℕ) → sum_of f (take k l) ≤ sum_of f l
sum_take f k l = omega (arith, ap (sum_of f) (take-append-drop k l), sum_append f (take k l) (drop k l))

module _ {W n : ℕ} {kids order sets works sums : List ℕ} (c : StepsKnown W n kids order sets works sums) where
  abbrev f : ℕ → ℕ → ℕ
  f = step_share W (left_of kids n) (right_of kids n) sets works

  pub step_works : (k v b : ℕ) → k < length order → v ≡ get_or order k 0 → b ≡ get_or works v 0 → b < 53
  step_works k v b h e g =
      lt_of_not-le (λ q.
      let m : memb (get_or order k 0) order ≡ true = memb_at order k h in
      let z : 2 ^ get_or works (get_or order k 0) 0 ≤ sum_of (λ v. 2 ^ get_or works v 0) order =
      sum_in (λ v. 2 ^ get_or works v 0) (get_or order k 0) order (memb_in _ order m) in
      let y : b ≡ get_or works (get_or order k 0) 0 = g ∙ ap (λ (x : ℕ). get_or works x 0) e in
      let p : 2 ^ 53 ≤ 2 ^ b = pow_mono q in
      omega (arith, c.total, z, p, ap (λ (x : ℕ). 2 ^ x) y))

  pub steps_small : (k : ℕ) (now : List ℕ) → Summed f sums (take k order) now → Small 2305843009213693952 now
  steps_small k now s j =
      omega (
        arith,
        c.small j,
        c.total,
        s.at j,
        sum_le (f j) (λ v. 2 ^ get_or works v 0) (take k order) (λ v. share_most (2 ^ get_or works v 0) j (either sets W (left_of kids n v) (right_of kids n v)) 0 (W * 64)),
        sum_take (λ v. 2 ^ get_or works v 0) k order,
      )

  pub steps_next : (k v l r b : ℕ) (a : ℕ) (now next : List ℕ) → k < length order → v ≡ get_or order k 0 → l ≡ left_of kids n v → r ≡ right_of kids n v
      → b ≡ get_or works v 0 → a ≡ 2 ^ b → Summed f sums (take k order) now → Added a now (keep (either sets W l r) (range (W * 64))) next
      → Summed f sums (take (k + 1) order) next
  steps_next k v l r b a now next h ev el er eb ea s d =
      let z : take (k + 1) order ≡ take k order ++ v ∷ [] =
      ap (λ (i : ℕ). take i order) (add-one k) ∙ take-suc order k 0 h ∙ ap (λ (x : ℕ). take k order ++ x ∷ []) (sym ev) in
      rw z (summed_next v s d (λ j. rw (el, er, ea, eb)))

  pub steps_end : (k : ℕ) (now : List ℕ) → k ≡ length order → Summed f sums (take k order) now → Summed f sums order now
  steps_end k now e s = rw (ap (λ (i : ℕ). take i order) e ∙ take-length order) at s

-- ---- tables ----

-- the size, if it is above the target
abbrev pub size_above : ℕ → ℕ → ℕ
size_above target size = cond (ltb target size) size 0

-- what the table of node v adds at index j
abbrev pub table_share : (W target : ℕ) (sets sizes : List ℕ) → ℕ → ℕ → ℕ
table_share W target sets sizes j v = share (size_above target (get_or sizes v 0)) j (keep (either sets W v v) (range (W * 64)))

pub record TablesKnown (W m : ℕ) (sets sizes sums : List ℕ) : Type 0 where
  pub few : m ≤ 131072
  pub fits : W * 64 ≤ length sums
  pub room : m * W ≤ length sets
  pub sizes_in : m ≤ length sizes
  pub small : Small 1152921504606846976 sums

above_most : (b : Bool) (x : ℕ) → x < 65536 → cond b x 0 ≤ 65536
above_most true x h = omega arith
above_most false x h = omega arith

range_next : (k : ℕ) → range (k + 1) ≡ range k ++ k ∷ []
range_next k = ap range (add-one k) ∙ more 0 k ∙ ap (λ (x : ℕ). range k ++ x ∷ []) (omega arith)
  where
    more : (b k : ℕ) → from b (suc k) ≡ from b k ++ (b + k) ∷ []
    more b zero = ap (λ (x : ℕ). x ∷ []) (omega arith)
    more b (suc k) = ap (λ (l : List ℕ). b ∷ l) (more (suc b) k ∙ ap (λ (x : ℕ). from (suc b) k ++ x ∷ []) (omega arith))

module _ {W m : ℕ} {sets sizes sums : List ℕ} (target : ℕ) (c : TablesKnown W m sets sizes sums) where
  abbrev g : ℕ → ℕ → ℕ
  g = table_share W target sets sizes

  pub tables_small : (k : ℕ) (now : List ℕ) → ((v : ℕ) → get_or sizes v 0 < 65536) → k ≤ m → Summed g sums (range k) now → Small 2305843009213693952 now
  tables_small k now u h s j =
      omega (
        arith,
        c.small j,
        c.few,
        s.at j,
        sum_bound (g j) 65536 (range k) (λ v. at_most v),
        range_length 0 k,
      )
    where
      at_most : (v : ℕ) → g j v ≤ 65536
      at_most v =
          omega (
            arith,
            share_most (size_above target (get_or sizes v 0)) j (either sets W v v) 0 (W * 64),
            above_most (ltb target (get_or sizes v 0)) (get_or sizes v 0) (u v),
          )

  pub tables_next : (v size : ℕ) (now next : List ℕ) → size ≡ get_or sizes v 0 → Summed g sums (range v) now
      → Added (size_above target size) now (keep (either sets W v v) (range (W * 64))) next → Summed g sums (range (v + 1)) next
  tables_next v size now next e s d = rw (range_next v) (summed_next v s d (λ j. rw e))

-- a table that is not above the target adds nothing
pub added_nothing : (a : ℕ) (old l : List ℕ) → a ≡ 0 → Added a old l old
added_nothing a old l e = rw e (record { same = refl; at = λ j. omega (arith, share_nothing j l) })
