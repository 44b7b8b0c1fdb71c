-- Summed weights of indices that pass a test: word by word, of a union and of a part, and of a list of indices. Assumes nothing.
use Rattle.std.specs.Prelude.{Bool, true, false, not, ◌&&◌, ◌||◌, cond, ◌≡◌, refl, List, [], ◌∷◌, ℕ, zero, suc, ◌+◌, ◌*◌, ◌≤◌, ◌<◌, eqb, ltb}
use Rattle.std.proofs.Common.{sym, ◌∙◌, ltb-true, ltb-false}
use Rattle.std.proofs.Math.Path.{ap}
use native.Mathlib.Omega.{arith}
use Rattle.spec.specs.Lists.{memb, count, keep, from, range, sum_of}
use Rattle.laws.specs.Booleans.{by_cases, clash, and_right}
use Rattle.laws.specs.ListLaws.{sum_append, memb-keep, memb-keep-range, keep_passes, from_memb, count_memb, count_not_memb}
use Rattle.laws.specs.Counts.{count_in, count_out, sum_same}
use Rattle.bits.specs.Lowest.{Tests, places}
use Rattle.slots.specs.Rising.{word_more}
use Rattle.slots.specs.Weigh.{open_weight, weighed, word_weight}

module _ (wt fl : List ℕ) where
  -- one word more
  pub weighed_more : (p : ℕ → Bool) (k x sum r : ℕ) → Tests p (k * 64) 64 x → sum ≡ weighed wt fl p (k * 64) → r ≡ word_weight wt fl (k * 64) x
      → sum + r ≡ weighed wt fl p ((k + 1) * 64)
  unfolding weighed
  weighed_more p k x sum r h e f =
      omega (
        arith,
        e,
        f,
        ap (sum_of (open_weight wt fl)) (word_more 64 p k x h),
        sum_append (open_weight wt fl) (keep p (range (k * 64))) (places (k * 64) 64 x),
      )

-- ---- unions and parts ----

module _ (f : ℕ → ℕ) where
  pub sum_cond : (b : Bool) (x : ℕ) (l : List ℕ) → sum_of f (cond b (x ∷ l) l) ≡ cond b (f x) 0 + sum_of f l
  sum_cond true x l = refl
  sum_cond false x l = omega arith

  either_and : (b c : Bool) (x : ℕ) → cond b x 0 + cond c x 0 ≡ cond (b || c) x 0 + cond (b && c) x 0
  either_and true true x = refl
  either_and true false x = refl
  either_and false true x = omega arith
  either_and false false x = refl

  sum_either : (p q : ℕ → Bool) (l : List ℕ)
      → sum_of f (keep p l) + sum_of f (keep q l) ≡ sum_of f (keep (λ j. p j || q j) l) + sum_of f (keep (λ j. p j && q j) l)
  sum_either p q [] = refl
  sum_either p q (x ∷ l) =
      omega (
        arith,
        sum_cond (p x) x (keep p l),
        sum_cond (q x) x (keep q l),
        sum_cond (p x || q x) x (keep (λ j. p j || q j) l),
        sum_cond (p x && q x) x (keep (λ j. p j && q j) l),
        either_and (p x) (q x) (f x),
        sum_either p q l,
      )

  part_rest : (b c : Bool) (x : ℕ) → (c ≡ true → b ≡ true) → cond b x 0 ≡ cond c x 0 + cond (b && not c) x 0
  part_rest true true x h = omega arith
  part_rest true false x h = omega arith
  part_rest false true x h = clash (h refl) refl
  part_rest false false x h = refl

  sum_part : (p q : ℕ → Bool) (k n : ℕ) → ((j : ℕ) → j < k + n → q j ≡ true → p j ≡ true)
      → sum_of f (keep p (from k n)) ≡ sum_of f (keep q (from k n)) + sum_of f (keep (λ j. p j && not (q j)) (from k n))
  sum_part p q k zero h = refl
  sum_part p q k (suc n) h =
      omega (
        arith,
        sum_cond (p k) k (keep p (from (suc k) n)),
        sum_cond (q k) k (keep q (from (suc k) n)),
        sum_cond (p k && not (q k)) k (keep (λ j. p j && not (q j)) (from (suc k) n)),
        part_rest (p k) (q k) (f k) (h k (omega arith)),
        sum_part p q (suc k) n (λ j b. h j (omega arith)),
      )

module _ (wt fl : List ℕ) (p q : ℕ → Bool) (n : ℕ) where
  -- the weights of two sets are those of their union and of what they have in common
  pub weighed_either : weighed wt fl p n + weighed wt fl q n ≡ weighed wt fl (λ j. p j || q j) n + weighed wt fl (λ j. p j && q j) n
  unfolding weighed
  weighed_either = sum_either (open_weight wt fl) p q (range n)

  -- the weights of a set are those of a part of it and of the rest
  pub weighed_part : ((j : ℕ) → j < n → q j ≡ true → p j ≡ true) → weighed wt fl p n ≡ weighed wt fl q n + weighed wt fl (λ j. p j && not (q j)) n
  unfolding weighed
  weighed_part h = sum_part (open_weight wt fl) p q 0 n (λ j b. h j (omega arith))

-- ---- a list that has no index twice ----

count-cond : (j : ℕ) (b : Bool) (x : ℕ) (l : List ℕ) → count j (cond b (x ∷ l) l) ≤ count j (x ∷ l)
count-cond j true x l = omega arith
count-cond j false x l = by_cases (eqb j x) (λ e. rw e (omega arith)) (λ e. rw e (omega arith))

count_suc : (j x : ℕ) (k l : List ℕ) → count j k ≤ count j l → count j (x ∷ k) ≤ count j (x ∷ l)
count_suc j x k l h = by_cases (eqb j x) (λ e. rw e (omega arith)) (λ e. rw e h)

pub count-keep : (j : ℕ) (p : ℕ → Bool) (l : List ℕ) → count j (keep p l) ≤ count j l
count-keep j p [] = omega arith
count-keep j p (x ∷ l) =
    omega (arith, count-cond j (p x) x (keep p l), count_suc j x (keep p l) l (count-keep j p l))

pub count_kept : (j : ℕ) (p : ℕ → Bool) (n : ℕ) → count j (keep p (range n)) ≤ 1
count_kept j p n =
    by_cases (ltb j n)
    (λ e. omega (arith, count-keep j p (range n), count_in j 0 n (omega arith) (omega (arith, ltb-true j n e))))
    (λ e. let b : n ≤ j = ltb-false j n e in omega (arith, count-keep j p (range n), count_out j 0 n (λ x y. omega arith)))

-- where a test tells the members of such a list, the list and the set weigh the same
pub weighed_list : (wt fl : List ℕ) (p : ℕ → Bool) (n : ℕ) (l : List ℕ) → ((j : ℕ) → count j l ≤ 1) → ((j : ℕ) → memb j l ≡ true → j < n)
    → ((j : ℕ) → j < n → p j ≡ memb j l) → weighed wt fl p n ≡ sum_of (open_weight wt fl) l
unfolding weighed
weighed_list wt fl p n l once low tells =
    sum_same n (open_weight wt fl) (keep p (range n)) l
    (λ v m. omega (arith, from_memb v 0 n (in_range v m)))
    low counts
  where
    in_range : (v : ℕ) → memb v (keep p (range n)) ≡ true → memb v (range n) ≡ true
    in_range v m = and_right (p v) (memb v (range n)) (sym (memb-keep v p (range n)) ∙ m)

    counts : (v : ℕ) → count v (keep p (range n)) ≡ count v l
    counts v =
        by_cases (memb v l)
        (λ e. let m : memb v (keep p (range n)) ≡ true = memb-keep-range v n p (low v e) ∙ tells v (low v e) ∙ e in
        omega (arith, count_memb v l e, once v, count_memb v (keep p (range n)) m, count_kept v p n))
        (λ e. count_not_memb v (keep p (range n))
        (by_cases (memb v (keep p (range n)))
        (λ m. clash (sym (tells v (omega (arith, from_memb v 0 n (in_range v m)))) ∙ keep_passes v p (range n) m) e)
        (λ m. m))
        ∙ sym (count_not_memb v l e))
