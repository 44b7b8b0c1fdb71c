-- What the words and the sizes in bits say of live tables; then a pair's code, width and key are what greedy's definition says. Assumes
-- nothing.
use Rattle.std.specs.Prelude.{Bool, true, false, ◌||◌, ◌≡◌, refl, List, ltb, get_or}
use Rattle.std.proofs.Common.{sym, ◌∙◌, arith, lt-ltb, ltb-false}
use Rattle.std.proofs.Math.Path.{ap, ap₂}
use Prim.Native.Nat.{ℕ, ◌+◌, ◌^◌, ◌≤◌, ◌<◌}
use Rattle.spec.specs.Lists.{memb}
use Rattle.spec.specs.Network.{Network}
use Rattle.spec.specs.Tree.{Tree}
use Rattle.spec.specs.Greedy.{key_of, too_wide, size_of, merged_size, share}
use Rattle.laws.specs.Booleans.{by_cases, or_none, or_turn}
use Rattle.laws.specs.GreedySlots.{entry, pair_at}
use Rattle.live.specs.Common.{shares}
use Rattle.live.specs.Merged.{pair_bits}
use Rattle.scores.specs.Scores.{power, key_at, over_forty}

-- of the slots in a list, in which the trees are
pub record Says (N : Network) (n₀ : ℕ) (tree : ℕ → Tree) (L : List ℕ) (ws : List ℕ) (W : ℕ) (wt sizes : List ℕ) : Type 0 where
  pub small : (u : ℕ) → memb u L ≡ true → u < 256
  pub size : (u : ℕ) → memb u L ≡ true → get_or sizes u 0 ≡ size_of N (tree u)
  pub shared : (u v : ℕ) → memb u L ≡ true → memb v L ≡ true → shares ws W u v ≡ share N (tree u) (tree v)
  pub merged : (u v : ℕ) → memb u L ≡ true → memb v L ≡ true → u < v → pair_bits ws W wt u v ≡ merged_size N (pair_at n₀ tree u v)

or_flip : (a b c : Bool) → (b || (a || c)) ≡ (c || (a || b))
or_flip true true true = refl
or_flip true true false = refl
or_flip true false true = refl
or_flip true false false = refl
or_flip false true true = refl
or_flip false true false = refl
or_flip false false true = refl
or_flip false false false = refl

power_is : (b : ℕ) → b ≤ 40 → power b ≡ 2 ^ b
unfolding power
power_is b h = rw (lt-ltb b 41 (omega arith))

module _ (N : Network) (n₀ : ℕ) (tree : ℕ → Tree) (sizes : List ℕ) (x y : ℕ)
    (sx : get_or sizes x 0 ≡ size_of N (tree x)) (sy : get_or sizes y 0 ≡ size_of N (tree y))
    (m : ℕ) (em : m ≡ merged_size N (pair_at n₀ tree x y))
  where
    pub width_is : (ltb 40 m || over_forty sizes x y) ≡ too_wide N (pair_at n₀ tree x y)
    width_is =
        rw (em, sx, sy)
        (by_cases (ltb y n₀)
        (λ e. rw e (sym (or_turn (ltb 40 (size_of N (tree x))) (ltb 40 (size_of N (tree y))) _)))
        (λ e. rw e (sym (or_flip (ltb 40 (size_of N (tree x))) (ltb 40 (size_of N (tree y))) _))))

    -- a pair that is not too wide has its key
    pub key_is : too_wide N (pair_at n₀ tree x y) ≡ false → key_at sizes n₀ x y m ≡ key_of N (pair_at n₀ tree x y)
    unfolding key_at
    key_is w =
        let (a, b) = or_none (ltb 40 m) (over_forty sizes x y) (width_is ∙ w) in
        let (c, d) = or_none (ltb 40 (get_or sizes x 0)) (ltb 40 (get_or sizes y 0)) b in
        let pm : power m ≡ 2 ^ merged_size N (pair_at n₀ tree x y) = power_is m (ltb-false 40 m a) ∙ ap (λ (k : ℕ). 2 ^ k) em in
        let px : power (get_or sizes x 0) ≡ 2 ^ size_of N (tree x) = power_is (get_or sizes x 0) (ltb-false 40 (get_or sizes x 0) c) ∙ ap (λ (k : ℕ). 2 ^ k) sx in
        let py : power (get_or sizes y 0) ≡ 2 ^ size_of N (tree y) = power_is (get_or sizes y 0) (ltb-false 40 (get_or sizes y 0) d) ∙ ap (λ (k : ℕ). 2 ^ k) sy in
        by_cases (ltb y n₀)
        (λ e.
        let q : power (get_or sizes x 0) + power (get_or sizes y 0) ≡ 2 ^ size_of N (tree x) + 2 ^ size_of N (tree y) = ap₂ ◌+◌ px py in
        let z : power m ≡ 2 ^ merged_size N (record { first = entry tree x; second = entry tree y }) = rw e at pm in
        rw e (λ i. record { makes = z i; takes = q i; first = x; second = y }))
        (λ e.
        let q : power (get_or sizes x 0) + power (get_or sizes y 0) ≡ 2 ^ size_of N (tree y) + 2 ^ size_of N (tree x) = omega (arith, px, py) in
        let z : power m ≡ 2 ^ merged_size N (record { first = entry tree y; second = entry tree x }) = rw e at pm in
        rw e (λ i. record { makes = z i; takes = q i; first = y; second = x }))
