-- Members in common counted no further than two: enough for a gain. Assumes nothing.
use Rattle.std.specs.Prelude.{◌≡◌, refl, List, ℕ, zero, suc, ◌+◌, ◌-◌, ◌*◌, ◌^◌, ◌≤◌, ◌<◌, eqb, length, get_or}
use Rattle.std.proofs.Common.{sym, ap, ◌∙◌, arith, ne_eqb}
use Rattle.std.specs.Int.Bits.{bit_and}
use Rattle.std.specs.Int.Count.{ones}
use Rattle.bits.specs.Lowest.{drop_less, places_step, places_ones}
use Rattle.bits.specs.Splits.{ones-zero}
use Rattle.partition.specs.Common.{common_of, common_next, common_end}
use Rattle.partition.specs.declared.Pair.{Pair}

-- 2 stands for two or more
abbrev pub capped : ℕ → ℕ
capped zero = 0
capped (suc zero) = 1
capped (suc (suc n)) = 2

-- r and n are both 0 or neither, and both 1 or neither
abbrev pub Few : ℕ → ℕ → Type 0
Few r n = (eqb r 1 ≡ eqb n 1) × (eqb r 0 ≡ eqb n 0)

many : (r n k : ℕ) → k < 2 → 2 ≤ r → 2 ≤ n → eqb r k ≡ eqb n k
many r n k b p q = ne_eqb r k (λ e. omega arith) ∙ sym (ne_eqb n k (λ e. omega arith))

few_sum : (p q : ℕ) → Few (capped p + capped q) (p + q)
few_sum zero zero = (refl, refl)
few_sum zero (suc zero) = (refl, refl)
few_sum zero (suc (suc q)) = (many (0 + 2) (zero + suc (suc q)) 1 (omega arith) (omega arith) (omega arith), many (0 + 2) (zero + suc (suc q)) 0 (omega arith) (omega arith) (omega arith))
few_sum (suc zero) zero = (refl, refl)
few_sum (suc zero) (suc zero) = (refl, refl)
few_sum (suc zero) (suc (suc q)) = (many (1 + 2) (suc zero + suc (suc q)) 1 (omega arith) (omega arith) (omega arith), many (1 + 2) (suc zero + suc (suc q)) 0 (omega arith) (omega arith) (omega arith))
few_sum (suc (suc p)) q = (many (2 + capped q) (suc (suc p) + q) 1 (omega arith) (omega arith) (omega arith), many (2 + capped q) (suc (suc p) + q) 0 (omega arith) (omega arith) (omega arith))

-- ---- the ones of a word ----

ones_step : (x : ℕ) → 0 < x → x < 2 ^ 64 → ones x ≡ suc (ones (bit_and x (x - 1)))
ones_step x p b =
    sym (places_ones 0 64 x b) ∙ ap length (places_step 0 64 x p b) ∙ ap suc (places_ones 0 64 (bit_and x (x - 1)) (omega (arith, drop_less x p)))

pub none_set : (x : ℕ) → x ≡ 0 → 0 ≡ capped (ones x)
none_set x e = sym (ap (λ (z : ℕ). capped (ones z)) e ∙ ap capped ones-zero)

pub one_set : (x : ℕ) → (x ≡ 0 → ⊥) → x < 2 ^ 64 → bit_and x (x - 1) ≡ 0 → 1 ≡ capped (ones x)
one_set x f b e = sym (ap capped (ones_step x (omega (arith, f)) b ∙ ap (λ (z : ℕ). suc (ones z)) e ∙ ap suc ones-zero))

pub two_set : (x : ℕ) → (x ≡ 0 → ⊥) → x < 2 ^ 64 → (bit_and x (x - 1) ≡ 0 → ⊥) → 2 ≡ capped (ones x)
two_set x f b g =
    let y : bit_and x (x - 1) < 2 ^ 64 = omega (arith, drop_less x (omega (arith, f))) in
    sym (ap capped (ones_step x (omega (arith, f)) b ∙ ap suc (ones_step (bit_and x (x - 1)) (omega (arith, g)) y)))

-- ---- two slots of two words ----

-- a pair has the words of its slot
abbrev pub AreRead : List ℕ → Pair → Type 0
AreRead ws p = (p.low ≡ get_or ws (p.slot * 2) 0) × (p.high ≡ get_or ws (p.slot * 2 + 1) 0)

plus_zero : (x y : ℕ) → x + y ≡ 0 + x + y
plus_zero x y = omega arith

pub few_common : (ws : List ℕ) (a b x₀ y₀ x₁ y₁ r₀ r₁ : ℕ) → x₀ ≡ get_or ws (a * 2) 0 → y₀ ≡ get_or ws (b * 2) 0 → x₁ ≡ get_or ws (a * 2 + 1) 0 → y₁ ≡ get_or ws (b * 2 + 1) 0
    → bit_and x₀ y₀ < 2 ^ 64 → bit_and x₁ y₁ < 2 ^ 64 → r₀ ≡ capped (ones (bit_and x₀ y₀)) → r₁ ≡ capped (ones (bit_and x₁ y₁)) → Few (r₀ + r₁) (length (common_of ws 2 a b))
few_common ws a b x₀ y₀ x₁ y₁ r₀ r₁ e f g h lo hi p q =
    let za : a * 2 ≡ a * 2 + 0 = omega arith in
    let zb : b * 2 ≡ b * 2 + 0 = omega arith in
    let n₀ = common_next ws 2 a b 0 0 x₀ y₀ (ones (bit_and x₀ y₀)) refl (e ∙ ap (λ (k : ℕ). get_or ws k 0) za) (f ∙ ap (λ (k : ℕ). get_or ws k 0) zb) lo refl in
    let n₁ = common_next ws 2 a b 1 (0 + ones (bit_and x₀ y₀)) x₁ y₁ (ones (bit_and x₁ y₁)) n₀ g h hi refl in
    let n₂ = common_end ws 2 a b 2 (0 + ones (bit_and x₀ y₀) + ones (bit_and x₁ y₁)) refl n₁ in
    let z : ones (bit_and x₀ y₀) + ones (bit_and x₁ y₁) ≡ length (common_of ws 2 a b) = plus_zero (ones (bit_and x₀ y₀)) (ones (bit_and x₁ y₁)) ∙ n₂ in
    let s = few_sum (ones (bit_and x₀ y₀)) (ones (bit_and x₁ y₁)) in (
      (λ i. eqb (p i + q i) 1) ∙ s.0 ∙ ap (λ (k : ℕ). eqb k 1) z,
      (λ i. eqb (p i + q i) 0) ∙ s.1 ∙ ap (λ (k : ℕ). eqb k 0) z,
    )
