-- The imbalance in thousandths: the quotient of two whole numbers in f64 is the f64 nearest to the fraction. Assumes nothing.
use Rattle.std.specs.Prelude.{Bool, true, false, cond, ◌≡◌, refl, ℕ, ◌*◌, ◌≤◌, pos, Float}
use Rattle.std.proofs.Common.{true≢false, sym, ◌∙◌, ap, mul-one, mul_assoc, mul_right_comm, mul-pos, zero-lt-suc, arith}
use Rattle.std.specs.Float.{nan, inf, fin, binary64}
use Rattle.std.specs.Float.Ieee.{up, down, round, div, lt, of_int}
use Rattle.std.specs.Float.Ieee.Fits.{down_pos}
use Rattle.std.specs.Float.Ieee.Exact.{HasValue}
use Rattle.std.specs.Float.Ieee.Scale.{round_same}
use Rattle.std.specs.Float.Ieee.Back.{round_whole}
use Rattle.spec.specs.Floats.{decimal, whole_float, greater, lesser}
use Rattle.spec.specs.Bisection.{imbalance}

-- 1000 = 125 × 2^3
over_thousand : (x : Float) (i : ℕ) → HasValue x false i 1 → div binary64 x (fin false 125 (pos 3)) ≡ decimal i 1000
unfolding div
over_thousand nan i p = elim p [ ]
over_thousand (inf _) i p = elim p [ ]
over_thousand (fin true m e) i (s, p) = absurd (true≢false s)
over_thousand (fin false m e) i (s, p) =
    let q : m * up e ≡ i * down e = sym (mul-one (m * up e)) ∙ p in
    round_same binary64 false (m * up e * 1) (125 * 8 * down e) i 1000 (mul-pos (zero-lt-suc 999) (down_pos e)) (zero-lt-suc 999)
    (ap (λ (z : ℕ). z * 1000) (mul-one (m * up e) ∙ q) ∙ mul_right_comm i (down e) 1000 ∙ mul_assoc i 1000 (down e))

pub thousandths : (i : ℕ) → i ≤ 1000 → div binary64 (whole_float i) (fin false 125 (pos 3)) ≡ decimal i 1000
unfolding of_int
thousandths i h = over_thousand (round binary64 false i 1) i (round_whole binary64 false i (omega arith))

least_below : lesser (decimal 1 1000) (decimal 9 10) ≡ decimal 1 1000
unfolding lt round
least_below = refl

module _ (i : ℕ) (x : Float) (e : x ≡ decimal i 1000) where
  raised : (b : Bool) → lt x (decimal 1 1000) ≡ b → greater (decimal i 1000) (decimal 1 1000) ≡ cond b (decimal 1 1000) (decimal i 1000)
  raised b h = ap (λ (t : Bool). cond t (decimal 1 1000) (decimal i 1000)) (ap (λ (y : Float). lt y (decimal 1 1000)) (sym e) ∙ h)

  pub at_least : lt x (decimal 1 1000) ≡ true → decimal 1 1000 ≡ imbalance i
  at_least h = sym (ap (λ (y : Float). lesser y (decimal 9 10)) (raised true h) ∙ least_below)

  lowered : lt x (decimal 1 1000) ≡ false → (b : Bool) → lt (decimal 9 10) x ≡ b → imbalance i ≡ cond b (decimal 9 10) (decimal i 1000)
  lowered h b k =
      ap (λ (y : Float). lesser y (decimal 9 10)) (raised false h)
      ∙ ap (λ (t : Bool). cond t (decimal 9 10) (decimal i 1000)) (ap (λ (y : Float). lt (decimal 9 10) y) (sym e) ∙ k)

  pub at_most : lt x (decimal 1 1000) ≡ false → lt (decimal 9 10) x ≡ true → decimal 9 10 ≡ imbalance i
  at_most h k = sym (lowered h true k)

  pub between : lt x (decimal 1 1000) ≡ false → lt (decimal 9 10) x ≡ false → x ≡ imbalance i
  between h k = e ∙ sym (lowered h false k)
