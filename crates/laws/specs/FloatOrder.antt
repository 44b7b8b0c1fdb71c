-- The order of floats that are numbers, by `lt` and `eq`. Assumes nothing.
use Rattle.std.specs.Prelude.{◌≡◌, refl, Bool, true, false, ℕ, zero, suc, ◌+◌, ◌*◌, ◌≤◌, ◌<◌, eqb, Float}
use Rattle.std.proofs.Common.{arith, mul_right_comm, mul-le-mul_right, le_of_mul-le-mul_right, zero-mul, mul-pos, zero-lt-suc, eqb-true, eq-eqb, le-ltb, ltb-true, ltb-false}
use Rattle.std.specs.Float.{nan, inf, fin}
use Rattle.std.specs.Float.Ieee.{lt, eq, below, level, up, down}
use Rattle.std.specs.Float.Ieee.Fits.{down_pos}
use Rattle.laws.specs.Booleans.{clash, and_left, and_right}
use Rattle.laws.specs.Lexicographic.{Order}

abbrev pub Number : Type 0
Number = (x : Float) × (eq x x ≡ true)

-- ---- fractions with a sign ----

below_asym : (s : Bool) (a : ℕ) (t : Bool) (b : ℕ) → below s a t b ≡ true → below t b s a ≡ false
below_asym false a false b e = le-ltb b a (omega (arith, ltb-true a b e))
below_asym false a true b e = clash e refl
below_asym true a false b e = refl
below_asym true a true b e = le-ltb a b (omega (arith, ltb-true b a e))

below_ties : (s : Bool) (a : ℕ) (t : Bool) (b : ℕ) → below s a t b ≡ false → below t b s a ≡ false → level s a t b ≡ true
below_ties false a false b e f = rw (eq-eqb a b (omega (arith, ltb-false a b e, ltb-false b a f)))
below_ties false a true b e f =
    rw (eq-eqb a b (omega (arith, ltb-false 0 (b + a) f)), eq-eqb a 0 (omega (arith, ltb-false 0 (b + a) f)))
below_ties true a false b e f =
    rw (eq-eqb a b (omega (arith, ltb-false 0 (a + b) e)), eq-eqb a 0 (omega (arith, ltb-false 0 (a + b) e)))
below_ties true a true b e f = rw (eq-eqb a b (omega (arith, ltb-false b a e, ltb-false a b f)))

level_tied : (s : Bool) (a : ℕ) (t : Bool) (b : ℕ) → level s a t b ≡ true → (below s a t b ≡ false) × (below t b s a ≡ false)
level_tied false a false b e = let q : a ≡ b = eqb-true a b (and_left _ _ e) in (le-ltb a b (omega arith), le-ltb b a (omega arith))
level_tied false a true b e =
    let q : a ≡ b = eqb-true a b (and_left _ _ e) in
    let z : a ≡ 0 = eqb-true a 0 (and_right (eqb a b) _ e) in
    (refl, le-ltb 0 (b + a) (omega arith))
level_tied true a false b e =
    let q : a ≡ b = eqb-true a b (and_left _ _ e) in
    let z : a ≡ 0 = eqb-true a 0 (and_right (eqb a b) _ e) in
    (le-ltb 0 (a + b) (omega arith), refl)
level_tied true a true b e = let q : a ≡ b = eqb-true a b (and_left _ _ e) in (le-ltb b a (omega arith), le-ltb a b (omega arith))

-- a / c, b / d and x / y by cross products
cross : (a c b d x y : ℕ) → 0 < d → b * c ≤ a * d → x * d ≤ b * y → x * c ≤ a * y
cross a c b d x y h p q =
    le_of_mul-le-mul_right (omega (arith, mul-le-mul_right c q, mul-le-mul_right y p, mul_right_comm x c d, mul_right_comm b c y, mul_right_comm a d y)) h

none_of : (a d : ℕ) → 0 < d → a * d ≤ 0 → (k : ℕ) → a * k ≡ 0
none_of zero d h p k = zero-mul k
none_of (suc a) d h p k = absurd (omega (arith, mul-pos (zero-lt-suc a) h))

below_trans : (s : Bool) (a c : ℕ) (t : Bool) (b d : ℕ) (u : Bool) (x y : ℕ) → 0 < c → 0 < d → 0 < y
    → below s (a * d) t (b * c) ≡ false → below t (b * y) u (x * d) ≡ false → below s (a * y) u (x * c) ≡ false
below_trans false a c false b d false x y hc hd hy e f =
    le-ltb (a * y) (x * c) (cross a c b d x y hd (ltb-false (a * d) (b * c) e) (ltb-false (b * y) (x * d) f))
below_trans false a c false b d true x y hc hd hy e f = refl
below_trans false a c true b d false x y hc hd hy e f =
    le-ltb (a * y) (x * c) (omega (arith, none_of x d hd (omega (arith, ltb-false 0 (b * y + x * d) f)) c))
below_trans false a c true b d true x y hc hd hy e f = refl
below_trans true a c false b d false x y hc hd hy e f =
    let z : a * y ≡ 0 = none_of a d hd (omega (arith, ltb-false 0 (a * d + b * c) e)) y in
    let w : b * y ≡ 0 = none_of b c hc (omega (arith, ltb-false 0 (a * d + b * c) e)) y in
    le-ltb 0 (a * y + x * c) (omega (arith, none_of x d hd (omega (arith, ltb-false (b * y) (x * d) f)) c))
below_trans true a c false b d true x y hc hd hy e f =
    le-ltb (x * c) (a * y) (omega (arith, none_of a d hd (omega (arith, ltb-false 0 (a * d + b * c) e)) y))
below_trans true a c true b d false x y hc hd hy e f =
    let z : b * c ≡ 0 = none_of b y hy (omega (arith, ltb-false 0 (b * y + x * d) f)) c in
    let w : x * c ≡ 0 = none_of x d hd (omega (arith, ltb-false 0 (b * y + x * d) f)) c in
    le-ltb 0 (a * y + x * c) (omega (arith, none_of a d hd (omega (arith, ltb-false (b * c) (a * d) e)) y))
below_trans true a c true b d true x y hc hd hy e f =
    le-ltb (x * c) (a * y) (cross x y b d a c hd (ltb-false (x * d) (b * y) f) (ltb-false (b * c) (a * d) e))

-- ---- floats ----

lt_asym : (x y : Float) → lt x y ≡ true → lt y x ≡ false
unfolding lt
lt_asym nan y e = clash e refl
lt_asym (inf s) nan e = refl
lt_asym (inf false) (inf t) e = clash e refl
lt_asym (inf true) (inf false) e = refl
lt_asym (inf true) (inf true) e = clash e refl
lt_asym (inf false) (fin t n d) e = clash e refl
lt_asym (inf true) (fin t n d) e = refl
lt_asym (fin s m g) nan e = refl
lt_asym (fin s m g) (inf false) e = refl
lt_asym (fin s m g) (inf true) e = clash e refl
lt_asym (fin s m g) (fin t n d) e = below_asym s (m * up g * down d) t (n * up d * down g) e

lt_ties : (x y : Float) → eq x x ≡ true → eq y y ≡ true → lt x y ≡ false → lt y x ≡ false → eq x y ≡ true
unfolding lt eq
lt_ties nan y p q e f = clash p refl
lt_ties (inf s) nan p q e f = clash q refl
lt_ties (inf false) (inf false) p q e f = refl
lt_ties (inf false) (inf true) p q e f = clash refl f
lt_ties (inf true) (inf false) p q e f = clash refl e
lt_ties (inf true) (inf true) p q e f = refl
lt_ties (inf false) (fin t n d) p q e f = clash refl f
lt_ties (inf true) (fin t n d) p q e f = clash refl e
lt_ties (fin s m g) nan p q e f = clash q refl
lt_ties (fin s m g) (inf false) p q e f = clash refl e
lt_ties (fin s m g) (inf true) p q e f = clash refl f
lt_ties (fin s m g) (fin t n d) p q e f = below_ties s (m * up g * down d) t (n * up d * down g) e f

eq_tied : (x y : Float) → eq x y ≡ true → (lt x y ≡ false) × (lt y x ≡ false)
unfolding lt eq
eq_tied nan y e = clash e refl
eq_tied (inf s) nan e = clash e refl
eq_tied (inf false) (inf false) e = (refl, refl)
eq_tied (inf false) (inf true) e = clash e refl
eq_tied (inf true) (inf false) e = clash e refl
eq_tied (inf true) (inf true) e = (refl, refl)
eq_tied (inf s) (fin t n d) e = clash e refl
eq_tied (fin s m g) nan e = clash e refl
eq_tied (fin s m g) (inf t) e = clash e refl
eq_tied (fin s m g) (fin t n d) e = level_tied s (m * up g * down d) t (n * up d * down g) e

lt_trans : (x y z : Float) → eq y y ≡ true → lt x y ≡ false → lt y z ≡ false → lt x z ≡ false
unfolding lt eq
lt_trans nan y z q e f = refl
lt_trans (inf false) y nan q e f = refl
lt_trans (inf false) y (inf u) q e f = refl
lt_trans (inf false) y (fin u x h) q e f = refl
lt_trans (inf true) nan z q e f = clash q refl
lt_trans (inf true) (inf false) z q e f = clash refl e
lt_trans (inf true) (inf true) z q e f = f
lt_trans (inf true) (fin t n d) z q e f = clash refl e
lt_trans (fin s m g) nan z q e f = clash q refl
lt_trans (fin s m g) (inf false) z q e f = clash refl e
lt_trans (fin s m g) (inf true) nan q e f = refl
lt_trans (fin s m g) (inf true) (inf u) q e f = f
lt_trans (fin s m g) (inf true) (fin u x h) q e f = clash refl f
lt_trans (fin s m g) (fin t n d) nan q e f = refl
lt_trans (fin s m g) (fin t n d) (inf u) q e f = f
lt_trans (fin s m g) (fin t n d) (fin u x h) q e f =
    below_trans s (m * up g) (down g) t (n * up d) (down d) u (x * up h) (down h) (down_pos g) (down_pos d) (down_pos h) e f

-- the larger number first
pub by_float : Order {A = Number} (λ x y. lt y.0 x.0) (λ x y. eq x.0 y.0)
by_float =
    record {
      asym = λ x y. lt_asym y.0 x.0;
      trans = λ x y z e f. lt_trans z.0 y.0 x.0 y.1 f e;
      ties = λ x y e f. lt_ties x.0 y.0 x.1 y.1 f e;
      tied = λ x y e. let (a, b) = eq_tied x.0 y.0 e in (b, a);
    }
