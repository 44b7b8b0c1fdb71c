-- What the rounding of `near` and `round_away` rests on. Assumes nothing.
use Rattle.std.specs.Prelude.{◌≡◌, ℕ, zero, suc, ◌+◌, ◌*◌, ◌/◌, ◌%◌, ◌^◌, ◌<◌, ◌≤◌, Bool, true, false, ◌&&◌, T, ltb, ℤ, pos, negsuc, ◌==◌, nat_le, nat_lt, refl, Float}
use Rattle.std.proofs.Common.{sym, ap, ◌∙◌, subst, true≢false, mul-one, one-mul, add-mul, mul_assoc, mul_right_comm, mul-pos, le_antisymm, le_of_suc-le-suc, lt_of_lt_of_le, zero-lt-suc, le-div_iff_mul-le, div-lt_iff_lt-mul, div-mul-le_self, zero-mul, arith, lt→ltb, ltb→lt, lit≤, pow-add, pow_pos, pow_mono, shl_lt, ltb-true, ltb-false}
use Rattle.std.proofs.Math.Nat.{pow-succ'}
use Rattle.std.specs.Float.{nan, inf, fin, binary64}
use Rattle.std.specs.Float.Ieee.{up, down, round, sum, add, neg, lt, of_int, to_unsigned, fits}
use Rattle.std.specs.Float.Ieee.Fits.{down_pos, round-fits, and_l, and_r}
use Rattle.std.specs.Float.Ieee.Exact.{HasValue, round_exact}
use Rattle.std.specs.Float.Ieee.Scale.{round_same}
use Rattle.std.specs.Float.Ieee.Back.{round_whole, whole_unique}
use Rattle.laws.specs.WholeFloats.{ltb_scale}
use Rattle.spec.specs.Floats.{round_away}
use Rattle.draws.specs.Signs.{neg-round}

-- ---- the whole part of A / D + 1 / 2, from the whole part n of A / D
part_low : (A D n : ℕ) → 0 < D → n ≡ A / D → A * 2 < (n * 2 + 1) * D → (A * 2 + D) / (D * 2) ≡ n
part_low A D n P e h =
    let P2 : 0 < D * 2 = omega arith in
    let lo : n * D ≤ A = subst (λ (z : ℕ). z * D ≤ A) (sym e) (div-mul-le_self A D) in
    let h' : A * 2 < n * D * 2 + D = subst (λ (z : ℕ). A * 2 < z) (add-mul (n * 2) 1 D ∙ ap (λ (z : ℕ). z + 1 * D) (mul_right_comm n 2 D) ∙ ap (λ (z : ℕ). n * D * 2 + z) (one-mul D)) h in
    let u : suc n * (D * 2) ≡ n * D * 2 + D * 2 = ap (λ (z : ℕ). z * (D * 2)) (let g : suc n ≡ n + 1 = omega arith in g) ∙ add-mul n 1 (D * 2) ∙ ap (λ (z : ℕ). z + 1 * (D * 2)) (sym (mul_assoc n D 2)) ∙ ap (λ (z : ℕ). n * D * 2 + z) (one-mul (D * 2)) in
    let a : n * (D * 2) ≤ A * 2 + D = subst (λ (z : ℕ). z ≤ A * 2 + D) (mul_assoc n D 2) (omega arith) in
    let b : A * 2 + D < suc n * (D * 2) = subst (λ (z : ℕ). A * 2 + D < z) (sym u) (omega arith) in
    le_antisymm (le_of_suc-le-suc ((div-lt_iff_lt-mul P2).1 b)) ((le-div_iff_mul-le P2).1 a)

part_high : (A D n : ℕ) → 0 < D → n ≡ A / D → (n * 2 + 1) * D ≤ A * 2 → (A * 2 + D) / (D * 2) ≡ n + 1
part_high A D n P e h =
    let P2 : 0 < D * 2 = omega arith in
    let hi : A < suc n * D = (div-lt_iff_lt-mul P).0 (subst (λ (z : ℕ). A / D < suc z) (sym e) (let g : A / D < suc (A / D) = omega arith in g)) in
    let v : suc n * D ≡ n * D + D = ap (λ (z : ℕ). z * D) (let g : suc n ≡ n + 1 = omega arith in g) ∙ add-mul n 1 D ∙ ap (λ (z : ℕ). n * D + z) (one-mul D) in
    let h' : n * D * 2 + D ≤ A * 2 = subst (λ (z : ℕ). z ≤ A * 2) (add-mul (n * 2) 1 D ∙ ap (λ (z : ℕ). z + 1 * D) (mul_right_comm n 2 D) ∙ ap (λ (z : ℕ). n * D * 2 + z) (one-mul D)) h in
    let u : (n + 1) * (D * 2) ≡ n * D * 2 + D * 2 = add-mul n 1 (D * 2) ∙ ap (λ (z : ℕ). z + 1 * (D * 2)) (sym (mul_assoc n D 2)) ∙ ap (λ (z : ℕ). n * D * 2 + z) (one-mul (D * 2)) in
    let w : suc (n + 1) * (D * 2) ≡ n * D * 2 + D * 2 + D * 2 = ap (λ (z : ℕ). z * (D * 2)) (let g : suc (n + 1) ≡ n + 1 + 1 = omega arith in g) ∙ add-mul (n + 1) 1 (D * 2) ∙ ap (λ (z : ℕ). z + 1 * (D * 2)) u ∙ ap (λ (z : ℕ). n * D * 2 + D * 2 + z) (one-mul (D * 2)) in
    let a : (n + 1) * (D * 2) ≤ A * 2 + D = subst (λ (z : ℕ). z ≤ A * 2 + D) (sym u) (omega arith) in
    let b : A * 2 + D < suc (n + 1) * (D * 2) = subst (λ (z : ℕ). A * 2 + D < z) (sym w) (omega arith) in
    le_antisymm (le_of_suc-le-suc ((div-lt_iff_lt-mul P2).1 b)) ((le-div_iff_mul-le P2).1 a)

-- ---- n + 1 / 2 is exact
half_exact : (n : ℕ) → n < 2 ^ 52 → HasValue (round binary64 false (n * 2 + 1) 2) false (n * 2 + 1) 2
half_exact n h =
    let q : n * 2 + 1 < 2 ^ 53 = omega arith in
    round_exact binary64 false (n * 2 + 1) 2 (n * 2 + 1) 1073 (zero-lt-suc 1) q
    (lt_of_lt_of_le (shl_lt 53 1073 q) (pow_mono {i = 53 + 1073} {j = 1074 + 1024} (lit≤ tt)))
    (sym (mul_assoc (n * 2 + 1) (2 ^ 1073) 2))

half_sum : (x : Float) (n : ℕ) → HasValue x false n 1 → add binary64 x (fin false 1 (negsuc 0)) ≡ round binary64 false (n * 2 + 1) 2
unfolding add sum
half_sum nan n p = elim p [ ]
half_sum (inf _) n p = elim p [ ]
half_sum (fin true m e) n p = absurd (true≢false p.0)
half_sum (fin false m e) n p =
    let P : m * up e ≡ n * down e = sym (mul-one (m * up e)) ∙ p.1 in
    let r : m * up e * 2 + 1 * 1 * down e ≡ (n * 2 + 1) * down e = ap (λ (z : ℕ). z * 2 + 1 * 1 * down e) P ∙ ap (λ (z : ℕ). z + 1 * 1 * down e) (mul_right_comm n (down e) 2) ∙ sym (add-mul (n * 2) 1 (down e)) in
    ap (λ (z : ℕ). round binary64 false z (down e * 2)) r
    ∙ round_same binary64 false ((n * 2 + 1) * down e) (down e * 2) (n * 2 + 1) 2 (mul-pos (down_pos e) (zero-lt-suc 1)) (zero-lt-suc 1) (mul_assoc (n * 2 + 1) (down e) 2)

-- ---- a comparison with a value
lt_value : (m : ℕ) (e : ℤ) (h : Float) (b c : ℕ) → 0 < c → HasValue h false b c → lt (fin false m e) h ≡ nat_lt (m * up e * c) (b * down e)
unfolding lt
lt_value m e nan b c C p = elim p [ ]
lt_value m e (inf _) b c C p = elim p [ ]
lt_value m e (fin true n d) b c C p = absurd (true≢false p.0)
lt_value m e (fin false n d) b c C p =
    sym (ltb_scale (m * up e * down d) (n * up d * down e) c C)
    ∙ ap (λ (z : ℕ). ltb z (n * up d * down e * c)) (mul_right_comm (m * up e) (down d) c)
    ∙ ap (λ (z : ℕ). ltb (m * up e * c * down d) z) (mul_right_comm (n * up d) (down e) c ∙ ap (λ (z : ℕ). z * down e) p.1 ∙ mul_right_comm b (down d) (down e))
    ∙ ltb_scale (m * up e * c) (b * down e) (down d) (down_pos d)

-- ---- what `near` asks and gives
abbrev pub Asks : Float → Type 0
Asks y = T (lt (fin false 0 (pos 0)) y) × T (lt y (fin false 1 (pos 52)))

-- y is fin false m e, above 0 and below 2 ^ 52
abbrev Small : Float → Type 0
Small y = (m : ℕ) × (e : ℤ) × (y ≡ fin false m e) × (0 < m * up e) × (m * up e < 2 ^ 52 * down e)

small : (y : Float) → Asks y → Small y
unfolding lt
small nan p = absurd p.1
small (inf true) p = absurd p.0
small (inf false) p = absurd p.1
small (fin true m e) p = absurd p.0
small (fin false m e) p = (
  m,
  e,
  refl,
  subst (λ (z : ℕ). 0 < z) (mul-one (m * up e)) (subst (λ (z : ℕ). z < m * up e * 1) (zero-mul (down e)) (ltb→lt (0 * 1 * down e) (m * up e * 1) p.0)),
  subst (λ (z : ℕ). z < 2 ^ 52 * down e) (mul-one (m * up e)) (ltb→lt (m * up e * 1) (1 * 2 ^ 52 * down e) p.1),
)

trunc_at : (m : ℕ) (e : ℤ) → 0 < m * up e → m * up e < 2 ^ 52 * down e → T (lt (fin true 1 (pos 0)) (fin false m e)) × T (lt (fin false m e) (fin false 1 (pos 64)))
unfolding lt
trunc_at m e p q = (
  lt→ltb 0 (1 * 1 * down e + m * up e * 1) (let h : 0 < m * up e * 1 = subst (λ (z : ℕ). 0 < z) (sym (mul-one (m * up e))) p in omega arith),
  lt→ltb (m * up e * 1) (1 * 2 ^ 64 * down e) (let h : m * up e * 1 ≡ m * up e = mul-one (m * up e) in omega arith),
)

pub asks_trunc : (y : Float) → Asks y → T (lt (fin true 1 (pos 0)) y) × T (lt y (fin false 1 (pos 64)))
asks_trunc y p =
    let s = small y p in
    subst (λ (z : Float). T (lt (fin true 1 (pos 0)) z) × T (lt z (fin false 1 (pos 64)))) (sym s.2) (trunc_at s.0 s.1 s.3 s.4)

part_at : (m : ℕ) (e : ℤ) → m * up e < 2 ^ 52 * down e → (to_unsigned 64 (fin false m e) ≡ m * up e / down e) × (m * up e / down e < 2 ^ 52)
unfolding to_unsigned
part_at m e q =
    let h : m * up e / down e < 2 ^ 52 = (div-lt_iff_lt-mul (down_pos e)).1 q in
    (omega arith, h)

pub whole_part : (y : Float) → Asks y → (n : ℕ) → n ≡ to_unsigned 64 y → n < 2 ^ 52
whole_part y p n h =
    let s = small y p in
    let r = part_at s.0 s.1 s.4 in
    subst (λ (z : ℕ). z < 2 ^ 52) (sym (h ∙ ap (to_unsigned 64) s.2 ∙ r.0)) r.1

half_val : (n : ℕ) → n < 2 ^ 52 → HasValue (add binary64 (of_int binary64 (pos n)) (fin false 1 (negsuc 0))) false (n * 2 + 1) 2
unfolding of_int
half_val n h = subst (λ (z : Float). HasValue z false (n * 2 + 1) 2) (sym (half_sum (round binary64 false n 1) n (round_whole binary64 false n (omega arith)))) (half_exact n h)

low_at : (m : ℕ) (e : ℤ) (n : ℕ) → m * up e < 2 ^ 52 * down e → n ≡ to_unsigned 64 (fin false m e) → lt (fin false m e) (add binary64 (of_int binary64 (pos n)) (fin false 1 (negsuc 0))) ≡ true
    → of_int binary64 (pos n) ≡ round_away (fin false m e)
unfolding of_int round_away
low_at m e n q h t =
    let r = part_at m e q in
    let k : n < 2 ^ 52 = subst (λ (z : ℕ). z < 2 ^ 52) (sym (h ∙ r.0)) r.1 in
    let b : m * up e * 2 < (n * 2 + 1) * down e = ltb-true (m * up e * 2) ((n * 2 + 1) * down e) (sym (lt_value m e _ (n * 2 + 1) 2 (zero-lt-suc 1) (half_val n k)) ∙ t) in
    ap (λ (z : ℕ). round binary64 false z 1) (sym (part_low (m * up e) (down e) n (down_pos e) (h ∙ r.0) b))

high_at : (m : ℕ) (e : ℤ) (n : ℕ) → m * up e < 2 ^ 52 * down e → n ≡ to_unsigned 64 (fin false m e) → lt (fin false m e) (add binary64 (of_int binary64 (pos n)) (fin false 1 (negsuc 0))) ≡ false
    → of_int binary64 (pos (n + 1)) ≡ round_away (fin false m e)
unfolding of_int round_away
high_at m e n q h t =
    let r = part_at m e q in
    let k : n < 2 ^ 52 = subst (λ (z : ℕ). z < 2 ^ 52) (sym (h ∙ r.0)) r.1 in
    let b : (n * 2 + 1) * down e ≤ m * up e * 2 = ltb-false (m * up e * 2) ((n * 2 + 1) * down e) (sym (lt_value m e _ (n * 2 + 1) 2 (zero-lt-suc 1) (half_val n k)) ∙ t) in
    ap (λ (z : ℕ). round binary64 false z 1) (sym (part_high (m * up e) (down e) n (down_pos e) (h ∙ r.0) b))

pub near_low : (y : Float) → Asks y → (n : ℕ) → n ≡ to_unsigned 64 y → lt y (add binary64 (of_int binary64 (pos n)) (fin false 1 (negsuc 0))) ≡ true → of_int binary64 (pos n) ≡ round_away y
near_low y p n h t =
    let s = small y p in
    low_at s.0 s.1 n s.4 (h ∙ ap (to_unsigned 64) s.2) (subst (λ (z : Float). lt z (add binary64 (of_int binary64 (pos n)) (fin false 1 (negsuc 0))) ≡ true) s.2 t) ∙ ap round_away (sym s.2)

pub near_high : (y : Float) → Asks y → (n : ℕ) → n ≡ to_unsigned 64 y → lt y (add binary64 (of_int binary64 (pos n)) (fin false 1 (negsuc 0))) ≡ false → of_int binary64 (pos (n + 1)) ≡ round_away y
near_high y p n h t =
    let s = small y p in
    high_at s.0 s.1 n s.4 (h ∙ ap (to_unsigned 64) s.2) (subst (λ (z : Float). lt z (add binary64 (of_int binary64 (pos n)) (fin false 1 (negsuc 0))) ≡ false) s.2 t) ∙ ap round_away (sym s.2)

-- ---- where x is whole already
n_half : (A : ℕ) → (A * 2 + 1) / 2 ≡ A
n_half A = omega arith

-- from 2 ^ 52 on
second : (a b c d : Bool) → T (a && b && c && d) → T b
second a b c d t = and_r a b (and_l (a && b) c (and_l (a && b && c) d t))

few : (s : Bool) (m : ℕ) (e : ℤ) → T (fits binary64 (fin s (suc m) e)) → (suc m < 2 ^ 53) × (suc m * up e < 2 ^ 1024 * down e)
unfolding fits
few s m e f = (
  ltb→lt (suc m) (2 ^ 53) (second (suc m % 2 == 1) (nat_lt (suc m) (2 ^ 53)) (nat_le (down e) (2 ^ 1074)) (nat_lt (suc m * up e) (2 ^ 1024 * down e)) f),
  ltb→lt (suc m * up e) (2 ^ 1024 * down e) (and_r (suc m % 2 == 1 && nat_lt (suc m) (2 ^ 53) && nat_le (down e) (2 ^ 1074)) (nat_lt (suc m * up e) (2 ^ 1024 * down e)) f),
)

big : (s : Bool) (m : ℕ) (e : ℤ) → T (fits binary64 (fin s m e)) → 2 ^ 52 * down e ≤ m * up e → round_away (fin s m e) ≡ fin s m e
unfolding round_away
big s zero e f h = absurd (let p : 0 < down e = down_pos e in let z : 0 * up e ≡ 0 = zero-mul (up e) in omega arith)
big s (suc m) (negsuc k) f h =
    absurd
    (let a : suc m < 2 ^ 53 = (few s m (negsuc k) f).0 in
    let o : suc m * 1 ≡ suc m = mul-one (suc m) in
    let b : 2 ^ suc k ≡ 2 * 2 ^ k = pow-succ' 2 k in
    let p : 0 < 2 ^ k = pow_pos k in
    omega arith)
big s (suc m) (pos k) f h =
    let a : suc m < 2 ^ 53 = (few s m (pos k) f).0 in
    let b : suc m * 2 ^ k < 2 ^ 1024 = subst (λ (z : ℕ). suc m * 2 ^ k < z) (mul-one (2 ^ 1024)) (few s m (pos k) f).1 in
    let g : suc m * 2 ^ (k + 1074) ≡ suc m * 2 ^ k * 2 ^ 1074 = ap (λ (z : ℕ). suc m * z) (pow-add 2 k 1074) ∙ sym (mul_assoc (suc m) (2 ^ k) (2 ^ 1074)) in
    let v : HasValue (round binary64 s (suc m * 2 ^ k) 1) s (suc m * 2 ^ k) 1 =
    round_exact binary64 s (suc m * 2 ^ k) 1 (suc m) (k + 1074) (zero-lt-suc 0) a (subst (λ (z : ℕ). z < 2 ^ (1074 + 1024)) (sym g) (shl_lt 1024 1074 b)) (sym g ∙ sym (mul-one (suc m * 2 ^ (k + 1074)))) in
    ap (λ (z : ℕ). round binary64 s z 1) (n_half (suc m * 2 ^ k))
    ∙ whole_unique binary64 (round binary64 s (suc m * 2 ^ k) 1) (fin s (suc m) (pos k)) s (suc m * 2 ^ k) (round-fits binary64 s (suc m * 2 ^ k) 1) f v (refl, refl)

zero_at : (s : Bool) (m : ℕ) (e : ℤ) → T (fits binary64 (fin s m e)) → m * up e ≡ 0 → fin s m e ≡ round_away (fin s m e)
unfolding round_away
zero_at s m e f z =
    let d : 0 < down e = down_pos e in
    let P2 : 0 < down e * 2 = omega arith in
    let n : (m * up e * 2 + down e) / (down e * 2) < 1 = (div-lt_iff_lt-mul P2).1 (omega arith) in
    let o : (m * up e * 2 + down e) / (down e * 2) ≡ 0 = omega arith in
    sym
    (ap (λ (w : ℕ). round binary64 s w 1) o
    ∙ whole_unique binary64 (round binary64 s 0 1) (fin s m e) s 0 (round-fits binary64 s 0 1) f (round_whole binary64 s 0 (lit≤ tt)) (refl, ap (λ (w : ℕ). w * 1) z ∙ sym (zero-mul (down e))))

abbrev two52 : Bool → Float
two52 s = fin s 1 (pos 52)

abbrev naught : Float
naught = fin false 0 (pos 0)

-- the five ways through `round_away`
pub big_neg : (x : Float) → T (fits binary64 x) → lt x naught ≡ true → lt (two52 true) x ≡ false → x ≡ round_away x
unfolding lt round_away
big_neg nan f a b = refl
big_neg (inf s) f a b = refl
big_neg (fin false m e) f a b = absurd (let z : m * up e * 1 < 0 * 1 * down e = ltb-true _ _ a in let y : 0 * 1 * down e ≡ 0 = zero-mul (down e) in omega arith)
big_neg (fin true m e) f a b =
    sym (big true m e f (subst (λ (z : ℕ). 2 ^ 52 * down e ≤ z) (mul-one (m * up e)) (ltb-false (m * up e * 1) (1 * 2 ^ 52 * down e) b)))

pub big_pos : (x : Float) → T (fits binary64 x) → lt naught x ≡ true → lt x (two52 false) ≡ false → x ≡ round_away x
unfolding lt round_away
big_pos nan f a b = refl
big_pos (inf s) f a b = refl
big_pos (fin true m e) f a b = absurd (true≢false (sym a))
big_pos (fin false m e) f a b =
    sym (big false m e f (subst (λ (z : ℕ). 2 ^ 52 * down e ≤ z) (mul-one (m * up e)) (ltb-false (m * up e * 1) (1 * 2 ^ 52 * down e) b)))

pub level : (x : Float) → T (fits binary64 x) → lt x naught ≡ false → lt naught x ≡ false → x ≡ round_away x
unfolding lt round_away
level nan f a b = refl
level (inf s) f a b = refl
level (fin true m e) f a b =
    let k : m * up e * 1 + 0 * 1 * down e ≤ 0 = ltb-false 0 (m * up e * 1 + 0 * 1 * down e) a in zero_at true m e f (omega (arith, mul-one (m * up e), zero-mul (down e)))
level (fin false m e) f a b =
    let k : m * up e * 1 ≤ 0 * 1 * down e = ltb-false (0 * 1 * down e) (m * up e * 1) b in zero_at false m e f (omega (arith, mul-one (m * up e), zero-mul (down e)))

pub asks_neg : (x : Float) → lt x naught ≡ true → lt (two52 true) x ≡ true → Asks (neg x)
unfolding lt neg
asks_neg nan a b = absurd (true≢false (sym a))
asks_neg (inf true) a b = absurd (true≢false (sym b))
asks_neg (inf false) a b = absurd (true≢false (sym a))
asks_neg (fin false m e) a b = absurd (let z : m * up e * 1 < 0 * 1 * down e = ltb-true _ _ a in let y : 0 * 1 * down e ≡ 0 = zero-mul (down e) in omega arith)
asks_neg (fin true m e) a b =
    (lt→ltb (0 * 1 * down e) (m * up e * 1) (let k : 0 < m * up e * 1 + 0 * 1 * down e = ltb-true _ _ a in let y : 0 * 1 * down e ≡ 0 = zero-mul (down e) in omega arith), subst T (sym b) tt)

pub neg_near : (x r : Float) → lt x naught ≡ true → r ≡ round_away (neg x) → neg r ≡ round_away x
unfolding lt neg round_away
neg_near nan r a h = ap neg h
neg_near (inf true) r a h = ap neg h
neg_near (inf false) r a h = ap neg h
neg_near (fin true m e) r a h = ap neg h ∙ neg-round ((m * up e * 2 + down e) / (down e * 2)) 1
neg_near (fin false m e) r a h = absurd (let z : m * up e * 1 < 0 * 1 * down e = ltb-true _ _ a in let y : 0 * 1 * down e ≡ 0 = zero-mul (down e) in omega arith)
