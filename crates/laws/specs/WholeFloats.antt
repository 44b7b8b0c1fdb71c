-- Whole numbers up to 2 ^ 53 as f64s: sums and differences are exact. Assumes nothing.
use Rattle.std.specs.Prelude.{◌≡◌, refl, Bool, true, false, not, cond, ◌&&◌, ℕ, zero, suc, ◌+◌, ◌-◌, ◌*◌, ◌^◌, ◌≤◌, ◌<◌, T, ltb, ℤ, pos, negsuc, ◌+ℤ◌, ◌-ℤ◌, Float}
use Rattle.std.proofs.Common.{sym, ap, ◌∙◌, mul-one, add-mul, mul_comm, mul_assoc, mul_right_comm, mul-pos, mul-lt-mul_of_pos_right, mul-le-mul_right, zero-lt-suc, arith, leb→le, ltb→lt, lt-ltb, le-ltb, ltb-true, ltb-false}
use Rattle.std.specs.Bool.{beq}
use Rattle.std.proofs.Math.Nat.{mul-sub}
use Rattle.std.proofs.Math.IntN.{sub_ℕ}
use Rattle.std.specs.Float.{nan, inf, fin, binary64}
use Rattle.std.specs.Float.Ieee.{up, down, round, sum, add, neg, sub, of_int, in_float}
use Rattle.std.specs.Float.Ieee.Fits.{down_pos}
use Rattle.std.specs.Float.Ieee.Exact.{HasValue}
use Rattle.std.specs.Float.Ieee.Scale.{round_same}
use Rattle.std.specs.Float.Ieee.Back.{round_whole}

-- ---- a sum of two fractions over c is that of the whole numbers
pub ltb_scale : (a b c : ℕ) → 0 < c → ltb (a * c) (b * c) ≡ ltb a b
ltb_scale a b c C = go (ltb a b) refl
  where
    go : (t : Bool) → ltb a b ≡ t → ltb (a * c) (b * c) ≡ t
    go true e = lt-ltb (a * c) (b * c) (mul-lt-mul_of_pos_right (ltb-true a b e) C)
    go false e = le-ltb (a * c) (b * c) (mul-le-mul_right c (ltb-false a b e))

pub sub_scale : (a b c : ℕ) → a * c - b * c ≡ (a - b) * c
sub_scale a b c = sym (mul_comm (a - b) c ∙ mul-sub c a b ∙ ap (λ (x : ℕ). x - c * b) (mul_comm c a) ∙ ap (λ (x : ℕ). a * c - x) (mul_comm c b))

back_one : (s : Bool) (a c : ℕ) → 0 < c → round binary64 s (a * c) c ≡ round binary64 s a 1
back_one s a c C = round_same binary64 s (a * c) c a 1 C (zero-lt-suc 0) (mul-one (a * c))

sum_scale : (s : Bool) (a : ℕ) (t : Bool) (b c : ℕ) → 0 < c → sum binary64 s (a * c) t (b * c) c ≡ sum binary64 s a t b 1
unfolding sum
sum_scale s a t b c C =
    ap (λ (z : Float). cond (beq s t) z (cond (ltb (a * c) (b * c)) (round binary64 t (b * c - a * c) c) (round binary64 (s && ltb (b * c) (a * c)) (a * c - b * c) c)))
    (ap (λ (n : ℕ). round binary64 s n c) (sym (add-mul a b c)) ∙ back_one s (a + b) c C)
    ∙ ap (λ (z : Float). cond (beq s t) (round binary64 s (a + b) 1) z)
    (ap (λ (x : Bool). cond x (round binary64 t (b * c - a * c) c) (round binary64 (s && ltb (b * c) (a * c)) (a * c - b * c) c)) (ltb_scale a b c C)
    ∙ ap (λ (z : Float). cond (ltb a b) z (round binary64 (s && ltb (b * c) (a * c)) (a * c - b * c) c)) (ap (λ (n : ℕ). round binary64 t n c) (sub_scale b a c) ∙ back_one t (b - a) c C)
    ∙ ap (λ (z : Float). cond (ltb a b) (round binary64 t (b - a) 1) z)
    (ap (λ (x : Bool). round binary64 (s && x) (a * c - b * c) c) (ltb_scale b a c C) ∙ ap (λ (n : ℕ). round binary64 (s && ltb b a) n c) (sub_scale a b c) ∙ back_one (s && ltb b a) (a - b) c C))

-- ---- two floats that are whole numbers
pub add_values : (x y : Float) (s : Bool) (a : ℕ) (t : Bool) (b : ℕ) → HasValue x s a 1 → HasValue y t b 1 → add binary64 x y ≡ sum binary64 s a t b 1
unfolding add
add_values nan y s a t b p q = elim p [ ]
add_values (inf _) y s a t b p q = elim p [ ]
add_values (fin s' m e) nan s a t b p q = elim q [ ]
add_values (fin s' m e) (inf _) s a t b p q = elim q [ ]
add_values (fin s' m e) (fin t' n d) s a t b p q =
    let l : m * up e * down d ≡ a * (down e * down d) = ap (λ (z : ℕ). z * down d) (sym (mul-one (m * up e)) ∙ p.1) ∙ mul_assoc a (down e) (down d) in
    let r : n * up d * down e ≡ b * (down e * down d) = ap (λ (z : ℕ). z * down e) (sym (mul-one (n * up d)) ∙ q.1) ∙ mul_right_comm b (down d) (down e) ∙ mul_assoc b (down e) (down d) in
    (λ i. sum binary64 (p.0 i) (l i) (q.0 i) (r i) (down e * down d)) ∙ sum_scale s a t b (down e * down d) (mul-pos (down_pos e) (down_pos d))

neg_value : (x : Float) (s : Bool) (a : ℕ) → HasValue x s a 1 → HasValue (neg x) (not s) a 1
unfolding neg
neg_value nan s a p = elim p [ ]
neg_value (inf _) s a p = elim p [ ]
neg_value (fin s' m e) s a p = (ap not p.0, p.1)

-- ---- a difference of whole numbers
sum_diff : (a b : ℕ) → sum binary64 false a true b 1 ≡ of_int binary64 (sub_ℕ a b)
unfolding sum of_int
sum_diff a b = go (ltb a b) refl
  where
    go : (t : Bool) → ltb a b ≡ t → cond t (round binary64 true (b - a) 1) (round binary64 false (a - b) 1) ≡ of_int binary64 (cond t (negsuc (b - suc a)) (pos (a - b)))
    go true e = let h : a < b = ltb-true a b e in let k : b - a ≡ suc (b - suc a) = omega arith in ap (λ (n : ℕ). round binary64 true n 1) k
    go false e = refl

diff_sum : (a b : ℕ) → 0 < a → sum binary64 true a false b 1 ≡ of_int binary64 (sub_ℕ b a)
unfolding sum of_int
diff_sum a b A = go (ltb a b) (ltb b a) refl refl
  where
    go : (t u : Bool) → ltb a b ≡ t → ltb b a ≡ u → cond t (round binary64 false (b - a) 1) (round binary64 u (a - b) 1) ≡ of_int binary64 (cond u (negsuc (a - suc b)) (pos (b - a)))
    go true true e f = absurd (let h : a < b = ltb-true a b e in let k : b < a = ltb-true b a f in omega arith)
    go true false e f = refl
    go false true e f = let h : b < a = ltb-true b a f in let k : a - b ≡ suc (a - suc b) = omega arith in ap (λ (n : ℕ). round binary64 true n 1) k
    go false false e f = let h : b ≤ a = ltb-false a b e in let k : a ≤ b = ltb-false b a f in let l : a - b ≡ b - a = omega arith in ap (λ (n : ℕ). round binary64 false n 1) l

-- ---- the laws
abbrev pub sign : ℤ → Bool
sign (pos n) = false
sign (negsuc n) = true

abbrev pub mag : ℤ → ℕ
mag (pos n) = n
mag (negsuc n) = suc n

pub value : (z : ℤ) → T (in_float binary64 z) → HasValue (of_int binary64 z) (sign z) (mag z) 1
unfolding of_int in_float
value (pos n) h = round_whole binary64 false n (leb→le n (2 ^ 53) h)
value (negsuc n) h = round_whole binary64 true (suc n) (ltb→lt n (2 ^ 53) h)

add_signs : (x y : ℤ) → sum binary64 (sign x) (mag x) (sign y) (mag y) 1 ≡ of_int binary64 (x +ℤ y)
unfolding sum of_int
add_signs (pos a) (pos b) = refl
add_signs (pos a) (negsuc b) = sum_diff a (suc b)
add_signs (negsuc a) (pos b) = diff_sum (suc a) b (zero-lt-suc a)
add_signs (negsuc a) (negsuc b) = let k : suc a + suc b ≡ suc (suc (a + b)) = omega arith in ap (λ (n : ℕ). round binary64 true n 1) k

pub add_whole : (x y : ℤ) → T (in_float binary64 x) → T (in_float binary64 y) → add binary64 (of_int binary64 x) (of_int binary64 y) ≡ of_int binary64 (x +ℤ y)
add_whole x y p q = add_values (of_int binary64 x) (of_int binary64 y) (sign x) (mag x) (sign y) (mag y) (value x p) (value y q) ∙ add_signs x y

sub_signs : (x y : ℤ) → sum binary64 (sign x) (mag x) (not (sign y)) (mag y) 1 ≡ of_int binary64 (x -ℤ y)
unfolding sum of_int
sub_signs (pos a) (pos zero) = let l : 0 ≤ a = omega arith in let k : a - 0 ≡ a + 0 = omega arith in simp (le-ltb a 0 l, k)
sub_signs (pos a) (pos (suc b)) = sum_diff a (suc b)
sub_signs (pos a) (negsuc b) = refl
sub_signs (negsuc a) (pos zero) = let k : suc a + 0 ≡ suc (suc a - 1) = omega arith in ap (λ (n : ℕ). round binary64 true n 1) k ∙ sym (simp (lt-ltb 0 (suc a) (zero-lt-suc a)))
sub_signs (negsuc a) (pos (suc b)) = let k : suc a + suc b ≡ suc (suc (a + b)) = omega arith in ap (λ (n : ℕ). round binary64 true n 1) k
sub_signs (negsuc a) (negsuc b) = diff_sum (suc a) (suc b) (zero-lt-suc a)

pub sub_whole : (x y : ℤ) → T (in_float binary64 x) → T (in_float binary64 y) → sub binary64 (of_int binary64 x) (of_int binary64 y) ≡ of_int binary64 (x -ℤ y)
unfolding sub
sub_whole x y p q = add_values (of_int binary64 x) (neg (of_int binary64 y)) (sign x) (mag x) (not (sign y)) (mag y) (value x p) (neg_value (of_int binary64 y) (sign y) (mag y) (value y q)) ∙ sub_signs x y
