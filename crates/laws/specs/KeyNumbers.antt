-- LAW B7: with nets in whole bits, no key is a NaN. Assumes nothing.
use Rattle.std.specs.Prelude.{◌≡◌, refl, Bool, true, false, not, ◌&&◌, cond, List, [], ◌∷◌, ℕ, zero, suc, ◌+◌, ◌-◌, ◌*◌, ◌^◌, ◌/◌, ◌≤◌, ltb, ℤ, pos, negsuc, Float}
use Rattle.std.specs.Bool.{beq}
use Rattle.std.proofs.Common.{arith, ne_eqb}
use Rattle.std.proofs.Math.IntN.{sub_ℕ}
use Rattle.std.specs.Float.{nan, inf, fin, Format, binary64}
use Rattle.std.specs.Float.Ieee.{prec, low, emax, unlike, up, down, odd, units, round, sum, add, mul, eq, of_int}
use Rattle.std.specs.Float.Ieee.Exact.{HasValue}
use Rattle.spec.specs.Lists.{keep, sum_of}
use Rattle.spec.specs.Hypergraph.{is_cut}
use Rattle.spec.specs.Floats.{two⁻⁵³, nano}
use Rattle.spec.specs.Draws.{unit_of}
use Rattle.spec.specs.FmClaims.{WholeNet, after_move_of, made_uncut, newly_cut, KeysNumbered}
use Rattle.laws.specs.WholeFloats.{value}
use Rattle.laws.specs.GainLaws.{gain_is, in_float_lem}
use Rattle.laws.specs.Booleans.{by_cases, clash, eqb_self}

abbrev Sure : Float → Type 0
Sure x = eq x x ≡ true

beq_self : (s : Bool) → beq s s ≡ true
beq_self true = refl
beq_self false = refl

fin_sure : (s : Bool) (m : ℕ) (e : ℤ) → Sure (fin s m e)
unfolding eq
fin_sure s m e = rw (eqb_self (m * up e * down e), beq_self s)

inf_sure : (s : Bool) → Sure (inf s)
unfolding eq
inf_sure s = beq_self s

cond_sure : (b : Bool) (x y : Float) → Sure x → Sure y → Sure (cond b x y)
cond_sure true x y h k = h
cond_sure false x y h k = k

odd_sure : (d : ℕ) (s : Bool) (q k l : ℕ) → Sure (odd d s q k l)
unfolding odd
odd_sure d s zero k l = fin_sure s zero (pos zero)
odd_sure d s (suc q) k l = fin_sure s _ _

-- what is rounded is no NaN
units_sure : (f : Format) (s : Bool) (q k : ℕ) → Sure (units f s q k)
unfolding units
units_sure f s q k = cond_sure (ltb (q * 2 ^ k) (2 ^ (low f + suc (emax f)))) (odd (suc (prec f)) s q k (low f)) (inf s) (odd_sure (suc (prec f)) s q k (low f)) (inf_sure s)

round_sure : (f : Format) (s : Bool) (n d : ℕ) → Sure (round f s n d)
unfolding round
round_sure f s n d = units_sure f s _ _

sum_sure : (f : Format) (s : Bool) (a : ℕ) (t : Bool) (b c : ℕ) → Sure (sum f s a t b c)
unfolding sum
sum_sure f s a t b c =
    cond_sure (beq s t) (round f s (a + b) c) (cond (ltb a b) (round f t (b - a) c) (round f (s && ltb b a) (a - b) c)) (round_sure f s (a + b) c)
    (cond_sure (ltb a b) (round f t (b - a) c) (round f (s && ltb b a) (a - b) c) (round_sure f t (b - a) c) (round_sure f (s && ltb b a) (a - b) c))

-- a finite number and one that is no NaN; what is above 0 times one that is no NaN; one that is no NaN times 2^-53
add_sure : (x y : Float) (s : Bool) (a : ℕ) → HasValue x s a 1 → Sure y → Sure (add binary64 x y)
unfolding add eq
add_sure nan y s a v h = absurd v
add_sure (inf t) y s a v h = absurd v
add_sure (fin t m e) nan s a v h = clash h refl
add_sure (fin t m e) (inf u) s a v h = inf_sure u
add_sure (fin t m e) (fin u n d) s a v h = sum_sure binary64 t (m * up e * down d) u (n * up d * down e) (down e * down d)

above_sure : (m : ℕ) (e : ℤ) (y : Float) → Sure y → Sure (mul binary64 (fin false (suc m) e) y)
unfolding mul eq
above_sure m e nan h = clash h refl
above_sure m e (inf t) h = rw (ne_eqb (suc m) 0 (λ z. omega arith)) (inf_sure (unlike false t))
above_sure m e (fin t n d) h = round_sure binary64 (unlike false t) (suc m * up e * (n * up d)) (down e * down d)

scaled_sure : (x : Float) → Sure x → Sure (mul binary64 x two⁻⁵³)
unfolding mul eq
scaled_sure nan h = clash h refl
scaled_sure (inf s) h = inf_sure (unlike s false)
scaled_sure (fin s m e) h = round_sure binary64 (unlike s false) (m * up e * (1 * up (negsuc 52))) (down e * down (negsuc 52))

nano_is : nano ≡ fin false 4835703278458517 (negsuc 81)
unfolding round units odd
nano_is = refl

noise_sure : (w : ℕ) → Sure (mul binary64 nano (unit_of w))
unfolding unit_of of_int
noise_sure w = rw nano_is (above_sure 4835703278458516 (negsuc 81) (unit_of w) (scaled_sure (of_int binary64 (pos (w / 2 ^ 11))) (round_sure binary64 false (w / 2 ^ 11) 1)))

pub kept_less : (f : WholeNet → ℕ) (p : WholeNet → Bool) (l : List WholeNet) → sum_of f (keep p l) ≤ sum_of f l
kept_less f p [] = omega arith
kept_less f p (e ∷ l) = by_cases (p e) (λ q. rw q (omega (arith, kept_less f p l))) (λ q. rw q (omega (arith, kept_less f p l)))

pub keys_numbered : KeysNumbered
keys_numbered weights nets part v fits low lawful most w =
    let a = made_uncut nets part v in
    let b = newly_cut nets part v in
    let p : a ≤ 2 ^ 53 = omega (arith, most, kept_less (λ e. e.bits) (λ e. is_cut part e.pins && not (is_cut (after_move_of part v) e.pins)) nets) in
    let q : b ≤ 2 ^ 53 = omega (arith, most, kept_less (λ e. e.bits) (λ e. not (is_cut part e.pins) && is_cut (after_move_of part v) e.pins) nets) in
    rw (gain_is weights nets part v fits low lawful most)
    (add_sure (of_int binary64 (sub_ℕ a b)) (mul binary64 nano (unit_of w)) _ _ (value (sub_ℕ a b) (in_float_lem a b p q)) (noise_sure w))
