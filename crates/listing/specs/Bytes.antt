-- Numbers as bytes, one after the other. Assumes nothing.
use Rattle.std.specs.Prelude.{◌≡◌, refl, List, [], ◌∷◌, ◌++◌, ℕ, zero, suc, ◌+◌, ◌*◌, ◌/◌, ◌%◌, ◌^◌, ◌<◌, length, get_or, take}
use Rattle.std.proofs.Common.{sym, ap, ap₂, mul_comm, w16, w64, ◌∙◌, arith, add-one, take-suc, length-take-le}
use Rattle.std.specs.Int.{byte_at, bytes_high_first, to_be_bytes}
use native.Mathlib.Numerals.{unary_clauses}
use Rattle.std.proofs.Math.Nat.{div-div-eq-div-mul}
use Rattle.std.proofs.Math.Seq.{take-length}
use Rattle.spec.specs.Memory.{placed}
use Rattle.spec.specs.Host.{bytes_of, two_each}
use Rattle.cells.specs.Cells.{placed_next, placed_none}

each_length : (l : List ℕ) → length (two_each l) ≡ length l * 2
each_length [] = refl
each_length (x ∷ l) = omega (arith, each_length l)

each_append : (k l : List ℕ) → two_each (k ++ l) ≡ two_each k ++ two_each l
each_append [] l = refl
each_append (x ∷ k) l = ap (λ (t : List ℕ). bytes_of 2 x ++ t) (each_append k l)

-- one number more
pub each_next : {a : List ℕ} (d l : List ℕ) (at k : ℕ) → k < length l → a ≡ placed d at (two_each (take k l))
    → placed a (at + k * 2) (bytes_of 2 (get_or l k 0)) ≡ placed d at (two_each (take (k + 1) l))
each_next d l at k h e =
    let q : length (two_each (take k l)) ≡ k * 2 = each_length (take k l) ∙ ap (λ (n : ℕ). n * 2) (length-take-le k l (omega arith)) in
    ap (λ (b : List ℕ). placed b (at + k * 2) (bytes_of 2 (get_or l k 0))) e
    ∙ ap (λ (n : ℕ). placed (placed d at (two_each (take k l))) (at + n) (bytes_of 2 (get_or l k 0))) (sym q)
    ∙ placed_next d (two_each (take k l)) (bytes_of 2 (get_or l k 0)) at
    ∙ ap (placed d at) (sym (
    ap (λ (n : ℕ). two_each (take n l)) (add-one k)
    ∙ ap two_each (take-suc l k 0 h)
    ∙ each_append (take k l) (get_or l k 0 ∷ [])))

-- no number yet, and all
pub each_none : (d l : List ℕ) (at : ℕ) → d ≡ placed d at (two_each (take 0 l))
each_none d l at = sym (placed_none d at)

pub each_all : {a : List ℕ} (d l : List ℕ) (at k : ℕ) → k ≡ length l → a ≡ placed d at (two_each (take k l)) → a ≡ placed d at (two_each l)
each_all d l at k h e = e ∙ ap (λ (n : ℕ). placed d at (two_each (take n l))) h ∙ ap (λ (t : List ℕ). placed d at (two_each t)) (take-length l)

-- a byte, and then what follows it
pub mark_next : {a b : List ℕ} (d l : List ℕ) (at m : ℕ) → a ≡ placed d at (m ∷ []) → b ≡ placed a (at + 1) l → b ≡ placed d at (m ∷ l)
mark_next d l at m p q = q ∙ ap (λ (a : List ℕ). placed a (at + 1) l) p ∙ placed_next d (m ∷ []) l at

-- ---- std's bytes of a number, high byte first ----

byte_up : (k n : ℕ) → byte_at (suc k) n ≡ byte_at k (n / 256)
byte_up zero n = refl
byte_up (suc k) n = ap (λ (x : ℕ). x % 256) (ap (λ (y : ℕ). n / y) (let e : 256 ^ suc (suc k) ≡ 256 * 256 ^ suc k = simp unary_clauses (mul_comm (256 ^ k * 256) 256) in e) ∙ sym (div-div-eq-div-mul n 256 (256 ^ suc k)))

high_first : (k n : ℕ) → bytes_high_first (suc k) n ≡ bytes_high_first k (n / 256) ++ (n % 256 ∷ [])
high_first zero n = refl
high_first (suc k) n = ap₂ ◌∷◌ (byte_up k n) (high_first k n)

be_bytes : (k n : ℕ) → bytes_high_first k n ≡ bytes_of k n
be_bytes zero n = refl
be_bytes (suc k) n = high_first k n ∙ ap (λ (l : List ℕ). l ++ (n % 256 ∷ [])) (be_bytes k (n / 256))

pub two_be : (n : ℕ) → to_be_bytes w16 n ≡ bytes_of 2 n
two_be n = be_bytes 2 n

pub eight_be : (n : ℕ) → to_be_bytes w64 n ≡ bytes_of 8 n
eight_be n = be_bytes 8 n
