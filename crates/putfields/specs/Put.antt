-- Bytes put into a buffer from a cursor on, one list after another. Assumes nothing.
use Rattle.std.specs.Prelude.{◌≡◌, refl, List, [], ◌∷◌, ◌++◌, ℕ, zero, suc, ◌+◌, ◌-◌, ◌/◌, ◌%◌, ◌<◌, length, get_or, take, drop}
use Rattle.std.proofs.Common.{sym, ap, ◌∙◌, arith, length-append, take-append-drop}
use Rattle.spec.specs.Memory.{over, placed}
use Rattle.spec.specs.FileClaims.{Bytes}
use Rattle.cells.specs.Cells.{over-nil, placed_length, placed_next, placed_back}

-- a field's tag, and its payload's length n, high byte first
abbrev pub header : ℕ → ℕ → List ℕ
header tag n = tag ∷ n / 256 ∷ n % 256 ∷ []

-- s was put into d at `at`, which made `out` of it, and `next` is the cursor past it
pub record Put (d out : List ℕ) (at next : ℕ) (s : List ℕ) : Type 0 where
  pub bytes : out ≡ placed d at s
  pub past : next ≡ at + length s

pub put_length : {d out s : List ℕ} {at next : ℕ} → Put d out at next s → length out ≡ length d
put_length {d} {out} {s} {at} p = ap length p.bytes ∙ placed_length d s at

-- nothing
pub put_none : (d : List ℕ) (at : ℕ) → Put d d at at []
unfolding placed
put_none d at =
    record {
      bytes = sym (ap (λ (l : List ℕ). take at d ++ l) (over-nil (drop at d)) ∙ take-append-drop at d);
      past = omega arith;
    }

-- the rest of d from `at` on was lent as `&mut d[at..]`, and is back with s over its front
pub put_lent : (d s y : List ℕ) (at : ℕ) → y ≡ over (take (length d - at) (drop at d)) s → Put d (take at d ++ (y ++ drop (length d - at) (drop at d))) at (at + length s) s
put_lent d s y at h = record { bytes = placed_back d s y at h; past = refl }

-- one list after another
pub put_both : {d o₁ o₂ s t : List ℕ} {at n₁ n₂ : ℕ} → Put d o₁ at n₁ s → Put o₁ o₂ n₁ n₂ t → Put d o₂ at n₂ (s ++ t)
put_both {d} {o₁} {o₂} {s} {t} {at} {n₁} {n₂} p q =
    record {
      bytes = q.bytes
          ∙ (λ j. placed (p.bytes j) (p.past j) t)
          ∙ placed_next d s t at;
      past = omega (arith, p.past, q.past, length-append s t);
    }

-- a list of bytes, place by place
pub byte_at : (l : List ℕ) (k : ℕ) → Bytes l → k < length l → get_or l k 0 < 256
byte_at [] k b h = absurd (omega arith)
byte_at (x ∷ l) zero b h = b.0
byte_at (x ∷ l) (suc k) b h = byte_at l k b.1 (omega arith)
