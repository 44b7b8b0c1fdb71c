-- The lines of sliced indices, the first line and the whole text, put one after another. Assumes nothing.
use Rattle.std.specs.Prelude.{◌≡◌, Bool, true, false, not, cond, List, [], ◌∷◌, ℕ, ◌+◌, ◌<◌, ◌≤◌, eqb, length}
use Rattle.std.proofs.Common.{sym, ap, ◌∙◌, arith, length-append, ne_eqb}
use Rattle.spec.specs.Lists.{keep, range}
use Rattle.spec.specs.Program.{Printed}
use Rattle.spec.specs.Text.{ascii, spaced, line, lines_of, plan_line, step_line, total_line, widest_line, slice_line, plan_text}
use Rattle.laws.specs.TextLaws.{decimal_length}
use Rattle.steplines.specs.declared.digits.Text.{Text}
use Rattle.steplines.specs.Puts.{Puts, puts_none, puts_both, puts_as}
use Rattle.steplines.specs.Digits.{spaced_one}
use Rattle.steplines.specs.Lines.{keep_more, lines_append, lines_one, put_numbers}

-- ---- indices that are flagged ----

pub flag_clear : (x y : ℕ) → x ≡ y → x ≡ 0 → not (eqb y 0) ≡ false
flag_clear x y e h = ap (λ (z : ℕ). not (eqb z 0)) (sym e ∙ h)

pub flag_set : (x y : ℕ) → x ≡ y → (x ≡ 0 → ⊥) → not (eqb y 0) ≡ true
flag_set x y e h = ap not (ne_eqb y 0 (λ q. h (e ∙ q)))

pub slice_in : {s t : Text} (b : Bool) (j : ℕ) → b ≡ true → Puts s (slice_line j) t → Puts s (lines_of slice_line (cond b (j ∷ []) [])) t
slice_in b j e p = rw e (puts_as (sym (lines_one slice_line j)) p)

pub slice_out : (b : Bool) (s : Text) (j : ℕ) → b ≡ false → Puts s (lines_of slice_line (cond b (j ∷ []) [])) s
unfolding lines_of
slice_out b s j e = rw e (puts_none s)

pub slices_none : (s : Text) (p : ℕ → Bool) → Puts s (lines_of slice_line (keep p (range 0))) s
unfolding lines_of
slices_none s p = puts_none s

pub slices_more : {s t u : Text} (p : ℕ → Bool) (j : ℕ) → Puts s (lines_of slice_line (keep p (range j))) t
    → Puts t (lines_of slice_line (cond (p j) (j ∷ []) [])) u → Puts s (lines_of slice_line (keep p (range (j + 1)))) u
slices_more p j a b =
    let c : List ℕ = cond (p j) (j ∷ []) [] in
    puts_as (sym (ap (lines_of slice_line) (keep_more p j) ∙ lines_append slice_line (keep p (range j)) c)) (puts_both a b)

-- "slice", a space, up to three digits, a line feed
pub slice_length : (j : ℕ) → j < 256 → length (slice_line j) ≤ 10
slice_length j h = omega (arith, length-append (spaced (j ∷ [])) (10 ∷ []), ap length (spaced_one j), decimal_length 2 j (omega arith))

-- ---- the first line ----

pub head_put : {s t u v w : Text} (x y : ℕ) → Puts s (ascii "plan") t → Puts t (spaced (x ∷ [])) u
    → Puts u (spaced (y ∷ [])) v → Puts v (10 ∷ []) w → Puts s (plan_line x y) w
head_put x y p q r e = puts_both p (puts_both (put_numbers (x ∷ []) (y ∷ []) q r) e)

-- ---- the whole ----

pub plan_put : {s₀ s₁ s₂ s₃ s₄ s₅ s₆ s₇ s₈ : Text} (p : Printed) → Puts s₀ (plan_line p.leaves p.indices) s₁
    → Puts s₁ (lines_of step_line p.steps) s₂ → Puts s₂ (total_line p.total) s₃ → Puts s₃ (widest_line p.widest) s₄
    → Puts s₄ (lines_of slice_line p.slices) s₅ → Puts s₅ (line "bits" (p.bits ∷ [])) s₆ → Puts s₆ (line "improved" (p.improved ∷ [])) s₇
    → Puts s₇ (line "splits" (p.splits ∷ [])) s₈ → Puts s₀ (plan_text p) s₈
unfolding plan_text
plan_put p a b c d e f g h = puts_both a (puts_both b (puts_both c (puts_both d (puts_both e (puts_both f (puts_both g h))))))
