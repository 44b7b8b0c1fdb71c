-- What was written to a text, one piece after another. Assumes nothing.
use Rattle.std.specs.Prelude.{◌≡◌, List, [], ◌++◌, ℕ}
use Rattle.std.proofs.Common.{◌∙◌, refl, subst}
use Rattle.putfields.specs.Put.{Put, put_both, put_none}
use Rattle.steplines.specs.declared.digits.Text.{Text}

-- s became t: the same buffer is lent, and the bytes were put into it from s's end on
pub record Puts (s : Text) (bytes : List ℕ) (t : Text) : Type 0 where
  pub same : t.buffer.ghost_name ≡ s.buffer.ghost_name
  pub put : Put s.buffer.now t.buffer.now s.len t.len bytes

-- nothing
pub puts_none : (s : Text) → Puts s [] s
puts_none s = record { same = refl; put = put_none s.buffer.now s.len }

-- one piece after another
pub puts_both : {s t u : Text} {a b : List ℕ} → Puts s a t → Puts t b u → Puts s (a ++ b) u
puts_both p q = record { same = q.same ∙ p.same; put = put_both p.put q.put }

-- the same bytes under another name
pub puts_as : {s t : Text} {a b : List ℕ} → a ≡ b → Puts s a t → Puts s b t
puts_as {s} {t} e p = subst (λ (l : List ℕ). Puts s l t) e p
