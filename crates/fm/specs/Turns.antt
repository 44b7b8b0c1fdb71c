-- The members of a list are entered one after another, and each raises the stamps by no more than a number. Assumes nothing.
use Rattle.std.specs.Prelude.{◌≡◌, List, [], ◌∷◌, ◌++◌, ℕ, ◌+◌, ◌*◌, ◌≤◌, ◌<◌, length, take}
use Rattle.std.proofs.Common.{sym, ap, ◌∙◌, subst, arith}
use Rattle.std.proofs.Math.Nat.{suc-mul}
use Rattle.std.proofs.Math.Seq.{take-length}
use Rattle.spec.specs.Members.{All}
use Rattle.spec.specs.Fm.{Queue}
use Rattle.fm.specs.Again.{Stamped}

-- ---- turns that are left ----

-- The members `rest`, all below n, are still to be entered, from the queue q on, by `Through`, and then `Ends` holds. A turn raises the
-- stamps by at most `raise`; before the last one they are at most `last`.
pub record Turns (Through : List ℕ → Queue → Queue → Type 0) (Ends : Queue → Type 0) (n last raise : ℕ) (rest : List ℕ) (q : Queue) : Type 0 where
  pub low : All (λ u. u < n) rest
  pub stamp : ℕ
  pub stamps : Stamped stamp q.stamps
  pub fits : stamp + length rest * raise ≤ last + raise
  pub leads : (r : Queue) → Through rest q r → Ends r

module _ {Through : List ℕ → Queue → Queue → Type 0} {Ends : Queue → Type 0} {n last raise : ℕ} {rest : List ℕ} {q : Queue}
    (h : Turns Through Ends n last raise rest q) where
  room : (u : ℕ) (m : List ℕ) → rest ≡ u ∷ m → h.stamp + (length m * raise + raise) ≤ last + raise
  room u m e = subst (λ (x : ℕ). h.stamp + x ≤ last + raise) (ap (λ (z : List ℕ). length z * raise) e ∙ suc-mul (length m) raise) h.fits

  pub turns_first : (u : ℕ) (m : List ℕ) → rest ≡ u ∷ m → (u < n) × Stamped last q.stamps
  turns_first u m e = ((subst (All (λ u. u < n)) e h.low).0, λ w. omega (arith, h.stamps w, room u m e))

  pub turns_next : (u : ℕ) (m : List ℕ) (g : Queue) → rest ≡ u ∷ m → ((k : ℕ) → Stamped k q.stamps → Stamped (k + raise) g.stamps)
      → ((r : Queue) → Through m g r → Through (u ∷ m) q r) → Turns Through Ends n last raise m g
  turns_next u m g e s t =
      record {
        low = (subst (All (λ u. u < n)) e h.low).1;
        stamp = h.stamp + raise;
        stamps = s h.stamp h.stamps;
        fits = omega (arith, room u m e);
        leads = λ r p. h.leads r (subst (λ (z : List ℕ). Through z q r) (sym e) (t r p));
      }

  pub turns_end : rest ≡ [] → Through [] q q → Ends q
  turns_end e t = h.leads q (subst (λ (z : List ℕ). Through z q q) (sym e) t)

-- ---- two lists, one after the other ----

module _ (f : List ℕ → Queue → Queue) (law : (l m : List ℕ) (q : Queue) → f (l ++ m) q ≡ f m (f l q)) where
  whole : (l : List ℕ) (q : Queue) → f (take (length l) l) q ≡ f l q
  whole l q = ap (λ (z : List ℕ). f z q) (take-length l)

  pub both : (l m : List ℕ) (q g r : Queue) → g ≡ f (take (length l) l) q → r ≡ f (take (length m) m) g → r ≡ f (take (length (l ++ m)) (l ++ m)) q
  both l m q g r a b = b ∙ whole m g ∙ ap (f m) (a ∙ whole l q) ∙ sym (whole (l ++ m) q ∙ law l m q)
