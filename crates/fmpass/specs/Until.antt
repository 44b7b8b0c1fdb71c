-- A loop that stops early: at most n turns, of which k were made. Assumes nothing.
use Rattle.std.specs.Prelude.{Bool, true, false, cond, ◌≡◌, refl, ℕ, zero, suc, ◌+◌, ◌-◌, ◌≤◌, ◌<◌}
use Rattle.std.proofs.Common.{sym, ap, ◌∙◌, arith}
use Rattle.spec.specs.Hypergraph.{until}

module _ {S : Type 0} (stop : S → Bool) (f : S → S) (n : ℕ) (s : S) where
  -- what is left leads to the end
  abbrev pub Left : ℕ → S → Type 0
  Left k g = until (n - k) stop f g ≡ until n stop f s

  pub left_all : Left 0 s
  left_all = let e : n - 0 ≡ n = omega arith in ap (λ (j : ℕ). until j stop f s) e

  pub left_next : (k : ℕ) (g r : S) → k < n → stop g ≡ false → Left k g → r ≡ f g → Left (k + 1) r
  left_next k g r h e p q =
      let z : suc (n - (k + 1)) ≡ n - k = omega arith in
      ap (until (n - (k + 1)) stop f) q
      ∙ sym (ap (λ (b : Bool). cond b g (until (n - (k + 1)) stop f (f g))) e)
      ∙ ap (λ (j : ℕ). until j stop f g) z ∙ p

  stopped : (k : ℕ) (g : S) → stop g ≡ true → until k stop f g ≡ g
  stopped zero g e = refl
  stopped (suc k) g e = ap (λ (b : Bool). cond b g (until k stop f (f g))) e

  pub left_stop : (k : ℕ) (g : S) → stop g ≡ true → Left k g → g ≡ until n stop f s
  left_stop k g e p = sym (stopped (n - k) g e) ∙ p

  pub left_none : (k : ℕ) (g : S) → n ≤ k → Left k g → g ≡ until n stop f s
  left_none k g h p = let z : 0 ≡ n - k = omega arith in ap (λ (j : ℕ). until j stop f g) z ∙ p
