-- Words that stay: only those from lo on and below hi may be other ones afterwards. Assumes nothing.
use Rattle.std.specs.Prelude.{◌≡◌, refl, List, ℕ, ◌+◌, ◌*◌, ◌≤◌, ◌<◌, length, get_or}
use Rattle.std.proofs.Common.{◌∙◌, arith}
use Rattle.slots.specs.Slots.{with_set, with_set_length, with_set_outside}

pub record Stays (lo hi : ℕ) (ws ws' : List ℕ) : Type 0 where
  pub same : length ws' ≡ length ws
  pub below : (i : ℕ) → i < lo → get_or ws' i 0 ≡ get_or ws i 0
  pub above : (i : ℕ) → hi ≤ i → get_or ws' i 0 ≡ get_or ws i 0

pub stays_none : (lo hi : ℕ) (ws : List ℕ) → Stays lo hi ws ws
stays_none lo hi ws = record { same = refl; below = λ i h. refl; above = λ i h. refl }

pub stays_then : (lo hi : ℕ) (a b c : List ℕ) → Stays lo hi a b → Stays lo hi b c → Stays lo hi a c
stays_then lo hi a b c h k =
    record { same = k.same ∙ h.same; below = λ i l. k.below i l ∙ h.below i l; above = λ i l. k.above i l ∙ h.above i l }

pub stays_wider : (lo hi lo' hi' : ℕ) (a b : List ℕ) → lo' ≤ lo → hi ≤ hi' → Stays lo hi a b → Stays lo' hi' a b
stays_wider lo hi lo' hi' a b l u h =
    record { same = h.same; below = λ i k. h.below i (omega arith); above = λ i k. h.above i (omega arith) }

-- one slot is written
pub stays_with : (lo hi : ℕ) (ws : List ℕ) (W s : ℕ) (p : ℕ → _) → lo ≤ s * W → s * W + W ≤ hi → Stays lo hi ws (with_set ws W s p)
stays_with lo hi ws W s p l u =
    record {
      same = with_set_length ws W s p;
      below = λ i h. with_set_outside ws W s p i (λ k q e. omega arith);
      above = λ i h. with_set_outside ws W s p i (λ k q e. omega arith);
    }
