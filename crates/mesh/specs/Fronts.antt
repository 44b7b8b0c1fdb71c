-- The members of a slot that has none from n on. Assumes nothing.
use Rattle.std.specs.Prelude.{Bool, false, ◌≡◌, List, ◌++◌, ℕ, ◌+◌, ◌-◌, ◌*◌, ◌≤◌, ◌<◌}
use Rattle.std.proofs.Common.{ap, ◌∙◌, append-nil, arith}
use Rattle.spec.specs.Lists.{keep, range}
use Rattle.laws.specs.ListLaws.{keep_ext, keep_none_from}
use Rattle.slots.specs.Slots.{held}
use Rattle.slots.specs.Rising.{rising_of, keep-add}

keep_front : (p : ℕ → Bool) (n k : ℕ) → n ≤ k → ((j : ℕ) → n ≤ j → p j ≡ false) → keep p (range k) ≡ keep p (range n)
keep_front p n k b h =
    let s : k ≡ n + (k - n) = omega arith in
    ap (λ (x : ℕ). keep p (range x)) s ∙ keep-add p 0 n (k - n)
    ∙ ap (λ l. keep p (range n) ++ l) (keep_none_from p (0 + n) (k - n) (λ j lo hi. h j (omega arith))) ∙ append-nil (keep p (range n))

pub rising_front : (ws : List ℕ) (W s n : ℕ) (p : ℕ → Bool) → n ≤ W * 64 → ((j : ℕ) → j < W * 64 → held ws W s j ≡ p j) → ((j : ℕ) → n ≤ j → p j ≡ false)
    → rising_of ws W s ≡ keep p (range n)
unfolding rising_of
rising_front ws W s n p b h f = keep_ext (held ws W s) p (W * 64) h ∙ keep_front p n (W * 64) b f
