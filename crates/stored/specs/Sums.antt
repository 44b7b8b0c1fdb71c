-- Sums over lists of numbers, modulo 2^32. Definitions only. Assumes nothing.
use Rattle.std.specs.Prelude.{◌≡◌, ℕ, ◌+◌, ◌*◌, ◌%◌}

-- the sum with one number more
abbrev pub sum_with : ℕ → ℕ → ℕ
sum_with sum x = (sum % 4294967296 * 65599 + x % 4294967296 + 1) % 4294967296

-- `next` is the sum with the number that x is converted to
abbrev pub AddsAs : {X : Type 0} → (X → ℕ → Type 0) → ℕ → X → ℕ → Type 0
AddsAs converts sum x next = (n : ℕ) × converts x n × (next ≡ sum_with sum n)
