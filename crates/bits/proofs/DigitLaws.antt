-- The set digits of a word, one after another from the lowest.
use Rattle.std.proofs.Common.{◌≡◌, ℕ, ◌+◌, ◌-◌, ◌<◌, ◌^◌, [], ◌∷◌, bit_and}
use Rattle.std.specs.Int.Count.{count_trailing_zeros}
use Rattle.bits.specs.Lowest.{places, places_none, places_step}

pub places_zero : (b x : ℕ) → x ≡ 0 → places b 64 x ≡ []
places_zero b x e = rw e (places_none b 64)

pub places_first : (b x : ℕ) → 0 < x → x < 2 ^ 64 → places b 64 x ≡ (b + count_trailing_zeros 64 x) ∷ places b 64 (bit_and x (x - 1))
places_first b x p h = places_step b 64 x p h

pub ruleset digit_steps = (places_zero, places_first)
