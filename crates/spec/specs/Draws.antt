-- Draws from a lent list of 64-bit words. Definitions only. Assumes nothing.
use Rattle.std.specs.Prelude.{Bool, true, false, List, [], ◌∷◌, ℕ, ◌/◌, ◌%◌, ◌^◌, pos, Float}
use Rattle.std.specs.Float.{binary64}
use Rattle.std.specs.Float.Ieee.{mul, of_int}
use Rattle.spec.specs.Floats.{two⁻⁵³}

-- "A unit draw is the word over 2^11, rounded down, times 2^−53"
unfoldable pub unit_of : ℕ → Float
unit_of w = mul binary64 (of_int binary64 (pos (w / 2 ^ 11))) two⁻⁵³

-- "an index draw below n is the word modulo n"
abbrev pub index_of : ℕ → ℕ → ℕ
index_of w n = w % n

-- ---- the words, as a run takes them ----

-- The words that are left, and whether a draw was due when none was: "a draw is due and no word is left". Such a draw gets 0, and the
-- run is refused, whatever it does with that.
pub record Words : Type 0 where
  pub left : List ℕ
  pub exhausted : Bool

abbrev pub lent_words : List ℕ → Words
lent_words l = record { left = l; exhausted = false }

-- a value that was made with draws, and the words after them
pub record Drawn (A : Type 0) : Type 0 where
  pub value : A
  pub words : Words

abbrev pub drawn : {A : Type 0} → A → Words → Drawn A
drawn x ws = record { value = x; words = ws }

abbrev pub draw_from : List ℕ → Bool → Drawn ℕ
draw_from [] s = drawn 0 (record { left = []; exhausted = true })
draw_from (w ∷ l) s = drawn w (record { left = l; exhausted = s })

-- the next word
abbrev pub draw : Words → Drawn ℕ
draw ws = draw_from ws.left ws.exhausted

abbrev pub unit_draw : Words → Drawn Float
unit_draw ws = drawn (unit_of (draw ws).value) (draw ws).words

abbrev pub index_draw : ℕ → Words → Drawn ℕ
index_draw n ws = drawn (index_of (draw ws).value n) (draw ws).words
