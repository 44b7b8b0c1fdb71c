-- Greedy's five lists, whatever keeps them. Assumes nothing.
use Rattle.std.specs.Prelude.{◌≡◌, List, [], ◌∷◌, ℕ, zero, suc, map, length, get_or, set, Option, None, Some, Result, Ok, Err}
use Rattle.std.proofs.Common.{refl, ap}
use Rattle.std.proofs.lemmas.List.{length-map}
use Rattle.tables.specs.declared.row.Row.{Row}
use Rattle.tables.specs.declared.choice.Choice.{Choice}
use Rattle.tables.specs.declared.PairTooWide.{PairTooWide}
use Rattle.tables.specs.declared.slotted.Tables.{Tables}

-- the lists: sets by slot, node numbers and size bits by slot, the live slots, and the least pairs by slot
pub record Lists : Type 0 where
  pub words : List ℕ
  pub nodes : List ℕ
  pub sizes : List ℕ
  pub live : List ℕ
  pub rows : List ℕ

abbrev pub lists_of : List ℕ → List ℕ → List ℕ → List ℕ → List ℕ → Lists
lists_of words nodes sizes live rows = record { words = words; nodes = nodes; sizes = sizes; live = live; rows = rows }

-- A row's number: 256 where there is no pair, 257 where one is too wide, 258 where it is yet to be found, 259 for a table that is gone, and
-- else 512 times the merged size bits and the other slot.
abbrev pub code : Row → ℕ
code r = r.number

-- one that is yet to be found, and one of a table that is gone
abbrev pub stale : Row
stale = record { number = 258 }

abbrev pub gone : Row
gone = record { number = 259 }

-- the table of a choice: 256 where there is none, 257 where a pair is too wide
abbrev pub choice_code : Option Choice → ℕ
choice_code None = 256
choice_code (Some c) = c.table

abbrev pub chosen_code : Result (Option Choice) PairTooWide → ℕ
chosen_code (Err r) = 257
chosen_code (Ok c) = choice_code c

-- the rows as numbers
unfoldable pub coded : List Row → List ℕ
coded l = map code l

pub coded_length : (l : List Row) → length (coded l) ≡ length l
unfolding coded
coded_length l = length-map l code

pub coded-set : (l : List Row) (i : ℕ) (r : Row) → coded (set l i r) ≡ set (coded l) i (code r)
unfolding coded
coded-set [] i r = refl
coded-set (x ∷ l) zero r = refl
coded-set (x ∷ l) (suc i) r = ap (λ (k : List ℕ). code x ∷ k) (coded-set l i r)

-- what stands past the end has the number 0
pub coded_at : (l : List Row) (i : ℕ) (d : Row) → code d ≡ 0 → code (get_or l i d) ≡ get_or (coded l) i 0
unfolding coded
coded_at [] i d e = e
coded_at (x ∷ l) zero d e = refl
coded_at (x ∷ l) (suc i) d e = coded_at l i d e

-- the lists of some tables, with their sets
abbrev pub lists_in : List ℕ → Tables → Lists
lists_in sets t = lists_of sets t.nodes t.sizes t.live.items (coded t.rows)

-- one of the lists replaced
abbrev pub with_sets : Lists → List ℕ → Lists
with_sets M y = lists_of y M.nodes M.sizes M.live M.rows

abbrev pub with_bits : Lists → List ℕ → Lists
with_bits M y = lists_of M.words M.nodes y M.live M.rows

abbrev pub with_live : Lists → List ℕ → Lists
with_live M y = lists_of M.words M.nodes M.sizes y M.rows

abbrev pub with_rows : Lists → List ℕ → Lists
with_rows M y = lists_of M.words M.nodes M.sizes M.live y

-- a row is told by its number
pub not_coded : (r : Row) (n : ℕ) → (r ≡ record { number = n } → ⊥) → code r ≡ n → ⊥
not_coded r n h e = h (ap (λ (k : ℕ). record { number = k }) e)
