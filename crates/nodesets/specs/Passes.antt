-- The passes over slots of words, as the code does them: in one list slot v is for the set of node v, in another for what is wanted
-- outside it. Assumes nothing.
use Rattle.std.specs.Prelude.{Bool, ◌&&◌, ◌||◌, List, ℕ, ◌+◌, ◌-◌, ◌/◌, length, get_or}
use Rattle.cells.specs.Loop.{turns}
use Rattle.slots.specs.Slots.{held, with_set}

-- how many nodes there are
abbrev pub nodes : ℕ → List ℕ → ℕ
nodes n kids = n + length kids / 2

-- the list of words in which each slot below m holds what its test says, and all else is as it was
unfoldable pub with_sets : List ℕ → ℕ → (ℕ → ℕ → Bool) → ℕ → List ℕ
with_sets ws W F m = turns (λ s l. with_set l W s (F s)) ws m

module _ (W : ℕ) where
  -- slot c made the union of slots a and b
  abbrev pub joined : List ℕ → ℕ → ℕ → ℕ → List ℕ
  joined ws a b c = with_set ws W c (λ j. held ws W a j || held ws W b j)

  -- slot c made the union of slot a and of slot b of the other list
  abbrev pub widened : List ℕ → ℕ → ℕ → List ℕ → ℕ → List ℕ
  widened ws a c other b = with_set ws W c (λ j. held ws W a j || held other W b j)

  -- slot s without what the same slot of the other list has not
  abbrev pub cut : List ℕ → List ℕ → ℕ → List ℕ
  cut ws other s = with_set ws W s (λ j. held ws W s j && held other W s j)

  -- in step order, each node's set is made the union of its children's
  unfoldable pub ups : (L R : ℕ → ℕ) → List ℕ → List ℕ → ℕ → List ℕ
  ups L R order ws k = turns (λ i l. joined l (L (get_or order i 0)) (R (get_or order i 0)) (get_or order i 0)) ws k

  -- from the root down, what is wanted outside a child: what is wanted outside its node, and the other child's set
  abbrev pub down : List ℕ → List ℕ → ℕ → ℕ → ℕ → List ℕ
  down sets ws l r v = widened (widened ws v l sets r) v r sets l

  unfoldable pub downs : (L R : ℕ → ℕ) → List ℕ → List ℕ → List ℕ → ℕ → List ℕ
  downs L R order sets ws k =
      turns (λ i l. down sets l (L (get_or order (length order - (i + 1)) 0)) (R (get_or order (length order - (i + 1)) 0)) (get_or order (length order - (i + 1)) 0)) ws k

  -- each inner node's set is cut to what is wanted outside it
  unfoldable pub cuts : List ℕ → List ℕ → List ℕ → ℕ → List ℕ
  cuts order outside ws k = turns (λ i l. cut l outside (get_or order i 0)) ws k
