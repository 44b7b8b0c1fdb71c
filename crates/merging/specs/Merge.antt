-- What a merge writes into the lent lists. Assumes nothing.
use Rattle.std.specs.Prelude.{◌≡◌, List, [], ◌∷◌, ◌++◌, ℕ, ◌+◌, ◌*◌, ◌/◌, ◌%◌, ◌<◌, ltb, length, get_or, set}
use Rattle.laws.specs.Booleans.{by_cases}
use Rattle.slots.specs.Slots.{with_set}
use Rattle.tables.specs.declared.row.Row.{Row}
use Rattle.tables.specs.Lists.{Lists, lists_of, stale, gone, coded, coded-set}
use Rattle.std.proofs.Common.{◌∙◌, ap}
use Rattle.live.specs.Holders.{with_holders}
use Rattle.live.specs.Merged.{merged_set}
use Rattle.scores.specs.Scores.{first_of, second_of}
use Rattle.rows.specs.Rows.{renewed_all}
use Rattle.merging.specs.Listed.{remaining}

-- the tables of the pair that stands for y in the list of least pairs: the one that goes first, and the one that goes second
abbrev pub first_at : ℕ → List ℕ → ℕ → ℕ
first_at n₀ rows y = first_of n₀ (get_or rows y 0 % 512) y

abbrev pub second_at : ℕ → List ℕ → ℕ → ℕ
second_at n₀ rows y = second_of n₀ (get_or rows y 0 % 512) y

-- x and y are gone, and the least pair of z is yet to be found
abbrev pub marked : List ℕ → ℕ → ℕ → ℕ → List ℕ
marked rows x y z = set (set (set rows x 259) y 259) z 258

-- the children of the node at a place of the array
abbrev pub with_node : List ℕ → ℕ → ℕ → ℕ → List ℕ
with_node kids count l r = set (set kids (count * 2) l) (count * 2 + 1) r

pub first_lt : (n₀ x y b : ℕ) → x < b → y < b → first_of n₀ x y < b
first_lt n₀ x y b p q = by_cases (ltb y n₀) (λ e. rw e p) (λ e. rw e q)

pub second_lt : (n₀ x y b : ℕ) → x < b → y < b → second_of n₀ x y < b
second_lt n₀ x y b p q = by_cases (ltb y n₀) (λ e. rw e q) (λ e. rw e p)

-- the lists after a scan
abbrev pub scanned_in : ℕ → List ℕ → ℕ → Lists → Lists
scanned_in W weights n₀ M =
    lists_of (with_holders M.words W M.live (length M.live)) M.nodes M.sizes M.live
    (renewed_all (with_holders M.words W M.live (length M.live)) W weights M.sizes n₀ M.live M.rows (length M.live))

-- the tables of the pair that stands for y are merged into slot z, whose number is v
abbrev pub merged_in : ℕ → ℕ → ℕ → ℕ → ℕ → Lists → Lists
merged_in W n₀ y z v M =
    lists_of
    (with_set M.words W z (merged_set M.words W (first_at n₀ M.rows y) (second_at n₀ M.rows y)))
    (set M.nodes z v)
    (set M.sizes z (get_or M.rows y 0 / 512))
    (remaining (first_at n₀ M.rows y) (second_at n₀ M.rows y) M.live ++ (z ∷ []))
    (marked M.rows (first_at n₀ M.rows y) (second_at n₀ M.rows y) z)

-- the rows that a merge writes
pub marked_coded : (rows : List Row) (i j k x y z : ℕ) → i ≡ x → j ≡ y → k ≡ z → coded (set (set (set rows i gone) j gone) k stale) ≡ marked (coded rows) x y z
marked_coded rows i j k x y z ei ej ek =
    coded-set (set (set rows i gone) j gone) k stale
    ∙ ap (λ (l : List ℕ). set l k 258) (coded-set (set rows i gone) j gone ∙ ap (λ (l : List ℕ). set l j 259) (coded-set rows i gone))
    ∙ (λ t. set (set (set (coded rows) (ei t) 259) (ej t) 259) (ek t) 258)

-- the lists that it leaves
pub lists_merged : (W n₀ y z v : ℕ) (M : Lists) (words nodes sizes live rows : List ℕ)
    → words ≡ with_set M.words W z (merged_set M.words W (first_at n₀ M.rows y) (second_at n₀ M.rows y)) → nodes ≡ set M.nodes z v
    → sizes ≡ set M.sizes z (get_or M.rows y 0 / 512)
    → live ≡ remaining (first_at n₀ M.rows y) (second_at n₀ M.rows y) M.live ++ (z ∷ [])
    → rows ≡ marked M.rows (first_at n₀ M.rows y) (second_at n₀ M.rows y) z → lists_of words nodes sizes live rows ≡ merged_in W n₀ y z v M
lists_merged W n₀ y z v M words nodes sizes live rows p q r s t =
    λ i. record { words = p i; nodes = q i; sizes = r i; live = s i; rows = t i }
