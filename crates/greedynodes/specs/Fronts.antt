-- Greedy's start in longer lists: the live slots are the front of one, the leaves' numbers the front of another, and the rows are filled.
-- Assumes nothing.
use Rattle.std.specs.Prelude.{Bool, ◌||◌, ◌≡◌, refl, List, ℕ, zero, suc, eqb, ◌+◌, ◌*◌, ◌≤◌, ◌<◌, length, get_or, take}
use Rattle.std.proofs.Math.Path.{fun_ext}
use Rattle.std.proofs.Common.{sym, ◌∙◌, ap, ap₂, arith, ext_get_or, get_or-take, length-take-le}
use Rattle.spec.specs.Lists.{range}
use Rattle.spec.specs.Memory.{filled}
use Rattle.spec.specs.Network.{Network}
use Rattle.spec.specs.Tree.{Pair}
use Rattle.cells.specs.Loop.{turns_ext}
use Rattle.cells.specs.Cells.{filled_length, filled_at}
use Rattle.laws.specs.ListLaws.{range_length}
use Rattle.slots.specs.Slots.{with_set}
use Rattle.slots.specs.Writes.{among, leaf_has}
use Rattle.rows.specs.Renewed.{Kept}
use Rattle.tables.specs.Lists.{lists_of}
use Rattle.merging.specs.Connect.{Start}
use Rattle.start.specs.Leaves.{with_leaves, outside_to, with_outside, start_words, with_sizes, put_all, put_length, put_at}
use Rattle.greedynodes.specs.Begin.{Asks, range_at, given, ghost, tree, words₂, kept, begins, prepared}
use Rattle.greedynodes.specs.Counted.{counted_range}
use Rattle.greedynodes.specs.Within.{Laid}

-- ---- fronts of lists ----

-- numbers that were put down one after the other, from the front on
pub put_front : (leaves l : List ℕ) → length leaves ≤ length l → take (length leaves) (put_all (λ i. get_or leaves i 0) l (length leaves)) ≡ leaves
put_front leaves l h =
    let f : ℕ → ℕ = λ i. get_or leaves i 0 in
    let e : length (take (length leaves) (put_all f l (length leaves))) ≡ length leaves = length-take-le (length leaves) (put_all f l (length leaves)) (omega (arith, put_length f l (length leaves))) in
    ext_get_or 0 (take (length leaves) (put_all f l (length leaves))) leaves e (λ i b.
    get_or-take (length leaves) (put_all f l (length leaves)) i 0 (omega (arith, e)) ∙ put_at f l (length leaves) i (omega (arith, e)) (omega (arith, e)))

-- slots that were counted up: at the front stands the range, and the list is as long as it was
module _ (n : ℕ) (live₀ live : List ℕ) (long : n ≤ length live₀) (el : live ≡ put_all (λ i. i) live₀ n) where
  pub live_front : take n live ≡ range n
  live_front = ap (take n) el ∙ counted_range live₀ n long

  pub live_at : (i : ℕ) → i < length (range n) → get_or live i 0 ≡ get_or (range n) i 0
  live_at i h =
      let b : i < n = omega (arith, range_length 0 n) in
      ap (λ (l : List ℕ). get_or l i 0) el ∙ put_at (λ i. i) live₀ n i b (omega arith) ∙ sym (range_at 0 n i b ∙ omega arith)

  pub live_long : length live ≡ length live₀
  live_long = ap length el ∙ put_length (λ i. i) live₀ n

-- filled rows: none is found
module _ (rows₀ rows : List ℕ) (long : 256 ≤ length rows₀) (er : rows ≡ filled (length rows₀) 258) where
  pub rows_long : 256 ≤ length rows
  rows_long = omega (arith, ap length er, filled_length {A = ℕ} (length rows₀) 258)

  pub rows_stale : (u : ℕ) → u < 256 → get_or rows u 0 ≡ 258
  rows_stale u h = ap (λ (l : List ℕ). get_or l u 0) er ∙ filled_at (length rows₀) u 258 0 (omega (arith, long))

-- the leaves that stand at the front of the numbers
pub laid_front : (m : ℕ) (nodes sizes rows₀ rows : List ℕ) → m ≤ 128 → 256 ≤ length nodes → 256 ≤ length sizes → 256 ≤ length rows₀
    → rows ≡ filled (length rows₀) 258 → Laid (take m nodes) nodes sizes rows
laid_front m nodes sizes rows₀ rows few bn bs br er =
    record {
      nodes_long = bn;
      numbers = λ u h. sym (get_or-take m nodes u 0 (omega (arith, h, length-take-le m nodes (omega arith))));
      sizes_long = bs;
      rows_long = rows_long rows₀ rows br er;
      stale = rows_stale rows₀ rows br er;
    }

-- the sets of the start, from the first numbers of a longer list
module _ (W : ℕ) (counts legs l : List ℕ) (m : ℕ) where
  among_front : (n j : ℕ) → n ≤ m → among l 0 n j ≡ among (take m l) 0 n j
  among_front zero j h = refl
  among_front (suc n) j h = ap₂ (λ (b : Bool) (u : ℕ). b || eqb j u) (among_front n j (omega arith)) (sym (get_or-take m l (0 + n) 0 (omega arith)))

  leaves_front : (ws : List ℕ) → with_leaves W counts legs l ws m ≡ with_leaves W counts legs (take m l) ws m
  unfolding with_leaves
  leaves_front ws = turns_ext _ _ ws m (λ k t h. ap (λ (u : ℕ). with_set t W k (leaf_has counts legs u)) (sym (get_or-take m l k 0 h)))

  pub words_front : (n : ℕ) (outputs ws : List ℕ) → m ≤ length l
      → with_leaves W counts legs l (outside_to W counts legs (with_set ws W 257 (among l 0 m)) outputs n) m ≡ start_words W n counts legs outputs (take m l) ws
  unfolding start_words with_outside
  words_front n outputs ws h =
      let e : length (take m l) ≡ m = length-take-le m l h in
      leaves_front (outside_to W counts legs (with_set ws W 257 (among l 0 m)) outputs n)
      ∙ ap (λ (x : List ℕ). with_leaves W counts legs (take m l) (outside_to W counts legs x outputs n) m)
      (ap (with_set ws W 257) (fun_ext (λ j. among_front m j (omega arith)) ∙ ap (among (take m l) 0) (sym e)))
      ∙ ap (with_leaves W counts legs (take m l) (with_outside W counts legs (take m l) ws outputs n)) (sym e)

-- ---- the start ----

module _ (N : Network) (a : List Pair) (W n made : ℕ) (weights counts cells outputs leaves kids : List ℕ)
    (asks : Asks N a n made weights counts cells outputs leaves kids) (fits : length weights ≤ W * 64) (few_leaves : n ≤ W * 64)
    (few : length leaves ≤ 128) (ws₀ : List ℕ) (room : 258 * W + W ≤ length ws₀)
  where
    pub kept_filled : (rows₀ rows : List ℕ) → 256 ≤ length rows₀ → rows ≡ filled (length rows₀) 258
        → Kept N (length leaves) (tree N a W n made weights counts cells outputs leaves kids asks fits few_leaves few ws₀ room) (range (length leaves)) (length leaves) rows
    kept_filled rows₀ rows br er =
        kept N a W n made weights counts cells outputs leaves kids asks fits few_leaves few ws₀ room rows (rows_long rows₀ rows br er) (rows_stale rows₀ rows br er)

    pub begins_front : (sizes₀ live₀ rows₀ : List ℕ) → 256 ≤ length sizes₀ → 256 ≤ length live₀ → 256 ≤ length rows₀
        → (nodes sizes live rows : List ℕ) → 256 ≤ length nodes → ((u : ℕ) → u < length leaves → get_or nodes u 0 ≡ get_or leaves u 0)
        → sizes ≡ with_sizes (words₂ N a W n made weights counts cells outputs leaves kids asks fits few_leaves few ws₀ room) W weights sizes₀ (length leaves)
        → live ≡ put_all (λ i. i) live₀ (length leaves) → rows ≡ filled (length rows₀) 258
        → Start (given N a W n made weights counts cells outputs leaves kids asks fits few_leaves few ws₀ room) (ghost N a W n made weights counts cells outputs leaves kids asks fits few_leaves few ws₀ room)
        (lists_of (words₂ N a W n made weights counts cells outputs leaves kids asks fits few_leaves few ws₀ room) nodes sizes (take (length leaves) live) rows) W n (length leaves) made weights kids
    begins_front sizes₀ live₀ rows₀ bs bl br nodes sizes live rows bn en es el er =
        begins N a W n made weights counts cells outputs leaves kids asks fits few_leaves few ws₀ room sizes₀ bs nodes sizes (take (length leaves) live) rows bn en es
        (live_front (length leaves) live₀ live (omega arith) el) (rows_long rows₀ rows br er) (rows_stale rows₀ rows br er)

    -- the lists, prepared in longer ones
    pub prepared_front : (sizes₀ live₀ rows₀ : List ℕ) → 256 ≤ length sizes₀ → 256 ≤ length live₀ → 256 ≤ length rows₀
        → (words nodes sizes live rows : List ℕ) → words ≡ start_words W n counts cells outputs leaves ws₀ → 256 ≤ length nodes
        → ((u : ℕ) → u < length leaves → get_or nodes u 0 ≡ get_or leaves u 0)
        → sizes ≡ with_sizes words W weights sizes₀ (length leaves) → live ≡ put_all (λ i. i) live₀ (length leaves) → rows ≡ filled (length rows₀) 258
        → Start (given N a W n made weights counts cells outputs leaves kids asks fits few_leaves few ws₀ room) (ghost N a W n made weights counts cells outputs leaves kids asks fits few_leaves few ws₀ room)
        (lists_of words nodes sizes (take (length leaves) live) rows) W n (length leaves) made weights kids
    prepared_front sizes₀ live₀ rows₀ bs bl br words nodes sizes live rows ew bn en es el er =
        prepared N a W n made weights counts cells outputs leaves kids asks fits few_leaves few ws₀ room sizes₀ bs words nodes sizes (take (length leaves) live) rows ew bn en es
        (live_front (length leaves) live₀ live (omega arith) el) (rows_long rows₀ rows br er) (rows_stale rows₀ rows br er)
