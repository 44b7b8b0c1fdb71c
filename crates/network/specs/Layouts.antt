-- Laws of networks as lists with counts: what they hold, and one weight, leaf or output more. Assumes nothing.
use Rattle.std.specs.Prelude.{◌≡◌, ℕ, ◌+◌, ◌*◌, ◌≤◌, ◌<◌, length, get_or, set, take, drop}
use Rattle.std.proofs.Math.Path.{refl, ap, ap₂}
use Rattle.std.proofs.Common.{sym, ◌∙◌, arith, ext_get_or, get_or-take, get_or-drop, get_or-set_same, get_or-set_other, length-take-le}
use mathlib.Core.List.{List, [], ◌∷◌, ◌++◌, map}
use Rattle.std.proofs.Math.Seq.{take-length}
use Rattle.spec.specs.Lists.{range}
use Rattle.spec.specs.Memory.{placed}
use Rattle.spec.specs.Network.{leaf_count, index_count, weight, legs, max_legs}
use Rattle.spec.specs.Layout.{firsts, row_at, network_of}
use Rattle.spec.specs.Building.{with_weight, with_leaf, with_output}
use Rattle.laws.specs.LayoutLaws.{map_range_at, map_range_length, firsts_length, firsts_at, firsts_more, map-range_more}
use Rattle.cells.specs.Cells.{placed_nothing_before, placed_there}
use Rattle.network.specs.declared.Network.{Network as Record}
use Rattle.network.specs.Record.{net_of}

-- two functions that agree below n
pub map-range_ext : {A : Type 0} (d : A) (f g : ℕ → A) (n : ℕ) → ((i : ℕ) → i < n → f i ≡ g i) → map f (range n) ≡ map g (range n)
map-range_ext d f g n h =
    ext_get_or d (map f (range n)) (map g (range n)) (map_range_length f n ∙ sym (map_range_length g n))
    (λ i l.
    let b : i < n = omega (arith, map_range_length f n) in
    map_range_at f d n i b ∙ h i b ∙ sym (map_range_at g d n i b))

-- ---- the first n numbers of a list ----

-- lists that agree below n
pub firsts_same : (n : ℕ) (a b : List ℕ) → ((i : ℕ) → i < n → get_or a i 0 ≡ get_or b i 0) → firsts n a ≡ firsts n b
unfolding firsts
firsts_same n a b h = map-range_ext 0 (λ k. get_or a k 0) (λ k. get_or b k 0) n h

-- where the list is long enough, they are its first n
pub firsts-take : (n : ℕ) (l : List ℕ) → n ≤ length l → firsts n l ≡ take n l
firsts-take n l h =
    let t : length (take n l) ≡ n = length-take-le n l h in
    ext_get_or 0 (firsts n l) (take n l) (firsts_length n l ∙ sym t)
    (λ i b.
    let c : i < n = omega (arith, firsts_length n l) in
    firsts_at n l i c ∙ sym (get_or-take n l i 0 c))

pub firsts_all : (l : List ℕ) → firsts (length l) l ≡ l
firsts_all l = firsts-take (length l) l (omega arith) ∙ take-length l

-- ---- a list written into another ----

-- before it and after it nothing changes, and within it is there
pub placed_before_at : (d s : List ℕ) (at i : ℕ) → i < at → get_or (placed d at s) i 0 ≡ get_or d i 0
placed_before_at d s at i h =
    sym (get_or-take at (placed d at s) i 0 h) ∙ ap (λ (l : List ℕ). get_or l i 0) (placed_nothing_before d s at) ∙ get_or-take at d i 0 h

pub placed_within_at : (d s : List ℕ) (at i : ℕ) → at + length s ≤ length d → i < length s → get_or (placed d at s) (at + i) 0 ≡ get_or s i 0
placed_within_at d s at i h b =
    sym (get_or-drop at (placed d at s) i 0)
    ∙ sym (get_or-take (length s) (drop at (placed d at s)) i 0 b)
    ∙ ap (λ (l : List ℕ). get_or l i 0) (placed_there d s at h)

-- a list written where it fits: its numbers, from there on
pub firsts-placed : (d s : List ℕ) (at : ℕ) → at + length s ≤ length d → firsts (length s) (drop at (placed d at s)) ≡ s
firsts-placed d s at h =
    firsts_same (length s) (drop at (placed d at s)) s (λ i b. get_or-drop at (placed d at s) i 0 ∙ placed_within_at d s at i h b) ∙ firsts_all s

pub firsts_whole : (d s : List ℕ) → length s ≤ length d → firsts (length s) (placed d 0 s) ≡ s
firsts_whole d s h = firsts-placed d s 0 (omega arith)

-- one number more at the end of the first n
pub firsts_put : (n : ℕ) (l : List ℕ) (x : ℕ) → n < length l → firsts (n + 1) (set l n x) ≡ firsts n l ++ (x ∷ [])
firsts_put n l x h =
    let a : firsts n (set l n x) ≡ firsts n l = firsts_same n (set l n x) l (λ i b. get_or-set_other l n i x 0 (λ e. omega arith)) in
    let e : get_or (set l n x) n 0 ≡ x = get_or-set_same l n x 0 h in
    firsts_more n (set l n x) ∙ ap₂ (λ (p : List ℕ) (y : ℕ). p ++ (y ∷ [])) a e

-- ---- what a network of lists with counts has ----

module _ (m n o : ℕ) (weights counts cells outputs : List ℕ) where
  pub layout_leaf_count : leaf_count (network_of m n o weights counts cells outputs) ≡ n
  unfolding network_of
  layout_leaf_count = map_range_length (row_at counts cells) n

  pub layout_index_count : index_count (network_of m n o weights counts cells outputs) ≡ m
  unfolding network_of
  layout_index_count = firsts_length m weights

  pub layout_output_count : length (network_of m n o weights counts cells outputs).outputs ≡ o
  unfolding network_of
  layout_output_count = firsts_length o outputs

  pub layout_weights : (network_of m n o weights counts cells outputs).weights ≡ firsts m weights
  unfolding network_of
  layout_weights = refl

  pub layout_outputs : (network_of m n o weights counts cells outputs).outputs ≡ firsts o outputs
  unfolding network_of
  layout_outputs = refl

  pub layout_weight : (j : ℕ) → j < m → weight (network_of m n o weights counts cells outputs) j ≡ get_or weights j 0
  unfolding network_of
  layout_weight j h = firsts_at m weights j h

  pub layout_legs : (i : ℕ) → i < n → legs (network_of m n o weights counts cells outputs) i ≡ row_at counts cells i
  unfolding network_of
  layout_legs i h = map_range_at (row_at counts cells) [] n i h

  pub layout_leg_count : (i : ℕ) → i < n → length (legs (network_of m n o weights counts cells outputs) i) ≡ get_or counts i 0
  layout_leg_count i h = ap length (layout_legs i h) ∙ firsts_length (get_or counts i 0) (drop (i * max_legs) cells)

  -- index k of leaf i
  pub layout_leg : (i k : ℕ) → i < n → k < get_or counts i 0
      → get_or (legs (network_of m n o weights counts cells outputs) i) k 0 ≡ get_or cells (i * max_legs + k) 0
  layout_leg i k h b =
      ap (λ (l : List ℕ). get_or l k 0) (layout_legs i h)
      ∙ firsts_at (get_or counts i 0) (drop (i * max_legs) cells) k b
      ∙ get_or-drop (i * max_legs) cells k 0

  pub layout_output : (k : ℕ) → k < o → get_or (network_of m n o weights counts cells outputs).outputs k 0 ≡ get_or outputs k 0
  unfolding network_of
  layout_output k h = firsts_at o outputs k h

  -- ---- one more ----

  pub layout_more_weights : (w : ℕ) → m < length weights
      → network_of (m + 1) n o (set weights m w) counts cells outputs ≡ with_weight (network_of m n o weights counts cells outputs) w
  unfolding network_of
  layout_more_weights w h =
      ap (λ (l : List ℕ). record { leaves = map (row_at counts cells) (range n); outputs = firsts o outputs; weights = l }) (firsts_put m weights w h)

  pub layout_more_outputs : (j : ℕ) → o < length outputs
      → network_of m n (o + 1) weights counts cells (set outputs o j) ≡ with_output (network_of m n o weights counts cells outputs) j
  unfolding network_of
  layout_more_outputs j h =
      ap (λ (l : List ℕ). record { leaves = map (row_at counts cells) (range n); outputs = l; weights = firsts m weights }) (firsts_put o outputs j h)

  module _ (row : List ℕ) (few : (i : ℕ) → i < n → get_or counts i 0 ≤ max_legs) (place : n < length counts)
      (room : n * max_legs + max_legs ≤ length cells) (fits : length row ≤ max_legs) where
    old_row : (i : ℕ) → i < n → row_at (set counts n (length row)) (placed cells (n * max_legs) row) i ≡ row_at counts cells i
    old_row i h =
        let c : get_or (set counts n (length row)) i 0 ≡ get_or counts i 0 = get_or-set_other counts n i (length row) 0 (λ e. omega arith) in
        ap (λ (k : ℕ). firsts k (drop (i * max_legs) (placed cells (n * max_legs) row))) c
        ∙ firsts_same (get_or counts i 0) (drop (i * max_legs) (placed cells (n * max_legs) row)) (drop (i * max_legs) cells)
        (λ k b.
        let a : i * max_legs + k < n * max_legs = omega (arith, few i h) in
        get_or-drop (i * max_legs) (placed cells (n * max_legs) row) k 0
        ∙ placed_before_at cells row (n * max_legs) (i * max_legs + k) a
        ∙ sym (get_or-drop (i * max_legs) cells k 0))

    new_row : row_at (set counts n (length row)) (placed cells (n * max_legs) row) n ≡ row
    new_row =
        ap (λ (k : ℕ). firsts k (drop (n * max_legs) (placed cells (n * max_legs) row))) (get_or-set_same counts n (length row) 0 place)
        ∙ firsts-placed cells row (n * max_legs) (omega arith)

    pub layout_more_leaves :
        network_of m (n + 1) o weights (set counts n (length row)) (placed cells (n * max_legs) row) outputs
        ≡ with_leaf (network_of m n o weights counts cells outputs) row
    unfolding network_of
    layout_more_leaves =
        let f = row_at (set counts n (length row)) (placed cells (n * max_legs) row) in
        let a : map f (range n) ≡ map (row_at counts cells) (range n) = map-range_ext [] f (row_at counts cells) n old_row in
        let e : map f (range (n + 1)) ≡ map (row_at counts cells) (range n) ++ (row ∷ [])
        = map-range_more f n ∙ ap₂ (λ (p : List (List ℕ)) (x : List ℕ). p ++ (x ∷ [])) a new_row in
        ap (λ (l : List (List ℕ)). record { leaves = l; outputs = firsts o outputs; weights = firsts m weights }) e

-- no leaf, no weight, no output
pub layout_empty : (weights counts cells outputs : List ℕ) → network_of 0 0 0 weights counts cells outputs ≡ record { leaves = []; outputs = []; weights = [] }
unfolding network_of firsts
layout_empty weights counts cells outputs = refl

-- ---- a record's network ----

pub leaf_count_lem : (R : Record) → leaf_count (net_of R) ≡ R.leaf_count
unfolding net_of
leaf_count_lem R = layout_leaf_count R.index_count R.leaf_count R.output_count R.weights R.leg_counts R.legs R.outputs

-- ---- lists of which the first places are in use ----

module _ (m n o : ℕ) (weights counts cells outputs : List ℕ) (weighed : m ≤ length weights) (counted : n ≤ length counts) (named : o ≤ length outputs) where
  front_row : (i : ℕ) → i < n → row_at (take n counts) cells i ≡ row_at counts cells i
  front_row i h = ap (λ (k : ℕ). firsts k (drop (i * max_legs) cells)) (get_or-take n counts i 0 h)

  pub layout_front :
      network_of (length (take m weights)) (length (take n counts)) (length (take o outputs)) (take m weights) (take n counts) cells (take o outputs)
      ≡ network_of m n o weights counts cells outputs
  unfolding network_of
  layout_front =
      let leaves : map (row_at (take n counts) cells) (range n) ≡ map (row_at counts cells) (range n)
      = map-range_ext [] (row_at (take n counts) cells) (row_at counts cells) n front_row in
      let outs : firsts o (take o outputs) ≡ firsts o outputs = firsts_same o (take o outputs) outputs (λ i b. get_or-take o outputs i 0 b) in
      let bits : firsts m (take m weights) ≡ firsts m weights = firsts_same m (take m weights) weights (λ i b. get_or-take m weights i 0 b) in
      (λ j. network_of
      (length-take-le m weights weighed j)
      (length-take-le n counts counted j)
      (length-take-le o outputs named j)
      (take m weights)
      (take n counts)
      cells
      (take o outputs))
      ∙ (λ j. record { leaves = leaves j; outputs = outs j; weights = bits j })
