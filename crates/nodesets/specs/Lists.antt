-- After the passes each node's slot holds exactly the node's list, in the terms of the lent lists. Assumes nothing.
use Rattle.std.specs.Prelude.{◌≡◌, true, List, length, get_or}
use Rattle.std.proofs.Math.Path.{refl}
use Rattle.std.proofs.Common.{sym, ◌∙◌, ap, subst, arith, mul-le-mul_right}
use Prim.Native.Nat.{ℕ, zero, suc, ◌+◌, ◌-◌, ◌*◌, ◌≤◌, ◌<◌}
use Rattle.cells.specs.Loop.{turns}
use Rattle.slots.specs.Slots.{held, with_set, Words, with_set_length, with_set_outside, held_with, next_slot}
use Rattle.slots.specs.Writes.{among, leaf_has}
use Rattle.spec.specs.Lists.{memb}
use Rattle.spec.specs.Network.{Network, leaf_count, legs, InRange}
use Rattle.spec.specs.Tree.{pairs_of, step_order, valid, root}
use Rattle.spec.specs.Layout.{network_of}
use Rattle.spec.specs.Price.{list_at}
use Rattle.laws.specs.Walks.{valid_tree}
use Rattle.laws.specs.Arrays.{Inner, valid_inner}
use Rattle.laws.specs.FlatLaws.{pairs_length, left_of, right_of}
use Rattle.network.specs.Layouts.{layout_leaf_count}
use Rattle.nodesets.specs.Passes.{nodes, with_sets, ups, downs, cuts}
use Rattle.nodesets.specs.FlatTree.{flat_tree}
use Rattle.nodesets.specs.Sets.{with_sets_length, with_sets_past, held-with_sets, with_sets_is}
use Rattle.nodesets.specs.Steps.{Steps, valid_steps, at_inner}
use Rattle.nodesets.specs.Turns.{ups_length, cuts_length}
use Rattle.nodesets.specs.Reads.{reads_leaf, reads_output}
use Rattle.nodesets.specs.Flow.{wanted, wanted-root}
use Rattle.nodesets.specs.Right.{Right, lists_right}

-- a valid tree of n leaves, and its step order
pub record Ordered (n : ℕ) (kids order : List ℕ) : Type 0 where
  pub is_valid : valid n (pairs_of kids) ≡ true
  pub in_order : order ≡ step_order kids n

pub ordered_steps : {n : ℕ} {kids order : List ℕ} → Ordered n kids order → Steps n kids order
ordered_steps {n} {kids} {order} p = valid_steps n kids order p.is_valid p.in_order

pub ordered_inners : {n : ℕ} {kids order : List ℕ} → Ordered n kids order → (v : ℕ) → n ≤ v → v < nodes n kids → Inner n (pairs_of kids) v
ordered_inners {n} {kids} {order} p v b h =
    let (t, w, ok) = valid_tree n (pairs_of kids) (omega (arith, (ordered_steps p).numbers)) p.is_valid in
    valid_inner n (pairs_of kids) t ok v b (omega (arith, pairs_length kids))

-- slot v is the list of node v, for every node, and every other word is as it was; whatever the weights are
abbrev pub SetsAre : (W n o : ℕ) (counts legs outputs kids sets₀ sets : List ℕ) → Type 0
SetsAre W n o counts legs outputs kids sets₀ sets =
    (m : ℕ) (weights : List ℕ) → InRange (network_of m n o weights counts legs outputs)
    → sets ≡ with_sets sets₀ W (λ v j. memb j (list_at (network_of m n o weights counts legs outputs) (pairs_of kids) v)) (nodes n kids)

-- ---- the passes change no word past the nodes' slots ----

module _ {n : ℕ} {kids order : List ℕ} (s : Steps n kids order) (W : ℕ) where
  past_slot : (v i : ℕ) → v < nodes n kids → nodes n kids * W ≤ i → (k : ℕ) → k < W → i ≡ v * W + k → ⊥
  past_slot v i h b k q e = omega (arith, next_slot v (nodes n kids) W h)

  module _ (L R : ℕ → ℕ) where
    ups_past : (k i : ℕ) (ws : List ℕ) → k ≤ length order → nodes n kids * W ≤ i → get_or (ups W L R order ws k) i 0 ≡ get_or ws i 0
    unfolding ups turns
    ups_past zero i ws h b = refl
    ups_past (suc k) i ws h b =
        with_set_outside (ups W L R order ws k) W (get_or order k 0) _ i (past_slot (get_or order k 0) i (at_inner s k h).1 b)
        ∙ ups_past k i ws (omega arith) b

  cuts_past : (outside : List ℕ) (k i : ℕ) (ws : List ℕ) → k ≤ length order → nodes n kids * W ≤ i
      → get_or (cuts W order outside ws k) i 0 ≡ get_or ws i 0
  unfolding cuts turns
  cuts_past outside zero i ws h b = refl
  cuts_past outside (suc k) i ws h b =
      with_set_outside (cuts W order outside ws k) W (get_or order k 0) _ i (past_slot (get_or order k 0) i (at_inner s k h).1 b)
      ∙ cuts_past outside k i ws (omega arith) b

-- ---- the passes, one after the other ----

pub record Passed (W n o : ℕ) (counts legs outputs kids order sets₀ outside₀ sets : List ℕ) : Type 0 where
  -- the leaves' sets; the outputs, at the root
  pub leaves : List ℕ
  pub outs : List ℕ
  -- up; down
  pub joins : List ℕ
  pub wants : List ℕ
  pub leaves_are : leaves ≡ with_sets sets₀ W (leaf_has counts legs) n
  pub outs_are : outs ≡ with_set outside₀ W (nodes n kids - 1) (among outputs 0 o)
  pub joins_are : joins ≡ ups W (left_of kids n) (right_of kids n) order leaves (length order)
  pub wants_are : wants ≡ downs W (left_of kids n) (right_of kids n) order joins outs (length order)
  pub sets_are : sets ≡ cuts W order wants joins (length order)

-- what is asked beside them
pub record Sound (W n : ℕ) (kids order sets₀ outside₀ sets : List ℕ) : Type 0 where
  pub ordered : Ordered n kids order
  pub room : nodes n kids * W ≤ length sets₀
  pub room_outside : nodes n kids * W ≤ length outside₀
  pub words : Words sets

module _ (N : Network) (W o : ℕ) (counts rows outputs kids order sets₀ outside₀ sets : List ℕ) (ir : InRange N)
    (leaf_is : (i j : ℕ) → i < leaf_count N → leaf_has counts rows i j ≡ memb j (legs N i))
    (output_is : (j : ℕ) → among outputs 0 o j ≡ memb j N.outputs)
    (q : Sound W (leaf_count N) kids order sets₀ outside₀ sets)
    (p : Passed W (leaf_count N) o counts rows outputs kids order sets₀ outside₀ sets) where
  open flat_tree (leaf_count N) kids use {n, m, a}

  steps : Steps n kids order
  steps = ordered_steps q.ordered

  leaf_room : n * W ≤ length sets₀
  leaf_room = omega (arith, q.room, mul-le-mul_right {m = n} {n = m} W (omega arith))

  leaves_length : length p.leaves ≡ length sets₀
  leaves_length = ap length p.leaves_are ∙ with_sets_length sets₀ W (leaf_has counts rows) n

  joins_length : length p.joins ≡ length sets₀
  joins_length = ap length p.joins_are ∙ ups_length W (left_of kids n) (right_of kids n) order (length order) p.leaves ∙ leaves_length

  sets_length : length sets ≡ length sets₀
  sets_length = ap length p.sets_are ∙ cuts_length W order p.wants (length order) p.joins ∙ joins_length

  stays : (i : ℕ) → m * W ≤ i → get_or sets i 0 ≡ get_or sets₀ i 0
  stays i h =
      ap (λ (l : List ℕ). get_or l i 0) p.sets_are
      ∙ cuts_past steps W p.wants (length order) i p.joins (omega arith) h
      ∙ ap (λ (l : List ℕ). get_or l i 0) p.joins_are
      ∙ ups_past steps W (left_of kids n) (right_of kids n) (length order) i p.leaves (omega arith) h
      ∙ ap (λ (l : List ℕ). get_or l i 0) p.leaves_are
      ∙ with_sets_past sets₀ W (leaf_has counts rows) n i (omega (arith, mul-le-mul_right {m = n} {n = m} W (omega arith)))

  leaves_right : Right W (λ i j. memb j (legs N i)) (λ i. i < n) p.leaves
  leaves_right i h j b = rw p.leaves_are (held-with_sets sets₀ W (leaf_has counts rows) n i j leaf_room h b ∙ leaf_is i j h)

  -- with one leaf or more
  lists_held : 1 ≤ n → (s j : ℕ) → s < m → j < W * 64 → held sets W s j ≡ memb j (list_at N a s)
  lists_held one s j h b =
      let (t, w, ok) = valid_tree n a one q.ordered.is_valid in
      let em : n + length a ≡ m = omega (arith, pairs_length kids) in
      let et : root n a ≡ m - 1 = omega arith in
      let outs_right : Right W (wanted N a) (λ u. u ≡ m - 1) p.outs =
      λ u e j b. rw (e, p.outs_are)
      (held_with outside₀ W (m - 1) (among outputs 0 o) j (omega (arith, q.room_outside, next_slot (m - 1) m W (omega arith))) b
      ∙ output_is j ∙ sym (wanted-root N a t w ok j) ∙ ap (λ (x : ℕ). wanted N a x j) et) in
      let outs_length : length p.outs ≡ length outside₀ = ap length p.outs_are ∙ with_set_length outside₀ W (m - 1) (among outputs 0 o) in
      rw (p.sets_are, p.wants_are, p.joins_are)
      (lists_right N kids order steps (ordered_inners q.ordered) W ir p.leaves p.outs (omega (arith, q.room, leaves_length)) (omega (arith, q.room_outside, outs_length))
      leaves_right outs_right s h j b)

  pub lists_are : sets ≡ with_sets sets₀ W (λ v j. memb j (list_at N a v)) m
  lists_are =
      with_sets_is sets₀ W (λ v j. memb j (list_at N a v)) m sets q.room sets_length q.words
      (λ s j h b. lists_held (omega (arith, steps.numbers)) s j h b)
      stays

-- EACH NODE'S SLOT HOLDS ITS LIST
pub passed : (W n o : ℕ) (counts legs outputs kids order sets₀ outside₀ sets : List ℕ) → Sound W n kids order sets₀ outside₀ sets
    → Passed W n o counts legs outputs kids order sets₀ outside₀ sets → SetsAre W n o counts legs outputs kids sets₀ sets
passed W n o counts rows outputs kids order sets₀ outside₀ sets q p m weights ir =
    let N = network_of m n o weights counts rows outputs in
    subst
    (λ (x : ℕ). ((i j : ℕ) → i < x → leaf_has counts rows i j ≡ memb j (legs N i))
    → Sound W x kids order sets₀ outside₀ sets
    → Passed W x o counts rows outputs kids order sets₀ outside₀ sets
    → sets ≡ with_sets sets₀ W (λ v j. memb j (list_at N (pairs_of kids) v)) (nodes x kids))
    (layout_leaf_count m n o weights counts rows outputs)
    (λ r q p. lists_are N W o counts rows outputs kids order sets₀ outside₀ sets ir r (reads_output m n o weights counts rows outputs) q p)
    (reads_leaf m n o weights counts rows outputs)
    q p
