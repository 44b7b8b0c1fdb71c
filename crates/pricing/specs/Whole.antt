-- From the nodes' sets and effective weights to the price list and the answer. Assumes nothing.
use Rattle.std.specs.Prelude.{Bool, cond, ◌≡◌, eqb, length, None, Some}
use Rattle.std.proofs.Math.Bool.{true}
use Rattle.std.proofs.Math.Path.{refl, sym, ap, ap₂}
use Rattle.std.proofs.Common.{◌∙◌, subst, arith, le-ltb, eq-eqb, ne_eqb}
use mathlib.Core.List.{List, [], ◌∷◌, map, map-append, map-map}
use Prim.Native.Nat.{ℕ, ◌+◌, ◌-◌, ◌*◌, ◌^◌, ◌≤◌, ◌<◌, max}
use Rattle.std.proofs.Math.Decide.{ℕ_discrete}
use Rattle.std.proofs.Math.ListN.{get_or}
use Rattle.spec.specs.Lists.{memb, from, range, sum_of}
use Rattle.spec.specs.Memory.{over}
use Rattle.spec.specs.Layout.{firsts}
use Rattle.spec.specs.Network.{Network, leaf_count, index_count, legs}
use Rattle.spec.specs.NetworkClaims.{Accepted}
use Rattle.spec.specs.Tree.{pairs_of, step_order}
use Rattle.spec.specs.Price.{Step, list_at, bits, children_at, step_at, listing, flat_steps, size_at, work_at, work, largest, widest}
use Rattle.spec.specs.Calls.{flag_at}
use Rattle.laws.specs.Booleans.{or_intror}
use Rattle.laws.specs.ListLaws.{memb_head, from_memb, sum_map, sum_same_from}
use Rattle.laws.specs.Counts.{sum_same}
use Rattle.laws.specs.OrderLaws.{largest_same}
use Rattle.laws.specs.LayoutLaws.{firsts_length}
use Rattle.laws.specs.FlatLaws.{pairs_length, pair_left, pair_right, left_of, right_of}
use Rattle.slots.specs.Slots.{held}
use Rattle.slots.specs.Weigh.{open_weight, either}
use Rattle.nodesets.specs.Passes.{nodes}
use Rattle.nodesets.specs.FlatTree.{flat_tree}
use Rattle.nodesets.specs.Steps.{Steps}
use Rattle.nodesets.specs.Flow.{leaf_tree}
use Rattle.nodesets.specs.Lists.{Ordered, ordered_steps, ordered_inners}
use Rattle.nodebits.specs.Bits.{Effective, size_of, node_work}
use Rattle.nodebits.specs.Stepped.{over_front}
use Rattle.pricing.specs.Answers.{widest_in}
use Rattle.pricing.specs.Sums.{work_sum, from-add, largest-append}
use Rattle.pricing.specs.Lines.{lines}
use Rattle.pricing.specs.Nodes.{nested, size_is, leaf_is, works_is}
use Rattle.pricing.specs.Tables.{node_counts, map_same_from, leaves_are}

-- the step order's nodes and their children are the listing's; x is the number of leaves
pub record InOrder (N : Network) (x : ℕ) (kids order flags : List ℕ) : Type 0 where
  pub leaf_count_lem : leaf_count N ≡ x
  pub steps : Steps x kids order
  pub lefts : (v : ℕ) → memb v order ≡ true → (children_at N (pairs_of kids) v).left ≡ left_of kids x v
  pub rights : (v : ℕ) → memb v order ≡ true → (children_at N (pairs_of kids) v).right ≡ right_of kids x v
  pub listed : listing N (flag_at flags) (pairs_of kids) ≡ map (step_at N (flag_at flags) (pairs_of kids)) order

ordered_core : (N : Network) (kids order flags : List ℕ) → Ordered (leaf_count N) kids order → InOrder N (leaf_count N) kids order flags
unfolding listing step_order
ordered_core N kids order flags o =
    let s = ordered_steps o in
    record {
      leaf_count_lem = refl;
      steps = s;
      lefts = λ v m. pair_left kids (v - leaf_count N) (omega (arith, pairs_length kids, s.inner v m));
      rights = λ v m. pair_right kids (v - leaf_count N) (omega (arith, pairs_length kids, s.inner v m));
      listed = ap (map (step_at N (flag_at flags) (pairs_of kids))) (sym o.in_order);
    }

pub in_order : (N : Network) (kids order flags : List ℕ) (x : ℕ) → leaf_count N ≡ x → Ordered x kids order → InOrder N x kids order flags
in_order N kids order flags x e o =
    subst (λ (y : ℕ). Ordered y kids order → InOrder N y kids order flags) e (ordered_core N kids order flags) o

-- each node's slot and weights are the price list's
pub record NodesRight (N : Network) (x W : ℕ) (kids order sets flags effective : List ℕ) : Type 0 where
  pub steps : Steps x kids order
  pub nests : (v j : ℕ) → memb v order ≡ true → j < W * 64 → held sets W v j ≡ true → either sets W (left_of kids x v) (right_of kids x v) j ≡ true
  pub leaves : (i : ℕ) → i < x → size_of effective sets W i ≡ sum_of (open_weight effective []) (legs N i)
  pub sizes : (v : ℕ) → v < nodes x kids → size_of effective sets W v ≡ size_at N (flag_at flags) (pairs_of kids) v
  pub works : (v : ℕ) → v < nodes x kids → node_work effective sets kids W x v ≡ work_at N (flag_at flags) (pairs_of kids) v

abbrev pub Holds : Network → ℕ → ℕ → List ℕ → List ℕ → Type 0
Holds N x W kids sets = (v j : ℕ) → v < nodes x kids → j < W * 64 → held sets W v j ≡ memb j (list_at N (pairs_of kids) v)

module _ (N : Network) (W : ℕ) (kids order sets flags effective : List ℕ) (acc : Accepted N) (fits : index_count N ≤ W * 64)
    (eff : Effective N.weights flags effective) where
  core : Ordered (leaf_count N) kids order → Holds N (leaf_count N) W kids sets → NodesRight N (leaf_count N) W kids order sets flags effective
  core o h =
      let s = ordered_steps o in
      let i = ordered_inners o in
      record {
        steps = s;
        nests = nested N kids order sets W s i acc fits h;
        leaves = leaf_is N kids order sets W s i acc fits h flags effective eff;
        sizes = size_is N kids order sets W s i acc fits h flags effective eff;
        works = works_is N kids order sets W s i acc fits h flags effective eff;
      }

  pub nodes_right : (x : ℕ) → leaf_count N ≡ x → Ordered x kids order → Holds N x W kids sets → NodesRight N x W kids order sets flags effective
  nodes_right x e o h =
      subst (λ (y : ℕ). Ordered y kids order → Holds N y W kids sets → NodesRight N y W kids order sets flags effective) e core o h

-- ---- what the loops found ----

module _ {N : Network} {x W : ℕ} {kids order sets flags effective : List ℕ} (r : NodesRight N x W kids order sets flags effective)
    (old new : List ℕ) where
  pub sizes_are : new ≡ over old (map (size_of effective sets W) (range (nodes x kids)))
      → new ≡ over old (map (size_at N (flag_at flags) (pairs_of kids)) (range (nodes x kids)))
  sizes_are e = e ∙ ap (over old) (map_same_from _ _ 0 (nodes x kids) (λ v b h. r.sizes v (omega arith)))

  pub works_are : new ≡ over old (map (node_work effective sets kids W x) (range (nodes x kids)))
      → new ≡ over old (map (work_at N (flag_at flags) (pairs_of kids)) (range (nodes x kids)))
  works_are e = e ∙ ap (over old) (map_same_from _ _ 0 (nodes x kids) (λ v b h. r.works v (omega arith)))

-- ---- what the filled lists hold ----

module _ {N : Network} {x : ℕ} {kids order flags : List ℕ} (r : InOrder N x kids order flags)
    (sizes₀ works₀ sizes works : List ℕ) (fits_sizes : nodes x kids ≤ length sizes₀) (fits_works : nodes x kids ≤ length works₀)
    (es : sizes ≡ over sizes₀ (map (size_at N (flag_at flags) (pairs_of kids)) (range (nodes x kids))))
    (ew : works ≡ over works₀ (map (work_at N (flag_at flags) (pairs_of kids)) (range (nodes x kids)))) where
  open flat_tree x kids use {m, a}

  abbrev flag : ℕ → Bool
  flag = flag_at flags

  abbrev c : ℕ
  c = length order

  nodes_are : m ≡ x + c
  nodes_are = omega (arith, r.steps.numbers, r.steps.steps)

  size_at_lem : (v : ℕ) → v < m → get_or sizes v 0 ≡ size_at N flag a v
  size_at_lem v h = over_front sizes₀ sizes (size_at N flag a) m fits_sizes es v h

  work_at_lem : (v : ℕ) → x ≤ v → v < m → get_or works v 0 ≡ (step_at N flag a v).work_bits
  work_at_lem v b h =
      over_front works₀ works (work_at N flag a) m fits_works ew v h
      ∙ rw (le-ltb v (leaf_count N) (omega (arith, r.leaf_count_lem)))

  -- the listing
  lines_are : (l : List ℕ) → ((v : ℕ) → memb v l ≡ true → memb v order ≡ true)
      → lines (left_of kids x) (right_of kids x) works sizes l ≡ flat_steps (map (step_at N flag a) l)
  unfolding lines flat_steps
  lines_are [] h = refl
  lines_are (v ∷ l) h =
      let o = h v (memb_head v l) in
      let i = r.steps.inner v o in
      rw (work_at_lem v i.0 i.1, size_at_lem v i.1, ← (r.lefts v o), ← (r.rights v o), lines_are l (λ u m. h u (or_intror (eqb u v) (memb u l) m)))

  pub steps_are : lines (left_of kids x) (right_of kids x) works sizes order ≡ flat_steps (listing N flag a)
  steps_are = lines_are order (λ v h. h) ∙ ap flat_steps (sym r.listed)

  -- the total
  pub total_is : work_sum works x c ≡ work (listing N flag a)
  unfolding work_sum
  total_is =
      sum_same_from (λ v. 2 ^ get_or works v 0) (λ v. 2 ^ (step_at N flag a v).work_bits) x c
      (λ v b h. ap (λ (y : ℕ). 2 ^ y) (work_at_lem v b (omega (arith, nodes_are))))
      ∙ sum_same m (λ v. 2 ^ (step_at N flag a v).work_bits) (from x c) order
      (λ v e. omega (arith, nodes_are, from_low v e))
      (λ v e. (r.steps.inner v e).1)
      (node_counts c r.steps nodes_are)
      ∙ sym (sum_map (λ s. 2 ^ s.work_bits) (step_at N flag a) order)
      ∙ ap work (sym r.listed)
    where
      from_low : (v : ℕ) → memb v (from x c) ≡ true → v < x + c
      from_low v e = from_memb v x c e

  -- the widest
  widest_split : largest (firsts m sizes) ≡ max (largest (map (bits N flag) N.leaves)) (largest (map (λ s. s.size_bits) (listing N flag a)))
  unfolding firsts
  widest_split =
      ap largest (map_same_from (λ k. get_or sizes k 0) (size_at N flag a) 0 m (λ v b h. size_at_lem v (omega arith))
      ∙ ap (λ (y : ℕ). map (size_at N flag a) (range y)) nodes_are
      ∙ ap (map (size_at N flag a)) (from-add 0 x c)
      ∙ map-append (size_at N flag a) (range x) (from (0 + x) c))
      ∙ largest-append (map (size_at N flag a) (range x)) (map (size_at N flag a) (from (0 + x) c))
      ∙ ap₂ max (ap largest on_leaves) on_nodes
    where
      on_leaves : map (size_at N flag a) (range x) ≡ map (bits N flag) N.leaves
      on_leaves =
          map_same_from (size_at N flag a) (λ i. bits N flag (legs N i)) 0 x
          (λ i b h. rw (leaf_tree N a i (omega (arith, r.leaf_count_lem))))
          ∙ sym (map-map (bits N flag) (legs N) (range x))
          ∙ ap (λ (y : ℕ). map (bits N flag) (map (legs N) (range y))) (sym r.leaf_count_lem)
          ∙ ap (map (bits N flag)) (sym (leaves_are N))

      on_nodes : largest (map (size_at N flag a) (from (0 + x) c)) ≡ largest (map (λ s. s.size_bits) (listing N flag a))
      on_nodes =
          let z : 0 + x ≡ x = omega arith in
          ap (λ (y : ℕ). largest (map (size_at N flag a) (from y c))) z
          ∙ largest_same (size_at N flag a) (from x c) order (node_counts c r.steps nodes_are)
          ∙ ap largest (sym (map-map (λ s. s.size_bits) (step_at N flag a) order))
          ∙ ap (λ (l : List Step). largest (map (λ s. s.size_bits) l)) (sym r.listed)

  pub widest_is : widest_in (firsts m sizes) ≡ widest N flag (listing N flag a)
  widest_is = ap₂ (λ b y. cond b None (Some y)) no_nodes widest_split
    where
      count : length (firsts m sizes) ≡ m
      count = firsts_length m sizes

      no_nodes : eqb (length (firsts m sizes)) 0 ≡ eqb (leaf_count N) 0
      no_nodes =
          elim (ℕ_discrete (leaf_count N) 0) [
            | yes e ↦ eq-eqb (length (firsts m sizes)) 0 (omega (arith, count, r.leaf_count_lem, r.steps.numbers)) ∙ sym (eq-eqb (leaf_count N) 0 e)
            | no e ↦ ne_eqb (length (firsts m sizes)) 0 (λ q. e (omega (arith, count, r.leaf_count_lem, r.steps.numbers))) ∙ sym (ne_eqb (leaf_count N) 0 e)
          ]
