-- Lists of which the first places are in use: the fronts of a network's are an accepted network's, that of a tree's pairs is a tree of it, and
-- what pricing leaves of the fronts it leaves of the lists. Assumes nothing.
use Rattle.std.specs.Prelude.{Bool, true, false, ◌≡◌, refl, List, [], ◌∷◌, map, ℕ, suc, ◌*◌, ◌/◌, ◌%◌, ◌≤◌, length, take, replicate, Option, None, Some}
use Rattle.std.proofs.Common.{sym, ◌∙◌, ap, ap₂, subst, arith, ne_eqb, length-take-le, get_or-take}
use Rattle.std.proofs.Math.ListN.{get_or-eq_default}
use Rattle.std.proofs.Math.Decide.{dec_lt}
use Rattle.std.proofs.lemmas.List.{length-replicate}
use Rattle.std.proofs.Math.Seq.{take-length}
use Rattle.spec.specs.Lists.{range}
use Rattle.spec.specs.Layout.{firsts, row_at, network_of}
use Rattle.spec.specs.declared.Refusal.{Refusal}
use Rattle.spec.specs.Refusal.{passes}
use Rattle.spec.specs.Network.{Network, leaf_count, index_count, refusal_of}
use Rattle.spec.specs.Tree.{Pair, pairs_of, tree_at, root, inner_of, step_order, valid}
use Rattle.spec.specs.Calls.{wrong_tree, node_places, step_places}
use Rattle.spec.specs.declared.Prices.{Prices}
use Rattle.laws.specs.Accepted.{accepted_means}
use Rattle.laws.specs.Booleans.{clash}
use Rattle.laws.specs.LayoutLaws.{firsts_length, firsts_is}
use Rattle.spec.specs.Memory.{filled, copied}
use Rattle.cells.specs.Cells.{filled_all, copied_length, copied_at, copied_past}
use Rattle.walk.specs.declared.valid.Tree.{Tree}
use Rattle.network.specs.Lists.{lists_net, Holds}
use Rattle.network.specs.Layouts.{firsts-take, firsts_all, layout_index_count, layout_output_count, layout_front}
use Rattle.network.specs.Views.{net_in}
use Rattle.network.specs.declared.accepted.Accepted.{Accepted}
use Rattle.nodesets.specs.Passes.{nodes}
use Rattle.nodesets.specs.Lists.{ordered_steps}
use Rattle.pricing.specs.declared.fronts.Fronts.{Fronts}
use Rattle.pricing.specs.declared.list.PriceList.{PriceList}
use Rattle.pricing.specs.Lists.{HasRoom}
use Rattle.pricing.specs.Promise.{FitsIn, Priceable, Room, HasLeavesOf, IsOrderOf, Filled, Pricing}
use Rattle.pricing.specs.Final.{leaf_count_lem, places}

-- ---- a tree's list, which may have an odd last place ----

-- the places of the pairs
abbrev pub paired : List ℕ → List ℕ
paired kids = take (2 * (length kids / 2)) kids

pub paired_pairs : (kids : List ℕ) → pairs_of (paired kids) ≡ pairs_of kids
unfolding pairs_of
paired_pairs [] = refl
paired_pairs (x ∷ []) = refl
paired_pairs (x ∷ y ∷ l) =
    let e : 2 * (length (x ∷ y ∷ l) / 2) ≡ suc (suc (2 * (length l / 2))) = omega arith in
    ap (λ (k : ℕ). pairs_of (take k (x ∷ y ∷ l))) e ∙ ap (λ (a : List Pair). record { left = x; right = y } ∷ a) (paired_pairs l)

pub paired_length : (kids : List ℕ) → length (paired kids) ≡ 2 * (length kids / 2)
paired_length kids = length-take-le (2 * (length kids / 2)) kids (omega arith)

pub paired_order : (n : ℕ) (kids : List ℕ) → step_order (paired kids) n ≡ step_order kids n
unfolding step_order
paired_order n kids = ap (λ (a : List Pair). inner_of (tree_at n a (root n a))) (paired_pairs kids)

pub paired_right : (n : ℕ) (kids : List ℕ) → valid n (pairs_of kids) ≡ true → wrong_tree n (paired kids) ≡ false
paired_right n kids h =
    let v : valid n (pairs_of (paired kids)) ≡ true = ap (valid n) (paired_pairs kids) ∙ h in
    rw (ne_eqb (length (paired kids) % 2) 1 (λ q. omega (arith, paired_length kids)), v) refl

-- ---- a network's lists ----

passing : (r : Option Refusal) → passes r ≡ true → r ≡ None
passing None e = refl
passing (Some r) e = clash e refl

-- m weights, n leaves and o outputs; an output past its list is 0
module _ {W m n o : ℕ} {weights counts rows outputs kids order : List ℕ} (p : Priceable W m n o weights counts rows outputs kids order) where
  abbrev N : Network
  N = network_of m n o weights counts rows outputs

  abbrev outs : List ℕ
  outs = firsts o outputs

  all_outs : take o outs ≡ outs
  all_outs = ap (λ (k : ℕ). take k outs) (sym (firsts_length o outputs)) ∙ take-length outs

  same_outs : firsts o outs ≡ outs
  same_outs = ap (λ (k : ℕ). firsts k outs) (sym (firsts_length o outputs)) ∙ firsts_all outs

  of_outs : network_of m n o weights counts rows outs ≡ N
  unfolding network_of
  of_outs = ap (λ (l : List ℕ). record { leaves = map (row_at counts rows) (range n); outputs = l; weights = firsts m weights }) same_outs

  -- the fronts stand for the same network
  pub front_net : lists_net (take m weights) (take n counts) rows (firsts o outputs) ≡ network_of m n o weights counts rows outputs
  front_net =
      ap (λ (l : List ℕ). lists_net (take m weights) (take n counts) rows l) (sym all_outs)
      ∙ layout_front m n o weights counts rows outs p.weight_places p.row_places.counted (omega (arith, firsts_length o outputs))
      ∙ of_outs

  -- which passes the check
  pub front_holds : Holds (take m weights) (take n counts) rows (firsts o outputs)
  front_holds =
      record {
        rows = λ h. omega (arith, p.row_places.room, length-take-le n counts p.row_places.counted);
        passed = ap refusal_of front_net ∙ passing (refusal_of N) ((accepted_means N).1 p.accepted);
      }

  -- the outputs' front as a part of their list, where it is as long as it says
  pub front_net_part : o ≤ length outputs → lists_net (take m weights) (take n counts) rows (take o outputs) ≡ network_of m n o weights counts rows outputs
  front_net_part h = ap (λ (l : List ℕ). lists_net (take m weights) (take n counts) rows l) (sym (firsts-take o outputs h)) ∙ front_net

  pub front_holds_part : o ≤ length outputs → Holds (take m weights) (take n counts) rows (take o outputs)
  front_holds_part h = subst (λ (l : List ℕ). Holds (take m weights) (take n counts) rows l) (firsts-take o outputs h) front_holds

  -- the pairs' front is a tree of it, and passes the check
  pub front_leaves : n ≡ leaf_count (lists_net (take m weights) (take n counts) rows (firsts o outputs))
  front_leaves = sym (ap leaf_count front_net ∙ leaf_count_lem p)

  pub front_width : FitsIn 1024 W
  front_width = (omega (arith, p.narrow), omega arith)

  pub front_few : n ≤ 512
  front_few = omega (arith, leaf_count_lem p, p.accepted.few_leaves)

  pub front_right : wrong_tree n (paired kids) ≡ false
  front_right = paired_right n kids p.ordered.is_valid

  pub front_order : order ≡ step_order (paired kids) n
  front_order = p.ordered.in_order ∙ sym (paired_order n kids)

-- ---- an accepted network and a tree of these fronts ----

pub record AreFronts (m n o : ℕ) (weights counts rows outputs kids : List ℕ) (a : Accepted) (t : Tree) : Type 0 where
  pub weights_are : a.weights.now ≡ take m weights
  pub counts_are : a.leg_counts.now ≡ take n counts
  pub legs_are : a.legs.now ≡ rows
  pub outputs_are : a.outputs.now ≡ firsts o outputs
  pub kids_are : t.kids.now ≡ paired kids
  pub leaves_are : t.leaves ≡ n

module _ {W m n o : ℕ} {weights counts rows outputs kids order : List ℕ} (p : Priceable W m n o weights counts rows outputs kids order)
    {a : Accepted} {t : Tree} (f : AreFronts m n o weights counts rows outputs kids a t) where
  -- they are the lists' network and tree
  pub fronts_net : net_in a ≡ network_of m n o weights counts rows outputs
  fronts_net = (λ i. lists_net (f.weights_are i) (f.counts_are i) (f.legs_are i) (f.outputs_are i)) ∙ front_net p

  pub fronts_pairs : pairs_of t.kids.now ≡ pairs_of kids
  fronts_pairs = ap pairs_of f.kids_are ∙ paired_pairs kids

  -- what pricing asks of them is there
  pub fronts_leaves : HasLeavesOf a t
  fronts_leaves = f.leaves_are ∙ sym (leaf_count_lem p) ∙ ap leaf_count (sym fronts_net)

  pub fronts_order : IsOrderOf t order
  fronts_order = front_order p ∙ ap₂ step_order (sym f.kids_are) (sym f.leaves_are)

  pub fronts_fit : index_count (net_in a) ≤ W * 64
  fronts_fit = omega (arith, p.fits, ap index_count fronts_net, layout_index_count m n o weights counts rows outputs)

  pub fronts_places : node_places (net_in a) ≡ nodes n kids
  fronts_places = ap node_places fronts_net ∙ places p

  pub fronts_outside : {len : ℕ} → nodes n kids * W ≤ len → node_places (net_in a) * W ≤ len
  fronts_outside {len} r = subst (λ (k : ℕ). k * W ≤ len) (sym fronts_places) r

  pub fronts_room : {q : PriceList} → HasRoom W (nodes n kids) q → HasRoom W (node_places (net_in a)) q
  fronts_room {q} r = subst (λ (k : ℕ). HasRoom W k q) (sym fronts_places) r

  pub fronts_steps : {len : ℕ} → length order * 5 ≤ len → step_places (net_in a) * 5 ≤ len
  fronts_steps {len} r =
      let e : length order ≡ step_places (net_in a) = omega (arith, (ordered_steps p.ordered).steps, leaf_count_lem p, ap leaf_count fronts_net) in
      subst (λ (k : ℕ). k * 5 ≤ len) e r

  -- and what it leaves of them it leaves of the lists
  module _ {flag : ℕ → Bool} {sets₀ sizes₀ works₀ sets sizes works : List ℕ} where
    pub fronts_filled : Filled W (net_in a) flag (pairs_of t.kids.now) sets₀ sizes₀ works₀ sets sizes works
        → Filled W (network_of m n o weights counts rows outputs) flag (pairs_of kids) sets₀ sizes₀ works₀ sets sizes works
    fronts_filled q =
        subst (λ (b : List Pair). Filled W (network_of m n o weights counts rows outputs) flag b sets₀ sizes₀ works₀ sets sizes works) fronts_pairs
        (subst (λ (M : Network). Filled W M flag (pairs_of t.kids.now) sets₀ sizes₀ works₀ sets sizes works) fronts_net q)

    pub fronts_pricing : {steps₀ steps : List ℕ} {r : Prices}
        → Pricing W (net_in a) flag (pairs_of t.kids.now) sets₀ sizes₀ works₀ steps₀ sets sizes works steps r
        → Pricing W (network_of m n o weights counts rows outputs) flag (pairs_of kids) sets₀ sizes₀ works₀ steps₀ sets sizes works steps r
    fronts_pricing {steps₀} {steps} {r} q =
        subst (λ (b : List Pair). Pricing W (network_of m n o weights counts rows outputs) flag b sets₀ sizes₀ works₀ steps₀ sets sizes works steps r) fronts_pairs
        (subst (λ (M : Network). Pricing W M flag (pairs_of t.kids.now) sets₀ sizes₀ works₀ steps₀ sets sizes works steps r) fronts_net q)

-- ---- the lists as one value ----

abbrev pub net_of : Fronts → Network
net_of f = network_of f.m f.n f.o f.weights.now f.counts.now f.legs.now f.outputs.now

abbrev pub ArePriceable : ℕ → Fronts → List ℕ → Type 0
ArePriceable W f order = Priceable W f.m f.n f.o f.weights.now f.counts.now f.legs.now f.outputs.now f.kids.now order

-- the lists that are filled are long enough
abbrev pub HaveRoom : ℕ → Fronts → List ℕ → PriceList → (outside steps : ℕ) → Type 0
HaveRoom W f order p outside steps = Room W f.n f.kids.now order outside (length p.sets.now) (length p.sizes.now) (length p.works.now) steps

-- each list has its front, and network and tree of the fronts pass their checks
pub record HasFronts (f : Fronts) : Type 0 where
  pub weights : f.m ≤ length f.weights.now
  pub counts : f.n ≤ length f.counts.now
  pub outputs : f.o ≤ 32
  pub holds : Holds (take f.m f.weights.now) (take f.n f.counts.now) f.legs.now (firsts f.o f.outputs.now)
  pub few : f.n ≤ 512
  pub right : wrong_tree f.n (paired f.kids.now) ≡ false

-- as do those of lists that can be priced
pub has_fronts : {W : ℕ} {f : Fronts} {order : List ℕ} → ArePriceable W f order → HasFronts f
has_fronts {W} {f} {order} p =
    record {
      weights = p.weight_places;
      counts = p.row_places.counted;
      outputs = omega (arith, p.accepted.few_outputs, layout_output_count f.m f.n f.o f.weights.now f.counts.now f.legs.now f.outputs.now);
      holds = front_holds p;
      few = front_few p;
      right = front_right p;
    }

-- a list begins with the outputs, and with 0 for those past the end of theirs
abbrev pub ArePadded : Fronts → List ℕ → Type 0
ArePadded f l = take f.o l ≡ firsts f.o f.outputs.now

-- outputs that are copied over zeros are followed by zeros
pub padded_front : (o m : ℕ) (outputs l : List ℕ) → o ≤ m → l ≡ copied (replicate m 0) outputs o → take o l ≡ firsts o outputs
unfolding filled
padded_front o m outputs l h e =
    let d = replicate m 0 in
    let long : length d ≡ m = length-replicate m 0 in
    ap (take o) e
    ∙ firsts_is o outputs (take o (copied d outputs o)) (length-take-le o (copied d outputs o) (omega (arith, long, copied_length d outputs o)))
    (λ k b. get_or-take o (copied d outputs o) k 0 b ∙ elim (dec_lt k (length outputs)) [
      | yes q ↦ copied_at d outputs o k 0 b (omega (arith, long)) q
      | no q ↦ copied_past d outputs o k 0 (omega arith) ∙ filled_all m k 0 ∙ sym (get_or-eq_default outputs 0 (omega arith))
    ])

-- the network of the fronts, and their tree
pub record IsNetworkOf (f : Fronts) (a : Accepted) : Type 0 where
  pub weights_are : a.weights.now ≡ take f.m f.weights.now
  pub counts_are : a.leg_counts.now ≡ take f.n f.counts.now
  pub legs_are : a.legs.now ≡ f.legs.now
  pub outputs_are : a.outputs.now ≡ firsts f.o f.outputs.now

pub record IsTreeOf (f : Fronts) (t : Tree) : Type 0 where
  pub kids_are : t.kids.now ≡ paired f.kids.now
  pub leaves_are : t.leaves ≡ f.n

pub are_fronts : {f : Fronts} {a : Accepted} {t : Tree} → IsNetworkOf f a → IsTreeOf f t
    → AreFronts f.m f.n f.o f.weights.now f.counts.now f.legs.now f.outputs.now f.kids.now a t
are_fronts {f} {a} {t} w k =
    record {
      weights_are = w.weights_are;
      counts_are = w.counts_are;
      legs_are = w.legs_are;
      outputs_are = w.outputs_are;
      kids_are = k.kids_are;
      leaves_are = k.leaves_are;
    }
