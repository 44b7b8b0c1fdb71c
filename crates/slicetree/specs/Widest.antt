-- The widest table, from the size bits of a tree's price list. Assumes nothing.
use Rattle.std.specs.Prelude.{Bool, false, cond, ◌≡◌, refl, eqb, length, None, Some}
use mathlib.Core.List.{List, map, map-append, map-map}
use Rattle.std.proofs.Common.{sym, ◌∙◌, eq-eqb, ne_eqb}
use Rattle.std.proofs.Math.Path.{ap, ap₂}
use Prim.Native.Nat.{ℕ, ◌+◌, ◌-◌, max}
use native.Mathlib.Omega.{arith}
use Rattle.std.proofs.Math.Decide.{ℕ_discrete}
use Rattle.std.proofs.Math.ListN.{get_or}
use Rattle.spec.specs.Lists.{from, range}
use Rattle.spec.specs.Layout.{firsts}
use Rattle.spec.specs.Network.{Network, leaf_count, legs}
use Rattle.spec.specs.Tree.{pairs_of, step_order}
use Rattle.spec.specs.Price.{bits, step_at, listing, size_at, largest, widest}
use Rattle.spec.specs.Calls.{wrong_tree}
use Rattle.laws.specs.OrderLaws.{largest_same}
use Rattle.laws.specs.LayoutLaws.{firsts_length}
use Rattle.walk.specs.Wrong.{not_wrong}
use Rattle.nodesets.specs.Flow.{leaf_tree}
use Rattle.nodesets.specs.Steps.{Steps, valid_steps}
use Rattle.pricing.specs.Answers.{widest_in}
use Rattle.pricing.specs.Sums.{from-add, largest-append}
use Rattle.pricing.specs.Tables.{node_counts, map_same_from, leaves_are}
use Rattle.reprice.specs.Held.{PriceHeld}

module _ {N : Network} {flag : ℕ → Bool} {kids sets sizes works : List ℕ} (right : wrong_tree (leaf_count N) kids ≡ false) (h : PriceHeld N flag kids sets sizes works) where
  abbrev n : ℕ
  n = leaf_count N

  abbrev size : ℕ → ℕ
  size = size_at N flag (pairs_of kids)

  steps : Steps n kids (step_order kids n)
  steps = valid_steps n kids (step_order kids n) (not_wrong n kids right) refl

  on_leaves : map size (range n) ≡ map (bits N flag) N.leaves
  on_leaves =
      map_same_from size (λ i. bits N flag (legs N i)) 0 n (λ i b c. rw (leaf_tree N (pairs_of kids) i (omega arith)))
      ∙ sym (map-map (bits N flag) (legs N) (range n)) ∙ ap (map (bits N flag)) (sym (leaves_are N))

  on_nodes : largest (map size (from (0 + n) (n - 1))) ≡ largest (map (λ s. s.size_bits) (listing N flag (pairs_of kids)))
  unfolding listing step_order
  on_nodes =
      let z : 0 + n ≡ n = omega arith in
      ap (λ (y : ℕ). largest (map size (from y (n - 1)))) z
      ∙ largest_same size (from n (n - 1)) (step_order kids n) (node_counts (n - 1) steps steps.numbers)
      ∙ ap largest (sym (map-map (λ s. s.size_bits) (step_at N flag (pairs_of kids)) (step_order kids n)))

  split : largest (firsts (n + (n - 1)) sizes) ≡ max (largest (map (bits N flag) N.leaves)) (largest (map (λ s. s.size_bits) (listing N flag (pairs_of kids))))
  unfolding firsts
  split =
      ap largest (map_same_from (λ k. get_or sizes k 0) size 0 (n + (n - 1)) (λ v b c. h.sizes_are v (omega arith))
      ∙ ap (map size) (from-add 0 n (n - 1)) ∙ map-append size (range n) (from (0 + n) (n - 1)))
      ∙ largest-append (map size (range n)) (map size (from (0 + n) (n - 1)))
      ∙ ap₂ max (ap largest on_leaves) on_nodes

  pub widest_held : widest_in (firsts (n + (n - 1)) sizes) ≡ widest N flag (listing N flag (pairs_of kids))
  widest_held = ap₂ (λ b y. cond b None (Some y)) no_nodes split
    where
      places : length (firsts (n + (n - 1)) sizes) ≡ n + (n - 1)
      places = firsts_length (n + (n - 1)) sizes

      no_nodes : eqb (length (firsts (n + (n - 1)) sizes)) 0 ≡ eqb n 0
      no_nodes =
          elim (ℕ_discrete n 0) [
            | yes e ↦ eq-eqb (length (firsts (n + (n - 1)) sizes)) 0 (omega (arith, places)) ∙ sym (eq-eqb n 0 e)
            | no e ↦ ne_eqb (length (firsts (n + (n - 1)) sizes)) 0 (λ q. e (omega (arith, places))) ∙ sym (ne_eqb n 0 e)
          ]
