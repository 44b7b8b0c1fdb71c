-- Greedy over some leaves of an accepted network. Assumes nothing.
use Rattle.std.specs.Prelude.{◌≡◌, List, ℕ, ◌≤◌, ◌<◌, length, take, true}
use Rattle.std.proofs.Common.{subst, arith}
use Rattle.std.proofs.Math.Seq.{take-length}
use Rattle.spec.specs.Lists.{memb, count}
use Rattle.spec.specs.Memory.{over}
use Rattle.spec.specs.Network.{Network, leaf_count}
use Rattle.spec.specs.Tree.{Pair, flat_of}
use Rattle.network.specs.declared.accepted.Accepted.{Accepted}
use Rattle.network.specs.Views.{net_in, in_facts, in_leaves}
use Rattle.network.specs.Codes.{Facts}
use Rattle.slots.specs.Weigh.{Light}
use Rattle.greedynodes.specs.Lends.{Lends, lends_layout}
use Rattle.greedynodes.specs.Begin.{Room, Asks}
use Rattle.greedynodes.specs.Counted.{light_front}

-- the leaves are some of the network's, each once; the array so far has `made` nodes, whose children stand at the front of `kids`
pub record AsksOf (N : Network) (a : List Pair) (made : ℕ) (leaves kids : List ℕ) : Type 0 where
  pub leaf : (v : ℕ) → memb v leaves ≡ true → v < leaf_count N
  pub once : (v : ℕ) → count v leaves ≤ 1
  pub array : made ≡ length a
  pub written : kids ≡ over kids (flat_of a)

module _ (A : Accepted) where
  facts : Facts (length A.weights.now) (length A.leg_counts.now) (length A.outputs.now) A.weights.now A.leg_counts.now A.legs.now A.outputs.now
  facts = in_facts A A.holds

  lends : Lends (net_in A) (length A.leg_counts.now) A.weights.now A.leg_counts.now A.legs.now A.outputs.now
  lends =
      subst (λ (l : List ℕ). Lends (net_in A) (length A.leg_counts.now) A.weights.now A.leg_counts.now A.legs.now l) (take-length A.outputs.now)
      (subst (λ (l : List ℕ). Lends (net_in A) (length A.leg_counts.now) l A.leg_counts.now A.legs.now (take (length A.outputs.now) A.outputs.now)) (take-length A.weights.now)
      (lends_layout (length A.weights.now) (length A.leg_counts.now) (length A.outputs.now) A.weights.now A.leg_counts.now A.legs.now A.outputs.now (omega arith) (omega arith)))

  pub accepted_light : Light A.weights.now
  accepted_light = subst Light (take-length A.weights.now) (light_front (length A.weights.now) A.weights.now (omega arith) facts.weights_fit)

  pub accepted_room : (made : ℕ) (leaves words : List ℕ) → length leaves ≤ 128 → 1036 ≤ length words → made < 8192
      → Room (length A.leg_counts.now) made A.weights.now A.outputs.now leaves words
  accepted_room made leaves words few long low = (
    4,
    omega arith,
    record {
      indices = omega (arith, facts.few_indices);
      leaf_sets = omega (arith, facts.few_leaves);
      few = few;
      outputs_fit = omega (arith, facts.few_outputs);
      words = long;
      array = low;
    },
  )

  pub accepted_asks : (a : List Pair) (made : ℕ) (leaves kids : List ℕ) → AsksOf (net_in A) a made leaves kids
      → Asks (net_in A) a (length A.leg_counts.now) made A.weights.now A.leg_counts.now A.legs.now A.outputs.now leaves kids
  accepted_asks a made leaves kids asks =
      record {
        lends = lends;
        accepted = facts.accepted;
        leaf = λ v e. omega (arith, asks.leaf v e, in_leaves A);
        once = asks.once;
        array = asks.array;
        written = asks.written;
      }
