use Prim.Native.Nat.{◌-◌}
use Rattle.spec.specs.Network.{leaf_count, index_count}
use Rattle.network.specs.Views.{net_in}
use Rattle.slicetree.specs.Choices.{Going}
use mathlib.Core.Path.{◌≡◌}
use lib.ListN.{length}
use Rattle.slicetree.proofs.choices.slice.Given as goal

abbrev pub invariant-loop : goal.invariant-loop
invariant-loop l = let N = net_in l.network in (length l.words ≡ length l.initial.words) × (length l.kids ≡ length l.initial.kids)
    × Going N (leaf_count N) l.target l.initial.kids l.initial.flags (index_count N) (index_count N - l.counter) l.kids l.flags l.rebuilt l.tried
