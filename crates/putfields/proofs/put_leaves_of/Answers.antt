use Rattle.network.specs.Views.{in_leaves}
use Rattle.network.specs.Checks.{leaves_of}
use Rattle.spec.specs.File.{leaf_fields}
use Rattle.putfields.specs.Leaves.{Leaves, leaves_are, accepted_leaves}
use Rattle.std.proofs.Common.{subst}
use mathlib.Core.Path.{◌≡◌, sym, ◌∙◌}
use Prim.Native.Nat.{◌+◌, ◌≤◌}
use lib.ListN.{length}
use Rattle.putfields.proofs.put_leaves_of.Goals as goal

pub put_leaves-requires : goal.put_leaves-requires
put_leaves-requires c = let a = c.args.network.now in
    let e : length a.leg_counts.now ≡ c.leaf_count-n.result = sym (c.leaf_count-n.ensures ∙ in_leaves a) in
    let room : c.args.at + length (leaf_fields (leaves_of (length a.leg_counts.now) a.leg_counts.now a.legs.now)) ≤ length c.args.out.now = rw (← leaves_are a) c.requires in
    subst (λ n. Leaves n a.leg_counts.now a.legs.now × (c.args.at + length (leaf_fields (leaves_of n a.leg_counts.now a.legs.now)) ≤ length c.args.out.now)) e (accepted_leaves a a.holds, room)

pub returns : goal.returns
returns c = let a = c.args.network.now in
    let e : c.leaf_count-n.result ≡ length a.leg_counts.now = c.leaf_count-n.ensures ∙ in_leaves a in
    rw (leaves_are a, ← e) c.put_leaves.ensures
