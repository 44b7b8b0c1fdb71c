use Rattle.std.proofs.Common.{◌≡◌, ◌∙◌, ◌*◌, sym, subst, arith, ℕ, take}
use Rattle.planning.specs.Stages.{given_tree, found_ready, found_flags}
use Rattle.planning.specs.Printing.{Tells, few_counts}
use Rattle.netfile.specs.Writer.{ask_handed}
use Rattle.network.specs.Record.{net_of}
use Rattle.network.specs.Layouts.{leaf_count_lem}
use Rattle.spec.specs.Program.{program}
use Rattle.spec.specs.Calls.{tree_places}
use lib.Seq.{length-take-le}
use Rattle.planning.proofs.put_found.Goals as goal

pub overflow_mul-places : goal.overflow_mul-places
overflow_mul-places c = omega (arith, c.saturating_sub-places.ensures, (few_counts c.args.network.now c.requires.ok).0)

pub slice_bounds-put_planned-end : goal.slice_bounds-put_planned-end
slice_bounds-put_planned-end c = omega (arith, c.saturating_sub-places.ensures, (few_counts c.args.network.now c.requires.ok).0, c.requires.tree_room)

pub slice_bounds-put_planned-end-2 : goal.slice_bounds-put_planned-end-2
slice_bounds-put_planned-end-2 c =
    let k = c.saturating_sub-places.result in
    sym (length-take-le (k * 2) c.args.tree.now (omega (arith, c.saturating_sub-places.ensures, (few_counts c.args.network.now c.requires.ok).0, c.requires.tree_room)))

pub put_planned-requires : goal.put_planned-requires
put_planned-requires c =
    let a = c.args in
    let k = c.saturating_sub-places.result in
    (found_ready c.requires, c.requires.flags_held, found_flags c.requires, length-take-le (k * 2) a.tree.now (omega (arith, c.saturating_sub-places.ensures, (few_counts c.args.network.now c.requires.ok).0, c.requires.tree_room)) ∙ omega (arith, c.saturating_sub-places.ensures, leaf_count_lem a.network.now))

pub returns : goal.returns
returns c =
    let a = c.args in
    let k = c.saturating_sub-places.result in
    let e : k * 2 ≡ tree_places (net_of a.network.now) = omega (arith, c.saturating_sub-places.ensures, leaf_count_lem a.network.now) in
    subst (λ (x : ℕ). Tells (program (net_of a.network.now) (given_tree a.given.tree (take x a.tree.now)) (ask_handed a.given.ask a.flags.now)) a.out.now c.put_planned.new.out c.put_planned.result) e c.put_planned.ensures
