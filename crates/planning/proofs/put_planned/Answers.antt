use Rattle.std.proofs.Common.{sym, arith}
use Rattle.planning.specs.Writing.{printable, plan_told}
use Rattle.planning.specs.Stages.{given_tree, answers_at}
use Rattle.planning.specs.Printing.{index_count_lem}
use Rattle.netfile.specs.Writer.{ask_handed}
use Rattle.network.specs.Record.{net_of}
use lib.Seq.{length-take-le}
use Rattle.planning.proofs.put_planned.Goals as goal

pub slice_bounds-put_plan-end : goal.slice_bounds-put_plan-end
slice_bounds-put_plan-end c = omega (arith, index_count_lem c.args.network.now, c.requires.0.room)

pub slice_bounds-put_plan-end-2 : goal.slice_bounds-put_plan-end-2
slice_bounds-put_plan-end-2 c =
    let m = c.args.network.now.index_count in
    sym (length-take-le m c.plan_network.new.flags (omega (arith, index_count_lem c.args.network.now, c.requires.0.room, c.plan_network.auto.flags)))

pub put_plan-requires : goal.put_plan-requires
put_plan-requires c =
    let a = c.args in
    printable (net_of a.network.now) (given_tree a.given.tree a.tree.now) (ask_handed a.given.ask a.flags.now) _ _ a.network.now.index_count (sym (index_count_lem a.network.now))
    (omega (arith, c.requires.0.room)) c.requires.0.ok (answers_at c.in_ok-counts.was c.plan_network.ensures)

pub returns : goal.returns
returns c =
    let a = c.args in
    plan_told (net_of a.network.now) (given_tree a.given.tree a.tree.now) (ask_handed a.given.ask a.flags.now) _ _ a.network.now.index_count (sym (index_count_lem a.network.now))
    (omega (arith, c.requires.0.room)) (answers_at c.in_ok-counts.was c.plan_network.ensures) c.put_plan.ensures
