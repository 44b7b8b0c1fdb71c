use borrow.Author.Rules.{rules}
use borrow.Author.Tests.{not-true, not-false}
use Rattle.std.proofs.lemmas.Bool.{not_from_true, not_from_false}
use Rattle.fields.specs.Whole.{Reached, reached_start, finished, finished_truncated, no_bytes}
use Rattle.fields.specs.Scans.{record_in}
use mathlib.Core.List.{[]}
use lib.ListN.{length}
use mathlib.Core.Path.{◌≡◌, sym, ◌∙◌}
use Rattle.fields.proofs.read_fields.Goals as goal

pub loop-rest-init : goal.loop-rest-init
loop-rest-init c = let a = c.args in
    rw c.bare-scan.ensures (record { reached = reached_start a.file.now a.weights.now a.leg_counts.now a.legs.now a.outputs.now; room = c.requires })

pub returns-then-not-may_end : goal.returns-then-not-may_end
returns-then-not-may_end c = let l = c.loop-rest in
    let z : length l.rest.now ≡ 0 = search rules in
    let e : l.rest.now ≡ [] = no_bytes l.rest.now z in
    let a : Reached c.args.file.now [] l.scan (record_in l.scan.counts l.weights l.leg_counts l.legs l.outputs) = rw e at l.invariant.reached in
    finished_truncated a (sym c.may_end.ensures ∙ not-true _ (not_from_false _ c.if-not-may_end.true))

pub returns : goal.returns
returns c = let l = c.loop-rest in
    let z : length l.rest.now ≡ 0 = search rules in
    let e : l.rest.now ≡ [] = no_bytes l.rest.now z in
    let a : Reached c.args.file.now [] l.scan (record_in l.scan.counts l.weights l.leg_counts l.legs l.outputs) = rw e at l.invariant.reached in
    (finished a (sym c.may_end.ensures ∙ not-false _ (not_from_true _ c.if-not-may_end.false)), l.invariant.reached.sound)
