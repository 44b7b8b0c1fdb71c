use Rattle.std.proofs.Common.{rules, sym, subst, take, get_or}
use Rattle.std.proofs.lemmas.List.{take_more}
use Rattle.std.proofs.lemmas.Fn.{FoldsTo-push}
use Rattle.std.specs.List.{FoldsTo}
use Rattle.stored.specs.Sums.{AddsAs}
use Rattle.stored.proofs.sums.with_all.Goals as goal

pub loop-x-preserved : goal.loop-x-preserved
loop-x-preserved g c =
    let list = c.args.list.now in
    let i = c.loop-x.x-index in
    let x = c.x-item.result in
    subst (λ l. FoldsTo (AddsAs g.T.Into.converts) c.args.sum l c.with-s.result) (sym (take_more list i x (search rules)))
    (FoldsTo-push _ c.args.sum (take i list) c.loop-x.s (get_or list i x) c.with-s.result c.loop-x.invariant (c.into.result, search rules, c.with-s.ensures))
