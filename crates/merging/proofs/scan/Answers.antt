use Rattle.tables.specs.Lists.{lists_of, coded}
use Rattle.rows.specs.Rows.{renewed_all}
use Rattle.live.specs.Holders.{with_holders}
use mathlib.Core.List.{List}
use mathlib.Core.Path.{◌≡◌, ap, ◌∙◌}
use lib.ListN.{length}
use Rattle.merging.proofs.scan.Goals as goal

pub returns-clause-lists : goal.returns-clause-lists
returns-clause-lists c =
    let s = c.args.scoring.now in
    let t = c.args.tables.now in
    let h : c.put_holders.new.sets ≡ with_holders c.args.sets.now s.width t.live.items (length t.live.items) =
    c.put_holders.ensures ∙ ap (λ (l : List _). with_holders c.args.sets.now s.width l (length l)) c.as_slice.ensures.value in
    let r = c.renew_all.ensures ∙ ap (λ (l : List _). renewed_all c.put_holders.new.sets s.width s.weights.now t.sizes s.start l (coded t.rows) (length l)) c.as_slice-2.ensures.value in
    ap (λ (a : List _). lists_of c.put_holders.new.sets t.nodes t.sizes t.live.items a) r
    ∙ ap (λ (a : List _). lists_of a t.nodes t.sizes t.live.items (renewed_all a s.width s.weights.now t.sizes s.start t.live.items (coded t.rows) (length t.live.items))) h
