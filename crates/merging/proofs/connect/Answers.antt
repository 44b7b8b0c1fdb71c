use Rattle.std.proofs.Common.{rules, Err, Ok, Some, None}
use Rattle.tables.specs.declared.PairTooWide.{PairTooWide}
use Rattle.spec.specs.Tree.{flat_of}
use Rattle.tables.specs.Lists.{Lists, chosen_code, lists_in}
use Rattle.merging.specs.Removed.{flat_length}
use Rattle.merging.specs.Merge.{with_node}
use Rattle.merging.specs.Connect.{Connected, reached_end}
use Rattle.merging.specs.Scans.{kids_behind, node_behind, scan_refused, scan_ends, scan_merges}
use native.Mathlib.Omega.{arith}
use mathlib.Core.List.{List, ◌++◌}
use Prim.Native.Nat.{ℕ, ◌+◌, ◌<◌}
use mathlib.Core.Path.{◌≡◌, sym, ap, ap₂, ◌∙◌, subst}
use lib.ListN.{length}
use Rattle.std.specs.Prelude.{Result}
use Rattle.merging.proofs.connect.Goals as goal

pub returns-in_err-choice-clause-connected : goal.returns-in_err-choice-clause-connected
returns-in_err-choice-clause-connected c =
    let d = c.args in
    let s = d.scoring.now in
    let l = c.loop-t in
    let z : c.scan.result ≡ Err c.in_err-choice.field-0.0 = search rules in
    let e : c.from_residual.result ≡ Err c.in_err-choice.field-0.0 = search rules in
    let less : l.t < s.start = omega arith in
    λ G S start. subst (λ (q : Result ℕ PairTooWide). Connected G S (kids_behind S d.kids.now) c.scan.new.tables.nodes c.scan.new.tables.sizes c.scan.new.tables.live.items (kids_behind S l.kids) q) (sym e)
    (scan_refused G S s.width d.n s.start d.count s.weights.now (kids_behind S d.kids.now) (lists_in d.sets.now d.tables.now) start l.t (lists_in l.sets l.tables) (kids_behind S l.kids) (l.invariant.2 G S start) less
    (lists_in c.scan.new.sets c.scan.new.tables) _ c.scan.ensures.lists c.scan.ensures.least _ _ _ _ c.in_err-choice.field-0.0 (ap chosen_code z))

pub returns-in_default-clause-connected : goal.returns-in_default-clause-connected
returns-in_default-clause-connected c =
    let d = c.args in
    let s = d.scoring.now in
    let l = c.loop-t in
    let z : c.scan.result ≡ Ok None = search rules in
    let less : l.t < s.start = omega arith in
    λ G S start. scan_ends G S s.width d.n s.start d.count s.weights.now (kids_behind S d.kids.now) (lists_in d.sets.now d.tables.now) start l.t (lists_in l.sets l.tables) (kids_behind S l.kids) (l.invariant.2 G S start) less
    (lists_in c.scan.new.sets c.scan.new.tables) _ c.scan.ensures.lists c.scan.ensures.least (ap chosen_code z)

pub loop-t-preserved : goal.loop-t-preserved
loop-t-preserved c =
    let d = c.args in
    let s = d.scoring.now in
    let l = c.loop-t in
    let z : c.scan.result ≡ Ok (Some c.in-Some.choice) = search rules in
    let y = c.in-Some.choice.table in
    let least = sym (ap chosen_code z) ∙ c.scan.ensures.least in
    let less : l.t < s.start = omega arith in
    let kept = ap (λ (M : Lists). length M.live) c.scan.ensures.lists in (
      omega arith,
      omega (arith, c.merge-children.ensures.few, kept, l.invariant.1),
      (λ G S start.
          scan_merges G S s.width d.n s.start d.count s.weights.now (kids_behind S d.kids.now) (lists_in d.sets.now d.tables.now) start l.t (lists_in l.sets l.tables) (kids_behind S l.kids) (l.invariant.2 G S start) less
          (lists_in c.scan.new.sets c.scan.new.tables) y c.scan.ensures.lists least
          (lists_in c.merge-children.new.sets c.merge-children.new.tables) (kids_behind S c.put_node.new.kids) c.merge-children.ensures.lists
          (ap (λ (k : List ℕ). flat_of S.array ++ k) c.put_node.ensures
          ∙ sym (node_behind (flat_of S.array) l.kids d.count l.t _ _ (omega (arith, flat_length S.array, start.made)))
          ∙ ap₂ (λ (a b : ℕ). with_node (kids_behind S l.kids) (d.count + l.t) a b) c.merge-children.ensures.left c.merge-children.ensures.right)
          (c.in-Some.choice.apart 0 (omega arith)) (c.in-Some.choice.apart 1 (omega arith))),
    )

pub returns-clause-connected : goal.returns-clause-connected
returns-clause-connected c =
    let d = c.args in
    let s = d.scoring.now in
    let l = c.loop-t in
    let e : l.t ≡ s.start = omega arith in
    λ G S start. subst (λ (t : ℕ). Connected G S (kids_behind S d.kids.now) l.tables.nodes l.tables.sizes l.tables.live.items (kids_behind S l.kids) (Ok t)) e
    (reached_end G S s.width d.n s.start d.count s.weights.now (kids_behind S d.kids.now) (lists_in d.sets.now d.tables.now) start l.t (lists_in l.sets l.tables) (kids_behind S l.kids) e (l.invariant.2 G S start))
