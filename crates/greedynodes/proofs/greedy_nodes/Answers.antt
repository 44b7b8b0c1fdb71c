use Rattle.std.proofs.Common.{rules, Err, Ok, replicate}
use Rattle.std.proofs.lemmas.Result.{err_from_is_err_and}
use Rattle.std.proofs.Math.ListN.{length-replicate}
use Rattle.spec.specs.Tree.{flat_of}
use Rattle.spec.specs.declared.Refusal.TheVariants.{TableTooWide}
use Rattle.merging.specs.Removed.{flat_length}
use Rattle.tables.specs.declared.row.Row.{Row}
use Rattle.tables.specs.Lists.{stale, coded, coded_length}
use Rattle.greedynodes.specs.Begin.{fits_narrower}
use Rattle.greedynodes.specs.Ends.{Planned, apart}
use Rattle.greedynodes.specs.Copied.{nodes_refused, nodes_built}
use Rattle.greedynodes.specs.Within.{laid_new, is_wide, is_joined}
use native.Mathlib.Omega.{arith}
use Prim.Native.Nat.{ℕ, ◌*◌}
use mathlib.Core.Path.{◌≡◌, refl, sym, subst}
use Rattle.greedynodes.proofs.greedy_nodes.Goals as goal

pub invariant_of-scoring-clause-narrow : goal.invariant_of-scoring-clause-narrow
invariant_of-scoring-clause-narrow c = let (W, low, fits) = c.requires.room in omega (arith, low, c.set_width.ensures.least W fits.indices fits.leaf_sets)

pub returns-in_err-merges-clause-planned : goal.returns-in_err-merges-clause-planned
returns-in_err-merges-clause-planned c =
    let d = c.args in
    let (W, low, fits) = c.requires.room in
    let z : c.connect.result ≡ Err c.in_err-merges.field-0.0 = search rules in
    let p = err_from_is_err_and c.from_residual.result c.from_residual.ensures.1 in
    let e : c.from_residual.result ≡ Err TableTooWide = rw (p.1, p.2) refl in
    λ N a asks. subst (Planned N a d.leaves.now d.kids.now d.kids.now) (sym e)
    (nodes_refused d.n d.count d.weights.now d.counts.now d.legs.now d.outputs.now d.leaves.now d.leaves.now (replicate 256 0) c.connect.new.kids refl
    (Err TableTooWide)
    (λ N a asks. is_wide N a c.set_width.result d.n d.count d.weights.now d.counts.now d.legs.now d.outputs.now d.leaves.now d.words.now (replicate 256 0) asks
    (fits_narrower (c.set_width.ensures.least W fits.indices fits.leaf_sets) c.set_width.ensures.holds.0 c.set_width.ensures.holds.1 fits)
    _ _ _ (laid_new d.leaves.now _ _ (coded (replicate 256 stale)) _ fits.few refl refl (omega (arith, coded_length (replicate 256 stale), length-replicate {A = Row} 256 stale)) refl) _ c.prepare.ensures
    _ _ _ _ _ c.connect.result c.in_err-merges.field-0.0 z c.connect.ensures.connected)
    N a d.kids.now asks TableTooWide refl)

pub returns-clause-planned : goal.returns-clause-planned
returns-clause-planned c =
    let d = c.args in
    let (W, low, fits) = c.requires.room in
    let z : c.connect.result ≡ Ok c.in_ok-merges.merges = search rules in
    λ N a asks.
    nodes_built d.n d.count d.weights.now d.counts.now d.legs.now d.outputs.now d.leaves.now d.leaves.now (replicate 256 0) c.join_rest-top.new.kids refl
    (Ok c.join_rest-top.result)
    (λ N a asks. is_joined N a c.set_width.result d.n d.count d.weights.now d.counts.now d.legs.now d.outputs.now d.leaves.now d.words.now (replicate 256 0) asks
    (fits_narrower (c.set_width.ensures.least W fits.indices fits.leaf_sets) c.set_width.ensures.holds.0 c.set_width.ensures.holds.1 fits)
    _ _ _ (laid_new d.leaves.now _ _ (coded (replicate 256 stale)) _ fits.few refl refl (omega (arith, coded_length (replicate 256 stale), length-replicate {A = Row} 256 stale)) refl) _ c.prepare.ensures
    _ _ _ _ c.in_ok-merges.merges c.connect.result z c.connect.ensures.connected
    _ c.join_rest-top.result (omega (arith, c.join_rest-top.type_inv)) (λ N' tree L b before r. c.join_rest-top.ensures N' tree L b before (flat_of a) (omega (arith, flat_length a, asks.array)) r))
    N a d.kids.now asks (λ e q. apart q)
    (d.count * 2) (c.saturating_sub.result * 2) refl (omega (arith, c.saturating_sub.ensures)) (omega (arith, c.saturating_sub.ensures, fits.few, length-replicate {A = ℕ} 256 0))
    c.copy_out.new.kids c.copy_out.ensures
