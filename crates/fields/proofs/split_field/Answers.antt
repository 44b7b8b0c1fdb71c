use borrow.Author.Rules.{rules}
use borrow.Author.Tests.{not-true, not-false}
use Rattle.std.proofs.lemmas.Bool.{not_from_true, not_from_false}
use Rattle.payloads.specs.Tags.{tag_number, NamesTag}
use Rattle.spec.specs.File.{allowed}
use Rattle.fields.specs.Dues.{due_of}
use Rattle.fields.specs.Steps.{read_header, split_tag, split_truncated, split_whole, unnamed}
use Rattle.std.proofs.Common.{Err, true, false, length-drop}
use Prim.Native.Nat.{◌≤◌, ◌+◌, ◌*◌}
use native.Mathlib.Omega.{arith}
use mathlib.Core.Path.{◌≡◌, sym, ap, ◌∙◌, refl}
use lib.ListN.{get_or, length, take, drop}
use Rattle.fields.proofs.split_field.Goals as goal

pub returns-then-bytes-lt3 : goal.returns-then-bytes-lt3
returns-then-bytes-lt3 c = λ s q. read_header s c.args.bytes.now c.requires c.if-bytes-lt3.true

pub returns-in_err-tag : goal.returns-in_err-tag
returns-in_err-tag c = let l = c.args.bytes.now in
    let k = c.in_err-tag.field-0.0 in
    let e : c.from_residual.result ≡ Err k = search rules in
    let n : NamesTag (get_or l 0 0) (Err k) = rw c.in_err-tag.was at c.try_from.ensures in
    rw (e, n.0) (λ s q. split_tag l c.if-bytes-lt3.false (get_or l 0 0) (get_or l 1 0 * 256 + get_or l 2 0) refl refl (due_of c.args.due) s q (unnamed (due_of c.args.due) (get_or l 0 0) n.1))

pub returns-then-not-allows : goal.returns-then-not-allows
returns-then-not-allows c = let l = c.args.bytes.now in
    let t : get_or l 0 0 ≡ tag_number c.in_ok-tag.tag = rw c.in_ok-tag.was at c.try_from.ensures in
    let a : allowed (due_of c.args.due) (tag_number c.in_ok-tag.tag) ≡ false = sym c.allows.ensures ∙ not-true _ (not_from_false _ c.if-not-allows.true) in
    λ s q. split_tag l c.if-bytes-lt3.false (tag_number c.in_ok-tag.tag) (get_or l 1 0 * 256 + get_or l 2 0) t refl (due_of c.args.due) s q a

pub returns-then-body-count : goal.returns-then-body-count
returns-then-body-count c = let l = c.args.bytes.now in
    let t : get_or l 0 0 ≡ tag_number c.in_ok-tag.tag = rw c.in_ok-tag.was at c.try_from.ensures in
    let x : c.from-count.result ≡ c.from_be_bytes.result = search rules in
    let z : c.from-count.result ≡ get_or l 1 0 * 256 + get_or l 2 0 = omega (arith, c.from_be_bytes.ensures) in
    let a : allowed (due_of c.args.due) (tag_number c.in_ok-tag.tag) ≡ true = sym c.allows.ensures ∙ not-false _ (not_from_true _ c.if-not-allows.false) in
    let b : c.split_at.result.1.now ≡ drop 3 l = search rules in
    λ s q. split_truncated l c.if-bytes-lt3.false (tag_number c.in_ok-tag.tag) c.from-count.result t z (due_of c.args.due) s q a (rw b at c.if-body-count.true)

pub returns : goal.returns
returns c = let l = c.args.bytes.now in
    let t : get_or l 0 0 ≡ tag_number c.in_ok-tag.tag = rw c.in_ok-tag.was at c.try_from.ensures in
    let x : c.from-count.result ≡ c.from_be_bytes.result = search rules in
    let z : c.from-count.result ≡ get_or l 1 0 * 256 + get_or l 2 0 = omega (arith, c.from_be_bytes.ensures) in
    let a : allowed (due_of c.args.due) (tag_number c.in_ok-tag.tag) ≡ true = sym c.allows.ensures ∙ not-false _ (not_from_true _ c.if-not-allows.false) in
    let b : c.split_at.result.1.now ≡ drop 3 l = search rules in
    let g : c.from-count.result ≤ length (drop 3 l) = rw b at c.if-body-count.false in
    let p : c.split_at-2.result.0.now ≡ take c.from-count.result (drop 3 l) = rw (← b) (search rules) in
    let r : c.split_at-2.result.1.now ≡ drop c.from-count.result (drop 3 l) = rw (← b) (search rules) in (
      λ s q. rw (p, r) (split_whole l c.if-bytes-lt3.false (tag_number c.in_ok-tag.tag) c.from-count.result t z (due_of c.args.due) s q a g),
      omega (arith, ap length r, length-drop c.from-count.result (drop 3 l), length-drop 3 l, c.if-bytes-lt3.false),
    )
