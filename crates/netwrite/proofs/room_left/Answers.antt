use borrow.Author.Rules.{rules}
use Rattle.netwrite.specs.Sizes.{parts_length, room_is}
use Rattle.netwrite.specs.Contents.{parts_of}
use Rattle.spec.specs.File.{ask_field, file_of}
use Rattle.fields.specs.Scans.{ask_of}
use Rattle.std.proofs.Common.{None}
use native.Mathlib.Omega.{arith}
use mathlib.Core.Path.{◌≡◌}
use Prim.Native.Nat.{◌+◌}
use lib.ListN.{length}
use Rattle.netwrite.proofs.room_left.Goals as goal

pub returns-in_err-behind : goal.returns-in_err-behind
returns-in_err-behind c = let a = rw c.in_ok-left.was at c.checked_sub.ensures in
    let b = rw c.in_err-behind.was at c.checked_sub-2.ensures in
    let e : c.from_residual-in_err-behind.result ≡ None = search rules in
    rw e (omega (arith, a, b, c.network_bytes.ensures, parts_length (parts_of c.args.parts.now)))

pub returns-in_err-after_tree : goal.returns-in_err-after_tree
returns-in_err-after_tree c = let a = rw c.in_ok-left.was at c.checked_sub.ensures in
    let b = rw c.in_ok-behind.was at c.checked_sub-2.ensures in
    let t = rw c.in_err-after_tree.was at c.after_tree.ensures in
    let e : c.from_residual-in_err-after_tree.result ≡ None = search rules in
    rw e (omega (arith, a, b, t, c.network_bytes.ensures, parts_length (parts_of c.args.parts.now)))

pub returns : goal.returns
returns c = let p = c.args.parts.now in
    let a = rw c.in_ok-left.was at c.checked_sub.ensures in
    let b = rw c.in_ok-behind.was at c.checked_sub-2.ensures in
    let t = rw c.in_ok-after_tree.was at c.after_tree.ensures in
    let n = length (ask_field (ask_of p.ask)) in
    let e : c.args.size + n ≡ c.args.cursor + length (file_of (parts_of p)) + c.in_ok-after_tree.field-0 = omega (arith, a, b, t, c.network_bytes.ensures, parts_length (parts_of p)) in
    room_is c.after_ask.result c.in_ok-after_tree.field-0 n c.args.size (c.args.cursor + length (file_of (parts_of p))) e c.after_ask.ensures
