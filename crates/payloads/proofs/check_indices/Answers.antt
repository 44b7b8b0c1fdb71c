use borrow.Author.Rules.{rules}
use Rattle.payloads.specs.Payload.{verdict, clean_again, clean_next, before_found}
use Rattle.std.proofs.Common.{length-take-le, get_or-take}
use borrow.Author.Tests.{lt-leb}
use Prim.Native.Nat.{◌<◌}
use native.Mathlib.Omega.{arith}
use mathlib.Core.Path.{◌≡◌, sym, ap, ◌∙◌}
use lib.ListN.{get_or, take, length}
use Rattle.payloads.proofs.check_indices.Goals as goal

pub bytes-preserved : goal.bytes-preserved
bytes-preserved c = let d = c.args in
    let k = c.bytes.k in
    let v = c.loop-other.invariant in
    let t : length (take k d.bytes.now) ≡ k = length-take-le k d.bytes.now (omega arith) in
    let e : c.loop-other.other-index ≡ k = omega arith in
    let x : c.from.result ≡ get_or d.bytes.now k 0 = search rules in
    (v.0, clean_next d.m d.bytes.now k (omega arith) (rw x at (lt-leb _ _ c.if-m-from.false)) (rw e at v.1) c.bytes.invariant.1)

pub returns-then-other-index : goal.returns-then-other-index
returns-then-other-index c = let d = c.args in
    let k = c.bytes.k in
    let i = c.loop-other.other-index in
    let t : length (take k d.bytes.now) ≡ k = length-take-le k d.bytes.now (omega arith) in
    let h : i < k = omega arith in
    let x : c.from.result ≡ get_or d.bytes.now k 0 = search rules in
    let y : get_or d.bytes.now i 0 ≡ get_or d.bytes.now k 0 = sym (get_or-take k d.bytes.now i 0 h) ∙ c.if-other-index.true in
    ap verdict (sym (clean_again d.m d.bytes.now k (omega arith) (rw x at (lt-leb _ _ c.if-m-from.false)) (before_found d.m d.bytes.now (get_or d.bytes.now k 0) i k h y) c.bytes.invariant.1))
