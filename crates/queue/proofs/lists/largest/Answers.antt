use Rattle.std.proofs.Common.{rules, arith, subst, ◌≡◌, ◌∙◌, ◌<◌, ℕ, length, IfSome}
use Rattle.queue.specs.Apart.{all_filled, same_waits, apart_first}
use Rattle.queue.proofs.lists.largest.Goals as goal

pub largest-requires : goal.largest-requires
largest-requires c =
    let a = c.args in
    let l = c.gather.new.entries in
    let n : length l ≡ a.n = search rules in
    let e = all_filled a.keys.now a.stamps.now a.waiting.now l _ a.n c.gather.ensures n in (
      c.requires.0,
      omega (arith, n, c.requires.1),
      λ v h k. let b : v < a.n = omega (arith, n, h) in same_waits a.keys.now a.stamps.now a.waiting.now l a.n e v b ∙ c.requires.2 v b k,
    )

pub returns-clause-first : goal.returns-clause-first
returns-clause-first c =
    let a = c.args in
    let l = c.gather.new.entries in
    let n : length l ≡ a.n = search rules in
    let e = all_filled a.keys.now a.stamps.now a.waiting.now l _ a.n c.gather.ensures n in
    apart_first a.keys.now a.stamps.now a.waiting.now l a.n e c.largest.result
    (subst (λ (k : ℕ). IfSome c.largest.result (λ v. v < k)) n c.largest.ensures.below) (c.largest.ensures.all a.n (omega (arith, n)))
