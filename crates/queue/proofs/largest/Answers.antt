use Rattle.std.proofs.Common.{ap, sym, ◌∙◌}
use Rattle.std.specs.Prelude.{None, length}
use Rattle.spec.specs.Hypergraph.{fold_over}
use Rattle.spec.specs.Fm.{offered}
use Rattle.bits.specs.Lowest.{places}
use Rattle.queue.specs.Queues.{queue_in, no_words, waits_past, offered_none}
use Rattle.queue.specs.Open.{open_in, fold_open, fold_past}
use Rattle.queue.proofs.largest.Goals as goal

pub returns-clause-first : goal.returns-clause-first
returns-clause-first c =
    let a = c.args in
    let q = queue_in a.entries.now no_words in
    let x = c.open_word-x in
    let y = c.open_word-y in
    c.offer_word.ensures.first
    ∙ ap (fold_over (offered q) (places 64 64 y.result)) c.offer_word-first.ensures.first
    ∙ fold_open (offered q) (open_in a.words.now a.sides) 64 (length a.entries.now) x.result y.result None x.ensures y.ensures c.requires.1
    (λ v h e o. offered_none q v (c.requires.2 v h e) o) (λ v h o. offered_none q v (waits_past a.entries.now no_words v h) o)

pub returns-clause-all : goal.returns-clause-all
returns-clause-all c =
    let a = c.args in
    let q = queue_in a.entries.now no_words in
    λ n h. returns-clause-first c ∙ sym (fold_past (offered q) (length a.entries.now) n None h (λ v b o. offered_none q v (waits_past a.entries.now no_words v b) o))
