use Rattle.slots.specs.Slots.{with_set}
use Rattle.live.specs.Merged.{merged_set}
use Rattle.scores.specs.Scores.{first_of, second_of}
use Rattle.tables.specs.declared.row.Row.{Row}
use Rattle.tables.specs.Lists.{code, stale, gone, coded, lists_in}
use Rattle.merging.specs.Listed.{remaining}
use Rattle.merging.specs.Merge.{first_at, second_at, marked_coded, lists_merged}
use mathlib.Core.List.{List, [], ◌∷◌, ◌++◌}
use Prim.Native.Nat.{ℕ, ◌/◌, ◌%◌}
use mathlib.Core.Path.{◌≡◌, ap, ap₂, ◌∙◌}
use lib.ListN.{get_or, set}
use Rattle.merging.proofs.merge.Goals as goal

pub returns-clause-lists : goal.returns-clause-lists
returns-clause-lists c =
    let d = c.args in
    let t = d.tables.now in
    let s = d.scoring.now in
    let f = first_at s.start (coded t.rows) d.y in
    let g = second_at s.start (coded t.rows) d.y in
    let er : code c.at-row.result ≡ get_or (coded t.rows) d.y 0 = c.at-row.ensures ∙ ap (λ (i : ℕ). get_or (coded t.rows) i 0) c.from-table.ensures in
    let ef : c.first-first.result ≡ f = c.first-first.ensures ∙ ap₂ (first_of s.start) (c.other.ensures ∙ ap (λ (r : ℕ). r % 512) er) c.from-table.ensures in
    let eg : c.second-second.result ≡ g = c.second-second.ensures ∙ ap₂ (second_of s.start) (c.other-2.ensures ∙ ap (λ (r : ℕ). r % 512) er) c.from-table.ensures in
    let ez = c.from-slot.ensures in
    lists_merged s.width s.start d.y d.z d.node (lists_in d.sets.now t) _ _ _ _ _
    (c.put_merged.ensures ∙ (λ i. with_set d.sets.now s.width (ez i) (merged_set d.sets.now s.width (ef i) (eg i))))
    (c.put.ensures ∙ ap (λ (i : ℕ). set t.nodes i d.node) ez)
    (c.put-2.ensures ∙ ap₂ (λ (i v : ℕ). set t.sizes i v) ez (c.bits.ensures ∙ ap (λ (r : ℕ). r / 512) er))
    (c.push.ensures.items ∙ ap (λ (l : List ℕ). l ++ (d.z ∷ [])) (c.remove.ensures.items ∙ ap₂ (λ (a b : ℕ). remaining a b t.live.items) ef eg))
    (ap coded (c.put-5.ensures ∙ ap (λ (l : List Row). set l c.from-slot.result stale) (c.put-4.ensures ∙ ap (λ (l : List Row). set l c.second-second.result gone) c.put-3.ensures))
    ∙ marked_coded t.rows _ _ _ f g d.z ef eg ez)
