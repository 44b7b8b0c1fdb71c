use Rattle.std.proofs.Common.{rules}
use Rattle.tables.specs.Lists.{code, coded, not_coded}
use Rattle.rows.specs.Rows.{takes_wide, takes_none, takes_pair}
use Prim.Native.Nat.{ℕ}
use lib.ListN.{get_or}
use mathlib.Core.Path.{◌≡◌, ap, ◌∙◌}
use Rattle.rows.proofs.Pairs.better.Goals as goal

pub returns-then-eq : goal.returns-then-eq
returns-then-eq c = let d = c.args in
    let p = d.self.now in
    let e = c.at-row.ensures ∙ ap (λ (i : ℕ). get_or (coded p.rows.now) i 0) c.from.ensures in
    let wide : c.at-row.result ≡ record { number = 257 } = search rules in
    takes_wide p.sizes.now p.start (coded p.rows.now) d.best d.table (code c.at-row.result) e (ap code wide)

pub returns-then-eq-2 : goal.returns-then-eq-2
returns-then-eq-2 c = let d = c.args in
    let p = d.self.now in
    let e = c.at-row.ensures ∙ ap (λ (i : ℕ). get_or (coded p.rows.now) i 0) c.from.ensures in
    let alone : c.at-row.result ≡ record { number = 256 } = search rules in
    takes_none p.sizes.now p.start (coded p.rows.now) d.best d.table (code c.at-row.result) e (ap code alone)

pub returns : goal.returns
returns c = let d = c.args in
    let p = d.self.now in
    let e = c.at-row.ensures ∙ ap (λ (i : ℕ). get_or (coded p.rows.now) i 0) c.from.ensures in
    c.sooner.ensures
    ∙ takes_pair p.sizes.now p.start (coded p.rows.now) d.best d.table (code c.at-row.result) e (not_coded c.at-row.result 257 (λ w. search rules)) (not_coded c.at-row.result 256 (λ n. search rules))
