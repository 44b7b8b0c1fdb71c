use Rattle.masks.specs.Keeps.{keep_tables}
use Rattle.subset.specs.Searched.{search_found, search_tried}
use Rattle.subset.specs.Ran.{Ran, ran_on}
use native.Mathlib.Omega.{arith}
use mathlib.Core.Path.{ap}
use Rattle.std.proofs.Common.{length-take-le}
use lib.ListN.{length}
use Rattle.subset.proofs.search.Goals as goal

pub fill_from-tried-requires-clause-tables : goal.fill_from-tried-requires-clause-tables
fill_from-tried-requires-clause-tables c = let p = c.of-planes.result in let n = c.mask_count-n.result in
    keep_tables c.unions.new.united p.weights.now (length c.unions.new.united) c.keep_sets_by.new.kept c.keep_sets_by.new.bits
    (omega (arith, c.unions.ensures.long, length-take-le n c.args.masks.united.now (omega (arith, c.requires.room.0, c.mask_count-n.ensures)), c.mask_count-n.ensures))
    (omega (arith, c.requires.weights.0, ap length c.of-planes.ensures)) p.light c.keep_sets_by.ensures

-- what the steps leave
ran : (c : goal.After-finite-least) → Ran c.args.masks.united.now c.unions.new.united c.keep_sets_by.new.kept c.keep_sets_by.new.bits c.args.weights.now
    c.fill_from-tried.new.cost c.fill_from-tried.new.part c.mask_count-n.result c.args.limit c.fill_from-tried.result
ran c = let a = c.args in let n = c.mask_count-n.result in
    ran_on a.masks.united.now c.unions.new.united c.keep_sets_by.new.kept c.keep_sets_by.new.bits a.weights.now c.of-planes.result.weights.now
    c.fill_from-tried.new.cost c.fill_from-tried.new.part n a.m a.limit c.fill_from-tried.result c.mask_count-n.ensures.0
    (length-take-le n a.masks.united.now (omega (arith, c.requires.room.0, c.mask_count-n.ensures)))
    c.of-planes.ensures c.unions.ensures c.keep_sets_by.ensures c.fill_from-tried.ensures

pub returns-clause-found : goal.returns-clause-found
returns-clause-found c = let a = c.args in let k = c.keep_sets_by.new in let f = c.fill_from-tried in
    search_found a.masks.united.now c.unions.new.united k.kept k.bits a.weights.now f.new.cost f.new.part c.mask_count-n.result a.m a.limit f.result
    c.mask_count-n.ensures.0 c.requires.members.0 (omega (arith, c.mask_count-n.ensures)) (ran c) c.finite-least.result c.finite-least.ensures.cost

pub returns-clause-tried : goal.returns-clause-tried
returns-clause-tried c = let a = c.args in let k = c.keep_sets_by.new in let f = c.fill_from-tried in
    search_tried a.masks.united.now c.unions.new.united k.kept k.bits a.weights.now f.new.cost f.new.part c.mask_count-n.result a.m a.limit f.result
    c.mask_count-n.ensures.0 c.requires.members.0 (omega (arith, c.mask_count-n.ensures)) (ran c)
