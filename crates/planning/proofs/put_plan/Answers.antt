use Rattle.std.proofs.Common.{refl, arith}
use Rattle.planning.specs.Printing.{few_counts, priced_not_refused, text_put, tells_plan}
use Rattle.planning.proofs.put_plan.Goals as goal

pub returns-in_err-prices : goal.returns-in_err-prices
returns-in_err-prices c = absurd (priced_not_refused c.args.network.now c.requires (omega arith) (record { set_places = refl; size_places = refl; work_places = refl; step_numbers = refl }) c.in_err-prices.ensures.cost.answered refl)

pub put_text-requires : goal.put_text-requires
put_text-requires c = few_counts c.args.network.now c.requires.ok

pub returns : goal.returns
returns c = λ p held f g. tells_plan (text_put c.args.network.now c.requires (omega arith) (record { set_places = refl; size_places = refl; work_places = refl; step_numbers = refl }) c.in_ok-prices.ensures.cost.answered refl c.put_text.ensures.0 p held f g) c.put_text.ensures.1
