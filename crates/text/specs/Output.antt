-- The program's output: after pricing a plan's tree with flags that agree with the plan's, `Printout::put` leaves the definition's bytes in front
-- of the buffer. Assumes nothing.
use Rattle.std.specs.Prelude.{◌≡◌, true, List, ℕ, ◌*◌, ◌≤◌, ◌<◌, length, Ok}
use Rattle.std.proofs.Common.{subst}
use Rattle.spec.specs.Memory.{over}
use Rattle.spec.specs.Network.{Network, leaf_count, index_count, InRange}
use Rattle.spec.specs.Tree.{valid}
use Rattle.spec.specs.Calls.{flag_at, node_places, step_places}
use Rattle.spec.specs.Slicing.{Plan}
use Rattle.spec.specs.Program.{Printed, printed}
use Rattle.spec.specs.Text.{plan_text, output_of}
use Rattle.spec.specs.declared.Prices.{Prices}
use Rattle.pricing.specs.Promise.{Pricing}
use Rattle.putfields.specs.Put.{Put}
use Rattle.text.specs.Lists.{printed_from}
use Rattle.text.specs.Plan.{plan_from, plan_text_lem}
use Rattle.text.specs.Flags.{printed_same}

module _ (W : ℕ) (N : Network) (within : InRange N) (fits : index_count N ≤ W * 64) (p : Plan) (fine : valid (leaf_count N) p.tree ≡ true)
    (flags : List ℕ) (agree : (j : ℕ) → j < index_count N → flag_at flags j ≡ p.flag j)
    {sets₀ sizes₀ works₀ steps₀ sets sizes works steps : List ℕ} {r : Prices}
    (priced : Pricing W N (flag_at flags) p.tree sets₀ sizes₀ works₀ steps₀ sets sizes works steps r)
    (room : node_places N * W ≤ length sets₀) (long : step_places N * 5 ≤ length steps₀) where
  -- THE BYTES THAT ARE WRITTEN ARE THE PLAN'S OUTPUT
  pub plan_output : {out after : List ℕ} {n : ℕ}
      → Put out after 0 n (plan_text (printed_from (leaf_count N) (index_count N) W r steps sets flags p.rebuilt p.tried))
      → (after ≡ over out (output_of (Ok (printed N p)))) × (n ≡ length (output_of (Ok (printed N p))))
  plan_output {out} {after} {n} q =
      let e : printed N (plan_from p.tree flags p.rebuilt p.tried) ≡ printed N p =
      printed_same N within (flag_at flags) p.flag agree p.tree p.rebuilt p.tried in
      subst (λ (x : Printed). (after ≡ over out (plan_text x)) × (n ≡ length (plan_text x))) e
      (plan_text_lem W N flags p.tree fine fits priced room long p.rebuilt p.tried q)
