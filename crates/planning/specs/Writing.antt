-- From a plan's answer to what is written of it. Assumes nothing.
use Rattle.std.specs.Prelude.{◌≡◌, refl, true, List, ℕ, ◌≤◌, ◌<◌, length, get_or, take, Option, Some, Result, Err, Ok}
use Rattle.std.proofs.Common.{sym, ap, ◌∙◌, subst, arith, get_or-take, length-take-le}
use Rattle.spec.specs.declared.Refusal.{Refusal}
use Rattle.spec.specs.Network.{Network, leaf_count, index_count, accepted}
use Rattle.spec.specs.Tree.{Pair, valid, pairs_of, flat_of}
use Rattle.spec.specs.Slicing.{Plan}
use Rattle.spec.specs.File.{Ask}
use Rattle.spec.specs.FileClaims.{LawfulTree}
use Rattle.spec.specs.Program.{plan_of, printed, program}
use Rattle.spec.specs.Text.{plan_text, output_of}
use Rattle.laws.specs.FlatLaws.{pairs_flat, flat_even}
use Rattle.laws.specs.ProgramLaws.{plan_right}
use Rattle.laws.specs.Booleans.{cond_most}
use Rattle.reconf.specs.declared.Visited.{Visited}
use Rattle.slicetree.specs.Answers.{counts}
use Rattle.planning.specs.Printing.{Written, Tells, tells_refused, Printable}
use Rattle.planning.specs.Stages.{PlanHeld, Answers}

module _ (N : Network) (given : Option (List ℕ)) (ask : Ask) (kids flags : List ℕ) where
  -- a refusal
  pub plan_refused : {k : Refusal} (out : List ℕ) → Answers N (plan_of N given ask) kids flags (Err k) → Tells (program N given ask) out out (Err k)
  plan_refused {k} out a = by_result (plan_of N given ask) refl a.answer
    where
      by_result : (x : Result Plan Refusal) → plan_of N given ask ≡ x → Err k ≡ counts x → Tells (program N given ask) out out (Err k)
      by_result (Err r) e q = let z : k ≡ r = cc in tells_refused (rw e (ap Err (sym z)))
      by_result (Ok p) e q = absurd (let z : ◌≡◌ {A = ℕ} 0 1 = cc in omega arith)

  -- the plan behind counts
  record Behind (v : Visited) : Type 0 where
    plan : Plan
    is : plan_of N given ask ≡ Ok plan
    rebuilt : plan.rebuilt ≡ v.rebuilt
    tried : plan.tried ≡ v.tried
    held : PlanHeld N plan kids flags

  behind : {v : Visited} → Answers N (plan_of N given ask) kids flags (Ok v) → Behind v
  behind {v} a = by_result (plan_of N given ask) refl a.answer
    where
      by_result : (x : Result Plan Refusal) → plan_of N given ask ≡ x → Ok v ≡ counts x → Behind v
      by_result (Err r) e q = absurd (let z : ◌≡◌ {A = ℕ} 0 1 = cc in omega arith)
      by_result (Ok p) e q =
          let z : v ≡ record { rebuilt = p.rebuilt; tried = p.tried } = cc in
          record { plan = p; is = e; rebuilt = sym (ap (λ (u : Visited). u.rebuilt) z); tried = sym (ap (λ (u : Visited). u.tried) z); held = a.held p e }

  -- the flags as far as there are indices
  module _ (m : ℕ) (same : m ≡ index_count N) (room : index_count N ≤ length flags) where
    cut_at : (j : ℕ) → j < index_count N → get_or (take m flags) j 0 ≡ get_or flags j 0
    cut_at j h = get_or-take m flags j 0 (omega arith)

    cut_held : {p : Plan} → PlanHeld N p kids flags → PlanHeld N p kids (take m flags)
    cut_held h = record { tree = h.tree; flagged = λ j b. cut_at j b ∙ h.flagged j b }

    pub printable : {v : Visited} → accepted N ≡ true → Answers N (plan_of N given ask) kids flags (Ok v) → Printable N kids (take m flags)
    printable {v} ok a =
        let b = behind a in
        let p : Plan = b.plan in
        let fine : valid (leaf_count N) (pairs_of (flat_of p.tree)) ≡ true =
        subst (λ (l : List Pair). valid (leaf_count N) l ≡ true) (sym (pairs_flat p.tree)) (plan_right N given ask p b.is).is_valid in
        record {
          ok = ok;
          lawful = subst (λ (l : List ℕ). LawfulTree N (Some l)) (sym b.held.tree) (flat_even p.tree, fine);
          low = λ j h. omega (arith, cut_at j h, b.held.flagged j h, cond_most (p.flag j) 1);
          room = length-take-le m flags (omega arith) ∙ same;
        }

    pub plan_written : {v : Visited} {out after : List ℕ} {n : ℕ} → Answers N (plan_of N given ask) kids flags (Ok v)
        → ((p : Plan) → PlanHeld N p kids (take m flags) → p.rebuilt ≡ v.rebuilt → p.tried ≡ v.tried → Written out after n (plan_text (printed N p)))
        → Written out after n (output_of (program N given ask))
    plan_written {v} {out} {after} {n} a f =
        let b = behind a in
        rw b.is (f b.plan (cut_held b.held) b.rebuilt b.tried)

    -- the same of what a caller is told
    pub plan_told : {v : Visited} {out after : List ℕ} {r : Result ℕ Refusal} → Answers N (plan_of N given ask) kids flags (Ok v)
        → ((p : Plan) → PlanHeld N p kids (take m flags) → p.rebuilt ≡ v.rebuilt → p.tried ≡ v.tried → Tells (Ok (printed N p)) out after r)
        → Tells (program N given ask) out after r
    plan_told {v} {out} {after} {r} a f =
        let b = behind a in
        rw b.is (f b.plan (cut_held b.held) b.rebuilt b.tried)
