-- A plan in lent lists, priced and printed. Assumes nothing.
use Rattle.std.specs.Prelude.{◌≡◌, refl, true, not, List, [], ◌∷◌, ℕ, suc, ◌*◌, ◌≤◌, ◌<◌, eqb, length, get_or, Some, Result, Err, Ok}
use Rattle.std.proofs.Common.{sym, ap, ◌∙◌, subst, arith}
use Rattle.std.proofs.Math.Bool.{false}
use Rattle.spec.specs.declared.Refusal.{Refusal}
use borrow.Author.Tests.{le-ltb}
use Rattle.spec.specs.Memory.{over, placed}
use Rattle.spec.specs.Members.{All}
use Rattle.spec.specs.Network.{Network, leaf_count, index_count, network_checks, accepted}
use Rattle.spec.specs.Tree.{Pair, valid, pairs_of}
use Rattle.spec.specs.Price.{price_of}
use Rattle.spec.specs.Calls.{plain_words, set_words, step_numbers, node_places, step_places, lent, length_check, flag_at, price_checks, price_call}
use Rattle.spec.specs.Slicing.{Plan}
use Rattle.spec.specs.Refusal.{number_of}
use Rattle.spec.specs.File.{flagged}
use Rattle.spec.specs.FileClaims.{LawfulTree, LawfulAsk}
use Rattle.spec.specs.Host.{full_room}
use Rattle.spec.specs.Program.{Printed, printed}
use Rattle.spec.specs.Text.{plan_text, refused_line, output_of}
use Rattle.spec.specs.Output.{program_on, plan_bytes}
use Rattle.laws.specs.Results.{checked_none}
use Rattle.laws.specs.Accepted.{accepted_means}
use Rattle.laws.specs.FileFields.{passes_fails, tree_fails, flags_fails}
use Rattle.laws.specs.FlatLaws.{pairs_flat}
use Rattle.laws.specs.SliceCallLaws.{flag_back}
use Rattle.network.specs.Record.{net_of}
use Rattle.network.specs.Layouts.{layout_index_count, leaf_count_lem}
use Rattle.network.specs.declared.Network.{Network as Record}
use Rattle.spec.specs.declared.Prices.{Prices}
use Rattle.pricing.specs.Promise.{Pricing}
use Rattle.cost.specs.Answers.{room, Answered}
use Rattle.putfields.specs.Put.{Put}
use Rattle.text.specs.Lists.{printed_from}
use Rattle.text.specs.Output.{plan_output}
use Rattle.planning.specs.Stages.{PlanHeld}

-- ---- flags of as many places as there are indices ----

all_low : (l : List ℕ) → ((k : ℕ) → k < length l → get_or l k 0 ≤ 1) → All (λ b. b ≤ 1) l
all_low [] h = tt
all_low (x ∷ l) h = (h 0 (omega arith), all_low l (λ k b. h (suc k) (omega arith)))

-- the text was put at the front of a buffer, as far as that goes, and n is its length
pub record Written (out after : List ℕ) (n : ℕ) (text : List ℕ) : Type 0 where
  pub bytes : after ≡ over out text
  pub count : n ≡ length text

pub put_written : {out after text : List ℕ} {n : ℕ} → Put out after 0 n text → Written out after n text
unfolding placed
put_written p = record { bytes = p.bytes; count = omega (arith, p.past) }

pub written_as : {out after text other : List ℕ} {n : ℕ} → text ≡ other → Written out after n text → Written out after n other
written_as {out} {after} {n = n} e w = subst (Written out after n) e w

-- what a call x of the program is told of: its refusal, or the length of what it prints, which is at the front of the buffer
pub record Tells (x : Result Printed Refusal) (out after : List ℕ) (r : Result ℕ Refusal) : Type 0 where
  pub refused : {k : Refusal} → r ≡ Err k → (x ≡ Err k) × (after ≡ out)
  pub told : {n : ℕ} → r ≡ Ok n → Written out after n (output_of x) × (n ≤ 131072)

pub tells_refused : {x : Result Printed Refusal} {out : List ℕ} {r : Refusal} → x ≡ Err r → Tells x out out (Err r)
tells_refused {x} {out} {r} e =
    record {
      refused = λ {k} f. let z : r ≡ k = cc in (e ∙ ap Err z, refl);
      told = λ {n} f. absurd (let z : ◌≡◌ {A = ℕ} 0 1 = cc in omega arith);
    }

pub tells_plan : {p : Printed} {out after : List ℕ} {m : ℕ} → Written out after m (plan_text p) → m ≤ 131072 → Tells (Ok p) out after (Ok m)
tells_plan {p} {out} {after} {m} w h =
    record {
      refused = λ {k} f. absurd (let z : ◌≡◌ {A = ℕ} 0 1 = cc in omega arith);
      told = λ {n} f. let z : m ≡ n = cc in subst (λ (k : ℕ). Written out after k (plan_text p) × (k ≤ 131072)) z (w, h);
    }

-- the bytes of the whole program
module _ (file : List ℕ) {out after : List ℕ} {r : Result ℕ Refusal} (t : Tells (program_on file) out after r) where
  pub bytes_told : {n : ℕ} → r ≡ Ok n → Written out after n (plan_bytes file) × (n ≤ 131072)
  unfolding plan_bytes
  bytes_told e = t.told e

  pub bytes_refused : {k : Refusal} {next : List ℕ} {n : ℕ} → r ≡ Err k → Put after next 0 n (refused_line (number_of k)) → Written out next n (plan_bytes file)
  unfolding plan_bytes
  bytes_refused {k} {next} {n} e p =
      let (x, q) = t.refused e in
      subst (λ (c : Result Printed Refusal). Written out next n (output_of c)) (sym x) (subst (λ (d : List ℕ). Written d next n (refused_line (number_of k))) q (put_written p))

-- the lists that pricing fills have the places of the largest network
pub record FullLists (sets sizes works steps : List ℕ) : Type 0 where
  pub set_places : length sets ≡ 1020
  pub size_places : length sizes ≡ 255
  pub work_places : length works ≡ 255
  pub step_numbers : length steps ≡ 635

-- what printing asks: an accepted network, a valid tree, a flag of 0 or 1 for each index
pub record Printable (N : Network) (kids flags : List ℕ) : Type 0 where
  pub ok : accepted N ≡ true
  pub lawful : LawfulTree N (Some kids)
  pub low : (j : ℕ) → j < index_count N → get_or flags j 0 ≤ 1
  pub room : length flags ≡ index_count N

module _ {N : Network} {kids flags : List ℕ} {words : ℕ} (x : Printable N kids flags) (enough : plain_words ≤ words) where
  flags_lawful : LawfulAsk N (flagged flags)
  flags_lawful = (omega (arith, x.room), all_low flags (λ k h. x.low k (omega (arith, x.room))))

  few_leaves : leaf_count N ≤ 128
  few_leaves = ((accepted_means N).0 x.ok).few_leaves

  -- pricing refuses nothing
  pub price_done : price_call N words full_room flags kids ≡ Ok (price_of N (flag_at flags) (pairs_of kids))
  unfolding price_call
  price_done =
      let (a, (b, (c, (d, _)))) = passes_fails (network_checks false N) x.ok in
      let (t, _) = tree_fails N kids x.lawful in
      let (f, _) = flags_fails N flags flags_lawful in
      let l : (length_check
      (lent words plain_words ∷ lent 1020 (node_places N * set_words) ∷ lent 255 (node_places N) ∷ lent 255 (node_places N) ∷ lent 635 (step_places N * step_numbers) ∷ [])
      ).holds ≡ false =
      rw (
        le-ltb words plain_words enough,
        le-ltb 1020 (node_places N * set_words) (omega (arith, few_leaves)),
        le-ltb 255 (node_places N) (omega (arith, few_leaves)),
        le-ltb 635 (step_places N * step_numbers) (omega (arith, few_leaves)),
      ) in
      checked_none (price_checks N words full_room flags kids) (Ok (price_of N (flag_at flags) (pairs_of kids))) (a, (b, (c, (d, (l, (t, (f, tt)))))))

  -- so its answer is the price list
  module _ {c : Result Prices Refusal} (same : c ≡ price_call N words full_room flags kids) {sets₀ sizes₀ works₀ steps₀ sets sizes works steps : List ℕ} {r : Result Prices Refusal}
      (a : Answered N flags kids c sets₀ sizes₀ works₀ steps₀ sets sizes works steps r) where
    is_done : c ≡ Ok (price_of N (flag_at flags) (pairs_of kids))
    is_done = same ∙ price_done

    pub not_refused : {k : Refusal} → r ≡ Err k → ⊥
    not_refused {k} e =
        let q : ◌≡◌ {A = Result Prices Refusal} (Err k) (Ok (price_of N (flag_at flags) (pairs_of kids))) = sym e ∙ a.answer ∙ is_done in
        let z : ◌≡◌ {A = ℕ} 0 1 = cc in
        omega arith

    pricing_is : {h : Prices} → r ≡ Ok h → Pricing 4 N (flag_at flags) (pairs_of kids) sets₀ sizes₀ works₀ steps₀ sets sizes works steps h
    pricing_is {h} e =
        let q : ◌≡◌ {A = Result Prices Refusal} (Ok h) (Ok (price_of N (flag_at flags) (pairs_of kids))) = sym e ∙ a.answer ∙ is_done in
        record {
          list = record {
            sets_are = a.sets_are ∙ rw is_done;
            sizes_are = a.sizes_are ∙ rw is_done;
            works_are = a.works_are ∙ rw is_done;
            steps_are = a.steps_are ∙ rw is_done;
          };
          answer = cc;
          sound = a.sound (price_of N (flag_at flags) (pairs_of kids)) is_done;
        }

    -- THE PLAN IN THE LISTS IS WHAT IS PRINTED
    pub plan_printed : {h : Prices} {out after : List ℕ} {n improved splits : ℕ} → r ≡ Ok h → node_places N * 4 ≤ length sets₀ → step_places N * 5 ≤ length steps₀
        → Put out after 0 n (plan_text (printed_from (leaf_count N) (index_count N) 4 h steps sets flags improved splits))
        → (p : Plan) → PlanHeld N p kids flags → p.rebuilt ≡ improved → p.tried ≡ splits
        → Written out after n (plan_text (printed N p))
    plan_printed {h} {out} {after} {n} {improved} {splits} e b d q p held f g =
        let t : pairs_of kids ≡ p.tree = ap pairs_of held.tree ∙ pairs_flat p.tree in
        let agree : (j : ℕ) → j < index_count N → flag_at flags j ≡ p.flag j =
        λ j k. ap (λ (y : ℕ). not (eqb y 0)) (held.flagged j k) ∙ flag_back (p.flag j) in
        let (y, z) = plan_output 4 N ((accepted_means N).0 x.ok).in_range (omega (arith, ((accepted_means N).0 x.ok).few_indices)) p
        (subst (λ (l : List Pair). valid (leaf_count N) l ≡ true) t x.lawful.1) flags agree
        (subst (λ (l : List Pair). Pricing 4 N (flag_at flags) l sets₀ sizes₀ works₀ steps₀ sets sizes works steps h) t (pricing_is e)) b d
        (subst (λ (y : ℕ). Put out after 0 n (plan_text (printed_from (leaf_count N) (index_count N) 4 h steps sets flags p.rebuilt y))) (sym g)
        (subst (λ (y : ℕ). Put out after 0 n (plan_text (printed_from (leaf_count N) (index_count N) 4 h steps sets flags y splits))) (sym f) q)) in
        record { bytes = y; count = z }

-- ---- from the record ----

module _ (R : Record) where
  pub index_count_lem : index_count (net_of R) ≡ R.index_count
  unfolding net_of
  index_count_lem = layout_index_count R.index_count R.leaf_count R.output_count R.weights R.leg_counts R.legs R.outputs

  pub few_counts : accepted (net_of R) ≡ true → (R.leaf_count ≤ 128) × (R.index_count ≤ 256)
  few_counts ok =
      (omega (arith, leaf_count_lem R, ((accepted_means (net_of R)).0 ok).few_leaves), omega (arith, index_count_lem, ((accepted_means (net_of R)).0 ok).few_indices))

  module _ {kids flags : List ℕ} {words : ℕ} (x : Printable (net_of R) kids flags) (enough : plain_words ≤ words) {sets₀ sizes₀ works₀ steps₀ sets sizes works steps : List ℕ} {r : Result Prices Refusal}
      (full : FullLists sets₀ sizes₀ works₀ steps₀)
      (a : Answered (net_of R) flags kids (price_call (net_of R) words (room (length sets₀) (length sizes₀) (length works₀) (length steps₀)) flags kids)
      sets₀ sizes₀ works₀ steps₀ sets sizes works steps r) where
    same_call : price_call (net_of R) words (room (length sets₀) (length sizes₀) (length works₀) (length steps₀)) flags kids ≡ price_call (net_of R) words full_room flags kids
    same_call =
        λ i. price_call (net_of R) words (room (full.set_places i) (full.size_places i) (full.work_places i) (full.step_numbers i)) flags kids

    pub priced_not_refused : {k : Refusal} → r ≡ Err k → ⊥
    priced_not_refused = not_refused x enough same_call a

    pub text_put : {h : Prices} {out after : List ℕ} {n improved splits : ℕ} → r ≡ Ok h
        → Put out after 0 n (plan_text (printed_from R.leaf_count R.index_count 4 h steps sets flags improved splits))
        → (p : Plan) → PlanHeld (net_of R) p kids flags → p.rebuilt ≡ improved → p.tried ≡ splits → Written out after n (plan_text (printed (net_of R) p))
    text_put {h} {out} {after} {n} {improved} {splits} e q =
        plan_printed x enough same_call a e (omega (arith, few_leaves x enough, full.set_places)) (omega (arith, few_leaves x enough, full.step_numbers))
        (subst (λ (y : ℕ). Put out after 0 n (plan_text (printed_from y (index_count (net_of R)) 4 h steps sets flags improved splits))) (sym (leaf_count_lem R))
        (subst (λ (y : ℕ). Put out after 0 n (plan_text (printed_from R.leaf_count y 4 h steps sets flags improved splits))) (sym index_count_lem) q))
