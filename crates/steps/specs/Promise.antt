-- What pricing with records promises: its answer, and each lent list afterwards. Assumes nothing.
use Rattle.std.specs.Prelude.{false, List, map, ◌≡◌, ℕ, ◌*◌, ◌≤◌, length, take, Result, Err, Ok}
use Rattle.std.proofs.Common.{sym, ap, ◌∙◌, subst, arith}
use Rattle.spec.specs.Memory.{over}
use Rattle.spec.specs.declared.Prices.{Prices}
use Rattle.spec.specs.declared.Refusal.{Refusal}
use Rattle.spec.specs.Network.{Network, index_count}
use Rattle.spec.specs.Tree.{pairs_of}
use Rattle.spec.specs.Price.{listing, flat_steps}
use Rattle.spec.specs.Calls.{plain_words, set_words, step_places, flag_at, price_call, touches, list_after, workspace_after, priced_steps as priced_numbers, priced_sizes, priced_works}
use Rattle.spec.specs.RunClaims.{RunsToDirectSum}
use Rattle.laws.specs.Integers.{ℤ_semiring}
use Rattle.laws.specs.Results.{not_done}
use Rattle.laws.specs.OrderLaws.{listing_length_lem}
use Rattle.pricing.specs.Promise.{steps_in, set_at, ListingSound}
use Rattle.cost.specs.Answers.{room, priced_sets, TreeCost}
use Rattle.steps.specs.declared.Step.{Step}
use Rattle.steps.specs.Records.{steps_of, record_of, numbers_of, steps_are_records, records_taken}
use Rattle.steps.specs.Listed.{records_call, answered, taken}

-- the records afterwards: the steps in front, and every other record as it was
abbrev pub priced_records : Network → (flags kids : List ℕ) → Result Prices Refusal → List Step → List Step
priced_records N flags kids c l = list_after c (λ p. map record_of (listing N (flag_at flags) (pairs_of kids))) l

-- the answer and the lists follow the call c, and the records that are handed out are sound
pub record HandedOut (N : Network) (flags kids : List ℕ) (c : Result Prices Refusal) (ws₀ sets₀ sizes₀ works₀ : List ℕ) (steps₀ : List Step)
    (ws sets sizes works : List ℕ) (steps : List Step) (r : Result Prices Refusal) : Type 0 where
  pub answer : r ≡ c
  pub steps_are : steps ≡ priced_records N flags kids c steps₀
  pub sets_are : sets ≡ priced_sets N kids c sets₀
  pub sizes_are : sizes ≡ priced_sizes N flags kids c sizes₀
  pub works_are : works ≡ priced_works N flags kids c works₀
  pub workspace : ws ≡ workspace_after plain_words c ws₀
  pub sound : (p : Prices) → c ≡ Ok p → ListingSound set_words N (flag_at flags) (pairs_of kids) sets (numbers_of steps)

-- the whole promise: the call is pricing's, for a list of so many records
abbrev pub StepRecords : (N : Network) (flags kids ws₀ sets₀ sizes₀ works₀ : List ℕ) (steps₀ : List Step) (ws sets sizes works : List ℕ) (steps : List Step) → Result Prices Refusal → Type 0
StepRecords N flags kids ws₀ sets₀ sizes₀ works₀ steps₀ ws sets sizes works steps r =
    HandedOut N flags kids (records_call N (length ws₀) (length sets₀) (length sizes₀) (length works₀) (length steps₀) flags kids)
    ws₀ sets₀ sizes₀ works₀ steps₀ ws sets sizes works steps r

-- the listing that `tree_cost` hands out, as `put_steps` reads it: a record for each internal node, in step order
module _ (N : Network) (flags kids ws₀ sets₀ sizes₀ works₀ numbers₀ : List ℕ) where
  abbrev its : Result Prices Refusal
  its = price_call N (length ws₀) (room (length sets₀) (length sizes₀) (length works₀) (length numbers₀)) flags kids

  module _ {ws sets sizes works numbers : List ℕ} {p : Prices} (t : TreeCost N flags kids ws₀ sets₀ sizes₀ works₀ numbers₀ ws sets sizes works numbers (Ok p)) where
    done : its ≡ Ok p
    done = sym t.answered.answer

    pub listed : take (step_places N * 5) numbers ≡ flat_steps (listing N (flag_at flags) (pairs_of kids))
    listed =
        let (v, h) = answered N (length ws₀) (length sets₀) (length sizes₀) (length works₀) flags kids (length numbers₀) p done in
        ap (take (step_places N * 5)) (t.answered.steps_are ∙ ap (λ z. priced_numbers N flags kids z numbers₀) done)
        ∙ taken (listing N (flag_at flags) (pairs_of kids)) (step_places N) numbers₀ (listing_length_lem N (flag_at flags) (pairs_of kids) v) h

    pub priced_records_are : steps_of numbers (step_places N) ≡ map record_of (listing N (flag_at flags) (pairs_of kids))
    priced_records_are =
        let (v, h) = answered N (length ws₀) (length sets₀) (length sizes₀) (length works₀) flags kids (length numbers₀) p done in
        steps_are_records (listing N (flag_at flags) (pairs_of kids)) numbers (step_places N) (listing_length_lem N (flag_at flags) (pairs_of kids) v) listed

pub priced_steps : {ws sets sizes works numbers : List ℕ} {x : Result Prices Refusal} (N : Network) (flags kids ws₀ sets₀ sizes₀ works₀ numbers₀ : List ℕ) (p : Prices)
    → TreeCost N flags kids ws₀ sets₀ sizes₀ works₀ numbers₀ ws sets sizes works numbers x
    → price_call N (length ws₀) (room (length sets₀) (length sizes₀) (length works₀) (length numbers₀)) flags kids ≡ Ok p
    → steps_of numbers (step_places N) ≡ map record_of (listing N (flag_at flags) (pairs_of kids))
priced_steps {ws} {sets} {sizes} {works} {numbers} N flags kids ws₀ sets₀ sizes₀ works₀ numbers₀ p t e =
    priced_records_are N flags kids ws₀ sets₀ sizes₀ works₀ numbers₀ {p = p}
    (subst (λ z. TreeCost N flags kids ws₀ sets₀ sizes₀ works₀ numbers₀ ws sets sizes works numbers z) (t.answered.answer ∙ e) t)

module _ (N : Network) (flags kids ws₀ sets₀ sizes₀ works₀ : List ℕ) (steps₀ : List Step) where
  abbrev call : Result Prices Refusal
  call = records_call N (length ws₀) (length sets₀) (length sizes₀) (length works₀) (length steps₀) flags kids

  -- refused with nothing touched
  pub records_untouched : (r : Refusal) → call ≡ Err r → touches r ≡ false
      → StepRecords N flags kids ws₀ sets₀ sizes₀ works₀ steps₀ ws₀ sets₀ sizes₀ works₀ steps₀ (Err r)
  records_untouched r e q = record {
    answer = sym e;
    steps_are = rw e;
    sets_are = rw e;
    sizes_are = rw e;
    works_are = rw e;
    workspace = rw (e, q);
    sound = λ p f. not_done r p (sym e ∙ f);
  }

  -- as pricing answers with a listing of numbers
  module _ (numbers₀ : List ℕ) {ws sets sizes works numbers : List ℕ} (same : its N flags kids ws₀ sets₀ sizes₀ works₀ numbers₀ ≡ call) where
    pub records_refused : {r : Refusal} → TreeCost N flags kids ws₀ sets₀ sizes₀ works₀ numbers₀ ws sets sizes works numbers (Err r)
        → StepRecords N flags kids ws₀ sets₀ sizes₀ works₀ steps₀ ws sets sizes works steps₀ (Err r)
    records_refused {r} t =
        let e : call ≡ Err r = sym (t.answered.answer ∙ same) in
        record {
          answer = sym e;
          steps_are = rw e;
          sets_are = t.answered.sets_are ∙ ap (λ z. priced_sets N kids z sets₀) same;
          sizes_are = t.answered.sizes_are ∙ ap (λ z. priced_sizes N flags kids z sizes₀) same;
          works_are = t.answered.works_are ∙ ap (λ z. priced_works N flags kids z works₀) same;
          workspace = t.workspace ∙ ap (λ z. workspace_after plain_words z ws₀) same;
          sound = λ p f. not_done r p (sym e ∙ f);
        }

    pub records_priced : {p : Prices} {steps : List Step} → TreeCost N flags kids ws₀ sets₀ sizes₀ works₀ numbers₀ ws sets sizes works numbers (Ok p)
        → steps ≡ over steps₀ (steps_of numbers (step_places N)) → StepRecords N flags kids ws₀ sets₀ sizes₀ works₀ steps₀ ws sets sizes works steps (Ok p)
    records_priced {p} {steps} t q =
        let e : call ≡ Ok p = sym (t.answered.answer ∙ same) in
        let (v, h) = answered N (length ws₀) (length sets₀) (length sizes₀) (length works₀) flags kids (length steps₀ * 5) p e in
        let fits : step_places N ≤ length steps₀ = omega arith in
        let are : steps ≡ over steps₀ (map record_of (listing N (flag_at flags) (pairs_of kids))) =
        q ∙ ap (over steps₀) (priced_records_are N flags kids ws₀ sets₀ sizes₀ works₀ numbers₀ t) in
        let w : take (step_places N * 5) numbers ≡ take (step_places N * 5) (numbers_of steps) =
        listed N flags kids ws₀ sets₀ sizes₀ works₀ numbers₀ t
        ∙ sym (ap (λ (z : List Step). take (step_places N * 5) (numbers_of z)) are
        ∙ records_taken (listing N (flag_at flags) (pairs_of kids)) steps₀ (step_places N) (listing_length_lem N (flag_at flags) (pairs_of kids) v) fits) in
        record {
          answer = sym e;
          steps_are = rw e are;
          sets_are = t.answered.sets_are ∙ ap (λ z. priced_sets N kids z sets₀) same;
          sizes_are = t.answered.sizes_are ∙ ap (λ z. priced_sizes N flags kids z sizes₀) same;
          works_are = t.answered.works_are ∙ ap (λ z. priced_works N flags kids z works₀) same;
          workspace = t.workspace ∙ ap (λ z. workspace_after plain_words z ws₀) same;
          sound = λ p' f two s tables.
              subst (λ (z : List ℕ). RunsToDirectSum ℤ_semiring N tables (flag_at flags) (pairs_of kids) (steps_in (set_at sets set_words (index_count N)) z)) w
              (t.answered.sound p (sym t.answered.answer) two s tables);
        }
