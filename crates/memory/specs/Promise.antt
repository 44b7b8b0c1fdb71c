-- What pricing a network in memory promises: the number, the answer, and each lent list. Assumes nothing.
use Rattle.std.specs.Prelude.{◌≡◌, refl, Bool, true, false, cond, List, ℕ, ◌≤◌, ◌<◌, length, Option, None, Some, Result, Err, Ok}
use Rattle.std.proofs.Common.{sym, ap, ◌∙◌, subst}
use Rattle.spec.specs.declared.Refusal.{Refusal}
use Rattle.spec.specs.declared.Refusal.TheVariants.{ShortBuffer, TooLarge}
use Rattle.spec.specs.declared.Prices.{Prices}
use Rattle.spec.specs.Memory.{cleared, over}
use Rattle.spec.specs.Refusal.{number_of, code_of}
use Rattle.spec.specs.FileClaims.{refusal_in}
use Rattle.spec.specs.Network.{Network, refusal_of}
use Rattle.spec.specs.Tree.{pairs_of}
use Rattle.spec.specs.Calls.{plain_words, set_words, flag_at, touches, price_call, workspace_after, priced_steps, priced_sizes, priced_works}
use Rattle.spec.specs.Host.{lent_network, price_numbers, memory_call, answer_after}
use Rattle.laws.specs.Results.{not_done}
use Rattle.network.specs.Codes.{large_of, refused_large, large_layout}
use Rattle.pricing.specs.Promise.{ListingSound}
use Rattle.cost.specs.Answers.{told, room, priced_sets, TreeCost}
use Rattle.memory.specs.Call.{as_priced, as_refused, as_short, untouched}
use Rattle.memory.specs.Numbers.{or_short}

-- every list follows the call c, and the listing that is handed out is sound
pub record Follows (N : Network) (flags kids : List ℕ) (c : Result Prices Refusal) (ws₀ sets₀ sizes₀ works₀ steps₀ answer₀ ws sets sizes works steps answer : List ℕ) (r : ℕ) : Type 0 where
  pub number : r ≡ code_of (refusal_in c)
  pub answer_is : answer ≡ answer_after c answer₀
  pub steps_are : steps ≡ priced_steps N flags kids c steps₀
  pub sets_are : sets ≡ priced_sets N kids c sets₀
  pub sizes_are : sizes ≡ priced_sizes N flags kids c sizes₀
  pub works_are : works ≡ priced_works N flags kids c works₀
  pub workspace : ws ≡ workspace_after plain_words c ws₀
  pub sound : (p : Prices) → c ≡ Ok p → ListingSound set_words N (flag_at flags) (pairs_of kids) sets steps

-- the whole promise: the call is `memory_call`
abbrev pub MemoryCost : (N : Network) (flags kids ws₀ sets₀ sizes₀ works₀ steps₀ answer₀ ws sets sizes works steps answer : List ℕ) (r : ℕ) → Type 0
MemoryCost N flags kids ws₀ sets₀ sizes₀ works₀ steps₀ answer₀ ws sets sizes works steps answer r =
    Follows N flags kids
    (memory_call (length answer₀) N (length ws₀) (room (length sets₀) (length sizes₀) (length works₀) (length steps₀)) flags kids)
    ws₀ sets₀ sizes₀ works₀ steps₀ answer₀ ws sets sizes works steps answer r

module _ (N : Network) (flags kids ws₀ sets₀ sizes₀ works₀ steps₀ answer₀ : List ℕ) where
  abbrev own : Result Prices Refusal
  own = memory_call (length answer₀) N (length ws₀) (room (length sets₀) (length sizes₀) (length works₀) (length steps₀)) flags kids

  abbrev pricing : Result Prices Refusal
  pricing = price_call N (length ws₀) (room (length sets₀) (length sizes₀) (length works₀) (length steps₀)) flags kids

  -- a refusal by 3 to 7 leaves every list as it was
  stays : (k : Refusal) {r : ℕ} → own ≡ Err k → touches k ≡ false → r ≡ number_of k
      → MemoryCost N flags kids ws₀ sets₀ sizes₀ works₀ steps₀ answer₀ ws₀ sets₀ sizes₀ works₀ steps₀ answer₀ r
  stays k e t q = record {
    number = q ∙ sym (ap (λ c. code_of (refusal_in c)) e);
    answer_is = sym (ap (λ c. answer_after c answer₀) e);
    steps_are = sym (ap (λ c. priced_steps N flags kids c steps₀) e);
    sets_are = sym (ap (λ c. priced_sets N kids c sets₀) e);
    sizes_are = sym (ap (λ c. priced_sizes N flags kids c sizes₀) e);
    works_are = sym (ap (λ c. priced_works N flags kids c works₀) e);
    workspace = sym (ap (λ c. workspace_after plain_words c ws₀) e ∙ ap (λ b. cond b (cleared ws₀ plain_words) ws₀) t);
    sound = λ p h. not_done k p (sym e ∙ h);
  }

  pub cost_network : (k : Refusal) → refusal_of N ≡ Some k
      → MemoryCost N flags kids ws₀ sets₀ sizes₀ works₀ steps₀ answer₀ ws₀ sets₀ sizes₀ works₀ steps₀ answer₀ (number_of k)
  cost_network k e = stays k (as_refused (length answer₀) N (length ws₀) _ flags kids k e) (untouched N k e) refl

  pub told_network : (k : Refusal) → refusal_of N ≡ Some k → Err k ≡ told own
  told_network k e = sym (ap told (as_refused (length answer₀) N (length ws₀) _ flags kids k e))

  short_cases : (o : Option Refusal) {r : ℕ} → refusal_of N ≡ o → length answer₀ < 4 → r ≡ or_short o
      → MemoryCost N flags kids ws₀ sets₀ sizes₀ works₀ steps₀ answer₀ ws₀ sets₀ sizes₀ works₀ steps₀ answer₀ r
  short_cases None e h q = stays ShortBuffer (as_short (length answer₀) N (length ws₀) _ flags kids e h) refl q
  short_cases (Some k) e h q = rw q (cost_network k e)

  -- no room for the answer: the network's own refusal, or 7 where it has none
  pub cost_short : {r : ℕ} → length answer₀ < 4 → r ≡ or_short (refusal_of N)
      → MemoryCost N flags kids ws₀ sets₀ sizes₀ works₀ steps₀ answer₀ ws₀ sets₀ sizes₀ works₀ steps₀ answer₀ r
  cost_short = short_cases (refusal_of N) refl

  pub told_short : refusal_of N ≡ None → length answer₀ < 4 → Err ShortBuffer ≡ told own
  told_short e h = sym (ap told (as_short (length answer₀) N (length ws₀) _ flags kids e h))

  -- with room for the answer the lists are pricing's
  module _ (h : 4 ≤ length answer₀) where
    same : own ≡ pricing
    same = as_priced (length answer₀) N (length ws₀) _ flags kids h

    follows : {ws sets sizes works steps answer : List ℕ} {x : Result Prices Refusal} {r : ℕ}
        → TreeCost N flags kids ws₀ sets₀ sizes₀ works₀ steps₀ ws sets sizes works steps x
        → r ≡ code_of (refusal_in own) → answer ≡ answer_after own answer₀
        → MemoryCost N flags kids ws₀ sets₀ sizes₀ works₀ steps₀ answer₀ ws sets sizes works steps answer r
    follows t q a = record {
      number = q;
      answer_is = a;
      steps_are = t.answered.steps_are ∙ sym (ap (λ c. priced_steps N flags kids c steps₀) same);
      sets_are = t.answered.sets_are ∙ sym (ap (λ c. priced_sets N kids c sets₀) same);
      sizes_are = t.answered.sizes_are ∙ sym (ap (λ c. priced_sizes N flags kids c sizes₀) same);
      works_are = t.answered.works_are ∙ sym (ap (λ c. priced_works N flags kids c works₀) same);
      workspace = t.workspace ∙ sym (ap (λ c. workspace_after plain_words c ws₀) same);
      sound = λ p e. t.answered.sound p (sym same ∙ e);
    }

    pub cost_refused : {ws sets sizes works steps : List ℕ} {x : Result Prices Refusal} {k : Refusal} → x ≡ Err k
        → TreeCost N flags kids ws₀ sets₀ sizes₀ works₀ steps₀ ws sets sizes works steps x
        → MemoryCost N flags kids ws₀ sets₀ sizes₀ works₀ steps₀ answer₀ ws sets sizes works steps answer₀ (number_of k)
    cost_refused {k = k} e t =
        let y : pricing ≡ Err k = sym t.answered.answer ∙ e in
        follows t (sym (ap (λ c. code_of (refusal_in c)) (same ∙ y))) (sym (ap (λ c. answer_after c answer₀) (same ∙ y)))

    pub cost_done : {ws sets sizes works steps answer : List ℕ} {x : Result Prices Refusal} {p : Prices} → x ≡ Ok p
        → TreeCost N flags kids ws₀ sets₀ sizes₀ works₀ steps₀ ws sets sizes works steps x
        → answer ≡ over answer₀ (price_numbers p)
        → MemoryCost N flags kids ws₀ sets₀ sizes₀ works₀ steps₀ answer₀ ws sets sizes works steps answer 0
    cost_done {p = p} e t a =
        let y : pricing ≡ Ok p = sym t.answered.answer ∙ e in
        follows t (sym (ap (λ c. code_of (refusal_in c)) (same ∙ y))) (a ∙ sym (ap (λ c. answer_after c answer₀) (same ∙ y)))

    pub told_priced : {ws sets sizes works steps : List ℕ} {x : Result Prices Refusal}
        → TreeCost N flags kids ws₀ sets₀ sizes₀ works₀ steps₀ ws sets sizes works steps x → told x ≡ told own
    told_priced t = ap told (t.answered.answer ∙ sym same)

-- of two networks that are one
pub cost_same : {M N : Network} {flags kids ws₀ sets₀ sizes₀ works₀ steps₀ answer₀ ws sets sizes works steps answer : List ℕ} {r : ℕ} → M ≡ N
    → MemoryCost M flags kids ws₀ sets₀ sizes₀ works₀ steps₀ answer₀ ws sets sizes works steps answer r
    → MemoryCost N flags kids ws₀ sets₀ sizes₀ works₀ steps₀ answer₀ ws sets sizes works steps answer r
cost_same {flags = flags} {kids} {ws₀} {sets₀} {sizes₀} {works₀} {steps₀} {answer₀} {ws} {sets} {sizes} {works} {steps} {answer} {r} e t =
    subst (λ L. MemoryCost L flags kids ws₀ sets₀ sizes₀ works₀ steps₀ answer₀ ws sets sizes works steps answer r) e t

-- a count above its limit
pub lent_large : {b : Bool} (weights counts legs outputs : List ℕ) → b ≡ large_of (length weights) (length counts) (length outputs) counts → b ≡ true
    → refusal_of (lent_network weights counts legs outputs) ≡ Some TooLarge
lent_large weights counts legs outputs e t =
    refused_large (lent_network weights counts legs outputs)
    (large_layout (length weights) (length counts) (length outputs) weights counts legs outputs ∙ sym e ∙ t)
