-- Pricing's checks one after the other, and what each answer leaves. Assumes nothing.
use Rattle.std.specs.Prelude.{Bool, true, false, not, ◌≡◌, refl, ℕ, ◌+◌, ◌-◌, ◌*◌, ◌≤◌, ◌<◌, ltb, length, take, drop, Option, None, Some, Result, Err, Ok}
use Rattle.std.proofs.Math.Bool.{or-false}
use mathlib.Core.List.{List, [], ◌∷◌}
use Rattle.spec.specs.declared.Refusal.{Refusal}
use Rattle.spec.specs.declared.Refusal.TheVariants.{ShortBuffer, InvalidTree, InvalidFlags}
use Rattle.std.proofs.Math.Path.{sym, ap, subst}
use Rattle.std.proofs.Common.{◌∙◌, arith, take_at}
use borrow.Author.Tests.{lt-ltb, le-ltb, ltb-false}
use Rattle.spec.specs.Lists.{anyb}
use Rattle.spec.specs.Memory.{over, cleared}
use Rattle.spec.specs.Refusal.{number_of, code_of, Check, check, decide, checked}
use Rattle.spec.specs.Network.{Network, leaf_count, index_count, network_checks, refusal_of}
use Rattle.spec.specs.Tree.{pairs_of, step_order}
use Rattle.spec.specs.Price.{price_of}
use Rattle.spec.specs.Calls as calls
use Rattle.spec.specs.Calls.{lent, plain_words, set_words, step_numbers, wrong_tree, tree_check, flags_check, flag_at, node_places, step_places, length_check, price_call, touches, workspace_after}
use Rattle.laws.specs.Booleans.{clash, or_none}
use Rattle.laws.specs.Results.{not_done, refused_same}
use Rattle.laws.specs.FileLists.{over_front}
use Rattle.network.specs.Checks.{Lent, Fitting, lent_fitting, Rows}
use Rattle.network.specs.Codes.{Facts, positive}
use Rattle.nodesets.specs.Lists.{Ordered, ordered_steps}
use Rattle.walk.specs.Wrong.{not_wrong}
use Rattle.walk.specs.Entry.{Untouched, first_some, by_network, past_network, past_length, holds_first, passes_first}
use Rattle.pricing.specs.Promise.{Priceable, Room, Pricing}
use Rattle.spec.specs.declared.Prices.{Prices}
use Rattle.cost.specs.Answers.{room, Answered, TreeCost, too_few, wrong_flags, rest_call}

-- the lent lists have the stated lengths
pub record LongEnough (n words sets sizes works steps : ℕ) : Type 0 where
  pub for_words : plain_words ≤ words
  pub for_sets : (n + (n - 1)) * 4 ≤ sets
  pub for_sizes : n + (n - 1) ≤ sizes
  pub for_works : n + (n - 1) ≤ works
  pub for_steps : (n - 1) * 5 ≤ steps

-- ---- 7 and 9 ----

module _ (n words sets sizes works steps : ℕ) where
  pub few_words : words < plain_words → true ≡ too_few n words sets sizes works steps
  unfolding too_few
  few_words h = sym (rw (lt-ltb words plain_words h))

  module _ (a : plain_words ≤ words) where
    pub few_sets : sets < (n + (n - 1)) * 4 → true ≡ too_few n words sets sizes works steps
    unfolding too_few
    few_sets h = sym (rw (le-ltb words plain_words a, lt-ltb sets ((n + (n - 1)) * 4) h))

    module _ (b : (n + (n - 1)) * 4 ≤ sets) where
      pub few_sizes : sizes < n + (n - 1) → true ≡ too_few n words sets sizes works steps
      unfolding too_few
      few_sizes h = sym (rw (le-ltb words plain_words a, le-ltb sets ((n + (n - 1)) * 4) b, lt-ltb sizes (n + (n - 1)) h))

      module _ (c : n + (n - 1) ≤ sizes) where
        pub few_works : works < n + (n - 1) → true ≡ too_few n words sets sizes works steps
        unfolding too_few
        few_works h =
            sym (rw (le-ltb words plain_words a, le-ltb sets ((n + (n - 1)) * 4) b, le-ltb sizes (n + (n - 1)) c, lt-ltb works (n + (n - 1)) h))

        pub few_steps : n + (n - 1) ≤ works → ltb steps ((n - 1) * 5) ≡ too_few n words sets sizes works steps
        unfolding too_few
        few_steps h =
            sym (rw (le-ltb words plain_words a, le-ltb sets ((n + (n - 1)) * 4) b, le-ltb sizes (n + (n - 1)) c, le-ltb works (n + (n - 1)) h)
            (or-false (ltb steps ((n - 1) * 5))))

  pub long_enough : too_few n words sets sizes works steps ≡ false → LongEnough n words sets sizes works steps
  unfolding too_few
  long_enough e =
      let (a, e₁) = or_none (ltb words plain_words) _ e in
      let (b, e₂) = or_none (ltb sets ((n + (n - 1)) * 4)) _ e₁ in
      let (c, e₃) = or_none (ltb sizes (n + (n - 1))) _ e₂ in
      let (d, e₄) = or_none (ltb works (n + (n - 1))) _ e₃ in
      let (f, e₅) = or_none (ltb steps ((n - 1) * 5)) _ e₄ in
      record {
        for_words = ltb-false words plain_words a;
        for_sets = ltb-false sets ((n + (n - 1)) * 4) b;
        for_sizes = ltb-false sizes (n + (n - 1)) c;
        for_works = ltb-false works (n + (n - 1)) d;
        for_steps = ltb-false steps ((n - 1) * 5) f;
      }

pub many_flags : (m : ℕ) (flags : List ℕ) → m < length flags → true ≡ wrong_flags m flags
unfolding wrong_flags
many_flags m flags h = sym (rw (lt-ltb m (length flags) h))

pub few_flags : (m : ℕ) (flags : List ℕ) → length flags ≤ m → anyb (λ b. ltb 1 b) flags ≡ wrong_flags m flags
unfolding wrong_flags
few_flags m flags h = sym (rw (le-ltb m (length flags) h))

-- ---- the calls ----

module _ (N : Network) (flags kids : List ℕ) where
  pub rest_tree : (n : ℕ) → leaf_count N ≡ n → wrong_tree n kids ≡ true → rest_call N flags kids ≡ Err InvalidTree
  unfolding rest_call
  rest_tree n q h = holds_first (tree_check N kids) (flags_check N flags ∷ []) (Ok (price_of N (flag_at flags) (pairs_of kids))) (rw q h)

  module _ (n m : ℕ) (qn : leaf_count N ≡ n) (qm : index_count N ≡ m) (right : wrong_tree n kids ≡ false) where
    pub rest_flags : wrong_flags m flags ≡ true → rest_call N flags kids ≡ Err InvalidFlags
    unfolding rest_call wrong_flags
    rest_flags h =
        passes_first (tree_check N kids) (flags_check N flags ∷ []) (Ok (price_of N (flag_at flags) (pairs_of kids))) (rw qn right)
        ∙ holds_first (flags_check N flags) [] (Ok (price_of N (flag_at flags) (pairs_of kids))) (rw qm h)

    pub rest_done : wrong_flags m flags ≡ false → rest_call N flags kids ≡ Ok (price_of N (flag_at flags) (pairs_of kids))
    unfolding rest_call wrong_flags
    rest_done h =
        passes_first (tree_check N kids) (flags_check N flags ∷ []) (Ok (price_of N (flag_at flags) (pairs_of kids))) (rw qn right)
        ∙ passes_first (flags_check N flags) [] (Ok (price_of N (flag_at flags) (pairs_of kids))) (rw qm h)

  module _ (words sets sizes works steps : ℕ) where
    abbrev call : Result Prices Refusal
    call = price_call N words (room sets sizes works steps) flags kids

    abbrev lents : List calls.Lent
    lents =
        lent words plain_words
        ∷ lent sets (node_places N * set_words)
        ∷ lent sizes (node_places N)
        ∷ lent works (node_places N)
        ∷ lent steps (step_places N * step_numbers)
        ∷ []

    abbrev rest : List Check
    rest = tree_check N kids ∷ flags_check N flags ∷ []

    -- the network's own refusal comes first, and touches nothing
    pub call_refused : (r : Refusal) → refusal_of N ≡ Some r → (call ≡ Err r) × (touches r ≡ false)
    unfolding price_call
    call_refused r e =
        let x : Result Prices Refusal = Ok (price_of N (flag_at flags) (pairs_of kids)) in
        let is : call ≡ Err r = ap (λ (o : Option Refusal). decide o x) (first_some (network_checks false N) (length_check lents ∷ rest) r e) in
        let u = by_network N (length_check lents ∷ rest) x (number_of r) (sym (ap code_of e)) (λ z. omega (arith, positive r)) in
        let q : u.refusal ≡ r = refused_same {A = Prices} u.refusal r (sym u.is ∙ is) in
        (is, ap touches (sym q) ∙ u.quiet)

    -- with its number
    pub refused_untouched : (k : ℕ) → k ≡ code_of (refusal_of N) → (k ≡ 0 → ⊥) → Untouched k call
    unfolding price_call
    refused_untouched k e z = by_network N (length_check lents ∷ rest) (Ok (price_of N (flag_at flags) (pairs_of kids))) k e z

    module _ (n : ℕ) (q : leaf_count N ≡ n) (ok : refusal_of N ≡ None) where
      pub call_few : too_few n words sets sizes works steps ≡ true → call ≡ Err ShortBuffer
      unfolding price_call too_few
      call_few h =
          past_network N (length_check lents ∷ rest) (Ok (price_of N (flag_at flags) (pairs_of kids))) ok
          ∙ holds_first (length_check lents) rest (Ok (price_of N (flag_at flags) (pairs_of kids))) (rw q h)

      -- with its number, and nothing is touched
      pub few_untouched : too_few n words sets sizes works steps ≡ true → Untouched 7 call
      few_untouched h = record { refusal = ShortBuffer; is = call_few h; number = refl; quiet = refl }

      pub call_rest : too_few n words sets sizes works steps ≡ false → call ≡ rest_call N flags kids
      unfolding price_call too_few rest_call
      call_rest h =
          past_network N (length_check lents ∷ rest) (Ok (price_of N (flag_at flags) (pairs_of kids))) ok
          ∙ past_length lents rest (Ok (price_of N (flag_at flags) (pairs_of kids))) (rw q h)

-- the tree check's answer
pub tree_wrong : (b w : Bool) → b ≡ not w → not b ≡ true → w ≡ true
tree_wrong b true e f = refl
tree_wrong b false e f = clash f (ap not e)

pub tree_right : (b w : Bool) → b ≡ not w → not b ≡ false → w ≡ false
tree_right b true e f = clash (ap not e) f
tree_right b false e f = refl

-- ---- what an answer leaves ----

module _ (N : Network) (flags kids sets₀ sizes₀ works₀ steps₀ : List ℕ) (c : Result Prices Refusal) where
  pub answered_refused : (r : Refusal) → c ≡ Err r → Answered N flags kids c sets₀ sizes₀ works₀ steps₀ sets₀ sizes₀ works₀ steps₀ (Err r)
  answered_refused r e =
      record {
        answer = sym e;
        steps_are = rw e;
        sets_are = rw e;
        sizes_are = rw e;
        works_are = rw e;
        sound = λ p f. not_done r p (sym e ∙ f);
      }

  pub answered_done : (sets sizes works steps : List ℕ) (x : Prices) → c ≡ Ok (price_of N (flag_at flags) (pairs_of kids))
      → Pricing 4 N (flag_at flags) (pairs_of kids) sets₀ sizes₀ works₀ steps₀ sets sizes works steps x
      → Answered N flags kids c sets₀ sizes₀ works₀ steps₀ sets sizes works steps (Ok x)
  answered_done sets sizes works steps x e p =
      record {
        answer = ap Ok p.answer ∙ sym e;
        steps_are = rw e p.list.steps_are;
        sets_are = rw e p.list.sets_are;
        sizes_are = rw e p.list.sizes_are;
        works_are = rw e p.list.works_are;
        sound = λ q f. p.sound;
      }

-- ---- what pricing asks ----

pub fitting_rows : {m n o : ℕ} {weights counts rows outputs : List ℕ} → Fitting m n o weights counts rows outputs → Facts m n o weights counts rows outputs
    → Rows n counts rows
fitting_rows l f = record { counted = l.count_places f.few_leaves; room = l.leg_places f.few_leaves; few = f.few_legs }

pub fitting_priceable : {m n o : ℕ} {weights counts rows outputs kids order : List ℕ} → Fitting m n o weights counts rows outputs
    → Facts m n o weights counts rows outputs → wrong_tree n kids ≡ false → order ≡ step_order kids n
    → Priceable 4 m n o weights counts rows outputs kids order
fitting_priceable {m} {n} {o} {weights} {counts} {rows} {outputs} {kids} {order} l f right e =
    record {
      narrow = omega arith;
      fits = omega (arith, f.few_indices);
      few = omega (arith, f.few_leaves);
      few_outputs = omega (arith, f.few_outputs);
      weight_places = l.weight_places f.few_indices;
      row_places = fitting_rows l f;
      accepted = f.accepted;
      ordered = record { is_valid = not_wrong n kids right; in_order = e };
    }

-- the same of lists of a record's lengths
pub row_places : {m n o : ℕ} {weights counts rows outputs : List ℕ} → Lent weights counts rows outputs → Facts m n o weights counts rows outputs
    → Rows n counts rows
row_places {m} {n} {o} l f = fitting_rows (lent_fitting m n o l) f

pub priceable : {m n o : ℕ} {weights counts rows outputs kids order : List ℕ} → Lent weights counts rows outputs
    → Facts m n o weights counts rows outputs → wrong_tree n kids ≡ false → order ≡ step_order kids n
    → Priceable 4 m n o weights counts rows outputs kids order
priceable {m} {n} {o} l f right e = fitting_priceable (lent_fitting m n o l) f right e

pub enough : {n words sets sizes works steps words' : ℕ} {kids order : List ℕ} → n ≤ 128 → LongEnough n words sets sizes works steps → words' ≡ words
    → Ordered n kids order → Room 4 n kids order words' sets sizes works steps
enough few l e o =
    let s = ordered_steps o in
    record {
      for_outside = omega (arith, few, e, l.for_words, s.numbers);
      for_sets = omega (arith, l.for_sets, s.numbers);
      for_sizes = omega (arith, l.for_sizes, s.numbers);
      for_works = omega (arith, l.for_works, s.numbers);
      for_steps = omega (arith, l.for_steps, s.steps);
    }

-- the front of a list that the step order was written to
pub order_front : (old new s : List ℕ) (k : ℕ) → new ≡ over old s → length s ≡ k → k ≤ length old → take k new ≡ s
order_front old new s k e q h =
    ap (take k) (e ∙ over_front old s (omega arith)) ∙ take_at s (drop (length s) old) k q

pub front_length : (old new s : List ℕ) (k : ℕ) → new ≡ over old s → length s ≡ k → k ≤ length old → k ≡ length (take k new)
front_length old new s k e q h = sym (ap length (order_front old new s k e q h) ∙ q)

-- ---- the whole promise ----

pub part_words : {n words words' sets sizes works steps : ℕ} → plain_words ≤ words' → LongEnough n words sets sizes works steps
    → LongEnough n words' sets sizes works steps
part_words e l =
    record { for_words = e; for_sets = l.for_sets; for_sizes = l.for_sizes; for_works = l.for_works; for_steps = l.for_steps }

after_either : (x y : Bool) (p : Prices) (ws : List ℕ)
    → cleared ws plain_words ≡ workspace_after plain_words (checked (check x InvalidTree ∷ check y InvalidFlags ∷ []) (Ok p)) ws
after_either true y p ws = refl
after_either false true p ws = refl
after_either false false p ws = refl

module _ (N : Network) (flags kids ws₀ sets₀ sizes₀ works₀ steps₀ : List ℕ) where
  abbrev whole : Result Prices Refusal
  whole = price_call N (length ws₀) (room (length sets₀) (length sizes₀) (length works₀) (length steps₀)) flags kids

  -- a call that is refused with nothing touched
  pub untouched_cost : (r : Refusal) → whole ≡ Err r → touches r ≡ false
      → TreeCost N flags kids ws₀ sets₀ sizes₀ works₀ steps₀ ws₀ sets₀ sizes₀ works₀ steps₀ (Err r)
  untouched_cost r e q =
      record {
        answered = answered_refused N flags kids sets₀ sizes₀ works₀ steps₀ whole r e;
        workspace = rw (e, q);
      }

  -- and one whose network is refused
  pub network_cost : (r : Refusal) → refusal_of N ≡ Some r → TreeCost N flags kids ws₀ sets₀ sizes₀ works₀ steps₀ ws₀ sets₀ sizes₀ works₀ steps₀ (Err r)
  network_cost r e =
      let (is, quiet) = call_refused N flags kids (length ws₀) (length sets₀) (length sizes₀) (length works₀) (length steps₀) r e in
      untouched_cost r is quiet

  -- a call that the checks of the tree and of the flags decide
  pub rest_cost : (ws sets sizes works steps : List ℕ) (r : Result Prices Refusal) → whole ≡ rest_call N flags kids → ws ≡ cleared ws₀ plain_words
      → Answered N flags kids (rest_call N flags kids) sets₀ sizes₀ works₀ steps₀ sets sizes works steps r
      → TreeCost N flags kids ws₀ sets₀ sizes₀ works₀ steps₀ ws sets sizes works steps r
  unfolding rest_call
  rest_cost ws sets sizes works steps r e q g =
      record {
        answered = subst (λ c. Answered N flags kids c sets₀ sizes₀ works₀ steps₀ sets sizes works steps r) (sym e) g;
        workspace = q ∙ after_either (tree_check N kids).holds (flags_check N flags).holds (price_of N (flag_at flags) (pairs_of kids)) ws₀ ∙ ap (λ c. workspace_after plain_words c ws₀) (sym e);
      }
