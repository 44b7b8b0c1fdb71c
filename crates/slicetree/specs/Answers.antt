-- What slicing's entry answers; the call step by step, and what it leaves behind. Assumes nothing.
use Rattle.std.specs.Prelude.{Bool, true, false, ◌≡◌, refl, List, [], ◌∷◌, ℕ, ◌≤◌, ◌<◌, length, get_or, Option, None, Some, Result, Ok, Err}
use Rattle.std.proofs.Common.{sym, ◌∙◌, ap, subst, arith, lt-ltb, le-ltb}
use Rattle.spec.specs.declared.Refusal.{Refusal}
use Rattle.spec.specs.declared.Refusal.TheVariants.{ShortBuffer, InvalidTree, TotalBeyond, DanglingIndex}
use Rattle.spec.specs.Memory.{cleared, copied}
use Rattle.spec.specs.Network.{Network, leaf_count, index_count, refusal_of}
use Rattle.spec.specs.Tree.{pairs_of, flat_of}
use Rattle.spec.specs.Refusal.{code_of, Check, check, first, decide, checked}
use Rattle.spec.specs.Calls.{Lent, lent, length_check, plain_words, slice_words, wrong_tree, tree_check, beyond_check, total_is_beyond, dangling, dangling_check, dangling_if, follow_up, slice_call, sliced_tree, sliced_flags, workspace_after}
use Rattle.spec.specs.Slicing.{Plan, slice_loop}
use Rattle.laws.specs.Booleans.{clash}
use Rattle.laws.specs.Results.{not_done, refused_same}
use Rattle.walk.specs.Entry.{Untouched, by_network, network_refused, network_quiet, quiet_words, quiet_list, past_network, too_short, past_length, holds_first, passes_first}
use Rattle.reconf.specs.declared.Visited.{Visited}
use Rattle.slicing.specs.Promise.{plan_with}
use Rattle.slicing.specs.Turns.{Sliced as Turned}
use Rattle.slicetree.specs.Choices.{Stands, ChoicesMade}
use Rattle.slicetree.specs.Clear.{flags_for, plan_of, SlicedTo, sliced_to, stands_clear}

-- the counts of a plan
abbrev pub counts : Result Plan Refusal → Result Visited Refusal
counts (Err r) = Err r
counts (Ok p) = Ok (record { rebuilt = p.rebuilt; tried = p.tried })

-- the tree and the flags that slicing leaves, and its counts
pub record SlicedBy (N : Network) (improving : Bool) (target : ℕ) (kids₀ flags₀ kids flags : List ℕ) (d : Visited) : Type 0 where
  pub same : length flags ≡ length flags₀
  pub bytes : (j : ℕ) → get_or flags j 0 ≤ 1
  pub plan_is : plan_with flags kids d.rebuilt d.tried ≡ slice_loop N target (follow_up N improving) (index_count N) (plan_with flags₀ kids₀ 0 0)

module _ (N : Network) (improving : Bool) (target : ℕ) (kids : List ℕ) where
  abbrev sliced : Result Plan Refusal
  sliced = Ok (plan_of N improving target kids)

  abbrev late : List Check
  late = beyond_check N (λ j. false) (pairs_of kids) ∷ dangling_if N improving

  -- the call where the network is accepted and the lists are long enough; and where it is accepted
  unfoldable pub rest_call : Result Plan Refusal
  rest_call = checked (tree_check N kids ∷ late) sliced

  abbrev in_checks : ℕ → ℕ → List Check
  in_checks words places = length_check (lent words (slice_words improving) ∷ lent places (index_count N) ∷ []) ∷ tree_check N kids ∷ late

  unfoldable pub slice_in : ℕ → ℕ → Result Plan Refusal
  slice_in words places = checked (in_checks words places) sliced

  -- the network's own checks
  pub call_refused : (words places : ℕ) (r : Refusal) → refusal_of N ≡ Some r → slice_call N improving target words places kids ≡ Err r
  unfolding slice_call
  call_refused words places r e = network_refused N (in_checks words places) sliced r e

  -- with its number, and nothing is touched
  pub refused_untouched : (words places k : ℕ) → k ≡ code_of (refusal_of N) → (k ≡ 0 → ⊥) → Untouched k (slice_call N improving target words places kids)
  unfolding slice_call
  refused_untouched words places k e z = by_network N (in_checks words places) sliced k e z

  pub call_accepted : (words places : ℕ) → refusal_of N ≡ None → slice_call N improving target words places kids ≡ slice_in words places
  unfolding slice_call slice_in
  call_accepted words places e = past_network N (in_checks words places) sliced e

-- the checks of the tree alone
unfoldable pub check_call : Network → Bool → List ℕ → Result (Unit {0}) Refusal
check_call N improving kids = checked (tree_check N kids ∷ beyond_check N (λ j. false) (pairs_of kids) ∷ dangling_if N improving) (Ok tt)

pub record Answered (N : Network) (improving : Bool) (target : ℕ) (kids₀ flags₀ kids flags : List ℕ) (r : Result Visited Refusal) : Type 0 where
  pub answer : r ≡ counts (rest_call N improving target kids₀)
  pub tree : kids ≡ sliced_tree (rest_call N improving target kids₀) kids₀
  pub flags_are : flags ≡ sliced_flags N (rest_call N improving target kids₀) flags₀

pub record Answers (N : Network) (improving : Bool) (target : ℕ) (kids₀ flags₀ ws₀ kids flags ws : List ℕ) (r : Result Visited Refusal) : Type 0 where
  pub answer : r ≡ counts (slice_in N improving target kids₀ (length ws₀) (length flags₀))
  pub tree : kids ≡ sliced_tree (slice_in N improving target kids₀ (length ws₀) (length flags₀)) kids₀
  pub flags_are : flags ≡ sliced_flags N (slice_in N improving target kids₀ (length ws₀) (length flags₀)) flags₀
  pub workspace : ws ≡ workspace_after (slice_words improving) (slice_in N improving target kids₀ (length ws₀) (length flags₀)) ws₀

pub record Slices (N : Network) (improving : Bool) (target : ℕ) (kids₀ flags₀ ws₀ kids flags ws : List ℕ) (r : Result Visited Refusal) : Type 0 where
  pub answer : r ≡ counts (slice_call N improving target (length ws₀) (length flags₀) kids₀)
  pub tree : kids ≡ sliced_tree (slice_call N improving target (length ws₀) (length flags₀) kids₀) kids₀
  pub flags_are : flags ≡ sliced_flags N (slice_call N improving target (length ws₀) (length flags₀) kids₀) flags₀
  pub workspace : ws ≡ workspace_after (slice_words improving) (slice_call N improving target (length ws₀) (length flags₀) kids₀) ws₀

-- ---- the network's own checks ----

module _ (N : Network) (improving : Bool) (target : ℕ) (kids₀ flags₀ ws₀ : List ℕ) where
  pub slices_refused : (r : Refusal) → refusal_of N ≡ Some r → Slices N improving target kids₀ flags₀ ws₀ kids₀ flags₀ ws₀ (Err r)
  slices_refused r e =
      let c = call_refused N improving target kids₀ (length ws₀) (length flags₀) r e in
      record {
        answer = sym (ap counts c);
        tree = quiet_list _ r (λ (p : Plan). flat_of p.tree) kids₀ c;
        flags_are = quiet_list _ r (flags_for N) flags₀ c;
        workspace = quiet_words (slice_words improving) _ r ws₀ c (network_quiet N r e);
      }

  pub slices_accepted : refusal_of N ≡ None → {kids flags ws : List ℕ} {r : Result Visited Refusal}
      → Answers N improving target kids₀ flags₀ ws₀ kids flags ws r → Slices N improving target kids₀ flags₀ ws₀ kids flags ws r
  slices_accepted h q =
      let e = call_accepted N improving target kids₀ (length ws₀) (length flags₀) h in
      record {
        answer = q.answer ∙ sym (ap counts e);
        tree = q.tree ∙ sym (ap (λ (c : Result Plan Refusal). sliced_tree c kids₀) e);
        flags_are = q.flags_are ∙ sym (ap (λ (c : Result Plan Refusal). sliced_flags N c flags₀) e);
        workspace = q.workspace ∙ sym (ap (λ (c : Result Plan Refusal). workspace_after (slice_words improving) c ws₀) e);
      }

-- ---- the stated workspace ----

pub words_as_is : (improving : Bool) (l : ℕ) → slice_words improving ≤ l → plain_words ≤ l
words_as_is true l h = omega arith
words_as_is false l h = h

pub words_improved : (improving : Bool) (l : ℕ) → improving ≡ true → slice_words improving ≤ l → 6144 ≤ l
words_improved improving l e h = rw e at h

-- ---- the checks of the tree ----

module _ (N : Network) (improving : Bool) (kids : List ℕ) where
  abbrev later : List Check
  later = beyond_check N (λ j. false) (pairs_of kids) ∷ dangling_if N improving

  pub check_wrong : wrong_tree (leaf_count N) kids ≡ true → Err InvalidTree ≡ check_call N improving kids
  unfolding check_call
  check_wrong w = sym (holds_first (tree_check N kids) later (Ok tt) w)

  module _ (right : wrong_tree (leaf_count N) kids ≡ false) where
    past_tree : check_call N improving kids ≡ checked later (Ok tt)
    unfolding check_call
    past_tree = passes_first (tree_check N kids) later (Ok tt) right

    pub check_beyond : total_is_beyond N (λ j. false) (pairs_of kids) ≡ true → Err TotalBeyond ≡ check_call N improving kids
    check_beyond b = sym (past_tree ∙ holds_first (beyond_check N (λ j. false) (pairs_of kids)) (dangling_if N improving) (Ok tt) b)

    module _ (exact : total_is_beyond N (λ j. false) (pairs_of kids) ≡ false) where
      past_total : check_call N improving kids ≡ checked (dangling_if N improving) (Ok tt)
      past_total = past_tree ∙ passes_first (beyond_check N (λ j. false) (pairs_of kids)) (dangling_if N improving) (Ok tt) exact

      pub check_as_is : improving ≡ false → Ok tt ≡ check_call N improving kids
      check_as_is e = sym (past_total ∙ ap (λ (b : Bool). checked (dangling_if N b) (Ok tt)) e)

      pub check_dangling : improving ≡ true → dangling N ≡ true → Err DanglingIndex ≡ check_call N improving kids
      check_dangling e d =
          sym (past_total ∙ ap (λ (b : Bool). checked (dangling_if N b) (Ok tt)) e ∙ holds_first (dangling_check N) [] (Ok tt) d)

      pub check_closed : improving ≡ true → dangling N ≡ false → Ok tt ≡ check_call N improving kids
      check_closed e d =
          sym (past_total ∙ ap (λ (b : Bool). checked (dangling_if N b) (Ok tt)) e ∙ passes_first (dangling_check N) [] (Ok tt) d)

-- the tree that the check made is the one that it was given
pub same_tree : (N : Network) {n m : ℕ} {kids kids' : List ℕ} → m ≡ n → n ≡ leaf_count N → kids' ≡ kids → wrong_tree m kids' ≡ false
    → wrong_tree (leaf_count N) kids ≡ false
same_tree N {n} {m} {kids} {kids'} e f g right =
    subst (λ (l : List ℕ). wrong_tree (leaf_count N) l ≡ false) g (subst (λ (k : ℕ). wrong_tree k kids' ≡ false) (e ∙ f) right)

-- what holds where none refuses
pub record Passed (N : Network) (improving : Bool) (kids : List ℕ) : Type 0 where
  pub right : wrong_tree (leaf_count N) kids ≡ false
  pub exact : total_is_beyond N (λ j. false) (pairs_of kids) ≡ false
  pub closed : improving ≡ true → dangling N ≡ false

unit_done {ℓ} : {P : Type ℓ} (k : Refusal) → ◌≡◌ {A = Result (Unit {0}) Refusal} (Ok tt) (Err k) → P
unit_done k e = not_done k tt (sym e)

pub passed : (N : Network) (improving : Bool) (kids : List ℕ) → Ok tt ≡ check_call N improving kids → Passed N improving kids
unfolding check_call
passed N improving kids e = let (w, b, d) = go (wrong_tree (leaf_count N) kids) (total_is_beyond N (λ j. false) (pairs_of kids)) improving e in
    record { right = w; exact = b; closed = d }
  where
    closed : (d : Bool) → ◌≡◌ {A = Result (Unit {0}) Refusal} (Ok (tt {0})) (checked (check d DanglingIndex ∷ []) (Ok (tt {0}))) → d ≡ false
    closed true e = unit_done DanglingIndex e
    closed false e = refl

    go : (w b i : Bool) → ◌≡◌ {A = Result (Unit {0}) Refusal} (Ok (tt {0})) (checked (check w InvalidTree ∷ check b TotalBeyond ∷ dangling_if N i) (Ok (tt {0})))
        → (w ≡ false) × (b ≡ false) × (i ≡ true → dangling N ≡ false)
    go true b i e = unit_done InvalidTree e
    go false true i e = unit_done TotalBeyond e
    go false false true e = (refl, refl, λ z. closed (dangling N) e)
    go false false false e = (refl, refl, λ z. clash z refl)

-- the whole call refuses and passes with them
decide_err : {A : Type 0} (o : Option Refusal) (x : Result A Refusal) (r : Refusal) → Err r ≡ decide {A = Unit {0}} o (Ok tt) → decide o x ≡ Err r
decide_err None x r e = unit_done r (sym e)
decide_err (Some s) x r e = ap Err (sym (refused_same {A = Unit {0}} r s e))

decide_ok : {A : Type 0} (o : Option Refusal) (x : Result A Refusal) → Ok tt ≡ decide {A = Unit {0}} o (Ok tt) → decide o x ≡ x
decide_ok None x e = refl
decide_ok (Some s) x e = unit_done s e

module _ (N : Network) (improving : Bool) (target : ℕ) (kids₀ flags₀ : List ℕ) where
  abbrev checks : List Check
  checks = tree_check N kids₀ ∷ beyond_check N (λ j. false) (pairs_of kids₀) ∷ dangling_if N improving

  pub answered_refused : (r : Refusal) → Err r ≡ check_call N improving kids₀ → Answered N improving target kids₀ flags₀ kids₀ flags₀ (Err r)
  unfolding rest_call check_call
  answered_refused r e =
      let c : rest_call N improving target kids₀ ≡ Err r = decide_err (first checks) (sliced N improving target kids₀) r e in
      record {
        answer = sym (ap counts c);
        tree = quiet_list _ r (λ (p : Plan). flat_of p.tree) kids₀ c;
        flags_are = quiet_list _ r (flags_for N) flags₀ c;
      }

  pub answered_done : Ok tt ≡ check_call N improving kids₀ → {kids flags : List ℕ} (d : Visited) → SlicedTo N improving target kids₀ flags₀ kids flags d.rebuilt d.tried
      → Answered N improving target kids₀ flags₀ kids flags (Ok d)
  unfolding rest_call check_call
  answered_done e {kids} {flags} d s =
      let c : rest_call N improving target kids₀ ≡ sliced N improving target kids₀ = decide_ok (first checks) (sliced N improving target kids₀) e in
      record {
        answer = rw (s.is_rebuilt, s.is_tried) (sym (ap counts c));
        tree = s.tree ∙ sym (ap (λ x. sliced_tree x kids₀) c);
        flags_are = s.flags_are ∙ sym (ap (λ x. sliced_flags N x flags₀) c);
      }

module _ {N : Network} {improving : Bool} {target : ℕ} {kids₀ flags₀ kids flags : List ℕ} where
  pub by_choices : {n : ℕ} (d : Visited) → improving ≡ true → ChoicesMade N n target kids₀ flags₀ (index_count N) kids flags d.rebuilt d.tried
      → SlicedBy N improving target kids₀ flags₀ kids flags d
  by_choices d e s =
      let y : SlicedBy N true target kids₀ flags₀ kids flags d = record { same = s.same; bytes = s.stands.within.bytes; plan_is = s.plan_is } in
      subst (λ (i : Bool). SlicedBy N i target kids₀ flags₀ kids flags d) (sym e) y

module _ {N : Network} {improving : Bool} {target : ℕ} {kids₀ flags₀ flags : List ℕ} where
  pub by_turns : improving ≡ false → Turned N target kids₀ flags₀ (index_count N) flags
      → SlicedBy N improving target kids₀ flags₀ kids₀ flags (record { rebuilt = 0; tried = 0 })
  by_turns e s =
      let y : SlicedBy N false target kids₀ flags₀ kids₀ flags (record { rebuilt = 0; tried = 0 }) = record { same = s.same; bytes = s.within.bytes; plan_is = s.plan_is } in
      subst (λ (i : Bool). SlicedBy N i target kids₀ flags₀ kids₀ flags (record { rebuilt = 0; tried = 0 })) (sym e) y

-- slicing begins with clear flags, and ends with those that go out
module _ (N : Network) (improving : Bool) (target m : ℕ) (kids₀ zeros : List ℕ) (q : index_count N ≡ m) (h : m ≤ length zeros)
    (z : (j : ℕ) → get_or zeros j 0 ≡ 0) (ok : Ok tt ≡ check_call N improving kids₀) where
  pub stands_first : Stands N (leaf_count N) kids₀ zeros
  stands_first = let p = passed N improving kids₀ ok in stands_clear N (leaf_count N) m kids₀ zeros z q h p.exact p.right

  pub answered_sliced : {kids sliced : List ℕ} (d : Visited) → length kids ≡ length kids₀ → SlicedBy N improving target kids₀ zeros kids sliced d
      → (flags₀ new : List ℕ) → new ≡ copied flags₀ sliced m → Answered N improving target kids₀ flags₀ kids new (Ok d)
  answered_sliced {kids} {sliced} d long s flags₀ new c =
      answered_done N improving target kids₀ flags₀ ok d
      (sliced_to N improving (leaf_count N) m target kids₀ zeros z q (passed N improving kids₀ ok).right kids sliced long
      (s.plan_is ∙ ap (λ (x : ℕ). slice_loop N target (follow_up N improving) x (plan_with zeros kids₀ 0 0)) q)
      flags₀ new (omega (arith, s.same, h)) s.bytes c)

-- ---- 7, and the rest ----

after_dangling : (d : Bool) (p : Plan) (stated : ℕ) (ws : List ℕ)
    → cleared ws stated ≡ workspace_after stated (checked (check d DanglingIndex ∷ []) (Ok p)) ws
after_dangling true p stated ws = refl
after_dangling false p stated ws = refl

after_rest : (N : Network) (improving x y : Bool) (p : Plan) (stated : ℕ) (ws : List ℕ)
    → cleared ws stated ≡ workspace_after stated (checked (check x InvalidTree ∷ check y TotalBeyond ∷ dangling_if N improving) (Ok p)) ws
after_rest N improving true y p stated ws = refl
after_rest N improving false true p stated ws = refl
after_rest N true false false p stated ws = after_dangling (dangling N) p stated ws
after_rest N false false false p stated ws = refl

module _ (N : Network) (improving : Bool) (target : ℕ) (kids flags ws : List ℕ) where
  abbrev lents : List Lent
  lents = lent (length ws) (slice_words improving) ∷ lent (length flags) (index_count N) ∷ []

  abbrev rest : List Check
  rest = tree_check N kids ∷ late N improving target kids

  quiet : slice_in N improving target kids (length ws) (length flags) ≡ Err ShortBuffer
      → Answers N improving target kids flags ws kids flags ws (Err ShortBuffer)
  quiet c =
      record {
        answer = sym (ap counts c);
        tree = quiet_list _ ShortBuffer (λ (p : Plan). flat_of p.tree) kids c;
        flags_are = quiet_list _ ShortBuffer (flags_for N) flags c;
        workspace = quiet_words (slice_words improving) _ ShortBuffer ws c refl;
      }

  pub few_words : length ws < slice_words improving → Answers N improving target kids flags ws kids flags ws (Err ShortBuffer)
  unfolding slice_in
  few_words h = quiet (too_short lents rest (sliced N improving target kids) (rw (lt-ltb (length ws) (slice_words improving) h)))

  module _ (m : ℕ) (q : index_count N ≡ m) (long : slice_words improving ≤ length ws) where
    pub few_flags : length flags < m → Answers N improving target kids flags ws kids flags ws (Err ShortBuffer)
    unfolding slice_in
    few_flags h =
        quiet (too_short lents rest (sliced N improving target kids)
        (rw (le-ltb (length ws) (slice_words improving) long, lt-ltb (length flags) (index_count N) (omega (arith, q)))))

    pub by_rest : m ≤ length flags → {kids' flags' ws' : List ℕ} {r : Result Visited Refusal} → ws' ≡ cleared ws (slice_words improving)
        → Answered N improving target kids flags kids' flags' r → Answers N improving target kids flags ws kids' flags' ws' r
    unfolding slice_in rest_call
    by_rest h w a =
        let e : slice_in N improving target kids (length ws) (length flags) ≡ rest_call N improving target kids =
        past_length lents rest (sliced N improving target kids)
        (rw (le-ltb (length ws) (slice_words improving) long, le-ltb (length flags) (index_count N) (omega (arith, q)))) in
        record {
          answer = a.answer ∙ ap counts (sym e);
          tree = a.tree ∙ ap (λ c. sliced_tree c kids) (sym e);
          flags_are = a.flags_are ∙ ap (λ c. sliced_flags N c flags) (sym e);
          workspace = w
              ∙ after_rest N improving (tree_check N kids).holds (beyond_check N (λ j. false) (pairs_of kids)).holds
              (plan_of N improving target kids) (slice_words improving) ws
              ∙ ap (λ c. workspace_after (slice_words improving) c ws) (sym e);
        }
