-- The checks of improvement's call, in their order. Assumes nothing.
use Rattle.std.specs.Prelude.{Bool, false, ◌≡◌, refl, ℕ, ◌+◌, ◌*◌, ◌^◌, ◌≤◌, ◌<◌, ltb, length, Option, None, Some, Result, Err, Ok}
use Rattle.std.proofs.Math.Bool.{true}
use mathlib.Core.List.{List, [], ◌∷◌, ◌++◌}
use Rattle.spec.specs.declared.Refusal.{Refusal}
use Rattle.spec.specs.declared.Refusal.TheVariants.{TooLarge, ShortBuffer, InvalidTree, InvalidFlags, TotalBeyond, DanglingIndex}
use Rattle.std.proofs.Common.{sym, ◌∙◌, subst, arith, lt-ltb, le-ltb}
use Rattle.std.proofs.Math.Path.{ap}
use Rattle.spec.specs.Memory.{cleared}
use Rattle.spec.specs.Refusal.{code_of, Check, check, checked}
use Rattle.spec.specs.Network.{Network, leaf_count, index_count, network_checks, refusal_of}
use Rattle.spec.specs.Tree.{Tree, Pair, tree_at, root, pairs_of}
use Rattle.spec.specs.Improve as spec
use Rattle.spec.specs.Improve.{clamped, improve_at, improve}
use Rattle.spec.specs.Calls.{lent, length_check, wrong_tree, tree_check, flags_check, flag_at, total_is_beyond, beyond_check, dangling, dangling_check, improve_words, improve_call, workspace_after, touches}
use Rattle.laws.specs.Booleans.{or_introl}
use Rattle.walk.specs.Entry.{Untouched, by_network, past_network, network_refused, past_length, too_short, quiet_words, holds_first, passes_first}
use Rattle.cost.specs.Answers.{wrong_flags}
use Rattle.subset.specs.Search.{limit_of}
use Rattle.reconf.specs.declared.Visited.{Visited}
use Rattle.reconfigure.specs.Answers.{Follows, Improving, rest_call, last_call}

-- ---- k ----

clamped_again : (k : ℕ) → clamped (clamped k) ≡ clamped k
clamped_again k = omega arith

at_clamped : (N : Network) (k j passes : ℕ) (limit : Option ℕ) (flag : ℕ → Bool) (a : List Pair) (t : Option Tree) → clamped j ≡ clamped k
    → improve_at N j passes limit flag a t ≡ improve_at N k passes limit flag a t
at_clamped N k j passes limit flag a None e = refl
at_clamped N k j passes limit flag a (Some t) e = rw e

pub improve-clamped : (N : Network) (k passes : ℕ) (limit : Option ℕ) (flag : ℕ → Bool) (a : List Pair)
    → improve N (clamped k) passes limit flag a ≡ improve N k passes limit flag a
unfolding improve
improve-clamped N k passes limit flag a = at_clamped N k (clamped k) passes limit flag a (tree_at (leaf_count N) a (root (leaf_count N) a)) (clamped_again k)

-- the stated workspace
pub stated_is : (k size words : ℕ) → size ≡ clamped k → words ≡ 4096 + 8 * 2 ^ size → words ≡ improve_words k
stated_is k size words q e = e ∙ ap (λ (x : ℕ). 4096 + 8 * 2 ^ x) q

pub shorter : {x y : ℕ} (l : ℕ) → x ≡ y → l < x → l < y
shorter l e h = subst (λ (z : ℕ). l < z) e h

pub as_long : {x y : ℕ} (l : ℕ) → x ≡ y → x ≤ l → y ≤ l
as_long l e h = subst (λ (z : ℕ). z ≤ l) e h

-- ---- the limit ----

pub no_limit : limit_of 65536 ≡ None
unfolding limit_of
no_limit = refl

pub some_limit : (x : ℕ) → x < 65536 → limit_of x ≡ Some x
unfolding limit_of
some_limit x h = rw (lt-ltb x 65536 h)

-- ---- refused or not, check by check ----

module _ (N : Network) (k passes : ℕ) (limit : Option ℕ) (flags kids : List ℕ) where
  abbrev result : Result spec.Improved Refusal
  result = Ok (improve N k passes limit (flag_at flags) (pairs_of kids))

  pub rest_tree : (n : ℕ) → leaf_count N ≡ n → wrong_tree n kids ≡ true → rest_call N k passes limit flags kids ≡ Err InvalidTree
  unfolding rest_call
  rest_tree n q h = holds_first (tree_check N kids) (flags_check N flags ∷ beyond_check N (flag_at flags) (pairs_of kids) ∷ dangling_check N ∷ []) result (rw q h)

  module _ (n m : ℕ) (qn : leaf_count N ≡ n) (qm : index_count N ≡ m) (right : wrong_tree n kids ≡ false) where
    past_tree : rest_call N k passes limit flags kids ≡ checked (flags_check N flags ∷ beyond_check N (flag_at flags) (pairs_of kids) ∷ dangling_check N ∷ []) result
    unfolding rest_call
    past_tree = passes_first (tree_check N kids) (flags_check N flags ∷ beyond_check N (flag_at flags) (pairs_of kids) ∷ dangling_check N ∷ []) result (rw qn right)

    pub rest_flags : wrong_flags m flags ≡ true → rest_call N k passes limit flags kids ≡ Err InvalidFlags
    unfolding wrong_flags
    rest_flags h = past_tree ∙ holds_first (flags_check N flags) (beyond_check N (flag_at flags) (pairs_of kids) ∷ dangling_check N ∷ []) result (rw qm h)

    pub rest_last : wrong_flags m flags ≡ false → rest_call N k passes limit flags kids ≡ last_call N k passes limit flags kids
    unfolding wrong_flags last_call
    rest_last h = past_tree ∙ passes_first (flags_check N flags) (beyond_check N (flag_at flags) (pairs_of kids) ∷ dangling_check N ∷ []) result (rw qm h)

  pub last_beyond : total_is_beyond N (flag_at flags) (pairs_of kids) ≡ true → last_call N k passes limit flags kids ≡ Err TotalBeyond
  unfolding last_call
  last_beyond h = holds_first (beyond_check N (flag_at flags) (pairs_of kids)) (dangling_check N ∷ []) result h

  module _ (b : total_is_beyond N (flag_at flags) (pairs_of kids) ≡ false) where
    pub last_dangling : dangling N ≡ true → last_call N k passes limit flags kids ≡ Err DanglingIndex
    unfolding last_call
    last_dangling h =
        passes_first (beyond_check N (flag_at flags) (pairs_of kids)) (dangling_check N ∷ []) result b ∙ holds_first (dangling_check N) [] result h

    pub last_done : dangling N ≡ false → last_call N k passes limit flags kids ≡ result
    unfolding last_call
    last_done h =
        passes_first (beyond_check N (flag_at flags) (pairs_of kids)) (dangling_check N ∷ []) result b ∙ passes_first (dangling_check N) [] result h

  -- ---- 3 to 7 ----

  module _ (words : ℕ) where
    abbrev call : Result spec.Improved Refusal
    call = improve_call N k passes limit words flags kids

    abbrev last : List Check
    last = tree_check N kids ∷ flags_check N flags ∷ beyond_check N (flag_at flags) (pairs_of kids) ∷ dangling_check N ∷ []

    abbrev later : List Check
    later = length_check (lent words (improve_words k) ∷ []) ∷ last

    pub call_large : 255 < passes → call ≡ Err TooLarge
    unfolding improve_call
    call_large h = holds_large (ltb 255 passes) (lt-ltb 255 passes h)
      where
        holds_large : (b : Bool) → b ≡ true → checked (network_checks b N ++ later) result ≡ Err TooLarge
        holds_large b e = rw e

    -- with its number, and nothing is touched
    pub large_untouched : 255 < passes → Untouched 3 call
    large_untouched h = record { refusal = TooLarge; is = call_large h; number = refl; quiet = refl }

    module _ (few : passes ≤ 255) where
      few_passes : call ≡ checked (network_checks false N ++ later) result
      unfolding improve_call
      few_passes = ap (λ (b : Bool). checked (network_checks b N ++ later) result) (le-ltb 255 passes few)

      pub call_refused : (r : Refusal) → refusal_of N ≡ Some r → call ≡ Err r
      call_refused r e = few_passes ∙ network_refused N later result r e

      pub refused_untouched : (c : ℕ) → c ≡ code_of (refusal_of N) → (c ≡ 0 → ⊥) → Untouched c call
      refused_untouched c e z = subst (Untouched c) (sym few_passes) (by_network N later result c e z)

      module _ (ok : refusal_of N ≡ None) where
        past_checks : call ≡ checked later result
        past_checks = few_passes ∙ past_network N later result ok

        pub call_short : words < improve_words k → call ≡ Err ShortBuffer
        call_short h =
            past_checks
            ∙ too_short (lent words (improve_words k) ∷ []) last result (or_introl (ltb words (improve_words k)) false (lt-ltb words (improve_words k) h))

        pub short_untouched : words < improve_words k → Untouched 7 call
        short_untouched h = record { refusal = ShortBuffer; is = call_short h; number = refl; quiet = refl }

        pub call_rest : improve_words k ≤ words → call ≡ rest_call N k passes limit flags kids
        unfolding rest_call
        call_rest h =
            past_checks ∙ past_length (lent words (improve_words k) ∷ []) last result (rw (le-ltb words (improve_words k) h))

-- ---- what an answer leaves ----

pub answered_refused : {c : Result spec.Improved Refusal} {kids : List ℕ} (r : Refusal) → c ≡ Err r → Follows c kids kids (Err r)
answered_refused r e = record { answer = rw e; tree = rw e }

pub answered_as : {c d : Result spec.Improved Refusal} {kids₀ kids : List ℕ} {r : Result Visited Refusal} → c ≡ d → Follows d kids₀ kids r → Follows c kids₀ kids r
answered_as {kids₀ = kids₀} {kids = kids} {r = r} e a = subst (λ (x : Result spec.Improved Refusal). Follows x kids₀ kids r) (sym e) a

module _ (N : Network) (k passes : ℕ) (limit : Option ℕ) (flags kids₀ ws₀ : List ℕ) where
  abbrev whole : Result spec.Improved Refusal
  whole = improve_call N k passes limit (length ws₀) flags kids₀

  -- a call that is refused with nothing touched
  pub untouched_call : (r : Refusal) → whole ≡ Err r → touches r ≡ false → Improving N k passes limit flags kids₀ ws₀ kids₀ ws₀ (Err r)
  untouched_call r e q = record { follows = answered_refused r e; workspace = quiet_words (improve_words k) whole r ws₀ e q }

  after_rest : (x y z w : Bool) (p : spec.Improved) (stated : ℕ) (ws : List ℕ)
      → cleared ws stated ≡ workspace_after stated (checked (check x InvalidTree ∷ check y InvalidFlags ∷ check z TotalBeyond ∷ check w DanglingIndex ∷ []) (Ok p)) ws
  after_rest true y z w p stated ws = refl
  after_rest false true z w p stated ws = refl
  after_rest false false true w p stated ws = refl
  after_rest false false false true p stated ws = refl
  after_rest false false false false p stated ws = refl

  -- a call that the later checks decide
  pub rest_call_lem : {kids ws : List ℕ} {r : Result Visited Refusal} → whole ≡ rest_call N k passes limit flags kids₀ → ws ≡ cleared ws₀ (improve_words k)
      → Follows (rest_call N k passes limit flags kids₀) kids₀ kids r → Improving N k passes limit flags kids₀ ws₀ kids ws r
  unfolding rest_call
  rest_call_lem e q a =
      record {
        follows = answered_as e a;
        workspace =
            q
            ∙ after_rest (tree_check N kids₀).holds (flags_check N flags).holds (beyond_check N (flag_at flags) (pairs_of kids₀)).holds (dangling_check N).holds
            (improve N k passes limit (flag_at flags) (pairs_of kids₀)) (improve_words k) ws₀
            ∙ ap (λ (c : Result spec.Improved Refusal). workspace_after (improve_words k) c ws₀) (sym e);
      }

  -- by the clamped k
  pub rest_clamped : rest_call N (clamped k) passes limit flags kids₀ ≡ rest_call N k passes limit flags kids₀
  unfolding rest_call
  rest_clamped =
      ap
      (λ (d : spec.Improved). checked (tree_check N kids₀ ∷ flags_check N flags ∷ beyond_check N (flag_at flags) (pairs_of kids₀) ∷ dangling_check N ∷ []) (Ok d))
      (improve-clamped N k passes limit (flag_at flags) (pairs_of kids₀))

  pub rest_same : (size : ℕ) (lim : Option ℕ) → size ≡ clamped k → lim ≡ limit
      → rest_call N k passes limit flags kids₀ ≡ rest_call N size passes lim flags kids₀
  rest_same size lim q e =
      sym (ap (λ (x : ℕ). rest_call N x passes lim flags kids₀) q ∙ ap (λ (x : Option ℕ). rest_call N (clamped k) passes x flags kids₀) e ∙ rest_clamped)
