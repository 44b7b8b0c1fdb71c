-- A choice and the pass after it, and choice after choice. Assumes nothing.
use Rattle.std.specs.Prelude.{Bool, true, false, List, ◌≡◌, refl, ℕ, suc, ◌+◌, ◌*◌, ◌≤◌, ◌<◌, length, set, Option, Some, MatchOption}
use Rattle.std.proofs.Common.{sym, ◌∙◌, ap, subst, arith, length-set}
use Rattle.spec.specs.Network.{Network}
use Rattle.spec.specs.Tree.{pairs_of}
use Rattle.spec.specs.Calls.{flag_at, wrong_tree}
use Rattle.spec.specs.Improve as spec
use Rattle.spec.specs.Improve.{improve}
use Rattle.spec.specs.Slicing.{Plan, also, chosen, slice_loop, one_pass}
use Rattle.laws.specs.Booleans.{clash}
use Rattle.passes.specs.Made.{most_tried}
use Rattle.reconf.specs.declared.Visited.{Visited}
use Rattle.slicing.specs.Promise.{plan_with}
use Rattle.slicing.specs.Turns.{Within, Turned, also_flag, slicing_none, slicing_next}
use Rattle.slicetree.specs.Once.{limit_for, Once}

-- the tree and the flags that slicing goes on with
pub record Stands (N : Network) (n : ℕ) (kids flags : List ℕ) : Type 0 where
  pub right : wrong_tree n kids ≡ false
  pub within : Within N kids flags

-- a choice that is none leaves tree and flags, and slicing is done; else it goes on with one flag more and the tree that one pass leaves
pub record Choice (N : Network) (n target : ℕ) (kids₀ flags₀ kids flags : List ℕ) (r : Bool) (rebuilt tried : ℕ) : Type 0 where
  pub same : length flags ≡ length flags₀
  pub stands : Stands N n kids flags
  pub few_rebuilt : rebuilt ≤ 127
  pub few_tried : tried ≤ 127 * most_tried
  pub stops : r ≡ false → (x y fuel : ℕ) → slice_loop N target (one_pass N) fuel (plan_with flags₀ kids₀ x y) ≡ plan_with flags kids x y
  pub goes : r ≡ true → (x y fuel : ℕ)
      → slice_loop N target (one_pass N) (suc fuel) (plan_with flags₀ kids₀ x y)
      ≡ slice_loop N target (one_pass N) fuel (plan_with flags kids (x + rebuilt) (y + tried))

-- the same by what the pass after the choice did, if there was one
abbrev pub Taken : (N : Network) (n target : ℕ) (kids₀ flags₀ kids flags : List ℕ) → Option Visited → Type 0
Taken N n target kids₀ flags₀ kids flags v =
    MatchOption v (Choice N n target kids₀ flags₀ kids flags false 0 0) (λ d. Choice N n target kids₀ flags₀ kids flags true d.rebuilt d.tried)

module _ {N : Network} {n target : ℕ} {kids₀ flags₀ flags : List ℕ} {r : Bool} (s : Stands N n kids₀ flags₀) (t : Turned N target kids₀ flags₀ flags r) where
  pub choice_none : r ≡ false → Choice N n target kids₀ flags₀ kids₀ flags false 0 0
  choice_none g =
      let e : flags ≡ flags₀ = t.flags_are ∙ rw g in
      record {
        same = ap length e;
        stands = record { right = s.right; within = subst (λ (l : List ℕ). Within N kids₀ l) (sym e) s.within };
        few_rebuilt = omega arith;
        few_tried = omega arith;
        stops = λ z x y fuel. t.stops g x y (one_pass N) fuel ∙ ap (λ (l : List ℕ). plan_with l kids₀ x y) (sym e);
        goes = λ z. clash z refl;
      }

  module _ (g : r ≡ true) where
    low : t.index < length flags₀
    low = omega (arith, t.low g, s.within.places)

    is_set : flags ≡ set flags₀ t.index 1
    is_set = t.flags_are ∙ rw g

    is_also : flag_at flags ≡ also t.index (flag_at flags₀)
    is_also = ap flag_at is_set ∙ also_flag flags₀ t.index low

    pub within_next : Within N kids₀ flags
    within_next = (slicing_next N target kids₀ flags₀ 1 0 flags₀ flags r g t (slicing_none N target kids₀ flags₀ 1 s.within)).within

    pub choice_made : {kids : List ℕ} {a b : ℕ} → Once N n target (flag_at flags) kids₀ kids a b → Choice N n target kids₀ flags₀ kids flags true a b
    choice_made {kids} {a} {b} o =
        record {
          same = ap length is_set ∙ simp length-set;
          stands = record {
            right = o.right;
            within = record { places = within_next.places; total = o.total; bytes = within_next.bytes };
          };
          few_rebuilt = o.few_rebuilt;
          few_tried = o.few_tried;
          stops = λ z. clash refl z;
          goes = λ z x y fuel. t.goes g x y (one_pass N) fuel ∙ ap (slice_loop N target (one_pass N) fuel) (next x y);
        }
      where
        joined : (ℕ → Bool) → ℕ → ℕ → spec.Improved → Plan
        joined f x y d = record { tree = d.tree; flag = f; rebuilt = x + d.rebuilt; tried = y + d.tried }

        next : (x y : ℕ) → chosen N target (one_pass N) (plan_with flags₀ kids₀ x y) t.index ≡ plan_with flags kids (x + a) (y + b)
        next x y =
            ap (λ (f : ℕ → Bool). joined f x y (improve N 8 1 (Some (limit_for N target f kids₀)) f (pairs_of kids₀))) (sym is_also)
            ∙ ap (joined (flag_at flags) x y) o.is

-- ---- choice after choice ----

-- what is left to do leads to the whole
pub record Going (N : Network) (n target : ℕ) (kids₀ flags₀ : List ℕ) (m left : ℕ) (kids flags : List ℕ) (rebuilt tried : ℕ) : Type 0 where
  pub same : length flags ≡ length flags₀
  pub stands : Stands N n kids flags
  pub few_rebuilt : rebuilt + left * 127 ≤ m * 127
  pub few_tried : tried + left * (127 * most_tried) ≤ m * (127 * most_tried)
  pub leads : slice_loop N target (one_pass N) left (plan_with flags kids rebuilt tried) ≡ slice_loop N target (one_pass N) m (plan_with flags₀ kids₀ 0 0)

-- tree, flags and counts are those of the sliced plan
pub record ChoicesMade (N : Network) (n target : ℕ) (kids₀ flags₀ : List ℕ) (m : ℕ) (kids flags : List ℕ) (rebuilt tried : ℕ) : Type 0 where
  pub same : length flags ≡ length flags₀
  pub stands : Stands N n kids flags
  pub plan_is : plan_with flags kids rebuilt tried ≡ slice_loop N target (one_pass N) m (plan_with flags₀ kids₀ 0 0)

module _ (N : Network) (n target : ℕ) (kids₀ flags₀ : List ℕ) (m : ℕ) where
  pub going_none : (left : ℕ) → left ≡ m → Stands N n kids₀ flags₀ → Going N n target kids₀ flags₀ m left kids₀ flags₀ 0 0
  going_none left e s =
      record {
        same = refl;
        stands = s;
        few_rebuilt = omega (arith, ap (λ (x : ℕ). x * 127) e);
        few_tried = omega (arith, ap (λ (x : ℕ). x * (127 * most_tried)) e);
        leads = ap (λ (x : ℕ). slice_loop N target (one_pass N) x (plan_with flags₀ kids₀ 0 0)) e;
      }

  module _ {left : ℕ} {kids flags kids' flags' : List ℕ} {rebuilt tried a b : ℕ} {r : Bool}
      (s : Going N n target kids₀ flags₀ m left kids flags rebuilt tried) (c : Choice N n target kids flags kids' flags' r a b) where
    pub going_next : (less : ℕ) → left ≡ suc less → r ≡ true → Going N n target kids₀ flags₀ m less kids' flags' (rebuilt + a) (tried + b)
    going_next less e g =
        record {
          same = c.same ∙ s.same;
          stands = c.stands;
          few_rebuilt = omega (arith, e, s.few_rebuilt, c.few_rebuilt);
          few_tried = omega (arith, e, s.few_tried, c.few_tried);
          leads = sym (c.goes g rebuilt tried less) ∙ ap (λ (x : ℕ). slice_loop N target (one_pass N) x (plan_with flags kids rebuilt tried)) (sym e) ∙ s.leads;
        }

    pub going_stops : r ≡ false → ChoicesMade N n target kids₀ flags₀ m kids' flags' rebuilt tried
    going_stops g = record { same = c.same ∙ s.same; stands = c.stands; plan_is = sym (c.stops g rebuilt tried left) ∙ s.leads }

  pub going_ends : {left : ℕ} {kids flags : List ℕ} {rebuilt tried : ℕ} → left ≡ 0 → Going N n target kids₀ flags₀ m left kids flags rebuilt tried
      → ChoicesMade N n target kids₀ flags₀ m kids flags rebuilt tried
  going_ends {left} {kids} {flags} {rebuilt} {tried} e s =
      record {
        same = s.same;
        stands = s.stands;
        plan_is = sym (ap (λ (x : ℕ). slice_loop N target (one_pass N) x (plan_with flags kids rebuilt tried)) e) ∙ s.leads;
      }
