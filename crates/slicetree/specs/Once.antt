-- One pass of improvement after a choice. Assumes nothing.
use Rattle.std.specs.Prelude.{Bool, false, cond, List, map, ◌≡◌, refl, ℕ, ◌+◌, ◌-◌, ◌*◌, ◌^◌, ◌≤◌, ◌<◌, max, eqb, length, Option, Some}
use Rattle.spec.specs.declared.Total.{Total}
use Rattle.std.proofs.Common.{sym, ◌∙◌, ap, subst, arith, lt-ltb, le-ltb}
use Rattle.std.proofs.Math.Decide.{dec_le}
use Rattle.spec.specs.Layout.{firsts}
use Rattle.spec.specs.Network.{Network, leaf_count}
use Rattle.spec.specs.Tree.{Tree, number, pairs_of, step_order}
use Rattle.spec.specs.Price.{up_to, listing, work, widest}
use Rattle.spec.specs.Calls.{wrong_tree, is_beyond}
use Rattle.spec.specs.Improve.{inner_trees, falling, visits, pass, improve_tree, improve}
use Rattle.spec.specs.Slicing.{or_zero}
use Rattle.laws.specs.Booleans.{by_cases, clash}
use Rattle.walk.specs.Order.{order_length}
use Rattle.passes.specs.Sorted.{sorted, sorted_length}
use Rattle.pricing.specs.Answers.{widest_in}
use Rattle.reprice.specs.Held.{tree_of, PriceHeld, Standing}
use Rattle.passes.specs.Made.{most_tried, Improves}
use Rattle.passes.specs.Bounds.{visits_rebuilt, visits_tried}
use Rattle.passes.specs.Nodes.{pass_nodes}
use Rattle.reconfigure.specs.Improves.{improved_is, right_here}
use Rattle.slicetree.specs.Widest.{widest_held}

-- "limit max(widest, target)"
abbrev pub limit_for : Network → ℕ → (ℕ → Bool) → List ℕ → ℕ
limit_for N target flag kids = max (or_zero (widest N flag (listing N flag (pairs_of kids)))) target

-- the tree in `kids` and the counts are those of one pass at k = 8, and the total is still exact
pub record Once (N : Network) (n target : ℕ) (flag : ℕ → Bool) (kids₀ kids : List ℕ) (rebuilt tried : ℕ) : Type 0 where
  pub is : improve N 8 1 (Some (limit_for N target flag kids₀)) flag (pairs_of kids₀) ≡ record { tree = pairs_of kids; rebuilt = rebuilt; tried = tried }
  pub right : wrong_tree n kids ≡ false
  pub total : work (listing N flag (pairs_of kids)) < 9007199254740992
  pub few_rebuilt : rebuilt ≤ 127
  pub few_tried : tried ≤ 127 * most_tried

-- ---- exact totals ----

pub exact_below : (x : ℕ) → is_beyond (up_to x) ≡ false → x < 9007199254740992
exact_below x e =
    elim (dec_le 9007199254740992 x) [
      | yes q ↦ clash (ap (λ b. is_beyond (cond b (Total.Exact x) Total.Beyond)) (le-ltb x (2 ^ 53) q)) e
      | no q ↦ omega arith
    ]

pub below_exact : (x : ℕ) → x < 9007199254740992 → is_beyond (up_to x) ≡ false
below_exact x h = ap (λ b. is_beyond (cond b (Total.Exact x) Total.Beyond)) (lt-ltb x (2 ^ 53) h)

-- ---- the price list ----

pub standing_of : {N : Network} {n : ℕ} {flag : ℕ → Bool} {kids sets sizes works : List ℕ} → leaf_count N ≡ n → PriceHeld N flag kids sets sizes works
    → wrong_tree n kids ≡ false → work (listing N flag (pairs_of kids)) < 9007199254740992 → Standing N flag kids sets sizes works
standing_of {N} {n} {flag} {kids} q t right h =
    record {
      right = right_here N n kids q right;
      prices = t;
      total = below_exact (work (listing N flag (pairs_of kids))) h;
    }

-- the limit that the size bits set
pub limit_is : {N : Network} {n : ℕ} (target : ℕ) {flag : ℕ → Bool} {kids sets sizes works : List ℕ} → leaf_count N ≡ n → PriceHeld N flag kids sets sizes works
    → wrong_tree n kids ≡ false → (limit : Option ℕ) → limit ≡ Some (max (or_zero (widest_in (firsts (n + (n - 1)) sizes))) target)
    → limit ≡ Some (limit_for N target flag kids)
limit_is {N} {n} target {flag} {kids} {sizes = sizes} q h right limit e =
    e ∙ ap (λ (i : ℕ). Some (max (or_zero (widest_in (firsts (i + (i - 1)) sizes))) target)) (sym q)
    ∙ ap (λ (w : Option ℕ). Some (max (or_zero w) target)) (widest_held (right_here N n kids q right) h)

-- ---- the counts of one pass ----

module _ (N : Network) (flag : ℕ → Bool) (limit : Option ℕ) (t : Tree) where
  abbrev vs : List ℕ
  vs = map number (falling N flag (inner_trees t))

  one_rebuilt : (improve_tree N flag 8 limit 1 t).rebuilt ≤ length vs
  unfolding pass
  one_rebuilt =
      by_cases (eqb (visits N flag 8 limit vs t).rebuilt 0)
      (λ e. rw e (visits_rebuilt N flag 8 limit (omega arith) (omega arith) vs t))
      (λ e. rw e (omega (arith, visits_rebuilt N flag 8 limit (omega arith) (omega arith) vs t)))

  one_tried : (improve_tree N flag 8 limit 1 t).tried ≤ length vs * most_tried
  unfolding pass
  one_tried =
      by_cases (eqb (visits N flag 8 limit vs t).rebuilt 0)
      (λ e. rw e (visits_tried N flag 8 limit (omega arith) (omega arith) vs t))
      (λ e. rw e (omega (arith, visits_tried N flag 8 limit (omega arith) (omega arith) vs t)))

-- ---- the promise ----

node_count : {N : Network} {n : ℕ} {flag : ℕ → Bool} {kids sets sizes works : List ℕ} → leaf_count N ≡ n → n ≤ 128 → Standing N flag kids sets sizes works
    → length (map number (falling N flag (inner_trees (tree_of (leaf_count N) kids)))) ≤ 127
node_count {N} {n} {flag} {kids} {sets} {sizes} {works} q few s =
    let e : sorted works (step_order kids (leaf_count N)) ≡ map number (falling N flag (inner_trees (tree_of (leaf_count N) kids))) =
    pass_nodes s (sorted works (step_order kids (leaf_count N))) refl in
    omega (
      arith,
      q,
      few,
      ap length e,
      sorted_length works (step_order kids (leaf_count N)),
      order_length kids (leaf_count N) s.right,
    )

module _ {N : Network} {n : ℕ} (target : ℕ) {flag : ℕ → Bool} {kids₀ sets₀ sizes₀ works₀ kids sets sizes works : List ℕ} {rebuilt tried : ℕ}
    (q : leaf_count N ≡ n) (few : n ≤ 128) (s : Standing N flag kids₀ sets₀ sizes₀ works₀) where
  pub once : (limit : Option ℕ) → limit ≡ Some (limit_for N target flag kids₀) → length kids ≡ length kids₀
      → Improves N flag 8 limit 1 kids₀ kids sets sizes works rebuilt tried → Once N n target flag kids₀ kids rebuilt tried
  once limit e long x =
      record {
        is = ap (λ (l : Option ℕ). improve N 8 1 l flag (pairs_of kids₀)) (sym e)
            ∙ improved_is N 8 1 limit flag kids₀ kids sets sizes works rebuilt tried (omega arith) (omega arith) s.right long x;
        right = subst (λ (i : ℕ). wrong_tree i kids ≡ false) q x.standing.right;
        total = exact_below (work (listing N flag (pairs_of kids))) x.standing.total;
        few_rebuilt = omega (arith, x.is_rebuilt, one_rebuilt N flag limit (tree_of (leaf_count N) kids₀), node_count q few s);
        few_tried = omega (arith, x.is_tried, one_tried N flag limit (tree_of (leaf_count N) kids₀), node_count q few s);
      }
