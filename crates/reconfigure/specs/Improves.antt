-- What the passes leave is what the definition answers. Assumes nothing.
use Rattle.std.specs.Prelude.{Bool, false, not, ◌≡◌, refl, ℕ, zero, suc, ◌-◌, ◌*◌, ◌≤◌, ◌<◌, length, Option, None, Some, Result, Ok}
use mathlib.Core.List.{List, [], ◌∷◌}
use Rattle.spec.specs.declared.Refusal.{Refusal}
use Rattle.std.proofs.Math.Path.{sym, ap}
use Rattle.std.proofs.Common.{◌∙◌, subst, arith, eqb-true, le-ltb}
use Rattle.std.proofs.Math.Decide.{dec_le}
use Rattle.spec.specs.Memory.{over}
use Rattle.spec.specs.Network.{Network, leaf_count}
use Rattle.spec.specs.Tree.{leaf, Pair, tree_at, root, pairs_of, flat_of}
use Rattle.spec.specs.Improve as spec
use Rattle.spec.specs.Improve.{Visited, untouched, clamped, pass, improve_tree, array_for, improve_at, improve}
use Rattle.spec.specs.Lists.{count}
use Rattle.spec.specs.Layout.{row_at}
use Rattle.spec.specs.Price.{up_to}
use Rattle.spec.specs.Calls.{wrong_tree, flag_at, is_beyond, total_is_beyond, improved_tree}
use Rattle.laws.specs.Walks.{valid_tree}
use Rattle.laws.specs.ListLaws.{no_members}
use Rattle.cells.specs.Cells.{over_all}
use Rattle.walk.specs.Wrong.{few, not_wrong, not_wrong_length}
use Rattle.reprice.specs.Held.{or_leaf, tree_of, PriceHeld, Standing}
use Rattle.reprice.specs.Laws.{tree_of_lem, standing_array, total_held}
use Rattle.network.specs.Checks.{Lent, Rows}
use Rattle.network.specs.Codes.{Facts}
use Rattle.network.specs.Lists.{Holds}
use Rattle.network.specs.Views.{in_facts, in_rows, in_leaves}
use Rattle.network.specs.declared.accepted.Accepted.{Accepted}
use Rattle.network.specs.Layouts.{layout_legs, layout_leaf_count}
use Rattle.pricing.specs.Sums.{work_sum}
use Rattle.cost.specs.Checks.{row_places}
use Rattle.passes.specs.Made.{Improves}
use Rattle.reconf.specs.declared.Visited.{Visited as Counts}
use Rattle.reconfigure.specs.Answers.{given, Follows}

-- ---- flat lists ----

pub flat_pairs : (j : ℕ) (kids : List ℕ) → length kids ≡ j * 2 → flat_of (pairs_of kids) ≡ kids
unfolding flat_of pairs_of
flat_pairs j [] h = refl
flat_pairs j (x ∷ []) h = absurd (omega arith)
flat_pairs zero (x ∷ y ∷ l) h = absurd (omega arith)
flat_pairs (suc j) (x ∷ y ∷ l) h = ap (λ (r : List ℕ). x ∷ y ∷ r) (flat_pairs j l (omega arith))

-- the length of a tree that is not wrong
pub tree_length : (n : ℕ) (kids : List ℕ) → wrong_tree n kids ≡ false → length kids ≡ (n - 1) * 2
tree_length n kids e =
    elim (dec_le 2 n) [
      | yes h ↦ omega (arith, not_wrong_length n kids h e)
      | no h ↦ (let z : length kids ≡ 0 = eqb-true (length kids) 0 (few n kids (omega arith) ∙ ap not e) in omega arith)
    ]

-- ---- with no leaves ----

no_tree : (n v : ℕ) → n ≡ 0 → tree_at n [] v ≡ None
unfolding tree_at
no_tree n v z = rw (le-ltb v n (omega arith))

empty_walk : (n : ℕ) (kids : List ℕ) → n ≡ 0 → kids ≡ [] → tree_at n (pairs_of kids) (root n (pairs_of kids)) ≡ None
unfolding pairs_of
empty_walk n kids z e = ap (λ (l : List ℕ). tree_at n (pairs_of l) (root n (pairs_of l))) e ∙ no_tree n (root n []) z

empty_tree : (n : ℕ) (kids : List ℕ) → n ≡ 0 → kids ≡ [] → tree_of n kids ≡ leaf 0
unfolding tree_of
empty_tree n kids z e = ap or_leaf (empty_walk n kids z e)

same_improved : {a a' : List Pair} {b b' c c' : ℕ} → a ≡ a' → b ≡ b' → c ≡ c'
    → ◌≡◌ {A = spec.Improved} (record { tree = a; rebuilt = b; tried = c }) (record { tree = a'; rebuilt = b'; tried = c' })
same_improved p q r = rw (p, q, r)

still : (N : Network) (flag : ℕ → Bool) (k : ℕ) (limit : Option ℕ) (passes i : ℕ) → improve_tree N flag k limit passes (leaf i) ≡ untouched 0 (leaf i)
unfolding pass
still N flag k limit zero i = refl
still N flag k limit (suc passes) i = refl

module _ (N : Network) (k passes : ℕ) (limit : Option ℕ) (flag : ℕ → Bool) (kids₀ kids sets sizes works : List ℕ) (rebuilt tried : ℕ)
    (low : 3 ≤ k) (high : k ≤ 12) (right : wrong_tree (leaf_count N) kids₀ ≡ false) (long : length kids ≡ length kids₀)
    (x : Improves N flag k limit passes kids₀ kids sets sizes works rebuilt tried) where
  abbrev n : ℕ
  n = leaf_count N

  same_k : clamped k ≡ k
  same_k = omega arith

  -- the definition's answer, where the walk finds the tree
  found : tree_at n (pairs_of kids₀) (root n (pairs_of kids₀)) ≡ Some (tree_of n kids₀)
      → improve N k passes limit flag (pairs_of kids₀)
      ≡ record { tree = array_for n (tree_of n kids); rebuilt = rebuilt; tried = tried }
  unfolding improve
  found e =
      ap (improve_at N k passes limit flag (pairs_of kids₀)) e
      ∙ ap (λ (j : ℕ). improved (improve_tree N flag j limit passes (tree_of n kids₀))) same_k
      ∙ counts x.tree x.is_rebuilt x.is_tried
    where
      improved : Visited → spec.Improved
      improved d = record { tree = array_for n d.tree; rebuilt = d.rebuilt; tried = d.tried }

      counts : tree_of n kids ≡ (improve_tree N flag k limit passes (tree_of n kids₀)).tree → rebuilt ≡ (improve_tree N flag k limit passes (tree_of n kids₀)).rebuilt
          → tried ≡ (improve_tree N flag k limit passes (tree_of n kids₀)).tried
          → improved (improve_tree N flag k limit passes (tree_of n kids₀)) ≡ record { tree = array_for n (tree_of n kids); rebuilt = rebuilt; tried = tried }
      counts p q r = rw (p, q, r)

  -- the tree that is handed back
  pub back : over kids₀ (flat_of (pairs_of kids)) ≡ kids
  back =
      let e : flat_of (pairs_of kids) ≡ kids = flat_pairs (n - 1) kids (long ∙ tree_length n kids₀ right) in
      ap (over kids₀) e ∙ over_all kids₀ kids long

  with_leaves : 1 ≤ n → improve N k passes limit flag (pairs_of kids₀) ≡ record { tree = pairs_of kids; rebuilt = rebuilt; tried = tried }
  with_leaves h =
      let (t, w, ok) = valid_tree n (pairs_of kids₀) h (not_wrong n kids₀ right) in
      found (w ∙ ap Some (sym (tree_of_lem n kids₀ t ok)))
      ∙ ap (λ (a : List Pair). record { tree = a; rebuilt = rebuilt; tried = tried }) (standing_array h x.standing)

  with_none : n ≡ 0 → improve N k passes limit flag (pairs_of kids₀) ≡ record { tree = pairs_of kids; rebuilt = rebuilt; tried = tried }
  unfolding improve
  with_none z =
      let e₀ : kids₀ ≡ [] = no_members kids₀ (omega (arith, tree_length n kids₀ right)) in
      let e : kids ≡ [] = no_members kids (omega (arith, tree_length n kids₀ right)) in
      let s : improve_tree N flag k limit passes (tree_of n kids₀) ≡ untouched 0 (leaf 0) =
      ap (improve_tree N flag k limit passes) (empty_tree n kids₀ z e₀) ∙ still N flag k limit passes 0 in
      ap (improve_at N k passes limit flag (pairs_of kids₀)) (empty_walk n kids₀ z e₀)
      ∙ same_improved (ap pairs_of (e₀ ∙ sym e)) (sym (x.is_rebuilt ∙ ap (λ (d : Visited). d.rebuilt) s)) (sym (x.is_tried ∙ ap (λ (d : Visited). d.tried) s))

  pub improved_is : improve N k passes limit flag (pairs_of kids₀) ≡ record { tree = pairs_of kids; rebuilt = rebuilt; tried = tried }
  improved_is = elim (dec_le 1 n) [ yes h ↦ with_leaves h | no h ↦ with_none (omega arith) ]

-- THE ANSWER AND THE TREE
pub answered_done : (N : Network) (k passes : ℕ) (limit : Option ℕ) (flags : List ℕ) {kids₀ kids sets sizes works : List ℕ} (r : Counts) (c : Result spec.Improved Refusal)
    → 3 ≤ k → k ≤ 12 → wrong_tree (leaf_count N) kids₀ ≡ false → length kids ≡ length kids₀
    → Improves N (flag_at flags) k limit passes kids₀ kids sets sizes works r.rebuilt r.tried
    → c ≡ Ok (improve N k passes limit (flag_at flags) (pairs_of kids₀)) → Follows c kids₀ kids (Ok r)
answered_done N k passes limit flags {kids₀} {kids} {sets} {sizes} {works} r c low high right long x q =
    let e : c ≡ Ok (record { tree = pairs_of kids; rebuilt = r.rebuilt; tried = r.tried }) =
    q ∙ ap Ok (improved_is N k passes limit (flag_at flags) kids₀ kids sets sizes works r.rebuilt r.tried low high right long x) in
    record {
      answer = sym (ap given e);
      tree =
          sym (ap (λ (y : Result spec.Improved Refusal). improved_tree y kids₀) e
          ∙ back N k passes limit (flag_at flags) kids₀ kids sets sizes works r.rebuilt r.tried low high right long x);
    }

-- ---- 10 and 11, and what passes ask ----

pub right_here : (N : Network) (n : ℕ) (kids : List ℕ) → leaf_count N ≡ n → wrong_tree n kids ≡ false → wrong_tree (leaf_count N) kids ≡ false
right_here N n kids q right = subst (λ (i : ℕ). wrong_tree i kids ≡ false) (sym q) right

-- the sum of the works decides
pub beyond_is : {N : Network} {flag : ℕ → Bool} {kids sets sizes works : List ℕ} (n : ℕ) → leaf_count N ≡ n → wrong_tree n kids ≡ false
    → PriceHeld N flag kids sets sizes works → is_beyond (up_to (work_sum works n (n - 1))) ≡ total_is_beyond N flag (pairs_of kids)
beyond_is {N} {flag} {kids} {sets} {sizes} {works} n q right h =
    ap (λ (y : ℕ). is_beyond (up_to y)) (ap (λ (i : ℕ). work_sum works i (i - 1)) (sym q) ∙ total_held (right_here N n kids q right) h)

pub standing_start : {N : Network} {flag : ℕ → Bool} {kids sets sizes works : List ℕ} (n : ℕ) → leaf_count N ≡ n → wrong_tree n kids ≡ false
    → PriceHeld N flag kids sets sizes works → total_is_beyond N flag (pairs_of kids) ≡ false → Standing N flag kids sets sizes works
standing_start {N} {kids = kids} n q right h b = record { right = right_here N n kids q right; prices = h; total = b }

pub dangling_asks : {m n o : ℕ} {weights counts rows outputs : List ℕ} → Lent weights counts rows outputs → Facts m n o weights counts rows outputs
    → (m ≤ 256) × Rows n counts rows × (o ≤ length outputs) × ((i j : ℕ) → i < n → count j (row_at counts rows i) ≤ 1)
dangling_asks {m} {n} {o} {weights} {counts} {rows} {outputs} l f = (
  f.few_indices,
  row_places l f,
  omega (arith, l.output_places, f.few_outputs),
  λ i j h. subst (λ (x : List ℕ). count j x ≤ 1) (layout_legs m n o weights counts rows outputs i h)
      (f.accepted.once i j (omega (arith, layout_leaf_count m n o weights counts rows outputs))),
)

-- the same of an accepted network
pub dangling_in : (a : Accepted) → Holds a.weights.now a.leg_counts.now a.legs.now a.outputs.now
    → (length a.weights.now ≤ 256) × Rows (length a.leg_counts.now) a.leg_counts.now a.legs.now × (length a.outputs.now ≤ length a.outputs.now)
    × ((i j : ℕ) → i < length a.leg_counts.now → count j (row_at a.leg_counts.now a.legs.now i) ≤ 1)
dangling_in a h = let f = in_facts a h in (
  f.few_indices,
  in_rows a h,
  omega arith,
  λ i j b. subst (λ (x : List ℕ). count j x ≤ 1) (layout_legs (length a.weights.now) (length a.leg_counts.now) (length a.outputs.now) a.weights.now a.leg_counts.now a.legs.now a.outputs.now i b)
      (f.accepted.once i j (omega (arith, in_leaves a))),
)
