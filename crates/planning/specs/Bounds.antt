-- How large the counts get: a pass visits each inner node once, and slicing makes no more passes than there are indices. Assumes nothing.
use Rattle.std.specs.Prelude.{◌≡◌, Bool, true, false, eqb, leb, Option, None, Some}
use Rattle.std.proofs.Math.Path.{refl, subst}
use Rattle.std.proofs.Common.{sym, ap, ◌∙◌, le_trans, mul-le-mul_left, mul-le-mul_right, length-append, le-ltb}
use mathlib.Core.List.{List, [], ◌∷◌, ◌++◌, map}
use Rattle.std.proofs.lemmas.Option.{none-some}
use Prim.Native.Nat.{ℕ, zero, suc, ◌+◌, ◌*◌, ◌≤◌}
use native.Mathlib.Omega.{arith}
use Rattle.std.proofs.Math.Decide.{dec_le}
use Rattle.std.proofs.Math.ListN.{length}
use Rattle.std.proofs.lemmas.List.{length-map}
use Rattle.spec.specs.Network.{Network, leaf_count, index_count}
use Rattle.spec.specs.Tree.{Tree, leaf, node, number, Pair, tree_at, root, valid}
use Rattle.spec.specs.Improve.{Improved, work_of, inner_trees, insert_by_work, falling, visits, pass, improve_tree, clamped, improve_at, improve}
use Rattle.spec.specs.Slicing.{Plan, also, within_target, widest_of, candidates, limit_at, chosen, choose, best, slice_loop, slice, one_pass}
use Rattle.laws.specs.Booleans.{by_cases}
use Rattle.laws.specs.Walks.{inners, valid_inners, valid_none}
use Rattle.laws.specs.Arrays.{Once, valid_once}
use Rattle.laws.specs.Rebuilds.{Kept, kept_once, pass_kept}
use Rattle.laws.specs.ImprovedValid.{keeps_valid, tree_at_lem}
use Rattle.passes.specs.Made.{most_tried}
use Rattle.passes.specs.Bounds.{visits_rebuilt, visits_tried}

-- ---- the nodes of a pass ----

inner_count : (t : Tree) → length (inner_trees t) ≡ inners t
inner_count (leaf i) = refl
inner_count (node v l r) =
    omega (
      arith,
      length-append (inner_trees l) (inner_trees r ++ (node v l r ∷ [])),
      length-append (inner_trees r) (node v l r ∷ []),
      inner_count l,
      inner_count r,
    )

module _ (N : Network) (flag : ℕ → Bool) where
  insert_count : (t : Tree) (ts : List Tree) → length (insert_by_work N flag t ts) ≡ suc (length ts)
  insert_count t [] = refl
  insert_count t (u ∷ us) =
      by_cases (leb (work_of N flag u) (work_of N flag t)) (λ e. rw e) (λ e. rw e (ap suc (insert_count t us)))

  falling_count : (ts : List Tree) → length (falling N flag ts) ≡ length ts
  falling_count [] = refl
  falling_count (t ∷ ts) = insert_count t (falling N flag ts) ∙ ap suc (falling_count ts)

  visited_count : (t : Tree) → length (map number (falling N flag (inner_trees t))) ≡ inners t
  visited_count t = length-map (falling N flag (inner_trees t)) number ∙ falling_count (inner_trees t) ∙ inner_count t

-- ---- passes ----

module _ (N : Network) (flag : ℕ → Bool) (k : ℕ) (limit : Option ℕ) (low : 1 ≤ k) (high : k ≤ 12) where
  pass_few : (t : Tree) → ((pass N flag k limit t).rebuilt ≤ inners t) × ((pass N flag k limit t).tried ≤ inners t * most_tried)
  unfolding pass
  pass_few t =
      let vs : List ℕ = map number (falling N flag (inner_trees t)) in
      let e : length vs ≡ inners t = visited_count N flag t in (
        omega (arith, visits_rebuilt N flag k limit low high vs t),
        subst (λ (n : ℕ). (visits N flag k limit vs t).tried ≤ n * most_tried) e (visits_tried N flag k limit low high vs t),
      )

  passes_few : (passes : ℕ) (t : Tree) → Once t
      → ((improve_tree N flag k limit passes t).rebuilt ≤ passes * inners t) × ((improve_tree N flag k limit passes t).tried ≤ passes * (inners t * most_tried))
  passes_few zero t once = (omega arith, omega arith)
  passes_few (suc passes) t once =
      let d : Kept t (pass N flag k limit t).tree = pass_kept N flag k limit t once in
      let same : inners (pass N flag k limit t).tree ≡ inners t = d.sums inners (λ v. 1) (λ v l r. omega arith) in
      let (a, b) = pass_few t in
      let (x, y) = passes_few passes (pass N flag k limit t).tree (kept_once t _ d once) in
      let x' : (improve_tree N flag k limit passes (pass N flag k limit t).tree).rebuilt ≤ passes * inners t = rw same at x in
      let y' : (improve_tree N flag k limit passes (pass N flag k limit t).tree).tried ≤ passes * (inners t * most_tried) = rw same at y in
      by_cases (eqb (pass N flag k limit t).rebuilt 0)
      (λ e. rw e (omega arith, omega arith))
      (λ e. rw e (omega arith, omega arith))

-- ---- improvement ----

-- without leaves there is no tree
no_tree : (n : ℕ) (a : List Pair) (v : ℕ) → n ≡ 0 → valid n a ≡ true → tree_at n a v ≡ None
unfolding tree_at
no_tree zero [] v z e = rw (le-ltb v 0 (omega arith))
no_tree zero (p ∷ a) v z e = absurd (omega (arith, valid_none (p ∷ a) e))
no_tree (suc n) a v z e = absurd (omega arith)

-- of an array that is valid for at most 128 leaves
module _ (N : Network) (k passes : ℕ) (limit : Option ℕ) (flag : ℕ → Bool) (a : List Pair) (fine : valid (leaf_count N) a ≡ true) (few : leaf_count N ≤ 128) where
  abbrev Few : Improved → Type 0
  Few d = (d.rebuilt ≤ passes * 127) × (d.tried ≤ passes * (127 * most_tried))

  tree_few : (t : Tree) → tree_at (leaf_count N) a (root (leaf_count N) a) ≡ Some t → Once t × (inners t ≤ 127)
  tree_few t e =
      elim (dec_le 1 (leaf_count N)) [
        | yes h ↦
            let d = tree_at_lem (leaf_count N) a t h fine e in
            (valid_once (leaf_count N) a t d, omega (arith, valid_inners (leaf_count N) a t d, d.inner))
        | no h ↦ absurd (none-some t (sym (no_tree (leaf_count N) a (root (leaf_count N) a) (omega arith) fine) ∙ e))
      ]

  at_few : (x : Option Tree) → tree_at (leaf_count N) a (root (leaf_count N) a) ≡ x → Few (improve_at N k passes limit flag a x)
  at_few None e = (omega arith, omega arith)
  at_few (Some t) e =
      let (once, low) = tree_few t e in
      let (x, y) = passes_few N flag (clamped k) limit (omega arith) (omega arith) passes t once in (
        le_trans x (mul-le-mul_left passes low),
        le_trans y (mul-le-mul_left passes (mul-le-mul_right most_tried low)),
      )

  pub improve_few : Few (improve N k passes limit flag a)
  unfolding improve
  improve_few = at_few (tree_at (leaf_count N) a (root (leaf_count N) a)) refl

-- ---- slicing ----

module _ (N : Network) (target : ℕ) (few : leaf_count N ≤ 128) where
  abbrev Within : ℕ → Plan → Plan → Type 0
  Within turns p q = (q.rebuilt ≤ p.rebuilt + turns * 127) × (q.tried ≤ p.tried + turns * (127 * most_tried))

  abbrev Valid : Plan → Type 0
  Valid p = valid (leaf_count N) p.tree ≡ true

  module _ (fuel : ℕ) (p : Plan) (fine : Valid p) (later : (q : Plan) → Valid q → Within fuel q (slice_loop N target (one_pass N) fuel q)) where
    next_few : (i : ℕ) → Within (suc fuel) p (slice_loop N target (one_pass N) fuel (chosen N target (one_pass N) p i))
    next_few i =
        let f : ℕ → Bool = also i p.flag in
        let limit : Option ℕ = Some (limit_at N target p i) in
        let (a, b) = improve_few N 8 1 limit f p.tree fine few in
        let (x, y) = later (chosen N target (one_pass N) p i) (keeps_valid N 8 1 limit f p.tree fine) in
        (omega arith, omega arith)

    choose_few : (l : List ℕ) → Within (suc fuel) p (choose N target (one_pass N) p l (λ q. slice_loop N target (one_pass N) fuel q))
    choose_few [] = (omega arith, omega arith)
    choose_few (i ∷ l) = next_few (best N target p i l)

  loop_few : (fuel : ℕ) (p : Plan) → Valid p → Within fuel p (slice_loop N target (one_pass N) fuel p)
  loop_few zero p fine = (omega arith, omega arith)
  loop_few (suc fuel) p fine =
      by_cases (within_target target (widest_of N p))
      (λ e. rw e (omega arith, omega arith))
      (λ e. rw e (choose_few fuel p fine (λ q v. loop_few fuel q v) (candidates N target p)))

  pub slice_few : (a : List Pair) → valid (leaf_count N) a ≡ true
      → ((slice N target (one_pass N) a).rebuilt ≤ index_count N * 127) × ((slice N target (one_pass N) a).tried ≤ index_count N * (127 * most_tried))
  unfolding slice
  slice_few a fine =
      let (x, y) = loop_few (index_count N) (record { tree = a; flag = λ j. false; rebuilt = 0; tried = 0 }) fine in
      (omega arith, omega arith)
