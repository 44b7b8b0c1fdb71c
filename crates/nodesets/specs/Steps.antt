-- The steps of a valid tree, place by place, in the terms of its flat list. Assumes nothing.
use Rattle.std.specs.Prelude.{◌≡◌, refl, true, List, [], ◌∷◌, ℕ, zero, suc, ◌+◌, ◌-◌, ◌≤◌, ◌<◌, length, get_or, take, drop}
use Rattle.std.proofs.Common.{sym, ◌∙◌, ap, subst, arith, lt_of_not-le}
use mathlib.Mathlib.Data.Bool.Basic.{eq-true_of_not-eq-false}
use Rattle.spec.specs.Lists.{memb, count}
use Rattle.spec.specs.Tree.{Tree, number, numbers, inner, Pair, tree_at, root, valid, inner_of, ValidTree, pairs_of, step_order}
use Rattle.laws.specs.Booleans.{clash}
use Rattle.laws.specs.ListLaws.{count_not_memb, memb_at}
use Rattle.laws.specs.Walks.{valid_tree, valid_none, valid_inners}
use Rattle.laws.specs.Arrays.{Shape, describes_shape}
use Rattle.laws.specs.Ordering.{inner_above, inner_numbers, inner_count, inner_length}
use Rattle.laws.specs.FlatLaws.{pairs_length, left_of, right_of}
use Rattle.nodesets.specs.Passes.{nodes}
use Rattle.nodesets.specs.Order.{Ready, Known, children_before, parent_in, parent_after, children_in}

-- `order` has the inner nodes, each after its children and before its parent
pub record Steps (n : ℕ) (kids order : List ℕ) : Type 0 where
  -- how many there are
  pub steps : length order ≡ n - 1
  pub numbers : nodes n kids ≡ n + (n - 1)
  -- their numbers, and their children's
  pub inner : (v : ℕ) → memb v order ≡ true → (n ≤ v) × (v < nodes n kids)
  pub once : (v : ℕ) → n ≤ v → v < nodes n kids → count v order ≡ 1
  pub all : (v : ℕ) → n ≤ v → v < nodes n kids → memb v order ≡ true
  pub children : (v : ℕ) → memb v order ≡ true → (left_of kids n v < nodes n kids) × (right_of kids n v < nodes n kids)
  -- children first
  pub ready : (k : ℕ) → k < length order
      → Ready n kids (take k order) (left_of kids n (get_or order k 0)) × Ready n kids (take k order) (right_of kids n (get_or order k 0))
  -- the root, or a child of a later node
  pub parent : (k : ℕ) → k < length order → Known n kids (nodes n kids - 1) (drop (suc k) order) (get_or order k 0)
  pub parents : (v : ℕ) → memb v order ≡ true → Known n kids (nodes n kids - 1) order v

no_steps : (kids : List ℕ) → nodes 0 kids ≡ 0 → Steps 0 kids []
no_steps kids e =
    record {
      steps = refl;
      numbers = e;
      inner = λ v m. clash m refl;
      once = λ v b c. absurd (omega arith);
      all = λ v b c. absurd (omega arith);
      children = λ v m. clash m refl;
      ready = λ k h. absurd (omega arith);
      parent = λ k h. absurd (omega arith);
      parents = λ v m. clash m refl;
    }

module _ (n : ℕ) (kids : List ℕ) (t : Tree) (d : ValidTree n (pairs_of kids) t) where
  nodes_is : n + length (pairs_of kids) ≡ nodes n kids
  nodes_is = omega (arith, pairs_length kids)

  below_nodes : (v : ℕ) → memb v (numbers t) ≡ true → v < nodes n kids
  below_nodes v m = lt_of_not-le (λ h. clash m (d.above v (omega (arith, nodes_is))))

  top_is : number t ≡ nodes n kids - 1
  top_is = omega (arith, d.rooted, nodes_is)

  shape : Shape n t
  shape = describes_shape n (pairs_of kids) t d.described

  once : (v : ℕ) → n ≤ v → v < nodes n kids → count v (inner t) ≡ 1
  once v b c = inner_count n t shape v b ∙ d.met v (omega (arith, nodes_is))

  tree_steps : Steps n kids (inner t)
  tree_steps =
      record {
        steps = omega (arith, inner_length t, valid_inners n (pairs_of kids) t d, d.inner);
        numbers = omega (arith, d.inner, nodes_is);
        inner = λ v m. (inner_above n t shape v m, below_nodes v (inner_numbers t v m));
        once = once;
        all = λ v b c. eq-true_of_not-eq-false (λ e. omega (arith, once v b c, count_not_memb v (inner t) e));
        children = λ v m. let c = children_in n kids t d.described v m in (below_nodes (left_of kids n v) c.0, below_nodes (right_of kids n v) c.1);
        ready = children_before n kids t d.described;
        parent = λ k h. subst (λ (x : ℕ). Known n kids x (drop (suc k) (inner t)) (get_or (inner t) k 0)) top_is (parent_after n kids t d.described k h);
        parents = λ v m. subst (λ (x : ℕ). Known n kids x (inner t) v) top_is (parent_in n kids t d.described v m);
      }

-- the step order of a valid tree
no_order : (kids : List ℕ) (a : List Pair) → length a ≡ 0 → inner_of (tree_at 0 a (root 0 a)) ≡ []
unfolding tree_at
no_order kids [] e = refl
no_order kids (p ∷ a) e = absurd (omega arith)

pub valid_steps : (n : ℕ) (kids order : List ℕ) → valid n (pairs_of kids) ≡ true → order ≡ step_order kids n → Steps n kids order
unfolding step_order
valid_steps zero kids order h e =
    let z : length (pairs_of kids) ≡ 0 = valid_none (pairs_of kids) h in
    subst (Steps 0 kids) (sym (e ∙ no_order kids (pairs_of kids) z)) (no_steps kids (omega (arith, pairs_length kids)))
valid_steps (suc m) kids order h e =
    let (t, w, d) = valid_tree (suc m) (pairs_of kids) (omega arith) h in
    subst (Steps (suc m) kids) (sym (e ∙ ap inner_of w)) (tree_steps (suc m) kids t d)

-- ---- what is asked of a place ----

module _ {n : ℕ} {kids order : List ℕ} (s : Steps n kids order) (k : ℕ) (h : k < length order) where
  pub at_inner : (n ≤ get_or order k 0) × (get_or order k 0 < nodes n kids)
  at_inner = s.inner (get_or order k 0) (memb_at order k h)

  pub at_children : (left_of kids n (get_or order k 0) < nodes n kids) × (right_of kids n (get_or order k 0) < nodes n kids)
  at_children = s.children (get_or order k 0) (memb_at order k h)
