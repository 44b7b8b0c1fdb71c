-- What ranks an index, by the definitions, is summed up node by node: where each node's slot, size and work are the price list's. Assumes
-- nothing.
use Rattle.std.specs.Prelude.{Bool, true, false, not, ◌&&◌, ◌||◌, cond, ◌≡◌, refl, List, [], ◌∷◌, ◌++◌, map, ℕ, ◌+◌, ◌-◌, ◌*◌, ◌^◌, ◌<◌, eqb, ltb, length, get_or}
use Rattle.std.proofs.Math.Bool.{or_self}
use Rattle.std.proofs.Common.{sym, ◌∙◌, ap₂, arith, le-ltb, lt-ltb, ltb-true}
use Rattle.std.proofs.Math.Path.{ap}
use Rattle.std.proofs.lemmas.List.{map-append}
use Rattle.std.proofs.lemmas.Simd.{map-map}
use Rattle.spec.specs.Lists.{memb, keep, anyb, from, range, sum_of}
use Rattle.spec.specs.Network.{Network, leaf_count, legs, weight}
use Rattle.spec.specs.Tree.{pairs_of, step_order}
use Rattle.spec.specs.Price.{Step, list_at, bits, children_at, step_at, listing, size_at, work_at, work}
use Rattle.spec.specs.Slicing.{Plan, touching, above, touched_size, candidate}
use Rattle.laws.specs.Booleans.{by_cases, or_intror}
use Rattle.laws.specs.ListLaws.{memb_head, from_memb, sum_append, sum_map, sum_same_from}
use Rattle.laws.specs.Counts.{sum_same}
use Rattle.laws.specs.FlatLaws.{pairs_length, pair_left, pair_right}
use Rattle.slots.specs.Slots.{held}
use Rattle.slots.specs.Weigh.{either}
use Rattle.nodesets.specs.Passes.{nodes}
use Rattle.nodesets.specs.FlatTree.{flat_tree}
use Rattle.nodesets.specs.Steps.{Steps}
use Rattle.nodesets.specs.Flow.{leaf_tree}
use Rattle.nodesets.specs.Lists.{Ordered, ordered_steps}
use Rattle.pricing.specs.Sums.{from-add}
use Rattle.pricing.specs.Tables.{node_counts, map_same_from, leaves_are}
use Rattle.slicing.specs.Sums.{share_kept}
use Rattle.slicing.specs.Nodes.{step_share, table_share, size_above}

-- ---- sums ----

sum_cong : (f g : ℕ → ℕ) (l : List ℕ) → ((v : ℕ) → memb v l ≡ true → f v ≡ g v) → sum_of f l ≡ sum_of g l
sum_cong f g [] h = refl
sum_cong f g (k ∷ l) h =
    ap₂ (λ (x y : ℕ). x + y) (h k (memb_head k l)) (sum_cong f g l (λ v m. h v (or_intror (eqb v k) (memb v l) m)))

-- the members of a mapped list that pass a test
sum_kept : (g : List ℕ → ℕ) (q : List ℕ → Bool) (h : ℕ → List ℕ) (l : List ℕ)
    → sum_of g (keep q (map h l)) ≡ sum_of (λ v. cond (q (h v)) (g (h v)) 0) l
sum_kept g q h [] = refl
sum_kept g q h (v ∷ l) = pick (q (h v)) ∙ ap (λ (x : ℕ). cond (q (h v)) (g (h v)) 0 + x) (sum_kept g q h l)
  where
    pick : (b : Bool) → sum_of g (cond b (h v ∷ keep q (map h l)) (keep q (map h l))) ≡ cond b (g (h v)) 0 + sum_of g (keep q (map h l))
    pick true = refl
    pick false = omega arith

swap : (b c : Bool) (x : ℕ) → cond b (cond c x 0) 0 ≡ cond c (cond b x 0) 0
swap true true x = refl
swap true false x = refl
swap false true x = refl
swap false false x = refl

-- ---- a table above the target weighs something ----

module _ (j target : ℕ) (weigh : List ℕ → ℕ) where
  positive : (x y : ℕ) → 0 < x → true ≡ ltb 0 (x + y)
  positive x y h = sym (lt-ltb 0 (x + y) (omega arith))

  nothing : (x : ℕ) → ltb 0 x ≡ ltb 0 (0 + x)
  nothing x = let z : x ≡ 0 + x = omega arith in ap (ltb 0) z

  pub any_positive : (l : List (List ℕ))
      → anyb (memb j) (keep (λ k. ltb target (weigh k)) l) ≡ ltb 0 (sum_of (λ k. cond (memb j k) (weigh k) 0) (keep (λ k. ltb target (weigh k)) l))
  any_positive [] = refl
  any_positive (k ∷ l) =
      by_cases (ltb target (weigh k))
      (λ e. rw e (by_cases (memb j k)
      (λ m. rw m (positive (weigh k) _ (omega (arith, ltb-true target (weigh k) e))))
      (λ m. rw m (any_positive l ∙ nothing (sum_of (λ k. cond (memb j k) (weigh k) 0) (keep (λ k. ltb target (weigh k)) l))))))
      (λ e. rw e (any_positive l))

-- ---- a priced tree ----

module _ (N : Network) (flag : ℕ → Bool) (kids order sets sizes works : List ℕ) (W : ℕ) (o : Ordered (leaf_count N) kids order)
    (holds : (v j : ℕ) → v < nodes (leaf_count N) kids → j < W * 64 → held sets W v j ≡ memb j (list_at N (pairs_of kids) v))
    (sizes_are : (v : ℕ) → v < nodes (leaf_count N) kids → get_or sizes v 0 ≡ size_at N flag (pairs_of kids) v)
    (works_are : (v : ℕ) → v < nodes (leaf_count N) kids → get_or works v 0 ≡ work_at N flag (pairs_of kids) v)
    (rebuilt tried : ℕ) where
  open flat_tree (leaf_count N) kids use {n, a, L, R}

  abbrev p : Plan
  p = record { tree = pairs_of kids; flag = flag; rebuilt = rebuilt; tried = tried }

  s : Steps (leaf_count N) kids order
  s = ordered_steps o

  listed : listing N flag a ≡ map (step_at N flag a) order
  unfolding listing step_order
  listed = ap (map (step_at N flag a)) (sym o.in_order)

  left_of_lem : (v : ℕ) → memb v order ≡ true → (children_at N a v).left ≡ L v
  left_of_lem v m = let i = s.inner v m in pair_left kids (v - n) (omega (arith, i.0, i.1, pairs_length kids))

  right_of_lem : (v : ℕ) → memb v order ≡ true → (children_at N a v).right ≡ R v
  right_of_lem v m = let i = s.inner v m in pair_right kids (v - n) (omega (arith, i.0, i.1, pairs_length kids))

  work_of : (v : ℕ) → memb v order ≡ true → (step_at N flag a v).work_bits ≡ get_or works v 0
  work_of v m = let i = s.inner v m in sym (works_are v i.1 ∙ rw (le-ltb v n i.0))

  -- the total
  pub total_is : sum_of (λ v. 2 ^ get_or works v 0) order ≡ work (listing N flag a)
  total_is =
      sum_cong _ (λ v. 2 ^ (step_at N flag a v).work_bits) order (λ v m. ap (λ (y : ℕ). 2 ^ y) (sym (work_of v m)))
      ∙ sym (sum_map (λ c. 2 ^ c.work_bits) (step_at N flag a) order) ∙ ap work (sym listed)

  -- the work of the steps whose children list the index
  abbrev touches : ℕ → Step → ℕ
  touches j c = cond (memb j (list_at N a c.left) || memb j (list_at N a c.right)) (2 ^ c.work_bits) 0

  step_share_lem : (j v : ℕ) → j < W * 64 → memb v order ≡ true → step_share W L R sets works j v ≡ touches j (step_at N flag a v)
  step_share_lem j v b m =
      let d = s.children v m in
      share_kept (2 ^ get_or works v 0) j (either sets W (L v) (R v)) (W * 64) b
      ∙ ap₂ (λ (x y : Bool). cond (x || y) (2 ^ get_or works v 0) 0) (holds (L v) j d.0 b) (holds (R v) j d.1 b)
      ∙ ap₂ (λ (x y : ℕ). cond (memb j (list_at N a x) || memb j (list_at N a y)) (2 ^ get_or works v 0) 0) (sym (left_of_lem v m)) (sym (right_of_lem v m))
      ∙ ap (λ (x : ℕ). cond (memb j (list_at N a (children_at N a v).left) || memb j (list_at N a (children_at N a v).right)) (2 ^ x) 0) (sym (work_of v m))

  pub touching_is : (j : ℕ) → j < W * 64 → sum_of (step_share W L R sets works j) order ≡ touching N p j
  touching_is j b =
      sum_cong _ (λ v. touches j (step_at N flag a v)) order (λ v m. step_share_lem j v b m)
      ∙ sym (sum_map (touches j) (step_at N flag a) order) ∙ ap (sum_of (touches j)) (sym listed)

  -- ---- tables ----

  nodes_are : nodes n kids ≡ n + length order
  nodes_are = omega (arith, s.numbers, s.steps)

  tables_are : N.leaves ++ map (λ c. c.list) (listing N flag a) ≡ map (list_at N a) (range n ++ order)
  tables_are =
      ap₂ (λ (x y : List (List ℕ)). x ++ y)
      (leaves_are N ∙ map_same_from (legs N) (list_at N a) 0 n (λ i c h. rw (leaf_tree N a i (omega arith))))
      (ap (map (λ c. c.list)) listed ∙ map-map (λ c. c.list) (step_at N flag a) order)
      ∙ sym (map-append (list_at N a) (range n) order)

  module _ (target : ℕ) where
    abbrev listed_above : ℕ → ℕ → ℕ
    listed_above j v =
        cond (ltb target (bits N flag (list_at N a v))) (cond (memb j (list_at N a v)) (bits N flag (list_at N a v)) 0) 0

    table_share_lem : (j v : ℕ) → j < W * 64 → v < nodes n kids → table_share W target sets sizes j v ≡ listed_above j v
    table_share_lem j v b h =
        share_kept (size_above target (get_or sizes v 0)) j (either sets W v v) (W * 64) b
        ∙ ap₂ (λ (x : Bool) (y : ℕ). cond x (size_above target y) 0) (or_self (held sets W v j) ∙ holds v j h b) (sizes_are v h)
        ∙ swap (memb j (list_at N a v)) (ltb target (size_at N flag a v)) (size_at N flag a v)

    -- the summed size of the tables above the target that list the index
    pub sizes_summed : (j : ℕ) → j < W * 64 → sum_of (table_share W target sets sizes j) (range (nodes n kids)) ≡ touched_size N target p j
    sizes_summed j b =
        sum_same_from (table_share W target sets sizes j) (listed_above j) 0 (nodes n kids) (λ v c h. table_share_lem j v b (omega arith))
        ∙ ap (λ (k : ℕ). sum_of (listed_above j) (range k)) nodes_are
        ∙ ap (sum_of (listed_above j)) (from-add 0 n (length order))
        ∙ sum_append (listed_above j) (range n) (from (0 + n) (length order))
        ∙ ap (λ (x : ℕ). sum_of (listed_above j) (range n) + x) in_order
        ∙ sym (sum_append (listed_above j) (range n) order)
        ∙ sym (sum_kept (λ k. cond (memb j k) (bits N flag k) 0) (λ k. ltb target (bits N flag k)) (list_at N a) (range n ++ order))
        ∙ ap (λ (l : List (List ℕ)). sum_of (λ k. cond (memb j k) (bits N flag k) 0) (keep (λ k. ltb target (bits N flag k)) l)) (sym tables_are)
      where
        in_order : sum_of (listed_above j) (from (0 + n) (length order)) ≡ sum_of (listed_above j) order
        in_order =
            let z : 0 + n ≡ n = omega arith in
            ap (λ (y : ℕ). sum_of (listed_above j) (from y (length order))) z
            ∙ sum_same (nodes n kids) (listed_above j) (from n (length order)) order
            (λ v e. omega (arith, nodes_are, from_memb v n (length order) e))
            (λ v e. (s.inner v e).1)
            (node_counts (length order) s nodes_are)

-- a candidate, by what is left of its weight and by that summed size
pub candidate_is : (N : Network) (target : ℕ) (p : Plan) (j w x : ℕ) → w ≡ cond (memb j N.outputs) 0 (cond (p.flag j) 0 (weight N j))
    → x ≡ touched_size N target p j → (ltb 0 w && ltb 0 x) ≡ candidate N target p j
candidate_is N target p j w x e f =
    ap₂ (λ (x y : Bool). x && y) (ap (ltb 0) e)
    (ap (ltb 0) f ∙ sym (any_positive j target (bits N p.flag) (N.leaves ++ map (λ c. c.list) (listing N p.flag p.tree))))
    ∙ tests (memb j N.outputs) (p.flag j) (weight N j) (anyb (memb j) (above N target p))
  where
    tests : (b c : Bool) (w : ℕ) (d : Bool) → (ltb 0 (cond b 0 (cond c 0 w)) && d) ≡ (not b && (not c && (ltb 0 w && d)))
    tests true c w d = refl
    tests false true w d = refl
    tests false false w d = refl
