-- Where each node's slot holds the node's list, its weights are the price list's. Assumes nothing.
use Rattle.std.specs.Prelude.{Bool, true, false, ◌&&◌, ◌||◌, ◌≡◌, refl, List, [], ◌∷◌, ℕ, ◌-◌, ◌*◌, ◌≤◌, ◌<◌, ltb}
use Rattle.std.proofs.Common.{sym, ◌∙◌, ap, ap₂, arith, lt-ltb, le-ltb, ltb-true, ltb-false}
use Rattle.std.proofs.Math.Decide.{dec_le}
use Rattle.spec.specs.Lists.{memb, count, range, sum_of}
use Rattle.spec.specs.Network.{Network, leaf_count, index_count, legs}
use Rattle.spec.specs.NetworkClaims.{Accepted}
use Rattle.spec.specs.Tree.{number, node, pairs_of}
use Rattle.spec.specs.Price.{kept, list_at, union, bits, children_at, step_at, size_at, work_at}
use Rattle.spec.specs.Calls.{flag_at}
use Rattle.laws.specs.Booleans.{by_cases, or_cases, or_introl, or_intror, and_left, and_right, and_both}
use Rattle.laws.specs.ListLaws.{memb-keep, memb-keep-range, kept_below}
use Rattle.laws.specs.Arrays.{Inner}
use Rattle.laws.specs.FlatLaws.{pairs_length, pair_left, pair_right}
use Rattle.slots.specs.Slots.{held}
use Rattle.slots.specs.Weigh.{open_weight, either}
use Rattle.nodesets.specs.Passes.{nodes}
use Rattle.nodesets.specs.FlatTree.{flat_tree}
use Rattle.nodesets.specs.Order.{left_is, right_is}
use Rattle.nodesets.specs.Steps.{Steps}
use Rattle.nodesets.specs.Flow.{under, wanted, leaf_tree, under_node, wanted_left, wanted_right, listed_node, listed_leaf}
use Rattle.nodebits.specs.Bits.{Effective, size_of, work_of, node_work}
use Rattle.nodebits.specs.Weights.{count_kept, weighed_list}

-- the bits of a list are the effective weights of its indices
pub bits_effective : (N : Network) (flags effective : List ℕ) → Effective N.weights flags effective → (l : List ℕ)
    → bits N (flag_at flags) l ≡ sum_of (open_weight effective []) l
bits_effective N flags effective h [] = refl
bits_effective N flags effective h (j ∷ l) = omega (arith, h j, bits_effective N flags effective h l)

module _ (N : Network) (kids order sets : List ℕ) (W : ℕ) (steps : Steps (leaf_count N) kids order)
    (inners : (v : ℕ) → leaf_count N ≤ v → v < nodes (leaf_count N) kids → Inner (leaf_count N) (pairs_of kids) v)
    (acc : Accepted N) (fits : index_count N ≤ W * 64)
    (holds : (v j : ℕ) → v < nodes (leaf_count N) kids → j < W * 64 → held sets W v j ≡ memb j (list_at N (pairs_of kids) v)) where
  open flat_tree (leaf_count N) kids use {n, m, a, L, R}

  -- ---- a node's list ----

  leaf_list : (i : ℕ) → i < n → list_at N a i ≡ legs N i
  leaf_list i h = rw (leaf_tree N a i h)

  pub list_low : (v j : ℕ) → v < m → memb j (list_at N a v) ≡ true → j < index_count N
  list_low v j h e =
      elim (dec_le n v) [
        | yes b ↦ (let x = inners v b h in kept_below (kept N (node v x.l x.r)) (index_count N) j (rw x.here at e))
        | no b ↦ acc.in_range v j (omega arith) (ap (memb j) (sym (leaf_list v (omega arith))) ∙ e)
      ]

  list_once : (v j : ℕ) → v < m → count j (list_at N a v) ≤ 1
  list_once v j h =
      elim (dec_le n v) [
        | yes b ↦ (let x = inners v b h in rw x.here (count_kept j (kept N (node v x.l x.r)) (index_count N)))
        | no b ↦ rw (leaf_list v (omega arith)) (acc.once v j (omega arith))
      ]

  -- ---- a node's set is a part of its children's together ----

  -- what is named below a node and wanted outside it is listed
  listed : (u j : ℕ) → u < m → under N a u j ≡ true → wanted N a u j ≡ true → memb j (list_at N a u) ≡ true
  listed u j h p q =
      elim (dec_le n u) [
        | yes b ↦ listed_node N a u (inners u b h) acc.in_range j ∙ and_both (under N a u j) (wanted N a u j) p q
        | no b ↦ listed_leaf N a u j (omega arith) ∙ p
      ]

  pub nested : (v j : ℕ) → memb v order ≡ true → j < W * 64 → held sets W v j ≡ true → either sets W (L v) (R v) j ≡ true
  nested v j o b e =
      let i = steps.inner v o in
      let d = steps.children v o in
      let x = inners v i.0 i.1 in
      let el : L v ≡ number x.l = left_is n kids v x.l x.r x.described in
      let er : R v ≡ number x.r = right_is n kids v x.l x.r x.described in
      let f : (under N a v j && wanted N a v j) ≡ true = sym (listed_node N a v x acc.in_range j) ∙ sym (holds v j i.1 b) ∙ e in
      let w : wanted N a v j ≡ true = and_right (under N a v j) (wanted N a v j) f in
      or_cases (under N a (number x.l) j) (under N a (number x.r) j) (sym (under_node N a v x j) ∙ and_left (under N a v j) (wanted N a v j) f)
      (λ p. or_introl (held sets W (L v) j) (held sets W (R v) j)
      (holds (L v) j d.0 b ∙ listed (L v) j d.0 (rw el p) (rw el (wanted_left N a v x j ∙ or_introl (wanted N a v j) _ w))))
      (λ p. or_intror (held sets W (L v) j) (held sets W (R v) j)
      (holds (R v) j d.1 b ∙ listed (R v) j d.1 (rw er p) (rw er (wanted_right N a v x j ∙ or_introl (wanted N a v j) _ w))))

  -- ---- weights ----

  module _ (flags effective : List ℕ) (eff : Effective N.weights flags effective) where
    abbrev flag : ℕ → Bool
    flag = flag_at flags

    list_weighs : (v : ℕ) → v < m → size_of effective sets W v ≡ sum_of (open_weight effective []) (list_at N a v)
    list_weighs v h =
        weighed_list effective [] (held sets W v) (W * 64) (list_at N a v)
        (λ j. list_once v j h)
        (λ j e. omega (arith, list_low v j h e))
        (λ j b. holds v j h b)

    pub size_is : (v : ℕ) → v < m → size_of effective sets W v ≡ size_at N flag a v
    size_is v h = list_weighs v h ∙ sym (bits_effective N flags effective eff (list_at N a v))

    pub leaf_is : (i : ℕ) → i < n → size_of effective sets W i ≡ sum_of (open_weight effective []) (legs N i)
    leaf_is i h = list_weighs i (omega arith) ∙ ap (sum_of (open_weight effective [])) (leaf_list i h)

    union_has : (k l : List ℕ) (j : ℕ) → ((i : ℕ) → memb i k ≡ true → i < index_count N) → ((i : ℕ) → memb i l ≡ true → i < index_count N)
        → (memb j k || memb j l) ≡ memb j (union N k l)
    union_has k l j hk hl =
        by_cases (ltb j (index_count N))
        (λ e. sym (memb-keep-range j (index_count N) (λ i. memb i k || memb i l) (ltb-true j (index_count N) e)))
        (λ e. let b : index_count N ≤ j = ltb-false j (index_count N) e in
        let z : (memb j k || memb j l) ≡ false = by_cases (memb j k || memb j l)
        (λ q. or_cases (memb j k) (memb j l) q (λ p. absurd (omega (arith, hk j p))) (λ p. absurd (omega (arith, hl j p))))
        (λ q. q) in
        z ∙ sym (memb-keep j (λ i. memb i k || memb i l) (range (index_count N)) ∙ rw z))

    pub left_of_lem : (v : ℕ) → n ≤ v → v < m → (children_at N a v).left ≡ L v
    left_of_lem v b c = pair_left kids (v - n) (omega (arith, pairs_length kids))

    pub right_of_lem : (v : ℕ) → n ≤ v → v < m → (children_at N a v).right ≡ R v
    right_of_lem v b c = pair_right kids (v - n) (omega (arith, pairs_length kids))

    pub work_is : (v : ℕ) → n ≤ v → v < m → memb v order ≡ true → work_of effective sets W (L v) (R v) ≡ (step_at N flag a v).work_bits
    work_is v b c o =
        let d = steps.children v o in
        let U = union N (list_at N a (L v)) (list_at N a (R v)) in
        weighed_list effective [] (either sets W (L v) (R v)) (W * 64) U
        (λ j. count_kept j (λ i. memb i (list_at N a (L v)) || memb i (list_at N a (R v))) (index_count N))
        (λ j e. omega (arith, kept_below (λ i. memb i (list_at N a (L v)) || memb i (list_at N a (R v))) (index_count N) j e))
        (λ j q. ap₂ (λ (x y : Bool). x || y) (holds (L v) j d.0 q) (holds (R v) j d.1 q)
        ∙ union_has (list_at N a (L v)) (list_at N a (R v)) j (λ i e. list_low (L v) i d.0 e) (λ i e. list_low (R v) i d.1 e))
        ∙ sym (bits_effective N flags effective eff U)
        ∙ rw (left_of_lem v b c, right_of_lem v b c)

    pub works_is : (v : ℕ) → v < m → node_work effective sets kids W n v ≡ work_at N flag a v
    works_is v h =
        elim (dec_le n v) [
          | yes b ↦ rw (le-ltb v n b) (work_is v b h (steps.all v b h))
          | no b ↦ rw (lt-ltb v n (omega arith))
        ]
