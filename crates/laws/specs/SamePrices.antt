-- Valid trees of the same plan have the same prices: they differ only in the inner nodes' numbers and in which child stands left.
-- Assumes nothing.
use Rattle.std.specs.Prelude.{◌≡◌, refl, Bool, true, false, ◌&&◌, ◌||◌, cond, List, [], ◌∷◌, ◌++◌, map, ◌⊎◌, eqb, length, None, Some}
use Rattle.std.proofs.Common.{sym, ap₂, ◌∙◌, subst, inl, inr, ⊎_elim, arith, lt_of_not-le, eqb-true, ne_eqb}
use Rattle.std.proofs.Math.Path.{ap, fun_ext}
use Rattle.std.proofs.Math.Bool.{not, or_comm}
use Prim.Native.Nat.{ℕ, ◌+◌, ◌^◌, ◌≤◌, ◌<◌, max}
use Rattle.std.proofs.Math.Decide.{dec_le}
use Rattle.spec.specs.Lists.{memb, range, keep}
use Rattle.spec.specs.Network.{Network, leaf_count, index_count, legs, named}
use Rattle.spec.specs.Tree.{Tree, leaf, node, number, numbers, below, inner, inner_of, Pair, tree_at, valid, Describes, ValidTree, below_of, Within}
use Rattle.spec.specs.TreeClaims.{SamePrices}
use Rattle.spec.specs.Price.{kept, lists, lists_of, list_at, bits, step_at, listing, work, largest, slice_bits, price_of, up_to}
use Rattle.spec.specs.Improve.{weigh, work_of}
use Rattle.laws.specs.Booleans.{bool_ext, or_introl, or_intror, or_cases, clash, eqb_self}
use Rattle.laws.specs.ListLaws.{memb_one, memb_head, three_cases, three_left, three_right, three_last}
use Rattle.laws.specs.Walks.{Placed, placed_top, valid_placed, valid_tree, valid_means}
use Rattle.laws.specs.Value.{Apart}
use Rattle.laws.specs.Arrays.{once_apart, valid_once, valid_in, in_below, describes_shape}
use Rattle.laws.specs.TreePrices.{total_below}
use Rattle.laws.specs.ImprovedWork.{listing_work}

-- ---- trees that differ in numbers and sides only ----

abbrev Similar : Tree → Tree → Type 0
Similar (leaf i) (leaf k) = i ≡ k
Similar (leaf i) (node w x y) = ⊥
Similar (node v l r) (leaf k) = ⊥
Similar (node v l r) (node w x y) = (Similar l x × Similar r y) ⊎ (Similar l y × Similar r x)

-- the same leaves
abbrev Same : Tree → Tree → Type 0
Same t u = (i : ℕ) → below t i ≡ below u i

similar_below : (t u : Tree) → Similar t u → Same t u
similar_below (leaf i) (leaf k) e j = ap (λ x. eqb x j) e
similar_below (leaf i) (node w x y) e j = absurd e
similar_below (node v l r) (leaf k) e j = absurd e
similar_below (node v l r) (node w x y) (inl (p, q)) j = ap₂ (λ a b. a || b) (similar_below l x p j) (similar_below r y q j)
similar_below (node v l r) (node w x y) (inr (p, q)) j =
    ap₂ (λ a b. a || b) (similar_below l y p j) (similar_below r x q j) ∙ or_comm (below y j) (below x j)

-- ---- their prices ----

module _ (N : Network) (flag : ℕ → Bool) where
  same_lists : (t u : Tree) → Similar t u → lists N t ≡ lists N u
  unfolding kept
  same_lists (leaf i) (leaf k) e = ap (legs N) e
  same_lists (leaf i) (node w x y) e = absurd e
  same_lists (node v l r) (leaf k) e = absurd e
  same_lists (node v l r) (node w x y) e =
      ap (λ (p : ℕ → Bool). keep (λ j. named N p j && (memb j N.outputs || named N (λ i. not (p i)) j)) (range (index_count N)))
      (fun_ext (similar_below (node v l r) (node w x y) e))

  same_work : (v w : ℕ) (l r x y : Tree) → Similar (node v l r) (node w x y) → work_of N flag (node v l r) ≡ work_of N flag (node w x y)
  same_work v w l r x y (inl (p, q)) = ap₂ (λ k m. weigh N flag (λ j. memb j k || memb j m)) (same_lists l x p) (same_lists r y q)
  same_work v w l r x y (inr (p, q)) =
      ap₂ (λ k m. weigh N flag (λ j. memb j k || memb j m)) (same_lists l y p) (same_lists r x q)
      ∙ ap (weigh N flag) (fun_ext λ j. or_comm (memb j (lists N y)) (memb j (lists N x)))

  same_total : (t u : Tree) → Similar t u → total_below N flag t ≡ total_below N flag u
  same_total (leaf i) (leaf k) e = refl
  same_total (leaf i) (node w x y) e = absurd e
  same_total (node v l r) (leaf k) e = absurd e
  same_total (node v l r) (node w x y) (inl (p, q)) =
      omega (arith, same_total l x p, same_total r y q, ap (λ b. 2 ^ b) (same_work v w l r x y (inl (p, q))))
  same_total (node v l r) (node w x y) (inr (p, q)) =
      omega (arith, same_total l y p, same_total r x q, ap (λ b. 2 ^ b) (same_work v w l r x y (inr (p, q))))

  -- the largest size of the inner nodes
  abbrev widest_below : Tree → ℕ
  widest_below (leaf i) = 0
  widest_below (node v l r) = max (widest_below l) (max (widest_below r) (bits N flag (lists N (node v l r))))

  same_widest : (t u : Tree) → Similar t u → widest_below t ≡ widest_below u
  same_widest (leaf i) (leaf k) e = refl
  same_widest (leaf i) (node w x y) e = absurd e
  same_widest (node v l r) (leaf k) e = absurd e
  same_widest (node v l r) (node w x y) (inl (p, q)) =
      omega (arith, same_widest l x p, same_widest r y q, ap (bits N flag) (same_lists (node v l r) (node w x y) (inl (p, q))))
  same_widest (node v l r) (node w x y) (inr (p, q)) =
      omega (arith, same_widest l y p, same_widest r x q, ap (bits N flag) (same_lists (node v l r) (node w x y) (inr (p, q))))

  module _ (a : List Pair) where
    abbrev size_at : ℕ → ℕ
    size_at v = bits N flag (list_at N a v)

    largest-append : (k l : List ℕ) → largest (map size_at (k ++ l)) ≡ max (largest (map size_at k)) (largest (map size_at l))
    largest-append [] l = omega arith
    largest-append (x ∷ k) l = omega (arith, largest-append k l)

    tree_widest : (t : Tree) → Placed (leaf_count N) a t → largest (map size_at (inner t)) ≡ widest_below t
    tree_widest (leaf i) p = refl
    tree_widest (node v l r) p =
        let here : size_at v ≡ bits N flag (lists N (node v l r)) = ap (λ o. bits N flag (lists_of N o)) p.0 in
        largest-append (inner l) (inner r ++ (v ∷ []))
        ∙ ap₂ max (tree_widest l p.1)
        (largest-append (inner r) (v ∷ []) ∙ ap₂ max (tree_widest r p.2) (let z : max (size_at v) 0 ≡ size_at v = omega arith in z ∙ here))

    step_sizes : (l : List ℕ) → largest (map (λ c. c.size_bits) (map (step_at N flag a) l)) ≡ largest (map size_at l)
    step_sizes [] = refl
    step_sizes (v ∷ l) = ap (max (size_at v)) (step_sizes l)

    listing_widest : (t : Tree) → ValidTree (leaf_count N) a t → largest (map (λ c. c.size_bits) (listing N flag a)) ≡ widest_below t
    unfolding listing
    listing_widest t d =
        let p : Placed (leaf_count N) a t = valid_placed (leaf_count N) a t d in
        ap (λ o. largest (map (λ c. c.size_bits) (map (step_at N flag a) (inner_of o))))
        (ap (tree_at (leaf_count N) a) (sym d.rooted) ∙ placed_top (leaf_count N) a t p)
        ∙ step_sizes (inner t) ∙ tree_widest t p

-- ---- parts of a tree ----

-- s is t, or stands below it
abbrev Part : Tree → Tree → Type 0
Part s (leaf i) = s ≡ leaf i
Part s (node v l r) = (s ≡ node v l r) ⊎ (Part s l ⊎ Part s r)

abbrev IsNode : Tree → Type 0
IsNode (leaf i) = ⊥
IsNode (node v l r) = Unit {0}

part_self : (t : Tree) → Part t t
part_self (leaf i) = refl
part_self (node v l r) = inl refl

part_below : (s t : Tree) → Part s t → (i : ℕ) → below s i ≡ true → below t i ≡ true
part_below s (leaf k) e i h = ap (λ z. below z i) (sym e) ∙ h
part_below s (node v l r) (inl e) i h = ap (λ z. below z i) (sym e) ∙ h
part_below s (node v l r) (inr (inl p)) i h = or_introl (below l i) (below r i) (part_below s l p i h)
part_below s (node v l r) (inr (inr p)) i h = or_intror (below l i) (below r i) (part_below s r p i h)

-- a leaf of the tree
abbrev some_leaf : Tree → ℕ
some_leaf (leaf i) = i
some_leaf (node v l r) = some_leaf l

has_leaf : (t : Tree) → below t (some_leaf t) ≡ true
has_leaf (leaf i) = eqb_self i
has_leaf (node v l r) = or_introl (below l (some_leaf l)) (below r (some_leaf l)) (has_leaf l)

-- every inner part of t has the leaves of an inner part of u
abbrev Found : Tree → Tree → Type 0
Found t u = (s : Tree) → Part s t → IsNode s → (z : Tree) × Part z u × IsNode z × Same s z

-- one child c of t, the other o; one child d of u, the other e
module _ (t u c o d e : Tree) (found : Found t u) (same : Same t u)
    (lift : (s : Tree) → Part s c → Part s t) (apart : (i : ℕ) → below c i ≡ true → below o i ≡ true → ⊥)
    (other : (i : ℕ) → below o i ≡ true → below t i ≡ true)
    (split : (z : Tree) → Part z u → (z ≡ u) ⊎ (Part z d ⊎ Part z e)) where
  -- no part of c has all leaves of u
  not_all : (s z : Tree) → Part s c → Same s z → z ≡ u → ⊥
  not_all s z p q r =
      let i = some_leaf o in
      let h : below u i ≡ true = sym (same i) ∙ other i (has_leaf o) in
      apart i (part_below s c p i (q i ∙ ap (λ (x : Tree). below x i) r ∙ h)) (has_leaf o)

  -- an inner c lies within one child of u
  side : IsNode c → ((i : ℕ) → below c i ≡ true → below d i ≡ true) ⊎ ((i : ℕ) → below c i ≡ true → below e i ≡ true)
  side n =
      let (z, p, m, q) = found c (lift c (part_self c)) n in
      ⊎_elim (λ r. absurd (not_all c z (part_self c) q r))
      (⊎_elim (λ r. inl (λ i h. part_below z d r i (sym (q i) ∙ h))) (λ r. inr (λ i h. part_below z e r i (sym (q i) ∙ h))))
      (split z p)

  -- if c and d have the same leaves, the parts of c are found in d
  found_child : Same c d → ((i : ℕ) → below d i ≡ true → below e i ≡ true → ⊥) → Found c d
  found_child sd de s p n =
      let (z, r, m, q) = found s (lift s p) n in
      ⊎_elim (λ h. absurd (not_all s z p q h))
      (⊎_elim (λ h. (z, h, m, q))
      (λ h.
      let i = some_leaf z in
      absurd (de i (sym (sd i) ∙ part_below s c p i (q i ∙ has_leaf z)) (part_below z e h i (has_leaf z)))))
      (split z r)

-- a leaf lies within one child
leaf_side : (i : ℕ) (d e : Tree) → (below d i || below e i) ≡ true
    → ((j : ℕ) → eqb i j ≡ true → below d j ≡ true) ⊎ ((j : ℕ) → eqb i j ≡ true → below e j ≡ true)
leaf_side i d e h =
    or_cases (below d i) (below e i) h
    (λ q. inl (λ j r. ap (below d) (sym (eqb-true i j r)) ∙ q))
    (λ q. inr (λ j r. ap (below e) (sym (eqb-true i j r)) ∙ q))

-- what lies within, child by child, is the same
eq_side : (c o d e : Tree) → ((i : ℕ) → below c i ≡ true → below d i ≡ true) → ((i : ℕ) → below o i ≡ true → below e i ≡ true)
    → ((i : ℕ) → below d i ≡ true → (below c i || below o i) ≡ true) → ((i : ℕ) → below d i ≡ true → below e i ≡ true → ⊥) → Same c d
eq_side c o d e cd oe back apart i =
    bool_ext (below c i) (below d i) (cd i)
    (λ h. or_cases (below c i) (below o i) (back i h) (λ q. q) (λ q. absurd (apart i h (oe i q))))

which : (t u c o d e : Tree) → Found t u → Same t u → ((s : Tree) → Part s c → Part s t) → ((i : ℕ) → below c i ≡ true → below o i ≡ true → ⊥)
    → ((i : ℕ) → below o i ≡ true → below t i ≡ true) → ((z : Tree) → Part z u → (z ≡ u) ⊎ (Part z d ⊎ Part z e))
    → ((i : ℕ) → below c i ≡ true → below t i ≡ true) → ((i : ℕ) → below u i ≡ true → (below d i || below e i) ≡ true)
    → ((i : ℕ) → below c i ≡ true → below d i ≡ true) ⊎ ((i : ℕ) → below c i ≡ true → below e i ≡ true)
which t u (leaf i) o d e found same lift apart other split into both = leaf_side i d e (both i (sym (same i) ∙ into i (eqb_self i)))
which t u (node v l r) o d e found same lift apart other split into both = side t u (node v l r) o d e found same lift apart other split tt

swap : (z u x y : Tree) → (z ≡ u) ⊎ (Part z x ⊎ Part z y) → (z ≡ u) ⊎ (Part z y ⊎ Part z x)
swap z u x y (inl e) = inl e
swap z u x y (inr (inl p)) = inr (inr p)
swap z u x y (inr (inr p)) = inr (inl p)

-- all leaves of a tree that is no leaf cannot be one
two_leaves : (i w : ℕ) (x y : Tree) → Apart (node w x y) → ((j : ℕ) → below (node w x y) j ≡ true → eqb i j ≡ true) → ⊥
two_leaves i w x y a h =
    let p : i ≡ some_leaf x = eqb-true i (some_leaf x) (h (some_leaf x) (or_introl (below x (some_leaf x)) (below y (some_leaf x)) (has_leaf x))) in
    let q : i ≡ some_leaf y = eqb-true i (some_leaf y) (h (some_leaf y) (or_intror (below x (some_leaf y)) (below y (some_leaf y)) (has_leaf y))) in
    clash (has_leaf y) (ap (below y) (sym q ∙ p) ∙ a.0 (some_leaf x) (has_leaf x))

similar : (t u : Tree) → Apart t → Apart u → Same t u → Found t u → Similar t u
similar (leaf i) (leaf k) a b same found = sym (eqb-true k i (sym (same i) ∙ eqb_self i))
similar (leaf i) (node w x y) a b same found = two_leaves i w x y b (λ j h. same j ∙ h)
similar (node v l r) (leaf k) a b same found = two_leaves k v l r a (λ j h. sym (same j) ∙ h)
similar (node v l r) (node w x y) a b same found =
    let t = node v l r in
    let u = node w x y in
    let lr : (i : ℕ) → below l i ≡ true → below r i ≡ true → ⊥ = λ i p q. clash q (a.0 i p) in
    let rl : (i : ℕ) → below r i ≡ true → below l i ≡ true → ⊥ = λ i p q. lr i q p in
    let xy : (i : ℕ) → below x i ≡ true → below y i ≡ true → ⊥ = λ i p q. clash q (b.0 i p) in
    let yx : (i : ℕ) → below y i ≡ true → below x i ≡ true → ⊥ = λ i p q. xy i q p in
    let inl_t : (i : ℕ) → below l i ≡ true → below t i ≡ true = λ i p. or_introl (below l i) (below r i) p in
    let inr_t : (i : ℕ) → below r i ≡ true → below t i ≡ true = λ i p. or_intror (below l i) (below r i) p in
    let x_t : (i : ℕ) → below x i ≡ true → below t i ≡ true = λ i p. same i ∙ or_introl (below x i) (below y i) p in
    let y_t : (i : ℕ) → below y i ≡ true → below t i ≡ true = λ i p. same i ∙ or_intror (below x i) (below y i) p in
    let turned : (i : ℕ) → below t i ≡ true → (below r i || below l i) ≡ true = λ i p. or_comm (below r i) (below l i) ∙ p in
    let to_l : (s : Tree) → Part s l → Part s t = λ s p. inr (inl p) in
    let to_r : (s : Tree) → Part s r → Part s t = λ s p. inr (inr p) in
    let flip : (z : Tree) → Part z u → (z ≡ u) ⊎ (Part z y ⊎ Part z x) = λ z p. swap z u x y p in
    let sl = which t u l r x y found same to_l lr inr_t (λ z p. p) inl_t (λ i h. h) in
    let sr = which t u r l x y found same to_r rl inl_t (λ z p. p) inr_t (λ i h. h) in
    ⊎_elim
    (λ lx. ⊎_elim
    (λ rx. let i = some_leaf y in
    absurd (or_cases (below l i) (below r i) (y_t i (has_leaf y)) (λ q. xy i (lx i q) (has_leaf y)) (λ q. xy i (rx i q) (has_leaf y))))
    (λ ry.
    let e : Same l x = eq_side l r x y lx ry x_t xy in
    let f : Same r y = eq_side r l y x ry lx (λ i h. turned i (y_t i h)) yx in
    inl (
      similar l x a.1 b.1 e (found_child t u l r x y found same to_l lr inr_t (λ z p. p) e xy),
      similar r y a.2 b.2 f (found_child t u r l y x found same to_r rl inl_t flip f yx),
    ))
    sr)
    (λ ly. ⊎_elim
    (λ rx.
    let e : Same l y = eq_side l r y x ly rx y_t yx in
    let f : Same r x = eq_side r l x y rx ly (λ i h. turned i (x_t i h)) xy in
    inr (
      similar l y a.1 b.2 e (found_child t u l r y x found same to_l lr inr_t flip e yx),
      similar r x a.2 b.1 f (found_child t u r l x y found same to_r rl inl_t (λ z p. p) f xy),
    ))
    (λ ry. let i = some_leaf x in
    absurd (or_cases (below l i) (below r i) (x_t i (has_leaf x)) (λ q. yx i (ly i q) (has_leaf x)) (λ q. yx i (ry i q) (has_leaf x))))
    sr)
    sl

-- ---- from arrays ----

module _ (n : ℕ) (a : List Pair) where
  describes_part : (s t : Tree) → Describes n a t → Part s t → Describes n a s
  describes_part s (leaf i) d e = subst (Describes n a) (sym e) d
  describes_part s (node v l r) d (inl e) = subst (Describes n a) (sym e) d
  describes_part s (node v l r) d (inr (inl p)) = describes_part s l d.2 p
  describes_part s (node v l r) d (inr (inr p)) = describes_part s r d.3 p

  placed_part : (s t : Tree) → Placed n a t → Part s t → tree_at n a (number s) ≡ Some s
  placed_part s (leaf i) d e = subst (λ z. tree_at n a (number z) ≡ Some z) (sym e) d
  placed_part s (node v l r) d (inl e) = subst (λ z. tree_at n a (number z) ≡ Some z) (sym e) d.0
  placed_part s (node v l r) d (inr (inl p)) = placed_part s l d.1 p
  placed_part s (node v l r) d (inr (inr p)) = placed_part s r d.2 p

  pub high_leaf : (t : Tree) → Describes n a t → (j : ℕ) → n ≤ j → below t j ≡ false
  high_leaf (leaf i) d j h = ne_eqb i j (λ q. omega arith)
  high_leaf (node v l r) d j h = ap₂ (λ x y. x || y) (high_leaf l d.2 j h) (high_leaf r d.3 j h)

  inner_number : (s : Tree) → Describes n a s → IsNode s → n ≤ number s
  inner_number (leaf i) d m = absurd m
  inner_number (node v l r) d m = d.0

  number_inner : (s : Tree) → Describes n a s → n ≤ number s → IsNode s
  number_inner (leaf i) d h = absurd (omega arith)
  number_inner (node v l r) d h = tt

part_number : (s t : Tree) → Part s t → memb (number s) (numbers t) ≡ true
part_number s (leaf i) e = subst (λ z. memb (number z) (i ∷ []) ≡ true) (sym e) (memb_head i [])
part_number s (node v l r) (inl e) = subst (λ z. memb (number z) (numbers (node v l r)) ≡ true) (sym e) (three_last v (numbers l) (numbers r))
part_number s (node v l r) (inr (inl p)) = three_left (number s) v (numbers l) (numbers r) (part_number s l p)
part_number s (node v l r) (inr (inr p)) = three_right (number s) v (numbers l) (numbers r) (part_number s r p)

number_part : (w : ℕ) (t : Tree) → memb w (numbers t) ≡ true → (z : Tree) × Part z t × (number z ≡ w)
number_part w (leaf i) m = (leaf i, refl, sym (memb_one w i m))
number_part w (node v l r) m =
    three_cases w v (numbers l) (numbers r) m
    (λ q. let (z, p, e) = number_part w l q in (z, inr (inl p), e))
    (λ q. let (z, p, e) = number_part w r q in (z, inr (inr p), e))
    (λ q. (node v l r, inl refl, sym q))

module _ (n : ℕ) (a b : List Pair) (t u : Tree) (d : ValidTree n a t) (e : ValidTree n b u) where
  found_in : Within n a b → Found t u
  found_in w s p m =
      let ds : Describes n a s = describes_part n a s t d.described p in
      let top : number s < n + length a = lt_of_not-le (λ h. clash (part_number s t p) (d.above (number s) h)) in
      let (v, h, k, same) = w (number s) (inner_number n a s ds m) top in
      let (z, q, r) = number_part v u (valid_in n b u e v k) in
      let dz : Describes n b z = describes_part n b z u e.described q in
      let at_s : tree_at n a (number s) ≡ Some s = placed_part n a s t (valid_placed n a t d) p in
      let at_z : tree_at n b v ≡ Some z = ap (tree_at n b) (sym r) ∙ placed_part n b z u (valid_placed n b u e) q in (
        z,
        q,
        number_inner n b z dz (omega (arith, r)),
        λ i. elim (dec_le n i) [
          | yes l ↦ high_leaf n a s ds i l ∙ sym (high_leaf n b z dz i l)
          | no l ↦ ap (λ o. below_of o i) (sym at_s) ∙ same i (omega arith) ∙ ap (λ o. below_of o i) at_z
        ],
      )

  same_root : Same t u
  same_root i =
      elim (dec_le n i) [
        | yes l ↦ high_leaf n a t d.described i l ∙ sym (high_leaf n b u e.described i l)
        | no l ↦
            in_below n t (describes_shape n a t d.described) i (omega arith) (valid_in n a t d i (omega arith))
            ∙ sym (in_below n u (describes_shape n b u e.described) i (omega arith) (valid_in n b u e i (omega arith)))
      ]

  -- the trees of the same plan
  plan_similar : Within n a b → Similar t u
  plan_similar w =
      similar t u (once_apart t (valid_once n a t d)) (once_apart u (valid_once n b u e)) same_root (found_in w)

-- ---- VALID TREES OF THE SAME PLAN HAVE THE SAME PRICES ----

prices_with : (N : Network) (flag : ℕ → Bool) (a b : List Pair) (t u : Tree) → ValidTree (leaf_count N) a t → ValidTree (leaf_count N) b u
    → Similar t u → price_of N flag a ≡ price_of N flag b
prices_with N flag a b t u d e s =
    let total_same : work (listing N flag a) ≡ work (listing N flag b)
    = listing_work N flag a t d ∙ same_total N flag t u s ∙ sym (listing_work N flag b u e) in
    let widest_same : largest (map (λ c. c.size_bits) (listing N flag a)) ≡ largest (map (λ c. c.size_bits) (listing N flag b))
    = listing_widest N flag a t d ∙ same_widest N flag t u s ∙ sym (listing_widest N flag b u e) in
    λ i. record {
      total = up_to (total_same i);
      widest = cond (eqb (leaf_count N) 0) None (Some (max (largest (map (bits N flag) N.leaves)) (widest_same i)));
      slice_bits = slice_bits N flag;
    }

pub same_prices : SamePrices
same_prices N flag a b va vb s =
    elim (dec_le 1 (leaf_count N)) [
      | yes h ↦
          let (t, x, d) = valid_tree (leaf_count N) a h va in
          let (u, y, e) = valid_tree (leaf_count N) b h vb in
          prices_with N flag a b t u d e (plan_similar (leaf_count N) a b t u d e s.0)
      | no h ↦
          let z : leaf_count N ≡ 0 = omega arith in
          ap (price_of N flag) (none_of a (subst (λ n. valid n a ≡ true) z va) ∙ sym (none_of b (subst (λ n. valid n b ≡ true) z vb)))
    ]
  where
    none_of : (c : List Pair) → valid 0 c ≡ true → c ≡ []
    none_of c v = (valid_means 0 c).0 v
