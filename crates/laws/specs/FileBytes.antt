-- The file of lawful contents is one of bytes. Assumes nothing.
use Rattle.std.specs.Prelude.{◌≡◌, true, false, List, [], ◌∷◌, ◌++◌, ℕ, zero, suc, ◌+◌, ◌-◌, ◌%◌, ◌≤◌, ◌<◌, ltb, leb, length, get_or, Option, None, Some, slice_get}
use Rattle.std.proofs.Common.{sym, ap, ◌∙◌, subst, arith, ltb-true, ltb-false, leb-false}
use Rattle.std.proofs.lemmas.Option.{same_Some}
use Rattle.spec.specs.Lists.{memb}
use Rattle.spec.specs.Members.{All}
use Rattle.spec.specs.Network.{Network, leaf_count, index_count, max_indices, max_legs, max_outputs, max_weight}
use Rattle.spec.specs.Tree.{Tree, leaf, node, number, numbers, Pair, valid, pairs_of, Describes, ValidTree}
use Rattle.spec.specs.File.{Ask, plain, flagged, target, field, leaf_fields, tree_field, ask_field, file_of}
use Rattle.spec.specs.FileClaims.{Bytes, LawfulTree, LawfulAsk, FilesAreBytes}
use Rattle.laws.specs.Booleans.{by_cases, clash}
use Rattle.laws.specs.ListLaws.{memb_one, three_cases, three_left, three_right}
use Rattle.laws.specs.MemberLaws.{all_append, all_map}
use Rattle.laws.specs.FlatLaws.{pairs_length}
use Rattle.laws.specs.Walks.{valid_tree}
use Rattle.laws.specs.Arrays.{number_in, valid_in}
use Rattle.laws.specs.FileFields.{any_none, Named, accepted_parts}
use Rattle.laws.specs.FileLists.{valid_length}

-- ---- the children in a valid tree's array are nodes ----

-- the pair at place j, and that P holds of both children
abbrev PairAt : (ℕ → Type 0) → List Pair → ℕ → Type 0
PairAt P a j = (p : Pair) × (slice_get a j ≡ Some p) × P p.left × P p.right

child_in : (n : ℕ) (a : List Pair) (t : Tree) → Describes n a t → (v : ℕ) → n ≤ v → memb v (numbers t) ≡ true
    → PairAt (λ u. memb u (numbers t) ≡ true) a (v - n)
child_in n a (leaf i) d v b m = absurd (omega (arith, memb_one v i m))
child_in n a (node w l r) d v b m =
    let on_left : (u : ℕ) → memb u (numbers l) ≡ true → memb u (numbers (node w l r)) ≡ true = λ u. three_left u w (numbers l) (numbers r) in
    let on_right : (u : ℕ) → memb u (numbers r) ≡ true → memb u (numbers (node w l r)) ≡ true = λ u. three_right u w (numbers l) (numbers r) in
    three_cases v w (numbers l) (numbers r) m
    (λ e. let (p, q, x, y) = child_in n a l d.2 v b e in (p, q, on_left p.left x, on_left p.right y))
    (λ e. let (p, q, x, y) = child_in n a r d.3 v b e in (p, q, on_right p.left x, on_right p.right y))
    (λ e. (
      record { left = number l; right = number r },
      ap (λ (u : ℕ). slice_get a (u - n)) e ∙ d.1,
      on_left (number l) (number_in l),
      on_right (number r) (number_in r),
    ))

flat_all : (P : ℕ → Type 0) (kids : List ℕ) → length kids % 2 ≡ 0 → ((j : ℕ) → j < length (pairs_of kids) → PairAt P (pairs_of kids) j) → All P kids
unfolding pairs_of
flat_all P [] e h = tt
flat_all P (x ∷ []) e h = absurd (omega arith)
flat_all P (x ∷ y ∷ l) e h =
    let (p, q, u, v) = h 0 (omega arith) in
    let s : p ≡ record { left = x; right = y } = sym (same_Some _ _ q) in
    (subst (λ (z : Pair). P z.left) s u, (subst (λ (z : Pair). P z.right) s v, flat_all P l (omega arith) (λ j b. h (suc j) (omega arith))))

kids_below : (n : ℕ) (kids : List ℕ) → 1 ≤ n → length kids % 2 ≡ 0 → valid n (pairs_of kids) ≡ true → All (λ k. k < n + length (pairs_of kids)) kids
kids_below n kids h e v =
    let a : List Pair = pairs_of kids in
    let (t, _, d) = valid_tree n a h v in
    flat_all (λ k. k < n + length a) kids e λ j b.
    let (p, q, x, y) = child_in n a t d.described (n + j) (omega arith) (valid_in n a t d (n + j) (omega arith)) in
    let at : n + j - n ≡ j = omega arith in
    (p, ap (slice_get a) (sym at) ∙ q, below t a n d p.left x, below t a n d p.right y)
  where
    below : (t : Tree) (a : List Pair) (n : ℕ) → ValidTree n a t → (k : ℕ) → memb k (numbers t) ≡ true → k < n + length a
    below t a n d k m =
        by_cases (ltb k (n + length a))
        (λ e. ltb-true k (n + length a) e)
        (λ e. clash m (d.above k (ltb-false k (n + length a) e)))

none_in : (kids : List ℕ) → length kids ≡ 0 → Bytes kids
none_in [] e = tt
none_in (x ∷ kids) e = absurd (omega arith)

pub tree_bytes : (n : ℕ) (kids : List ℕ) → n ≤ 128 → length kids % 2 ≡ 0 → valid n (pairs_of kids) ≡ true → Bytes kids
tree_bytes zero kids h e v = none_in kids (valid_length 0 kids e v)
tree_bytes (suc m) kids h e v =
    all_map (λ k. k < suc m + length (pairs_of kids)) (λ k. k < 256) kids
    (λ k b. omega (arith, pairs_length kids, valid_length (suc m) kids e v)) (kids_below (suc m) kids (omega arith) e v)

-- ---- the fields ----

field_bytes : (t : ℕ) (l : List ℕ) → t < 256 → length l < 65536 → Bytes l → Bytes (field t l)
field_bytes t l h k b = (h, (omega arith, (omega arith, b)))

-- indices below m
named_bytes : (most m : ℕ) (l : List ℕ) → m ≤ 256 → Named most m l → Bytes l
named_bytes most m l h (_, s, _) =
    all_map (λ j. leb m j ≡ false) (λ j. j < 256) l (λ j e. omega (arith, leb-false m j e)) (any_none (λ j. leb m j) l s)

leaves_bytes : (m : ℕ) (ls : List (List ℕ)) → m ≤ 256 → All (Named max_legs m) ls → Bytes (leaf_fields ls)
leaves_bytes m [] h k = tt
leaves_bytes m (l ∷ ls) h k =
    all_append (λ b. b < 256) (field 2 l) (leaf_fields ls)
    (field_bytes 2 l (omega arith) (omega (arith, ltb-false max_legs (length l) k.0.0)) (named_bytes max_legs m l h k.0))
    (leaves_bytes m ls h k.1)

tree_field_bytes : (N : Network) (t : Option (List ℕ)) → leaf_count N ≤ 128 → LawfulTree N t → Bytes (tree_field t)
tree_field_bytes N None h k = tt
tree_field_bytes N (Some kids) h (e, v) =
    field_bytes 4 kids (omega arith) (omega (arith, valid_length (leaf_count N) kids e v)) (tree_bytes (leaf_count N) kids h e v)

ask_field_bytes : (N : Network) (a : Ask) → index_count N ≤ 256 → LawfulAsk N a → Bytes (ask_field a)
ask_field_bytes N plain h k = tt
ask_field_bytes N (flagged l) h (f, b) = field_bytes 5 l (omega arith) (omega arith) (all_map (λ x. x ≤ 1) (λ x. x < 256) l (λ x q. omega arith) b)
ask_field_bytes N (target w) h k = field_bytes 6 (w ∷ []) (omega arith) (omega arith) (k, tt)

pub files_are_bytes : FilesAreBytes
unfolding file_of
files_are_bytes c h =
    let N : Network = c.network in
    let (b, o) = accepted_parts N h.network in
    let m : index_count N ≤ 256 = ltb-false max_indices (index_count N) b.weights.0 in
    let w : Bytes N.weights = all_map (λ x. ltb max_weight x ≡ false) (λ x. x < 256) N.weights (λ x e. omega (arith, ltb-false max_weight x e)) (any_none (λ x. ltb max_weight x) N.weights b.weights.1.0) in
    join (field 1 N.weights) _ (field_bytes 1 N.weights (omega arith) (omega arith) w)
    (join (leaf_fields N.leaves) _ (leaves_bytes (index_count N) N.leaves m b.legs)
    (join (field 3 N.outputs) _ (field_bytes 3 N.outputs (omega arith) (omega (arith, ltb-false max_outputs (length N.outputs) o.0)) (named_bytes max_outputs (index_count N) N.outputs m o))
    (join (tree_field c.tree) (ask_field c.ask) (tree_field_bytes N c.tree b.few h.tree) (ask_field_bytes N c.ask m h.ask))))
  where
    join : (x y : List ℕ) → Bytes x → Bytes y → Bytes (x ++ y)
    join x y = all_append (λ b. b < 256) x y

-- a list whose every place holds a byte
pub all_bytes : (l : List ℕ) → ((k : ℕ) → k < length l → get_or l k 0 < 256) → Bytes l
all_bytes [] h = tt
all_bytes (x ∷ l) h = (h 0 (omega arith), all_bytes l (λ k b. h (suc k) (omega arith)))
