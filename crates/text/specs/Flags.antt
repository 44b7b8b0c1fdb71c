-- What is printed of a plan depends on the flags of the network's indices only. Assumes nothing.
use Rattle.std.specs.Prelude.{◌≡◌, refl, Bool, true, false, ◌||◌, cond, List, [], ◌∷◌, map, ℕ, ◌+◌, ◌<◌, max, eqb, Option, None, Some}
use Rattle.std.proofs.Common.{sym, ap, ap₂, ◌∙◌, arith}
use Rattle.std.proofs.lemmas.Simd.{map-map}
use Rattle.std.proofs.Math.Decide.{dec_le}
use Rattle.std.proofs.Math.ListN.{get_or-eq_default}
use Rattle.spec.specs.Lists.{memb, range, keep}
use Rattle.spec.specs.Network.{Network, leaf_count, index_count, weight, legs, InRange}
use Rattle.spec.specs.Tree.{Pair, Tree, leaf, node, tree_at, root, inner_of}
use Rattle.spec.specs.Price.{kept, lists_of, list_at, union, bits, children_at, step_at, listing, total, largest, price_of}
use Rattle.spec.specs.Program.{printed}
use Rattle.laws.specs.Booleans.{clash, or_intror}
use Rattle.laws.specs.ListLaws.{memb_head, keep_ext, kept_below}
use Rattle.pricing.specs.Tables.{leaves_are}

map_same : {A : Type 0} (f g : ℕ → A) (l : List ℕ) → ((v : ℕ) → f v ≡ g v) → map f l ≡ map g l
map_same f g [] h = refl
map_same f g (v ∷ l) h = ap₂ (λ x y. x ∷ y) (h v) (map_same f g l h)

module _ (N : Network) (within : InRange N) (f g : ℕ → Bool) (same : (j : ℕ) → j < index_count N → f j ≡ g j) where
  bits_same : (l : List ℕ) → ((j : ℕ) → memb j l ≡ true → j < index_count N) → bits N f l ≡ bits N g l
  bits_same [] h = refl
  bits_same (j ∷ l) h =
      ap₂ (λ (x y : ℕ). x + y) (ap (λ (b : Bool). cond b 0 (weight N j)) (same j (h j (memb_head j l))))
      (bits_same l (λ i e. h i (or_intror (eqb i j) (memb i l) e)))

  legs_low : (i j : ℕ) → memb j (legs N i) ≡ true → j < index_count N
  legs_low i j e =
      elim (dec_le (leaf_count N) i) [
        | yes q ↦ clash e (ap (memb j) (get_or-eq_default N.leaves [] q))
        | no q ↦ within i j (omega arith) e
      ]

  lists_low : (t : Option Tree) (j : ℕ) → memb j (lists_of N t) ≡ true → j < index_count N
  lists_low None j e = clash e refl
  lists_low (Some (leaf i)) j e = legs_low i j e
  lists_low (Some (node v l r)) j e = kept_below (kept N (node v l r)) (index_count N) j e

  step_same : (a : List Pair) (v : ℕ) → step_at N f a v ≡ step_at N g a v
  step_same a v =
      let k : List ℕ = list_at N a (children_at N a v).left in
      let l : List ℕ = list_at N a (children_at N a v).right in
      let w : bits N f (union N k l) ≡ bits N g (union N k l) =
      bits_same (union N k l) (λ j e. kept_below (λ i. memb i k || memb i l) (index_count N) j e) in
      let s : bits N f (list_at N a v) ≡ bits N g (list_at N a v) = bits_same (list_at N a v) (λ j e. lists_low (tree_at (leaf_count N) a v) j e) in
      λ i.
      record {
        made = v;
        left = (children_at N a v).left;
        right = (children_at N a v).right;
        work_bits = w i;
        size_bits = s i;
        list = list_at N a v;
      }

  listing_same : (a : List Pair) → listing N f a ≡ listing N g a
  unfolding listing
  listing_same a = map_same (step_at N f a) (step_at N g a) (inner_of (tree_at (leaf_count N) a (root (leaf_count N) a))) (step_same a)

  leaves_same : map (bits N f) N.leaves ≡ map (bits N g) N.leaves
  leaves_same =
      ap (map (bits N f)) (leaves_are N)
      ∙ map-map (bits N f) (legs N) (range (leaf_count N))
      ∙ map_same (λ i. bits N f (legs N i)) (λ i. bits N g (legs N i)) (range (leaf_count N)) (λ i. bits_same (legs N i) (legs_low i))
      ∙ sym (ap (map (bits N g)) (leaves_are N) ∙ map-map (bits N g) (legs N) (range (leaf_count N)))

  slices_same : keep f (range (index_count N)) ≡ keep g (range (index_count N))
  slices_same = keep_ext f g (index_count N) same

  prices_same : (a : List Pair) → price_of N f a ≡ price_of N g a
  prices_same a =
      λ i.
      record {
        total = total (listing_same a i);
        widest = cond (eqb (leaf_count N) 0) None
            (Some (max (largest (leaves_same i)) (largest (map (λ c. c.size_bits) (listing_same a i)))));
        slice_bits = bits N (λ j. false) (slices_same i);
      }

  -- the same tree and counts with the flags f, and with g
  pub printed_same : (a : List Pair) (rebuilt tried : ℕ)
      → printed N (record { tree = a; flag = f; rebuilt = rebuilt; tried = tried }) ≡ printed N (record { tree = a; flag = g; rebuilt = rebuilt; tried = tried })
  printed_same a rebuilt tried =
      λ i.
      record {
        leaves = leaf_count N;
        indices = index_count N;
        steps = listing_same a i;
        total = (prices_same a i).total;
        widest = (prices_same a i).widest;
        slices = slices_same i;
        bits = (prices_same a i).slice_bits;
        improved = rebuilt;
        splits = tried;
      }
