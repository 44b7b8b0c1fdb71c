-- The lent lists at greedy's start hold the state that the definition starts from. Assumes nothing.
use Rattle.std.specs.Prelude.{Bool, true, ◌||◌, ◌≡◌, refl, ℕ, zero, suc, ◌+◌, ◌*◌, ◌≤◌, ◌<◌, eqb, ltb}
use Rattle.std.proofs.Math.Path.{sym, ap, ap₂, subst}
use Rattle.std.proofs.Common.{◌∙◌, arith, le-ltb, ltb-false}
use mathlib.Core.List.{List, [], ◌∷◌}
use Rattle.std.proofs.Math.ListN.{length, get_or}
use Rattle.std.proofs.lemmas.List.{length-map}
use Rattle.spec.specs.Lists.{memb, count, from, range}
use Rattle.spec.specs.Members.{All}
use Rattle.spec.specs.Memory.{over}
use Rattle.spec.specs.Network.{Network, leaf_count, index_count}
use Rattle.spec.specs.NetworkClaims.{Accepted}
use Rattle.spec.specs.Tree.{Tree, leaf, Pair, flat_of, Describes}
use Rattle.spec.specs.Price.{lists}
use Rattle.spec.specs.Greedy.{Live, size_of, trees, slots, start_of, leaves_of}
use Rattle.laws.specs.Booleans.{by_cases, clash, or_intror}
use Rattle.laws.specs.ListLaws.{memb_head, memb_one, memb-range, from_memb, count_not_memb, range_length, memb_at}
use Rattle.laws.specs.GreedyForest.{Forest, Topped, fresh, leaves_count, leaves_flat}
use Rattle.laws.specs.GreedyMerging.{Sound, trees-slots, start_sound}
use Rattle.slots.specs.Slots.{held, with_set_length, held_with, next_slot}
use Rattle.slots.specs.Writes.{among, memb-firsts}
use Rattle.slots.specs.Weigh.{weighed, either}
use Rattle.network.specs.Layouts.{firsts_all}
use Rattle.rows.specs.Renewed.{Kept, stale}
use Rattle.merging.specs.Listed.{listed, state_at}
use Rattle.merging.specs.Ruled.{outer}
use Rattle.tables.specs.Lists.{lists_of}
use Rattle.merging.specs.Holds.{Given, Ghost}
use Rattle.merging.specs.Connect.{Start}
use Rattle.start.specs.Leaves.{start_words, with_leaves, leaves_length, leaves_held, leaves_other, with_inside, outside_set, with_outside, with_sizes, put_length, put_at}
use Rattle.greedynodes.specs.Lends.{Lends, leaf_size, others-named}

-- ---- lists ----

pub range_at : (k n i : ℕ) → i < n → get_or (from k n) i 0 ≡ k + i
range_at k zero i h = absurd (omega arith)
range_at k (suc n) zero h = omega arith
range_at k (suc n) (suc i) h = range_at (suc k) n i (omega arith) ∙ omega arith

-- the start's tables in their slots
listed-slots : (l : List ℕ) (k : ℕ) (tree : ℕ → Tree) → ((i : ℕ) → i < length l → tree (k + i) ≡ leaf (get_or l i 0)) → listed tree (from k (length l)) ≡ slots k (leaves_of l)
listed-slots [] k tree h = refl
listed-slots (v ∷ l) k tree h =
    ap₂ (λ (t : Tree) (x : List Live). record { slot = k; tree = t } ∷ x)
    (ap tree (let e : k ≡ k + 0 = omega arith in e) ∙ h 0 (omega arith))
    (listed-slots l (suc k) tree (λ i b. ap tree (let e : suc k + i ≡ k + suc i = omega arith in e) ∙ h (suc i) (omega arith)))

trees_of : (l : List ℕ) (k : ℕ) → trees (slots k (leaves_of l)) ≡ leaves_of l
trees_of l k = trees-slots k (leaves_of l)

-- ---- the forest of leaves, over any array ----

leaves_each : (n : ℕ) (a : List Pair) (l : List ℕ) → ((v : ℕ) → memb v l ≡ true → v < n) → All (λ t. Describes n a t × Topped t) (leaves_of l)
leaves_each n a [] h = tt
leaves_each n a (i ∷ l) h = (
  (h i (memb_head i l), λ v m. omega (arith, memb_one v i m)),
  leaves_each n a l (λ v m. h v (or_intror (eqb v i) (memb v l) m)),
)

none_fresh : (lo hi v : ℕ) → hi ≤ lo → fresh lo hi v ≡ 0
none_fresh lo hi v h = by_cases (ltb v lo) (λ e. rw e) (λ e. rw (e, le-ltb v hi (omega (arith, ltb-false v lo e))))

leaves_forest : (n : ℕ) (a : List Pair) (l : List ℕ) → ((v : ℕ) → memb v l ≡ true → v < n)
    → Forest n (λ v. count v l) (n + length a) (length a + length l) a (leaves_of l)
leaves_forest n a l low =
    record {
      free = λ v h. count_not_memb v l (by_cases (memb v l) (λ e. absurd (omega (arith, low v e))) (λ e. e));
      amount = ap (λ (k : ℕ). length a + k) (length-map l (λ i. leaf i));
      each = leaves_each n a l low;
      high = omega arith;
      counts = λ v. omega (arith, leaves_count v l, none_fresh (n + length a) (n + length a) v (omega arith));
      deep = omega (arith, leaves_flat l);
    }

-- ---- the start ----

-- what is asked of the lengths, for sets of W words
pub record Fits (W n made : ℕ) (weights outputs leaves lent : List ℕ) : Type 0 where
  pub indices : length weights ≤ W * 64
  pub leaf_sets : n ≤ W * 64
  pub few : length leaves ≤ 128
  pub outputs_fit : length outputs ≤ 4294967296
  pub words : 258 * W + W ≤ length lent
  pub array : made < 8192

-- in sets of some width
abbrev pub Room : (n made : ℕ) (weights outputs leaves lent : List ℕ) → Type 0
Room n made weights outputs leaves lent = (W : ℕ) × (W ≤ 16) × Fits W n made weights outputs leaves lent

-- no more leaves, as many words, another array
pub fits_again : {W n made made' : ℕ} {weights outputs leaves leaves' lent lent' : List ℕ} → Fits W n made weights outputs leaves lent
    → length leaves' ≤ length leaves → length lent' ≡ length lent → made' < 8192 → Fits W n made' weights outputs leaves' lent'
fits_again {W} f h e b =
    record {
      indices = f.indices;
      leaf_sets = f.leaf_sets;
      few = omega (arith, f.few);
      outputs_fit = f.outputs_fit;
      words = subst (λ (k : ℕ). 258 * W + W ≤ k) (sym e) f.words;
      array = b;
    }

-- what fits in sets of fewer words fits in wider ones that have room
pub fits_wider : {W V n made : ℕ} {weights outputs leaves lent : List ℕ} → W ≤ V → 258 * V + V ≤ length lent
    → Fits W n made weights outputs leaves lent → Fits V n made weights outputs leaves lent
fits_wider h b f =
    record {
      indices = omega (arith, f.indices);
      leaf_sets = omega (arith, f.leaf_sets);
      few = f.few;
      outputs_fit = f.outputs_fit;
      words = b;
      array = f.array;
    }

-- and in narrower ones that hold the indices and the leaves
pub fits_narrower : {W V n made : ℕ} {weights outputs leaves lent : List ℕ} → W ≤ V → length weights ≤ W * 64 → n ≤ W * 64
    → Fits V n made weights outputs leaves lent → Fits W n made weights outputs leaves lent
fits_narrower h b k f =
    record {
      indices = b;
      leaf_sets = k;
      few = f.few;
      outputs_fit = f.outputs_fit;
      words = omega (arith, f.words);
      array = f.array;
    }

-- what greedy over a list of leaves is given: the leaves are some of the network's, each once; the array so far has `made` nodes
pub record Asks (N : Network) (a : List Pair) (n made : ℕ) (weights counts legs outputs leaves kids : List ℕ) : Type 0 where
  pub lends : Lends N n weights counts legs outputs
  pub accepted : Accepted N
  pub leaf : (v : ℕ) → memb v leaves ≡ true → v < n
  pub once : (v : ℕ) → count v leaves ≤ 1
  pub array : made ≡ length a
  pub written : kids ≡ over kids (flat_of a)

module _ (N : Network) (a : List Pair) (W n made : ℕ) (weights counts cells outputs leaves kids : List ℕ)
    (asks : Asks N a n made weights counts cells outputs leaves kids) (fits : length weights ≤ W * 64) (few_leaves : n ≤ W * 64)
    (few : length leaves ≤ 128) (ws₀ : List ℕ) (room : 258 * W + W ≤ length ws₀)
  where
    abbrev tables : ℕ
    tables = length leaves

    pub index_fits : index_count N ≤ W * 64
    index_fits = omega (arith, fits, ap length asks.lends.weighed)

    abbrev pub given : Given
    given =
        record {
          net = N;
          in_range = asks.accepted.in_range;
          width = W;
          fits = index_fits;
          start = tables;
          base = λ v. count v leaves;
          lo = leaf_count N + length a;
          all = length a + tables;
          single = asks.once;
        }

    abbrev pub tree : ℕ → Tree
    tree u = leaf (get_or leaves u 0)

    abbrev pub ghost : Ghost
    ghost = record { array = a; tree = tree; slots = range tables; next = tables }

    -- the definition's start
    pub state_is : state_at a tree (range tables) tables ≡ start_of a (leaves_of leaves)
    state_is =
        let p : listed tree (range tables) ≡ slots 0 (leaves_of leaves) = listed-slots leaves 0 tree (λ i h. ap tree (omega arith)) in
        let q : tables ≡ length (leaves_of leaves) = sym (length-map leaves (λ i. leaf i)) in
        λ i. record { pairs = a; live = p i; next = q i }

    leaf_low : (u : ℕ) → u < tables → get_or leaves u 0 < n
    leaf_low u h = asks.leaf (get_or leaves u 0) (memb_at leaves u h)

    -- the sets
    abbrev words₁ : List ℕ
    words₁ = with_outside W counts cells leaves ws₀ outputs n

    abbrev pub words₂ : List ℕ
    words₂ = with_leaves W counts cells leaves words₁ tables

    long₁ : length words₁ ≡ length ws₀
    unfolding with_outside
    long₁ =
        with_set_length (with_inside W leaves ws₀) W 256 (outside_set W counts cells (with_inside W leaves ws₀) outputs n)
        ∙ with_set_length ws₀ W 257 (among leaves 0 (length leaves))

    sets : (u : ℕ) → u < tables → (j : ℕ) → j < W * 64 → held words₂ W u j ≡ memb j (lists N (tree u))
    sets u h j b =
        leaves_held W counts cells leaves words₁ tables u j h (omega (arith, long₁, room, next_slot u 258 W (omega (arith, few)))) b
        ∙ asks.lends.legs_are (get_or leaves u 0) j (leaf_low u h)

    outside : (j : ℕ) → j < W * 64 → held words₂ W 256 j ≡ outer N (trees (listed tree (range tables))) j
    unfolding with_outside
    outside j b =
        leaves_other W counts cells leaves words₁ tables 256 j (omega (arith, few)) b
        ∙ held_with (with_inside W leaves ws₀) W 256 (outside_set W counts cells (with_inside W leaves ws₀) outputs n) j
        (omega (arith, room, with_set_length ws₀ W 257 (among leaves 0 (length leaves)))) b
        ∙ ap₂ (λ (x y : Bool). x || y) (asks.lends.outputs_are j)
        (others-named N n weights counts cells outputs leaves asks.lends (held (with_inside W leaves ws₀) W 257) inside j)
        ∙ ap (λ (ts : List Tree). outer N ts j) (sym (ap trees (listed-slots leaves 0 tree (λ i h. ap tree (omega arith))) ∙ trees_of leaves 0))
      where
        inside : (i : ℕ) → i < n → held (with_inside W leaves ws₀) W 257 i ≡ memb i leaves
        inside i h =
            held_with ws₀ W 257 (among leaves 0 (length leaves)) i (omega (arith, room)) (omega (arith, few_leaves))
            ∙ sym (memb-firsts leaves 0 (length leaves) i) ∙ ap (memb i) (firsts_all leaves)

    -- the size bits
    module _ (sizes₀ sizes : List ℕ) (bs : 256 ≤ length sizes₀) (es : sizes ≡ with_sizes words₂ W weights sizes₀ tables) where
      pub size : (u : ℕ) → u < tables → get_or sizes u 0 ≡ size_of N (tree u)
      unfolding with_sizes
      size u h =
          ap (λ (l : List ℕ). get_or l u 0) es
          ∙ put_at (λ i. weighed weights [] (either words₂ W i i) (W * 64)) sizes₀ tables u h (omega (arith, bs, few))
          ∙ ap (λ (l : List ℕ). weighed l [] (either words₂ W u u) (W * 64)) asks.lends.weighed
          ∙ leaf_size N asks.accepted words₂ W u (get_or leaves u 0) index_fits (omega (arith, leaf_low u h, asks.lends.leaves)) (sets u h)

      pub sizes_long : 256 ≤ length sizes
      unfolding with_sizes
      sizes_long = omega (arith, bs, ap length es, put_length (λ i. weighed weights [] (either words₂ W i i) (W * 64)) sizes₀ tables)

    -- no table has its least pair yet
    pub kept : (rows : List ℕ) → 256 ≤ length rows → ((u : ℕ) → u < 256 → get_or rows u 0 ≡ 258) → Kept N tables tree (range tables) tables rows
    kept rows br all_stale =
        record {
          found = λ u m. stale (all_stale u (omega (arith, from_memb u 0 tables m, few)));
          gone = λ u h m. clash (memb-range u tables h) m;
          room = omega (arith, br, few);
        }

    pub begins : (sizes₀ : List ℕ) → 256 ≤ length sizes₀ → (nodes sizes live rows : List ℕ) → 256 ≤ length nodes
        → ((u : ℕ) → u < tables → get_or nodes u 0 ≡ get_or leaves u 0)
        → sizes ≡ with_sizes words₂ W weights sizes₀ tables → live ≡ range tables → 256 ≤ length rows → ((u : ℕ) → u < 256 → get_or rows u 0 ≡ 258)
        → Start given ghost (lists_of words₂ nodes sizes live rows) W n tables made weights kids
    begins sizes₀ bs nodes sizes live rows bn en es el br all_stale =
        record {
          holds =
              record {
                sound = subst (Sound N (λ v. count v leaves) (leaf_count N + length a) (length a + tables)) (sym state_is)
                    (start_sound N (λ v. count v leaves) (leaf_count N + length a) (length a + tables) a (leaves_of leaves)
                    (leaves_forest (leaf_count N) a leaves (λ v m. omega (arith, asks.leaf v m, asks.lends.leaves))));
                sets = sets;
                size = size sizes₀ sizes bs es;
                numbers = en;
                outside = outside;
                kept = kept rows br all_stale;
                lived = el;
                few = omega (arith, range_length 0 tables, few);
                enough = omega (arith, room, long₁, leaves_length W counts cells leaves words₁ tables);
                places = (bn, sizes_long sizes₀ sizes bs es, br);
              };
          width = refl;
          leaves = asks.lends.leaves;
          tables = refl;
          weighed = asks.lends.weighed;
          slots = range_length 0 tables;
          next = refl;
          made = asks.array;
          written = asks.written;
        }

    -- the lists that the code prepares
    pub prepared : (sizes₀ : List ℕ) → 256 ≤ length sizes₀
        → (words nodes sizes live rows : List ℕ) → words ≡ start_words W n counts cells outputs leaves ws₀ → 256 ≤ length nodes
        → ((u : ℕ) → u < tables → get_or nodes u 0 ≡ get_or leaves u 0)
        → sizes ≡ with_sizes words W weights sizes₀ tables → live ≡ range tables → 256 ≤ length rows → ((u : ℕ) → u < 256 → get_or rows u 0 ≡ 258)
        → Start given ghost (lists_of words nodes sizes live rows) W n tables made weights kids
    unfolding start_words
    prepared sizes₀ bs words nodes sizes live rows ew bn en es el br stale_all =
        subst (λ (l : List ℕ). Start given ghost (lists_of l nodes sizes live rows) W n tables made weights kids) (sym ew)
        (begins sizes₀ bs nodes sizes live rows bn en (es ∙ ap (λ (l : List ℕ). with_sizes l W weights sizes₀ tables) ew) el br stale_all)
