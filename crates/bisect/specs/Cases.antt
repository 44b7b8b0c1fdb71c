-- Bisection of some leaves by cases of the definition; what code answers. Assumes nothing.
use Rattle.std.specs.Prelude.{Bool, true, false, ◌||◌, ◌≡◌, List, [], ◌∷◌, eqb, Float, Result, Err, Ok}
use Rattle.std.proofs.Math.Bool.{cond}
use Rattle.std.proofs.Math.Path.{refl, sym, ap}
use Rattle.std.proofs.Common.{◌∙◌, le-leb, ne_eqb}
use Prim.Native.Nat.{ℕ, zero, suc, ◌+◌, ◌-◌, ◌≤◌, ◌<◌, max}
use native.Mathlib.Omega.{arith}
use Rattle.std.proofs.Math.ListN.{length}
use Rattle.spec.specs.declared.Refusal.{Refusal}
use Rattle.spec.specs.declared.Refusal.TheVariants.{TableTooWide, DrawsExhausted}
use Rattle.std.proofs.lemmas.Bool.{lt-leb}
use Rattle.spec.specs.Memory.{over}
use Rattle.spec.specs.Network.{Network}
use Rattle.spec.specs.Calls.{touches}
use Rattle.spec.specs.Tree.{Tree, number, Pair, flat_of}
use Rattle.spec.specs.Greedy.{Built, leaves_of, greedy_from}
use Rattle.spec.specs.Hypergraph.{hypergraph_of}
use Rattle.spec.specs.Draws.{Words, drawn}
use Rattle.spec.specs.Bisection.{Halved, left_half, right_half, small_end, join_halves, halves, split, bisect, bisect_rec}
use Rattle.laws.specs.BisectionHalves.{halves_length, fuel_enough}
use Rattle.laws.specs.Booleans.{clash}
use Rattle.merging.specs.Merge.{with_node}
use Rattle.greedynodes.specs.Ends.{Planned, is_too_wide, is_planned}

-- bisection of some leaves, with fuel enough
unfoldable pub halved : Network → Float → ℕ → List ℕ → List Pair → Words → Result Halved Refusal
halved N eps cutoff leaves a ws = bisect_rec N eps cutoff (length leaves) leaves a ws

-- ---- the definition, case by case ----

module _ (N : Network) (eps : Float) (cutoff : ℕ) where
  pub halved_small : (leaves : List ℕ) (a : List Pair) (ws : Words) → length leaves ≤ max cutoff 2 → halved N eps cutoff leaves a ws ≡ small_end N eps cutoff leaves a ws
  unfolding halved
  halved_small leaves a ws h = go (length leaves)
    where
      go : (k : ℕ) → bisect_rec N eps cutoff k leaves a ws ≡ small_end N eps cutoff leaves a ws
      go zero = refl
      go (suc k) = rw (le-leb (length leaves) (max cutoff 2) h)

  -- above the cutoff the partition decides, whatever fuel is left for the halves
  module _ (leaves : List ℕ) (a : List Pair) (ws : Words) (h : max cutoff 2 < length leaves) (part : List ℕ) (next : Words)
      (ep : bisect (hypergraph_of N leaves) eps ws ≡ drawn part next)
    where
      abbrev parts : ℕ → Result Halved Refusal
      parts k = split N eps cutoff (λ l b w. bisect_rec N eps cutoff k l b w) leaves a (drawn part next)

      pub halved_parts : halved N eps cutoff leaves a ws ≡ parts (length leaves - 1)
      unfolding halved
      halved_parts = ap (λ (k : ℕ). bisect_rec N eps cutoff k leaves a ws) (let z : length leaves ≡ suc (length leaves - 1) = omega arith in z) ∙ go (length leaves - 1)
        where
          go : (k : ℕ) → bisect_rec N eps cutoff (suc k) leaves a ws ≡ parts k
          go k =
              ap (λ (b : Bool). cond b (small_end N eps cutoff leaves a ws) (split N eps cutoff (λ l c w. bisect_rec N eps cutoff k l c w) leaves a (bisect (hypergraph_of N leaves) eps ws)))
              (lt-leb (length leaves) (max cutoff 2) h)
              ∙ ap (split N eps cutoff (λ l c w. bisect_rec N eps cutoff k l c w) leaves a) ep

      pub halved_exhausted : next.exhausted ≡ true → halved N eps cutoff leaves a ws ≡ Err DrawsExhausted
      halved_exhausted s = halved_parts ∙ rw s

      pub halved_whole : next.exhausted ≡ false → (eqb (length (left_half part leaves)) 0 || eqb (length (right_half part leaves)) 0) ≡ true
          → halved N eps cutoff leaves a ws ≡ small_end N eps cutoff leaves a next
      halved_whole s q = halved_parts ∙ rw (s, q)

      module _ (s : next.exhausted ≡ false) (hl : 0 < length (left_half part leaves)) (hr : length (left_half part leaves) < length leaves) where
        abbrev f : ℕ
        f = length leaves - 1

        both : halved N eps cutoff leaves a ws ≡ halves N eps cutoff (λ l b w. bisect_rec N eps cutoff f l b w) (left_half part leaves) (right_half part leaves) a next
        both =
            halved_parts ∙ rw (s, ne_eqb (length (left_half part leaves)) 0 (λ z. omega (arith, z)), ne_eqb (length (right_half part leaves)) 0 (λ z. omega (arith, z, halves_length part leaves)))

        left_fuel : bisect_rec N eps cutoff f (left_half part leaves) a next ≡ halved N eps cutoff (left_half part leaves) a next
        unfolding halved
        left_fuel = fuel_enough N eps cutoff f (left_half part leaves) a next (omega arith)

        pub left_refused : (r : Refusal) → halved N eps cutoff (left_half part leaves) a next ≡ Err r → halved N eps cutoff leaves a ws ≡ Err r
        left_refused r q = both ∙ rw (left_fuel ∙ q)

        module _ (x : Halved) (qx : halved N eps cutoff (left_half part leaves) a next ≡ Ok x) where
          right_fuel : bisect_rec N eps cutoff f (right_half part leaves) x.built.pairs x.words ≡ halved N eps cutoff (right_half part leaves) x.built.pairs x.words
          unfolding halved
          right_fuel = fuel_enough N eps cutoff f (right_half part leaves) x.built.pairs x.words (omega (arith, halves_length part leaves))

          pub right_refused : (r : Refusal) → halved N eps cutoff (right_half part leaves) x.built.pairs x.words ≡ Err r → halved N eps cutoff leaves a ws ≡ Err r
          right_refused r q = both ∙ rw (left_fuel ∙ qx) (rw (right_fuel ∙ q))

          pub both_done : (y : Halved) → halved N eps cutoff (right_half part leaves) x.built.pairs x.words ≡ Ok y → halved N eps cutoff leaves a ws ≡ Ok (join_halves N eps cutoff x y)
          both_done y q = both ∙ rw (left_fuel ∙ qx) (rw (right_fuel ∙ q))

-- ---- what code answers ----

-- greedy over a small end: 12, or the number of the tree that is built
pub data Small (N : Network) (a : List Pair) (leaves kids₀ kids : List ℕ) (answer : Result ℕ Refusal) : Type 0 where
  small_wide : answer ≡ Err TableTooWide → greedy_from N a (leaves_of leaves) ≡ Err TableTooWide → Small N a leaves kids₀ kids answer
  small_built : (top : ℕ) → answer ≡ Ok top → top < 65536 → (b : Built) → greedy_from N a (leaves_of leaves) ≡ Ok b → kids ≡ over kids₀ (flat_of b.pairs)
      → length b.pairs ≡ length a + (length leaves - 1) → (0 < length leaves → (t : Tree) × (b.tops ≡ t ∷ []) × (top ≡ number t)) → Small N a leaves kids₀ kids answer

-- what greedy answers says it
pub small_is : {N : Network} {a : List Pair} {leaves kids₀ kids : List ℕ} {r : Result ℕ Refusal} → Planned N a leaves kids₀ kids r → Small N a leaves kids₀ kids r
small_is (is_too_wide z q) = small_wide z q
small_is (is_planned top z l b q w k t) = small_built top z l b q w k t

-- a refusal, after which the stated words are cleared, or the number of the tree that is built, whose array stands at the front of `kids`; and the words after it
pub data Halves (N : Network) (eps : Float) (cutoff : ℕ) (a : List Pair) (leaves : List ℕ) (at : Words) (kids₀ kids : List ℕ) (answer : Result ℕ Refusal) (next : Words) : Type 0 where
  is_off : (r : Refusal) → touches r ≡ true → answer ≡ Err r → halved N eps cutoff leaves a at ≡ Err r → Halves N eps cutoff a leaves at kids₀ kids answer next
  is_tree : (top : ℕ) → answer ≡ Ok top → top < 65536 → (b : Built) → halved N eps cutoff leaves a at ≡ Ok (record { built = b; words = next })
      → kids ≡ over kids₀ (flat_of b.pairs) → length b.pairs ≡ length a + (length leaves - 1)
      → (0 < length leaves → (t : Tree) × (b.tops ≡ t ∷ []) × (top ≡ number t)) → Halves N eps cutoff a leaves at kids₀ kids answer next

-- leaves that are not halved: 13, or greedy's answer
pub data Unsplit (N : Network) (a : List Pair) (leaves : List ℕ) (at : Words) (kids₀ kids : List ℕ) (answer : Result ℕ Refusal) : Type 0 where
  is_dry : answer ≡ Err DrawsExhausted → at.exhausted ≡ true → Unsplit N a leaves at kids₀ kids answer
  is_greedy : at.exhausted ≡ false → Small N a leaves kids₀ kids answer → Unsplit N a leaves at kids₀ kids answer

-- a node over two tops, unless the right half is refused
pub data Joins (n : ℕ) (kids₀ kids : List ℕ) (count left : ℕ) (right answer : Result ℕ Refusal) : Type 0 where
  is_right : (r : Refusal) → right ≡ Err r → answer ≡ Err r → Joins n kids₀ kids count left right answer
  is_node : (top : ℕ) → right ≡ Ok top → top < 65536 → answer ≡ Ok (n + count) → kids ≡ with_node kids₀ count left top → Joins n kids₀ kids count left right answer

-- ---- an answer is one of the two ----

is_ok : Result ℕ Refusal → Bool
is_ok (Ok x) = true
is_ok (Err r) = false

pub ok_or_err {ℓ} : {P : Type ℓ} {o : Result ℕ Refusal} {x : ℕ} {r : Refusal} → o ≡ Ok x → o ≡ Err r → P
unfolding is_ok
ok_or_err e f = clash (ap is_ok e) (ap is_ok f)

top_in : Result ℕ Refusal → ℕ
top_in (Ok x) = x
top_in (Err r) = 0

pub same_top : {o : Result ℕ Refusal} {x y : ℕ} → o ≡ Ok x → o ≡ Ok y → x ≡ y
unfolding top_in
same_top e f = sym (ap top_in e) ∙ ap top_in f

err_in : Result ℕ Refusal → Refusal
err_in (Ok x) = TableTooWide
err_in (Err r) = r

pub same_err : {o : Result ℕ Refusal} {r s : Refusal} → o ≡ Err r → o ≡ Err s → r ≡ s
unfolding err_in
same_err e f = sym (ap err_in e) ∙ ap err_in f
