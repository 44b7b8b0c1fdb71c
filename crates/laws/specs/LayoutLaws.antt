-- Networks as lists with counts: what they hold, and that places past the counts are no part of them. Assumes nothing.
use Rattle.std.specs.Prelude.{◌≡◌, refl, List, [], ◌∷◌, map, ◌++◌, ℕ, zero, suc, ◌+◌, ◌*◌, ◌<◌, length, get_or, drop}
use Rattle.std.proofs.Common.{sym, ap, ◌∙◌, zero-add, add-zero, arith, add-one, ext_get_or, get_or-drop}
use Rattle.std.proofs.lemmas.List.{map-append, length-map}
use Rattle.spec.specs.Lists.{from, range}
use Rattle.spec.specs.Network.{Network, legs, max_legs}
use Rattle.spec.specs.Layout.{firsts, row_at, network_of}
use Rattle.spec.specs.BuildingClaims.{Holds, LaidOut, OneNetwork, SameWithinCounts}
use Rattle.laws.specs.ListLaws.{range_length, from_last}

-- ---- a function of each number below n ----

module _ {A : Type 0} (f : ℕ → A) where
  pub from_at : (d : A) (k n i : ℕ) → i < n → get_or (map f (from k n)) i d ≡ f (k + i)
  from_at d k zero i h = absurd (omega arith)
  from_at d k (suc n) zero h = ap f (sym (add-zero k))
  from_at d k (suc n) (suc i) h = from_at d (suc k) n i (omega arith) ∙ ap f (omega arith)

  pub map_range_at : (d : A) (n i : ℕ) → i < n → get_or (map f (range n)) i d ≡ f i
  map_range_at d n i h = from_at d 0 n i h ∙ ap f (zero-add i)

  pub map_range_length : (n : ℕ) → length (map f (range n)) ≡ n
  map_range_length n = length-map (range n) f ∙ range_length 0 n

  -- a list of n that has them at its places
  pub map_range_is : (d : A) (n : ℕ) (l : List A) → length l ≡ n → ((i : ℕ) → i < n → get_or l i d ≡ f i) → l ≡ map f (range n)
  map_range_is d n l e h =
      ext_get_or d l (map f (range n)) (e ∙ sym (map_range_length n)) (λ i b.
      let c : i < n = omega arith in
      h i c ∙ sym (map_range_at d n i c))

  -- one number more
  pub map-range_more : (n : ℕ) → map f (range (n + 1)) ≡ map f (range n) ++ (f n ∷ [])
  map-range_more n =
      ap (λ (k : ℕ). map f (range k)) (add-one n) ∙ ap (map f) (from_last 0 n)
      ∙ map-append f (range n) ((0 + n) ∷ []) ∙ ap (λ (x : ℕ). map f (range n) ++ (f x ∷ [])) (zero-add n)

-- ---- the first n numbers of a list ----

pub firsts_length : (n : ℕ) (l : List ℕ) → length (firsts n l) ≡ n
unfolding firsts
firsts_length n l = map_range_length (λ k. get_or l k 0) n

pub firsts_at : (n : ℕ) (l : List ℕ) (i : ℕ) → i < n → get_or (firsts n l) i 0 ≡ get_or l i 0
unfolding firsts
firsts_at n l i h = map_range_at (λ k. get_or l k 0) 0 n i h

pub firsts_is : (n : ℕ) (l k : List ℕ) → length k ≡ n → ((i : ℕ) → i < n → get_or k i 0 ≡ get_or l i 0) → k ≡ firsts n l
unfolding firsts
firsts_is n l k e h = map_range_is (λ i. get_or l i 0) 0 n k e h

pub firsts_none : (l : List ℕ) → firsts 0 l ≡ []
unfolding firsts
firsts_none l = refl

-- one more
pub firsts_more : (n : ℕ) (l : List ℕ) → firsts (n + 1) l ≡ firsts n l ++ (get_or l n 0 ∷ [])
unfolding firsts
firsts_more n l = map-range_more (λ k. get_or l k 0) n

-- ---- networks ----

pub laid_out : LaidOut
unfolding network_of
laid_out m n o weights counts cells outputs =
    let leaf : (i : ℕ) → i < n → get_or (map (row_at counts cells) (range n)) i [] ≡ row_at counts cells i = map_range_at (row_at counts cells) [] n in
    record {
      indices = firsts_length m weights;
      leaves = map_range_length (row_at counts cells) n;
      output_count = firsts_length o outputs;
      weight = firsts_at m weights;
      leg_count = λ i h. ap length (leaf i h) ∙ firsts_length (get_or counts i 0) (drop (i * max_legs) cells);
      leg = λ i k h b. ap (λ (l : List ℕ). get_or l k 0) (leaf i h)
          ∙ firsts_at (get_or counts i 0) (drop (i * max_legs) cells) k b
          ∙ get_or-drop (i * max_legs) cells k 0;
      output = firsts_at o outputs;
    }

network_same : (N M : Network) → N.leaves ≡ M.leaves → N.outputs ≡ M.outputs → N.weights ≡ M.weights → N ≡ M
network_same N M p q r = λ i. record { leaves = p i; outputs = q i; weights = r i }

pub one_network : OneNetwork
unfolding network_of
one_network m n o weights counts cells outputs N h =
    network_same N (network_of m n o weights counts cells outputs)
    (map_range_is (row_at counts cells) [] n N.leaves h.leaves (λ i b.
    firsts_is (get_or counts i 0) (drop (i * max_legs) cells) (legs N i) (h.leg_count i b)
    (λ k c. h.leg i k b c ∙ sym (get_or-drop (i * max_legs) cells k 0))))
    (firsts_is o outputs N.outputs h.output_count h.output)
    (firsts_is m weights N.weights h.indices h.weight)

pub same_within_counts : SameWithinCounts
same_within_counts m n o weights counts cells outputs weights' counts' cells' outputs' a =
    let N : Network = network_of m n o weights counts cells outputs in
    let h : Holds m n o weights counts cells outputs N = laid_out m n o weights counts cells outputs in
    one_network m n o weights' counts' cells' outputs' N (record {
      indices = h.indices;
      leaves = h.leaves;
      output_count = h.output_count;
      weight = λ j b. h.weight j b ∙ a.weight j b;
      leg_count = λ i b. h.leg_count i b ∙ a.leg_count i b;
      leg = λ i k b c. let d : k < get_or counts i 0 = omega (arith, a.leg_count i b) in h.leg i k b d ∙ a.leg i k b d;
      output = λ k b. h.output k b ∙ a.output k b;
    })
