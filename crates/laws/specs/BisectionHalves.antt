-- LAW B2: halves shrink, and so the number of leaves is fuel enough for bisection. Assumes nothing.
use Rattle.std.specs.Prelude.{◌≡◌, refl, Bool, not, ◌||◌, cond, List, [], ◌∷◌, ℕ, zero, suc, ◌+◌, ◌<◌, ◌≤◌, max, eqb, leb, Float, length, Result, Err, Ok}
use Rattle.std.proofs.Common.{ap, ◌∙◌, arith, le-leb}
use Rattle.std.proofs.lemmas.Bool.{eqb-false}
use Rattle.spec.specs.Lists.{count}
use Rattle.spec.specs.Members.{All}
use Rattle.spec.specs.Network.{Network}
use Rattle.spec.specs.Tree.{Pair}
use Rattle.spec.specs.Refusal.{and_then}
use Rattle.spec.specs.declared.Refusal.TheVariants.{DrawsExhausted}
use Rattle.spec.specs.declared.Refusal.{Refusal}
use Rattle.spec.specs.Draws.{Words, Drawn}
use Rattle.spec.specs.Hypergraph.{side_of, hypergraph_of}
use Rattle.spec.specs.Bisection.{Halved, members_at, left_half, right_half, small_end, join_halves, halves, split, bisect, bisect_rec}
use Rattle.spec.specs.BisectionClaims.{HalvesShrink, FuelEnough}
use Rattle.laws.specs.Booleans.{by_cases, or_none}
use Rattle.laws.specs.Results.{then_same}

-- ---- the members that pass a test, and the others ----

pub members_count : (p : ℕ → Bool) (j k : ℕ) (l : List ℕ) → count j (members_at p k l) + count j (members_at (λ v. not (p v)) k l) ≡ count j l
members_count p j k [] = refl
members_count p j k (x ∷ l) =
    by_cases (p k)
    (λ e. rw e (by_cases (eqb j x) (λ q. rw q (omega (arith, members_count p j (suc k) l))) (λ q. rw q (members_count p j (suc k) l))))
    (λ e. rw e (by_cases (eqb j x) (λ q. rw q (omega (arith, members_count p j (suc k) l))) (λ q. rw q (members_count p j (suc k) l))))

pub members_length : (p : ℕ → Bool) (k : ℕ) (l : List ℕ) → length (members_at p k l) + length (members_at (λ v. not (p v)) k l) ≡ length l
members_length p k [] = refl
members_length p k (x ∷ l) =
    by_cases (p k)
    (λ e. rw e (omega (arith, members_length p (suc k) l)))
    (λ e. rw e (omega (arith, members_length p (suc k) l)))

pub members_all : (P : ℕ → Type 0) (p : ℕ → Bool) (k : ℕ) (l : List ℕ) → All P l → All P (members_at p k l)
members_all P p k [] h = tt
members_all P p k (x ∷ l) h =
    by_cases (p k)
    (λ e. rw e (h.0, members_all P p (suc k) l h.1))
    (λ e. rw e (members_all P p (suc k) l h.1))

abbrev pub on_zero : List ℕ → ℕ → Bool
on_zero part v = eqb (side_of part v) 0

pub halves_length : (part leaves : List ℕ) → length (left_half part leaves) + length (right_half part leaves) ≡ length leaves
halves_length part leaves = members_length (on_zero part) 0 leaves

-- LAW B2
pub halves_shrink : HalvesShrink
halves_shrink part leaves l r =
    let z : length (left_half part leaves) ≡ 0 → ⊥ = eqb-false _ 0 l in
    let w : length (right_half part leaves) ≡ 0 → ⊥ = eqb-false _ 0 r in
    record {
      left = omega (arith, z, w, halves_length part leaves);
      right = omega (arith, z, w, halves_length part leaves);
      members = λ j. members_count (on_zero part) j 0 leaves;
    }

-- ---- fuel ----

module _ (N : Network) (eps : Float) (cutoff : ℕ) where
  abbrev Go : Type 0
  Go = List ℕ → List Pair → Words → Result Halved Refusal

  halves_same : (f g : Go) (left right : List ℕ) (a : List Pair) (ws : Words)
      → ((b : List Pair) (w : Words) → f left b w ≡ g left b w) → ((b : List Pair) (w : Words) → f right b w ≡ g right b w)
      → halves N eps cutoff f left right a ws ≡ halves N eps cutoff g left right a ws
  halves_same f g left right a ws p q =
      ap (λ r. and_then r (λ x. and_then (f right x.built.pairs x.words) (λ y. Ok (join_halves N eps cutoff x y)))) (p a ws)
      ∙ then_same (g left a ws) _ _ (λ x. ap (λ r. and_then r (λ y. Ok (join_halves N eps cutoff x y))) (q x.built.pairs x.words))

  split_same : (f g : Go) (leaves : List ℕ) (a : List Pair) (d : Drawn (List ℕ))
      → ((l : List ℕ) → length l < length leaves → (b : List Pair) (w : Words) → f l b w ≡ g l b w)
      → split N eps cutoff f leaves a d ≡ split N eps cutoff g leaves a d
  split_same f g leaves a d h =
      ap (λ answer. cond d.words.exhausted (Err DrawsExhausted) answer)
      (by_cases (eqb (length (left_half d.value leaves)) 0 || eqb (length (right_half d.value leaves)) 0)
      (λ q. rw q)
      (λ q. rw q
      (let (l, r) = or_none _ _ q in
      let s = halves_shrink d.value leaves l r in
      halves_same f g (left_half d.value leaves) (right_half d.value leaves) a d.words (h _ s.left) (h _ s.right))))

  two_fuels : (k m : ℕ) (leaves : List ℕ) (a : List Pair) (ws : Words) → length leaves ≤ k → length leaves ≤ m
      → bisect_rec N eps cutoff k leaves a ws ≡ bisect_rec N eps cutoff m leaves a ws
  two_fuels zero zero leaves a ws h i = refl
  two_fuels zero (suc m) leaves a ws h i = rw (le-leb (length leaves) (max cutoff 2) (omega arith))
  two_fuels (suc k) zero leaves a ws h i = rw (le-leb (length leaves) (max cutoff 2) (omega arith))
  two_fuels (suc k) (suc m) leaves a ws h i =
      ap (λ parts. cond (leb (length leaves) (max cutoff 2)) (small_end N eps cutoff leaves a ws) parts)
      (split_same (λ l b w. bisect_rec N eps cutoff k l b w) (λ l b w. bisect_rec N eps cutoff m l b w) leaves a (bisect (hypergraph_of N leaves) eps ws)
      (λ l q b w. two_fuels k m l b w (omega arith) (omega arith)))

pub fuel_enough : FuelEnough
fuel_enough N eps cutoff fuel leaves a ws h = two_fuels N eps cutoff fuel (length leaves) leaves a ws h (omega arith)
