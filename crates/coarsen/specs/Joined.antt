-- The coarse vertex of each vertex, and the weights of the coarse vertices. Assumes nothing.
use Rattle.std.specs.Prelude.{Bool, true, false, cond, ◌≡◌, List, [], ◌∷◌, ◌++◌, map, eqb, leb, Float, length, get_or, set, take}
use Rattle.std.proofs.Math.Path.{refl}
use Rattle.std.proofs.Common.{sym, ap, ◌∙◌, append-nil, arith, add-one, zero-add, length-set, length-append, get_or-set_same, get_or-set_other, take-suc-set, le-leb, leb-true, leb-false, eq-eqb, ne_eqb}
use Rattle.std.proofs.lemmas.List.{map-append}
use Prim.Native.Nat.{ℕ, zero, suc, ◌+◌, ◌-◌, ◌≤◌, ◌<◌, min}
use Rattle.std.proofs.Math.Decide.{ℕ_discrete}
use Rattle.std.specs.Float.{binary64}
use Rattle.std.specs.Float.Ieee.{add}
use Rattle.std.proofs.lemmas.Bool.{lt-leb}
use Rattle.spec.specs.Lists.{keep, from, range}
use Rattle.spec.specs.Floats.{zero_float}
use Rattle.laws.specs.Booleans.{by_cases}
use Rattle.cells.specs.Loop.{turns, turns_invariant}
use Rattle.slots.specs.Rising.{keep-add}
use Rattle.coarsen.specs.Pairs.{Paired}

-- ---- lists ----

keep_more : (p : ℕ → Bool) (k : ℕ) → keep p (range (suc k)) ≡ keep p (range k) ++ keep p (k ∷ [])
keep_more p k =
    ap (λ (n : ℕ). keep p (range n)) (sym (add-one k)) ∙ keep-add p 0 k 1 ∙ ap (λ (x : ℕ). keep p (range k) ++ keep p (x ∷ [])) (zero-add k)

-- ---- the definitions, by the list of mates alone ----

module _ (mates : List ℕ) where
  abbrev pub lower_in : ℕ → Bool
  lower_in v = leb v (get_or mates v 0)

  -- the lower ones below n
  abbrev pub lowers : ℕ → List ℕ
  lowers n = keep lower_in (range n)

  abbrev pub coarse_in : ℕ → ℕ
  coarse_in v = length (lowers (min v (get_or mates v 0)))

  -- what a lower vertex weighs with its mate
  abbrev pub weight_in : List Float → ℕ → Float
  weight_in vw v = cond (eqb (get_or mates v 0) v) (get_or vw v zero_float) (add binary64 (get_or vw v zero_float) (get_or vw (get_or mates v 0) zero_float))

  pub weight_alone : (vw : List Float) (v u : ℕ) (x : Float) → u ≡ get_or mates v 0 → u ≡ v → x ≡ get_or vw v zero_float → x ≡ weight_in vw v
  weight_alone vw v u x e q f = f ∙ sym (rw (eq-eqb (get_or mates v 0) v (sym e ∙ q)))

  pub weight_both : (vw : List Float) (v u : ℕ) (x y : Float) → u ≡ get_or mates v 0 → (u ≡ v → ⊥) → x ≡ get_or vw v zero_float → y ≡ get_or vw u zero_float
      → add binary64 x y ≡ weight_in vw v
  weight_both vw v u x y e d f g =
      (λ i. add binary64 (f i) (g i)) ∙ ap (λ (w : ℕ). add binary64 (get_or vw v zero_float) (get_or vw w zero_float)) e
      ∙ sym (rw (ne_eqb (get_or mates v 0) v (λ q. d (e ∙ q))))

-- ---- vertex after vertex ----

-- the coarse vertex of each vertex, the coarse weights, and how many coarse vertices there are
pub record Joined : Type 0 where
  pub places : List ℕ
  pub weights : List Float
  pub count : ℕ

abbrev pub joined_of : List ℕ → List Float → ℕ → Joined
joined_of places weights c = record { places = places; weights = weights; count = c }

abbrev pub joined_one : List Float → List ℕ → ℕ → Joined → Joined
joined_one vw mates v s =
    cond (lower_in mates v) (joined_of (set s.places v s.count) (set s.weights s.count (weight_in mates vw v)) (s.count + 1))
    (joined_of (set s.places v (get_or s.places (get_or mates v 0) 0)) s.weights s.count)

unfoldable pub joined : List Float → List ℕ → Joined → ℕ → Joined
joined vw mates s n = turns (joined_one vw mates) s n

module _ (vw : List Float) (mates : List ℕ) where
  -- one turn, as the proof of the body wants it
  pub joined_lower : (v u c : ℕ) (w : Float) (places places' : List ℕ) (weights weights' : List Float) → u ≡ get_or mates v 0 → v ≤ u → w ≡ weight_in mates vw v
      → places' ≡ set places v c → weights' ≡ set weights c w → joined_of places' weights' (c + 1) ≡ joined_one vw mates v (joined_of places weights c)
  joined_lower v u c w places places' weights weights' e h f p q =
      (λ i. joined_of (p i) (q i) (c + 1)) ∙ ap (λ x. joined_of (set places v c) (set weights c x) (c + 1)) f
      ∙ sym (ap (λ b. cond b (joined_of (set places v c) (set weights c (weight_in mates vw v)) (c + 1)) (joined_of (set places v (get_or places (get_or mates v 0) 0)) weights c))
      (le-leb v (get_or mates v 0) (omega arith)))

  pub joined_upper : (v u c x : ℕ) (places places' : List ℕ) (weights : List Float) → u ≡ get_or mates v 0 → u < v → x ≡ get_or places u 0
      → places' ≡ set places v x → joined_of places' weights c ≡ joined_one vw mates v (joined_of places weights c)
  joined_upper v u c x places places' weights e h f p =
      ap (λ l. joined_of l weights c) (p ∙ ap (set places v) (f ∙ ap (λ (y : ℕ). get_or places y 0) e))
      ∙ sym (ap (λ b. cond b (joined_of (set places v c) (set weights c (weight_in mates vw v)) (c + 1)) (joined_of (set places v (get_or places (get_or mates v 0) 0)) weights c))
      (lt-leb v (get_or mates v 0) (omega arith)))

  pub joined_places : (s : Joined) (n : ℕ) → length (joined vw mates s n).places ≡ length s.places
  unfolding joined turns
  joined_places s zero = refl
  joined_places s (suc n) =
      let t = joined vw mates s n in
      by_cases (lower_in mates n)
      (λ e. rw e (length-set t.places n t.count ∙ joined_places s n))
      (λ e. rw e (length-set t.places n (get_or t.places (get_or mates n 0) 0) ∙ joined_places s n))

  pub joined_weights : (s : Joined) (n : ℕ) → length (joined vw mates s n).weights ≡ length s.weights
  unfolding joined turns
  joined_weights s zero = refl
  joined_weights s (suc n) =
      let t = joined vw mates s n in
      by_cases (lower_in mates n)
      (λ e. rw e (length-set t.weights t.count (weight_in mates vw n) ∙ joined_weights s n))
      (λ e. rw e (joined_weights s n))

  -- ---- what it is ----

  module _ (places : List ℕ) (weights : List Float) where
    pub record Joins (k : ℕ) (s : Joined) : Type 0 where
      pub counts : s.count ≡ length (lowers mates k)
      pub few : s.count ≤ k
      pub weighs : take s.count s.weights ≡ map (weight_in mates vw) (lowers mates k)
      pub stands : (v : ℕ) → v < k → get_or s.places v 0 ≡ coarse_in mates v
      pub long : (length s.places ≡ length places) × (length s.weights ≡ length weights)

    module _ (n : ℕ) (fits : (n ≤ length places) × (n ≤ length weights)) (paired : Paired n mates) where
      step_lower : (k : ℕ) (s : Joined) → k < n → Joins k s → lower_in mates k ≡ true
          → Joins (suc k) (joined_of (set s.places k s.count) (set s.weights s.count (weight_in mates vw k)) (s.count + 1))
      step_lower k s b h e =
          let m : lowers mates (suc k) ≡ lowers mates k ++ (k ∷ []) = keep_more (lower_in mates) k ∙ ap (λ t. lowers mates k ++ cond t (k ∷ []) []) e in
          let l : length (lowers mates (suc k)) ≡ length (lowers mates k) + 1 = ap length m ∙ length-append (lowers mates k) (k ∷ []) in
          record {
            counts = omega (arith, h.counts, l);
            few = omega (arith, h.few);
            weighs =
                ap (λ (c : ℕ). take c (set s.weights s.count (weight_in mates vw k))) (add-one s.count)
                ∙ take-suc-set s.weights s.count (weight_in mates vw k) (omega (arith, h.few, h.long.1, fits.1))
                ∙ ap (λ t. t ++ (weight_in mates vw k ∷ [])) h.weighs
                ∙ sym (ap (map (weight_in mates vw)) m ∙ map-append (weight_in mates vw) (lowers mates k) (k ∷ []));
            stands = λ v lv. elim (ℕ_discrete v k) [
              | yes q ↦ here v q
              | no q ↦ get_or-set_other s.places k v s.count 0 q ∙ h.stands v (omega (arith, q))
            ];
            long = (length-set s.places k s.count ∙ h.long.0, length-set s.weights s.count (weight_in mates vw k) ∙ h.long.1);
          }
        where
          here : (v : ℕ) → v ≡ k → get_or (set s.places k s.count) v 0 ≡ coarse_in mates v
          here v q =
              let z : min k (get_or mates k 0) ≡ k = omega (arith, leb-true k (get_or mates k 0) e) in
              rw q (get_or-set_same s.places k s.count 0 (omega (arith, h.long.0, fits.0)) ∙ h.counts ∙ ap (λ (x : ℕ). length (lowers mates x)) (sym z))

      step_upper : (k : ℕ) (s : Joined) → k < n → Joins k s → lower_in mates k ≡ false
          → Joins (suc k) (joined_of (set s.places k (get_or s.places (get_or mates k 0) 0)) s.weights s.count)
      step_upper k s b h e =
          let m : lowers mates (suc k) ≡ lowers mates k = keep_more (lower_in mates) k ∙ ap (λ t. lowers mates k ++ cond t (k ∷ []) []) e ∙ append-nil (lowers mates k) in
          record {
            counts = h.counts ∙ ap length (sym m);
            few = omega (arith, h.few);
            weighs = h.weighs ∙ ap (map (weight_in mates vw)) (sym m);
            stands = λ v lv. elim (ℕ_discrete v k) [
              | yes q ↦ here v q
              | no q ↦ get_or-set_other s.places k v (get_or s.places (get_or mates k 0) 0) 0 q ∙ h.stands v (omega (arith, q))
            ];
            long = (length-set s.places k (get_or s.places (get_or mates k 0) 0) ∙ h.long.0, h.long.1);
          }
        where
          here : (v : ℕ) → v ≡ k → get_or (set s.places k (get_or s.places (get_or mates k 0) 0)) v 0 ≡ coarse_in mates v
          here v q =
              let lt : get_or mates k 0 < k = leb-false k (get_or mates k 0) e in
              let y : min k (get_or mates k 0) ≡ min (get_or mates k 0) (get_or mates (get_or mates k 0) 0) = omega (arith, paired k b lt) in
              rw q (get_or-set_same s.places k (get_or s.places (get_or mates k 0) 0) 0 (omega (arith, h.long.0, fits.0))
              ∙ h.stands (get_or mates k 0) lt ∙ ap (λ (x : ℕ). length (lowers mates x)) (sym y))

      step : (k : ℕ) (s : Joined) → k < n → Joins k s → Joins (suc k) (joined_one vw mates k s)
      step k s b h =
          by_cases (lower_in mates k)
          (λ e. rw e (step_lower k s b h e))
          (λ e. rw e (step_upper k s b h e))

      -- JOINED
      pub joins : Joins n (joined vw mates (joined_of places weights 0) n)
      unfolding joined
      joins =
          turns_invariant (λ k s. Joins k s) (joined_one vw mates) (joined_of places weights 0) n
          (record { counts = refl; few = omega arith; weighs = refl; stands = λ v l. absurd (omega arith); long = (refl, refl) })
          step

-- each vertex is part of one of the coarse vertices
pub coarse_below : (mates : List ℕ) (n v : ℕ) → Paired n mates → v < n → coarse_in mates v < length (lowers mates n)
coarse_below mates n v paired b =
    by_cases (lower_in mates v)
    (λ e. let q = leb-true v (get_or mates v 0) e in at v (min v (get_or mates v 0)) (omega arith) b e)
    (λ e. let q = leb-false v (get_or mates v 0) e in at (get_or mates v 0) (min v (get_or mates v 0)) (omega arith) (omega arith) (le-leb (get_or mates v 0) (get_or mates (get_or mates v 0) 0) (paired v b q)))
  where
    at : (w x : ℕ) → x ≡ w → w < n → lower_in mates w ≡ true → length (lowers mates x) < length (lowers mates n)
    at w x e l t =
        let s : n ≡ suc w + (n - suc w) = omega arith in
        let z : lowers mates n ≡ (lowers mates w ++ (w ∷ [])) ++ keep (lower_in mates) (from (0 + suc w) (n - suc w)) =
        ap (λ (k : ℕ). lowers mates k) s ∙ keep-add (lower_in mates) 0 (suc w) (n - suc w)
        ∙ ap (λ k. k ++ keep (lower_in mates) (from (0 + suc w) (n - suc w))) (keep_more (lower_in mates) w ∙ ap (λ b. lowers mates w ++ cond b (w ∷ []) []) t) in
        omega (arith, ap length z, length-append (lowers mates w ++ (w ∷ [])) (keep (lower_in mates) (from (0 + suc w) (n - suc w))), length-append (lowers mates w) (w ∷ []), ap (λ (k : ℕ). length (lowers mates k)) e)
