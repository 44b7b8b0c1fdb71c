-- The ratings of a vertex's neighbours in lent lists: the rating of each vertex, and the first k places of a list as the vertices rated.
-- Assumes nothing.
use Rattle.std.specs.Prelude.{Bool, true, false, not, ◌&&◌, cond, ◌≡◌, refl, List, [], ◌∷◌, ◌++◌, ℕ, ◌+◌, ◌-◌, ◌≤◌, ◌<◌, max, eqb, leb, length, get_or, set, take, Float, pos}
use Rattle.std.proofs.Common.{sym, ap, ◌∙◌, arith, add-one, take-suc-set, eq-eqb, ne_eqb, le-leb}
use Rattle.std.specs.Float.{binary64, fin}
use Rattle.std.specs.Float.Ieee.{of_int, add, div, eq}
use Rattle.std.proofs.lemmas.Bool.{lt-leb}
use Rattle.spec.specs.Lists.{keep}
use Rattle.spec.specs.Floats.{zero_float, whole_float}
use Rattle.spec.specs.Hypergraph.{fold_over, Hypergraph, vertex_count}
use Rattle.spec.specs.Coarsen.{Ratings, rated_by}
use Rattle.laws.specs.Booleans.{by_cases}
use Rattle.slots.specs.Rising.{rising_of}

abbrev pub ratings_in : List Float → List ℕ → ℕ → Ratings
ratings_in rating touched k = record { rating = rating; touched = take k touched }

abbrev pair_of : List Float → List ℕ → Ratings
pair_of rating touched = record { rating = rating; touched = touched }

-- a pin u of a net rated r
abbrev pub rated_pin : Float → ℕ → Ratings → Ratings
rated_pin r u t =
    record {
      rating = set t.rating u (add binary64 (get_or t.rating u zero_float) r);
      touched = cond (eq (get_or t.rating u zero_float) zero_float) (t.touched ++ (u ∷ [])) t.touched;
    }

-- what a net of weight w and k pins is rated
abbrev pub share : ℕ → ℕ → Float
share w k = div binary64 (whole_float w) (whole_float (max (k - 1) 1))

pub one_whole : fin false 1 (pos 0) ≡ whole_float 1
unfolding of_int
one_whole = refl

module _ (mates : List ℕ) (n v : ℕ) where
  -- the same if u may be v's mate: n stands for no mate yet
  abbrev pub is_open : ℕ → Bool
  is_open u = not (eqb u v) && eqb (get_or mates u 0) n

  abbrev pub rated_open : Float → ℕ → Ratings → Ratings
  rated_open r u t = cond (is_open u) (rated_pin r u t) t

  abbrev pub rated_pins : Float → List ℕ → Ratings → Ratings
  rated_pins r pins t = fold_over (rated_open r) pins t

  abbrev pub rated_net : ℕ → List ℕ → Ratings → Ratings
  rated_net w pins t =
      let rest = rated_pins (share w (length pins)) pins t in
      cond (leb (length pins) 64) rest t

-- the nets of a list, whose pins are in slots of two words
abbrev pub rated_nets : List ℕ → ℕ → List ℕ → List ℕ → ℕ → ℕ → List ℕ → Ratings → Ratings
rated_nets ws nets weights mates n v l t = fold_over (λ e. rated_net mates n v (get_or weights e 0) (rising_of ws 2 (nets + e))) l t

-- ---- one pin, by the lists ----

module _ (rating rating' : List Float) (touched touched' : List ℕ) (count u : ℕ) (x r : Float) (p : x ≡ get_or rating u zero_float)
    (q : rating' ≡ set rating u (add binary64 x r)) where
  pub rated_zero : eq x zero_float ≡ true → touched' ≡ set touched count u → count < length touched
      → ratings_in rating' touched' (count + 1) ≡ rated_pin r u (ratings_in rating touched count)
  rated_zero e f h =
      let t : take (count + 1) touched' ≡ take count touched ++ (u ∷ []) =
      ap (take (count + 1)) f ∙ ap (λ (k : ℕ). take k (set touched count u)) (add-one count) ∙ take-suc-set touched count u h in
      (λ i. pair_of (q i) (t i)) ∙ (λ i. pair_of (set rating u (add binary64 (p i) r)) (take count touched ++ (u ∷ [])))
      ∙ sym (ap (λ b. pair_of (set rating u (add binary64 (get_or rating u zero_float) r)) (cond b (take count touched ++ (u ∷ [])) (take count touched))) (sym (ap (λ y. eq y zero_float) p) ∙ e))

  pub rated_more : eq x zero_float ≡ false → ratings_in rating' touched count ≡ rated_pin r u (ratings_in rating touched count)
  rated_more e =
      ap (λ l. pair_of l (take count touched)) q ∙ (λ i. pair_of (set rating u (add binary64 (p i) r)) (take count touched))
      ∙ sym (ap (λ b. pair_of (set rating u (add binary64 (get_or rating u zero_float) r)) (cond b (take count touched ++ (u ∷ [])) (take count touched))) (sym (ap (λ y. eq y zero_float) p) ∙ e))

module _ (mates : List ℕ) (n v : ℕ) (r : Float) (u : ℕ) (t : Ratings) where
  pub open_self : u ≡ v → rated_open mates n v r u t ≡ t
  open_self e = rw (eq-eqb u v e)

  pub open_yes : (u ≡ v → ⊥) → get_or mates u 0 ≡ n → rated_open mates n v r u t ≡ rated_pin r u t
  open_yes d e = rw (ne_eqb u v d, eq-eqb (get_or mates u 0) n e)

  pub open_no : (get_or mates u 0 ≡ n → ⊥) → rated_open mates n v r u t ≡ t
  open_no d = rw (ne_eqb (get_or mates u 0) n d) (by_cases (eqb u v) (λ e. rw e) (λ e. rw e))

-- ---- a net, by the list of its pins ----

module _ (mates : List ℕ) (n v : ℕ) where
  pub net_small : (ws : List ℕ) (s k : ℕ) (pins : List ℕ) (w w' : ℕ) (r : Float) (t : Ratings) → k ≡ length (rising_of ws 2 s) → k ≤ 64 → pins ≡ rising_of ws 2 s
      → w ≡ w' → r ≡ share w k → rated_pins mates n v r pins t ≡ rated_net mates n v w' (rising_of ws 2 s) t
  net_small ws s k pins w w' r t e h p q z =
      (λ i. rated_pins mates n v (z i) (p i) t)
      ∙ (λ i. rated_pins mates n v (share (q i) (e i)) (rising_of ws 2 s) t)
      ∙ sym (ap (λ b. cond b (rated_pins mates n v (share w' (length (rising_of ws 2 s))) (rising_of ws 2 s) t) t) (le-leb (length (rising_of ws 2 s)) 64 (omega arith)))

  pub net_large : (w : ℕ) (pins : List ℕ) (t : Ratings) → 64 < length pins → rated_net mates n v w pins t ≡ t
  net_large w pins t h = ap (λ b. cond b (rated_pins mates n v (share w (length pins)) pins t) t) (lt-leb (length pins) 64 h)

-- ---- that this is the definition's ----

fold_keep : {S : Type 0} (p : ℕ → Bool) (f : ℕ → S → S) (l : List ℕ) (s : S) → fold_over f (keep p l) s ≡ fold_over (λ u t. cond (p u) (f u t) t) l s
fold_keep p f [] s = refl
fold_keep p f (u ∷ l) s =
    by_cases (p u)
    (λ e. rw e (fold_keep p f l (f u s)))
    (λ e. rw e (fold_keep p f l s))

-- RATED BY A NET
pub rated_net_lem : (G : Hypergraph) (maxw : Float) (mates : List ℕ) (v w : ℕ) (pins : List ℕ) (t : Ratings)
    → rated_by G maxw mates v (record { pins = pins; weight = whole_float w }) t ≡ rated_net mates (vertex_count G) v w pins t
rated_net_lem G maxw mates v w pins t =
    ap (λ x. cond (leb (length pins) 64) x t) (fold_keep (is_open mates (vertex_count G) v) (rated_pin (share w (length pins))) pins t)
