-- The choice of a mate in lent lists, and a matching by slots. Assumes nothing.
use Rattle.std.specs.Prelude.{Bool, true, false, ◌&&◌, cond, ◌≡◌, List, ℕ, length, get_or, set, Float, Option, None, Some}
use Rattle.std.proofs.Math.Bool.{and-false}
use Rattle.std.proofs.Common.{sym, ap, ◌∙◌, length-set}
use Rattle.std.specs.Float.{binary64}
use Rattle.std.specs.Float.Ieee.{add, mul, lt, le}
use Rattle.spec.specs.Floats.{zero_float, micro, whole_float}
use Rattle.spec.specs.Draws.{Words, unit_draw}
use Rattle.spec.specs.Coarsen.{Choice}

abbrev pub choice_of : Float → Option ℕ → List Float → Words → Choice
choice_of best mate rating ws = record { best = best; mate = mate; rating = rating; words = ws }

-- u is looked at, as v's mate
abbrev pub looked : List Float → Float → ℕ → ℕ → Choice → Choice
looked vw maxw v u c =
    let d = unit_draw c.words in
    let r = mul binary64 (get_or c.rating u zero_float) (add binary64 (whole_float 1) (mul binary64 micro d.value)) in
    let better = lt c.best r && le (add binary64 (get_or vw v zero_float) (get_or vw u zero_float)) maxw in
    record {
      best = cond better r c.best;
      mate = cond better (Some u) c.mate;
      rating = set c.rating u zero_float;
      words = d.words;
    }

abbrev pub mated_in : ℕ → Option ℕ → List ℕ → List ℕ
mated_in v None mates = set mates v v
mated_in v (Some u) mates = set (set mates v u) u v

-- ---- one look, by the lists ----

module _ (vw : List Float) (limit : Float) (ws ws' : Words) (rating rating' : List Float) (v u : ℕ) (noise g best : Float) (mate : Option ℕ)
    (en : noise ≡ (unit_draw ws).value) (ew : ws' ≡ (unit_draw ws).words)
    (eg : g ≡ get_or rating u zero_float) (er : rating' ≡ set rating u zero_float) where
  abbrev noisy : Float → Float → Float
  noisy x d = mul binary64 x (add binary64 (whole_float 1) (mul binary64 micro d))

  abbrev fits : Bool
  fits = le (add binary64 (get_or vw v zero_float) (get_or vw u zero_float)) limit

  abbrev chosen : Float → Bool → List Float → Words → Choice
  chosen x b l ws = choice_of (cond b x best) (cond b (Some u) mate) l ws

  looked_by : (b : Bool) → (lt best (noisy g noise) && fits) ≡ b
      → chosen (noisy g noise) b rating' ws' ≡ looked vw limit v u (choice_of best mate rating ws)
  looked_by b e =
      ap (λ t. chosen (noisy g noise) t rating' ws') (sym e)
      ∙ (λ i. chosen (noisy (eg i) (en i)) (lt best (noisy (eg i) (en i)) && fits) (er i) (ew i))

  pub looked_better : (x y z : Float) → x ≡ noisy g noise → y ≡ get_or vw v zero_float → z ≡ get_or vw u zero_float → lt best x ≡ true → le (add binary64 y z) limit ≡ true
      → choice_of x (Some u) rating' ws' ≡ looked vw limit v u (choice_of best mate rating ws)
  looked_better x y z ex ey ez p q =
      ap (λ x. choice_of x (Some u) rating' ws') ex
      ∙ looked_by true (ap (λ t. t && fits) (ap (lt best) (sym ex) ∙ p) ∙ sym (λ i. le (add binary64 (ey i) (ez i)) limit) ∙ q)

  pub looked_light : (x : Float) → x ≡ noisy g noise → lt best x ≡ false
      → choice_of best mate rating' ws' ≡ looked vw limit v u (choice_of best mate rating ws)
  looked_light x ex p = looked_by false (ap (λ t. t && fits) (ap (lt best) (sym ex) ∙ p))

  pub looked_heavy : (y z : Float) → y ≡ get_or vw v zero_float → z ≡ get_or vw u zero_float → le (add binary64 y z) limit ≡ false
      → choice_of best mate rating' ws' ≡ looked vw limit v u (choice_of best mate rating ws)
  looked_heavy y z ey ez q =
      looked_by false (ap (λ t. lt best (noisy g noise) && t) (sym (λ i. le (add binary64 (ey i) (ez i)) limit) ∙ q) ∙ and-false (lt best (noisy g noise)))

-- ---- a pair, by the list of mates ----

pub mated_length : (v : ℕ) (mate : Option ℕ) (mates mates' : List ℕ) → mates' ≡ mated_in v mate mates → length mates' ≡ length mates
mated_length v (Some u) mates mates' e = ap length e ∙ length-set (set mates v u) u v ∙ length-set mates v u
mated_length v None mates mates' e = ap length e ∙ length-set mates v v
