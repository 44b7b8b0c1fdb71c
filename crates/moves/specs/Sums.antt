-- The weights of the two sides; the moves of a pass and the sums of their gains. Assumes nothing.
use Rattle.std.specs.Prelude.{Bool, true, false, not, cond, ◌≡◌, refl, List, [], ◌∷◌, ℕ, zero, suc, ◌+◌, ◌-◌, ◌≤◌, ◌<◌, eqb, Float, length, get_or, set}
use Rattle.std.proofs.Common.{sym, ap, ◌∙◌, arith, add-one, eq-eqb, ne_eqb, get_or-set_same, get_or-set_other}
use Rattle.std.specs.Float.{binary64}
use Rattle.std.specs.Float.Ieee.{add, lt}
use Rattle.spec.specs.Lists.{range}
use Rattle.spec.specs.Floats.{zero_float, micro, nano, round_to}
use Rattle.spec.specs.Hypergraph.{fold_over, Hypergraph, Sides}
use Rattle.spec.specs.Fm.{Gains, summed, counted, fits_in}

-- ---- weights ----

abbrev pub weigh_step : List ℕ → List Float → ℕ → ℕ → Float → Float
weigh_step part vw s v sum = cond (eqb (get_or part v 0) s) (add binary64 sum (get_or vw v zero_float)) sum

abbrev pub weight_in : List ℕ → List Float → ℕ → Float
weight_in part vw s = fold_over (weigh_step part vw s) (range (length vw)) zero_float

pub weigh_here : (part : List ℕ) (vw : List Float) (s v k : ℕ) (sum x : Float) → k ≡ get_or part v 0 → k ≡ s → x ≡ get_or vw v zero_float
    → add binary64 sum x ≡ weigh_step part vw s v sum
weigh_here part vw s v k sum x e f g =
    ap (add binary64 sum) g ∙ sym (ap (λ t. cond t (add binary64 sum (get_or vw v zero_float)) sum) (eq-eqb (get_or part v 0) s (sym e ∙ f)))

pub weigh_off : (part : List ℕ) (vw : List Float) (s v k : ℕ) (sum : Float) → k ≡ get_or part v 0 → (k ≡ s → ⊥) → sum ≡ weigh_step part vw s v sum
weigh_off part vw s v k sum e f =
    sym (ap (λ t. cond t (add binary64 sum (get_or vw v zero_float)) sum) (ne_eqb (get_or part v 0) s (λ q. f (e ∙ q))))

-- the other side can take v
abbrev pub Fits : List Float → Float → ℕ → Sides → Bool → Type 0
Fits vw maxw v S r = (G : Hypergraph) → G.weights ≡ vw → r ≡ fits_in G maxw v S

pub fits_is : (vw w : List Float) (part : List ℕ) (maxw a x : Float) (v s t : ℕ) → s ≡ get_or part v 0 → t ≡ 1 - s → a ≡ get_or w t zero_float → x ≡ get_or vw v zero_float
    → Fits vw maxw v (record { part = part; weights = w }) (not (lt maxw (add binary64 a x)))
fits_is vw w part maxw a x v s t es et ea ex G g =
    let z : t ≡ 1 - get_or part v 0 = et ∙ ap (λ (y : ℕ). 1 - y) es in
    (λ i. not (lt maxw (add binary64 (ea i) (ex i)))) ∙ (λ i. not (lt maxw (add binary64 (get_or w (z i) zero_float) (get_or (sym g i) v zero_float))))

-- ---- sums ----

abbrev pub gains_of : List ℕ → Float → Float → ℕ → Gains
gains_of moves sum best peak = record { moves = moves; sum = sum; best = best; best_at = peak }

-- one move more is counted, whatever the moves so far were
abbrev pub Counted : ℕ → Float → Float → ℕ → Float → Float → Float → ℕ → Type 0
Counted count sum best peak key sum' best' peak' = (v : ℕ) (moves : List ℕ) → length moves ≡ count → gains_of (v ∷ moves) sum' best' peak' ≡ counted v key (gains_of moves sum best peak)

module _ (count peak : ℕ) (sum best key g sum' : Float) (eg : g ≡ round_to key micro) (es : sum' ≡ add binary64 sum g) where
  total : sum' ≡ add binary64 sum (round_to key micro)
  total = es ∙ ap (add binary64 sum) eg

  pub counted_better : lt (add binary64 best nano) sum' ≡ true → Counted count sum best peak key sum' sum' (count + 1)
  counted_better e v moves l =
      let z : count + 1 ≡ suc (length moves) = omega arith in
      (λ i. gains_of (v ∷ moves) sum' (cond (sym e i) sum' best) (cond (sym e i) (z i) peak))
      ∙ ap (λ (x : Float). summed (v ∷ moves) x (gains_of moves sum best peak)) total

  pub counted_no_better : lt (add binary64 best nano) sum' ≡ false → Counted count sum best peak key sum' best peak
  counted_no_better e v moves l =
      (λ i. gains_of (v ∷ moves) sum' (cond (sym e i) sum' best) (cond (sym e i) (suc (length moves)) peak))
      ∙ ap (λ (x : Float). summed (v ∷ moves) x (gains_of moves sum best peak)) total

-- ---- the moves in a list, the last one first ----

abbrev pub backwards : List ℕ → ℕ → List ℕ
backwards l zero = []
backwards l (suc k) = get_or l k 0 ∷ backwards l k

pub back_length : (l : List ℕ) (k : ℕ) → length (backwards l k) ≡ k
back_length l zero = refl
back_length l (suc k) = ap suc (back_length l k)

back_set : (l : List ℕ) (k j v : ℕ) → k ≤ j → backwards (set l j v) k ≡ backwards l k
back_set l zero j v h = refl
back_set l (suc k) j v h = (λ i. get_or-set_other l j k v 0 (λ e. omega arith) i ∷ back_set l k j v (omega arith) i)

-- one move more
pub back_more : (l : List ℕ) (k v : ℕ) → k < length l → backwards (set l k v) (k + 1) ≡ v ∷ backwards l k
back_more l k v h = ap (backwards (set l k v)) (add-one k) ∙ (λ i. get_or-set_same l k v 0 h i ∷ back_set l k k v (omega arith) i)

pub back_at : (l : List ℕ) (k i : ℕ) → i < k → get_or (backwards l k) i 0 ≡ get_or l (k - 1 - i) 0
back_at l zero i h = absurd (omega arith)
back_at l (suc k) zero h = ap (λ (z : ℕ). get_or l z 0) (omega arith)
back_at l (suc k) (suc i) h = back_at l k i (omega arith) ∙ ap (λ (z : ℕ). get_or l z 0) (omega arith)
