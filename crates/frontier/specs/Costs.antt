-- What opened nodes cost: 2 to the work bits of each. Assumes nothing.
use Rattle.std.specs.Prelude.{◌≡◌, refl, List, ℕ, zero, suc, ◌+◌, ◌*◌, ◌%◌, ◌^◌, ◌≤◌, ◌<◌, get_or, map}
use Rattle.std.specs.List.{sum, range_with_len}
use Rattle.std.proofs.lemmas.List.FromFn.{sum_by-map-range_with_len_more}
use Rattle.std.proofs.Common.{sym, ap, ◌∙◌, one-mul, add-one, arith, lit<, pow_mono, shl_exact}
use Rattle.std.proofs.Math.Decide.{dec_le}

-- the first c of a list of nodes
unfoldable pub cost_below : List ℕ → List ℕ → ℕ → ℕ
cost_below works opened zero = 0
cost_below works opened (suc c) = cost_below works opened c + 2 ^ get_or works (get_or opened c 0) 0

pub cost_next : (works opened : List ℕ) (i : ℕ) → cost_below works opened (i + 1) ≡ cost_below works opened i + 2 ^ get_or works (get_or opened i 0) 0
unfolding cost_below
cost_next works opened i = ap (cost_below works opened) (add-one i)

pub cost_most : (works opened : List ℕ) (i c : ℕ) → i ≤ c → cost_below works opened i ≤ cost_below works opened c
unfolding cost_below
cost_most works opened i zero h = ap_zero i (omega arith)
  where
    ap_zero : (i : ℕ) → i ≤ 0 → cost_below works opened i ≤ 0
    ap_zero zero h = omega arith
    ap_zero (suc i) h = absurd (omega arith)
cost_most works opened i (suc c) h =
    elim (dec_le i c) [
      | yes k ↦ omega (arith, cost_most works opened i c k)
      | no k ↦ (let e : i ≡ suc c = omega arith in rw e (omega arith))
    ]

pub cost_none : (works opened : List ℕ) → 0 ≡ cost_below works opened 0
unfolding cost_below
cost_none works opened = refl

-- the cost of the opened node at place i, as a shift of 1 makes it
abbrev pub node_cost : List ℕ → List ℕ → ℕ → ℕ
node_cost works opened i = 1 * 2 ^ get_or works (get_or opened i 0) 0 % 2 ^ 64

module _ (works opened : List ℕ) (c : ℕ) (fits : cost_below works opened c < 9007199254740992) where
  total : (i : ℕ) → i < c → cost_below works opened i + 2 ^ get_or works (get_or opened i 0) 0 ≤ cost_below works opened c
  total i less = omega (arith, cost_next works opened i, cost_most works opened (i + 1) c (omega arith))

  pub small_work : (i : ℕ) → i < c → get_or works (get_or opened i 0) 0 < 53
  small_work i less =
      elim (dec_le 53 (get_or works (get_or opened i 0) 0)) [
        | yes k ↦ absurd (omega (arith, total i less, pow_mono {i = 53} {j = get_or works (get_or opened i 0) 0} k))
        | no k ↦ omega arith
      ]

  pub shifted : (i : ℕ) → i < c → node_cost works opened i ≡ 2 ^ get_or works (get_or opened i 0) 0
  shifted i less =
      shl_exact 1 (get_or works (get_or opened i 0) 0) 64 (lit< tt) (omega (arith, small_work i less)) ∙ one-mul (2 ^ get_or works (get_or opened i 0) 0)

  costs_below : (i : ℕ) → i ≤ c → sum (map (node_cost works opened) (range_with_len 0 i)) ≡ cost_below works opened i
  costs_below zero h = cost_none works opened
  costs_below (suc i) h =
      ap (λ (n : ℕ). sum (map (node_cost works opened) (range_with_len 0 n))) (sym (add-one i))
      ∙ sum_by-map-range_with_len_more (λ (n : ℕ). n) (node_cost works opened) 0 i i (omega arith)
      ∙ omega (arith, costs_below i (omega arith), shifted i (omega arith), cost_next works opened i)
      ∙ ap (cost_below works opened) (add-one i)

  pub costs_all : sum (map (node_cost works opened) (range_with_len 0 c)) ≡ cost_below works opened c
  costs_all = costs_below c (omega arith)

  pub costs_fit : sum (map (node_cost works opened) (range_with_len 0 c)) < 2 ^ 64
  costs_fit = omega (arith, costs_all, fits)
