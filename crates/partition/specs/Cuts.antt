-- The weight of the nets that are cut, by the slots of a hypergraph that is laid out. Assumes nothing.
use Rattle.std.specs.Prelude.{Bool, true, false, not, ◌&&◌, ◌≡◌, refl, List, ℕ, ◌+◌, eqb, length, get_or}
use Rattle.std.proofs.Math.Bool.{cond}
use Rattle.std.proofs.Math.Path.{sym, ap, ap₂}
use Rattle.std.proofs.Common.{◌∙◌, arith, ne_eqb}
use Rattle.std.specs.Float.Ieee.{Float, binary64, add}
use Rattle.spec.specs.Lists.{range}
use Rattle.spec.specs.Floats.{zero_float, whole_float}
use Rattle.spec.specs.Hypergraph.{fold_over, Net, is_cut, cut}
use Rattle.laws.specs.ListLaws.{from_memb}
use Rattle.laws.specs.GainLaws.{cut_by, cut_by_lem}
use Rattle.slots.specs.Rising.{rising_of}
use Rattle.partition.specs.Common.{common_of}
use Rattle.partition.specs.Folds.{fold_map}
use Rattle.partition.specs.Layout.{net_in, graph_in, sides_in, Laid}
use Rattle.partition.specs.Gains.{fold_cong, pins_common, holds_zero, holds_one}

module _ (ws : List ℕ) (nets sides : ℕ) (weights : List ℕ) where
  abbrev pub cut_step : ℕ → Float → Float
  cut_step e c =
      cond (cut_by (length (common_of ws 2 (nets + e) sides)) (length (common_of ws 2 (nets + e) (sides + 1)))) (add binary64 c (whole_float (get_or weights e 0))) c

  abbrev pub cut_sum : ℕ → Float
  cut_sum m = fold_over cut_step (range m) zero_float

  -- r is the weight of the nets that are cut, whatever the vertices weigh
  abbrev pub IsCutWeight : ℕ → ℕ → Float → Type 0
  IsCutWeight m n r = (vw : List Float) → r ≡ cut (graph_in ws nets weights m vw) (sides_in ws sides n)

  pub cut_laid : (vertices m n : ℕ) → Laid ws nets vertices sides m n → IsCutWeight m n (cut_sum m)
  unfolding cut graph_in
  cut_laid vertices m n h vw =
      sym (fold_map K (net_in ws nets weights) (range m) zero_float
      ∙ fold_cong (λ e. K (net_in ws nets weights e)) cut_step (range m) zero_float
      (λ e i c. ap (λ t. cond t (add binary64 c (whole_float (get_or weights e 0))) c)
      (cut_by_lem (sides_in ws sides n) (rising_of ws 2 (nets + e))
      ∙ ap₂ cut_by (pins_common ws nets vertices sides m n weights h 0 sides e (holds_zero ws nets vertices sides m n weights h) (omega (arith, from_memb e 0 m i)))
      (pins_common ws nets vertices sides m n weights h 1 (sides + 1) e (holds_one ws nets vertices sides m n weights h) (omega (arith, from_memb e 0 m i))))))
    where
      K : Net → Float → Float
      K e sum = cond (is_cut (sides_in ws sides n) e.pins) (add binary64 sum e.weight) sum

  pub cut_done : (vertices m n k : ℕ) (c : Float) → Laid ws nets vertices sides m n → k ≡ m → c ≡ cut_sum k → IsCutWeight m n c
  cut_done vertices m n k c h e p vw = p ∙ ap cut_sum e ∙ cut_laid vertices m n h vw

  -- as the code has it: no pin on a side, or pins on both
  pub step_left : (e x : ℕ) (c : Float) → x ≡ length (common_of ws 2 (nets + e) sides) → x ≡ 0 → c ≡ cut_step e c
  step_left e x c p z = sym (ap (λ n. cond (cut_by n (length (common_of ws 2 (nets + e) (sides + 1)))) (add binary64 c (whole_float (get_or weights e 0))) c) (sym p ∙ z))

  pub step_right : (e y : ℕ) (c : Float) → y ≡ length (common_of ws 2 (nets + e) (sides + 1)) → y ≡ 0 → c ≡ cut_step e c
  step_right e y c p z =
      sym (ap (λ n. cond (cut_by (length (common_of ws 2 (nets + e) sides)) n) (add binary64 c (whole_float (get_or weights e 0))) c) (sym p ∙ z)
      ∙ none (not (eqb (length (common_of ws 2 (nets + e) sides)) 0)))
    where
      none : (b : Bool) → cond (b && false) (add binary64 c (whole_float (get_or weights e 0))) c ≡ c
      none true = refl
      none false = refl

  pub step_cut : (e x y w : ℕ) (c : Float) → x ≡ length (common_of ws 2 (nets + e) sides) → (x ≡ 0 → ⊥) → y ≡ length (common_of ws 2 (nets + e) (sides + 1)) → (y ≡ 0 → ⊥)
      → w ≡ get_or weights e 0 → add binary64 c (whole_float w) ≡ cut_step e c
  step_cut e x y w c p f q g s =
      ap (λ n. add binary64 c (whole_float n)) s
      ∙ sym (ap₂ (λ a b. cond (not a && not b) (add binary64 c (whole_float (get_or weights e 0))) c)
      (ap (λ n. eqb n 0) (sym p) ∙ ne_eqb x 0 f) (ap (λ n. eqb n 0) (sym q) ∙ ne_eqb y 0 g))
