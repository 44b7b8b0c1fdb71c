-- The gain of a vertex's move by the slots of a hypergraph that is laid out. Assumes nothing.
use Rattle.std.specs.Prelude.{Bool, true, false, ◌≡◌, refl, ℕ, ◌+◌, ◌-◌, ◌≤◌, ◌<◌, ltb}
use Rattle.std.proofs.Math.Bool.{cond}
use Rattle.std.proofs.Math.Path.{sym, ap}
use Rattle.std.proofs.Common.{◌∙◌, arith}
use mathlib.Core.List.{List, [], ◌∷◌, ◌++◌, map, append-nil}
use Rattle.std.proofs.Math.Dec.{eqb}
use Rattle.std.specs.Float.Ieee.{Float}
use Rattle.std.proofs.Math.ListN.{length}
use borrow.Author.Tests.{lt-ltb, le-ltb, ltb-true}
use Rattle.spec.specs.Lists.{memb, keep, range}
use Rattle.spec.specs.Floats.{zero_float}
use Rattle.spec.specs.Hypergraph.{fold_over, Net, nets_at, side_of, other_side, pins_on}
use Rattle.spec.specs.Fm.{gain_net, gain_at, gain}
use Rattle.laws.specs.Booleans.{by_cases, and_left, or_intror}
use Rattle.laws.specs.ListLaws.{keep_ext_from, keep_none_from, keep_passes, memb_head, keep-map, kept_below}
use Rattle.laws.specs.LayoutLaws.{from_at}
use Rattle.slots.specs.Slots.{held}
use Rattle.slots.specs.Rising.{rising_of, memb_rising, keep-add}
use Rattle.partition.specs.Common.{common_of}
use Rattle.partition.specs.Folds.{fold_map}
use Rattle.partition.specs.Layout.{net_in, graph_in, sides_in, Crossed, Laid, gain_step, gain_sum}

-- ---- lists ----

keep_cong : (p q : ℕ → Bool) (l : List ℕ) → ((v : ℕ) → memb v l ≡ true → p v ≡ q v) → keep p l ≡ keep q l
keep_cong p q [] h = refl
keep_cong p q (x ∷ l) h =
    rw (h x (memb_head x l), keep_cong p q l (λ v m. h v (or_intror (eqb v x) (memb v l) m)))

pub fold_cong : {S : Type 0} (f g : ℕ → S → S) (l : List ℕ) (s : S) → ((x : ℕ) → memb x l ≡ true → (t : S) → f x t ≡ g x t) → fold_over f l s ≡ fold_over g l s
fold_cong f g [] s h = refl
fold_cong f g (x ∷ l) s h =
    ap (fold_over f l) (h x (memb_head x l) s) ∙ fold_cong f g l (g x s) (λ y m t. h y (or_intror (eqb y x) (memb y l) m) t)

-- ---- the nets of a vertex ----

-- each vertex's slot holds the nets that have it as a pin
module _ (ws : List ℕ) (nets vertices m n : ℕ) (weights : List ℕ) (vw : List Float) (few : (m ≤ 256) × (n ≤ 128))
    (crossed : Crossed ws nets vertices m n) where
  pub nets_crossed : (v : ℕ) → v < n → nets_at (graph_in ws nets weights m vw) v ≡ map (net_in ws nets weights) (rising_of ws 4 (vertices + v))
  unfolding graph_in rising_of
  nets_crossed v b =
      let split : 256 ≡ m + (256 - m) = omega (arith, few.0) in
      keep-map (λ (x : Net). memb v x.pins) (net_in ws nets weights) (range m)
      ∙ ap (map (net_in ws nets weights))
      (keep_ext_from (λ e. memb v (rising_of ws 2 (nets + e))) (held ws 4 (vertices + v)) 0 m
      (λ e lo hi. memb_rising ws 2 (nets + e) v (omega (arith, few.1)) ∙ sym (crossed v e b (omega (arith, few.0)) ∙ rw (lt-ltb e m (omega arith))))
      ∙ sym (ap (λ (k : ℕ). keep (held ws 4 (vertices + v)) (range k)) split
      ∙ keep-add (held ws 4 (vertices + v)) 0 m (256 - m)
      ∙ ap (λ l. keep (held ws 4 (vertices + v)) (range m) ++ l)
      (keep_none_from (held ws 4 (vertices + v)) (0 + m) (256 - m)
      (λ e lo hi. crossed v e b (omega (arith, few.0)) ∙ rw (le-ltb e m (omega arith))))
      ∙ append-nil (keep (held ws 4 (vertices + v)) (range m))))

-- ---- sides ----

module _ (ws : List ℕ) (nets vertices sides m n : ℕ) (weights : List ℕ) (h : Laid ws nets vertices sides m n) where
  side_at : (v : ℕ) → v < n → side_of (sides_in ws sides n) v ≡ cond (held ws 2 (sides + 1) v) 1 0
  unfolding sides_in
  side_at v b = from_at (λ v. cond (held ws 2 (sides + 1) v) 1 0) 0 0 n v b ∙ ap (λ (u : ℕ). cond (held ws 2 (sides + 1) u) 1 0) (omega arith)

  -- slot t holds the vertices of side s
  abbrev pub Holds : ℕ → ℕ → Type 0
  Holds s t = (v : ℕ) → v < n → eqb (side_of (sides_in ws sides n) v) s ≡ held ws 2 t v

  pub holds_one : Holds 1 (sides + 1)
  holds_one v b = rw (side_at v b) (by_cases (held ws 2 (sides + 1) v) (λ e. rw e) (λ e. rw e))

  pub holds_zero : Holds 0 sides
  holds_zero v b = rw (side_at v b, h.apart v b) (by_cases (held ws 2 (sides + 1) v) (λ e. rw e) (λ e. rw e))

  -- a net's pins on a side
  pub pins_common : (s t e : ℕ) → Holds s t → e < m → pins_on (sides_in ws sides n) s (rising_of ws 2 (nets + e)) ≡ length (common_of ws 2 (nets + e) t)
  unfolding common_of rising_of
  pins_common s t e k b =
      ap length
      (keep_cong (λ v. eqb (side_of (sides_in ws sides n) v) s) (held ws 2 t) (keep (held ws 2 (nets + e)) (range 128))
      (λ v q. k v (h.within e v b (kept_below (held ws 2 (nets + e)) 128 v q) (keep_passes v (held ws 2 (nets + e)) (range 128) q))))

  pub nets_at_lem : (v : ℕ) (vw : List Float) → v < n → nets_at (graph_in ws nets weights m vw) v ≡ map (net_in ws nets weights) (rising_of ws 4 (vertices + v))
  nets_at_lem v vw b = nets_crossed ws nets vertices m n weights vw h.few h.crossed v b

  -- A GAIN BY THE SLOTS
  pub gain_laid : (s here there v : ℕ) (vw : List Float) → v < n → side_of (sides_in ws sides n) v ≡ s → Holds s here → Holds (other_side s) there
      → gain (graph_in ws nets weights m vw) (sides_in ws sides n) v ≡ gain_sum ws nets here there weights (rising_of ws 4 (vertices + v))
  unfolding gain rising_of
  gain_laid s here there v vw b q k l =
      ap (gain_at (graph_in ws nets weights m vw) (sides_in ws sides n) v) q
      ∙ ap (λ (x : List Net). fold_over F x zero_float) (nets_at_lem v vw b)
      ∙ fold_map F (net_in ws nets weights) (rising_of ws 4 (vertices + v)) zero_float
      ∙ fold_cong (λ e. F (net_in ws nets weights e)) (gain_step ws nets here there weights) (rising_of ws 4 (vertices + v)) zero_float
      (λ e i t.
      let lt : e < 256 = kept_below (held ws 4 (vertices + v)) 256 e i in
      let em : e < m = ltb-true e m (and_left (ltb e m) (held ws 2 (nets + e) v) (sym (h.crossed v e b lt) ∙ keep_passes e (held ws 4 (vertices + v)) (range 256) i)) in
      λ j. gain_net (pins_common s here e k em j) (pins_common (other_side s) there e l em j) (net_in ws nets weights e).weight t)
    where
      F : Net → Float → Float
      F e g = gain_net (pins_on (sides_in ws sides n) s e.pins) (pins_on (sides_in ws sides n) (other_side s) e.pins) e.weight g

  pub gain-one : (v : ℕ) (vw : List Float) → v < n → held ws 2 (sides + 1) v ≡ true
      → gain (graph_in ws nets weights m vw) (sides_in ws sides n) v ≡ gain_sum ws nets (sides + 1) sides weights (rising_of ws 4 (vertices + v))
  gain-one v vw b e = gain_laid 1 (sides + 1) sides v vw b (side_at v b ∙ rw e) holds_one holds_zero

  pub gain_zero : (v : ℕ) (vw : List Float) → v < n → held ws 2 (sides + 1) v ≡ false
      → gain (graph_in ws nets weights m vw) (sides_in ws sides n) v ≡ gain_sum ws nets sides (sides + 1) weights (rising_of ws 4 (vertices + v))
  gain_zero v vw b e = gain_laid 0 sides (sides + 1) v vw b (side_at v b ∙ rw e) holds_zero holds_one

-- ---- the gain ----

-- r is the gain, whatever the vertices weigh
abbrev pub IsGain : List ℕ → ℕ → ℕ → ℕ → ℕ → List ℕ → ℕ → Float → Type 0
IsGain ws nets sides m n weights v r = (vw : List Float) → r ≡ gain (graph_in ws nets weights m vw) (sides_in ws sides n) v
