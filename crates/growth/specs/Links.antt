-- How strongly vertices are connected to the side that grows, in lent lists. Assumes nothing.
use Rattle.std.specs.Prelude.{Bool, true, false, cond, ◌≡◌, refl, List, [], ◌∷◌, ℕ, ◌+◌, eqb, Float, length, get_or, set, Option, None, Some}
use Rattle.std.proofs.Common.{sym, ap, ◌∙◌, length-set, eq-eqb, ne_eqb}
use Rattle.std.specs.Float.{binary64}
use Rattle.std.specs.Float.Ieee.{add, mul, neg, lt}
use Rattle.spec.specs.Lists.{range}
use Rattle.spec.specs.Floats.{zero_float, micro, whole_float}
use Rattle.spec.specs.Draws.{Words, draw, unit_draw}
use Rattle.spec.specs.Hypergraph.{fold_over}
use Rattle.spec.specs.Bisection.{Strongest}
use Rattle.slots.specs.Rising.{rising_of}

abbrev pub strong_in : Float → Option ℕ → Words → Strongest
strong_in link vertex ws = record { link = link; vertex = vertex; words = ws }

-- a vertex of side 0 is looked at
abbrev pub offered_in : List ℕ → List Float → ℕ → Strongest → Strongest
offered_in part links u c =
    let d = unit_draw c.words in
    let link = add binary64 (get_or links u zero_float) (mul binary64 micro d.value) in
    let better = lt c.link link in
    let new : Strongest = record { link = cond better link c.link; vertex = cond better (Some u) c.vertex; words = d.words } in
    cond (eqb (get_or part u 0) 0) new c

abbrev pub strongest_in : List ℕ → List Float → ℕ → Words → Strongest
strongest_in part links n ws = fold_over (offered_in part links) (range n) (strong_in (neg (whole_float 1)) None ws)

-- ---- one vertex, by the lists ----

module _ (part : List ℕ) (links : List Float) (ws ws' : Words) (u : ℕ) (noise g best : Float) (vertex : Option ℕ)
    (en : noise ≡ (unit_draw ws).value) (ew : ws' ≡ (unit_draw ws).words)
    (eg : g ≡ get_or links u zero_float) where
  abbrev noisy : Float → Float → Float
  noisy x d = add binary64 x (mul binary64 micro d)

  abbrev chosen : Float → Bool → Words → Strongest
  chosen x b ws = strong_in (cond b x best) (cond b (Some u) vertex) ws

  offered_by : (b : Bool) → lt best (noisy g noise) ≡ b → get_or part u 0 ≡ 0
      → chosen (noisy g noise) b ws' ≡ offered_in part links u (strong_in best vertex ws)
  offered_by b e z =
      ap (λ t. chosen (noisy g noise) t ws') (sym e)
      ∙ (λ i. chosen (noisy (eg i) (en i)) (lt best (noisy (eg i) (en i))) (ew i))
      ∙ sym (ap (λ t. cond t (chosen (noisy (get_or links u zero_float) (unit_draw ws).value) (lt best (noisy (get_or links u zero_float) (unit_draw ws).value)) (draw ws).words) (strong_in best vertex ws)) (eq-eqb (get_or part u 0) 0 z))

  pub offered_better : (x : Float) → x ≡ noisy g noise → lt best x ≡ true → get_or part u 0 ≡ 0
      → strong_in x (Some u) ws' ≡ offered_in part links u (strong_in best vertex ws)
  offered_better x ex p z = ap (λ x. strong_in x (Some u) ws') ex ∙ offered_by true (ap (lt best) (sym ex) ∙ p) z

  pub offered_weak : (x : Float) → x ≡ noisy g noise → lt best x ≡ false → get_or part u 0 ≡ 0
      → strong_in best vertex ws' ≡ offered_in part links u (strong_in best vertex ws)
  offered_weak x ex p z = offered_by false (ap (lt best) (sym ex) ∙ p) z

pub offered_other : (part : List ℕ) (links : List Float) (u : ℕ) (c : Strongest) → (get_or part u 0 ≡ 0 → ⊥) → c ≡ offered_in part links u c
offered_other part links u c d = sym (rw (ne_eqb (get_or part u 0) 0 d))

-- ---- connections ----

abbrev pub linked_pin : Float → ℕ → List Float → List Float
linked_pin w u l = set l u (add binary64 (get_or l u zero_float) w)

abbrev pub linked_pins : Float → List ℕ → List Float → List Float
linked_pins w pins links = fold_over (linked_pin w) pins links

-- the nets of a list, whose pins are in slots of two words
abbrev pub linked_net : List ℕ → ℕ → List ℕ → ℕ → List Float → List Float
linked_net ws nets weights e links = linked_pins (whole_float (get_or weights e 0)) (rising_of ws 2 (nets + e)) links

abbrev pub linked_nets : List ℕ → ℕ → List ℕ → List ℕ → List Float → List Float
linked_nets ws nets weights l links = fold_over (linked_net ws nets weights) l links

pub linked_length : (w : Float) (pins : List ℕ) (links : List Float) → length (linked_pins w pins links) ≡ length links
linked_length w [] links = refl
linked_length w (u ∷ l) links = linked_length w l (linked_pin w u links) ∙ length-set links u (add binary64 (get_or links u zero_float) w)

pub linked_same : (w : Float) (u : ℕ) (links links' : List Float) → links' ≡ linked_pin w u links → length links' ≡ length links
linked_same w u links links' e = ap length e ∙ length-set links u (add binary64 (get_or links u zero_float) w)
