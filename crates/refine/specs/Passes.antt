-- A pass, and passes while they bring something. Assumes nothing.
use Rattle.std.specs.Prelude.{Bool, true, false, not, ◌≡◌, List, [], ◌∷◌, ℕ, ◌+◌, ◌-◌, ◌*◌, ◌≤◌, ◌<◌, Float, length, take}
use Rattle.std.proofs.Math.Path.{refl, ap}
use Rattle.std.proofs.Common.{sym, ◌∙◌, subst, arith}
use Rattle.std.specs.Float.Ieee.{le}
use Rattle.spec.specs.Floats.{zero_float, nano}
use Rattle.spec.specs.Draws.{Words, drawn}
use Rattle.spec.specs.Hypergraph.{Hypergraph, Sides, fold_over, moved}
use Rattle.spec.specs.Fm.{Pass, Refined, run_pass, start_pass, rolled_back, end_pass, passes, fm}
use Rattle.partition.specs.Layout.{graph_in}
use Rattle.partition.specs.declared.place.Place.{Place}
use Rattle.partition.specs.Layout.{place, place_of}
use Rattle.partition.specs.declared.layout.Layout.{Layout}
use Rattle.queue.specs.declared.entries.Entry.{Entry}
use Rattle.queue.specs.Queues.{keys_of, stamps_of, waits_of}
use Rattle.moves.specs.Kept.{Kept, kept_all, kept_then, graph_kept, Site}
use Rattle.moves.specs.Split.{Split, sides_as}
use Rattle.moves.specs.Sums.{weight_in, backwards, back_length}
use Rattle.moves.specs.Rolled.{Rolled}
use Rattle.fmpass.specs.State.{lists, Run, run, pass_in, Brings}
use Rattle.fmpass.specs.Until.{Left, left_all, left_next, left_stop, left_none}
use Rattle.refine.specs.Starts.{Starts}

abbrev pub refined_as : List ℕ → List Float → Bool → Words → Refined
refined_as part loads better ws = record { sides = sides_as part loads; better = better; words = ws }

abbrev pub one_pass : Float → Hypergraph → Refined → Refined
one_pass maxw G x = end_pass G maxw (run_pass G maxw (start_pass G maxw x.sides x.words))

-- sides, what a pass brought and the words become those after f; the slots hold the partition again, and the hypergraph stays
pub record Leads (weights : List ℕ) (vw : List Float) (o : Place) (f : Hypergraph → Refined → Refined) (ws ws' : List ℕ) (x x' : Refined) : Type 0 where
  pub refined : x' ≡ f (graph_in ws o.nets weights o.net_count vw) x
  pub split : Split ws' o.sides o.vertex_count x'.sides.part
  pub kept : Kept (o.sides * 2) ws ws'

module _ (weights : List ℕ) (vw : List Float) (nets vertices sides m : ℕ) (maxw : Float) where
  abbrev o : Place
  o = place nets vertices sides m (length vw)

  -- ---- one pass ----

  module _ (ws ws₁ ws₂ ws₃ part₀ part part₂ part₃ : List ℕ) (loads₀ loads loads₂ loads₃ keys₂ : List Float) (stamps₂ waiting₂ moves moves₂ : List ℕ) (l : List Entry) (w w₁ : Words) (R : Run) (better : Bool)
      (site : Site ws o) (room : length vw ≤ length moves) (es : sides_as part loads ≡ sides_as part₀ loads₀)
      (st : Starts ws ws₁ weights vw o part w w₁ l)
      (br : Brings weights vw o (λ H p. run_pass H maxw p) (lists ws₁ part loads (keys_of l) (stamps_of l) (waits_of l) moves) (lists ws₂ part₂ loads₂ keys₂ stamps₂ waiting₂ moves₂)
      (run 0 zero_float zero_float 0 w₁ false) R)
      (ro : Rolled ws₂ ws₃ sides vw moves₂ R.count (R.count - R.peak) (sides_as part₂ loads₂) (sides_as part₃ loads₃))
      (eb : better ≡ not (le R.best nano)) where
    abbrev G : Hypergraph
    G = graph_in ws nets weights m vw

    abbrev after : Pass
    after = pass_in (lists ws₂ part₂ loads₂ keys₂ stamps₂ waiting₂ moves₂) R

    ran : after ≡ run_pass G maxw (start_pass G maxw (sides_as part₀ loads₀) w)
    ran =
        let g : graph_in ws₁ nets weights m vw ≡ G = graph_kept (sides * 2) ws ws₁ st.kept nets m weights vw (omega (arith, site.behind.0)) in
        br.pass ∙ (λ i. run_pass (g i) maxw (record { sides = sides_as part loads; queue = st.queue i; gains = record { moves = []; sum = zero_float; best = zero_float; best_at = 0 }; over = false }))
        ∙ ap (λ (S : Sides). run_pass G maxw (start_pass G maxw S w)) es

    rolled : sides_as part₃ loads₃ ≡ rolled_back G maxw (sides_as part₂ loads₂) after.gains
    unfolding graph_in
    rolled =
        ro.back G refl
        ∙ ap (λ (k : ℕ). fold_over (moved G) (take (k - R.peak) (backwards moves₂ R.count)) (sides_as part₂ loads₂)) (sym (back_length moves₂ R.count))

    pub pass_leads : Leads weights vw o (one_pass maxw) ws ws₃ (refined_as part₀ loads₀ true w) (refined_as part₃ loads₃ better R.words)
    pass_leads =
        record {
          refined = (λ i. record { sides = rolled i; better = eb i; words = R.words }) ∙ ap (end_pass G maxw) ran;
          split = ro.split;
          kept = kept_then (sides * 2) ws ws₁ ws₃ st.kept (kept_then (sides * 2) ws₁ ws₂ ws₃ br.kept ro.kept);
        }

  -- ---- pass after pass ----

  module _ (n : ℕ) (ws₀ : List ℕ) (x₀ : Refined) where
    abbrev G₀ : Hypergraph
    G₀ = graph_in ws₀ nets weights m vw

    -- k passes were made
    pub record Passes (ws : List ℕ) (x : Refined) (k : ℕ) : Type 0 where
      pub left : Left (λ (z : Refined). not z.better) (one_pass maxw G₀) n x₀ k x
      pub split : Split ws sides (length vw) x.sides.part
      pub kept : Kept (sides * 2) ws₀ ws

    pub passes_none : Split ws₀ sides (length vw) x₀.sides.part → Passes ws₀ x₀ 0
    passes_none s = record { left = left_all _ _ n x₀; split = s; kept = kept_all (sides * 2) ws₀ }

    pub passes_next : (ws ws' part : List ℕ) (loads : List Float) (words : Words) (x' : Refined) (k : ℕ) → Site ws₀ o → k < n
        → Passes ws (refined_as part loads true words) k → Leads weights vw o (one_pass maxw) ws ws' (refined_as part loads true words) x' → Passes ws' x' (k + 1)
    passes_next ws ws' part loads words x' k site l h b =
        let g : graph_in ws nets weights m vw ≡ G₀ = graph_kept (sides * 2) ws₀ ws h.kept nets m weights vw (omega (arith, site.behind.0)) in
        record {
          left = left_next _ _ n x₀ k (refined_as part loads true words) x' l refl h.left
              (b.refined ∙ ap (λ H. one_pass maxw H (refined_as part loads true words)) g);
          split = b.split;
          kept = kept_then (sides * 2) ws₀ ws ws' h.kept b.kept;
        }

    -- whether the pass brought something is known
    pub passes_as : (ws part : List ℕ) (loads : List Float) (words : Words) (better r : Bool) (k : ℕ) → better ≡ r → Passes ws (refined_as part loads better words) k → Passes ws (refined_as part loads r words) k
    passes_as ws part loads words better r k e h = subst (λ (t : Bool). Passes ws (refined_as part loads t words) k) e h

    pub passes_stop : (ws part : List ℕ) (loads : List Float) (words : Words) (k : ℕ) → Passes ws (refined_as part loads false words) k
        → Leads weights vw o (λ H z. passes H maxw n z) ws₀ ws x₀ (refined_as part loads false words)
    passes_stop ws part loads words k h =
        record { refined = left_stop _ _ n x₀ k (refined_as part loads false words) refl h.left; split = h.split; kept = h.kept }

    pub passes_end : (ws : List ℕ) (x : Refined) (k : ℕ) → n ≤ k → Passes ws x k → Leads weights vw o (λ H z. passes H maxw n z) ws₀ ws x₀ x
    passes_end ws x k e h = record { refined = left_none _ _ n x₀ k x e h.left; split = h.split; kept = h.kept }

-- ---- all of it ----

-- the partition after so many passes at most, and the words; the slots hold it, and the hypergraph stays
pub record Halves (weights : List ℕ) (vw : List Float) (o : Place) (maxw : Float) (n : ℕ) (ws ws' part part' : List ℕ) (w w' : Words) : Type 0 where
  pub refined : drawn part' w' ≡ fm (graph_in ws o.nets weights o.net_count vw) maxw n part w
  pub split : Split ws' o.sides o.vertex_count part'
  pub kept : Kept (o.sides * 2) ws ws'

-- the same of the hypergraph of a layout
abbrev pub Refines : Layout → Float → ℕ → List ℕ → List ℕ → List ℕ → List ℕ → Words → Words → Type 0
Refines y maxw n ws ws' part part' w w' = Halves y.net_weights.now y.vertex_weights.now (place_of y) maxw n ws ws' part part' w w'

pub split_as : (ws : List ℕ) (sides k n : ℕ) (part : List ℕ) → k ≡ n → Split ws sides k part → Split ws sides n part
split_as ws sides k n part e h = subst (λ (z : ℕ). Split ws sides z part) e h

pub halves : (weights : List ℕ) (vw : List Float) (nets vertices sides m : ℕ) (maxw : Float) (n : ℕ) (ws ws₁ ws₂ part part' : List ℕ) (loads loads' : List Float) (w w' : Words) (better : Bool)
    → Site ws (place nets vertices sides m (length vw)) → Kept (sides * 2) ws ws₁
    → loads ≡ weight_in part vw 0 ∷ weight_in part vw 1 ∷ []
    → Leads weights vw (place nets vertices sides m (length vw)) (λ H z. passes H maxw n z) ws₁ ws₂ (refined_as part loads true w) (refined_as part' loads' better w')
    → Halves weights vw (place nets vertices sides m (length vw)) maxw n ws ws₂ part part' w w'
unfolding fm graph_in
halves weights vw nets vertices sides m maxw n ws ws₁ ws₂ part part' loads loads' w w' better site k e b =
    let g : graph_in ws₁ nets weights m vw ≡ graph_in ws nets weights m vw = graph_kept (sides * 2) ws ws₁ k nets m weights vw (omega (arith, site.behind.0)) in
    record {
      refined = ap (λ (x : Refined). drawn x.sides.part x.words) (b.refined ∙ (λ i. passes (g i) maxw n (refined_as part (e i) true w)));
      split = b.split;
      kept = kept_then (sides * 2) ws ws₁ ws₂ k b.kept;
    }

-- lists that hold the same
pub halves_as : (weights : List ℕ) (vw : List Float) (o : Place) (maxw : Float) (n : ℕ) (ws ws' ws'' part part' part'' : List ℕ) (w w' : Words) → ws'' ≡ ws' → part'' ≡ part'
    → Halves weights vw o maxw n ws ws' part part' w w' → Halves weights vw o maxw n ws ws'' part part'' w w'
halves_as weights vw o maxw n ws ws' ws'' part part' part'' w w' e f h =
    subst (λ (x : List ℕ). Halves weights vw o maxw n ws x part part'' w w') (sym e) (subst (λ (x : List ℕ). Halves weights vw o maxw n ws ws' part x w w') (sym f) h)
