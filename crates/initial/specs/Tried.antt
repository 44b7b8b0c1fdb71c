-- One try: a growth, refined, and the weight of its cut nets. Assumes nothing.
use Rattle.std.specs.Prelude.{◌≡◌, List, ℕ, suc, ◌*◌, Float, length, set, Option, None, Some}
use Rattle.std.proofs.Common.{sym, ap, ◌∙◌, subst, arith, length-set, get_or-set_same, get_or-set_other}
use Rattle.std.proofs.Math.Decide.{ℕ_discrete, dec_le}
use Rattle.std.specs.Float.{binary64}
use Rattle.std.specs.Float.Ieee.{add, le}
use Rattle.std.proofs.Math.ListN.{replicate, get_or-eq_default}
use Rattle.spec.specs.Memory.{filled}
use Rattle.spec.specs.Floats.{zero_float}
use Rattle.spec.specs.Draws.{Words, Drawn, drawn, index_draw}
use Rattle.spec.specs.Hypergraph.{Hypergraph, cut, vertex_count, vertex_weight}
use Rattle.spec.specs.Fm.{fm}
use Rattle.spec.specs.Bisection.{Growth, half, growth_turn, ended, grown, candidate}
use Rattle.laws.specs.SideLaws.{cond_has, until_has}
use Rattle.partition.specs.Layout.{graph_in, place}
use Rattle.partition.specs.Cuts.{IsCutWeight}
use Rattle.partition.specs.declared.place.Place.{Place}
use Rattle.growth.specs.Grown.{part_grown}
use Rattle.moves.specs.Kept.{Kept, graph_kept, Site}
use Rattle.moves.specs.Split.{split_sides}
use Rattle.moves.specs.Laying.{Bits}
use Rattle.refine.specs.Starts.{zero_filled}
use Rattle.refine.specs.Passes.{Halves}

-- ---- a growth has sides 0 and 1 ----

bits_set : (part : List ℕ) (v : ℕ) → Bits part → Bits (set part v 1)
bits_set part v h u =
    elim (ℕ_discrete u v) [
      | yes e ↦ elim (dec_le (length part) v) [
        | yes b ↦ rw e (rw (get_or-eq_default (set part v 1) 0 {n = v} (omega (arith, length-set part v 1))) (omega arith))
        | no b ↦ rw e (rw (get_or-set_same part v 1 0 (omega arith)) (omega arith))
      ]
      | no f ↦ rw (get_or-set_other part v u 1 0 f) (h u)
    ]

module _ (G : Hypergraph) where
  turn_bits : (o : Option ℕ) (g : Growth) → Bits g.part → Bits (growth_turn G o g).part
  turn_bits None g h = h
  turn_bits (Some v) g h = cond_has (λ (x : Growth). Bits x.part) (le (half G) (add binary64 g.weight (vertex_weight G v))) _ _ (bits_set g.part v h) (bits_set g.part v h)

  grown_bits : (ws : Words) → Bits (grown G ws).part
  unfolding filled
  grown_bits ws =
      until_has (λ (g : Growth). Bits g.part) (suc (vertex_count G)) (λ g. ended G g.next) (λ g. growth_turn G g.next g) (λ g h. turn_bits g.next g h)
      (record {
        part = replicate (vertex_count G) 0;
        weight = zero_float;
        links = replicate (vertex_count G) zero_float;
        next = Some (index_draw (vertex_count G) ws).value;
        words = (index_draw (vertex_count G) ws).words;
      })
      (λ u. omega (arith, zero_filled (vertex_count G) u))

  pub grown_sided : (part : List ℕ) (ws ws' : Words) → drawn part ws' ≡ part_grown G ws → Bits part
  grown_sided part ws ws' e = subst Bits (sym (ap (λ (d : Drawn (List ℕ)). d.value) e)) (grown_bits ws)

-- ---- a try ----

pub record Tried (weights : List ℕ) (vw : List Float) (o : Place) (maxw : Float) (words words' : Words) (ws ws' part : List ℕ) (c : Float) : Type 0 where
  pub made : drawn part words' ≡ candidate (graph_in ws o.nets weights o.net_count vw) maxw words
  pub weight : c ≡ cut (graph_in ws o.nets weights o.net_count vw) part
  pub bits : Bits part
  pub kept : Kept (o.sides * 2) ws ws'

pub tried : (weights : List ℕ) (vw : List Float) (nets vertices sides m : ℕ) (maxw : Float) (words words₁ words₂ : Words) (ws ws' part₁ part₂ : List ℕ) (c : Float)
    → Site ws (place nets vertices sides m (length vw)) → drawn part₁ words₁ ≡ part_grown (graph_in ws nets weights m vw) words
    → Halves weights vw (place nets vertices sides m (length vw)) maxw 8 ws ws' part₁ part₂ words₁ words₂ → IsCutWeight ws' nets sides weights m (length vw) c
    → Tried weights vw (place nets vertices sides m (length vw)) maxw words words₂ ws ws' part₂ c
tried weights vw nets vertices sides m maxw words words₁ words₂ ws ws' part₁ part₂ c site eg h ec =
    let g : graph_in ws' nets weights m vw ≡ graph_in ws nets weights m vw = graph_kept (sides * 2) ws ws' h.kept nets m weights vw (omega (arith, site.behind.0)) in
    record {
      made = h.refined ∙ ap (λ (d : Drawn (List ℕ)). fm (graph_in ws nets weights m vw) maxw 8 d.value d.words) eg;
      weight = ec vw ∙ (λ i. cut (g i) (split_sides ws' sides (length vw) part₂ h.split i));
      bits = h.split.bits;
      kept = h.kept;
    }
