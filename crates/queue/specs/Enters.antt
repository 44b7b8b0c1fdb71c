-- Vertices are entered into the queue. Assumes nothing.
use Rattle.std.specs.Prelude.{◌≡◌, List, ℕ, true, cond, ◌+◌, Float, set}
use Rattle.std.proofs.Common.{ap, ◌∙◌}
use Rattle.std.proofs.lemmas.List.{map-set}
use Rattle.spec.specs.Draws.{Words, unit_draw}
use Rattle.spec.specs.Lists.{range}
use Rattle.spec.specs.Hypergraph.{fold_over}
use Rattle.spec.specs.Fm.{Queue, key_of, entered_as}
use Rattle.partition.specs.declared.place.Place.{Place}
use Rattle.partition.specs.Layout.{graph_in, sides_in}
use Rattle.partition.specs.Gains.{IsGain}
use Rattle.partition.specs.Folds.{range_next}
use Rattle.queue.specs.declared.entries.Entry.{Entry}
use Rattle.queue.specs.Queues.{keys_of, stamps_of, waits_of, queue_in}

module _ (ws : List ℕ) (o : Place) where
  -- the queue after v was entered, whatever the vertices weigh
  abbrev pub entered_in : List ℕ → List Float → ℕ → ℕ → Queue → Queue
  entered_in weights vw stamp v q = entered_as (graph_in ws o.nets weights o.net_count vw) (sides_in ws o.sides o.vertex_count) stamp v q

  abbrev pub Entered : List ℕ → ℕ → ℕ → Queue → Queue → Type 0
  Entered weights stamp v q r = (vw : List Float) → r ≡ entered_in weights vw stamp v q

  pub entered_is : (weights : List ℕ) (stamp v : ℕ) (l l' : List Entry) (w w' : Words) (g u k : Float)
      → IsGain ws o.nets o.sides o.net_count o.vertex_count weights v g → u ≡ (unit_draw w).value → k ≡ key_of g u
      → l' ≡ set l v (record { key = k; stamp = stamp; waits = true }) → w' ≡ (unit_draw w).words → Entered weights stamp v (queue_in l w) (queue_in l' w')
  entered_is weights stamp v l l' w w' g u k p q e a d vw =
      λ i. record {
        keys = (ap keys_of a ∙ map-set (λ (x : Entry). x.key) l v _ ∙ ap (set (keys_of l) v) (e ∙ (λ j. key_of (p vw j) (q j)))) i;
        stamps = (ap stamps_of a ∙ map-set (λ (x : Entry). x.stamp) l v _) i;
        waiting = (ap waits_of a ∙ map-set (λ (x : Entry). cond x.waits 1 0) l v _) i;
        words = d i;
      }

  -- the first k vertices were entered with the stamp 0
  abbrev pub AllEntered : List ℕ → ℕ → Queue → Queue → Type 0
  AllEntered weights k q r = (vw : List Float) → r ≡ fold_over (entered_in weights vw 0) (range k) q

  pub one_more : (weights : List ℕ) (k : ℕ) (q g r : Queue) → AllEntered weights k q g → Entered weights 0 k g r → AllEntered weights (k + 1) q r
  one_more weights k q g r p e vw = range_next (entered_in weights vw 0) q g r k (p vw) (e vw)

  pub all_of : (weights : List ℕ) (k n : ℕ) (q r : Queue) → k ≡ n → AllEntered weights k q r → AllEntered weights n q r
  all_of weights k n q r e p vw = p vw ∙ ap (λ (z : ℕ). fold_over (entered_in weights vw 0) (range z) q) e
