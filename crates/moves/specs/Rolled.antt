-- Moves are taken back, the last one first. Assumes nothing.
use Rattle.std.specs.Prelude.{◌≡◌, refl, List, ℕ, ◌+◌, ◌-◌, ◌*◌, ◌<◌, Float, length, get_or, take}
use Rattle.std.proofs.Common.{sym, ap, ◌∙◌, subst, arith}
use Rattle.spec.specs.Hypergraph.{Hypergraph, Sides, fold_over, moved}
use Rattle.partition.specs.Folds.{fold_next}
use Rattle.moves.specs.Kept.{Kept, kept_all, kept_then}
use Rattle.moves.specs.Split.{Split, Moved}
use Rattle.moves.specs.Sums.{backwards, back_length, back_at}

-- the last i of so many moves were taken back
pub record Rolled (ws ws' : List ℕ) (sides : ℕ) (vw : List Float) (moves : List ℕ) (count i : ℕ) (S S' : Sides) : Type 0 where
  pub back : (G : Hypergraph) → G.weights ≡ vw → S' ≡ fold_over (moved G) (take i (backwards moves count)) S
  pub split : Split ws' sides (length vw) S'.part
  pub kept : Kept (sides * 2) ws ws'

module _ (ws : List ℕ) (sides : ℕ) (vw : List Float) (moves : List ℕ) (count : ℕ) (S : Sides) where
  pub rolled_none : Split ws sides (length vw) S.part → Rolled ws ws sides vw moves count 0 S S
  rolled_none h = record { back = λ G g. refl; split = h; kept = kept_all (sides * 2) ws }

  pub rolled_next : (ws' ws'' : List ℕ) (i v : ℕ) (S' S'' : Sides) → i < count → v ≡ get_or moves (count - 1 - i) 0
      → Rolled ws ws' sides vw moves count i S S' → Moved ws' ws'' sides vw v S' S'' → Rolled ws ws'' sides vw moves count (i + 1) S S''
  rolled_next ws' ws'' i v S' S'' b e h m =
      record {
        back = λ G g. fold_next (moved G) (backwards moves count) S S' S'' i (omega (arith, back_length moves count)) (h.back G g)
            (m.move G g ∙ ap (λ (x : ℕ). moved G x S') (e ∙ sym (back_at moves count i b)));
        split = m.split;
        kept = kept_then (sides * 2) ws ws' ws'' h.kept m.kept;
      }

  pub rolled_end : (ws' : List ℕ) (i k : ℕ) (S' : Sides) → i ≡ k → Rolled ws ws' sides vw moves count i S S' → Rolled ws ws' sides vw moves count k S S'
  rolled_end ws' i k S' e h = subst (λ (z : ℕ). Rolled ws ws' sides vw moves count z S S') e h
