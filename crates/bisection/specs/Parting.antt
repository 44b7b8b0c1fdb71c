-- A partition of the leaves' hypergraph, from that hypergraph in slots. Assumes nothing.
use Rattle.std.specs.Prelude.{◌≡◌, List, ◌++◌, ℕ, ◌+◌, ◌≤◌, ◌<◌, Float, length, take, drop, replicate}
use Rattle.std.proofs.Common.{sym, ap, ◌∙◌, arith, length-append, take-append-drop, take_at, length-take-le}
use Rattle.std.proofs.lemmas.List.{length-replicate}
use Rattle.spec.specs.Network.{Network}
use Rattle.spec.specs.Draws.{Words, drawn}
use Rattle.spec.specs.Hypergraph.{Hypergraph}
use Rattle.spec.specs.Bisection.{bisect}
use Rattle.partition.specs.Layout.{graph_in}
use Rattle.bisect.specs.Whole.{IsOf}
use Rattle.bisect.specs.Cuts.{Partitioned}
use Rattle.levels.specs.Stage.{Stage}

-- an array of k places, once its front is back
pub put_back : {A : Type 0} (x : A) (k n : ℕ) (y : List A) → length y ≡ length (take n (replicate k x)) → length (y ++ drop n (replicate k x)) ≡ k
put_back x k n y e =
    length-append y (drop n (replicate k x))
    ∙ ap (λ (j : ℕ). j + length (drop n (replicate k x))) e
    ∙ sym (length-append (take n (replicate k x)) (drop n (replicate k x)))
    ∙ ap length (take-append-drop n (replicate k x))
    ∙ length-replicate k x

-- the front of a list, lent and back
front_back : {A : Type 0} (l y : List A) (n : ℕ) → n ≤ length l → length y ≡ length (take n l) → take n (y ++ drop n l) ≡ y
front_back l y n h e = take_at y (drop n l) n (e ∙ length-take-le n l h)

module _ (N : Network) (leaves ws : List ℕ) (k : ℕ) (ws' netw : List ℕ) (m : ℕ) (vw₁ : List Float) (is : IsOf N leaves ws 0 128 k ws' netw m vw₁) where
  -- level 0 stands there
  pub stage_of : 2 < length leaves → length leaves ≤ 128 → 32768 ≤ length ws' → (a b c : ℕ) → 7168 ≤ a → 3584 ≤ b → 3584 ≤ c
      → Stage ws' a b c 0 m (length leaves)
  stage_of some few words a b c ha hb hc =
      record {
        some_left = omega arith;
        low = omega arith;
        room = omega arith;
        mesh = is.meshed;
        within = is.within;
        words = omega arith;
        nets_fit = ha;
        vertices_fit = hb;
        places_fit = hc;
      }

  pub partitioned : (vw : List Float) (part part₁ : List ℕ) (eps : Float) (at next : Words) → length leaves ≤ length vw → length leaves ≤ length part
      → length vw₁ ≡ length (take (length leaves) vw) → length part₁ ≡ length (take (length leaves) part)
      → drawn part₁ next ≡ bisect (graph_in ws' 0 netw m (take (length leaves) (vw₁ ++ drop (length leaves) vw))) eps at
      → Partitioned N leaves eps at (part₁ ++ drop (length leaves) part) next
  partitioned vw part part₁ eps at next hv hp ev ep q =
      ap (λ (l : List ℕ). drawn l next) (front_back part part₁ (length leaves) hp ep)
      ∙ q
      ∙ ap (λ (l : List Float). bisect (graph_in ws' 0 netw m l) eps at) (front_back vw vw₁ (length leaves) hv ev)
      ∙ ap (λ (G : Hypergraph). bisect G eps at) is.graph_is
