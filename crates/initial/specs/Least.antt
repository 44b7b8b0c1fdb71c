-- The first try of the least cut is kept. Assumes nothing.
use Rattle.std.specs.Prelude.{Bool, false, cond, ◌≡◌, refl, List, ℕ, suc, ◌+◌, ◌-◌, ◌*◌, ◌≤◌, ◌<◌, Float, length, Option, None, Some}
use Rattle.std.proofs.Math.Bool.{true}
use Rattle.std.proofs.Common.{sym, ◌∙◌}
use Rattle.std.proofs.Math.Path.{ap, subst}
use native.Mathlib.Omega.{arith}
use Rattle.std.specs.Float.Ieee.{lt}
use Rattle.spec.specs.Draws.{Words, Drawn, drawn}
use Rattle.spec.specs.Hypergraph.{Hypergraph, cut}
use Rattle.spec.specs.Bisection.{Candidate, better, candidate_of, candidate, tries, part_of, initial}
use Rattle.partition.specs.Layout.{graph_in, place}
use Rattle.partition.specs.declared.place.Place.{Place}
use Rattle.moves.specs.Kept.{Kept, kept_all, kept_then, graph_kept, Site}
use Rattle.moves.specs.Laying.{Bits}
use Rattle.initial.specs.Tried.{Tried}

abbrev pub candidate_as : Float → List ℕ → Candidate
candidate_as c part = record { cut = c; part = part }

abbrev pub best_of : Option Float → List ℕ → Option Candidate
best_of None part = None
best_of (Some c) part = Some (candidate_as c part)

-- ---- the better one ----

module _ (part part' trial : List ℕ) (c b : Float) where
  pub better_new : (best : Option Float) → best ≡ Some b → lt c b ≡ true → part' ≡ trial
      → Some (candidate_as c part') ≡ Some (better (best_of best part) (candidate_as c trial))
  better_new best f e p =
      ap (λ z. Some (candidate_as c z)) p
      ∙ sym (ap (λ o. Some (better (best_of o part) (candidate_as c trial))) f ∙ ap (λ t. Some (cond t (candidate_as c trial) (candidate_as b part))) e)

  pub better_old : (best : Option Float) → best ≡ Some b → lt c b ≡ false → Some (candidate_as b part) ≡ Some (better (best_of best part) (candidate_as c trial))
  better_old best f e =
      sym (ap (λ o. Some (better (best_of o part) (candidate_as c trial))) f ∙ ap (λ t. Some (cond t (candidate_as c trial) (candidate_as b part))) e)

  pub better_first : (best : Option Float) → best ≡ None → part' ≡ trial → Some (candidate_as c part') ≡ Some (better (best_of best part) (candidate_as c trial))
  better_first best f p = ap (λ z. Some (candidate_as c z)) p ∙ sym (ap (λ o. Some (better (best_of o part) (candidate_as c trial))) f)

-- ---- try after try ----

-- the sides of a candidate are 0 and 1
abbrev Sound : Option Candidate → Type 0
Sound None = ◌≡◌ {A = ℕ} 0 0
Sound (Some c) = Bits c.part

better_sound : (o : Option Candidate) (c : Candidate) → Sound o → Bits c.part → Bits (better o c).part
better_sound None c h k = k
better_sound (Some b) c h k = pick (lt c.cut b.cut)
  where
    pick : (t : Bool) → Bits (cond t c b).part
    pick true = k
    pick false = h

module _ (weights : List ℕ) (vw : List Float) (nets vertices sides m : ℕ) (maxw : Float) (ws₀ : List ℕ) (words₀ : Words) where
  abbrev o : Place
  o = place nets vertices sides m (length vw)

  abbrev G : Hypergraph
  G = graph_in ws₀ nets weights m vw

  -- was a try made, where k were
  abbrev Any : ℕ → Option Float → Type 0
  Any k best = 0 < k → (c : Float) × (best ≡ Some c)

  -- k of n tries were made
  pub record Best (n : ℕ) (ws part : List ℕ) (best : Option Float) (words : Words) (k : ℕ) : Type 0 where
    pub left : tries G maxw (n - k) (best_of best part) words ≡ tries G maxw n None words₀
    pub any : Any k best
    pub sound : Sound (best_of best part)
    pub kept : Kept (sides * 2) ws₀ ws

  pub best_none : (n : ℕ) (part : List ℕ) → Best n ws₀ part None words₀ 0
  best_none n part =
      let e : n - 0 ≡ n = omega arith in
      record { left = ap (λ (j : ℕ). tries G maxw j None words₀) e; any = λ h. absurd (omega arith); sound = refl; kept = kept_all (sides * 2) ws₀ }

  pub best_next : (n : ℕ) (ws ws' part part' trial : List ℕ) (best : Option Float) (c c' : Float) (words words' : Words) (k : ℕ) → Site ws₀ o → k < n → Best n ws part best words k
      → Tried weights vw o maxw words words' ws ws' trial c → Some (candidate_as c' part') ≡ Some (better (best_of best part) (candidate_as c trial))
      → Best n ws' part' (Some c') words' (k + 1)
  best_next n ws ws' part part' trial best c c' words words' k site l h t e =
      let g : graph_in ws nets weights m vw ≡ G = graph_kept (sides * 2) ws₀ ws h.kept nets m weights vw (omega (arith, site.behind.0)) in
      let z : suc (n - (k + 1)) ≡ n - k = omega arith in
      record {
        left = (λ i. tries G maxw (n - (k + 1)) (e i) words')
            ∙ ap (λ (x : Float). tries G maxw (n - (k + 1)) (Some (better (best_of best part) (candidate_as x trial))) words') (t.weight ∙ ap (λ H. cut H trial) g)
            ∙ ap (λ (d : Drawn (List ℕ)). tries G maxw (n - (k + 1)) (Some (better (best_of best part) (candidate_of G maxw d.value))) d.words)
            (t.made ∙ ap (λ H. candidate H maxw words) g)
            ∙ ap (λ (j : ℕ). tries G maxw j (best_of best part) words) z ∙ h.left;
        any = λ q. (c', refl);
        sound = subst Sound (sym e) (better_sound (best_of best part) (candidate_as c trial) h.sound t.bits);
        kept = kept_then (sides * 2) ws₀ ws ws' h.kept t.kept;
      }

  pub record Initial (ws part : List ℕ) (words : Words) : Type 0 where
    pub chosen : drawn part words ≡ initial G maxw words₀
    pub bits : Bits part
    pub kept : Kept (sides * 2) ws₀ ws

  pub best_of_all : (ws part : List ℕ) (best : Option Float) (words : Words) (k : ℕ) → 8 ≤ k → Best 8 ws part best words k → Initial ws part words
  unfolding initial
  best_of_all ws part best words k l h =
      let (c, f) = h.any (omega arith) in
      let z : 0 ≡ 8 - k = omega arith in
      record {
        chosen = ap (λ x. drawn (part_of G maxw (best_of x part)) words) (sym f)
            ∙ ap (λ (d : Drawn (Option Candidate)). drawn (part_of G maxw d.value) d.words) (ap (λ (j : ℕ). tries G maxw j (best_of best part) words) z ∙ h.left);
        bits = subst (λ (x : Option Float). Sound (best_of x part)) f h.sound;
        kept = h.kept;
      }
