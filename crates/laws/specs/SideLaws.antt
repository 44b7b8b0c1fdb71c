-- LAW B10: the partitions that bisection comes to have a side, 0 or 1, for each vertex. Assumes nothing.
use Rattle.std.specs.Prelude.{◌≡◌, refl, Bool, true, false, cond, List, [], ◌∷◌, map, ℕ, zero, suc, ◌-◌, ◌*◌, ◌<◌, leb, Float, length, get_or, set, take, replicate, Option, None, Some}
use Rattle.std.proofs.Common.{◌∙◌, subst, arith, length-set}
use Rattle.std.proofs.Math.Bool.{not}
use Rattle.std.specs.Float.{binary64}
use Rattle.std.specs.Float.Ieee.{add, div, le, lt}
use Rattle.std.proofs.lemmas.List.{length-replicate, length-map}
use Rattle.spec.specs.Lists.{range}
use Rattle.spec.specs.Members.{All}
use Rattle.spec.specs.Floats.{zero_float, whole_float}
use Rattle.spec.specs.Draws.{Words, Drawn, index_draw}
use Rattle.spec.specs.Hypergraph.{until, fold_over, Hypergraph, vertex_count, vertex_weight, total_weight, side_of, other_side, Sides, sides_of, moved}
use Rattle.spec.specs.Fm.{Entry, Pass, Refined, fits_in, turn_of, largest, pass_turn, run_pass, start_pass, end_pass, fm}
use Rattle.spec.specs.Coarsen.{Level, coarse_of, matching, coarsen}
use Rattle.spec.specs.Bisection.{Growth, half, growth_turn, ended, grown, Candidate, better, candidate_of, candidate, tries, part_of, initial, side_limit, through_level, multilevel, bisect}
use Rattle.spec.specs.GraphClaims.{Sided, GrownSided, RefinedSided, PlacedSided, InitialSided, MultilevelSided, BisectSided}
use Rattle.laws.specs.ListLaws.{range_length}
use Rattle.laws.specs.GraphLaws.{level_from}

-- ---- what every turn keeps ----

pub cond_has : {S : Type 0} (P : S → Type 0) (b : Bool) (x y : S) → P x → P y → P (cond b x y)
cond_has P true x y h k = h
cond_has P false x y h k = k

pub until_has : {S : Type 0} (P : S → Type 0) (k : ℕ) (stop : S → Bool) (f : S → S) → ((s : S) → P s → P (f s)) → (s : S) → P s → P (until k stop f s)
until_has P zero stop f h s p = p
until_has P (suc k) stop f h s p = cond_has P (stop s) s (until k stop f (f s)) p (until_has P k stop f h (f s) (h s p))

pub fold_has : {A S : Type 0} (P : S → Type 0) (Q : A → Type 0) (f : A → S → S) → ((x : A) (s : S) → Q x → P s → P (f x s))
    → (l : List A) (s : S) → All Q l → P s → P (fold_over f l s)
fold_has P Q f h [] s q p = p
fold_has P Q f h (x ∷ l) s q p = fold_has P Q f h l (f x s) q.1 (h x s q.0 p)

pub all_any : {A : Type 0} (l : List A) → All (λ x. Unit {0}) l
all_any [] = tt
all_any (x ∷ l) = (tt, all_any l)

-- ---- lists of sides ----

pub all_set : {A : Type 0} (P : A → Type 0) (l : List A) (i : ℕ) (x : A) → All P l → P x → All P (set l i x)
all_set P [] i x h p = tt
all_set P (y ∷ l) zero x h p = (p, h.1)
all_set P (y ∷ l) (suc i) x h p = (h.0, all_set P l i x h.1 p)

pub all_replicate : {A : Type 0} (P : A → Type 0) (n : ℕ) (x : A) → P x → All P (replicate n x)
all_replicate P zero x p = tt
all_replicate P (suc n) x p = (p, all_replicate P n x p)

pub all_at : {A : Type 0} (P : A → Type 0) (l : List A) (i : ℕ) (d : A) → All P l → P d → P (get_or l i d)
all_at P [] i d h p = p
all_at P (x ∷ l) zero d h p = h.0
all_at P (x ∷ l) (suc i) d h p = all_at P l i d h.1 p

all_mapped : {A B : Type 0} (P : B → Type 0) (f : A → B) (l : List A) → ((x : A) → P (f x)) → All P (map f l)
all_mapped P f [] h = tt
all_mapped P f (x ∷ l) h = (h x, all_mapped P f l h)

sided_set : (n : ℕ) (part : List ℕ) (v x : ℕ) → x < 2 → Sided n part → Sided n (set part v x)
sided_set n part v x b h = record { long = length-set part v x ∙ h.long; low = all_set (λ s. s < 2) part v x h.low b }

pub side_low : (n : ℕ) (part : List ℕ) (v : ℕ) → Sided n part → side_of part v < 2
side_low n part v h = all_at (λ s. s < 2) part v 0 h.low (omega arith)

-- ---- refinement ----

module _ (G : Hypergraph) (n : ℕ) where
  abbrev SidesOk : Sides → Type 0
  SidesOk S = Sided n S.part

  pub moved_sided : (v : ℕ) (S : Sides) → SidesOk S → SidesOk (moved G v S)
  moved_sided v S h = sided_set n S.part v (other_side (side_of S.part v)) (omega arith) h

  module _ (maxw : Float) where
    abbrev PassOk : Pass → Type 0
    PassOk p = SidesOk p.sides

    pub turn_of_lem : (o : Option Entry) (p : Pass) → PassOk p → PassOk (turn_of G maxw o p)
    turn_of_lem None p h = h
    turn_of_lem (Some e) p h = cond_has PassOk (fits_in G maxw e.vertex p.sides) _ _ (moved_sided e.vertex p.sides h) h

    pub turn_sided : (p : Pass) → PassOk p → PassOk (pass_turn G maxw p)
    turn_sided p h = turn_of_lem (largest (vertex_count G) p.queue) p h

    pub end_sided : (p : Pass) → PassOk p → SidesOk (end_pass G maxw p).sides
    end_sided p h =
        let l = take (length p.gains.moves - p.gains.best_at) p.gains.moves in
        fold_has SidesOk (λ v. Unit {0}) (moved G) (λ v S q k. moved_sided v S k) l p.sides (all_any l) h

    run_sided : (p : Pass) → PassOk p → PassOk (run_pass G maxw p)
    run_sided p h = until_has PassOk (suc (vertex_count G) * suc (vertex_count G)) (λ t. t.over) (pass_turn G maxw) turn_sided p h

    fm_sided : (k : ℕ) (part : List ℕ) (ws : Words) → Sided n part → Sided n (fm G maxw k part ws).value
    unfolding fm
    fm_sided k part ws h =
        until_has (λ (r : Refined). SidesOk r.sides) k (λ x. not x.better) (λ x. end_pass G maxw (run_pass G maxw (start_pass G maxw x.sides x.words)))
        (λ r q. end_sided (run_pass G maxw (start_pass G maxw r.sides r.words)) (run_sided (start_pass G maxw r.sides r.words) q))
        (record { sides = sides_of G part; better = true; words = ws }) h

pub refined_sided : RefinedSided
refined_sided G maxw k part ws h = fm_sided G (vertex_count G) maxw k part ws h

-- ---- a first partition ----

module _ (G : Hypergraph) where
  abbrev n : ℕ
  n = vertex_count G

  abbrev GrowthOk : Growth → Type 0
  GrowthOk g = Sided n g.part

  growth_sided : (o : Option ℕ) (g : Growth) → GrowthOk g → GrowthOk (growth_turn G o g)
  growth_sided None g h = h
  growth_sided (Some v) g h =
      let s : Sided n (set g.part v 1) = sided_set n g.part v 1 (omega arith) h in
      cond_has GrowthOk (le (half G) (add binary64 g.weight (vertex_weight G v))) _ _ s s

  pub grown_sided_of : (ws : Words) → Sided n (grown G ws).part
  grown_sided_of ws =
      let seed = index_draw n ws in
      until_has GrowthOk (suc n) (λ g. ended G g.next) (λ g. growth_turn G g.next g) (λ g h. growth_sided g.next g h)
      (record { part = replicate n 0; weight = zero_float; links = replicate n zero_float; next = Some seed.value; words = seed.words })
      (record { long = length-replicate {A = ℕ} n 0; low = all_replicate (λ s. s < 2) n 0 (omega arith) })

  module _ (maxw : Float) where
    candidate_sided : (ws : Words) → Sided n (candidate G maxw ws).value
    candidate_sided ws = refined_sided G maxw 8 (grown G ws).part (grown G ws).words (grown_sided_of ws)

    more_tries : (k : ℕ) (b : Candidate) (ws : Words) → Sided n b.part → Sided n (part_of G maxw (tries G maxw k (Some b) ws).value)
    more_tries zero b ws h = h
    more_tries (suc k) b ws h =
        let c = candidate_of G maxw (candidate G maxw ws).value in
        more_tries k (better (Some b) c) (candidate G maxw ws).words
        (cond_has (λ (x : Candidate). Sided n x.part) (lt c.cut b.cut) c b (candidate_sided ws) h)

    tries_sided : (k : ℕ) (ws : Words) → Sided n (part_of G maxw (tries G maxw (suc k) None ws).value)
    tries_sided k ws = more_tries k (candidate_of G maxw (candidate G maxw ws).value) (candidate G maxw ws).words (candidate_sided ws)

pub grown_sided : GrownSided
grown_sided = grown_sided_of

pub initial_sided : InitialSided
unfolding initial
initial_sided G maxw ws = tries_sided G maxw 7 ws

-- ---- through coarser hypergraphs ----

places_length : (G : Hypergraph) (maxw : Float) (ws : Words) (l : Level) → (coarsen G maxw ws).value ≡ Some l → length l.places ≡ vertex_count G
places_length G maxw ws l e =
    let mates = (matching G maxw ws).value in
    subst (λ (x : Level). length x.places ≡ vertex_count G) (level_from G maxw ws l e)
    (length-map (range (vertex_count G)) (coarse_of G maxw mates) ∙ range_length 0 (vertex_count G))

pub placed_sided : PlacedSided
placed_sided G maxw ws l part e h =
    record {
      long = length-map l.places (side_of part) ∙ places_length G maxw ws l e;
      low = all_mapped (λ s. s < 2) (side_of part) l.places (λ v. side_low (vertex_count l.graph) part v h);
    }

-- a level of a hypergraph, if there is one
through_sided : (G : Hypergraph) (maxw most : Float) (ws : Words) (go : Hypergraph → Words → Drawn (List ℕ))
    → ((H : Hypergraph) (w : Words) → Sided (vertex_count H) (go H w).value) → (o : Option Level) → (coarsen G most ws).value ≡ o
    → Sided (vertex_count G) (through_level G maxw o (coarsen G most ws).words go).value
through_sided G maxw most ws go h None e = initial_sided G maxw (coarsen G most ws).words
through_sided G maxw most ws go h (Some l) e =
    let d = go l.graph (coarsen G most ws).words in
    refined_sided G maxw 4 (map (side_of d.value) l.places) d.words (placed_sided G most ws l d.value e (h l.graph (coarsen G most ws).words))

pub multilevel_sided : MultilevelSided
multilevel_sided zero maxw G ws = initial_sided G maxw ws
multilevel_sided (suc fuel) maxw G ws =
    let most = div binary64 maxw (whole_float 3) in
    cond_has (λ (d : Drawn (List ℕ)). Sided (vertex_count G) d.value) (leb (vertex_count G) 48) (initial G maxw ws) _ (initial_sided G maxw ws)
    (through_sided G maxw most ws (λ H w. multilevel fuel maxw H w) (λ H w. multilevel_sided fuel maxw H w) (coarsen G most ws).value refl)

pub bisect_sided : BisectSided
unfolding bisect
bisect_sided G eps ws = multilevel_sided (vertex_count G) (side_limit (total_weight G) eps) G ws
