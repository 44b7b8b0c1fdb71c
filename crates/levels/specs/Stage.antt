-- The levels of a bisection in lists that hold them all: level l has its nets in slots of two words from 512 l on, its vertices in slots of four words
-- from 256 l + 128 on, its nets' weights from place 256 l on, its vertices' weights and the map to the next level from place 128 l on. Assumes nothing.
use Rattle.std.specs.Prelude.{◌≡◌, refl, List, [], ◌∷◌, ◌++◌, ℕ, zero, suc, ◌+◌, ◌-◌, ◌*◌, ◌≤◌, ◌<◌, Float, length, take, drop}
use Rattle.std.proofs.Common.{sym, ap, ◌∙◌, subst, arith, take-take, take_at}
use Rattle.std.proofs.Math.Seq.{take-nil}
use Rattle.spec.specs.Draws.{Words, Drawn, drawn}
use Rattle.spec.specs.Hypergraph.{Hypergraph}
use Rattle.partition.specs.Layout.{graph_in}
use Rattle.partition.specs.Layout.{place}
use Rattle.matching.specs.Meshed.{Meshed}
use Rattle.mesh.specs.Compact.{Within}
use Rattle.moves.specs.Kept.{Kept, kept_then, graph_kept, Site, site_kept}
use Rattle.moves.specs.Laying.{Bits}
use Rattle.levels.specs.Spans.{span}

-- ---- lists ----

module _ {A : Type 0} where
  -- the first k places stay, and the length
  abbrev pub Front : ℕ → List A → List A → Type 0
  Front k l l' = (take k l' ≡ take k l) × (length l' ≡ length l)

  pub front_none : (k : ℕ) (l : List A) → Front k l l
  front_none k l = (refl, refl)

  pub front_then : (k j : ℕ) (a b c : List A) → k ≤ j → Front k a b → Front j b c → Front k a c
  front_then k j a b c h p q = (sym (take-take k j c h) ∙ ap (take k) q.0 ∙ take-take k j b h ∙ p.0, q.1 ∙ p.1)

  take-drop : (a n : ℕ) (l : List A) → take n (drop a l) ≡ drop a (take (a + n) l)
  take-drop zero n l = let e : n ≡ 0 + n = omega arith in ap (λ (k : ℕ). take k l) e
  take-drop (suc a) n [] = take-nil n ∙ sym (ap (drop (suc a)) (take-nil (suc a + n)))
  take-drop (suc a) n (x ∷ l) = take-drop a n l ∙ (let e : suc (a + n) ≡ suc a + n = omega arith in ap (λ (k : ℕ). drop (suc a) (take k (x ∷ l))) e)

  pub front_span : (k a e : ℕ) (l l' : List A) → a ≤ e → e ≤ k → Front k l l' → span a e l' ≡ span a e l
  front_span k a e l l' b h p =
      let z : a + (e - a) ≤ k = omega arith in
      take-drop a (e - a) l' ∙ ap (drop a) (sym (take-take (a + (e - a)) k l' z) ∙ ap (take (a + (e - a))) p.0 ∙ take-take (a + (e - a)) k l z)
      ∙ sym (take-drop a (e - a) l)

-- ---- a level ----

-- level l stands in the words, with room for all levels; it is the coarser the fewer vertices it has
pub record Stage (ws : List ℕ) (weights vw places l m n : ℕ) : Type 0 where
  pub some_left : 0 < n
  pub low : l ≤ 27
  pub room : l * 3 + n ≤ 128
  pub mesh : Meshed ws (l * 512) (l * 256 + 128) m n
  pub within : Within ws (l * 512) m n
  pub words : 28678 ≤ length ws
  pub nets_fit : 7168 ≤ weights
  pub vertices_fit : 3584 ≤ vw
  pub places_fit : 3584 ≤ places

abbrev pub nets_at : List ℕ → ℕ → List ℕ
nets_at weights l = span (l * 256) (l * 256 + 256) weights

abbrev pub vertices_at : List Float → ℕ → ℕ → List Float
vertices_at vw l n = span (l * 128) (l * 128 + n) vw

abbrev pub places_at : List ℕ → ℕ → ℕ → List ℕ
places_at places l n = span (l * 128) (l * 128 + n) places

abbrev pub graph_at : List ℕ → List ℕ → List Float → ℕ → ℕ → ℕ → Hypergraph
graph_at ws weights vw l m n = graph_in ws (l * 512) (nets_at weights l) m (vertices_at vw l n)

-- the hypergraph of a level with the slots for sides behind all levels, or right behind it
site_at : (ws : List ℕ) (a b c l m n k s : ℕ) → Stage ws a b c l m n → k ≡ n → l * 512 + 512 ≤ s → s ≤ 14336 → Site ws (place (l * 512) (l * 256 + 128) s m k)
site_at ws a b c l m n k s h e lo hi =
    subst (λ (x : ℕ). Site ws (place (l * 512) (l * 256 + 128) s m x)) (sym e)
    (record {
      low = (omega (arith, h.low), omega (arith, h.low), omega arith);
      mesh = h.mesh;
      within = h.within;
      behind = (omega (arith, h.mesh.few.0), omega (arith, h.mesh.few.1), omega (arith, h.words));
    })

pub stage_site : (ws : List ℕ) (a b c l m n k : ℕ) → Stage ws a b c l m n → k ≡ n → Site ws (place (l * 512) (l * 256 + 128) 14336 m k)
stage_site ws a b c l m n k h e = site_at ws a b c l m n k 14336 h e (omega (arith, h.low)) (omega arith)

-- ---- what stays ----

-- what is done at level l leaves it, those before it, and the maps of those before it
pub record Keeps (l : ℕ) (ws : List ℕ) (weights : List ℕ) (vw : List Float) (places : List ℕ) (ws' weights' : List ℕ) (vw' : List Float) (places' : List ℕ) : Type 0 where
  pub words : Kept (l * 1024 + 1024) ws ws'
  pub nets : Front (l * 256 + 256) weights weights'
  pub vertices : Front (l * 128 + 128) vw vw'
  pub maps : Front (l * 128) places places'

pub kept_less : (k j : ℕ) (ws ws' : List ℕ) → j ≤ k → Kept k ws ws' → Kept j ws ws'
kept_less k j ws ws' b h = record { same = λ i l. h.same i (omega arith); long = h.long }

module _ (l m n : ℕ) (ws weights : List ℕ) (vw : List Float) (places ws' weights' : List ℕ) (vw' : List Float) (places' : List ℕ)
    (k : Keeps l ws weights vw places ws' weights' vw' places') where
  pub stage_kept : Stage ws (length weights) (length vw) (length places) l m n → Stage ws' (length weights') (length vw') (length places') l m n
  stage_kept h =
      let s : Site ws' (place (l * 512) (l * 256 + 128) (l * 512 + 512) m n) =
      site_kept ws ws' (place (l * 512) (l * 256 + 128) (l * 512 + 512) m n)
      (site_at ws (length weights) (length vw) (length places) l m n n (l * 512 + 512) h refl (omega arith) (omega (arith, h.low)))
      (kept_less (l * 1024 + 1024) ((l * 512 + 512) * 2) ws ws' (omega arith) k.words) in
      record {
        some_left = h.some_left;
        low = h.low;
        room = h.room;
        mesh = s.mesh;
        within = s.within;
        words = omega (arith, h.words, k.words.long);
        nets_fit = omega (arith, h.nets_fit, k.nets.1);
        vertices_fit = omega (arith, h.vertices_fit, k.vertices.1);
        places_fit = omega (arith, h.places_fit, k.maps.1);
      }

  pub level_kept : m ≤ 256 → n ≤ 128 → graph_at ws' weights' vw' l m n ≡ graph_at ws weights vw l m n
  level_kept few b =
      graph_kept (l * 1024 + 1024) ws ws' k.words (l * 512) m (nets_at weights' l) (vertices_at vw' l n) (omega arith)
      ∙ (λ i. graph_in ws (l * 512) (front_span (l * 256 + 256) (l * 256) (l * 256 + 256) weights weights' (omega arith) (omega arith) k.nets i) m
      (front_span (l * 128 + 128) (l * 128) (l * 128 + n) vw vw' (omega arith) (omega arith) k.vertices i))

-- one thing after another; the second is at the same level, or at the next one
pub keeps_then : (l : ℕ) (ws₀ weights₀ : List ℕ) (vw₀ : List Float) (places₀ ws₁ weights₁ : List ℕ) (vw₁ : List Float) (places₁ ws₂ weights₂ : List ℕ) (vw₂ : List Float) (places₂ : List ℕ)
    → Keeps l ws₀ weights₀ vw₀ places₀ ws₁ weights₁ vw₁ places₁ → Keeps (l + 1) ws₁ weights₁ vw₁ places₁ ws₂ weights₂ vw₂ places₂
    → Keeps l ws₀ weights₀ vw₀ places₀ ws₂ weights₂ vw₂ places₂
keeps_then l ws₀ weights₀ vw₀ places₀ ws₁ weights₁ vw₁ places₁ ws₂ weights₂ vw₂ places₂ p q =
    record {
      words = kept_then (l * 1024 + 1024) ws₀ ws₁ ws₂ p.words (kept_less ((l + 1) * 1024 + 1024) (l * 1024 + 1024) ws₁ ws₂ (omega arith) q.words);
      nets = front_then (l * 256 + 256) ((l + 1) * 256 + 256) weights₀ weights₁ weights₂ (omega arith) p.nets q.nets;
      vertices = front_then (l * 128 + 128) ((l + 1) * 128 + 128) vw₀ vw₁ vw₂ (omega arith) p.vertices q.vertices;
      maps = front_then (l * 128) ((l + 1) * 128) places₀ places₁ places₂ (omega arith) p.maps q.maps;
    }

pub keeps_graph : (l : ℕ) (ws₀ weights₀ : List ℕ) (vw₀ : List Float) (places₀ ws₁ weights₁ : List ℕ) (vw₁ : List Float) (places₁ ws₂ : List ℕ) → l ≤ 27
    → Keeps l ws₀ weights₀ vw₀ places₀ ws₁ weights₁ vw₁ places₁ → Kept 28672 ws₁ ws₂ → Keeps l ws₀ weights₀ vw₀ places₀ ws₂ weights₁ vw₁ places₁
keeps_graph l ws₀ weights₀ vw₀ places₀ ws₁ weights₁ vw₁ places₁ ws₂ low p q =
    record {
      words = kept_then (l * 1024 + 1024) ws₀ ws₁ ws₂ p.words (kept_less 28672 (l * 1024 + 1024) ws₁ ws₂ (omega arith) q);
      nets = p.nets;
      vertices = p.vertices;
      maps = p.maps;
    }

-- ---- a partition that is given ----

-- The first n places of a list are the partition d, and the words those after it; the slots of all levels stay.
pub record Gives (n : ℕ) (d : Drawn (List ℕ)) (ws ws' part' : List ℕ) (words' : Words) : Type 0 where
  pub given : drawn (take n part') words' ≡ d
  pub bits : Bits (take n part')
  pub kept : Kept 28672 ws ws'

-- the front of the list was lent, and is the partition
pub gives : (n : ℕ) (d : Drawn (List ℕ)) (ws ws' part rest : List ℕ) (words : Words) → length part ≡ n → drawn part words ≡ d → Bits part → Kept 28672 ws ws'
    → Gives n d ws ws' (part ++ rest) words
gives n d ws ws' part rest words l e b k =
    let z : take n (part ++ rest) ≡ part = take_at part rest n l in
    record { given = ap (λ x. drawn x words) z ∙ e; bits = subst Bits (sym z) b; kept = k }
