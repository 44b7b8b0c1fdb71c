-- One turn of a growth, by the slots. Assumes nothing.
use Rattle.std.specs.Prelude.{Bool, true, ◌≡◌, refl, ℕ, zero, suc, ◌+◌, ◌-◌, ◌≤◌, ◌<◌, Float, length, get_or, set, take, Option, None, Some}
use Rattle.std.proofs.Math.Bool.{false, cond}
use Rattle.std.proofs.Math.Path.{sym, ap}
use Rattle.std.proofs.Common.{◌∙◌, arith, add-one}
use mathlib.Core.List.{List}
use Rattle.std.specs.Float.Ieee.{binary64, add, le}
use Rattle.std.proofs.Math.ListN.{replicate}
use Rattle.spec.specs.Floats.{zero_float}
use Rattle.spec.specs.Memory.{filled}
use Rattle.spec.specs.Draws.{Words, Drawn, drawn, index_draw}
use Rattle.spec.specs.Hypergraph.{until, fold_over, Net, Hypergraph, nets_at}
use Rattle.spec.specs.Bisection.{Growth, Strongest, half, strongest, linked_by, grown_on, growth_turn, ended, grown}
use Rattle.slots.specs.Rising.{rising_of}
use Rattle.partition.specs.Folds.{fold_map}
use Rattle.partition.specs.Layout.{net_in, graph_in}
use Rattle.matching.specs.Meshed.{Meshed, nets_at_lem}
use Rattle.growth.specs.Links.{strong_in, strongest_in, linked_nets}

abbrev pub growth_of : List ℕ → Float → List Float → Option ℕ → Words → Growth
growth_of part w links next ws = record { part = part; weight = w; links = links; next = next; words = ws }

module _ (ws : List ℕ) (nets vertices m n : ℕ) (weights : List ℕ) (vw : List Float) (h : Meshed ws nets vertices m n) where
  abbrev G : Hypergraph
  G = graph_in ws nets weights m vw

  links_laid : (v : ℕ) (links : List Float) → v < n → fold_over (linked_by G) (nets_at G v) links ≡ linked_nets ws nets weights (rising_of ws 4 (vertices + v)) links
  links_laid v links b =
      ap (λ (k : List Net). fold_over (linked_by G) k links) (nets_at_lem ws nets vertices m n weights vw zero_float h v b)
      ∙ fold_map (linked_by G) (net_in ws nets weights) (rising_of ws 4 (vertices + v)) links

  module _ (v : ℕ) (words : Words) (part part' : List ℕ) (links : List Float) (w x g goal : Float)
      (ep : part' ≡ set part v 1) (eg : g ≡ get_or vw v zero_float) (ex : x ≡ add binary64 w g) (eh : goal ≡ half G) where
    abbrev new : List ℕ → Float → Growth
    new p y = grown_on G p y (fold_over (linked_by G) (nets_at G v) links) (strongest G p (fold_over (linked_by G) (nets_at G v) links) words)

    turned : (b : Bool) → le goal x ≡ b
        → growth_turn G (Some v) (growth_of part w links (Some v) words) ≡ cond b (growth_of part' x links None words) (new part' x)
    unfolding graph_in
    turned b e =
        let y : add binary64 w (get_or vw v zero_float) ≡ x = ap (add binary64 w) (sym eg) ∙ sym ex in
        (λ i. cond (le (half G) (y i)) (growth_of (set part v 1) (y i) links None words) (new (set part v 1) (y i)))
        ∙ (λ i. cond (le (half G) x) (growth_of (sym ep i) x links None words) (new (sym ep i) x))
        ∙ ap (λ (t : Bool). cond t (growth_of part' x links None words) (new part' x)) (ap (λ (f : Float). le f x) (sym eh) ∙ e)

    pub turned_end : le goal x ≡ true → growth_of part' x links None words ≡ growth_turn G (Some v) (growth_of part w links (Some v) words)
    turned_end e = sym (turned true e)

    pub turned_on : (links' : List Float) (list : List ℕ) (len : ℕ) (words' : Words) (next : Option ℕ) (link : Float) → v < n → length vw ≡ n → length links' ≡ n → le goal x ≡ false
        → take len list ≡ rising_of ws 4 (vertices + v) → links' ≡ linked_nets ws nets weights (take len list) links
        → strong_in link next words' ≡ strongest_in part' links' (length links') words
        → growth_of part' x links' next words' ≡ growth_turn G (Some v) (growth_of part w links (Some v) words)
    unfolding graph_in
    turned_on links' list len words' next link b ev el e f z s =
        let k : links' ≡ fold_over (linked_by G) (nets_at G v) links = z ∙ ap (λ l. linked_nets ws nets weights l links) f ∙ sym (links_laid v links b) in
        ap (λ (q : Strongest). growth_of part' x links' q.vertex q.words) (s ∙ ap (λ (j : ℕ). strongest_in part' links' j words) (el ∙ sym ev))
        ∙ ap (λ (l : List Float). grown_on G part' x l (strongest G part' l words)) k
        ∙ sym (turned false e)

-- ---- turn after turn ----

module _ (G : Hypergraph) where
  abbrev pub grown_from : ℕ → Growth → Growth
  grown_from k g = until k (λ x. ended G x.next) (λ x. growth_turn G x.next x) g

  stopped : (k : ℕ) (g : Growth) → g.next ≡ None → grown_from k g ≡ g
  stopped zero g e = refl
  stopped (suc k) g e = ap (λ (o : Option ℕ). cond (ended G o) g (grown_from k (growth_turn G o g))) e

  one_more : (k : ℕ) (g : Growth) (o : Option ℕ) → g.next ≡ o → grown_from (suc k) g ≡ grown_from k (growth_turn G o g)
  one_more k g None e = stopped (suc k) g e ∙ sym (stopped k g e)
  one_more k g (Some v) e = ap (λ (o : Option ℕ). cond (ended G o) g (grown_from k (growth_turn G o g))) e

  -- one turn more
  pub grown_next : (n k : ℕ) (s g r : Growth) → k < n → grown_from n s ≡ grown_from (n - k) g → r ≡ growth_turn G g.next g → grown_from n s ≡ grown_from (n - (k + 1)) r
  grown_next n k s g r h p q =
      let e : n - k ≡ suc (n - (k + 1)) = omega arith in
      p ∙ ap (λ (j : ℕ). grown_from j g) e ∙ one_more (n - (k + 1)) g g.next refl ∙ ap (grown_from (n - (k + 1))) (sym q)

  pub grown_end : (n k : ℕ) (s g : Growth) → n ≤ k → grown_from n s ≡ grown_from (n - k) g → g ≡ grown_from n s
  grown_end n k s g h p = let e : n - k ≡ 0 = omega arith in sym (p ∙ ap (λ (j : ℕ). grown_from j g) e)

  -- what is grown, as a partition, and the words after it
  abbrev pub part_grown : Words → Drawn (List ℕ)
  part_grown ws = drawn (grown G ws).part (grown G ws).words

module _ (ws : List ℕ) (nets m : ℕ) (weights : List ℕ) (vw : List Float) where
  -- A GROWTH FROM ITS DRAW
  pub grown_is : (words words' words'' : Words) (part part' part'' : List ℕ) (links links' : List Float) (v : ℕ) (w : Float) (next : Option ℕ)
      → length part ≡ length vw → part' ≡ filled (length part) 0 → links ≡ filled (length vw) zero_float
      → v ≡ (index_draw (length vw) words).value → words' ≡ (index_draw (length vw) words).words
      → growth_of part'' w links' next words'' ≡ grown_from (graph_in ws nets weights m vw) (length vw + 1) (growth_of part' zero_float links (Some v) words')
      → drawn part'' words'' ≡ part_grown (graph_in ws nets weights m vw) words
  unfolding graph_in filled
  grown_is words words' words'' part part' part'' links links' v w next ep e₁ e₂ ev ew e =
      let p : part' ≡ replicate (length vw) 0 = e₁ ∙ ap (λ (k : ℕ). replicate k 0) ep in
      ap (λ (g : Growth). drawn g.part g.words)
      (e ∙ (λ i. grown_from (graph_in ws nets weights m vw) (add-one (length vw) i) (growth_of (p i) zero_float (e₂ i) (Some (ev i)) (ew i))))
