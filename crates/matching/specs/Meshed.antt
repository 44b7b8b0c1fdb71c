-- A hypergraph in slots, without sides: the nets of a vertex, and a matching by them. Assumes nothing.
use Rattle.std.specs.Prelude.{◌≡◌, refl, ℕ, ◌+◌, ◌-◌, ◌≤◌, ◌<◌, Float, get_or, take, None, Option, Some}
use Rattle.std.proofs.Math.Bool.{cond}
use Rattle.std.proofs.Math.Path.{sym, ap}
use Rattle.std.proofs.Common.{◌∙◌, subst, arith, length-take-le, eq-eqb, ne_eqb}
use mathlib.Core.List.{List, [], ◌∷◌, map}
use Rattle.std.proofs.Math.ListN.{length, replicate}
use Rattle.spec.specs.Lists.{range}
use Rattle.spec.specs.Memory.{filled}
use Rattle.spec.specs.Floats.{zero_float}
use Rattle.spec.specs.Draws.{Words, Drawn, drawn}
use Rattle.spec.specs.Hypergraph.{fold_over, Net, Hypergraph, nets_at}
use Rattle.spec.specs.Coarsen.{Ratings, Choice, rated_by, ratings, looked_at, mated, matched, shuffled, matching}
use Rattle.laws.specs.ListLaws.{range_length}
use Rattle.slots.specs.Rising.{rising_of}
use Rattle.partition.specs.Layout.{net_in, graph_in, Crossed}
use Rattle.partition.specs.Folds.{fold_map}
use Rattle.partition.specs.Gains.{fold_cong, nets_crossed}
use Rattle.ratings.specs.Rated.{ratings_in, rated_net, rated_nets, rated_net_lem}
use Rattle.matching.specs.Order.{Below, below_shuffled, below_range}
use Rattle.matching.specs.Choices.{choice_of, looked, mated_in}

-- Slots nets on hold the pins of m nets; slots vertices on, the nets of n vertices.
pub record Meshed (ws : List ℕ) (nets vertices m n : ℕ) : Type 0 where
  pub few : (m ≤ 256) × (n ≤ 128)
  pub crossed : Crossed ws nets vertices m n

-- ---- lists ----

fold_ext : {A S : Type 0} (f g : A → S → S) (l : List A) (s : S) → ((x : A) (t : S) → f x t ≡ g x t) → fold_over f l s ≡ fold_over g l s
fold_ext f g [] s h = refl
fold_ext f g (x ∷ l) s h = ap (fold_over f l) (h x s) ∙ fold_ext f g l (g x s) h

-- how long the front of an array of 128 places is
pub front_long : (n : ℕ) → n ≤ 128 → length {A = ℕ} (take n (replicate 128 0)) ≡ n
front_long n h = length-take-le {A = ℕ} n (replicate 128 0) (omega arith)

module _ (ws : List ℕ) (nets vertices m n : ℕ) (weights : List ℕ) (vw : List Float) (maxw : Float) (h : Meshed ws nets vertices m n) where
  abbrev G : Hypergraph
  G = graph_in ws nets weights m vw

  pub nets_at_lem : (v : ℕ) → v < n → nets_at G v ≡ map (net_in ws nets weights) (rising_of ws 4 (vertices + v))
  nets_at_lem = nets_crossed ws nets vertices m n weights vw h.few h.crossed

  -- the ratings that a vertex's neighbours get
  abbrev start : ℕ → Ratings
  start k = record { rating = replicate k zero_float; touched = [] }

  ratings_laid : (mates : List ℕ) (v : ℕ) → v < n → length vw ≡ n
      → ratings G maxw mates v ≡ rated_nets ws nets weights mates n v (rising_of ws 4 (vertices + v)) (start n)
  unfolding graph_in
  ratings_laid mates v b e =
      ap (λ (k : List Net). fold_over (rated_by G maxw mates v) k (start (length vw))) (nets_at_lem v b)
      ∙ fold_map (rated_by G maxw mates v) (net_in ws nets weights) (rising_of ws 4 (vertices + v)) (start (length vw))
      ∙ fold_cong (λ x. rated_by G maxw mates v (net_in ws nets weights x)) (λ x. rated_net mates (length vw) v (get_or weights x 0) (rising_of ws 2 (nets + x))) (rising_of ws 4 (vertices + v)) (start (length vw))
      (λ x i t. rated_net_lem G maxw mates v (get_or weights x 0) (rising_of ws 2 (nets + x)) t)
      ∙ ap (λ (k : ℕ). rated_nets ws nets weights mates k v (rising_of ws 4 (vertices + v)) (start k)) e

  -- MATCHED BY THE SLOTS
  pub matched_laid : (v : ℕ) (words words' : Words) (mates mates' list' touched touched' : List ℕ) (rating' rating'' : List Float) (len count : ℕ) (mate : Option ℕ) (best : Float)
      → v < n → length vw ≡ n → get_or mates v 0 ≡ n
      → take len list' ≡ rising_of ws 4 (vertices + v)
      → rating' ≡ filled n zero_float
      → ratings_in rating'' touched' count ≡ rated_nets ws nets weights mates n v (take len list') (ratings_in rating' touched 0)
      → (rating''' : List Float)
      → choice_of best mate rating''' words' ≡ fold_over (looked vw maxw v) (take count touched') (choice_of zero_float None rating'' words)
      → mates' ≡ mated_in v mate mates
      → drawn mates' words' ≡ matched G maxw v (drawn mates words)
  unfolding graph_in filled
  matched_laid v words words' mates mates' list' touched touched' rating' rating'' len count mate best b ev em el ef et rating''' ec ep =
      let t : ratings_in rating'' touched' count ≡ ratings G maxw mates v =
      et ∙ ap (λ l. rated_nets ws nets weights mates n v l (ratings_in rating' touched 0)) el
      ∙ ap (λ l. rated_nets ws nets weights mates n v (rising_of ws 4 (vertices + v)) (ratings_in l touched 0)) ef
      ∙ sym (ratings_laid mates v b ev) in
      let k : choice_of best mate rating''' words' ≡ chosen (ratings G maxw mates v) =
      ec ∙ ap chosen t in
      ap (λ l. drawn l words') (ep ∙ mated_is mate)
      ∙ ap (λ (x : Choice). drawn (mated G maxw v x.mate mates) x.words) k
      ∙ sym (ap (λ b. cond b (drawn (mated G maxw v (chosen (ratings G maxw mates v)).mate mates) (chosen (ratings G maxw mates v)).words) (drawn mates words)) (eq-eqb (get_or mates v 0) (length vw) (em ∙ sym ev)))
    where
      chosen : Ratings → Choice
      chosen r = fold_over (looked vw maxw v) r.touched (choice_of zero_float None r.rating words)

      mated_is : (o : Option ℕ) → mated_in v o mates ≡ mated G maxw v o mates
      mated_is None = refl
      mated_is (Some u) = refl

  pub matched_already : (v : ℕ) (words : Words) (mates : List ℕ) → length vw ≡ n → (get_or mates v 0 ≡ n → ⊥) → drawn mates words ≡ matched G maxw v (drawn mates words)
  unfolding graph_in
  matched_already v words mates ev d =
      sym (ap (λ b. cond b new (drawn mates words)) (ne_eqb (get_or mates v 0) (length vw) (λ e. d (e ∙ ev))))
    where
      new : Drawn (List ℕ)
      new = drawn (mated G maxw v choice_end.mate mates) choice_end.words
        where
          choice_end : Choice
          choice_end = fold_over (looked_at G maxw v) (ratings G maxw mates v).touched (choice_of zero_float None (ratings G maxw mates v).rating words)

  -- MATCHED IN A DRAWN ORDER
  pub all_matched : (words words' words'' : Words) (order order' order'' mates mates' mates'' : List ℕ) → length vw ≡ n → length order ≡ n → length mates ≡ n
      → order' ≡ range (length order)
      → drawn order'' words' ≡ shuffled (length order' - 1) (drawn order' words)
      → mates' ≡ filled (length mates) n
      → drawn mates'' words'' ≡ fold_over (matched G maxw) order'' (drawn mates' words')
      → drawn mates'' words'' ≡ matching G maxw words
  unfolding graph_in filled
  all_matched words words' words'' order order' order'' mates mates' mates'' ev eo em e₁ e₂ e₃ e₄ =
      let l : length order' ≡ length vw = ap length e₁ ∙ range_length 0 (length order) ∙ eo ∙ sym ev in
      let z : drawn order'' words' ≡ shuffled (length vw - 1) (drawn (range (length vw)) words) =
      e₂ ∙ (λ i. shuffled (l i - 1) (drawn order' words)) ∙ ap (λ x. shuffled (length vw - 1) (drawn x words)) (e₁ ∙ ap (λ (k : ℕ). range k) (eo ∙ sym ev)) in
      let y : mates' ≡ replicate (length vw) (length vw) = e₃ ∙ ap (λ (k : ℕ). replicate k n) (em ∙ sym ev) ∙ ap (λ (k : ℕ). replicate (length vw) k) (sym ev) in
      e₄ ∙ ap (λ x. fold_over (matched G maxw) order'' (drawn x words')) y
      ∙ ap (λ (d : Drawn (List ℕ)). fold_over (matched G maxw) d.value (drawn (replicate (length vw) (length vw)) d.words)) z

  pub order_below : (words words' : Words) (order order' order'' : List ℕ) → 0 < n → length order ≡ n
      → order' ≡ range (length order)
      → drawn order'' words' ≡ shuffled (length order' - 1) (drawn order' words)
      → Below n order''
  order_below words words' order order' order'' b eo e₁ e₂ =
      subst (λ (d : Drawn (List ℕ)). Below n d.value) (sym e₂)
      (below_shuffled n (length order' - 1) (drawn order' words) (subst (Below n) (sym (e₁ ∙ ap (λ (k : ℕ). range k) eo)) (below_range n b)))
