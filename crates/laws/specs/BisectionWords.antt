-- The words that a bisection takes: each part of it goes alike with other words after those that it takes (WordLaws). Assumes nothing.
use Rattle.std.specs.Prelude.{refl, true, false, ℕ, zero, suc, ◌-◌, ◌*◌, eqb, leb, ltb, length, get_or, set, replicate, Float, Option, None, Some}
use Rattle.std.proofs.Math.Bool.{not}
use mathlib.Core.List.{List, [], map}
use Rattle.std.specs.Float.{binary64}
use Rattle.std.specs.Float.Ieee.{add, div, neg, le}
use Rattle.spec.specs.Lists.{memb, range}
use Rattle.spec.specs.Floats.{zero_float, whole_float}
use Rattle.spec.specs.Draws.{Words, lent_words, Drawn, drawn, index_draw}
use Rattle.spec.specs.Hypergraph.{until, fold_over, Hypergraph, vertex_count, vertex_weight, total_weight, nets_at, all_pins, side_of, Sides, sides_of, moved}
use Rattle.spec.specs.Fm.{Entry, Queue, largest, taken_out, entered_as, entered_again, Gains, counted, Pass, Refined, move_limit, fits_in, after_move, turn_of, pass_turn, run_pass, start_pass, end_pass, fm}
use Rattle.spec.specs.Coarsen.{swapped, shuffled, Choice, Level, unmatched, ratings, looked_at, mated, matched, matching, level_of, worthwhile, coarsen}
use Rattle.spec.specs.Bisection.{Growth, Strongest, offered, linked_by, half, grown_on, grown_by, growth_turn, ended, grown, Candidate, better, candidate_of, tries, part_of, initial, side_limit, refined_from, through_level, multilevel, bisect}
use Rattle.laws.specs.WordLaws.{Held, held, drawn_held, Goes, still, stays, either, after, over, turns_go, drawing}

-- ---- the states ----

abbrev queue_held : Held Queue
queue_held =
    held (λ q. q.words) (λ ws q. record { keys = q.keys; stamps = q.stamps; waiting = q.waiting; words = ws })
    (λ ws q. refl) (λ ws ws' q. refl) (λ q. refl)

abbrev pass_held : Held Pass
pass_held =
    held (λ p. p.queue.words) (λ ws p. record { sides = p.sides; queue = queue_held.put ws p.queue; gains = p.gains; over = p.over })
    (λ ws p. refl) (λ ws ws' p. refl) (λ p. refl)

abbrev refined_held : Held Refined
refined_held =
    held (λ r. r.words) (λ ws r. record { sides = r.sides; better = r.better; words = ws })
    (λ ws r. refl) (λ ws ws' r. refl) (λ r. refl)

abbrev choice_held : Held Choice
choice_held =
    held (λ c. c.words) (λ ws c. record { best = c.best; mate = c.mate; rating = c.rating; words = ws })
    (λ ws c. refl) (λ ws ws' c. refl) (λ c. refl)

abbrev strongest_held : Held Strongest
strongest_held =
    held (λ c. c.words) (λ ws c. record { link = c.link; vertex = c.vertex; words = ws })
    (λ ws c. refl) (λ ws ws' c. refl) (λ c. refl)

abbrev growth_held : Held Growth
growth_held =
    held (λ g. g.words) (λ ws g. record { part = g.part; weight = g.weight; links = g.links; next = g.next; words = ws })
    (λ ws g. refl) (λ ws ws' g. refl) (λ g. refl)

abbrev part_held : Held (Drawn (List ℕ))
part_held = drawn_held (List ℕ)

-- ---- coarsening ----

index_goes : (n : ℕ) → Goes (drawn_held ℕ) (index_draw n)
index_goes n = drawing (drawn_held ℕ) (λ ws ws' e. rw e)

shuffled_goes : (i : ℕ) (l : List ℕ) → Goes part_held (λ ws. shuffled i (drawn l ws))
shuffled_goes zero l = still part_held (λ ws ws'. refl)
shuffled_goes (suc i) l =
    after (drawn_held ℕ) part_held (λ w. shuffled i (drawn (swapped (suc i) w.value l) w.words)) (index_goes (suc (suc i)))
    (λ w. shuffled_goes i (swapped (suc i) w.value l))

module _ (G : Hypergraph) (maxw : Float) where
  looked_goes : (v u : ℕ) (c : Choice) → Goes choice_held (λ ws. looked_at G maxw v u (choice_held.put ws c))
  looked_goes v u c = drawing choice_held (λ ws ws' e. rw e)

  matched_goes : (v : ℕ) (d : Drawn (List ℕ)) → Goes part_held (λ ws. matched G maxw v (part_held.put ws d))
  matched_goes v d =
      let t = ratings G maxw d.value v in
      either part_held (unmatched G maxw d.value v)
      (after choice_held part_held (λ c. drawn (mated G maxw v c.mate d.value) c.words)
      (over choice_held (looked_at G maxw v) (looked_goes v) t.touched (record { best = zero_float; mate = None; rating = t.rating; words = lent_words [] }))
      (λ c. still part_held (λ ws ws'. refl)))
      (stays part_held d)

  matching_goes : Goes part_held (matching G maxw)
  matching_goes =
      let n = vertex_count G in
      after part_held part_held (λ (order : Drawn (List ℕ)). fold_over (matched G maxw) order.value (drawn (replicate n n) order.words)) (shuffled_goes (n - 1) (range n))
      (λ order. over part_held (matched G maxw) matched_goes order.value (drawn (replicate n n) order.words))

  coarsen_goes : Goes (drawn_held (Option Level)) (coarsen G maxw)
  unfolding coarsen
  coarsen_goes =
      after part_held (drawn_held (Option Level)) (λ m. drawn (worthwhile G maxw (level_of G maxw m.value)) m.words) matching_goes
      (λ m. still (drawn_held (Option Level)) (λ ws ws'. refl))

  -- ---- refinement ----

  entered_goes : (part : List ℕ) (stamp v : ℕ) (q : Queue) → Goes queue_held (λ ws. entered_as G part stamp v (queue_held.put ws q))
  entered_goes part stamp v q = drawing queue_held (λ ws ws' e. rw e)

  again_goes : (part moves : List ℕ) (u : ℕ) (q : Queue) → Goes queue_held (λ ws. entered_again G part moves u (queue_held.put ws q))
  again_goes part moves u q = either queue_held (memb u moves) (stays queue_held q) (entered_goes part (suc (get_or q.stamps u 0)) u q)

  move_goes : (v : ℕ) (q : Queue) (S : Sides) (g : Gains) → Goes pass_held (λ ws. after_move G maxw v (queue_held.put ws q) S g)
  move_goes v q S g =
      let far = ltb (move_limit G maxw) (length g.moves - g.best_at) in
      after queue_held pass_held (λ q'. record { sides = S; queue = q'; gains = g; over = far })
      (either queue_held far (stays queue_held q)
      (over queue_held (entered_again G S.part g.moves) (again_goes S.part g.moves) (all_pins (nets_at G v)) q))
      (λ q'. still pass_held (λ ws ws'. refl))

  turn_goes : (o : Option Entry) (p : Pass) → Goes pass_held (λ ws. turn_of G maxw o (pass_held.put ws p))
  turn_goes None p = still pass_held (λ ws ws'. refl)
  turn_goes (Some e) p =
      either pass_held (fits_in G maxw e.vertex p.sides)
      (move_goes e.vertex (taken_out e.vertex p.queue) (moved G e.vertex p.sides) (counted e.vertex e.key p.gains))
      (still pass_held (λ ws ws'. refl))

  run_goes : (p : Pass) → Goes pass_held (λ ws. run_pass G maxw (pass_held.put ws p))
  run_goes p =
      turns_go pass_held (suc (vertex_count G) * suc (vertex_count G)) (λ t. t.over) (pass_turn G maxw) (λ ws t. refl)
      (λ t. turn_goes (largest (vertex_count G) t.queue) t) p

  start_goes : (S : Sides) → Goes pass_held (start_pass G maxw S)
  start_goes S =
      let n = vertex_count G in
      after queue_held pass_held (λ q. record { sides = S; queue = q; gains = record { moves = []; sum = zero_float; best = zero_float; best_at = 0 }; over = false })
      (over queue_held (entered_as G S.part 0) (entered_goes S.part 0) (range n)
      (record { keys = replicate n zero_float; stamps = replicate n 0; waiting = replicate n 0; words = lent_words [] }))
      (λ q. still pass_held (λ ws ws'. refl))

  pass_goes : (r : Refined) → Goes refined_held (λ ws. end_pass G maxw (run_pass G maxw (start_pass G maxw r.sides ws)))
  pass_goes r =
      after pass_held refined_held (end_pass G maxw) (after pass_held pass_held (run_pass G maxw) (start_goes r.sides) run_goes)
      (λ p. still refined_held (λ ws ws'. refl))

  fm_goes : (k : ℕ) (part : List ℕ) → Goes part_held (fm G maxw k part)
  unfolding fm
  fm_goes k part =
      after refined_held part_held (λ r. drawn r.sides.part r.words)
      (turns_go refined_held k (λ x. not x.better) (λ x. end_pass G maxw (run_pass G maxw (start_pass G maxw x.sides x.words))) (λ ws x. refl) pass_goes
      (record { sides = sides_of G part; better = true; words = lent_words [] }))
      (λ r. still part_held (λ ws ws'. refl))

-- ---- a first partition ----

module _ (G : Hypergraph) where
  offered_goes : (part : List ℕ) (links : List Float) (u : ℕ) (c : Strongest) → Goes strongest_held (λ ws. offered G part links u (strongest_held.put ws c))
  offered_goes part links u c = either strongest_held (eqb (side_of part u) 0) (drawing strongest_held (λ ws ws' e. rw e)) (stays strongest_held c)

  grown_by_goes : (part : List ℕ) (w : Float) (v : ℕ) (g : Growth) → Goes growth_held (λ ws. grown_by G part w v (growth_held.put ws g))
  grown_by_goes part w v g =
      let links = fold_over (linked_by G) (nets_at G v) g.links in
      either growth_held (le (half G) w) (still growth_held (λ ws ws'. refl))
      (after strongest_held growth_held (grown_on G part w links)
      (over strongest_held (offered G part links) (offered_goes part links) (range (vertex_count G)) (record { link = neg (whole_float 1); vertex = None; words = lent_words [] }))
      (λ s. still growth_held (λ ws ws'. refl)))

  growth_goes : (o : Option ℕ) (g : Growth) → Goes growth_held (λ ws. growth_turn G o (growth_held.put ws g))
  growth_goes None g = stays growth_held g
  growth_goes (Some v) g = grown_by_goes (set g.part v 1) (add binary64 g.weight (vertex_weight G v)) v g

  grown_goes : Goes growth_held (grown G)
  grown_goes =
      let n = vertex_count G in
      let run : Growth → Growth = λ g. until (suc n) (λ g. ended G g.next) (λ g. growth_turn G g.next g) g in
      let begin : Drawn ℕ → Growth = λ seed.
      record { part = replicate n 0; weight = zero_float; links = replicate n zero_float; next = Some seed.value; words = seed.words } in
      after (drawn_held ℕ) growth_held (λ seed. run (begin seed)) (drawing (drawn_held ℕ) (λ ws ws' e. rw e))
      (λ seed. turns_go growth_held (suc n) (λ g. ended G g.next) (λ g. growth_turn G g.next g) (λ ws g. refl) (λ g. growth_goes g.next g) (begin seed))

module _ (G : Hypergraph) (maxw : Float) where
  tries_goes : (k : ℕ) (best : Option Candidate) → Goes (drawn_held (Option Candidate)) (tries G maxw k best)
  tries_goes zero best = still (drawn_held (Option Candidate)) (λ ws ws'. refl)
  tries_goes (suc k) best =
      after part_held (drawn_held (Option Candidate)) (λ c. tries G maxw k (Some (better best (candidate_of G maxw c.value))) c.words)
      (after growth_held part_held (λ g. fm G maxw 8 g.part g.words) (grown_goes G) (λ g. fm_goes G maxw 8 g.part))
      (λ c. tries_goes k (Some (better best (candidate_of G maxw c.value))))

  initial_goes : Goes part_held (initial G maxw)
  unfolding initial
  initial_goes =
      after (drawn_held (Option Candidate)) part_held (λ t. drawn (part_of G maxw t.value) t.words) (tries_goes 8 None)
      (λ t. still part_held (λ ws ws'. refl))

-- ---- through coarser hypergraphs and back ----

through_goes : (G : Hypergraph) (maxw : Float) (o : Option Level) (go : Hypergraph → Words → Drawn (List ℕ)) → ((H : Hypergraph) → Goes part_held (go H))
    → Goes part_held (λ ws. through_level G maxw o ws go)
through_goes G maxw None go h = initial_goes G maxw
through_goes G maxw (Some l) go h =
    after part_held part_held (refined_from G maxw l) (h l.graph) (λ d. fm_goes G maxw 4 (map (side_of d.value) l.places))

multilevel_goes : (fuel : ℕ) (maxw : Float) (G : Hypergraph) → Goes part_held (multilevel fuel maxw G)
multilevel_goes zero maxw G = initial_goes G maxw
multilevel_goes (suc fuel) maxw G =
    either part_held (leb (vertex_count G) 48) (initial_goes G maxw)
    (after (drawn_held (Option Level)) part_held (λ c. through_level G maxw c.value c.words (λ H w. multilevel fuel maxw H w))
    (coarsen_goes G (div binary64 maxw (whole_float 3)))
    (λ c. through_goes G maxw c.value (λ H w. multilevel fuel maxw H w) (multilevel_goes fuel maxw)))

pub bisect_goes : (G : Hypergraph) (eps : Float) → Goes part_held (bisect G eps)
unfolding bisect
bisect_goes G eps = multilevel_goes (vertex_count G) (side_limit (total_weight G) eps) G
