-- A turn, on the values that the code has: the vertex of the first entry, and what the turn brings once that entry is off. Assumes nothing.
use Rattle.std.specs.Prelude.{Bool, true, false, ◌≡◌, List, ℕ, ◌<◌, ◌≤◌, Float, length, get_or, set, Option, None, Some}
use Rattle.std.proofs.Common.{ap, ◌∙◌, arith}
use Rattle.spec.specs.Lists.{memb}
use Rattle.spec.specs.Draws.{Words}
use Rattle.spec.specs.Fm.{Entry as First, waits, entry_of, largest, pass_turn}
use Rattle.queue.specs.declared.entries.Entry.{Entry}
use Rattle.queue.specs.Open.{open_in}
use Rattle.queue.specs.Queues.{queue_in, no_words, long_is, taken_is}
use Rattle.partition.specs.declared.layout.Layout.{Layout}
use Rattle.partition.specs.Layout.{place_of}
use Rattle.fmpass.specs.declared.Work.{Work}
use Rattle.moves.specs.declared.pass.Pass.{Pass as Counts}
use Rattle.moves.specs.Split.{sides_as}
use Rattle.moves.specs.Sums.{Fits}
use Rattle.fmpass.specs.State.{Lists, lists_of, Run, run, run_in, moves_in, Stands, Brings}
use Rattle.fmpass.specs.Makes.{made_move}
use Rattle.fmpass.specs.Turns.{closed_rests, turn_none, taken_free, off_waits, off_stands, turn_stays, turn_moves}

module _ (y : Layout) (b : Work) (l : List Entry) (p : Counts) (ws : Words) (h : Stands (place_of y) (lists_of b l) (run_in p ws)) where
  abbrev vw : List Float
  vw = y.vertex_weights.now

  abbrev M : Lists
  M = lists_of b l

  abbrev R : Run
  R = run_in p ws

  pub as_long : length l ≡ length vw
  as_long = long_is l (length vw) h.long.0

  as_first : (o : Option First) → o ≡ largest (length l) (queue_in l no_words) → o ≡ largest (length vw) (queue_in l no_words)
  as_first o e = e ∙ ap (λ n. largest n (queue_in l no_words)) as_long

  -- what the queue asks
  pub asked : (y.sides < 32768) × (length l ≤ 128) × ((v : ℕ) → v < length l → open_in b.words.now y.sides v ≡ false → waits (queue_in l no_words) v ≡ false)
  asked =
      (omega (arith, h.site.low.2), omega (arith, as_long, h.site.mesh.few.1), λ u k e. closed_rests y.nets y.vertices y.sides y.net_count vw M R h u (omega (arith, as_long, k)) e)

  pub no_first : (weights : List ℕ) (maxw : Float) → None ≡ largest (length l) (queue_in l no_words)
      → Brings weights vw (place_of y) (λ H q. pass_turn H maxw q) M M R (run R.count R.sum R.best R.peak R.words true)
  no_first weights maxw e = turn_none y.nets y.vertices y.sides y.net_count vw M R h weights maxw (as_first None e)

  -- the entry of vertex v is the first, and in l' it is off
  module _ (v : ℕ) (e : Some (entry_of (queue_in l no_words) v) ≡ largest (length l) (queue_in l no_words)) (below : v < length l) (l' : List Entry) (d : Entry)
      (a : l' ≡ set l v (record { key = (get_or l v d).key; stamp = (get_or l v d).stamp; waits = false }))
    where
      pub low : v < length vw
      low = omega (arith, below, as_long)

      abbrev M' : Lists
      M' = lists_of b l'

      -- what the move asks
      pub first_off : (v < length vw) × (memb v (moves_in M' R) ≡ false) × (waits (queue_in l' ws) v ≡ false) × Stands (place_of y) M' R
      first_off =
          let t = taken_is l l' v d a in
          let f = as_first (Some (entry_of (queue_in l no_words) v)) e in (
            low,
            taken_free y.nets y.vertices y.sides y.net_count vw M R h v f low,
            off_waits y.nets y.vertices y.sides y.net_count vw M R h v f low _ _ _ t.0 t.1 t.2,
            off_stands y.nets y.vertices y.sides y.net_count vw M R h v f low _ _ _ t.0 t.1 t.2 R.sum R.best R.peak R.words R.over,
          )

      module _ (weights : List ℕ) (maxw : Float) (fits : Bool) (ef : Fits vw maxw v (sides_as b.part.now b.loads.now) fits) where
        pub first_stays : fits ≡ false → Brings weights vw (place_of y) (λ H q. pass_turn H maxw q) M M' R (run R.count R.sum R.best R.peak R.words false)
        first_stays z =
            let t = taken_is l l' v d a in
            turn_stays y.nets y.vertices y.sides y.net_count vw M R h v (as_first (Some (entry_of (queue_in l no_words) v)) e) low _ _ _ t.0 t.1 t.2 weights maxw fits ef z

        pub first_moves : (M₁ : Lists) (R₁ : Run) → fits ≡ true → Brings weights vw (place_of y) (made_move maxw v) M' M₁ R R₁
            → Brings weights vw (place_of y) (λ H q. pass_turn H maxw q) M M₁ R R₁
        first_moves M₁ R₁ z q =
            let t = taken_is l l' v d a in
            turn_moves y.nets y.vertices y.sides y.net_count vw M R h v (as_first (Some (entry_of (queue_in l no_words) v)) e) low _ _ _ t.0 t.1 t.2 weights maxw fits ef M₁ R₁ z q
