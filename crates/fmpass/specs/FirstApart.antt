-- A turn, where the keys, the stamps and the flags are three lists: the vertex of the first entry, and what the turn brings once its flag is 0. Assumes nothing.
use Rattle.std.specs.Prelude.{Bool, true, false, ◌≡◌, refl, List, ℕ, ◌<◌, ◌≤◌, Float, length, set, None, Some}
use Rattle.std.proofs.Common.{arith}
use Rattle.spec.specs.Lists.{memb}
use Rattle.spec.specs.Draws.{Words}
use Rattle.spec.specs.Fm.{waits, entry_of, largest, pass_turn}
use Rattle.queue.specs.Open.{open_in}
use Rattle.queue.specs.Queues.{queue_of, no_words}
use Rattle.partition.specs.declared.layout.Layout.{Layout}
use Rattle.partition.specs.Layout.{place_of}
use Rattle.fmpass.specs.declared.Work.{Work}
use Rattle.moves.specs.declared.pass.Pass.{Pass as Counts}
use Rattle.moves.specs.Split.{sides_as}
use Rattle.moves.specs.Sums.{Fits}
use Rattle.fmpass.specs.State.{Lists, lists_apart, Run, run, run_in, moves_in, Stands, Brings}
use Rattle.fmpass.specs.Makes.{made_move}
use Rattle.fmpass.specs.Turns.{closed_rests, turn_none, taken_free, off_waits, off_stands, turn_stays, turn_moves}

module _ (y : Layout) (b : Work) (keys : List Float) (stamps waiting : List ℕ) (p : Counts) (ws : Words)
    (h : Stands (place_of y) (lists_apart b keys stamps waiting) (run_in p ws)) where
  abbrev vw : List Float
  vw = y.vertex_weights.now

  abbrev M : Lists
  M = lists_apart b keys stamps waiting

  abbrev R : Run
  R = run_in p ws

  -- what the queue asks
  pub asked_apart : (y.sides < 32768) × (length vw ≤ 128)
      × ((v : ℕ) → v < length vw → open_in b.words.now y.sides v ≡ false → waits (queue_of keys stamps waiting no_words) v ≡ false)
  asked_apart = (omega (arith, h.site.low.2), h.site.mesh.few.1, λ u k e. closed_rests y.nets y.vertices y.sides y.net_count vw M R h u k e)

  pub no_first_apart : (weights : List ℕ) (maxw : Float) → None ≡ largest (length vw) (queue_of keys stamps waiting no_words)
      → Brings weights vw (place_of y) (λ H q. pass_turn H maxw q) M M R (run R.count R.sum R.best R.peak R.words true)
  no_first_apart weights maxw e = turn_none y.nets y.vertices y.sides y.net_count vw M R h weights maxw e

  -- the entry of vertex v is the first, and its flag in w' is 0
  module _ (v : ℕ) (e : Some (entry_of (queue_of keys stamps waiting no_words) v) ≡ largest (length vw) (queue_of keys stamps waiting no_words)) (low : v < length vw)
      (w' : List ℕ) (a : w' ≡ set waiting v 0)
    where
      abbrev M' : Lists
      M' = lists_apart b keys stamps w'

      -- what the move asks
      pub off_apart : (v < length vw) × (memb v (moves_in M' R) ≡ false) × (waits (queue_of keys stamps w' ws) v ≡ false) × Stands (place_of y) M' R
      off_apart = (
        low,
        taken_free y.nets y.vertices y.sides y.net_count vw M R h v e low,
        off_waits y.nets y.vertices y.sides y.net_count vw M R h v e low _ _ _ refl refl a,
        off_stands y.nets y.vertices y.sides y.net_count vw M R h v e low _ _ _ refl refl a R.sum R.best R.peak R.words R.over,
      )

      module _ (weights : List ℕ) (maxw : Float) (fits : Bool) (ef : Fits vw maxw v (sides_as b.part.now b.loads.now) fits) where
        pub stays_apart : fits ≡ false → Brings weights vw (place_of y) (λ H q. pass_turn H maxw q) M M' R (run R.count R.sum R.best R.peak R.words false)
        stays_apart z = turn_stays y.nets y.vertices y.sides y.net_count vw M R h v e low _ _ _ refl refl a weights maxw fits ef z

        pub moves_apart : (M₁ : Lists) (R₁ : Run) → fits ≡ true → Brings weights vw (place_of y) (made_move maxw v) M' M₁ R R₁
            → Brings weights vw (place_of y) (λ H q. pass_turn H maxw q) M M₁ R R₁
        moves_apart M₁ R₁ z q = turn_moves y.nets y.vertices y.sides y.net_count vw M R h v e low _ _ _ refl refl a weights maxw fits ef M₁ R₁ z q
