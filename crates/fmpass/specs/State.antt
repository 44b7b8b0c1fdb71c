-- A pass in memory, and what holds between two turns. Assumes nothing.
use Rattle.std.specs.Prelude.{Bool, true, false, ◌≡◌, List, ℕ, ◌+◌, ◌*◌, ◌≤◌, ◌<◌, eqb, Float, length, get_or}
use Rattle.spec.specs.Lists.{memb, keep, range}
use Rattle.spec.specs.Hypergraph.{Hypergraph}
use Rattle.spec.specs.Fm.{Pass, run_pass}
use Rattle.slots.specs.Slots.{held}
use Rattle.spec.specs.Draws.{Words}
use Rattle.partition.specs.Layout.{graph_in, place_of}
use Rattle.partition.specs.declared.layout.Layout.{Layout}
use Rattle.queue.specs.declared.entries.Entry.{Entry}
use Rattle.queue.specs.Queues.{queue_of, keys_of, stamps_of, waits_of}
use Rattle.partition.specs.declared.place.Place.{Place}
use Rattle.fm.specs.Again.{Stamped, Under}
use Rattle.moves.specs.Kept.{Kept, Site}
use Rattle.moves.specs.Split.{Split, sides_as}
use Rattle.moves.specs.Sums.{gains_of, backwards}
use Rattle.moves.specs.declared.bipartition.Bipartition.{Bipartition}
use Rattle.fmpass.specs.declared.Work.{Work}
use Rattle.moves.specs.declared.pass.Pass.{Pass as Counts}

-- the lists
pub record Lists : Type 0 where
  pub graph : List ℕ
  pub part : List ℕ
  pub loads : List Float
  pub keys : List Float
  pub stamps : List ℕ
  pub waiting : List ℕ
  pub moves : List ℕ

abbrev pub lists : List ℕ → List ℕ → List Float → List Float → List ℕ → List ℕ → List ℕ → Lists
lists graph part loads keys stamps waiting moves =
    record { graph = graph; part = part; loads = loads; keys = keys; stamps = stamps; waiting = waiting; moves = moves }

-- the numbers, and the words
pub record Run : Type 0 where
  pub count : ℕ
  pub sum : Float
  pub best : Float
  pub peak : ℕ
  pub words : Words
  pub over : Bool

abbrev pub run : ℕ → Float → Float → ℕ → Words → Bool → Run
run count sum best peak words over = record { count = count; sum = sum; best = best; peak = peak; words = words; over = over }

-- as the code has them
abbrev pub lists_of : Work → List Entry → Lists
lists_of b l = lists b.words.now b.part.now b.loads.now (keys_of l) (stamps_of l) (waits_of l) b.moves.now

-- the lists where the keys, the stamps and the flags are three
abbrev pub lists_apart : Work → List Float → List ℕ → List ℕ → Lists
lists_apart b keys stamps waiting = lists b.words.now b.part.now b.loads.now keys stamps waiting b.moves.now

-- the same lists are lent, whatever they hold
abbrev pub IsSameLoan : Work → Work → Type 0
IsSameLoan old new =
    (new.words.ghost_name ≡ old.words.ghost_name) × (new.part.ghost_name ≡ old.part.ghost_name) × (new.loads.ghost_name ≡ old.loads.ghost_name)
    × (new.moves.ghost_name ≡ old.moves.ghost_name)

-- the lists where the partition has its two loads in itself
abbrev pub lists_in : Bipartition → List Entry → List ℕ → Lists
lists_in b l moves = lists b.words.now b.part.now b.loads (keys_of l) (stamps_of l) (waits_of l) moves

abbrev pub run_in : Counts → Words → Run
run_in p words = run p.count p.sum p.best p.peak words p.over

-- the vertices that have moved, the last one first
abbrev pub moves_in : Lists → Run → List ℕ
moves_in M R = backwards M.moves R.count

abbrev pub pass_in : Lists → Run → Pass
pass_in M R =
    record {
      sides = sides_as M.part M.loads;
      queue = queue_of M.keys M.stamps M.waiting R.words;
      gains = gains_of (moves_in M R) R.sum R.best R.peak;
      over = R.over;
    }

-- Between two turns: the slots hold the partition and the vertices that have moved; of these none waits; each was counted once.
pub record Stands (o : Place) (M : Lists) (R : Run) : Type 0 where
  pub site : Site M.graph o
  pub split : Split M.graph o.sides o.vertex_count M.part
  pub locks : (u : ℕ) → u < o.vertex_count → memb u (moves_in M R) ≡ held M.graph 2 (o.sides + 2) u
  pub fresh : (u : ℕ) → eqb (get_or M.waiting u 0) 1 ≡ true → memb u (moves_in M R) ≡ false
  pub once : length (keep (λ u. memb u (moves_in M R)) (range o.vertex_count)) ≡ R.count
  pub low : Stamped (R.count * 32768) M.stamps
  pub under : Under o.vertex_count R.count M.moves
  pub long : (length M.keys ≡ o.vertex_count) × (length M.stamps ≡ o.vertex_count) × (length M.waiting ≡ o.vertex_count) × (o.vertex_count ≤ length M.moves)

-- Lists and numbers of a pass become those after f, and stand again; the hypergraph stays.
pub record Brings (weights : List ℕ) (vw : List Float) (o : Place) (f : Hypergraph → Pass → Pass) (M M' : Lists) (R R' : Run) : Type 0 where
  pub pass : pass_in M' R' ≡ f (graph_in M.graph o.nets weights o.net_count vw) (pass_in M R)
  pub stands : Stands o M' R'
  pub kept : Kept (o.sides * 2) M.graph M'.graph

-- the same where f is the whole pass on the hypergraph of a layout, and no side may weigh more than `most`
abbrev pub Ran : Layout → Float → Lists → Lists → Run → Run → Type 0
Ran y most M M' R R' = Brings y.net_weights.now y.vertex_weights.now (place_of y) (λ H p. run_pass H most p) M M' R R'
