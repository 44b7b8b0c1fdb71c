-- What is claimed of greedy over any trees, onto any array, and of where bisection is refused. Definitions only; proofs in GreedyFrom and EndLaws of
-- laws. Assumes nothing.
use Rattle.std.specs.Prelude.{Bool, true, false, List, [], ◌∷◌, ◌⊎◌, ◌≡◌, ℕ, suc, ◌≤◌, ◌<◌, max, Float, length, Err, Ok}
use Rattle.spec.specs.Lists.{count, range}
use Rattle.spec.specs.Members.{All}
use Rattle.spec.specs.Network.{Network, leaf_count}
use Rattle.spec.specs.Tree.{Tree, Pair}
use Rattle.spec.specs.declared.Refusal.{Refusal}
use Rattle.spec.specs.declared.Refusal.TheVariants.{TableTooWide, DrawsExhausted}
use Rattle.spec.specs.Draws.{Words, Drawn, lent_words}
use Rattle.spec.specs.Greedy.{Cand, sharing_pairs, least, any_wide, State, merge, by_size, Built, join_all, trees, start_of, leaves_of, greedy_from}
use Rattle.spec.specs.Hypergraph.{hypergraph_of}
use Rattle.spec.specs.Bisection.{imbalance, bisect, left_half, right_half, Halved, bisect_rec, bisection}

-- ---- greedy over the trees of a list, onto an array ----

-- the pairs of a state that share an index, if n₀ tables were there at the start
abbrev pub pairs_after : Network → ℕ → State → List Cand
pairs_after N n₀ s = sharing_pairs N n₀ s.live

-- the states that it goes through, with the number of merges (as `Reached` of GreedyClaims, which is over all leaves, onto the empty array)
pub data ReachedFrom (N : Network) (a : List Pair) (ts : List Tree) : ℕ → State → Type 0 where
  begin_from : ReachedFrom N a ts 0 (start_of a ts)
  then_from : {k : ℕ} {s : State} (c : Cand) (l : List Cand) → ReachedFrom N a ts k s → pairs_after N (length ts) s ≡ c ∷ l
      → any_wide N (c ∷ l) ≡ false → ReachedFrom N a ts (suc k) (merge N (least N c l) s)

-- LAW G7. It refuses only by 12, and just if it comes to a state in which a pair that shares an index is too wide; else it answers.
pub record RefusesWideFrom (N : Network) (a : List Pair) (ts : List Tree) : Type 0 where
  pub only : (r : Refusal) → greedy_from N a ts ≡ Err r → r ≡ TableTooWide
  pub because : (r : Refusal) → greedy_from N a ts ≡ Err r
      → (k : ℕ) × (s : State) × ReachedFrom N a ts k s × (any_wide N (pairs_after N (length ts) s) ≡ true)
  pub whenever : (k : ℕ) (s : State) → ReachedFrom N a ts k s → any_wide N (pairs_after N (length ts) s) ≡ true
      → greedy_from N a ts ≡ Err TableTooWide
  pub otherwise : ((k : ℕ) (s : State) → ReachedFrom N a ts k s → any_wide N (pairs_after N (length ts) s) ≡ false)
      → (b : Built) × (greedy_from N a ts ≡ Ok b)

abbrev pub RefusesFrom : Type 0
RefusesFrom = (N : Network) (a : List Pair) (ts : List Tree) → RefusesWideFrom N a ts

-- And an answer is the unconnected rest, joined by size, of a state that it comes to and in which no pair is left.
pub record AnswersFrom (N : Network) (a : List Pair) (ts : List Tree) (b : Built) : Type 0 where
  pub merges : ℕ
  pub last : State
  pub reached : ReachedFrom N a ts merges last
  pub ended : pairs_after N (length ts) last ≡ []
  pub joins : join_all N last.pairs (by_size N (trees last.live)) ≡ b

abbrev pub EndsFrom : Type 0
EndsFrom = (N : Network) (a : List Pair) (ts : List Tree) (b : Built) → greedy_from N a ts ≡ Ok b → AnswersFrom N a ts b

-- ---- where bisection is refused ----

-- some leaves are more than the cutoff, so a partition of them is drawn; is a draw due past the words' end
pub record Partitioned (N : Network) (eps : Float) (cutoff : ℕ) (leaves : List ℕ) (ws : Words) (d : Drawn (List ℕ)) (exhausted : Bool) : Type 0 where
  pub many : max cutoff 2 < length leaves
  pub parts : bisect (hypergraph_of N leaves) eps ws ≡ d
  pub words : d.words.exhausted ≡ exhausted

-- neither half is empty
pub record TwoHalves (leaves part : List ℕ) : Type 0 where
  pub left : 1 ≤ length (left_half part leaves)
  pub right : 1 ≤ length (right_half part leaves)

-- Bisection of some leaves, onto an array, with some words, comes to the leaves, the array and the words that are named last: its own; those that
-- bisection of the left half comes to; and, if the left half has an answer, those that bisection of the right half comes to with it.
pub data Comes (N : Network) (eps : Float) (cutoff : ℕ) : List ℕ → List Pair → Words → List ℕ → List Pair → Words → Type 0 where
  itself : {leaves : List ℕ} {a : List Pair} {ws : Words} → Comes N eps cutoff leaves a ws leaves a ws
  in_left : {leaves : List ℕ} {a : List Pair} {ws : Words} {end : List ℕ} {onto : List Pair} {rest : Words} (d : Drawn (List ℕ))
      → Partitioned N eps cutoff leaves ws d false → TwoHalves leaves d.value
      → Comes N eps cutoff (left_half d.value leaves) a d.words end onto rest → Comes N eps cutoff leaves a ws end onto rest
  in_right : {leaves : List ℕ} {a : List Pair} {ws : Words} {end : List ℕ} {onto : List Pair} {rest : Words} (d : Drawn (List ℕ))
      → Partitioned N eps cutoff leaves ws d false → TwoHalves leaves d.value
      → (x : Halved) → bisect_rec N eps cutoff (length (left_half d.value leaves)) (left_half d.value leaves) a d.words ≡ Ok x
      → Comes N eps cutoff (right_half d.value leaves) x.built.pairs x.words end onto rest → Comes N eps cutoff leaves a ws end onto rest

-- a small end: leaves that are at most the cutoff, or of which one half is empty
pub data SmallEnd (N : Network) (eps : Float) (cutoff : ℕ) (leaves : List ℕ) (ws : Words) : Type 0 where
  few : length leaves ≤ max cutoff 2 → SmallEnd N eps cutoff leaves ws
  whole : (d : Drawn (List ℕ)) → Partitioned N eps cutoff leaves ws d false → (left_half d.value leaves ≡ []) ⊎ (right_half d.value leaves ≡ [])
      → SmallEnd N eps cutoff leaves ws

-- what a run comes to: some leaves of the network, none of them twice
pub record Met (N : Network) (i cutoff : ℕ) (words end : List ℕ) (onto : List Pair) (rest : Words) : Type 0 where
  pub comes : Comes N (imbalance i) cutoff (range (leaf_count N)) [] (lent_words words) end onto rest
  pub some : 1 ≤ length end
  pub leaves : All (λ v. v < leaf_count N) end
  pub once : (v : ℕ) → count v end ≤ 1

-- LAW B8. 12 comes of greedy alone: bisection is refused 12 just if it comes to a small end that greedy refuses by 12.
pub record WideEnd (N : Network) (i cutoff : ℕ) (words : List ℕ) : Type 0 where
  pub end : List ℕ
  pub onto : List Pair
  pub rest : Words
  pub met : Met N i cutoff words end onto rest
  pub small : SmallEnd N (imbalance i) cutoff end rest
  pub wide : greedy_from N onto (leaves_of end) ≡ Err TableTooWide

pub record WideAtEnd (N : Network) (i cutoff : ℕ) (words : List ℕ) : Type 0 where
  pub because : bisection N i cutoff words ≡ Err TableTooWide → WideEnd N i cutoff words
  pub whenever : (end : List ℕ) (onto : List Pair) (rest : Words)
      → Comes N (imbalance i) cutoff (range (leaf_count N)) [] (lent_words words) end onto rest → SmallEnd N (imbalance i) cutoff end rest
      → greedy_from N onto (leaves_of end) ≡ Err TableTooWide → bisection N i cutoff words ≡ Err TableTooWide

abbrev pub WideByGreedy : Type 0
WideByGreedy = (N : Network) (i cutoff : ℕ) (words : List ℕ) → WideAtEnd N i cutoff words

-- LAW B9. 13 comes of draws alone: just if it comes to leaves in whose partition one is.
pub record ExhaustedPart (N : Network) (i cutoff : ℕ) (words : List ℕ) : Type 0 where
  pub part : List ℕ
  pub onto : List Pair
  pub rest : Words
  pub met : Met N i cutoff words part onto rest
  pub d : Drawn (List ℕ)
  pub exhausted : Partitioned N (imbalance i) cutoff part rest d true

pub record ExhaustedAtDraw (N : Network) (i cutoff : ℕ) (words : List ℕ) : Type 0 where
  pub because : bisection N i cutoff words ≡ Err DrawsExhausted → ExhaustedPart N i cutoff words
  pub whenever : (part : List ℕ) (onto : List Pair) (rest : Words) (d : Drawn (List ℕ))
      → Comes N (imbalance i) cutoff (range (leaf_count N)) [] (lent_words words) part onto rest → Partitioned N (imbalance i) cutoff part rest d true
      → bisection N i cutoff words ≡ Err DrawsExhausted

abbrev pub ExhaustedByDraws : Type 0
ExhaustedByDraws = (N : Network) (i cutoff : ℕ) (words : List ℕ) → ExhaustedAtDraw N i cutoff words
