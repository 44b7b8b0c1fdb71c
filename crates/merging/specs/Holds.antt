-- What the lent lists hold between two turns of greedy: the trees are for the proof alone. Assumes nothing.
use Rattle.std.specs.Prelude.{true, false, cond, ◌≡◌, List, ℕ, ◌+◌, ◌*◌, ◌≤◌, ◌<◌, length, get_or}
use Rattle.std.proofs.Common.{sym, ◌∙◌, ap, subst, arith, ne_eqb}
use Rattle.std.proofs.lemmas.List.{length-map}
use Rattle.spec.specs.Lists.{memb}
use Rattle.spec.specs.Network.{Network, index_count, InRange}
use Rattle.spec.specs.Tree.{Tree, number, Pair}
use Rattle.spec.specs.Greedy.{Live, State, size_of, joined, trees}
use Rattle.laws.specs.Booleans.{clash, eqb_self}
use Rattle.laws.specs.MemberLaws.{all_in}
use Rattle.laws.specs.GreedyMerging.{Sound}
use Rattle.laws.specs.GreedySlots.{entry, tree_after}
use Rattle.laws.specs.ListLaws.{memb_at}
use Rattle.slots.specs.Slots.{held}
use Rattle.tables.specs.Lists.{Lists}
use Rattle.rows.specs.Known.{Rises, places_of, same_place, Share, TooWide, NotBefore, Known, alone, least, RowTo, none, over, pair}
use Rattle.rows.specs.Renewed.{Kept}
use Rattle.merging.specs.Listed.{listed, state_at, listed_has}
use Rattle.merging.specs.Tables.{HoldsList}
use Rattle.merging.specs.Ruled.{outer}

-- what does not change: the network, its sets of `width` words, the number of start tables, and how often the start has each number
pub record Given : Type 0 where
  pub net : Network
  pub in_range : InRange net
  pub width : ℕ
  pub fits : index_count net ≤ width * 64
  pub start : ℕ
  pub base : ℕ → ℕ
  pub lo : ℕ
  pub all : ℕ
  pub single : (v : ℕ) → base v ≤ 1

-- a state: the array so far, the tree of each slot, the live slots, rising, and how many slots have been used
pub record Ghost : Type 0 where
  pub array : List Pair
  pub tree : ℕ → Tree
  pub slots : List ℕ
  pub next : ℕ

abbrev pub state_of : Ghost → State
state_of S = state_at S.array S.tree S.slots S.next

pub record Holds (G : Given) (S : Ghost) (M : Lists) : Type 0 where
  pub sound : Sound G.net G.base G.lo G.all (state_of S)
  pub sets : (u : ℕ) → u < S.next → HoldsList G.net M.words G.width u (S.tree u)
  pub size : (u : ℕ) → u < S.next → get_or M.sizes u 0 ≡ size_of G.net (S.tree u)
  pub numbers : (u : ℕ) → u < S.next → get_or M.nodes u 0 ≡ number (S.tree u)
  -- slot 256 holds what stays whatever is merged
  pub outside : (j : ℕ) → j < G.width * 64 → held M.words G.width 256 j ≡ outer G.net (trees (listed S.tree S.slots)) j
  pub kept : Kept G.net G.start S.tree S.slots S.next M.rows
  pub lived : M.live ≡ S.slots
  pub few : S.next + length S.slots ≤ 256
  pub enough : 258 * G.width + G.width ≤ length M.words
  pub places : (256 ≤ length M.nodes) × (256 ≤ length M.sizes) × (256 ≤ length M.rows)

pub count_trees : (tree : ℕ → Tree) (L : List ℕ) → length (trees (listed tree L)) ≡ length L
count_trees tree L = length-map (listed tree L) (λ x. x.tree) ∙ length-map L (entry tree)

-- live slots are used ones
pub used_slots : (N : Network) (base : ℕ → ℕ) (lo all : ℕ) (a : List Pair) (tree : ℕ → Tree) (L : List ℕ) (next : ℕ)
    → Sound N base lo all (state_at a tree L next) → (u : ℕ) → memb u L ≡ true → u < next
used_slots N base lo all a tree L next g u m = all_in (λ (x : Live). x.slot < next) (entry tree u) (listed tree L) g.slotted (listed_has tree L u m)

-- ---- the tree of each slot after a merge ----

module _ (N : Network) (a : List Pair) (tree : ℕ → Tree) (next f g : ℕ) where
  pub tree_new : tree_after N a tree next f g next ≡ joined N a (tree f) (tree g)
  tree_new = ap (λ b. cond b (joined N a (tree f) (tree g)) (tree next)) (eqb_self next)

  pub tree_old : (u : ℕ) → u < next → tree_after N a tree next f g u ≡ tree u
  tree_old u h = ap (λ b. cond b (joined N a (tree f) (tree g)) (tree u)) (ne_eqb u next (λ e. omega arith))

-- ---- entries that were found ----

-- an entry of a table none of whose pairs is too wide
pub row_known : (N : Network) (n₀ : ℕ) (tree : ℕ → Tree) (L : List ℕ) → Rises L → (q c : ℕ) → q < length L
    → ((j : ℕ) → j < q → Share N n₀ tree (get_or L j 0) (get_or L q 0) ≡ true → TooWide N n₀ tree (get_or L j 0) (get_or L q 0) ≡ false)
    → RowTo N n₀ tree L q q c → Known N n₀ tree L (get_or L q 0) c
row_known N n₀ tree L r q c b f (none e h) =
    alone e (λ u m l. places_of L r u (get_or L q 0) m (memb_at L q b) l λ i k d t ei ek.
    ap (λ (v : ℕ). Share N n₀ tree v (get_or L q 0)) ei ∙ h i (omega (arith, d, same_place L r k q t b (sym ek))))
row_known N n₀ tree L r q c b f (over e i l s w) = clash w (f i l s)
row_known N n₀ tree L r q c b f (pair i e l s w h) =
    least (get_or L i 0) e (r i q l b) s w (λ u m t. places_of L r u (get_or L q 0) m (memb_at L q b) t λ j k d v ej ek.
    subst (λ (v : ℕ). NotBefore N n₀ tree (get_or L q 0) (get_or L i 0) v) (sym ej) (h j (omega (arith, d, same_place L r k q v b (sym ek)))))
