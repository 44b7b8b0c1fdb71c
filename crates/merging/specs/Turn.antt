-- One turn of greedy over the lent lists, up to the least pair: merging ends, is refused, or goes on with that pair. Assumes nothing.
use Rattle.std.specs.Prelude.{true, false, ◌≡◌, List, ℕ, suc, ◌<◌, length, get_or, Err, Ok}
use Rattle.std.proofs.Common.{sym, subst, arith}
use Rattle.spec.specs.Lists.{memb}
use Rattle.spec.specs.Network.{Network}
use Rattle.spec.specs.Tree.{Tree}
use Rattle.spec.specs.declared.Refusal.TheVariants.{TableTooWide}
use Rattle.spec.specs.Greedy.{size_of, connect, merge}
use Rattle.laws.specs.GreedySlots.{pair_at}
use Rattle.laws.specs.ListLaws.{memb_at}
use Rattle.live.specs.Holders.{with_holders}
use Rattle.rows.specs.Rows.{renewed_all, least_of}
use Rattle.rows.specs.Pairs.{Says}
use Rattle.rows.specs.Known.{Rises, Share, TooWide, Before, code_for, RowTo}
use Rattle.rows.specs.Renewed.{rows_are}
use Rattle.rows.specs.LeastRow.{LeastTo, nothing, too_broad, at, least_is}
use Rattle.merging.specs.Listed.{rising_rises, listed_ends, listed_refuses, listed_merges}
use Rattle.merging.specs.Tables.{HoldsList}
use Rattle.merging.specs.Ruled.{says}
use Rattle.tables.specs.Lists.{Lists}
use Rattle.merging.specs.Holds.{Given, Ghost, state_of, Holds, used_slots}

module _ (G : Given) (S : Ghost) (M : Lists) (H : Holds G S M) where
  abbrev N : Network
  N = G.net

  abbrev n₀ : ℕ
  n₀ = G.start

  abbrev tree : ℕ → Tree
  tree = S.tree

  abbrev L : List ℕ
  L = S.slots

  -- the words and the list of least pairs, as the turn makes them
  abbrev pub words₁ : List ℕ
  words₁ = with_holders M.words G.width L (length L)

  abbrev pub rows₁ : List ℕ
  rows₁ = renewed_all words₁ G.width N.weights M.sizes n₀ L M.rows (length L)

  pub rises : Rises L
  rises = rising_rises tree L H.sound.rising

  pub used : (u : ℕ) → memb u L ≡ true → u < S.next
  used u m = used_slots N G.base G.lo G.all S.array tree L S.next H.sound u m

  pub small : (u : ℕ) → memb u L ≡ true → u < 256
  small u m = omega (arith, used u m, H.few)

  pub hold : (u : ℕ) → memb u L ≡ true → HoldsList N M.words G.width u (tree u)
  hold u m = H.sets u (used u m)

  pub sized : (u : ℕ) → memb u L ≡ true → get_or M.sizes u 0 ≡ size_of N (tree u)
  sized u m = H.size u (used u m)

  pub said : Says N n₀ tree L words₁ G.width N.weights M.sizes
  said =
      says N G.in_range G.width G.fits G.base G.lo G.all G.single S.array tree L S.next H.sound M.words H.enough
      small hold H.outside n₀ M.sizes sized

  pub entries : (q : ℕ) → q < length L → RowTo N n₀ tree L q q (get_or rows₁ (get_or L q 0) 0)
  entries q b = rows_are N n₀ tree L rises words₁ G.width N.weights M.sizes said S.next used M.rows H.kept q b

  -- the least pair: that of y with x, and no pair is too wide
  pub record Chosen (y : ℕ) : Type 0 where
    pub x : ℕ
    pub in_x : memb x L ≡ true
    pub in_y : memb y L ≡ true
    pub less : x < y
    pub code : get_or rows₁ y 0 ≡ code_for N n₀ tree x y
    pub shared : Share N n₀ tree x y ≡ true
    pub first : (p : ℕ) → p < length L → (j : ℕ) → j < p → Share N n₀ tree (get_or L j 0) (get_or L p 0) ≡ true
        → (TooWide N n₀ tree (get_or L j 0) (get_or L p 0) ≡ false) × (Before N n₀ tree (get_or L j 0) (get_or L p 0) x y ≡ false)

  -- what the scan answers
  pub data Scanned (fuel c : ℕ) : Type 0 where
    ends : c ≡ 256 → connect N n₀ (suc fuel) (state_of S) ≡ Ok (state_of S) → Scanned fuel c
    refuses : c ≡ 257 → connect N n₀ (suc fuel) (state_of S) ≡ Err TableTooWide → Scanned fuel c
    chooses : (c < 256) → Chosen c → Scanned fuel c

  outcome : (fuel c : ℕ) → LeastTo N n₀ tree L rows₁ M.sizes small sized (length L) c → Scanned fuel c
  outcome fuel c (nothing e h) = ends e (listed_ends N n₀ fuel S.array tree L S.next H.sound.rising h)
  outcome fuel c (too_broad e i q l b s w) =
      refuses e (listed_refuses N n₀ fuel S.array tree L S.next H.sound.rising (get_or L i 0) (get_or L q 0) (memb_at L i (omega arith)) (memb_at L q b) (rises i q l b) s w)
  outcome fuel c (at i q e l b z s w h) =
      chooses (omega (arith, e, small (get_or L q 0) (memb_at L q b))) (subst Chosen (sym e)
      (record {
        x = get_or L i 0;
        in_x = memb_at L i (omega arith);
        in_y = memb_at L q b;
        less = rises i q l b;
        code = z;
        shared = s;
        first = h;
      }))

  pub scanned : (fuel : ℕ) → Scanned fuel (least_of M.sizes n₀ rows₁ L (length L))
  scanned fuel = outcome fuel _ (least_is N n₀ tree L rows₁ M.sizes small sized entries)

  -- the chosen pair is merged
  pub chosen_merges : (fuel y : ℕ) (c : Chosen y)
      → connect N n₀ (suc fuel) (state_of S) ≡ connect N n₀ fuel (merge N (pair_at n₀ tree c.x y) (state_of S))
  chosen_merges fuel y c =
      listed_merges N n₀ fuel S.array tree L S.next H.sound.rising c.x y c.in_x c.in_y c.less c.shared c.first
