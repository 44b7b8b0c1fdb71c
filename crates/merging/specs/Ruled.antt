-- The rule by live tables, in slots: the table that a merge of two slots makes holds what the definition's merged tree lists; and then the
-- words say what a scan reads. Assumes nothing.
use Rattle.std.specs.Prelude.{Bool, true, false, not, ◌&&◌, ◌||◌, cond, ◌≡◌, refl, ℕ, ◌+◌, ◌*◌, ◌≤◌, ◌<◌, leb, ltb, length, get_or}
use mathlib.Mathlib.Data.Bool.Basic.{eq-false_of_not-eq-true}
use Rattle.std.proofs.Common.{sym, ◌∙◌, ap, ap₂, arith, le-leb}
use mathlib.Core.List.{List, []}
use Rattle.std.proofs.Math.Decide.{dec_le}
use Rattle.std.proofs.lemmas.Bool.{lt-leb}
use Rattle.spec.specs.Lists.{memb, anyb, sum_of}
use Rattle.spec.specs.Network.{Network, index_count, named, InRange}
use Rattle.spec.specs.Tree.{Tree, node, below, Pair}
use Rattle.spec.specs.Price.{kept, lists}
use Rattle.spec.specs.Greedy.{Cand, State, off, joined, size_of, merged_size, trees}
use Rattle.spec.specs.GreedyClaims.{others}
use Rattle.laws.specs.Booleans.{by_cases, or_turn}
use Rattle.laws.specs.ListLaws.{memb-keep-range}
use Rattle.laws.specs.GreedyForest.{Takes}
use Rattle.laws.specs.GreedyMerging.{Sound, Fine, takes₁, takes₂}
use Rattle.laws.specs.GreedyLists.{live_rule}
use Rattle.laws.specs.GreedySlots.{entry, pair_at}
use Rattle.slots.specs.Slots.{held, with_set_length, held_with, held_with_other}
use Rattle.slots.specs.Weigh.{weighed_ext}
use Rattle.live.specs.Holders.{holders, staying, with_holders}
use Rattle.live.specs.Merged.{stays, merged_set, pair_bits}
use Rattle.rows.specs.Pairs.{Says}
use Rattle.merging.specs.Listed.{listed, state_at, listed_has}
use Rattle.merging.specs.Tables.{HoldsList, listed_in_range, share_is, weighed-bits, sum_any, holders_count}

-- the indices that stay whatever is merged: outputs, and what a leaf below none of the trees names
abbrev pub outer : Network → List Tree → ℕ → Bool
outer N ts j = memb j N.outputs || named N (λ i. not (anyb (λ t. below t i) ts)) j

-- ---- Booleans ----

leb_less : (a b n : ℕ) → leb (n + a) (n + b) ≡ leb a b
leb_less a b n = elim (dec_le a b) [ yes q ↦ le-leb (n + a) (n + b) (omega arith) ∙ sym (le-leb a b q) | no q ↦ lt-leb (n + a) (n + b) (omega arith) ∙ sym (lt-leb a b (omega arith)) ]

-- F and G: is an index in the first table, in the second; `rest` others have it
rule_bool : (F G A B : Bool) (rest : ℕ)
    → stays F G (leb 2 (cond F 1 0 + (cond G 1 0 + rest)) || (A || B)) (leb 3 (cond F 1 0 + (cond G 1 0 + rest)) || (A || B))
    ≡ ((F || G) && (A || (B || leb 1 rest)))
rule_bool true true A B rest =
    ap (λ (b : Bool). b || (A || B)) (ap (leb 3) (let e : 1 + (1 + rest) ≡ 2 + rest = omega arith in e) ∙ leb_less 1 rest 2) ∙ sym (or_turn A B (leb 1 rest))
rule_bool true false A B rest =
    ap (λ (b : Bool). b || (A || B)) (ap (leb 2) (let e : 1 + (0 + rest) ≡ 1 + rest = omega arith in e) ∙ leb_less 1 rest 1) ∙ sym (or_turn A B (leb 1 rest))
rule_bool false true A B rest =
    ap (λ (b : Bool). b || (A || B)) (ap (leb 2) (let e : 0 + (1 + rest) ≡ 1 + rest = omega arith in e) ∙ leb_less 1 rest 1) ∙ sym (or_turn A B (leb 1 rest))
rule_bool false false A B rest = refl

any_takes : (p : Tree → Bool) (t : Tree) (rest ts : List Tree) → Takes t rest ts → anyb p ts ≡ (p t || anyb p rest)
any_takes p t rest ts k =
    sum_any p ts ∙ ap (leb 1) (k.sums (λ t. cond (p t) 1 0)) ∙ go (p t)
  where
    go : (b : Bool) → leb 1 (cond b 1 0 + sum_of (λ t. cond (p t) 1 0) rest) ≡ (b || anyb p rest)
    go true = le-leb 1 (1 + sum_of (λ t. cond (p t) 1 0) rest) (omega arith)
    go false = ap (leb 1) (let e : 0 + sum_of (λ t. cond (p t) 1 0) rest ≡ sum_of (λ t. cond (p t) 1 0) rest = omega arith in e) ∙ sym (sum_any p rest)

-- ---- the rule ----

module _ (N : Network) (in_range : InRange N) (W : ℕ) (fits : index_count N ≤ W * 64)
    (base : ℕ → ℕ) (lo all : ℕ) (single : (v : ℕ) → base v ≤ 1)
    (a : List Pair) (tree : ℕ → Tree) (L : List ℕ) (next : ℕ) (g : Sound N base lo all (state_at a tree L next))
    (ws : List ℕ) (room : 258 * W + W ≤ length ws) (small : (u : ℕ) → memb u L ≡ true → u < 256)
    (hold : (u : ℕ) → memb u L ≡ true → HoldsList N ws W u (tree u))
    (out : (j : ℕ) → j < W * 64 → held ws W 256 j ≡ outer N (trees (listed tree L)) j)
  where
    abbrev s : State
    s = state_at a tree L next

    abbrev ws' : List ℕ
    ws' = with_holders ws W L (length L)

    pub held_same : (u j : ℕ) → u < 257 → j < W * 64 → held ws' W u j ≡ held ws W u j
    unfolding with_holders
    held_same u j h b =
        held_with_other _ W 258 (staying 3 ws W L (length L)) u j b (λ e. omega arith)
        ∙ held_with_other ws W 257 (staying 2 ws W L (length L)) u j b (λ e. omega arith)

    held_two : (j : ℕ) → j < W * 64 → held ws' W 257 j ≡ staying 2 ws W L (length L) j
    unfolding with_holders
    held_two j b =
        held_with_other _ W 258 (staying 3 ws W L (length L)) 257 j b (λ e. omega arith)
        ∙ held_with ws W 257 (staying 2 ws W L (length L)) j (omega arith) b

    held_three : (j : ℕ) → j < W * 64 → held ws' W 258 j ≡ staying 3 ws W L (length L) j
    unfolding with_holders
    held_three j b =
        held_with _ W 258 (staying 3 ws W L (length L)) j (omega (arith, with_set_length ws W 257 (staying 2 ws W L (length L)))) b

    pub hold' : (u : ℕ) → memb u L ≡ true → HoldsList N ws' W u (tree u)
    hold' u m j b = held_same u j (omega (arith, small u m)) b ∙ hold u m j b

    module _ (f h : ℕ) (mf : memb f L ≡ true) (mh : memb h L ≡ true) (apart : f ≡ h → ⊥) where
      abbrev c : Cand
      c = record { first = entry tree f; second = entry tree h }

      pub fine : Fine (listed tree L) c
      fine = record { one = listed_has tree L f mf; two = listed_has tree L h mh; apart = apart }

      abbrev k₁ : Takes (tree f) (trees (off f (listed tree L))) (trees (listed tree L))
      k₁ = takes₁ s g.rising c fine

      abbrev k₂ : Takes (tree h) (others s c) (trees (off f (listed tree L)))
      k₂ = takes₂ s g.rising c fine

      abbrev rest : ℕ → ℕ
      rest j = sum_of (λ t. cond (memb j (lists N t)) 1 0) (others s c)

      counted : (j : ℕ) → j < W * 64
          → holders ws W L (length L) j ≡ cond (memb j (lists N (tree f))) 1 0 + (cond (memb j (lists N (tree h))) 1 0 + rest j)
      counted j b =
          holders_count N ws W tree j L (λ u m. hold u m j b)
          ∙ k₁.sums (λ t. cond (memb j (lists N t)) 1 0)
          ∙ ap (λ (n : ℕ). cond (memb j (lists N (tree f))) 1 0 + n) (k₂.sums (λ t. cond (memb j (lists N t)) 1 0))

      -- below none of the tables
      pub outside_is : (i : ℕ) → anyb (λ t. below t i) (trees (listed tree L)) ≡ (below (tree f) i || (below (tree h) i || anyb (λ w. below w i) (others s c)))
      outside_is i =
          any_takes (λ t. below t i) (tree f) _ (trees (listed tree L)) k₁
          ∙ ap (λ (b : Bool). below (tree f) i || b) (any_takes (λ t. below t i) (tree h) (others s c) _ k₂)

      merged_in : (j : ℕ) → j < W * 64 → j < index_count N → merged_set ws' W f h j ≡ memb j (lists N (joined N a (tree f) (tree h)))
      merged_in j b d =
          let A = memb j N.outputs in
          let B = named N (λ i. not (anyb (λ t. below t i) (trees (listed tree L)))) j in
          ap₂ (λ (p q : Bool). stays p q (held ws' W 257 j) (held ws' W 258 j)) (hold' f mf j b) (hold' h mh j b)
          ∙ ap₂ (λ (p q : Bool). stays (memb j (lists N (tree f))) (memb j (lists N (tree h))) p q) (held_two j b) (held_three j b)
          ∙ ap₂ (λ (n : ℕ) (o : Bool). stays (memb j (lists N (tree f))) (memb j (lists N (tree h))) (leb 2 n || o) (leb 3 n || o)) (counted j b) (out j b)
          ∙ rule_bool (memb j (lists N (tree f))) (memb j (lists N (tree h))) A B (rest j)
          ∙ ap₂ (λ (u : ℕ → Bool) (o : Bool). (memb j (lists N (tree f)) || memb j (lists N (tree h))) && (A || (named N u j || o)))
          (λ k i. not (outside_is i k)) (sym (sum_any (λ w. memb j (lists N w)) (others s c)))
          ∙ sym (live_rule N base lo all single s g c fine j d)

      none_listed : (t : Tree) (j : ℕ) → index_count N ≤ j → memb j (lists N t) ≡ false
      none_listed t j d = eq-false_of_not-eq-true (λ e. omega (arith, listed_in_range N in_range t j e))

      -- THE RULE: a merge of slots f and h makes what the merged tree lists
      pub merged_is : (j : ℕ) → j < W * 64 → merged_set ws' W f h j ≡ memb j (lists N (joined N a (tree f) (tree h)))
      merged_is j b =
          elim (dec_le (index_count N) j) [
            | yes d ↦ ap₂ (λ (p q : Bool). stays p q (held ws' W 257 j) (held ws' W 258 j)) (hold' f mf j b ∙ none_listed (tree f) j d) (hold' h mh j b ∙ none_listed (tree h) j d)
                ∙ sym (none_listed (joined N a (tree f) (tree h)) j d)
            | no d ↦ merged_in j b (omega arith)
          ]

      -- its size bits
      pub size_is : pair_bits ws' W N.weights f h ≡ size_of N (node 0 (tree f) (tree h))
      unfolding pair_bits kept
      size_is =
          weighed-bits N (merged_set ws' W f h) (kept N (node 0 (tree f) (tree h))) (W * 64) fits (λ j d.
          merged_is j (omega arith) ∙ memb-keep-range j (index_count N) (kept N (joined N a (tree f) (tree h))) d)

    -- the words say what a scan of the live tables reads
    module _ (n₀ : ℕ) (sizes : List ℕ) (size : (u : ℕ) → memb u L ≡ true → get_or sizes u 0 ≡ size_of N (tree u)) where
      swap : (x y two three : Bool) → stays x y two three ≡ stays y x two three
      swap true true two three = refl
      swap true false two three = refl
      swap false true two three = refl
      swap false false two three = refl

      bits_is : (u v : ℕ) → memb u L ≡ true → memb v L ≡ true → u < v → pair_bits ws' W N.weights u v ≡ merged_size N (pair_at n₀ tree u v)
      unfolding pair_bits
      bits_is u v mu mv l =
          by_cases (ltb v n₀)
          (λ e. rw e (size_is u v mu mv (λ z. omega arith)))
          (λ e. rw e (weighed_ext N.weights [] (merged_set ws' W u v) (merged_set ws' W v u) (W * 64) (λ j b. swap (held ws' W u j) (held ws' W v j) _ _)
          ∙ size_is v u mv mu (λ z. omega arith)))

      pub says : Says N n₀ tree L ws' W N.weights sizes
      says =
          record {
            small = small;
            size = size;
            shared = λ u v mu mv. share_is N in_range ws' W fits u v (tree u) (tree v) (hold' u mu) (hold' v mv);
            merged = bits_is;
          }
