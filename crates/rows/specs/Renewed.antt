-- The list of least pairs after its entries were found anew where they did not stand: each says the least pair of its table with the
-- live tables before it. Assumes nothing.
use Rattle.std.proofs.Math.Bool.{true}
use Rattle.std.specs.Prelude.{false, not, ◌≡◌, List, eqb, length}
use Rattle.std.proofs.Math.Path.{refl, subst}
use Rattle.std.proofs.Common.{sym, ◌∙◌, ap, arith, get_or-set_other, eq-eqb}
use Prim.Native.Nat.{ℕ, zero, suc, ◌%◌, ◌≤◌, ◌<◌}
use Rattle.std.proofs.Math.Decide.{dec_le}
use Rattle.std.proofs.Math.ListN.{get_or}
use Rattle.std.proofs.Math.Seq.{get_or-set_same}
use Rattle.std.proofs.lemmas.Bool.{eqb-false, not-true}
use Rattle.spec.specs.Lists.{memb}
use Rattle.spec.specs.Network.{Network}
use Rattle.spec.specs.Tree.{Tree}
use Rattle.spec.specs.Greedy.{merged_size}
use Rattle.laws.specs.Booleans.{by_cases, clash, and_left, and_right}
use Rattle.laws.specs.GreedySlots.{pair_at}
use Rattle.laws.specs.ListLaws.{memb_at}
use Rattle.cells.specs.Loop.{turns}
use Rattle.scores.specs.Scores.{row_of}
use Rattle.rows.specs.Rows.{stands, renewed, renewed_all, all_length}
use Rattle.rows.specs.Pairs.{Says}
use Rattle.rows.specs.Known.{member_at, Rises, code_slot, Share, TooWide, NotBefore, code_for, Known, alone, least, RowTo, none, pair, row_is, all_more}

module _ (N : Network) (n₀ : ℕ) (tree : ℕ → Tree) where
  -- an entry is yet to be found, or what it says is so
  pub data Entry (L : List ℕ) (y c : ℕ) : Type 0 where
    stale : c ≡ 258 → Entry L y c
    known : Known N n₀ tree L y c → Entry L y c

  -- the list of least pairs, between two turns: L has the live tables, and `next` slots have been used
  pub record Kept (L : List ℕ) (next : ℕ) (rows : List ℕ) : Type 0 where
    pub found : (y : ℕ) → memb y L ≡ true → Entry L y (get_or rows y 0)
    pub gone : (u : ℕ) → u < next → memb u L ≡ false → get_or rows u 0 ≡ 259
    pub room : next ≤ length rows

  module _ (L : List ℕ) (rises : Rises L) (ws : List ℕ) (W : ℕ) (wt sizes : List ℕ) (says : Says N n₀ tree L ws W wt sizes)
      (next : ℕ) (used : (u : ℕ) → memb u L ≡ true → u < next)
    where
      -- an entry whose other table lives
      entry_row : (q c : ℕ) → q < length L → Known N n₀ tree L (get_or L q 0) c → (get_or L q 0 < next → (x : ℕ) → c % 512 ≡ x → x < get_or L q 0 → memb x L ≡ true)
          → RowTo N n₀ tree L q q c
      entry_row q c b (alone e h) f = none e (λ i d. h (get_or L i 0) (memb_at L i (omega arith)) (rises i q d b))
      entry_row q c b (least x e l s w h) f =
          let y = get_or L q 0 in
          let iny : memb y L ≡ true = memb_at L q b in
          let ly : y < 256 = says.small y iny in
          let inx : memb x L ≡ true = f (used y iny) x (ap (λ (c : ℕ). c % 512) e ∙ code_slot (merged_size N (pair_at n₀ tree x y)) x (omega arith)) l in
          member_at L x inx λ i d z.
          let iq : i < q = order i d (subst (λ (u : ℕ). u < y) z l) in
          pair i (subst (λ (u : ℕ). c ≡ code_for N n₀ tree u y) z e) iq
          (subst (λ (u : ℕ). Share N n₀ tree u y ≡ true) z s)
          (subst (λ (u : ℕ). TooWide N n₀ tree u y ≡ false) z w)
          (λ j t. subst (λ (u : ℕ). NotBefore N n₀ tree y u (get_or L j 0)) z (h (get_or L j 0) (memb_at L j (omega arith)) (rises j q t b)))
        where
          order : (i : ℕ) → i < length L → get_or L i 0 < get_or L q 0 → i < q
          order i d t = elim (dec_le q i) [
            | yes z ↦ absurd (elim (dec_le i q) [
              | yes z' ↦ (let e : i ≡ q = omega arith in omega (arith, ap (λ (k : ℕ). get_or L k 0) e))
              | no z' ↦ omega (arith, rises q i (omega arith) d)
            ])
            | no z ↦ omega arith
          ]

      renewed_at : (q : ℕ) (rows : List ℕ) → q < length L → get_or L q 0 < length rows → Entry L (get_or L q 0) (get_or rows (get_or L q 0) 0)
          → ((u : ℕ) → u < next → memb u L ≡ false → get_or rows u 0 ≡ 259)
          → RowTo N n₀ tree L q q (get_or (renewed ws W wt sizes n₀ L q rows) (get_or L q 0) 0)
      unfolding renewed
      renewed_at q rows b room e g =
          by_cases (stands rows (get_or rows (get_or L q 0) 0))
          (λ t. rw t (go e t))
          (λ t. rw (t, get_or-set_same rows (get_or L q 0) (row_of ws W wt sizes n₀ L q (get_or L q 0)) 0 room)
          (row_is N n₀ tree L rises ws W wt sizes says q b))
        where
          go : Entry L (get_or L q 0) (get_or rows (get_or L q 0) 0) → stands rows (get_or rows (get_or L q 0) 0) ≡ true → RowTo N n₀ tree L q q (get_or rows (get_or L q 0) 0)
          go (stale z) t = clash (eq-eqb (get_or rows (get_or L q 0) 0) 258 z) (not-true _ (and_left _ _ t))
          go (known k) t =
              entry_row q (get_or rows (get_or L q 0) 0) b k (λ l x z d.
              by_cases (memb x L) (λ m. m) (λ m.
              absurd (eqb-false (get_or rows (get_or rows (get_or L q 0) 0 % 512) 0) 259 (not-true _ (and_right (not (eqb (get_or rows (get_or L q 0) 0) 258)) _ t))
              (ap (λ (i : ℕ). get_or rows i 0) z ∙ g x (omega arith) m))))

      renewed_other : (q : ℕ) (rows : List ℕ) (u : ℕ) → (u ≡ get_or L q 0 → ⊥) → get_or (renewed ws W wt sizes n₀ L q rows) u 0 ≡ get_or rows u 0
      unfolding renewed
      renewed_other q rows u n =
          by_cases (stands rows (get_or rows (get_or L q 0) 0)) (λ t. rw t) (λ t. rw t (get_or-set_other rows (get_or L q 0) u _ 0 n))

      abbrev after : List ℕ → ℕ → List ℕ
      after rows k = renewed_all ws W wt sizes n₀ L rows k

      after_other : (rows : List ℕ) (k u : ℕ) → ((q : ℕ) → q < k → u ≡ get_or L q 0 → ⊥) → get_or (after rows k) u 0 ≡ get_or rows u 0
      unfolding renewed_all turns
      after_other rows zero u f = refl
      after_other rows (suc k) u f = renewed_other k (after rows k) u (f k (omega arith)) ∙ after_other rows k u (λ q b. f q (omega arith))

      differs : (p q : ℕ) → p < q → q < length L → get_or L q 0 ≡ get_or L p 0 → ⊥
      differs p q h b e = omega (arith, rises p q h b)

      module _ (rows : List ℕ) (kept : Kept L next rows) where
        rows_to : (k : ℕ) → k ≤ length L → (q : ℕ) → q < k → RowTo N n₀ tree L q q (get_or (after rows k) (get_or L q 0) 0)
        unfolding renewed_all turns
        rows_to zero h = λ q b. absurd (omega arith)
        rows_to (suc k) h =
            all_more (λ q. RowTo N n₀ tree L q q (get_or (after rows (suc k)) (get_or L q 0) 0)) k
            (λ q b. subst (RowTo N n₀ tree L q q) (sym (renewed_other k (after rows k) (get_or L q 0) (λ e. differs q k b h (sym e)))) (rows_to k (omega arith) q b))
            (let y = get_or L k 0 in
            let iny : memb y L ≡ true = memb_at L k h in
            renewed_at k (after rows k) h (omega (arith, used y iny, kept.room, all_length ws W wt sizes n₀ L rows k))
            (subst (Entry L y) (sym (after_other rows k y (λ q b. differs q k b h))) (kept.found y iny))
            (λ u l m. after_other rows k u (λ q b e. clash (ap (λ (i : ℕ). memb i L) e ∙ memb_at L q (omega arith)) m) ∙ kept.gone u l m))

        -- every entry says the least pair
        pub rows_are : (q : ℕ) → q < length L → RowTo N n₀ tree L q q (get_or (after rows (length L)) (get_or L q 0) 0)
        rows_are q b = rows_to (length L) (omega arith) q b

        -- and tables that are gone stay so
        pub rows_gone : (u : ℕ) → u < next → memb u L ≡ false → get_or (after rows (length L)) u 0 ≡ 259
        rows_gone u l m =
            after_other rows (length L) u (λ q b e. clash (ap (λ (i : ℕ). memb i L) e ∙ memb_at L q b) m) ∙ kept.gone u l m
