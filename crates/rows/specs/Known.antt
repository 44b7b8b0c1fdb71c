-- The least pair of a table with the live tables before it: what the scan finds, and what an entry that was found says as long as the table
-- lives. Assumes nothing.
use Rattle.std.specs.Prelude.{Bool, true, false, ◌||◌, ◌≡◌, List, [], ◌∷◌, eqb, ltb, length, get_or}
use Rattle.std.proofs.Math.Path.{refl}
use Rattle.std.proofs.Common.{sym, ◌∙◌, ap, ap₂, arith, ltb-true, ltb-false, eqb-true}
use Prim.Native.Nat.{ℕ, zero, suc, ◌+◌, ◌/◌, ◌%◌, ◌≤◌, ◌<◌}
use Rattle.std.proofs.Math.Decide.{ℕ_discrete, dec_le}
use Rattle.spec.specs.Lists.{memb}
use Rattle.spec.specs.Network.{Network}
use Rattle.spec.specs.Tree.{Tree}
use Rattle.spec.specs.Greedy.{share, before, key_of, key_before, too_wide, merged_size}
use Rattle.laws.specs.Booleans.{by_cases, or_cases, or_none, clash}
use Rattle.laws.specs.GreedyOrder.{sooner_self, sooner_asym, later_trans}
use Rattle.laws.specs.GreedySlots.{pair_at}
use Rattle.laws.specs.ListLaws.{memb_at}
use Rattle.cells.specs.Loop.{turns}
use Rattle.live.specs.Common.{shares}
use Rattle.live.specs.Merged.{pair_bits}
use Rattle.scores.specs.Scores.{key_at, over_forty, code_of, considered, row_of, consider_refused, consider_apart, consider_over, consider_table, consider_first, consider_sooner, consider_later}
use Rattle.rows.specs.Pairs.{Says, width_is, key_is}

-- ---- places of a list ----

pub member_at {ℓ} : {P : Type ℓ} (l : List ℕ) (u : ℕ) → memb u l ≡ true → ((i : ℕ) → i < length l → u ≡ get_or l i 0 → P) → P
member_at [] u h f = clash h refl
member_at (x ∷ l) u h f =
    or_cases (eqb u x) (memb u l) h
    (λ e. f 0 (omega arith) (eqb-true u x e))
    (λ m. member_at l u m (λ i b e. f (suc i) (omega arith) e))

-- the slots rise
abbrev pub Rises : List ℕ → Type 0
Rises l = (i k : ℕ) → i < k → k < length l → get_or l i 0 < get_or l k 0

-- two live slots by their places
pub places_of {ℓ} : {P : Type ℓ} (L : List ℕ) → Rises L → (u v : ℕ) → memb u L ≡ true → memb v L ≡ true → u < v
    → ((i k : ℕ) → i < k → k < length L → u ≡ get_or L i 0 → v ≡ get_or L k 0 → P) → P
places_of L r u v mu mv h f =
    member_at L u mu λ i bi ei.
    member_at L v mv λ k bk ek.
    elim (dec_le k i) [
      | yes q ↦ absurd (elim (dec_le i k) [
        | yes q' ↦ (let e : i ≡ k = omega arith in omega (arith, ei, ek, ap (λ (n : ℕ). get_or L n 0) e))
        | no q' ↦ omega (arith, ei, ek, r k i (omega arith) bi)
      ])
      | no q ↦ f i k (omega arith) bk ei ek
    ]

-- two places with one slot are the same
pub same_place : (L : List ℕ) → Rises L → (i k : ℕ) → i < length L → k < length L → get_or L i 0 ≡ get_or L k 0 → i ≡ k
same_place L r i k bi bk e =
    elim (ℕ_discrete i k) [
      | yes q ↦ q
      | no n ↦ elim (dec_le i k) [
        | yes q ↦ absurd (omega (arith, r i k (omega (arith, n)) bk))
        | no q ↦ absurd (omega (arith, r k i (omega arith) bi))
      ]
    ]

pub all_more : (P : ℕ → Type 0) (k : ℕ) → ((i : ℕ) → i < k → P i) → P k → (i : ℕ) → i < suc k → P i
all_more P k h p i b = elim (ℕ_discrete i k) [ yes e ↦ rw e p | no n ↦ h i (omega (arith, n)) ]

-- a pair's code, and back
pub code_slot : (m x : ℕ) → x < 256 → code_of m x % 512 ≡ x
code_slot m x h = omega arith

pub code_bits : (m x : ℕ) → x < 256 → code_of m x / 512 ≡ m
code_bits m x h = omega arith

pub code_none : (m x : ℕ) → x < 256 → (k : ℕ) → k < 256 → code_of m x ≡ 256 + k → ⊥
code_none m x h k b e = omega arith

module _ (N : Network) (n₀ : ℕ) (tree : ℕ → Tree) where
  -- the tables of two slots share an index
  abbrev pub Share : ℕ → ℕ → Bool
  Share u v = share N (tree u) (tree v)

  abbrev pub TooWide : ℕ → ℕ → Bool
  TooWide u v = too_wide N (pair_at n₀ tree u v)

  -- the pair of u and v comes before that of x and y
  abbrev pub Before : ℕ → ℕ → ℕ → ℕ → Bool
  Before u v x y = before N (pair_at n₀ tree u v) (pair_at n₀ tree x y)

  abbrev pub code_for : ℕ → ℕ → ℕ
  code_for x y = code_of (merged_size N (pair_at n₀ tree x y)) x

  -- the pair of x and y is not too wide, and that of u with y, if they share an index, is not either and does not come before it
  abbrev pub NotBefore : ℕ → ℕ → ℕ → Type 0
  NotBefore y x u = Share u y ≡ true → (TooWide u y ≡ false) × (Before u y x y ≡ false)

  -- what an entry says that was found: of the tables of a list that are lower than y
  pub data Known (L : List ℕ) (y c : ℕ) : Type 0 where
    alone : c ≡ 256 → ((u : ℕ) → memb u L ≡ true → u < y → Share u y ≡ false) → Known L y c
    least : (x : ℕ) → c ≡ code_for x y → x < y → Share x y ≡ true → TooWide x y ≡ false
        → ((u : ℕ) → memb u L ≡ true → u < y → NotBefore y x u) → Known L y c

  -- fewer tables
  pub known_fewer : (L L' : List ℕ) (y c : ℕ) → ((u : ℕ) → memb u L' ≡ true → u < y → memb u L ≡ true) → Known L y c → Known L' y c
  known_fewer L L' y c f (alone e h) = alone e (λ u m b. h u (f u m b) b)
  known_fewer L L' y c f (least x e l s w h) = least x e l s w (λ u m b. h u (f u m b) b)

  -- the least pair of the table at place q with those at the places below k
  pub data RowTo (L : List ℕ) (q k c : ℕ) : Type 0 where
    none : c ≡ 256 → ((i : ℕ) → i < k → Share (get_or L i 0) (get_or L q 0) ≡ false) → RowTo L q k c
    over : c ≡ 257 → (i : ℕ) → i < k → Share (get_or L i 0) (get_or L q 0) ≡ true → TooWide (get_or L i 0) (get_or L q 0) ≡ true → RowTo L q k c
    pair : (i : ℕ) → c ≡ code_for (get_or L i 0) (get_or L q 0) → i < k → Share (get_or L i 0) (get_or L q 0) ≡ true → TooWide (get_or L i 0) (get_or L q 0) ≡ false
        → ((j : ℕ) → j < k → NotBefore (get_or L q 0) (get_or L i 0) (get_or L j 0)) → RowTo L q k c

  module _ (L : List ℕ) (rises : Rises L) (ws : List ℕ) (W : ℕ) (wt sizes : List ℕ) (says : Says N n₀ tree L ws W wt sizes)
      (q : ℕ) (bq : q < length L)
    where
      abbrev y : ℕ
      y = get_or L q 0

      module _ (k : ℕ) (bk : k < q) where
        abbrev x : ℕ
        x = get_or L k 0

        inx : memb x L ≡ true
        inx = memb_at L k (omega arith)

        iny : memb y L ≡ true
        iny = memb_at L q bq

        low : x < y
        low = rises k q bk bq

        es : shares ws W x y ≡ Share x y
        es = says.shared x y inx iny

        em : pair_bits ws W wt x y ≡ merged_size N (pair_at n₀ tree x y)
        em = says.merged x y inx iny low

        ew : (ltb 40 (pair_bits ws W wt x y) || over_forty sizes x y) ≡ TooWide x y
        ew = width_is N n₀ tree sizes x y (says.size x inx) (says.size y iny) (pair_bits ws W wt x y) em

        ek : TooWide x y ≡ false → key_at sizes n₀ x y (pair_bits ws W wt x y) ≡ key_of N (pair_at n₀ tree x y)
        ek = key_is N n₀ tree sizes x y (says.size x inx) (says.size y iny) (pair_bits ws W wt x y) em

        abbrev next : ℕ → ℕ
        next best = considered ws W wt sizes n₀ y best x

        -- the pair of place k is too wide
        step_refused : (best : ℕ) → (best ≡ 257 → ⊥) → Share x y ≡ true → TooWide x y ≡ true → RowTo L q (suc k) (next best)
        step_refused best n s w =
            let c : next best ≡ 257 =
            or_cases (ltb 40 (pair_bits ws W wt x y)) (over_forty sizes x y) (ew ∙ w)
            (λ h. sym (consider_over ws W wt sizes n₀ y best x n (es ∙ s) (ltb-true 40 _ h)))
            (λ h. sym (consider_table ws W wt sizes n₀ y best x n (es ∙ s) h)) in
            over c k (omega arith) s w

        module _ (w : TooWide x y ≡ false) where
          narrow : (ltb 40 (pair_bits ws W wt x y) ≡ false) × (over_forty sizes x y ≡ false)
          narrow = or_none (ltb 40 (pair_bits ws W wt x y)) (over_forty sizes x y) (ew ∙ w)

          -- it is the first
          step_first : (best : ℕ) → best ≡ 256 → Share x y ≡ true → ((i : ℕ) → i < k → Share (get_or L i 0) y ≡ false) → RowTo L q (suc k) (next best)
          step_first best e s h =
              pair k
              (sym (consider_first ws W wt sizes n₀ y best x (λ z. omega arith) (es ∙ s) (ltb-false 40 _ narrow.0) narrow.1 e) ∙ ap (λ (b : ℕ). code_of b x) em)
              (omega arith) s w
              (all_more (λ j. NotBefore y x (get_or L j 0)) k (λ j b t. clash t (h j b)) (λ t. (w, sooner_self (key_of N (pair_at n₀ tree x y)))))

          -- it comes before the least so far, or it does not
          step_pair : (best i : ℕ) → best ≡ code_for (get_or L i 0) y → i < k → Share (get_or L i 0) y ≡ true → TooWide (get_or L i 0) y ≡ false
              → ((j : ℕ) → j < k → NotBefore y (get_or L i 0) (get_or L j 0)) → Share x y ≡ true → RowTo L q (suc k) (next best)
          step_pair best i e b t v h s =
              let u = get_or L i 0 in
              let inu : memb u L ≡ true = memb_at L i (omega arith) in
              let su : u < 256 = says.small u inu in
              let lu : u < y = rises i q (omega arith) bq in
              let m = merged_size N (pair_at n₀ tree u y) in
              let n₁ : best ≡ 256 → ⊥ = λ z. code_none m u su 0 (omega arith) (sym e ∙ z) in
              let n₂ : best ≡ 257 → ⊥ = λ z. code_none m u su 1 (omega arith) (sym e ∙ z) in
              let ku : key_at sizes n₀ (best % 512) y (best / 512) ≡ key_of N (pair_at n₀ tree u y) =
              ap₂ (λ (a b : ℕ). key_at sizes n₀ a y b) (ap (λ (c : ℕ). c % 512) e ∙ code_slot m u su) (ap (λ (c : ℕ). c / 512) e ∙ code_bits m u su)
              ∙ key_is N n₀ tree sizes u y (says.size u inu) (says.size y iny) m refl v in
              let kk : key_before (key_at sizes n₀ x y (pair_bits ws W wt x y)) (key_at sizes n₀ (best % 512) y (best / 512)) ≡ Before x y u y =
              ap₂ key_before (ek w) ku in
              by_cases (Before x y u y)
              (λ f. pair k
              (sym (consider_sooner ws W wt sizes n₀ y best x n₂ (es ∙ s) (ltb-false 40 _ narrow.0) narrow.1 n₁ (kk ∙ f)) ∙ ap (λ (b : ℕ). code_of b x) em)
              (omega arith) s w
              (all_more (λ j. NotBefore y x (get_or L j 0)) k
              (λ j d r. ((h j d r).0, later_trans (key_of N (pair_at n₀ tree x y)) (key_of N (pair_at n₀ tree u y)) (key_of N (pair_at n₀ tree (get_or L j 0) y)) (h j d r).1 (sooner_asym (key_of N (pair_at n₀ tree x y)) (key_of N (pair_at n₀ tree u y)) f)))
              (λ r. (w, sooner_self (key_of N (pair_at n₀ tree x y))))))
              (λ f. pair i
              (sym (consider_later ws W wt sizes n₀ y best x n₂ (es ∙ s) (ltb-false 40 _ narrow.0) narrow.1 n₁ (kk ∙ f)) ∙ e)
              (omega arith) t v
              (all_more (λ j. NotBefore y u (get_or L j 0)) k h (λ r. (w, f))))

        -- the pair of place k shares no index
        step_apart : (best : ℕ) → (best ≡ 257 → ⊥) → Share x y ≡ false → next best ≡ best
        step_apart best n s = sym (consider_apart ws W wt sizes n₀ y best x n (es ∙ s))

        row_step : (best : ℕ) → RowTo L q k best → RowTo L q (suc k) (next best)
        row_step best (none e h) =
            by_cases (Share x y)
            (λ s. by_cases (TooWide x y) (λ w. step_refused best (λ z. omega arith) s w) (λ w. step_first w best e s h))
            (λ s. none (step_apart best (λ z. omega arith) s ∙ e) (all_more (λ i. Share (get_or L i 0) y ≡ false) k h s))
        row_step best (over e i b s w) = over (sym (consider_refused ws W wt sizes n₀ y best x e) ∙ e) i (omega arith) s w
        row_step best (pair i e b t v h) =
            let n : best ≡ 257 → ⊥ = λ z. code_none (merged_size N (pair_at n₀ tree (get_or L i 0) y)) (get_or L i 0) (says.small (get_or L i 0) (memb_at L i (omega arith))) 1 (omega arith) (sym e ∙ z) in
            by_cases (Share x y)
            (λ s. by_cases (TooWide x y) (λ w. step_refused best n s w) (λ w. step_pair w best i e b t v h s))
            (λ s. pair i (step_apart best n s ∙ e) (omega arith) t v (all_more (λ j. NotBefore y (get_or L i 0) (get_or L j 0)) k h (λ r. clash r s)))

      row_to : (k : ℕ) → k ≤ q → RowTo L q k (row_of ws W wt sizes n₀ L k y)
      unfolding row_of turns
      row_to zero h = none refl (λ i b. absurd (omega arith))
      row_to (suc k) h = row_step k h _ (row_to k (omega arith))

      -- what the scan of all places before its own finds for a table
      pub row_is : RowTo L q q (row_of ws W wt sizes n₀ L q y)
      row_is = row_to q (omega arith)
