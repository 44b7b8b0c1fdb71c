-- The least of all pairs, from the least pair of each live table with those before it. Assumes nothing.
use Rattle.std.specs.Prelude.{true, false, ◌≡◌, List, length, get_or}
use Rattle.std.proofs.Math.Path.{refl}
use Rattle.std.proofs.Common.{sym, ◌∙◌, ap, ap₂, arith}
use Prim.Native.Nat.{ℕ, zero, suc, ◌/◌, ◌%◌, ◌≤◌, ◌<◌}
use Rattle.spec.specs.Lists.{memb}
use Rattle.spec.specs.Network.{Network}
use Rattle.spec.specs.Tree.{Tree}
use Rattle.spec.specs.Greedy.{Key, key_of, key_before, size_of, merged_size}
use Rattle.laws.specs.Booleans.{by_cases, clash}
use Rattle.laws.specs.GreedyOrder.{sooner_asym, later_trans}
use Rattle.laws.specs.GreedySlots.{pair_at}
use Rattle.laws.specs.ListLaws.{memb_at}
use Rattle.cells.specs.Loop.{turns}
use Rattle.scores.specs.Scores.{key_at}
use Rattle.rows.specs.Rows.{entry_key, bettered, least_of, better_refused, better_over, better_none, better_first, better_sooner, better_later}
use Rattle.rows.specs.Pairs.{key_is}
use Rattle.rows.specs.Known.{all_more, code_slot, code_bits, code_none, Share, TooWide, Before, NotBefore, code_for, RowTo, none, over, pair}

module _ (N : Network) (n₀ : ℕ) (tree : ℕ → Tree) (L rows sizes : List ℕ)
    (small : (u : ℕ) → memb u L ≡ true → u < 256)
    (size : (u : ℕ) → memb u L ≡ true → get_or sizes u 0 ≡ size_of N (tree u))
  where
    abbrev slot : ℕ → ℕ
    slot i = get_or L i 0

    -- the pair at places j and p, if its tables share an index, is not too wide and does not come before the pair at places i and q
    abbrev pub NoneBefore : ℕ → ℕ → ℕ → ℕ → Type 0
    NoneBefore i q j p = Share N n₀ tree (slot j) (slot p) ≡ true
        → (TooWide N n₀ tree (slot j) (slot p) ≡ false) × (Before N n₀ tree (slot j) (slot p) (slot i) (slot q) ≡ false)

    -- the least pair of the tables at the places below k, as the table that has it
    pub data LeastTo (k c : ℕ) : Type 0 where
      nothing : c ≡ 256 → ((p : ℕ) → p < k → (j : ℕ) → j < p → Share N n₀ tree (slot j) (slot p) ≡ false) → LeastTo k c
      too_broad : c ≡ 257 → (i q : ℕ) → i < q → q < k → Share N n₀ tree (slot i) (slot q) ≡ true → TooWide N n₀ tree (slot i) (slot q) ≡ true → LeastTo k c
      at : (i q : ℕ) → c ≡ slot q → i < q → q < k → get_or rows (slot q) 0 ≡ code_for N n₀ tree (slot i) (slot q)
          → Share N n₀ tree (slot i) (slot q) ≡ true → TooWide N n₀ tree (slot i) (slot q) ≡ false
          → ((p : ℕ) → p < k → (j : ℕ) → j < p → NoneBefore i q j p) → LeastTo k c

    -- the key that an entry has
    entry_is : (i q : ℕ) → i < q → q < length L → get_or rows (slot q) 0 ≡ code_for N n₀ tree (slot i) (slot q) → TooWide N n₀ tree (slot i) (slot q) ≡ false
        → entry_key sizes n₀ rows (slot q) ≡ key_of N (pair_at n₀ tree (slot i) (slot q))
    entry_is i q l b e w =
        let x = slot i in
        let y = slot q in
        let m = merged_size N (pair_at n₀ tree x y) in
        let inx : memb x L ≡ true = memb_at L i (omega arith) in
        ap₂ (λ (a b : ℕ). key_at sizes n₀ a y b) (ap (λ (c : ℕ). c % 512) e ∙ code_slot m x (small x inx)) (ap (λ (c : ℕ). c / 512) e ∙ code_bits m x (small x inx))
        ∙ key_is N n₀ tree sizes x y (size x inx) (size y (memb_at L q b)) m refl w

    module _ (k : ℕ) (b : k < length L) where
      abbrev y : ℕ
      y = slot k

      abbrev next : ℕ → ℕ
      next best = bettered sizes n₀ rows best y

      -- a table's slot is no other code
      no_code : (q : ℕ) → q < length L → (best : ℕ) → best ≡ slot q → (best ≡ 256 → ⊥) × (best ≡ 257 → ⊥)
      no_code q d best e =
          let h : slot q < 256 = small (slot q) (memb_at L q d) in (
            (λ z. omega arith),
            (λ z. omega arith),
          )

      module _ (i : ℕ) (e : get_or rows y 0 ≡ code_for N n₀ tree (slot i) y) (l : i < k)
          (s : Share N n₀ tree (slot i) y ≡ true) (w : TooWide N n₀ tree (slot i) y ≡ false)
          (h : (j : ℕ) → j < k → NotBefore N n₀ tree y (slot i) (slot j))
        where
          abbrev key : Key
          key = key_of N (pair_at n₀ tree (slot i) y)

          n₁ : get_or rows y 0 ≡ 256 → ⊥
          n₁ z = code_none (merged_size N (pair_at n₀ tree (slot i) y)) (slot i) (small (slot i) (memb_at L i (omega arith))) 0 (omega arith) (sym e ∙ z)

          n₂ : get_or rows y 0 ≡ 257 → ⊥
          n₂ z = code_none (merged_size N (pair_at n₀ tree (slot i) y)) (slot i) (small (slot i) (memb_at L i (omega arith))) 1 (omega arith) (sym e ∙ z)

          -- the first pair
          step_first : (best : ℕ) → best ≡ 256 → ((p : ℕ) → p < k → (j : ℕ) → j < p → Share N n₀ tree (slot j) (slot p) ≡ false) → LeastTo (suc k) (next best)
          step_first best z f =
              at i k (sym (better_first sizes n₀ rows best y (λ q. omega arith) n₂ n₁ z)) l (omega arith) e s w
              (all_more (λ p. (j : ℕ) → j < p → NoneBefore i k j p) k (λ p c j d t. clash t (f p c j d)) h)

          -- it comes before the least so far, or it does not
          step_pair : (best i' q : ℕ) → best ≡ slot q → i' < q → q < k → get_or rows (slot q) 0 ≡ code_for N n₀ tree (slot i') (slot q)
              → Share N n₀ tree (slot i') (slot q) ≡ true → TooWide N n₀ tree (slot i') (slot q) ≡ false
              → ((p : ℕ) → p < k → (j : ℕ) → j < p → NoneBefore i' q j p) → LeastTo (suc k) (next best)
          step_pair best i' q z l' c e' s' w' f =
              let other = key_of N (pair_at n₀ tree (slot i') (slot q)) in
              let (a₁, a₂) = no_code q (omega arith) best z in
              let kk : key_before (entry_key sizes n₀ rows y) (entry_key sizes n₀ rows best) ≡ key_before key other =
              ap₂ key_before (entry_is i k l b e w) (ap (entry_key sizes n₀ rows) z ∙ entry_is i' q l' (omega arith) e' w') in
              by_cases (key_before key other)
              (λ t. at i k (sym (better_sooner sizes n₀ rows best y a₂ n₂ n₁ a₁ (kk ∙ t))) l (omega arith) e s w
              (all_more (λ p. (j : ℕ) → j < p → NoneBefore i k j p) k
              (λ p d j g r. ((f p d j g r).0, later_trans key other (key_of N (pair_at n₀ tree (slot j) (slot p))) (f p d j g r).1 (sooner_asym key other t)))
              h))
              (λ t. at i' q (sym (better_later sizes n₀ rows best y a₂ n₂ n₁ a₁ (kk ∙ t)) ∙ z) l' (omega arith) e' s' w'
              (all_more (λ p. (j : ℕ) → j < p → NoneBefore i' q j p) k f
              (λ j g r. ((h j g r).0, later_trans other key (key_of N (pair_at n₀ tree (slot j) y)) (h j g r).1 t))))

      step : (best : ℕ) → LeastTo k best → RowTo N n₀ tree L k k (get_or rows y 0) → LeastTo (suc k) (next best)
      step best (too_broad e i q l d s w) r = too_broad (sym (better_refused sizes n₀ rows best y e) ∙ e) i q l (omega arith) s w
      step best (nothing e f) (none z h) =
          nothing (sym (better_none sizes n₀ rows best y (λ q. omega arith) (λ q. omega arith) z) ∙ e) (all_more (λ p. (j : ℕ) → j < p → Share N n₀ tree (slot j) (slot p) ≡ false) k f h)
      step best (nothing e f) (over z i l s w) = too_broad (sym (better_over sizes n₀ rows best y (λ q. omega arith) z)) i k l (omega arith) s w
      step best (nothing e f) (pair i z l s w h) = step_first i z l s w h best e f
      step best (at i q e l d z s w f) (none z' h) =
          at i q (sym (better_none sizes n₀ rows best y (no_code q (omega arith) best e).1 (λ q. omega arith) z') ∙ e) l (omega arith) z s w
          (all_more (λ p. (j : ℕ) → j < p → NoneBefore i q j p) k f (λ j g r. clash r (h j g)))
      step best (at i q e l d z s w f) (over z' i' l' s' w') =
          too_broad (sym (better_over sizes n₀ rows best y (no_code q (omega arith) best e).1 z')) i' k l' (omega arith) s' w'
      step best (at i q e l d z s w f) (pair i' z' l' s' w' h) = step_pair i' z' l' s' w' h best i q e l d z s w f

    module _ (known : (q : ℕ) → q < length L → RowTo N n₀ tree L q q (get_or rows (slot q) 0)) where
      least_to : (k : ℕ) → k ≤ length L → LeastTo k (least_of sizes n₀ rows L k)
      unfolding least_of turns
      least_to zero h = nothing refl (λ p b. absurd (omega arith))
      least_to (suc k) h = step k h _ (least_to k (omega arith)) (known k h)

      pub least_is : LeastTo (length L) (least_of sizes n₀ rows L (length L))
      least_is = least_to (length L) (omega arith)
