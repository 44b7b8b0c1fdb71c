-- A scan of the first slots of a list reads only its front: two lists with the same front are scanned alike. Assumes nothing.
use Rattle.std.specs.Prelude.{◌||◌, ◌≡◌, List, length, get_or, set, take}
use Rattle.std.proofs.Math.Bool.{cond}
use Rattle.std.proofs.Math.Path.{refl, ap, ap₂}
use Rattle.std.proofs.Common.{◌∙◌, arith, ext_get_or, get_or-take, length-take-le}
use Prim.Native.Nat.{ℕ, zero, suc, ◌+◌, ◌≤◌, ◌<◌}
use Rattle.std.proofs.Math.Dec.{leb}
use Rattle.cells.specs.Loop.{turns_ext}
use Rattle.slots.specs.Slots.{held, with_set}
use Rattle.live.specs.Holders.{holders, with_holders}
use Rattle.scores.specs.Scores.{considered, row_of}
use Rattle.rows.specs.Rows.{stands, renewed, renewed_all, bettered, least_of}

module _ (live L : List ℕ) (same : (i : ℕ) → i < length L → get_or live i 0 ≡ get_or L i 0) where
  pub front_is : length L ≤ length live → take (length L) live ≡ L
  front_is h =
      ext_get_or 0 (take (length L) live) L (length-take-le (length L) live h)
      (λ i b. let d : i < length L = omega (arith, length-take-le (length L) live h) in get_or-take (length L) live i 0 d ∙ same i d)

  holders_same : (ws : List ℕ) (W n j : ℕ) → n ≤ length L → holders ws W live n j ≡ holders ws W L n j
  unfolding holders
  holders_same ws W zero j h = refl
  holders_same ws W (suc n) j h =
      ap₂ (λ (x u : ℕ). x + cond (held ws W u j) 1 0) (holders_same ws W n j (omega arith)) (same n h)

  pub words_same : (ws : List ℕ) (W : ℕ) → with_holders ws W live (length L) ≡ with_holders ws W L (length L)
  unfolding with_holders
  words_same ws W =
      ap (λ (f : ℕ → ℕ). with_set (with_set ws W 257 (λ j. leb 2 (f j) || held ws W 256 j)) W 258 (λ j. leb 3 (f j) || held ws W 256 j))
      (λ k j. holders_same ws W (length L) j (omega arith) k)

  module _ (ws : List ℕ) (W : ℕ) (wt sizes : List ℕ) (n₀ : ℕ) where
    row_same : (n y : ℕ) → n ≤ length L → row_of ws W wt sizes n₀ live n y ≡ row_of ws W wt sizes n₀ L n y
    unfolding row_of
    row_same n y h = turns_ext _ _ 256 n (λ k t b. ap (considered ws W wt sizes n₀ y t) (same k (omega arith)))

    renewed_same : (k : ℕ) (rows : List ℕ) → k < length L → renewed ws W wt sizes n₀ live k rows ≡ renewed ws W wt sizes n₀ L k rows
    unfolding renewed
    renewed_same k rows h =
        ap₂ (λ (u : ℕ) (f : ℕ → ℕ). cond (stands rows (get_or rows u 0)) rows (set rows u (f u))) (same k h) (λ i y. row_same k y (omega arith) i)

    pub rows_same : (rows : List ℕ) → renewed_all ws W wt sizes n₀ live rows (length L) ≡ renewed_all ws W wt sizes n₀ L rows (length L)
    unfolding renewed_all
    rows_same rows = turns_ext _ _ rows (length L) (λ k t b. renewed_same k t b)

  pub least_same : (sizes : List ℕ) (n₀ : ℕ) (rows : List ℕ) → least_of sizes n₀ rows live (length L) ≡ least_of sizes n₀ rows L (length L)
  unfolding least_of
  least_same sizes n₀ rows = turns_ext _ _ 256 (length L) (λ k t b. ap (bettered sizes n₀ rows t) (same k b))
