-- What is written of flags, when one more is looked at. Assumes nothing.
use Rattle.std.proofs.Common.{◌≡◌, ◌≢◌, ℕ, zero, suc, ◌+◌, ◌<◌, List, [], ◌∷◌, ◌++◌, Option, length, take, get_or, refl, sym, ap, ◌∙◌, subst, arith, append_assoc, append-nil}
use Rattle.std.proofs.lemmas.List.{take_more, length-take-le}
use Rattle.std.specs.Io.KnownBytes.{Appends}
use Rattle.std.proofs.KnownBytes.{Appends-trans}
use Rattle.stored.specs.Written.{after_space, spaced, flagged, flagged_from}

spaced_append : (xs ys : List ℕ) → spaced (xs ++ ys) ≡ spaced xs ++ spaced ys
spaced_append [] ys = refl
spaced_append (x ∷ xs) ys = ap (λ (l : List ℕ). after_space x ++ l) (spaced_append xs ys) ∙ sym (append_assoc (after_space x) (spaced xs) (spaced ys))

-- a place, if it is flagged
abbrev place_of : ℕ → ℕ → List ℕ
place_of place zero = []
place_of place (suc flag) = place ∷ []

flagged_append : (i : ℕ) (flags : List ℕ) (flag : ℕ) → flagged_from i (flags ++ flag ∷ []) ≡ flagged_from i flags ++ place_of (i + length flags) flag
flagged_append i [] zero = refl
flagged_append i [] (suc n) = let same : i ≡ i + 0 = omega arith in ap (λ (k : ℕ). k ∷ []) same
flagged_append i (zero ∷ flags) flag =
    let same : suc i + length flags ≡ i + suc (length flags) = omega arith in
    flagged_append (suc i) flags flag ∙ ap (λ (k : ℕ). flagged_from (suc i) flags ++ place_of k flag) same
flagged_append i (suc n ∷ flags) flag =
    let same : suc i + length flags ≡ i + suc (length flags) = omega arith in
    ap (λ (l : List ℕ). i ∷ l) (flagged_append (suc i) flags flag ∙ ap (λ (k : ℕ). flagged_from (suc i) flags ++ place_of k flag) same)

place_written : (place flag : ℕ) → flag ≢ 0 → spaced (place_of place flag) ≡ after_space place
place_written place zero h = absurd (h refl)
place_written place (suc flag) h = append-nil (after_space place)

module _ (flags : List ℕ) (i : ℕ) (inside : i < length flags) where
  length_front : 0 + length (take i flags) ≡ i
  length_front = let whole = length-take-le i flags (omega (arith, inside)) in omega (arith, whole)

  written_more : spaced (flagged (take (i + 1) flags)) ≡ spaced (flagged (take i flags)) ++ spaced (place_of i (get_or flags i 0))
  written_more =
      ap (λ (l : List ℕ). spaced (flagged l)) (take_more flags i 0 inside)
      ∙ ap spaced (flagged_append 0 (take i flags) (get_or flags i 0) ∙ ap (λ (k : ℕ). flagged (take i flags) ++ place_of k (get_or flags i 0)) length_front)
      ∙ spaced_append (flagged (take i flags)) (place_of i (get_or flags i 0))

  module _ (a b : Option (List ℕ)) (before : Appends a b (spaced (flagged (take i flags)))) where
    -- the place is written
    pub flagged_written : (c : Option (List ℕ)) → get_or flags i 0 ≢ 0 → Appends b c (after_space i) → Appends a c (spaced (flagged (take (i + 1) flags)))
    flagged_written c h now =
        subst (Appends a c) (sym (written_more ∙ ap (λ (l : List ℕ). spaced (flagged (take i flags)) ++ l) (place_written i (get_or flags i 0) h)))
        (Appends-trans a b c _ _ before now)

    -- nothing is written of a place that is 0
    pub unflagged_passed : get_or flags i 0 ≡ 0 → Appends a b (spaced (flagged (take (i + 1) flags)))
    unflagged_passed h = subst (Appends a b) (sym (written_more ∙ ap (λ (flag : ℕ). spaced (flagged (take i flags)) ++ spaced (place_of i flag)) h ∙ append-nil _)) before
