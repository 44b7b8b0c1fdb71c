-- Filled tables stand for the search: every mask's entry is the answer for its members, with the tree that the splits describe.
-- Assumes nothing.
use Rattle.std.specs.Prelude.{Bool, true, false, ◌≡◌, refl, ℕ, zero, suc, ◌-◌, ◌/◌, ◌%◌, ◌^◌, ◌≤◌, ◌<◌, eqb, length, Option, None, Some}
use mathlib.Core.List.{List, [], ◌∷◌, head-eq_of_cons-eq}
use Rattle.std.proofs.Common.{sym, ap, ◌∙◌, subst, arith, eqb-true}
use Rattle.std.specs.Int.Bits.{bit_and}
use Rattle.std.proofs.lemmas.Nat.{and_le_r}
use Rattle.std.specs.Int.Count.{ones, count_trailing_zeros}
use Rattle.std.proofs.lemmas.Bool.{eqb-false}
use Rattle.spec.specs.Improve.{Region, one, join, Found, split_work, passed, cheapest}
use Rattle.laws.specs.Booleans.{by_cases}
use Rattle.laws.specs.Fuel.{best_same}
use Rattle.laws.specs.Masks.{places_from, Lowest, lowest}
use Rattle.masks.specs.Singles.{own_bits, no_bits, lowest_place, same_places}
use Rattle.subset.specs.Walk.{infinite, cheapest_of, passed_over, entry_of, Filled}
use Rattle.subset.specs.Entries.{entry_single, entry_passed, entry_searched}
use Rattle.subset.specs.Regions.{region_of, region_split, region_whole, split_is, whole_is}
use Rattle.subset.specs.Stands.{Stands, Chosen, subset_stands}
use Rattle.subset.specs.declared.Choice.{Choice}
use Rattle.subset.specs.declared.Entry.{Entry}

places_most : (k n s : ℕ) → length (places_from k n s) ≤ n
places_most k zero s = omega arith
places_most k (suc n) s =
    by_cases (eqb (s % 2) 1)
    (λ e. rw e (omega (arith, places_most (suc k) n (s / 2))))
    (λ e. rw e (omega (arith, places_most (suc k) n (s / 2))))

-- the lowest place of a mask, whatever the number of bits
lowest_same : (n s : ℕ) (l : Lowest 0 n s (bit_and s (s - 1))) → 1 ≤ s → s < 2 ^ n → s < 2 ^ 64 → l.place ≡ count_trailing_zeros 64 s
lowest_same n s l a b c =
    let k : Lowest 0 64 s (bit_and s (s - 1)) = lowest 0 64 s a c in
    let e : l.place ∷ places_from 0 n (bit_and s (s - 1)) ≡ k.place ∷ places_from 0 64 (bit_and s (s - 1)) =
    sym l.all ∙ same_places n 64 0 s b c ∙ k.all in
    head-eq_of_cons-eq e ∙ lowest_place 64 s k a c

module _ (n m : ℕ) (has : ℕ → ℕ → Bool) (ext : ℕ → Bool) (weigh : (ℕ → Bool) → ℕ) (limited : Option ℕ)
    (best split : ℕ → ℕ) (work : ℕ → ℕ → ℕ) (limit : Option ℕ) (tried : ℕ)
    (few : n ≤ 4096)
    (filled : Filled best split work n limit n tried)
    -- the masks' sets give the work bits, and the limit's test
    (bits : (l r : ℕ) → 1 ≤ l → l < n → 1 ≤ r → r < n → split_work m has ext weigh limited (record { part = places_from 0 n l; rest = places_from 0 n r }) ≡ work l r)
    (skips : (s : ℕ) → 1 ≤ s → s < n → passed m has ext weigh limited (places_from 0 n s) ≡ passed_over best work n limit s)
  where
    abbrev tree : ℕ → Region
    tree = region_of split

    abbrev answer : ℕ → Option Found
    answer s = cheapest m has ext weigh limited (suc n) (places_from 0 n s)

    from_choice : (s : ℕ) (o : Option Found) (c : Choice) → best s ≡ c.cost → split s ≡ c.part → Chosen tree s o c → Stands best tree s o
    from_choice s None c e f h = omega arith
    from_choice s (Some a) c e f h = (
      e ∙ h.0,
      h.1,
      h.4 ∙ ap (λ x. join (tree x) (tree (s - x))) (sym f) ∙ sym (region_split split s (split_is split s (omega (arith, h.2)) (omega (arith, h.3)))),
    )

    single : (s : ℕ) → 1 ≤ s → s < n → bit_and s (s - 1) ≡ 0 → Stands best tree s (answer s)
    single s a b z =
        let low : Lowest 0 n s (bit_and s (s - 1)) = lowest 0 n s a (omega (arith, own_bits n)) in
        let one_place : places_from 0 n s ≡ low.place ∷ [] = low.all ∙ ap (λ x. low.place ∷ places_from 0 n x) z ∙ ap (λ l. low.place ∷ l) (no_bits 0 n) in
        let e : ◌≡◌ {A = Entry} (record { cost = 0; part = 0; tried = 0 }) (entry_of best work n limit s) = entry_single best work n limit s z in
        let place : count_trailing_zeros 64 s ≡ low.place = sym (lowest_same n s low a (omega (arith, own_bits n)) (omega arith)) in
        subst (λ l. Stands best tree s (cheapest m has ext weigh limited (suc n) l)) (sym one_place) (
          filled.costs s a b ∙ sym (ap (λ (x : Entry). x.cost) e),
          omega arith,
          sym (region_whole split s (whole_is split s (filled.parts s a b ∙ sym (ap (λ (x : Entry). x.part) e))) ∙ ap one place),
        )

    two_places : (s : ℕ) → 1 ≤ s → s < n → (bit_and s (s - 1) ≡ 0 → ⊥) → 2 ≤ length (places_from 0 n s)
    two_places s a b z =
        let low : Lowest 0 n s (bit_and s (s - 1)) = lowest 0 n s a (omega (arith, own_bits n)) in
        let next : Lowest 0 n (bit_and s (s - 1)) (bit_and (bit_and s (s - 1)) (bit_and s (s - 1) - 1)) =
        lowest 0 n (bit_and s (s - 1)) (omega (arith, z)) (omega (arith, low.below, own_bits n)) in
        omega (arith, ap length low.all, ap length next.all)

    skipped : (s : ℕ) → 1 ≤ s → s < n → (bit_and s (s - 1) ≡ 0 → ⊥) → passed_over best work n limit s ≡ true → Stands best tree s (answer s)
    skipped s a b z q =
        go (places_from 0 n s) (two_places s a b z) (skips s a b ∙ q)
        (filled.costs s a b ∙ sym (ap (λ (x : Entry). x.cost) (entry_passed best work n limit s z q)))
      where
        go : (l : List ℕ) → 2 ≤ length l → passed m has ext weigh limited l ≡ true → best s ≡ infinite → Stands best tree s (cheapest m has ext weigh limited (suc n) l)
        go [] g h e = absurd (omega arith)
        go (p ∷ []) g h e = absurd (omega arith)
        go (p ∷ r ∷ l) g h e = rw h (omega arith)

    searched : (s : ℕ) → 1 ≤ s → s < n → (bit_and s (s - 1) ≡ 0 → ⊥) → passed_over best work n limit s ≡ false
        → ((l : ℕ) → 1 ≤ l → l < s → Stands best tree l (answer l)) → Stands best tree s (answer s)
    searched s a b z q ih =
        let rest : ℕ = bit_and s (s - 1) in
        let low : Lowest 0 n s rest = lowest 0 n s a (omega (arith, own_bits n)) in
        let le : rest ≤ s - 1 = and_le_r s (s - 1) in
        let c : Choice = cheapest_of best work n (s - rest) rest in
        let e : ◌≡◌ {A = Entry} (record { cost = c.cost; part = c.part; tried = 2 ^ ones rest - 1 }) (entry_of best work n limit s) =
        entry_searched best work n limit s z q c (2 ^ ones rest - 1) refl refl in
        from_choice s (answer s) c (filled.costs s a b ∙ sym (ap (λ (x : Entry). x.cost) e)) (filled.parts s a b ∙ sym (ap (λ (x : Entry). x.part) e))
        (subset_stands n m has ext weigh limited best tree work (λ u. cheapest m has ext weigh limited n u) s rest low
        (λ l x y. subst (Stands best tree l) (best_same m has ext weigh limited (suc n) n (places_from 0 n l) (omega (arith, places_most 0 n l)) (places_most 0 n l)) (ih l x y))
        (λ l r x y u v. bits l r x (omega arith) u (omega arith))
        (omega (arith, z)) (omega (arith, own_bits n)) (skips s a b ∙ q))

    all_below : (k s : ℕ) → s < k → 1 ≤ s → s < n → Stands best tree s (answer s)
    all_below zero s h a b = absurd (omega arith)
    all_below (suc k) s h a b =
        by_cases (eqb (bit_and s (s - 1)) 0)
        (λ e. single s a b (eqb-true (bit_and s (s - 1)) 0 e))
        (λ e. by_cases (passed_over best work n limit s)
        (λ q. skipped s a b (eqb-false (bit_and s (s - 1)) 0 e) q)
        (λ q. searched s a b (eqb-false (bit_and s (s - 1)) 0 e) q (λ l x y. all_below k l (omega arith) x (omega arith))))

    -- every entry
    pub tables_stand : (s : ℕ) → 1 ≤ s → s < n → Stands best tree s (answer s)
    tables_stand s a b = all_below (suc s) s (omega arith) a b
