-- The unions of the members' sets, from the lowest mask up. Assumes nothing.
use Rattle.std.specs.Prelude.{◌||◌, List, [], ◌∷◌, ◌≡◌, refl, ℕ, ◌+◌, ◌-◌, ◌^◌, ◌≤◌, ◌<◌, eqb, length, set}
use Rattle.std.proofs.Math.Bool.{or_comm, or-false}
use Rattle.std.proofs.Common.{sym, ap, ap₂, ◌∙◌, arith, eqb-true, length-set, get_or-set_same, get_or-set_other}
use Rattle.std.specs.Int.Bits.{bit_and, and_zero_l}
use Rattle.std.proofs.lemmas.Nat.{and_le_r}
use Rattle.std.proofs.lemmas.Bool.{eqb-false}
use Rattle.spec.specs.Lists.{anyb}
use Rattle.laws.specs.Booleans.{by_cases}
use Rattle.laws.specs.Masks.{places_from, Lowest, lowest}
use Rattle.masks.specs.Rows.{row_has, has_at}
use Rattle.masks.specs.Tables.{member_has, union_has, United}
use Rattle.masks.specs.Singles.{own_bits, lowest_place, single_power, no_bits}

-- ---- a mask without its lowest bit ----

module _ (was : List (List ℕ)) (n s j : ℕ) (some : 1 ≤ s) (less : s < n) where
  low : Lowest 0 n s (bit_and s (s - 1))
  low = lowest 0 n s some (omega (arith, own_bits n))

  -- one member
  single_has : bit_and s (s - 1) ≡ 0 → has_at was s j ≡ union_has was n s j
  single_has z =
      let e : places_from 0 n s ≡ low.place ∷ [] = low.all ∙ ap (λ x. low.place ∷ places_from 0 n x) z ∙ ap (λ l. low.place ∷ l) (no_bits 0 n) in
      let p : s ≡ 2 ^ low.place =
      single_power n s some (omega (arith, own_bits n)) z ∙ ap (λ x. 2 ^ x) (sym (lowest_place n s low some (omega (arith, own_bits n)))) in
      ap (λ x. has_at was x j) p ∙ sym (or-false (member_has was low.place j)) ∙ sym (ap (anyb (λ p. member_has was p j)) e)

  -- the lowest member, and the rest
  joint_has : (union_has was n (bit_and s (s - 1)) j || union_has was n (s - bit_and s (s - 1)) j) ≡ union_has was n s j
  joint_has =
      let e : places_from 0 n (0 + (s - bit_and s (s - 1))) ≡ low.place ∷ places_from 0 n 0 = low.with 0 (and_zero_l (bit_and s (s - 1))) in
      let f : places_from 0 n (s - bit_and s (s - 1)) ≡ low.place ∷ [] =
      ap (places_from 0 n) (let z : s - bit_and s (s - 1) ≡ 0 + (s - bit_and s (s - 1)) = omega arith in z) ∙ e ∙ ap (λ l. low.place ∷ l) (no_bits 0 n) in
      let g : union_has was n (s - bit_and s (s - 1)) j ≡ member_has was low.place j =
      ap (anyb (λ p. member_has was p j)) f ∙ or-false (member_has was low.place j) in
      ap (λ x. union_has was n (bit_and s (s - 1)) j || x) g
      ∙ or_comm (union_has was n (bit_and s (s - 1)) j) (member_has was low.place j)
      ∙ sym (ap (anyb (λ p. member_has was p j)) low.all)

-- ---- the loop ----

pub unite_start : (rows : List (List ℕ)) (n : ℕ) → United rows rows n 1
unite_start rows n =
    record { long = refl; done = λ s j a b h. absurd (omega arith); later = λ s j a b h. refl; root = λ j h. refl }

module _ (was rows : List (List ℕ)) (n s : ℕ) (some : 1 ≤ s) (less : s < n) (u : United was rows n s) where
  -- a mask of one member is left as it is
  pub unite_single : bit_and s (s - 1) ≡ 0 → United was rows n (s + 1)
  unite_single z =
      record {
        long = u.long;
        done = λ t j a b h.
            by_cases (eqb t s)
            (λ q. let e : t ≡ s = eqb-true t s q in
            rw e (u.later s j (omega arith) less h ∙ single_has was n s j some less z))
            (λ q. let f : t ≡ s → ⊥ = eqb-false t s q in u.done t j a (omega (arith, f)) h);
        later = λ t j a b h. u.later t j (omega arith) b h;
        root = u.root;
      }

  -- one of more is united of its lowest member and the rest
  pub unite_joint : (bit_and s (s - 1) ≡ 0 → ⊥) → n ≤ length was → (row : List ℕ)
      → ((j : ℕ) → j < 128 → row_has row j ≡ (has_at rows (bit_and s (s - 1)) j || has_at rows (s - bit_and s (s - 1)) j))
      → United was (set rows s row) n (s + 1)
  unite_joint z room row g =
      let le : bit_and s (s - 1) ≤ s - 1 = and_le_r s (s - 1) in
      record {
        long = length-set rows s row ∙ u.long;
        done = λ t j a b h.
            by_cases (eqb t s)
            (λ q. let e : t ≡ s = eqb-true t s q in
            rw e
            (ap (λ r. row_has r j) (get_or-set_same rows s row [] (omega (arith, u.long)))
            ∙ g j h
            ∙ ap₂ (λ x y. x || y) (u.done (bit_and s (s - 1)) j (omega (arith, z)) (omega arith) h) (u.done (s - bit_and s (s - 1)) j (omega arith) (omega (arith, z)) h)
            ∙ joint_has was n s j some less))
            (λ q. let f : t ≡ s → ⊥ = eqb-false t s q in
            ap (λ r. row_has r j) (get_or-set_other rows s t row [] f) ∙ u.done t j a (omega (arith, f)) h);
        later = λ t j a b h. ap (λ r. row_has r j) (get_or-set_other rows s t row [] (λ x. omega arith)) ∙ u.later t j (omega arith) b h;
        root = λ j h. ap (λ r. row_has r j) (get_or-set_other rows s 0 row [] (λ x. omega arith)) ∙ u.root j h;
      }
