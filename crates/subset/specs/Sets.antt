-- The sets of the masks are those that the search speaks of: the members outside a mask, the full mask, and what a mask keeps.
-- Assumes nothing.
use Rattle.std.specs.Prelude.{Bool, ◌&&◌, ◌||◌, List, ◌≡◌, ℕ, zero, suc, ◌+◌, ◌-◌, ◌/◌, ◌%◌, ◌^◌, ◌≤◌, ◌<◌, eqb, ltb, length, Option}
use Rattle.std.proofs.Math.Bool.{not, or_self, or-false}
use Rattle.std.proofs.Math.Path.{sym, ap, ap₂}
use Rattle.std.proofs.Common.{◌∙◌, eq-eqb, ne_eqb, lt-ltb, le-ltb}
use Rattle.std.proofs.Math.Decide.{ℕ_discrete}
use Rattle.std.proofs.Math.Nat.{two-pow-succ}
use native.Mathlib.Omega.{arith}
use Rattle.std.specs.Int.Count.{ones, ones_step, ones-ones}
use Rattle.std.proofs.lemmas.Nat.{ones-le}
use Rattle.spec.specs.Lists.{memb, anyb, range}
use Rattle.spec.specs.Improve.{other_members, keeps}
use Rattle.laws.specs.ListLaws.{keep_ext, keep_all_from, memb-keep-range}
use Rattle.laws.specs.Masks.{places_from}
use Rattle.bits.specs.Bit.{bit-zero, bit-suc}
use Rattle.bits.specs.Digits.{digit, zero_digits}
use Rattle.bits.specs.Lowest.{places, places_ones}
use Rattle.masks.specs.Rows.{has_at}
use Rattle.masks.specs.Tables.{member_has, root_has, union_has, keeps_in}
use Rattle.masks.specs.Singles.{own_bits, no_bits, both_places, same_places}

-- ---- the members outside a mask ----

other_low : (m s : ℕ) → s < 2 ^ suc m → eqb ((2 ^ suc m - 1 - s) % 2) 1 ≡ not (eqb (s % 2) 1)
other_low m s h =
    elim (ℕ_discrete (s % 2) 1) [
      | yes e ↦ (let z : (2 ^ suc m - 1 - s) % 2 ≡ 0 = omega (arith, two-pow-succ m) in rw (z, e))
      | no f ↦ (let z : (2 ^ suc m - 1 - s) % 2 ≡ 1 = omega (arith, f, two-pow-succ m) in
          let e : s % 2 ≡ 0 = omega (arith, f) in rw (z, e))
    ]

other_digit : (m s p : ℕ) → s < 2 ^ m → p < m → digit (2 ^ m - 1 - s) p ≡ not (digit s p)
other_digit zero s p h b = absurd (omega arith)
other_digit (suc m) s zero h b = rw (bit-zero (2 ^ suc m - 1 - s), bit-zero s) (other_low m s h)
other_digit (suc m) s (suc p) h b =
    let e : (2 ^ suc m - 1 - s) / 2 ≡ 2 ^ m - 1 - s / 2 = omega (arith, two-pow-succ m) in
    rw (bit-suc (2 ^ suc m - 1 - s) p, bit-suc s p, e) (other_digit m (s / 2) p (omega (arith, two-pow-succ m)) (omega arith))

module _ (n m : ℕ) (masks : n ≡ 2 ^ m) where
  -- where the mask s has its places
  memb_places : (s p : ℕ) → p < n → memb p (places_from 0 n s) ≡ digit s p
  unfolding places
  memb_places s p h =
      ap (memb p) (both_places 0 n s) ∙ memb-keep-range p n (λ j. digit s (j - 0)) h ∙ ap (digit s) (let z : p - 0 ≡ p = omega arith in z)

  fewer_bits : (s : ℕ) → s < n → places 0 m s ≡ places_from 0 n s
  fewer_bits s h = sym (both_places 0 m s) ∙ same_places m n 0 s (omega arith) (omega (arith, own_bits n))

  pub other_places : (s : ℕ) → s < n → other_members m (places_from 0 n s) ≡ places_from 0 n (n - 1 - s)
  unfolding places
  other_places s h =
      keep_ext (λ p. not (memb p (places_from 0 n s))) (λ p. digit (n - 1 - s) (p - 0)) m (λ p b.
      ap not (memb_places s p (omega (arith, own_bits m)))
      ∙ sym (other_digit m s p (omega arith) b)
      ∙ ap₂ digit (let z : 2 ^ m - 1 - s ≡ n - 1 - s = omega arith in z) (let z : p ≡ p - 0 = omega arith in z))
      ∙ fewer_bits (n - 1 - s) (omega arith)

  pub full_places : 1 ≤ n → range m ≡ places_from 0 n (n - 1)
  unfolding places
  full_places some =
      sym
      (keep_all_from (λ p. digit (n - 1) (p - 0)) 0 m (λ p a b.
      ap₂ digit (let z : n - 1 ≡ 2 ^ m - 1 - 0 = omega arith in z) (let z : p - 0 ≡ p = omega arith in z)
      ∙ other_digit m 0 p (omega arith) (omega arith)
      ∙ ap not (zero_digits p)))
      ∙ fewer_bits (n - 1) (omega arith)

  -- ---- the full mask ----

  full_ones : (k s : ℕ) → s < 2 ^ k → ones s ≡ k → s + 1 ≡ 2 ^ k
  full_ones zero s h e = omega arith
  full_ones (suc k) s h e =
      let le : ones (s / 2) ≤ k = ones-le k (s / 2) (omega (arith, two-pow-succ k)) in
      omega (arith, full_ones k (s / 2) (omega (arith, two-pow-succ k)) (omega (arith, ones_step s)), ones_step s, two-pow-succ k)

  pub not_full : (s : ℕ) → s < n → not (eqb (length (places_from 0 n s)) m) ≡ ltb (s + 1) n
  not_full s h =
      let long : length (places_from 0 n s) ≡ ones s = ap length (both_places 0 n s) ∙ places_ones 0 n s (omega (arith, own_bits n)) in
      elim (ℕ_discrete (s + 1) n) [
        | yes e ↦ (let z : ones s ≡ m = ap ones (let y : s ≡ 2 ^ m - 1 = omega arith in y) ∙ ones-ones m in
            rw (long, eq-eqb (ones s) m z, le-ltb (s + 1) n (omega arith)))
        | no f ↦ rw (long, ne_eqb (ones s) m (λ q. f (full_ones m s (omega arith) q ∙ sym masks)), lt-ltb (s + 1) n (omega (arith, f)))
      ]

  -- ---- what a mask keeps ----

  module _ (was rows : List (List ℕ))
      -- the rows have the unions of the members' sets, and the root's set
      (done : (s j : ℕ) → 1 ≤ s → s < n → j < 128 → has_at rows s j ≡ union_has was n s j) (root : (j : ℕ) → j < 128 → root_has rows j ≡ root_has was j)
      (weigh : (ℕ → Bool) → ℕ) (limit : Option ℕ)
    where
      -- the members outside, or for the full mask the root once more
      outside : (s j : ℕ) → s < n → j < 128
          → (root_has was j || has_at rows (n - 1 - s) j) ≡ (root_has was j || anyb (λ p. member_has was p j) (other_members m (places_from 0 n s)))
      outside s j b h =
          elim (ℕ_discrete (n - 1 - s) 0) [
            | yes e ↦ (ap (λ x. root_has was j || has_at rows x j) e
                ∙ ap (λ x. root_has was j || x) (root j h)
                ∙ or_self (root_has was j)
                ∙ sym
                (ap (λ l. root_has was j || anyb (λ p. member_has was p j) l) (other_places s b ∙ ap (places_from 0 n) e ∙ no_bits 0 n)
                ∙ or-false (root_has was j)))
            | no f ↦ ap (λ x. root_has was j || x)
                (done (n - 1 - s) j (omega (arith, f)) (omega arith) h ∙ ap (anyb (λ p. member_has was p j)) (sym (other_places s b)))
          ]

      pub keeps_is : (s j : ℕ) → 1 ≤ s → s < n → j < 128
          → keeps_in rows n s j ≡ keeps m (member_has was) (root_has was) weigh limit (places_from 0 n s) j
      unfolding keeps_in keeps
      keeps_is s j a b h =
          ap₂ (λ x y. x && y) (done s j a b h) (ap (λ x. x || has_at rows (n - 1 - s) j) (root j h) ∙ outside s j b h)
