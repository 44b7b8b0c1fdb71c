-- What is found for one mask, case by case. Assumes nothing.
use Rattle.std.specs.Prelude.{true, false, ◌≡◌, ℕ, ◌+◌, ◌-◌, ◌*◌, ◌%◌, ◌^◌, ◌≤◌, ◌<◌, ltb, Option}
use Rattle.std.proofs.Math.Bool.{and-false}
use Rattle.std.proofs.Common.{ap, ◌∙◌, arith}
use Rattle.std.specs.Int.Bits.{bit_and}
use Rattle.std.specs.Int.Count.{ones}
use Rattle.std.proofs.lemmas.Nat.{ones-le}
use borrow.Author.Tests.{eq-eqb, ne_eqb, lt-ltb, le-ltb}
use Rattle.spec.specs.Improve.{over_limit}
use Rattle.bits.specs.Bit.{one_shl}
use Rattle.subset.specs.Walk.{infinite, cheapest_of, passed_over, entry_of}
use Rattle.subset.specs.declared.Choice.{Choice}
use Rattle.subset.specs.declared.Entry.{Entry}

module _ (best : ℕ → ℕ) (work : ℕ → ℕ → ℕ) (n : ℕ) (limit : Option ℕ) (s : ℕ) where
  pub entry_single : bit_and s (s - 1) ≡ 0 → ◌≡◌ {A = Entry} (record { cost = 0; part = 0; tried = 0 }) (entry_of best work n limit s)
  unfolding entry_of
  entry_single h = rw (eq-eqb (bit_and s (s - 1)) 0 h)

  pub entry_passed : (bit_and s (s - 1) ≡ 0 → ⊥) → passed_over best work n limit s ≡ true
      → ◌≡◌ {A = Entry} (record { cost = infinite; part = 0; tried = 0 }) (entry_of best work n limit s)
  unfolding entry_of
  entry_passed h k = rw (ne_eqb (bit_and s (s - 1)) 0 h, k)

  pub entry_searched : (bit_and s (s - 1) ≡ 0 → ⊥) → passed_over best work n limit s ≡ false → (c : Choice) (t : ℕ)
      → c ≡ cheapest_of best work n (s - bit_and s (s - 1)) (bit_and s (s - 1)) → t ≡ 2 ^ ones (bit_and s (s - 1)) - 1
      → ◌≡◌ {A = Entry} (record { cost = c.cost; part = c.part; tried = t }) (entry_of best work n limit s)
  unfolding entry_of
  entry_searched h k c t e f = rw (ne_eqb (bit_and s (s - 1)) 0 h, k) (λ i. record { cost = (e i).cost; part = (e i).part; tried = f i })

  pub over : s + 1 < n → over_limit (work s s) limit ≡ true → passed_over best work n limit s ≡ true
  unfolding passed_over
  over h k = rw (lt-ltb (s + 1) n h, k)

  pub within : over_limit (work s s) limit ≡ false → passed_over best work n limit s ≡ false
  unfolding passed_over
  within k = rw k (and-false (ltb (s + 1) n))

  pub full : n ≤ s + 1 → passed_over best work n limit s ≡ false
  unfolding passed_over
  full h = rw (le-ltb (s + 1) n h)

-- ---- how many splits are tried ----

pub few_ones : (x : ℕ) → x < 4096 → ones x ≤ 12
few_ones x h = ones-le 12 x (omega arith)

pub tried_is : (x t : ℕ) → t ≡ ones x → x < 4096 → 1 * 2 ^ t % 2 ^ 64 ≡ 2 ^ ones x
tried_is x t e h = one_shl t (omega (arith, few_ones x h)) ∙ ap (λ k. 2 ^ k) e
