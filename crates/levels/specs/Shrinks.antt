-- A level that is taken has at least three vertices fewer: a computed test of the numbers 49 to 128. Assumes nothing.
use Rattle.std.specs.Prelude.{Bool, true, false, ◌&&◌, cond, ◌≡◌, refl, ℕ, zero, suc, ◌+◌, ◌-◌, ◌≤◌, ◌<◌, Float, Option, None, Some}
use Rattle.std.proofs.Common.{sym, ap, ◌∙◌, arith}
use Rattle.std.proofs.Math.Decide.{ℕ_discrete, dec_le}
use Rattle.std.specs.Float.Ieee.{of_int, mul, lt}
use Rattle.std.specs.Float.{binary64}
use Rattle.spec.specs.Floats.{decimal, whole_float}
use Rattle.spec.specs.Draws.{Words, Drawn, drawn}
use Rattle.spec.specs.Hypergraph.{Hypergraph, vertex_count}
use Rattle.spec.specs.Coarsen.{Level, matching, level_of, worthwhile, coarsen}
use Rattle.laws.specs.Booleans.{by_cases, and_left, and_right, clash}
use Rattle.coarsen.specs.Level.{enough, level_if}

-- ---- the table ----

abbrev check : ℕ → Bool
check n = enough n n && (enough n (n - 1) && enough n (n - 2))

abbrev checks : ℕ → ℕ → Bool
checks k zero = true
checks k (suc c) = check k && checks (suc k) c

table : checks 49 80 ≡ true
unfolding enough lt mul of_int
table = refl

table_at : (c k n : ℕ) → checks k c ≡ true → k ≤ n → n < k + c → check n ≡ true
table_at zero k n h b l = absurd (omega arith)
table_at (suc c) k n h b l =
    elim (ℕ_discrete k n) [
      | yes e ↦ ap check (sym e) ∙ and_left (check k) (checks (suc k) c) h
      | no f ↦ table_at c (suc k) n (and_right (check k) (checks (suc k) c) h) (omega (arith, f)) (omega arith)
    ]

-- THREE FEWER
pub three_fewer : (n k : ℕ) → 48 < n → n ≤ 128 → k ≤ n → enough n k ≡ false → k + 3 ≤ n
three_fewer n k lo hi b e =
    let t : check n ≡ true = table_at 80 49 n table (omega arith) (omega arith) in
    let u : (enough n (n - 1) && enough n (n - 2)) ≡ true = and_right (enough n n) (enough n (n - 1) && enough n (n - 2)) t in
    elim (dec_le (k + 3) n) [
      | yes l ↦ l
      | no l ↦ elim (ℕ_discrete k n) [
        | yes q ↦ clash (ap (enough n) q ∙ and_left (enough n n) (enough n (n - 1) && enough n (n - 2)) t) e
        | no q ↦ elim (ℕ_discrete k (n - 1)) [
          | yes r ↦ clash (ap (enough n) r ∙ and_left (enough n (n - 1)) (enough n (n - 2)) u) e
          | no r ↦ (let z : k ≡ n - 2 = omega (arith, l, q, r) in clash (ap (enough n) z ∙ and_right (enough n (n - 1)) (enough n (n - 2)) u) e)
        ]
      ]
    ]

-- ---- a level that was found is worthwhile ----

pub found_fewer : (G : Hypergraph) (limit : Float) (ws ws' : Words) (found : Bool) (L : Level) → found ≡ true → drawn (level_if found L) ws' ≡ coarsen G limit ws
    → enough (vertex_count G) (vertex_count L.graph) ≡ false
unfolding coarsen enough
found_fewer G limit ws ws' found L f e =
    sym (ap (λ b. test (level_if b L)) f) ∙ ap (λ (d : Drawn (Option Level)). test d.value) e ∙ none_left (level_of G limit (matching G limit ws).value)
  where
    t : Level → Bool
    t l = lt (mul binary64 (decimal 95 100) (whole_float (vertex_count G))) (whole_float (vertex_count l.graph))

    test : Option Level → Bool
    test None = false
    test (Some l) = t l

    none_left : (l : Level) → test (worthwhile G limit l) ≡ false
    none_left l = by_cases (t l) (λ q. ap (λ b. test (cond b None (Some l))) q) (λ q. ap (λ b. test (cond b None (Some l))) q ∙ q)
