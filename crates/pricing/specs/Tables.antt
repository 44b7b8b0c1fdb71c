-- Sums and largest numbers over the nodes, in any order; a network's leaves by number; slice bits. Assumes nothing.
use Rattle.std.specs.Prelude.{Bool, false, cond, ◌≡◌, refl, List, [], ◌∷◌, map, ℕ, zero, suc, ◌+◌, ◌≤◌, ◌<◌, ltb}
use Rattle.std.proofs.Common.{sym, ◌∙◌, ap, ap₂, arith, ext_get_or, ltb-true, ltb-false}
use mathlib.Mathlib.Data.Bool.Basic.{eq-false_of_not-eq-true}
use Rattle.spec.specs.Lists.{count, keep, from, range, sum_of}
use Rattle.spec.specs.Network.{Network, leaf_count, index_count, legs, weight}
use Rattle.spec.specs.Price.{bits, slice_bits}
use Rattle.laws.specs.Booleans.{by_cases}
use Rattle.laws.specs.ListLaws.{count_not_memb, sum_keep}
use Rattle.laws.specs.Counts.{count_in, count_out}
use Rattle.laws.specs.LayoutLaws.{map_range_at, map_range_length}
use Rattle.nodesets.specs.Passes.{nodes}
use Rattle.nodesets.specs.Steps.{Steps}

-- the inner nodes by number, and in step order: each once
pub node_counts : {n : ℕ} {kids order : List ℕ} (c : ℕ) → Steps n kids order → nodes n kids ≡ n + c → (v : ℕ) → count v (from n c) ≡ count v order
node_counts {n} {kids} {order} c s e v =
    by_cases (ltb v n)
    (λ p. let b : v < n = ltb-true v n p in
    count_out v n c (λ x y. omega arith) ∙ sym (count_not_memb v order (eq-false_of_not-eq-true (λ m. omega (arith, (s.inner v m).0)))))
    (λ p. let b : n ≤ v = ltb-false v n p in
    by_cases (ltb v (n + c))
    (λ q. let d : v < n + c = ltb-true v (n + c) q in count_in v n c b d ∙ sym (s.once v b (omega arith)))
    (λ q. let d : n + c ≤ v = ltb-false v (n + c) q in
    count_out v n c (λ x y. omega arith) ∙ sym (count_not_memb v order (eq-false_of_not-eq-true (λ m. omega (arith, (s.inner v m).1))))))

pub map_same_from : {A : Type 0} (f g : ℕ → A) (k n : ℕ) → ((v : ℕ) → k ≤ v → v < k + n → f v ≡ g v) → map f (from k n) ≡ map g (from k n)
map_same_from f g k zero h = refl
map_same_from f g k (suc n) h =
    ap₂ (λ x y. x ∷ y) (h k (omega arith) (omega arith)) (map_same_from f g (suc k) n (λ v a b. h v (omega arith) (omega arith)))

-- a network's leaves, by number
pub leaves_are : (N : Network) → N.leaves ≡ map (legs N) (range (leaf_count N))
leaves_are N =
    ext_get_or [] N.leaves (map (legs N) (range (leaf_count N))) (sym (map_range_length (legs N) (leaf_count N)))
    (λ i h. sym (map_range_at (legs N) [] (leaf_count N) i h))

-- ---- slice bits ----

bits_clear : (N : Network) (l : List ℕ) → bits N (λ j. false) l ≡ sum_of (weight N) l
bits_clear N [] = refl
bits_clear N (j ∷ l) = ap (λ (y : ℕ). weight N j + y) (bits_clear N l)

-- the flagged indices' weights, index by index
pub slice_sum : (N : Network) (flag : ℕ → Bool) → slice_bits N flag ≡ sum_of (λ j. cond (flag j) (weight N j) 0) (range (index_count N))
slice_sum N flag = bits_clear N (keep flag (range (index_count N))) ∙ sum_keep (weight N) flag (range (index_count N))
