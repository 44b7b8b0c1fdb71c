-- Vertices that have moved are not entered again, and one more is counted once more. Assumes nothing.
use Rattle.std.specs.Prelude.{Bool, true, false, ◌||◌, ◌≡◌, List, [], ◌∷◌, ℕ, zero, suc, ◌+◌, ◌≤◌, ◌<◌, eqb, length}
use Rattle.std.proofs.Common.{sym, ap, ◌∙◌, arith, eq-eqb, ne_eqb, get_or-set_other}
use Rattle.std.proofs.Math.Decide.{ℕ_discrete}
use Rattle.spec.specs.Lists.{memb, keep, from, range}
use Rattle.spec.specs.Hypergraph.{Hypergraph, fold_over}
use Rattle.spec.specs.Fm.{Queue, waits, entered_again}
use Rattle.laws.specs.Booleans.{by_cases}
use Rattle.laws.specs.ListLaws.{keep_ext_from}

-- none of these vertices waits
abbrev pub Fresh : List ℕ → Queue → Type 0
Fresh moves q = (u : ℕ) → waits q u ≡ true → memb u moves ≡ false

module _ (G : Hypergraph) (part moves : List ℕ) where
  again_fresh : (v : ℕ) (q : Queue) → Fresh moves q → Fresh moves (entered_again G part moves v q)
  again_fresh v q h u =
      by_cases (memb v moves)
      (λ e. rw e (h u))
      (λ e. rw e (λ w. elim (ℕ_discrete u v) [
        | yes f ↦ ap (λ (z : ℕ). memb z moves) f ∙ e
        | no f ↦ h u (ap (λ (z : ℕ). eqb z 1) (sym (get_or-set_other q.waiting v u 1 0 f)) ∙ w)
      ]))

  pub all_fresh : (l : List ℕ) (q : Queue) → Fresh moves q → Fresh moves (fold_over (entered_again G part moves) l q)
  all_fresh [] q h = h
  all_fresh (v ∷ l) q h = all_fresh l (entered_again G part moves v q) (again_fresh v q h)

keep_more : (p : ℕ → Bool) (v k n : ℕ) → k ≤ v → v < k + n → p v ≡ false → length (keep (λ u. eqb u v || p u) (from k n)) ≡ suc (length (keep p (from k n)))
keep_more p v k zero a b e = absurd (omega arith)
keep_more p v k (suc n) a b e =
    elim (ℕ_discrete k v) [
      | yes f ↦ (let q : p k ≡ false = ap p f ∙ e in
          rw (eq-eqb k v f) (rw q (ap (λ (l : List ℕ). suc (length l)) (keep_ext_from (λ u. eqb u v || p u) p (suc k) n (λ j lo hi. ap (λ t. t || p j) (ne_eqb j v (λ g. omega arith)))))))
      | no f ↦ rw (ne_eqb k v f)
          (by_cases (p k)
          (λ q. rw q (ap suc (keep_more p v (suc k) n (omega (arith, f)) (omega arith) e)))
          (λ q. rw q (keep_more p v (suc k) n (omega (arith, f)) (omega arith) e)))
    ]

-- a vertex that has not moved yet is one more
pub count_more : (l : List ℕ) (v n : ℕ) → v < n → memb v l ≡ false → length (keep (λ u. memb u (v ∷ l)) (range n)) ≡ suc (length (keep (λ u. memb u l) (range n)))
count_more l v n b e = keep_more (λ u. memb u l) v 0 n (omega arith) (omega arith) e
