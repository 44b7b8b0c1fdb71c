-- Sums by index: what each member of a list adds at each index, and an amount added at the members of a list. Assumes nothing.
use Rattle.std.specs.Prelude.{Bool, true, false, cond, ◌≡◌, refl, List, [], ◌∷◌, ◌++◌, ℕ, zero, suc, ◌+◌, ◌≤◌, ◌<◌, eqb, length, get_or}
use Rattle.std.proofs.Common.{◌∙◌, ap, arith, eqb-true, ne_eqb}
use Rattle.std.proofs.Math.Decide.{dec_le}
use Rattle.spec.specs.Lists.{keep, from, range, sum_of}
use Rattle.laws.specs.Booleans.{by_cases}
use Rattle.laws.specs.Counts.{only, only_out, only_in}
use Rattle.laws.specs.ListLaws.{sum_append}

-- no number is above b
abbrev pub Small : ℕ → List ℕ → Type 0
Small b l = (j : ℕ) → get_or l j 0 ≤ b

-- place j has what each member v of l adds there, f j v
pub record Summed (f : ℕ → ℕ → ℕ) (old l new : List ℕ) : Type 0 where
  pub same : length new ≡ length old
  pub at : (j : ℕ) → get_or new j 0 ≡ get_or old j 0 + sum_of (f j) l

-- an amount at one place
abbrev pub amount_at : ℕ → ℕ → ℕ → ℕ
amount_at a j = only j (λ k. a)

-- what an amount at each place of l is at place j
abbrev pub share : ℕ → ℕ → List ℕ → ℕ
share a j l = sum_of (amount_at a j) l

-- an amount is added at each place that l names
abbrev pub Added : ℕ → (old l new : List ℕ) → Type 0
Added a = Summed (amount_at a)

pub summed_none : (f : ℕ → ℕ → ℕ) (old : List ℕ) → Summed f old [] old
summed_none f old = record { same = refl; at = λ j. omega arith }

-- first the one list, then the other
pub summed_more : {f g : ℕ → ℕ → ℕ} {old k mid l new : List ℕ} (m : List ℕ) → Summed f old k mid → Summed g mid l new
    → ((j : ℕ) → sum_of (f j) m ≡ sum_of (f j) k + sum_of (g j) l) → Summed f old m new
summed_more m s t h = record { same = t.same ∙ s.same; at = λ j. omega (arith, s.at j, t.at j, h j) }

-- one member more
pub summed_next : {f g : ℕ → ℕ → ℕ} {old k mid l new : List ℕ} (v : ℕ) → Summed f old k mid → Summed g mid l new
    → ((j : ℕ) → sum_of (g j) l ≡ f j v) → Summed f old (k ++ v ∷ []) new
summed_next {f} {g} {old} {k} {mid} {l} {new} v s t h =
    summed_more (k ++ v ∷ []) s t (λ j. omega (arith, sum_append (f j) k (v ∷ []), h j))

-- ---- an amount at the places that pass a test ----

module _ (a j : ℕ) where
  share_pick : (b : Bool) (k : ℕ) (l : List ℕ) → share a j (cond b (k ∷ l) l) ≡ cond b (amount_at a j k) 0 + share a j l
  share_pick true k l = refl
  share_pick false k l = omega arith

  share-keep : (p : ℕ → Bool) (l : List ℕ) → share a j (keep p l) ≡ cond (p j) (share a j l) 0
  share-keep p [] = by_cases (p j) (λ e. rw e) (λ e. rw e)
  share-keep p (k ∷ l) =
      share_pick (p k) k (keep p l)
      ∙ by_cases (eqb k j)
      (λ e. rw (e, eqb-true k j e) (ap (λ (x : ℕ). cond (p j) a 0 + x) (share-keep p l) ∙ both (p j) (share a j l)))
      (λ e. rw e (ap (λ (x : ℕ). cond (p k) 0 0 + x) (share-keep p l) ∙ none (p k) (p j) (share a j l)))
    where
      both : (b : Bool) (x : ℕ) → cond b a 0 + cond b x 0 ≡ cond b (a + x) 0
      both true x = refl
      both false x = refl

      none : (b c : Bool) (x : ℕ) → cond b 0 0 + cond c x 0 ≡ cond c (0 + x) 0
      none true true x = refl
      none true false x = refl
      none false true x = refl
      none false false x = refl

  share_past : (k n : ℕ) → k + n ≤ j → share a j (from k n) ≡ 0
  share_past k zero h = refl
  share_past k (suc n) h = rw (ne_eqb k j (λ q. omega arith)) (omega (arith, share_past (suc k) n (omega arith)))

  share_from : (k n : ℕ) → share a j (from k n) ≤ a
  share_from k n =
      elim (dec_le k j) [
        | yes q ↦ elim (dec_le (k + n) j) [
          | yes p ↦ omega (arith, share_past k n p)
          | no p ↦ omega (arith, only_in j (λ k. a) k n q (omega arith))
        ]
        | no q ↦ omega (arith, only_out j (λ k. a) k n (omega arith))
      ]

  pub share_most : (p : ℕ → Bool) (k n : ℕ) → share a j (keep p (from k n)) ≤ a
  share_most p k n = omega (arith, share-keep p (from k n), pick_most (p j) (share a j (from k n)) (share_from k n))
    where
      pick_most : (b : Bool) (x : ℕ) → x ≤ a → cond b x 0 ≤ a
      pick_most true x h = h
      pick_most false x h = omega arith

  pub share_kept : (p : ℕ → Bool) (n : ℕ) → j < n → share a j (keep p (range n)) ≡ cond (p j) a 0
  share_kept p n h = share-keep p (range n) ∙ ap (λ (x : ℕ). cond (p j) x 0) (only_in j (λ k. a) 0 n (omega arith) (omega arith))

pub share_nothing : (j : ℕ) (l : List ℕ) → share 0 j l ≡ 0
share_nothing j [] = refl
share_nothing j (k ∷ l) = by_cases (eqb k j) (λ e. rw e (omega (arith, share_nothing j l))) (λ e. rw e (omega (arith, share_nothing j l)))
