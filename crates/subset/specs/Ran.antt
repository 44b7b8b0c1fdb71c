-- What the steps of the search leave in the rows and lists of the masks. Assumes nothing.
use Rattle.std.specs.Prelude.{Bool, List, [], ◌≡◌, ℕ, zero, suc, ◌+◌, ◌/◌, ◌%◌, ◌^◌, ◌≤◌, ◌<◌, eqb, length, take, Option}
use Rattle.std.proofs.Common.{sym, ap, ◌∙◌, subst, arith, refl, get_or-take}
use Rattle.std.proofs.Math.Pow.{pow-lt}
use Rattle.spec.specs.Lists.{anyb}
use Rattle.laws.specs.Booleans.{by_cases}
use Rattle.laws.specs.Masks.{places_from}
use Rattle.masks.specs.Rows.{row_has, has_at}
use Rattle.masks.specs.Tables.{member_has, root_has, union_has, keeps_in, United, KeptBelow, work_at}
use Rattle.masks.specs.Singles.{own_bits, same_places}
use Rattle.subset.specs.Walk.{Filled, best_at, split_at}

-- of n masks, in lists of any length: of each the members that its rows list, the root's too, what it keeps, and the filled lists. The search's
-- answer and count stand on these.
pub record RanOn (was united kept : List (List ℕ)) (wt cost part : List ℕ) (n : ℕ) (limit : Option ℕ) (tried : ℕ) : Type 0 where
  pub done : (s j : ℕ) → 1 ≤ s → s < n → j < 128 → has_at united s j ≡ union_has was n s j
  pub root : (j : ℕ) → j < 128 → root_has united j ≡ root_has was j
  pub keeps : (s j : ℕ) → 1 ≤ s → s < n → j < 128 → has_at kept s j ≡ keeps_in united n s j
  pub filled : Filled (best_at cost) (split_at part) (work_at kept wt) n limit n tried

-- the same in lists of n places, where each mask's bits stand in one too
pub record Ran (was united kept : List (List ℕ)) (b wt cost part : List ℕ) (n : ℕ) (limit : Option ℕ) (tried : ℕ) : Type 0 where
  pub front : RanOn was united kept wt cost part n limit tried
  pub keeps : KeptBelow united wt kept b n n

-- from what each step says of its lists
pub ran_of : (was united kept : List (List ℕ)) (b wt cost part : List ℕ) (n : ℕ) (limit : Option ℕ) (tried : ℕ)
    → United was united n n
    → KeptBelow united wt kept b n n
    → Filled (best_at cost) (split_at part) (work_at kept wt) n limit n tried
    → Ran was united kept b wt cost part n limit tried
ran_of was united kept b wt cost part n limit tried u k filled =
    record { front = record { done = u.done; root = u.root; keeps = k.kept; filled = filled }; keeps = k }

-- ---- a list of rows that is cut after the masks ----

any_places : (f g : ℕ → Bool) (k n s : ℕ) → ((p : ℕ) → p < k + n → f p ≡ g p) → anyb f (places_from k n s) ≡ anyb g (places_from k n s)
any_places f g k zero s h = refl
any_places f g k (suc n) s h =
    let later : anyb f (places_from (suc k) n (s / 2)) ≡ anyb g (places_from (suc k) n (s / 2)) = any_places f g (suc k) n (s / 2) (λ p b. h p (omega arith)) in
    by_cases (eqb (s % 2) 1)
    (λ e. rw (e, h k (omega arith), later) refl)
    (λ e. rw (e, later) refl)

-- the members of a mask below 2^m have their rows below 2^m
cut_unions : (was : List (List ℕ)) (n m s j : ℕ) → n ≡ 2 ^ m → s < n → union_has (take n was) n s j ≡ union_has was n s j
cut_unions was n m s j masks h =
    let e : places_from 0 n s ≡ places_from 0 m s = same_places n m 0 s (omega (arith, own_bits n)) (omega arith) in
    ap (anyb (λ p. member_has (take n was) p j)) e
    ∙ any_places (λ p. member_has (take n was) p j) (λ p. member_has was p j) 0 m s (λ p b.
    ap (λ r. row_has r j) (get_or-take n was (2 ^ p) [] (omega (arith, pow-lt {i = p} {j = m} (omega arith)))))
    ∙ sym (ap (anyb (λ p. member_has was p j)) e)

-- the same, where the rows are cut from longer ones
pub ran_on : (was united kept : List (List ℕ)) (b wt held cost part : List ℕ) (n m : ℕ) (limit : Option ℕ) (tried : ℕ) → n ≡ 2 ^ m → length (take n was) ≡ n
    → held ≡ wt
    → United (take n was) united (length (take n was)) (length (take n was))
    → KeptBelow united held kept b (length united) (length united)
    → Filled (best_at cost) (split_at part) (work_at kept held) (length b) limit (length b) tried
    → Ran was united kept b wt cost part n limit tried
ran_on was united kept b wt held cost part n m limit tried masks e0 w u k filled =
    let e1 : length united ≡ n = u.long ∙ e0 in
    let e2 : length b ≡ n = k.long_bits ∙ e1 in
    let ran : Ran (take n was) united kept b wt cost part n limit tried =
    ran_of (take n was) united kept b wt cost part n limit tried
    (subst (λ (x : ℕ). United (take n was) united x x) e0 u)
    (subst (λ (x : ℕ). KeptBelow united wt kept b x x) e1 (subst (λ (x : List ℕ). KeptBelow united x kept b (length united) (length united)) w k))
    (subst (λ (x : ℕ). Filled (best_at cost) (split_at part) (work_at kept wt) x limit x tried) e2
    (subst (λ (x : List ℕ). Filled (best_at cost) (split_at part) (work_at kept x) (length b) limit (length b) tried) w filled)) in
    record {
      front =
          record {
            done = λ s j a l h. ran.front.done s j a l h ∙ cut_unions was n m s j masks l;
            root = λ j h. ran.front.root j h ∙ ap (λ r. row_has r j) (get_or-take n was 0 [] (omega (arith, own_bits m)));
            keeps = ran.front.keeps;
            filled = ran.front.filled;
          };
      keeps = ran.keeps;
    }
