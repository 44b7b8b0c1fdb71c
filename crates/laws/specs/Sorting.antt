-- Sorts by insertion, for laws G6 and I6: the keys stand in order, and members of one key stand as they stood. Assumes nothing.
use Rattle.std.specs.Prelude.{◌≡◌, refl, Bool, true, false, not, cond, List, [], ◌∷◌, ℕ, ◌≤◌, eqb, ltb, leb}
use Rattle.std.proofs.Common.{sym, ap, ◌∙◌, subst, arith, eqb-true, ltb-true, ltb-false, leb-true, leb-false}
use Rattle.std.proofs.lemmas.Bool.{not-true, not-false}
use Rattle.spec.specs.Lists.{keep}
use Rattle.spec.specs.Members.{All, Ordered}
use Rattle.spec.specs.Greedy.{size_of, insert, by_size}
use Rattle.spec.specs.GreedyClaims.{RestRises}
use Rattle.spec.specs.Improve.{work_of, insert_by_work, falling}
use Rattle.spec.specs.ImproveClaims.{NodesFall}
use Rattle.laws.specs.Booleans.{by_cases}
use Rattle.laws.specs.MemberLaws.{all_map}

module _ {A : Type 0} (key : A → ℕ) (R : ℕ → ℕ → Type 0) (past : A → A → Bool) (put : A → List A → List A) where
  abbrev Before : A → A → Type 0
  Before x y = R (key x) (key y)

  -- a member is put behind those that it passes; it passes no other of its key
  record Puts : Type 0 where
    trans : (a b c : ℕ) → R a b → R b c → R a c
    over : (u t : A) → past u t ≡ true → R (key u) (key t)
    other : (u t : A) → past u t ≡ true → key u ≡ key t → ⊥
    stay : (u t : A) → past u t ≡ false → R (key t) (key u)
    end : (t : A) → put t [] ≡ t ∷ []
    next : (t u : A) (l : List A) → put t (u ∷ l) ≡ cond (past u t) (u ∷ put t l) (t ∷ u ∷ l)

  module _ (h : Puts) where
    put_all : (P : A → Type 0) (t : A) (l : List A) → P t → All P l → All P (put t l)
    put_all P t [] p q = subst (All P) (sym (h.end t)) (p, tt)
    put_all P t (u ∷ l) p q =
        subst (All P) (sym (h.next t u l)) (by_cases (past u t) (λ e. rw e (q.0, put_all P t l p q.1)) (λ e. rw e (p, q)))

    put_ordered : (t : A) (l : List A) → Ordered Before l → Ordered Before (put t l)
    put_ordered t [] o = subst (Ordered Before) (sym (h.end t)) (tt, tt)
    put_ordered t (u ∷ l) o =
        subst (Ordered Before) (sym (h.next t u l))
        (by_cases (past u t)
        (λ e. rw e (put_all (Before u) t l (h.over u t e) o.0, put_ordered t l o.1))
        (λ e. rw e ((h.stay u t e, all_map (Before u) (Before t) l (λ y r. h.trans (key t) (key u) (key y) (h.stay u t e) r) o.0), o)))

    put_keep : (w : ℕ) (t : A) (l : List A) → keep (λ x. eqb (key x) w) (put t l) ≡ keep (λ x. eqb (key x) w) (t ∷ l)
    put_keep w t [] = ap (keep (λ x. eqb (key x) w)) (h.end t)
    put_keep w t (u ∷ l) =
        ap (keep (λ x. eqb (key x) w)) (h.next t u l)
        ∙ by_cases (past u t)
        (λ e. ap (λ b. keep (λ x. eqb (key x) w) (cond b (u ∷ put t l) (t ∷ u ∷ l))) e
        ∙ ap (λ (k : List A). cond (eqb (key u) w) (u ∷ k) k) (put_keep w t l)
        ∙ changed (eqb (key t) w) (eqb (key u) w) (keep (λ x. eqb (key x) w) l) refl refl (h.other u t e))
        (λ e. ap (λ b. keep (λ x. eqb (key x) w) (cond b (u ∷ put t l) (t ∷ u ∷ l))) e)
      where
        changed : (p q : Bool) (k : List A) → eqb (key t) w ≡ p → eqb (key u) w ≡ q → (key u ≡ key t → ⊥)
            → cond q (u ∷ cond p (t ∷ k) k) (cond p (t ∷ k) k) ≡ cond p (t ∷ cond q (u ∷ k) k) (cond q (u ∷ k) k)
        changed true true k a b n = absurd (n (eqb-true (key u) w b ∙ sym (eqb-true (key t) w a)))
        changed true false k a b n = refl
        changed false true k a b n = refl
        changed false false k a b n = refl

    module _ (sort : List A → List A) (none : sort [] ≡ []) (more : (t : A) (l : List A) → sort (t ∷ l) ≡ put t (sort l)) where
      sort_ordered : (l : List A) → Ordered Before (sort l)
      sort_ordered [] = subst (Ordered Before) (sym none) tt
      sort_ordered (t ∷ l) = subst (Ordered Before) (sym (more t l)) (put_ordered t (sort l) (sort_ordered l))

      sort_keep : (w : ℕ) (l : List A) → keep (λ x. eqb (key x) w) (sort l) ≡ keep (λ x. eqb (key x) w) l
      sort_keep w [] = ap (keep (λ x. eqb (key x) w)) none
      sort_keep w (t ∷ l) =
          ap (keep (λ x. eqb (key x) w)) (more t l)
          ∙ put_keep w t (sort l)
          ∙ ap (λ (k : List A). cond (eqb (key t) w) (t ∷ k) k) (sort_keep w l)

cond-not : {B : Type 0} (b : Bool) (x y : B) → cond b x y ≡ cond (not b) y x
cond-not true x y = refl
cond-not false x y = refl

-- LAW G6
pub rest_rises : RestRises
rest_rises N ts =
    let h : Puts (size_of N) (λ a b. a ≤ b) (λ u t. ltb (size_of N u) (size_of N t)) (insert N) =
    record {
      trans = λ a b c p q. omega arith;
      over = λ u t e. omega (arith, ltb-true (size_of N u) (size_of N t) e);
      other = λ u t e z. omega (arith, ltb-true (size_of N u) (size_of N t) e);
      stay = λ u t e. ltb-false (size_of N u) (size_of N t) e;
      end = λ t. refl;
      next = λ t u l. refl;
    } in
    record {
      rises = sort_ordered (size_of N) _ _ (insert N) h (by_size N) refl (λ t l. refl) ts;
      stable = λ w. sort_keep (size_of N) _ _ (insert N) h (by_size N) refl (λ t l. refl) w ts;
    }

-- LAW I6
pub nodes_fall : NodesFall
nodes_fall N flag ts =
    let h : Puts (work_of N flag) (λ a b. b ≤ a) (λ u t. not (leb (work_of N flag u) (work_of N flag t))) (insert_by_work N flag) =
    record {
      trans = λ a b c p q. omega arith;
      over = λ u t e. omega (arith, leb-false (work_of N flag u) (work_of N flag t) (not-true _ e));
      other = λ u t e z. omega (arith, leb-false (work_of N flag u) (work_of N flag t) (not-true _ e));
      stay = λ u t e. leb-true (work_of N flag u) (work_of N flag t) (not-false _ e);
      end = λ t. refl;
      next = λ t u l. cond-not (leb (work_of N flag u) (work_of N flag t)) (t ∷ u ∷ l) (u ∷ insert_by_work N flag t l);
    } in
    record {
      falls = sort_ordered (work_of N flag) _ _ (insert_by_work N flag) h (falling N flag) refl (λ t l. refl) ts;
      stable = λ w. sort_keep (work_of N flag) _ _ (insert_by_work N flag) h (falling N flag) refl (λ t l. refl) w ts;
    }
