-- The loop's best is the definition's, over the list of candidates. Assumes nothing.
use Rattle.std.specs.Prelude.{Bool, true, false, cond, ◌≡◌, List, [], ◌∷◌, ◌++◌, Option, None}
use Rattle.std.proofs.Math.Path.{refl, sym, ap}
use Rattle.std.proofs.Common.{◌∙◌, append-nil, arith, add-one}
use Prim.Native.Nat.{ℕ, zero, suc, ◌+◌, ◌<◌}
use Rattle.spec.specs.Lists.{keep, from, range}
use Rattle.spec.specs.Network.{Network}
use Rattle.spec.specs.Slicing.{Rank, rank_before, Plan, rank_of, best}
use Rattle.laws.specs.Booleans.{by_cases}
use Rattle.slots.specs.Rising.{keep-add}
use Rattle.cells.specs.Loop.{turns, turns_none, turns_next, turns_ext}
use Rattle.slicing.specs.declared.ranks.Rank.{Rank as Found}
use Rattle.slicing.specs.Best.{ranked, better, considered, best_of}

-- ---- the loop ----

module _ (candidate : ℕ → Bool) (rank : ℕ → Rank) where
  pub best_none : None ≡ best_of candidate rank 0
  unfolding best_of
  best_none = sym (turns_none _ _)

  pub best_next : (k : ℕ) (b r : Option Found) → b ≡ best_of candidate rank k → r ≡ considered candidate rank b k → r ≡ best_of candidate rank (k + 1)
  unfolding best_of
  best_next k b r e f = turns_next (λ j b. considered candidate rank b j) None k e f

pub best_same : (c d : ℕ → Bool) (r q : ℕ → Rank) (m : ℕ) → ((j : ℕ) → j < m → c j ≡ d j) → ((j : ℕ) → j < m → d j ≡ true → r j ≡ q j)
    → best_of c r m ≡ best_of d q m
unfolding best_of
best_same c d r q m h k =
    turns_ext (λ j b. considered c r b j) (λ j b. considered d q b j) None m
    (λ j b l. ap (λ (x : Bool). cond x (better (r j) b) b) (h j l)
    ∙ by_cases (d j) (λ e. rw (e, k j l e)) (λ e. rw e))

-- ---- the candidates as a list ----

module _ (N : Network) (target : ℕ) (p : Plan) where
  abbrev rank : ℕ → Rank
  rank = rank_of N target p

  -- the definition's best of a list, with its rank; nothing where there is none
  abbrev pub best_in : List ℕ → Option Found
  best_in [] = None
  best_in (i ∷ l) = ranked (rank (best N target p i l))

  pick : (b : Bool) (j i : ℕ) → cond b (ranked (rank j)) (ranked (rank i)) ≡ ranked (rank (cond b j i))
  pick true j i = refl
  pick false j i = refl

  best_snoc : (i : ℕ) (l : List ℕ) (j : ℕ) → ranked (rank (best N target p i (l ++ j ∷ []))) ≡ better (rank j) (ranked (rank (best N target p i l)))
  best_snoc i [] j = sym (pick (rank_before (rank j) (rank i)) j i)
  best_snoc i (k ∷ l) j = best_snoc (cond (rank_before (rank k) (rank i)) k i) l j

  in_snoc : (l : List ℕ) (j : ℕ) → best_in (l ++ j ∷ []) ≡ better (rank j) (best_in l)
  in_snoc [] j = refl
  in_snoc (i ∷ l) j = best_snoc i l j

  module _ (candidate : ℕ → Bool) where
    in_next : (k : ℕ) → best_in (keep candidate (range (suc k))) ≡ considered candidate rank (best_in (keep candidate (range k))) k
    in_next k =
        let z : keep candidate (range (suc k)) ≡ keep candidate (range k) ++ keep candidate (from (0 + k) 1) =
        ap (λ (n : ℕ). keep candidate (range n)) (sym (add-one k)) ∙ keep-add candidate 0 k 1 in
        let y : 0 + k ≡ k = omega arith in
        ap best_in (z ∙ ap (λ (x : ℕ). keep candidate (range k) ++ keep candidate (from x 1)) y)
        ∙ by_cases (candidate k)
        (λ e. rw e (in_snoc (keep candidate (range k)) k))
        (λ e. rw e (ap best_in (append-nil (keep candidate (range k)))))

    -- THE LOOP FINDS THE DEFINITION'S BEST
    pub best_is : (m : ℕ) → best_of candidate rank m ≡ best_in (keep candidate (range m))
    unfolding best_of turns
    best_is zero = refl
    best_is (suc m) = ap (λ (b : Option Found). considered candidate rank b m) (best_is m) ∙ sym (in_next m)
