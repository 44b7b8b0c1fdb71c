-- Leaves that are halved by a partition: which go left, and when there are no two halves. Assumes nothing.
use Rattle.std.specs.Prelude.{Bool, true, false, not, ◌||◌, ◌≡◌, refl, List, [], ◌∷◌, ◌++◌, ℕ, suc, ◌<◌, eqb, Float, length, take, Option, None, Some}
use Rattle.std.proofs.Math.Bool.{or-true}
use Rattle.std.proofs.Common.{sym, ◌∙◌, ap, ap₂, append-nil, arith, eq-eqb, eqb-true}
use Rattle.std.proofs.lemmas.Bool.{eqb-false}
use Rattle.spec.specs.Network.{Network}
use Rattle.spec.specs.Hypergraph.{hypergraph_of}
use Rattle.spec.specs.Draws.{Words, drawn}
use Rattle.spec.specs.Bisection.{members_at, left_half, right_half, bisect}
use Rattle.laws.specs.Booleans.{by_cases}
use Rattle.laws.specs.BisectionHalves.{on_zero, halves_length}
use Rattle.laws.specs.ListLaws.{no_members}

module _ (N : Network) (leaves : List ℕ) (eps : Float) (at : Words) where
  -- the front of `part` is the partition of the leaves' hypergraph
  abbrev pub Partitioned : List ℕ → Words → Type 0
  Partitioned part next = drawn (take (length leaves) part) next ≡ bisect (hypergraph_of N leaves) eps at

  -- the leaves are halved, or they are not: a draw was due past the end, or one side is empty
  pub data CutBy (leaves' : List ℕ) (left : ℕ) (next : Words) : Type 0 where
    is_exhausted : left ≡ 0 → (part : List ℕ) → bisect (hypergraph_of N leaves) eps at ≡ drawn part next
        → next.exhausted ≡ true → leaves' ≡ leaves → CutBy leaves' left next
    is_whole : left ≡ 0 → (part : List ℕ) → bisect (hypergraph_of N leaves) eps at ≡ drawn part next
        → next.exhausted ≡ false → (eqb (length (left_half part leaves)) 0 || eqb (length (right_half part leaves)) 0) ≡ true
        → leaves' ≡ leaves → CutBy leaves' left next
    is_cut : 0 < left → left < length leaves → (part : List ℕ) → bisect (hypergraph_of N leaves) eps at ≡ drawn part next
        → next.exhausted ≡ false → left ≡ length (left_half part leaves) → leaves' ≡ left_half part leaves ++ right_half part leaves
        → CutBy leaves' left next

-- where no member passes a test all pass its opposite
none_picked : (p : ℕ → Bool) (k : ℕ) (l : List ℕ) → length (members_at p k l) ≡ 0 → members_at (λ v. not (p v)) k l ≡ l
none_picked p k [] h = refl
none_picked p k (x ∷ l) h =
    by_cases (p k)
    (λ e. let z : suc (length (members_at p (suc k) l)) ≡ 0 = rw e at h in absurd (omega arith))
    (λ e. rw e (ap (λ r. x ∷ r) (none_picked p (suc k) l (rw e at h))))

all_picked : (p : ℕ → Bool) (k : ℕ) (l : List ℕ) → length (members_at (λ v. not (p v)) k l) ≡ 0 → members_at p k l ≡ l
all_picked p k [] h = refl
all_picked p k (x ∷ l) h =
    by_cases (p k)
    (λ e. rw e (ap (λ r. x ∷ r) (all_picked p (suc k) l (rw e at h))))
    (λ e. let z : suc (length (members_at (λ v. not (p v)) (suc k) l)) ≡ 0 = rw e at h in absurd (omega arith))

module _ (N : Network) (leaves : List ℕ) (eps : Float) (at : Words) (part : List ℕ) (next : Words)
    (ep : Partitioned N leaves eps at part next)
  where
    abbrev sides : List ℕ
    sides = take (length leaves) part

    pub cut_exhausted : (t : Bool) → t ≡ next.exhausted → t ≡ true → CutBy N leaves eps at leaves 0 next
    cut_exhausted t e h = is_exhausted refl sides (sym ep) (sym e ∙ h) refl

    module _ (t : Bool) (e : t ≡ next.exhausted) (h : t ≡ false) (leaves' : List ℕ) (left : ℕ)
        (eh : (left ≡ length (left_half sides leaves)) × (leaves' ≡ left_half sides leaves ++ right_half sides leaves))
      where
        -- all go left
        pub cut_left : left ≡ length leaves → CutBy N leaves eps at leaves' 0 next
        cut_left q =
            let r : length (right_half sides leaves) ≡ 0 = omega (arith, eh.0, q, halves_length sides leaves) in
            is_whole refl sides (sym ep) (sym e ∙ h)
            (ap (λ (b : Bool). eqb (length (left_half sides leaves)) 0 || b) (eq-eqb (length (right_half sides leaves)) 0 r) ∙ or-true (eqb (length (left_half sides leaves)) 0))
            (eh.1 ∙ ap₂ (λ (x y : List ℕ). x ++ y) (all_picked (on_zero sides) 0 leaves r) (no_members (right_half sides leaves) r) ∙ append-nil leaves)

        -- none goes left, or some do and some do not
        pub cut_some : (left ≡ length leaves → ⊥) → CutBy N leaves eps at leaves' left next
        cut_some n =
            by_cases (eqb (length (left_half sides leaves)) 0)
            (λ q.
            let z : length (left_half sides leaves) ≡ 0 = eqb-true (length (left_half sides leaves)) 0 q in
            is_whole (eh.0 ∙ z) sides (sym ep) (sym e ∙ h)
            (ap (λ (b : Bool). b || eqb (length (right_half sides leaves)) 0) q)
            (eh.1 ∙ ap₂ (λ (x y : List ℕ). x ++ y) (no_members (left_half sides leaves) z) (none_picked (on_zero sides) 0 leaves z)))
            (λ q.
            let z : length (left_half sides leaves) ≡ 0 → ⊥ = eqb-false (length (left_half sides leaves)) 0 q in
            is_cut (omega (arith, z, eh.0)) (omega (arith, n, eh.0, halves_length sides leaves)) sides (sym ep) (sym e ∙ h) eh.0 eh.1)

-- how many go left: none where the leaves are not halved
abbrev pub left_of : Option ℕ → ℕ
left_of None = 0
left_of (Some left) = left
