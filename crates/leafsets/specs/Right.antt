-- After the passes each node's slot holds the leaves below it: a slot that is right stays right, and every write makes its slot right. Assumes nothing.
use Rattle.std.specs.Prelude.{◌≡◌, Bool, true, false, ◌||◌, length, Option}
use Rattle.std.proofs.Math.Path.{refl, ap₂, subst}
use Rattle.std.proofs.Common.{sym, ◌∙◌, ap, arith}
use mathlib.Core.List.{List, [], ◌∷◌, ◌++◌}
use Rattle.std.proofs.lemmas.Option.{same_Some}
use Prim.Native.Nat.{ℕ, zero, suc, ◌+◌, ◌-◌, ◌*◌, ◌≤◌, ◌<◌}
use Rattle.std.proofs.Math.Decide.{ℕ_discrete, dec_le}
use Rattle.std.proofs.Math.Dec.{eqb}
use Rattle.spec.specs.Lists.{memb}
use Rattle.spec.specs.Tree.{Tree, leaf, node, number, numbers, inner, inner_of, below_of, Pair, Describes, tree_at, pairs_of, step_order}
use Rattle.spec.specs.Calls.{wrong_tree}
use Rattle.laws.specs.Booleans.{eqb_sym, clash}
use Rattle.laws.specs.ListLaws.{memb_one, three_cases, three_left, three_right}
use Rattle.laws.specs.Walks.{Placed, placed_top, describes_placed, valid_tree, valid_placed}
use Rattle.laws.specs.Arrays.{number_in, valid_in}
use Rattle.laws.specs.FlatLaws.{pair_at, left_of, right_of}
use Rattle.cells.specs.Loop.{turns}
use Rattle.slots.specs.Slots.{held, with_set, next_slot, held_with, held_with_other}
use Rattle.walk.specs.Order.{Low}
use Rattle.walk.specs.Wrong.{not_wrong}
use Rattle.leafsets.specs.Passes.{singles, joined, ups, joined_length, singles_length}

-- slot s holds what F says of it
abbrev pub RightAt : ℕ → (ℕ → ℕ → Bool) → List ℕ → ℕ → Type 0
RightAt w F ws s = (j : ℕ) → j < w * 64 → held ws w s j ≡ F s j

-- what was right is right
abbrev pub Keeps : ℕ → (ℕ → ℕ → Bool) → List ℕ → List ℕ → Type 0
Keeps w F ws ws' = (s : ℕ) → RightAt w F ws s → RightAt w F ws' s

module _ (w : ℕ) (F : ℕ → ℕ → Bool) where
  -- a write that makes its slot right
  write_right : (ws : List ℕ) (s : ℕ) (p : ℕ → Bool) → s * w + w ≤ length ws → ((j : ℕ) → j < w * 64 → p j ≡ F s j)
      → Keeps w F ws (with_set ws w s p) × RightAt w F (with_set ws w s p) s
  write_right ws s p room e = (keeps, now)
    where
      now : RightAt w F (with_set ws w s p) s
      now j b = held_with ws w s p j room b ∙ e j b

      keeps : Keeps w F ws (with_set ws w s p)
      keeps u h j b =
          elim (ℕ_discrete u s) [
            | yes q ↦ subst (λ (z : ℕ). held (with_set ws w s p) w z j ≡ F z j) (sym q) (now j b)
            | no g ↦ held_with_other ws w s p u j b g ∙ h j b
          ]

  -- the leaves' own sets
  pub singles_right : (base : ℕ) (ws : List ℕ) (n : ℕ) → (base + n) * w ≤ length ws → ((i j : ℕ) → i < n → eqb j i ≡ F (base + i) j)
      → Keeps w F ws (singles w base ws n) × ((i : ℕ) → i < n → RightAt w F (singles w base ws n) (base + i))
  unfolding singles turns
  singles_right base ws zero room e = ((λ s h. h), (λ i h. absurd (omega arith)))
  singles_right base ws (suc n) room e =
      let (k, r) = singles_right base ws n (omega (arith, next_slot (base + n) (base + suc n) w (omega arith))) (λ i j h. e i j (omega arith)) in
      let l = singles w base ws n in
      let (k₁, r₁) = write_right l (base + n) (λ j. eqb j n)
      (omega (arith, next_slot (base + n) (base + suc n) w (omega arith), singles_length w base ws n)) (λ j b. e n j (omega arith)) in (
        (λ s h. k₁ s (k s h)),
        (λ i h. elim (ℕ_discrete i n) [
          | yes q ↦ subst (λ (z : ℕ). RightAt w F (with_set l w (base + n) (λ j. eqb j n)) (base + z)) (sym q) r₁
          | no g ↦ k₁ (base + i) (r i (omega (arith, g)))
        ]),
      )

-- ---- the unions, along a tree ----

module _ (w base : ℕ) (kids : List ℕ) (n : ℕ) where
  ups-append : (ws xs ys : List ℕ) → ups w base kids n ws (xs ++ ys) ≡ ups w base kids n (ups w base kids n ws xs) ys
  unfolding ups
  ups-append ws [] ys = refl
  ups-append ws (x ∷ xs) ys = ups-append (joined w base kids n ws x) xs ys

  pub ups_length : (ws xs : List ℕ) → length (ups w base kids n ws xs) ≡ length ws
  unfolding ups
  ups_length ws [] = refl
  ups_length ws (x ∷ xs) = ups_length (joined w base kids n ws x) xs ∙ joined_length w base kids n ws x

  ups_none : (ws : List ℕ) → ups w base kids n ws [] ≡ ws
  unfolding ups
  ups_none ws = refl

  ups_one : (ws : List ℕ) (v : ℕ) → ups w base kids n ws (v ∷ []) ≡ joined w base kids n ws v
  unfolding ups
  ups_one ws v = refl

  -- the children that the list names are the described ones
  children : (v : ℕ) (l r : Tree) → v - n < length (pairs_of kids) → Describes n (pairs_of kids) (node v l r)
      → (left_of kids n v ≡ number l) × (right_of kids n v ≡ number r)
  children v l r h d =
      let here : Pair = record { left = left_of kids n v; right = right_of kids n v } in
      let there : Pair = record { left = number l; right = number r } in
      let p : here ≡ there = same_Some here there (sym (pair_at kids (v - n) h) ∙ d.1) in
      (ap (λ (m : Pair). m.left) p, ap (λ (m : Pair). m.right) p)

  module _ (F : ℕ → ℕ → Bool) (long : length (pairs_of kids) ≡ n - 1) (two : 2 ≤ n)
      (is : (v j : ℕ) → v ≤ n * 2 - 2 → F (base + v) j ≡ below_of (tree_at n (pairs_of kids) v) j) where
    union : (v : ℕ) (l r : Tree) → Placed n (pairs_of kids) (node v l r) → v ≤ n * 2 - 2 → number l ≤ n * 2 - 2 → number r ≤ n * 2 - 2
        → (j : ℕ) → (F (base + number l) j || F (base + number r) j) ≡ F (base + v) j
    union v l r p a b c j =
        ap₂ (λ (x y : Bool). x || y)
        (is (number l) j b ∙ ap (λ (o : Option Tree). below_of o j) (placed_top n (pairs_of kids) l p.1))
        (is (number r) j c ∙ ap (λ (o : Option Tree). below_of o j) (placed_top n (pairs_of kids) r p.2))
        ∙ sym (is v j a ∙ ap (λ (o : Option Tree). below_of o j) p.0)

    join_right : (v : ℕ) (l r : Tree) → Describes n (pairs_of kids) (node v l r) → Placed n (pairs_of kids) (node v l r) → Low (n * 2 - 2) (node v l r)
        → (ws : List ℕ) → (base + n * 2) * w ≤ length ws → RightAt w F ws (base + number l) → RightAt w F ws (base + number r)
        → Keeps w F ws (joined w base kids n ws v) × RightAt w F (joined w base kids n ws v) (base + v)
    unfolding joined
    join_right v l r d p low ws room hl hr =
        let iv : v ≤ n * 2 - 2 = low v (number_in (node v l r)) in
        let il : number l ≤ n * 2 - 2 = low (number l) (three_left (number l) v (numbers l) (numbers r) (number_in l)) in
        let ir : number r ≤ n * 2 - 2 = low (number r) (three_right (number r) v (numbers l) (numbers r) (number_in r)) in
        let (el, er) = children v l r (omega (arith, d.0)) d in
        write_right w F ws (base + v) _ (omega (arith, next_slot (base + v) (base + n * 2) w (omega arith))) (λ j b.
        ap₂ (λ (x y : ℕ). held ws w (base + x) j || held ws w (base + y) j) el er
        ∙ ap₂ (λ (x y : Bool). x || y) (hl j b) (hr j b) ∙ union v l r p iv il ir j)

    ups_right : (t : Tree) → Describes n (pairs_of kids) t → Placed n (pairs_of kids) t → Low (n * 2 - 2) t
        → (ws : List ℕ) → (base + n * 2) * w ≤ length ws → ((i : ℕ) → i < n → RightAt w F ws (base + i))
        → Keeps w F ws (ups w base kids n ws (inner t)) × ((k : ℕ) → memb k (numbers t) ≡ true → RightAt w F (ups w base kids n ws (inner t)) (base + k))
    ups_right (leaf i) d p low ws room h =
        rw (ups_none ws) ((λ s r. r), (λ k m. subst (λ (z : ℕ). RightAt w F ws (base + z)) (sym (memb_one k i m)) (h i d)))
    ups_right (node v l r) d p low ws room h =
        let a = pairs_of kids in
        let ws₁ = ups w base kids n ws (inner l) in
        let ws₂ = ups w base kids n ws₁ (inner r) in
        let (k₁, r₁) = ups_right l d.2 p.1 (λ k m. low k (three_left k v (numbers l) (numbers r) m)) ws room h in
        let (k₂, r₂) = ups_right r d.3 p.2 (λ k m. low k (three_right k v (numbers l) (numbers r) m)) ws₁
        (omega (arith, ups_length ws (inner l))) (λ i b. k₁ (base + i) (h i b)) in
        let (k₃, r₃) = join_right v l r d p low ws₂ (omega (arith, ups_length ws (inner l), ups_length ws₁ (inner r)))
        (k₂ (base + number l) (r₁ (number l) (number_in l))) (r₂ (number r) (number_in r)) in
        let e : ups w base kids n ws (inner l ++ (inner r ++ (v ∷ []))) ≡ joined w base kids n ws₂ v
        = ups-append ws (inner l) (inner r ++ (v ∷ [])) ∙ ups-append ws₁ (inner r) (v ∷ []) ∙ ups_one ws₂ v in
        rw e (
          (λ s q. k₃ s (k₂ s (k₁ s q))),
          (λ k m. three_cases k v (numbers l) (numbers r) m
              (λ q. k₃ (base + k) (k₂ (base + k) (r₁ k q)))
              (λ q. k₃ (base + k) (r₂ k q))
              (λ q. subst (λ (z : ℕ). RightAt w F (joined w base kids n ws₂ v) (base + z)) (sym q) r₃)),
        )

    -- the whole tree
    pub tree_right : wrong_tree n kids ≡ false → (ws : List ℕ) → (base + n * 2) * w ≤ length ws → ((i : ℕ) → i < n → RightAt w F ws (base + i))
        → Keeps w F ws (ups w base kids n ws (step_order kids n))
        × ((v : ℕ) → v ≤ n * 2 - 2 → RightAt w F (ups w base kids n ws (step_order kids n)) (base + v))
    unfolding step_order
    tree_right e ws room h =
        let a = pairs_of kids in
        let (t, q, ok) = valid_tree n a (omega arith) (not_wrong n kids e) in
        let (k, r) = ups_right t ok.described (valid_placed n a t ok)
        (λ k m. elim (dec_le k (n * 2 - 2)) [ yes i ↦ i | no i ↦ clash m (ok.above k (omega arith)) ]) ws room h in
        subst (λ (l : List ℕ). Keeps w F ws (ups w base kids n ws l) × ((v : ℕ) → v ≤ n * 2 - 2 → RightAt w F (ups w base kids n ws l) (base + v)))
        (ap inner_of (sym q)) (k, λ v b. r v (valid_in n a t ok v (omega arith)))

-- a leaf's own set
pub leaf_set : (n : ℕ) (a : List Pair) (i j : ℕ) → i < n → eqb j i ≡ below_of (tree_at n a i) j
leaf_set n a i j h =
    eqb_sym j i ∙ sym (ap (λ (o : Option Tree). below_of o j) (placed_top n a (leaf i) (describes_placed n a (leaf i) h (omega arith))))
