-- The stack of internal nodes in lent words, from place s on, and the trees that its numbers stand for. Assumes nothing.
use Rattle.std.specs.Prelude.{◌≡◌, cond, ltb, length, Some, slice_get}
use Rattle.std.proofs.Math.Path.{refl, sym, ap, ap₂}
use Rattle.std.proofs.Common.{◌∙◌, get_or-set_same, ltb-false, lt-ltb, le-ltb}
use mathlib.Core.List.{List, [], ◌∷◌}
use Rattle.std.proofs.lemmas.Option.{same_Some}
use Prim.Native.Nat.{ℕ, zero, suc, ◌+◌, ◌-◌, ◌≤◌, ◌<◌}
use native.Mathlib.Omega.{arith}
use Rattle.std.proofs.Math.Numerals.{add-one}
use Rattle.std.proofs.Math.ListN.{get_or, set}
use Rattle.std.proofs.Math.Seq.{get_or-set_other}
use Rattle.spec.specs.Tree.{Tree, leaf, node, number, Pair, Describes}
use Rattle.laws.specs.Booleans.{by_cases}

-- ---- numbers ----

-- the numbers on the stack, the top first
unfoldable pub stack_of : ℕ → List ℕ → ℕ → List ℕ
stack_of s ws zero = []
stack_of s ws (suc p) = get_or ws (s + p) 0 ∷ stack_of s ws p

-- an internal node goes on the stack, a leaf does not
abbrev pub push : ℕ → ℕ → List ℕ → List ℕ
push n x xs = cond (ltb x n) xs (x ∷ xs)

-- the places of the stack then
abbrev pub pushed : ℕ → ℕ → ℕ → ℕ
pushed n p x = cond (ltb x n) p (p + 1)

-- the places after both children of a node
unfoldable pub pushed_both : ℕ → ℕ → ℕ → ℕ → ℕ
pushed_both n p x y = pushed n (pushed n p x) y

-- an internal node's number, or the other one
abbrev pub picked : ℕ → ℕ → ℕ → ℕ
picked n x other = cond (ltb x n) other x

-- the stack of p places whose top is v: the words hold what is under it
unfoldable pub topped : ℕ → ℕ → List ℕ → ℕ → List ℕ
topped s v ws zero = []
topped s v ws (suc p) = v ∷ stack_of s ws p

-- each number is an internal node's, and none is above the root's
abbrev pub Inside : ℕ → ℕ → List ℕ → Type 0
Inside n root [] = Unit {0}
Inside n root (x ∷ xs) = (n ≤ x) × (x ≤ root) × Inside n root xs

pub inside_push : (n root x : ℕ) (xs : List ℕ) → x ≤ root → Inside n root xs → Inside n root (push n x xs)
inside_push n root x xs h i =
    by_cases (ltb x n) (λ e. rw e i) (λ e. rw e (ltb-false x n e, h, i))

pub pushed-le : (n p x : ℕ) → pushed n p x ≤ p + 1
pushed-le n p x = by_cases (ltb x n) (λ e. rw e (omega arith)) (λ e. rw e (omega arith))

module _ (s : ℕ) where
  pub topped_none : (v : ℕ) (ws : List ℕ) → topped s v ws 0 ≡ []
  unfolding topped
  topped_none v ws = refl

  pub topped-one : (v : ℕ) (ws : List ℕ) → topped s v ws 1 ≡ v ∷ []
  unfolding topped stack_of
  topped-one v ws = refl

  -- the top, and what is under it
  pub topped_top : (v : ℕ) (ws : List ℕ) (p : ℕ) → 0 < p → topped s v ws p ≡ v ∷ stack_of s ws (p - 1)
  unfolding topped
  topped_top v ws zero h = absurd (omega arith)
  topped_top v ws (suc p) h = rw (let e : suc p - 1 ≡ p = omega arith in e)

  -- words that agree hold the same stack
  pub stack_agree : (ws ws' : List ℕ) (p : ℕ) → ((k : ℕ) → s ≤ k → k < s + p → get_or ws' k 0 ≡ get_or ws k 0) → stack_of s ws' p ≡ stack_of s ws p
  unfolding stack_of
  stack_agree ws ws' zero f = refl
  stack_agree ws ws' (suc p) f =
      ap₂ (λ (x : ℕ) (xs : List ℕ). x ∷ xs) (f (s + p) (omega arith) (omega arith)) (stack_agree ws ws' p (λ k a b. f k a (omega arith)))

  stack_more : (ws : List ℕ) (p x : ℕ) → s + p < length ws → stack_of s (set ws (s + p) x) (p + 1) ≡ x ∷ stack_of s ws p
  unfolding stack_of
  stack_more ws p x h =
      rw add-one
      (ap₂ (λ (y : ℕ) (ys : List ℕ). y ∷ ys) (get_or-set_same ws (s + p) x 0 h)
      (stack_agree ws (set ws (s + p) x) p (λ j c d. get_or-set_other ws (s + p) j x 0 (λ e. omega arith))))

  pub stack_push : (n : ℕ) (ws : List ℕ) (p x : ℕ) → s + p < length ws → stack_of s (set ws (s + p) x) (pushed n p x) ≡ push n x (stack_of s ws p)
  stack_push n ws p x h =
      by_cases (ltb x n)
      (λ e. rw e (stack_agree ws (set ws (s + p) x) p (λ j c d. get_or-set_other ws (s + p) j x 0 (λ q. omega arith))))
      (λ e. rw e (stack_more ws p x h))

  topped_more : (v : ℕ) (ws : List ℕ) (p : ℕ) → topped s v ws (p + 1) ≡ v ∷ stack_of s ws p
  unfolding topped
  topped_more v ws p = ap (topped s v ws) (add-one p)

  -- the number under the top comes to the top
  topped_under : (u : ℕ) (ws : List ℕ) (p : ℕ) → (0 < p → u ≡ get_or ws (s + (p - 1)) 0) → topped s u ws p ≡ stack_of s ws p
  unfolding topped stack_of
  topped_under u ws zero h = refl
  topped_under u ws (suc p) h = ap (λ (x : ℕ). x ∷ stack_of s ws p) (h (omega arith) ∙ ap (λ (k : ℕ). get_or ws (s + k) 0) (let e : suc p - 1 ≡ p = omega arith in e))

  -- both children x and y of the node that was on top of p places, of which u was the next
  pub topped_both : (n : ℕ) (ws : List ℕ) (p x y u : ℕ) → s + p < length ws → (0 < p → u ≡ get_or ws (s + (p - 1)) 0)
      → topped s (picked n y (picked n x u)) (set ws (s + p) x) (pushed_both n p x y) ≡ push n y (push n x (stack_of s ws p))
  unfolding pushed_both
  topped_both n ws p x y u h e =
      let ws' = set ws (s + p) x in
      let same : stack_of s ws' p ≡ stack_of s ws p = stack_agree ws ws' p (λ j c d. get_or-set_other ws (s + p) j x 0 (λ q. omega arith)) in
      by_cases (ltb y n)
      (λ b. by_cases (ltb x n)
      (λ a. rw (b, a) (topped_under u ws' p (λ q. e q ∙ sym (get_or-set_other ws (s + p) (s + (p - 1)) x 0 (λ z. omega arith))) ∙ same))
      (λ a. rw (b, a) (topped_more x ws' p ∙ ap (λ (l : List ℕ). x ∷ l) same)))
      (λ b. rw b (topped_more y ws' (pushed n p x) ∙ ap (λ (l : List ℕ). y ∷ l) (stack_push n ws p x h)))

pub both_le : (n p x y : ℕ) → pushed_both n p x y ≤ p + 2
unfolding pushed_both
both_le n p x y = omega (arith, pushed-le n (pushed n p x) y, pushed-le n p x)

-- ---- trees ----

-- t is the tree at number x
abbrev pub At : ℕ → List Pair → ℕ → Tree → Type 0
At n a x t = Describes n a t × (number t ≡ x)

-- the trees at some numbers
abbrev pub Trees : ℕ → List Pair → List ℕ → List Tree → Type 0
Trees n a [] [] = Unit {0}
Trees n a [] (t ∷ ts) = ⊥
Trees n a (x ∷ xs) [] = ⊥
Trees n a (x ∷ xs) (t ∷ ts) = At n a x t × Trees n a xs ts

-- at an internal node's number stands a node, with the children that the array names
pub node_at : (n : ℕ) (a : List Pair) (x y z : ℕ) (t : Tree) → n ≤ x → slice_get a (x - n) ≡ Some (record { left = y; right = z }) → At n a x t
    → (l r : Tree) × (t ≡ node x l r) × At n a y l × At n a z r
node_at n a x y z (leaf i) h e d = absurd (omega (arith, d.0, d.1))
node_at n a x y z (node v l r) h e d =
    let here : Pair = record { left = number l; right = number r } in
    let there : Pair = record { left = y; right = z } in
    let p : here ≡ there = same_Some here there (sym d.0.1 ∙ ap (λ (k : ℕ). slice_get a (k - n)) d.1 ∙ e) in
    (l, r, ap (λ (k : ℕ). node k l r) d.1, (d.0.2, ap (λ (m : Pair). m.left) p), (d.0.3, ap (λ (m : Pair). m.right) p))

-- a node's tree goes on the stack, a leaf does not
abbrev pub grown : Tree → List Tree → List Tree
grown (leaf i) ts = ts
grown (node v l r) ts = node v l r ∷ ts

pub grown_trees : (n : ℕ) (a : List Pair) (x : ℕ) (xs : List ℕ) (t : Tree) (ts : List Tree) → At n a x t → Trees n a xs ts
    → Trees n a (push n x xs) (grown t ts)
grown_trees n a x xs (leaf i) ts h g = rw (lt-ltb x n (omega (arith, h.0, h.1))) g
grown_trees n a x xs (node v l r) ts h g = rw (le-ltb x n (omega (arith, h.0.0, h.1))) (h, g)
