-- The walk that writes the step order from its end: what the stack's trees are still to write, and what is written, make up the order. Assumes nothing.
use Rattle.std.specs.Prelude.{◌≡◌, refl, true, false, not, ℕ, zero, suc, ◌+◌, ◌-◌, ◌*◌, ◌≤◌, ◌<◌, get_or, set, length, Option, Some, slice_get}
use Rattle.std.proofs.Math.Path.{sym, ap}
use Rattle.std.proofs.Common.{◌∙◌, ap₂, subst, length-append, eqb-true}
use mathlib.Core.List.{List, [], ◌∷◌, ◌++◌, append_assoc, append-nil}
use native.Mathlib.Omega.{arith}
use Rattle.std.proofs.Math.Decide.{dec_le}
use Rattle.spec.specs.Lists.{memb}
use Rattle.spec.specs.Memory.{over, placed}
use Rattle.cells.specs.Cells.{placed_none, over-nil}
use Rattle.spec.specs.Tree.{Tree, leaf, node, number, numbers, inner, inner_of, Pair, tree_at, pairs_of, step_order}
use Rattle.spec.specs.Calls.{wrong_tree}
use Rattle.laws.specs.Booleans.{clash}
use Rattle.laws.specs.ListLaws.{three_left, three_right, no_members}
use Rattle.laws.specs.Walks.{valid_tree, valid_inners}
use Rattle.laws.specs.Arrays.{number_in}
use Rattle.laws.specs.FlatLaws.{pairs_length, pair_at, left_of, right_of}
use Rattle.laws.specs.Ordering.{inner_length}
use Rattle.walk.specs.Stack.{stack_of, push, pushed_both, picked, topped, Inside, inside_push, topped_none, topped-one, topped_top, topped_both, both_le, At, Trees, node_at, grown, grown_trees}
use Rattle.walk.specs.Wrong.{few, not_wrong, not_wrong_length}

-- ---- what the trees on the stack are still to write: the lowest one's nodes first ----

abbrev pub pending : List Tree → List ℕ
pending [] = []
pending (t ∷ ts) = pending ts ++ inner t

pending-grown : (t : Tree) (ts : List Tree) → pending (grown t ts) ≡ pending ts ++ inner t
pending-grown (leaf i) ts = sym (append-nil (pending ts))
pending-grown (node v l r) ts = refl

-- no number is above the root's
abbrev pub Low : ℕ → Tree → Type 0
Low top t = (k : ℕ) → memb k (numbers t) ≡ true → k ≤ top

abbrev Lows : ℕ → List Tree → Type 0
Lows top [] = Unit {0}
Lows top (t ∷ ts) = Low top t × Lows top ts

lows_grown : (top : ℕ) (t : Tree) (ts : List Tree) → Low top t → Lows top ts → Lows top (grown t ts)
lows_grown top (leaf i) ts h g = g
lows_grown top (node v l r) ts h g = (h, g)

low_number : (top : ℕ) (n : ℕ) (a : List Pair) (x : ℕ) (t : Tree) → Low top t → At n a x t → x ≤ top
low_number top n a x t h at = subst (λ (k : ℕ). k ≤ top) at.1 (h (number t) (number_in t))

-- ---- the list that is filled from its end ----

placed_before : (d s : List ℕ) (at x : ℕ) → at < length d → set (placed d (suc at) s) at x ≡ placed d at (x ∷ s)
unfolding placed over
placed_before [] s at x h = absurd (omega arith)
placed_before (y ∷ d) s zero x h = refl
placed_before (y ∷ d) s (suc at) x h = ap (λ (l : List ℕ). y ∷ l) (placed_before d s at x (omega arith))

placed_front : (d s : List ℕ) → placed d 0 s ≡ over d s
unfolding placed
placed_front d s = refl

order_none : step_order [] 0 ≡ []
unfolding step_order tree_at pairs_of
order_none = refl

order_one : step_order [] 1 ≡ []
unfolding step_order tree_at pairs_of
order_one = refl

-- ---- the loop's state ----

pub record Going (kids : List ℕ) (n : ℕ) (out₀ ws : List ℕ) (v p : ℕ) (out : List ℕ) (rest : ℕ) : Type 0 where
  pub trees : List Tree
  pub stand : Trees n (pairs_of kids) (topped 1024 v ws p) trees
  pub low : Lows (n * 2 - 2) trees
  pub inside : Inside n (n * 2 - 2) (topped 1024 v ws p)
  pub written : List ℕ
  pub whole : pending trees ++ written ≡ step_order kids n
  pub left : length (pending trees) ≡ rest
  pub filled : out ≡ placed out₀ rest written
  pub shallow : p + rest ≤ n

module _ (kids : List ℕ) (n : ℕ) (two : 2 ≤ n) (right : wrong_tree n kids ≡ false) where
  pairs : length (pairs_of kids) ≡ n - 1
  pairs = pairs_length kids ∙ omega (arith, not_wrong_length n kids two right)

  pub begins : (out₀ ws : List ℕ) → Going kids n out₀ ws (n * 2 - 2) 1 out₀ (n - 1)
  unfolding step_order
  begins out₀ ws =
      let a = pairs_of kids in
      let top = n * 2 - 2 in
      let (t, w, ok) = valid_tree n a (omega arith) (not_wrong n kids right) in
      let e : number t ≡ top = ok.rooted ∙ omega (arith, pairs) in
      let st : topped 1024 top ws 1 ≡ top ∷ [] = topped-one 1024 top ws in
      record {
        trees = t ∷ [];
        stand = rw st ((ok.described, e), tt);
        low = ((λ k m. elim (dec_le k top) [ yes i ↦ i | no i ↦ clash m (ok.above k (omega (arith, pairs))) ]), tt);
        inside = rw st (omega arith, omega arith, tt);
        written = [];
        whole = append-nil (inner t) ∙ ap inner_of (sym w);
        left = inner_length t ∙ valid_inners n a t ok ∙ pairs;
        filled = sym (placed_none out₀ (n - 1));
        shallow = omega arith;
      }

  module _ (out₀ ws : List ℕ) (v p : ℕ) (out : List ℕ) (rest : ℕ) (g : Going kids n out₀ ws v p out rest) where
    pub ends : rest ≡ 0 → out ≡ over out₀ (step_order kids n)
    ends e =
        let w : g.written ≡ step_order kids n = ap (λ (l : List ℕ). l ++ g.written) (sym (no_members (pending g.trees) (g.left ∙ e))) ∙ g.whole in
        g.filled ∙ ap₂ (λ (k : ℕ) (l : List ℕ). placed out₀ k l) e w ∙ placed_front out₀ (step_order kids n)

    pub deep : 0 < rest → 0 < p
    deep more =
        elim (dec_le p 0) [
          | yes i ↦ let e : p ≡ 0 = omega arith in
              absurd (empty g.trees (subst (λ (xs : List ℕ). Trees n (pairs_of kids) xs g.trees) (ap (topped 1024 v ws) e ∙ topped_none 1024 v ws) g.stand) (omega (arith, g.left)))
          | no i ↦ omega arith
        ]
      where
        empty : (ts : List Tree) → Trees n (pairs_of kids) [] ts → 0 < length (pending ts) → ⊥
        empty [] h l = omega arith
        empty (t ∷ ts) h l = h

    above : 0 < rest → Inside n (n * 2 - 2) (v ∷ stack_of 1024 ws (p - 1))
    above more = subst (Inside n (n * 2 - 2)) (topped_top 1024 v ws p (deep more)) g.inside

    -- the node on top
    pub internal : 0 < rest → (n ≤ v) × (v ≤ n * 2 - 2)
    internal more = let a = above more in (a.0, a.1)

    module _ (more : 0 < rest) (long : 2048 ≤ length ws) (small : n ≤ 512) (room : n - 1 ≤ length out₀) (x y : ℕ)
        (ex : x ≡ left_of kids n v) (ey : y ≡ right_of kids n v) (ws₂ : List ℕ) (v₂ p₂ : ℕ) (out₂ : List ℕ)
        (e₁ : (v₂ ≡ picked n y (picked n x (get_or ws (1023 + (p - 1)) 0))) × (p₂ ≡ pushed_both n (p - 1) x y) × (ws₂ ≡ set ws (1024 + (p - 1)) x))
        (e₃ : out₂ ≡ set out (rest - 1) v) where
      here : slice_get (pairs_of kids) (v - n) ≡ Some (record { left = x; right = y })
      here =
          let i = internal more in
          pair_at kids (v - n) (omega (arith, pairs, i.0, i.1)) ∙ ap₂ (λ (i j : ℕ). Some (record { left = i; right = j })) (sym ex) (sym ey)

      stack : topped 1024 v₂ ws₂ p₂ ≡ push n y (push n x (stack_of 1024 ws (p - 1)))
      stack =
          let pos : 0 < p = deep more in
          let deepest : p + rest ≤ n = g.shallow in
          (λ i. topped 1024 (e₁.0 i) (e₁.2 i) (e₁.1 i))
          ∙ topped_both 1024 n ws (p - 1) x y (get_or ws (1023 + (p - 1)) 0) (omega arith)
          (λ h. ap (λ (k : ℕ). get_or ws k 0) (let r : 1023 + (p - 1) ≡ 1024 + (p - 1 - 1) = omega arith in r))

      made : (l r : Tree) (ts : List Tree) → At n (pairs_of kids) x l → At n (pairs_of kids) y r → Trees n (pairs_of kids) (stack_of 1024 ws (p - 1)) ts
          → Low (n * 2 - 2) (node v l r) → Lows (n * 2 - 2) ts → pending (node v l r ∷ ts) ++ g.written ≡ step_order kids n
          → length (pending (node v l r ∷ ts)) ≡ rest → Going kids n out₀ ws₂ v₂ p₂ out₂ (rest - 1)
      made l r ts al ar h low lows w q =
          let pos : 0 < p = deep more in
          let deepest : p + rest ≤ n = g.shallow in
          let low_l : Low (n * 2 - 2) l = λ k m. low k (three_left k v (numbers l) (numbers r) m) in
          let low_r : Low (n * 2 - 2) r = λ k m. low k (three_right k v (numbers l) (numbers r) m) in
          let both : pending (grown r (grown l ts)) ≡ (pending ts ++ inner l) ++ inner r
          = pending-grown r (grown l ts) ∙ ap (λ (z : List ℕ). z ++ inner r) (pending-grown l ts) in
          let last : rest ≡ suc (rest - 1) = omega arith in
          record {
            trees = grown r (grown l ts);
            stand = rw stack (grown_trees n (pairs_of kids) y _ r (grown l ts) ar (grown_trees n (pairs_of kids) x _ l ts al h));
            low = lows_grown (n * 2 - 2) r (grown l ts) low_r (lows_grown (n * 2 - 2) l ts low_l lows);
            inside = rw stack (inside_push n (n * 2 - 2) y _ (low_number (n * 2 - 2) n (pairs_of kids) y r low_r ar)
                (inside_push n (n * 2 - 2) x _ (low_number (n * 2 - 2) n (pairs_of kids) x l low_l al) (above more).2));
            written = v ∷ g.written;
            whole = ap (λ (z : List ℕ). z ++ (v ∷ g.written)) both ∙ simp append_assoc (simp append_assoc at w);
            left = ap length both ∙ omega (
              arith,
              q,
              length-append (pending ts ++ inner l) (inner r),
              length-append (pending ts) (inner l),
              length-append (pending ts) (inner l ++ (inner r ++ (v ∷ []))),
              length-append (inner l) (inner r ++ (v ∷ [])),
              length-append (inner r) (v ∷ []),
            );
            filled = e₃ ∙ ap (λ (z : List ℕ). set z (rest - 1) v) g.filled ∙ ap (λ (k : ℕ). set (placed out₀ k g.written) (rest - 1) v) last
                ∙ placed_before out₀ g.written (rest - 1) v (omega arith);
            shallow = omega (arith, e₁.1, both_le n (p - 1) x y);
          }

      -- one turn, for the words, the top and the places that the code comes to
      pub goes_on : Going kids n out₀ ws₂ v₂ p₂ out₂ (rest - 1)
      goes_on =
          go g.trees (subst (λ (xs : List ℕ). Trees n (pairs_of kids) xs g.trees) (topped_top 1024 v ws p (deep more)) g.stand) g.low
          g.whole g.left
        where
          go : (ts : List Tree) → Trees n (pairs_of kids) (v ∷ stack_of 1024 ws (p - 1)) ts → Lows (n * 2 - 2) ts
              → pending ts ++ g.written ≡ step_order kids n → length (pending ts) ≡ rest → Going kids n out₀ ws₂ v₂ p₂ out₂ (rest - 1)
          go [] h l w q = absurd h
          go (t ∷ ts) h l w q =
              let (s, r, e, al, ar) = node_at n (pairs_of kids) v x y t (above more).0 here h.0 in
              made s r ts al ar h.1 (subst (Low (n * 2 - 2)) e l.0) l.1
              (sym (ap (λ (z : Tree). pending (z ∷ ts) ++ g.written) e) ∙ w) (sym (ap (λ (z : Tree). length (pending (z ∷ ts))) e) ∙ q)

-- at most one leaf: nothing to write
few_none : (kids : List ℕ) (n : ℕ) → n < 2 → wrong_tree n kids ≡ false → step_order kids n ≡ []
few_none kids n h e =
    let z : kids ≡ [] = no_members kids (eqb-true (length kids) 0 (few n kids h ∙ ap not e)) in
    ap (λ (l : List ℕ). step_order l n) z ∙ none n h
  where
    none : (n : ℕ) → n < 2 → step_order [] n ≡ []
    none zero h = order_none
    none (suc zero) h = order_one
    none (suc (suc n)) h = absurd (omega arith)

pub few_order : (kids : List ℕ) (n : ℕ) (out : List ℕ) → n < 2 → wrong_tree n kids ≡ false → out ≡ over out (step_order kids n)
few_order kids n out h e = sym (ap (over out) (few_none kids n h e) ∙ over-nil out)

-- as many steps as internal nodes
pub order_length : (kids : List ℕ) (n : ℕ) → wrong_tree n kids ≡ false → length (step_order kids n) ≡ n - 1
unfolding step_order
order_length kids n e =
    elim (dec_le 2 n) [
      | yes h ↦
          let (t, w, ok) = valid_tree n (pairs_of kids) (omega arith) (not_wrong n kids e) in
          ap (λ (o : Option Tree). length (inner_of o)) w ∙ inner_length t ∙ valid_inners n (pairs_of kids) t ok ∙ omega (arith, ok.inner)
      | no h ↦
          let z : step_order kids n ≡ [] = few_none kids n (omega arith) e in
          ap length z ∙ omega arith
    ]
