-- Step order, place by place: the children of a step's node are leaves or made at an earlier place, and the node is the root or a child
-- at a later place. Assumes nothing.
use Rattle.std.specs.Prelude.{◌≡◌, refl, true, List, [], ◌∷◌, ◌++◌, ◌⊎◌, ℕ, zero, suc, ◌-◌, ◌<◌, eqb, length, get_or, take, drop}
use Rattle.std.proofs.Common.{sym, ◌∙◌, ap, append_assoc, append-nil, inl, inr, arith, eqb-true}
use Rattle.std.proofs.lemmas.Option.{same_Some}
use Rattle.spec.specs.Lists.{memb}
use Rattle.spec.specs.Tree.{Tree, leaf, node, number, numbers, inner, Pair, Describes}
use Rattle.laws.specs.Booleans.{or_introl, or_intror, or_cases, clash}
use Rattle.laws.specs.ListLaws.{memb-append, memb_head, three_cases, three_left, three_right, three_last}
use Rattle.laws.specs.Arrays.{number_in}
use Rattle.laws.specs.FlatLaws.{pair_at}
use Rattle.laws.specs.MemberLaws.{got_within}
use Rattle.nodesets.specs.FlatTree.{flat_tree}

module _ (n : ℕ) (kids : List ℕ) where
  open flat_tree n kids use {a, L, R}

  pair_is : (v : ℕ) (l r : Tree) → Describes n a (node v l r) → ◌≡◌ {A = Pair} (record { left = L v; right = R v }) (record { left = number l; right = number r })
  pair_is v l r d = same_Some _ _ (sym (pair_at kids (v - n) (got_within a (v - n) _ d.1)) ∙ d.1)

  pub left_is : (v : ℕ) (l r : Tree) → Describes n a (node v l r) → L v ≡ number l
  left_is v l r d = ap (λ (p : Pair). p.left) (pair_is v l r d)

  pub right_is : (v : ℕ) (l r : Tree) → Describes n a (node v l r) → R v ≡ number r
  right_is v l r d = ap (λ (p : Pair). p.right) (pair_is v l r d)

  -- ---- children before their node ----

  -- u is a leaf, or one of these nodes
  abbrev pub Ready : List ℕ → ℕ → Type 0
  Ready pre u = (u < n) ⊎ (memb u pre ≡ true)

  abbrev First : List ℕ → List ℕ → Type 0
  First pre [] = Unit {0}
  First pre (v ∷ vs) = Ready pre (L v) × Ready pre (R v) × First (pre ++ (v ∷ [])) vs

  ready_left : (xs ys : List ℕ) (u : ℕ) → Ready xs u → Ready (xs ++ ys) u
  ready_left xs ys u (inl h) = inl h
  ready_left xs ys u (inr h) = inr (memb-append u xs ys ∙ or_introl (memb u xs) (memb u ys) h)

  ready_right : (xs ys : List ℕ) (u : ℕ) → Ready ys u → Ready (xs ++ ys) u
  ready_right xs ys u (inl h) = inl h
  ready_right xs ys u (inr h) = inr (memb-append u xs ys ∙ or_intror (memb u xs) (memb u ys) h)

  top_ready : (t : Tree) → Describes n a t → Ready (inner t) (number t)
  top_ready (leaf i) d = inl d
  top_ready (node v l r) d = inr (three_last v (inner l) (inner r))

  first_tree : (t : Tree) (pre post : List ℕ) → Describes n a t → First (pre ++ inner t) post → First pre (inner t ++ post)
  first_tree (leaf i) pre post d f = rw (append-nil pre) at f
  first_tree (node v l r) pre post d f =
      let here : First ((pre ++ inner l) ++ inner r) (v ∷ post) = (
        rw (left_is v l r d) (ready_left (pre ++ inner l) (inner r) (number l) (ready_right pre (inner l) (number l) (top_ready l d.2))),
        rw (right_is v l r d) (ready_right (pre ++ inner l) (inner r) (number r) (top_ready r d.3)),
        rw (append_assoc (pre ++ inner l) (inner r) (v ∷ []), append_assoc pre (inner l) (inner r ++ (v ∷ []))) f,
      ) in
      rw (append_assoc (inner l) (inner r ++ (v ∷ [])) post, append_assoc (inner r) (v ∷ []) post)
      (first_tree l pre (inner r ++ (v ∷ post)) d.2 (first_tree r (pre ++ inner l) (v ∷ post) d.3 here))

  first_at : (pre xs : List ℕ) (k : ℕ) → First pre xs → k < length xs
      → Ready (pre ++ take k xs) (L (get_or xs k 0)) × Ready (pre ++ take k xs) (R (get_or xs k 0))
  first_at pre [] k f h = absurd (omega arith)
  first_at pre (x ∷ xs) zero f h = rw (append-nil pre) (f.0, f.1)
  first_at pre (x ∷ xs) (suc k) f h =
      rw (← append_assoc pre (x ∷ []) (take k xs)) (first_at (pre ++ (x ∷ [])) xs k f.2 (omega arith))

  pub children_before : (t : Tree) → Describes n a t → (k : ℕ) → k < length (inner t)
      → Ready (take k (inner t)) (L (get_or (inner t) k 0)) × Ready (take k (inner t)) (R (get_or (inner t) k 0))
  children_before t d k h = first_at [] (inner t) k (rw (append-nil (inner t)) at (first_tree t [] [] d tt)) h

  -- ---- a node before its parent ----

  -- the children of several nodes
  abbrev pub children_of : List ℕ → List ℕ
  children_of [] = []
  children_of (v ∷ vs) = L v ∷ R v ∷ children_of vs

  children_append : (xs ys : List ℕ) → children_of (xs ++ ys) ≡ children_of xs ++ children_of ys
  children_append [] ys = refl
  children_append (x ∷ xs) ys = ap (λ (l : List ℕ). L x ∷ R x ∷ l) (children_append xs ys)

  module _ (top : ℕ) where
    -- u is the top, or a child of one of these nodes
    abbrev pub Known : List ℕ → ℕ → Type 0
    Known post u = (u ≡ top) ⊎ (memb u (children_of post) ≡ true)

    abbrev Later : List ℕ → Type 0
    Later [] = Unit {0}
    Later (v ∷ vs) = Known vs v × Later vs

    known_right : (xs ys : List ℕ) (u : ℕ) → Known ys u → Known (xs ++ ys) u
    known_right xs ys u (inl h) = inl h
    known_right xs ys u (inr h) =
        inr (rw (children_append xs ys) (memb-append u (children_of xs) (children_of ys) ∙ or_intror (memb u (children_of xs)) _ h))

    known_left_child : (vs : List ℕ) (v l : ℕ) → L v ≡ l → Known (v ∷ vs) l
    known_left_child vs v l e = inr (rw e (memb_head l (R v ∷ children_of vs)))

    known_right_child : (vs : List ℕ) (v r : ℕ) → R v ≡ r → Known (v ∷ vs) r
    known_right_child vs v r e = inr (rw e (or_intror (eqb r (L v)) _ (memb_head r (children_of vs))))

    later_tree : (t : Tree) (post : List ℕ) → Describes n a t → Known post (number t) → Later post → Later (inner t ++ post)
    later_tree (leaf i) post d k f = f
    later_tree (node v l r) post d k f =
        rw (append_assoc (inner l) (inner r ++ (v ∷ [])) post, append_assoc (inner r) (v ∷ []) post)
        (later_tree l (inner r ++ (v ∷ post)) d.2
        (known_right (inner r) (v ∷ post) (number l) (known_left_child post v (number l) (left_is v l r d)))
        (later_tree r (v ∷ post) d.3 (known_right_child post v (number r) (right_is v l r d)) (k, f)))

    later_at : (xs : List ℕ) (k : ℕ) → Later xs → k < length xs → Known (drop (suc k) xs) (get_or xs k 0)
    later_at [] k f h = absurd (omega arith)
    later_at (x ∷ xs) zero f h = f.0
    later_at (x ∷ xs) (suc k) f h = later_at xs k f.1 (omega arith)

    later_in : (xs : List ℕ) (v : ℕ) → Later xs → memb v xs ≡ true → Known xs v
    later_in [] v f h = clash h refl
    later_in (x ∷ xs) v f h =
        or_cases (eqb v x) (memb v xs) h
        (λ e. known_right (x ∷ []) xs v (rw (eqb-true v x e) f.0))
        (λ e. known_right (x ∷ []) xs v (later_in xs v f.1 e))

  later_all : (t : Tree) → Describes n a t → Later (number t) (inner t)
  later_all t d = rw (append-nil (inner t)) at (later_tree (number t) t [] d (inl refl) tt)

  pub parent_in : (t : Tree) → Describes n a t → (v : ℕ) → memb v (inner t) ≡ true → Known (number t) (inner t) v
  parent_in t d v h = later_in (number t) (inner t) v (later_all t d) h

  pub parent_after : (t : Tree) → Describes n a t → (k : ℕ) → k < length (inner t)
      → Known (number t) (drop (suc k) (inner t)) (get_or (inner t) k 0)
  parent_after t d k h = later_at (number t) (inner t) k (later_all t d) h

  -- the children of the tree's nodes are the tree's
  pub children_in : (t : Tree) → Describes n a t → (v : ℕ) → memb v (inner t) ≡ true
      → (memb (L v) (numbers t) ≡ true) × (memb (R v) (numbers t) ≡ true)
  children_in (leaf i) d v h = clash h refl
  children_in (node w l r) d v h =
      let nl = numbers l in
      let nr = numbers r in
      three_cases v w (inner l) (inner r) h
      (λ e. let c = children_in l d.2 v e in (three_left (L v) w nl nr c.0, three_left (R v) w nl nr c.1))
      (λ e. let c = children_in r d.3 v e in (three_right (L v) w nl nr c.0, three_right (R v) w nl nr c.1))
      (λ e. (
        rw (e, left_is w l r d) (three_left (number l) w nl nr (number_in l)),
        rw (e, right_is w l r d) (three_right (number r) w nl nr (number_in r)),
      ))
