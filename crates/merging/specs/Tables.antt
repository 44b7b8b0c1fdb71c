-- What live tables in slots say: sharing, sizes, and in how many an index is. Assumes nothing.
use Rattle.std.specs.Prelude.{Bool, true, false, ◌&&◌, cond, ◌≡◌, refl, List, [], ◌∷◌, ℕ, zero, suc, ◌+◌, ◌*◌, ◌≤◌, ◌<◌, eqb, leb, length, get_or, take}
use Rattle.std.proofs.Common.{sym, ◌∙◌, ap, ap₂, take-suc, take_all, le-leb}
use native.Mathlib.Omega.{arith}
use Rattle.spec.specs.Lists.{memb, keep, range, anyb, sum_of}
use Rattle.spec.specs.Network.{Network, index_count, weight, InRange}
use Rattle.spec.specs.Tree.{Tree, leaf, node}
use Rattle.spec.specs.Price.{kept, lists, bits}
use Rattle.spec.specs.Greedy.{share, trees}
use Rattle.laws.specs.Booleans.{by_cases, bool_ext, and_left, and_right, and_both, or_introl, or_intror, eqb_self}
use Rattle.laws.specs.ListLaws.{memb-keep, memb-range, from_memb, any_intro, any_elim, any_member, keep_ext, sum_append}
use Rattle.laws.specs.Naming.{legs_in}
use Rattle.slots.specs.Slots.{held}
use Rattle.slots.specs.Weigh.{open_weight, weighed, weighed_past}
use Rattle.live.specs.Common.{shares}
use Rattle.live.specs.Holders.{holders}
use Rattle.merging.specs.Listed.{listed}

-- a slot holds the indices that a tree lists
abbrev pub HoldsList : Network → List ℕ → ℕ → ℕ → Tree → Type 0
HoldsList N ws W u t = (j : ℕ) → j < W * 64 → held ws W u j ≡ memb j (lists N t)

-- what a tree lists is in range
pub listed_in_range : (N : Network) → InRange N → (t : Tree) (j : ℕ) → memb j (lists N t) ≡ true → j < index_count N
listed_in_range N r (leaf i) j m = r i j (legs_in N i j m) m
listed_in_range N r (node v l u) j m =
    omega (arith, from_memb j 0 (index_count N) (and_right (kept N (node v l u) j) _ (sym (memb-keep j (kept N (node v l u)) (range (index_count N))) ∙ m)))

module _ (N : Network) (r : InRange N) (ws : List ℕ) (W : ℕ) (fits : index_count N ≤ W * 64) where
  pub share_is : (u v : ℕ) (t s : Tree) → HoldsList N ws W u t → HoldsList N ws W v s → shares ws W u v ≡ share N t s
  unfolding shares
  share_is u v t s hu hv =
      bool_ext (shares ws W u v) (share N t s)
      (λ e. any_elim (λ j. held ws W u j && held ws W v j) 0 (W * 64) e λ j b c.
      let b₁ : j < W * 64 = omega arith in
      any_intro (λ j. memb j (lists N s)) j (lists N t) (sym (hv j b₁) ∙ and_right (held ws W u j) (held ws W v j) c) (sym (hu j b₁) ∙ and_left (held ws W u j) (held ws W v j) c))
      (λ e. any_member (λ j. memb j (lists N s)) (lists N t) e λ j m p.
      let b : j < W * 64 = omega (arith, listed_in_range N r t j m) in
      any_intro (λ j. held ws W u j && held ws W v j) j (range (W * 64)) (and_both (held ws W u j) (held ws W v j) (hu j b ∙ m) (hv j b ∙ p)) (memb-range j (W * 64) b))

-- ---- sizes ----

bits_sum : (N : Network) (l : List ℕ) → sum_of (open_weight N.weights []) l ≡ bits N (λ j. false) l
bits_sum N [] = refl
bits_sum N (j ∷ l) = ap (λ (x : ℕ). weight N j + x) (bits_sum N l)

-- the weighed indices of a set are the size bits of the list of the indices in range that a test passes
pub weighed-bits : (N : Network) (p q : ℕ → Bool) (n : ℕ) → index_count N ≤ n → ((j : ℕ) → j < index_count N → p j ≡ q j)
    → weighed N.weights [] p n ≡ bits N (λ j. false) (keep q (range (index_count N)))
unfolding weighed
weighed-bits N p q n h f =
    weighed_past N.weights [] p n h
    ∙ ap (sum_of (open_weight N.weights [])) (keep_ext p q (index_count N) f)
    ∙ bits_sum N (keep q (range (index_count N)))

-- ---- in how many ----

pub sum_any : {A : Type 0} (p : A → Bool) (l : List A) → anyb p l ≡ leb 1 (sum_of (λ x. cond (p x) 1 0) l)
sum_any p [] = refl
sum_any p (x ∷ l) =
    by_cases (p x)
    (λ e. rw e (sym (le-leb 1 (1 + sum_of (λ x. cond (p x) 1 0) l) (omega arith))))
    (λ e. rw e (sum_any p l ∙ ap (leb 1) (let z : sum_of (λ x. cond (p x) 1 0) l ≡ 0 + sum_of (λ x. cond (p x) 1 0) l = omega arith in z)))

holders-take : (ws : List ℕ) (W : ℕ) (L : List ℕ) (j n : ℕ) → n ≤ length L → holders ws W L n j ≡ sum_of (λ u. cond (held ws W u j) 1 0) (take n L)
unfolding holders
holders-take ws W L j zero h = refl
holders-take ws W L j (suc n) h =
    ap (λ (x : ℕ). x + cond (held ws W (get_or L n 0) j) 1 0) (holders-take ws W L j n (omega arith))
    ∙ omega (arith, sum_append (λ u. cond (held ws W u j) 1 0) (take n L) (get_or L n 0 ∷ []), ap (sum_of (λ u. cond (held ws W u j) 1 0)) (take-suc L n 0 h))

sum_trees : (N : Network) (ws : List ℕ) (W : ℕ) (tree : ℕ → Tree) (j : ℕ) (L : List ℕ) → ((u : ℕ) → memb u L ≡ true → held ws W u j ≡ memb j (lists N (tree u)))
    → sum_of (λ u. cond (held ws W u j) 1 0) L ≡ sum_of (λ t. cond (memb j (lists N t)) 1 0) (trees (listed tree L))
sum_trees N ws W tree j [] h = refl
sum_trees N ws W tree j (u ∷ L) h =
    ap₂ (λ (b : Bool) (x : ℕ). cond b 1 0 + x) (h u (or_introl (eqb u u) (memb u L) (eqb_self u)))
    (sum_trees N ws W tree j L (λ v m. h v (or_intror (eqb v u) (memb v L) m)))

-- as many slots hold an index as live tables list it
pub holders_count : (N : Network) (ws : List ℕ) (W : ℕ) (tree : ℕ → Tree) (j : ℕ) (L : List ℕ) → ((u : ℕ) → memb u L ≡ true → held ws W u j ≡ memb j (lists N (tree u)))
    → holders ws W L (length L) j ≡ sum_of (λ t. cond (memb j (lists N t)) 1 0) (trees (listed tree L))
holders_count N ws W tree j L h =
    holders-take ws W L j (length L) (omega arith)
    ∙ ap (sum_of (λ u. cond (held ws W u j) 1 0)) (take_all (length L) L (omega arith))
    ∙ sum_trees N ws W tree j L h
