-- Two searches over the same members that weigh alike find the same tree and try as many splits. Assumes nothing.
use Rattle.std.specs.Prelude.{Bool, ◌&&◌, List, [], ◌∷◌, ◌≡◌, refl, ℕ, zero, suc, ◌<◌, eqb, length, Option, None}
use Rattle.std.proofs.Math.Bool.{not, cond}
use Rattle.std.proofs.Math.Path.{ap}
use Rattle.std.proofs.Common.{ap₂, ◌∙◌, arith}
use Rattle.spec.specs.Lists.{range}
use Rattle.spec.specs.Members.{All}
use Rattle.spec.specs.Improve.{Split, splits_of, sum_subsets, Found, cheaper, joined_by, over_limit, keeps, passed, split_work, scan, cheapest_by, cheapest, split_count}
use Rattle.laws.specs.Searches.{Dealt, no_more, to_part, to_rest, Cuts, cuts_cut}
use Rattle.laws.specs.ListLaws.{below_range}

-- what the members of a list have, those of its parts have
dealt_all : (P : ℕ → Type 0) {l r s : List ℕ} → Dealt l r s → All P s → All P l × All P r
dealt_all P no_more h = (tt, tt)
dealt_all P (to_part d) h = let (a, b) = dealt_all P d h.1 in ((h.0, a), b)
dealt_all P (to_rest d) h = let (a, b) = dealt_all P d h.1 in (a, (h.0, b))

sum_all : (P : ℕ → Type 0) (f g : List ℕ → ℕ) (l : List ℕ) → All P l → ((s : List ℕ) → All P s → f s ≡ g s) → sum_subsets f l ≡ sum_subsets g l
sum_all P f g [] a h = h [] tt
sum_all P f g (x ∷ l) a h =
    omega (arith, sum_all P f g l a.1 h, sum_all P (λ s. f (x ∷ s)) (λ s. g (x ∷ s)) l a.1 (λ s b. h (x ∷ s) (a.0, b)))

module _ (m : ℕ) (has has' : ℕ → ℕ → Bool) (ext ext' : ℕ → Bool) (weigh weigh' : (ℕ → Bool) → ℕ) (limit : Option ℕ)
    (one_bits : (s : List ℕ) → All (λ p. p < m) s → weigh (keeps m has ext weigh limit s) ≡ weigh' (keeps m has' ext' weigh' limit s))
    (two_bits : (c : Split) → All (λ p. p < m) c.part → All (λ p. p < m) c.rest → split_work m has ext weigh limit c ≡ split_work m has' ext' weigh' limit c)
  where
    same_passed : (s : List ℕ) → All (λ p. p < m) s → passed m has ext weigh limit s ≡ passed m has' ext' weigh' limit s
    unfolding passed
    same_passed s a = ap (λ x. not (eqb (length s) m) && over_limit x limit) (one_bits s a)

    same_scan : (g g' : List ℕ → Option Found) → ((u : List ℕ) → All (λ p. p < m) u → g u ≡ g' u) → (s : List ℕ) → All (λ p. p < m) s
        → (o : Option Found) (cs : List Split) → All (Cuts s) cs
        → scan m has ext weigh limit g o cs ≡ scan m has' ext' weigh' limit g' o cs
    same_scan g g' h s a o [] d = refl
    same_scan g g' h s a o (c ∷ cs) d =
        let (b, e) = dealt_all (λ p. p < m) d.0 a in
        let z : cheaper o (joined_by (split_work m has ext weigh limit c) (g c.part) (g c.rest)) ≡ cheaper o (joined_by (split_work m has' ext' weigh' limit c) (g' c.part) (g' c.rest)) =
        ap (λ w. cheaper o (joined_by w (g c.part) (g c.rest))) (two_bits c b e)
        ∙ ap₂ (λ x y. cheaper o (joined_by (split_work m has' ext' weigh' limit c) x y)) (h c.part b) (h c.rest e) in
        ap (λ x. scan m has ext weigh limit g x cs) z ∙ same_scan g g' h s a (cheaper o (joined_by (split_work m has' ext' weigh' limit c) (g' c.part) (g' c.rest))) cs d.1

    same_by : (g g' : List ℕ → Option Found) → ((u : List ℕ) → All (λ p. p < m) u → g u ≡ g' u) → (s : List ℕ) → All (λ p. p < m) s
        → cheapest_by m has ext weigh limit g s ≡ cheapest_by m has' ext' weigh' limit g' s
    same_by g g' h [] a = refl
    same_by g g' h (p ∷ []) a = refl
    same_by g g' h (p ∷ q ∷ s) a =
        ap₂ (λ x y. cond x None y) (same_passed (p ∷ q ∷ s) a) (same_scan g g' h (p ∷ q ∷ s) a None (splits_of (p ∷ q ∷ s)) (cuts_cut (p ∷ q ∷ s)))

    same_cheapest : (most : ℕ) (s : List ℕ) → All (λ p. p < m) s → cheapest m has ext weigh limit most s ≡ cheapest m has' ext' weigh' limit most s
    same_cheapest zero s a = refl
    same_cheapest (suc most) s a =
        same_by (λ u. cheapest m has ext weigh limit most u) (λ u. cheapest m has' ext' weigh' limit most u) (λ u b. same_cheapest most u b) s a

    pub alike_found : cheapest m has ext weigh limit m (range m) ≡ cheapest m has' ext' weigh' limit m (range m)
    alike_found = same_cheapest m (range m) (below_range m)

    pub alike_tried : split_count m has ext weigh limit ≡ split_count m has' ext' weigh' limit
    unfolding split_count
    alike_tried =
        sum_all (λ p. p < m) (λ s. cond (passed m has ext weigh limit s) 0 (length (splits_of s))) (λ s. cond (passed m has' ext' weigh' limit s) 0 (length (splits_of s)))
        (range m) (below_range m) (λ s a. ap (λ x. cond x 0 (length (splits_of s))) (same_passed s a))
