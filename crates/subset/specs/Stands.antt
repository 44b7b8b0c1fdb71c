-- Tables and masks stand for the answers of the search: the walk over one mask's splits gives what `cheapest_by` gives for its members.
-- Assumes nothing.
use Rattle.std.specs.Prelude.{Bool, false, ◌≡◌, refl, ℕ, ◌+◌, ◌-◌, ◌^◌, ◌≤◌, ◌<◌, ltb, drop, Option, None, Some}
use mathlib.Core.List.{List, [], ◌∷◌, map}
use Rattle.std.proofs.Common.{sym, ap₂, ◌∙◌, arith, ltb-true, ltb-false}
use Rattle.std.proofs.Math.Path.{ap, subst}
use Rattle.std.specs.Int.Bits.{bit_and}
use Rattle.spec.specs.Improve.{Region, join, Found, with_low, splits_of, cheaper, joined_by, split_work, passed, scan, cheapest_by}
use Rattle.laws.specs.Booleans.{by_cases}
use Rattle.laws.specs.Masks.{places_from, submasks, cut_of, Below, Under, Down, Lowest, lowest, submasks_below, submasks_down, submasks_first, submasks_parts, down_under}
use Rattle.subset.specs.Walk.{infinite, considered, scan_masks, cheapest_of}
use Rattle.subset.specs.Considers.{new_cost, stays, gains}
use Rattle.subset.specs.declared.Choice.{Choice}

-- the table's entry at the mask l stands for an answer of the search
abbrev pub Stands : (ℕ → ℕ) → (ℕ → Region) → ℕ → Option Found → Type 0
Stands best tree l None = infinite ≤ best l
Stands best tree l (Some f) = (best l ≡ f.cost) × (f.cost < infinite) × (f.tree ≡ tree l)

-- the choice so far, over the mask s, stands for an answer
abbrev pub Chosen : (ℕ → Region) → ℕ → Option Found → Choice → Type 0
Chosen tree s None c = c.cost ≡ infinite
Chosen tree s (Some f) c =
    (c.cost ≡ f.cost) × (f.cost < infinite) × (1 ≤ c.part) × (c.part < s) × (f.tree ≡ join (tree c.part) (tree (s - c.part)))

chosen_most : (tree : ℕ → Region) (s : ℕ) (o : Option Found) (c : Choice) → Chosen tree s o c → c.cost ≤ infinite
chosen_most tree s None c h = omega arith
chosen_most tree s (Some f) c h = omega (arith, h.0, h.1)

module _ (best : ℕ → ℕ) (tree : ℕ → Region) (work : ℕ → ℕ → ℕ) (low rest s : ℕ) (whole : s ≡ rest + low) (some_low : 1 ≤ low) where
  remains : (sub : ℕ) (o : Option Found) (c : Choice) → c.cost ≤ new_cost best work low rest sub c → Chosen tree s o c
      → Chosen tree s o (considered best work low rest sub c)
  remains sub o c h k = subst (λ x. Chosen tree s o x) (stays best work low rest sub c h) k

  -- one split
  split_stands : (sub : ℕ) (o x y : Option Found) (c : Choice) (w : ℕ) → sub < rest → w ≡ work (sub + low) (rest - sub)
      → Stands best tree (sub + low) x → Stands best tree (rest - sub) y → Chosen tree s o c
      → Chosen tree s (cheaper o (joined_by w x y)) (considered best work low rest sub c)
  split_stands sub o None y c w b q hx hy h = remains sub o c (omega (arith, chosen_most tree s o c h)) h
  split_stands sub o (Some f) None c w b q hx hy h = remains sub o c (omega (arith, chosen_most tree s o c h)) h
  split_stands sub o (Some f) (Some g) c w b q hx hy h =
      let sum : new_cost best work low rest sub c ≡ f.cost + g.cost + 2 ^ w = omega (arith, hx.0, hy.0, ap (λ x. 2 ^ x) q) in
      by_cases (ltb (f.cost + g.cost + 2 ^ w) (2 ^ 53))
      (λ z. rw z (fits o h sum (ltb-true (f.cost + g.cost + 2 ^ w) (2 ^ 53) z)))
      (λ z. rw z (remains sub o c (omega (arith, chosen_most tree s o c h, ltb-false (f.cost + g.cost + 2 ^ w) (2 ^ 53) z)) h))
    where
      -- it is taken
      taken : new_cost best work low rest sub c ≡ f.cost + g.cost + 2 ^ w → f.cost + g.cost + 2 ^ w < 2 ^ 53 → f.cost + g.cost + 2 ^ w < c.cost
          → Chosen tree s (Some (record { cost = f.cost + g.cost + 2 ^ w; tree = join f.tree g.tree })) (considered best work low rest sub c)
      taken e z k =
          subst (λ x. Chosen tree s (Some (record { cost = f.cost + g.cost + 2 ^ w; tree = join f.tree g.tree })) x)
          (gains best work low rest sub c (2 ^ work (sub + low) (rest - sub)) refl (omega arith)) (
            e,
            z,
            omega arith,
            omega arith,
            ap₂ (λ a b. join a b) hx.2 (hy.2 ∙ ap tree (let u : rest - sub ≡ s - (sub + low) = omega arith in u)),
          )

      fits : (o : Option Found) → Chosen tree s o c → new_cost best work low rest sub c ≡ f.cost + g.cost + 2 ^ w → f.cost + g.cost + 2 ^ w < 2 ^ 53
          → Chosen tree s (cheaper o (Some (record { cost = f.cost + g.cost + 2 ^ w; tree = join f.tree g.tree }))) (considered best work low rest sub c)
      fits None k e z = taken e z (omega arith)
      fits (Some a) k e z =
          by_cases (ltb (f.cost + g.cost + 2 ^ w) a.cost)
          (λ q. rw q (taken e z (omega (arith, k.0, ltb-true (f.cost + g.cost + 2 ^ w) a.cost q))))
          (λ q. rw q (remains sub (Some a) c (omega (arith, k.0, ltb-false (f.cost + g.cost + 2 ^ w) a.cost q)) k))

-- masks of n bits
module _ (n m : ℕ) (has : ℕ → ℕ → Bool) (ext : ℕ → Bool) (weigh : (ℕ → Bool) → ℕ) (limit : Option ℕ)
    (best : ℕ → ℕ) (tree : ℕ → Region) (work : ℕ → ℕ → ℕ) (g : List ℕ → Option Found)
  where
    by_two : (p q : ℕ) (u t : List ℕ) → t ≡ q ∷ u → passed m has ext weigh limit (p ∷ t) ≡ false
        → cheapest_by m has ext weigh limit g (p ∷ t) ≡ scan m has ext weigh limit g None (splits_of (p ∷ t))
    by_two p q u [] e h = absurd (let z : ◌≡◌ {A = ℕ} 0 1 = cc in omega arith)
    by_two p q u (x ∷ t) e h = rw h

    -- one mask s, without its lowest bit `rest`
    module _ (s rest : ℕ) (low : Lowest 0 n s rest)
        (stand : (l : ℕ) → 1 ≤ l → l < s → Stands best tree l (g (places_from 0 n l)))
        (bits : (l r : ℕ) → 1 ≤ l → l < s → 1 ≤ r → r < s → split_work m has ext weigh limit (record { part = places_from 0 n l; rest = places_from 0 n r }) ≡ work l r)
      where
        scan_stands : (o : Option Found) (c : Choice) (l : List ℕ) → Below rest l → Under rest l → Chosen tree s o c
            → Chosen tree s (scan m has ext weigh limit g o (map (with_low low.place) (map (cut_of 0 n rest) l))) (scan_masks best work (s - rest) rest c l)
        scan_stands o c [] b u h = h
        scan_stands o c (sub ∷ l) b u h =
            let cut : record { part = places_from 0 n (sub + (s - rest)); rest = places_from 0 n (rest - sub) } ≡ with_low low.place (cut_of 0 n rest sub) =
            (λ i. record { part = low.with sub b.0 i; rest = places_from 0 n (rest - sub) }) in
            let new : Chosen tree s (cheaper o (joined_by (split_work m has ext weigh limit (with_low low.place (cut_of 0 n rest sub))) (g (low.place ∷ places_from 0 n sub)) (g (places_from 0 n (rest - sub)))))
            (considered best work (s - rest) rest sub c) =
            split_stands best tree work (s - rest) rest s (omega (arith, low.below)) (omega (arith, low.below)) sub o (g (low.place ∷ places_from 0 n sub)) (g (places_from 0 n (rest - sub))) c
            (split_work m has ext weigh limit (with_low low.place (cut_of 0 n rest sub))) u.0
            (ap (split_work m has ext weigh limit) (sym cut)
            ∙ bits (sub + (s - rest)) (rest - sub) (omega (arith, low.below)) (omega (arith, u.0, low.below)) (omega (arith, u.0)) (omega (arith, low.below)))
            (subst (λ x. Stands best tree (sub + (s - rest)) (g x)) (low.with sub b.0) (stand (sub + (s - rest)) (omega (arith, low.below)) (omega (arith, u.0, low.below))))
            (stand (rest - sub) (omega (arith, u.0)) (omega (arith, low.below)))
            h in
            scan_stands (cheaper o (joined_by (split_work m has ext weigh limit (with_low low.place (cut_of 0 n rest sub))) (g (low.place ∷ places_from 0 n sub)) (g (places_from 0 n (rest - sub)))))
            (considered best work (s - rest) rest sub c) l b.1 u.1 new

        -- the walk's answer stands for the search's, at a subset of two or more that is not passed over
        pub subset_stands : 1 ≤ rest → rest < 2 ^ n → passed m has ext weigh limit (places_from 0 n s) ≡ false
            → Chosen tree s (cheapest_by m has ext weigh limit g (places_from 0 n s)) (cheapest_of best work n (s - rest) rest)
        unfolding cheapest_of
        subset_stands a b e =
            let (l, first) = submasks_first n rest b in
            let d : Down rest (rest ∷ l) = subst (Down rest) first (submasks_down n rest) in
            let under : Below rest (rest ∷ l) = subst (Below rest) first (submasks_below n rest) in
            let cs : splits_of (low.place ∷ places_from 0 n rest) ≡ map (with_low low.place) (map (cut_of 0 n rest) l) =
            ap (λ x. map (with_low low.place) (drop 1 x)) (submasks_parts 0 n rest ∙ ap (map (cut_of 0 n rest)) first) in
            let more : Chosen tree s (scan m has ext weigh limit g None (splits_of (low.place ∷ places_from 0 n rest))) (scan_masks best work (s - rest) rest (record { cost = infinite; part = 0 }) l) =
            subst (λ x. Chosen tree s (scan m has ext weigh limit g None x) (scan_masks best work (s - rest) rest (record { cost = infinite; part = 0 }) l)) (sym cs)
            (scan_stands None (record { cost = infinite; part = 0 }) l under.1 (down_under rest rest l d) refl) in
            let two : Lowest 0 n rest (bit_and rest (rest - 1)) = lowest 0 n rest a b in
            let by : cheapest_by m has ext weigh limit g (places_from 0 n s) ≡ scan m has ext weigh limit g None (splits_of (low.place ∷ places_from 0 n rest)) =
            ap (cheapest_by m has ext weigh limit g) low.all
            ∙ by_two low.place two.place (places_from 0 n (bit_and rest (rest - 1))) (places_from 0 n rest) two.all (ap (passed m has ext weigh limit) (sym low.all) ∙ e) in
            subst (λ x. Chosen tree s x (scan_masks best work (s - rest) rest (record { cost = infinite; part = 0 }) (drop 1 (submasks n rest)))) (sym by)
            (subst (λ x. Chosen tree s (scan m has ext weigh limit g None (splits_of (low.place ∷ places_from 0 n rest))) (scan_masks best work (s - rest) rest (record { cost = infinite; part = 0 }) (drop 1 x))) (sym first) more)
