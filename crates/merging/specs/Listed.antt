-- Greedy's state by a rising list of the live slots and a tree for each slot, and a turn of greedy in these words. Assumes nothing.
use Rattle.std.specs.Prelude.{Bool, true, false, not, ◌&&◌, cond, ◌≡◌, refl, List, [], ◌∷◌, ◌++◌, map, ℕ, zero, suc, ◌≤◌, ◌<◌, eqb, length, get_or, Err, Ok}
use Rattle.std.proofs.Common.{sym, ◌∙◌, ap, ap₂, arith, eqb-true, ne_eqb}
use Rattle.spec.specs.Lists.{memb, keep}
use Rattle.spec.specs.Members.{In, here, there, All}
use Rattle.spec.specs.Network.{Network}
use Rattle.spec.specs.Tree.{Tree, Pair}
use Rattle.spec.specs.declared.Refusal.TheVariants.{TableTooWide}
use Rattle.spec.specs.Greedy.{Live, Cand, share, in_order, sharing_pairs, before, too_wide, State, off, plus, joined, merge, connect}
use Rattle.laws.specs.Booleans.{by_cases, or_cases, or_introl, or_intror, and_right, clash, eqb_self}
use Rattle.laws.specs.ListLaws.{memb-keep, keep-keep}
use Rattle.laws.specs.MemberLaws.{all_in}
use Rattle.laws.specs.GreedyMerging.{Rising}
use Rattle.laws.specs.GreedyScan.{Pairing, pairs_has, pairs_are, turn_ends, turn_refuses, turn_merges}
use Rattle.laws.specs.GreedySlots.{entry, pair_at, tree_after}
use Rattle.rows.specs.Known.{Rises, places_of}

abbrev pub listed : (ℕ → Tree) → List ℕ → List Live
listed tree L = map (entry tree) L

abbrev pub state_at : List Pair → (ℕ → Tree) → List ℕ → ℕ → State
state_at a tree L next = record { pairs = a; live = listed tree L; next = next }

-- ---- members ----

module _ (tree : ℕ → Tree) where
  pub listed_has : (L : List ℕ) (u : ℕ) → memb u L ≡ true → In (entry tree u) (listed tree L)
  listed_has [] u h = clash h refl
  listed_has (v ∷ L) u h = or_cases (eqb u v) (memb u L) h (λ e. here (ap (entry tree) (eqb-true u v e))) (λ m. there (listed_has L u m))

  listed_all : (L : List ℕ) → All (λ x. (memb x.slot L ≡ true) × (x ≡ entry tree x.slot)) (listed tree L)
  listed_all L = go L (λ u m. m)
    where
      go : (K : List ℕ) → ((u : ℕ) → memb u K ≡ true → memb u L ≡ true) → All (λ x. (memb x.slot L ≡ true) × (x ≡ entry tree x.slot)) (listed tree K)
      go [] f = tt
      go (v ∷ K) f = ((f v (or_introl (eqb v v) (memb v K) (eqb_self v)), refl), go K (λ u m. f u (or_intror (eqb u v) (memb u K) m)))

  pub listed_are : (L : List ℕ) (x : Live) → In x (listed tree L) → (memb x.slot L ≡ true) × (x ≡ entry tree x.slot)
  listed_are L x i = all_in _ x (listed tree L) (listed_all L) i

  -- ---- order ----

  above : (lo : ℕ) (L : List ℕ) → Rising lo (listed tree L) → (i : ℕ) → i < length L → lo ≤ get_or L i 0
  above lo [] r i b = absurd (omega arith)
  above lo (u ∷ L) r zero b = r.0
  above lo (u ∷ L) r (suc i) b = omega (arith, above (suc u) L r.1 i (omega arith), r.0)

  rises_from : (lo : ℕ) (L : List ℕ) → Rising lo (listed tree L) → Rises L
  rises_from lo [] r = λ i k h b. absurd (omega arith)
  rises_from lo (u ∷ L) r = go (rises_from (suc u) L r.1)
    where
      go : Rises L → (i k : ℕ) → i < k → k < suc (length L) → get_or (u ∷ L) i 0 < get_or (u ∷ L) k 0
      go f i zero h b = absurd (omega arith)
      go f zero (suc k) h b = omega (arith, above (suc u) L r.1 k (omega arith))
      go f (suc i) (suc k) h b = f i k (omega arith) (omega arith)

  pub rising_rises : (L : List ℕ) → Rising 0 (listed tree L) → Rises L
  rising_rises L r = rises_from 0 L r

-- ---- a turn ----

module _ (N : Network) (n₀ fuel : ℕ) (a : List Pair) (tree : ℕ → Tree) (L : List ℕ) (next : ℕ) (rising : Rising 0 (listed tree L)) where
  abbrev s : State
  s = state_at a tree L next

  abbrev r : Rises L
  r = rising_rises tree L rising

  -- the pair of two slots that share an index is a pair of the state
  pub has_pair : (u v : ℕ) → memb u L ≡ true → memb v L ≡ true → u < v → share N (tree u) (tree v) ≡ true
      → In (pair_at n₀ tree u v) (sharing_pairs N n₀ (listed tree L))
  has_pair u v mu mv h e = pairs_has N n₀ 0 (listed tree L) (entry tree u) (entry tree v) rising (listed_has tree L u mu) (listed_has tree L v mv) h e

  -- and there are no others
  pair_of {ℓ} : {P : Type ℓ} (c : Cand) → In c (sharing_pairs N n₀ (listed tree L))
      → ((i k : ℕ) → i < k → k < length L → share N (tree (get_or L i 0)) (tree (get_or L k 0)) ≡ true → c ≡ pair_at n₀ tree (get_or L i 0) (get_or L k 0) → P) → P
  pair_of c m f =
      let p : Pairing N n₀ (listed tree L) c = pairs_are N n₀ 0 (listed tree L) rising c m in
      let (mx, ex) = listed_are tree L p.x p.in_x in
      let (my, ey) = listed_are tree L p.y p.in_y in
      places_of L r p.x.slot p.y.slot mx my p.less λ i k h b ei ek.
      f i k h b
      (ap₂ (λ (u v : ℕ). share N (tree u) (tree v)) (sym ei) (sym ek) ∙ ap₂ (λ (x y : Live). share N x.tree y.tree) (sym ex) (sym ey) ∙ p.shared)
      (p.same ∙ ap₂ (in_order n₀) (ex ∙ ap (entry tree) ei) (ey ∙ ap (entry tree) ek))

  -- no two share an index: merging ends
  pub listed_ends : ((p : ℕ) → p < length L → (j : ℕ) → j < p → share N (tree (get_or L j 0)) (tree (get_or L p 0)) ≡ false) → connect N n₀ (suc fuel) s ≡ Ok s
  listed_ends h =
      turn_ends N n₀ fuel s rising (λ x y i j l.
      let (mx, ex) = listed_are tree L x i in
      let (my, ey) = listed_are tree L y j in
      places_of L r x.slot y.slot mx my l λ p q d b ep eq.
      ap₂ (λ (u v : Live). share N u.tree v.tree) ex ey ∙ ap₂ (λ (u v : ℕ). share N (tree u) (tree v)) ep eq ∙ h q b p d)

  -- a pair is too wide: refused
  pub listed_refuses : (u v : ℕ) → memb u L ≡ true → memb v L ≡ true → u < v → share N (tree u) (tree v) ≡ true → too_wide N (pair_at n₀ tree u v) ≡ true
      → connect N n₀ (suc fuel) s ≡ Err TableTooWide
  listed_refuses u v mu mv h e w = turn_refuses N n₀ fuel s rising (pair_at n₀ tree u v) (has_pair u v mu mv h e) w

  -- else the least pair is merged
  pub listed_merges : (u v : ℕ) → memb u L ≡ true → memb v L ≡ true → u < v → share N (tree u) (tree v) ≡ true
      → ((p : ℕ) → p < length L → (j : ℕ) → j < p → share N (tree (get_or L j 0)) (tree (get_or L p 0)) ≡ true
      → (too_wide N (pair_at n₀ tree (get_or L j 0) (get_or L p 0)) ≡ false) × (before N (pair_at n₀ tree (get_or L j 0) (get_or L p 0)) (pair_at n₀ tree u v) ≡ false))
      → connect N n₀ (suc fuel) s ≡ connect N n₀ fuel (merge N (pair_at n₀ tree u v) s)
  listed_merges u v mu mv h e f =
      turn_merges N n₀ fuel s rising (pair_at n₀ tree u v)
      (record {
        member = has_pair u v mu mv h e;
        first = λ c m. pair_of c m (λ i k d b q z. ap (λ c. before N c (pair_at n₀ tree u v)) z ∙ (f k b i d q).1);
      })
      (λ c m. pair_of c m (λ i k d b q z. ap (too_wide N) z ∙ (f k b i d q).0))

-- ---- a merge ----

-- the slots but two
abbrev pub other : ℕ → ℕ → ℕ → Bool
other x y v = not (eqb v x) && not (eqb v y)

abbrev pub remaining : ℕ → ℕ → List ℕ → List ℕ
remaining x y L = keep (other x y) L

pub off-listed : (tree : ℕ → Tree) (u : ℕ) (L : List ℕ) → off u (listed tree L) ≡ listed tree (keep (λ v. not (eqb v u)) L)
off-listed tree u [] = refl
off-listed tree u (v ∷ L) =
    by_cases (eqb v u)
    (λ e. rw e (off-listed tree u L))
    (λ e. rw e (ap (λ l. entry tree v ∷ l) (off-listed tree u L)))

listed_ext : (t t' : ℕ → Tree) (L : List ℕ) → ((u : ℕ) → memb u L ≡ true → t u ≡ t' u) → listed t L ≡ listed t' L
listed_ext t t' [] h = refl
listed_ext t t' (v ∷ L) h =
    ap₂ (λ (w : Tree) (l : List Live). record { slot = v; tree = w } ∷ l) (h v (or_introl (eqb v v) (memb v L) (eqb_self v)))
    (listed_ext t t' L (λ u m. h u (or_intror (eqb u v) (memb u L) m)))

listed-append : (tree : ℕ → Tree) (L K : List ℕ) → listed tree (L ++ K) ≡ listed tree L ++ listed tree K
listed-append tree [] K = refl
listed-append tree (v ∷ L) K = ap (λ l. entry tree v ∷ l) (listed-append tree L K)

pub remaining_memb : (x y u : ℕ) (L : List ℕ) → memb u (remaining x y L) ≡ (other x y u && memb u L)
remaining_memb x y u L = memb-keep u (other x y) L

-- the state after the tables of slots f and g are merged
pub merge_listed : (N : Network) (a : List Pair) (tree : ℕ → Tree) (L : List ℕ) (next f g : ℕ) → ((u : ℕ) → memb u L ≡ true → u < next)
    → merge N (record { first = entry tree f; second = entry tree g }) (state_at a tree L next)
    ≡ state_at (plus a (tree f) (tree g)) (tree_after N a tree next f g) (remaining f g L ++ (next ∷ [])) (suc next)
merge_listed N a tree L next f g used =
    let new = joined N a (tree f) (tree g) in
    let tree' = tree_after N a tree next f g in
    let own : eqb next next ≡ true = eqb_self next in
    let same : (u : ℕ) → memb u (remaining f g L) ≡ true → tree u ≡ tree' u =
    λ u m. ap (λ b. cond b new (tree u)) (sym (ne_eqb u next (λ z. omega (arith, used u (and_right (other f g u) (memb u L) (sym (remaining_memb f g u L) ∙ m)))))) in
    let e : off g (off f (listed tree L)) ++ (record { slot = next; tree = new } ∷ []) ≡ listed tree' (remaining f g L ++ (next ∷ [])) =
    ap₂ (λ l w. l ++ (record { slot = next; tree = w } ∷ []))
    (ap (off g) (off-listed tree f L) ∙ off-listed tree g (keep (λ v. not (eqb v f)) L)
    ∙ ap (listed tree) (keep-keep (λ v. not (eqb v f)) (λ v. not (eqb v g)) L)
    ∙ listed_ext tree tree' (remaining f g L) same)
    (ap (λ b. cond b new (tree next)) (sym own))
    ∙ sym (listed-append tree' (remaining f g L) (next ∷ [])) in
    λ i. record { pairs = plus a (tree f) (tree g); live = e i; next = suc next }
