-- Greedy's merging: its pairs are of two live tables, each merge keeps what holds of every state (`Sound`), and merging ends with no pair that
-- shares an index. Assumes nothing.
use Rattle.std.specs.Prelude.{◌≡◌, refl, false, List, [], ◌∷◌, ◌++◌, ℕ, zero, suc, ◌+◌, ◌≤◌, ◌<◌, eqb, ltb, length, Result, Ok}
use Rattle.std.proofs.Common.{sym, ap, ◌∙◌, subst, arith, length-append, eq-eqb, ne_eqb}
use Rattle.spec.specs.Members.{In, here, there, All}
use Rattle.spec.specs.Network.{Network, leaf_count}
use Rattle.spec.specs.Tree.{Tree, number, Pair}
use Rattle.spec.specs.declared.Refusal.TheVariants.{TableTooWide}
use Rattle.spec.specs.declared.Refusal.{Refusal}
use Rattle.spec.specs.Greedy.{Live, Cand, share, in_order, sharing_with, sharing_pairs, least, any_wide, State, off, joined, merge, turn, connect, trees, slots, start_of}
use Rattle.spec.specs.GreedyClaims.{others}
use Rattle.laws.specs.Booleans.{by_cases}
use Rattle.laws.specs.MemberLaws.{all_append, all_map, all_both, all_in, in_all}
use Rattle.laws.specs.Results.{not_done, done_same}
use Rattle.laws.specs.GreedyOrder.{least_least}
use Rattle.laws.specs.GreedyForest.{Takes, takes_head, takes_cons, takes_last, Forest, join_forest}

-- ---- slots ----

-- the slots rise, from lo on
abbrev pub Rising : ℕ → List Live → Type 0
Rising lo [] = Unit {0}
Rising lo (x ∷ l) = (lo ≤ x.slot) × Rising (suc x.slot) l

pub rising_less : (lo lo' : ℕ) (l : List Live) → lo ≤ lo' → Rising lo' l → Rising lo l
rising_less lo lo' [] h r = tt
rising_less lo lo' (x ∷ l) h r = (omega (arith, r.0), r.1)

pub rising_above : (lo : ℕ) (l : List Live) → Rising lo l → All (λ x. lo ≤ x.slot) l
rising_above lo [] r = tt
rising_above lo (x ∷ l) r =
    (r.0, all_map (λ y. suc x.slot ≤ y.slot) (λ y. lo ≤ y.slot) l (λ y h. omega (arith, r.0)) (rising_above (suc x.slot) l r.1))

pub rising_off : (s lo : ℕ) (l : List Live) → Rising lo l → Rising lo (off s l)
rising_off s lo [] r = tt
rising_off s lo (x ∷ l) r =
    by_cases (eqb x.slot s)
    (λ e. rw e (rising_less lo (suc x.slot) (off s l) (omega (arith, r.0)) (rising_off s (suc x.slot) l r.1)))
    (λ e. rw e (r.0, rising_off s (suc x.slot) l r.1))

pub rising_last : (lo : ℕ) (l : List Live) (x : Live) → Rising lo l → lo ≤ x.slot → All (λ y. y.slot < x.slot) l → Rising lo (l ++ (x ∷ []))
rising_last lo [] x r h k = (h, tt)
rising_last lo (y ∷ l) x r h k = (r.0, rising_last (suc y.slot) l x r.1 k.0 k.1)

pub off_all : (P : Live → Type 0) (s : ℕ) (l : List Live) → All P l → All P (off s l)
off_all P s [] h = tt
off_all P s (x ∷ l) h = by_cases (eqb x.slot s) (λ e. rw e (off_all P s l h.1)) (λ e. rw e (h.0, off_all P s l h.1))

pub off_none : (s lo : ℕ) (l : List Live) → s < lo → Rising lo l → off s l ≡ l
off_none s lo [] h r = refl
off_none s lo (x ∷ l) h r =
    rw (ne_eqb x.slot s (λ q. omega (arith, r.0))) (ap (λ y. x ∷ y) (off_none s (suc x.slot) l (omega (arith, r.0)) r.1))

-- taking a member's slot off takes just that member off
off_takes : (lo : ℕ) (l : List Live) (x : Live) → Rising lo l → In x l → Takes x.tree (trees (off x.slot l)) (trees l)
off_takes lo [] x r i = elim i [ ]
off_takes lo (y ∷ l') x r (here e) =
    rw (eq-eqb y.slot x.slot (ap (λ (z : Live). z.slot) (sym e)), off_none x.slot (suc y.slot) l' (omega (arith, ap (λ (z : Live). z.slot) e)) r.1)
    (subst (λ z. Takes x.tree (trees l') (z.tree ∷ trees l')) e (takes_head x.tree (trees l')))
off_takes lo (y ∷ l') x r (there i) =
    let h : suc y.slot ≤ x.slot = all_in (λ z. suc y.slot ≤ z.slot) x l' (rising_above (suc y.slot) l' r.1) i in
    rw (ne_eqb y.slot x.slot (λ q. omega arith))
    (takes_cons x.tree y.tree (trees (off x.slot l')) (trees l') (off_takes (suc y.slot) l' x r.1 i))

in_off : (s : ℕ) (l : List Live) (x : Live) → (x.slot ≡ s → ⊥) → In x l → In x (off s l)
in_off s [] x h i = elim i [ ]
in_off s (y ∷ l') x h (here e) =
    rw (ne_eqb y.slot s (λ q. h (ap (λ (z : Live). z.slot) e ∙ q))) (here e)
in_off s (y ∷ l') x h (there i) =
    by_cases (eqb y.slot s) (λ e. rw e (in_off s l' x h i)) (λ e. rw e (there (in_off s l' x h i)))

-- ---- pairs ----

-- a pair of two members
pub record Fine (l : List Live) (c : Cand) : Type 0 where
  pub one : In c.first l
  pub two : In c.second l
  pub apart : c.first.slot ≡ c.second.slot → ⊥

module _ (N : Network) (n₀ : ℕ) (whole : List Live) where
  with_fine : (x : Live) → In x whole → (l : List Live) → All (λ y. In y whole × (x.slot < y.slot)) l → All (Fine whole) (sharing_with N n₀ x l)
  with_fine x i [] h = tt
  with_fine x i (y ∷ l) h =
      by_cases (share N x.tree y.tree)
      (λ e. rw e (order_fine, with_fine x i l h.1))
      (λ e. rw e (with_fine x i l h.1))
    where
      order_fine : Fine whole (in_order n₀ x y)
      order_fine =
          by_cases (ltb y.slot n₀)
          (λ e. rw e (record { one = i; two = h.0.0; apart = λ q. omega (arith, h.0.1) }))
          (λ e. rw e (record { one = h.0.0; two = i; apart = λ q. omega (arith, h.0.1) }))

  of_fine : (lo : ℕ) (l : List Live) → Rising lo l → All (λ y. In y whole) l → All (Fine whole) (sharing_pairs N n₀ l)
  of_fine lo [] r h = tt
  of_fine lo (x ∷ l) r h =
      all_append (Fine whole) (sharing_with N n₀ x l) (sharing_pairs N n₀ l)
      (with_fine x h.0 l (all_both (λ y. In y whole) (λ y. x.slot < y.slot) l h.1 (rising_above (suc x.slot) l r.1)))
      (of_fine (suc x.slot) l r.1 h.1)

-- each pair of a list is of two of its members
pub pairs_fine : (N : Network) (n₀ : ℕ) (l : List Live) → Rising 0 l → All (Fine l) (sharing_pairs N n₀ l)
pairs_fine N n₀ l r = of_fine N n₀ l 0 l r (in_all l)

-- the live tables are the pair's two, and others
module _ (s : State) (r : Rising 0 s.live) (c : Cand) (f : Fine s.live c) where
  pub takes₁ : Takes c.first.tree (trees (off c.first.slot s.live)) (trees s.live)
  takes₁ = off_takes 0 s.live c.first r f.one

  pub takes₂ : Takes c.second.tree (others s c) (trees (off c.first.slot s.live))
  takes₂ =
      off_takes 0 (off c.first.slot s.live) c.second (rising_off c.first.slot 0 s.live r)
      (in_off c.first.slot s.live c.second (λ e. f.apart (sym e)) f.two)

-- ---- a turn ----

pub trees-append : (l k : List Live) → trees (l ++ k) ≡ trees l ++ trees k
trees-append [] k = refl
trees-append (x ∷ l) k = ap (λ y. x.tree ∷ y) (trees-append l k)

-- what holds of every state
pub record Sound (N : Network) (base : ℕ → ℕ) (lo all : ℕ) (s : State) : Type 0 where
  pub forest : Forest (leaf_count N) base lo all s.pairs (trees s.live)
  pub rising : Rising 0 s.live
  pub slotted : All (λ x. x.slot < s.next) s.live

-- what an answer of a turn comes from
pub turn_cases {ℓ} : {P : Type ℓ} (N : Network) (cs : List Cand) (s : State) (go : State → Result State Refusal) (s' : State)
    → turn N cs s go ≡ Ok s'
    → (cs ≡ [] → s ≡ s' → P)
    → ((c : Cand) (l : List Cand) → cs ≡ c ∷ l → any_wide N (c ∷ l) ≡ false → go (merge N (least N c l) s) ≡ Ok s' → P)
    → P
turn_cases N [] s go s' e f g = f refl (done_same s s' e)
turn_cases N (c ∷ l) s go s' e f g =
    by_cases (any_wide N (c ∷ l))
    (λ q. not_done TableTooWide s' (rw q at e))
    (λ q. g c l refl q (rw q at e))

module _ (N : Network) (base : ℕ → ℕ) (lo all n₀ : ℕ) where
  merge_sound : (s : State) (c : Cand) → Sound N base lo all s → Fine s.live c → Sound N base lo all (merge N c s)
  merge_sound s c g f =
      let x = c.first in
      let y = c.second in
      let l₁ = off x.slot s.live in
      let l₂ = off y.slot l₁ in
      let t = joined N s.pairs x.tree y.tree in
      let low : All (λ z. z.slot < s.next) l₂ = off_all _ y.slot l₁ (off_all _ x.slot s.live g.slotted) in
      record {
        forest = join_forest N s.pairs (trees s.live) (trees l₁) (trees l₂) _ x.tree y.tree g.forest
            (takes₁ s g.rising c f) (takes₂ s g.rising c f) (rw (trees-append l₂ _) (takes_last t (trees l₂)));
        rising = rising_last 0 l₂ _ (rising_off y.slot 0 l₁ (rising_off x.slot 0 s.live g.rising)) (omega arith) low;
        slotted = all_append _ l₂ _ (all_map _ _ l₂ (λ z h. omega arith) low) (omega arith, tt);
      }

  pub turn_sound : (s : State) → Sound N base lo all s → (c : Cand) (l : List Cand) → sharing_pairs N n₀ s.live ≡ c ∷ l
      → Sound N base lo all (merge N (least N c l) s)
  turn_sound s g c l e =
      let h : All (Fine s.live) (c ∷ l) = subst (All (Fine s.live)) e (pairs_fine N n₀ s.live g.rising) in
      merge_sound s (least N c l) g (all_in (Fine s.live) (least N c l) (c ∷ l) h (least_least N c l).member)

  -- ---- all turns ----

  pub connect_sound : (fuel : ℕ) (s s' : State) → connect N n₀ fuel s ≡ Ok s' → Sound N base lo all s → Sound N base lo all s'
  connect_sound zero s s' e g = subst (Sound N base lo all) (done_same s s' e) g
  connect_sound (suc fuel) s s' e g =
      turn_cases N (sharing_pairs N n₀ s.live) s (λ s'. connect N n₀ fuel s') s' e
      (λ p q. subst (Sound N base lo all) q g)
      (λ c l p w q. connect_sound fuel (merge N (least N c l) s) s' q (turn_sound s g c l p))

  -- the fuel never cuts the merging off: no pair that shares an index is left
  pub connect_ends : (fuel : ℕ) (s s' : State) → connect N n₀ fuel s ≡ Ok s' → Sound N base lo all s
      → all ≤ fuel + length s.pairs → sharing_pairs N n₀ s'.live ≡ []
  connect_ends zero s s' e g h =
      subst (λ (z : State). sharing_pairs N n₀ z.live ≡ []) (done_same s s' e)
      (no_tables s.live (omega (arith, g.forest.amount)))
    where
      no_tables : (l : List Live) → length (trees l) ≡ 0 → sharing_pairs N n₀ l ≡ []
      no_tables [] z = refl
      no_tables (x ∷ l) z = absurd (omega arith)
  connect_ends (suc fuel) s s' e g h =
      turn_cases N (sharing_pairs N n₀ s.live) s (λ s'. connect N n₀ fuel s') s' e
      (λ p q. ap (λ (z : State). sharing_pairs N n₀ z.live) (sym q) ∙ p)
      (λ c l p w q. connect_ends fuel (merge N (least N c l) s) s' q (turn_sound s g c l p)
      (omega (arith, length-append s.pairs (record { left = number (least N c l).first.tree; right = number (least N c l).second.tree } ∷ []))))

-- a table is left, if there was one
some_last : (l : List Live) (x : Live) → 1 ≤ length (trees (l ++ (x ∷ [])))
some_last [] x = omega arith
some_last (y ∷ l) x = omega arith

pub connect_some : (N : Network) (n₀ fuel : ℕ) (s s' : State) → connect N n₀ fuel s ≡ Ok s' → 1 ≤ length (trees s.live)
    → 1 ≤ length (trees s'.live)
connect_some N n₀ zero s s' e h = subst (λ (z : State). 1 ≤ length (trees z.live)) (done_same s s' e) h
connect_some N n₀ (suc fuel) s s' e h =
    turn_cases N (sharing_pairs N n₀ s.live) s (λ s'. connect N n₀ fuel s') s' e
    (λ p q. subst (λ (z : State). 1 ≤ length (trees z.live)) q h)
    (λ c l p w q. connect_some N n₀ fuel (merge N (least N c l) s) s' q
    (some_last (off (least N c l).second.slot (off (least N c l).first.slot s.live)) _))

-- ---- the start ----

pub trees-slots : (k : ℕ) (ts : List Tree) → trees (slots k ts) ≡ ts
trees-slots k [] = refl
trees-slots k (t ∷ ts) = ap (λ l. t ∷ l) (trees-slots (suc k) ts)

pub slots_rising : (k : ℕ) (ts : List Tree) → Rising k (slots k ts)
slots_rising k [] = tt
slots_rising k (t ∷ ts) = (omega arith, slots_rising (suc k) ts)

pub slots_below : (k : ℕ) (ts : List Tree) → All (λ x. x.slot < k + length ts) (slots k ts)
slots_below k [] = tt
slots_below k (t ∷ ts) = (omega arith, all_map _ _ (slots (suc k) ts) (λ x h. omega arith) (slots_below (suc k) ts))

pub start_sound : (N : Network) (base : ℕ → ℕ) (lo all : ℕ) (a : List Pair) (ts : List Tree) → Forest (leaf_count N) base lo all a ts
    → Sound N base lo all (start_of a ts)
start_sound N base lo all a ts s =
    record {
      forest = rw (trees-slots 0 ts) s;
      rising = slots_rising 0 ts;
      slotted = all_map _ _ (slots 0 ts) (λ x h. omega arith) (slots_below 0 ts);
    }
