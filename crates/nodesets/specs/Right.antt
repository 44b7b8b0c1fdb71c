-- After the passes each node's slot holds exactly the node's list. A pass only makes slots right: `Right F D ws` says that every slot
-- that D names holds what F says, and each write adds one slot to D. Assumes nothing.
use Rattle.std.specs.Prelude.{◌≡◌, refl, Bool, true, false, ◌&&◌, ◌||◌, cond, List, [], ◌∷◌, ◌⊎◌, eqb, length, get_or, take, drop}
use Rattle.std.proofs.Common.{sym, ◌∙◌, ap, inl, inr, ⊎_elim, arith, add-one, drop-cons, ne_eqb, eqb-true}
use mathlib.Mathlib.Data.Bool.Basic.{eq-false_of_not-eq-true}
use Prim.Native.Nat.{ℕ, zero, suc, ◌+◌, ◌-◌, ◌*◌, ◌≤◌, ◌<◌}
use Rattle.std.proofs.Math.Decide.{ℕ_discrete, dec_le}
use Rattle.std.proofs.Math.Seq.{take-length, drop-length}
use Rattle.cells.specs.Loop.{turns}
use Rattle.slots.specs.Slots.{held, with_set, with_set_length, held_with, held_with_other}
use Rattle.spec.specs.Lists.{memb}
use Rattle.spec.specs.Network.{Network, leaf_count, legs, InRange}
use Rattle.spec.specs.Tree.{number, pairs_of}
use Rattle.spec.specs.Price.{list_at}
use Rattle.laws.specs.Booleans.{or_cases, clash, eqb_self}
use Rattle.laws.specs.Arrays.{Inner}
use Rattle.laws.specs.ListLaws.{memb_at}
use Rattle.nodesets.specs.Passes.{nodes, joined, widened, cut, ups, down, downs, cuts}
use Rattle.nodesets.specs.FlatTree.{flat_tree}
use Rattle.nodesets.specs.Order.{left_is, right_is, Ready, Known, children_of}
use Rattle.nodesets.specs.Steps.{Steps, at_inner, at_children}
use Rattle.nodesets.specs.Places.{memb-take, take_cases}
use Rattle.nodesets.specs.Turns.{slot_in, ups_length, downs_length, cuts_length}
use Rattle.nodesets.specs.Flow.{under, wanted, under_leaf, under_node, wanted_left, wanted_right, listed_node, listed_leaf}

-- every slot that D names holds what F says
abbrev pub Right : ℕ → (ℕ → ℕ → Bool) → (ℕ → Type 0) → List ℕ → Type 0
Right W F D ws = (s : ℕ) → D s → (j : ℕ) → j < W * 64 → held ws W s j ≡ F s j

write : (W : ℕ) (F : ℕ → ℕ → Bool) (D : ℕ → Type 0) (ws : List ℕ) (c : ℕ) (p : ℕ → Bool) → c * W + W ≤ length ws
    → ((j : ℕ) → j < W * 64 → p j ≡ F c j) → Right W F D ws → Right W F (λ s. D s ⊎ (s ≡ c)) (with_set ws W c p)
write W F D ws c p room val r s h j b =
    elim (ℕ_discrete s c) [
      | yes e ↦ rw e (held_with ws W c p j room b ∙ val j b)
      | no g ↦ held_with_other ws W c p s j b g ∙ ⊎_elim (λ q. r s q j b) (λ e. absurd (g e)) h
    ]

cut_both : (c p q : Bool) → (cond c (p && q) p && q) ≡ cond (c || true) (p && q) p
cut_both true true true = refl
cut_both true true false = refl
cut_both true false q = refl
cut_both false p q = refl

same_cond : (c x y : Bool) → cond c x y ≡ cond (c || false) x y
same_cond true x y = refl
same_cond false x y = refl

module _ (N : Network) (kids order : List ℕ) (steps : Steps (leaf_count N) kids order)
    (inners : (v : ℕ) → leaf_count N ≤ v → v < nodes (leaf_count N) kids → Inner (leaf_count N) (pairs_of kids) v) (W : ℕ) where
  open flat_tree (leaf_count N) kids use {n, m, a, L, R}

  abbrev top : ℕ
  top = m - 1

  abbrev c : ℕ
  c = length order

  left_child : (v : ℕ) (b : n ≤ v) (d : v < m) → L v ≡ number (inners v b d).l
  left_child v b d = let x = inners v b d in left_is n kids v x.l x.r x.described

  right_child : (v : ℕ) (b : n ≤ v) (d : v < m) → R v ≡ number (inners v b d).r
  right_child v b d = let x = inners v b d in right_is n kids v x.l x.r x.described

  slot_room : (v : ℕ) (ws : List ℕ) → v < m → m * W ≤ length ws → v * W + W ≤ length ws
  slot_room v ws h r = slot_in v m W (length ws) h r

  -- ---- up ----

  up_turn : (k : ℕ) (ws : List ℕ) → k < c → m * W ≤ length ws → Right W (under N a) (Ready n kids (take k order)) ws
      → Right W (under N a) (Ready n kids (take (suc k) order)) (joined W ws (L (get_or order k 0)) (R (get_or order k 0)) (get_or order k 0))
  up_turn k ws h room r s q =
      let v = get_or order k 0 in
      let b = at_inner steps k h in
      write W (under N a) (Ready n kids (take k order)) ws v _ (slot_room v ws b.1 room)
      (λ i z. rw (r (L v) (steps.ready k h).0 i z, r (R v) (steps.ready k h).1 i z, left_child v b.0 b.1, right_child v b.0 b.1)
      (sym (under_node N a v (inners v b.0 b.1) i)))
      r s (more q)
    where
      more : Ready n kids (take (suc k) order) s → Ready n kids (take k order) s ⊎ (s ≡ get_or order k 0)
      more (inl p) = inl (inl p)
      more (inr p) = take_cases s order k h p (λ e. inl (inr e)) inr

  ups_right : (k : ℕ) (ws : List ℕ) → k ≤ c → m * W ≤ length ws → Right W (under N a) (Ready n kids []) ws
      → Right W (under N a) (Ready n kids (take k order)) (ups W L R order ws k)
  unfolding ups turns
  ups_right zero ws h room r = r
  ups_right (suc k) ws h room r =
      up_turn k (ups W L R order ws k) h (omega (arith, ups_length W L R order k ws)) (ups_right k ws (omega arith) room r)

  -- ---- down ----

  module _ (sets : List ℕ) (below : Right W (under N a) (λ s. s < m) sets) where
    abbrev Down : ℕ → ℕ → Type 0
    Down k s = Known n kids top (drop (c - k) order) s

    down_turn : (k : ℕ) (ws : List ℕ) → k < c → m * W ≤ length ws → Right W (wanted N a) (Down k) ws
        → Right W (wanted N a) (Down (suc k))
        (down W sets ws (L (get_or order (c - suc k) 0)) (R (get_or order (c - suc k) 0)) (get_or order (c - suc k) 0))
    down_turn k ws h room r s q =
        let i = c - suc k in
        let hi : i < c = omega arith in
        let v = get_or order i 0 in
        let b = at_inner steps i hi in
        let d = at_children steps i hi in
        let x = inners v b.0 b.1 in
        let e : suc i ≡ c - k = omega arith in
        let known : Down k v = rw (← e) (steps.parent i hi) in
        let w1 = widened W ws v (L v) sets (R v) in
        let r1 : Right W (wanted N a) (λ u. Down k u ⊎ (u ≡ L v)) w1 =
        write W (wanted N a) (Down k) ws (L v) _ (slot_room (L v) ws d.0 room)
        (λ y z. rw (r v known y z, below (R v) d.1 y z, left_child v b.0 b.1, right_child v b.0 b.1) (sym (wanted_left N a v x y)))
        r in
        write W (wanted N a) (λ u. Down k u ⊎ (u ≡ L v)) w1 (R v) _
        (slot_room (R v) w1 d.1 (omega (arith, with_set_length ws W (L v) (λ j. held ws W v j || held sets W (R v) j))))
        (λ y z. rw (r1 v (inl known) y z, below (L v) d.0 y z, left_child v b.0 b.1, right_child v b.0 b.1) (sym (wanted_right N a v x y)))
        r1 s (more q)
      where
        more : Down (suc k) s → (Down k s ⊎ (s ≡ L (get_or order (c - suc k) 0))) ⊎ (s ≡ R (get_or order (c - suc k) 0))
        more (inl e) = inl (inl (inl e))
        more (inr e) =
            let i = c - suc k in
            let hi : i < c = omega arith in
            let v = get_or order i 0 in
            let ei : suc i ≡ c - k = omega arith in
            let f : memb s (L v ∷ R v ∷ children_of n kids (drop (c - k) order)) ≡ true = rw (← ei) (rw (drop-cons order i 0 hi) at e) in
            or_cases (eqb s (L v)) _ f
            (λ g. inl (inr (eqb-true s (L v) g)))
            (λ g. or_cases (eqb s (R v)) _ g
            (λ g. inr (eqb-true s (R v) g))
            (λ g. inl (inl (inr g))))

    downs_right : (k : ℕ) (ws : List ℕ) → k ≤ c → m * W ≤ length ws → Right W (wanted N a) (Down 0) ws
        → Right W (wanted N a) (Down k) (downs W L R order sets ws k)
    unfolding downs turns
    downs_right zero ws h room r = r
    downs_right (suc k) ws h room r =
        rw (add-one k)
        (down_turn k (downs W L R order sets ws k) h (omega (arith, downs_length W L R order sets k ws)) (downs_right k ws (omega arith) room r))

  -- ---- cut ----

  module _ (outside : List ℕ) (above : Right W (wanted N a) (λ s. memb s order ≡ true) outside) where
    abbrev G : ℕ → ℕ → ℕ → Bool
    G k s j = cond (memb s (take k order)) (under N a s j && wanted N a s j) (under N a s j)

    cut_turn : (k : ℕ) (ws : List ℕ) → k < c → m * W ≤ length ws → Right W (G k) (λ s. s < m) ws
        → Right W (G (suc k)) (λ s. s < m) (cut W ws outside (get_or order k 0))
    cut_turn k ws h room r s q j b =
        let v = get_or order k 0 in
        let lv = (at_inner steps k h).1 in
        elim (ℕ_discrete s v) [
          | yes e ↦ rw (e, memb-take v order k h, eqb_self v)
              (held_with ws W v _ j (slot_room v ws lv room) b
              ∙ rw (r v lv j b, above v (memb_at order k h) j b) (cut_both (memb v (take k order)) (under N a v j) (wanted N a v j)))
          | no g ↦ held_with_other ws W v _ s j b g
              ∙ rw (memb-take s order k h, ne_eqb s v g) (r s q j b ∙ same_cond (memb s (take k order)) (under N a s j && wanted N a s j) (under N a s j))
        ]

    cuts_right : (k : ℕ) (ws : List ℕ) → k ≤ c → m * W ≤ length ws → Right W (under N a) (λ s. s < m) ws
        → Right W (G k) (λ s. s < m) (cuts W order outside ws k)
    unfolding cuts turns
    cuts_right zero ws h room r = r
    cuts_right (suc k) ws h room r =
        cut_turn k (cuts W order outside ws k) h (omega (arith, cuts_length W order outside k ws)) (cuts_right k ws (omega arith) room r)

  -- ---- the whole ----

  module _ (ir : InRange N) (sets outside : List ℕ) (room : m * W ≤ length sets) (room' : m * W ≤ length outside)
      (leaves : Right W (λ i j. memb j (legs N i)) (λ i. i < n) sets)
      (outputs : Right W (wanted N a) (λ s. s ≡ top) outside) where
    abbrev joins : List ℕ
    joins = ups W L R order sets c

    abbrev wants : List ℕ
    wants = downs W L R order joins outside c

    joins_right : Right W (under N a) (λ s. s < m) joins
    joins_right s h = ups_right c sets (omega arith) room start s (place s h)
      where
        start : Right W (under N a) (Ready n kids []) sets
        start u (inl p) j b = leaves u p j b ∙ sym (under_leaf N a u j p)
        start u (inr p) j b = clash p refl

        place : (s : ℕ) → s < m → Ready n kids (take c order) s
        place s h = elim (dec_le n s) [ yes i ↦ inr (rw (take-length order) (steps.all s i h)) | no i ↦ inl (omega arith) ]

    wants_right : Right W (wanted N a) (λ s. memb s order ≡ true) wants
    wants_right s h =
        downs_right joins joins_right c outside (omega arith) room' start s
        (let z : c - c ≡ 0 = omega arith in rw z (steps.parents s h))
      where
        start : Right W (wanted N a) (Known n kids top (drop (c - 0) order)) outside
        start u (inl p) = outputs u p
        start u (inr p) =
            let y : c - 0 ≡ c = omega arith in
            let z : drop (c - 0) order ≡ [] = ap (λ (x : ℕ). drop x order) y ∙ drop-length order in
            clash (rw z at p) refl

    -- with the leaves' sets and the outputs in place, the passes give each node its list
    pub lists_right : Right W (λ s j. memb j (list_at N a s)) (λ s. s < m) (cuts W order wants joins c)
    lists_right s h j b =
        cuts_right wants wants_right c joins (omega arith) (omega (arith, ups_length W L R order c sets)) joins_right s h j b
        ∙ rw (take-length order)
        (elim (dec_le n s) [
          | yes i ↦ rw (steps.all s i h) (sym (listed_node N a s (inners s i h) ir j))
          | no i ↦ (let e : memb s order ≡ false = eq-false_of_not-eq-true (λ p. omega (arith, steps.inner s p)) in
              rw e (sym (listed_leaf N a s j (omega arith))))
        ])
