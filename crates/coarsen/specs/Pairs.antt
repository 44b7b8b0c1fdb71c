-- A matching is mutual: the mate of a vertex's mate is the vertex. Assumes nothing.
use Rattle.std.specs.Prelude.{Bool, true, not, ◌&&◌, cond, ◌≡◌, refl, List, [], ◌∷◌, ◌++◌, ℕ, zero, suc, ◌-◌, ◌≤◌, ◌<◌, max, eqb, leb, Float, length, get_or, set, replicate, Option, None, Some}
use Rattle.std.proofs.Common.{sym, ap, ◌∙◌, subst, arith, length-set, get_or-set_same, get_or-set_other, eqb-true, eq-eqb}
use Rattle.std.proofs.Math.Decide.{ℕ_discrete, dec_le}
use Rattle.std.specs.Float.{binary64}
use Rattle.std.specs.Float.Ieee.{add, mul, div, lt, le, eq}
use Rattle.std.proofs.lemmas.List.{length-replicate, get_or-replicate}
use Rattle.std.proofs.Math.ListN.{get_or-eq_default}
use Rattle.spec.specs.Lists.{memb, range}
use Rattle.spec.specs.Floats.{zero_float, whole_float, micro}
use Rattle.spec.specs.Draws.{Words, Drawn, drawn, unit_draw}
use Rattle.spec.specs.Hypergraph.{fold_over, Net, Hypergraph, vertex_count, vertex_weight, nets_at}
use Rattle.spec.specs.Coarsen.{Ratings, Choice, unmatched, rated, open_pins, rated_by, ratings, looked_at, choice_of, mated, matched, shuffled, matching}
use Rattle.laws.specs.Booleans.{by_cases, or_cases, or_intror, and_left, and_right, clash}
use Rattle.laws.specs.ListLaws.{memb-append, memb_one, memb_head, keep_passes}
use Rattle.matching.specs.Order.{Below, below_shuffled, below_range}

-- ---- folds ----

fold_keeps : {A S : Type 0} (P : S → Type 0) (f : A → S → S) (l : List A) (s : S) → ((x : A) (t : S) → P t → P (f x t)) → P s → P (fold_over f l s)
fold_keeps P f [] s h p = p
fold_keeps P f (x ∷ l) s h p = fold_keeps P f l (f x s) h (h x s p)

-- the same where only members of the list are met
fold_over_lem : {S : Type 0} (P : S → Type 0) (f : ℕ → S → S) (l : List ℕ) (s : S) → ((x : ℕ) (t : S) → memb x l ≡ true → P t → P (f x t)) → P s → P (fold_over f l s)
fold_over_lem P f [] s h p = p
fold_over_lem P f (x ∷ l) s h p = fold_over_lem P f l (f x s) (λ y t m q. h y t (or_intror (eqb y x) (memb y l) m) q) (h x s (memb_head x l) p)

-- ---- mates ----

-- each of n vertices has no mate yet, which n stands for, or is its mate's mate
pub record Mutual (n : ℕ) (mates : List ℕ) : Type 0 where
  pub same : length mates ≡ n
  pub back : (v : ℕ) → v < n → (get_or mates v 0 ≡ n → ⊥) → (get_or mates v 0 < n) × (get_or mates (get_or mates v 0) 0 ≡ v)

module _ (n : ℕ) (mates : List ℕ) (h : Mutual n mates) (v : ℕ) (lv : v < n) (nv : get_or mates v 0 ≡ n) where
  -- no one has v as a mate
  stranger : (w x : ℕ) → w < n → get_or mates x 0 ≡ w → x ≡ v → ⊥
  stranger w x lw e q = let z : get_or mates v 0 ≡ w = ap (λ (y : ℕ). get_or mates y 0) (sym q) ∙ e in omega arith

  mutual_alone : Mutual n (set mates v v)
  mutual_alone =
      record {
        same = length-set mates v v ∙ h.same;
        back = λ w lw d. elim (ℕ_discrete w v) [
          | yes q ↦ self w q
          | no q ↦ other w lw q (λ e. d (get_or-set_other mates v w v 0 q ∙ e))
        ];
      }
    where
      at_v : get_or (set mates v v) v 0 ≡ v
      at_v = get_or-set_same mates v v 0 (omega (arith, h.same))

      self : (w : ℕ) → w ≡ v → (get_or (set mates v v) w 0 < n) × (get_or (set mates v v) (get_or (set mates v v) w 0) 0 ≡ w)
      self w q = rw q (rw at_v (lv, at_v))

      other : (w : ℕ) → w < n → (w ≡ v → ⊥) → (get_or mates w 0 ≡ n → ⊥) → (get_or (set mates v v) w 0 < n) × (get_or (set mates v v) (get_or (set mates v v) w 0) 0 ≡ w)
      other w lw q d =
          let b = h.back w lw d in
          let z : get_or (set mates v v) w 0 ≡ get_or mates w 0 = get_or-set_other mates v w v 0 q in
          rw z (b.0, get_or-set_other mates v (get_or mates w 0) v 0 (stranger w (get_or mates w 0) lw b.1) ∙ b.1)

module _ (n : ℕ) (mates : List ℕ) (h : Mutual n mates) (v u : ℕ) (lv : v < n) (lu : u < n) (nv : get_or mates v 0 ≡ n) (nu : get_or mates u 0 ≡ n) (d : u ≡ v → ⊥) where
  abbrev two : List ℕ
  two = set (set mates v u) u v

  at_u : get_or two u 0 ≡ v
  at_u = get_or-set_same (set mates v u) u v 0 (omega (arith, length-set mates v u, h.same))

  at_v : get_or two v 0 ≡ u
  at_v = get_or-set_other (set mates v u) u v v 0 (λ q. d (sym q)) ∙ get_or-set_same mates v u 0 (omega (arith, h.same))

  elsewhere : (w : ℕ) → (w ≡ u → ⊥) → (w ≡ v → ⊥) → get_or two w 0 ≡ get_or mates w 0
  elsewhere w p q = get_or-set_other (set mates v u) u w v 0 p ∙ get_or-set_other mates v w u 0 q

  mutual_pair : Mutual n two
  mutual_pair =
      record {
        same = length-set (set mates v u) u v ∙ length-set mates v u ∙ h.same;
        back = λ w lw f. elim (ℕ_discrete w u) [
          | yes p ↦ rw p (rw at_u (lv, at_v))
          | no p ↦ elim (ℕ_discrete w v) [
            | yes q ↦ rw q (rw at_v (lu, at_u))
            | no q ↦ other w lw p q (λ e. f (elsewhere w p q ∙ e))
          ]
        ];
      }
    where
      other : (w : ℕ) → w < n → (w ≡ u → ⊥) → (w ≡ v → ⊥) → (get_or mates w 0 ≡ n → ⊥) → (get_or two w 0 < n) × (get_or two (get_or two w 0) 0 ≡ w)
      other w lw p q f =
          let b = h.back w lw f in
          rw (elsewhere w p q) (
            b.0,
            elsewhere (get_or mates w 0) (stranger n mates h u lu nu w (get_or mates w 0) lw b.1) (stranger n mates h v lv nv w (get_or mates w 0) lw b.1) ∙ b.1,
          )

-- ---- a vertex is matched ----

module _ (G : Hypergraph) (maxw : Float) where
  abbrev n : ℕ
  n = vertex_count G

  module _ (mates : List ℕ) (v : ℕ) where
    -- u may be v's mate
    abbrev Open : ℕ → Type 0
    Open u = (u ≡ v → ⊥) × (get_or mates u 0 ≡ n)

    abbrev Opens : Ratings → Type 0
    Opens t = (u : ℕ) → memb u t.touched ≡ true → Open u

    opens_rated : (r : Float) (u : ℕ) (t : Ratings) → Open u → Opens t → Opens (rated G maxw r u t)
    opens_rated r u t o h w m =
        by_cases (eq (get_or t.rating u zero_float) zero_float)
        (λ e. or_cases (memb w t.touched) (memb w (u ∷ []))
        (sym (memb-append w t.touched (u ∷ [])) ∙ sym (ap (λ b. memb w (cond b (t.touched ++ (u ∷ [])) t.touched)) e) ∙ m)
        (h w)
        (λ q. subst Open (sym (memb_one w u q)) o))
        (λ e. h w (sym (ap (λ b. memb w (cond b (t.touched ++ (u ∷ [])) t.touched)) e) ∙ m))

    open_pin : (e : Net) (u : ℕ) → memb u (open_pins G maxw mates v e) ≡ true → Open u
    open_pin e u m =
        let p : (not (eqb u v) && unmatched G maxw mates u) ≡ true = keep_passes u (λ u. not (eqb u v) && unmatched G maxw mates u) e.pins m in (
          λ q. clash (and_left (not (eqb u v)) (unmatched G maxw mates u) p) (ap not (eq-eqb u v q)),
          eqb-true (get_or mates u 0) n (and_right (not (eqb u v)) (unmatched G maxw mates u) p),
        )

    opens_net : (e : Net) (t : Ratings) → Opens t → Opens (rated_by G maxw mates v e t)
    opens_net e t h =
        let r = div binary64 e.weight (whole_float (max (length e.pins - 1) 1)) in
        by_cases (leb (length e.pins) 64)
        (λ q. rw q (fold_over_lem Opens (rated G maxw r) (open_pins G maxw mates v e) t (λ u s m k. opens_rated r u s (open_pin e u m) k) h))
        (λ q. rw q h)

    opens_all : Opens (ratings G maxw mates v)
    opens_all = fold_keeps Opens (rated_by G maxw mates v) (nets_at G v) _ opens_net (λ u m. clash m refl)

    -- the mate chosen, if there is one
    abbrev Chosen : Option ℕ → Type 0
    Chosen None = Unit {0}
    Chosen (Some u) = Open u

    chosen_look : (u : ℕ) (c : Choice) → Open u → Chosen c.mate → Chosen (looked_at G maxw v u c).mate
    chosen_look u c o h =
        by_cases better
        (λ e. subst (λ b. Chosen (cond b (Some u) c.mate)) (sym e) o)
        (λ e. subst (λ b. Chosen (cond b (Some u) c.mate)) (sym e) h)
      where
        better : Bool
        better =
            lt c.best (mul binary64 (get_or c.rating u zero_float) (add binary64 (whole_float 1) (mul binary64 micro (unit_draw c.words).value)))
            && le (add binary64 (vertex_weight G v) (vertex_weight G u)) maxw

    chosen_all : (ws : Words) → Chosen (choice_of G maxw v (ratings G maxw mates v) ws).mate
    chosen_all ws =
        fold_over_lem (λ (c : Choice). Chosen c.mate) (looked_at G maxw v) (ratings G maxw mates v).touched _
        (λ u c m h. chosen_look u c (opens_all u m) h) tt

    -- past the list's end 0 is read
    below_count : (u : ℕ) → get_or mates u 0 ≡ n → v < n → length mates ≡ n → u < n
    below_count u q lv e =
        elim (dec_le n u) [
          | yes l ↦ (let z : get_or mates u 0 ≡ 0 = get_or-eq_default mates 0 (omega arith) in absurd (omega arith))
          | no l ↦ omega (arith, l)
        ]

    mutual_mated : (o : Option ℕ) → Chosen o → v < n → get_or mates v 0 ≡ n → Mutual n mates → Mutual n (mated G maxw v o mates)
    mutual_mated None k lv e h = mutual_alone n mates h v lv e
    mutual_mated (Some u) k lv e h = mutual_pair n mates h v u lv (below_count u k.1 lv h.same) e k.1 k.0

  mutual_matched : (v : ℕ) (d : Drawn (List ℕ)) → v < n → Mutual n d.value → Mutual n (matched G maxw v d).value
  mutual_matched v d lv h =
      by_cases (unmatched G maxw d.value v)
      (λ e. rw e (mutual_mated d.value v (choice_of G maxw v (ratings G maxw d.value v) d.words).mate (chosen_all d.value v d.words) lv (eqb-true (get_or d.value v 0) n e) h))
      (λ e. rw e h)

  mutual_fold : (l : List ℕ) (d : Drawn (List ℕ)) → Below n l → Mutual n d.value → Mutual n (fold_over (matched G maxw) l d).value
  mutual_fold [] d b h = h
  mutual_fold (v ∷ l) d b h = mutual_fold l (matched G maxw v d) (λ k. b (suc k)) (mutual_matched v d (b zero) h)

  -- MATES ARE MUTUAL
  pub mutual_matching : (ws : Words) → 0 < n → Mutual n (matching G maxw ws).value
  mutual_matching ws b =
      let order = shuffled (n - 1) (drawn (range n) ws) in
      mutual_fold order.value (drawn (replicate n n) order.words) (below_shuffled n (n - 1) (drawn (range n) ws) (below_range n b))
      (record { same = length-replicate n n; back = λ v l d. absurd (d (get_or-replicate n v n 0 l)) })

-- a vertex whose mate is lower: that one's mate is not lower than it
abbrev pub Paired : ℕ → List ℕ → Type 0
Paired n mates = (v : ℕ) → v < n → get_or mates v 0 < v → get_or mates v 0 ≤ get_or mates (get_or mates v 0) 0

pub mutual_paired : (n : ℕ) (mates : List ℕ) → Mutual n mates → Paired n mates
mutual_paired n mates h v l b =
    let q : get_or mates (get_or mates v 0) 0 ≡ v = (h.back v l (λ e. omega arith)).1 in
    omega arith
