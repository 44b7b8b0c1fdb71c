-- A partition in two slots of two words and in a list: a vertex goes from the one to the other. Assumes nothing.
use Rattle.std.specs.Prelude.{Bool, false, not, ◌&&◌, ◌||◌, ◌≡◌, refl, List, map, eqb, Float, get_or, set}
use Rattle.std.proofs.Math.Bool.{cond, and-false, and_self, or-true, or-false}
use Rattle.std.proofs.Math.Path.{sym}
use Rattle.std.proofs.Common.{ap, ◌∙◌, subst, arith, eq-eqb, ne_eqb, length-set, get_or-set_same, get_or-set_other}
use Prim.Native.Nat.{ℕ, zero, suc, ◌+◌, ◌-◌, ◌*◌, ◌≤◌, ◌<◌}
use Rattle.std.proofs.Math.Decide.{ℕ_discrete}
use Rattle.std.specs.Float.{binary64}
use Rattle.std.specs.Float.Ieee.{add, sub}
use Rattle.std.proofs.Math.ListN.{length, length-map}
use Rattle.std.proofs.Math.Seq.{ext_get_or}
use Rattle.spec.specs.Lists.{range}
use Rattle.spec.specs.Floats.{zero_float}
use Rattle.spec.specs.Hypergraph.{Hypergraph, Sides, moved}
use Rattle.laws.specs.Booleans.{eqb_self}
use Rattle.laws.specs.ListLaws.{range_length}
use Rattle.laws.specs.LayoutLaws.{from_at}
use Rattle.slots.specs.Slots.{held, with_set, with_set_length, held_with, held_with_other}
use Rattle.partition.specs.Layout.{sides_in}
use Rattle.partition.specs.declared.place.Place.{Place}
use Rattle.partition.specs.Layout.{Placed}
use Rattle.moves.specs.Kept.{Kept, kept_then, kept_with, Site}

-- The slots sides and sides + 1 hold the vertices of side 0 and of side 1.
pub record Split (ws : List ℕ) (sides n : ℕ) (part : List ℕ) : Type 0 where
  pub long : length part ≡ n
  pub bits : (v : ℕ) → get_or part v 0 < 2
  pub slot : (t v : ℕ) → t < 2 → v < n → held ws 2 (sides + t) v ≡ eqb (get_or part v 0) t

-- ---- as the gains want it ----

module _ (ws : List ℕ) (sides n : ℕ) (part : List ℕ) (h : Split ws sides n part) where
  pub split_sides : sides_in ws sides n ≡ part
  unfolding sides_in
  split_sides =
      let l : length (map side (range n)) ≡ n = length-map (range n) side ∙ range_length 0 n in
      ext_get_or 0 (map side (range n)) part (l ∙ sym h.long) (λ v b. let c : v < n = omega (arith, l) in from_at side 0 0 n v c ∙ same v c)
    where
      side : ℕ → ℕ
      side v = cond (held ws 2 (sides + 1) v) 1 0

      bit : (x : ℕ) → x < 2 → cond {A = ℕ} (eqb x 1) 1 0 ≡ x
      bit zero b = refl
      bit (suc zero) b = refl
      bit (suc (suc x)) b = absurd (omega arith)

      same : (v : ℕ) → v < n → side (0 + v) ≡ get_or part v 0
      same v c =
          let z : 0 + v ≡ v = omega arith in
          ap side z ∙ ap (λ t. cond {A = ℕ} t 1 0) (h.slot 1 v (omega arith) c) ∙ bit (get_or part v 0) (h.bits v)

  split_apart : (v : ℕ) → v < n → held ws 2 sides v ≡ not (held ws 2 (sides + 1) v)
  split_apart v b =
      let z : sides + 0 ≡ sides = omega arith in
      ap (λ (s : ℕ). held ws 2 s v) (sym z) ∙ h.slot 0 v (omega arith) b ∙ bit (get_or part v 0) (h.bits v) ∙ ap not (sym (h.slot 1 v (omega arith) b))
    where
      bit : (x : ℕ) → x < 2 → eqb x 0 ≡ not (eqb x 1)
      bit zero b = refl
      bit (suc zero) b = refl
      bit (suc (suc x)) b = absurd (omega arith)

pub site_placed : (ws : List ℕ) (o : Place) (part : List ℕ) → Site ws o → Split ws o.sides o.vertex_count part → Placed ws o
site_placed ws o part h s =
    record {
      low = (h.low.0, h.low.1, omega (arith, h.low.2));
      laid = record {
        few = h.mesh.few;
        crossed = h.mesh.crossed;
        within = h.within;
        apart = split_apart ws o.sides o.vertex_count part s;
      };
    }

-- what is done behind the two slots leaves the partition
pub split_with : (ws : List ℕ) (sides n : ℕ) (part : List ℕ) (s : ℕ) (p : ℕ → Bool) → n ≤ 128 → sides + 2 ≤ s → Split ws sides n part → Split (with_set ws 2 s p) sides n part
split_with ws sides n part s p few b h =
    record {
      long = h.long;
      bits = h.bits;
      slot = λ t v l c. held_with_other ws 2 s p (sides + t) v (omega arith) (λ e. omega arith) ∙ h.slot t v l c;
    }

-- ---- a move ----

abbrev pub sides_as : List ℕ → List Float → Sides
sides_as part w = record { part = part; weights = w }

pub record Moved (ws ws' : List ℕ) (sides : ℕ) (vw : List Float) (v : ℕ) (S S' : Sides) : Type 0 where
  pub move : (G : Hypergraph) → G.weights ≡ vw → S' ≡ moved G v S
  pub split : Split ws' sides (length vw) S'.part
  pub kept : Kept (sides * 2) ws ws'
  pub others : (j : ℕ) → j < 128 → held ws' 2 (sides + 2) j ≡ held ws 2 (sides + 2) j

module _ (ws ws₁ ws₂ : List ℕ) (sides n : ℕ) (part : List ℕ) (v s t : ℕ) (few : n ≤ 128) (b : v < n) (room : sides * 2 + 6 ≤ length ws) (h : Split ws sides n part)
    (es : s ≡ get_or part v 0) (et : t ≡ 1 - s)
    (e₁ : ws₁ ≡ with_set ws 2 (sides + t) (λ j. held ws 2 (sides + t) j || eqb j v))
    (e₂ : ws₂ ≡ with_set ws₁ 2 (sides + s) (λ j. held ws₁ 2 (sides + s) j && not (held ws₁ 2 (sides + t) j))) where
  two : (s < 2) × (t < 2) × (s + t ≡ 1)
  two = let z : s < 2 = omega (arith, h.bits v) in (z, omega arith, omega arith)

  long₁ : length ws₁ ≡ length ws
  long₁ = ap length e₁ ∙ with_set_length ws 2 (sides + t) _

  pub shift_kept : Kept (sides * 2) ws ws₂
  shift_kept =
      kept_then (sides * 2) ws ws₁ ws₂
      (subst (Kept (sides * 2) ws) (sym e₁) (kept_with (sides * 2) ws (sides + t) _ (omega arith)))
      (subst (Kept (sides * 2) ws₁) (sym e₂) (kept_with (sides * 2) ws₁ (sides + s) _ (omega arith)))

  at₁ : (x : ℕ) → x < 128 → held ws₁ 2 (sides + t) x ≡ (held ws 2 (sides + t) x || eqb x v)
  at₁ x c = ap (λ l. held l 2 (sides + t) x) e₁ ∙ held_with ws 2 (sides + t) _ x (omega (arith, two)) c

  other₁ : (u x : ℕ) → x < 128 → (u ≡ t → ⊥) → held ws₁ 2 (sides + u) x ≡ held ws 2 (sides + u) x
  other₁ u x c f = ap (λ l. held l 2 (sides + u) x) e₁ ∙ held_with_other ws 2 (sides + t) _ (sides + u) x c (λ e. f (omega arith))

  at₂ : (x : ℕ) → x < 128 → held ws₂ 2 (sides + s) x ≡ (held ws₁ 2 (sides + s) x && not (held ws₁ 2 (sides + t) x))
  at₂ x c = ap (λ l. held l 2 (sides + s) x) e₂ ∙ held_with ws₁ 2 (sides + s) _ x (omega (arith, two, long₁)) c

  other₂ : (u x : ℕ) → x < 128 → (u ≡ s → ⊥) → held ws₂ 2 (sides + u) x ≡ held ws₁ 2 (sides + u) x
  other₂ u x c f = ap (λ l. held l 2 (sides + u) x) e₂ ∙ held_with_other ws₁ 2 (sides + s) _ (sides + u) x c (λ e. f (omega arith))

  pub shift_others : (j : ℕ) → j < 128 → held ws₂ 2 (sides + 2) j ≡ held ws 2 (sides + 2) j
  shift_others j c = other₂ 2 j c (λ e. omega (arith, two)) ∙ other₁ 2 j c (λ e. omega (arith, two))

  -- the side of x, by the new list
  come : (x : ℕ) → x < n → (held ws 2 (sides + t) x || eqb x v) ≡ eqb (get_or (set part v t) x 0) t
  come x c =
      elim (ℕ_discrete x v) [
        | yes e ↦ ap (λ q. held ws 2 (sides + t) x || q) (eq-eqb x v e) ∙ or-true (held ws 2 (sides + t) x)
            ∙ sym (ap (λ (y : ℕ). eqb y t) (ap (λ (z : ℕ). get_or (set part v t) z 0) e ∙ get_or-set_same part v t 0 (omega (arith, h.long))) ∙ eqb_self t)
        | no f ↦ ap (λ q. held ws 2 (sides + t) x || q) (ne_eqb x v f) ∙ or-false (held ws 2 (sides + t) x)
            ∙ h.slot t x two.1 c ∙ sym (ap (λ (y : ℕ). eqb y t) (get_or-set_other part v x t 0 f))
      ]

  -- what is not on the one side is on the other
  rest : (y : ℕ) → y < 2 → not (eqb y t) ≡ eqb y s
  rest y c =
      elim (ℕ_discrete y t) [
        | yes e ↦ ap not (eq-eqb y t e) ∙ sym (ne_eqb y s (λ f. omega (arith, two)))
        | no f ↦ ap not (ne_eqb y t f) ∙ sym (eq-eqb y s (omega (arith, two, f)))
      ]

  bits_set : (x : ℕ) → get_or (set part v t) x 0 < 2
  bits_set x =
      elim (ℕ_discrete x v) [
        | yes e ↦ rw e (rw (get_or-set_same part v t 0 (omega (arith, h.long))) two.1)
        | no f ↦ rw (get_or-set_other part v x t 0 f) (h.bits x)
      ]

  leave : (x : ℕ) → x < n → (held ws 2 (sides + s) x && not (eqb (get_or (set part v t) x 0) t)) ≡ eqb (get_or (set part v t) x 0) s
  leave x c =
      ap (λ q. held ws 2 (sides + s) x && q) (rest (get_or (set part v t) x 0) (bits_set x))
      ∙ elim (ℕ_discrete x v) [
        | yes e ↦ (let z : eqb (get_or (set part v t) x 0) s ≡ false =
            ap (λ (y : ℕ). eqb y s) (ap (λ (z : ℕ). get_or (set part v t) z 0) e ∙ get_or-set_same part v t 0 (omega (arith, h.long))) ∙ ne_eqb t s (λ f. omega (arith, two)) in
            ap (λ q. held ws 2 (sides + s) x && q) z ∙ and-false (held ws 2 (sides + s) x) ∙ sym z)
        | no f ↦ ap (λ q. q && eqb (get_or (set part v t) x 0) s) (h.slot s x two.0 c ∙ sym (ap (λ (y : ℕ). eqb y s) (get_or-set_other part v x t 0 f)))
            ∙ and_self (eqb (get_or (set part v t) x 0) s)
      ]

  -- A VERTEX GOES TO THE OTHER SLOT
  pub shift_split : Split ws₂ sides n (set part v t)
  shift_split =
      record {
        long = length-set part v t ∙ h.long;
        bits = bits_set;
        slot = λ u x l c. elim (ℕ_discrete u t) [
          | yes e ↦ ap (λ (z : ℕ). held ws₂ 2 (sides + z) x) e ∙ other₂ t x (omega arith) (λ f. omega (arith, two)) ∙ at₁ x (omega arith) ∙ come x c
              ∙ ap (λ (z : ℕ). eqb (get_or (set part v t) x 0) z) (sym e)
          | no f ↦ (let e : u ≡ s = omega (arith, two, f) in
              ap (λ (z : ℕ). held ws₂ 2 (sides + z) x) e ∙ at₂ x (omega arith)
              ∙ (λ i. other₁ s x (omega arith) (λ g. omega (arith, two)) i && not ((at₁ x (omega arith) ∙ come x c) i))
              ∙ leave x c ∙ ap (λ (z : ℕ). eqb (get_or (set part v t) x 0) z) (sym e))
        ];
      }

  -- THE MOVE, with the sides' weights
  pub move_is : (vw w w₁ w₂ : List Float) (part' : List ℕ) (x a d : Float) → length vw ≡ n
      → x ≡ get_or vw v zero_float → a ≡ get_or w s zero_float → d ≡ get_or w t zero_float
      → w₁ ≡ set w s (sub binary64 a x) → w₂ ≡ set w₁ t (add binary64 d x) → part' ≡ set part v t
      → Moved ws ws₂ sides vw v (sides_as part w) (sides_as part' w₂)
  move_is vw w w₁ w₂ part' x a d ev ex ea ed f₁ f₂ ep =
      record {
        move = λ G g.
            (λ i. sides_as (ep i) ((f₂ ∙ ap (λ l. set l t (add binary64 d x)) f₁) i))
            ∙ (λ i. sides_as (set part v t) (set (set w s (sub binary64 (ea i) (ex i))) t (add binary64 (ed i) (ex i))))
            ∙ (λ i. sides_as (set part v (et i)) (set (set w s (sub binary64 (get_or w s zero_float) (get_or (sym g i) v zero_float))) (et i) (add binary64 (get_or w (et i) zero_float) (get_or (sym g i) v zero_float))))
            ∙ ap (λ (z : ℕ). sides_as (set part v (1 - z)) (set (set w z (sub binary64 (get_or w z zero_float) (get_or G.weights v zero_float))) (1 - z) (add binary64 (get_or w (1 - z) zero_float) (get_or G.weights v zero_float)))) es;
        split = subst (λ (k : ℕ). Split ws₂ sides k part') (sym ev) (subst (Split ws₂ sides n) (sym ep) shift_split);
        kept = shift_kept;
        others = shift_others;
      }
