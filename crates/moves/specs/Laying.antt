-- A partition is laid into its two slots, vertex by vertex. Assumes nothing.
use Rattle.std.specs.Prelude.{false, ◌&&◌, ◌||◌, ◌≡◌, refl, List, ℕ, ◌+◌, ◌*◌, ◌≤◌, ◌<◌, eqb, ltb, length, get_or}
use Rattle.std.proofs.Math.Bool.{or-true, or-false}
use Rattle.std.proofs.Common.{sym, ap, ◌∙◌, subst, arith, eq-eqb, ne_eqb, lt-ltb, le-ltb}
use Rattle.std.proofs.Math.Decide.{ℕ_discrete}
use Rattle.laws.specs.Booleans.{ltb_next}
use Rattle.slots.specs.Slots.{held, with_set, with_set_length, held_with, held_with_other}
use Rattle.moves.specs.Kept.{Kept, kept_all, kept_then, kept_with}
use Rattle.moves.specs.Split.{Split}

-- each place is 0 or 1
abbrev pub Bits : List ℕ → Type 0
Bits part = (v : ℕ) → get_or part v 0 < 2

-- the first k vertices are in their slots
pub record Laying (ws₀ ws : List ℕ) (sides : ℕ) (part : List ℕ) (k : ℕ) : Type 0 where
  pub slot : (t v : ℕ) → t < 2 → v < length part → held ws 2 (sides + t) v ≡ (ltb v k && eqb (get_or part v 0) t)
  pub kept : Kept (sides * 2) ws₀ ws
  pub room : sides * 2 + 6 ≤ length ws

module _ (ws₀ ws₁ ws₂ : List ℕ) (sides : ℕ) (e₁ : ws₁ ≡ with_set ws₀ 2 sides (λ j. false)) (e₂ : ws₂ ≡ with_set ws₁ 2 (sides + 1) (λ j. false)) where
  pub emptied_kept : Kept (sides * 2) ws₀ ws₂
  emptied_kept =
      kept_then (sides * 2) ws₀ ws₁ ws₂
      (subst (Kept (sides * 2) ws₀) (sym e₁) (kept_with (sides * 2) ws₀ sides _ (omega arith)))
      (subst (Kept (sides * 2) ws₁) (sym e₂) (kept_with (sides * 2) ws₁ (sides + 1) _ (omega arith)))

  pub laying_none : (part : List ℕ) → length part ≤ 128 → sides * 2 + 6 ≤ length ws₀ → Laying ws₂ ws₂ sides part 0
  laying_none part few room =
      let l : length ws₁ ≡ length ws₀ = ap length e₁ ∙ with_set_length ws₀ 2 sides _ in
      record {
        slot = λ t v b c. elim (ℕ_discrete t 1) [
          | yes e ↦ ap (λ (z : ℕ). held ws₂ 2 (sides + z) v) e ∙ ap (λ w. held w 2 (sides + 1) v) e₂ ∙ held_with ws₁ 2 (sides + 1) _ v (omega (arith, l)) (omega arith) ∙ sym (none v t)
          | no f ↦ (let z : sides + t ≡ sides = omega (arith, f) in
              ap (λ (s : ℕ). held ws₂ 2 s v) z ∙ ap (λ w. held w 2 sides v) e₂ ∙ held_with_other ws₁ 2 (sides + 1) _ sides v (omega arith) (λ g. omega arith)
              ∙ ap (λ w. held w 2 sides v) e₁ ∙ held_with ws₀ 2 sides _ v (omega arith) (omega arith) ∙ sym (none v t))
        ];
        kept = kept_all (sides * 2) ws₂;
        room = omega (arith, room, emptied_kept.long);
      }
    where
      none : (v t : ℕ) → (ltb v 0 && eqb (get_or part v 0) t) ≡ false
      none v t = ap (λ b. b && eqb (get_or part v 0) t) (le-ltb v 0 (omega arith))

module _ (ws₀ : List ℕ) (sides : ℕ) (part : List ℕ) (few : length part ≤ 128) (bits : Bits part) where
  pub laying_next : (ws ws' : List ℕ) (k s : ℕ) → k < length part → s ≡ get_or part k 0
      → ws' ≡ with_set ws 2 (sides + s) (λ j. held ws 2 (sides + s) j || eqb j k) → Laying ws₀ ws sides part k → Laying ws₀ ws' sides part (k + 1)
  laying_next ws ws' k s b es e h =
      let two : s < 2 = omega (arith, bits k) in
      record {
        slot = λ t v d c. elim (ℕ_discrete t s) [
          | yes q ↦ ap (λ (z : ℕ). held ws' 2 (sides + z) v) q ∙ ap (λ w. held w 2 (sides + s) v) e
              ∙ held_with ws 2 (sides + s) _ v (omega (arith, h.room)) (omega arith) ∙ ap (λ x. x || eqb v k) (h.slot s v two c) ∙ here v
              ∙ ap (λ (z : ℕ). ltb v (k + 1) && eqb (get_or part v 0) z) (sym q)
          | no f ↦ ap (λ w. held w 2 (sides + t) v) e ∙ held_with_other ws 2 (sides + s) _ (sides + t) v (omega arith) (λ g. f (omega arith)) ∙ h.slot t v d c ∙ there v t f
        ];
        kept = kept_then (sides * 2) ws₀ ws ws' h.kept (subst (Kept (sides * 2) ws) (sym e) (kept_with (sides * 2) ws (sides + s) _ (omega arith)));
        room = omega (arith, h.room, ap length e ∙ with_set_length ws 2 (sides + s) _);
      }
    where
      here : (v : ℕ) → (ltb v k && eqb (get_or part v 0) s || eqb v k) ≡ (ltb v (k + 1) && eqb (get_or part v 0) s)
      here v =
          elim (ℕ_discrete v k) [
            | yes q ↦ ap (λ x. ltb v k && eqb (get_or part v 0) s || x) (eq-eqb v k q) ∙ or-true (ltb v k && eqb (get_or part v 0) s)
                ∙ sym (ap (λ x. x && eqb (get_or part v 0) s) (lt-ltb v (k + 1) (omega arith)) ∙ eq-eqb (get_or part v 0) s (ap (λ (z : ℕ). get_or part z 0) q ∙ sym es))
            | no f ↦ ap (λ x. ltb v k && eqb (get_or part v 0) s || x) (ne_eqb v k f) ∙ or-false (ltb v k && eqb (get_or part v 0) s) ∙ ap (λ x. x && eqb (get_or part v 0) s) (ltb_next v k f)
          ]

      there : (v t : ℕ) → (t ≡ s → ⊥) → (ltb v k && eqb (get_or part v 0) t) ≡ (ltb v (k + 1) && eqb (get_or part v 0) t)
      there v t f =
          elim (ℕ_discrete v k) [
            | yes q ↦ ap (λ x. x && eqb (get_or part v 0) t) (le-ltb v k (omega arith))
                ∙ sym (ap (λ x. x && eqb (get_or part v 0) t) (lt-ltb v (k + 1) (omega arith)) ∙ ne_eqb (get_or part v 0) t (λ g. f (sym g ∙ ap (λ (z : ℕ). get_or part z 0) q ∙ sym es)))
            | no g ↦ ap (λ x. x && eqb (get_or part v 0) t) (ltb_next v k g)
          ]

  pub laying_all : (ws : List ℕ) (k : ℕ) → length part ≤ k → Laying ws₀ ws sides part k → Split ws sides (length part) part
  laying_all ws k b h =
      record {
        long = refl;
        bits = bits;
        slot = λ t v d c. h.slot t v d c ∙ ap (λ x. x && eqb (get_or part v 0) t) (lt-ltb v k (omega arith));
      }
