-- One index put into a slot for each number of a list; slots emptied. Assumes nothing.
use Rattle.std.specs.Prelude.{Bool, true, false, ◌&&◌, ◌||◌, ◌≡◌, List}
use Rattle.std.proofs.Math.Bool.{or-false}
use Rattle.std.proofs.Math.Path.{refl, sym, ap}
use Rattle.std.proofs.Common.{◌∙◌, arith, mul-le-mul_right, suc-mul, eq-eqb, ne_eqb}
use Prim.Native.Nat.{ℕ, zero, suc, ◌+◌, ◌*◌, ◌≤◌, ◌<◌}
use Rattle.std.proofs.Math.Decide.{ℕ_discrete}
use Rattle.std.proofs.Math.Dec.{eqb}
use Rattle.std.proofs.Math.ListN.{length, get_or}
use Rattle.cells.specs.Loop.{turns}
use Rattle.slots.specs.Slots.{held, with_set, with_set_length, held_with, held_with_other}
use Rattle.slots.specs.Writes.{among}
use Rattle.mesh.specs.Stays.{Stays, stays_none, stays_then, stays_with}

-- slots base on, b of them, begin and end at these words
slot_from : (W base v : ℕ) → base * W ≤ (base + v) * W
slot_from W base v = mul-le-mul_right {m = base} {n = base + v} W (omega arith)

slot_to : (W base v b : ℕ) → v < b → (base + v) * W + W ≤ (base + b) * W
slot_to W base v b h = omega (arith, mul-le-mul_right {m = suc (base + v)} {n = base + b} W (omega arith), suc-mul (base + v) W)

-- ---- emptied ----

module _ (W base : ℕ) where
  unfoldable pub emptied : List ℕ → ℕ → List ℕ
  emptied ws n = turns (λ v t. with_set t W (base + v) (λ j. false)) ws n

  pub emptied_stays : (ws : List ℕ) (n b : ℕ) → n ≤ b → Stays (base * W) ((base + b) * W) ws (emptied ws n)
  unfolding emptied turns
  emptied_stays ws zero b h = stays_none _ _ ws
  emptied_stays ws (suc n) b h =
      stays_then _ _ ws (emptied ws n) _ (emptied_stays ws n b (omega arith))
      (stays_with _ _ (emptied ws n) W (base + n) _ (slot_from W base n) (slot_to W base n b h))

  pub emptied_held : (ws : List ℕ) (n v j : ℕ) → v < n → (base + n) * W ≤ length ws → j < W * 64 → held (emptied ws n) W (base + v) j ≡ false
  unfolding emptied turns
  emptied_held ws zero v j h r b = absurd (omega arith)
  emptied_held ws (suc n) v j h r b =
      let l : length (emptied ws n) ≡ length ws = (emptied_stays ws n n (omega arith)).same in
      elim (ℕ_discrete v n) [
        | yes e ↦ rw e (held_with (emptied ws n) W (base + n) _ j (omega (arith, l, slot_to W base n (suc n) (omega arith))) b)
        | no e ↦ held_with_other (emptied ws n) W (base + n) _ (base + v) j b (λ q. e (omega arith))
            ∙ emptied_held ws n v j (omega (arith, e)) (omega (arith, slot_to W base n (suc n) (omega arith))) b
      ]

-- ---- entered ----

entered_there : (h a b : Bool) → ((h || (a && b)) || b) ≡ (h || ((a || true) && b))
entered_there true a b = refl
entered_there false true true = refl
entered_there false true false = refl
entered_there false false b = refl

entered_elsewhere : (h a b : Bool) → (h || (a && b)) ≡ (h || ((a || false) && b))
entered_elsewhere h true b = refl
entered_elsewhere h false b = refl

module _ (W base : ℕ) (list : List ℕ) (at x : ℕ) where
  -- x is put into slot base + v for each of the n numbers v from place `at` on
  abbrev pub entry : ℕ → List ℕ → List ℕ
  entry k t = with_set t W (base + get_or list (at + k) 0) (λ j. held t W (base + get_or list (at + k) 0) j || eqb j x)

  unfoldable pub entered : List ℕ → ℕ → List ℕ
  entered ws n = turns entry ws n

  pub entered_length : (ws : List ℕ) (n : ℕ) → length (entered ws n) ≡ length ws
  unfolding entered turns
  entered_length ws zero = refl
  entered_length ws (suc n) = with_set_length (entered ws n) W _ _ ∙ entered_length ws n

  pub entered_stays : (ws : List ℕ) (n b : ℕ) → ((k : ℕ) → k < n → get_or list (at + k) 0 < b) → Stays (base * W) ((base + b) * W) ws (entered ws n)
  unfolding entered turns
  entered_stays ws zero b h = stays_none _ _ ws
  entered_stays ws (suc n) b h =
      stays_then _ _ ws (entered ws n) _ (entered_stays ws n b (λ k l. h k (omega arith)))
      (stays_with _ _ (entered ws n) W (base + get_or list (at + n) 0) _ (slot_from W base (get_or list (at + n) 0)) (slot_to W base (get_or list (at + n) 0) b (h n (omega arith))))

  pub entered_held : (ws : List ℕ) (n b v j : ℕ) → ((k : ℕ) → k < n → get_or list (at + k) 0 < b) → v < b → (base + b) * W ≤ length ws → j < W * 64
      → held (entered ws n) W (base + v) j ≡ (held ws W (base + v) j || (among list at n v && eqb j x))
  unfolding entered turns
  entered_held ws zero b v j f g r l = sym (or-false (held ws W (base + v) j))
  entered_held ws (suc n) b v j f g r l =
      let u = get_or list (at + n) 0 in
      let t = entered ws n in
      let ih : held t W (base + v) j ≡ (held ws W (base + v) j || (among list at n v && eqb j x)) = entered_held ws n b v j (λ k q. f k (omega arith)) g r l in
      elim (ℕ_discrete v u) [
        | yes e ↦ ap (λ (i : ℕ). held (entry n t) W (base + i) j) e
            ∙ held_with t W (base + u) (λ i. held t W (base + u) i || eqb i x) j (omega (arith, entered_length ws n, slot_to W base u b (f n (omega arith)))) l
            ∙ ap (λ (i : ℕ). held t W (base + i) j || eqb j x) (sym e)
            ∙ ap (λ (h : Bool). h || eqb j x) ih
            ∙ entered_there (held ws W (base + v) j) (among list at n v) (eqb j x)
            ∙ ap (λ (h : Bool). held ws W (base + v) j || ((among list at n v || h) && eqb j x)) (sym (eq-eqb v u e))
        | no e ↦ held_with_other t W (base + u) (λ i. held t W (base + u) i || eqb i x) (base + v) j l (λ q. e (omega arith))
            ∙ ih
            ∙ entered_elsewhere (held ws W (base + v) j) (among list at n v) (eqb j x)
            ∙ ap (λ (h : Bool). held ws W (base + v) j || ((among list at n v || h) && eqb j x)) (sym (ne_eqb v u e))
      ]
