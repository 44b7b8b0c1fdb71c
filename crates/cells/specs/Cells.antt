-- Lists filled, cleared, copied and written into: laws, and samples. Assumes nothing.
use Rattle.std.specs.Prelude.{◌≡◌, drop, replicate}
use Rattle.std.proofs.Math.Path.{refl, sym, ap}
use Rattle.std.proofs.Common.{◌∙◌, add-one, arith, length-append, ext_get_or, take_at, drop-cons}
use mathlib.Core.List.{List, [], ◌∷◌, ◌++◌, append-nil}
use Prim.Native.Nat.{ℕ, zero, suc, ◌+◌, ◌-◌, ◌<◌, ◌≤◌, min}
use Rattle.std.proofs.Math.Nat.{zero-min, suc-min-suc, zero-add, suc-add}
use Rattle.std.proofs.Math.Decide.{dec_le}
use Rattle.std.proofs.Math.ListN.{length, get_or, set, take, length-take, length-drop, length-replicate, get_or-replicate, drop_of_length-le, take-append-drop, get_or-eq_default}
use Rattle.std.proofs.Math.Seq.{take-nil, take_all, take-length, take-suc, length-take-le, get_or-take}
use Rattle.std.proofs.lemmas.List.Edits.{sets, sets-eq}
use Rattle.spec.specs.Memory.{filled, over, copied, placed, cleared}

-- ---- samples: within the list, and past its end

abbrev three : List ℕ
three = 1 ∷ 2 ∷ 3 ∷ []

samples : (cleared three 2 ≡ 0 ∷ 0 ∷ 3 ∷ [])
    × (cleared three 9 ≡ 0 ∷ 0 ∷ 0 ∷ [])
    × (copied three (7 ∷ 8 ∷ []) 1 ≡ 7 ∷ 2 ∷ 3 ∷ [])
    × (copied three (7 ∷ 8 ∷ []) 9 ≡ 7 ∷ 8 ∷ 3 ∷ [])
    × (copied three (6 ∷ 7 ∷ 8 ∷ 9 ∷ []) 9 ≡ 6 ∷ 7 ∷ 8 ∷ [])
    × (placed three 1 (7 ∷ []) ≡ 1 ∷ 7 ∷ 3 ∷ [])
    × (placed three 2 (7 ∷ 8 ∷ []) ≡ 1 ∷ 2 ∷ 7 ∷ [])
    × (placed three 9 (7 ∷ []) ≡ three)
unfolding filled over copied placed cleared
samples = (refl, refl, refl, refl, refl, refl, refl, refl)

module _ {A : Type 0} where
  -- within the list it does not matter what is read past its end
  pub get_or_within : (l : List A) (k : ℕ) (y z : A) → k < length l → get_or l k y ≡ get_or l k z
  get_or_within [] k y z h = absurd (omega arith)
  get_or_within (x ∷ l) zero y z h = refl
  get_or_within (x ∷ l) (suc k) y z h = get_or_within l k y z (omega arith)

  pub filled_length : (n : ℕ) (x : A) → length (filled n x) ≡ n
  unfolding filled
  filled_length n x = length-replicate n x

  pub filled_at : (n k : ℕ) (x z : A) → k < n → get_or (filled n x) k z ≡ x
  unfolding filled
  filled_at n k x z h = get_or-replicate n k x z h

  -- the same at every k, where x is also what is read past the end
  pub filled_all : (n k : ℕ) (x : A) → get_or (filled n x) k x ≡ x
  unfolding filled
  filled_all zero k x = refl
  filled_all (suc n) zero x = refl
  filled_all (suc n) (suc k) x = filled_all n k x

  filled-suc : (n : ℕ) (x : A) → filled (suc n) x ≡ filled n x ++ x ∷ []
  unfolding filled
  filled-suc zero x = refl
  filled-suc (suc n) x = ap (λ (l : List A). x ∷ l) (filled-suc n x)

  -- the front of a list of one value
  pub front_filled : (n k : ℕ) (x : A) → n ≤ k → take n (replicate k x) ≡ filled n x
  unfolding filled
  front_filled zero k x h = refl
  front_filled (suc n) zero x h = absurd (omega arith)
  front_filled (suc n) (suc k) x h = ap (λ (l : List A). x ∷ l) (front_filled n k x (omega arith))

  -- what was put at a list's front stands there
  pub take-sets : (l vs : List A) → length vs ≤ length l → take (length vs) (sets l 0 vs) ≡ vs
  take-sets l vs h = ap (take (length vs)) (sets-eq vs l 0 (omega arith)) ∙ take_at vs (drop (0 + length vs) l) (length vs) refl

  pub drop_here : (l : List A) (i : ℕ) (d : A) → i < length l → drop i l ≡ get_or l i d ∷ drop (i + 1) l
  drop_here l i d h = drop-cons l i d h ∙ ap (λ (k : ℕ). get_or l i d ∷ drop k l) (sym (add-one i))

  -- ---- one list over the front of another

  pub over-nil : (d : List A) → over d [] ≡ d
  unfolding over
  over-nil [] = refl
  over-nil (x ∷ d) = refl

  pub over_length : (d s : List A) → length (over d s) ≡ length d
  unfolding over
  over_length [] s = refl
  over_length (x ∷ d) [] = refl
  over_length (x ∷ d) (y ∷ s) = ap suc (over_length d s)

  pub over_at : (d s : List A) (k : ℕ) (z : A) → k < length d → k < length s → get_or (over d s) k z ≡ get_or s k z
  unfolding over
  over_at [] s k z h l = absurd (omega arith)
  over_at (x ∷ d) [] k z h l = absurd (omega arith)
  over_at (x ∷ d) (y ∷ s) zero z h l = refl
  over_at (x ∷ d) (y ∷ s) (suc k) z h l = over_at d s k z (omega arith) (omega arith)

  pub over_past : (d s : List A) (k : ℕ) (z : A) → length s ≤ k → get_or (over d s) k z ≡ get_or d k z
  unfolding over
  over_past [] s k z h = refl
  over_past (x ∷ d) [] k z h = refl
  over_past (x ∷ d) (y ∷ s) zero z h = absurd (omega arith)
  over_past (x ∷ d) (y ∷ s) (suc k) z h = over_past d s k z (omega arith)

  pub over_all : (d s : List A) → length s ≡ length d → over d s ≡ s
  unfolding over
  over_all [] [] e = refl
  over_all [] (y ∷ s) e = absurd (omega arith)
  over_all (x ∷ d) [] e = absurd (omega arith)
  over_all (x ∷ d) (y ∷ s) e = ap (λ (l : List A). y ∷ l) (over_all d s (omega arith))

  -- one element more
  pub over_front : (d s : List A) → length s ≤ length d → s ++ drop (length s) d ≡ over d s
  unfolding over
  over_front [] [] h = refl
  over_front [] (y ∷ s) h = absurd (omega arith)
  over_front (x ∷ d) [] h = refl
  over_front (x ∷ d) (y ∷ s) h = ap (λ l. y ∷ l) (over_front d s (omega arith))

  pub over_snoc : (d s : List A) (x : A) → set (over d s) (length s) x ≡ over d (s ++ x ∷ [])
  unfolding over
  over_snoc [] s x = refl
  over_snoc (y ∷ d) [] x = ap (λ (l : List A). x ∷ l) (sym (over-nil d))
  over_snoc (y ∷ d) (z ∷ s) x = ap (λ (l : List A). z ∷ l) (over_snoc d s x)

  -- one after the other is both at once
  over_next : (d s t : List A) → take (length s) (over d s) ++ over (drop (length s) (over d s)) t ≡ over d (s ++ t)
  unfolding over
  over_next d [] t = ap (λ (l : List A). over l t) (over-nil d)
  over_next [] (y ∷ s) t = refl
  over_next (x ∷ d) (y ∷ s) t = ap (λ (l : List A). y ∷ l) (over_next d s t)

  -- ---- filled

  -- the loop that fills: none yet, a turn, and its end
  pub filled_none : (d : List A) (x : A) → d ≡ over d (filled 0 x)
  unfolding filled
  filled_none d x = sym (over-nil d)

  pub filled_next : {a : List A} (d : List A) (n : ℕ) (x : A) → a ≡ over d (filled n x) → set a n x ≡ over d (filled (n + 1) x)
  filled_next d n x e =
      ap (λ (l : List A). set l n x) e
      ∙ ap (λ (k : ℕ). set (over d (filled n x)) k x) (sym (filled_length n x))
      ∙ over_snoc d (filled n x) x
      ∙ ap (over d) (sym (ap (λ (k : ℕ). filled k x) (add-one n) ∙ filled-suc n x))

  pub filled_end : (d : List A) (n : ℕ) (x : A) → length d ≤ n → over d (filled n x) ≡ filled (length d) x
  unfolding over filled
  filled_end [] n x h = refl
  filled_end (y ∷ d) zero x h = absurd (omega arith)
  filled_end (y ∷ d) (suc n) x h = ap (λ (l : List A). x ∷ l) (filled_end d n x (omega arith))

  -- ---- copied

  pub copied_length : (d s : List A) (n : ℕ) → length (copied d s n) ≡ length d
  unfolding copied
  copied_length d s n = over_length d (take n s)

  pub copied_at : (d s : List A) (n k : ℕ) (z : A) → k < n → k < length d → k < length s → get_or (copied d s n) k z ≡ get_or s k z
  unfolding copied
  copied_at d s n k z h i j = over_at d (take n s) k z i (simp length-take (omega arith)) ∙ get_or-take n s k z h

  pub copied_past : (d s : List A) (n k : ℕ) (z : A) → min n (length s) ≤ k → get_or (copied d s n) k z ≡ get_or d k z
  unfolding copied
  copied_past d s n k z h = over_past d (take n s) k z (simp length-take h)

  pub copied_all : (d s : List A) → copied d s (length s) ≡ over d s
  unfolding copied
  copied_all d s = ap (over d) (take-length s)

  -- the loop that copies: none yet, a turn, and its end
  pub copied_none : (d s : List A) → d ≡ copied d s 0
  unfolding copied
  copied_none d s = sym (over-nil d)

  pub copied_next : {a : List A} (d s : List A) (n : ℕ) (z : A) → n < length s → a ≡ copied d s n → set a n (get_or s n z) ≡ copied d s (n + 1)
  unfolding copied
  copied_next d s n z h p =
      let e : length (take n s) ≡ n = length-take-le n s (omega arith) in
      let a : take (n + 1) s ≡ take n s ++ get_or s n z ∷ [] = ap (λ (k : ℕ). take k s) (add-one n) ∙ take-suc s n z h in
      ap (λ (l : List A). set l n (get_or s n z)) p
      ∙ ap (λ (k : ℕ). set (over d (take n s)) k (get_or s n z)) (sym e)
      ∙ over_snoc d (take n s) (get_or s n z)
      ∙ ap (over d) (sym a)

  copied-min : (d s : List A) (n : ℕ) → copied d s (min n (min (length d) (length s))) ≡ copied d s n
  unfolding copied over
  copied-min [] s n = refl
  copied-min (x ∷ d) [] n = ap (over (x ∷ d)) (take-nil (min n (min (suc (length d)) 0)) ∙ sym (take-nil n))
  copied-min (x ∷ d) (y ∷ s) zero = ap (λ (k : ℕ). over (x ∷ d) (take k (y ∷ s))) (zero-min (min (suc (length d)) (suc (length s))))
  copied-min (x ∷ d) (y ∷ s) (suc n) =
      ap (λ (k : ℕ). over (x ∷ d) (take k (y ∷ s))) (ap (min (suc n)) (suc-min-suc (length d) (length s)) ∙ suc-min-suc n (min (length d) (length s)))
      ∙ ap (λ (l : List A). y ∷ l) (copied-min d s n)

  pub copied_end : (d s : List A) (m n : ℕ) → m ≡ min n (min (length d) (length s)) → copied d s m ≡ copied d s n
  copied_end d s m n e = ap (copied d s) e ∙ copied-min d s n

  -- ---- placed

  over_take : (d s : List A) → length s ≤ length d → take (length s) (over d s) ≡ s
  unfolding over
  over_take d [] h = refl
  over_take [] (y ∷ s) h = absurd (omega arith)
  over_take (x ∷ d) (y ∷ s) h = ap (λ (l : List A). y ∷ l) (over_take d s (omega arith))

  pub placed_length : (d s : List A) (at : ℕ) → length (placed d at s) ≡ length d
  unfolding placed
  placed_length d s at = simp (length-append, over_length, length-take, length-drop) (omega arith)

  -- what stands before `at` stays
  pub placed_nothing_before : (d s : List A) (at : ℕ) → take at (placed d at s) ≡ take at d
  unfolding placed over
  placed_nothing_before d s zero = refl
  placed_nothing_before [] s (suc at) = refl
  placed_nothing_before (x ∷ d) s (suc at) = ap (λ (l : List A). x ∷ l) (placed_nothing_before d s at)

  -- where s fits, it stands at `at`
  pub placed_there : (d s : List A) (at : ℕ) → at + length s ≤ length d → take (length s) (drop at (placed d at s)) ≡ s
  unfolding placed
  placed_there d s zero h = over_take d s (omega arith)
  placed_there [] s (suc at) h = absurd (omega arith)
  placed_there (x ∷ d) s (suc at) h = placed_there d s at (omega arith)

  -- one after the other is both at once
  pub placed_next : (d s t : List A) (at : ℕ) → placed (placed d at s) (at + length s) t ≡ placed d at (s ++ t)
  unfolding placed over
  placed_next d s t zero = rw zero-add (over_next d s t)
  placed_next [] s t (suc at) = rw suc-add
  placed_next (x ∷ d) s t (suc at) = rw suc-add (ap (λ (l : List A). x ∷ l) (placed_next d s t at))

  -- where s fits: what stands before it, s, and what stands after it

  pub placed_none : (d : List A) (at : ℕ) → placed d at [] ≡ d
  unfolding placed
  placed_none d at = ap (λ (l : List A). take at d ++ l) (over-nil (drop at d)) ∙ take-append-drop at d

  pub placed_out : (d s : List A) (at : ℕ) → length d ≤ at → placed d at s ≡ d
  unfolding placed over
  placed_out [] s zero h = refl
  placed_out (x ∷ d) s zero h = absurd (omega arith)
  placed_out [] s (suc at) h = refl
  placed_out (x ∷ d) s (suc at) h = ap (λ (l : List A). x ∷ l) (placed_out d s at (omega arith))

  -- what was lent as `&mut d[at..]` is back with s over its front
  pub placed_back : (d s y : List A) (at : ℕ) → y ≡ over (take (length d - at) (drop at d)) s → take at d ++ (y ++ drop (length d - at) (drop at d)) ≡ placed d at s
  unfolding placed
  placed_back d s y at h =
      let a : length (drop at d) ≤ length d - at = omega (arith, length-drop at d) in
      rw (h, take_all (length d - at) (drop at d) a, drop_of_length-le (drop at d) a, append-nil)

-- ---- cleared

pub cleared_length : (ws : List ℕ) (m : ℕ) → length (cleared ws m) ≡ length ws
unfolding cleared
cleared_length ws m = over_length ws (filled m 0)

pub cleared_zero : (ws : List ℕ) (m k : ℕ) → k < m → get_or (cleared ws m) k 0 ≡ 0
unfolding cleared
cleared_zero ws m k h =
    elim (dec_le (length ws) k) [
      | yes q ↦ get_or-eq_default (over ws (filled m 0)) 0 (simp over_length q)
      | no q ↦ over_at ws (filled m 0) k 0 (omega arith) (simp filled_length h) ∙ filled_all m k 0
    ]

pub cleared_past : (ws : List ℕ) (m k : ℕ) → m ≤ k → get_or (cleared ws m) k 0 ≡ get_or ws k 0
unfolding cleared
cleared_past ws m k h = over_past ws (filled m 0) k 0 (simp filled_length h)

-- lists that differ only in their first m words are the same when those are cleared
pub cleared_same : (a b : List ℕ) (m : ℕ) → length a ≡ length b → ((k : ℕ) → m ≤ k → get_or a k 0 ≡ get_or b k 0) → cleared a m ≡ cleared b m
cleared_same a b m e h =
    ext_get_or 0 (cleared a m) (cleared b m) (cleared_length a m ∙ e ∙ sym (cleared_length b m))
    (λ k l. elim (dec_le m k) [
      | yes q ↦ cleared_past a m k q ∙ h k q ∙ sym (cleared_past b m k q)
      | no q ↦ cleared_zero a m k (omega arith) ∙ sym (cleared_zero b m k (omega arith))
    ])

-- clearing stops at the end
pub cleared-min : (ws : List ℕ) (m : ℕ) → cleared ws (min m (length ws)) ≡ cleared ws m
unfolding cleared over filled
cleared-min [] m = refl
cleared-min (x ∷ ws) zero = ap (cleared (x ∷ ws)) (zero-min (suc (length ws)))
cleared-min (x ∷ ws) (suc m) = ap (cleared (x ∷ ws)) (suc-min-suc m (length ws)) ∙ ap (λ (l : List ℕ). 0 ∷ l) (cleared-min ws m)

cleared_front : (ws : List ℕ) (m : ℕ) → filled (length (take m ws)) 0 ++ drop m ws ≡ cleared ws m
unfolding cleared over filled
cleared_front ws zero = sym (over-nil ws)
cleared_front [] (suc m) = refl
cleared_front (x ∷ ws) (suc m) = ap (λ (l : List ℕ). 0 ∷ l) (cleared_front ws m)

-- what was lent as `&mut ws[..m]` is back as zeros
pub cleared_back : (ws y : List ℕ) (m : ℕ) → y ≡ filled (length (take m ws)) 0 → y ++ drop m ws ≡ cleared ws m
cleared_back ws y m h = ap (λ (l : List ℕ). l ++ drop m ws) h ∙ cleared_front ws m
