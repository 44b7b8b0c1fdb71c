-- Parts of lists that hold all levels. Assumes nothing.
use Rattle.std.specs.Prelude.{◌≡◌, refl, List, [], ◌∷◌, map, ℕ, zero, suc, ◌+◌, ◌-◌, ◌≤◌, ◌<◌, min, Float, length, get_or, set, take, drop}
use Rattle.std.proofs.Common.{sym, ap, ◌∙◌, arith, add-one, length-take, length-drop, ext_get_or, get_or-set_same, get_or-set_other, take-suc, get_or-take, length-take-le}
use Rattle.std.proofs.Math.Decide.{ℕ_discrete}
use Rattle.std.specs.Float.{binary64}
use Rattle.std.specs.Float.Ieee.{add}
use Rattle.std.proofs.lemmas.List.{length-map}
use Rattle.spec.specs.Floats.{zero_float}
use Rattle.spec.specs.Memory.{copied}
use Rattle.spec.specs.Hypergraph.{fold_over, side_of}
use Rattle.partition.specs.Folds.{fold_append}
use Rattle.cells.specs.Cells.{copied_length, copied_at}

-- ---- sums ----

abbrev pub summed : Float → Float → Float
summed w sum = add binary64 sum w

pub sum_next : (l : List Float) (g x : Float) (k : ℕ) → k < length l → g ≡ fold_over summed (take k l) zero_float → x ≡ get_or l k zero_float
    → add binary64 g x ≡ fold_over summed (take (k + 1) l) zero_float
sum_next l g x k h p q =
    (λ i. add binary64 (p i) (q i))
    ∙ sym (ap (λ z. fold_over summed z zero_float) (ap (λ (n : ℕ). take n l) (add-one k) ∙ take-suc l k zero_float h) ∙ fold_append summed (take k l) (get_or l k zero_float ∷ []) zero_float)

-- ---- the part of a list from a on and below e ----

module _ {A : Type 0} where
  abbrev pub span : ℕ → ℕ → List A → List A
  span a e l = take (e - a) (drop a l)

  pub span_length : (a n : ℕ) (l : List A) → a + n ≤ length l → length (span a (a + n) l) ≡ n
  span_length a n l h = length-take (a + n - a) (drop a l) ∙ few
    where
      few : min (a + n - a) (length (drop a l)) ≡ n
      few = omega (arith, length-drop a l)

  -- the first n places of a list, as many as k
  pub front_as : {k : ℕ} (n : ℕ) (l : List A) → n ≤ length l → k ≡ n → length (take n l) ≡ k
  front_as n l h e = length-take-le n l h ∙ sym e

-- ---- a partition, projected ----

map_at : (f : ℕ → ℕ) (l : List ℕ) (v : ℕ) → v < length l → get_or (map f l) v 0 ≡ f (get_or l v 0)
map_at f [] v h = absurd (omega arith)
map_at f (x ∷ l) zero h = refl
map_at f (x ∷ l) (suc v) h = map_at f l v (omega arith)

pub projected : (coarse places part : List ℕ) → length part ≡ length places → ((v : ℕ) → v < length places → get_or part v 0 ≡ get_or coarse (get_or places v 0) 0)
    → part ≡ map (side_of coarse) places
projected coarse places part l h =
    ext_get_or 0 part (map (side_of coarse) places) (l ∙ sym (length-map places (side_of coarse)))
    (λ v b. h v (omega arith) ∙ sym (map_at (side_of coarse) places v (omega arith)))

-- one vertex more
pub project_next : (coarse places part part' : List ℕ) (v c x : ℕ) → v < length part → c ≡ get_or places v 0 → x ≡ get_or coarse c 0 → part' ≡ set part v x
    → ((u : ℕ) → u < v → get_or part u 0 ≡ get_or coarse (get_or places u 0) 0) → (u : ℕ) → u < v + 1 → get_or part' u 0 ≡ get_or coarse (get_or places u 0) 0
project_next coarse places part part' v c x b ec ex e h u l =
    elim (ℕ_discrete u v) [
      | yes q ↦ ap (λ k. get_or k u 0) e ∙ ap (λ (z : ℕ). get_or (set part v x) z 0) q ∙ get_or-set_same part v x 0 b ∙ ex
          ∙ ap (λ (z : ℕ). get_or coarse z 0) (ec ∙ ap (λ (z : ℕ). get_or places z 0) (sym q))
      | no q ↦ ap (λ k. get_or k u 0) e ∙ get_or-set_other part v u x 0 q ∙ h u (omega (arith, q))
    ]

pub copied_front : (d s : List ℕ) (n : ℕ) → n ≤ length d → n ≤ length s → take n (copied d s n) ≡ take n s
copied_front d s n h k =
    ext_get_or 0 (take n (copied d s n)) (take n s)
    (length-take-le n (copied d s n) (omega (arith, copied_length d s n)) ∙ sym (length-take-le n s k))
    (λ v b. let c : v < n = omega (arith, length-take-le n (copied d s n) (omega (arith, copied_length d s n))) in
    get_or-take n (copied d s n) v 0 c ∙ copied_at d s n v 0 c (omega arith) (omega arith) ∙ sym (get_or-take n s v 0 c))
