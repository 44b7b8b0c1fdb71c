-- A member taken out of a list, the last put in its place, on trees and on a list of their numbers. Assumes nothing.
use Rattle.std.specs.Prelude.{List, [], ◌∷◌, ◌++◌, map, ◌≡◌, refl, ℕ, zero, suc, ◌+◌, ◌-◌, ◌<◌, length, get_or, set, take}
use Rattle.std.proofs.Common.{sym, ap, ◌∙◌, arith, length-set, length-append, ext_get_or, get_or-set_same, get_or-set_other, get_or-take, length-take-le, get_or-append-add}
use Rattle.std.proofs.Math.Decide.{ℕ_discrete}
use Rattle.std.proofs.lemmas.List.{length-map}
use Rattle.std.proofs.Math.ListN.{get_or-append}
use Rattle.spec.specs.Members.{All}
use Rattle.spec.specs.Tree.{Tree, leaf, number}
use Rattle.spec.specs.Improve.{last_of, but_last, swap_remove, member}

-- ---- places ----

last_at : (u : Tree) (l : List Tree) → last_of u l ≡ member (u ∷ l) (length l)
last_at u [] = refl
last_at u (w ∷ l) = last_at w l

butlast_at : (u : Tree) (l : List Tree) (i : ℕ) → i < length l → member (but_last u l) i ≡ member (u ∷ l) i
butlast_at u [] i h = absurd (omega arith)
butlast_at u (w ∷ l) zero h = refl
butlast_at u (w ∷ l) (suc i) h = butlast_at w l i (omega arith)

butlast_length : (u : Tree) (l : List Tree) → length (but_last u l) ≡ length l
butlast_length u [] = refl
butlast_length u (w ∷ l) = ap suc (butlast_length w l)

pub swap_length : (p : ℕ) (ts : List Tree) → p < length ts → suc (length (swap_remove p ts)) ≡ length ts
swap_length p [] h = absurd (omega arith)
swap_length zero (t ∷ []) h = refl
swap_length zero (t ∷ u ∷ l) h = omega (arith, butlast_length u l)
swap_length (suc p) (t ∷ l) h = ap suc (swap_length p l (omega arith))

-- the last is in its place
swap_here : (p : ℕ) (ts : List Tree) → suc p < length ts → member (swap_remove p ts) p ≡ member ts (length ts - 1)
swap_here p [] h = absurd (omega arith)
swap_here zero (t ∷ []) h = absurd (omega arith)
swap_here zero (t ∷ u ∷ l) h = last_at u l ∙ ap (member (t ∷ u ∷ l)) (let z : suc (length l) ≡ suc (suc (length l)) - 1 = omega arith in z)
swap_here (suc p) (t ∷ l) h =
    swap_here p l (omega arith) ∙ ap (member (t ∷ l)) (let z : suc (length l - 1) ≡ suc (length l) - 1 = omega arith in z)

swap_other : (p : ℕ) (ts : List Tree) (i : ℕ) → suc i < length ts → (i ≡ p → ⊥) → member (swap_remove p ts) i ≡ member ts i
swap_other p [] i h f = absurd (omega arith)
swap_other zero (t ∷ []) i h f = absurd (omega arith)
swap_other zero (t ∷ u ∷ l) zero h f = absurd (f refl)
swap_other zero (t ∷ u ∷ l) (suc i) h f = butlast_at u l i (omega arith)
swap_other (suc p) (t ∷ l) zero h f = refl
swap_other (suc p) (t ∷ l) (suc i) h f = swap_other p l i (omega arith) (λ e. f (ap suc e))

-- ---- what all members have ----

all_last : (P : Tree → Type 0) (u : Tree) (l : List Tree) → All P (u ∷ l) → P (last_of u l)
all_last P u [] h = h.0
all_last P u (w ∷ l) h = all_last P w l h.1

all_butlast : (P : Tree → Type 0) (u : Tree) (l : List Tree) → All P (u ∷ l) → All P (but_last u l)
all_butlast P u [] h = tt
all_butlast P u (w ∷ l) h = (h.0, all_butlast P w l h.1)

pub all_swap : (P : Tree → Type 0) (p : ℕ) (ts : List Tree) → All P ts → All P (swap_remove p ts)
all_swap P p [] h = tt
all_swap P zero (t ∷ []) h = tt
all_swap P zero (t ∷ u ∷ l) h = (all_last P u l h.1, all_butlast P u l h.1)
all_swap P (suc p) (t ∷ l) h = (h.0, all_swap P p l h.1)

-- ---- on the numbers ----

pub number_at : (ts : List Tree) (i : ℕ) → get_or (map number ts) i 0 ≡ number (member ts i)
number_at [] i = refl
number_at (t ∷ ts) zero = refl
number_at (t ∷ ts) (suc i) = number_at ts i

-- the list a has the numbers of ts at its front: then the writes of an opening make it have those of the members after it
module _ (a : List ℕ) (ts : List Tree) (m p x y : ℕ) (l r : Tree) (long : m < length a) (here : p < m) (count : m ≡ length ts)
    (front : take m a ≡ map number ts) (ex : x ≡ number l) (ey : y ≡ number r)
  where
    front_at : (i : ℕ) → i < m → get_or a i 0 ≡ number (member ts i)
    front_at i h = sym (get_or-take m a i 0 h) ∙ ap (λ z. get_or z i 0) front ∙ number_at ts i

    abbrev pub after : List ℕ
    after = set (set (set a p (get_or a (m - 1) 0)) (m - 1) x) m y

    long_after : length after ≡ length a
    long_after = length-set (set (set a p (get_or a (m - 1) 0)) (m - 1) x) m y ∙ length-set (set a p (get_or a (m - 1) 0)) (m - 1) x ∙ length-set a p _

    rest_long : suc (length (swap_remove p ts)) ≡ m
    rest_long = swap_length p ts (omega arith) ∙ sym count

    abbrev both : List ℕ
    both = map number (swap_remove p ts ++ (l ∷ r ∷ []))

    both_long : length both ≡ m + 1
    both_long = length-map (swap_remove p ts ++ (l ∷ r ∷ [])) number ∙ omega (arith, length-append (swap_remove p ts) (l ∷ r ∷ []), rest_long)

    both_at : (i : ℕ) → get_or both i 0 ≡ number (member (swap_remove p ts ++ (l ∷ r ∷ [])) i)
    both_at i = number_at (swap_remove p ts ++ (l ∷ r ∷ [])) i

    -- the last two places, and those before them
    at_end : get_or after m 0 ≡ get_or both m 0
    at_end =
        get_or-set_same (set (set a p (get_or a (m - 1) 0)) (m - 1) x) m y 0 (simp length-set long)
        ∙ ey
        ∙ sym (both_at m ∙ ap number
        (ap (member (swap_remove p ts ++ (l ∷ r ∷ []))) (let z : m ≡ length (swap_remove p ts) + 1 = omega (arith, rest_long) in z)
        ∙ get_or-append-add (swap_remove p ts) (l ∷ r ∷ []) 1 (leaf 0)))

    at_last : get_or after (m - 1) 0 ≡ get_or both (m - 1) 0
    at_last =
        get_or-set_other (set (set a p (get_or a (m - 1) 0)) (m - 1) x) m (m - 1) y 0 (λ z. omega arith)
        ∙ get_or-set_same (set a p (get_or a (m - 1) 0)) (m - 1) x 0 (simp length-set (omega arith))
        ∙ ex
        ∙ sym (both_at (m - 1) ∙ ap number
        (ap (member (swap_remove p ts ++ (l ∷ r ∷ []))) (let z : m - 1 ≡ length (swap_remove p ts) + 0 = omega (arith, rest_long) in z)
        ∙ get_or-append-add (swap_remove p ts) (l ∷ r ∷ []) 0 (leaf 0)))

    both_first : (i : ℕ) → i + 1 < m → get_or both i 0 ≡ number (member (swap_remove p ts) i)
    both_first i h = both_at i ∙ ap number (get_or-append (swap_remove p ts) (l ∷ r ∷ []) (leaf 0) i (omega (arith, rest_long)))

    after_first : (i : ℕ) → i + 1 < m → get_or after i 0 ≡ get_or (set a p (get_or a (m - 1) 0)) i 0
    after_first i h =
        get_or-set_other (set (set a p (get_or a (m - 1) 0)) (m - 1) x) m i y 0 (λ z. omega arith)
        ∙ get_or-set_other (set a p (get_or a (m - 1) 0)) (m - 1) i x 0 (λ z. omega arith)

    at_first : (i : ℕ) → i + 1 < m → get_or after i 0 ≡ get_or both i 0
    at_first i h =
        elim (ℕ_discrete i p) [
          | yes e ↦ after_first i h
              ∙ rw e (get_or-set_same a p (get_or a (m - 1) 0) 0 (omega arith)
              ∙ front_at (m - 1) (omega arith)
              ∙ ap number (ap (member ts) (let z : m - 1 ≡ length ts - 1 = omega arith in z) ∙ sym (swap_here p ts (omega arith)))
              ∙ sym (both_first p (omega arith)))
          | no f ↦ after_first i h
              ∙ get_or-set_other a p i (get_or a (m - 1) 0) 0 f
              ∙ front_at i (omega arith)
              ∙ ap number (sym (swap_other p ts i (omega arith) f))
              ∙ sym (both_first i h)
        ]

    all_at : (i : ℕ) → i < m + 1 → get_or after i 0 ≡ get_or both i 0
    all_at i h =
        elim (ℕ_discrete i m) [
          | yes e ↦ rw e at_end
          | no f ↦ elim (ℕ_discrete i (m - 1)) [
            | yes e ↦ rw e at_last
            | no g ↦ at_first i (omega (arith, f, g))
          ]
        ]

    pub swapped_numbers : take (m + 1) after ≡ map number (swap_remove p ts ++ (l ∷ r ∷ []))
    swapped_numbers =
        let long_take : length (take (m + 1) after) ≡ m + 1 = length-take-le (m + 1) after (omega (arith, long_after)) in
        ext_get_or 0 (take (m + 1) after) both (long_take ∙ sym both_long) (λ i h.
        get_or-take (m + 1) after i 0 (omega (arith, long_take)) ∙ all_at i (omega (arith, long_take)))
