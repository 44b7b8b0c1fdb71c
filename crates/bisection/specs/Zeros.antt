-- Words that are 0: what the union of all of them shows, and zeros behind zeros. Assumes nothing.
use Rattle.std.specs.Prelude.{◌≡◌, refl, List, [], ◌∷◌, ◌++◌, ℕ, zero, suc, ◌+◌, ◌-◌, ◌≤◌, ◌<◌, ltb, length, get_or, take, drop}
use Rattle.std.proofs.Common.{sym, ap, ◌∙◌, subst, append-nil, arith, take_all, ltb-true, ltb-false, length-drop, drop_of_length-le, ext_get_or, length-take-le}
use Rattle.std.specs.Int.Bits.{bit_or, or_add_and}
use Rattle.std.proofs.lemmas.Nat.{and_le_l, and_le_r}
use Rattle.std.specs.List.{fold}
use Rattle.std.proofs.lemmas.List.{replicate-append-replicate}
use Rattle.std.proofs.lemmas.List.Sums.{fold_more}
use Rattle.spec.specs.Memory.{filled, over, cleared}
use Rattle.laws.specs.Booleans.{by_cases}
use Rattle.cells.specs.Cells.{filled_length, filled_at, cleared_length}

-- if `seen` is 0, so are the first i words
abbrev pub Seen : List ℕ → ℕ → ℕ → Type 0
Seen ws seen i = seen ≡ 0 → (k : ℕ) → k < i → get_or ws k 0 ≡ 0

neither_set : (a b : ℕ) → bit_or a b ≡ 0 → (a ≡ 0) × (b ≡ 0)
neither_set a b e =
    (omega (arith, or_add_and a b, and_le_l a b, and_le_r a b), omega (arith, or_add_and a b, and_le_l a b, and_le_r a b))

pub seen_none : (ws : List ℕ) → Seen ws 0 0
seen_none ws e k h = absurd (omega arith)

pub seen_more : (ws : List ℕ) (seen i : ℕ) → Seen ws seen i → Seen ws (bit_or seen (get_or ws i 0)) (i + 1)
seen_more ws seen i h e k l =
    by_cases (ltb k i)
    (λ t. h (neither_set seen (get_or ws i 0) e).0 k (ltb-true k i t))
    (λ f. let q : k ≡ i = omega (arith, ltb-false k i f) in ap (λ (x : ℕ). get_or ws x 0) q ∙ (neither_set seen (get_or ws i 0) e).1)

pub seen_all : (ws : List ℕ) (seen : ℕ) → Seen ws seen (length ws) → seen ≡ 0 → ws ≡ filled (length ws) 0
seen_all ws seen h e =
    ext_get_or 0 ws (filled (length ws) 0) (sym (filled_length (length ws) 0)) (λ k l. h e k l ∙ sym (filled_at (length ws) k 0 0 l))

-- the union of the first words tells of them, and that of all words of all
union_front : (ws : List ℕ) (i : ℕ) → i ≤ length ws → Seen ws (fold bit_or 0 (take i ws)) i
union_front ws zero h = seen_none ws
union_front ws (suc i) h =
    let e : i + 1 ≡ suc i = omega arith in
    let step : fold bit_or 0 (take (i + 1) ws) ≡ bit_or (fold bit_or 0 (take i ws)) (get_or ws i 0) = fold_more bit_or 0 ws i 0 (omega arith) in
    subst (λ (k : ℕ). Seen ws (fold bit_or 0 (take k ws)) k) e
    (subst (λ (x : ℕ). Seen ws x (i + 1)) (sym step) (seen_more ws (fold bit_or 0 (take i ws)) i (union_front ws i (omega arith))))

pub union_zero : (ws : List ℕ) → fold bit_or 0 ws ≡ 0 → ws ≡ filled (length ws) 0
union_zero ws e =
    let all : Seen ws (fold bit_or 0 ws) (length ws) =
    subst (λ (l : List ℕ). Seen ws (fold bit_or 0 l) (length ws)) (take_all (length ws) ws (omega arith)) (union_front ws (length ws) (omega arith)) in
    seen_all ws (fold bit_or 0 ws) all e

-- ---- zeros behind zeros ----

abbrev pub zeros : ℕ → List ℕ
zeros n = filled n 0

front_zeros : (n : ℕ) (ws : List ℕ) → n ≤ length ws → take n (cleared ws n) ≡ zeros n
unfolding cleared over filled
front_zeros zero ws h = refl
front_zeros (suc n) [] h = absurd (omega arith)
front_zeros (suc n) (x ∷ ws) h = ap (λ (l : List ℕ). 0 ∷ l) (front_zeros n ws (omega arith))

-- the first n words are 0, and what was lent as `&mut w[n..]` is back as zeros
pub zeros_behind : (w y : List ℕ) (n k : ℕ) → n ≤ length w → take n w ≡ zeros n → k ≡ length w - n → y ≡ zeros (length (take k (drop n w)))
    → take n w ++ (y ++ drop k (drop n w)) ≡ zeros (length w)
unfolding filled
zeros_behind w y n k h e q f =
    let l : length (drop n w) ≡ k = length-drop n w ∙ sym q in
    let t : length (take k (drop n w)) ≡ k = length-take-le k (drop n w) (omega arith) in
    let b : length (drop n w) ≤ k = omega arith in
    let r : y ++ drop k (drop n w) ≡ zeros k = ap (λ (x : List ℕ). y ++ x) (drop_of_length-le (drop n w) b) ∙ append-nil y ∙ f ∙ ap zeros t in
    let g : n + k ≡ length w = omega arith in
    ap (λ (x : List ℕ). take n w ++ x) r ∙ ap (λ (x : List ℕ). x ++ zeros k) e ∙ replicate-append-replicate n k 0 ∙ ap zeros g

-- likewise where the first n were cleared
pub zeros_cleared : (ws w y : List ℕ) (n k : ℕ) → n ≤ length ws → w ≡ cleared ws n → k ≡ length w - n → y ≡ zeros (length (take k (drop n w)))
    → take n w ++ (y ++ drop k (drop n w)) ≡ zeros (length ws)
zeros_cleared ws w y n k h e q f =
    let s : length w ≡ length ws = ap length e ∙ cleared_length ws n in
    zeros_behind w y n k (omega arith) (ap (take n) e ∙ front_zeros n ws h) q f ∙ ap zeros s
