-- The drawn order of the vertices, place by place. Assumes nothing.
use Rattle.std.specs.Prelude.{◌≡◌, List, [], ◌∷◌, ◌++◌, ℕ, zero, suc, ◌+◌, ◌-◌, ◌≤◌, ◌<◌, length, get_or, set, take}
use Rattle.std.proofs.Common.{sym, ap, ◌∙◌, arith, add-one, length-set, take-suc-set}
use Rattle.std.proofs.Math.Seq.{take-length}
use Rattle.spec.specs.Lists.{from, range}
use Rattle.spec.specs.Draws.{Words, Drawn, drawn, draw, index_draw}
use Rattle.std.specs.List.{swap}
use Rattle.std.proofs.lemmas.List.{get_or_default}
use Rattle.spec.specs.Coarsen.{swapped, shuffled}
use Rattle.laws.specs.ListLaws.{from_last}

-- ---- a list that counts up ----

pub counted_next : (l : List ℕ) (k : ℕ) → k < length l → take k l ≡ range k → take (k + 1) (set l k k) ≡ range (k + 1)
counted_next l k h e =
    let z : 0 + k ≡ k = omega arith in
    ap (λ (n : ℕ). take n (set l k k)) (add-one k) ∙ take-suc-set l k k h ∙ ap (λ t. t ++ (k ∷ [])) e
    ∙ sym (ap (λ (n : ℕ). range n) (add-one k) ∙ from_last 0 k ∙ ap (λ (x : ℕ). range k ++ (x ∷ [])) z)

pub counted_end : (l : List ℕ) (k n : ℕ) → n ≤ k → k ≤ n → length l ≡ n → take k l ≡ range k → l ≡ range n
counted_end l k n a b h e =
    let z : length l ≡ k = omega arith in
    let y : k ≡ n = omega arith in
    sym (take-length l) ∙ ap (λ (j : ℕ). take j l) z ∙ e ∙ ap (λ (j : ℕ). range j) y

-- ---- one swap, and all ----

-- places i and j are swapped, j drawn from 0 to i
abbrev pub drawn_swap : ℕ → Drawn (List ℕ) → Drawn (List ℕ)
drawn_swap i d =
    let w = index_draw (suc i) d.words in
    drawn (swapped i w.value d.value) w.words

pub swap_is : (words words' : Words) (l l₁ l₂ : List ℕ) (i n j x y : ℕ) → n ≡ i + 1 → j ≡ (index_draw n words).value → x ≡ get_or l i 0 → y ≡ get_or l j 0
    → l₁ ≡ set l i y → l₂ ≡ set l₁ j x → words' ≡ (draw words).words → drawn l₂ words' ≡ drawn_swap i (drawn l words)
swap_is words words' l l₁ l₂ i n j x y en ej ex ey e₁ e₂ ew =
    (λ k. drawn (e₂ k) (ew k))
    ∙ ap (λ t. drawn (set t j x) (draw words).words) e₁
    ∙ (λ k. drawn (set (set l i (ey k)) j (ex k)) (draw words).words)
    ∙ ap (λ (q : ℕ). drawn (swapped i q l) (draw words).words) (ej ∙ ap (λ (m : ℕ). (index_draw m words).value) (en ∙ add-one i))

pub swap_length : (l l₁ l₂ : List ℕ) (i j x y : ℕ) → l₁ ≡ set l i y → l₂ ≡ set l₁ j x → length l₂ ≡ length l
swap_length l l₁ l₂ i j x y e₁ e₂ = ap length e₂ ∙ length-set l₁ j x ∙ ap length e₁ ∙ length-set l i y

-- the same by std's swap of two places that the list has
pub swap_within : (words words' : Words) (l l' : List ℕ) (i n j : ℕ) → n ≡ i + 1 → j ≡ (index_draw n words).value → words' ≡ (index_draw n words).words
    → i < length l → j < length l → l' ≡ swap l i j → drawn l' words' ≡ drawn_swap i (drawn l words)
swap_within words words' l l' i n j en ej ew hi hj e =
    (λ k. drawn (e k) (ew k))
    ∙ ap (λ t. drawn t (draw words).words) (swap-swapped l i j hi hj)
    ∙ ap (λ (q : ℕ). drawn (swapped i q l) (draw words).words) (ej ∙ ap (λ (m : ℕ). (index_draw m words).value) (en ∙ add-one i))
  where
    swap-swapped : (l : List ℕ) (i j : ℕ) → i < length l → j < length l → swap l i j ≡ swapped i j l
    swap-swapped [] i j hi hj = absurd (omega arith)
    swap-swapped (d ∷ ys) i j hi hj =
        (λ k. set (set (d ∷ ys) i (get_or_default (d ∷ ys) j d 0 hj k)) j (get_or_default (d ∷ ys) i d 0 hi k))

-- one swap more: i is the place above those still to be swapped
pub shuffled_next : (i m : ℕ) (d s g : Drawn (List ℕ)) → 1 < i → m ≡ i - 1 → s ≡ shuffled (i - 1) d → g ≡ drawn_swap m d → s ≡ shuffled (m - 1) g
shuffled_next (suc (suc k)) m d s g h e p q =
    let a : suc (suc k) - 1 ≡ suc k = omega arith in
    let b : suc k ≡ m = omega arith in
    let z : k ≡ m - 1 = omega arith in
    p ∙ ap (λ (n : ℕ). shuffled n d) a ∙ ap (λ (n : ℕ). shuffled k (drawn_swap n d)) b ∙ sym (ap (shuffled (m - 1)) q ∙ ap (λ (n : ℕ). shuffled n (drawn_swap m d)) (sym z))
shuffled_next zero m d s g h e p q = absurd (omega arith)
shuffled_next (suc zero) m d s g h e p q = absurd (omega arith)

pub shuffled_end : (i : ℕ) (d s : Drawn (List ℕ)) → i ≤ 1 → s ≡ shuffled (i - 1) d → d ≡ s
shuffled_end i d s h p = let z : i - 1 ≡ 0 = omega arith in sym (p ∙ ap (λ (n : ℕ). shuffled n d) z)

-- ---- the order names vertices only ----

abbrev pub Below : ℕ → List ℕ → Type 0
Below n l = (k : ℕ) → get_or l k 0 < n

below_set : (n : ℕ) (l : List ℕ) (i x : ℕ) → Below n l → x < n → Below n (set l i x)
below_set n [] i x h b k = h k
below_set n (y ∷ l) zero x h b zero = b
below_set n (y ∷ l) zero x h b (suc k) = h (suc k)
below_set n (y ∷ l) (suc i) x h b zero = h zero
below_set n (y ∷ l) (suc i) x h b (suc k) = below_set n l i x (λ j. h (suc j)) b k

pub below_shuffled : (n i : ℕ) (d : Drawn (List ℕ)) → Below n d.value → Below n (shuffled i d).value
below_shuffled n zero d h = h
below_shuffled n (suc i) d h =
    let w = index_draw (suc (suc i)) d.words in
    below_shuffled n i (drawn (swapped (suc i) w.value d.value) w.words)
    (below_set n (set d.value (suc i) (get_or d.value w.value 0)) w.value (get_or d.value (suc i) 0)
    (below_set n d.value (suc i) (get_or d.value w.value 0) h (h w.value)) (h (suc i)))

below_from : (n k m i : ℕ) → k + m ≤ n → 0 < n → get_or (from k m) i 0 < n
below_from n k zero i h b = b
below_from n k (suc m) zero h b = omega arith
below_from n k (suc m) (suc i) h b = below_from n (suc k) m i (omega arith) b

pub below_range : (n : ℕ) → 0 < n → Below n (range n)
below_range n b k = below_from n 0 n k (omega arith) b
