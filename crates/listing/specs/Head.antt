-- The listing's head, one part after the other. Assumes nothing.
use Rattle.std.specs.Prelude.{List, ◌++◌, ◌≡◌, refl, ℕ, ◌+◌, length, Option, None, Some}
use Rattle.spec.specs.declared.Total.{Total}
use Rattle.spec.specs.declared.Total.TheVariants.{Exact, Beyond}
use Rattle.spec.specs.declared.Prices.{Prices}
use Rattle.std.proofs.Common.{sym, ap, ◌∙◌, length-append}
use Rattle.spec.specs.Memory.{placed}
use Rattle.spec.specs.Host.{bytes_of, total_bytes, widest_bytes, head_bytes}
use Rattle.cells.specs.Cells.{placed_next}

total_length : (t : Total) → length (total_bytes t) ≡ 9
total_length (Exact x) = refl
total_length Beyond = refl

widest_length : (w : Option ℕ) → length (widest_bytes w) ≡ 3
widest_length None = refl
widest_length (Some x) = refl

-- one part after the other is the whole head
pub head_placed : {a b e f : List ℕ} (d : List ℕ) (steps : ℕ) (p : Prices)
    → a ≡ placed d 0 (bytes_of 2 steps) → b ≡ placed a 2 (total_bytes p.total) → e ≡ placed b 11 (widest_bytes p.widest)
    → f ≡ placed e 14 (bytes_of 2 p.slice_bits) → f ≡ placed d 0 (head_bytes steps p)
head_placed {a} {b} {e} {f} d steps p h i j k =
    let t : List ℕ = total_bytes p.total in
    let w : List ℕ = widest_bytes p.widest in
    let s : List ℕ = bytes_of 2 p.slice_bits in
    let last : f ≡ placed b 11 (w ++ s) =
    k ∙ ap (λ (l : List ℕ). placed l 14 s) j ∙ ap (λ (n : ℕ). placed (placed b 11 w) (11 + n) s) (sym (widest_length p.widest)) ∙ placed_next b w s 11 in
    let rest : f ≡ placed a 2 (t ++ (w ++ s)) =
    last ∙ ap (λ (l : List ℕ). placed l 11 (w ++ s)) i ∙ ap (λ (n : ℕ). placed (placed a 2 t) (2 + n) (w ++ s)) (sym (total_length p.total))
    ∙ placed_next a t (w ++ s) 2 in
    rest ∙ ap (λ (l : List ℕ). placed l 2 (t ++ (w ++ s))) h ∙ placed_next d (bytes_of 2 steps) (t ++ (w ++ s)) 0

pub head_length : (steps : ℕ) (p : Prices) → length (head_bytes steps p) ≡ 16
head_length steps p = simp (length-append, total_length, widest_length)
