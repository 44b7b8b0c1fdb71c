-- A turn of a walk over a list from its end.
use Rattle.std.proofs.Common.{◌≡◌, ℕ, ◌+◌, ◌-◌, ◌<◌, List, length, get_or, ap, ◌∙◌, arith}
use mathlib.Core.List.{reverse}
use Rattle.std.proofs.lemmas.List.{length-reverse, get_or-reverse, get_or_read}

pub turned_back : (order : List ℕ) (k v : ℕ) → (k < length (reverse order)) × (v ≡ get_or (reverse order) k v)
    → (k < length order) × (length order - (k + 1) < length order) × (v ≡ get_or order (length order - (k + 1)) 0)
turned_back order k v (h, e) =
    let b : k < length order = omega (arith, length-reverse order) in
    let i : length order - 1 - k ≡ length order - (k + 1) = omega arith in
    (b, omega arith, get_or_read order (length order - (k + 1)) v (omega arith) (e ∙ get_or-reverse order k v b ∙ ap (λ (j : ℕ). get_or order j v) i) 0)
