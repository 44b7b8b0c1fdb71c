-- The four numbers that a price is told by, also over the front of a list, and a refusal's number, or that of `ShortBuffer` where there is none. Assumes nothing.
use Rattle.std.specs.Prelude.{◌≡◌, refl, List, [], ◌∷◌, ◌++◌, ℕ, get_or, set, Option, None, Some}
use Rattle.std.proofs.Common.{sym, ap, ◌∙◌, arith}
use Rattle.spec.specs.Memory.{over}
use Rattle.spec.specs.declared.Refusal.{Refusal}
use Rattle.spec.specs.declared.Refusal.TheVariants.{ShortBuffer}
use Rattle.spec.specs.declared.Total.{Total}
use Rattle.spec.specs.declared.Total.TheVariants.{Exact, Beyond}
use Rattle.spec.specs.declared.Prices.{Prices}
use Rattle.spec.specs.Refusal.{number_of, code_of}
use Rattle.spec.specs.Host.{total_numbers, widest_number, price_numbers}
use Rattle.network.specs.Codes.{positive}
use Rattle.cost.specs.Back.{exact_of}

pub four_over : (l : List ℕ) (a b c d : ℕ) → set (set (set (set l 0 a) 1 b) 2 c) 3 d ≡ over l (a ∷ b ∷ c ∷ d ∷ [])
unfolding over
four_over [] a b c d = refl
four_over (x ∷ []) a b c d = refl
four_over (x ∷ y ∷ []) a b c d = refl
four_over (x ∷ y ∷ z ∷ []) a b c d = refl
four_over (x ∷ y ∷ z ∷ w ∷ []) a b c d = refl
four_over (x ∷ y ∷ z ∷ w ∷ v ∷ l) a b c d = refl

total_two : (t : Total) → total_numbers t ≡ get_or (total_numbers t) 0 0 ∷ exact_of t ∷ []
total_two (Exact x) = refl
total_two Beyond = refl

-- the answer's numbers
pub numbers_are : {w x y z : ℕ} (p : Prices) → w ≡ get_or (total_numbers p.total) 0 0 → x ≡ exact_of p.total → y ≡ widest_number p.widest → z ≡ p.slice_bits
    → w ∷ x ∷ y ∷ z ∷ [] ≡ price_numbers p
numbers_are {w} {x} {y} {z} p hw hx hy hz =
    let n : w ∷ x ∷ y ∷ z ∷ []
    ≡ get_or (total_numbers p.total) 0 0 ∷ exact_of p.total ∷ widest_number p.widest ∷ p.slice_bits ∷ [] = cc in
    n ∙ ap (λ (t : List ℕ). t ++ (widest_number p.widest ∷ p.slice_bits ∷ [])) (sym (total_two p.total))

-- the same put one after the other
pub numbers_put : {a b c d : List ℕ} {w x y z : ℕ} (l : List ℕ) (p : Prices)
    → w ≡ get_or (total_numbers p.total) 0 0 → x ≡ exact_of p.total → y ≡ widest_number p.widest → z ≡ p.slice_bits
    → a ≡ set l 0 w → b ≡ set a 1 x → c ≡ set b 2 y → d ≡ set c 3 z → d ≡ over l (price_numbers p)
numbers_put {a} {b} {c} {d} {w} {x} {y} {z} l p hw hx hy hz e f g h =
    let k : d ≡ set (set (set (set l 0 w) 1 x) 2 y) 3 z = cc in
    k ∙ four_over l w x y z ∙ ap (over l) (numbers_are p hw hx hy hz)

-- the number of the network's refusal, or 7 where it has none
abbrev pub or_short : Option Refusal → ℕ
or_short None = number_of ShortBuffer
or_short (Some r) = number_of r

pub none_short : {n : ℕ} (o : Option Refusal) → n ≡ code_of o → n ≡ 0 → 7 ≡ or_short o
none_short None e z = refl
none_short (Some r) e z = absurd (omega (arith, positive r))

pub own_number : {n : ℕ} (o : Option Refusal) → n ≡ code_of o → (n ≡ 0 → ⊥) → n ≡ or_short o
own_number None e z = absurd (z e)
own_number (Some r) e z = e
