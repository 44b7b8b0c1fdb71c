-- Members of a list, and of its first k places. Assumes nothing.
use Rattle.std.specs.Prelude.{◌≡◌, true, false, ◌||◌, List, [], ◌∷◌, ℕ, suc, ◌<◌, eqb, length, get_or, take}
use Rattle.std.proofs.Common.{take-suc}
use Rattle.spec.specs.Lists.{memb}
use Rattle.laws.specs.Booleans.{or_cases}
use Rattle.laws.specs.ListLaws.{memb-append, memb_one}

-- one place more
pub memb-take : (x : ℕ) (l : List ℕ) (k : ℕ) → k < length l → memb x (take (suc k) l) ≡ (memb x (take k l) || (eqb x (get_or l k 0) || false))
memb-take x l k h = rw (take-suc l k 0 h) (memb-append x (take k l) (get_or l k 0 ∷ []))

pub take_cases {ℓ} : {P : Type ℓ} (x : ℕ) (l : List ℕ) (k : ℕ) → k < length l → memb x (take (suc k) l) ≡ true
    → (memb x (take k l) ≡ true → P) → (x ≡ get_or l k 0 → P) → P
take_cases x l k h m f g =
    or_cases (memb x (take k l)) _ (rw (memb-take x l k h) at m) f (λ e. g (memb_one x (get_or l k 0) e))
