-- The visit's parts: the list of local indices, the local weights, the acceptance. Assumes nothing.
use Rattle.std.specs.Prelude.{Bool, false, not, ◌&&◌, List, ◌≡◌, ℕ, ◌≤◌, ◌<◌, ltb, length, get_or}
use Rattle.std.proofs.Common.{ap, ◌∙◌, arith, lt-ltb, le-ltb, ltb-true}
use Rattle.std.proofs.Math.Decide.{dec_le}
use Rattle.std.proofs.Math.ListN.{get_or-eq_default}
use Rattle.spec.specs.Calls.{flag_at}
use Rattle.laws.specs.Booleans.{by_cases}
use Rattle.laws.specs.ListLaws.{keep_ext}
use Rattle.slots.specs.Slots.{with_set, held, held_with}
use Rattle.slots.specs.Weigh.{Light}
use Rattle.locals.specs.Locals.{member_have, is_local, local_list, local_weight}
use Rattle.reconf.specs.Locals.{locals_in}

-- the sliced indices are those of the flags
pub locals_listed : (sets members zeros sliced : List ℕ) (m : ℕ) (flags : List ℕ) → 4 ≤ length zeros → sliced ≡ with_set zeros 4 0 (flag_at flags)
    → local_list sets 4 members m sliced ≡ locals_in sets members m flags
unfolding local_list locals_in
locals_listed sets members zeros sliced m flags room e =
    keep_ext (is_local sets 4 members m sliced) (λ j. member_have sets 4 members m j && not (flag_at flags j)) 256 (λ j h.
    ap (λ x. member_have sets 4 members m j && not x) (ap (λ l. held l 4 0 j) e ∙ held_with zeros 4 0 (flag_at flags) j room h))

-- weights of local indices are at most 8
pub light_locals : (weights local out : List ℕ) (c : ℕ) → length out ≤ 128 → ((i : ℕ) → i < 128 → get_or out i 0 ≡ local_weight weights local c i)
    → ((i : ℕ) → i < c → get_or weights (get_or local i 0) 0 ≤ 8) → Light out
light_locals weights local out c long h small i =
    elim (dec_le 128 i) [
      | yes b ↦ omega (arith, get_or-eq_default out 0 {n = i} (omega arith))
      | no b ↦ omega (arith, h i (omega arith), one)
    ]
  where
    one : local_weight weights local c i ≤ 8
    one = by_cases (ltb i c) (λ e. rw e (small i (ltb-true i c e))) (λ e. rw e (omega arith))

-- the acceptance, case by case
module _ (cost : ℕ) (u : Bool) where
  pub accept_found : (r : Bool) → cost < 9007199254740992 → r ≡ u → r ≡ (ltb cost 9007199254740992 && u)
  accept_found r h e = rw (lt-ltb cost 9007199254740992 h) e

  pub accept_none : 9007199254740992 ≤ cost → false ≡ (ltb cost 9007199254740992 && u)
  accept_none h = rw (le-ltb cost 9007199254740992 h)
