-- The tables, filled, have the search's answer and its count. Assumes nothing.
use Rattle.std.specs.Prelude.{Bool, ◌&&◌, ◌||◌, ◌≡◌, refl, ℕ, suc, ◌-◌, ◌^◌, ◌≤◌, ◌<◌, get_or, Option, None, Some}
use Rattle.std.proofs.Math.Bool.{or_self}
use mathlib.Core.List.{List, []}
use Rattle.std.proofs.Math.Path.{sym, ap₂}
use Rattle.std.proofs.Common.{ap, ◌∙◌, arith, lt-ltb, le-ltb}
use Rattle.spec.specs.Lists.{range}
use Rattle.spec.specs.Improve.{Found, over_limit, keeps, passed, split_work, cheapest}
use Rattle.laws.specs.Fuel.{best_same}
use Rattle.laws.specs.ListLaws.{range_length}
use Rattle.laws.specs.Masks.{places_from}
use Rattle.slots.specs.Weigh.{weighed_ext}
use Rattle.masks.specs.Rows.{has_at, in_either}
use Rattle.masks.specs.Tables.{member_has, root_has, work_at}
use Rattle.masks.specs.Singles.{own_bits}
use Rattle.subset.specs.Walk.{infinite, finite, passed_over, best_at, split_at}
use Rattle.subset.specs.Regions.{region_of}
use Rattle.subset.specs.Stands.{Stands}
use Rattle.subset.specs.Whole.{tables_stand}
use Rattle.subset.specs.Counts.{all_tried}
use Rattle.subset.specs.Sets.{full_places, not_full, keeps_is}
use Rattle.subset.specs.Ran.{Ran, RanOn}
use Rattle.subset.specs.Search.{local_bits, found_at, searched_in, tried_in}

-- ---- the answer ----

found_is : (part : List ℕ) (n cost : ℕ) (best : ℕ → ℕ) (o : Option Found) → cost ≡ best (n - 1) → Stands best (region_of (split_at part)) (n - 1) o
    → found_at part n (finite cost) ≡ o
unfolding found_at finite
found_is part n cost best None e h = rw (le-ltb cost infinite (omega arith))
found_is part n cost best (Some f) e h =
    rw (lt-ltb cost infinite (omega (arith, h.0, h.1)))
    (ap Some (λ i. record { cost = (e ∙ h.0) i; tree = sym h.2 i }))

module _ (was united kept : List (List ℕ)) (wt cost part : List ℕ) (n m : ℕ) (limit : Option ℕ) (tried : ℕ) (masks : n ≡ 2 ^ m) (some_members : 1 ≤ m) (few : n ≤ 4096)
    (ran : RanOn was united kept wt cost part n limit tried)
  where
    abbrev has : ℕ → ℕ → Bool
    has = member_has was

    abbrev ext : ℕ → Bool
    ext = root_has was

    two : 2 ≤ n
    two = omega (arith, own_bits m)

    mask_keeps : (s j : ℕ) → 1 ≤ s → s < n → j < 128 → has_at kept s j ≡ keeps m has ext (local_bits wt) limit (places_from 0 n s) j
    mask_keeps s j x y h = ran.keeps s j x y h ∙ keeps_is n m masks was united ran.done ran.root (local_bits wt) limit s j x y h

    bits : (l r : ℕ) → 1 ≤ l → l < n → 1 ≤ r → r < n
        → split_work m has ext (local_bits wt) limit (record { part = places_from 0 n l; rest = places_from 0 n r }) ≡ work_at kept wt l r
    unfolding split_work local_bits work_at
    bits l r x y c d =
        sym (weighed_ext wt [] (in_either (get_or kept l []) (get_or kept r [])) _ 128 (λ j h. ap₂ (λ x y. x || y) (mask_keeps l j x y h) (mask_keeps r j c d h)))

    skips : (s : ℕ) → 1 ≤ s → s < n → passed m has ext (local_bits wt) limit (places_from 0 n s) ≡ passed_over (best_at cost) (work_at kept wt) n limit s
    unfolding passed passed_over local_bits work_at
    skips s x y =
        let z : local_bits wt (keeps m has ext (local_bits wt) limit (places_from 0 n s)) ≡ work_at kept wt s s =
        sym (weighed_ext wt [] (in_either (get_or kept s []) (get_or kept s [])) _ 128 (λ j h. or_self (has_at kept s j) ∙ mask_keeps s j x y h)) in
        ap₂ (λ x y. x && y) (not_full n m masks s y) (ap (λ x. over_limit x limit) z)

    answer : found_at part n (finite (best_at cost (n - 1))) ≡ cheapest m has ext (local_bits wt) limit m (range m)
    answer =
        found_is part n (best_at cost (n - 1)) (best_at cost) _ refl
        (tables_stand n m has ext (local_bits wt) limit (best_at cost) (split_at part) (work_at kept wt) limit tried few ran.filled bits skips (n - 1) (omega (arith, two)) (omega (arith, two)))
        ∙ ap (cheapest m has ext (local_bits wt) limit (suc n)) (sym (full_places n m masks (omega (arith, two))))
        ∙ best_same m has ext (local_bits wt) limit (suc n) m (range m) (omega (arith, range_length 0 m, own_bits m)) (omega (arith, range_length 0 m))

    -- in the words of the contract, for lists of any length
    pub search_found_front : (o : Option ℕ) → o ≡ finite (get_or cost (n - 1) 0) → found_at part (2 ^ m) o ≡ searched_in was wt limit m
    search_found_front o e = ap (found_at part (2 ^ m)) e ∙ ap (λ x. found_at part x (finite (get_or cost (n - 1) 0))) (sym masks) ∙ answer

    pub search_tried_front : tried ≡ tried_in was wt limit m
    search_tried_front = ran.filled.count ∙ all_tried n m has ext (local_bits wt) limit (best_at cost) (work_at kept wt) limit masks skips

-- the same of the lists that the steps leave
module _ (was united kept : List (List ℕ)) (b wt cost part : List ℕ) (n m : ℕ) (limit : Option ℕ) (tried : ℕ) (masks : n ≡ 2 ^ m) (some_members : 1 ≤ m) (few : n ≤ 4096)
    (ran : Ran was united kept b wt cost part n limit tried)
  where
    pub search_found : (o : Option ℕ) → o ≡ finite (get_or cost (n - 1) 0) → found_at part (2 ^ m) o ≡ searched_in was wt limit m
    search_found = search_found_front was united kept wt cost part n m limit tried masks some_members few ran.front

    pub search_tried : tried ≡ tried_in was wt limit m
    search_tried = search_tried_front was united kept wt cost part n m limit tried masks some_members few ran.front
