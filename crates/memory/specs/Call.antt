-- The call on a network in memory, beside pricing's. Assumes nothing.
use Rattle.std.specs.Prelude.{◌≡◌, refl, Bool, true, ℕ, ◌*◌, ◌≤◌, ◌<◌, Option, None, Some, Result, Err, Ok, unwrap_or}
use Rattle.std.proofs.Math.Path.{sym, ap, subst}
use Rattle.std.proofs.Common.{◌∙◌, arith, le-ltb, lt-ltb}
use Rattle.std.proofs.Math.Bool.{false}
use mathlib.Core.List.{List, [], ◌∷◌, ◌++◌}
use Rattle.spec.specs.declared.Refusal.{Refusal}
use Rattle.spec.specs.declared.Refusal.TheVariants.{ShortBuffer, TooLarge, Overweight, OutOfRange, Repeated}
use Rattle.spec.specs.declared.Prices.{Prices}
use Rattle.spec.specs.Refusal.{Check, check, first, decide, checked}
use Rattle.spec.specs.Network.{Network, network_checks, refusal_of}
use Rattle.spec.specs.Price.{price_of}
use Rattle.spec.specs.Tree.{pairs_of}
use Rattle.spec.specs.Calls.{PriceRoom, lent, length_check, tree_check, flags_check, plain_words, set_words, step_numbers, step_places, node_places, price_call, flag_at, touches}
use Rattle.spec.specs.Host.{memory_call}
use Rattle.laws.specs.Booleans.{by_cases}
use Rattle.walk.specs.Entry.{network_quiet}

pub checked-append : {A : Type 0} (a b : List Check) (r : Result A Refusal) → checked (a ++ b) r ≡ checked a (checked b r)
checked-append [] b r = refl
checked-append (c ∷ a) b r = by_cases c.holds (λ h. rw h) (λ h. rw h (checked-append a b r))

pub decide_twice : {A : Type 0} (o : Option Refusal) (r : Result A Refusal) → decide o (decide o r) ≡ decide o r
decide_twice None r = refl
decide_twice (Some k) r = refl

-- the refusals of a network's four conditions touch no list
first_touches : (a b c d : Bool) (k : Refusal) → first (check a TooLarge ∷ check b Overweight ∷ check c OutOfRange ∷ check d Repeated ∷ []) ≡ Some k
    → touches k ≡ false
first_touches true b c d k e = let w : TooLarge ≡ k = cc in ap touches (sym w)
first_touches false true c d k e = let w : Overweight ≡ k = cc in ap touches (sym w)
first_touches false false true d k e = let w : OutOfRange ≡ k = cc in ap touches (sym w)
first_touches false false false true k e = let w : Repeated ≡ k = cc in ap touches (sym w)
first_touches false false false false k e = absurd (let w : ◌≡◌ {A = ℕ} 0 1 = cc in omega arith)

-- a network's own refusals leave the workspace as it is
pub untouched : (N : Network) (k : Refusal) → refusal_of N ≡ Some k → touches k ≡ false
untouched N k e = network_quiet N k e

-- a call that looks for room for an answer, between the network's checks and another call, which has the network's checks first as well
module _ {A : Type 0} (N : Network) (places takes : ℕ) (own call : Result A Refusal)
    (checks : own ≡ checked (network_checks false N ++ (length_check (lent places takes ∷ []) ∷ [])) call) where
  in_parts : own ≡ decide (refusal_of N) (checked (length_check (lent places takes ∷ []) ∷ []) call)
  in_parts = checks ∙ checked-append (network_checks false N) (length_check (lent places takes ∷ []) ∷ []) call

  -- a network that is refused
  pub own_refused : (k : Refusal) → refusal_of N ≡ Some k → own ≡ Err k
  own_refused k e = in_parts ∙ ap (λ o. decide o (checked (length_check (lent places takes ∷ []) ∷ []) call)) e

  -- no room for the answer
  pub own_short : refusal_of N ≡ None → places < takes → own ≡ Err ShortBuffer
  own_short e h = in_parts ∙ ap (λ o. decide o (checked (length_check (lent places takes ∷ []) ∷ []) call)) e ∙ rw (lt-ltb places takes h)

  -- and whatever the network is: no list is touched then
  no_room_of : (o : Option Refusal) {r : Refusal} → refusal_of N ≡ o → places < takes → r ≡ unwrap_or o ShortBuffer
      → (own ≡ Err r) × (touches r ≡ false)
  no_room_of None e h q = subst (λ (k : Refusal). (own ≡ Err k) × (touches k ≡ false)) (sym q) (own_short e h, refl)
  no_room_of (Some k) e h q = subst (λ (k : Refusal). (own ≡ Err k) × (touches k ≡ false)) (sym q) (own_refused k e, untouched N k e)

  pub no_room : {M : Network} {r : Refusal} → M ≡ N → places < takes → r ≡ unwrap_or (refusal_of M) ShortBuffer
      → (own ≡ Err r) × (touches r ≡ false)
  no_room m h q = no_room_of (refusal_of N) refl h (q ∙ ap (λ (L : Network). unwrap_or (refusal_of L) ShortBuffer) m)

  -- with room for the answer the call is the other
  pub own_is_call : (rest : List Check) (p : Result A Refusal) → call ≡ checked (network_checks false N ++ rest) p → takes ≤ places → own ≡ call
  own_is_call rest p e h =
      let split : call ≡ decide (refusal_of N) (checked rest p) = e ∙ checked-append (network_checks false N) rest p in
      in_parts
      ∙ ap (decide (refusal_of N)) (rw (le-ltb places takes h))
      ∙ ap (decide (refusal_of N)) split
      ∙ decide_twice (refusal_of N) (checked rest p)
      ∙ sym split

-- pricing's
module _ (places : ℕ) (N : Network) (words : ℕ) (room : PriceRoom) (flags kids : List ℕ) where
  abbrev own : Result Prices Refusal
  own = memory_call places N words room flags kids

  abbrev call : Result Prices Refusal
  call = price_call N words room flags kids

  priced : own ≡ checked (network_checks false N ++ (length_check (lent places 4 ∷ []) ∷ [])) call
  unfolding memory_call
  priced = refl

  pub as_refused : (k : Refusal) → refusal_of N ≡ Some k → memory_call places N words room flags kids ≡ Err k
  as_refused k e = own_refused N places 4 own call priced k e

  pub as_short : refusal_of N ≡ None → places < 4 → memory_call places N words room flags kids ≡ Err ShortBuffer
  as_short e h = own_short N places 4 own call priced e h

  pub as_priced : 4 ≤ places → memory_call places N words room flags kids ≡ price_call N words room flags kids
  unfolding price_call
  as_priced h =
      let rest : List Check =
      length_check (
      lent words plain_words
      ∷ lent room.sets (node_places N * set_words)
      ∷ lent room.sizes (node_places N)
      ∷ lent room.works (node_places N)
      ∷ lent room.steps (step_places N * step_numbers)
      ∷ [])
      ∷ tree_check N kids
      ∷ flags_check N flags
      ∷ [] in
      own_is_call N places 4 own call priced rest (Ok (price_of N (flag_at flags) (pairs_of kids))) refl h
