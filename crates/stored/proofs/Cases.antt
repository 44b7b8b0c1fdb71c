-- A case that was run well. Assumes nothing.
use Rattle.std.proofs.Common.{◌≡◌, ℕ, suc, ◌+◌, Ok, Result, subst, arith, refl}
use Rattle.std.specs.Fn.{Shared}
use Rattle.stored.specs.Cases.{Gives, GiveOk}
use denote.Ref.{MutBor}

module _ {F R W E : Type 0} (g : Shared F (MutBor R × (MutBor W × Unit {0})) (Result (Unit {0}) E × (MutBor R × (MutBor W × Unit {0})))) (f : F) where
  pub one_more : (n : ℕ) (before : R × W) (reader : MutBor R) (writer : MutBor W) (result : Result (Unit {0}) E) (left : MutBor R × (MutBor W × Unit {0}))
      → GiveOk g f n before (reader.now, writer.now) → g.post f (reader, (writer, tt)) (result, left) → result ≡ Ok tt
      → GiveOk g f (n + 1) before (left.0.now, left.1.0.now)
  one_more n before reader writer result left so_far met well =
      let next : suc n ≡ n + 1 = omega arith in
      let called = subst (λ (r : Result (Unit {0}) E). g.post f (reader, (writer, tt)) (r, left)) well met in
      subst (λ (k : ℕ). GiveOk g f k before (left.0.now, left.1.0.now)) next
      ((reader.now, writer.now), so_far, record { reader = reader; writer = writer; shows = (refl, refl); left = left; met = called; leaves = (refl, refl) })

  -- what one call gives
  pub one_call : (reader : MutBor R) (writer : MutBor W) (result : Result (Unit {0}) E) (left : MutBor R × (MutBor W × Unit {0}))
      → g.post f (reader, (writer, tt)) (result, left) → Gives g f (reader.now, writer.now) result (left.0.now, left.1.0.now)
  one_call reader writer result left met = record { reader = reader; writer = writer; shows = (refl, refl); left = left; met = met; leaves = (refl, refl) }
