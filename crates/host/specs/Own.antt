-- A call in memory that checks a number of its own with the network, looks for room for its answer, and then does as another call does: what bisection,
-- improvement and slicing share. Assumes nothing.
use Rattle.std.specs.Prelude.{◌≡◌, refl, Bool, cond, ℕ, ◌≤◌, ◌<◌, Some, Result, Err, unwrap_or}
use Rattle.std.proofs.Math.Path.{sym, ap}
use Rattle.std.proofs.Common.{◌∙◌}
use Rattle.std.proofs.Math.Bool.{true, false}
use mathlib.Core.List.{List, [], ◌∷◌, ◌++◌}
use Rattle.spec.specs.declared.Refusal.{Refusal}
use Rattle.spec.specs.declared.Refusal.TheVariants.{TooLarge, ShortBuffer}
use Rattle.spec.specs.Memory.{cleared}
use Rattle.spec.specs.Refusal.{Check, checked}
use Rattle.spec.specs.Network.{Network, network_checks, refusal_of}
use Rattle.spec.specs.Calls.{lent, length_check, touches, workspace_after}
use Rattle.memory.specs.Call.{own_refused, no_room, own_is_call}

-- a refusal by 3 to 7 leaves the workspace as it was
pub workspace_stays : (A : Type 0) (stated : ℕ) (ws : List ℕ) (r : Refusal) → touches r ≡ false → ws ≡ workspace_after {A = A} stated (Err r) ws
workspace_stays A stated ws r t = sym (ap (λ (b : Bool). cond b (cleared ws stated) ws) t)

-- the answer takes so many of the places lent for it
abbrev pub short : ℕ → ℕ → List Check
short places takes = length_check (lent places takes ∷ []) ∷ []

module _ {A : Type 0} (N : Network) (places takes : ℕ) (call : Result A Refusal) where
  abbrev pub guarding : Bool → Result A Refusal
  guarding large = checked (network_checks large N ++ short places takes) call

-- The call `own` does so; `large`: its number is past the limit. After a refusal r that touches no list, `Stays r` holds of the lists as they were.
pub record Guarded {A : Type 0} (N : Network) (large : Bool) (places takes : ℕ) (own call : Result A Refusal) (Stays : Refusal → Type 0) : Type 0 where
  pub checks : own ≡ guarding N places takes call large
  pub stays : (r : Refusal) → own ≡ Err r → touches r ≡ false → Stays r

module _ {A : Type 0} {N : Network} {large : Bool} {places takes : ℕ} {own call : Result A Refusal} {Stays : Refusal → Type 0}
    (g : Guarded N large places takes own call Stays) where
  -- past its limit the call is refused, whatever the network is
  pub beyond : large ≡ true → own ≡ Err TooLarge
  beyond e = g.checks ∙ ap (guarding N places takes call) e

  pub too_large : large ≡ true → Stays TooLarge
  too_large e = g.stays TooLarge (beyond e) refl

  module _ (few : large ≡ false) where
    own_checks : own ≡ guarding N places takes call false
    own_checks = g.checks ∙ ap (guarding N places takes call) few

    -- a count above its limit
    pub large_network : refusal_of N ≡ Some TooLarge → Stays TooLarge
    large_network e = g.stays TooLarge (own_refused N places takes own call own_checks TooLarge e) refl

    pub short_answer : {M : Network} {r : Refusal} → M ≡ N → places < takes → r ≡ unwrap_or (refusal_of M) ShortBuffer → Stays r
    short_answer {r = r} m h q = let (e, t) = no_room N places takes own call own_checks m h q in g.stays r e t

    -- with room for the answer it is the other call, which has the same check
    pub as_call : (rest : List Check) (p : Result A Refusal) → call ≡ checked (network_checks large N ++ rest) p → takes ≤ places → own ≡ call
    as_call rest p e h = own_is_call N places takes own call own_checks rest p (e ∙ ap (λ (b : Bool). checked (network_checks b N ++ rest) p) few) h
