-- Cases that are run in turn on a reader and a writer. Definitions only. Assumes nothing.
use Rattle.std.specs.Prelude.{◌≡◌, ◌≢◌, ℕ, zero, suc, Ok, Option, List, Result}
use Rattle.std.specs.Fn.{Shared}
use Rattle.byteorder.specs.Endian.{Reads, big_number}
use denote.Ref.{MutBor}

-- n is the number of four bytes, high byte first, that was read, or it is 0
abbrev pub NumberRead : {R : Type 0} → (R → Option (List ℕ)) → R → R → ℕ → Type 0
NumberRead remaining old new n = n ≢ 0 → Reads remaining big_number 4 old new n

module _ {F R W E : Type 0} (g : Shared F (MutBor R × (MutBor W × Unit {0})) (Result (Unit {0}) E × (MutBor R × (MutBor W × Unit {0})))) (f : F) where
  -- a call of f at a reader and a writer may give this result, and leave both so
  pub record Gives (before : R × W) (result : Result (Unit {0}) E) (after : R × W) : Type 0 where
    pub reader : MutBor R
    pub writer : MutBor W
    pub shows : (reader.now ≡ before.0) × (writer.now ≡ before.1)
    pub left : MutBor R × (MutBor W × Unit {0})
    pub met : g.post f (reader, (writer, tt)) (result, left)
    pub leaves : (left.0.now ≡ after.0) × (left.1.0.now ≡ after.1)

  -- so many such calls in turn, each of which gives Ok
  abbrev pub GiveOk : ℕ → R × W → R × W → Type 0
  GiveOk zero before after = after ≡ before
  GiveOk (suc n) before after = (between : R × W) × GiveOk n before between × Gives between (Ok tt) after
