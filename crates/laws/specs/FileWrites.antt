-- The writer: what it answers, and that a file read and then written is the same. Assumes nothing.
use Rattle.std.specs.Prelude.{◌≡◌, refl, List, [], ◌∷◌, ◌++◌, ℕ, ◌+◌, ◌-◌, ◌≤◌, ltb, take, drop, Option, None, Some, Result, Ok}
use Rattle.std.proofs.Math.Path.{sym}
use Rattle.std.proofs.Common.{ap, ◌∙◌, subst, arith, take_at, drop_at, length-take-le}
use Rattle.std.proofs.Math.Bool.{false}
use Rattle.spec.specs.declared.Refusal.{Refusal}
use Rattle.std.proofs.Math.ListN.{length}
use borrow.Author.Tests.{ltb-false, le-ltb}
use Rattle.spec.specs.Refusal.{Check, first}
use Rattle.spec.specs.Network.{Network, network_checks}
use Rattle.spec.specs.Calls.{lent, length_check}
use Rattle.spec.specs.File.{Ask, plain, flagged, target, Contents, file_of, tree_checks, flags_checks, write_checks, read_of, write_of, buffer_after}
use Rattle.spec.specs.FileClaims.{LawfulTree, LawfulAsk, Lawful, TargetIsByte, WritesLawful, Rewritten, ReadThenWritten, WriterThenReader, BufferStays, if_tree, if_flags, WriterByNumber}
use Rattle.spec.specs.CallClaims.{numbers_of}
use Rattle.laws.specs.Booleans.{or_none}
use Rattle.laws.specs.MemberLaws.{all_append, all_parts}
use Rattle.laws.specs.Results.{done_same, checked_done, checked_none}
use Rattle.laws.specs.FileDecisions.{refused_by_first}
use Rattle.laws.specs.FileFields.{Fails, passes_fails, fails_passes, tree_fails, fails_tree, flags_fails, fails_flags}
use Rattle.laws.specs.FileReads.{written_then_read, reads_just, room_for_all}
use Rattle.laws.specs.FileLists.{placed_at}

-- ---- the conditions, and what is lawful ----

trees_fail : (N : Network) (t : Option (List ℕ)) → LawfulTree N t → Fails (tree_checks N t)
trees_fail N None h = tt
trees_fail N (Some kids) h = tree_fails N kids h

fail_trees : (N : Network) (t : Option (List ℕ)) → Fails (tree_checks N t) → LawfulTree N t
fail_trees N None h = tt
fail_trees N (Some kids) h = fails_tree N kids h

asks_fail : (N : Network) (a : Ask) → LawfulAsk N a → Fails (flags_checks N a)
asks_fail N plain h = tt
asks_fail N (flagged l) h = flags_fails N l h
asks_fail N (target w) h = tt

fail_asks : (N : Network) (a : Ask) → TargetIsByte a → Fails (flags_checks N a) → LawfulAsk N a
fail_asks N plain b h = tt
fail_asks N (flagged l) b h = fails_flags N l h
fail_asks N (target w) b h = b

module _ (c : Contents) (size cursor : ℕ) where
  abbrev after : List Check
  after = tree_checks c.network c.tree ++ flags_checks c.network c.ask

  abbrev room : Check
  room = length_check (lent size (cursor + length (file_of c)) ∷ [])

  pub writes : Lawful c → cursor + length (file_of c) ≤ size → write_of c size cursor ≡ Ok (cursor + length (file_of c))
  unfolding write_of
  writes h k =
      checked_none (write_checks c size cursor) _
      (all_append (λ x. x.holds ≡ false) (network_checks false c.network) (room ∷ after)
      (passes_fails (network_checks false c.network) h.network) (
        rw (le-ltb size (cursor + length (file_of c)) k),
        all_append (λ x. x.holds ≡ false) (tree_checks c.network c.tree) (flags_checks c.network c.ask)
            (trees_fail c.network c.tree h.tree) (asks_fail c.network c.ask h.ask),
      ))

  wrote : (next : ℕ) → TargetIsByte c.ask → write_of c size cursor ≡ Ok next → Lawful c × (next ≡ cursor + length (file_of c)) × (next ≤ size)
  unfolding write_of
  wrote next b e =
      let (f, q) = checked_done (write_checks c size cursor) (Ok (cursor + length (file_of c))) next e in
      let (f₀, f₁) = all_parts (λ x. x.holds ≡ false) (network_checks false c.network) (room ∷ after) f in
      let (f₂, f₃) = all_parts (λ x. x.holds ≡ false) (tree_checks c.network c.tree) (flags_checks c.network c.ask) f₁.1 in
      let z : cursor + length (file_of c) ≡ next = done_same (cursor + length (file_of c)) next q in (
        record {
          network = fails_passes (network_checks false c.network) f₀;
          tree = fail_trees c.network c.tree f₂;
          ask = fail_asks c.network c.ask b f₃;
        },
        sym z,
        omega (arith, ltb-false size (cursor + length (file_of c)) (or_none (ltb size (cursor + length (file_of c))) false f₁.0).0),
      )

pub writes_lawful : WritesLawful
writes_lawful c size cursor next b = (
  wrote c size cursor next b,
  (λ (h, q, k). writes c size cursor h (omega arith) ∙ ap (λ (x : ℕ). Ok x) (sym q)),
)

-- ---- read, then written ----

rewritten : (c : Contents) → Lawful c → Rewritten (file_of c) c
rewritten c h =
    record {
      same = refl;
      answer = λ size cursor k. writes c size cursor h k;
      buffer = λ out cursor k. ap (λ (x : Result ℕ Refusal). buffer_after c cursor x out) (writes c (length out) cursor h k) ∙ placed_at out cursor (file_of c) k;
    }

pub read_then_written : ReadThenWritten
read_then_written places flag_places file c b e =
    let (h, r, q) = (reads_just places flag_places file c b).0 e in
    subst (λ (x : List ℕ). Rewritten x c) (sym q) (rewritten c h)

-- ---- written, then read ----

-- the bytes from the cursor on are the file's
bytes_written : (c : Contents) (out : List ℕ) (cursor next : ℕ) → Lawful c → next ≡ cursor + length (file_of c) → next ≤ length out
    → take (next - cursor) (drop cursor (buffer_after c cursor (write_of c (length out) cursor) out)) ≡ file_of c
bytes_written c out cursor next h q k =
    let rest : List ℕ = drop (cursor + length (file_of c)) out in
    let front : length (take cursor out) ≡ cursor = length-take-le cursor out (omega arith) in
    let size : length (file_of c) ≡ next - cursor = omega arith in
    ap (λ (l : List ℕ). take (next - cursor) (drop cursor l)) ((rewritten c h).buffer out cursor (omega arith))
    ∙ ap (take (next - cursor)) (drop_at (take cursor out) (file_of c ++ rest) cursor front)
    ∙ take_at (file_of c) rest (next - cursor) size

pub writer_then_reader : WriterThenReader
writer_then_reader places flag_places c out cursor next h k b e =
    let (l, q, z) = (writes_lawful c (length out) cursor next b).0 e in
    ap (read_of places flag_places) (bytes_written c out cursor next l q z)
    ∙ written_then_read places flag_places c l (room_for_all places flag_places c l h k)

pub buffer_stays : BufferStays
buffer_stays c cursor out r e = ap (λ (x : Result ℕ Refusal). buffer_after c cursor x out) e

-- ---- by number ----

tree_numbers : (N : Network) (t : Option (List ℕ)) (a : Ask) → numbers_of (tree_checks N t ++ flags_checks N a) ≡ if_tree t ++ if_flags a
tree_numbers N None plain = refl
tree_numbers N None (flagged l) = refl
tree_numbers N None (target w) = refl
tree_numbers N (Some kids) plain = refl
tree_numbers N (Some kids) (flagged l) = refl
tree_numbers N (Some kids) (target w) = refl

pub writer_by_number : WriterByNumber
unfolding write_of
writer_by_number c size cursor = (
  refused_by_first (first (write_checks c size cursor)) (cursor + length (file_of c)),
  ap (λ (ns : List ℕ). 3 ∷ 4 ∷ 5 ∷ 6 ∷ 7 ∷ ns) (tree_numbers c.network c.tree c.ask),
)
