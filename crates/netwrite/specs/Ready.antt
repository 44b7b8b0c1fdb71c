-- What holds of lists with counts, of a tree and of what is asked, where the writer refuses nothing. Assumes nothing.
use Rattle.std.specs.Prelude.{◌≡◌, List, ℕ, ◌+◌, ◌≤◌, length, Option, Ok}
use Rattle.std.proofs.Common.{Bor}
use Rattle.spec.specs.Refusal.{first}
use Rattle.spec.specs.File.{Contents, file_of, write_checks}
use Rattle.network.specs.Codes.{Facts, passed_facts}
use Rattle.payloads.specs.Payload.{verdict}
use Rattle.fields.specs.Scans.{ask_of}
use Rattle.fields.specs.declared.contents.Asked.{Asked}
use Rattle.netwrite.specs.Contents.{kids_of, contents_of, network_fields}
use Rattle.netwrite.specs.Writes.{KidsFit, AskFits}
use Rattle.netwrite.specs.Answers.{accepted, room, kids_pass, ask_passes, network_asks}

-- what the fields' writers ask
pub record Ready (m n o : ℕ) (weights counts cells outputs : List ℕ) (tree : Option (Bor (List ℕ))) (ask : Asked) (size cursor : ℕ) : Type 0 where
  pub facts : Facts m n o weights counts cells outputs
  -- the tree's children are fewer than 65536 and bytes
  pub kids_fit : KidsFit (kids_of tree)
  pub payload_fits : AskFits (ask_of ask)
  pub room : cursor + length (file_of (contents_of m n o weights counts cells outputs tree ask)) ≤ size

module _ (m n o : ℕ) (weights counts cells outputs : List ℕ) (tree : Option (Bor (List ℕ))) (ask : Asked) (cursor : ℕ) (d : List ℕ)
    (fine : Ok tt ≡ verdict (first (write_checks (contents_of m n o weights counts cells outputs tree ask) (length d) cursor))) where
  abbrev c : Contents
  c = contents_of m n o weights counts cells outputs tree ask

  pub ready : Ready m n o weights counts cells outputs tree ask (length d) cursor
  ready =
      record {
        facts = passed_facts m n o weights counts cells outputs (accepted c cursor d fine);
        kids_fit = kids_pass c cursor d fine;
        payload_fits = ask_passes c cursor d fine;
        room = room c cursor d fine;
      }

  -- what the fields' writers ask, of these lists
  pub network_ready : Facts m n o weights counts cells outputs × (cursor + length (network_fields c.network) ≤ length d)
  network_ready = (ready.facts, (network_asks c cursor d fine).1)
