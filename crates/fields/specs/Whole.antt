-- Field after field to the file's end. Assumes nothing.
use Rattle.std.specs.Prelude.{true, false, cond, List, [], ◌∷◌, ◌≡◌, refl, ℕ, ◌≤◌, length, None, Result, Ok, Err, MatchResult}
use Rattle.std.proofs.Common.{sym, ◌∙◌, arith}
use Rattle.std.proofs.Math.Path.{ap}
use Rattle.spec.specs.declared.Refusal.{Refusal}
use Rattle.spec.specs.declared.Refusal.TheVariants.{Truncated}
use Rattle.spec.specs.Refusal.{and_then}
use Rattle.spec.specs.File.{weights_due, plain, may_end, take_field, nothing_read}
use Rattle.network.specs.declared.Network.{Network as Record}
use Rattle.network.specs.Record.{net_of}
use Rattle.network.specs.Layouts.{layout_empty}
use Rattle.fields.specs.declared.contents.Contents.{Contents}
use Rattle.fields.specs.declared.contents.Counts.{Counts}
use Rattle.fields.specs.declared.Scan.{Scan}
use Rattle.fields.specs.declared.due.Due.TheVariants.{Weights}
use Rattle.fields.specs.declared.contents.Asked.TheVariants.{Plain}
use Rattle.fields.specs.Dues.{due_of}
use Rattle.fields.specs.Scans.{record_in, contents_of, reading_of}
use Rattle.fields.specs.Steps.{read_all, read_end}
use Rattle.fields.specs.Fields.{Sound}

-- the whole file has been read: what it has, with the record's network, or the refusal
abbrev pub Finished : List ℕ → Result Contents Refusal → Record → Type 0
Finished file r n = MatchResult r (λ c. (read_all nothing_read file ≡ Ok (contents_of c n)) × Sound n) (λ k. read_all nothing_read file ≡ Err k)

-- the same of lists, with the counts of what is in use
abbrev pub FinishedIn : List ℕ → Result (Counts × Contents) Refusal → (weights counts legs outputs : List ℕ) → Type 0
FinishedIn file r w c l o =
    MatchResult r
    (λ p. (read_all nothing_read file ≡ Ok (contents_of p.1 (record_in p.0 w c l o))) × Sound (record_in p.0 w c l o))
    (λ k. read_all nothing_read file ≡ Err k)

-- the lists have room for any network
pub record Room (weights counts legs outputs : List ℕ) : Type 0 where
  pub weights_room : 256 ≤ length weights
  pub counts_room : 128 ≤ length counts
  pub legs_room : 4096 ≤ length legs
  pub outputs_room : 32 ≤ length outputs

-- nothing has been refused, and the file says what it says from here on
pub record Reached (file rest : List ℕ) (s : Scan) (n : Record) : Type 0 where
  pub sound : Sound n
  pub same : read_all nothing_read file ≡ read_all (reading_of s n) rest

module _ {file rest : List ℕ} {s : Scan} {n : Record} (a : Reached file rest s n) where
  -- a field is refused
  pub refused_on : (k : Refusal) → read_all (reading_of s n) rest ≡ Err k → read_all nothing_read file ≡ Err k
  refused_on k e = a.same ∙ e

  module _ (tag : ℕ) (payload more : List ℕ) (e : read_all (reading_of s n) rest ≡ and_then (take_field (reading_of s n) tag payload) (λ t. read_all t more)) where
    pub refused_in : (k : Refusal) → take_field (reading_of s n) tag payload ≡ Err k → read_all nothing_read file ≡ Err k
    refused_in k q = a.same ∙ e ∙ ap (λ r. and_then r (λ t. read_all t more)) q

    pub reached_next : (t : Scan) (m : Record) → take_field (reading_of s n) tag payload ≡ Ok (reading_of t m) → Sound m → Reached file more t m
    reached_next t m q h = record { sound = h; same = a.same ∙ e ∙ ap (λ r. and_then r (λ t. read_all t more)) q }

-- at the file's end
module _ {file : List ℕ} {s : Scan} {n : Record} (a : Reached file [] s n) where
  pub finished : may_end (due_of s.due) ≡ true → read_all nothing_read file ≡ Ok (contents_of s.contents n)
  finished e = a.same ∙ read_end (reading_of s n) ∙ ap (λ b. cond b (Ok (contents_of s.contents n)) (Err Truncated)) e

  pub finished_truncated : may_end (due_of s.due) ≡ false → read_all nothing_read file ≡ Err Truncated
  finished_truncated e = a.same ∙ read_end (reading_of s n) ∙ ap (λ b. cond b (Ok (contents_of s.contents n)) (Err Truncated)) e

-- before the first field: the lists may hold anything
pub reached_start : (file weights counts legs outputs : List ℕ)
    → Reached file file (record { due = Weights; counts = record { index_count = 0; leaf_count = 0; output_count = 0 }; contents = record { tree = None; ask = Plain } })
    (record { index_count = 0; leaf_count = 0; output_count = 0; weights = weights; leg_counts = counts; legs = legs; outputs = outputs })
unfolding net_of
reached_start file weights counts legs outputs =
    record {
      sound = record { leaves = omega arith; few = λ i h. absurd (omega arith) };
      same = ap (λ N. read_all (record { due = weights_due; read = record { network = N; tree = None; ask = plain } }) file) (sym (layout_empty weights counts legs outputs));
    }

pub no_bytes : (l : List ℕ) → length l ≡ 0 → l ≡ []
no_bytes [] e = refl
no_bytes (x ∷ l) e = absurd (omega arith)
