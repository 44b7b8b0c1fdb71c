-- The network file by computation: the document's sample read and written, and a file for each refusal from 1 to 9. Assumes nothing.
use Rattle.std.specs.Prelude.{List, [], ◌∷◌, ◌++◌, map, ◌≡◌, refl, ℕ, replicate, None, Some, Ok}
use Rattle.std.proofs.Common.{arith}
use Rattle.spec.specs.Refusal.{code_of}
use Rattle.spec.specs.Tree.{valid, tree_at, pairs_of}
use Rattle.spec.specs.File.{flagged, target, Contents, field, file_of, read_of, write_of}
use Rattle.spec.specs.FileClaims.{refusal_in, EachReached}
use Rattle.laws.specs.Samples.{sample}

-- 01 0003 010201, 02 0002 0001, 02 0002 0102, 02 0001 02, 03 0001 00, 06 0001 02
abbrev file : List ℕ
file = 1 ∷ 0 ∷ 3 ∷ 1 ∷ 2 ∷ 1 ∷ 2 ∷ 0 ∷ 2 ∷ 0 ∷ 1 ∷ 2 ∷ 0 ∷ 2 ∷ 1 ∷ 2 ∷ 2 ∷ 0 ∷ 1 ∷ 2 ∷ 3 ∷ 0 ∷ 1 ∷ 0 ∷ 6 ∷ 0 ∷ 1 ∷ 2 ∷ []

abbrev contents : Contents
contents = record { network = sample; tree = None; ask = target 2 }

sample_read : read_of 0 0 file ≡ Ok contents
unfolding read_of
sample_read = refl

sample_written : file_of contents ≡ file
unfolding file_of
sample_written = refl

-- with its tree and two of three flags; the lists that are lent are long enough
abbrev flagged_contents : Contents
flagged_contents = record { network = sample; tree = Some (0 ∷ 1 ∷ 3 ∷ 2 ∷ []); ask = flagged (0 ∷ 1 ∷ []) }

flagged_read : read_of 4 3 (file_of flagged_contents) ≡ Ok flagged_contents
unfolding read_of file_of valid tree_at pairs_of
flagged_read = refl

-- ---- refusals ----

-- one index of weight 1, then a leaf, no outputs, and the end
abbrev after : List ℕ → List ℕ
after l = field 1 (1 ∷ []) ++ l

abbrev ended : List ℕ → List ℕ
ended l = after (field 3 [] ++ l)

-- nothing; no outputs; half a header; a payload that ends early; a tag before its payload; a leaf's bytes, and the outputs', from left to right
refusals : map (λ l. code_of (refusal_in (read_of 9 9 l))) (
    []
    ∷ after []
    ∷ ended (1 ∷ 2 ∷ [])
    ∷ after (2 ∷ 0 ∷ 2 ∷ 0 ∷ [])
    ∷ ended (7 ∷ 0 ∷ 9 ∷ [])
    ∷ ended (field 6 (1 ∷ []) ++ field 5 [])
    ∷ (field 1 (replicate 257 0))
    ∷ ended (field 6 [])
    ∷ (field 1 (9 ∷ []))
    ∷ after (field 2 (1 ∷ []))
    ∷ after (field 2 (0 ∷ 0 ∷ 5 ∷ []))
    ∷ after (field 3 (0 ∷ 5 ∷ 0 ∷ []))
    ∷ after (field 3 (0 ∷ 0 ∷ 5 ∷ []))
    ∷ ended (field 4 (0 ∷ []))
    ∷ ended (field 4 (0 ∷ 0 ∷ []))
    ∷ ended (field 5 (0 ∷ 0 ∷ []))
    ∷ ended (field 5 (2 ∷ []))
    ∷ ended []
    ∷ [])
    ≡ 1 ∷ 1 ∷ 1 ∷ 1 ∷ 2 ∷ 2 ∷ 3 ∷ 3 ∷ 4 ∷ 5 ∷ 6 ∷ 5 ∷ 6 ∷ 8 ∷ 8 ∷ 9 ∷ 9 ∷ 0 ∷ []
unfolding read_of valid tree_at pairs_of
refusals = refl

-- one file for each number, with empty lists lent: the seventh has flags
pub each_reached : EachReached
unfolding read_of valid tree_at pairs_of
each_reached = (
  []
      ∷ field 2 []
      ∷ ended (field 6 (0 ∷ 0 ∷ []))
      ∷ field 1 (9 ∷ [])
      ∷ after (field 2 (1 ∷ []))
      ∷ after (field 2 (0 ∷ 0 ∷ []))
      ∷ ended (field 5 [])
      ∷ ended (field 4 (0 ∷ []))
      ∷ ended (field 5 (2 ∷ []))
      ∷ [],
  (tt, (omega arith, (omega arith, (omega arith, (omega arith, (omega arith, (omega arith, (omega arith, (omega arith, tt))))))))),
  refl,
)

-- 7 at the file's end, for the tree's list and for the flags', one place an index
too_short : (code_of (refusal_in (read_of 3 3 (file_of flagged_contents))) ∷ code_of (refusal_in (read_of 4 2 (file_of flagged_contents))) ∷ []) ≡ 7 ∷ 7 ∷ []
unfolding read_of file_of valid tree_at pairs_of
too_short = refl

-- the writer: one byte too few from the cursor on, and enough
written : (code_of (refusal_in (write_of contents 29 2)) ∷ code_of (refusal_in (write_of contents 30 2)) ∷ []) ≡ 7 ∷ 0 ∷ []
unfolding write_of file_of
written = refl
