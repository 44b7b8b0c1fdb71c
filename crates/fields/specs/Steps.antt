-- Reading from a place of the file on: no bytes left, part of a header, and a whole field. Assumes nothing.
use Rattle.std.specs.Prelude.{true, false, not, cond, List, [], ◌∷◌, ◌≡◌, refl, ℕ, suc, ◌+◌, ◌*◌, ◌<◌, ◌≤◌, eqb, ltb, length, get_or, take, drop, Result, Ok, Err, MatchResult}
use Rattle.std.proofs.Common.{sym, ap, ◌∙◌, arith, length-drop, lt-ltb, le-ltb, ne_eqb}
use Rattle.spec.specs.declared.Refusal.{Refusal}
use Rattle.spec.specs.declared.Refusal.TheVariants.{Truncated, WrongTag}
use Rattle.spec.specs.Refusal.{check, and_then, checked}
use Rattle.spec.specs.File.{Contents, Due as Due_in_file, weights_due, leaves_due, tree_due, ask_due, end_due, Reading, allowed, may_end, take_field, read_fields}
use Rattle.laws.specs.Results.{then_same}
use Rattle.laws.specs.FileDecisions.{fuel}
use Rattle.payloads.specs.Tags.{tag_number}
use Rattle.payloads.specs.declared.tags.Tag.{Tag}
use Rattle.payloads.specs.declared.tags.Tag.TheVariants.{Weights, Leaf, Outputs, Tree, Flags, Target}
use Rattle.fields.specs.Dues.{due_of}
use Rattle.fields.specs.declared.due.Due.{Due}
use Rattle.fields.specs.declared.Field.{Field}

-- reading bytes to their end
unfoldable pub read_all : Reading → List ℕ → Result Contents Refusal
read_all s bytes = read_fields (suc (length bytes)) s bytes

pub read_end : (s : Reading) → read_all s [] ≡ cond (may_end s.due) (Ok s.read) (Err Truncated)
unfolding read_all
read_end s = refl

pub read_header : (s : Reading) (bytes : List ℕ) → 0 < length bytes → length bytes < 3 → read_all s bytes ≡ Err Truncated
unfolding read_all
read_header s [] h k = absurd (omega arith)
read_header s (t ∷ []) h k = refl
read_header s (t ∷ high ∷ []) h k = refl
read_header s (t ∷ high ∷ low ∷ bytes) h k = absurd (omega arith)

read_field : (s : Reading) (t high low n : ℕ) (bytes : List ℕ) → n ≡ high * 256 + low
    → read_all s (t ∷ high ∷ low ∷ bytes)
    ≡ checked (check (not (allowed s.due t)) WrongTag ∷ check (ltb (length bytes) n) Truncated ∷ [])
    (and_then (take_field s t (take n bytes)) λ s'. read_all s' (drop n bytes))
unfolding read_all
read_field s t high low n bytes e =
    ap (λ k. checked (check (not (allowed s.due t)) WrongTag ∷ check (ltb (length bytes) k) Truncated ∷ [])
    (and_then (take_field s t (take k bytes)) λ s'. read_fields (suc (suc (suc (length bytes)))) s' (drop k bytes))) (sym e)
    ∙ ap (checked (check (not (allowed s.due t)) WrongTag ∷ check (ltb (length bytes) n) Truncated ∷ []))
    (then_same (take_field s t (take n bytes)) (λ s'. read_fields (suc (suc (suc (length bytes)))) s' (drop n bytes)) (λ s'. read_all s' (drop n bytes))
    (λ s'. fuel (suc (suc (suc (length bytes)))) (suc (length (drop n bytes))) s' (drop n bytes) (omega (arith, length-drop n bytes)) (omega arith)))

-- the first field of the bytes is split off: its tag is allowed, and reading goes on from the field's payload to the rest, which is shorter
abbrev pub Splits : Due → List ℕ → Result Field Refusal → Type 0
Splits due bytes r =
    MatchResult r
    (λ f. ((s : Reading) → s.due ≡ due_of due → read_all s bytes ≡ and_then (take_field s (tag_number f.tag) f.payload.now) (λ t. read_all t f.rest.now))
    × (length f.rest.now < length bytes))
    (λ k. (s : Reading) → s.due ≡ due_of due → read_all s bytes ≡ Err k)

-- a byte that names no tag is allowed nowhere
pub unnamed : (d : Due_in_file) (t : ℕ) → ((tag : Tag) → t ≡ tag_number tag → ⊥) → allowed d t ≡ false
unnamed d t n = by_due d (ne_eqb t 1 (n Weights)) (ne_eqb t 2 (n Leaf)) (ne_eqb t 3 (n Outputs)) (ne_eqb t 4 (n Tree)) (ne_eqb t 5 (n Flags)) (ne_eqb t 6 (n Target))
  where
    by_due : (d : Due_in_file) → eqb t 1 ≡ false → eqb t 2 ≡ false → eqb t 3 ≡ false → eqb t 4 ≡ false → eqb t 5 ≡ false → eqb t 6 ≡ false → allowed d t ≡ false
    by_due weights_due a b c d e f = a
    by_due leaves_due a b c d e f = rw (b, c)
    by_due tree_due a b c d e f = rw (d, e, f)
    by_due ask_due a b c d e f = rw (e, f)
    by_due end_due a b c d e f = refl

three : (l : List ℕ) → 3 ≤ length l → l ≡ get_or l 0 0 ∷ get_or l 1 0 ∷ get_or l 2 0 ∷ drop 3 l
three [] k = absurd (omega arith)
three (a ∷ []) k = absurd (omega arith)
three (a ∷ b ∷ []) k = absurd (omega arith)
three (a ∷ b ∷ c ∷ m) k = refl

module _ (l : List ℕ) (h : 3 ≤ length l) (t n : ℕ) (tag : get_or l 0 0 ≡ t) (size : n ≡ get_or l 1 0 * 256 + get_or l 2 0)
    (d : Due_in_file) (s : Reading) (due : s.due ≡ d) where
  field : read_all s l
      ≡ checked (check (not (allowed d t)) WrongTag ∷ check (ltb (length (drop 3 l)) n) Truncated ∷ [])
      (and_then (take_field s t (take n (drop 3 l))) λ s'. read_all s' (drop n (drop 3 l)))
  field =
      ap (read_all s) (three l h)
      ∙ ap (λ (x : ℕ). read_all s (x ∷ get_or l 1 0 ∷ get_or l 2 0 ∷ drop 3 l)) tag
      ∙ read_field s t (get_or l 1 0) (get_or l 2 0) n (drop 3 l) size
      ∙ ap (λ (x : Due_in_file). checked (check (not (allowed x t)) WrongTag ∷ check (ltb (length (drop 3 l)) n) Truncated ∷ [])
      (and_then (take_field s t (take n (drop 3 l))) λ s'. read_all s' (drop n (drop 3 l)))) due

  pub split_tag : allowed d t ≡ false → read_all s l ≡ Err WrongTag
  split_tag e = rw e at field

  pub split_truncated : allowed d t ≡ true → length (drop 3 l) < n → read_all s l ≡ Err Truncated
  split_truncated e k =
      let b : ltb (length (drop 3 l)) n ≡ true = lt-ltb (length (drop 3 l)) n k in rw (e, b) at field

  pub split_whole : allowed d t ≡ true → n ≤ length (drop 3 l)
      → read_all s l ≡ and_then (take_field s t (take n (drop 3 l))) (λ s'. read_all s' (drop n (drop 3 l)))
  split_whole e k =
      let b : ltb (length (drop 3 l)) n ≡ false = le-ltb (length (drop 3 l)) n k in
      rw (e, b) at field
