-- The network file is checked field by field, and the first condition that holds decides. Assumes nothing.
use Rattle.std.specs.Prelude.{◌≡◌, refl, Bool, true, false, not, ◌||◌, cond, List, [], ◌∷◌, ◌++◌, ℕ, zero, suc, ◌+◌, ◌*◌, ◌/◌, ◌%◌, ◌≤◌, ◌<◌, eqb, ltb, leb, length, take, drop, Option, None, Some, Result, Err, Ok}
use Rattle.std.proofs.Common.{sym, ap, ap₂, ◌∙◌, subst, true≢false, append_assoc, arith, length-append, length-drop, take_at, drop_at, ltb-false, lt-ltb, le-ltb, le-leb, leb-false, ne_eqb}
use Rattle.std.proofs.Math.Path.{fun_ext}
use Rattle.std.proofs.Math.Bool.{or_assoc}
use Rattle.spec.specs.declared.Refusal.{Refusal}
use Rattle.spec.specs.declared.Refusal.TheVariants.{Truncated, TooLarge, OutOfRange, Repeated, ShortBuffer}
use Rattle.std.proofs.lemmas.List.{take-append-le, drop-append-le}
use Rattle.std.proofs.lemmas.Bool.{lt-leb}
use Rattle.spec.specs.Lists.{memb}
use Rattle.spec.specs.Members.{All}
use Rattle.spec.specs.Refusal.{number_of, Check, check, first, and_then, decide, checked}
use Rattle.spec.specs.Network.{Network, leaf_count, index_count, max_leaves, max_legs, max_outputs, repeats, any_out_of_range}
use Rattle.spec.specs.File.{Contents, field, allowed, may_end, Reading, header_checks, weights_checks, index_checks, index_bytes, leaf_checks, outputs_checks, take_target, take_field, read_fields, nothing_read, tree_lent, flags_lent, read_of}
use Rattle.spec.specs.FileClaims.{read_from, none_left, one_more, RestDecides, DecidesInOrder, refusal_in, for_each, PayloadsInOrder, FirstWrong, LeftToRight, ListsLast, StaysRefused, RefusesUpTo9}
use Rattle.spec.specs.Calls.{length_check, tree_check, flags_check}
use Rattle.spec.specs.CallClaims.{numbers_of}
use Rattle.laws.specs.Booleans.{by_cases, clash, or_introl, or_swap}
use Rattle.laws.specs.FileFields.{Fails, any_none, index_fails, apart_nil}
use Rattle.laws.specs.MemberLaws.{all_in, memb_in}
use Rattle.laws.specs.Results.{not_done, refused_same}

-- ---- the fuel does not matter ----

pub fuel : (f g : ℕ) (s : Reading) (bytes : List ℕ) → length bytes < f → length bytes < g → read_fields f s bytes ≡ read_fields g s bytes
fuel zero g s bytes h k = absurd (omega arith)
fuel (suc f) zero s bytes h k = absurd (omega arith)
fuel (suc f) (suc g) s [] h k = refl
fuel (suc f) (suc g) s (t ∷ []) h k = refl
fuel (suc f) (suc g) s (t ∷ high ∷ []) h k = refl
fuel (suc f) (suc g) s (t ∷ high ∷ low ∷ bytes) h k =
    let n : ℕ = high * 256 + low in
    ap (λ (rest : Reading → Result Contents Refusal). checked (header_checks s.due t n (length bytes)) (and_then (take_field s t (take n bytes)) rest))
    (fun_ext λ s'. fuel f g s' (drop n bytes) (simp length-drop (omega arith)) (simp length-drop (omega arith)))

-- a field whose bytes are all there
pub one_field : (s : Reading) (t high low : ℕ) (bytes : List ℕ) → allowed s.due t ≡ true → high * 256 + low ≤ length bytes
    → read_from s (t ∷ high ∷ low ∷ bytes) ≡ and_then (take_field s t (take (high * 256 + low) bytes)) (λ s'. read_from s' (drop (high * 256 + low) bytes))
one_field s t high low bytes a h =
    let n : ℕ = high * 256 + low in
    rw (a, le-ltb (length bytes) n h)
    (ap (and_then (take_field s t (take n bytes)))
    (fun_ext λ s'. fuel (suc (suc (suc (length bytes)))) (suc (length (drop n bytes))) s' (drop n bytes) (simp length-drop (omega arith)) (omega arith)))

-- a field as it is written
pub next_field : (s : Reading) (t : ℕ) (l rest : List ℕ) → allowed s.due t ≡ true
    → read_from s (field t l ++ rest) ≡ and_then (take_field s t l) (λ s'. read_from s' rest)
next_field s t l rest a =
    let n : ℕ = length l / 256 * 256 + length l % 256 in
    let e : length l ≡ n = omega arith in
    one_field s t (length l / 256) (length l % 256) (l ++ rest) a (simp length-append (omega arith))
    ∙ ap₂ (λ (x y : List ℕ). and_then (take_field s t x) (λ s'. read_from s' y)) (take_at l rest n e) (drop_at l rest n e)

pub field_read : (s s' : Reading) (t : ℕ) (l rest : List ℕ) → allowed s.due t ≡ true → take_field s t l ≡ Ok s'
    → read_from s (field t l ++ rest) ≡ read_from s' rest
field_read s s' t l rest a e = next_field s t l rest a ∙ ap (λ (r : Result Reading Refusal). and_then r (λ x. read_from x rest)) e

pub rest_decides : RestDecides
rest_decides s s' fields rest none_left = refl
rest_decides s s' fields rest (one_more {s' = m} {bytes = bytes} t l a e w) =
    ap (read_from s) (append_assoc (field t l) bytes rest)
    ∙ field_read s m t l (bytes ++ rest) a e
    ∙ rest_decides m s' bytes rest w

pub decides_in_order : DecidesInOrder
decides_in_order s =
    record {
      ended = refl;
      one_byte = λ t. refl;
      two_bytes = λ t high. refl;
      tag = λ t high low bytes a. rw a;
      payload = λ t high low bytes a h. rw (a, lt-ltb (length bytes) (high * 256 + low) h);
      own = λ t high low bytes r a h e. one_field s t high low bytes a h
          ∙ ap (λ (x : Result Reading Refusal). and_then x (λ s'. read_from s' (drop (high * 256 + low) bytes))) e;
    }

-- ---- the numbers of a field's conditions ----

index_numbers : (m : ℕ) (before l : List ℕ) → numbers_of (index_checks m before l) ≡ for_each (5 ∷ 6 ∷ []) l
index_numbers m before [] = refl
index_numbers m before (j ∷ l) = ap (λ (ns : List ℕ). 5 ∷ 6 ∷ ns) (index_numbers m (j ∷ before) l)

pub refused_by_first : {A : Type 0} (o : Option Refusal) (x : A) → refusal_in (decide o (Ok x)) ≡ o
refused_by_first None x = refl
refused_by_first (Some r) x = refl

one_byte : (N : Network) (given : Option (List ℕ)) (l : List ℕ) → refusal_in (take_target N given l) ≡ first (check (not (eqb (length l) 1)) TooLarge ∷ [])
one_byte N given [] = refl
one_byte N given (w ∷ []) = refl
one_byte N given (w ∷ v ∷ l) = rw (ne_eqb (suc (suc (length l))) 1 (λ e. omega arith))

pub payloads_in_order : PayloadsInOrder
payloads_in_order s l =
    let N : Network = s.read.network in
    let bytes : 3 ∷ numbers_of (index_checks (index_count N) [] l) ≡ 3 ∷ for_each (5 ∷ 6 ∷ []) l = ap (λ (ns : List ℕ). 3 ∷ ns) (index_numbers (index_count N) [] l) in
    record {
      weights = (refused_by_first (first (weights_checks l)) _, refl);
      leaf = (refused_by_first (first (leaf_checks N l)) _, bytes);
      outputs = (refused_by_first (first (outputs_checks N l)) _, bytes);
      tree = (refused_by_first (first (tree_check N l ∷ [])) _, refl);
      flags = (refused_by_first (first (flags_check N l ∷ [])) _, refl);
      target = (one_byte N s.read.tree l, refl);
    }

-- ---- indices from left to right ----

module _ (m j : ℕ) (rest : List ℕ) where
  range_first : (before good : List ℕ) → Fails (index_checks m before good) → m ≤ j → index_bytes m before (good ++ (j ∷ rest)) ≡ Some OutOfRange
  range_first before [] h b = rw (le-leb m j b)
  range_first before (k ∷ good) h b = rw (h.0, h.1.0) (range_first (k ∷ before) good h.1.1 b)

  again_first : (before good : List ℕ) → Fails (index_checks m before good) → j < m → (memb j good || memb j before) ≡ true
      → index_bytes m before (good ++ (j ∷ rest)) ≡ Some Repeated
  again_first before [] h b e = rw (lt-leb m j b, e)
  again_first before (k ∷ good) h b e =
      rw (h.0, h.1.0)
      (again_first (k ∷ before) good h.1.1 b (or_swap (memb j good) (eqb j k) (memb j before) ∙ sym (or_assoc (eqb j k) (memb j good) (memb j before)) ∙ e))

module _ (s : Reading) (good : List ℕ) (j : ℕ) (rest : List ℕ) (in_range : any_out_of_range (index_count s.read.network) good ≡ false) (apart : repeats good ≡ false) where
  abbrev m : ℕ
  m = index_count s.read.network

  good_fails : Fails (index_checks m [] good)
  good_fails = index_fails m [] good in_range apart (apart_nil good)

  range_decides : m ≤ j → index_bytes m [] (good ++ (j ∷ rest)) ≡ Some OutOfRange
  range_decides = range_first m j rest [] good good_fails

  again_decides : memb j good ≡ true → index_bytes m [] (good ++ (j ∷ rest)) ≡ Some Repeated
  again_decides e =
      let b : leb m j ≡ false = all_in (λ k. leb m k ≡ false) j good (any_none (λ k. leb m k) good in_range) (memb_in j good e) in
      again_first m j rest [] good good_fails (leb-false m j b) (or_introl (memb j good) false e)

  pub wrong_leaf : length (good ++ (j ∷ rest)) ≤ max_legs → leaf_count s.read.network < max_leaves → FirstWrong s 2 good j rest
  wrong_leaf h k =
      let f : ltb max_legs (length (good ++ (j ∷ rest))) ≡ false = le-ltb max_legs (length (good ++ (j ∷ rest))) h in
      let g : leb max_leaves (leaf_count s.read.network) ≡ false = lt-leb max_leaves (leaf_count s.read.network) k in
      record {
        range = λ b. rw (f, g, range_decides b);
        again = λ b. rw (f, g, again_decides b);
      }

  pub wrong_outputs : length (good ++ (j ∷ rest)) ≤ max_outputs → FirstWrong s 3 good j rest
  wrong_outputs h =
      let f : ltb max_outputs (length (good ++ (j ∷ rest))) ≡ false = le-ltb max_outputs (length (good ++ (j ∷ rest))) h in
      record {
        range = λ b. rw (f, range_decides b);
        again = λ b. rw (f, again_decides b);
      }

pub left_to_right : LeftToRight
left_to_right s good j rest e r = record { leaf = wrong_leaf s good j rest e r; outputs = wrong_outputs s good j rest e r }

-- ---- which numbers a field is refused by ----

-- a number from 1 to 9 and not 7
abbrev pub of_fields : Refusal → Bool
of_fields r = memb (number_of r) (1 ∷ 2 ∷ 3 ∷ 4 ∷ 5 ∷ 6 ∷ 8 ∷ 9 ∷ [])

-- if it is a refusal, then by such a number
abbrev OfFields : {A : Type 0} → Result A Refusal → Type 0
OfFields (Err r) = of_fields r ≡ true
OfFields (Ok x) = Unit {0}

abbrev Gives : List Check → Type 0
Gives cs = All (λ c. of_fields c.gives ≡ true) cs

checked_of : {A : Type 0} (cs : List Check) (x : Result A Refusal) → Gives cs → OfFields x → OfFields (checked cs x)
checked_of [] x h k = k
checked_of (c ∷ cs) x h k = by_cases c.holds (λ e. rw e h.0) (λ e. rw e (checked_of cs x h.1 k))

then_of : {A B : Type 0} (x : Result A Refusal) (f : A → Result B Refusal) → OfFields x → ((y : A) → OfFields (f y)) → OfFields (and_then x f)
then_of (Err r) f h k = h
then_of (Ok y) f h k = k y

cond_of : {A : Type 0} (b : Bool) (x y : Result A Refusal) → OfFields x → OfFields y → OfFields (cond b x y)
cond_of true x y h k = h
cond_of false x y h k = k

index_gives : (m : ℕ) (before l : List ℕ) → Gives (index_checks m before l)
index_gives m before [] = tt
index_gives m before (j ∷ l) = (refl, (refl, index_gives m (j ∷ before) l))

target_of : (N : Network) (given : Option (List ℕ)) (l : List ℕ) → OfFields (take_target N given l)
target_of N given [] = refl
target_of N given (w ∷ []) = tt
target_of N given (w ∷ v ∷ l) = refl

field_of : (s : Reading) (t : ℕ) (l : List ℕ) → OfFields (take_field s t l)
field_of s t l =
    let N : Network = s.read.network in
    cond_of (eqb t 1) _ _ (checked_of (weights_checks l) _ (refl, (refl, tt)) tt)
    (cond_of (eqb t 2) _ _ (checked_of (leaf_checks N l) _ (refl, index_gives (index_count N) [] l) tt)
    (cond_of (eqb t 3) _ _ (checked_of (outputs_checks N l) _ (refl, index_gives (index_count N) [] l) tt)
    (cond_of (eqb t 4) _ _ (checked_of (tree_check N l ∷ []) _ (refl, tt) tt)
    (cond_of (eqb t 5) _ _ (checked_of (flags_check N l ∷ []) _ (refl, tt) tt) (target_of N s.read.tree l)))))

fields_of : (f : ℕ) (s : Reading) (bytes : List ℕ) → OfFields (read_fields f s bytes)
fields_of zero s bytes = refl
fields_of (suc f) s [] = cond_of (may_end s.due) (Ok s.read) (Err Truncated) tt refl
fields_of (suc f) s (t ∷ []) = refl
fields_of (suc f) s (t ∷ high ∷ []) = refl
fields_of (suc f) s (t ∷ high ∷ low ∷ bytes) =
    let n : ℕ = high * 256 + low in
    checked_of (header_checks s.due t n (length bytes)) (and_then (take_field s t (take n bytes)) (λ s'. read_fields f s' (drop n bytes))) (refl, (refl, tt))
    (then_of (take_field s t (take n bytes)) (λ s'. read_fields f s' (drop n bytes)) (field_of s t (take n bytes)) (λ s'. fields_of f s' (drop n bytes)))

-- 7, at the file's end
abbrev pub room_check : ℕ → ℕ → Contents → Check
room_check places flag_places c =
    length_check (tree_lent c.network places c.tree ++ flags_lent c.network flag_places c.ask)

-- the reader refuses as its fields do, or by 7
pub refusal_cases {ℓ} : {P : Type ℓ} (places flag_places : ℕ) (file : List ℕ) (r : Refusal) → read_of places flag_places file ≡ Err r
    → (read_from nothing_read file ≡ Err r → P)
    → ((c : Contents) → read_from nothing_read file ≡ Ok c → (room_check places flag_places c).holds ≡ true → r ≡ ShortBuffer → P)
    → P
unfolding read_of
refusal_cases {P = P} places flag_places file r e f g = go (read_from nothing_read file) refl e
  where
    go : (x : Result Contents Refusal) → read_from nothing_read file ≡ x
        → and_then x (λ c. checked (room_check places flag_places c ∷ []) (Ok c)) ≡ Err r → P
    go (Err k) q h = f (q ∙ h)
    go (Ok c) q h =
        by_cases (room_check places flag_places c).holds
        (λ b. g c q b (sym (refused_same ShortBuffer r (rw b at h))))
        (λ b. not_done r c (sym (rw b at h)))

pub fields_no_7 : (file : List ℕ) → read_from nothing_read file ≡ Err ShortBuffer → ⊥
fields_no_7 file e = true≢false (sym (subst OfFields e (fields_of (suc (length file)) nothing_read file)))

all_le : (r : Refusal) → of_fields r ≡ true → number_of r ≤ 9
all_le r h = all_in (λ k. k ≤ 9) (number_of r) (1 ∷ 2 ∷ 3 ∷ 4 ∷ 5 ∷ 6 ∷ 8 ∷ 9 ∷ []) (omega arith) (memb_in (number_of r) _ h)

pub refuses_up_to_9 : RefusesUpTo9
refuses_up_to_9 places flag_places file r e =
    refusal_cases places flag_places file r e
    (λ q. all_le r (subst OfFields q (fields_of (suc (length file)) nothing_read file)))
    (λ c q h k. rw k (omega arith))

-- ---- bytes that follow ----

then_refused : {A B : Type 0} (x : Result A Refusal) (r : Refusal) (f g : A → Result B Refusal) → and_then x f ≡ Err r
    → ((y : A) → f y ≡ Err r → g y ≡ Err r) → and_then x g ≡ Err r
then_refused (Err k) r f g e h = cc
then_refused (Ok y) r f g e h = h y e

stays : (f g : ℕ) (s : Reading) (bytes more : List ℕ) (r : Refusal) → (r ≡ Truncated → ⊥) → read_fields f s bytes ≡ Err r
    → length (bytes ++ more) < g → read_fields g s (bytes ++ more) ≡ Err r
stays zero g s bytes more r h e k = absurd (h (sym (refused_same Truncated r e)))
stays (suc f) g s [] more r h e k =
    by_cases (may_end s.due)
    (λ m. not_done r s.read (sym (rw m at e)))
    (λ m. absurd (h (sym (refused_same Truncated r (rw m at e)))))
stays (suc f) g s (t ∷ []) more r h e k = absurd (h (sym (refused_same Truncated r e)))
stays (suc f) g s (t ∷ high ∷ []) more r h e k = absurd (h (sym (refused_same Truncated r e)))
stays (suc f) zero s (t ∷ high ∷ low ∷ bytes) more r h e k = absurd (omega arith)
stays (suc f) (suc g) s (t ∷ high ∷ low ∷ bytes) more r h e k =
    let n : ℕ = high * 256 + low in
    by_cases (allowed s.due t)
    (λ a. by_cases (ltb (length bytes) n)
    (λ b. absurd (h (sym (refused_same Truncated r (rw (a, b) at e)))))
    (λ b. let q : n ≤ length bytes = ltb-false (length bytes) n b in
    rw (a, le-ltb (length (bytes ++ more)) n (simp length-append (omega arith)), take-append-le n bytes more q, drop-append-le n bytes more q)
    (then_refused (take_field s t (take n bytes)) r (λ s'. read_fields f s' (drop n bytes)) (λ s'. read_fields g s' (drop n bytes ++ more)) (rw (a, b) at e)
    (λ s' i. stays f g s' (drop n bytes) more r h i (simp (length-append, length-drop) (omega (arith, length-append bytes more)))))))
    (λ a. rw a (rw a at e))

pub lists_last : ListsLast
unfolding read_of
lists_last places flag_places file r e = rw e

pub stays_refused : StaysRefused
unfolding read_of
stays_refused places flag_places file more r m e =
    refusal_cases places flag_places file r e
    (λ q. ap (λ (x : Result Contents Refusal). and_then x (λ c. checked (room_check places flag_places c ∷ []) (Ok c)))
    (stays (suc (length file)) (suc (length (file ++ more))) nothing_read file more r (λ i. clash m (ap (λ x. memb (number_of x) lasting) i)) q (omega arith)))
    (λ c q b i. clash m (ap (λ x. memb (number_of x) lasting) i))
  where
    lasting : List ℕ
    lasting = 2 ∷ 3 ∷ 4 ∷ 5 ∷ 6 ∷ 8 ∷ 9 ∷ []
