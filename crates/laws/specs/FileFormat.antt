-- The reader accepts the files of the format and no others, each as its contents; what is written is read back. Assumes nothing.
use Rattle.std.specs.Prelude.{◌≡◌, refl, true, ◌||◌, List, [], ◌∷◌, ◌++◌, ℕ, zero, suc, ◌+◌, ◌*◌, ◌/◌, ◌%◌, ◌≤◌, ◌<◌, eqb, length, take, drop, Option, None, Some, Ok}
use Rattle.std.proofs.Common.{sym, ap, ◌∙◌, subst, append_assoc, append-nil, arith, length-append, length-take, take-append-drop, eqb-true, ltb-false}
use Rattle.spec.specs.declared.Refusal.TheVariants.{Truncated, TooLarge}
use Rattle.std.proofs.lemmas.Bool.{not-false}
use Rattle.spec.specs.Refusal.{Check, checked}
use Rattle.spec.specs.Network.{Network, index_count, max_leaves, max_legs}
use Rattle.spec.specs.Calls.{tree_check, flags_check}
use Rattle.spec.specs.File.{Ask, plain, flagged, target, Contents, field, leaf_fields, tree_field, ask_field, file_of, Due, weights_due, leaves_due, tree_due, ask_due, end_due, allowed, may_end, Reading, bare, weights_checks, leaf_checks, outputs_checks, take_weights, take_leaf, take_outputs, take_tree, take_flags, take_target, take_field, header_checks, read_fields, nothing_read}
use Rattle.spec.specs.FileClaims.{Bytes, LawfulTree, LawfulAsk, Lawful, read_from}
use Rattle.laws.specs.Booleans.{by_cases, clash, or_cases}
use Rattle.laws.specs.MemberLaws.{all_append, all_parts}
use Rattle.laws.specs.Results.{not_done, done_same, and_then_lem, checked_done, checked_none}
use Rattle.laws.specs.FileDecisions.{field_read}
use Rattle.laws.specs.FileFields.{Fails, Begun, Named, accepted_parts, parts_accepted, leaf_fails, fails_leaf, outputs_fails, fails_outputs, tree_fails, fails_tree, flags_fails, fails_flags}

-- ---- what is written is read back ----

abbrev pub leaves_at : List ℕ → List (List ℕ) → Reading
leaves_at w ls = record { due = leaves_due; read = bare (record { leaves = ls; outputs = []; weights = w }) }

pub leaves_back : (w : List ℕ) (before ls : List (List ℕ)) (rest : List ℕ) → Begun w (before ++ ls)
    → read_from (leaves_at w before) (leaf_fields ls ++ rest) ≡ read_from (leaves_at w (before ++ ls)) rest
leaves_back w before [] rest b = ap (λ (x : List (List ℕ)). read_from (leaves_at w x) rest) (sym (append-nil before))
leaves_back w before (l ∷ ls) rest b =
    let N : Network = record { leaves = before; outputs = []; weights = w } in
    let (f, g) = all_parts (Named max_legs (length w)) before (l ∷ ls) b.legs in
    let few : length before < max_leaves = omega (arith, b.few, length-append before (l ∷ ls)) in
    let taken : take_leaf N l ≡ Ok (leaves_at w (before ++ (l ∷ []))) = checked_none (leaf_checks N l) _ (leaf_fails N l few g.0) in
    let same : before ++ (l ∷ []) ++ ls ≡ before ++ (l ∷ ls) = append_assoc before (l ∷ []) ls in
    ap (read_from (leaves_at w before)) (append_assoc (field 2 l) (leaf_fields ls) rest)
    ∙ field_read (leaves_at w before) (leaves_at w (before ++ (l ∷ []))) 2 l (leaf_fields ls ++ rest) refl taken
    ∙ leaves_back w (before ++ (l ∷ [])) ls rest (subst (Begun w) (sym same) b)
    ∙ ap (λ (x : List (List ℕ)). read_from (leaves_at w x) rest) same

-- flags or a target, at a place where both are allowed and the file may end
module _ (N : Network) (t : Option (List ℕ)) where
  abbrev pub at : Due → Ask → Reading
  at d a = record { due = d; read = record { network = N; tree = t; ask = a } }

  ask_back : (d : Due) (a : Ask) → may_end d ≡ true → allowed d 5 ≡ true → allowed d 6 ≡ true → LawfulAsk N a
      → read_from (at d plain) (ask_field a) ≡ Ok (record { network = N; tree = t; ask = a })
  ask_back d plain m f g h = rw m
  ask_back d (flagged l) m f g h =
      let taken : take_flags N t l ≡ Ok (at end_due (flagged l)) = checked_none (flags_check N l ∷ []) _ (flags_fails N l h) in
      ap (read_from (at d plain)) (sym (append-nil (field 5 l))) ∙ field_read (at d plain) (at end_due (flagged l)) 5 l [] f taken
  ask_back d (target w) m f g h = rw g

rest_back : (N : Network) (t : Option (List ℕ)) (a : Ask) → LawfulTree N t → LawfulAsk N a
    → read_from (at N None tree_due plain) (tree_field t ++ ask_field a) ≡ Ok (record { network = N; tree = t; ask = a })
rest_back N None a h k = ask_back N None tree_due a refl refl refl k
rest_back N (Some l) a h k =
    let taken : take_tree N l ≡ Ok (at N (Some l) ask_due plain) = checked_none (tree_check N l ∷ []) _ (tree_fails N l h) in
    field_read (at N None tree_due plain) (at N (Some l) ask_due plain) 4 l (ask_field a) refl taken ∙ ask_back N (Some l) ask_due a refl refl refl k

pub read_back : (c : Contents) → Lawful c → read_from nothing_read (file_of c) ≡ Ok c
unfolding file_of
read_back c h =
    let N : Network = c.network in
    let (b, o) = accepted_parts N h.network in
    let last : List ℕ = tree_field c.tree ++ ask_field c.ask in
    let weighed : take_weights N.weights ≡ Ok (leaves_at N.weights []) = checked_none (weights_checks N.weights) _ b.weights in
    let begun : Network = record { leaves = N.leaves; outputs = []; weights = N.weights } in
    let named : take_outputs begun N.outputs ≡ Ok (at N None tree_due plain) = checked_none (outputs_checks begun N.outputs) _ (outputs_fails begun N.outputs o) in
    field_read nothing_read (leaves_at N.weights []) 1 N.weights (leaf_fields N.leaves ++ (field 3 N.outputs ++ last)) refl weighed
    ∙ leaves_back N.weights [] N.leaves (field 3 N.outputs ++ last) b
    ∙ field_read (leaves_at N.weights N.leaves) (at N None tree_due plain) 3 N.outputs last refl named
    ∙ rest_back N c.tree c.ask h.tree h.ask

-- ---- what is read is the file of what was read ----

-- the bytes of what was read so far, and what holds of it
abbrev so_far : Due → Contents → List ℕ
so_far weights_due c = []
so_far leaves_due c = field 1 c.network.weights ++ leaf_fields c.network.leaves
so_far tree_due c = file_of c
so_far ask_due c = file_of c
so_far end_due c = file_of c

abbrev Good : Due → Contents → Type 0
Good weights_due c = Unit {0}
Good leaves_due c = Begun c.network.weights c.network.leaves
Good tree_due c = Lawful c × (c.tree ≡ None) × (c.ask ≡ plain)
Good ask_due c = Lawful c × (c.ask ≡ plain)
Good end_due c = Lawful c

-- a state, and that the bytes x led to it
abbrev Led : List ℕ → Reading → Type 0
Led x s = Good s.due s.read × (so_far s.due s.read ≡ x)

led : (x : List ℕ) (cs : List Check) (s s' : Reading) → checked cs (Ok s) ≡ Ok s' → (Fails cs → Led x s) → Led x s'
led x cs s s' e f = let (h, q) = checked_done cs (Ok s) s' e in subst (Led x) (done_same s s' q) (f h)

leaves_append : (a b : List (List ℕ)) → leaf_fields (a ++ b) ≡ leaf_fields a ++ leaf_fields b
leaves_append [] b = refl
leaves_append (l ∷ a) b = ap (λ (x : List ℕ). field 2 l ++ x) (leaves_append a b) ∙ sym (append_assoc (field 2 l) (leaf_fields a) (leaf_fields b))

weights_led : (s' : Reading) (l : List ℕ) → take_weights l ≡ Ok s' → Led (field 1 l) s'
weights_led s' l e =
    led (field 1 l) (weights_checks l) _ s' e λ h.
    (record { weights = h; few = omega arith; legs = tt }, append-nil (field 1 l))

leaf_led : (N : Network) (s' : Reading) (l : List ℕ) → Begun N.weights N.leaves → take_leaf N l ≡ Ok s'
    → Led (field 1 N.weights ++ leaf_fields N.leaves ++ field 2 l) s'
leaf_led N s' l b e =
    led _ (leaf_checks N l) _ s' e λ h.
    let (few, named) = fails_leaf N l h in (
      record {
        weights = b.weights;
        few = simp length-append (omega arith);
        legs = all_append (Named max_legs (index_count N)) N.leaves (l ∷ []) b.legs (named, tt);
      },
      ap (λ (x : List ℕ). field 1 N.weights ++ x) (leaves_append N.leaves (l ∷ []) ∙ ap (λ (x : List ℕ). leaf_fields N.leaves ++ x) (append-nil (field 2 l)))
          ∙ sym (append_assoc (field 1 N.weights) (leaf_fields N.leaves) (field 2 l)),
    )

-- the bytes of a network
abbrev core : Network → List ℕ
core N = field 1 N.weights ++ leaf_fields N.leaves ++ field 3 N.outputs

file_core : (c : Contents) → file_of c ≡ core c.network ++ (tree_field c.tree ++ ask_field c.ask)
unfolding file_of
file_core c =
    let tail : List ℕ = tree_field c.tree ++ ask_field c.ask in
    sym (append_assoc (field 1 c.network.weights) (leaf_fields c.network.leaves) (field 3 c.network.outputs ++ tail))
    ∙ sym (append_assoc (field 1 c.network.weights ++ leaf_fields c.network.leaves) (field 3 c.network.outputs) tail)

outputs_led : (N : Network) (s' : Reading) (l : List ℕ) → Begun N.weights N.leaves → take_outputs N l ≡ Ok s'
    → Led (field 1 N.weights ++ leaf_fields N.leaves ++ field 3 l) s'
outputs_led N s' l b e =
    led _ (outputs_checks N l) _ s' e λ h.
    let M : Network = record { leaves = N.leaves; outputs = l; weights = N.weights } in (
      (record { network = parts_accepted M b (fails_outputs N l h); tree = tt; ask = tt }, refl, refl),
      file_core (bare M) ∙ append-nil (core M),
    )

-- one field more behind a file
behind : (N : Network) (t : Option (List ℕ)) (a : Ask) → file_of (record { network = N; tree = t; ask = a }) ≡ file_of (record { network = N; tree = t; ask = plain }) ++ ask_field a
behind N t a =
    file_core (record { network = N; tree = t; ask = a })
    ∙ sym (append_assoc (core N) (tree_field t) (ask_field a))
    ∙ ap (λ (x : List ℕ). core N ++ x ++ ask_field a) (sym (append-nil (tree_field t)))
    ∙ ap (λ (x : List ℕ). x ++ ask_field a) (sym (file_core (record { network = N; tree = t; ask = plain })))

tree_led : (N : Network) (s' : Reading) (l : List ℕ) → Lawful (bare N) → take_tree N l ≡ Ok s' → Led (file_of (bare N) ++ field 4 l) s'
tree_led N s' l b e =
    led _ (tree_check N l ∷ []) _ s' e λ h.
    let c : Contents = record { network = N; tree = Some l; ask = plain } in (
      (record { network = b.network; tree = fails_tree N l h; ask = tt }, refl),
      file_core c
          ∙ ap (λ (x : List ℕ). core N ++ x) (append-nil (field 4 l))
          ∙ ap (λ (x : List ℕ). x ++ field 4 l) (sym (append-nil (core N)) ∙ sym (file_core (bare N))),
    )

module _ (N : Network) (t : Option (List ℕ)) (b : Lawful (record { network = N; tree = t; ask = plain })) where
  flags_led : (s' : Reading) (l : List ℕ) → take_flags N t l ≡ Ok s' → Led (file_of (record { network = N; tree = t; ask = plain }) ++ field 5 l) s'
  flags_led s' l e =
      led _ (flags_check N l ∷ []) _ s' e λ h.
      (record { network = b.network; tree = b.tree; ask = fails_flags N l h }, behind N t (flagged l))

  target_led : (s' : Reading) (l : List ℕ) → Bytes l → take_target N t l ≡ Ok s' → Led (file_of (record { network = N; tree = t; ask = plain }) ++ field 6 l) s'
  target_led s' [] k e = not_done TooLarge s' e
  target_led s' (w ∷ []) k e =
      led _ [] (record { due = end_due; read = record { network = N; tree = t; ask = target w } }) s' e λ h.
      (record { network = b.network; tree = b.tree; ask = k.0 }, behind N t (target w))
  target_led s' (w ∷ v ∷ l) k e = not_done TooLarge s' e

-- any field at its place
abbrev Leads : Due → Contents → List ℕ → Reading → ℕ → Type 0
Leads d c l s' t = take_field (record { due = d; read = c }) t l ≡ Ok s' → Led (so_far d c ++ field t l) s'

tagged : (d : Due) (c : Contents) (l : List ℕ) (s' : Reading) (t k : ℕ) → Leads d c l s' k → eqb t k ≡ true → Leads d c l s' t
tagged d c l s' t k f e = subst (Leads d c l s') (sym (eqb-true t k e)) f

field_led : (d : Due) (c : Contents) (s' : Reading) (t : ℕ) (l : List ℕ) → allowed d t ≡ true → Bytes l → Good d c → Leads d c l s' t
field_led weights_due c s' t l a k b = tagged weights_due c l s' t 1 (weights_led s' l) a
field_led leaves_due c s' t l a k b =
    or_cases (eqb t 2) (eqb t 3) a
    (tagged leaves_due c l s' t 2 (leaf_led c.network s' l b))
    (tagged leaves_due c l s' t 3 (outputs_led c.network s' l b))
field_led tree_due c s' t l a k (b, none_yet, plain_yet) =
    let alone : bare c.network ≡ c = λ i. record { network = c.network; tree = sym none_yet i; ask = sym plain_yet i } in
    let b' : Lawful (bare c.network) = subst Lawful (sym alone) b in
    subst (λ (x : Contents). Leads tree_due x l s' t) alone
    (or_cases (eqb t 4) (eqb t 5 || eqb t 6) a
    (tagged tree_due _ l s' t 4 (tree_led c.network s' l b'))
    (λ a'. or_cases (eqb t 5) (eqb t 6) a'
    (tagged tree_due _ l s' t 5 (flags_led c.network None b' s' l))
    (tagged tree_due _ l s' t 6 (target_led c.network None b' s' l k))))
field_led ask_due c s' t l a k (b, plain_yet) =
    let alone : record { network = c.network; tree = c.tree; ask = plain } ≡ c = λ i. record { network = c.network; tree = c.tree; ask = sym plain_yet i } in
    let b' : Lawful (record { network = c.network; tree = c.tree; ask = plain }) = subst Lawful (sym alone) b in
    subst (λ (x : Contents). Leads ask_due x l s' t) alone
    (or_cases (eqb t 5) (eqb t 6) a
    (tagged ask_due _ l s' t 5 (flags_led c.network c.tree b' s' l))
    (tagged ask_due _ l s' t 6 (target_led c.network c.tree b' s' l k)))
field_led end_due c s' t l a k b = clash a refl

-- a file may end where its contents are whole
may_end_lem : (d : Due) (c : Contents) → may_end d ≡ true → Good d c → Lawful c × (file_of c ≡ so_far d c)
may_end_lem weights_due c m b = clash m refl
may_end_lem leaves_due c m b = clash m refl
may_end_lem tree_due c m b = (b.0, refl)
may_end_lem ask_due c m b = (b.0, refl)
may_end_lem end_due c m b = (b, refl)

-- three bytes and n more are a field
is_field : (t high low : ℕ) (bytes : List ℕ) → high < 256 → low < 256 → high * 256 + low ≤ length bytes
    → field t (take (high * 256 + low) bytes) ++ drop (high * 256 + low) bytes ≡ t ∷ high ∷ low ∷ bytes
is_field t high low bytes h k b =
    let n : ℕ = high * 256 + low in
    let e : length (take n bytes) ≡ n = simp length-take (omega arith) in
    let q : n / 256 ≡ high = omega arith in
    let r : n % 256 ≡ low = omega arith in
    rw (e, q, r, take-append-drop n bytes)

all_read : (f : ℕ) (s : Reading) (bytes : List ℕ) (c : Contents) → Bytes bytes → Good s.due s.read → read_fields f s bytes ≡ Ok c
    → Lawful c × (file_of c ≡ so_far s.due s.read ++ bytes)
all_read zero s bytes c k b e = not_done Truncated c e
all_read (suc f) s [] c k b e =
    by_cases (may_end s.due)
    (λ m. let (h, q) = may_end_lem s.due s.read m b in
    subst (λ (x : Contents). Lawful x × (file_of x ≡ so_far s.due s.read ++ [])) (done_same s.read c (rw m at e))
    (h, q ∙ sym (append-nil (so_far s.due s.read))))
    (λ m. not_done Truncated c (rw m at e))
all_read (suc f) s (t ∷ []) c k b e = not_done Truncated c e
all_read (suc f) s (t ∷ high ∷ []) c k b e = not_done Truncated c e
all_read (suc f) s (t ∷ high ∷ low ∷ bytes) c (_, (hi, (lo, k))) b e =
    let n : ℕ = high * 256 + low in
    let ((tag, (there, _)), e₁) = checked_done (header_checks s.due t n (length bytes)) _ c e in
    let (k₀, k₁) = all_parts (λ x. x < 256) (take n bytes) (drop n bytes) (subst Bytes (sym (take-append-drop n bytes)) k) in
    and_then_lem (take_field s t (take n bytes)) (λ s'. read_fields f s' (drop n bytes)) c e₁ λ s' x y.
    let (g, q) = field_led s.due s.read s' t (take n bytes) (not-false (allowed s.due t) tag) k₀ b x in
    let (h, z) = all_read f s' (drop n bytes) c k₁ g y in (
      h,
      z
          ∙ ap (λ (w : List ℕ). w ++ drop n bytes) q
          ∙ append_assoc (so_far s.due s.read) (field t (take n bytes)) (drop n bytes)
          ∙ ap (λ (w : List ℕ). so_far s.due s.read ++ w) (is_field t high low bytes hi lo (ltb-false (length bytes) n there)),
    )

pub is_file : (file : List ℕ) (c : Contents) → Bytes file → read_from nothing_read file ≡ Ok c → Lawful c × (file_of c ≡ file)
is_file file c k e = all_read (suc (length file)) nothing_read file c k tt e
