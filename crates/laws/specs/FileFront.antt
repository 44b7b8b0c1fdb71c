-- So many bytes of a file decide what is read, and what is printed. Assumes nothing.
use Rattle.std.specs.Prelude.{◌≡◌, refl, true, ◌||◌, List, [], ◌∷◌, ◌++◌, ℕ, zero, suc, ◌+◌, ◌-◌, ◌*◌, ◌≤◌, ◌<◌, eqb, leb, length, take, drop, Option, Result, Err, Ok}
use Rattle.std.proofs.Common.{sym, ap, ◌∙◌, subst, arith, length-append, length-drop, take-append-drop, length-take-le, take_all, take-take, take-add, drop_at, eqb-true, leb-true, leb-false, ltb-false, le-ltb}
use Rattle.spec.specs.declared.Refusal.TheVariants.{TooLarge}
use Rattle.spec.specs.declared.Refusal.{Refusal}
use Rattle.spec.specs.Refusal.{and_then, checked}
use Rattle.spec.specs.Network.{Network, leaf_count, index_count, max_indices, max_legs, max_outputs}
use Rattle.spec.specs.Calls.{tree_check, flags_check}
use Rattle.spec.specs.File.{Contents, Due, weights_due, leaves_due, tree_due, ask_due, end_due, allowed, Reading, weights_checks, leaf_checks, outputs_checks, take_weights, take_leaf, take_outputs, take_tree, take_flags, take_target, take_field, read_fields, nothing_read, read_of}
use Rattle.spec.specs.FileClaims.{Bytes, read_from, FrontDecides}
use Rattle.spec.specs.Output.{program_on, plan_bytes}
use Rattle.spec.specs.Program.{program}
use Rattle.spec.specs.ProgramClaims.{InputDecides}
use Rattle.spec.specs.Text.{output_of}
use Rattle.laws.specs.Booleans.{by_cases, clash, or_cases}
use Rattle.laws.specs.MemberLaws.{all_parts}
use Rattle.laws.specs.Results.{not_done, done_same, checked_done}
use Rattle.laws.specs.FileFields.{fails_leaf, fails_outputs, fails_tree, fails_flags}
use Rattle.laws.specs.FileLists.{valid_length}
use Rattle.laws.specs.FileDecisions.{fuel, room_check}

-- ---- how many bytes decide, from each state on ----

abbrev deciding : Due → ℕ → ℕ
deciding weights_due leaves = 70569
deciding leaves_due leaves = (128 - leaves) * 35 + 65830
deciding tree_due leaves = 65795
deciding ask_due leaves = 65538
deciding end_due leaves = 3

abbrev enough : Reading → ℕ
enough s = deciding s.due (leaf_count s.read.network)

-- a header at least, and with a field that is allowed any payload
header_enough : (d : Due) (n : ℕ) → 3 ≤ deciding d n
header_enough weights_due n = omega arith
header_enough leaves_due n = omega arith
header_enough tree_due n = omega arith
header_enough ask_due n = omega arith
header_enough end_due n = omega arith

payload_enough : (d : Due) (n t : ℕ) → allowed d t ≡ true → 65538 ≤ deciding d n
payload_enough weights_due n t a = omega arith
payload_enough leaves_due n t a = omega arith
payload_enough tree_due n t a = omega arith
payload_enough ask_due n t a = omega arith
payload_enough end_due n t a = clash a refl

-- the counts so far are within their limits
abbrev Small : Network → Type 0
Small N = (leaf_count N ≤ 128) × (index_count N ≤ 256)

-- a field of n bytes that is read well leaves so many fewer
pub record After (before n : ℕ) (s : Reading) : Type 0 where
  pub small : Small s.read.network
  pub fewer : 3 + n + enough s ≤ before

module _ (before n : ℕ) where
  after : {s s' : Reading} → ◌≡◌ {A = Result Reading Refusal} (Ok s) (Ok s') → After before n s → After before n s'
  after {s} {s'} e x = subst (After before n) (done_same s s' e) x

weights_after : (s' : Reading) (l : List ℕ) → take_weights l ≡ Ok s' → After 70569 (length l) s'
weights_after s' l e =
    let (f, q) = checked_done (weights_checks l) _ s' e in
    let h : length l ≤ 256 = ltb-false max_indices (length l) f.0 in
    after 70569 (length l) q (record { small = (omega arith, h); fewer = omega arith })

module _ (N : Network) (small : Small N) where
  leaf_after : (s' : Reading) (l : List ℕ) → take_leaf N l ≡ Ok s' → After ((128 - leaf_count N) * 35 + 65830) (length l) s'
  leaf_after s' l e =
      let (f, q) = checked_done (leaf_checks N l) _ s' e in
      let (few, named) = fails_leaf N l f in
      let h : length l ≤ 32 = ltb-false max_legs (length l) named.0 in
      let k : length (N.leaves ++ (l ∷ [])) ≡ leaf_count N + 1 = length-append N.leaves (l ∷ []) in
      after _ (length l) q (record { small = (omega (arith, k), small.1); fewer = omega (arith, k) })

  outputs_after : (s' : Reading) (l : List ℕ) → take_outputs N l ≡ Ok s' → After ((128 - leaf_count N) * 35 + 65830) (length l) s'
  outputs_after s' l e =
      let (f, q) = checked_done (outputs_checks N l) _ s' e in
      let h : length l ≤ 32 = ltb-false max_outputs (length l) (fails_outputs N l f).0 in
      after _ (length l) q (record { small = small; fewer = omega arith })

  tree_after : (s' : Reading) (l : List ℕ) → take_tree N l ≡ Ok s' → After 65795 (length l) s'
  tree_after s' l e =
      let (f, q) = checked_done (tree_check N l ∷ []) _ s' e in
      let (even, v) = fails_tree N l f in
      after 65795 (length l) q (record { small = small; fewer = omega (arith, valid_length (leaf_count N) l even v, small.0) })

  module _ (t : Option (List ℕ)) (before : ℕ) (h : 65538 ≤ before) where
    flags_after : (s' : Reading) (l : List ℕ) → take_flags N t l ≡ Ok s' → After before (length l) s'
    flags_after s' l e =
        let (f, q) = checked_done (flags_check N l ∷ []) _ s' e in
        after before (length l) q (record { small = small; fewer = omega (arith, (fails_flags N l f).0, small.1) })

    target_after : (s' : Reading) (l : List ℕ) → take_target N t l ≡ Ok s' → After before (length l) s'
    target_after s' [] e = not_done TooLarge s' e
    target_after s' (w ∷ []) e = after before 1 e (record { small = small; fewer = omega arith })
    target_after s' (w ∷ v ∷ l) e = not_done TooLarge s' e

-- any field at its place
abbrev Leaves : Reading → List ℕ → Reading → ℕ → Type 0
Leaves s l s' t = take_field s t l ≡ Ok s' → After (enough s) (length l) s'

tagged : (s : Reading) (l : List ℕ) (s' : Reading) (t k : ℕ) → Leaves s l s' k → eqb t k ≡ true → Leaves s l s' t
tagged s l s' t k f e = subst (Leaves s l s') (sym (eqb-true t k e)) f

field_after : (d : Due) (c : Contents) (s' : Reading) (t : ℕ) (l : List ℕ) → allowed d t ≡ true → Small c.network
    → Leaves (record { due = d; read = c }) l s' t
field_after weights_due c s' t l a small = tagged (record { due = weights_due; read = c }) l s' t 1 (weights_after s' l) a
field_after leaves_due c s' t l a small =
    or_cases (eqb t 2) (eqb t 3) a
    (tagged (record { due = leaves_due; read = c }) l s' t 2 (leaf_after c.network small s' l))
    (tagged (record { due = leaves_due; read = c }) l s' t 3 (outputs_after c.network small s' l))
field_after tree_due c s' t l a small =
    or_cases (eqb t 4) (eqb t 5 || eqb t 6) a
    (tagged (record { due = tree_due; read = c }) l s' t 4 (tree_after c.network small s' l))
    (λ b. or_cases (eqb t 5) (eqb t 6) b
    (tagged (record { due = tree_due; read = c }) l s' t 5 (flags_after c.network small c.tree 65795 (omega arith) s' l))
    (tagged (record { due = tree_due; read = c }) l s' t 6 (target_after c.network small c.tree 65795 (omega arith) s' l)))
field_after ask_due c s' t l a small =
    or_cases (eqb t 5) (eqb t 6) a
    (tagged (record { due = ask_due; read = c }) l s' t 5 (flags_after c.network small c.tree 65538 (omega arith) s' l))
    (tagged (record { due = ask_due; read = c }) l s' t 6 (target_after c.network small c.tree 65538 (omega arith) s' l))
field_after end_due c s' t l a small = clash a refl

-- ---- the front of a file ----

then_same : {A B : Type 0} (x : Result A Refusal) (f g : A → Result B Refusal) → ((y : A) → x ≡ Ok y → f y ≡ g y) → and_then x f ≡ and_then x g
then_same (Err r) f g h = refl
then_same (Ok y) f g h = h y refl

drop-take : (n c : ℕ) (l : List ℕ) → n ≤ c → n ≤ length l → drop n (take c l) ≡ take (c - n) (drop n l)
drop-take n c l h k =
    let e : n + (c - n) ≡ c = omega arith in
    ap (λ (x : ℕ). drop n (take x l)) (sym e)
    ∙ ap (drop n) (take-add n (c - n) l)
    ∙ drop_at (take n l) (take (c - n) (drop n l)) n (length-take-le n l k)

front : (f g c : ℕ) (s : Reading) (bytes : List ℕ) → Bytes bytes → Small s.read.network → enough s ≤ c → length bytes < f → length (take c bytes) < g
    → read_fields g s (take c bytes) ≡ read_fields f s bytes
front zero g c s bytes b small h i j = absurd (omega arith)
front (suc f) zero c s bytes b small h i j = absurd (omega arith)
front (suc f) (suc g) zero s bytes b small h i j = absurd (omega (arith, header_enough s.due (leaf_count s.read.network)))
front (suc f) (suc g) (suc zero) s bytes b small h i j = absurd (omega (arith, header_enough s.due (leaf_count s.read.network)))
front (suc f) (suc g) (suc (suc zero)) s bytes b small h i j = absurd (omega (arith, header_enough s.due (leaf_count s.read.network)))
front (suc f) (suc g) (suc (suc (suc c))) s [] b small h i j = refl
front (suc f) (suc g) (suc (suc (suc c))) s (t ∷ []) b small h i j = refl
front (suc f) (suc g) (suc (suc (suc c))) s (t ∷ high ∷ []) b small h i j = refl
front (suc f) (suc g) (suc (suc (suc c))) s (t ∷ high ∷ low ∷ bytes) (_, (hi, (lo, b))) small h i j =
    let n : ℕ = high * 256 + low in
    by_cases (allowed s.due t)
    (λ a. let most : n ≤ c = omega (arith, payload_enough s.due (leaf_count s.read.network) t a) in
    by_cases (leb (length bytes) c)
    (λ q. let e : take c bytes ≡ bytes = take_all c bytes (leb-true (length bytes) c q) in
    ap (λ (x : List ℕ). read_fields (suc g) s (t ∷ high ∷ low ∷ x)) e
    ∙ fuel (suc g) (suc f) s (t ∷ high ∷ low ∷ bytes) (omega (arith, ap length e)) i)
    (λ q. let k : c < length bytes = leb-false (length bytes) c q in
    let there : n ≤ length bytes = omega arith in
    let (_, rest) = all_parts (λ x. x < 256) (take n bytes) (drop n bytes) (subst Bytes (sym (take-append-drop n bytes)) b) in
    rw (
      a,
      le-ltb (length (take c bytes)) n (omega (arith, length-take-le c bytes (omega arith))),
      le-ltb (length bytes) n there,
      take-take n c bytes most,
      drop-take n c bytes most there,
    )
    (then_same (take_field s t (take n bytes)) (λ s'. read_fields g s' (take (c - n) (drop n bytes))) (λ s'. read_fields f s' (drop n bytes)) λ s' e.
    let x : After (enough s) (length (take n bytes)) s' = field_after s.due s.read s' t (take n bytes) a small e in
    front f g (c - n) s' (drop n bytes) rest x.small (omega (arith, x.fewer, length-take-le n bytes there))
    (omega (arith, length-drop n bytes))
    (omega (arith, length-take-le c bytes (omega arith), length-take-le (c - n) (drop n bytes) (omega (arith, length-drop n bytes)))))))
    (λ a. rw a)

front_reads : (n : ℕ) (file : List ℕ) → Bytes file → 70569 ≤ n → read_from nothing_read (take n file) ≡ read_from nothing_read file
front_reads n file b h =
    front (suc (length file)) (suc (length (take n file))) n nothing_read file b (omega arith, omega arith) h (omega arith) (omega arith)

pub front_decides : FrontDecides
unfolding read_of
front_decides places flag_places n file b h =
    ap (λ (x : Result Contents Refusal). and_then x (λ c. checked (room_check places flag_places c ∷ []) (Ok c))) (front_reads n file b h)

pub input_decides : InputDecides
unfolding plan_bytes program_on
input_decides file b =
    ap (λ (x : Result Contents Refusal). output_of (and_then x (λ c. program c.network c.tree c.ask)))
    (front_decides 254 256 131072 file b (omega arith))
