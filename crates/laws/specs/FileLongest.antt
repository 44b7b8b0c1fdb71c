-- A file whose last byte decides: each count is at its limit, the tree is there, and its flags' payload is the longest. Assumes nothing.
use Rattle.std.specs.Prelude.{◌≡◌, refl, true, List, [], ◌∷◌, ◌++◌, ℕ, zero, suc, ◌+◌, ◌-◌, ◌≤◌, ◌<◌, length, take, replicate, None, Some, Err, Ok}
use Rattle.std.proofs.Common.{sym, ap, ◌∙◌, subst, append_assoc, append-nil, arith, lit<, lit≤, length-take-le, lt-ltb}
use Rattle.spec.specs.declared.Refusal.TheVariants.{Truncated, InvalidFlags}
use Rattle.std.proofs.lemmas.List.{length-replicate}
use Rattle.std.proofs.Math.Seq.{take-append-add}
use Rattle.spec.specs.Lists.{range}
use Rattle.spec.specs.Refusal.{number_of}
use Rattle.spec.specs.Network.{Network, index_count, accepted}
use Rattle.spec.specs.Tree.{valid, tree_at, pairs_of}
use Rattle.spec.specs.Calls.{tree_check}
use Rattle.spec.specs.File.{plain, Contents, field, leaf_fields, file_of, ask_due, tree_due, Reading, weights_checks, outputs_checks, take_weights, take_outputs, take_tree, nothing_read, read_of}
use Rattle.spec.specs.FileClaims.{Bytes, LawfulTree, Lawful, read_from, NoFewerDecide}
use Rattle.laws.specs.MemberLaws.{all_append}
use Rattle.laws.specs.Results.{refused_same, checked_none}
use Rattle.laws.specs.FileFields.{accepted_parts, outputs_fails, tree_fails}
use Rattle.laws.specs.FileDecisions.{field_read, decides_in_order, lists_last}
use Rattle.laws.specs.FileFormat.{leaves_at, leaves_back, at}
use Rattle.laws.specs.FileBytes.{files_are_bytes}

-- 256 indices, 128 leaves of 32 and 32 outputs
largest : Network
largest = record { leaves = replicate 128 (range 32); outputs = range 32; weights = replicate 256 0 }

-- leaf after leaf joined to the node before
chain_from : ℕ → ℕ → List ℕ
chain_from v zero = []
chain_from v (suc n) = v ∷ (v - 126) ∷ chain_from (suc v) n

chain : List ℕ
chain = 0 ∷ 1 ∷ chain_from 128 126

is_accepted : accepted largest ≡ true
unfolding largest
is_accepted = refl

is_valid : LawfulTree largest (Some chain)
unfolding largest chain chain_from valid tree_at pairs_of
is_valid = (refl, refl)

contents : Contents
contents = record { network = largest; tree = Some chain; ask = plain }

is_lawful : Lawful contents
unfolding contents
is_lawful = record { network = is_accepted; tree = is_valid; ask = tt }

front_length : length (file_of contents) ≡ 5031
unfolding file_of contents largest chain chain_from
front_length = refl

in_parts : (N : Network) (kids rest : List ℕ) → file_of (record { network = N; tree = Some kids; ask = plain }) ++ rest
    ≡ field 1 N.weights ++ (leaf_fields N.leaves ++ (field 3 N.outputs ++ (field 4 kids ++ rest)))
unfolding file_of
in_parts N kids rest =
    append_assoc (field 1 N.weights) (leaf_fields N.leaves ++ (field 3 N.outputs ++ (field 4 kids ++ []))) rest
    ∙ ap (λ (x : List ℕ). field 1 N.weights ++ x)
    (append_assoc (leaf_fields N.leaves) (field 3 N.outputs ++ (field 4 kids ++ [])) rest
    ∙ ap (λ (x : List ℕ). leaf_fields N.leaves ++ x)
    (append_assoc (field 3 N.outputs) (field 4 kids ++ []) rest
    ∙ ap (λ (x : List ℕ). field 3 N.outputs ++ (x ++ rest)) (append-nil (field 4 kids))))

front_read : (N : Network) (kids rest : List ℕ) → accepted N ≡ true → LawfulTree N (Some kids)
    → read_from nothing_read (file_of (record { network = N; tree = Some kids; ask = plain }) ++ rest) ≡ read_from (at N (Some kids) ask_due plain) rest
front_read N kids rest ok lawful =
    let (b, o) = accepted_parts N ok in
    let last : List ℕ = field 4 kids ++ rest in
    let begun : Network = record { leaves = N.leaves; outputs = []; weights = N.weights } in
    let weighed : take_weights N.weights ≡ Ok (leaves_at N.weights []) = checked_none (weights_checks N.weights) _ b.weights in
    let named : take_outputs begun N.outputs ≡ Ok (at N None tree_due plain) = checked_none (outputs_checks begun N.outputs) _ (outputs_fails begun N.outputs o) in
    let taken : take_tree N kids ≡ Ok (at N (Some kids) ask_due plain) = checked_none (tree_check N kids ∷ []) _ (tree_fails N kids lawful) in
    ap (read_from nothing_read) (in_parts N kids rest)
    ∙ field_read nothing_read (leaves_at N.weights []) 1 N.weights (leaf_fields N.leaves ++ (field 3 N.outputs ++ last)) refl weighed
    ∙ leaves_back N.weights [] N.leaves (field 3 N.outputs ++ last) b
    ∙ field_read (leaves_at N.weights N.leaves) (at N None tree_due plain) 3 N.outputs last refl named
    ∙ field_read (at N None tree_due plain) (at N (Some kids) ask_due plain) 4 kids rest refl taken

-- ---- flags of 65,535 bytes, and of one fewer ----

zeros : ℕ → List ℕ
zeros n = replicate n 0

zeros_length : (n : ℕ) → length (zeros n) ≡ n
unfolding zeros
zeros_length n = length-replicate n 0

zeros_bytes : (n : ℕ) → Bytes (zeros n)
unfolding zeros
zeros_bytes zero = tt
zeros_bytes (suc n) = (omega arith, zeros_bytes n)

module _ (N : Network) (kids l : List ℕ) (few : index_count N ≤ 256) where
  abbrev due : Reading
  due = at N (Some kids) ask_due plain

  too_many : length l ≡ 65535 → read_from due (5 ∷ 255 ∷ 255 ∷ l) ≡ Err InvalidFlags
  too_many e =
      let n : length (take 65535 l) ≡ 65535 = length-take-le 65535 l (omega arith) in
      (decides_in_order due).own 5 255 255 l InvalidFlags refl (omega arith) (rw (lt-ltb (index_count N) (length (take 65535 l)) (omega arith)))

  too_short : length l < 65535 → read_from due (5 ∷ 255 ∷ 255 ∷ l) ≡ Err Truncated
  too_short h = (decides_in_order due).payload 5 255 255 l refl h

file : List ℕ
file = file_of contents ++ (5 ∷ 255 ∷ 255 ∷ zeros 65535)

file_bytes : Bytes file
unfolding file
file_bytes =
    all_append (λ b. b < 256) (file_of contents) (5 ∷ 255 ∷ 255 ∷ zeros 65535) (files_are_bytes contents is_lawful)
    (omega arith, (omega arith, (omega arith, zeros_bytes 65535)))

small : index_count largest ≤ 256
unfolding largest
small = omega arith

past_front : (rest : List ℕ) → read_from nothing_read (file_of contents ++ rest) ≡ read_from (at largest (Some chain) ask_due plain) rest
unfolding contents
past_front rest = front_read largest chain rest is_accepted is_valid

whole : read_from nothing_read file ≡ Err InvalidFlags
unfolding file
whole = past_front (5 ∷ 255 ∷ 255 ∷ zeros 65535) ∙ too_many largest chain (zeros 65535) small (zeros_length 65535)

-- so many elements of two lists, the first of them whole
taken : (front rest : List ℕ) (n m : ℕ) → m ≡ length front + n → take m (front ++ rest) ≡ front ++ take n rest
taken front rest n m e = ap (λ (x : ℕ). take x (front ++ rest)) e ∙ take-append-add front rest n

without_last : read_from nothing_read (take 70568 file) ≡ Err Truncated
unfolding file
without_last =
    let n : length (take 65534 (zeros 65535)) ≡ 65534 = length-take-le 65534 (zeros 65535) (subst (λ (k : ℕ). 65534 ≤ k) (sym (zeros_length 65535)) (lit≤ tt)) in
    ap (read_from nothing_read) (taken (file_of contents) (5 ∷ 255 ∷ 255 ∷ zeros 65535) 65537 70568 (sym (ap (λ (k : ℕ). k + 65537) front_length)))
    ∙ past_front (5 ∷ 255 ∷ 255 ∷ take 65534 (zeros 65535))
    ∙ too_short largest chain (take 65534 (zeros 65535)) small (subst (λ (k : ℕ). k < 65535) (sym n) (lit< tt))

-- two readings that are refused by different numbers are not the same
differ : (Some-of file : List ℕ) → read_from nothing_read Some-of ≡ Err Truncated → read_from nothing_read file ≡ Err InvalidFlags
    → read_of 254 256 Some-of ≡ read_of 254 256 file → ⊥
differ Some-of file short full e =
    let q : Truncated ≡ InvalidFlags =
    refused_same {A = Contents} Truncated InvalidFlags (sym (lists_last 254 256 Some-of Truncated short) ∙ e ∙ lists_last 254 256 file InvalidFlags full) in
    omega (arith, ap number_of q)

pub no_fewer_decide : NoFewerDecide
no_fewer_decide = (file, file_bytes, differ (take 70568 file) file without_last whole)
