-- The writer's answer, and what it puts where nothing is refused. Assumes nothing.
use Rattle.std.specs.Prelude.{◌≡◌, refl, Bool, true, false, not, ◌||◌, cond, List, [], ◌∷◌, ◌++◌, ℕ, ◌+◌, ◌%◌, ◌≤◌, ◌<◌, eqb, ltb, length, Option, None, Some, Result, Ok, Err}
use Rattle.std.proofs.Common.{sym, ap, ◌∙◌, arith, lt-ltb, le-ltb}
use Rattle.std.proofs.Math.Path.{subst}
use Rattle.std.proofs.lemmas.Bool.{eqb-false}
use Rattle.std.proofs.lemmas.Option.{none-some}
use borrow.Author.Tests.{ltb-false}
use Rattle.spec.specs.declared.Refusal.{Refusal}
use Rattle.spec.specs.declared.Refusal.TheVariants.{ShortBuffer, InvalidTree}
use Rattle.spec.specs.Refusal.{Check, first, decide, passes}
use Rattle.spec.specs.Lists.{anyb}
use Rattle.spec.specs.Network.{Network, leaf_count, index_count, network_checks, refusal_of}
use Rattle.spec.specs.NetworkClaims.{Accepted}
use Rattle.spec.specs.Tree.{valid, pairs_of}
use Rattle.spec.specs.Calls.{wrong_tree, lent, length_check}
use Rattle.spec.specs.File.{Ask, plain, flagged, target, Contents, tree_field, ask_field, file_of, tree_checks, flags_checks, write_checks, write_of, buffer_after}
use Rattle.laws.specs.Accepted.{accepted_means}
use Rattle.laws.specs.Booleans.{or_none}
use Rattle.laws.specs.FileLists.{valid_length}
use Rattle.laws.specs.FileBytes.{tree_bytes}
use Rattle.walk.specs.Wrong.{not_wrong}
use Rattle.walk.specs.Entry.{first_none, first_some}
use Rattle.payloads.specs.Payload.{verdict}
use Rattle.fields.specs.Fields.{passed, decided, refused}
use Rattle.putfields.specs.Put.{Put, put_both, put_length}
use Rattle.netwrite.specs.Contents.{network_fields}
use Rattle.netwrite.specs.Sizes.{file_fields, parts_length}
use Rattle.netwrite.specs.Writes.{KidsFit, AskFits}

-- ---- the order of the conditions ----

-- the contents of an accepted network
module _ (c : Contents) (accepted : refusal_of c.network ≡ None) (size cursor : ℕ) where
  abbrev later : List Check
  later = tree_checks c.network c.tree ++ flags_checks c.network c.ask

  checks_are : first (write_checks c size cursor) ≡ cond (ltb size (cursor + length (file_of c)) || false) (Some ShortBuffer) (first later)
  checks_are = first_none (network_checks false c.network) (length_check (lent size (cursor + length (file_of c)) ∷ []) ∷ later) accepted

  -- the buffer is too short
  pub checks_short : size < cursor + length (file_of c) → Err ShortBuffer ≡ verdict (first (write_checks c size cursor))
  checks_short h = ap verdict (sym (checks_are ∙ ap (λ (b : Bool). cond (b || false) (Some ShortBuffer) (first later)) (lt-ltb size (cursor + length (file_of c)) h)))

  module _ (room : cursor + length (file_of c) ≤ size) where
    checks_later : first (write_checks c size cursor) ≡ first later
    checks_later = checks_are ∙ ap (λ (b : Bool). cond (b || false) (Some ShortBuffer) (first later)) (le-ltb size (cursor + length (file_of c)) room)

    -- the tree is refused
    pub checks_tree : (k : Refusal) → Err k ≡ verdict (first (tree_checks c.network c.tree)) → Err k ≡ verdict (first (write_checks c size cursor))
    checks_tree k e = by_tree c.tree e ∙ sym (ap verdict checks_later)
      where
        by_tree : (t : Option (List ℕ)) → Err k ≡ verdict (first (tree_checks c.network t)) → Err k ≡ verdict (first (tree_checks c.network t ++ flags_checks c.network c.ask))
        by_tree None e = absurd (let w : ◌≡◌ {A = ℕ} 0 1 = cc in omega arith)
        by_tree (Some kids) e = wrong (wrong_tree (leaf_count c.network) kids) e
          where
            wrong : (b : Bool) → Err k ≡ verdict (cond b (Some InvalidTree) None) → Err k ≡ verdict (cond b (Some InvalidTree) (first (flags_checks c.network c.ask)))
            wrong true e = e
            wrong false e = absurd (let w : ◌≡◌ {A = ℕ} 0 1 = cc in omega arith)

    -- the tree is not refused: the flags decide
    pub checks_flags : {r : Result (Unit {0}) Refusal} → Ok tt ≡ verdict (first (tree_checks c.network c.tree)) → r ≡ verdict (first (flags_checks c.network c.ask))
        → r ≡ verdict (first (write_checks c size cursor))
    checks_flags e f = f ∙ ap verdict (sym (checks_later ∙ first_none (tree_checks c.network c.tree) (flags_checks c.network c.ask) (passed _ e)))

-- the network is refused: nothing is written
module _ (c : Contents) (cursor : ℕ) (d : List ℕ) (k : Refusal) (e : refusal_of c.network ≡ Some k) where
  pub network_refused : write_of c (length d) cursor ≡ Err k
  unfolding write_of
  network_refused =
      ap (λ o. decide o (Ok (cursor + length (file_of c))))
      (first_some (network_checks false c.network) (length_check (lent (length d) (cursor + length (file_of c)) ∷ []) ∷ (tree_checks c.network c.tree ++ flags_checks c.network c.ask)) k e)

  pub buffer_kept : d ≡ buffer_after c cursor (write_of c (length d) cursor) d
  buffer_kept = rw network_refused refl

-- ---- nothing is refused ----

cond_none : (b : Bool) (r : Refusal) (o : Option Refusal) → cond b (Some r) o ≡ None → (b ≡ false) × (o ≡ None)
cond_none true r o e = absurd (let w : ◌≡◌ {A = ℕ} 0 1 = cc in omega arith)
cond_none false r o e = (refl, e)

kids_fit : (N : Network) (t : Option (List ℕ)) → leaf_count N ≤ 128 → first (tree_checks N t) ≡ None → KidsFit t
kids_fit N None h e = tt
kids_fit N (Some kids) h e =
    let w = (cond_none (wrong_tree (leaf_count N) kids) InvalidTree None e).0 in
    let q : length kids % 2 ≡ 1 → ⊥ = eqb-false (length kids % 2) 1 (or_none (eqb (length kids % 2) 1) (not (valid (leaf_count N) (pairs_of kids))) w).0 in
    let z : length kids % 2 ≡ 0 = omega (arith, q) in
    let v : valid (leaf_count N) (pairs_of kids) ≡ true = not_wrong (leaf_count N) kids w in
    (omega (arith, valid_length (leaf_count N) kids z v), tree_bytes (leaf_count N) kids h z v)

ask_fits : (N : Network) (a : Ask) → index_count N ≤ 256 → first (flags_checks N a) ≡ None → AskFits a
ask_fits N plain h e = tt
ask_fits N (flagged l) h e =
    let w = (cond_none (ltb (index_count N) (length l) || anyb (λ b. ltb 1 b) l) _ None e).0 in
    omega (arith, ltb-false (index_count N) (length l) (or_none (ltb (index_count N) (length l)) (anyb (λ b. ltb 1 b) l) w).0)
ask_fits N (target w) h e = tt

-- checks that pass with others behind them
first_passes : (cs ds : List Check) → first (cs ++ ds) ≡ None → first cs ≡ None
first_passes cs ds e = by (first cs) refl
  where
    by : (o : Option Refusal) → first cs ≡ o → first cs ≡ None
    by None h = h
    by (Some k) h = absurd (none-some k (sym e ∙ first_some cs ds k h))

-- what each field's writer asks, and the answer
module _ (c : Contents) (cursor : ℕ) (d : List ℕ) (fine : Ok tt ≡ verdict (first (write_checks c (length d) cursor))) where
  abbrev others : List Check
  others = tree_checks c.network c.tree ++ flags_checks c.network c.ask

  -- the network's checks are among them
  pub accepted : refusal_of c.network ≡ None
  accepted = first_passes (network_checks false c.network) (length_check (lent (length d) (cursor + length (file_of c)) ∷ []) ∷ others) (passed _ fine)

  pub network_holds : Accepted c.network
  network_holds = (accepted_means c.network).0 (ap passes accepted)

  parts : (ltb (length d) (cursor + length (file_of c)) || false ≡ false) × (first others ≡ None)
  parts =
      cond_none (ltb (length d) (cursor + length (file_of c)) || false) ShortBuffer (first others)
      (sym (first_none (network_checks false c.network) (length_check (lent (length d) (cursor + length (file_of c)) ∷ []) ∷ others) accepted) ∙ passed _ fine)

  pub room : cursor + length (file_of c) ≤ length d
  room = ltb-false (length d) (cursor + length (file_of c)) (or_none (ltb (length d) (cursor + length (file_of c))) false parts.0).0

  bytes : cursor + (length (network_fields c.network) + (length (tree_field c.tree) + length (ask_field c.ask))) ≤ length d
  bytes = omega (arith, room, parts_length c)

  pub network_asks : Accepted c.network × (cursor + length (network_fields c.network) ≤ length d)
  network_asks = (network_holds, omega (arith, bytes))

  trees_pass : first (tree_checks c.network c.tree) ≡ None
  trees_pass = by_tree c.tree parts.1
    where
      by_tree : (t : Option (List ℕ)) → first (tree_checks c.network t ++ flags_checks c.network c.ask) ≡ None → first (tree_checks c.network t) ≡ None
      by_tree None e = refl
      by_tree (Some kids) e = rw (cond_none (wrong_tree (leaf_count c.network) kids) InvalidTree (first (flags_checks c.network c.ask)) e).0

  flags_pass : first (flags_checks c.network c.ask) ≡ None
  flags_pass = sym (first_none (tree_checks c.network c.tree) (flags_checks c.network c.ask) trees_pass) ∙ parts.1

  pub kids_pass : KidsFit c.tree
  kids_pass = kids_fit c.network c.tree network_holds.few_leaves trees_pass

  pub ask_passes : AskFits c.ask
  ask_passes = ask_fits c.network c.ask network_holds.few_indices flags_pass

  module _ {o₁ : List ℕ} {next : ℕ} (p : Put d o₁ cursor next (network_fields c.network)) where
    pub tree_asks : KidsFit c.tree × (next + length (tree_field c.tree) ≤ length o₁)
    tree_asks = (kids_pass, omega (arith, bytes, p.past, put_length p))

    module _ {o₂ : List ℕ} {last : ℕ} (q : Put o₁ o₂ next last (tree_field c.tree)) where
      pub ask_asks : AskFits c.ask × (last + length (ask_field c.ask) ≤ length o₂)
      ask_asks = (ask_passes, omega (arith, bytes, p.past, put_length p, q.past, put_length q))

      module _ {o₃ : List ℕ} {end : ℕ} (r : Put o₂ o₃ last end (ask_field c.ask)) where
        all : Put d o₃ cursor end (file_of c)
        all = subst (Put d o₃ cursor end) (sym (file_fields c)) (put_both p (put_both q r))

        write_is : write_of c (length d) cursor ≡ Ok (cursor + length (file_of c))
        unfolding write_of
        write_is = decided _ (Ok (cursor + length (file_of c))) fine

        pub written : Ok end ≡ write_of c (length d) cursor
        written = ap Ok all.past ∙ sym write_is

        pub buffer_is : o₃ ≡ buffer_after c cursor (write_of c (length d) cursor) d
        buffer_is = rw write_is all.bytes

-- a refusal
module _ (c : Contents) (cursor : ℕ) (d : List ℕ) (k : Refusal) (e : Err k ≡ verdict (first (write_checks c (length d) cursor))) where
  pub not_written : write_of c (length d) cursor ≡ Err k
  unfolding write_of
  not_written = refused _ (Ok (cursor + length (file_of c))) k e

  pub buffer_stays : d ≡ buffer_after c cursor (write_of c (length d) cursor) d
  buffer_stays = rw not_written refl
