-- What the reader answers, from what has been read. Assumes nothing.
use Rattle.std.specs.Prelude.{Bool, true, false, ◌||◌, cond, List, [], ◌∷◌, ◌++◌, ◌≡◌, ℕ, ltb, None, Some, Result, Err, Ok}
use Rattle.std.proofs.Math.Bool.{or_assoc}
use Rattle.std.proofs.Math.Path.{refl}
use Rattle.std.proofs.Common.{sym, ap, ap₂, ◌∙◌, arith}
use Rattle.spec.specs.declared.Refusal.{Refusal}
use Rattle.spec.specs.declared.Refusal.TheVariants.{ShortBuffer}
use Rattle.spec.specs.Lists.{anyb}
use Rattle.spec.specs.Refusal.{first, and_then, checked}
use Rattle.spec.specs.Network.{index_count}
use Rattle.spec.specs.Calls.{Lent, length_check}
use Rattle.spec.specs.File.{Contents, tree_lent, flags_lent, nothing_read, read_of}
use Rattle.laws.specs.Booleans.{by_cases, or_introl, or_intror}
use Rattle.payloads.specs.Payload.{verdict}
use Rattle.fields.specs.Steps.{read_all}
use Rattle.fields.specs.Fields.{decided, refused}
use Rattle.netfile.specs.Answers.{given_of, given_in, network_in, tree_after, flags_after}
use Rattle.netfile.specs.Writes.{lacking, kids_over, flags_over, tree_written_lem, flags_written_lem}

clash {ℓ} : {A : Type 0} {P : Type ℓ} (k : Refusal) (x : A) → ◌≡◌ {A = Result A Refusal} (Err k) (Ok x) → P
clash k x e = absurd (let w : ◌≡◌ {A = ℕ} 0 1 = cc in omega arith)

any_append : {A : Type 0} (p : A → Bool) (a b : List A) → anyb p (a ++ b) ≡ (anyb p a || anyb p b)
any_append p [] b = refl
any_append p (x ∷ a) b = ap (λ c. p x || c) (any_append p a b) ∙ sym (or_assoc (p x) (anyb p a) (anyb p b))

-- what the lists that are filled have to have, and what they have
abbrev pub room_for : ℕ → ℕ → Contents → List Lent
room_for places flag_places c = tree_lent c.network places c.tree ++ flags_lent c.network flag_places c.ask

-- is one of the lists too short
module _ (places flag_places : ℕ) (c : Contents) where
  room : {b : Bool} → (lacking (tree_lent c.network places c.tree) || lacking (flags_lent c.network flag_places c.ask)) ≡ b
      → first (length_check (room_for places flag_places c) ∷ []) ≡ cond b (Some ShortBuffer) None
  room e = ap (λ (b : Bool). cond b (Some ShortBuffer) None) (any_append (λ x. ltb x.has x.needs) (tree_lent c.network places c.tree) (flags_lent c.network flag_places c.ask) ∙ e)

  pub tree_short : lacking (tree_lent c.network places c.tree) ≡ true → Err ShortBuffer ≡ verdict (first (length_check (room_for places flag_places c) ∷ []))
  tree_short e = ap verdict (sym (room (or_introl _ _ e)))

  pub flags_short : lacking (flags_lent c.network flag_places c.ask) ≡ true → Err ShortBuffer ≡ verdict (first (length_check (room_for places flag_places c) ∷ []))
  flags_short e = ap verdict (sym (room (or_intror _ _ e)))

  -- no flag lacks a place where nothing is refused
  pub flags_have : Ok tt ≡ verdict (first (length_check (room_for places flag_places c) ∷ [])) → lacking (flags_lent c.network flag_places c.ask) ≡ false
  flags_have e = by_cases (lacking (flags_lent c.network flag_places c.ask)) (λ h. clash _ _ (flags_short h ∙ sym e)) (λ h. h)

  pub room_enough : lacking (tree_lent c.network places c.tree) ≡ false → lacking (flags_lent c.network flag_places c.ask) ≡ false
      → Ok tt ≡ verdict (first (length_check (room_for places flag_places c) ∷ []))
  room_enough e f = ap verdict (sym (room (ap₂ (λ x y. x || y) e f)))

-- what is read, and then the lists' room
module _ (places flag_places : ℕ) (file : List ℕ) where
  abbrev then_room : Result Contents Refusal → Result Contents Refusal
  then_room r = and_then r λ c. checked (length_check (room_for places flag_places c) ∷ []) (Ok c)

  read_is : read_of places flag_places file ≡ then_room (read_all nothing_read file)
  unfolding read_of read_all
  read_is = refl

  pub read_refused : (k : Refusal) → read_all nothing_read file ≡ Err k → read_of places flag_places file ≡ Err k
  read_refused k e = read_is ∙ ap then_room e

  module _ (c : Contents) (e : read_all nothing_read file ≡ Ok c) where
    pub read_lacking : (k : Refusal) → Err k ≡ verdict (first (length_check (room_for places flag_places c) ∷ [])) → read_of places flag_places file ≡ Err k
    read_lacking k f = read_is ∙ ap then_room e ∙ refused _ (Ok c) k f

    pub read_done : Ok tt ≡ verdict (first (length_check (room_for places flag_places c) ∷ [])) → read_of places flag_places file ≡ Ok c
    read_done f = read_is ∙ ap then_room e ∙ decided _ (Ok c) f

-- ---- the promise ----

module _ (R : Result Contents Refusal) (k : Refusal) (e : R ≡ Err k) where
  pub given_refused : Err k ≡ given_of R
  given_refused = rw e refl

  pub tree_kept : (l : List ℕ) → l ≡ tree_after R l
  tree_kept l = rw e refl

  pub flags_kept : (l : List ℕ) → l ≡ flags_after R l
  flags_kept l = rw e refl

module _ (R : Result Contents Refusal) (c : Contents) (e : R ≡ Ok c) where
  pub given_done : Ok (given_in c.tree c.ask) ≡ given_of R
  given_done = rw e refl

  pub network_done : c.network ≡ network_in R
  network_done = rw e refl

  pub tree_done : (l l' : List ℕ) → l' ≡ kids_over c.tree l → l' ≡ tree_after R l
  tree_done l l' q = rw e (q ∙ sym (tree_written_lem c.network c.tree c.ask l))

  pub flags_done : (m : ℕ) (l l' : List ℕ) → index_count c.network ≡ m → l' ≡ flags_over m c.ask l → l' ≡ flags_after R l
  flags_done m l l' h q = rw e (q ∙ sym (flags_written_lem c.network c.tree c.ask l ∙ ap (λ n. flags_over n c.ask l) h))
