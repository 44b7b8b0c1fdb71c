-- What the promises of entries rest on: a call that is refused before it touches what is lent, and a call whose first checks pass. Assumes nothing.
use Rattle.std.specs.Prelude.{◌≡◌, refl, true, false, List, [], ◌∷◌, ◌++◌, ℕ, ◌+◌, ◌-◌, ◌≤◌, ltb, length, get_or, take, drop, Option, None, Some, Result, Err, Ok}
use Rattle.std.proofs.Common.{sym, ◌∙◌, ap, arith, length-take-le, get_or-append-add, get_or-drop}
use Rattle.std.proofs.lemmas.Option.{same_Some, none-some}
use Rattle.spec.specs.declared.Refusal.{Refusal}
use Rattle.spec.specs.declared.Refusal.TheVariants.{ShortBuffer}
use Rattle.std.proofs.Math.Seq.{length_front}
use Rattle.spec.specs.Lists.{anyb}
use Rattle.spec.specs.Members.{All}
use Rattle.spec.specs.Memory.{cleared}
use Rattle.spec.specs.Refusal.{number_of, code_of, Check, first, decide, checked}
use Rattle.spec.specs.Network.{Network, network_checks, refusal_of}
use Rattle.spec.specs.Calls.{Lent, length_check, touches, workspace_after, list_after}
use Rattle.laws.specs.Booleans.{by_cases}
use Rattle.cells.specs.Cells.{cleared_same}

-- ---- one check after the other ----

module _ {A : Type 0} where
  -- the first check decides, or the others do
  pub holds_first : (c : Check) (cs : List Check) (x : Result A Refusal) → c.holds ≡ true → checked (c ∷ cs) x ≡ Err c.gives
  holds_first c cs x h = rw h

  pub passes_first : (c : Check) (cs : List Check) (x : Result A Refusal) → c.holds ≡ false → checked (c ∷ cs) x ≡ checked cs x
  passes_first c cs x h = rw h

pub first_some : (cs ds : List Check) (r : Refusal) → first cs ≡ Some r → first (cs ++ ds) ≡ Some r
first_some [] ds r e = absurd (none-some _ e)
first_some (c ∷ cs) ds r e =
    by_cases c.holds (λ h. rw h (rw h at e)) (λ h. rw h (first_some cs ds r (rw h at e)))

pub first_none : (cs ds : List Check) → first cs ≡ None → first (cs ++ ds) ≡ first ds
first_none [] ds e = refl
first_none (c ∷ cs) ds e =
    by_cases c.holds
    (λ h. let q : Some c.gives ≡ None = rw h at e in absurd (none-some _ (sym q)))
    (λ h. rw h (first_none cs ds (rw h at e)))

-- ---- refused with nothing touched ----

-- the call is refused with the number k, one of 3 to 7
pub record Untouched {A : Type 0} (k : ℕ) (c : Result A Refusal) : Type 0 where
  pub refusal : Refusal
  pub is : c ≡ Err refusal
  pub number : number_of refusal ≡ k
  pub quiet : touches refusal ≡ false

module _ {A : Type 0} {k : ℕ} {c : Result A Refusal} (u : Untouched k c) where
  pub same_words : (stated : ℕ) (ws : List ℕ) → ws ≡ workspace_after stated c ws
  same_words stated ws = rw (u.is, u.quiet)

  pub same_list : {B : Type 0} (written : A → List B) (l : List B) → l ≡ list_after c written l
  same_list written l = rw u.is

-- the number that is handed out, by whatever names a refusal by its number
pub answers : {A Answer : Type 0} {k : ℕ} {c : Result A Refusal} (u : Untouched k c) (answer_of : Result A Refusal → Answer) (named : ℕ → Answer)
    → ((r : Refusal) → answer_of (Err r) ≡ named (number_of r)) → named k ≡ answer_of c
answers u answer_of named f = sym (ap answer_of u.is ∙ f u.refusal ∙ ap named u.number)

first_quiet : (cs : List Check) (r : Refusal) → All (λ c. touches c.gives ≡ false) cs → first cs ≡ Some r → touches r ≡ false
first_quiet [] r q e = absurd (none-some _ e)
first_quiet (c ∷ cs) r q e =
    by_cases c.holds
    (λ h. let z : Some c.gives ≡ Some r = rw h at e in ap touches (sym (same_Some _ _ z)) ∙ q.0)
    (λ h. first_quiet cs r q.1 (rw h at e))

module _ {A : Type 0} (N : Network) (cs : List Check) (x : Result A Refusal) where
  refused_by : (o : Option Refusal) (k : ℕ) → refusal_of N ≡ o → k ≡ code_of o → (k ≡ 0 → ⊥) → Untouched k (checked (network_checks false N ++ cs) x)
  refused_by None k e q z = absurd (z q)
  refused_by (Some r) k e q z =
      record {
        refusal = r;
        is = ap (λ (o : Option Refusal). decide o x) (first_some (network_checks false N) cs r e);
        number = sym q;
        quiet = first_quiet (network_checks false N) r (refl, (refl, (refl, (refl, tt)))) e;
      }

  -- the network is refused: a call that checks it first gives the same number
  pub by_network : (k : ℕ) → k ≡ code_of (refusal_of N) → (k ≡ 0 → ⊥) → Untouched k (checked (network_checks false N ++ cs) x)
  by_network k q z = refused_by (refusal_of N) k refl q z

  -- it is accepted: the other checks decide
  pub past_network : refusal_of N ≡ None → checked (network_checks false N ++ cs) x ≡ checked cs x
  past_network e = ap (λ (o : Option Refusal). decide o x) (first_none (network_checks false N) cs e)

-- a list that is too short: 7
module _ {A : Type 0} (l : List Lent) (cs : List Check) (x : Result A Refusal) where
  pub by_length : anyb (λ y. ltb y.has y.needs) l ≡ true → Untouched 7 (checked (length_check l ∷ cs) x)
  by_length h = record { refusal = ShortBuffer; is = holds_first (length_check l) cs x h; number = refl; quiet = refl }

  pub past_length : anyb (λ y. ltb y.has y.needs) l ≡ false → checked (length_check l ∷ cs) x ≡ checked cs x
  past_length h = passes_first (length_check l) cs x h

-- ---- refused with a refusal, and nothing touched ----

module _ {A : Type 0} where
  -- the network is refused: so is a call that checks it first
  pub network_refused : (N : Network) (cs : List Check) (x : Result A Refusal) (r : Refusal) → refusal_of N ≡ Some r → checked (network_checks false N ++ cs) x ≡ Err r
  network_refused N cs x r e = ap (λ (o : Option Refusal). decide o x) (first_some (network_checks false N) cs r e)

  -- a list that is too short
  pub too_short : (l : List Lent) (cs : List Check) (x : Result A Refusal) → anyb (λ y. ltb y.has y.needs) l ≡ true → checked (length_check l ∷ cs) x ≡ Err ShortBuffer
  too_short l cs x h = holds_first (length_check l) cs x h

  -- what is lent stays as it is
  pub quiet_words : (stated : ℕ) (c : Result A Refusal) (r : Refusal) (ws : List ℕ) → c ≡ Err r → touches r ≡ false → ws ≡ workspace_after stated c ws
  quiet_words stated c r ws e q = rw (e, q)

  pub quiet_list : {B : Type 0} (c : Result A Refusal) (r : Refusal) (written : A → List B) (l : List B) → c ≡ Err r → l ≡ list_after c written l
  quiet_list c r written l e = rw e

pub network_quiet : (N : Network) (r : Refusal) → refusal_of N ≡ Some r → touches r ≡ false
network_quiet N r e = first_quiet (network_checks false N) r (refl, (refl, (refl, (refl, tt)))) e

-- ---- the stated words are cleared ----

module _ {A : Type 0} (stated : ℕ) (ws ws' : List ℕ) (e : ws' ≡ cleared ws stated) where
  pub done_words : (c : Result A Refusal) (x : A) → c ≡ Ok x → ws' ≡ workspace_after stated c ws
  done_words c x q = e ∙ rw q

  pub refused_words : (c : Result A Refusal) (r : Refusal) → touches r ≡ true → c ≡ Err r → ws' ≡ workspace_after stated c ws
  refused_words c r t q = e ∙ rw (q, t)

-- what was lent as `&mut ws[..m]` is back, whatever it holds, and is then cleared
pub lent_cleared : (ws y : List ℕ) (m k : ℕ) → m ≤ length ws → length y ≡ length (take m ws) → k ≡ m → cleared (y ++ drop m ws) k ≡ cleared ws m
lent_cleared ws y m k h e q =
    ap (cleared (y ++ drop m ws)) q
    ∙ cleared_same (y ++ drop m ws) ws m (length_front ws y m e) (λ i b.
    let z : i ≡ length y + (i - m) = omega (arith, length-take-le m ws h) in
    let w : m + (i - m) ≡ i = omega arith in
    ap (λ (n : ℕ). get_or (y ++ drop m ws) n 0) z ∙ get_or-append-add y (drop m ws) (i - m) 0 ∙ get_or-drop m ws (i - m) 0 ∙ ap (λ (n : ℕ). get_or ws n 0) w)
