-- Networks made step by step: an accepted network is made of accepted additions, and an addition is refused as the network would be. Assumes nothing.
use Rattle.std.specs.Prelude.{◌≡◌, refl, Bool, true, false, ◌||◌, List, [], ◌∷◌, ◌++◌, ◌↔◌, ℕ, ltb, leb, length, Option, None, Some, Result, Err, Ok}
use Rattle.std.proofs.Common.{sym, ap, ◌∙◌, append_assoc, append-nil, arith, length-append, ltb-false, le-ltb}
use Rattle.spec.specs.declared.Refusal.{Refusal}
use Rattle.spec.specs.Lists.{memb, anyb}
use Rattle.spec.specs.Refusal.{decide, passes}
use Rattle.spec.specs.Network.{Network, max_indices, max_legs, max_outputs, max_weight, repeats, refusal_of, accepted}
use Rattle.spec.specs.Building.{if_accepted, add_weight, add_leaf, add_output}
use Rattle.spec.specs.BuildingClaims.{add_all, built, BuiltJust, AdditionsRefused}
use Rattle.spec.specs.File.{weights_checks}
use Rattle.laws.specs.Booleans.{or_none, clash}
use Rattle.laws.specs.ListLaws.{memb-append}
use Rattle.laws.specs.MemberLaws.{all_parts}
use Rattle.laws.specs.Results.{not_done, done_same, refused_same, and_then_lem}
use Rattle.laws.specs.FileFields.{Fails, any_none, none_any, Named, Begun, accepted_parts, parts_accepted}

-- ---- a network, if it is accepted ----

module _ {A : Type 0} (x : A) where
  decided : (o : Option Refusal) → passes o ≡ true → decide o (Ok x) ≡ Ok x
  decided None e = refl
  decided (Some r) e = clash e refl

  decided_done : (o : Option Refusal) (y : A) → decide o (Ok x) ≡ Ok y → (passes o ≡ true) × (x ≡ y)
  decided_done None y e = (refl, done_same x y e)
  decided_done (Some r) y e = not_done r y e

  decided_refused : (o : Option Refusal) (r : Refusal) → (decide o (Ok x) ≡ Err r) ↔ (o ≡ Some r)
  decided_refused None r = ((λ e. not_done r x (sym e)), (λ e. clash refl (ap passes e)))
  decided_refused (Some k) r = ((λ e. ap (λ (y : Refusal). Some y) (refused_same k r e)), (λ e. ap (λ (o : Option Refusal). decide o (Ok x)) e))

pub additions_refused : AdditionsRefused
additions_refused N r = record { weight = λ w. decided_refused _ _ r; leaf = λ l. decided_refused _ _ r; output = λ j. decided_refused _ _ r }

-- ---- one after another ----

-- a network for each list, which an addition makes longer; and where one is accepted, so is each that begins it
module _ {A : Type 0} (shape : List A → Network) (add : Network → A → Result Network Refusal)
    (adds : (l : List A) (x : A) → add (shape l) x ≡ if_accepted (shape (l ++ (x ∷ [])))) where
  all_added : ((a b : List A) → accepted (shape (a ++ b)) ≡ true → accepted (shape a) ≡ true)
      → (before l : List A) → accepted (shape (before ++ l)) ≡ true → add_all add (shape before) l ≡ Ok (shape (before ++ l))
  all_added begins before [] e = ap (λ (k : List A). Ok (shape k)) (sym (append-nil before))
  all_added begins before (x ∷ l) e =
      let q : (before ++ (x ∷ [])) ++ l ≡ before ++ (x ∷ l) = append_assoc before (x ∷ []) l in
      let f : accepted (shape ((before ++ (x ∷ [])) ++ l)) ≡ true = ap (λ (k : List A). accepted (shape k)) q ∙ e in
      rw (adds before x ∙ decided (shape (before ++ (x ∷ []))) (refusal_of (shape (before ++ (x ∷ [])))) (begins (before ++ (x ∷ [])) l f))
      (all_added begins (before ++ (x ∷ [])) l f ∙ ap (λ (k : List A). Ok (shape k)) q)

  added_all : (before l : List A) (N : Network) → accepted (shape before) ≡ true → add_all add (shape before) l ≡ Ok N
      → (accepted (shape (before ++ l)) ≡ true) × (shape (before ++ l) ≡ N)
  added_all before [] N a e =
      (ap (λ (k : List A). accepted (shape k)) (append-nil before) ∙ a, ap shape (append-nil before) ∙ done_same (shape before) N e)
  added_all before (x ∷ l) N a e =
      and_then_lem (add (shape before) x) (λ M. add_all add M l) N e λ M p s.
      let after : List A = before ++ (x ∷ []) in
      let q : after ++ l ≡ before ++ (x ∷ l) = append_assoc before (x ∷ []) l in
      let (b, z) = decided_done (shape after) (refusal_of (shape after)) M (sym (adds before x) ∙ p) in
      let (f, g) = added_all after l N b (ap (λ (K : Network). add_all add K l) z ∙ s) in
      (ap (λ (k : List A). accepted (shape k)) (sym q) ∙ f, ap shape (sym q) ∙ g)

-- ---- what begins an accepted network is accepted ----

abbrev net : List ℕ → List (List ℕ) → List ℕ → Network
net weights leaves outputs = record { leaves = leaves; outputs = outputs; weights = weights }

shorter : {A : Type 0} (most : ℕ) (a b : List A) → ltb most (length (a ++ b)) ≡ false → ltb most (length a) ≡ false
shorter most a b e = le-ltb most (length a) (omega (arith, ltb-false most (length (a ++ b)) e, length-append a b))

begins_none : {A : Type 0} (p : A → Bool) (a b : List A) → anyb p (a ++ b) ≡ false → anyb p a ≡ false
begins_none p a b e = none_any p a (all_parts (λ x. p x ≡ false) a b (any_none p (a ++ b) e)).0

begins_apart : (a b : List ℕ) → repeats (a ++ b) ≡ false → repeats a ≡ false
begins_apart [] b e = refl
begins_apart (j ∷ a) b e =
    let (f, g) = or_none (memb j (a ++ b)) (repeats (a ++ b)) e in
    let h : (memb j a || memb j b) ≡ false = sym (memb-append j a b) ∙ f in
    rw (or_none (memb j a) (memb j b) h).0 (begins_apart a b g)

no_outputs : (weights : List ℕ) (leaves : List (List ℕ)) → Begun weights leaves → accepted (net weights leaves []) ≡ true
no_outputs weights leaves b = parts_accepted (net weights leaves []) b (refl, refl, refl)

no_leaves : (weights : List ℕ) → Fails (weights_checks weights) → accepted (net weights [] []) ≡ true
no_leaves weights h = no_outputs weights [] (record { weights = h; few = omega arith; legs = tt })

fewer_weights : (a b : List ℕ) → accepted (net (a ++ b) [] []) ≡ true → accepted (net a [] []) ≡ true
fewer_weights a b e =
    let (f, (g, _)) = (accepted_parts (net (a ++ b) [] []) e).0.weights in
    no_leaves a (shorter max_indices a b f, (begins_none (λ w. ltb max_weight w) a b g, tt))

fewer_leaves : (weights : List ℕ) (a b : List (List ℕ)) → accepted (net weights (a ++ b) []) ≡ true → accepted (net weights a []) ≡ true
fewer_leaves weights a b e =
    let h : Begun weights (a ++ b) = (accepted_parts (net weights (a ++ b) []) e).0 in
    no_outputs weights a (record {
      weights = h.weights;
      few = omega (arith, h.few, length-append a b);
      legs = (all_parts (Named max_legs (length weights)) a b h.legs).0;
    })

fewer_outputs : (weights : List ℕ) (leaves : List (List ℕ)) (a b : List ℕ) → accepted (net weights leaves (a ++ b)) ≡ true
    → accepted (net weights leaves a) ≡ true
fewer_outputs weights leaves a b e =
    let (h, (f, s, r)) = accepted_parts (net weights leaves (a ++ b)) e in
    parts_accepted (net weights leaves a) h (shorter max_outputs a b f, begins_none (λ j. leb (length weights) j) a b s, begins_apart a b r)

-- ---- the whole network ----

module _ (weights : List ℕ) (leaves : List (List ℕ)) (outputs : List ℕ) where
  accepted_built : accepted (net weights leaves outputs) ≡ true → built weights leaves outputs ≡ Ok (net weights leaves outputs)
  accepted_built e =
      let b : Begun weights leaves = (accepted_parts (net weights leaves outputs) e).0 in
      rw (all_added (λ l. net l [] []) add_weight (λ l x. refl) fewer_weights [] weights (no_leaves weights b.weights))
      (rw (all_added (λ l. net weights l []) add_leaf (λ l x. refl) (fewer_leaves weights) [] leaves (no_outputs weights leaves b))
      (all_added (λ l. net weights leaves l) add_output (λ l x. refl) (fewer_outputs weights leaves) [] outputs e))

  built_accepted : (N : Network) → built weights leaves outputs ≡ Ok N → (N ≡ net weights leaves outputs) × (accepted N ≡ true)
  built_accepted N e =
      and_then_lem (add_all add_weight (net [] [] []) weights) _ N e λ M p e₁.
      and_then_lem (add_all add_leaf M leaves) _ N e₁ λ L q e₂.
      let (a, z) = added_all (λ l. net l [] []) add_weight (λ l x. refl) [] weights M refl p in
      let (b, y) = added_all (λ l. net weights l []) add_leaf (λ l x. refl) [] leaves L a (ap (λ (K : Network). add_all add_leaf K leaves) z ∙ q) in
      let (c, x) = added_all (λ l. net weights leaves l) add_output (λ l x. refl) [] outputs N b (ap (λ (K : Network). add_all add_output K outputs) y ∙ e₂) in
      (sym x, ap accepted (sym x) ∙ c)

pub built_just : BuiltJust
built_just weights leaves outputs N = (
  built_accepted weights leaves outputs N,
  (λ (q, a). accepted_built weights leaves outputs (ap accepted (sym q) ∙ a) ∙ ap (λ (M : Network). Ok M) (sym q)),
)
