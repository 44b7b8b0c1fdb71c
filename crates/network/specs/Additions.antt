-- What an addition answers, and laws of networks that grow. Assumes nothing.
use Rattle.std.specs.Prelude.{◌≡◌, refl, Bool, true, false, ◌||◌, List, [], ◌∷◌, ◌++◌, ℕ, ◌≤◌, ◌<◌, ltb, Option, None, Some, Result, Err, Ok}
use Rattle.std.proofs.Math.Path.{sym}
use Rattle.std.proofs.Common.{◌∙◌, subst, arith, length-append, lt-ltb, ltb-true}
use Rattle.spec.specs.declared.Refusal.{Refusal}
use Rattle.std.proofs.Math.ListN.{length}
use Rattle.spec.specs.Lists.{anyb}
use Rattle.spec.specs.Refusal.{decide}
use Rattle.spec.specs.declared.Refusal.TheVariants.{TooLarge}
use Rattle.spec.specs.Network.{Network, leaf_count, index_count, max_leaves, max_indices, max_legs, max_outputs, refusal_of}
use Rattle.spec.specs.Building.{with_weight, with_leaf, with_output, if_accepted, add_weight, add_leaf, add_output}
use Rattle.laws.specs.Booleans.{clash, or_introl, or_intror, or_cases}
use Rattle.network.specs.Record.{net_of}
use Rattle.network.specs.Codes.{large, large_of, large_layout, refused_large}
use Rattle.network.specs.Layouts.{layout_leaf_count, layout_index_count, layout_output_count}
use Rattle.network.specs.declared.Network.{Network as Record}

-- an addition's answer, and the record before and after it: refused, and the record stays; or done, and the record is of the new network
abbrev pub Adds : Result Network Refusal → Result (Unit {0}) Refusal → (before after : Record) → Type 0
Adds (Err k) r before after = (r ≡ Err k) × (after ≡ before)
Adds (Ok N) r before after = (r ≡ Ok tt) × (net_of after ≡ N)

-- the record stays where the network with the addition is too large
pub adds_large : (before : Record) (N : Network) → large N ≡ true → Adds (if_accepted N) (Err TooLarge) before before
adds_large before N e = subst (λ (k : Option Refusal). Adds (decide k (Ok N)) (Err TooLarge) before before) (sym (refused_large N e)) (refl, refl)

-- the check decides
pub adds_none : (before next : Record) → refusal_of (net_of next) ≡ None → Adds (if_accepted (net_of next)) (Ok tt) before next
adds_none before next e = subst (λ (k : Option Refusal). Adds (decide k (Ok (net_of next))) (Ok tt) before next) (sym e) (refl, refl)

pub adds_some : (before next : Record) (r : Refusal) → refusal_of (net_of next) ≡ Some r → Adds (if_accepted (net_of next)) (Err r) before before
adds_some before next r e = subst (λ (k : Option Refusal). Adds (decide k (Ok (net_of next))) (Err r) before before) (sym e) (refl, refl)

-- the record that was made stands for the network with the addition
pub adds_same : (before after next : Record) (r : Result (Unit {0}) Refusal) (N : Network) → net_of next ≡ N → Adds (if_accepted (net_of next)) r before after → Adds (if_accepted N) r before after
adds_same before after next r N e h = subst (λ (M : Network). Adds (if_accepted M) r before after) e h

-- ---- networks with one more that are too large ----

one_more : {A : Type 0} (k : ℕ) (l : List A) (x : A) → k ≤ length l → ltb k (length (l ++ (x ∷ []))) ≡ true
one_more k l x h = lt-ltb k (length (l ++ (x ∷ []))) (omega (arith, length-append l (x ∷ [])))

any_left : {A : Type 0} (p : A → Bool) (a b : List A) → anyb p a ≡ true → anyb p (a ++ b) ≡ true
any_left p [] b e = clash e refl
any_left p (x ∷ a) b e = or_cases (p x) (anyb p a) e (λ h. or_introl (p x) (anyb p (a ++ b)) h) (λ h. or_intror (p x) (anyb p (a ++ b)) (any_left p a b h))

any_right : {A : Type 0} (p : A → Bool) (a b : List A) → anyb p b ≡ true → anyb p (a ++ b) ≡ true
any_right p [] b e = e
any_right p (x ∷ a) b e = or_intror (p x) (anyb p (a ++ b)) (any_right p a b e)

-- one of the four counts is
by_leaves : (N : Network) → ltb max_leaves (leaf_count N) ≡ true → large N ≡ true
by_leaves N e = rw e

by_indices : (N : Network) → ltb max_indices (index_count N) ≡ true → large N ≡ true
by_indices N e = or_intror (ltb max_leaves (leaf_count N)) _ (or_introl (ltb max_indices (index_count N)) _ e)

by_legs : (N : Network) → anyb (λ l. ltb max_legs (length l)) N.leaves ≡ true → large N ≡ true
by_legs N e =
    or_intror (ltb max_leaves (leaf_count N)) _ (or_intror (ltb max_indices (index_count N)) _ (or_introl (anyb (λ l. ltb max_legs (length l)) N.leaves) _ e))

by_outputs : (N : Network) → ltb max_outputs (length N.outputs) ≡ true → large N ≡ true
by_outputs N e =
    let h : (anyb (λ l. ltb max_legs (length l)) N.leaves || ltb max_outputs (length N.outputs)) ≡ true = or_intror (anyb (λ l. ltb max_legs (length l)) N.leaves) _ e in
    or_intror (ltb max_leaves (leaf_count N)) _ (or_intror (ltb max_indices (index_count N)) _ h)

pub large_weight : (N : Network) (w : ℕ) → max_indices ≤ index_count N → large (with_weight N w) ≡ true
large_weight N w h = by_indices (with_weight N w) (one_more max_indices N.weights w h)

pub large_output : (N : Network) (j : ℕ) → max_outputs ≤ length N.outputs → large (with_output N j) ≡ true
large_output N j h = by_outputs (with_output N j) (one_more max_outputs N.outputs j h)

pub large_leaf : (N : Network) (l : List ℕ) → max_leaves ≤ leaf_count N → large (with_leaf N l) ≡ true
large_leaf N l h = by_leaves (with_leaf N l) (one_more max_leaves N.leaves l h)

pub large_new_leaf : (N : Network) (l : List ℕ) → max_legs < length l → large (with_leaf N l) ≡ true
large_new_leaf N l h =
    by_legs (with_leaf N l) (any_right (λ l. ltb max_legs (length l)) N.leaves (l ∷ []) (or_introl (ltb max_legs (length l)) false (lt-ltb max_legs (length l) h)))

-- a network that is too large stays so with one leaf more
pub large_stays : (N : Network) (l : List ℕ) → large N ≡ true → large (with_leaf N l) ≡ true
large_stays N l e =
    or_cases (ltb max_leaves (leaf_count N)) _ e
    (λ a. large_leaf N l (omega (arith, ltb-true max_leaves (leaf_count N) a)))
    (λ b. or_cases (ltb max_indices (index_count N)) _ b (by_indices (with_leaf N l))
    (λ c. or_cases (anyb (λ l. ltb max_legs (length l)) N.leaves) _ c
    (λ d. by_legs (with_leaf N l) (any_left (λ l. ltb max_legs (length l)) N.leaves (l ∷ []) d))
    (by_outputs (with_leaf N l))))

-- ---- records with no room for one more ----

module _ (before : Record) where
  pub weights_full : (w : ℕ) → max_indices ≤ before.index_count → Adds (add_weight (net_of before) w) (Err TooLarge) before before
  unfolding net_of
  weights_full w h =
      let e : index_count (net_of before) ≡ before.index_count = layout_index_count _ _ _ _ _ _ _ in
      adds_large before (with_weight (net_of before) w) (large_weight (net_of before) w (omega arith))

  pub outputs_full : (j : ℕ) → max_outputs ≤ before.output_count → Adds (add_output (net_of before) j) (Err TooLarge) before before
  unfolding net_of
  outputs_full j h =
      let e : length (net_of before).outputs ≡ before.output_count = layout_output_count _ _ _ _ _ _ _ in
      adds_large before (with_output (net_of before) j) (large_output (net_of before) j (omega arith))

  pub leaves_full : (l : List ℕ) → max_leaves ≤ before.leaf_count → Adds (add_leaf (net_of before) l) (Err TooLarge) before before
  unfolding net_of
  leaves_full l h =
      let e : leaf_count (net_of before) ≡ before.leaf_count = layout_leaf_count _ _ _ _ _ _ _ in
      adds_large before (with_leaf (net_of before) l) (large_leaf (net_of before) l (omega arith))

  pub leaf_full : (l : List ℕ) → max_legs < length l → Adds (add_leaf (net_of before) l) (Err TooLarge) before before
  leaf_full l h = adds_large before (with_leaf (net_of before) l) (large_new_leaf (net_of before) l h)

  pub full_before : (l : List ℕ) {b : Bool} → b ≡ large_of before.index_count before.leaf_count before.output_count before.leg_counts → b ≡ true
      → Adds (add_leaf (net_of before) l) (Err TooLarge) before before
  unfolding net_of
  full_before l e t = adds_large before (with_leaf (net_of before) l) (large_stays (net_of before) l (large_layout _ _ _ _ _ _ _ ∙ sym e ∙ t))
