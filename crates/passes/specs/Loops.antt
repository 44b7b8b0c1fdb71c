-- The loops over nodes and over passes, turn by turn. Assumes nothing.
use Rattle.std.specs.Prelude.{Bool, cond, List, ◌∷◌, ◌≡◌, refl, ℕ, zero, suc, ◌+◌, ◌-◌, ◌*◌, ◌≤◌, ◌<◌, eqb, length, get_or, drop, Option}
use Rattle.std.proofs.Common.{sym, ap, ap₂, ◌∙◌, add-one, arith, drop_of_length-le, drop-cons, eq-eqb, ne_eqb, eqb-true}
use Rattle.std.proofs.lemmas.Bool.{eqb-false}
use Rattle.spec.specs.Network.{Network, leaf_count}
use Rattle.spec.specs.Tree.{Tree}
use Rattle.spec.specs.Improve.{Visited, untouched, after, visit, visits, pass, improve_tree}
use Rattle.laws.specs.Booleans.{by_cases}
use Rattle.reprice.specs.Held.{Room, Standing, tree_of}
use Rattle.reconf.specs.Visits.{Visits}
use Rattle.passes.specs.Bounds.{visit_rebuilt, visit_tried}
use Rattle.passes.specs.Made.{most_tried, Ready, Made, Passes}

pub same_room : {k words sets sizes works words' sets' sizes' works' : ℕ} → Room k words sets sizes works → words' ≡ words → sets' ≡ sets → sizes' ≡ sizes
    → works' ≡ works → Room k words' sets' sizes' works'
same_room r p q s t =
    record { for_words = rw p r.for_words; for_sets = rw q r.for_sets; for_sizes = rw s r.for_sizes; for_works = rw t r.for_works }

pub same_ready : {m n o k words sets sizes works words' sets' sizes' works' : ℕ} {weights counts legs outputs : List ℕ}
    → Ready m n o k words sets sizes works weights counts legs outputs → words' ≡ words → sets' ≡ sets → sizes' ≡ sizes → works' ≡ works
    → Ready m n o k words' sets' sizes' works' weights counts legs outputs
same_ready r p q s t =
    record { lent = r.lent; facts = r.facts; closed = r.closed; room = same_room r.room p q s t; low = r.low; high = r.high }

-- ---- what is done, and what is still to do ----

abbrev pub done : Tree → ℕ → ℕ → Visited
done t rebuilt tried = record { tree = t; rebuilt = rebuilt; tried = tried }

same_done : {t t' : Tree} {a a' b b' : ℕ} → t ≡ t' → a ≡ a' → b ≡ b' → done t a b ≡ done t' a' b'
same_done p q r = rw (p, q, r)

pub after_nothing : (d : Visited) (t : Tree) → after (done t 0 0) d ≡ d
after_nothing d t = same_done refl (let z : 0 + d.rebuilt ≡ d.rebuilt = omega arith in z) (let z : 0 + d.tried ≡ d.tried = omega arith in z)

then_nothing : (d : Visited) → after d (untouched 0 d.tree) ≡ d
then_nothing d = same_done refl (let z : d.rebuilt + 0 ≡ d.rebuilt = omega arith in z) (let z : d.tried + 0 ≡ d.tried = omega arith in z)

pub after-after : (d e f : Visited) → after d (after e f) ≡ after (after d e) f
after-after d e f =
    same_done refl
    (let z : d.rebuilt + (e.rebuilt + f.rebuilt) ≡ d.rebuilt + e.rebuilt + f.rebuilt = omega arith in z)
    (let z : d.tried + (e.tried + f.tried) ≡ d.tried + e.tried + f.tried = omega arith in z)

module _ (N : Network) (flag : ℕ → Bool) (k : ℕ) (limit : Option ℕ) where
  -- ---- nodes ----

  -- d is done, and the nodes from place i on are still to be visited
  abbrev pub Visiting : Visited → List ℕ → ℕ → Visited → Type 0
  Visiting whole vs i d = whole ≡ after d (visits N flag k limit (drop i vs) d.tree)

  pub visiting_none : (vs : List ℕ) (t : Tree) → Visiting (visits N flag k limit vs t) vs 0 (done t 0 0)
  visiting_none vs t = sym (after_nothing (visits N flag k limit vs t) t)

  pub visiting_next : (whole d : Visited) (vs : List ℕ) (i v : ℕ) → i < length vs → v ≡ get_or vs i 0 → Visiting whole vs i d
      → Visiting whole vs (i + 1) (after d (visit N flag k limit v d.tree))
  visiting_next whole d vs i v h e p =
      let s : drop i vs ≡ v ∷ drop (i + 1) vs =
      drop-cons vs i 0 h ∙ ap₂ (λ x n. x ∷ drop n vs) (sym e) (sym (add-one i)) in
      p ∙ ap (λ l. after d (visits N flag k limit l d.tree)) s
      ∙ after-after d (visit N flag k limit v d.tree) (visits N flag k limit (drop (i + 1) vs) (visit N flag k limit v d.tree).tree)

  pub visiting_end : (whole d : Visited) (vs : List ℕ) (i : ℕ) → length vs ≤ i → Visiting whole vs i d → whole ≡ d
  visiting_end whole d vs i h p = p ∙ ap (λ l. after d (visits N flag k limit l d.tree)) (drop_of_length-le vs h) ∙ then_nothing d

  -- ---- passes ----

  -- d is done, and as many passes are still to come
  abbrev pub Passing : Visited → ℕ → Visited → Type 0
  Passing whole left d = whole ≡ after d (improve_tree N flag k limit left d.tree)

  pub passing_none : (most : ℕ) (t : Tree) → Passing (improve_tree N flag k limit most t) most (done t 0 0)
  passing_none most t = sym (after_nothing (improve_tree N flag k limit most t) t)

  more : (left : ℕ) (t : Tree) → 1 ≤ left → ((pass N flag k limit t).rebuilt ≡ 0 → ⊥)
      → improve_tree N flag k limit left t ≡ after (pass N flag k limit t) (improve_tree N flag k limit (left - 1) (pass N flag k limit t).tree)
  more zero t h e = absurd (omega arith)
  more (suc left) t h e =
      rw (ne_eqb (pass N flag k limit t).rebuilt 0 e)
      (ap (λ n. after (pass N flag k limit t) (improve_tree N flag k limit n (pass N flag k limit t).tree)) (let z : left ≡ suc left - 1 = omega arith in z))

  last : (left : ℕ) (t : Tree) → 1 ≤ left → (pass N flag k limit t).rebuilt ≡ 0 → improve_tree N flag k limit left t ≡ pass N flag k limit t
  last zero t h e = absurd (omega arith)
  last (suc left) t h e = rw (eq-eqb (pass N flag k limit t).rebuilt 0 e)

  pub passing_next : (whole d : Visited) (left : ℕ) → 1 ≤ left → ((pass N flag k limit d.tree).rebuilt ≡ 0 → ⊥) → Passing whole left d
      → Passing whole (left - 1) (after d (pass N flag k limit d.tree))
  passing_next whole d left h e p =
      p ∙ ap (after d) (more left d.tree h e)
      ∙ after-after d (pass N flag k limit d.tree) (improve_tree N flag k limit (left - 1) (pass N flag k limit d.tree).tree)

  pub passing_last : (whole d : Visited) (left : ℕ) → 1 ≤ left → (pass N flag k limit d.tree).rebuilt ≡ 0 → Passing whole left d
      → whole ≡ after d (pass N flag k limit d.tree)
  passing_last whole d left h e p = p ∙ ap (after d) (last left d.tree h e)

  pub passing_end : (whole d : Visited) (left : ℕ) → left ≡ 0 → Passing whole left d → whole ≡ d
  passing_end whole d left z p = p ∙ ap (λ n. after d (improve_tree N flag k limit n d.tree)) z ∙ then_nothing d

-- ---- the loops' invariants ----

module _ (N : Network) (flag : ℕ → Bool) (k : ℕ) (limit : Option ℕ) where
  -- i of the nodes vs are visited
  pub record Walking (vs : List ℕ) (whole : Visited) (kids sets sizes works : List ℕ) (rebuilt tried i : ℕ) : Type 0 where
    pub going : Visiting N flag k limit whole vs i (done (tree_of (leaf_count N) kids) rebuilt tried)
    pub standing : Standing N flag kids sets sizes works
    pub few_rebuilt : rebuilt ≤ i
    pub few_tried : tried ≤ i * most_tried

  pub walking_none : (vs kids sets sizes works : List ℕ) → Standing N flag kids sets sizes works
      → Walking vs (visits N flag k limit vs (tree_of (leaf_count N) kids)) kids sets sizes works 0 0 0
  walking_none vs kids sets sizes works s =
      record { going = visiting_none N flag k limit vs (tree_of (leaf_count N) kids); standing = s; few_rebuilt = omega arith; few_tried = omega arith }

  module _ {vs : List ℕ} {whole : Visited} {kids sets sizes works : List ℕ} {rebuilt tried i : ℕ} (w : Walking vs whole kids sets sizes works rebuilt tried i) where
    module _ {v : ℕ} {kids' sets' sizes' works' : List ℕ} {a b : ℕ} (low : 1 ≤ k) (high : k ≤ 12) (x : Visits N flag k limit v kids kids' sets' sizes' works' a b) where
      pub walked_rebuilt : a ≤ 1
      walked_rebuilt = omega (arith, x.is_rebuilt, visit_rebuilt N flag k limit low high v (tree_of (leaf_count N) kids))

      pub walked_tried : b ≤ most_tried
      walked_tried = omega (arith, x.is_tried, visit_tried N flag k limit low high v (tree_of (leaf_count N) kids))

      pub walking_next : i < length vs → v ≡ get_or vs i 0 → Walking vs whole kids' sets' sizes' works' (rebuilt + a) (tried + b) (i + 1)
      walking_next h e =
          record {
            going =
                visiting_next N flag k limit whole (done (tree_of (leaf_count N) kids) rebuilt tried) vs i v h e w.going
                ∙ ap (λ (d : Visited). after d (visits N flag k limit (drop (i + 1) vs) d.tree))
                (sym (same_done x.tree (ap (λ (y : ℕ). rebuilt + y) x.is_rebuilt) (ap (λ (y : ℕ). tried + y) x.is_tried)));
            standing = x.standing;
            few_rebuilt = omega (arith, walked_rebuilt, w.few_rebuilt);
            few_tried = omega (arith, walked_tried, w.few_tried);
          }

    pub walking_end : length vs ≤ i → Made N flag whole kids sets sizes works rebuilt tried
    walking_end h =
        let e : whole ≡ done (tree_of (leaf_count N) kids) rebuilt tried = visiting_end N flag k limit whole _ vs i h w.going in
        record {
          tree = sym (ap (λ (d : Visited). d.tree) e);
          is_rebuilt = sym (ap (λ (d : Visited). d.rebuilt) e);
          is_tried = sym (ap (λ (d : Visited). d.tried) e);
          standing = w.standing;
        }

  -- `left` of `most` passes are still to come
  pub record Going (most : ℕ) (whole : Visited) (kids sets sizes works : List ℕ) (rebuilt tried left : ℕ) : Type 0 where
    pub going : Passing N flag k limit whole left (done (tree_of (leaf_count N) kids) rebuilt tried)
    pub standing : Standing N flag kids sets sizes works
    pub few_rebuilt : rebuilt + left * 127 ≤ most * 127
    pub few_tried : tried + left * (127 * most_tried) ≤ most * (127 * most_tried)

  pub going_none : (most : ℕ) (kids sets sizes works : List ℕ) → Standing N flag kids sets sizes works
      → Going most (improve_tree N flag k limit most (tree_of (leaf_count N) kids)) kids sets sizes works 0 0 most
  going_none most kids sets sizes works s =
      record { going = passing_none N flag k limit most (tree_of (leaf_count N) kids); standing = s; few_rebuilt = omega arith; few_tried = omega arith }

  module _ {most : ℕ} {whole : Visited} {kids sets sizes works : List ℕ} {rebuilt tried left : ℕ} (w : Going most whole kids sets sizes works rebuilt tried left) where
    module _ {kids' sets' sizes' works' : List ℕ} {a b : ℕ} (x : Passes N flag k limit kids kids' sets' sizes' works' a b) where
      abbrev before : Visited
      before = done (tree_of (leaf_count N) kids) rebuilt tried

      abbrev then : Visited
      then = done (tree_of (leaf_count N) kids') (rebuilt + a) (tried + b)

      joined : after before (pass N flag k limit (tree_of (leaf_count N) kids)) ≡ then
      joined =
          sym (same_done x.made.tree (ap (λ (y : ℕ). rebuilt + y) x.made.is_rebuilt) (ap (λ (y : ℕ). tried + y) x.made.is_tried))

      pub more_to_come : 1 ≤ left → (a ≡ 0 → ⊥) → Going most whole kids' sets' sizes' works' (rebuilt + a) (tried + b) (left - 1)
      more_to_come h e =
          record {
            going =
                passing_next N flag k limit whole before left h (λ z. e (x.made.is_rebuilt ∙ z)) w.going
                ∙ ap (λ (d : Visited). after d (improve_tree N flag k limit (left - 1) d.tree)) joined;
            standing = x.made.standing;
            few_rebuilt = omega (arith, w.few_rebuilt, x.few_rebuilt);
            few_tried = omega (arith, w.few_tried, x.few_tried);
          }

      pub none_to_come : 1 ≤ left → a ≡ 0 → Going most whole kids' sets' sizes' works' (rebuilt + a) (tried + b) 0
      none_to_come h e =
          record {
            going = passing_last N flag k limit whole before left h (sym x.made.is_rebuilt ∙ e) w.going ∙ joined ∙ sym (then_nothing then);
            standing = x.made.standing;
            few_rebuilt = omega (arith, w.few_rebuilt, x.few_rebuilt);
            few_tried = omega (arith, w.few_tried, x.few_tried);
          }

    pub going_end : left ≤ 0 → Made N flag whole kids sets sizes works rebuilt tried
    going_end h =
        let q : whole ≡ done (tree_of (leaf_count N) kids) rebuilt tried = passing_end N flag k limit whole _ left (omega arith) w.going in
        record {
          tree = sym (ap (λ (d : Visited). d.tree) q);
          is_rebuilt = sym (ap (λ (d : Visited). d.rebuilt) q);
          is_tried = sym (ap (λ (d : Visited). d.tried) q);
          standing = w.standing;
        }
