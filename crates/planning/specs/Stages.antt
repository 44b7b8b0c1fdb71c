-- A plan in lent lists, stage by stage: the given tree or greedy's, improvement, slicing. Assumes nothing.
use Rattle.std.proofs.Math.Path.{◌≡◌, refl, ap}
use Rattle.std.proofs.Common.{sym, ◌∙◌, subst, arith, le-ltb}
use Rattle.std.specs.Prelude.{Bool, true, false, cond, ℕ, ◌-◌, ◌*◌, ◌%◌, ◌≤◌, ◌<◌, length, get_or, take, Option, None, Some, Result, Err, Ok}
use mathlib.Core.List.{List, [], ◌∷◌, ◌++◌}
use Rattle.spec.specs.declared.Refusal.{Refusal}
use Rattle.spec.specs.Memory.{over}
use Rattle.spec.specs.Network.{Network, leaf_count, index_count, network_checks, accepted}
use Rattle.spec.specs.Tree.{Pair, valid, pairs_of, flat_of}
use Rattle.spec.specs.Refusal.{Check, and_then, checked}
use Rattle.spec.specs.Improve as spec
use Rattle.spec.specs.Improve.{improve}
use Rattle.spec.specs.Greedy.{greedy}
use Rattle.spec.specs.Slicing.{Plan}
use Rattle.spec.specs.Calls.{lent, length_check, plain_words, improve_words, tree_places, greedy_checks, greedy_call, improve_checks, improve_call, greedy_tree, improved_tree}
use Rattle.spec.specs.File.{Ask, flag_bytes}
use Rattle.spec.specs.FileClaims.{LawfulTree}
use Rattle.spec.specs.Program.{flags_of, tree_for, improve_for, slice_for, plan_of}
use Rattle.laws.specs.Results.{done_same, checked_done}
use Rattle.laws.specs.Accepted.{accepted_means}
use Rattle.laws.specs.FileFields.{fails_tree}
use Rattle.laws.specs.FlatLaws.{pairs_length, pairs_flat}
use Rattle.laws.specs.OrderLaws.{valid_length}
use Rattle.laws.specs.GreedyLaws.{greedy_valid}
use Rattle.laws.specs.ImprovedValid.{keeps_valid}
use Rattle.merging.specs.Removed.{flat_length}
use Rattle.passes.specs.Made.{most_tried}
use Rattle.greedy.specs.Answers.{done_of}
use Rattle.netfile.specs.declared.Ask.{Ask as Asked}
use Rattle.netfile.specs.declared.Ask.TheVariants.{Plain, Flagged, Target}
use Rattle.netfile.specs.declared.Given.{Given}
use Rattle.netfile.specs.Answers.{flag_count}
use Rattle.netfile.specs.Writer.{ask_handed}
use Rattle.reconf.specs.declared.Visited.{Visited}
use Rattle.reconfigure.specs.Answers.{counts_of, given}
use Rattle.slicetree.specs.Answers.{counts}
use Rattle.cells.specs.Cells.{over_all}
use Rattle.planning.specs.Bounds.{improve_few}

-- ---- what stands in the lists ----

-- an index's byte is 1 where it is flagged, else 0
abbrev pub FlagsHeld : Network → (ℕ → Bool) → List ℕ → Type 0
FlagsHeld N flag flags = (j : ℕ) → j < index_count N → get_or flags j 0 ≡ cond (flag j) 1 0

pub record PlanHeld (N : Network) (p : Plan) (kids flags : List ℕ) : Type 0 where
  pub tree : kids ≡ flat_of p.tree
  pub flagged : FlagsHeld N p.flag flags

-- the answer is that of c, and so is the plan in the lists
pub record Answers (N : Network) (c : Result Plan Refusal) (kids flags : List ℕ) (r : Result Visited Refusal) : Type 0 where
  pub answer : r ≡ counts c
  pub held : (p : Plan) → c ≡ Ok p → PlanHeld N p kids flags

-- what a stage asks: an accepted network, a place an index for flags
pub record Ready (N : Network) (places : ℕ) : Type 0 where
  pub ok : accepted N ≡ true
  pub room : index_count N ≤ places

-- the tree that a list has, if the file has one
abbrev pub given_tree : Option ℕ → List ℕ → Option (List ℕ)
given_tree None kids = None
given_tree (Some n) kids = Some kids

given_flags : (a : Asked) (l : List ℕ) → take (flag_count a) l ≡ flag_bytes (ask_handed a l)
given_flags Plain l = refl
given_flags (Flagged n) l = refl
given_flags (Target w) l = refl

-- what a file has, in lists of 254 and 256 places: an accepted network, and its own flags
pub record FoundIn (N : Network) (f : Given) (kids flags : List ℕ) : Type 0 where
  pub ok : accepted N ≡ true
  pub flags_held : FlagsHeld N (flags_of (ask_handed f.ask flags)) flags
  pub few_flags : flag_count f.ask ≤ index_count N
  pub tree_room : length kids ≡ 254
  pub flag_room : length flags ≡ 256

pub found_ready : {N : Network} {f : Given} {kids flags : List ℕ} → FoundIn N f kids flags → Ready N (length flags)
found_ready {N} x = record { ok = x.ok; room = omega (arith, x.flag_room, ((accepted_means N).0 x.ok).few_indices) }

pub found_flags : {N : Network} {f : Given} {kids flags : List ℕ} → FoundIn N f kids flags → flag_count f.ask ≤ length flags
found_flags {N} x = omega (arith, x.few_flags, x.flag_room, ((accepted_means N).0 x.ok).few_indices)

-- ---- answers ----

pub answers_refused : {N : Network} {c : Result Plan Refusal} {kids flags : List ℕ} (r : Refusal) → c ≡ Err r → Answers N c kids flags (Err r)
answers_refused r e = record { answer = ap counts (sym e); held = λ p f. absurd (apart r p (sym e ∙ f)) }
  where
    apart : (r : Refusal) (p : Plan) → ◌≡◌ {A = Result Plan Refusal} (Err r) (Ok p) → ⊥
    apart r p e = let z : ◌≡◌ {A = ℕ} 0 1 = cc in omega arith

pub answers_as : {N : Network} {c d : Result Plan Refusal} {kids flags : List ℕ} {r : Result Visited Refusal} → c ≡ d → Answers N d kids flags r → Answers N c kids flags r
answers_as {N} {kids = kids} {flags = flags} {r = r} e a = subst (λ (x : Result Plan Refusal). Answers N x kids flags r) (sym e) a

pub answers_at : {N : Network} {c : Result Plan Refusal} {kids flags : List ℕ} {r s : Result Visited Refusal} → r ≡ s → Answers N c kids flags r → Answers N c kids flags s
answers_at {N} {c} {kids} {flags} e a = subst (Answers N c kids flags) e a

-- ---- improvement ----

-- the tree in a list with counts
abbrev pub improved_in : List ℕ → Visited → spec.Improved
improved_in kids v = record { tree = pairs_of kids; rebuilt = v.rebuilt; tried = v.tried }

-- a valid tree, and counts of four passes
pub record ImprovedHeld (N : Network) (kids : List ℕ) (v : Visited) : Type 0 where
  pub flat : flat_of (pairs_of kids) ≡ kids
  pub fine : valid (leaf_count N) (pairs_of kids) ≡ true
  pub few_rebuilt : v.rebuilt ≤ 4 * 127
  pub few_tried : v.tried ≤ 4 * (127 * most_tried)

-- improvement, and what follows it
unfoldable pub from_tree : Network → Ask → List ℕ → Result Plan Refusal
from_tree N ask kids = and_then (improve_for N ask kids) λ d. slice_for N ask d

even_length : (n : ℕ) (kids : List ℕ) → length kids % 2 ≡ 0 → valid n (pairs_of kids) ≡ true → length kids ≡ (n - 1) * 2
even_length n kids e v = omega (arith, pairs_length kids, valid_length n (pairs_of kids) v)

-- a list of children over one that is as long
pub over_tree : (n : ℕ) (kids₀ : List ℕ) (a : List Pair) → length kids₀ ≡ (n - 1) * 2 → valid n a ≡ true → over kids₀ (flat_of a) ≡ flat_of a
over_tree n kids₀ a e v = over_all kids₀ (flat_of a) (omega (arith, flat_length a, valid_length n a v))

module _ (N : Network) (ask : Ask) (few : leaf_count N ≤ 128) (kids₀ : List ℕ) where
  module _ (d : spec.Improved) (e : improve_for N ask kids₀ ≡ Ok d) where
    improved_facts : LawfulTree N (Some kids₀) × (improve N 8 4 None (flags_of ask) (pairs_of kids₀) ≡ d)
    unfolding improve_call
    improved_facts =
        let (f, q) = checked_done (improve_checks N 8 4 (improve_words 8) (flag_bytes ask) kids₀) (Ok (improve N 8 4 None (flags_of ask) (pairs_of kids₀))) d e in
        (fails_tree N kids₀ (f.1.1.1.1.1.0, tt), done_same (improve N 8 4 None (flags_of ask) (pairs_of kids₀)) d q)

    improved_fine : valid (leaf_count N) d.tree ≡ true
    improved_fine =
        subst (λ (x : spec.Improved). valid (leaf_count N) x.tree ≡ true) improved_facts.1
        (keeps_valid N 8 4 None (flags_of ask) (pairs_of kids₀) improved_facts.0.1)

    improved_few : (d.rebuilt ≤ 4 * 127) × (d.tried ≤ 4 * (127 * most_tried))
    improved_few =
        subst (λ (x : spec.Improved). (x.rebuilt ≤ 4 * 127) × (x.tried ≤ 4 * (127 * most_tried))) improved_facts.1
        (improve_few N 8 4 None (flags_of ask) (pairs_of kids₀) improved_facts.0.1 few)

    improved_tree_lem : over kids₀ (flat_of d.tree) ≡ flat_of d.tree
    improved_tree_lem =
        over_tree (leaf_count N) kids₀ d.tree (even_length (leaf_count N) kids₀ improved_facts.0.0 improved_facts.0.1) improved_fine

    improved_held : {kids : List ℕ} {v : Visited} → kids ≡ improved_tree (Ok d) kids₀ → v ≡ counts_of d → ImprovedHeld N kids v × (improved_in kids v ≡ d)
    improved_held {kids} {v} t q =
        let k : kids ≡ flat_of d.tree = t ∙ improved_tree_lem in
        let a : pairs_of kids ≡ d.tree = ap pairs_of k ∙ pairs_flat d.tree in
        let x : v.rebuilt ≡ d.rebuilt = ap (λ (u : Visited). u.rebuilt) q in
        let y : v.tried ≡ d.tried = ap (λ (u : Visited). u.tried) q in (
          record {
            flat = ap flat_of a ∙ sym k;
            fine = rw a improved_fine;
            few_rebuilt = omega (arith, improved_few.0);
            few_tried = omega (arith, improved_few.1);
          },
          (λ i. record { tree = a i; rebuilt = x i; tried = y i }),
        )

  -- by what improvement answers
  module _ {c : Result spec.Improved Refusal} (same : c ≡ improve_for N ask kids₀) where
    improve_refused : {k : Refusal} {kids flags : List ℕ} → Err k ≡ given c → Answers N (from_tree N ask kids₀) kids flags (Err k)
    unfolding from_tree
    improve_refused {k} {kids} {flags} q = by_result c refl q
      where
        by_result : (x : Result spec.Improved Refusal) → c ≡ x → Err k ≡ given x
            → Answers N (and_then (improve_for N ask kids₀) λ d. slice_for N ask d) kids flags (Err k)
        by_result (Err r) e p =
            let z : k ≡ r = cc in answers_refused k (ap (λ (x : Result spec.Improved Refusal). and_then x (λ d. slice_for N ask d)) (sym same ∙ e) ∙ ap Err (sym z))
        by_result (Ok d) e p = absurd (let z : ◌≡◌ {A = ℕ} 0 1 = cc in omega arith)

    improve_done : {v : Visited} {kids : List ℕ} → Ok v ≡ given c → kids ≡ improved_tree c kids₀
        → ImprovedHeld N kids v × (from_tree N ask kids₀ ≡ slice_for N ask (improved_in kids v))
    unfolding from_tree
    improve_done {v} {kids} q t = by_result c refl q t
      where
        by_result : (x : Result spec.Improved Refusal) → c ≡ x → Ok v ≡ given x → kids ≡ improved_tree x kids₀
            → ImprovedHeld N kids v × ((and_then (improve_for N ask kids₀) λ d. slice_for N ask d) ≡ slice_for N ask (improved_in kids v))
        by_result (Err r) e p s = absurd (let z : ◌≡◌ {A = ℕ} 0 1 = cc in omega arith)
        by_result (Ok d) e p s =
            let (h, g) = improved_held d (sym same ∙ e) s (let z : v ≡ counts_of d = cc in z) in
            (h, ap (λ (x : Result spec.Improved Refusal). and_then x (λ y. slice_for N ask y)) (sym same ∙ e) ∙ ap (slice_for N ask) (sym g))

-- the call of improvement, with the stated words and the given flags
improve_same : (N : Network) (a : Asked) (kids flags : List ℕ) (words count : ℕ) → words ≡ improve_words 8 → count ≡ flag_count a
    → improve_call N 8 4 None words (take count flags) kids ≡ improve_for N (ask_handed a flags) kids
improve_same N a kids flags words count e f =
    ap (λ (w : ℕ). improve_call N 8 4 None w (take count flags) kids) e
    ∙ ap (λ (l : List ℕ). improve_call N 8 4 None (improve_words 8) l kids) (ap (λ (n : ℕ). take n flags) f ∙ given_flags a flags)

-- the tree in the list is improved, and the plan goes on from it; or it is refused
pub record ImprovedTo (N : Network) (ask : Ask) (kids₀ kids : List ℕ) (r : Result Visited Refusal) : Type 0 where
  pub refuses : {k : Refusal} → r ≡ Err k → (flags : List ℕ) → Answers N (from_tree N ask kids₀) kids flags (Err k)
  pub goes : {v : Visited} → r ≡ Ok v → ImprovedHeld N kids v × (from_tree N ask kids₀ ≡ slice_for N ask (improved_in kids v))

pub improved_to : (N : Network) (a : Asked) (kids₀ flags : List ℕ) (words count : ℕ) → accepted N ≡ true → words ≡ improve_words 8 → count ≡ flag_count a
    → {kids : List ℕ} {r : Result Visited Refusal} → r ≡ given (improve_call N 8 4 None words (take count flags) kids₀)
    → kids ≡ improved_tree (improve_call N 8 4 None words (take count flags) kids₀) kids₀ → ImprovedTo N (ask_handed a flags) kids₀ kids r
improved_to N a kids₀ flags words count ok e f q t =
    let few : leaf_count N ≤ 128 = ((accepted_means N).0 ok).few_leaves in
    let same = improve_same N a kids₀ flags words count e f in
    record {
      refuses = λ g l. improve_refused N (ask_handed a flags) few kids₀ same (sym g ∙ q);
      goes = λ g. improve_done N (ask_handed a flags) few kids₀ same (sym g ∙ q) t;
    }

-- ---- the tree ----

-- more room than stated changes nothing
greedy_same : (N : Network) (words places : ℕ) → plain_words ≤ words → tree_places N ≤ places → greedy_call N words places ≡ greedy_call N plain_words (tree_places N)
unfolding greedy_call
greedy_same N words places h q =
    let e : length_check (lent words plain_words ∷ lent places (tree_places N) ∷ []) ≡ length_check (lent plain_words plain_words ∷ lent (tree_places N) (tree_places N) ∷ []) =
    rw (le-ltb words plain_words h, le-ltb places (tree_places N) q, le-ltb (tree_places N) (tree_places N) (omega arith)) in
    ap (λ (x : Check). checked (network_checks false N ++ (x ∷ [])) (greedy N)) e

-- a given tree is improved as it is
plan_given : (N : Network) (ask : Ask) (kids : List ℕ) → plan_of N (Some kids) ask ≡ from_tree N ask kids
unfolding plan_of from_tree
plan_given N ask kids = refl

module _ (N : Network) (ask : Ask) (kids₀ : List ℕ) (long : length kids₀ ≡ tree_places N) (words : ℕ) (h : plain_words ≤ words) where
  greedy_refused : {k : Refusal} {kids flags : List ℕ} → Err k ≡ done_of (greedy_call N words (length kids₀))
      → Answers N (plan_of N None ask) kids flags (Err k)
  unfolding plan_of
  greedy_refused {k} {kids} {flags} q = by_result (greedy_call N words (length kids₀)) (greedy_same N words (length kids₀) h (omega arith)) q
    where
      by_result : (x : Result (List Pair) Refusal) → x ≡ greedy_call N plain_words (tree_places N) → Err k ≡ done_of x
          → Answers N (and_then (tree_for N None) λ kids. and_then (improve_for N ask kids) λ d. slice_for N ask d) kids flags (Err k)
      by_result (Err r) e p = let z : k ≡ r = cc in rw z (answers_refused r (rw (sym e)))
      by_result (Ok a) e p = absurd (let z : ◌≡◌ {A = ℕ} 0 1 = cc in omega arith)

  greedy_done : {kids : List ℕ} → Ok tt ≡ done_of (greedy_call N words (length kids₀)) → kids ≡ greedy_tree (greedy_call N words (length kids₀)) kids₀
      → plan_of N None ask ≡ from_tree N ask kids
  unfolding plan_of from_tree greedy_call
  greedy_done {kids} q t = by_result (greedy_call N words (length kids₀)) (greedy_same N words (length kids₀) h (omega arith)) q t
    where
      by_result : (x : Result (List Pair) Refusal) → x ≡ greedy_call N plain_words (tree_places N) → Ok tt ≡ done_of x → kids ≡ greedy_tree x kids₀
          → (and_then (tree_for N None) λ kids. and_then (improve_for N ask kids) λ d. slice_for N ask d) ≡ (and_then (improve_for N ask kids) λ d. slice_for N ask d)
      by_result (Err r) e p s = absurd (let z : ◌≡◌ {A = ℕ} 0 1 = cc in omega arith)
      by_result (Ok a) e p s =
          let (_, g) = checked_done (greedy_checks N plain_words (tree_places N)) (greedy N) a (sym e) in
          let k : kids ≡ flat_of a = s ∙ over_tree (leaf_count N) kids₀ a (omega arith) (greedy_valid N a g) in
          ap (λ (x : Result (List Pair) Refusal). and_then (and_then x (λ b. Ok (flat_of b))) (λ kids. and_then (improve_for N ask kids) (λ d. slice_for N ask d))) (sym e)
          ∙ ap (λ (l : List ℕ). and_then (improve_for N ask l) (λ d. slice_for N ask d)) (sym k)

-- the tree to improve is in the list, and the plan goes on from it; or it is refused
pub record Started (N : Network) (given : Option (List ℕ)) (kids : List ℕ) (r : Result (Unit {0}) Refusal) : Type 0 where
  pub refuses : {k : Refusal} → r ≡ Err k → (ask : Ask) (flags : List ℕ) → Answers N (plan_of N given ask) kids flags (Err k)
  pub goes : r ≡ Ok tt → (ask : Ask) → plan_of N given ask ≡ from_tree N ask kids

pub started_given : (N : Network) (kids : List ℕ) → Started N (Some kids) kids (Ok tt)
started_given N kids =
    record {
      refuses = λ e ask flags. absurd (let z : ◌≡◌ {A = ℕ} 0 1 = cc in omega arith);
      goes = λ e ask. plan_given N ask kids;
    }

pub started_greedy : (N : Network) (kids₀ : List ℕ) (words : ℕ) → length kids₀ ≡ tree_places N → plain_words ≤ words → {kids : List ℕ} {r : Result (Unit {0}) Refusal}
    → r ≡ done_of (greedy_call N words (length kids₀)) → kids ≡ greedy_tree (greedy_call N words (length kids₀)) kids₀ → Started N None kids r
started_greedy N kids₀ words long h q t =
    record {
      refuses = λ e ask flags. greedy_refused N ask kids₀ long words h (sym e ∙ q);
      goes = λ e ask. greedy_done N ask kids₀ long words h (sym e ∙ q) t;
    }
