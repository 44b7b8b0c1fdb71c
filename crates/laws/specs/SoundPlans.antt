-- SOUND PLANS, WHOLE: one claim over every planner, of the calls as the entries' promises give them. Statement and proof.
-- Whatever greedy, bisection, improvement or slicing is handed: the list of children that it hands back passes the tree check. And whatever tree of a
-- network of two leaves or more the tree check passes, and whatever named non-outputs are sliced: the run of pricing's whole listing gives the direct
-- sum in every output cell; tables are of any commutative semiring, whole numbers among them. What slicing flags are such indices, so its own tree and
-- flags run so. Assumes nothing.
use Rattle.std.specs.Prelude.{◌≡◌, Bool, true, not, ◌||◌, ℕ, ◌*◌, ◌/◌, ◌≤◌, ◌<◌, eqb, ltb, length, get_or, drop, Option, Result, Ok}
use Rattle.std.proofs.Math.Path.{refl, ap, subst}
use Rattle.std.proofs.Common.{sym, ◌∙◌, arith, length-take, get_or-take, ltb-true, ltb-false, le-ltb}
use Rattle.std.proofs.Math.Bool.{false}
use mathlib.Core.List.{List, [], ◌∷◌, ◌++◌}
use Rattle.spec.specs.declared.Prices.{Prices}
use Rattle.spec.specs.declared.Refusal.{Refusal}
use Rattle.std.proofs.Math.ListN.{take, get_or-eq_default}
use Rattle.std.proofs.Math.Seq.{take_at}
use Rattle.spec.specs.Semiring.{Semiring}
use Rattle.spec.specs.Network.{Network, leaf_count, index_count, Sliceable, network_checks}
use Rattle.spec.specs.Tree.{Pair, valid, pairs_of, flat_of}
use Rattle.spec.specs.Price.{listing, flat_steps, price_of}
use Rattle.spec.specs.Refusal.{Check, checked}
use Rattle.spec.specs.Memory.{over}
use Rattle.spec.specs.RunClaims.{RunsToDirectSum}
use Rattle.spec.specs.Greedy.{greedy}
use Rattle.spec.specs.Bisection.{Bisected, bisection}
use Rattle.spec.specs.Improve.{Improved, improve}
use Rattle.spec.specs.Slicing.{Plan, slice}
use Rattle.spec.specs.SlicingClaims.{SliceRight}
use Rattle.spec.specs.Calls.{PriceRoom, lent, length_check, tree_check, flags_check, beyond_check, dangling_check, dangling_if, plain_words, bisection_words, improve_words, slice_words, tree_places, node_places, set_words, step_places, step_numbers, flag_at, follow_up, valid_call, valid_checks, greedy_call, greedy_tree, bisection_call, bisected_tree, improve_call, improved_tree, slice_call, sliced_tree, sliced_flags, price_call, price_checks, priced_steps}
use Rattle.laws.specs.Booleans.{by_cases, clash, or_none}
use Rattle.laws.specs.MemberLaws.{all_parts, all_append}
use Rattle.laws.specs.Results.{done_same, checked_done, checked_none}
use Rattle.laws.specs.Accepted.{accepted_means}
use Rattle.laws.specs.FlatLaws.{pairs_flat, flat_even, pairs_length}
use Rattle.laws.specs.FileFields.{Fails, fails_passes, fails_tree, tree_fails}
use Rattle.laws.specs.FileLists.{over_front, valid_length as file_length}
use Rattle.laws.specs.OrderLaws.{valid_length}
use Rattle.laws.specs.Theorem.{listing_runs}
use Rattle.laws.specs.GreedyLaws.{greedy_valid}
use Rattle.laws.specs.BisectionLaws.{bisection_valid}
use Rattle.laws.specs.ImprovedValid.{keeps_valid}
use Rattle.laws.specs.SliceCallLaws.{slices_right}

-- the tree at the front of a list of children passes the check, in any workspace that is long enough
abbrev pub PassesCheck : Network → List ℕ → Type 0
PassesCheck N kids = (words : ℕ) → plain_words ≤ words → valid_call N words (take (tree_places N) kids) ≡ Ok tt

-- pricing's listing of a tree runs to the direct sum, over tables of any commutative semiring
abbrev pub RunsSound : Network → (ℕ → Bool) → List Pair → Type 1
RunsSound N flag a = (R : Semiring) (cells : ℕ → List ℕ → R.Car) → RunsToDirectSum R N cells flag a (listing N flag a)

-- the flags at the front of a list, one an index
abbrev pub front_flags : Network → List ℕ → ℕ → Bool
front_flags N l = flag_at (take (index_count N) l)

pub record SoundPlans : Type 1 where
  -- `tree` and `kids` are the lists as they were lent, and what the calls leave in them is given by the definitions that the promises name
  pub greedy_checked : (N : Network) (words : ℕ) (tree : List ℕ) (a : List Pair) → greedy_call N words (length tree) ≡ Ok a
      → PassesCheck N (greedy_tree (greedy_call N words (length tree)) tree)
  pub bisection_checked : (N : Network) (i cutoff : ℕ) (draws : List ℕ) (words : ℕ) (tree : List ℕ) (b : Bisected)
      → bisection_call N i cutoff draws words (length tree) ≡ Ok b
      → PassesCheck N (bisected_tree (bisection_call N i cutoff draws words (length tree)) tree)
  pub improvement_checked : (N : Network) (k passes : ℕ) (limit : Option ℕ) (words : ℕ) (flags kids : List ℕ) (d : Improved)
      → improve_call N k passes limit words flags kids ≡ Ok d
      → PassesCheck N (improved_tree (improve_call N k passes limit words flags kids) kids)
  pub slicing_checked : (N : Network) (improving : Bool) (target words : ℕ) (flags kids : List ℕ) (p : Plan)
      → slice_call N improving target words (length flags) kids ≡ Ok p
      → PassesCheck N (sliced_tree (slice_call N improving target words (length flags) kids) kids)
  -- the flags that slicing hands back are of named non-outputs, and its tree under them runs to the direct sum
  pub slicing_runs : (N : Network) (improving : Bool) (target words : ℕ) (flags kids : List ℕ) (p : Plan)
      → slice_call N improving target words (length flags) kids ≡ Ok p
      → Sliceable N (front_flags N (sliced_flags N (slice_call N improving target words (length flags) kids) flags))
      × (2 ≤ leaf_count N
      → RunsSound N (front_flags N (sliced_flags N (slice_call N improving target words (length flags) kids) flags))
      (pairs_of (take (tree_places N) (sliced_tree (slice_call N improving target words (length flags) kids) kids))))
  -- every tree that the check passes, with any named non-outputs sliced
  pub checked_runs : (N : Network) → 2 ≤ leaf_count N → (words : ℕ) (kids : List ℕ) → valid_call N words kids ≡ Ok tt
      → (flag : ℕ → Bool) → Sliceable N flag → RunsSound N flag (pairs_of kids)
  -- and what pricing hands out is that listing
  pub priced_runs : (N : Network) → 2 ≤ leaf_count N → (words : ℕ) (room : PriceRoom) (flags kids : List ℕ) (p : Prices)
      → price_call N words room flags kids ≡ Ok p → Sliceable N (flag_at flags)
      → RunsSound N (flag_at flags) (pairs_of kids)
      × ((steps : List ℕ) → priced_steps N flags kids (price_call N words room flags kids) steps ≡ over steps (flat_steps (listing N (flag_at flags) (pairs_of kids))))

-- ---- proof ----

-- a network that a call takes is accepted, whatever count of its own the call has
network_fails : (large : Bool) (N : Network) → Fails (network_checks large N) → Fails (network_checks false N)
network_fails large N h = ((or_none large _ h.0).1, h.1)

-- a valid tree over the front of a list that has room for it
module _ (N : Network) (large : Bool) (network : Fails (network_checks large N)) (a : List Pair) (v : valid (leaf_count N) a ≡ true) where
  places : length (flat_of a) ≡ tree_places N
  places =
      let e : length a ≡ length (flat_of a) / 2 = subst (λ (b : List Pair). length b ≡ length (flat_of a) / 2) (pairs_flat a) (pairs_length (flat_of a)) in
      omega (arith, e, flat_even a, valid_length (leaf_count N) a v)

  front_passes : (l : List ℕ) → tree_places N ≤ length l → PassesCheck N (over l (flat_of a))
  unfolding valid_call
  front_passes l h words w =
      let t : take (tree_places N) (over l (flat_of a)) ≡ flat_of a =
      ap (take (tree_places N)) (over_front l (flat_of a) (omega (arith, places))) ∙ take_at (flat_of a) (drop (length (flat_of a)) l) (tree_places N) places in
      let fine : Fails (valid_checks N words (flat_of a)) =
      all_append (λ c. c.holds ≡ false) (network_checks false N) (length_check (lent words plain_words ∷ []) ∷ tree_check N (flat_of a) ∷ [])
      (network_fails large N network) (rw (le-ltb words plain_words w) refl, tree_fails N (flat_of a) (flat_even a, rw (pairs_flat a) v)) in
      subst (λ (k : List ℕ). valid_call N words k ≡ Ok tt) (sym t) (checked_none (valid_checks N words (flat_of a)) (Ok tt) fine)

-- what a call that answers has met: no condition on the network holds, and none of its own
answered : {A : Type 0} (large : Bool) (N : Network) (own : List Check) (r : Result A Refusal) (y : A) → checked (network_checks large N ++ own) r ≡ Ok y
    → Fails (network_checks large N) × Fails own × (r ≡ Ok y)
answered large N own r y e =
    let (cs, same) = checked_done (network_checks large N ++ own) r y e in
    let (ns, rest) = all_parts (λ c. c.holds ≡ false) (network_checks large N) own cs in
    (ns, rest, same)

-- a list that has the places which are stated for it, beside a workspace
has_room : (words stated places needs : ℕ) → (length_check (lent words stated ∷ lent places needs ∷ [])).holds ≡ false → needs ≤ places
has_room words stated places needs e =
    ltb-false places needs (or_none (ltb places needs) false (or_none (ltb words stated) (ltb places needs || false) e).1).0

greedy_checked : (N : Network) (words : ℕ) (tree : List ℕ) (a : List Pair) → greedy_call N words (length tree) ≡ Ok a
    → PassesCheck N (greedy_tree (greedy_call N words (length tree)) tree)
unfolding greedy_call
greedy_checked N words tree a e =
    let (ns, own, r) = answered false N (length_check (lent words plain_words ∷ lent (length tree) (tree_places N) ∷ []) ∷ []) (greedy N) a e in
    subst (λ (x : Result (List Pair) Refusal). PassesCheck N (greedy_tree x tree)) (sym e)
    (front_passes N false ns a (greedy_valid N a r) tree (has_room words plain_words (length tree) (tree_places N) own.0))

bisection_checked : (N : Network) (i cutoff : ℕ) (draws : List ℕ) (words : ℕ) (tree : List ℕ) (b : Bisected)
    → bisection_call N i cutoff draws words (length tree) ≡ Ok b
    → PassesCheck N (bisected_tree (bisection_call N i cutoff draws words (length tree)) tree)
unfolding bisection_call
bisection_checked N i cutoff draws words tree b e =
    let (ns, own, r) =
    answered (ltb 1000 i) N (length_check (lent words bisection_words ∷ lent (length tree) (tree_places N) ∷ []) ∷ []) (bisection N i cutoff draws) b e in
    subst (λ (x : Result Bisected Refusal). PassesCheck N (bisected_tree x tree)) (sym e)
    (front_passes N (ltb 1000 i) ns b.pairs (bisection_valid N i cutoff draws b r) tree (has_room words bisection_words (length tree) (tree_places N) own.0))

-- a tree that is handed in fills its list
stands : (N : Network) (kids : List ℕ) → Fails (tree_check N kids ∷ []) → tree_places N ≤ length kids
stands N kids h = let (even, v) = fails_tree N kids h in omega (arith, file_length (leaf_count N) kids even v)

improvement_checked : (N : Network) (k passes : ℕ) (limit : Option ℕ) (words : ℕ) (flags kids : List ℕ) (d : Improved)
    → improve_call N k passes limit words flags kids ≡ Ok d
    → PassesCheck N (improved_tree (improve_call N k passes limit words flags kids) kids)
unfolding improve_call
improvement_checked N k passes limit words flags kids d e =
    let new : Improved = improve N k passes limit (flag_at flags) (pairs_of kids) in
    let (ns, own, r) =
    answered (ltb 255 passes) N
    (length_check (lent words (improve_words k) ∷ []) ∷ tree_check N kids ∷ flags_check N flags ∷ beyond_check N (flag_at flags) (pairs_of kids) ∷ dangling_check N ∷ [])
    (Ok new) d e in
    let v : valid (leaf_count N) (pairs_of kids) ≡ true = (fails_tree N kids (own.1.0, tt)).1 in
    let w : valid (leaf_count N) d.tree ≡ true =
    subst (λ (x : Improved). valid (leaf_count N) x.tree ≡ true) (done_same new d r) (keeps_valid N k passes limit (flag_at flags) (pairs_of kids) v) in
    subst (λ (x : Result Improved Refusal). PassesCheck N (improved_tree x kids)) (sym e)
    (front_passes N (ltb 255 passes) ns d.tree w kids (stands N kids (own.1.0, tt)))

slicing_checked : (N : Network) (improving : Bool) (target words : ℕ) (flags kids : List ℕ) (p : Plan)
    → slice_call N improving target words (length flags) kids ≡ Ok p
    → PassesCheck N (sliced_tree (slice_call N improving target words (length flags) kids) kids)
unfolding slice_call
slicing_checked N improving target words flags kids p e =
    let (ns, own, _) =
    answered false N
    (length_check (lent words (slice_words improving) ∷ lent (length flags) (index_count N) ∷ [])
    ∷ tree_check N kids
    ∷ beyond_check N (λ j. false) (pairs_of kids)
    ∷ dangling_if N improving)
    (Ok (slice N target (follow_up N improving) (pairs_of kids))) p e in
    subst (λ (x : Result Plan Refusal). PassesCheck N (sliced_tree x kids)) (sym e)
    (front_passes N false ns p.tree (slices_right N improving target words flags kids p e).is_valid kids (stands N kids (own.1.0, tt)))

-- the run, of a network and a tree that are checked
module _ (N : Network) (two : 2 ≤ leaf_count N) (kids : List ℕ) (flag : ℕ → Bool) (fine : Sliceable N flag) where
  runs_checked : Fails (network_checks false N) → Fails (tree_check N kids ∷ []) → RunsSound N flag (pairs_of kids)
  runs_checked ns h R cells =
      listing_runs R N cells flag (pairs_of kids)
      (record {
        two = two;
        in_range = ((accepted_means N).0 (fails_passes (network_checks false N) ns)).in_range;
        is_valid = (fails_tree N kids h).1;
        sliceable = fine;
      })

checked_runs : (N : Network) → 2 ≤ leaf_count N → (words : ℕ) (kids : List ℕ) → valid_call N words kids ≡ Ok tt
    → (flag : ℕ → Bool) → Sliceable N flag → RunsSound N flag (pairs_of kids)
unfolding valid_call
checked_runs N two words kids e flag fine =
    let (ns, own, _) = answered false N (length_check (lent words plain_words ∷ []) ∷ tree_check N kids ∷ []) (Ok tt) tt e in
    runs_checked N two kids flag fine ns own.1

-- flags that slicing wrote over the front of a list, read from there
front_sliceable : (N : Network) (improving : Bool) (target : ℕ) (flags kids : List ℕ) (p : Plan) → SliceRight N improving target flags kids p
    → Sliceable N (front_flags N (sliced_flags N (Ok p) flags))
front_sliceable N improving target flags kids p right j e =
    let out : List ℕ = sliced_flags N (Ok p) flags in
    by_cases (ltb j (index_count N))
    (λ h. let b : j < index_count N = ltb-true j (index_count N) h in
    right.sliceable j (sym (right.flags_out.test j b) ∙ ap (λ (x : ℕ). not (eqb x 0)) (sym (get_or-take (index_count N) out j 0 b)) ∙ e))
    (λ h. let past : get_or (take (index_count N) out) j 0 ≡ 0 =
    get_or-eq_default (take (index_count N) out) 0 (simp length-take (omega (arith, ltb-false j (index_count N) h))) in
    clash (sym (ap (λ (x : ℕ). not (eqb x 0)) past) ∙ e) refl)

slicing_runs : (N : Network) (improving : Bool) (target words : ℕ) (flags kids : List ℕ) (p : Plan)
    → slice_call N improving target words (length flags) kids ≡ Ok p
    → Sliceable N (front_flags N (sliced_flags N (slice_call N improving target words (length flags) kids) flags))
    × (2 ≤ leaf_count N
    → RunsSound N (front_flags N (sliced_flags N (slice_call N improving target words (length flags) kids) flags))
    (pairs_of (take (tree_places N) (sliced_tree (slice_call N improving target words (length flags) kids) kids))))
slicing_runs N improving target words flags kids p e =
    let fine : Sliceable N (front_flags N (sliced_flags N (slice_call N improving target words (length flags) kids) flags)) =
    subst (λ (x : Result Plan Refusal). Sliceable N (front_flags N (sliced_flags N x flags))) (sym e)
    (front_sliceable N improving target flags kids p (slices_right N improving target words flags kids p e)) in (
      fine,
      λ two. checked_runs N two plain_words (take (tree_places N) (sliced_tree (slice_call N improving target words (length flags) kids) kids))
          (slicing_checked N improving target words flags kids p e plain_words (omega arith)) _ fine,
    )

priced_runs : (N : Network) → 2 ≤ leaf_count N → (words : ℕ) (room : PriceRoom) (flags kids : List ℕ) (p : Prices)
    → price_call N words room flags kids ≡ Ok p → Sliceable N (flag_at flags)
    → RunsSound N (flag_at flags) (pairs_of kids)
    × ((steps : List ℕ) → priced_steps N flags kids (price_call N words room flags kids) steps ≡ over steps (flat_steps (listing N (flag_at flags) (pairs_of kids))))
unfolding price_call
priced_runs N two words room flags kids p e fine =
    let (cs, _) = checked_done (price_checks N words room flags kids) (Ok (price_of N (flag_at flags) (pairs_of kids))) p e in
    let (ns, own) =
    all_parts (λ c. c.holds ≡ false) (network_checks false N)
    (length_check
    (lent words plain_words
    ∷ lent room.sets (node_places N * set_words)
    ∷ lent room.sizes (node_places N)
    ∷ lent room.works (node_places N)
    ∷ lent room.steps (step_places N * step_numbers)
    ∷ [])
    ∷ tree_check N kids
    ∷ flags_check N flags
    ∷ [])
    cs in
    (runs_checked N two kids (flag_at flags) fine ns (own.1.0, tt), λ steps. ap (λ (x : Result Prices Refusal). priced_steps N flags kids x steps) e)

pub sound_plans : SoundPlans
sound_plans =
    record {
      greedy_checked = greedy_checked;
      bisection_checked = bisection_checked;
      improvement_checked = improvement_checked;
      slicing_checked = slicing_checked;
      slicing_runs = slicing_runs;
      checked_runs = checked_runs;
      priced_runs = priced_runs;
    }
