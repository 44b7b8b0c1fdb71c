-- LAWS S7 and S8: what follows a choice keeps trees valid and raises no total; so what the call of slicing answers is right, with improvement
-- and without. Assumes nothing.
use Rattle.std.specs.Prelude.{◌≡◌, refl, Bool, true, false, not, ◌||◌, cond, List, [], ◌∷◌, ◌++◌, map, ℕ, zero, suc, ◌≤◌, ◌<◌, eqb, ltb, length, get_or, drop, Some, Ok}
use Rattle.std.proofs.Common.{sym, ap, ◌∙◌, subst, arith, drop_at, ltb-false}
use Rattle.std.proofs.Math.ListN.{get_or-append}
use Rattle.spec.specs.Lists.{range}
use Rattle.spec.specs.Network.{Network, leaf_count, index_count, InRange, Sliceable, network_checks}
use Rattle.spec.specs.Tree.{Pair, valid, pairs_of}
use Rattle.spec.specs.Price.{listing, work}
use Rattle.spec.specs.Refusal.{Check}
use Rattle.spec.specs.Slicing.{Plan, one_pass, as_is, slice}
use Rattle.spec.specs.SlicingClaims.{finished, Lowers, FollowUpsLower, FlagsOut, SlicesRight}
use Rattle.spec.specs.Calls.{lent, length_check, tree_check, beyond_check, dangling_if, slice_words, total_is_beyond, dangling, follow_up, slice_checks, slice_call, sliced_flags}
use Rattle.laws.specs.Booleans.{by_cases, clash, or_none}
use Rattle.laws.specs.MemberLaws.{all_parts}
use Rattle.laws.specs.Results.{done_same, checked_done}
use Rattle.laws.specs.Accepted.{accepted_means}
use Rattle.laws.specs.LayoutLaws.{map_range_at, map_range_length}
use Rattle.laws.specs.Value.{named_in_range}
use Rattle.laws.specs.Theorem.{listing_runs}
use Rattle.laws.specs.ImprovedValid.{keeps_valid}
use Rattle.laws.specs.ImprovedWork.{not_beyond, beyond_not, keeps_total}
use Rattle.laws.specs.FileFields.{Fails, fails_passes, fails_tree}
use Rattle.laws.specs.FileLists.{over_front}
use Rattle.laws.specs.SlicingLaws.{loop_keeps, sets_sliceable, stays_valid, finishes, slice_falls}

-- ---- what follows a choice ----

pub pass_lowers : (N : Network) → dangling N ≡ false → Lowers N (one_pass N)
pass_lowers N l =
    record {
      keeps_valid = λ f limit a h. keeps_valid N 8 1 (Some limit) f a h;
      lower = λ f limit a h b. omega (arith, keeps_total N 8 1 (Some limit) f a h (beyond_not (work (listing N f a)) b) l);
    }

pub as_is_lowers : (N : Network) → Lowers N as_is
as_is_lowers N = record { keeps_valid = λ f limit a h. h; lower = λ f limit a h b. omega arith }

-- LAW S7
pub follow_ups_lower : FollowUpsLower
follow_ups_lower N true h = pass_lowers N (h refl)
follow_ups_lower N false h = as_is_lowers N

-- without improvement only flags change
abbrev Stays : List Pair → Plan → Type 0
Stays a p = (p.tree ≡ a) × (p.rebuilt ≡ 0) × (p.tried ≡ 0)

tree_stays : (N : Network) (target : ℕ) (improving : Bool) (a : List Pair) → improving ≡ false → Stays a (slice N target (follow_up N improving) a)
unfolding slice
tree_stays N target true a e = clash refl e
tree_stays N target false a e =
    loop_keeps N target as_is (Stays a) (λ p i g c b. (g.0, omega (arith, g.1), omega (arith, g.2))) (index_count N)
    (record { tree = a; flag = λ j. false; rebuilt = 0; tried = 0 }) (refl, refl, refl)

-- ---- what an answer comes from ----

record SlicedBy (N : Network) (improving : Bool) (target : ℕ) (flags kids : List ℕ) (p : Plan) : Type 0 where
  network : Fails (network_checks false N)
  room : index_count N ≤ length flags
  is_valid : valid (leaf_count N) (pairs_of kids) ≡ true
  exact : total_is_beyond N (λ j. false) (pairs_of kids) ≡ false
  tied : improving ≡ true → dangling N ≡ false
  same : slice N target (follow_up N improving) (pairs_of kids) ≡ p

tied_if : (N : Network) (improving : Bool) → Fails (dangling_if N improving) → improving ≡ true → dangling N ≡ false
tied_if N true h e = h.0
tied_if N false h e = clash e refl

sliced_by : (N : Network) (improving : Bool) (target words : ℕ) (flags kids : List ℕ) (p : Plan)
    → slice_call N improving target words (length flags) kids ≡ Ok p → SlicedBy N improving target flags kids p
unfolding slice_call
sliced_by N improving target words flags kids p e =
    let new : Plan = slice N target (follow_up N improving) (pairs_of kids) in
    let own : List Check =
    length_check (lent words (slice_words improving) ∷ lent (length flags) (index_count N) ∷ [])
    ∷ tree_check N kids
    ∷ beyond_check N (λ j. false) (pairs_of kids)
    ∷ dangling_if N improving in
    let (cs, r) = checked_done (slice_checks N improving words (length flags) kids) (Ok new) p e in
    let (ns, rest) = all_parts (λ c. c.holds ≡ false) (network_checks false N) own cs in
    let (_, long) = or_none (ltb words (slice_words improving)) (ltb (length flags) (index_count N) || false) rest.0 in
    record {
      network = ns;
      room = ltb-false (length flags) (index_count N) (or_none (ltb (length flags) (index_count N)) false long).0;
      is_valid = (fails_tree N kids (rest.1.0, tt)).1;
      exact = rest.1.1.0;
      tied = tied_if N improving rest.1.1.1;
      same = done_same new p r;
    }

-- ---- the list of flags ----

-- a flag as a byte, and back
pub flag_back : (b : Bool) → not (eqb (cond b 1 0) 0) ≡ b
flag_back true = refl
flag_back false = refl

pub byte_back : (x : ℕ) → x ≤ 1 → x ≡ cond (not (eqb x 0)) 1 0
byte_back zero h = refl
byte_back (suc zero) h = refl
byte_back (suc (suc x)) h = absurd (omega arith)

flags_out : (N : Network) (p : Plan) (l : List ℕ) → index_count N ≤ length l → FlagsOut N p l (sliced_flags N (Ok p) l)
flags_out N p l h =
    let out : List ℕ = map (λ j. cond (p.flag j) 1 0) (range (index_count N)) in
    let n : length out ≡ index_count N = map_range_length (λ j. cond (p.flag j) 1 0) (index_count N) in
    let byte : (j : ℕ) → j < index_count N → get_or (out ++ drop (length out) l) j 0 ≡ cond (p.flag j) 1 0 =
    λ j b. get_or-append out (drop (length out) l) 0 j (omega (arith, n)) ∙ map_range_at (λ j. cond (p.flag j) 1 0) 0 (index_count N) j b in
    subst (FlagsOut N p l) (sym (over_front l out (omega (arith, n)))) (record {
      byte = byte;
      test = λ j b. ap (λ (x : ℕ). not (eqb x 0)) (byte j b) ∙ flag_back (p.flag j);
      past = drop_at out (drop (length out) l) (index_count N) n ∙ ap (λ (k : ℕ). drop k l) n;
    })

-- ---- LAW S8 ----

clear_past : (N : Network) → InRange N → (flag : ℕ → Bool) → Sliceable N flag → (j : ℕ) → index_count N ≤ j → flag j ≡ false
clear_past N in_range flag fine j h =
    by_cases (flag j) (λ e. absurd (omega (arith, named_in_range N in_range (λ i. true) j (fine j e).0))) (λ e. e)

pub slices_right : SlicesRight
slices_right N improving target words flags kids p answers =
    let by : SlicedBy N improving target flags kids p = sliced_by N improving target words flags kids p answers in
    let a : List Pair = pairs_of kids in
    let lowers : Lowers N (follow_up N improving) = follow_ups_lower N improving by.tied in
    let in_range : InRange N = ((accepted_means N).0 (fails_passes (network_checks false N) by.network)).in_range in
    let v : valid (leaf_count N) p.tree ≡ true =
    subst (λ (x : Plan). valid (leaf_count N) x.tree ≡ true) by.same (stays_valid N target (follow_up N improving) lowers.keeps_valid a by.is_valid) in
    let fine : Sliceable N p.flag = subst (λ (x : Plan). Sliceable N x.flag) by.same (sets_sliceable N target (follow_up N improving) a) in
    let less : work (listing N p.flag p.tree) ≤ work (listing N (λ j. false) a) =
    subst (λ (x : Plan). work (listing N x.flag x.tree) ≤ work (listing N (λ j. false) a)) by.same
    (slice_falls N target (follow_up N improving) lowers a by.is_valid (not_beyond _ by.exact)) in
    record {
      is_valid = v;
      sliceable = fine;
      clear_past = clear_past N in_range p.flag fine;
      flags_out = flags_out N p flags by.room;
      ended = subst (λ (x : Plan). finished N target x ≡ true) by.same (finishes N target (follow_up N improving) a);
      lower = less;
      exact = beyond_not (work (listing N p.flag p.tree)) (omega (arith, less, not_beyond (work (listing N (λ j. false) a)) by.exact));
      stays = λ e. subst (Stays a) by.same (tree_stays N target improving a e);
      runs = λ two R cells. listing_runs R N cells p.flag p.tree (record { two = two; in_range = in_range; is_valid = v; sliceable = fine });
    }
