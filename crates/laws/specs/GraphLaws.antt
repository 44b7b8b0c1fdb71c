-- LAW B10: the hypergraphs that bisection comes to are lawful. Assumes nothing.
use Rattle.std.specs.Prelude.{◌≡◌, refl, Bool, true, false, cond, List, [], ◌∷◌, map, ℕ, zero, suc, ◌+◌, ◌*◌, ◌≤◌, ◌<◌, leb, Float, get_or, None, Some}
use Rattle.std.proofs.Common.{sym, ◌∙◌, arith, leb-true}
use Rattle.std.proofs.Math.Path.{ap, subst}
use mathlib.Mathlib.Data.Bool.Basic.{eq-false_of_not-eq-true}
use Rattle.std.proofs.lemmas.Option.{same_Some, none-some}
use Rattle.std.specs.Float.{binary64}
use Rattle.std.specs.Float.Ieee.{mul, lt}
use Rattle.std.proofs.Math.ListN.{length}
use Rattle.std.proofs.lemmas.List.{length-map}
use Rattle.spec.specs.Lists.{memb, keep, sum_of, from, range}
use Rattle.spec.specs.Members.{All}
use Rattle.spec.specs.Floats.{decimal, whole_float}
use Rattle.spec.specs.Network.{Network, index_count, weight, legs, max_weight, repeats, accepted}
use Rattle.spec.specs.Draws.{Words}
use Rattle.spec.specs.Hypergraph.{Hypergraph, vertex_count, nets≥2, nets_over, ones, hypergraph_of}
use Rattle.spec.specs.Coarsen.{Level, is_lower, coarse_of, coarse_weight, coarse_net, level_of, matching, coarsen}
use Rattle.spec.specs.FmClaims.{WholeNet, as_net}
use Rattle.spec.specs.GraphClaims.{Pinned, Lawful, LeavesLawful, LevelLawful, CoarserLawful, leaves, coarser, ReachedLawful}
use Rattle.laws.specs.Accepted.{accepted_means}
use Rattle.laws.specs.Booleans.{by_cases, and_right}
use Rattle.laws.specs.MemberLaws.{all_intro, in_memb}
use Rattle.laws.specs.ListLaws.{memb-keep, from_memb, from_above, range_length, sum_map, sum_bound}
use Rattle.laws.specs.KeyNumbers.{kept_less}

-- ---- pins: the numbers of a stretch that pass a test ----

once_kept : (p : ℕ → Bool) (k n : ℕ) → repeats (keep p (from k n)) ≡ false
once_kept p k zero = refl
once_kept p k (suc n) =
    by_cases (p k)
    (λ e. rw (e, above) (once_kept p (suc k) n))
    (λ e. rw e (once_kept p (suc k) n))
  where
    above : memb k (keep p (from (suc k) n)) ≡ false
    above =
        eq-false_of_not-eq-true (λ m.
        let h : suc k ≤ k = from_above k (suc k) n (and_right (p k) (memb k (from (suc k) n)) (sym (memb-keep k p (from (suc k) n)) ∙ m)) in
        omega arith)

below_kept : (p : ℕ → Bool) (n : ℕ) → All (λ u. u < n) (keep p (range n))
below_kept p n =
    all_intro (λ u. u < n) (keep p (range n)) (λ u i.
    let h : u < 0 + n = from_memb u 0 n (and_right (p u) (memb u (range n)) (sym (memb-keep u p (range n)) ∙ in_memb u (keep p (range n)) i)) in
    omega arith)

-- ---- nets ----

-- a net whose pins are the vertices, of n, that pass a test
abbrev tested : ℕ → (ℕ → Bool) → ℕ → WholeNet
tested n p bits = record { pins = keep p (range n); bits = bits }

abbrev wide : WholeNet → Bool
wide e = leb 2 (length e.pins)

module _ {A : Type 0} (n : ℕ) (test : A → ℕ → Bool) (bits : A → ℕ) where
  -- such nets, those of two pins or more
  abbrev nets : List A → List WholeNet
  nets l = keep wide (map (λ x. tested n (test x) (bits x)) l)

  nets_pinned : (l : List A) → All (Pinned n) (nets l)
  nets_pinned [] = tt
  nets_pinned (x ∷ l) =
      by_cases (wide (tested n (test x) (bits x)))
      (λ e. rw e (
        record { two = leb-true 2 (length (keep (test x) (range n))) e; once = once_kept (test x) 0 n; below = below_kept (test x) n },
        nets_pinned l,
      ))
      (λ e. rw e (nets_pinned l))

  nets_few : (l : List A) → sum_of (λ e. e.bits) (nets l) ≤ sum_of bits l
  nets_few l =
      omega (
        arith,
        kept_less (λ e. e.bits) wide (map (λ x. tested n (test x) (bits x)) l),
        sum_map (λ (e : WholeNet). e.bits) (λ x. tested n (test x) (bits x)) l,
      )

wide_nets : (l : List WholeNet) → nets≥2 (map as_net l) ≡ map as_net (keep wide l)
wide_nets [] = refl
wide_nets (e ∷ l) = by_cases (wide e) (λ q. rw q (ap (λ t. as_net e ∷ t) (wide_nets l))) (λ q. rw q (wide_nets l))

-- ---- the hypergraph of some leaves ----

ones_length : (l : List ℕ) → length (ones l) ≡ length l
ones_length [] = refl
ones_length (x ∷ l) = ap suc (ones_length l)

module _ (N : Network) (ls : List ℕ) where
  abbrev test : ℕ → ℕ → Bool
  test j v = memb j (legs N (get_or ls v 0))

  over : (js : List ℕ) → nets_over N ls js ≡ map as_net (map (λ j. tested (length ls) (test j) (weight N j)) js)
  over [] = refl
  over (j ∷ js) = ap (λ t. as_net (tested (length ls) (test j) (weight N j)) ∷ t) (over js)

  pub leaves_lawful_of : accepted N ≡ true → Lawful (hypergraph_of N ls)
  unfolding hypergraph_of
  leaves_lawful_of a =
      let m = index_count N in
      let A = (accepted_means N).0 a in
      let most : sum_of (weight N) (range m) ≤ length (range m) * max_weight = sum_bound (weight N) max_weight (range m) A.weights_fit in
      let long : length (range m) ≡ m = range_length 0 m in
      record {
        whole = nets (length ls) test (weight N) (range m);
        same = ap nets≥2 (over (range m)) ∙ wide_nets (map (λ j. tested (length ls) (test j) (weight N j)) (range m));
        pinned = subst (λ n. All (Pinned n) (nets (length ls) test (weight N) (range m))) (sym (ones_length ls)) (nets_pinned (length ls) test (weight N) (range m));
        few = omega (arith, nets_few (length ls) test (weight N) (range m), most, long, A.few_indices);
      }

pub leaves_lawful : LeavesLawful
leaves_lawful N a ls = leaves_lawful_of N ls a

-- ---- a coarser one ----

module _ (G : Hypergraph) (maxw : Float) (mates : List ℕ) (h : Lawful G) where
  abbrev c : ℕ → ℕ
  c = coarse_of G maxw mates

  abbrev lower : List ℕ
  lower = keep (is_lower G maxw mates) (range (vertex_count G))

  abbrev meets : WholeNet → ℕ → Bool
  meets e x = memb x (map c e.pins)

  joined : (m : ℕ) (l : List WholeNet) → map (coarse_net G maxw c m) (map as_net l) ≡ map as_net (map (λ e. tested m (meets e) e.bits) l)
  joined m [] = refl
  joined m (e ∷ l) = ap (λ t. as_net (tested m (meets e) e.bits) ∷ t) (joined m l)

  pub level_lawful_of : Lawful (level_of G maxw mates).graph
  level_lawful_of =
      let m = length lower in
      record {
        whole = nets m meets (λ e. e.bits) h.whole;
        same = ap (λ l. nets≥2 (map (coarse_net G maxw c m) l)) h.same ∙ ap nets≥2 (joined m h.whole)
            ∙ wide_nets (map (λ e. tested m (meets e) e.bits) h.whole);
        pinned = subst (λ n. All (Pinned n) (nets m meets (λ e. e.bits) h.whole)) (sym (length-map lower (coarse_weight G maxw mates)))
            (nets_pinned m meets (λ e. e.bits) h.whole);
        few = omega (arith, nets_few m meets (λ e. e.bits) h.whole, h.few);
      }

pub level_lawful : LevelLawful
level_lawful = level_lawful_of

-- a level that coarsening answers is one of a matching
pub level_from : (G : Hypergraph) (maxw : Float) (ws : Words) (l : Level) → (coarsen G maxw ws).value ≡ Some l → level_of G maxw (matching G maxw ws).value ≡ l
unfolding coarsen
level_from G maxw ws l e = kept (lt (mul binary64 (decimal 95 100) (whole_float (vertex_count G))) (whole_float (vertex_count here.graph))) e
  where
    here : Level
    here = level_of G maxw (matching G maxw ws).value

    kept : (b : Bool) → cond b None (Some here) ≡ Some l → here ≡ l
    kept true q = absurd (none-some _ q)
    kept false q = same_Some _ _ q

pub coarser_lawful : CoarserLawful
coarser_lawful G maxw ws l h e = subst (λ x. Lawful x.graph) (level_from G maxw ws l e) (level_lawful G maxw (matching G maxw ws).value h)

pub reached_lawful : ReachedLawful
reached_lawful N a _ (leaves ls) = leaves_lawful N a ls
reached_lawful N a _ (coarser G maxw ws l r e) = coarser_lawful G maxw ws l (reached_lawful N a G r) e
