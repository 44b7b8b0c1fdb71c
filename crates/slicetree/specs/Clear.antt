-- Slicing from clear flags, and the tree and the flags that go out. Assumes nothing.
use Rattle.std.specs.Prelude.{Bool, false, cond, ◌≡◌, List, map, ℕ, ◌-◌, ◌≤◌, ◌<◌, length, get_or, take}
use Rattle.std.proofs.Math.Path.{sym, ap, fun_ext}
use Rattle.std.proofs.Common.{◌∙◌, arith, ext_get_or, length-take-le, get_or-take, eq-eqb}
use Rattle.spec.specs.Lists.{range}
use Rattle.spec.specs.Memory.{over, copied}
use Rattle.spec.specs.Network.{Network, index_count}
use Rattle.spec.specs.Tree.{pairs_of, flat_of}
use Rattle.spec.specs.Price.{listing, work}
use Rattle.spec.specs.Calls.{flag_at, wrong_tree, total_is_beyond, follow_up}
use Rattle.spec.specs.Slicing.{Plan, slice_loop, slice}
use Rattle.laws.specs.SliceCallLaws.{byte_back}
use Rattle.laws.specs.LayoutLaws.{map_range_at, map_range_length}
use Rattle.slicing.specs.Promise.{plan_with}
use Rattle.slicing.specs.Turns.{Within}
use Rattle.reconfigure.specs.Improves.{flat_pairs, tree_length}
use Rattle.slicetree.specs.Once.{exact_below}
use Rattle.slicetree.specs.Choices.{Stands}
use Rattle.cells.specs.Cells.{over_all}

-- a list of one flag an index
abbrev pub flags_for : Network → Plan → List ℕ
flags_for N p = map (λ j. cond (p.flag j) 1 0) (range (index_count N))

-- the plan that slicing answers
abbrev pub plan_of : Network → Bool → ℕ → List ℕ → Plan
plan_of N improving target kids = slice N target (follow_up N improving) (pairs_of kids)

-- tree, flags and counts are that plan's
pub record SlicedTo (N : Network) (improving : Bool) (target : ℕ) (kids₀ flags₀ kids flags : List ℕ) (rebuilt tried : ℕ) : Type 0 where
  pub tree : kids ≡ over kids₀ (flat_of (plan_of N improving target kids₀).tree)
  pub flags_are : flags ≡ over flags₀ (flags_for N (plan_of N improving target kids₀))
  pub is_rebuilt : rebuilt ≡ (plan_of N improving target kids₀).rebuilt
  pub is_tried : tried ≡ (plan_of N improving target kids₀).tried

-- ---- clear flags ----

clear_flags : (flags : List ℕ) → ((j : ℕ) → get_or flags j 0 ≡ 0) → flag_at flags ≡ λ j. false
clear_flags flags z = fun_ext λ j. rw (eq-eqb (get_or flags j 0) 0 (z j))

pub within_clear : (N : Network) (m : ℕ) (kids zeros : List ℕ) → ((j : ℕ) → get_or zeros j 0 ≡ 0) → index_count N ≡ m → m ≤ length zeros
    → total_is_beyond N (λ j. false) (pairs_of kids) ≡ false → Within N kids zeros
within_clear N m kids zeros z q h b =
    record {
      places = omega (arith, q);
      total = exact_below (work (listing N (flag_at zeros) (pairs_of kids))) (ap (λ g. total_is_beyond N g (pairs_of kids)) (clear_flags zeros z) ∙ b);
      bytes = λ j. omega (arith, z j);
    }

pub stands_clear : (N : Network) (n m : ℕ) (kids zeros : List ℕ) → ((j : ℕ) → get_or zeros j 0 ≡ 0) → index_count N ≡ m → m ≤ length zeros
    → total_is_beyond N (λ j. false) (pairs_of kids) ≡ false → wrong_tree n kids ≡ false → Stands N n kids zeros
stands_clear N n m kids zeros z q h b right = record { right = right; within = within_clear N m kids zeros z q h b }

-- ---- the flags go out ----

bytes_are : (N : Network) (flags : List ℕ) (m : ℕ) → index_count N ≡ m → m ≤ length flags → ((j : ℕ) → get_or flags j 0 ≤ 1)
    → take m flags ≡ map (λ j. cond (flag_at flags j) 1 0) (range (index_count N))
bytes_are N flags m e h b =
    ext_get_or 0 (take m flags) (map (λ j. cond (flag_at flags j) 1 0) (range (index_count N)))
    (length-take-le m flags h ∙ sym e ∙ sym (map_range_length (λ j. cond (flag_at flags j) 1 0) (index_count N)))
    (λ i q. let l : i < m = omega (arith, length-take-le m flags h) in
    get_or-take m flags i 0 l ∙ byte_back (get_or flags i 0) (b i)
    ∙ sym (map_range_at (λ j. cond (flag_at flags j) 1 0) 0 (index_count N) i (omega arith)))

-- slicing from clear flags has ended: its tree and its flags make the plan, and the flags are copied out
module _ (N : Network) (improving : Bool) (n m target : ℕ) (kids₀ zeros : List ℕ) (z : (j : ℕ) → get_or zeros j 0 ≡ 0) (q : index_count N ≡ m)
    (right : wrong_tree n kids₀ ≡ false) (kids sliced : List ℕ) {rebuilt tried : ℕ} (long : length kids ≡ length kids₀)
    (e : plan_with sliced kids rebuilt tried ≡ slice_loop N target (follow_up N improving) m (plan_with zeros kids₀ 0 0)) where
  plan_is : plan_with sliced kids rebuilt tried ≡ plan_of N improving target kids₀
  unfolding slice
  plan_is =
      e
      ∙ ap (λ (x : ℕ). slice_loop N target (follow_up N improving) x (plan_with zeros kids₀ 0 0)) (sym q)
      ∙ ap (λ h. slice_loop N target (follow_up N improving) (index_count N) (record { tree = pairs_of kids₀; flag = h; rebuilt = 0; tried = 0 })) (clear_flags zeros z)

  pub sliced_to : (out new : List ℕ) → m ≤ length sliced → ((j : ℕ) → get_or sliced j 0 ≤ 1) → new ≡ copied out sliced m
      → SlicedTo N improving target kids₀ out kids new rebuilt tried
  unfolding copied
  sliced_to out new h b c =
      let flat : over kids₀ (flat_of (pairs_of kids)) ≡ kids =
      ap (over kids₀) (flat_pairs (n - 1) kids (long ∙ tree_length n kids₀ right)) ∙ over_all kids₀ kids long in
      record {
        tree = sym flat ∙ ap (λ (p : Plan). over kids₀ (flat_of p.tree)) plan_is;
        flags_are = c ∙ ap (over out) (bytes_are N sliced m q h b ∙ ap (flags_for N) plan_is);
        is_rebuilt = ap (λ (p : Plan). p.rebuilt) plan_is;
        is_tried = ap (λ (p : Plan). p.tried) plan_is;
      }
