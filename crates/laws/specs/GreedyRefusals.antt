-- LAW G5: greedy refuses only by 12, and just if it comes to a state with a pair that is too wide. It is LAW G7 over all leaves, onto the empty
-- array. Assumes nothing.
use Rattle.std.specs.Prelude.{◌≡◌, ℕ, length, Result, Err, Ok}
use Rattle.std.proofs.Common.{sym, ◌∙◌}
use Rattle.std.proofs.Math.Path.{ap}
use mathlib.Core.List.{List, []}
use Rattle.spec.specs.Lists.{range}
use Rattle.spec.specs.Network.{Network, leaf_count}
use Rattle.spec.specs.Tree.{Tree}
use Rattle.spec.specs.declared.Refusal.{Refusal}
use Rattle.spec.specs.Greedy.{any_wide, State, Built, sharing_pairs, leaves_of, greedy_from, array_of, greedy}
use Rattle.spec.specs.GreedyClaims.{pairs_in, Reached, begin, then, Refuses}
use Rattle.spec.specs.EndClaims.{pairs_after, ReachedFrom, begin_from, then_from}
use Rattle.laws.specs.Results.{not_done, refused_same}
use Rattle.laws.specs.GreedyForest.{leaves_length}
use Rattle.laws.specs.GreedyFrom.{refuses_from}

module _ (N : Network) where
  abbrev start : List Tree
  start = leaves_of (range (leaf_count N))

  -- the pairs of a state, and the states that are reached, are the same
  same_pairs : (s : State) → pairs_after N (length start) s ≡ pairs_in N s
  same_pairs s = ap (λ n. sharing_pairs N n s.live) (leaves_length (leaf_count N))

  to_from : (k : ℕ) (s : State) → Reached N k s → ReachedFrom N [] start k s
  to_from k s begin = begin_from
  to_from k s (then {k = k'} {s = s'} c l r e w) = then_from c l (to_from k' s' r) (same_pairs s' ∙ e) w

  of_from : (k : ℕ) (s : State) → ReachedFrom N [] start k s → Reached N k s
  of_from k s begin_from = begin
  of_from k s (then_from {k = k'} {s = s'} c l r e w) = then c l (of_from k' s' r) (sym (same_pairs s') ∙ e) w

  array_refused : (x : Result Built Refusal) (r : Refusal) → array_of x ≡ Err r → x ≡ Err r
  array_refused (Err k) r e = ap Err (refused_same k r e)
  array_refused (Ok b) r e = not_done r _ (sym e)

  from_greedy : (r : Refusal) → greedy N ≡ Err r → greedy_from N [] start ≡ Err r
  unfolding greedy
  from_greedy r e = array_refused (greedy_from N [] start) r e

  to_greedy : (r : Refusal) → greedy_from N [] start ≡ Err r → greedy N ≡ Err r
  unfolding greedy
  to_greedy r e = ap array_of e

pub greedy_refuses : Refuses
greedy_refuses N =
    let f = refuses_from N [] (start N) in
    record {
      only = λ r e. f.only r (from_greedy N r e);
      because = λ r e. let (k, s, g, w) = f.because r (from_greedy N r e) in (k, s, of_from N k s g, ap (any_wide N) (sym (same_pairs N s)) ∙ w);
      whenever = λ k s h w. to_greedy N _ (f.whenever k s (to_from N k s h) (ap (any_wide N) (same_pairs N s) ∙ w));
    }
