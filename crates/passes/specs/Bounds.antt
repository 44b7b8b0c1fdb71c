-- How large the counts get: a visit rebuilds once at most and tries at most 3^12 splits. Assumes nothing.
use Rattle.std.specs.Prelude.{Bool, ◌||◌, List, [], ◌∷◌, ℕ, ◌-◌, ◌*◌, ◌^◌, ◌≤◌, length, Option, None, Some}
use Rattle.std.proofs.Common.{arith, div-le_self}
use Rattle.std.proofs.Math.Nat.{pow-le-pow_right}
use Rattle.std.proofs.Math.Dec.{ltb}
use Rattle.spec.specs.Network.{Network}
use Rattle.spec.specs.Tree.{Tree}
use Rattle.spec.specs.Undercut.{undercuts}
use Rattle.spec.specs.Improve.{Found, Front, frontier, locals, old_cost, searched, accept_best, reconf_node, subtree, visit_at, visit, visits}
use Rattle.spec.specs.ImproveClaims.{most_splits}
use Rattle.laws.specs.Booleans.{by_cases}
use Rattle.laws.specs.VisitSplits.{members_most, tried_most}
use Rattle.passes.specs.Made.{most_tried}

splits_bounded : (m : ℕ) → m ≤ 12 → most_splits m ≤ most_tried
unfolding most_splits
splits_bounded m h =
    let p : 3 ^ m ≤ 531441 = pow-le-pow_right {n = 3} (omega arith) h in
    omega (arith, div-le_self (3 ^ m - 1) 2)

module _ (N : Network) (flag : ℕ → Bool) (limit : Option ℕ) (t : Tree) (fr : Front) where
  settled_once : (q : Option Found) → (accept_best N flag limit t fr q).rebuilt ≤ 1
  settled_once None = omega arith
  settled_once (Some f) =
      by_cases (undercuts f.cost (old_cost N flag fr.opened)) (λ z. rw z (omega arith)) (λ z. rw z (omega arith))

  rebuilt_once : (reconf_node N flag limit t fr).rebuilt ≤ 1
  unfolding reconf_node
  rebuilt_once =
      by_cases (ltb (length fr.members) 3 || ltb 128 (locals N flag fr.members))
      (λ z. rw z (omega arith))
      (λ z. rw z (settled_once (searched N flag limit t fr)))

module _ (N : Network) (flag : ℕ → Bool) (k : ℕ) (limit : Option ℕ) (low : 1 ≤ k) (high : k ≤ 12) where
  at_rebuilt : (v : ℕ) (t : Tree) (x : Option Tree) → (visit_at N flag k limit v t x).rebuilt ≤ 1
  at_rebuilt v t None = omega arith
  at_rebuilt v t (Some s) = rebuilt_once N flag limit s (frontier N flag k s)

  at_tried : (v : ℕ) (t : Tree) (x : Option Tree) → (visit_at N flag k limit v t x).tried ≤ most_tried
  at_tried v t None = omega arith
  at_tried v t (Some s) =
      omega (
        arith,
        tried_most N flag limit s (frontier N flag k s),
        splits_bounded (length (frontier N flag k s).members) (omega (arith, members_most N flag k s low)),
      )

  pub visit_rebuilt : (v : ℕ) (t : Tree) → (visit N flag k limit v t).rebuilt ≤ 1
  unfolding visit
  visit_rebuilt v t = at_rebuilt v t (subtree v t)

  pub visit_tried : (v : ℕ) (t : Tree) → (visit N flag k limit v t).tried ≤ most_tried
  unfolding visit
  visit_tried v t = at_tried v t (subtree v t)

  pub visits_rebuilt : (vs : List ℕ) (t : Tree) → (visits N flag k limit vs t).rebuilt ≤ length vs
  visits_rebuilt [] t = omega arith
  visits_rebuilt (v ∷ vs) t = omega (arith, visit_rebuilt v t, visits_rebuilt vs (visit N flag k limit v t).tree)

  pub visits_tried : (vs : List ℕ) (t : Tree) → (visits N flag k limit vs t).tried ≤ length vs * most_tried
  visits_tried [] t = omega arith
  visits_tried (v ∷ vs) t = omega (arith, visit_tried v t, visits_tried vs (visit N flag k limit v t).tree)
