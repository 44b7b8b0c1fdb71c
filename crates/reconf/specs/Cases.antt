-- A visit of the definition, case by case: the node is left, nothing cheaper is found, or the region is rebuilt. Assumes nothing.
use Rattle.std.specs.Prelude.{Bool, true, ◌||◌, List, map, ◌≡◌, ℕ, ◌-◌, ◌≤◌, ◌<◌, ltb, length, Option, None, Some}
use Rattle.std.proofs.Math.Bool.{false}
use Rattle.std.proofs.Common.{refl}
use borrow.Author.Tests.{lt-ltb, le-ltb}
use Rattle.spec.specs.Network.{Network}
use Rattle.spec.specs.Tree.{Tree, number}
use Rattle.spec.specs.Undercut.{undercuts}
use Rattle.spec.specs.Improve.{Front, build, old_cost, locals, searched, tried_at, Visited, untouched, accept_best, reconf_node}
use Rattle.laws.specs.Booleans.{or_introl, or_intror, clash}
use Rattle.subset.specs.Search.{found_at}
use Rattle.subset.specs.Walk.{split_at}
use Rattle.subset.specs.Regions.{region_of}

-- is a tree of that cost found, and so much cheaper than the old one
abbrev pub accepts : Option ℕ → ℕ → Bool
accepts None old = false
accepts (Some c) old = undercuts c old

module _ (N : Network) (flag : ℕ → Bool) (limit : Option ℕ) (s : Tree) (fr : Front) where
  left_is : (ltb (length fr.members) 3 || ltb 128 (locals N flag fr.members)) ≡ true → reconf_node N flag limit s fr ≡ untouched 0 s
  unfolding reconf_node
  left_is e = rw e

  pub few_is : length fr.members < 3 → reconf_node N flag limit s fr ≡ untouched 0 s
  few_is h = left_is (or_introl (ltb (length fr.members) 3) _ (lt-ltb (length fr.members) 3 h))

  pub many_is : 128 < locals N flag fr.members → reconf_node N flag limit s fr ≡ untouched 0 s
  many_is h = left_is (or_intror (ltb (length fr.members) 3) _ (lt-ltb 128 (locals N flag fr.members) h))

  pub search_is : 3 ≤ length fr.members → locals N flag fr.members ≤ 128
      → reconf_node N flag limit s fr ≡ accept_best N flag limit s fr (searched N flag limit s fr)
  unfolding reconf_node
  search_is h k = rw (le-ltb (length fr.members) 3 h, le-ltb 128 (locals N flag fr.members) k)

  -- what a cost and the list of parts make of it
  module _ (part : List ℕ) (masks : ℕ) where
    pub stays_is : (cost : Option ℕ) → accepts cost (old_cost N flag fr.opened) ≡ false
        → accept_best N flag limit s fr (found_at part masks cost) ≡ untouched (tried_at N flag limit s fr) s
    unfolding found_at
    stays_is None h = refl
    stays_is (Some c) h = rw h

    abbrev pub rebuilt : Visited
    rebuilt =
        record {
          tree = (build fr.members (region_of (split_at part) (masks - 1)) (map number fr.opened)).tree;
          rebuilt = 1;
          tried = tried_at N flag limit s fr;
        }

    pub rebuilt_is : (cost : Option ℕ) → accepts cost (old_cost N flag fr.opened) ≡ true → accept_best N flag limit s fr (found_at part masks cost) ≡ rebuilt
    unfolding found_at
    rebuilt_is None h = clash h refl
    rebuilt_is (Some c) h = rw h

-- an accepted cost is one
abbrev pub or_zero : Option ℕ → ℕ
or_zero None = 0
or_zero (Some c) = c

pub accepted_found : (part : List ℕ) (masks : ℕ) (cost : Option ℕ) (old : ℕ) → accepts cost old ≡ true
    → found_at part masks cost ≡ Some (record { cost = or_zero cost; tree = region_of (split_at part) (masks - 1) })
unfolding found_at
accepted_found part masks None old h = clash h refl
accepted_found part masks (Some c) old h = refl
