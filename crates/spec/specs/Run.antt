-- The run of a plan: tables, the store, one step, the run of a list of steps in one setting of the sliced indices; and the direct sum.
-- Definitions only. Assumes nothing.
use Rattle.std.specs.Prelude.{Bool, true, not, ◌&&◌, ◌||◌, cond, ℕ, eqb, ltb, Option, None, Some}
use mathlib.Core.List.{List, [], ◌∷◌, foldr, map}
use Rattle.spec.specs.Semiring.{Semiring}
use Rattle.spec.specs.Lists.{memb, range, keep}
use Rattle.spec.specs.Sums.{Assign, upd, sum_over}
use Rattle.spec.specs.Network.{Network, leaf_count, index_count, dim, legs, named}
use Rattle.spec.specs.Price.{Step}

-- the assignment that gives the indices of a list the values of a list, and the others what τ gives them
abbrev pub assign : List ℕ → List ℕ → Assign → Assign
assign [] vs τ = τ
assign (k ∷ ks) [] τ = τ
assign (k ∷ ks) (v ∷ vs) τ = upd (assign ks vs τ) k v

module _ (R : Semiring) where
  -- "A table has a whole number for each choice of values of its indices"; here a number of any semiring
  pub record Table : Type 0 where
    pub inds : List ℕ
    pub at : List ℕ → R.Car

  -- the number that a table has where each index has the value that σ gives it
  abbrev pub read : Table → Assign → R.Car
  read A σ = A.at (map σ A.inds)

  -- what the store, the scope document's shelf, has under a number: no table made yet, one "made and unused", or one that is used
  pub data Place : Type 0 where
    unmade : Place
    present : Table → Place
    used : Place

  abbrev pub Store : Type 0
  Store = ℕ → Place

  abbrev pub put : Store → ℕ → Place → Store
  put s v x = λ j. cond (eqb j v) x (s j)

  -- go on with the table that is there; fail if none is
  abbrev pub with_table : Place → (Table → Option Store) → Option Store
  with_table unmade f = None
  with_table (present A) f = f A
  with_table used f = None

  -- go on if no table was ever made here; else fail
  abbrev pub if_unmade : Place → Option Store → Option Store
  if_unmade unmade x = x
  if_unmade (present A) x = None
  if_unmade used x = None

  abbrev pub then_run : Option Store → (Store → Option Store) → Option Store
  then_run None f = None
  then_run (Some s) f = f s

  -- the table under the number v at the end of a run, read at the cell o
  abbrev pub read_slot : Place → Assign → R.Car
  read_slot unmade o = R.add_unit
  read_slot (present A) o = read A o
  read_slot used o = R.add_unit

  abbrev pub read_end : ℕ → Option Store → Assign → R.Car
  read_end v None o = R.add_unit
  read_end v (Some s) o = read_slot (s v) o

  module _ (N : Network) (cells : ℕ → List ℕ → R.Car) where
    -- the table of leaf i
    abbrev pub leaf_table : ℕ → Table
    leaf_table i = record { inds = legs N i; at = cells i }

    -- "a shelf starts with just the leaf tables, each under its leaf's number"
    abbrev pub start : Store
    start i = cond (ltb i (leaf_count N)) (present (leaf_table i)) unmade

    -- the product of all leaf tables
    abbrev pub product : Assign → R.Car
    product σ = foldr (λ i x. R.◌⊗◌ (read (leaf_table i) σ) x) R.mul_unit (range (leaf_count N))

    -- "The direct sum multiplies the tables of all leaves, each once, and sums that product over the non-output indices that leaves name;
    -- it is defined without any tree." At an output cell o.
    unfoldable pub direct : Assign → R.Car
    direct o = sum_over R (dim N) (keep (λ j. named N (λ i. true) j && not (memb j N.outputs)) (range (index_count N))) product o

    module _ (flag : ℕ → Bool) (τ : Assign) where
      -- the unsliced indices of the two tables that the list K leaves out
      abbrev pub summed : List ℕ → Table → Table → List ℕ
      summed K A B = keep (λ j. not (flag j) && ((memb j A.inds || memb j B.inds) && not (memb j K))) (range (index_count N))

      -- the indices of either table that the list K has, rising
      abbrev pub joint : List ℕ → Table → Table → List ℕ
      joint K A B = keep (λ j. (memb j A.inds || memb j B.inds) && memb j K) (range (index_count N))

      -- "It multiplies them where shared indices agree, sums the unsliced indices it does not list, drops the sliced ones it does not list
      -- at their value": K is the step's list, τ the setting
      abbrev pub contract : List ℕ → Table → Table → Table
      contract K A B =
          record {
            inds = joint K A B;
            at = λ vs. sum_over R (dim N) (summed K A B) (λ ρ. R.◌⊗◌ (read A ρ) (read B ρ)) (assign (joint K A B) vs τ);
          }

      -- "A step takes off its left and right tables, two different ones, which are then used", multiplies, "and shelves the result under its
      -- node. If one of the two is not there, or the node was made before, the step fails"
      abbrev pub do_step : Step → Store → Option Store
      do_step c s =
          with_table (s c.left) λ A.
          with_table (put s c.left used c.right) λ B.
          if_unmade (put (put s c.left used) c.right used c.made)
          (Some (put (put (put s c.left used) c.right used) c.made (present (contract c.list A B))))

      -- "the step fails and the run ends"
      abbrev pub run : List Step → Store → Option Store
      run [] s = Some s
      run (c ∷ cs) s = then_run (do_step c s) (λ s'. run cs s')
