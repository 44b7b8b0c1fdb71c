-- The two lists that the reader fills: when they are too short, and what is written. Assumes nothing.
use Rattle.std.specs.Prelude.{Bool, false, ◌||◌, List, ◌++◌, ◌≡◌, refl, ℕ, ◌+◌, ◌-◌, ◌≤◌, ◌<◌, ltb, length, take, drop, Option, None, Some}
use Rattle.std.proofs.Math.Bool.{or-false}
use Rattle.std.proofs.Common.{append-nil, sym, ap, ap₂, ◌∙◌, arith, length-drop, drop-drop, length-take-le, le-ltb}
use Rattle.spec.specs.Lists.{anyb}
use Rattle.spec.specs.Memory.{filled, placed}
use Rattle.spec.specs.Network.{Network, index_count}
use Rattle.spec.specs.Calls.{Lent}
use Rattle.spec.specs.File.{Ask, plain, flagged, target, tree_lent, flags_lent, tree_written, flags_written}
use Rattle.laws.specs.FileLists.{placed_at}
use Rattle.cells.specs.Cells.{filled_length, placed_length, placed_next}
use Rattle.network.specs.declared.Network.{Network as Record}
use Rattle.network.specs.Record.{net_of}
use Rattle.network.specs.Layouts.{leaf_count_lem}
use Rattle.fields.specs.Fields.{indices}
use borrow.Author.Tests.{ltb-false}

-- is one of the lists too short
abbrev pub lacking : List Lent → Bool
lacking l = anyb (λ x. ltb x.has x.needs) l

-- the children over the front of the tree's list, if there is a tree
abbrev pub kids_over : Option (List ℕ) → List ℕ → List ℕ
kids_over None l = l
kids_over (Some kids) l = placed l 0 kids

-- the flags over the front of the flags' list, and 0 up to one an index
abbrev pub flags_over : ℕ → Ask → List ℕ → List ℕ
flags_over m plain l = l
flags_over m (flagged f) l = placed l 0 (f ++ filled (m - length f) 0)
flags_over m (target w) l = l

pub tree_written_lem : (N : Network) (t : Option (List ℕ)) (a : Ask) (l : List ℕ) → tree_written (record { network = N; tree = t; ask = a }) l ≡ kids_over t l
tree_written_lem N None a l = refl
tree_written_lem N (Some kids) a l = refl

pub flags_written_lem : (N : Network) (t : Option (List ℕ)) (a : Ask) (l : List ℕ) → flags_written (record { network = N; tree = t; ask = a }) l ≡ flags_over (index_count N) a l
flags_written_lem N t plain l = refl
flags_written_lem N t (flagged f) l = refl
flags_written_lem N t (target w) l = refl

-- flags have a place for each of m indices
abbrev pub FlagsFit : Ask → ℕ → ℕ → Type 0
FlagsFit plain m places = Unit {0}
FlagsFit (flagged f) m places = m ≤ places
FlagsFit (target w) m places = Unit {0}

pub nothing_lacks : (p : ℕ) → ltb p 0 ≡ false
nothing_lacks p = le-ltb p 0 (omega arith)

module _ (R : Record) where
  pub lack_tree : (kids : List ℕ) (p nodes : ℕ) → nodes ≡ R.leaf_count - 1 → ltb p (nodes + nodes) ≡ lacking (tree_lent (net_of R) p (Some kids))
  lack_tree kids p nodes q =
      sym (or-false (ltb p (nodes + nodes)))
      ∙ ap (λ k. ltb p (k + k) || false) (q ∙ ap (λ n. n - 1) (sym (leaf_count_lem R)))

  pub lack_flags : (f : List ℕ) (q : ℕ) → ltb q R.index_count ≡ lacking (flags_lent (net_of R) q (flagged f))
  lack_flags f q =
      sym (or-false (ltb q R.index_count))
      ∙ ap (λ m. ltb q m || false) (sym (indices R))

  -- no place lacks
  pub flags_fit : (a : Ask) (q : ℕ) → lacking (flags_lent (net_of R) q a) ≡ false → FlagsFit a R.index_count q
  flags_fit plain q e = tt
  flags_fit (flagged f) q e = ltb-false q R.index_count (lack_flags f q ∙ e)
  flags_fit (target w) q e = tt

-- the flags written, and the places after them cleared, as they are lent
pub flags_cleared : (d f r y : List ℕ) (n m : ℕ) → r ≡ placed d 0 f → length f ≡ n → n < m → m ≤ length d → y ≡ filled (length (take (m - n) (drop n r))) 0
    → take n r ++ (y ++ drop (m - n) (drop n r)) ≡ placed d 0 (f ++ filled (m - length f) 0)
flags_cleared d f r y n m p e h k q =
    let g : List ℕ = filled (m - n) 0 in
    let z : length r ≡ length d = ap length p ∙ placed_length d f 0 in
    let a : length (take (m - n) (drop n r)) ≡ m - n = length-take-le (m - n) (drop n r) (omega (arith, length-drop n r)) in
    let b : length g ≡ m - n = filled_length (m - n) 0 in
    let w : 0 + length f ≡ n = omega arith in
    ap (λ l. take n r ++ (l ++ drop (m - n) (drop n r))) (q ∙ ap (λ i. filled i 0) a)
    ∙ ap (λ l. take n r ++ (g ++ l)) (drop-drop (m - n) n r ∙ ap (λ i. drop (n + i) r) (sym b))
    ∙ sym (placed_at r n g (omega arith))
    ∙ ap₂ (λ l i. placed l i g) p (sym w)
    ∙ placed_next d f g 0
    ∙ ap (λ i. placed d 0 (f ++ filled (m - i) 0)) (sym e)

-- as many flags as indices: nothing is cleared
pub flags_all : (d f : List ℕ) (n m : ℕ) → length f ≡ n → m ≤ n → placed d 0 f ≡ placed d 0 (f ++ filled (m - length f) 0)
unfolding filled
flags_all d f n m e h =
    let z : m - length f ≡ 0 = omega arith in ap (placed d 0) (sym (append-nil f) ∙ ap (λ i. f ++ filled i 0) (sym z))
