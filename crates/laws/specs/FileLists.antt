-- What the reader leaves in the lent lists, and the writer in the lent buffer. Assumes nothing.
use Rattle.std.specs.Prelude.{◌≡◌, true, not, ℕ, zero, suc, ◌+◌, ◌-◌, ◌%◌, ◌≤◌, ◌<◌, eqb, ltb, length, get_or, drop, Option, None, Some}
use Rattle.std.proofs.Math.Path.{refl, ap}
use Rattle.std.proofs.Common.{sym, ◌∙◌, subst, arith, length-append, drop-drop, drop_at, get_or-append-add, ltb-true, ltb-false, eqb-true}
use mathlib.Core.List.{List, [], ◌∷◌, ◌++◌}
use Rattle.std.proofs.Math.ListN.{take, length-drop, get_or-append, get_or-eq_default}
use Rattle.std.proofs.lemmas.List.{length-replicate, get_or-replicate}
use Rattle.spec.specs.Memory.{filled, over, placed}
use Rattle.spec.specs.Network.{Network, leaf_count, index_count}
use Rattle.spec.specs.Tree.{valid, pairs_of}
use Rattle.spec.specs.File.{Ask, plain, flagged, target, tree_written, flags_written}
use Rattle.spec.specs.FileClaims.{LawfulTree, LawfulAsk, RoomForTree, RoomForFlags, TreeLeft, FlagsSet, FlagsLeft, FillsLists}
use Rattle.laws.specs.Booleans.{by_cases, and_left}
use Rattle.laws.specs.FlatLaws.{pairs_length}
use Rattle.laws.specs.FileReads.{reads_just}

-- ---- one list over another ----

module _ {A : Type 0} where
  pub over_front : (d s : List A) → length s ≤ length d → over d s ≡ s ++ drop (length s) d
  unfolding over
  over_front [] [] h = refl
  over_front [] (y ∷ s) h = absurd (omega arith)
  over_front (x ∷ d) [] h = refl
  over_front (x ∷ d) (y ∷ s) h = ap (λ (l : List A). y ∷ l) (over_front d s (omega arith))

  pub placed_at : (d : List A) (at : ℕ) (s : List A) → at + length s ≤ length d → placed d at s ≡ take at d ++ (s ++ drop (at + length s) d)
  unfolding placed
  placed_at d at s h =
      ap (λ (l : List A). take at d ++ l)
      (over_front (drop at d) s (simp length-drop (omega arith)) ∙ ap (λ (l : List A). s ++ l) (drop-drop (length s) at d))

  pub placed_front : (d s : List A) → length s ≤ length d → placed d 0 s ≡ s ++ drop (length s) d
  unfolding placed
  placed_front d s h = over_front d s h

-- ---- the tree's list ----

-- a valid tree fills n - 1 nodes' places
pub valid_length : (n : ℕ) (kids : List ℕ) → length kids % 2 ≡ 0 → valid n (pairs_of kids) ≡ true → length kids ≡ n - 1 + (n - 1)
unfolding valid
valid_length zero kids h v = omega (arith, eqb-true (length (pairs_of kids)) 0 v, pairs_length kids)
valid_length (suc m) kids h v = omega (arith, eqb-true (length (pairs_of kids)) m (and_left (eqb (length (pairs_of kids)) m) _ v), pairs_length kids)

tree_left : (N : Network) (t : Option (List ℕ)) (a : Ask) (l : List ℕ) → LawfulTree N t → RoomForTree N (length l) t
    → TreeLeft t l (tree_written (record { network = N; tree = t; ask = a }) l)
tree_left N None a l h r = refl
tree_left N (Some kids) a l (e, v) r = placed_front l kids (omega (arith, valid_length (leaf_count N) kids e v))

-- ---- the flags' list ----

-- f, and 0 up to m places
padded : ℕ → List ℕ → List ℕ
padded m f = f ++ filled (m - length f) 0

padded_length : (m : ℕ) (f : List ℕ) → length f ≤ m → length (padded m f) ≡ m
unfolding padded filled
padded_length m f h = simp (length-append, length-replicate) (omega arith)

padded_at : (m : ℕ) (f : List ℕ) (j : ℕ) → j < m → get_or (padded m f) j 0 ≡ get_or f j 0
unfolding padded filled
padded_at m f j b =
    by_cases (ltb j (length f))
    (λ e. get_or-append f (filled (m - length f) 0) 0 j (ltb-true j (length f) e))
    (λ e. let h : length f ≤ j = ltb-false j (length f) e in
    let q : length f + (j - length f) ≡ j = omega arith in
    ap (λ (k : ℕ). get_or (f ++ filled (m - length f) 0) k 0) (sym q)
    ∙ get_or-append-add f (filled (m - length f) 0) (j - length f) 0
    ∙ get_or-replicate (m - length f) (j - length f) 0 0 (omega arith)
    ∙ sym (get_or-eq_default f 0 h))

flags_set : (m : ℕ) (f l : List ℕ) → length f ≤ m → m ≤ length l → FlagsSet m f l (placed l 0 (f ++ filled (m - length f) 0))
unfolding padded
flags_set m f l h r =
    let p : List ℕ = padded m f in
    let n : length p ≡ m = padded_length m f h in
    let byte : (j : ℕ) → j < m → get_or (p ++ drop m l) j 0 ≡ get_or f j 0 = λ j b. get_or-append p (drop m l) 0 j (omega arith) ∙ padded_at m f j b in
    subst (FlagsSet m f l) (sym (placed_front l p (omega arith) ∙ ap (λ (k : ℕ). p ++ drop k l) n)) (record {
      byte = byte;
      test = λ j b. ap (λ (x : ℕ). not (eqb x 0)) (byte j b);
      past = drop_at p (drop m l) m n;
      length = length-append p (drop m l) ∙ simp (n, length-drop) (omega arith);
    })

flags_left : (N : Network) (t : Option (List ℕ)) (a : Ask) (l : List ℕ) → LawfulAsk N a → RoomForFlags N (length l) a
    → FlagsLeft (index_count N) a l (flags_written (record { network = N; tree = t; ask = a }) l)
flags_left N t plain l h r = refl
flags_left N t (target w) l h r = refl
flags_left N t (flagged f) l (h, b) r = flags_set (index_count N) f l h r

pub fills_lists : FillsLists
fills_lists kids flags file c b e =
    let (l, (r, s), _) = (reads_just (length kids) (length flags) file c b).0 e in
    (tree_left c.network c.tree c.ask kids l.tree r, flags_left c.network c.tree c.ask flags l.ask s)
