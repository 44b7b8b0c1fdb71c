-- Greedy's start in lent lists: the leaves' tables in slots with their sizes, and the indices that stay whatever is merged. Assumes nothing.
use Rattle.std.specs.Prelude.{Bool, false, not, ◌&&◌, ◌||◌, cond, ◌≡◌, length, get_or, set, replicate, min, drop}
use Rattle.std.proofs.Math.Bool.{true, or_assoc, or-false}
use Rattle.std.proofs.Math.Path.{refl, ap, fun_ext}
use Rattle.std.proofs.Common.{sym, ◌∙◌, arith, add-one, get_or-set_same, ext_get_or, length-append, length-drop}
use mathlib.Core.List.{List, [], ◌∷◌, ◌++◌}
use Rattle.spec.specs.Lists.{from, range}
use Rattle.spec.specs.Memory.{copied, filled}
use Prim.Native.Nat.{ℕ, zero, suc, ◌+◌, ◌-◌, ◌*◌, ◌≤◌, ◌<◌}
use Rattle.std.proofs.Math.Decide.{ℕ_discrete, dec_le}
use Rattle.std.proofs.Math.ListN.{length-set, get_or-append}
use Rattle.std.proofs.lemmas.List.{get_or-append_right, get_or-drop}
use Rattle.std.proofs.Math.Seq.{get_or-set_other}
use Rattle.laws.specs.Booleans.{by_cases}
use Rattle.cells.specs.Loop.{turns, turns_next}
use Rattle.slots.specs.Slots.{held, with_set, with_set_length, with_set_then, held_with, held_with_other}
use Rattle.slots.specs.Writes.{among, leaf_has}
use Rattle.slots.specs.Weigh.{weighed, either}
use Rattle.tables.specs.declared.row.Row.{Row}
use Rattle.tables.specs.Lists.{stale, Lists, lists_of, with_bits, coded, coded_length}

-- ---- numbers put at the places 0, 1, .. ----

abbrev pub put_all : (ℕ → ℕ) → List ℕ → ℕ → List ℕ
put_all f l n = turns (λ i k. set k i (f i)) l n

module _ (f : ℕ → ℕ) (l : List ℕ) where
  pub put_length : (n : ℕ) → length (put_all f l n) ≡ length l
  unfolding turns
  put_length zero = refl
  put_length (suc n) = length-set (put_all f l n) n (f n) ∙ put_length n

  pub put_at : (n k : ℕ) → k < n → k < length l → get_or (put_all f l n) k 0 ≡ f k
  unfolding turns
  put_at zero k h b = absurd (omega arith)
  put_at (suc n) k h b =
      elim (ℕ_discrete k n) [
        | yes e ↦ rw e (get_or-set_same (put_all f l n) n (f n) 0 (omega (arith, put_length n)))
        | no e ↦ get_or-set_other (put_all f l n) n k (f n) 0 e ∙ put_at n k (omega (arith, e)) b
      ]

  pub put_past : (n k d : ℕ) → n ≤ k → get_or (put_all f l n) k d ≡ get_or l k d
  unfolding turns
  put_past zero k d h = refl
  put_past (suc n) k d h = get_or-set_other (put_all f l n) n k (f n) d (λ e. omega (arith, e)) ∙ put_past n k d (omega arith)

  -- the front that was written, back before the places after it
  pub put_front : (front : List ℕ) (n e : ℕ) → e ≡ min n (length l) → length front ≡ e → ((k : ℕ) → k < e → get_or front k 0 ≡ f k)
      → front ++ drop e l ≡ put_all f l n
  put_front front n e q long done =
      ext_get_or 0 (front ++ drop e l) (put_all f l n)
      (omega (arith, length-append front (drop e l), length-drop e l, put_length n))
      (λ k b. elim (dec_le e k) [
        | no h ↦ get_or-append front (drop e l) 0 k (omega (arith, h)) ∙ done k (omega (arith, h)) ∙ sym (put_at n k (omega (arith, h)) (omega (arith, h)))
        | yes h ↦ (let r : e + (k - e) ≡ k = omega (arith, h) in
            let w : k < length l = omega (arith, b, length-append front (drop e l), length-drop e l, long) in
            get_or-append_right front (drop e l) e k 0 long h ∙ get_or-drop e l (k - e) 0 ∙ ap (λ (m : ℕ). get_or l m 0) r
            ∙ sym (put_past n k 0 (omega (arith, h, w))))
      ])

-- ---- the sets of the leaves ----

module _ (W : ℕ) (counts legs leaves : List ℕ) where
  -- slot i holds the indices of the i-th of the leaves in a list, for the first n
  unfoldable pub with_leaves : List ℕ → ℕ → List ℕ
  with_leaves ws n = turns (λ i l. with_set l W i (leaf_has counts legs (get_or leaves i 0))) ws n

  pub leaves_length : (ws : List ℕ) (n : ℕ) → length (with_leaves ws n) ≡ length ws
  unfolding with_leaves turns
  leaves_length ws zero = refl
  leaves_length ws (suc n) = with_set_length (with_leaves ws n) W n _ ∙ leaves_length ws n

  pub leaves_held : (ws : List ℕ) (n i j : ℕ) → i < n → i * W + W ≤ length ws → j < W * 64 → held (with_leaves ws n) W i j ≡ leaf_has counts legs (get_or leaves i 0) j
  unfolding with_leaves turns
  leaves_held ws zero i j h r b = absurd (omega arith)
  leaves_held ws (suc n) i j h r b =
      elim (ℕ_discrete i n) [
        | yes e ↦ rw e (held_with (with_leaves ws n) W n (leaf_has counts legs (get_or leaves n 0)) j (omega (arith, leaves_length ws n, ap (λ (k : ℕ). k * W) e)) b)
        | no e ↦ held_with_other (with_leaves ws n) W n (leaf_has counts legs (get_or leaves n 0)) i j b e ∙ leaves_held ws n i j (omega (arith, e)) r b
      ]

  pub leaves_other : (ws : List ℕ) (n u j : ℕ) → n ≤ u → j < W * 64 → held (with_leaves ws n) W u j ≡ held ws W u j
  unfolding with_leaves turns
  leaves_other ws zero u j h b = refl
  leaves_other ws (suc n) u j h b =
      held_with_other (with_leaves ws n) W n (leaf_has counts legs (get_or leaves n 0)) u j b (λ e. omega arith) ∙ leaves_other ws n u j (omega arith) b

-- one leaf's indices are put into its slot
pub leaf_put : (W : ℕ) (counts legs ws g r : List ℕ) (s v n : ℕ) → n ≡ get_or counts v 0 → g ≡ with_set ws W s (λ j. false)
    → r ≡ with_set g W s (λ j. held g W s j || among legs (v * 32) n j) → r ≡ with_set ws W s (leaf_has counts legs v)
leaf_put W counts legs ws g r s v n en eg er =
    er ∙ ap (λ (l : List ℕ). with_set l W s (λ j. held l W s j || among legs (v * 32) n j)) eg
    ∙ with_set_then ws W s (λ j. false) (λ j x. x || among legs (v * 32) n j)
    ∙ ap (λ (c : ℕ). with_set ws W s (among legs (v * 32) c)) en

-- ---- the indices that stay ----

-- the indices of the first n leaves that are not inside
abbrev pub others : List ℕ → List ℕ → (ℕ → Bool) → ℕ → ℕ → Bool
others counts legs inside zero j = false
others counts legs inside (suc l) j = others counts legs inside l j || (not (inside l) && leaf_has counts legs l j)

-- the set of the leaves in a list, in slot 257
abbrev pub with_inside : ℕ → List ℕ → List ℕ → List ℕ
with_inside W leaves ws = with_set ws W 257 (among leaves 0 (length leaves))

-- the outputs, and the indices of leaves that are not inside
abbrev pub outside_set : ℕ → List ℕ → List ℕ → List ℕ → List ℕ → ℕ → ℕ → Bool
outside_set W counts legs ws outputs n j = among outputs 0 (length outputs) j || others counts legs (held ws W 257) n j

-- in slot 256
unfoldable pub with_outside : ℕ → List ℕ → List ℕ → List ℕ → List ℕ → List ℕ → ℕ → List ℕ
with_outside W counts legs leaves ws outputs n = with_set (with_inside W leaves ws) W 256 (outside_set W counts legs (with_inside W leaves ws) outputs n)

-- the indices of leaf l are put into slot 256, unless slot 257 has l
unfoldable pub with_other : ℕ → List ℕ → List ℕ → List ℕ → ℕ → List ℕ
with_other W counts legs ws l = cond (held ws W 257 l) ws (with_set ws W 256 (λ j. held ws W 256 j || leaf_has counts legs l j))

pub other_inside : (W : ℕ) (counts legs ws : List ℕ) (l : ℕ) → held ws W 257 l ≡ true → ws ≡ with_other W counts legs ws l
unfolding with_other
other_inside W counts legs ws l e = rw e

pub other_outside : (W : ℕ) (counts legs ws : List ℕ) (l : ℕ) → held ws W 257 l ≡ false
    → with_set ws W 256 (λ j. held ws W 256 j || leaf_has counts legs l j) ≡ with_other W counts legs ws l
unfolding with_other
other_outside W counts legs ws l e = rw e

module _ (W : ℕ) (counts legs ws outputs : List ℕ) where
  abbrev pub outside_to : ℕ → List ℕ
  outside_to k = with_set ws W 256 (outside_set W counts legs ws outputs k)

  pub outside_none : (r : List ℕ) → r ≡ with_set ws W 256 (among outputs 0 (length outputs)) → r ≡ outside_to 0
  outside_none r e = e ∙ ap (with_set ws W 256) (sym (fun_ext λ j. or-false (among outputs 0 (length outputs) j)))

  still_inside : (k l : ℕ) → l < W * 64 → held (outside_to k) W 257 l ≡ held ws W 257 l
  still_inside k l h = held_with_other ws W 256 (outside_set W counts legs ws outputs k) 257 l h (λ e. omega arith)

  -- one leaf more
  pub outside_next : (k : ℕ) (l r : List ℕ) → k < W * 64 → l ≡ outside_to k → r ≡ with_other W counts legs l k → r ≡ outside_to (k + 1)
  unfolding with_other
  outside_next k l r h el er =
      er ∙ ap (λ (z : List ℕ). with_other W counts legs z k) el
      ∙ by_cases (held ws W 257 k)
      (λ e. rw (still_inside k k h, e) (ap (with_set ws W 256) (fun_ext λ j. inside e j)))
      (λ e. rw (still_inside k k h, e) (with_set_then ws W 256 (outside_set W counts legs ws outputs k) (λ j x. x || leaf_has counts legs k j)
      ∙ ap (with_set ws W 256) (fun_ext λ j. outside e j)))
      ∙ ap outside_to (sym (add-one k))
    where
      inside : held ws W 257 k ≡ true → (j : ℕ) → outside_set W counts legs ws outputs k j ≡ outside_set W counts legs ws outputs (suc k) j
      inside e j =
          ap (λ (b : Bool). among outputs 0 (length outputs) j || b)
          (sym (or-false (others counts legs (held ws W 257) k j))
          ∙ ap (λ (b : Bool). others counts legs (held ws W 257) k j || (not b && leaf_has counts legs k j)) (sym e))

      outside : held ws W 257 k ≡ false → (j : ℕ) → (outside_set W counts legs ws outputs k j || leaf_has counts legs k j) ≡ outside_set W counts legs ws outputs (suc k) j
      outside e j =
          or_assoc (among outputs 0 (length outputs) j) (others counts legs (held ws W 257) k j) (leaf_has counts legs k j)
          ∙ ap (λ (b : Bool). among outputs 0 (length outputs) j || (others counts legs (held ws W 257) k j || (not b && leaf_has counts legs k j))) (sym e)

-- the sizes of the first n slots
unfoldable pub with_sizes : List ℕ → ℕ → List ℕ → List ℕ → ℕ → List ℕ
with_sizes ws W wt sizes n = put_all (λ i. weighed wt [] (either ws W i i) (W * 64)) sizes n

-- the tables with these sizes
abbrev pub weighed_in : ℕ → List ℕ → ℕ → Lists → Lists
weighed_in W wt n M = with_bits M (with_sizes M.words W wt M.sizes n)

-- the words of the start: what stays, and the leaves' sets
unfoldable pub start_words : ℕ → ℕ → List ℕ → List ℕ → List ℕ → List ℕ → List ℕ → List ℕ
start_words W n counts legs outputs leaves ws = with_leaves W counts legs leaves (with_outside W counts legs leaves ws outputs n) (length leaves)

-- the tables of some leaves, all of them live, in place of those that were there; none has its least pair yet
abbrev pub prepared_in : ℕ → List ℕ → ℕ → List ℕ → List ℕ → List ℕ → List ℕ → Lists → Lists
prepared_in W wt n counts legs outputs leaves M =
    weighed_in W wt (length leaves)
    (lists_of (start_words W n counts legs outputs leaves M.words) (copied M.nodes leaves (length leaves)) M.sizes (range (length leaves)) (filled (length M.rows) 258))

-- rows none of which is found
pub stale_coded : (n : ℕ) → coded (replicate n stale) ≡ filled n 258
unfolding coded filled
stale_coded zero = refl
stale_coded (suc n) = ap (λ (l : List ℕ). 258 ∷ l) (stale_coded n)

pub stale_filled : (rows : List Row) → length rows ≡ 256 → coded (replicate 256 stale) ≡ filled (length (coded rows)) 258
stale_filled rows e = stale_coded 256 ∙ ap (λ (k : ℕ). filled k 258) (sym (coded_length rows ∙ e))

-- ---- as the loops write them ----

-- no slot yet, and one slot more
pub leaves_none : (W : ℕ) (counts legs leaves ws : List ℕ) → ws ≡ with_leaves W counts legs leaves ws 0
unfolding with_leaves turns
leaves_none W counts legs leaves ws = refl

pub leaves_next : (W : ℕ) (counts legs leaves ws l r : List ℕ) (i v : ℕ) → l ≡ with_leaves W counts legs leaves ws i → v ≡ get_or leaves i 0
    → r ≡ with_set l W i (leaf_has counts legs v) → r ≡ with_leaves W counts legs leaves ws (i + 1)
unfolding with_leaves
leaves_next W counts legs leaves ws l r i v e ev er =
    turns_next _ _ i e (er ∙ ap (λ (u : ℕ). with_set l W i (leaf_has counts legs u)) ev)

-- no size yet, and one size more
module _ (ws : List ℕ) (W : ℕ) (wt sizes : List ℕ) where
  pub sizes_none : sizes ≡ with_sizes ws W wt sizes 0
  unfolding with_sizes turns
  sizes_none = refl

  pub sizes_next : (l s : List ℕ) (i b : ℕ) → l ≡ with_sizes ws W wt sizes i → b ≡ weighed wt [] (either ws W i i) (W * 64)
      → s ≡ set l i b → s ≡ with_sizes ws W wt sizes (i + 1)
  unfolding with_sizes
  sizes_next l s i b e eb es = turns_next _ _ i e (es ∙ ap (set l i) eb)

-- the same of the tables
module _ (W : ℕ) (wt : List ℕ) (M : Lists) where
  pub none_weighed : M ≡ weighed_in W wt 0 M
  none_weighed = ap (with_bits M) (sizes_none M.words W wt M.sizes)

  pub next_weighed : (K : Lists) (s : List ℕ) (i b : ℕ) → K ≡ weighed_in W wt i M → b ≡ weighed wt [] (either K.words W i i) (W * 64)
      → s ≡ set K.sizes i b → with_bits K s ≡ weighed_in W wt (i + 1) M
  next_weighed K s i b e eb es =
      ap (λ (L : Lists). with_bits L s) e
      ∙ ap (with_bits M)
      (sizes_next M.words W wt M.sizes K.sizes s i b (ap (λ (L : Lists). L.sizes) e) (eb ∙ ap (λ (L : Lists). weighed wt [] (either L.words W i i) (W * 64)) e) es)

-- the sets of the start, one step after the other
pub sets_started : (W n : ℕ) (counts legs outputs leaves ws a b r : List ℕ) → a ≡ with_set ws W 257 (among leaves 0 (length leaves))
    → b ≡ outside_to W counts legs a outputs n → r ≡ with_leaves W counts legs leaves b (length leaves) → r ≡ start_words W n counts legs outputs leaves ws
unfolding start_words with_outside
sets_started W n counts legs outputs leaves ws a b r ea eb er =
    er ∙ ap (λ (x : List ℕ). with_leaves W counts legs leaves x (length leaves)) (eb ∙ ap (λ (x : List ℕ). outside_to W counts legs x outputs n) ea)

from_more : (k n : ℕ) → from k (suc n) ≡ from k n ++ ((k + n) ∷ [])
from_more k zero = ap (λ (j : ℕ). j ∷ []) (let e : k ≡ k + 0 = omega arith in e)
from_more k (suc n) = ap (λ (l : List ℕ). k ∷ l) (from_more (suc k) n ∙ ap (λ (j : ℕ). from (suc k) n ++ (j ∷ [])) (let e : suc k + n ≡ k + suc n = omega arith in e))

pub range_more : (n : ℕ) → range (n + 1) ≡ range n ++ (n ∷ [])
range_more n = ap (from 0) (add-one n) ∙ from_more 0 n ∙ ap (λ (j : ℕ). range n ++ (j ∷ [])) (let e : 0 + n ≡ n = omega arith in e)
