-- One turn of each pass, and where a step's slots are. Assumes nothing.
use Rattle.std.specs.Prelude.{◌≡◌, List, length, get_or}
use Rattle.std.proofs.Math.Path.{refl, sym}
use Rattle.std.proofs.Common.{◌∙◌, ap, arith}
use Prim.Native.Nat.{ℕ, zero, suc, ◌+◌, ◌-◌, ◌*◌, ◌≤◌, ◌<◌}
use Rattle.cells.specs.Loop.{turns, turns_none, turns_next}
use Rattle.slots.specs.Slots.{next_slot, with_set_length}
use Rattle.laws.specs.FlatLaws.{left_of, right_of}
use Rattle.nodesets.specs.Passes.{nodes, joined, widened, cut, ups, down, downs, cuts}
use Rattle.nodesets.specs.Steps.{Steps, at_inner, at_children}

-- the slots of a step are within a list that has room for all nodes
pub slot_in : (v m W len : ℕ) → v < m → m * W ≤ len → v * W + W ≤ len
slot_in v m W len h r = omega (arith, next_slot v m W h)

module _ {n : ℕ} {kids order : List ℕ} (s : Steps n kids order) (k v : ℕ) (h : k < length order) (e : v ≡ get_or order k 0) where
  pub step_inner : (n ≤ v) × (v < nodes n kids)
  step_inner = rw e (at_inner s k h)

  pub step_left : (l : ℕ) → l ≡ left_of kids n v → l < nodes n kids
  step_left l g = rw (g, e) (at_children s k h).0

  pub step_right : (r : ℕ) → r ≡ right_of kids n v → r < nodes n kids
  step_right r g = rw (g, e) (at_children s k h).1

  -- the slots of the node and of its children
  pub node_slot : (W : ℕ) {len : ℕ} → nodes n kids * W ≤ len → v * W + W ≤ len
  node_slot W q = slot_in v (nodes n kids) W _ step_inner.1 q

  pub left_slot : (W : ℕ) {l len : ℕ} → l ≡ left_of kids n v → nodes n kids * W ≤ len → l * W + W ≤ len
  left_slot W {l} g q = slot_in l (nodes n kids) W _ (step_left l g) q

  pub right_slot : (W : ℕ) {r len : ℕ} → r ≡ right_of kids n v → nodes n kids * W ≤ len → r * W + W ≤ len
  right_slot W {r} g q = slot_in r (nodes n kids) W _ (step_right r g) q

module _ (W : ℕ) (L R : ℕ → ℕ) (order : List ℕ) where
  pub ups_none : (ws : List ℕ) → ws ≡ ups W L R order ws 0
  unfolding ups
  ups_none ws = sym (turns_none _ _)

  pub ups_next : (ws g g' : List ℕ) (k v l r : ℕ) → g ≡ ups W L R order ws k → v ≡ get_or order k 0 → l ≡ L v → r ≡ R v → g' ≡ joined W g l r v
      → g' ≡ ups W L R order ws (k + 1)
  unfolding ups
  ups_next ws g g' k v l r h e p q f =
      turns_next (λ i x. joined W x (L (get_or order i 0)) (R (get_or order i 0)) (get_or order i 0)) ws k h (f ∙ rw (p, q, e))

  pub ups_end : (ws g : List ℕ) (k : ℕ) → k ≡ length order → g ≡ ups W L R order ws k → g ≡ ups W L R order ws (length order)
  ups_end ws g k e h = h ∙ ap (ups W L R order ws) e

  pub ups_length : (k : ℕ) (ws : List ℕ) → length (ups W L R order ws k) ≡ length ws
  unfolding ups turns
  ups_length zero ws = refl
  ups_length (suc k) ws = with_set_length _ W _ _ ∙ ups_length k ws

  module _ (sets : List ℕ) where
    pub downs_none : (ws : List ℕ) → ws ≡ downs W L R order sets ws 0
    unfolding downs
    downs_none ws = sym (turns_none _ _)

    pub downs_next : (ws g g' g'' : List ℕ) (k v l r : ℕ) → g ≡ downs W L R order sets ws k → v ≡ get_or order (length order - (k + 1)) 0
        → l ≡ L v → r ≡ R v → g' ≡ widened W g v l sets r → g'' ≡ widened W g' v r sets l → g'' ≡ downs W L R order sets ws (k + 1)
    unfolding downs
    downs_next ws g g' g'' k v l r h e p q f f' =
        turns_next
        (λ i x. down W sets x (L (get_or order (length order - (i + 1)) 0)) (R (get_or order (length order - (i + 1)) 0)) (get_or order (length order - (i + 1)) 0))
        ws k h (f' ∙ rw (f, p, q, e))

    pub downs_end : (ws g : List ℕ) (k : ℕ) → k ≡ length order → g ≡ downs W L R order sets ws k → g ≡ downs W L R order sets ws (length order)
    downs_end ws g k e h = h ∙ ap (downs W L R order sets ws) e

    pub downs_length : (k : ℕ) (ws : List ℕ) → length (downs W L R order sets ws k) ≡ length ws
    unfolding downs turns
    downs_length zero ws = refl
    downs_length (suc k) ws = with_set_length _ W _ _ ∙ with_set_length _ W _ _ ∙ downs_length k ws

module _ (W : ℕ) (order outside : List ℕ) where
  pub cuts_none : (ws : List ℕ) → ws ≡ cuts W order outside ws 0
  unfolding cuts
  cuts_none ws = sym (turns_none _ _)

  pub cuts_next : (ws g g' : List ℕ) (k v : ℕ) → g ≡ cuts W order outside ws k → v ≡ get_or order k 0 → g' ≡ cut W g outside v
      → g' ≡ cuts W order outside ws (k + 1)
  unfolding cuts
  cuts_next ws g g' k v h e f = turns_next (λ i x. cut W x outside (get_or order i 0)) ws k h (f ∙ rw e)

  pub cuts_end : (ws g : List ℕ) (k : ℕ) → k ≡ length order → g ≡ cuts W order outside ws k → g ≡ cuts W order outside ws (length order)
  cuts_end ws g k e h = h ∙ ap (cuts W order outside ws) e

  pub cuts_length : (k : ℕ) (ws : List ℕ) → length (cuts W order outside ws k) ≡ length ws
  unfolding cuts turns
  cuts_length zero ws = refl
  cuts_length (suc k) ws = with_set_length _ W _ _ ∙ cuts_length k ws
