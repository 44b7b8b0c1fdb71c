-- The size bits and work bits of the nodes, one step after the other. Assumes nothing.
use Rattle.std.specs.Prelude.{true, false, ◌≡◌, refl, List, map, ℕ, suc, ◌+◌, ◌*◌, ◌≤◌, ◌<◌, length, get_or, set, take}
use mathlib.Mathlib.Data.Bool.Basic.{eq-false_of_not-eq-true}
use Rattle.std.proofs.Common.{inl, inr, sym, ◌∙◌, ap, arith, add-one, length-set, ext_get_or, get_or-set_same, get_or-set_other, lt-ltb, le-ltb}
use Rattle.std.proofs.Math.Decide.{ℕ_discrete, dec_le}
use Rattle.std.proofs.Math.Seq.{take-length}
use Rattle.spec.specs.Lists.{memb, range}
use Rattle.spec.specs.Memory.{over, filled}
use Rattle.laws.specs.Booleans.{clash}
use Rattle.laws.specs.LayoutLaws.{map_range_at, map_range_length}
use Rattle.laws.specs.ListLaws.{memb_at}
use Rattle.laws.specs.FlatLaws.{left_of, right_of}
use Rattle.slots.specs.Slots.{held}
use Rattle.slots.specs.Weigh.{either}
use Rattle.cells.specs.Cells.{over_length, over_at, over_past, filled_length, filled_at}
use Rattle.nodesets.specs.Passes.{nodes}
use Rattle.nodesets.specs.Order.{Ready}
use Rattle.nodesets.specs.Steps.{Steps}
use Rattle.nodesets.specs.Turns.{left_slot, right_slot, node_slot, step_inner, step_left, step_right}
use Rattle.nodesets.specs.Places.{take_cases}
use Rattle.nodebits.specs.Bits.{StepKnown, InnerKnown, size_of, work_of, leaf_size, node_work}

-- the first k steps are done: the bits of their nodes are there, and those of other numbers are as they were
pub record Stepped (W n : ℕ) (kids order sets effective sizes₀ works₀ : List ℕ) (k : ℕ) (sizes works : List ℕ) : Type 0 where
  pub same_sizes : length sizes ≡ length sizes₀
  pub same_works : length works ≡ length works₀
  pub sizes_done : (s : ℕ) → Ready n kids (take k order) s → get_or sizes s 0 ≡ size_of effective sets W s
  pub works_done : (s : ℕ) → memb s (take k order) ≡ true → get_or works s 0 ≡ work_of effective sets W (left_of kids n s) (right_of kids n s)
  pub sizes_rest : (s : ℕ) → memb s order ≡ false → get_or sizes s 0 ≡ get_or sizes₀ s 0
  pub works_rest : (s : ℕ) → memb s order ≡ false → get_or works s 0 ≡ get_or works₀ s 0

module _ (W n : ℕ) (kids order sets effective sizes₀ works₀ : List ℕ) where
  pub stepped_none : ((i : ℕ) → i < n → get_or sizes₀ i 0 ≡ size_of effective sets W i)
      → Stepped W n kids order sets effective sizes₀ works₀ 0 sizes₀ works₀
  stepped_none h =
      record {
        same_sizes = refl;
        same_works = refl;
        sizes_done = leaf;
        works_done = λ s m. clash m refl;
        sizes_rest = λ s m. refl;
        works_rest = λ s m. refl;
      }
    where
      leaf : (s : ℕ) → Ready n kids (take 0 order) s → get_or sizes₀ s 0 ≡ size_of effective sets W s
      leaf s (inl b) = h s b
      leaf s (inr m) = clash m refl

  module _ (sizes works : List ℕ) (k v size work : ℕ) (h : k < length order) (e : v ≡ get_or order k 0) (low : n ≤ v)
      (bs : v < length sizes₀) (bw : v < length works₀)
      (es : size ≡ size_of effective sets W v) (ew : work ≡ work_of effective sets W (left_of kids n v) (right_of kids n v))
      (st : Stepped W n kids order sets effective sizes₀ works₀ k sizes works) where
    size_next : (s : ℕ) → Ready n kids (take (suc k) order) s → get_or (set sizes v size) s 0 ≡ size_of effective sets W s
    size_next s (inl b) = get_or-set_other sizes v s size 0 (λ q. omega arith) ∙ st.sizes_done s (inl b)
    size_next s (inr m) =
        elim (ℕ_discrete s v) [
          | yes q ↦ rw q (get_or-set_same sizes v size 0 (omega (arith, st.same_sizes)) ∙ es)
          | no q ↦ get_or-set_other sizes v s size 0 q
              ∙ take_cases s order k h m (λ f. st.sizes_done s (inr f)) (λ f. absurd (q (f ∙ sym e)))
        ]

    work_next : (s : ℕ) → memb s (take (suc k) order) ≡ true
        → get_or (set works v work) s 0 ≡ work_of effective sets W (left_of kids n s) (right_of kids n s)
    work_next s m =
        elim (ℕ_discrete s v) [
          | yes q ↦ rw q (get_or-set_same works v work 0 (omega (arith, st.same_works)) ∙ ew)
          | no q ↦ get_or-set_other works v s work 0 q
              ∙ take_cases s order k h m (λ f. st.works_done s f) (λ f. absurd (q (f ∙ sym e)))
        ]

    not_here : (s : ℕ) → memb s order ≡ false → s ≡ v → ⊥
    not_here s m q = clash (memb_at order k h) (rw (← e, ← q) m)

    pub stepped_next : Stepped W n kids order sets effective sizes₀ works₀ (k + 1) (set sizes v size) (set works v work)
    stepped_next =
        rw (add-one k) (record {
          same_sizes = simp length-set st.same_sizes;
          same_works = simp length-set st.same_works;
          sizes_done = size_next;
          works_done = work_next;
          sizes_rest = λ s m. get_or-set_other sizes v s size 0 (not_here s m) ∙ st.sizes_rest s m;
          works_rest = λ s m. get_or-set_other works v s work 0 (not_here s m) ∙ st.works_rest s m;
        })

-- ---- what holds at a step ----

pub record StepAt (W n : ℕ) (kids sets effective : List ℕ) (v l r : ℕ) : Type 0 where
  pub low : n ≤ v
  pub high : v < nodes n kids
  pub left_high : l < nodes n kids
  pub right_high : r < nodes n kids
  pub known : StepKnown W l r v sets effective
  pub nested : (j : ℕ) → j < W * 64 → held sets W v j ≡ true → either sets W l r j ≡ true

module _ {W n : ℕ} {kids order sets effective : List ℕ} (p : InnerKnown W n kids order sets effective) (k v l r : ℕ) (h : k < length order)
    (e : v ≡ get_or order k 0) (el : l ≡ left_of kids n v) (er : r ≡ right_of kids n v) where
  pub step_at : StepAt W n kids sets effective v l r
  step_at =
      let i = step_inner p.steps k v h e in
      record {
        low = i.0;
        high = i.1;
        left_high = step_left p.steps k v h e l el;
        right_high = step_right p.steps k v h e r er;
        known = record {
          narrow = p.narrow;
          fits = p.fits;
          light = p.light;
          left_in = left_slot p.steps k v h e W el p.room;
          right_in = right_slot p.steps k v h e W er p.room;
          node_in = node_slot p.steps k v h e W p.room;
        };
        nested = λ j b m. rw (el, er) (p.nested v j (rw e (memb_at order k h)) b m);
      }

  module _ {sizes₀ works₀ sizes works : List ℕ} (st : Stepped W n kids order sets effective sizes₀ works₀ k sizes works) where
    pub left_size : get_or sizes l 0 ≡ size_of effective sets W l
    left_size = st.sizes_done l (rw (el, e) (p.steps.ready k h).0)

    pub right_size : get_or sizes r 0 ≡ size_of effective sets W r
    right_size = st.sizes_done r (rw (er, e) (p.steps.ready k h).1)

-- ---- the whole ----

-- a list that has f 0, .., f (m - 1) at its front and is else as it was
pub over_is : (old new : List ℕ) (f : ℕ → ℕ) (m : ℕ) → m ≤ length old → length new ≡ length old
    → ((i : ℕ) → i < m → get_or new i 0 ≡ f i) → ((i : ℕ) → m ≤ i → get_or new i 0 ≡ get_or old i 0) → new ≡ over old (map f (range m))
over_is old new f m fits e front rest =
    let l : length (map f (range m)) ≡ m = map_range_length f m in
    ext_get_or 0 new (over old (map f (range m))) (e ∙ sym (over_length old (map f (range m)))) (λ i h.
    elim (dec_le m i) [
      | yes q ↦ rest i q ∙ sym (over_past old (map f (range m)) i 0 (omega arith))
      | no q ↦ front i (omega arith) ∙ sym (over_at old (map f (range m)) i 0 (omega arith) (omega arith) ∙ map_range_at f 0 m i (omega arith))
    ])

pub over_front : (old new : List ℕ) (f : ℕ → ℕ) (m : ℕ) → m ≤ length old → new ≡ over old (map f (range m)) → (i : ℕ) → i < m → get_or new i 0 ≡ f i
over_front old new f m fits e i h =
    ap (λ (l : List ℕ). get_or l i 0) e
    ∙ over_at old (map f (range m)) i 0 (omega arith) (omega (arith, map_range_length f m)) ∙ map_range_at f 0 m i h

module _ (W n : ℕ) (counts legs kids order sets effective sizes₀ works₀ sizes₁ works₁ sizes works : List ℕ) (steps : Steps n kids order)
    (fits_sizes : nodes n kids ≤ length sizes₀) (fits_works : nodes n kids ≤ length works₀)
    (es : sizes₁ ≡ over sizes₀ (map (leaf_size effective counts legs) (range n))) (ew : works₁ ≡ over works₀ (filled n 0))
    (st : Stepped W n kids order sets effective sizes₁ works₁ (length order) sizes works) where
  not_inner : (s : ℕ) → (n ≤ s → s < nodes n kids → ⊥) → memb s order ≡ false
  not_inner s h = eq-false_of_not-eq-true (λ m. h (steps.inner s m).0 (steps.inner s m).1)

  is_done : (s : ℕ) → s < nodes n kids → Ready n kids (take (length order) order) s
  is_done s h =
      elim (dec_le n s) [ yes b ↦ inr (rw (take-length order) (steps.all s b h)) | no b ↦ inl (omega arith) ]

  pub sizes_are : sizes ≡ over sizes₀ (map (size_of effective sets W) (range (nodes n kids)))
  sizes_are =
      over_is sizes₀ sizes (size_of effective sets W) (nodes n kids) fits_sizes
      (st.same_sizes ∙ ap length es ∙ over_length sizes₀ _)
      (λ s h. st.sizes_done s (is_done s h))
      (λ s h. st.sizes_rest s (not_inner s (λ a b. omega arith)) ∙ ap (λ (l : List ℕ). get_or l s 0) es
      ∙ over_past sizes₀ _ s 0 (omega (arith, map_range_length (leaf_size effective counts legs) n)))

  pub works_are : works ≡ over works₀ (map (node_work effective sets kids W n) (range (nodes n kids)))
  works_are =
      over_is works₀ works (node_work effective sets kids W n) (nodes n kids) fits_works
      (st.same_works ∙ ap length ew ∙ over_length works₀ _)
      (λ s h. elim (dec_le n s) [
        | yes b ↦ st.works_done s (rw (take-length order) (steps.all s b h)) ∙ rw (le-ltb s n b)
        | no b ↦ st.works_rest s (not_inner s (λ x y. omega arith)) ∙ ap (λ (l : List ℕ). get_or l s 0) ew
            ∙ over_at works₀ (filled n 0) s 0 (omega arith) (omega (arith, filled_length {A = ℕ} n 0)) ∙ filled_at n s 0 0 (omega arith)
            ∙ rw (lt-ltb s n (omega arith))
      ])
      (λ s h. st.works_rest s (not_inner s (λ a b. omega arith)) ∙ ap (λ (l : List ℕ). get_or l s 0) ew
      ∙ over_past works₀ (filled n 0) s 0 (omega (arith, filled_length {A = ℕ} n 0)))
