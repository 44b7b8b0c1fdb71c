-- What pricing leaves in the lent lists is the plan that is printed. Assumes nothing.
use Rattle.std.specs.Prelude.{◌≡◌, refl, Bool, true, List, [], ◌∷◌, map, eqb, get_or}
use Rattle.std.proofs.Math.Path.{sym, subst}
use Rattle.std.proofs.Common.{ap, ◌∙◌, arith}
use Prim.Native.Nat.{ℕ, zero, suc, ◌+◌, ◌*◌, ◌-◌, ◌≤◌, ◌<◌}
use Rattle.std.proofs.Math.Nat.{zero-add}
use Rattle.std.proofs.Math.ListN.{length}
use Rattle.spec.specs.declared.Prices.{Prices}
use Rattle.std.proofs.Math.Seq.{ext_get_or}
use Rattle.spec.specs.Lists.{memb, range, keep}
use Rattle.spec.specs.Memory.{over, placed}
use Rattle.spec.specs.Network.{Network, leaf_count, index_count}
use Rattle.spec.specs.Tree.{Pair, node, valid}
use Rattle.spec.specs.Price.{Step, list_at, step_at, listing, flat_steps, made_nodes, kept, price_of, Orders}
use Rattle.spec.specs.Calls.{flag_at, node_places, step_places}
use Rattle.spec.specs.Slicing.{Plan}
use Rattle.spec.specs.Program.{Printed, printed}
use Rattle.spec.specs.Text.{plan_text}
use Rattle.laws.specs.Booleans.{or_intror}
use Rattle.laws.specs.ListLaws.{memb_head, memb-keep-range, keep_ext}
use Rattle.laws.specs.Walks.{valid_tree}
use Rattle.laws.specs.Arrays.{valid_inner}
use Rattle.laws.specs.OrderLaws.{valid_length, listing_length_lem, listing_is_order}
use Rattle.laws.specs.LayoutLaws.{map_range_at, map_range_length}
use Rattle.laws.specs.MemberLaws.{all_at}
use Rattle.cells.specs.Cells.{over_at}
use Rattle.slots.specs.Slots.{held}
use Rattle.nodesets.specs.Sets.{held-with_sets}
use Rattle.pricing.specs.Promise.{PriceList, Pricing}
use Rattle.pricing.specs.Handed.{flat_length}
use Rattle.putfields.specs.Put.{Put}
use Rattle.steplines.specs.Steps.{step_from, steps_from}
use Rattle.text.specs.Lists.{printed_from}

-- ---- the flat listing, number by number ----

-- from place k * 5 on stand the step's five numbers
record Five (s : List ℕ) (k : ℕ) (c : Step) : Type 0 where
  made : get_or s (k * 5) 0 ≡ c.made
  left : get_or s (k * 5 + 1) 0 ≡ c.left
  right : get_or s (k * 5 + 2) 0 ≡ c.right
  work : get_or s (k * 5 + 3) 0 ≡ c.work_bits
  size : get_or s (k * 5 + 4) 0 ≡ c.size_bits

flat_shift : (c : Step) (l : List Step) (i j : ℕ) → i ≡ j + 5 → get_or (flat_steps (c ∷ l)) i 0 ≡ get_or (flat_steps l) j 0
unfolding flat_steps
flat_shift c l i j e =
    let f : i ≡ suc (suc (suc (suc (suc j)))) = omega arith in
    ap (λ (x : ℕ). get_or (flat_steps (c ∷ l)) x 0) f

flat_at : (l : List Step) (k : ℕ) (d : Step) → k < length l → Five (flat_steps l) k (get_or l k d)
unfolding flat_steps
flat_at [] k d h = absurd (omega arith)
flat_at (c ∷ l) zero d h = record { made = refl; left = refl; right = refl; work = refl; size = refl }
flat_at (c ∷ l) (suc k) d h =
    let f : Five (flat_steps l) k (get_or l k d) = flat_at l k d (omega arith) in
    record {
      made = flat_shift c l (suc k * 5) (k * 5) (omega arith) ∙ f.made;
      left = flat_shift c l (suc k * 5 + 1) (k * 5 + 1) (omega arith) ∙ f.left;
      right = flat_shift c l (suc k * 5 + 2) (k * 5 + 2) (omega arith) ∙ f.right;
      work = flat_shift c l (suc k * 5 + 3) (k * 5 + 3) (omega arith) ∙ f.work;
      size = flat_shift c l (suc k * 5 + 4) (k * 5 + 4) (omega arith) ∙ f.size;
    }

-- the same numbers at the front of a longer list
front_at : {s : List ℕ} (d : List ℕ) (l : List Step) (i : ℕ) → s ≡ over d (flat_steps l) → length (flat_steps l) ≤ length d → i < length (flat_steps l)
    → get_or s i 0 ≡ get_or (flat_steps l) i 0
front_at d l i e b h = ap (λ (x : List ℕ). get_or x i 0) e ∙ over_at d (flat_steps l) i 0 (omega arith) h

-- ---- members by number ----

made_in : (l : List Step) (k : ℕ) (d : Step) → k < length l → memb (get_or l k d).made (made_nodes l) ≡ true
made_in [] k d h = absurd (omega arith)
made_in (c ∷ l) zero d h = memb_head c.made (made_nodes l)
made_in (c ∷ l) (suc k) d h = or_intror (eqb (get_or l k d).made c.made) (memb (get_or l k d).made (made_nodes l)) (made_in l k d (omega arith))

abbrev no_step : Step
no_step = record { made = 0; left = 0; right = 0; work_bits = 0; size_bits = 0; list = [] }

-- ---- pricing's lists ----

module _ (W : ℕ) (N : Network) (flag : ℕ → Bool) (a : List Pair) (fine : valid (leaf_count N) a ≡ true) (fits : index_count N ≤ W * 64)
    {sets₀ sizes₀ works₀ steps₀ sets sizes works steps : List ℕ} (p : PriceList W N flag a sets₀ sizes₀ works₀ steps₀ sets sizes works steps)
    (room : node_places N * W ≤ length sets₀) (long : step_places N * 5 ≤ length steps₀) where
  -- an inner node's slot holds its list
  kept_is : (v : ℕ) → leaf_count N ≤ v → v < node_places N → keep (held sets W v) (range (index_count N)) ≡ list_at N a v
  kept_is v b h =
      let (t, w, ok) = valid_tree (leaf_count N) a (omega arith) fine in
      let x = valid_inner (leaf_count N) a t ok v b (omega (arith, valid_length (leaf_count N) a fine)) in
      let q : ℕ → Bool = kept N (node v x.l x.r) in
      let e : list_at N a v ≡ keep q (range (index_count N)) = rw x.here in
      keep_ext (held sets W v) q (index_count N)
      (λ j g.
      ap (λ (s : List ℕ). held s W v j) p.sets_are
      ∙ held-with_sets sets₀ W (λ u i. memb i (list_at N a u)) (node_places N) v j room h (omega arith)
      ∙ ap (memb j) e
      ∙ memb-keep-range j (index_count N) q g)
      ∙ sym e

  step_is : (k : ℕ) → k < length (listing N flag a) → step_from steps sets W (index_count N) k ≡ get_or (listing N flag a) k no_step
  step_is k h =
      let l : List Step = listing N flag a in
      let n : length l ≡ step_places N = listing_length_lem N flag a fine in
      let m : length (flat_steps l) ≡ length l * 5 = flat_length l in
      let o : Orders N flag a l = listing_is_order N flag a (omega arith) fine in
      let c : Step = get_or l k no_step in
      let own : c ≡ step_at N flag a c.made = all_at (λ s. s ≡ step_at N flag a s.made) l k no_step o.own h in
      let (low, high) = o.only c.made (made_in l k no_step h) in
      let f : Five (flat_steps l) k c = flat_at l k no_step h in
      let e₀ : get_or steps (k * 5) 0 ≡ c.made = front_at steps₀ l (k * 5) p.steps_are (omega arith) (omega arith) ∙ f.made in
      let e₁ : get_or steps (k * 5 + 1) 0 ≡ c.left = front_at steps₀ l (k * 5 + 1) p.steps_are (omega arith) (omega arith) ∙ f.left in
      let e₂ : get_or steps (k * 5 + 2) 0 ≡ c.right = front_at steps₀ l (k * 5 + 2) p.steps_are (omega arith) (omega arith) ∙ f.right in
      let e₃ : get_or steps (k * 5 + 3) 0 ≡ c.work_bits = front_at steps₀ l (k * 5 + 3) p.steps_are (omega arith) (omega arith) ∙ f.work in
      let e₄ : get_or steps (k * 5 + 4) 0 ≡ c.size_bits = front_at steps₀ l (k * 5 + 4) p.steps_are (omega arith) (omega arith) ∙ f.size in
      let e₅ : keep (held sets W (get_or steps (k * 5) 0)) (range (index_count N)) ≡ c.list =
      ap (λ (v : ℕ). keep (held sets W v) (range (index_count N))) e₀
      ∙ kept_is c.made low (omega (arith, valid_length (leaf_count N) a fine))
      ∙ ap (λ (s : Step). s.list) (sym own) in
      λ i. record { made = e₀ i; left = e₁ i; right = e₂ i; work_bits = e₃ i; size_bits = e₄ i; list = e₅ i }

  -- THE STEPS IN THE LENT LISTS ARE THE LISTING
  pub steps_are : steps_from steps sets W (index_count N) (leaf_count N - 1) ≡ listing N flag a
  unfolding steps_from
  steps_are =
      let f : ℕ → Step = step_from steps sets W (index_count N) in
      let n : length (listing N flag a) ≡ step_places N = listing_length_lem N flag a fine in
      let m : length (map f (range (step_places N))) ≡ step_places N = map_range_length f (step_places N) in
      ext_get_or no_step (map f (range (step_places N))) (listing N flag a) (m ∙ sym n)
      (λ k h. map_range_at f no_step (step_places N) k (omega arith) ∙ step_is k (omega arith))

-- ---- what is printed ----

-- the plan of a tree with flags from a list, and improvement's counts
abbrev pub plan_from : List Pair → List ℕ → ℕ → ℕ → Plan
plan_from a flags improved splits = record { tree = a; flag = flag_at flags; rebuilt = improved; tried = splits }

-- WHAT IS WRITTEN IS THE PLAN'S TEXT: after pricing with these flags, `Printout::put` leaves the definition's bytes in front of the buffer
module _ (W : ℕ) (N : Network) (flags : List ℕ) (a : List Pair) (fine : valid (leaf_count N) a ≡ true) (fits : index_count N ≤ W * 64)
    {sets₀ sizes₀ works₀ steps₀ sets sizes works steps : List ℕ} {r : Prices}
    (p : Pricing W N (flag_at flags) a sets₀ sizes₀ works₀ steps₀ sets sizes works steps r)
    (room : node_places N * W ≤ length sets₀) (long : step_places N * 5 ≤ length steps₀) (improved splits : ℕ) where
  pub plan_printed : printed_from (leaf_count N) (index_count N) W r steps sets flags improved splits ≡ printed N (plan_from a flags improved splits)
  plan_printed =
      let e : r ≡ price_of N (flag_at flags) a = p.answer in
      λ i.
      record {
        leaves = leaf_count N;
        indices = index_count N;
        steps = steps_are W N (flag_at flags) a fine fits p.list room long i;
        total = (e i).total;
        widest = (e i).widest;
        slices = keep (flag_at flags) (range (index_count N));
        bits = (e i).slice_bits;
        improved = improved;
        splits = splits;
      }

  pub plan_text_lem : {out after : List ℕ} {n : ℕ} → Put out after 0 n (plan_text (printed_from (leaf_count N) (index_count N) W r steps sets flags improved splits))
      → (after ≡ over out (plan_text (printed N (plan_from a flags improved splits)))) × (n ≡ length (plan_text (printed N (plan_from a flags improved splits))))
  unfolding placed
  plan_text_lem {out} {after} {n} q =
      let e : Put out after 0 n (plan_text (printed N (plan_from a flags improved splits))) =
      subst (λ (x : Printed). Put out after 0 n (plan_text x)) plan_printed q in
      (e.bytes, e.past ∙ zero-add (length (plan_text (printed N (plan_from a flags improved splits)))))
