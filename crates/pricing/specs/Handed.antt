-- What pricing hands out, read back: the steps of the lent listing, each with its node's list from the lent sets, are pricing's listing.
-- Assumes nothing.
use Rattle.std.specs.Prelude.{Bool, true, List, [], ◌∷◌, ◌≡◌, refl, ℕ, ◌+◌, ◌*◌, ◌≤◌, ◌<◌, eqb, length, take, drop}
use Rattle.std.proofs.Common.{sym, ap, ap₂, ◌∙◌, arith, take_at}
use Rattle.spec.specs.Lists.{memb, keep, range}
use Rattle.spec.specs.Members.{All}
use Rattle.spec.specs.Memory.{over}
use Rattle.spec.specs.Network.{Network, leaf_count, index_count}
use Rattle.spec.specs.Tree.{Pair, node, valid}
use Rattle.spec.specs.Price.{Step, kept, list_at, lists_of, step_at, listing, flat_steps, made_nodes, Orders}
use Rattle.spec.specs.Calls.{node_places, step_places}
use Rattle.laws.specs.Booleans.{by_cases}
use Rattle.laws.specs.ListLaws.{keep_ext, memb-keep-range, memb_head}
use Rattle.laws.specs.FileLists.{over_front}
use Rattle.laws.specs.Walks.{valid_tree}
use Rattle.laws.specs.Arrays.{valid_inner}
use Rattle.laws.specs.Ordering.{listing_orders}
use Rattle.laws.specs.OrderLaws.{listing_length_lem}
use Rattle.nodesets.specs.Passes.{with_sets}
use Rattle.nodesets.specs.Sets.{held-with_sets}
use Rattle.pricing.specs.Promise.{steps_in, set_at, handed_out}

with_list : (c : Step) (k : List ℕ) → c.list ≡ k
    → record { made = c.made; left = c.left; right = c.right; work_bits = c.work_bits; size_bits = c.size_bits; list = k } ≡ c
with_list c k e =
    ap (λ (x : List ℕ). record { made = c.made; left = c.left; right = c.right; work_bits = c.work_bits; size_bits = c.size_bits; list = x }) (sym e)

read_flat : (f : ℕ → List ℕ) (l : List Step) → All (λ c. c.list ≡ f c.made) l → steps_in f (flat_steps l) ≡ l
unfolding flat_steps
read_flat f [] h = refl
read_flat f (c ∷ l) (e, h) = ap₂ ◌∷◌ (with_list c (f c.made) e) (read_flat f l h)

pub flat_length : (l : List Step) → length (flat_steps l) ≡ length l * 5
unfolding flat_steps
flat_length [] = refl
flat_length (c ∷ l) = omega (arith, flat_length l)

memb_behind : (v w : ℕ) (l : List ℕ) → memb v l ≡ true → memb v (w ∷ l) ≡ true
memb_behind v w l h = by_cases (eqb v w) (λ e. rw e) (λ e. rw e h)

module _ (N : Network) (flag : ℕ → Bool) (a : List Pair) (f : ℕ → List ℕ) where
  own_lists : (l : List Step) → All (λ c. c ≡ step_at N flag a c.made) l
      → ((v : ℕ) → memb v (made_nodes l) ≡ true → f v ≡ list_at N a v) → All (λ c. c.list ≡ f c.made) l
  own_lists [] o h = tt
  own_lists (c ∷ l) (e, o) h = (
    ap (λ (x : Step). x.list) e ∙ sym (h c.made (memb_head c.made (made_nodes l))),
    own_lists l o (λ v m. h v (memb_behind v c.made (made_nodes l) m)),
  )

module _ (N : Network) (flag : ℕ → Bool) (a : List Pair) (is_valid : valid (leaf_count N) a ≡ true) (one : 1 ≤ leaf_count N) where
  -- an inner node's list is what its members say
  list_again : (v : ℕ) → leaf_count N ≤ v → v < leaf_count N + length a → keep (λ j. memb j (list_at N a v)) (range (index_count N)) ≡ list_at N a v
  list_again v b h =
      let (t, w, d) = valid_tree (leaf_count N) a one is_valid in
      let i = valid_inner (leaf_count N) a t d v b h in
      let e : list_at N a v ≡ keep (kept N (node v i.l i.r)) (range (index_count N)) = ap (lists_of N) i.here in
      ap (λ (k : List ℕ). keep (λ j. memb j k) (range (index_count N))) e
      ∙ keep_ext _ _ (index_count N) (λ j h. memb-keep-range j (index_count N) (kept N (node v i.l i.r)) h)
      ∙ sym e

  pub handed_is : (W : ℕ) (sets₀ sets steps₀ steps : List ℕ) → index_count N ≤ W * 64 → leaf_count N + length a ≡ node_places N
      → node_places N * W ≤ length sets₀ → step_places N * 5 ≤ length steps₀
      → sets ≡ with_sets sets₀ W (λ v j. memb j (list_at N a v)) (node_places N)
      → steps ≡ over steps₀ (flat_steps (listing N flag a))
      → handed_out W (index_count N) (step_places N) sets steps ≡ listing N flag a
  handed_is W sets₀ sets steps₀ steps fits q room places s t =
      let l : List Step = listing N flag a in
      let (u, w, d) = valid_tree (leaf_count N) a one is_valid in
      let o : Orders N flag a l = listing_orders N flag a u w d in
      let k : length (flat_steps l) ≡ step_places N * 5 = flat_length l ∙ ap (λ (n : ℕ). n * 5) (listing_length_lem N flag a is_valid) in
      let x : take (step_places N * 5) steps ≡ flat_steps l =
      ap (take (step_places N * 5)) (t ∙ over_front steps₀ (flat_steps l) (omega (arith, k, places)))
      ∙ take_at (flat_steps l) (drop (length (flat_steps l)) steps₀) (step_places N * 5) k in
      ap (steps_in (set_at sets W (index_count N))) x
      ∙ read_flat (set_at sets W (index_count N)) l
      (own_lists N flag a (set_at sets W (index_count N)) l o.own (λ v m.
      let (b, h) = o.only v m in
      keep_ext _ _ (index_count N) (λ j i. rw s (held-with_sets sets₀ W (λ v j. memb j (list_at N a v)) (node_places N) v j room (omega (arith, h, q)) (omega (arith, i, fits))))
      ∙ list_again v b h))
