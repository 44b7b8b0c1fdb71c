-- One turn of slicing, and turn after turn, in the terms of a lent list of flags. Assumes nothing.
use Rattle.std.specs.Prelude.{Bool, true, false, cond, ◌≡◌, refl, List, [], ◌∷◌, ℕ, zero, suc, ◌*◌, ◌^◌, ◌≤◌, ◌<◌, length, get_or, set, Option, None, Some}
use Rattle.std.proofs.Common.{sym, ◌∙◌, ap, arith, length-set, get_or-set_same, get_or-set_other, eq-eqb, ne_eqb, lt-ltb}
use Rattle.std.proofs.Math.Path.{fun_ext}
use Rattle.std.proofs.Math.Decide.{ℕ_discrete}
use Rattle.spec.specs.Lists.{memb, range}
use Rattle.spec.specs.Network.{Network, index_count}
use Rattle.spec.specs.Tree.{pairs_of}
use Rattle.spec.specs.Price.{up_to, listing, work}
use Rattle.spec.specs.declared.Total.{Total}
use Rattle.spec.specs.Calls.{flag_at, node_places}
use Rattle.spec.specs.Slicing.{Plan, FollowUp, within_target, also, widest_of, candidate, candidates, best, chosen, choose, slice_loop, as_is}
use Rattle.network.specs.Views.{net_in}
use Rattle.network.specs.declared.accepted.Accepted.{Accepted}
use Rattle.pricing.specs.Promise.{Priceable, Room}
use Rattle.cost.specs.Back.{exact_of}
use Rattle.laws.specs.Booleans.{clash, and_right}
use Rattle.laws.specs.ListLaws.{memb-keep, from_memb}
use Rattle.laws.specs.SlicingOrder.{best_is_best}
use Rattle.laws.specs.SlicingLaws.{flag_falls}
use Rattle.slicing.specs.declared.ranks.Rank.{Rank as Found}
use Rattle.slicing.specs.Folds.{best_in}
use Rattle.slicing.specs.Promise.{plan_with}

-- its number, 0 for none
abbrev found_index : Option Found → ℕ
found_index None = 0
found_index (Some f) = f.index

abbrev pub is_index : Option Found → Bool
is_index None = false
is_index (Some f) = true

-- the flags with one more
abbrev pub with_flag : Option Found → List ℕ → List ℕ
with_flag None l = l
with_flag (Some f) l = set l f.index 1

-- what a turn prices: an accepted network, a valid tree and its step order, in lent lists; four words a set
abbrev pub TurnPriceable : (m n o : ℕ) (weights counts rows outputs kids order : List ℕ) → Type 0
TurnPriceable m n o weights counts rows outputs kids order = Priceable 4 m n o weights counts rows outputs kids order

-- the words that are worked in suffice for the nodes, and so do a turn's own lists
abbrev pub TurnRoom : (n : ℕ) (kids order : List ℕ) (outside : ℕ) → Type 0
TurnRoom n kids order outside = Room 4 n kids order outside 1024 256 256 640

-- the words that are worked in have four for each node of a tree of the network
abbrev pub HasOutside : Accepted → List ℕ → Type 0
HasOutside network outside = node_places (net_in network) * 4 ≤ length outside

-- the flags have a place an index, each 0 or 1, and with them the total is exact
pub record Within (N : Network) (kids flags : List ℕ) : Type 0 where
  pub places : index_count N ≤ length flags
  pub total : work (listing N (flag_at flags) (pairs_of kids)) < 9007199254740992
  pub bytes : (j : ℕ) → get_or flags j 0 ≤ 1

-- a turn that stops leaves the flags, and slicing is done; one that goes on flags an index, and slicing goes on with its choice
pub record Turned (N : Network) (target : ℕ) (kids flags₀ flags : List ℕ) (r : Bool) : Type 0 where
  pub index : ℕ
  pub low : r ≡ true → index < index_count N
  pub flags_are : flags ≡ cond r (set flags₀ index 1) flags₀
  pub stops : r ≡ false → (rebuilt tried : ℕ) (improve : FollowUp) (fuel : ℕ)
      → slice_loop N target improve fuel (plan_with flags₀ kids rebuilt tried) ≡ plan_with flags₀ kids rebuilt tried
  pub goes : r ≡ true → (rebuilt tried : ℕ) (improve : FollowUp) (fuel : ℕ)
      → slice_loop N target improve (suc fuel) (plan_with flags₀ kids rebuilt tried)
      ≡ slice_loop N target improve fuel (chosen N target improve (plan_with flags₀ kids rebuilt tried) index)

-- ---- one turn ----

module _ (N : Network) (target : ℕ) (improve : FollowUp) (p : Plan) where
  pub loop_within : within_target target (widest_of N p) ≡ true → (fuel : ℕ) → slice_loop N target improve fuel p ≡ p
  loop_within e zero = refl
  loop_within e (suc fuel) =
      ap (λ (b : Bool). cond b p (choose N target improve p (candidates N target p) (λ q. slice_loop N target improve fuel q))) e

  module _ (e : within_target target (widest_of N p) ≡ false) where
    on : (fuel : ℕ) → slice_loop N target improve (suc fuel) p ≡ choose N target improve p (candidates N target p) (λ q. slice_loop N target improve fuel q)
    on fuel = ap (λ (b : Bool). cond b p (choose N target improve p (candidates N target p) (λ q. slice_loop N target improve fuel q))) e

    pub loop_none : None ≡ best_in N target p (candidates N target p) → (fuel : ℕ) → slice_loop N target improve fuel p ≡ p
    loop_none f zero = refl
    loop_none f (suc fuel) = on fuel ∙ go (candidates N target p) f
      where
        go : (l : List ℕ) → None ≡ best_in N target p l → choose N target improve p l (λ q. slice_loop N target improve fuel q) ≡ p
        go [] f = refl
        go (i ∷ l) f = absurd (let z : ◌≡◌ {A = ℕ} 0 1 = cc in omega arith)

    pub loop_next : (b : Found) → Some b ≡ best_in N target p (candidates N target p) → (fuel : ℕ)
        → slice_loop N target improve (suc fuel) p ≡ slice_loop N target improve fuel (chosen N target improve p b.index)
    loop_next b f fuel = on fuel ∙ go (candidates N target p) f
      where
        go : (l : List ℕ) → Some b ≡ best_in N target p l
            → choose N target improve p l (λ q. slice_loop N target improve fuel q) ≡ slice_loop N target improve fuel (chosen N target improve p b.index)
        go [] f = absurd (let z : ◌≡◌ {A = ℕ} 0 1 = cc in omega arith)
        go (k ∷ l) f =
            let z : best N target p k l ≡ b.index = sym (ap found_index f) in
            ap (λ (x : ℕ). slice_loop N target improve fuel (chosen N target improve p x)) z

pub best_low : (N : Network) (target : ℕ) (p : Plan) (b : Found) → Some b ≡ best_in N target p (candidates N target p) → b.index < index_count N
best_low N target p b f = go (candidates N target p) refl f
  where
    go : (l : List ℕ) → candidates N target p ≡ l → Some b ≡ best_in N target p l → b.index < index_count N
    go [] e f = absurd (let z : ◌≡◌ {A = ℕ} 0 1 = cc in omega arith)
    go (k ∷ l) e f =
        let i = b.index in
        let z : best N target p k l ≡ i = sym (ap found_index f) in
        let m : memb i (candidates N target p) ≡ true = ap (memb i) e ∙ ap (λ (x : ℕ). memb x (k ∷ l)) (sym z) ∙ (best_is_best N target p k l).member in
        let y : memb i (range (index_count N)) ≡ true =
        and_right (candidate N target p i) (memb i (range (index_count N))) (sym (memb-keep i (candidate N target p) (range (index_count N))) ∙ m) in
        omega (arith, from_memb i 0 (index_count N) y)

-- the exact total of a plan
pub exact_total : (t : Total) (x : ℕ) → t ≡ up_to x → x < 9007199254740992 → exact_of t ≡ x
exact_total t x e h = ap exact_of e ∙ rw (lt-ltb x (2 ^ 53) h)

module _ (N : Network) (target : ℕ) (kids flags : List ℕ) where
  abbrev plan : ℕ → ℕ → Plan
  plan x y = plan_with flags kids x y

  pub turned_within : within_target target (widest_of N (plan_with flags kids 0 0)) ≡ true → Turned N target kids flags flags false
  turned_within e =
      record {
        index = 0;
        low = λ z. clash z refl;
        flags_are = refl;
        stops = λ z x y improve fuel. loop_within N target improve (plan_with flags kids x y) e fuel;
        goes = λ z. clash z refl;
      }

  pub turned : (b : Option Found) (r : Bool) (new : List ℕ) → within_target target (widest_of N (plan_with flags kids 0 0)) ≡ false
      → ((x y : ℕ) → b ≡ best_in N target (plan_with flags kids x y) (candidates N target (plan_with flags kids x y)))
      → r ≡ is_index b → new ≡ with_flag b flags → Turned N target kids flags new r
  turned None r new e f g h =
      record {
        index = 0;
        low = λ z. clash z g;
        flags_are = h ∙ rw g;
        stops = λ z x y improve fuel. loop_none N target improve (plan_with flags kids x y) e (f x y) fuel;
        goes = λ z. clash z g;
      }
  turned (Some b) r new e f g h =
      record {
        index = b.index;
        low = λ z. best_low N target (plan_with flags kids 0 0) b (f 0 0);
        flags_are = h ∙ rw g;
        stops = λ z. clash g z;
        goes = λ z x y improve fuel. loop_next N target improve (plan_with flags kids x y) e b (f x y) fuel;
      }

-- ---- turn after turn ----

-- one flag more, as a test
pub also_flag : (flags : List ℕ) (i : ℕ) → i < length flags → flag_at (set flags i 1) ≡ also i (flag_at flags)
also_flag flags i h =
    fun_ext λ j. elim (ℕ_discrete j i) [
      | yes q ↦ rw (q, get_or-set_same flags i 1 0 h, eq-eqb i i refl)
      | no q ↦ rw (get_or-set_other flags i j 1 0 q, ne_eqb j i q)
    ]

-- what is left to do, after some turns, leads to the whole
pub record Slicing (N : Network) (target : ℕ) (kids flags₀ : List ℕ) (m left : ℕ) (flags : List ℕ) : Type 0 where
  pub same : length flags ≡ length flags₀
  pub within : Within N kids flags
  pub leads : slice_loop N target as_is left (plan_with flags kids 0 0) ≡ slice_loop N target as_is m (plan_with flags₀ kids 0 0)

-- the flags are those of the sliced plan
pub record Sliced (N : Network) (target : ℕ) (kids flags₀ : List ℕ) (m : ℕ) (flags : List ℕ) : Type 0 where
  pub same : length flags ≡ length flags₀
  pub within : Within N kids flags
  pub plan_is : plan_with flags kids 0 0 ≡ slice_loop N target as_is m (plan_with flags₀ kids 0 0)

module _ (N : Network) (target : ℕ) (kids flags₀ : List ℕ) (m : ℕ) where
  pub slicing_none : Within N kids flags₀ → Slicing N target kids flags₀ m m flags₀
  slicing_none w = record { same = refl; within = w; leads = refl }

  pub slicing_next : (left : ℕ) (now next : List ℕ) (r : Bool) → r ≡ true → Turned N target kids now next r → Slicing N target kids flags₀ m (suc left) now
      → Slicing N target kids flags₀ m left next
  slicing_next left now next r g t s =
      let i = t.index in
      let h : i < length now = omega (arith, t.low g, s.within.places) in
      let e : next ≡ set now i 1 = t.flags_are ∙ rw g in
      let f : flag_at next ≡ also i (flag_at now) = ap flag_at e ∙ also_flag now i h in
      let l : length next ≡ length now = ap length e ∙ simp length-set in
      record {
        same = l ∙ s.same;
        within = record {
          places = omega (arith, l, s.within.places);
          total = omega (arith, s.within.total, flag_falls N (pairs_of kids) (flag_at now) i, ap (λ f. work (listing N f (pairs_of kids))) f);
          bytes = λ j. rw e (byte now i j (s.within.bytes j) h);
        };
        leads = ap (λ f. slice_loop N target as_is left (record { tree = pairs_of kids; flag = f; rebuilt = 0; tried = 0 })) f
            ∙ sym (t.goes g 0 0 as_is left) ∙ s.leads;
      }
    where
      byte : (l : List ℕ) (i j : ℕ) → get_or l j 0 ≤ 1 → i < length l → get_or (set l i 1) j 0 ≤ 1
      byte l i j b h =
          elim (ℕ_discrete j i) [
            | yes q ↦ rw q (omega (arith, get_or-set_same l i 1 0 h))
            | no q ↦ omega (arith, get_or-set_other l i j 1 0 q)
          ]

  pub slicing_stops : (left : ℕ) (now next : List ℕ) (r : Bool) → r ≡ false → Turned N target kids now next r → Slicing N target kids flags₀ m left now
      → Sliced N target kids flags₀ m next
  slicing_stops left now next r g t s =
      let e : next ≡ now = t.flags_are ∙ rw g in
      rw e (record { same = s.same; within = s.within; plan_is = sym (t.stops g 0 0 as_is left) ∙ s.leads })

  pub slicing_ends : (left : ℕ) (now : List ℕ) → left ≡ 0 → Slicing N target kids flags₀ m left now → Sliced N target kids flags₀ m now
  slicing_ends left now e s =
      record {
        same = s.same;
        within = s.within;
        plan_is = sym (ap (λ (x : ℕ). slice_loop N target as_is x (plan_with now kids 0 0)) e) ∙ s.leads;
      }
