-- Turns over lists of which the first places are in use: what a turn, or all turns, do to the flags of an accepted network of the fronts, and a
-- tree of the pairs' front, they do to the flags of the lists. Assumes nothing.
use Rattle.std.specs.Prelude.{Bool, ◌≡◌, List, ℕ, suc, ◌<◌, length}
use Rattle.std.proofs.Common.{sym, ◌∙◌, ap, subst}
use Rattle.spec.specs.Layout.{network_of}
use Rattle.spec.specs.Network.{Network, index_count}
use Rattle.spec.specs.Tree.{Pair, pairs_of}
use Rattle.spec.specs.Price.{listing, work}
use Rattle.spec.specs.Calls.{flag_at}
use Rattle.spec.specs.Slicing.{Plan, slice_loop, chosen, as_is}
use Rattle.walk.specs.declared.valid.Tree.{Tree}
use Rattle.network.specs.Layouts.{layout_index_count}
use Rattle.network.specs.Views.{net_in}
use Rattle.network.specs.declared.accepted.Accepted.{Accepted}
use Rattle.pricing.specs.declared.fronts.Fronts.{Fronts}
use Rattle.pricing.specs.Fronts.{AreFronts, fronts_net, fronts_pairs, fronts_outside}
use Rattle.slicing.specs.Promise.{plan_with}
use Rattle.slicing.specs.Turns.{TurnPriceable, TurnRoom, HasOutside, Within, Turned, Sliced}

-- ---- two lists of the same pairs ----

plans : (kids others flags : List ℕ) (x y : ℕ) → pairs_of kids ≡ pairs_of others → plan_with flags kids x y ≡ plan_with flags others x y
plans kids others flags x y e = ap (λ (t : List Pair). record { tree = t; flag = flag_at flags; rebuilt = x; tried = y }) e

module _ {kids others : List ℕ} (e : pairs_of kids ≡ pairs_of others) where
  pub within_pairs : {N : Network} {flags : List ℕ} → Within N kids flags → Within N others flags
  within_pairs {N} {flags} w =
      record {
        places = w.places;
        total = subst (λ (t : List Pair). work (listing N (flag_at flags) t) < 9007199254740992) e w.total;
        bytes = w.bytes;
      }

  pub turned_pairs : {N : Network} {target : ℕ} {flags₀ flags : List ℕ} {r : Bool} → Turned N target kids flags₀ flags r
      → Turned N target others flags₀ flags r
  turned_pairs {N} {target} {flags₀} {flags} {r} t =
      record {
        index = t.index;
        low = t.low;
        flags_are = t.flags_are;
        stops = λ z x y improve fuel. subst (λ (p : Plan). slice_loop N target improve fuel p ≡ p) (plans kids others flags₀ x y e) (t.stops z x y improve fuel);
        goes = λ z x y improve fuel. subst
            (λ (p : Plan). slice_loop N target improve (suc fuel) p ≡ slice_loop N target improve fuel (chosen N target improve p t.index))
            (plans kids others flags₀ x y e) (t.goes z x y improve fuel);
      }

  pub sliced_pairs : {N : Network} {target : ℕ} {flags₀ flags : List ℕ} {m : ℕ} → Sliced N target kids flags₀ m flags
      → Sliced N target others flags₀ m flags
  sliced_pairs {N} {target} {flags₀} {flags} {m} s =
      record {
        same = s.same;
        within = within_pairs s.within;
        plan_is = sym (plans kids others flags 0 0 e) ∙ s.plan_is ∙ ap (λ (p : Plan). slice_loop N target as_is m p) (plans kids others flags₀ 0 0 e);
      }

-- ---- the fronts ----

module _ {m n o : ℕ} {weights counts rows outputs kids order : List ℕ} (p : TurnPriceable m n o weights counts rows outputs kids order)
    {a : Accepted} {t : Tree} (f : AreFronts m n o weights counts rows outputs kids a t) where
  -- what a turn asks
  pub turn_fronts_outside : (outside : List ℕ) → TurnRoom n kids order (length outside) → HasOutside a outside
  turn_fronts_outside outside room = fronts_outside p f room.for_outside

  pub turn_fronts_within : {flags : List ℕ} → Within (network_of m n o weights counts rows outputs) kids flags → Within (net_in a) t.kids.now flags
  turn_fronts_within {flags} w =
      subst (λ (M : Network). Within M t.kids.now flags) (sym (fronts_net p f)) (within_pairs (sym (fronts_pairs p f)) w)

  -- what it does
  pub turn_fronts : {target : ℕ} {flags₀ flags : List ℕ} {r : Bool} → Turned (net_in a) target t.kids.now flags₀ flags r
      → Turned (network_of m n o weights counts rows outputs) target kids flags₀ flags r
  turn_fronts {target} {flags₀} {flags} {r} q =
      turned_pairs (fronts_pairs p f) (subst (λ (M : Network). Turned M target t.kids.now flags₀ flags r) (fronts_net p f) q)

  -- what all turns do
  pub slice_fronts : {target : ℕ} {flags₀ flags : List ℕ} → Sliced (net_in a) target t.kids.now flags₀ (index_count (net_in a)) flags
      → Sliced (network_of m n o weights counts rows outputs) target kids flags₀ m flags
  slice_fronts {target} {flags₀} {flags} q =
      let N = network_of m n o weights counts rows outputs in
      let c : index_count N ≡ m = layout_index_count m n o weights counts rows outputs in
      let s = subst (λ (M : Network). Sliced M target t.kids.now flags₀ (index_count M) flags) (fronts_net p f) q in
      sliced_pairs (fronts_pairs p f) (subst (λ (k : ℕ). Sliced N target t.kids.now flags₀ k flags) c s)

-- ---- the lists as one value ----

-- the words that are worked in suffice for the nodes, and so do a turn's own lists
abbrev pub HaveTurnRoom : Fronts → List ℕ → ℕ → Type 0
HaveTurnRoom f order outside = TurnRoom f.n f.kids.now order outside
