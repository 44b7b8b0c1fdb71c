-- A record whose arrays are copies of lists stands for the network of the lists. Assumes nothing.
use Rattle.std.specs.Prelude.{◌≡◌, false, ℕ, ◌+◌, ◌*◌, ◌≤◌, ◌<◌, length, get_or, drop, replicate}
use Rattle.std.proofs.Common.{sym, ap, ◌∙◌, arith, get_or-drop}
use mathlib.Core.List.{List, []}
use Rattle.std.proofs.Math.Decide.{dec_lt}
use Rattle.std.proofs.lemmas.List.{length-replicate}
use Rattle.std.proofs.Math.ListN.{get_or-eq_default}
use Rattle.spec.specs.Memory.{filled, copied}
use Rattle.spec.specs.Network.{max_legs}
use Rattle.spec.specs.Layout.{firsts, row_at, network_of}
use Rattle.cells.specs.Cells.{filled_all, copied_at, copied_past}
use Rattle.network.specs.Layouts.{map-range_ext, firsts_same}
use Rattle.network.specs.Codes.{large_of, small}

-- all zero, of n places
pub record Clear (n : ℕ) (d : List ℕ) : Type 0 where
  pub places : length d ≡ n
  pub zeros : (k : ℕ) → get_or d k 0 ≡ 0

pub clear : (n : ℕ) → Clear n (replicate n 0)
unfolding filled
clear n = record { places = length-replicate n 0; zeros = λ k. filled_all n k 0 }

-- a copy reads as the list does
copied_reads : {n : ℕ} (d s : List ℕ) (k : ℕ) → Clear n d → k < n → get_or (copied d s (length s)) k 0 ≡ get_or s k 0
copied_reads d s k c h =
    elim (dec_lt k (length s)) [
      | yes q ↦ copied_at d s (length s) k 0 q (omega (arith, c.places)) q
      | no q ↦ copied_past d s (length s) k 0 (omega arith) ∙ c.zeros k ∙ sym (get_or-eq_default s 0 (omega arith))
    ]

copied_firsts : {n : ℕ} (d s : List ℕ) (m : ℕ) → Clear n d → m ≤ n → firsts m (copied d s (length s)) ≡ firsts m s
copied_firsts d s m c h = firsts_same m (copied d s (length s)) s (λ i b. copied_reads d s i c (omega arith))

module _ (weights counts legs outputs w c l o : List ℕ) (cw : Clear 256 w) (cn : Clear 128 c) (cl : Clear 4096 l) (co : Clear 32 o)
    (few : large_of (length weights) (length counts) (length outputs) counts ≡ false) where
  row : (i : ℕ) → i < length counts → row_at (copied c counts (length counts)) (copied l legs (length legs)) i ≡ row_at counts legs i
  row i h =
      let (a, b, e, f) = small (length weights) (length counts) (length outputs) counts few in
      let g : get_or counts i 0 ≤ 32 = f i h in
      ap (λ (k : ℕ). firsts k (drop (i * max_legs) (copied l legs (length legs)))) (copied_reads c counts i cn (omega arith))
      ∙ firsts_same (get_or counts i 0) (drop (i * max_legs) (copied l legs (length legs))) (drop (i * max_legs) legs)
      (λ k j. get_or-drop (i * max_legs) (copied l legs (length legs)) k 0
      ∙ copied_reads l legs (i * max_legs + k) cl (omega arith)
      ∙ sym (get_or-drop (i * max_legs) legs k 0))

  pub same_network :
      network_of (length weights) (length counts) (length outputs)
      (copied w weights (length weights)) (copied c counts (length counts)) (copied l legs (length legs)) (copied o outputs (length outputs))
      ≡ network_of (length weights) (length counts) (length outputs) weights counts legs outputs
  unfolding network_of
  same_network =
      let (a, b, e, f) = small (length weights) (length counts) (length outputs) counts few in
      let x : firsts (length weights) (copied w weights (length weights)) ≡ firsts (length weights) weights = copied_firsts w weights (length weights) cw b in
      let y : firsts (length outputs) (copied o outputs (length outputs)) ≡ firsts (length outputs) outputs = copied_firsts o outputs (length outputs) co e in
      let z = map-range_ext [] (row_at (copied c counts (length counts)) (copied l legs (length legs))) (row_at counts legs) (length counts) row in
      λ j. record { leaves = z j; outputs = y j; weights = x j }

-- a copy of a short list of legs stands for the same network
module _ (weights counts legs outputs l : List ℕ) (cl : Clear 4096 l) (short : length legs ≤ 4096) where
  padded : (k : ℕ) → get_or (copied l legs (length legs)) k 0 ≡ get_or legs k 0
  padded k =
      elim (dec_lt k (length legs)) [
        | yes q ↦ copied_at l legs (length legs) k 0 q (omega (arith, cl.places)) q
        | no q ↦ copied_past l legs (length legs) k 0 (omega arith) ∙ cl.zeros k ∙ sym (get_or-eq_default legs 0 (omega arith))
      ]

  padded_row : (i : ℕ) → row_at counts (copied l legs (length legs)) i ≡ row_at counts legs i
  padded_row i =
      firsts_same (get_or counts i 0) (drop (i * max_legs) (copied l legs (length legs))) (drop (i * max_legs) legs)
      (λ k j. get_or-drop (i * max_legs) (copied l legs (length legs)) k 0 ∙ padded (i * max_legs + k) ∙ sym (get_or-drop (i * max_legs) legs k 0))

  pub padded_network :
      network_of (length weights) (length counts) (length outputs) weights counts (copied l legs (length legs)) outputs
      ≡ network_of (length weights) (length counts) (length outputs) weights counts legs outputs
  unfolding network_of
  padded_network =
      let z = map-range_ext [] (row_at counts (copied l legs (length legs))) (row_at counts legs) (length counts) (λ i h. padded_row i) in
      λ j. record { leaves = z j; outputs = firsts (length outputs) outputs; weights = firsts (length weights) weights }
