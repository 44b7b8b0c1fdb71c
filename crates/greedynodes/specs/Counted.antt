-- The leaves of a whole network, counted up, and its weights, for whoever plans them all. Assumes nothing.
use Rattle.std.specs.Prelude.{◌≡◌, refl, List, [], ℕ, ◌≤◌, ◌<◌, length, get_or, take}
use Rattle.std.proofs.Common.{sym, ap, subst, ◌∙◌, arith, ext_get_or, get_or-take, length-take-le}
use Rattle.std.proofs.Math.Decide.{dec_le}
use Rattle.std.proofs.Math.ListN.{get_or-eq_default}
use Rattle.spec.specs.Lists.{memb, count, range}
use Rattle.spec.specs.Layout.{network_of}
use Rattle.spec.specs.NetworkClaims.{Accepted}
use Rattle.spec.specs.Tree.{flat_of}
use Rattle.laws.specs.ListLaws.{from_memb, range_length}
use Rattle.laws.specs.GreedyForest.{leaves_single}
use Rattle.cells.specs.Cells.{over-nil}
use Rattle.slots.specs.Weigh.{Light}
use Rattle.start.specs.Leaves.{put_all, put_length, put_at}
use Rattle.greedynodes.specs.Lends.{lends_layout}
use Rattle.greedynodes.specs.Begin.{Asks, range_at}

-- the numbers that are counted up are the range
pub counted_range : (l : List ℕ) (n : ℕ) → n ≤ length l → take n (put_all (λ i. i) l n) ≡ range n
counted_range l n h =
    let e : length (take n (put_all (λ i. i) l n)) ≡ n = length-take-le n (put_all (λ i. i) l n) (omega (arith, put_length (λ i. i) l n)) in
    ext_get_or 0 (take n (put_all (λ i. i) l n)) (range n) (e ∙ sym (range_length 0 n)) (λ i b.
    get_or-take n (put_all (λ i. i) l n) i 0 (omega (arith, e)) ∙ put_at (λ i. i) l n i (omega (arith, e)) (omega (arith, e))
    ∙ sym (range_at 0 n i (omega (arith, e)) ∙ omega arith))

-- a weight past the front is 0
pub light_front : (m : ℕ) (weights : List ℕ) → m ≤ length weights → ((j : ℕ) → j < m → get_or weights j 0 ≤ 8) → Light (take m weights)
light_front m weights h f j =
    elim (dec_le m j) [
      | yes q ↦ omega (arith, get_or-eq_default (take m weights) 0 (let z : length (take m weights) ≤ j = omega (arith, length-take-le m weights h) in z))
      | no q ↦ omega (arith, get_or-take m weights j 0 (omega arith), f j (omega arith))
    ]

-- all leaves of a network at the front of its lists, before any node
pub asks_front : (m n o : ℕ) (weights counts cells outputs : List ℕ) → m ≤ length weights → o ≤ length outputs
    → Accepted (network_of m n o weights counts cells outputs) → (leaves : List ℕ) → leaves ≡ range n → (kids : List ℕ)
    → Asks (network_of m n o weights counts cells outputs) [] n 0 (take m weights) counts cells (take o outputs) leaves kids
unfolding flat_of
asks_front m n o weights counts cells outputs hm ho accepted leaves all_leaves kids =
    record {
      lends = lends_layout m n o weights counts cells outputs hm ho;
      accepted = accepted;
      leaf = λ v e. omega (arith, from_memb v 0 n (ap (memb v) (sym all_leaves) ∙ e));
      once = λ v. subst (λ (l : List ℕ). count v l ≤ 1) (sym all_leaves) (leaves_single n v);
      array = refl;
      written = sym (over-nil kids);
    }
