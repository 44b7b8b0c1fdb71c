-- Lists that stand for a network, with some of its leaves; the leaves of the two halves are among them. Assumes nothing.
use Rattle.std.specs.Prelude.{◌≡◌, List, ◌++◌, ℕ, ◌+◌, ◌-◌, ◌≤◌, Float, length, take, drop}
use Rattle.std.proofs.Common.{sym, ap, ◌∙◌, arith, take-append-drop}
use Rattle.spec.specs.Lists.{memb, count}
use Rattle.spec.specs.Network.{Network}
use Rattle.spec.specs.Draws.{Words}
use Rattle.spec.specs.Bisection.{left_half, right_half}
use Rattle.laws.specs.Booleans.{by_cases}
use Rattle.laws.specs.ListLaws.{count_memb, count_not_memb, count-append}
use Rattle.laws.specs.BisectionHalves.{on_zero, members_count}
use Rattle.bisect.specs.Whole.{Names}
use Rattle.bisect.specs.Cuts.{CutBy, is_exhausted, is_whole, is_cut}
use Rattle.bisect.specs.Recursion.{rest_part}

-- there is such a network
pub record Named (weights counts legs leaves : List ℕ) : Type 0 where
  pub network : Network
  pub names : Names network weights counts legs leaves

-- some of the leaves
named_some : {weights counts legs leaves : List ℕ} → Named weights counts legs leaves → (l : List ℕ) → ((v : ℕ) → count v l ≤ count v leaves) → Named weights counts legs l
named_some {leaves = leaves} s l h =
    record {
      network = s.network;
      names =
          record {
            n = s.names.n;
            outputs = s.names.outputs;
            lends = s.names.lends;
            accepted = s.names.accepted;
            leaf = λ v m. s.names.leaf v (by_cases (memb v leaves) (λ e. e) (λ e. absurd (omega (arith, count_not_memb v leaves e, h v, count_memb v l m))));
          };
    }

count_parts : (m v : ℕ) (l : List ℕ) → count v (take m l) + count v (drop m l) ≡ count v l
count_parts m v l = sym (count-append v (take m l) (drop m l)) ∙ ap (count v) (take-append-drop m l)

module _ (weights counts legs leaves : List ℕ) (s : Named weights counts legs leaves) (eps : Float) (at : Words) (l : List ℕ) (left : ℕ) (next : Words)
    (cut : CutBy s.network leaves eps at l left next)
  where
    -- the leaves are put in another order
    same_count : (v : ℕ) → count v l ≡ count v leaves
    same_count v = go cut
      where
        go : CutBy s.network leaves eps at l left next → count v l ≡ count v leaves
        go (is_exhausted z part ep d same) = ap (count v) same
        go (is_whole z part ep d q same) = ap (count v) same
        go (is_cut z m part ep d q same) =
            ap (count v) same ∙ count-append v (left_half part leaves) (right_half part leaves) ∙ members_count (on_zero part) v 0 leaves

    pub left_named : Named weights counts legs (take left l)
    left_named = named_some s (take left l) (λ v. omega (arith, count_parts left v l, same_count v))

    pub right_named : (y : List ℕ) (k : ℕ) → left ≤ length l → length y ≡ length (take left l) → k ≡ length (y ++ drop left l) - left
        → Named weights counts legs (take k (drop left (y ++ drop left l)))
    right_named y k h e q =
        named_some s (take k (drop left (y ++ drop left l)))
        (λ v. omega (arith, ap (count v) (rest_part l y left k h e q), count_parts left v l, same_count v))
