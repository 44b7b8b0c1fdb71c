-- Bisection of all leaves of a network, from bisection of a list of leaves. Assumes nothing.
use Rattle.std.specs.Prelude.{true, ◌≡◌, ℕ, ◌+◌, ◌-◌, ◌≤◌, ◌<◌, Float, length, take, drop, Result, Err, Ok}
use Rattle.std.proofs.Math.Path.{sym, ap, subst}
use Rattle.std.proofs.Common.{◌∙◌, ap₂, arith, length-take-le}
use mathlib.Core.List.{List, []}
use Rattle.std.proofs.Math.Seq.{take-append_seam, take-length}
use Rattle.spec.specs.Lists.{range}
use Rattle.spec.specs.Memory.{over, copied}
use Rattle.spec.specs.Layout.{network_of}
use Rattle.spec.specs.Network.{Network, leaf_count}
use Rattle.spec.specs.Tree.{Pair, flat_of}
use Rattle.spec.specs.Refusal.{and_then}
use Rattle.spec.specs.declared.Refusal.{Refusal}
use Rattle.spec.specs.Draws.{Words, lent_words}
use Rattle.spec.specs.Bisection.{Halved, imbalance, bisect_rec, bisected_from, bisection}
use Rattle.spec.specs.Calls.{bisection_words, touches}
use Rattle.laws.specs.ListLaws.{range_length}
use Rattle.laws.specs.FileLists.{over_front}
use Rattle.network.specs.Layouts.{layout_leaf_count}
use Rattle.network.specs.Codes.{Facts}
use Rattle.network.specs.Lists.{lists_net}
use Rattle.start.specs.Leaves.{put_all}
use Rattle.greedynodes.specs.Begin.{Fits, Asks}
use Rattle.greedynodes.specs.Counted.{counted_range, asks_front}
use Rattle.bisection.specs.Calls.{names_of}
use Rattle.bisection.specs.Named.{Named}
use Rattle.bisect.specs.Cases.{halved, Halves, is_off, is_tree}

-- what bisection of all leaves answers: a refusal, after which the stated words are cleared, or the children of the array stand at the front of `kids`
pub data Whole (N : Network) (i cutoff : ℕ) (words kids₀ kids : List ℕ) (answer : Result ℕ Refusal) (next : Words) : Type 0 where
  is_refused : (r : Refusal) → touches r ≡ true → answer ≡ Err r → bisection N i cutoff words ≡ Err r → Whole N i cutoff words kids₀ kids answer next
  is_plan : (top : ℕ) → answer ≡ Ok top → top < 65536 → (a : List Pair) → bisection N i cutoff words ≡ Ok (record { pairs = a; taken = length words - length next.left })
      → kids ≡ over kids₀ (flat_of a) → length a ≡ leaf_count N - 1 → Whole N i cutoff words kids₀ kids answer next

-- the children are copied out
pub copied_out : (tree kids₀ kids : List ℕ) (a : List Pair) (places : ℕ) → kids ≡ over kids₀ (flat_of a) → places ≡ length (flat_of a) → places ≤ length kids₀
    → copied tree kids places ≡ over tree (flat_of a)
unfolding copied
copied_out tree kids₀ kids a places e h b =
    ap (over tree)
    (ap₂ (λ (k : ℕ) (l : List ℕ). take k l) h (e ∙ over_front kids₀ (flat_of a) (omega (arith, h)))
    ∙ take-append_seam (flat_of a) (drop (length (flat_of a)) kids₀))

-- a network at the front of lists, which may be longer
module _ (m n o : ℕ) (weights counts cells outputs : List ℕ) (hm : m ≤ length weights) (ho : o ≤ length outputs) (facts : Facts m n o weights counts cells outputs)
    (numbers : List ℕ) (room : 128 ≤ length numbers) (leaves : List ℕ) (el : leaves ≡ take n (put_all (λ i. i) numbers n))
  where
    abbrev N : Network
    N = network_of m n o weights counts cells outputs

    all_leaves : leaves ≡ range n
    all_leaves = el ∙ counted_range numbers n (omega (arith, facts.few_leaves))

    leaves_many : length leaves ≡ n
    leaves_many = ap length all_leaves ∙ range_length 0 n

    pub whole_many : length leaves ≤ 128
    whole_many = omega (arith, leaves_many, facts.few_leaves)

    -- the lengths fit
    pub whole_fits : (ws : List ℕ) → bisection_words ≤ length ws → Fits 4 n 0 (take m weights) (take o outputs) leaves ws
    whole_fits ws h =
        record {
          indices = omega (arith, length-take-le m weights hm, facts.few_indices);
          leaf_sets = omega (arith, facts.few_leaves);
          few = whole_many;
          outputs_fit = omega (arith, length-take-le o outputs ho, facts.few_outputs);
          words = omega arith;
          array = omega arith;
        }

    pub whole_few : 0 + length leaves ≤ 4096
    whole_few = omega (arith, leaves_many, facts.few_leaves)

    asks : (kids : List ℕ) → Asks N [] n 0 (take m weights) counts cells (take o outputs) leaves kids
    asks kids = asks_front m n o weights counts cells outputs hm ho facts.accepted leaves all_leaves kids

    pub whole_named : List ℕ → Named (take m weights) counts cells leaves
    whole_named kids = record { network = N; names = names_of (asks kids) }

    -- the definition starts with all leaves, as many as there is fuel, and with all of the words
    from_all : (i cutoff : ℕ) (words : List ℕ)
        → bisection N i cutoff words ≡ and_then (halved N (imbalance i) cutoff leaves [] (lent_words words)) (λ h. Ok (bisected_from words h))
    unfolding bisection halved
    from_all i cutoff words =
        ap (λ (x : Result Halved Refusal). and_then x (λ h. Ok (bisected_from words h)))
        (ap₂ (λ (k : ℕ) (l : List ℕ). bisect_rec N (imbalance i) cutoff k l [] (lent_words words)) (count_is ∙ sym leaves_many) (ap range count_is ∙ sym all_leaves))
      where
        count_is : leaf_count N ≡ n
        count_is = layout_leaf_count m n o weights counts cells outputs

    pub whole_answer : (i cutoff : ℕ) (words : List ℕ) (at : Words) → at ≡ lent_words words → (eps : Float) → eps ≡ imbalance i → (kids₀ kids : List ℕ) (answer : Result ℕ Refusal) (next : Words)
        → ((N : Network) (a : List Pair) → Asks N a n 0 (take m weights) counts cells (take o outputs) leaves kids₀
        → Halves N eps cutoff a leaves at kids₀ kids answer next)
        → Whole N i cutoff words kids₀ kids answer next
    whole_answer i cutoff words at ea eps ee kids₀ kids answer next f =
        go (subst (λ (w : Words). Halves N (imbalance i) cutoff [] leaves w kids₀ kids answer next) ea
        (subst (λ (x : Float). Halves N x cutoff [] leaves at kids₀ kids answer next) ee (f N [] (asks kids₀))))
      where
        go : Halves N (imbalance i) cutoff [] leaves (lent_words words) kids₀ kids answer next → Whole N i cutoff words kids₀ kids answer next
        go (is_off r t e q) = is_refused r t e (from_all i cutoff words ∙ ap (λ (x : Result Halved Refusal). and_then x (λ h. Ok (bisected_from words h))) q)
        go (is_tree top e l b q w k t) =
            is_plan top e l b.pairs
            (from_all i cutoff words ∙ ap (λ (x : Result Halved Refusal). and_then x (λ h. Ok (bisected_from words h))) q)
            w (omega (arith, k, leaves_many, layout_leaf_count m n o weights counts cells outputs))

-- lists that are as long as the network
module _ (weights counts cells outputs : List ℕ) (facts : Facts (length weights) (length counts) (length outputs) weights counts cells outputs)
    (numbers : List ℕ) (room : 128 ≤ length numbers) (leaves : List ℕ) (el : leaves ≡ take (length counts) (put_all (λ i. i) numbers (length counts)))
  where
    abbrev n : ℕ
    n = length counts

    asked : {N : Network} {a : List Pair} {kids : List ℕ} → Asks N a n 0 (take (length weights) weights) counts cells (take (length outputs) outputs) leaves kids
        → Asks N a n 0 weights counts cells outputs leaves kids
    asked {N} {a} {kids} s =
        subst (λ (o : List ℕ). Asks N a n 0 weights counts cells o leaves kids) (take-length outputs)
        (subst (λ (w : List ℕ). Asks N a n 0 w counts cells (take (length outputs) outputs) leaves kids) (take-length weights) s)

    asks_exact : (kids : List ℕ) → Asks (lists_net weights counts cells outputs) [] n 0 weights counts cells outputs leaves kids
    asks_exact kids = asked (asks (length weights) n (length outputs) weights counts cells outputs (omega arith) (omega arith) facts numbers room leaves el kids)

    pub named_exact : List ℕ → Named weights counts cells leaves
    named_exact kids = record { network = lists_net weights counts cells outputs; names = names_of (asks_exact kids) }

    pub answer_exact : (i cutoff : ℕ) (words : List ℕ) (at : Words) → at ≡ lent_words words → (eps : Float) → eps ≡ imbalance i → (kids₀ kids : List ℕ) (answer : Result ℕ Refusal) (next : Words)
        → ((N : Network) (a : List Pair) → Asks N a n 0 weights counts cells outputs leaves kids₀
        → Halves N eps cutoff a leaves at kids₀ kids answer next)
        → Whole (lists_net weights counts cells outputs) i cutoff words kids₀ kids answer next
    answer_exact i cutoff words at ea eps ee kids₀ kids answer next f =
        whole_answer (length weights) n (length outputs) weights counts cells outputs (omega arith) (omega arith) facts numbers room leaves el i cutoff words at ea eps ee kids₀ kids answer next
        (λ N a s. f N a (asked s))
