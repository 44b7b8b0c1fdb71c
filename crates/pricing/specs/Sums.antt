-- The loops over nodes and flags: total, widest, slice bits. Assumes nothing.
use Rattle.std.specs.Prelude.{not, cond, ◌≡◌, refl, List, [], ◌∷◌, ◌++◌, ℕ, zero, suc, ◌+◌, ◌-◌, ◌*◌, ◌%◌, ◌^◌, ◌≤◌, ◌<◌, min, max, eqb, length, get_or, take, drop, Some, fold}
use Rattle.std.specs.List.{reduce}
use Rattle.std.proofs.lemmas.List.{get_or-take, get_or-drop, length-drop}
use lib.Seq.{length-take-le}
use Rattle.std.proofs.Common.{◌∙◌, ap, arith, pow_mono, ne_eqb, lt-ltb, le-ltb}
use Rattle.std.proofs.Math.Decide.{dec_le}
use Rattle.std.proofs.Math.ListN.{get_or-eq_default}
use Rattle.spec.specs.declared.Total.TheVariants.{Exact, Beyond}
use Rattle.spec.specs.Lists.{from, range, sum_of}
use Rattle.spec.specs.Layout.{firsts}
use Rattle.spec.specs.Price.{up_to, largest}
use Rattle.laws.specs.ListLaws.{sum_append}
use Rattle.laws.specs.LayoutLaws.{firsts_is, firsts_at}
use Rattle.bits.specs.Bit.{one_shl}
use Rattle.slots.specs.Weigh.{Light}
use Rattle.pricing.specs.Answers.{widest_in}

-- ---- a stretch of numbers in two parts ----

pub from-add : (b k d : ℕ) → from b (k + d) ≡ from b k ++ from (b + k) d
from-add b zero d =
    let e : zero + d ≡ d = omega arith in
    let f : b + zero ≡ b = omega arith in
    rw (e, f)
from-add b (suc k) d =
    let e : suc k + d ≡ suc (k + d) = omega arith in
    let f : b + suc k ≡ suc b + k = omega arith in
    rw (e, f) (ap (λ (l : List ℕ). b ∷ l) (from-add (suc b) k d))

sum_more : (g : ℕ → ℕ) (b k : ℕ) → sum_of g (from b (k + 1)) ≡ sum_of g (from b k) + g (b + k)
sum_more g b k = ap (sum_of g) (from-add b k 1) ∙ sum_append g (from b k) (from (b + k) 1) ∙ omega arith

sum_grows : (g : ℕ → ℕ) (b k c : ℕ) → k ≤ c → sum_of g (from b k) ≤ sum_of g (from b c)
sum_grows g b k c h =
    let e : c ≡ k + (c - k) = omega arith in
    rw e (omega (arith, ap (sum_of g) (from-add b k (c - k)), sum_append g (from b k) (from (b + k) (c - k))))

-- ---- total ----

-- the sum of 2 to the work bits of the c nodes from n on
unfoldable pub work_sum : List ℕ → ℕ → ℕ → ℕ
work_sum works n c = sum_of (λ v. 2 ^ get_or works v 0) (from n c)

-- the c places from n on, and place k of them
pub part_length : (works : List ℕ) (n c : ℕ) → n + c ≤ length works → length (take (n + c - n) (drop n works)) ≡ c
part_length works n c h =
    let e : n + c - n ≡ c = omega arith in
    rw e (length-take-le c (drop n works) (omega (arith, length-drop n works)))

pub part_at : (works : List ℕ) (n c k b : ℕ) → k < c → b ≡ get_or (take (n + c - n) (drop n works)) k 0 → b ≡ get_or works (n + k) 0
part_at works n c k b h e = e ∙ get_or-take (n + c - n) (drop n works) k 0 (omega arith) ∙ get_or-drop n works k 0

pub sum_none : (works : List ℕ) (n : ℕ) → 0 ≡ work_sum works n 0
unfolding work_sum
sum_none works n = refl

pub shl_small : (b : ℕ) → b < 53 → 1 * 2 ^ b % 2 ^ 64 ≤ 4503599627370496
shl_small b h = rw (one_shl b (omega arith)) (let m : 2 ^ b ≤ 2 ^ 52 = pow_mono (let q : b ≤ 52 = omega arith in q) in omega arith)

pub sum_next : (works : List ℕ) (n k sum b : ℕ) → sum ≡ work_sum works n k → b ≡ get_or works (n + k) 0 → b < 53
    → sum + 1 * 2 ^ b % 2 ^ 64 ≡ work_sum works n (k + 1)
unfolding work_sum
sum_next works n k sum b h e l =
    let z : 1 * 2 ^ b % 2 ^ 64 ≡ 2 ^ get_or works (n + k) 0 = one_shl b (omega arith) ∙ ap (λ (x : ℕ). 2 ^ x) e in
    omega (arith, h, z, sum_more (λ v. 2 ^ get_or works v 0) n k)

-- the sum is beyond once a part of it is
pub beyond_at : (works : List ℕ) (n k c x : ℕ) → k ≤ c → x ≡ work_sum works n k → 9007199254740992 ≤ x → Beyond ≡ up_to (work_sum works n c)
unfolding work_sum
beyond_at works n k c x h e b =
    rw (le-ltb (sum_of (λ v. 2 ^ get_or works v 0) (from n c)) (2 ^ 53) (omega (arith, e, sum_grows (λ v. 2 ^ get_or works v 0) n k c h)))

pub beyond_step : (works : List ℕ) (n k c b : ℕ) → k < c → b ≡ get_or works (n + k) 0 → 53 ≤ b → Beyond ≡ up_to (work_sum works n c)
unfolding work_sum
beyond_step works n k c b h e l =
    let m : 2 ^ 53 ≤ 2 ^ b = pow_mono l in
    let q : 2 ^ b ≡ 2 ^ get_or works (n + k) 0 = ap (λ (x : ℕ). 2 ^ x) e in
    beyond_at works n (k + 1) c (work_sum works n (k + 1)) (omega arith) refl (omega (arith, m, q, sum_more (λ v. 2 ^ get_or works v 0) n k))

pub exact_at : (works : List ℕ) (n k c x : ℕ) → k ≡ c → x ≡ work_sum works n k → x < 9007199254740992 → Exact x ≡ up_to (work_sum works n c)
exact_at works n k c x h e b = rw (← h, ← e, lt-ltb x (2 ^ 53) (omega arith))

-- ---- widest ----

pub largest-append : (k l : List ℕ) → largest (k ++ l) ≡ max (largest k) (largest l)
largest-append [] l = omega arith
largest-append (x ∷ k) l = omega (arith, largest-append k l)

fold_largest : (x : ℕ) (l : List ℕ) → fold max x l ≡ max x (largest l)
fold_largest x [] = omega arith
fold_largest x (y ∷ l) = omega (arith, fold_largest (max x y) l)

pub reduce_widest : (l : List ℕ) → reduce max l ≡ widest_in l
reduce_widest [] = refl
reduce_widest (x ∷ l) = rw (ne_eqb (length (x ∷ l)) 0 (λ e. absurd (omega arith))) (ap Some (fold_largest x l))

pub firsts_front : (m : ℕ) (l : List ℕ) → m ≤ length l → take m l ≡ firsts m l
firsts_front m l h = firsts_is m l (take m l) (length-take-le m l h) (λ i b. get_or-take m l i 0 b)

-- ---- slice bits ----

-- the weight of index j, if it is flagged
abbrev pub slice_share : (weights flags : List ℕ) → ℕ → ℕ
slice_share weights flags j = cond (not (eqb (get_or flags j 0) 0)) (get_or weights j 0) 0

pub slice_none : (weights flags : List ℕ) → 0 ≡ sum_of (slice_share weights flags) (range 0)
slice_none weights flags = refl

pub slice_next : (weights flags : List ℕ) (k sum x : ℕ) → sum ≡ sum_of (slice_share weights flags) (range k) → x ≡ slice_share weights flags k
    → sum + x ≡ sum_of (slice_share weights flags) (range (k + 1))
slice_next weights flags k sum x h e =
    let z : 0 + k ≡ k = omega arith in
    omega (arith, h, e, sum_more (slice_share weights flags) 0 k, ap (slice_share weights flags) z)

no_share : (weights flags : List ℕ) (b d : ℕ) → length flags ≤ b → sum_of (slice_share weights flags) (from b d) ≡ 0
no_share weights flags b zero h = refl
no_share weights flags b (suc d) h =
    let f : get_or flags b 0 ≡ 0 = get_or-eq_default flags 0 h in
    rw f (omega (arith, no_share weights flags (suc b) d (omega arith)))

-- past the flags nothing is added
pub slice_end : (weights flags : List ℕ) (k m sum : ℕ) → k ≡ min m (length flags) → sum ≡ sum_of (slice_share weights flags) (range k)
    → sum ≡ sum_of (slice_share weights flags) (range m)
slice_end weights flags k m sum e h =
    elim (dec_le m (length flags)) [
      | yes q ↦ (let z : k ≡ m = omega arith in rw (← z) h)
      | no q ↦ (let z : m ≡ k + (m - k) = omega arith in
          rw z (omega (
            arith,
            h,
            ap (sum_of (slice_share weights flags)) (from-add 0 k (m - k)),
            sum_append (slice_share weights flags) (range k) (from (0 + k) (m - k)),
            no_share weights flags (0 + k) (m - k) (omega arith),
          )))
    ]

-- no weight is above 8
pub slice_light : (weights : List ℕ) (m j : ℕ) → Light (firsts m weights) → j < m → get_or weights j 0 ≤ 8
slice_light weights m j l h = omega (arith, l j, firsts_at m weights j h)
