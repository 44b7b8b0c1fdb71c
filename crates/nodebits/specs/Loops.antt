-- One turn of each loop, and its end. Assumes nothing.
use Rattle.std.specs.Prelude.{Bool, true, false, not, ◌&&◌, ◌||◌, cond, ◌≡◌, refl, List, [], ◌∷◌, map, ℕ, suc, zero, ◌+◌, ◌*◌, ◌≤◌, ◌<◌, min, eqb, length, get_or, set, take, drop, ◌++◌, ◌-◌}
use Rattle.std.proofs.Common.{sym, ◌∙◌, ap, ap₂, arith, length-set, get_or-set_same, get_or-set_other, add-one, take-suc, length-append, length-drop}
use Rattle.std.proofs.lemmas.List.{get_or-take, get_or-drop, get_or-append_right, length-take-le}
use Rattle.std.proofs.Math.Decide.{ℕ_discrete, dec_le}
use Rattle.std.specs.Int.Bits.{bit_and, bit_or}
use Rattle.std.proofs.Math.ListN.{get_or-eq_default, get_or-append}
use Rattle.spec.specs.Lists.{range, from, keep, sum_of}
use Rattle.spec.specs.Layout.{firsts}
use Rattle.spec.specs.Memory.{filled, over, copied}
use Rattle.laws.specs.ListLaws.{sum_append, range_length, keep_length, sum_bound}
use Rattle.laws.specs.LayoutLaws.{map_range_at, map_range_length, firsts_length, firsts_at, firsts_none, firsts_more}
use Rattle.cells.specs.Cells.{filled_length, filled_all, copied_at, copied_past, copied_next, copied_all}
use Rattle.bits.specs.Digits.{or_digits, and_digits, diff_digits, bit_diff}
use Rattle.spec.specs.Members.{All}
use Rattle.laws.specs.Booleans.{by_cases}
use Rattle.bits.specs.Lowest.{Tests, places}
use Rattle.slots.specs.Slots.{held, held-digit}
use Rattle.slots.specs.Weigh.{open_weight, Light, weighed, either, open_light}
use Rattle.nodebits.specs.Bits.{Effective, StepKnown, size_of, work_of}
use Rattle.nodebits.specs.Weights.{weighed_either, weighed_part}

-- ---- weights of flagged indices made 0 ----

-- the first i places are done
pub record Clearing (old flags : List ℕ) (i : ℕ) (now : List ℕ) : Type 0 where
  pub same : length now ≡ length old
  pub done : (j : ℕ) → j < i → get_or now j 0 ≡ open_weight old flags j
  pub rest : (j : ℕ) → i ≤ j → get_or now j 0 ≡ get_or old j 0

pub clearing_none : (old flags : List ℕ) → Clearing old flags 0 old
clearing_none old flags = record { same = refl; done = λ j h. absurd (omega arith); rest = λ j h. refl }

pub clearing_next : (old flags now : List ℕ) (i x : ℕ) → i < length old → x ≡ cond (not (eqb (get_or flags i 0) 0)) 0 (get_or now i 0)
    → Clearing old flags i now → Clearing old flags (i + 1) (set now i x)
clearing_next old flags now i x h e c =
    record {
      same = simp length-set c.same;
      done = λ j b. elim (ℕ_discrete j i) [
        | yes q ↦ rw q (get_or-set_same now i x 0 (omega (arith, c.same)) ∙ e
            ∙ ap (λ (y : ℕ). cond (not (eqb (get_or flags i 0) 0)) 0 y) (c.rest i (omega arith)))
        | no q ↦ get_or-set_other now i j x 0 q ∙ c.done j (omega (arith, q))
      ];
      rest = λ j b. get_or-set_other now i j x 0 (λ q. omega arith) ∙ c.rest j (omega arith);
    }

nothing : (b : Bool) (x : ℕ) → x ≡ 0 → x ≡ cond b 0 x
nothing true x e = e
nothing false x e = refl

pub clearing_end : (old flags now : List ℕ) (i m : ℕ) → m ≤ i → m ≡ min (length old) (length flags) → Clearing old flags i now → (j : ℕ)
    → get_or now j 0 ≡ open_weight old flags j
clearing_end old flags now i m h e c j =
    elim (dec_le i j) [
      | yes q ↦ c.rest j q ∙ elim (dec_le (length flags) j) [
        | yes z ↦ (let f : get_or flags j 0 ≡ 0 = get_or-eq_default flags 0 z in rw f)
        | no z ↦ nothing (not (eqb (get_or flags j 0) 0)) (get_or old j 0) (get_or-eq_default old 0 (omega arith))
      ]
      | no q ↦ c.done j (omega arith)
    ]

-- the front that was lent, back before what stands after it
pub clearing_back : (old flags front : List ℕ) (i n : ℕ) → length (take n old) ≤ i → n ≡ min (length old) (length flags)
    → Clearing (take n old) flags i front → (j : ℕ) → get_or (front ++ drop n old) j 0 ≡ open_weight old flags j
clearing_back old flags front i n h e c =
    let few : length (take n old) ≡ n = length-take-le n old (omega arith) in
    let long : length front ≡ n = c.same ∙ few in
    clearing_end old flags (front ++ drop n old) n n (omega arith) e (record {
      same = omega (arith, length-append front (drop n old), length-drop n old);
      done = λ j b. get_or-append front (drop n old) 0 j (omega arith) ∙ c.done j (omega arith)
          ∙ ap (λ (x : ℕ). cond (not (eqb (get_or flags j 0) 0)) 0 x) (get_or-take n old j 0 b);
      rest = λ j b. let k : n + (j - n) ≡ j = omega arith in
          get_or-append_right front (drop n old) n j 0 long b ∙ get_or-drop n old (j - n) 0 ∙ ap (λ (m : ℕ). get_or old m 0) k;
    })

-- a list made 0, with the weights copied to its front, and then cleared
pub effective_is : (old zeros copy weights flags new : List ℕ) (m : ℕ) → m ≤ length weights → m ≤ length old → zeros ≡ filled (length old) 0
    → copy ≡ copied zeros weights m → ((j : ℕ) → get_or new j 0 ≡ open_weight copy flags j) → Effective (firsts m weights) flags new
effective_is old zeros copy weights flags new m h k z f e j =
    e j ∙ ap (λ (x : ℕ). cond (not (eqb (get_or flags j 0) 0)) 0 x) (ap (λ (l : List ℕ). get_or l j 0) f ∙ there)
  where
    there : get_or (copied zeros weights m) j 0 ≡ get_or (firsts m weights) j 0
    there =
        let l : length zeros ≡ length old = ap length z ∙ filled_length {A = ℕ} (length old) 0 in
        elim (dec_le m j) [
          | yes q ↦ copied_past zeros weights m j 0 (omega arith) ∙ rw z (filled_all (length old) j 0)
              ∙ sym (get_or-eq_default (firsts m weights) 0 (omega (arith, firsts_length m weights)))
          | no q ↦ copied_at zeros weights m j 0 (omega arith) (omega arith) (omega arith) ∙ sym (firsts_at m weights j (omega arith))
        ]

-- ---- a leaf's indices ----

pub leg_next : (effective leaf : List ℕ) (k sum x : ℕ) → k < length leaf → sum ≡ sum_of (open_weight effective []) (take k leaf)
    → x ≡ get_or effective (get_or leaf k 0) 0 → sum + x ≡ sum_of (open_weight effective []) (take (k + 1) leaf)
leg_next effective leaf k sum x b h f =
    omega (
      arith,
      h,
      f,
      ap (sum_of (open_weight effective [])) (ap (λ (n : ℕ). take n leaf) (add-one k) ∙ take-suc leaf k 0 b),
      sum_append (open_weight effective []) (take k leaf) (get_or leaf k 0 ∷ []),
    )

-- the same of a leaf's legs in a list of many leaves', from place `base` on, also past its end
pub leg_next_front : (effective legs : List ℕ) (base k sum i x : ℕ) → sum ≡ sum_of (open_weight effective []) (firsts k (drop base legs))
    → i ≡ get_or legs (base + k) 0 → x ≡ get_or effective i 0 → sum + x ≡ sum_of (open_weight effective []) (firsts (k + 1) (drop base legs))
leg_next_front effective legs base k sum i x h e f =
    let z : x ≡ open_weight effective [] (get_or (drop base legs) k 0) = f ∙ ap (λ (y : ℕ). get_or effective y 0) (e ∙ sym (get_or-drop base legs k 0)) in
    omega (
      arith,
      h,
      z,
      ap (sum_of (open_weight effective [])) (firsts_more k (drop base legs)),
      sum_append (open_weight effective []) (firsts k (drop base legs)) (get_or (drop base legs) k 0 ∷ []),
    )

pub leg_none : (effective legs : List ℕ) (base : ℕ) → 0 ≡ sum_of (open_weight effective []) (firsts 0 (drop base legs))
leg_none effective legs base = sym (ap (sum_of (open_weight effective [])) (firsts_none (drop base legs)))

pub leg_most : (effective legs : List ℕ) (base k sum : ℕ) → Light effective → sum ≡ sum_of (open_weight effective []) (firsts k (drop base legs)) → sum ≤ k * 8
leg_most effective legs base k sum l h =
    omega (arith, h, sum_bound (open_weight effective []) 8 (firsts k (drop base legs)) (open_light effective [] l), firsts_length k (drop base legs))

-- ---- consecutive places ----

-- the first k of f 0, .., f (n - 1), at the front of a list
abbrev pub put_to : List ℕ → (ℕ → ℕ) → ℕ → ℕ → List ℕ
put_to old f n k = copied old (map f (range n)) k

pub put_next : (old now : List ℕ) (f : ℕ → ℕ) (n k x : ℕ) → k < n → now ≡ put_to old f n k → x ≡ f k → set now k x ≡ put_to old f n (k + 1)
put_next old now f n k x h e g =
    ap (set now k) (g ∙ sym (map_range_at f 0 n k h)) ∙ copied_next old (map f (range n)) k 0 (omega (arith, map_range_length f n)) e

pub put_end : (old now : List ℕ) (f : ℕ → ℕ) (n k : ℕ) → k ≡ n → now ≡ put_to old f n k → now ≡ over old (map f (range n))
put_end old now f n k e g =
    g ∙ ap (copied old (map f (range n))) (e ∙ sym (map_range_length f n)) ∙ copied_all old (map f (range n))

-- ---- the words of three slots ----

module _ (ws : List ℕ) (W l r v k x y z : ℕ) (ex : x ≡ get_or ws (l * W + k) 0) (ey : y ≡ get_or ws (r * W + k) 0) (ez : z ≡ get_or ws (v * W + k) 0) where
  tests_left : Tests (held ws W l) (k * 64) 64 x
  tests_left i h = rw ex (held-digit ws W l k i h)

  tests_right : Tests (held ws W r) (k * 64) 64 y
  tests_right i h = rw ey (held-digit ws W r k i h)

  tests_node : Tests (held ws W v) (k * 64) 64 z
  tests_node i h = rw ez (held-digit ws W v k i h)

  pub tests_shared : Tests (λ j. held ws W l j && held ws W r j) (k * 64) 64 (bit_and x y)
  tests_shared i h = ap₂ (λ (a b : Bool). a && b) (tests_left i h) (tests_right i h) ∙ sym (and_digits x y i)

  tests_either : Tests (either ws W l r) (k * 64) 64 (bit_or x y)
  tests_either i h = ap₂ (λ (a b : Bool). a || b) (tests_left i h) (tests_right i h) ∙ sym (or_digits x y i)

  pub tests_dropped : Tests (λ j. either ws W l r j && not (held ws W v j)) (k * 64) 64 (bit_diff (bit_or x y) z)
  tests_dropped i h = ap₂ (λ (a b : Bool). a && not b) (tests_either i h) (tests_node i h) ∙ sym (diff_digits (bit_or x y) z i)

-- ---- a step ----

pub weighed_most : (wt fl : List ℕ) (p : ℕ → Bool) (n : ℕ) → Light wt → weighed wt fl p n ≤ n * 8
unfolding weighed
weighed_most wt fl p n l =
    omega (arith, sum_bound (open_weight wt fl) 8 (keep p (range n)) (open_light wt fl l), keep_length p (range n), range_length 0 n)

-- the sums of a step: what is taken off is there, and what is left is small
pub record StepSums (left right shared dropped w s : ℕ) : Type 0 where
  pub work : left + right ≡ w + shared
  pub size : w ≡ s + dropped
  pub small : w ≤ 8192

pub step_sums : (effective sets : List ℕ) (W l r v left right shared dropped : ℕ) → StepKnown W l r v sets effective
    → left ≡ size_of effective sets W l → right ≡ size_of effective sets W r
    → ((j : ℕ) → j < W * 64 → held sets W v j ≡ true → either sets W l r j ≡ true)
    → shared ≡ weighed effective [] (λ j. held sets W l j && held sets W r j) (W * 64)
    → dropped ≡ weighed effective [] (λ j. either sets W l r j && not (held sets W v j)) (W * 64)
    → StepSums left right shared dropped (work_of effective sets W l r) (size_of effective sets W v)
step_sums effective sets W l r v left right shared dropped k el er nested es ed =
    record {
      work = rw (el, er, es) (weighed_either effective [] (held sets W l) (held sets W r) (W * 64));
      size = rw ed (weighed_part effective [] (either sets W l r) (held sets W v) (W * 64) nested);
      small = omega (arith, k.narrow, weighed_most effective [] (either sets W l r) (W * 64) k.light);
    }

-- ---- the digits of a word ----

below_keep : (p : ℕ → Bool) (t b k : ℕ) → b + k ≤ t → All (λ i. i < t) (keep p (from b k))
below_keep p t b zero h = tt
below_keep p t b (suc k) h =
    let ih : All (λ i. i < t) (keep p (from (suc b) k)) = below_keep p t (suc b) k (omega arith) in
    by_cases (p b) (λ e. rw e (omega arith, ih)) (λ e. rw e ih)

pub places_below : (b k x : ℕ) → All (λ i. i < b + k) (places b k x)
unfolding places
places_below b k x = below_keep _ (b + k) b k (omega arith)
