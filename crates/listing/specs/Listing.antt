-- The listing's bytes in the lent buffer, and the refusals before it. Assumes nothing.
use Rattle.std.specs.Prelude.{◌≡◌, refl, true, length, take, drop, Result, Err, Ok}
use Rattle.std.proofs.Common.{sym, ◌∙◌, arith, take_at, le-ltb, lt-ltb}
use Rattle.std.proofs.Math.Path.{ap, ap₂}
use Rattle.std.proofs.Math.Bool.{false}
use mathlib.Core.List.{List}
use Prim.Native.Nat.{ℕ, ◌+◌, ◌*◌, ◌-◌, ◌≤◌, ◌<◌}
use Rattle.spec.specs.Memory.{over, placed}
use Rattle.spec.specs.Network.{Network, leaf_count, network_checks, accepted}
use Rattle.spec.specs.Tree.{valid, pairs_of}
use Rattle.spec.specs.Price.{Step, listing, flat_steps, price_of}
use Rattle.spec.specs.declared.Prices.{Prices}
use Rattle.spec.specs.declared.Refusal.{Refusal}
use Rattle.spec.specs.declared.Refusal.TheVariants.{ShortBuffer}
use Rattle.spec.specs.Refusal.{number_of, code_of}
use Rattle.spec.specs.Calls.{plain_words, step_places, PriceRoom, price_checks, price_call, priced_steps, flag_at}
use Rattle.spec.specs.FileClaims.{refusal_in}
use Rattle.spec.specs.Host.{two_each, head_bytes, listing_bytes, listing_length, full_room, listing_call, host_after, Answered}
use Rattle.laws.specs.Results.{done_same, checked_done}
use Rattle.laws.specs.FileFields.{fails_passes, fails_tree}
use Rattle.laws.specs.FileLists.{over_front}
use Rattle.laws.specs.OrderLaws.{listing_length_lem}
use Rattle.cells.specs.Cells.{placed_next}
use Rattle.network.specs.Record.{net_of}
use Rattle.network.specs.Layouts.{leaf_count_lem}
use Rattle.network.specs.declared.Network.{Network as Record}
use Rattle.pricing.specs.Handed.{flat_length}
use Rattle.cost.specs.Answers.{room, told, TreeCost}
use Rattle.listing.specs.Head.{head_length}

-- the lists that pricing fills have the places of the largest network
pub record FullRoom (ws sets sizes works steps : List ℕ) : Type 0 where
  pub word_places : length ws ≡ plain_words
  pub set_places : length sets ≡ 1020
  pub size_places : length sizes ≡ 255
  pub work_places : length works ≡ 255
  pub step_numbers : length steps ≡ 635

module _ (N : Network) (flags kids : List ℕ) where
  -- where pricing answers, the network is accepted, the tree is valid, and the answer is the prices
  module _ (words : ℕ) (room : PriceRoom) (p : Prices) (e : price_call N words room flags kids ≡ Ok p) where
    pub priced : (valid (leaf_count N) (pairs_of kids) ≡ true) × (price_of N (flag_at flags) (pairs_of kids) ≡ p) × (accepted N ≡ true)
    unfolding price_call
    priced =
        let (f, q) = checked_done (price_checks N words room flags kids) (Ok (price_of N (flag_at flags) (pairs_of kids))) p e in (
          (fails_tree N kids (f.1.1.1.1.1.0, tt)).1,
          done_same (price_of N (flag_at flags) (pairs_of kids)) p q,
          fails_passes (network_checks false N) (f.0, (f.1.0, (f.1.1.0, (f.1.1.1.0, tt)))),
        )

    -- the listing's flat list, as pricing leaves it in front of its list
    steps_taken : (s t : List ℕ) → step_places N * 5 ≤ length s → t ≡ priced_steps N flags kids (Ok p) s
        → take (step_places N * 5) t ≡ flat_steps (listing N (flag_at flags) (pairs_of kids))
    steps_taken s t h q =
        let l : List Step = listing N (flag_at flags) (pairs_of kids) in
        let k : length (flat_steps l) ≡ step_places N * 5 =
        flat_length l ∙ ap (λ (n : ℕ). n * 5) (listing_length_lem N (flag_at flags) (pairs_of kids) priced.0) in
        ap (take (step_places N * 5)) (q ∙ over_front s (flat_steps l) (omega arith))
        ∙ take_at (flat_steps l) (drop (length (flat_steps l)) s) (step_places N * 5) k

    -- the head and then the steps are the listing's bytes
    pub listing_placed : {a b : List ℕ} (d s t : List ℕ) → step_places N * 5 ≤ length s → t ≡ priced_steps N flags kids (Ok p) s
        → a ≡ placed d 0 (head_bytes (step_places N) p) → b ≡ placed a 16 (two_each (take (step_places N * 5) t))
        → b ≡ over d (listing_bytes N (flag_at flags) (pairs_of kids))
    unfolding placed
    listing_placed {a} {b} d s t h q i j =
        let l : List Step = listing N (flag_at flags) (pairs_of kids) in
        let e : head_bytes (step_places N) p ≡ head_bytes (length l) (price_of N (flag_at flags) (pairs_of kids)) =
        ap₂ head_bytes (sym (listing_length_lem N (flag_at flags) (pairs_of kids) priced.0)) (sym priced.1) in
        let x : List ℕ = head_bytes (length l) (price_of N (flag_at flags) (pairs_of kids)) in
        let y : List ℕ = two_each (flat_steps l) in
        j
        ∙ ap₂ (λ c f. placed c 16 (two_each f)) (i ∙ ap (placed d 0) e) (steps_taken s t h q)
        ∙ ap (λ (n : ℕ). placed (placed d 0 x) (0 + n) y) (sym (head_length (length l) (price_of N (flag_at flags) (pairs_of kids))))
        ∙ placed_next d x y 0

  -- ---- the answer ----

  module _ (size : ℕ) where
    pub no_room : size < listing_length N → listing_call size N flags kids ≡ Err ShortBuffer
    unfolding listing_call
    no_room h = rw (lt-ltb size (listing_length N) h)

    module _ (h : listing_length N ≤ size) where
      pub not_priced : (r : Refusal) → price_call N plain_words full_room flags kids ≡ Err r → listing_call size N flags kids ≡ Err r
      unfolding listing_call
      not_priced r e = rw (le-ltb size (listing_length N) h, e)

      pub is_priced : (p : Prices) → price_call N plain_words full_room flags kids ≡ Ok p
          → listing_call size N flags kids ≡ Ok (listing_bytes N (flag_at flags) (pairs_of kids))
      unfolding listing_call
      is_priced p e = rw (le-ltb size (listing_length N) h, e)

-- ---- the number and the buffer ----

pub answered_refused : {x : Result (List ℕ) Refusal} {n : ℕ} (r : Refusal) (out : List ℕ) → x ≡ Err r → n ≡ number_of r → Answered x n out out
answered_refused r out e q = rw e (q, refl)

-- what a caller is told, and the buffer
abbrev pub Tells : Result (List ℕ) Refusal → Result (Unit {0}) Refusal → List ℕ → List ℕ → Type 0
Tells c r out after = (r ≡ told c) × (after ≡ host_after c out)

-- the same with the number
told_number : (c : Result (List ℕ) Refusal) → code_of (refusal_in (told c)) ≡ code_of (refusal_in c)
told_number (Err r) = refl
told_number (Ok x) = refl

pub tells_number : (c : Result (List ℕ) Refusal) (r : Result (Unit {0}) Refusal) (out after : List ℕ) {k : ℕ} → Tells c r out after
    → k ≡ code_of (refusal_in r) → Answered c k out after
tells_number c r out after t e = (e ∙ ap (λ x. code_of (refusal_in x)) t.0 ∙ told_number c, t.1)

pub tells_refused : {c : Result (List ℕ) Refusal} (r : Refusal) (out : List ℕ) → c ≡ Err r → Tells c (Err r) out out
tells_refused r out e = rw e (refl, refl)

tells_done : {c : Result (List ℕ) Refusal} {after : List ℕ} (bytes out : List ℕ) → c ≡ Ok bytes → after ≡ over out bytes → Tells c (Ok tt) out after
tells_done bytes out e q = rw e (refl, q)

module _ (R : Record) (flags kids out : List ℕ) where
  pub tells_short : {n : ℕ} → n ≡ R.leaf_count - 1 → length out < 16 + n * 10
      → Tells (listing_call (length out) (net_of R) flags kids) (Err ShortBuffer) out out
  tells_short e h =
      tells_refused ShortBuffer out (no_room (net_of R) flags kids (length out) (omega (arith, leaf_count_lem R)))

  pub enough : {n : ℕ} → n ≡ R.leaf_count - 1 → 16 + n * 10 ≤ length out → listing_length (net_of R) ≤ length out
  enough e h = omega (arith, leaf_count_lem R)

  -- with the lists that pricing fills; c is its call
  module _ {ws sets sizes works steps : List ℕ} (full : FullRoom ws sets sizes works steps) {c : Result Prices Refusal}
      (own : c ≡ price_call (net_of R) (length ws) (room (length sets) (length sizes) (length works) (length steps)) flags kids) where
    pub same_call : c ≡ price_call (net_of R) plain_words full_room flags kids
    same_call = cc

    module _ {n : ℕ} (e : n ≡ R.leaf_count - 1) (h : 16 + n * 10 ≤ length out) where
      pub answer_refused : {r : Refusal} → c ≡ Err r → Tells (listing_call (length out) (net_of R) flags kids) (Err r) out out
      answer_refused {r} q = tells_refused r out (not_priced (net_of R) flags kids (length out) (enough e h) r (sym same_call ∙ q))

      pub answer_done : {p : Prices} {t after : List ℕ} → R.leaf_count ≤ 128 → c ≡ Ok p
          → t ≡ priced_steps (net_of R) flags kids c steps
          → after ≡ placed (placed out 0 (head_bytes n p)) 16 (two_each (take (n * 5) t))
          → Tells (listing_call (length out) (net_of R) flags kids) (Ok tt) out after
      answer_done {p} {t} {after} few q s a =
          let N : Network = net_of R in
          let y : price_call N plain_words full_room flags kids ≡ Ok p = sym same_call ∙ q in
          let m : n ≡ step_places N = omega (arith, leaf_count_lem R) in
          tells_done (listing_bytes N (flag_at flags) (pairs_of kids)) out
          (is_priced N flags kids (length out) (enough e h) p y)
          (listing_placed N flags kids plain_words full_room p y out steps t
          (omega (arith, leaf_count_lem R, full.step_numbers))
          (s ∙ ap (λ z. priced_steps N flags kids z steps) q)
          refl
          (a ∙ ap (λ k. placed (placed out 0 (head_bytes k p)) 16 (two_each (take (k * 5) t))) m))

  -- the same where c is what pricing promises
  module _ {ws sets sizes works steps ws' sets' sizes' works' steps' : List ℕ} (full : FullRoom ws sets sizes works steps) {x : Result Prices Refusal}
      (cost : TreeCost (net_of R) flags kids ws sets sizes works steps ws' sets' sizes' works' steps' x)
      {n : ℕ} (e : n ≡ R.leaf_count - 1) (h : 16 + n * 10 ≤ length out) where
    pub tells_priced_not : {r : Refusal} → x ≡ Err r → Tells (listing_call (length out) (net_of R) flags kids) (Err r) out out
    tells_priced_not q = answer_refused full cost.answered.answer e h q

    pub tells_priced : {p : Prices} {after : List ℕ} → R.leaf_count ≤ 128 → x ≡ Ok p
        → after ≡ placed (placed out 0 (head_bytes n p)) 16 (two_each (take (n * 5) steps'))
        → Tells (listing_call (length out) (net_of R) flags kids) (Ok tt) out after
    tells_priced few q a =
        answer_done full cost.answered.answer e h few q
        (cost.answered.steps_are ∙ ap (λ z. priced_steps (net_of R) flags kids z steps) (sym cost.answered.answer)) a
