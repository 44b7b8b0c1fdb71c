-- The members of a slot, rising: word by word, and in a word from its lowest set digit to the next. Assumes nothing.
use Rattle.std.specs.Prelude.{Bool, true, false, cond, ◌≡◌, refl, List, [], ◌∷◌, ◌++◌, ℕ, zero, suc, ◌+◌, ◌-◌, ◌*◌, ◌/◌, ◌^◌, ◌≤◌, ◌<◌, get_or, set, take}
use Rattle.std.proofs.Common.{sym, ◌∙◌, ap₂, arith, suc-mul, add-one, length-append}
use Rattle.std.proofs.Math.Path.{ap}
use Rattle.std.specs.Int.Count.{ones}
use Rattle.std.proofs.lemmas.Nat.{ones-le}
use Rattle.std.proofs.Math.ListN.{length}
use Rattle.std.specs.Prelude.{map}
use Rattle.std.specs.List.{sum, range_with_len}
use Rattle.std.proofs.lemmas.List.FromFn.{sum_by-map-range_with_len_more}
use Rattle.std.proofs.lemmas.List.Edits.{sets}
use Rattle.std.proofs.Math.Seq.{length-sets}
use Rattle.spec.specs.Lists.{memb, keep, from, range}
use Rattle.spec.specs.Members.{All}
use Rattle.laws.specs.ListLaws.{keep_ext, memb-keep-range, kept_few}
use Rattle.bits.specs.Digits.{digit}
use Rattle.bits.specs.Lowest.{Tests, places, places_ones, keep-places}
use Rattle.cells.specs.Cells.{take-sets}
use Rattle.slots.specs.Slots.{Words, held, with_set, held-digit, held_with}

-- the members of slot s, rising
unfoldable pub rising_of : List ℕ → ℕ → ℕ → List ℕ
rising_of ws W s = keep (held ws W s) (range (W * 64))

pub memb_rising : (ws : List ℕ) (W s j : ℕ) → j < W * 64 → memb j (rising_of ws W s) ≡ held ws W s j
unfolding rising_of
memb_rising ws W s j h = memb-keep-range j (W * 64) (held ws W s) h

pub rising_few : (ws : List ℕ) (W s : ℕ) → length (rising_of ws W s) ≤ W * 64
unfolding rising_of
rising_few ws W s = kept_few (held ws W s) (W * 64)

-- the members, put at the front of a list
module _ (ws out out' : List ℕ) (W s r : ℕ) (e : r ≡ length (rising_of ws W s)) (f : out' ≡ sets out 0 (rising_of ws W s)) (h : W * 64 ≤ length out) where
  pub listed_few : r ≤ W * 64
  listed_few = omega (arith, rising_few ws W s)

  pub listed_fits : r ≤ length out'
  listed_fits = omega (arith, rising_few ws W s, ap length f, length-sets out 0 (rising_of ws W s))

  pub listed_all : take r out' ≡ rising_of ws W s
  listed_all = ap (λ k. take k out') e ∙ ap (take (length (rising_of ws W s))) f ∙ take-sets out (rising_of ws W s) (omega (arith, rising_few ws W s))

-- after a slot was written
pub rising_with : (ws : List ℕ) (W s : ℕ) (p : ℕ → Bool) → s * W + W ≤ length ws → rising_of (with_set ws W s p) W s ≡ keep p (range (W * 64))
unfolding rising_of
rising_with ws W s p r = keep_ext (held (with_set ws W s p) W s) p (W * 64) (λ j h. held_with ws W s p j r h)

-- words that stay hold the same members
module _ (ws ws' : List ℕ) (k : ℕ) (same : (i : ℕ) → i < k → get_or ws' i 0 ≡ get_or ws i 0) (W s : ℕ) (b : s * W + W ≤ k) where
  pub held_same : (j : ℕ) → j < W * 64 → held ws' W s j ≡ held ws W s j
  unfolding held
  held_same j l = rw (same (s * W + j / 64) (omega arith))

  pub rising_same : rising_of ws' W s ≡ rising_of ws W s
  unfolding rising_of
  rising_same = keep_ext (held ws' W s) (held ws W s) (W * 64) held_same

-- ---- a range in two parts ----

cond-append : (b : Bool) (x : ℕ) (k l : List ℕ) → cond b (x ∷ k ++ l) (k ++ l) ≡ cond b (x ∷ k) k ++ l
cond-append true x k l = refl
cond-append false x k l = refl

pub keep-add : (p : ℕ → Bool) (b n m : ℕ) → keep p (from b (n + m)) ≡ keep p (from b n) ++ keep p (from (b + n) m)
keep-add p b zero m =
    let e : zero + m ≡ m = omega arith in
    let f : b + zero ≡ b = omega arith in
    rw (e, f)
keep-add p b (suc n) m =
    let e : suc n + m ≡ suc (n + m) = omega arith in
    let f : b + suc n ≡ suc b + n = omega arith in
    rw (e, f) (rw (keep-add p (suc b) n m) (cond-append (p b) b (keep p (from (suc b) n)) (keep p (from (suc b + n) m))))

-- the indices of one word more, in words of w digits
pub word_more : (w : ℕ) (p : ℕ → Bool) (k x : ℕ) → Tests p (k * w) w x → keep p (range ((k + 1) * w)) ≡ keep p (range (k * w)) ++ places (k * w) w x
word_more w p k x h =
    let e : (k + 1) * w ≡ k * w + w = rw (add-one k) (suc-mul k w) in
    let z : 0 + k * w ≡ k * w = omega arith in
    rw (e, keep-add p 0 (k * w) w, z, keep-places p (k * w) w x h)

pub held_tests : (ws : List ℕ) (W s k : ℕ) → Tests (held ws W s) (k * 64) 64 (get_or ws (s * W + k) 0)
held_tests ws W s k i h = held-digit ws W s k i h

-- ---- a word's members, put one after the other ----

sets-append : (l : List ℕ) (i : ℕ) (a b : List ℕ) → sets l i (a ++ b) ≡ sets (sets l i a) (i + length a) b
sets-append l i [] b = ap (λ (n : ℕ). sets l n b) (omega arith)
sets-append l i (x ∷ a) b =
    sets-append (set l i x) (suc i) a b ∙ ap (λ (n : ℕ). sets (sets (set l i x) (suc i) a) n b) (omega arith)

-- the members of a word from `base` on are below `base` + 64
picked_below : (n : ℕ) (c : Bool) (j : ℕ) (l : List ℕ) → j < n → All (λ k. k < n) l → All (λ k. k < n) (cond c (j ∷ l) l)
picked_below n true j l h a = (h, a)
picked_below n false j l h a = a

kept_below : (p : ℕ → Bool) (b k n : ℕ) → b + k ≤ n → All (λ j. j < n) (keep p (from b k))
kept_below p b zero n h = tt
kept_below p b (suc k) n h = picked_below n (p b) b (keep p (from (suc b) k)) (omega arith) (kept_below p (suc b) k n (omega arith))

pub places_below : (b x n : ℕ) → b + 64 ≤ n → All (λ j. j < n) (places b 64 x)
unfolding places
places_below b x n h = kept_below (λ j. digit x (j - b)) b 64 n h

module _ (out₀ : List ℕ) (at base x : ℕ) where
  -- what is still to be put, from place n on, leads to all of the word's members
  abbrev pub Putting : List ℕ → ℕ → List ℕ → Type 0
  Putting out n rest = (sets out n rest ≡ sets out₀ at (places base 64 x)) × (n + length rest ≡ at + length (places base 64 x))

  pub put_next : (out r : List ℕ) (n i : ℕ) (rest m : List ℕ) → rest ≡ i ∷ m → r ≡ set out n i → Putting out n rest → Putting r (n + 1) m
  put_next out r n i rest m e f h = (rw (f, add-one n) (sym (ap (sets out n) e) ∙ h.0), omega (arith, h.1, ap length e))

  pub put_most : (out : List ℕ) (n : ℕ) (rest : List ℕ) → x < 2 ^ 64 → Putting out n rest → n ≤ at + 64
  put_most out n rest b h = omega (arith, h.1, places_ones base 64 x b, ones-le 64 x b)

  pub put_end : (out : List ℕ) (n : ℕ) (rest : List ℕ) → x < 2 ^ 64 → rest ≡ [] → Putting out n rest
      → (n ≡ at + length (places base 64 x)) × (n ≤ at + 64) × (out ≡ sets out₀ at (places base 64 x))
  put_end out n rest b e h = (omega (arith, h.1, ap length e), put_most out n rest b h, sym (ap (sets out n) e) ∙ h.0)

-- ---- a slot's ----

module _ (ws : List ℕ) (W s : ℕ) where
  -- the members below n
  abbrev pub below_of : ℕ → List ℕ
  below_of n = keep (held ws W s) (range n)

  pub below_next : (k : ℕ) → below_of ((k + 1) * 64) ≡ below_of (k * 64) ++ places (k * 64) 64 (get_or ws (s * W + k) 0)
  below_next k = word_more 64 (held ws W s) k (get_or ws (s * W + k) 0) (held_tests ws W s k)

  -- the words before word k have been walked: their members stand in `out`, and n is the place past them
  abbrev pub Walked : List ℕ → ℕ → List ℕ → ℕ → ℕ → Type 0
  Walked out₀ at out n k = (out ≡ sets out₀ at (below_of (k * 64))) × (n ≡ at + length (below_of (k * 64)))

  pub walk_next : (out₀ : List ℕ) (at : ℕ) (out r : List ℕ) (n m k x : ℕ) → x ≡ get_or ws (s * W + k) 0
      → m ≡ n + length (places (k * 64) 64 x) → r ≡ sets out n (places (k * 64) 64 x)
      → Walked out₀ at out n k → Walked out₀ at r m (k + 1)
  walk_next out₀ at out r n m k x e f g h =
      let z : below_of ((k + 1) * 64) ≡ below_of (k * 64) ++ places (k * 64) 64 x = rw e (below_next k) in (
        g ∙ ap₂ (λ (l : List ℕ) (i : ℕ). sets l i (places (k * 64) 64 x)) h.0 h.1
            ∙ sym (sets-append out₀ at (below_of (k * 64)) (places (k * 64) 64 x)) ∙ ap (sets out₀ at) (sym z),
        omega (arith, f, h.1, ap length z, length-append (below_of (k * 64)) (places (k * 64) 64 x)),
      )

  pub walk_end : (out₀ : List ℕ) (at : ℕ) (out : List ℕ) (n k : ℕ) → k ≡ W → Walked out₀ at out n k
      → (n - at ≡ length (rising_of ws W s)) × (out ≡ sets out₀ at (rising_of ws W s))
  unfolding rising_of
  walk_end out₀ at out n k e h =
      let z : below_of (k * 64) ≡ below_of (W * 64) = ap (λ (n : ℕ). below_of (n * 64)) e in
      (omega (arith, h.1, ap length z), h.0 ∙ ap (sets out₀ at) z)

  -- ---- how many ----

  pub count_next : (k n x c : ℕ) → n ≡ length (below_of (k * 64)) → x ≡ get_or ws (s * W + k) 0 → x < 2 ^ 64 → c ≡ ones x
      → n + c ≡ length (below_of ((k + 1) * 64))
  count_next k n x c h e lt f =
      let z : below_of ((k + 1) * 64) ≡ below_of (k * 64) ++ places (k * 64) 64 x = rw e (below_next k) in
      omega (arith, ap length z, length-append (below_of (k * 64)) (places (k * 64) 64 x), places_ones (k * 64) 64 x lt)

  pub count_end : (k n : ℕ) → k ≡ W → n ≡ length (below_of (k * 64)) → n ≡ length (rising_of ws W s)
  unfolding rising_of
  count_end k n e h = h ∙ ap (λ (n : ℕ). length (below_of (n * 64))) e

  -- the digits that are set in each word, added up over the first k words
  abbrev pub ones_at : ℕ → ℕ
  ones_at k = ones (get_or ws (s * W + k) 0)

  counted : Words ws → (k : ℕ) → sum (map ones_at (range_with_len 0 k)) ≡ length (below_of (k * 64))
  counted fits zero = refl
  counted fits (suc k) =
      ap (λ (n : ℕ). sum (map ones_at (range_with_len 0 n))) (sym (add-one k))
      ∙ sum_by-map-range_with_len_more (λ (n : ℕ). n) ones_at 0 k k (omega arith)
      ∙ count_next k _ _ _ (counted fits k) refl (fits _) refl
      ∙ ap (λ (n : ℕ). length (below_of (n * 64))) (add-one k)

  pub count_all : Words ws → sum (map ones_at (range_with_len 0 W)) ≡ length (rising_of ws W s)
  unfolding rising_of
  count_all fits = count_end W _ refl (counted fits W)

  pub count_fits : Words ws → W ≤ 16 → sum (map ones_at (range_with_len 0 W)) < 2 ^ 64
  count_fits fits h = omega (arith, count_all fits, rising_few ws W s)
