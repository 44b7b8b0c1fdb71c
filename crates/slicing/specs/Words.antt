-- An amount at the set digits of a word, one after another, and at the indices of two slots, word by word. Assumes nothing.
use Rattle.std.specs.Prelude.{◌≡◌, refl, List, [], ◌∷◌, map, ℕ, zero, suc, ◌+◌, ◌-◌, ◌*◌, ◌≤◌, ◌<◌, length, get_or, set}
use Rattle.std.proofs.Common.{sym, ◌∙◌, ap, arith, length-set, get_or-set_same, get_or-set_other, eq-eqb, ne_eqb}
use Rattle.std.proofs.Math.Decide.{ℕ_discrete}
use Rattle.std.specs.Int.Bits.{bit_or}
use Rattle.spec.specs.Lists.{keep, from, range}
use Rattle.laws.specs.Booleans.{by_cases}
use Rattle.laws.specs.ListLaws.{sum_append}
use Rattle.bits.specs.Digits.{digit}
use Rattle.bits.specs.Lowest.{places}
use Rattle.slots.specs.Rising.{word_more}
use Rattle.slots.specs.Weigh.{either, either_tests}
use Rattle.slicing.specs.Sums.{Small, amount_at, share, Added, summed_more, share_most}

-- ---- one word ----

-- what is still to be added, at the places of a list, leads to all that the word adds
pub record Adding (a : ℕ) (old : List ℕ) (base x : ℕ) (new : List ℕ) (left : List ℕ) : Type 0 where
  pub same : length new ≡ length old
  pub at : (j : ℕ) → get_or new j 0 + share a j left ≡ get_or old j 0 + share a j (places base 64 x)

pub adding_none : {a : ℕ} {old : List ℕ} {base x : ℕ} {left : List ℕ} → left ≡ places base 64 x → Adding a old base x old left
adding_none {a} {old} e = record { same = refl; at = λ j. ap (λ (l : List ℕ). get_or old j 0 + share a j l) e }

-- the places of a word's digits, from b on, are those from 0 on and b
places_more : (b k x : ℕ) → map (λ i. b + i) (places 0 k x) ≡ places b k x
unfolding places
places_more b k x =
    let z : b + 0 ≡ b = omega arith in
    go 0 k ∙ ap (λ n. keep (λ j. digit x (j - b)) (from n k)) z
  where
    go : (o k : ℕ) → map (λ i. b + i) (keep (λ j. digit x (j - 0)) (from o k)) ≡ keep (λ j. digit x (j - b)) (from (b + o) k)
    go o zero = refl
    go o (suc k) =
        let e : b + o - b ≡ o - 0 = omega arith in
        let f : suc (b + o) ≡ b + suc o = omega arith in
        let r : map (λ i. b + i) (keep (λ j. digit x (j - 0)) (from (suc o) k)) ≡ keep (λ j. digit x (j - b)) (from (suc (b + o)) k) =
        go (suc o) k ∙ ap (λ n. keep (λ j. digit x (j - b)) (from n k)) (sym f) in
        by_cases (digit x (o - 0))
        (λ h. rw (e, h) (ap (λ l. (b + o) ∷ l) r))
        (λ h. rw (e, h) r)

pub places_from : (b x : ℕ) → map (λ i. b + i) (places 0 64 x) ≡ places b 64 x
places_from b x = places_more b 64 x

pub share_word : (a j base x : ℕ) → share a j (places base 64 x) ≤ a
unfolding places
share_word a j base x = share_most a j (λ i. digit x (i - base)) base 64

module _ {a : ℕ} {old : List ℕ} {base x : ℕ} {now : List ℕ} {left : List ℕ} (d : Adding a old base x now left) where
  pub adding_small : (b : ℕ) → Small b old → Small (b + a) now
  adding_small b s j = omega (arith, d.at j, s j, share_word a j base x)

  pub adding_next : (i : ℕ) (m : List ℕ) → left ≡ i ∷ m → i < length old → Adding a old base x (set now i (get_or now i 0 + a)) m
  adding_next i m z lt =
      let h : i < length now = omega (arith, d.same) in
      record {
        same = simp length-set d.same;
        at = λ j. elim (ℕ_discrete j i) [
          | yes q ↦ rw q (
              let g : share a i left ≡ a + share a i m = ap (share a i) z ∙ rw (eq-eqb i i refl) in
              omega (arith, d.at i, get_or-set_same now i (get_or now i 0 + a) 0 h, g))
          | no q ↦ (
              let g : share a j left ≡ share a j m = ap (share a j) z ∙ rw (ne_eqb i j (λ y. q (sym y))) (omega arith) in
              omega (arith, d.at j, get_or-set_other now i j (get_or now i 0 + a) 0 q, g))
        ];
      }

  pub adding_end : left ≡ [] → Added a old (places base 64 x) now
  adding_end e =
      record {
        same = d.same;
        at = λ j. let z : share a j left ≡ 0 = ap (share a j) e in omega (arith, d.at j, z);
      }

-- ---- two slots ----

module _ (sets : List ℕ) (W s t a : ℕ) (old : List ℕ) where
  -- the words before word k are done
  abbrev pub AddedTo : ℕ → List ℕ → Type 0
  AddedTo k now = Added a old (keep (either sets W s t) (range (k * 64))) now

  pub slots_small : (b k : ℕ) (now : List ℕ) → Small b old → AddedTo k now → Small (b + a) now
  slots_small b k now h d j = omega (arith, h j, d.at j, share_most a j (either sets W s t) 0 (k * 64))

  pub slots_next : (k : ℕ) (now next : List ℕ) (x y : ℕ) → x ≡ get_or sets (s * W + k) 0 → y ≡ get_or sets (t * W + k) 0 → AddedTo k now
      → Added a now (places (k * 64) 64 (bit_or x y)) next → AddedTo (k + 1) next
  slots_next k now next x y ex ey d w =
      let o = bit_or (get_or sets (s * W + k) 0) (get_or sets (t * W + k) 0) in
      let eo : bit_or x y ≡ o = rw (ex, ey) in
      let w' : Added a now (places (k * 64) 64 o) next = rw eo at w in
      summed_more (keep (either sets W s t) (range ((k + 1) * 64))) d w'
      (λ j. ap (share a j) (word_more 64 (either sets W s t) k o (either_tests sets W s t [] [] k))
      ∙ sum_append (amount_at a j) (keep (either sets W s t) (range (k * 64))) (places (k * 64) 64 o))
