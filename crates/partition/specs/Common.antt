-- How many members two slots have in common, counted word by word. Assumes nothing.
use Rattle.std.specs.Prelude.{Bool, ◌&&◌, ◌≡◌, List, ℕ, ◌+◌, ◌*◌, ◌^◌, ◌<◌, get_or}
use Rattle.std.proofs.Common.{sym, ap₂, ◌∙◌, arith, length-append}
use Rattle.std.proofs.Math.Path.{ap}
use Rattle.std.specs.Int.Bits.{bit_and}
use Rattle.std.specs.Int.Count.{ones}
use Rattle.std.proofs.Math.ListN.{length}
use Rattle.spec.specs.Lists.{keep, range}
use Rattle.laws.specs.ListLaws.{keep-keep}
use Rattle.bits.specs.Digits.{and_digits}
use Rattle.bits.specs.Lowest.{Tests, places, places_ones}
use Rattle.slots.specs.Slots.{held, held-digit}
use Rattle.slots.specs.Rising.{rising_of, word_more}

module _ (ws : List ℕ) (W a b : ℕ) where
  -- the members of slot a that slot b has too
  unfoldable pub common_of : List ℕ
  common_of = keep (held ws W b) (rising_of ws W a)

  abbrev both : ℕ → Bool
  both j = held ws W a j && held ws W b j

  -- those below n
  abbrev pub common_below : ℕ → List ℕ
  common_below n = keep both (range n)

  both_tests : (k x y : ℕ) → x ≡ get_or ws (a * W + k) 0 → y ≡ get_or ws (b * W + k) 0 → Tests both (k * 64) 64 (bit_and x y)
  both_tests k x y e f i h =
      ap₂ (λ u v. u && v) (held-digit ws W a k i h) (held-digit ws W b k i h) ∙ sym (rw (e, f) (and_digits (get_or ws (a * W + k) 0) (get_or ws (b * W + k) 0) i))

  pub common_next : (k n x y c : ℕ) → n ≡ length (common_below (k * 64)) → x ≡ get_or ws (a * W + k) 0 → y ≡ get_or ws (b * W + k) 0 → bit_and x y < 2 ^ 64 → c ≡ ones (bit_and x y)
      → n + c ≡ length (common_below ((k + 1) * 64))
  common_next k n x y c h e f lt g =
      let z = word_more 64 both k (bit_and x y) (both_tests k x y e f) in
      omega (arith, ap length z, length-append (common_below (k * 64)) (places (k * 64) 64 (bit_and x y)), places_ones (k * 64) 64 (bit_and x y) lt)

  pub common_end : (k n : ℕ) → k ≡ W → n ≡ length (common_below (k * 64)) → n ≡ length common_of
  unfolding common_of rising_of
  common_end k n e h = h ∙ ap (λ (n : ℕ). length (common_below (n * 64))) e ∙ ap length (sym (keep-keep (held ws W a) (held ws W b) (range (W * 64))))
