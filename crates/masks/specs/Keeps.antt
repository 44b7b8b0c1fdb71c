-- What each mask's table keeps, and how many bits that is, mask after mask. Assumes nothing.
use Rattle.std.specs.Prelude.{◌&&◌, ◌||◌, List, [], ◌≡◌, eqb, length, get_or, set, take}
use Rattle.std.proofs.Math.Bool.{or_self}
use Rattle.std.proofs.Common.{sym, ap, ◌∙◌, subst, arith, eqb-true, length-set, length-take-le, get_or-set_same, get_or-set_other, get_or-take}
use Rattle.std.proofs.Math.Seq.{take-set-lt}
use Prim.Native.Nat.{ℕ, ◌+◌, ◌-◌, ◌*◌, ◌/◌, ◌%◌, ◌≤◌, ◌<◌}
use Rattle.std.proofs.lemmas.Bool.{eqb-false}
use Rattle.laws.specs.Booleans.{by_cases}
use Rattle.bits.specs.Digits.{digit}
use Rattle.slots.specs.Slots.{held}
use Rattle.slots.specs.Weigh.{Light, weighed, weighed_ext}
use Rattle.masks.specs.Rows.{row_has, has_at, in_either}
use Rattle.masks.specs.Tables.{keeps_in, KeptBelow, work_at, Sized}

-- a word outside a slot does not change it
pub held-set : (ws : List ℕ) (W s i x j : ℕ) → (s * W + j / 64 ≡ i → ⊥) → held (set ws i x) W s j ≡ held ws W s j
unfolding held
held-set ws W s i x j h = ap (λ y. digit y (j % 64)) (get_or-set_other ws i (s * W + j / 64) x 0 h)

module _ (united : List (List ℕ)) (wt : List ℕ) (n : ℕ) where
  pub keep_start : (kept : List (List ℕ)) (bits : List ℕ) → length kept ≡ n → length bits ≡ n → KeptBelow united wt kept bits n 1
  keep_start kept bits e f =
      record { long = e; long_bits = f; kept = λ s j a b h. absurd (omega arith); sized = λ s a b. absurd (omega arith) }

  -- one mask more
  pub keep_next : (kept : List (List ℕ)) (bits : List ℕ) (s x : ℕ) (outside row : List ℕ) → s < n → KeptBelow united wt kept bits n s
      → ((j : ℕ) → j < 128 → row_has outside j ≡ (has_at united 0 j || has_at united (n - 1 - s) j))
      → ((j : ℕ) → j < 128 → row_has row j ≡ (has_at united s j && row_has outside j))
      → x ≡ weighed wt [] (in_either row row) 128
      → KeptBelow united wt (set kept s row) (set bits s x) n (s + 1)
  unfolding keeps_in
  keep_next kept bits s x outside row less k o r e =
      let now : (j : ℕ) → j < 128 → row_has row j ≡ keeps_in united n s j = λ j h. r j h ∙ ap (λ b. has_at united s j && b) (o j h) in
      record {
        long = length-set kept s row ∙ k.long;
        long_bits = length-set bits s x ∙ k.long_bits;
        kept = λ t j a b h.
            by_cases (eqb t s)
            (λ q. let z : t ≡ s = eqb-true t s q in
            rw z (ap (λ r. row_has r j) (get_or-set_same kept s row [] (omega (arith, k.long))) ∙ now j h))
            (λ q. let f : t ≡ s → ⊥ = eqb-false t s q in
            ap (λ r. row_has r j) (get_or-set_other kept s t row [] f) ∙ k.kept t j a (omega (arith, f)) h);
        sized = λ t a b.
            by_cases (eqb t s)
            (λ q. let z : t ≡ s = eqb-true t s q in
            rw z
            (get_or-set_same bits s x 0 (omega (arith, k.long_bits))
            ∙ e
            ∙ weighed_ext wt [] (in_either row row) (keeps_in united n s) 128 (λ j h. or_self (row_has row j) ∙ now j h)))
            (λ q. let f : t ≡ s → ⊥ = eqb-false t s q in get_or-set_other bits s t x 0 f ∙ k.sized t a (omega (arith, f)));
      }

  -- ---- the same of longer lists, at whose fronts the masks have their places ----

  pub keep_start_front : (kept : List (List ℕ)) (bits : List ℕ) → n ≤ length kept → n ≤ length bits → KeptBelow united wt (take n kept) (take n bits) n 1
  keep_start_front kept bits h k = keep_start (take n kept) (take n bits) (length-take-le n kept h) (length-take-le n bits k)

  pub keep_next_front : (kept : List (List ℕ)) (bits : List ℕ) (s x : ℕ) (outside row : List ℕ) → s < n → KeptBelow united wt (take n kept) (take n bits) n s
      → ((j : ℕ) → j < 128 → row_has outside j ≡ (has_at united 0 j || has_at united (n - 1 - s) j))
      → ((j : ℕ) → j < 128 → row_has row j ≡ (has_at united s j && row_has outside j))
      → x ≡ weighed wt [] (in_either row row) 128
      → KeptBelow united wt (take n (set kept s row)) (take n (set bits s x)) n (s + 1)
  keep_next_front kept bits s x outside row less k o r e =
      subst (λ (l : List (List ℕ)). KeptBelow united wt l (take n (set bits s x)) n (s + 1)) (sym (take-set-lt n kept s row less))
      (subst (λ (l : List ℕ). KeptBelow united wt (set (take n kept) s row) l n (s + 1)) (sym (take-set-lt n bits s x less))
      (keep_next (take n kept) (take n bits) s x outside row less k o r e))

  pub kept_front : (kept : List (List ℕ)) (bits : List ℕ) (top : ℕ) → KeptBelow united wt (take n kept) (take n bits) n top
      → (s j : ℕ) → 1 ≤ s → s < top → s < n → j < 128 → has_at kept s j ≡ keeps_in united n s j
  kept_front kept bits top k s j a b less h = ap (λ r. row_has r j) (sym (get_or-take n kept s [] less)) ∙ k.kept s j a b h

  pub sized_front : (kept : List (List ℕ)) (bits : List ℕ) (top : ℕ) → KeptBelow united wt (take n kept) (take n bits) n top
      → (s : ℕ) → 1 ≤ s → s < top → s < n → get_or bits s 0 ≡ weighed wt [] (keeps_in united n s) 128
  sized_front kept bits top k s a b less = sym (get_or-take n bits s 0 less) ∙ k.sized s a b

  -- ---- the end ----

  -- the tables are then ready for the search
  pub keep_tables : (kept : List (List ℕ)) (bits : List ℕ) → n ≤ 4096 → 128 ≤ length wt → Light wt → KeptBelow united wt kept bits n n → Sized kept bits wt
  unfolding work_at
  keep_tables kept bits few long light k =
      record {
        few = omega (arith, k.long_bits);
        long = k.long ∙ sym k.long_bits;
        weights = long;
        light = light;
        sized = λ s a b.
            k.sized s a (omega (arith, k.long_bits))
            ∙ weighed_ext wt [] (keeps_in united n s) (in_either (get_or kept s []) (get_or kept s [])) 128 (λ j h.
            sym (or_self (has_at kept s j) ∙ k.kept s j a (omega (arith, k.long_bits)) h));
      }
