-- Greedy's merging in a longer live list, at whose front the live slots stand. Assumes nothing.
use Rattle.std.specs.Prelude.{◌≡◌, refl, List, [], ◌∷◌, ◌++◌, ℕ, ◌+◌, ◌-◌, ◌/◌, ◌≤◌, ◌<◌, length, get_or, set, take, drop, Err, Ok}
use Rattle.std.proofs.Common.{sym, ◌∙◌, ap, subst, arith, get_or-take, take_at, length-take-le}
use Rattle.std.proofs.Math.ListN.{length-take}
use Rattle.spec.specs.Memory.{over}
use Rattle.cells.specs.Cells.{over_front}
use Rattle.slots.specs.Slots.{with_set}
use Rattle.live.specs.Holders.{with_holders}
use Rattle.live.specs.Merged.{merged_set}
use Rattle.rows.specs.Rows.{renewed_all, least_of}
use Rattle.tables.specs.declared.PairTooWide.{PairTooWide}
use Rattle.tables.specs.Lists.{Lists, lists_of, with_sets, with_bits, with_live, with_rows}
use Rattle.merging.specs.Listed.{remaining}
use Rattle.merging.specs.Agree.{words_same, rows_same, least_same}
use Rattle.merging.specs.Merge.{first_at, second_at, marked, with_node}
use Rattle.merging.specs.Holds.{Given, Ghost}
use Rattle.merging.specs.Connect.{Start, Reached, Connected, reached_start, reached_end, turn_ends, turn_refused, turn_merges}

-- ---- fronts of lists ----

-- what was put over a list's front stands there
pub front_over : (l s : List ℕ) (k : ℕ) → length s ≡ k → k ≤ length l → take k (over l s) ≡ s
front_over l s k e h = ap (take k) (sym (over_front l s (omega (arith, e)))) ∙ take_at s (drop (length s) l) k e

-- a front that is as long as it was asked for was there
pub front_room : (l : List ℕ) (m : ℕ) → length (take m l) ≡ m → m ≤ length l
front_room l m e = omega (arith, e, length-take m l)

-- lists whose live slots are the first m of those that are lent
abbrev pub front_live : ℕ → Lists → Lists
front_live m M = with_live M (take m M.live)

-- the lists after a scan of the first m live slots
abbrev pub scanned_front : ℕ → List ℕ → ℕ → ℕ → Lists → Lists
scanned_front W weights n₀ m M =
    lists_of (with_holders M.words W M.live m) M.nodes M.sizes M.live
    (renewed_all (with_holders M.words W M.live m) W weights M.sizes n₀ M.live M.rows m)

-- the tables of the pair that stands for y are merged into slot z, whose number is v, and the first m live slots are the others and z
abbrev pub merged_front : ℕ → ℕ → ℕ → ℕ → ℕ → ℕ → Lists → Lists
merged_front W n₀ y z m v M =
    lists_of
    (with_set M.words W z (merged_set M.words W (first_at n₀ M.rows y) (second_at n₀ M.rows y)))
    (set M.nodes z v)
    (set M.sizes z (get_or M.rows y 0 / 512))
    (over M.live (remaining (first_at n₀ M.rows y) (second_at n₀ M.rows y) (take m M.live) ++ (z ∷ [])))
    (marked M.rows (first_at n₀ M.rows y) (second_at n₀ M.rows y) z)

-- what a merge of tables f and g into slot z leaves, slot z being of number v and of s bits
abbrev written_front : ℕ → ℕ → ℕ → ℕ → ℕ → ℕ → ℕ → Lists → Lists
written_front W z m v f g s M =
    lists_of (with_set M.words W z (merged_set M.words W f g)) (set M.nodes z v) (set M.sizes z s) (over M.live (remaining f g (take m M.live) ++ (z ∷ [])))
    (marked M.rows f g z)

-- the lists of a merge, one written after the other
module _ (W n₀ z m v f g s : ℕ) (M K₁ K₂ K₃ K₄ K₅ : Lists) (y₁ y₂ y₃ y₄ y₅ : List ℕ)
    (k₁ : K₁ ≡ with_sets M y₁) (e₁ : y₁ ≡ with_set M.words W z (merged_set M.words W f g))
    (k₂ : K₂ ≡ lists_of K₁.words y₂ K₁.sizes K₁.live K₁.rows) (e₂ : y₂ ≡ set K₁.nodes z v)
    (k₃ : K₃ ≡ with_bits K₂ y₃) (e₃ : y₃ ≡ set K₂.sizes z s)
    (k₄ : K₄ ≡ with_rows K₃ y₄) (e₄ : y₄ ≡ marked K₃.rows f g z)
    (k₅ : K₅ ≡ with_live K₄ y₅) (e₅ : y₅ ≡ over K₄.live (remaining f g (take m K₄.live) ++ (z ∷ [])))
  where
    abbrev first' : Lists → Lists
    first' K = with_sets K (with_set K.words W z (merged_set K.words W f g))

    abbrev second' : Lists → Lists
    second' K = lists_of K.words (set K.nodes z v) K.sizes K.live K.rows

    abbrev third' : Lists → Lists
    third' K = with_bits K (set K.sizes z s)

    abbrev fourth' : Lists → Lists
    fourth' K = with_rows K (marked K.rows f g z)

    abbrev fifth' : Lists → Lists
    fifth' K = with_live K (over K.live (remaining f g (take m K.live) ++ (z ∷ [])))

    written_all : K₅ ≡ written_front W z m v f g s M
    written_all =
        let p₁ : K₁ ≡ first' M = k₁ ∙ ap (with_sets M) e₁ in
        let p₂ : K₂ ≡ second' (first' M) = k₂ ∙ ap (λ (l : List ℕ). lists_of K₁.words l K₁.sizes K₁.live K₁.rows) e₂ ∙ ap second' p₁ in
        let p₃ : K₃ ≡ third' (second' (first' M)) = k₃ ∙ ap (with_bits K₂) e₃ ∙ ap third' p₂ in
        let p₄ : K₄ ≡ fourth' (third' (second' (first' M))) = k₄ ∙ ap (with_rows K₃) e₄ ∙ ap fourth' p₃ in
        k₅ ∙ ap (with_live K₄) e₅ ∙ ap fifth' p₄

    -- they are those of the merge of the pair that stands for y
    pub merged_all : (y : ℕ) → f ≡ first_at n₀ M.rows y → g ≡ second_at n₀ M.rows y → s ≡ get_or M.rows y 0 / 512 → K₅ ≡ merged_front W n₀ y z m v M
    merged_all y ef eg es = written_all ∙ (λ i. written_front W z m v (ef i) (eg i) (es i) M)

-- the five lists that it leaves
pub lists_merged_front : (W n₀ y z m v : ℕ) (M : Lists) (words nodes sizes live rows : List ℕ)
    → words ≡ with_set M.words W z (merged_set M.words W (first_at n₀ M.rows y) (second_at n₀ M.rows y)) → nodes ≡ set M.nodes z v
    → sizes ≡ set M.sizes z (get_or M.rows y 0 / 512)
    → live ≡ over M.live (remaining (first_at n₀ M.rows y) (second_at n₀ M.rows y) (take m M.live) ++ (z ∷ []))
    → rows ≡ marked M.rows (first_at n₀ M.rows y) (second_at n₀ M.rows y) z → lists_of words nodes sizes live rows ≡ merged_front W n₀ y z m v M
lists_merged_front W n₀ y z m v M words nodes sizes live rows p q r s t = λ i. lists_of (p i) (q i) (r i) (s i) (t i)

-- a scan of the first m slots is one of all slots of the front
module _ (live : List ℕ) (m : ℕ) (room : m ≤ length live) where
  abbrev F : List ℕ
  F = take m live

  long : length F ≡ m
  long = length-take-le m live room

  pub front_same : (i : ℕ) → i < length F → get_or live i 0 ≡ get_or F i 0
  front_same i h = sym (get_or-take m live i 0 (omega (arith, long, h)))

  pub holders_front : (ws : List ℕ) (W : ℕ) → with_holders ws W live m ≡ with_holders ws W F (length F)
  holders_front ws W = ap (with_holders ws W live) (sym long) ∙ words_same live F front_same ws W

  pub rows_front : (ws : List ℕ) (W : ℕ) (wt sizes : List ℕ) (n₀ : ℕ) (rows : List ℕ)
      → renewed_all ws W wt sizes n₀ live rows m ≡ renewed_all ws W wt sizes n₀ F rows (length F)
  rows_front ws W wt sizes n₀ rows = ap (renewed_all ws W wt sizes n₀ live rows) (sym long) ∙ rows_same live F front_same ws W wt sizes n₀ rows

  pub least_front : (sizes : List ℕ) (n₀ : ℕ) (rows : List ℕ) → least_of sizes n₀ rows live m ≡ least_of sizes n₀ rows F (length F)
  least_front sizes n₀ rows = ap (least_of sizes n₀ rows live) (sym long) ∙ least_same live F front_same sizes n₀ rows

-- ---- the merging ----

module _ (G : Given) (S : Ghost) where
  pub reached_start_front : (M : Lists) (W n n0 count : ℕ) (weights kids : List ℕ) → Start G S (front_live n0 M) W n n0 count weights kids
      → Reached G S kids 0 (front_live n0 M) kids
  reached_start_front M W n n0 count weights kids s = reached_start G S (front_live n0 M) W n n0 count weights kids s

  module _ (W n n0 count : ℕ) (weights kids₀ : List ℕ) (M₀ : Lists) (start : Start G S (front_live n0 M₀) W n n0 count weights kids₀)
      (t : ℕ) (M : Lists) (kids : List ℕ) (m : ℕ) (em : m ≡ n0 - t) (R : Reached G S kids₀ t (front_live m M) kids)
    where
      -- all turns are over
      pub reached_end_front : t ≡ n0 → Connected G S kids₀ M.nodes M.sizes (take m M.live) kids (Ok t)
      reached_end_front e = reached_end G S W n n0 count weights kids₀ (front_live n0 M₀) start t (front_live m M) kids e R

      -- the first m slots are there
      pub live_room : m ≤ length M.live
      live_room = front_room M.live m (omega (arith, em, ap length R.holds.lived, R.left, start.tables))

      -- what stands over them after a turn is one slot less
      less_front : (l : List ℕ) (s : List ℕ) (M' : Lists) (kids' : List ℕ) → m ≤ length l → Reached G S kids₀ (t + 1) (with_live M' s) kids'
          → take (m - 1) (over l s) ≡ s
      less_front l s M' kids' h J =
          front_over l s (m - 1) (omega (arith, em, ap length J.holds.lived, J.left, start.tables)) (omega (arith, h))

      -- a turn: the lists before it, and after its scan of the first m slots
      module _ (less : t < n0) (y : ℕ) (words rows : List ℕ) (ew : words ≡ with_holders M.words W M.live m)
          (er : rows ≡ renewed_all words W weights M.sizes n0 M.live M.rows m) (ey : y ≡ least_of M.sizes n0 rows M.live m)
        where
          ew' : words ≡ with_holders M.words W (take m M.live) (length (take m M.live))
          ew' = ew ∙ holders_front M.live m live_room M.words W

          er' : rows ≡ renewed_all words W weights M.sizes n0 (take m M.live) M.rows (length (take m M.live))
          er' = er ∙ rows_front M.live m live_room words W weights M.sizes n0 M.rows

          ey' : y ≡ least_of M.sizes n0 rows (take m M.live) (length (take m M.live))
          ey' = ey ∙ least_front M.live m live_room M.sizes n0 rows

          -- no pair is left
          pub turn_ends_front : y ≡ 256 → Connected G S kids₀ M.nodes M.sizes (take m M.live) kids (Ok t)
          turn_ends_front e = turn_ends G S W n n0 count weights kids₀ (front_live n0 M₀) start t (front_live m M) kids R less y words rows ew' er' ey' e

          -- a pair is too wide
          pub turn_refused_front : (nodes sizes live kids' : List ℕ) (w : PairTooWide) → y ≡ 257 → Connected G S kids₀ nodes sizes live kids' (Err w)
          turn_refused_front nodes sizes live kids' w e =
              turn_refused G S W n n0 count weights kids₀ (front_live n0 M₀) start t (front_live m M) kids R less y words rows ew' er' ey' nodes sizes live kids' w e

          -- the least pair is merged
          pub turn_merges_front : (z : ℕ) → z ≡ n0 + t → (words' nodes' sizes' live' rows' kids' : List ℕ)
              → words' ≡ with_set words W z (merged_set words W (first_at n0 rows y) (second_at n0 rows y))
              → nodes' ≡ set M.nodes z (n + (count + t))
              → sizes' ≡ set M.sizes z (get_or rows y 0 / 512)
              → live' ≡ over M.live (remaining (first_at n0 rows y) (second_at n0 rows y) (take m M.live) ++ (z ∷ []))
              → rows' ≡ marked rows (first_at n0 rows y) (second_at n0 rows y) z
              → kids' ≡ with_node kids (count + t) (get_or M.nodes (first_at n0 rows y) 0) (get_or M.nodes (second_at n0 rows y) 0)
              → (y ≡ 256 → ⊥) → (y ≡ 257 → ⊥) → Reached G S kids₀ (t + 1) (lists_of words' nodes' sizes' (take (m - 1) live') rows') kids'
          turn_merges_front z ez words' nodes' sizes' live' rows' kids' e₁ e₂ e₃ e₄ e₅ e₆ n₁ n₂ =
              let s : List ℕ = remaining (first_at n0 rows y) (second_at n0 rows y) (take m M.live) ++ (z ∷ []) in
              let J : Reached G S kids₀ (t + 1) (lists_of words' nodes' sizes' s rows') kids' =
              turn_merges G S W n n0 count weights kids₀ (front_live n0 M₀) start t (front_live m M) kids R less y words rows ew' er' ey'
              z ez words' nodes' sizes' s rows' kids' e₁ e₂ e₃ refl e₅ e₆ n₁ n₂ in
              subst (λ (l : List ℕ). Reached G S kids₀ (t + 1) (lists_of words' nodes' sizes' l rows') kids')
              (sym (ap (take (m - 1)) e₄ ∙ less_front M.live s (lists_of words' nodes' sizes' s rows') kids' live_room J)) J

      -- a turn, from the lists that the scan and the merge leave
      module _ (less : t < n0) (K : Lists) (y : ℕ) (ek : K ≡ scanned_front W weights n0 m M) (ey : y ≡ least_of K.sizes n0 K.rows K.live m) where
        abbrev L : Lists
        L = scanned_front W weights n0 m M

        least_at : y ≡ least_of M.sizes n0 L.rows M.live m
        least_at = ey ∙ ap (λ (l : Lists). least_of l.sizes n0 l.rows l.live m) ek

        -- a pair is too wide
        pub scan_refused_front : (nodes sizes live kids' : List ℕ) (e : PairTooWide) → y ≡ 257 → Connected G S kids₀ nodes sizes live kids' (Err e)
        scan_refused_front nodes sizes live kids' e z = turn_refused_front less y L.words L.rows refl refl least_at nodes sizes live kids' e z

        -- no pair is left
        pub scan_ends_front : y ≡ 256 → Connected G S kids₀ K.nodes K.sizes (take m K.live) kids (Ok t)
        scan_ends_front z =
            subst (λ (l : Lists). Connected G S kids₀ l.nodes l.sizes (take m l.live) kids (Ok t)) (sym ek)
            (turn_ends_front less y L.words L.rows refl refl least_at z)

        -- the least pair is merged
        pub scan_merges_front : (K' : Lists) (kids' : List ℕ) → K' ≡ merged_front W n0 y (n0 + t) m (n + (count + t)) K
            → kids' ≡ with_node kids (count + t) (get_or K.nodes (first_at n0 K.rows y) 0) (get_or K.nodes (second_at n0 K.rows y) 0)
            → (y ≡ 256 → ⊥) → (y ≡ 257 → ⊥) → Reached G S kids₀ (t + 1) (front_live (m - 1) K') kids'
        scan_merges_front K' kids' e e₆ n₁ n₂ =
            subst (λ (l : Lists). Reached G S kids₀ (t + 1) (front_live (m - 1) l) kids') (sym (e ∙ ap (merged_front W n0 y (n0 + t) m (n + (count + t))) ek))
            (turn_merges_front less y L.words L.rows refl refl least_at (n0 + t) refl _ _ _ _ _ kids' refl refl refl refl refl
            (e₆ ∙ ap (λ (l : Lists). with_node kids (count + t) (get_or l.nodes (first_at n0 l.rows y) 0) (get_or l.nodes (second_at n0 l.rows y) 0)) ek) n₁ n₂)
