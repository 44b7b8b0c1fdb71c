-- What `bisect_rec` answers, from what its calls answer. Assumes nothing.
use Rattle.std.specs.Prelude.{false, ◌≡◌, refl, List, [], ◌∷◌, ◌++◌, ℕ, ◌+◌, ◌-◌, ◌≤◌, ◌<◌, max, Float, length, take, drop, Result, Err, Ok}
use Rattle.std.proofs.Common.{sym, ◌∙◌, ap, ap₂, subst, arith, length-append, length-drop, take_all, take_at, drop_at, length-take-le}
use Rattle.spec.specs.Lists.{memb, count}
use Rattle.spec.specs.Memory.{over}
use Rattle.spec.specs.Network.{Network}
use Rattle.spec.specs.Tree.{Tree, number, Pair, flat_of}
use Rattle.spec.specs.Greedy.{Built, plus, joined, join_all}
use Rattle.spec.specs.Hypergraph.{hypergraph_of}
use Rattle.spec.specs.Draws.{Words, drawn}
use Rattle.spec.specs.declared.Refusal.{Refusal}
use Rattle.spec.specs.declared.Refusal.TheVariants.{TableTooWide, DrawsExhausted}
use Rattle.spec.specs.Bisection.{Halved, with_words, left_half, right_half, small_end, bisect}
use Rattle.laws.specs.Booleans.{by_cases, clash}
use Rattle.laws.specs.ListLaws.{count_memb, count_not_memb}
use Rattle.laws.specs.BisectionHalves.{on_zero, halves_length, members_count}
use Rattle.merging.specs.Removed.{flat_length, put_node}
use Rattle.greedynodes.specs.Begin.{Asks}
use Rattle.bisect.specs.Cuts.{CutBy, is_exhausted, is_whole, is_cut}
use Rattle.bisect.specs.Cases.{halved, halved_small, halved_exhausted, halved_whole, left_refused, right_refused, both_done, Small, small_wide, small_built, Halves, is_off, is_tree, Unsplit, is_dry, is_greedy, Joins, is_right, is_node, ok_or_err, same_top}

-- ---- lists ----

-- a longer list takes the place of a shorter one
over-over : (d s t : List ℕ) → length s ≤ length t → over (over d s) t ≡ over d t
unfolding over
over-over [] s t h = refl
over-over (x ∷ d) [] t h = refl
over-over (x ∷ d) (y ∷ s) [] h = absurd (omega arith)
over-over (x ∷ d) (y ∷ s) (z ∷ t) h = ap (λ l. z ∷ l) (over-over d s t (omega arith))

flat_more : (a b : List Pair) → length a ≤ length b → length (flat_of a) ≤ length (flat_of b)
flat_more a b h = omega (arith, flat_length a, flat_length b)

one_more : (p d made k : ℕ) → p ≡ d + 1 → d ≡ made + (k - 2) → 2 ≤ k → p ≡ made + (k - 1)
one_more p d made k e q h = omega arith

-- the part behind what was lent and is back
pub rest_part : (l y : List ℕ) (m k : ℕ) → m ≤ length l → length y ≡ length (take m l) → k ≡ length (y ++ drop m l) - m
    → take k (drop m (y ++ drop m l)) ≡ drop m l
rest_part l y m k h e ek =
    let ly : length y ≡ m = e ∙ length-take-le m l h in
    let d : drop m (y ++ drop m l) ≡ drop m l = drop_at y (drop m l) m ly in
    ap (take k) d ∙ take_all k (drop m l) (omega (arith, ek, length-append y (drop m l), length-drop m l, ly))

-- ---- leaves that are not halved ----

module _ (N : Network) (eps : Float) (cutoff : ℕ) (a : List Pair) (leaves : List ℕ) (at : Words) (kids₀ : List ℕ) where
  by_greedy : (next : Words) → halved N eps cutoff leaves a at ≡ small_end N eps cutoff leaves a next
      → (kids : List ℕ) (answer : Result ℕ Refusal) → Small N a leaves kids₀ kids answer → Halves N eps cutoff a leaves at kids₀ kids answer next
  by_greedy next e kids answer (small_wide z q) = is_off TableTooWide refl z (e ∙ ap (with_words next) q)
  by_greedy next e kids answer (small_built top z l b q w k t) = is_tree top z l b (e ∙ ap (with_words next) q) w k t

  -- a small end
  pub rec_small : length leaves ≤ max cutoff 2 → (kids : List ℕ) (answer : Result ℕ Refusal) → Small N a leaves kids₀ kids answer
      → Halves N eps cutoff a leaves at kids₀ kids answer at
  rec_small h kids answer g = by_greedy at (halved_small N eps cutoff leaves a at h) kids answer g

  pub cut_same : (leaves' : List ℕ) (left : ℕ) (next : Words) → CutBy N leaves eps at leaves' left next → left ≡ 0 → leaves' ≡ leaves
  cut_same leaves' left next (is_exhausted l part ep s same) z = same
  cut_same leaves' left next (is_whole l part ep s q same) z = same
  cut_same leaves' left next (is_cut l m part ep s q same) z = absurd (omega arith)

  -- 13, or one side is empty
  pub rec_unsplit : max cutoff 2 < length leaves → (leaves' : List ℕ) (left : ℕ) (next : Words) → CutBy N leaves eps at leaves' left next → left ≡ 0
      → (kids : List ℕ) (answer : Result ℕ Refusal) → Unsplit N a leaves' next kids₀ kids answer → Halves N eps cutoff a leaves at kids₀ kids answer next
  rec_unsplit h leaves' left next c z kids answer u =
      go c (subst (λ (l : List ℕ). Unsplit N a l next kids₀ kids answer) (cut_same leaves' left next c z) u)
    where
      go : CutBy N leaves eps at leaves' left next → Unsplit N a leaves next kids₀ kids answer → Halves N eps cutoff a leaves at kids₀ kids answer next
      go (is_exhausted l part ep s same) (is_dry e t) = is_off DrawsExhausted refl e (halved_exhausted N eps cutoff leaves a at h part next ep s)
      go (is_exhausted l part ep s same) (is_greedy t g) = clash s t
      go (is_whole l part ep s q same) (is_dry e t) = clash t s
      go (is_whole l part ep s q same) (is_greedy t g) =
          by_greedy next (halved_whole N eps cutoff leaves a at h part next ep s q) kids answer g
      go (is_cut l m part ep s q same) v = absurd (omega arith)

-- ---- the halves ----

-- leaves that are cut, with the two halves as parts of one list
record Parts (N : Network) (leaves : List ℕ) (eps : Float) (at : Words) (leaves' : List ℕ) (left : ℕ) (next : Words) : Type 0 where
  part : List ℕ
  is : bisect (hypergraph_of N leaves) eps at ≡ drawn part next
  going : next.exhausted ≡ false
  some : 0 < length (left_half part leaves)
  few : length (left_half part leaves) < length leaves
  front : take left leaves' ≡ left_half part leaves
  back : drop left leaves' ≡ right_half part leaves

parts_of : (N : Network) (leaves : List ℕ) (eps : Float) (at : Words) (leaves' : List ℕ) (left : ℕ) (next : Words)
    → CutBy N leaves eps at leaves' left next → (left ≡ 0 → ⊥) → Parts N leaves eps at leaves' left next
parts_of N leaves eps at leaves' left next (is_exhausted l part ep s same) n = absurd (n l)
parts_of N leaves eps at leaves' left next (is_whole l part ep s q same) n = absurd (n l)
parts_of N leaves eps at leaves' left next (is_cut l m part ep s q same) n =
    record {
      part = part;
      is = ep;
      going = s;
      some = omega (arith, l, q);
      few = omega (arith, m, q);
      front = ap (take left) same ∙ take_at (left_half part leaves) (right_half part leaves) left (sym q);
      back = ap (drop left) same ∙ drop_at (left_half part leaves) (right_half part leaves) left (sym q);
    }

module _ (N : Network) (eps : Float) (cutoff : ℕ) (a : List Pair) (n made : ℕ) (weights counts legs outputs leaves : List ℕ) (at : Words) (kids₀ : List ℕ)
    (asks : Asks N a n made weights counts legs outputs leaves kids₀) (leaves' : List ℕ) (left : ℕ) (next : Words)
    (cut : CutBy N leaves eps at leaves' left next) (n₀ : left ≡ 0 → ⊥)
  where
    abbrev P : Parts N leaves eps at leaves' left next
    P = parts_of N leaves eps at leaves' left next cut n₀

    abbrev L : List ℕ
    L = left_half P.part leaves

    abbrev R : List ℕ
    R = right_half P.part leaves

    -- some of the leaves
    half_asks : (l : List ℕ) → ((v : ℕ) → count v l ≤ count v leaves) → (b : List Pair) (k : ℕ) (kids : List ℕ) → k ≡ length b → kids ≡ over kids (flat_of b)
        → Asks N b n k weights counts legs outputs l kids
    half_asks l h b k kids ek ew =
        record {
          lends = asks.lends;
          accepted = asks.accepted;
          leaf = λ v m. asks.leaf v (by_cases (memb v leaves) (λ e. e) (λ e. absurd (omega (arith, count_not_memb v leaves e, h v, count_memb v l m))));
          once = λ v. omega (arith, h v, asks.once v);
          array = ek;
          written = ew;
        }

    pub left_asks : Asks N a n made weights counts legs outputs (take left leaves') kids₀
    left_asks =
        half_asks (take left leaves')
        (λ v. omega (arith, ap (count v) P.front, members_count (on_zero P.part) v 0 leaves)) a made kids₀ asks.array asks.written

    left_many : left ≤ length leaves' → length L ≡ left
    left_many h = sym (ap length P.front) ∙ length-take-le left leaves' h

    module _ (kids₁ : List ℕ) (answer₁ : Result ℕ Refusal) (at₁ : Words) (x : Halves N eps cutoff a (take left leaves') next kids₀ kids₁ answer₁ at₁) (h : max cutoff 2 < length leaves) where
      abbrev X : Halves N eps cutoff a L next kids₀ kids₁ answer₁ at₁
      X = subst (λ (l : List ℕ). Halves N eps cutoff a l next kids₀ kids₁ answer₁ at₁) P.front x

      -- the left half is refused
      pub rec_left : (r : Refusal) → answer₁ ≡ Err r → (answer : Result ℕ Refusal) → answer ≡ Err r → Halves N eps cutoff a leaves at kids₀ kids₁ answer at₁
      rec_left r t answer e = go X
        where
          go : Halves N eps cutoff a L next kids₀ kids₁ answer₁ at₁ → Halves N eps cutoff a leaves at kids₀ kids₁ answer at₁
          go (is_off u y z q) = is_off u y (e ∙ sym t ∙ z) (left_refused N eps cutoff leaves a at h P.part next P.is P.going P.some P.few u q)
          go (is_tree top z l b q w k y) = ok_or_err z t

      -- the right half is refused, or both are joined
      pub rec_joined : left ≤ length leaves' → (top₁ : ℕ) → answer₁ ≡ Ok top₁ → (r : List ℕ) → r ≡ drop left leaves' → (c₁ c₂ : ℕ) → c₁ ≡ made + (left - 1)
          → c₂ ≡ made + (length leaves - 2) → n + c₂ < 65536 → (kids₂ kids₃ : List ℕ) (answer₂ : Result ℕ Refusal) (at₂ : Words) (answer₃ : Result ℕ Refusal)
          → ((b : List Pair) → Asks N b n c₁ weights counts legs outputs r kids₁ → Halves N eps cutoff b r at₁ kids₁ kids₂ answer₂ at₂)
          → Joins n kids₂ kids₃ c₂ top₁ answer₂ answer₃ → Halves N eps cutoff a leaves at kids₀ kids₃ answer₃ at₂
      rec_joined hl top₁ t r er c₁ c₂ e₁ e₂ fit kids₂ kids₃ answer₂ at₂ answer₃ f j = go X
        where
          er' : r ≡ R
          er' = er ∙ P.back

          go : Halves N eps cutoff a L next kids₀ kids₁ answer₁ at₁ → Halves N eps cutoff a leaves at kids₀ kids₃ answer₃ at₂
          go (is_off u y z q) = ok_or_err t z
          go (is_tree top s low b q w k z) =
              both (subst (λ (l : List ℕ). Halves N eps cutoff b.pairs l at₁ kids₁ kids₂ answer₂ at₂) er'
              (f b.pairs (half_asks r (λ v. omega (arith, ap (count v) er', members_count (on_zero P.part) v 0 leaves)) b.pairs c₁ kids₁
              (omega (arith, e₁, k, asks.array, left_many hl))
              (w ∙ sym (over-over kids₀ (flat_of b.pairs) (flat_of b.pairs) (omega arith)) ∙ ap (λ (l : List ℕ). over l (flat_of b.pairs)) (sym w))))) j
            where
              hx : Halved
              hx = record { built = b; words = at₁ }

              both : Halves N eps cutoff b.pairs R at₁ kids₁ kids₂ answer₂ at₂ → Joins n kids₂ kids₃ c₂ top₁ answer₂ answer₃
                  → Halves N eps cutoff a leaves at kids₀ kids₃ answer₃ at₂
              both (is_off v tv g y) (is_right d s₂ e) =
                  is_off v tv (e ∙ sym s₂ ∙ g) (right_refused N eps cutoff leaves a at h P.part next P.is P.going P.some P.few hx q v y)
              both (is_off v tv g y) (is_node top₂ s₂ l₂ e₃ e₅) = ok_or_err s₂ g
              both (is_tree top₂ g l₂ d y wy ky zy) (is_right v s₂ e) = ok_or_err g s₂
              both (is_tree top₃ g l₃ d y wy ky zy) (is_node top₂ s₂ l₂ e₃ e₅) =
                  let (tx, px, nx) = z P.some in
                  let (ty, py, ny) = zy (omega (arith, P.few, halves_length P.part leaves)) in
                  let mx : top₁ ≡ number tx = same_top t s ∙ nx in
                  let my : top₂ ≡ number ty = same_top s₂ g ∙ ny in
                  let ec : c₂ ≡ length d.pairs = omega (arith, e₂, ky, k, asks.array, P.some, P.few, halves_length P.part leaves) in
                  let two : 2 ≤ length leaves = omega (arith, P.some, P.few) in
                  let wd : kids₂ ≡ over kids₀ (flat_of d.pairs) =
                  wy ∙ ap (λ (l : List ℕ). over l (flat_of d.pairs)) w ∙ over-over kids₀ (flat_of b.pairs) (flat_of d.pairs) (flat_more b.pairs d.pairs (omega (arith, ky))) in
                  let built : join_all N d.pairs (b.tops ++ d.tops) ≡ record { pairs = plus d.pairs tx ty; tops = joined N d.pairs tx ty ∷ [] } =
                  ap₂ (λ (l m : List Tree). join_all N d.pairs (l ++ m)) px py in
                  is_tree (n + c₂) e₃ fit (record { pairs = plus d.pairs tx ty; tops = joined N d.pairs tx ty ∷ [] })
                  (both_done N eps cutoff leaves a at h P.part next P.is P.going P.some P.few hx q
                  (record { built = d; words = at₂ }) y
                  ∙ ap (λ (o : Built). Ok (record { built = o; words = at₂ })) built)
                  (put_node kids₀ kids₂ kids₃ d.pairs tx ty c₂ top₁ top₂ wd ec mx my e₅)
                  (one_more (length (plus d.pairs tx ty)) (length d.pairs) (length a) (length leaves)
                  (length-append d.pairs (record { left = number tx; right = number ty } ∷ [])) (sym ec ∙ e₂ ∙ ap (λ (i : ℕ). i + (length leaves - 2)) asks.array) two)
                  (λ g. (joined N d.pairs tx ty, refl, omega (arith, ec, asks.lends.leaves)))
