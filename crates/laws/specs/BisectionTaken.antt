-- LAWS B5 and B6: words past those taken do not matter, 13 exactly if a draw is due past the list's end. Assumes nothing.
use Rattle.std.specs.Prelude.{◌≡◌, refl, ◌⊎◌, Bool, true, false, ◌||◌, cond, List, [], ◌∷◌, ◌++◌, ℕ, zero, suc, ◌+◌, ◌-◌, ◌<◌, ◌≤◌, max, eqb, ltb, leb, Float, length, take, drop, Result, Err, Ok}
use Rattle.std.proofs.Common.{sym, ap, ◌∙◌, subst, inl, inr, append_assoc, append-nil, arith, take-append-drop, length-append, length-drop, length-take-le, eqb-true, ltb-true, ltb-false}
use Rattle.std.proofs.lemmas.List.{take-append-le}
use Rattle.std.proofs.Math.Seq.{take-length}
use Rattle.std.proofs.lemmas.Bool.{eqb-false}
use Rattle.spec.specs.Lists.{range}
use Rattle.spec.specs.Network.{Network, leaf_count}
use Rattle.spec.specs.Tree.{Pair}
use Rattle.spec.specs.Refusal.{number_of, and_then}
use Rattle.spec.specs.declared.Refusal.TheVariants.{TableTooWide, DrawsExhausted}
use Rattle.spec.specs.declared.Refusal.{Refusal}
use Rattle.spec.specs.Draws.{Words, lent_words, Drawn}
use Rattle.spec.specs.Greedy.{Built, join_all, leaves_of, greedy_from}
use Rattle.spec.specs.Hypergraph.{hypergraph_of}
use Rattle.spec.specs.Bisection.{imbalance, Halved, with_words, left_half, right_half, small_end, join_halves, halves, bisect_rec, bisected_from, Bisected, bisection}
use Rattle.spec.specs.BisectionClaims.{first_of, WordsSuffice, TakenDecide, ExhaustedShort, ExhaustedJust, WideStands, WideMet}
use Rattle.laws.specs.Booleans.{by_cases, clash}
use Rattle.laws.specs.Results.{not_done, done_same, refused_same, and_then_lem, not_refused, then_refused}
use Rattle.laws.specs.BisectionRefusals.{greedy_refused, only_wide_or_exhausted}
use Rattle.laws.specs.WordLaws.{after_first, first_more, drawn_held, Past, Alike, Goes, leaves}
use Rattle.laws.specs.BisectionWords.{bisect_goes}

-- ---- answers with words ----

-- some of the words l are taken: an answer has fewer left, and with none to take it is refused 13
abbrev Over : List ℕ → Result Halved Refusal → Type 0
Over l (Err k) = (k ≡ DrawsExhausted) ⊎ (0 < length l)
Over l (Ok h) = (h.words.exhausted ≡ false) × (length h.words.left < length l)

-- two runs, one with r and the other with m after the words that both may take: the same answer with r and m left; or both are past that
abbrev Agree : List ℕ → List ℕ → Result Halved Refusal → Result Halved Refusal → Type 0
Agree r m x y =
    ((q : List ℕ) × (v : Result Built Refusal) × (x ≡ with_words (lent_words (q ++ r)) v) × (y ≡ with_words (lent_words (q ++ m)) v)) ⊎ (Over r x × Over m y)

-- it is not refused 13, and an answer leaves no word
abbrev Settled : Result Halved Refusal → Type 0
Settled (Err k) = k ≡ DrawsExhausted → ⊥
Settled (Ok h) = h.words ≡ lent_words []

record Answers (c : Words → Result Halved Refusal) : Type 0 where
  past : (l : List ℕ) (ws : Words) → ws.exhausted ≡ false → length ws.left < length l → Over l (c ws)
  step : (r m p : List ℕ) → Agree r m (c (lent_words (p ++ r))) (c (lent_words (p ++ m)))
  ends : (s : ℕ → ℕ) → (k : ℕ) × Settled (c (lent_words (first_of s k)))

-- nothing is drawn
plain : (v : Result Built Refusal) → (v ≡ Err DrawsExhausted → ⊥) → Answers (λ ws. with_words ws v)
plain v n = record { past = λ l ws e h. go l ws e h v; step = λ r m p. inl (p, v, refl, refl); ends = λ s. (0, settled v n) }
  where
    settled : (v : Result Built Refusal) → (v ≡ Err DrawsExhausted → ⊥) → Settled (with_words (lent_words []) v)
    settled (Err k) n = λ e. n (ap (λ k. Err k) e)
    settled (Ok b) n = refl

    go : (l : List ℕ) (ws : Words) → ws.exhausted ≡ false → length ws.left < length l → (v : Result Built Refusal) → Over l (with_words ws v)
    go l ws e h (Err k) = inr (omega arith)
    go l ws e h (Ok b) = (e, h)

choose : {c d : Words → Result Halved Refusal} (b : Bool) → Answers c → Answers d → Answers (λ ws. cond b (c ws) (d ws))
choose true g h = g
choose false g h = h

-- an answer with words left
from_words : {P : Type 0} (h : Halved) (l : List ℕ) (v : Result Built Refusal) → Ok h ≡ with_words (lent_words l) v
    → ((b : Built) → v ≡ Ok b → h ≡ record { built = b; words = lent_words l } → P) → P
from_words h l (Err j) e f = not_done j h (sym e)
from_words h l (Ok b) e f = f b refl (done_same h (record { built = b; words = lent_words l }) e)

next : {c : Words → Result Halved Refusal} (f : Halved → Result Halved Refusal) → Answers c → ((b : Built) → Answers (λ ws. f (record { built = b; words = ws })))
    → Answers (λ ws. and_then (c ws) f)
next {c} f g h =
    record {
      past = λ l ws e k. beyond l (c ws) (g.past l ws e k);
      step = λ r m p. go r m (c (lent_words (p ++ r))) (c (lent_words (p ++ m))) (g.step r m p);
      ends = λ s. let (k, e) = g.ends s in both s k (c (lent_words (first_of s k))) refl e;
    }
  where
    -- where just the words p are taken, others after them are left
    left : (p m : List ℕ) (y : Halved) → c (lent_words p) ≡ Ok y → y.words ≡ lent_words []
        → c (lent_words (p ++ m)) ≡ Ok (record { built = y.built; words = lent_words m })
    left p m y e w = after (rw append-nil at (g.step [] m p))
      where
        none_more : (q : List ℕ) (b : Built) → y ≡ record { built = b; words = lent_words (q ++ []) }
            → ◌≡◌ {A = Result Halved Refusal} (Ok (record { built = b; words = lent_words (q ++ m) })) (Ok (record { built = y.built; words = lent_words m }))
        none_more [] b x = ap (λ (z : Halved). Ok (record { built = z.built; words = lent_words m })) (sym x)
        none_more (v ∷ q) b x =
            absurd (let z : ◌≡◌ {A = ℕ} (suc (length (q ++ []))) 0 = sym (ap (λ (z : Halved). length z.words.left) x) ∙ ap (λ (ws : Words). length ws.left) w in omega arith)

        after : Agree [] m (c (lent_words p)) (c (lent_words (p ++ m))) → c (lent_words (p ++ m)) ≡ Ok (record { built = y.built; words = lent_words m })
        after (inl (q, v, x, z)) = from_words y (q ++ []) v (sym e ∙ x) (λ b a i. z ∙ ap (with_words (lent_words (q ++ m))) a ∙ none_more q b i)
        after (inr (o, o')) = absurd (omega (arith, (rw e at o).1))

    both : (s : ℕ → ℕ) (k : ℕ) (x : Result Halved Refusal) → c (lent_words (first_of s k)) ≡ x → Settled x
        → (k : ℕ) × Settled (and_then (c (lent_words (first_of s k))) f)
    both s k (Err r) e n = (k, rw e n)
    both s k (Ok y) e w =
        let (j, d) = (h y.built).ends (after_first k s) in (
          k + j,
          subst Settled (sym (ap (λ (l : List ℕ). and_then (c (lent_words l)) f) (first_more k j s)
              ∙ ap (λ (x : Result Halved Refusal). and_then x f) (left (first_of s k) (first_of (after_first k s) j) y e w))) d,
        )

    beyond : (l : List ℕ) (x : Result Halved Refusal) → Over l x → Over l (and_then x f)
    beyond l (Err k) o = o
    beyond l (Ok y) (e, k) = (h y.built).past l y.words e k

    same : (r m q : List ℕ) (v : Result Built Refusal) → Agree r m (and_then (with_words (lent_words (q ++ r)) v) f) (and_then (with_words (lent_words (q ++ m)) v) f)
    same r m q (Err k) = inl (q, Err k, refl, refl)
    same r m q (Ok b) = (h b).step r m q

    go : (r m : List ℕ) (x y : Result Halved Refusal) → Agree r m x y → Agree r m (and_then x f) (and_then y f)
    go r m x y (inl (q, v, e, e')) = rw (e, e') (same r m q v)
    go r m x y (inr (o, o')) = inr (beyond r x o, beyond m y o')

-- a draw that was due and got no word is refused 13, before anything else is answered
abbrev unless_exhausted : (List ℕ → Words → Result Halved Refusal) → Drawn (List ℕ) → Result Halved Refusal
unless_exhausted f d = cond d.words.exhausted (Err DrawsExhausted) (f d.value d.words)

exhausted_or : {c : Words → Drawn (List ℕ)} (f : List ℕ → Words → Result Halved Refusal) → Goes (drawn_held (List ℕ)) c → ((part : List ℕ) → Answers (f part))
    → Answers (λ ws. unless_exhausted f (c ws))
exhausted_or {c} f g h =
    record {
      past = λ l ws e k. beyond l (c ws) (g.past l ws (λ s. k));
      step = λ r m p. go r m (c (lent_words (p ++ r))) (c (lent_words (p ++ m))) (g.step r m p);
      ends = both;
    }
  where
    both : (s : ℕ → ℕ) → (k : ℕ) × Settled (unless_exhausted f (c (lent_words (first_of s k))))
    both s =
        let (k, e) = g.ends s in
        let (j, d) = (h (c (lent_words (first_of s k))).value).ends (after_first k s) in (
          k + j,
          subst Settled (sym (ap (λ (l : List ℕ). unless_exhausted f (c (lent_words l))) (first_more k j s)
              ∙ ap (unless_exhausted f) (leaves (drawn_held (List ℕ)) g (first_of s k) (first_of (after_first k s) j) e))) d,
        )

    beyond : (l : List ℕ) (d : Drawn (List ℕ)) → Past l d.words → Over l (unless_exhausted f d)
    beyond l d k = by_cases d.words.exhausted (λ e. rw e (inl refl)) (λ e. rw e ((h d.value).past l (lent_words d.words.left) refl (k e)))

    go : (r m : List ℕ) (d d' : Drawn (List ℕ)) → Alike (drawn_held (List ℕ)) r m d d' → Agree r m (unless_exhausted f d) (unless_exhausted f d')
    go r m d d' (inl (q, u, e, e')) = rw (e, e') ((h u.value).step r m q)
    go r m d d' (inr (k, k')) = inr (beyond r d k, beyond m d' k')

-- ---- bisection ----

module _ (N : Network) (eps : Float) (cutoff : ℕ) where
  small_answers : (leaves : List ℕ) (a : List Pair) → Answers (small_end N eps cutoff leaves a)
  small_answers leaves a = plain (greedy_from N a (leaves_of leaves)) (λ e. absurd (omega (arith, ap number_of (greedy_refused N a (leaves_of leaves) DrawsExhausted e))))

  halves_answer : (go : List ℕ → List Pair → Words → Result Halved Refusal) → ((l : List ℕ) (a : List Pair) → Answers (go l a))
      → (left right : List ℕ) (a : List Pair) → Answers (halves N eps cutoff go left right a)
  halves_answer go h left right a =
      next (λ x. and_then (go right x.built.pairs x.words) (λ y. Ok (join_halves N eps cutoff x y))) (h left a)
      (λ b. next (λ y. Ok (join_halves N eps cutoff (record { built = b; words = lent_words [] }) y)) (h right b.pairs)
      (λ b'. plain (Ok (join_all N b'.pairs (b.tops ++ b'.tops))) (λ e. not_done DrawsExhausted (join_all N b'.pairs (b.tops ++ b'.tops)) (sym e))))

  rec_answers : (fuel : ℕ) (leaves : List ℕ) (a : List Pair) → Answers (bisect_rec N eps cutoff fuel leaves a)
  rec_answers zero leaves a = small_answers leaves a
  rec_answers (suc fuel) leaves a =
      choose (leb (length leaves) (max cutoff 2)) (small_answers leaves a)
      (exhausted_or
      (λ part ws. cond (eqb (length (left_half part leaves)) 0 || eqb (length (right_half part leaves)) 0) (small_end N eps cutoff leaves a ws)
      (halves N eps cutoff (λ l b w. bisect_rec N eps cutoff fuel l b w) (left_half part leaves) (right_half part leaves) a ws))
      (bisect_goes (hypergraph_of N leaves) eps)
      (λ part. choose (eqb (length (left_half part leaves)) 0 || eqb (length (right_half part leaves)) 0) (small_answers leaves a)
      (halves_answer (λ l b w. bisect_rec N eps cutoff fuel l b w) (rec_answers fuel) (left_half part leaves) (right_half part leaves) a)))

abbrev bisected : Network → ℕ → ℕ → Words → Result Halved Refusal
bisected N i cutoff ws = bisect_rec N (imbalance i) cutoff (leaf_count N) (range (leaf_count N)) [] ws

answers : (N : Network) (i cutoff : ℕ) → Answers (bisected N i cutoff)
answers N i cutoff = rec_answers N (imbalance i) cutoff (leaf_count N) (range (leaf_count N)) []

left_least : (N : Network) (i cutoff : ℕ) (words : List ℕ) (h : Halved) → bisected N i cutoff (lent_words words) ≡ Ok h → length h.words.left ≤ length words
left_least N i cutoff words h e = omega (arith, (rw e at ((answers N i cutoff).past (0 ∷ words) (lent_words words) refl (omega arith))).1)

module _ (N : Network) (i cutoff : ℕ) (p r m : List ℕ) (h : Halved) (e : bisected N i cutoff (lent_words (p ++ r)) ≡ Ok h) where
  -- A run that begins with the words p and answers with as many left as were after p: with others after p it answers the same.
  same_answer : length h.words.left ≡ length r → bisected N i cutoff (lent_words (p ++ m)) ≡ Ok (record { built = h.built; words = lent_words m })
  same_answer k = go ((answers N i cutoff).step r m p)
    where
      same : (q : List ℕ) (b : Built) → h ≡ record { built = b; words = lent_words (q ++ r) }
          → ◌≡◌ {A = Result Halved Refusal} (Ok (record { built = b; words = lent_words (q ++ m) })) (Ok (record { built = h.built; words = lent_words m }))
      same [] b x = ap (λ (z : Halved). Ok (record { built = z.built; words = lent_words m })) (sym x)
      same (w ∷ q) b x = absurd (omega (arith, k, ap (λ (z : Halved). length z.words.left) x, length-append q r))

      go : Agree r m (bisected N i cutoff (lent_words (p ++ r))) (bisected N i cutoff (lent_words (p ++ m)))
          → bisected N i cutoff (lent_words (p ++ m)) ≡ Ok (record { built = h.built; words = lent_words m })
      go (inl (q, v, x, y)) = from_words h (q ++ r) v (sym e ∙ x) (λ b z w. y ∙ ap (with_words (lent_words (q ++ m))) z ∙ same q b w)
      go (inr (o, o')) = absurd (omega (arith, k, (rw e at o).1))

  -- with fewer left, and no words after p, it is refused 13
  exhausted_answer : length h.words.left < length r → m ≡ [] → bisected N i cutoff (lent_words (p ++ m)) ≡ Err DrawsExhausted
  exhausted_answer k n = go ((answers N i cutoff).step r m p)
    where
      none_left : (x : Result Halved Refusal) → Over m x → x ≡ Err DrawsExhausted
      none_left (Err j) (inl e) = ap (λ j. Err j) e
      none_left (Err j) (inr k) = absurd (omega (arith, ap length n))
      none_left (Ok y) (e, k) = absurd (omega (arith, ap length n))

      go : Agree r m (bisected N i cutoff (lent_words (p ++ r))) (bisected N i cutoff (lent_words (p ++ m)))
          → bisected N i cutoff (lent_words (p ++ m)) ≡ Err DrawsExhausted
      go (inl (q, v, x, y)) =
          from_words h (q ++ r) v (sym e ∙ x) (λ b z w. absurd (omega (arith, k, ap (λ (z : Halved). length z.words.left) w, length-append q r)))
      go (inr (o, o')) = none_left (bisected N i cutoff (lent_words (p ++ m))) o'

-- ---- the claims ----

pub taken_decide : TakenDecide
unfolding bisection
taken_decide N i cutoff words b e =
    and_then_lem (bisected N i cutoff (lent_words words)) (λ h. Ok (bisected_from words h)) b e
    (λ h e₁ e₂. subst Decides (done_same (bisected_from words h) b e₂) (omega arith, go h e₁))
  where
    Decides : Bisected → Type 0
    Decides b = (b.taken ≤ length words) × ((more : List ℕ) → bisection N i cutoff (take b.taken words ++ more) ≡ Ok b)

    go : (h : Halved) → bisected N i cutoff (lent_words words) ≡ Ok h → (more : List ℕ)
        → bisection N i cutoff (take (bisected_from words h).taken words ++ more) ≡ Ok (bisected_from words h)
    go h e more =
        let t : ℕ = length words - length h.words.left in
        let s = same_answer N i cutoff (take t words) (drop t words) more h (rw (take-append-drop t words) e)
        (omega (arith, length-drop t words, left_least N i cutoff words h e)) in
        rw s (ap (λ k. Ok (record { pairs = h.built.pairs; taken = k }))
        (omega (arith, length-append (take t words) more, length-take-le t words (omega arith))))

pub exhausted_short : ExhaustedShort
unfolding bisection
exhausted_short N i cutoff words b k e lt =
    and_then_lem (bisected N i cutoff (lent_words words)) (λ h. Ok (bisected_from words h)) b e
    (λ h e₁ e₂.
    ap (λ x. and_then x (λ h. Ok (bisected_from (take k words) h)))
    (rw append-nil at (exhausted_answer N i cutoff (take k words) (drop k words) [] h (rw (take-append-drop k words) e₁)
    (omega (arith, length-drop k words, ap (λ (b : Bisected). b.taken) (done_same (bisected_from words h) b e₂))) refl)))

pub words_suffice : WordsSuffice
unfolding bisection
words_suffice N i cutoff s = let (k, e) = (answers N i cutoff).ends s in (k, go (first_of s k) (bisected N i cutoff (lent_words (first_of s k))) refl e)
  where
    go : (words : List ℕ) (x : Result Halved Refusal) → bisected N i cutoff (lent_words words) ≡ x → Settled x
        → and_then (bisected N i cutoff (lent_words words)) (λ h. Ok (bisected_from words h)) ≡ Err DrawsExhausted → ⊥
    go words (Err r) e n q = n (refused_same {A = Bisected} r DrawsExhausted (sym (ap (λ (x : Result Halved Refusal). and_then x (λ h. Ok (bisected_from words h))) e) ∙ q))
    go words (Ok h) e w q = not_done DrawsExhausted (bisected_from words h) (sym q ∙ ap (λ (x : Result Halved Refusal). and_then x (λ h. Ok (bisected_from words h))) e)

-- a run that is refused 12 with no words after those given is refused 12 with any
stands : (more : List ℕ) (x y : Result Halved Refusal) → x ≡ Err TableTooWide → Agree [] more x y → y ≡ Err TableTooWide
stands more x y e (inl (q, Err j, z, w)) = w ∙ ap (λ k. Err k) (refused_same {A = Halved} j TableTooWide (sym z ∙ e))
stands more x y e (inl (q, Ok b, z, w)) = not_done {A = Halved} TableTooWide (record { built = b; words = lent_words (q ++ []) }) (sym e ∙ z)
stands more x y e (inr (o, o')) = none_over (rw e at o)
  where
    none_over : Over [] (Err TableTooWide) → y ≡ Err TableTooWide
    none_over (inl k) = absurd (omega (arith, ap number_of k))
    none_over (inr k) = absurd (omega arith)

pub wide_stands : WideStands
unfolding bisection
wide_stands N i cutoff words more e =
    then_refused (bisected N i cutoff (lent_words words)) (λ h. Ok (bisected_from words h)) TableTooWide e
    (λ q. ap (λ x. and_then x (λ h. Ok (bisected_from (words ++ more) h)))
    (stands more (bisected N i cutoff (lent_words (words ++ []))) (bisected N i cutoff (lent_words (words ++ more))) (rw append-nil q) ((answers N i cutoff).step [] more words)))
    (λ h _ q. not_refused (bisected_from words h) TableTooWide q)

pub exhausted_just : ExhaustedJust
exhausted_just N i cutoff words more b e f =
    by_cases (ltb (length words) b.taken) (ltb-true (length words) b.taken)
    (λ k. not_done DrawsExhausted b (sym e ∙ enough (ltb-false (length words) b.taken k)))
  where
    enough : b.taken ≤ length words → bisection N i cutoff words ≡ Ok b
    enough h =
        ap (bisection N i cutoff) (sym (take-append-drop b.taken words) ∙ ap (λ (l : List ℕ). l ++ drop b.taken words) (sym (take-append-le b.taken words more h)))
        ∙ (taken_decide N i cutoff (words ++ more) b f).1 (drop b.taken words)

-- ---- where greedy meets 12 ----

abbrev is_wide : Result Bisected Refusal → Bool
is_wide (Ok b) = false
is_wide (Err r) = eqb (number_of r) (number_of TableTooWide)

-- the first number that passes a test, where n does
first_passing : (p : ℕ → Bool) (n : ℕ) → p n ≡ true → (t : ℕ) × (t ≤ n) × (p t ≡ true) × ((k : ℕ) → k < t → p k ≡ false)
first_passing p n h = go n 0 (omega arith) (λ k l. absurd (omega arith))
  where
    go : (d j : ℕ) → j + d ≡ n → ((k : ℕ) → k < j → p k ≡ false) → (t : ℕ) × (t ≤ n) × (p t ≡ true) × ((k : ℕ) → k < t → p k ≡ false)
    go zero j e f = (j, omega arith, (let z : j ≡ n = omega arith in ap p z ∙ h), f)
    go (suc d) j e f =
        let next : p j ≡ false → (k : ℕ) → k < suc j → p k ≡ false =
        λ q k l. by_cases (eqb k j) (λ z. ap p (eqb-true k j z) ∙ q) (λ z. f k (omega (arith, eqb-false k j z))) in
        by_cases (p j) (λ q. (j, omega arith, q, f)) (λ q. go d (suc j) (omega arith) (next q))

-- what a bisection answers that is not refused 12 with some of the words, where with all of them it is: it is refused 13
short_exhausted : (N : Network) (i cutoff : ℕ) (words : List ℕ) (k : ℕ) → bisection N i cutoff words ≡ Err TableTooWide
    → (x : Result Bisected Refusal) → bisection N i cutoff (take k words) ≡ x → is_wide x ≡ false → bisection N i cutoff (take k words) ≡ Err DrawsExhausted
short_exhausted N i cutoff words k e (Ok b) x h =
    let l : List ℕ = take k words in
    let whole : take b.taken l ++ (drop b.taken l ++ drop k words) ≡ words =
    sym (append_assoc (take b.taken l) (drop b.taken l) (drop k words)) ∙ ap (λ (z : List ℕ). z ++ drop k words) (take-append-drop b.taken l)
    ∙ take-append-drop k words in
    not_done TableTooWide b (sym e ∙ ap (bisection N i cutoff) (sym whole) ∙ (taken_decide N i cutoff l b x).1 (drop b.taken l ++ drop k words))
short_exhausted N i cutoff words k e (Err r) x h = go (only_wide_or_exhausted N i cutoff (take k words) r x)
  where
    go : (r ≡ TableTooWide) ⊎ (r ≡ DrawsExhausted) → bisection N i cutoff (take k words) ≡ Err DrawsExhausted
    go (inl q) = clash (rw q) h
    go (inr q) = x ∙ ap (λ r. Err r) q

is_wide_lem : (N : Network) (i cutoff : ℕ) (words : List ℕ) (x : Result Bisected Refusal) → bisection N i cutoff words ≡ x → is_wide x ≡ true
    → bisection N i cutoff words ≡ Err TableTooWide
is_wide_lem N i cutoff words (Ok b) x h = clash h refl
is_wide_lem N i cutoff words (Err r) x h = go (only_wide_or_exhausted N i cutoff words r x)
  where
    go : (r ≡ TableTooWide) ⊎ (r ≡ DrawsExhausted) → bisection N i cutoff words ≡ Err TableTooWide
    go (inl q) = x ∙ ap (λ r. Err r) q
    go (inr q) = clash h (rw q)

pub wide_met : WideMet
wide_met N i cutoff words e =
    let (t, within, wide, first) = first_passing (λ k. is_wide (bisection N i cutoff (take k words))) (length words) (rw (take-length words, e)) in
    record {
      t = t;
      within = within;
      wide = λ more. wide_stands N i cutoff (take t words) more (is_wide_lem N i cutoff (take t words) (bisection N i cutoff (take t words)) refl wide);
      short = λ k l. short_exhausted N i cutoff words k e (bisection N i cutoff (take k words)) refl (first k l);
    }
