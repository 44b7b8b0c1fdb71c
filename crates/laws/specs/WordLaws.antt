-- Runs that take words: a run goes alike with other words after those that it takes, and past the end of them if it would take more. Said of
-- any state that holds words; closed under everything that a run is made of. Assumes nothing.
use Rattle.std.specs.Prelude.{◌≡◌, refl, ◌⊎◌, Bool, true, false, cond, List, [], ◌∷◌, ◌++◌, ℕ, zero, suc, ◌+◌, ◌<◌, ◌≤◌, length}
use Rattle.std.proofs.Common.{sym, ap, ◌∙◌, inl, inr, append-nil, arith}
use Rattle.spec.specs.Draws.{Words, lent_words, Drawn, drawn, draw_from, draw}
use Rattle.spec.specs.BisectionClaims.{first_of}
use Rattle.spec.specs.Hypergraph.{until, fold_over}
use Rattle.laws.specs.Booleans.{clash}

-- the row after its first k words
abbrev pub after_first : ℕ → (ℕ → ℕ) → ℕ → ℕ
after_first zero s = s
after_first (suc k) s = after_first k (λ j. s (suc j))

pub first_more : (k j : ℕ) (s : ℕ → ℕ) → first_of s (k + j) ≡ first_of s k ++ first_of (after_first k s) j
first_more zero j s = ap (first_of s) (let e : zero + j ≡ j = omega arith in e)
first_more (suc k) j s =
    ap (first_of s) (let e : suc k + j ≡ suc (k + j) = omega arith in e) ∙ ap (λ (l : List ℕ). s 0 ∷ l) (first_more k j (λ i. s (suc i)))

-- a type with words in it
pub record Held (T : Type 0) : Type 0 where
  pub get : T → Words
  pub put : Words → T → T
  pub get-put : (ws : Words) (t : T) → get (put ws t) ≡ ws
  pub put-put : (ws ws' : Words) (t : T) → put ws (put ws' t) ≡ put ws t
  pub put-get : (t : T) → put (get t) t ≡ t

-- the state whose words are read by one function and put by the other; of a record all three laws are refl
abbrev pub held : {T : Type 0} (read : T → Words) (write : Words → T → T) → ((ws : Words) (t : T) → read (write ws t) ≡ ws)
    → ((ws ws' : Words) (t : T) → write ws (write ws' t) ≡ write ws t) → ((t : T) → write (read t) t ≡ t) → Held T
held read write read_written written_twice written_read =
    record {
      get = read;
      put = write;
      get-put = read_written;
      put-put = written_twice;
      put-get = written_read;
    }

abbrev pub drawn_held : (A : Type 0) → Held (Drawn A)
drawn_held A = held (λ d. d.words) (λ ws d. drawn d.value ws) (λ ws d. refl) (λ ws ws' d. refl) (λ d. refl)

-- some of the words l are taken, or a draw was due and none was left
abbrev pub Past : List ℕ → Words → Type 0
Past l ws = ws.exhausted ≡ false → length ws.left < length l

module _ {T : Type 0} (H : Held T) where
  -- Two runs, one with r and the other with m after the words that both may take: both are where r and m are whole, and alike but for
  -- them; or both are past that.
  abbrev pub Alike : List ℕ → List ℕ → T → T → Type 0
  Alike r m t t' =
      ((q : List ℕ) × (u : T) × (t ≡ H.put (lent_words (q ++ r)) u) × (t' ≡ H.put (lent_words (q ++ m)) u))
      ⊎ (Past r (H.get t) × Past m (H.get t'))

  -- of any row without end some first words are just those that the run takes
  abbrev pub Ends : (Words → T) → Type 0
  Ends c = (s : ℕ → ℕ) → (k : ℕ) × (H.get (c (lent_words (first_of s k))) ≡ lent_words [])

  pub record Goes (c : Words → T) : Type 0 where
    pub past : (l : List ℕ) (ws : Words) → Past l ws → Past l (H.get (c ws))
    pub step : (r m p : List ℕ) → Alike r m (c (lent_words (p ++ r))) (c (lent_words (p ++ m)))
    pub ends : Ends c

  -- where just the words p are taken, others after them are left as they are
  pub leaves : {c : Words → T} → Goes c → (p m : List ℕ) → H.get (c (lent_words p)) ≡ lent_words [] → c (lent_words (p ++ m)) ≡ H.put (lent_words m) (c (lent_words p))
  leaves {c} g p m e = go (c (lent_words p)) e (rw append-nil at (g.step [] m p))
    where
      none_more : (q : List ℕ) → lent_words (q ++ []) ≡ lent_words [] → q ≡ []
      none_more [] e = refl
      none_more (w ∷ q) e = absurd (let z : ◌≡◌ {A = ℕ} (suc (length (q ++ []))) 0 = ap (λ (ws : Words). length ws.left) e in omega arith)

      go : (t : T) → H.get t ≡ lent_words [] → Alike [] m t (c (lent_words (p ++ m))) → c (lent_words (p ++ m)) ≡ H.put (lent_words m) t
      go t e (inl (q, u, x, y)) =
          let z : q ≡ [] = none_more q (sym (H.get-put (lent_words (q ++ [])) u) ∙ sym (ap H.get x) ∙ e) in
          y ∙ ap (λ (l : List ℕ). H.put (lent_words (l ++ m)) u) z ∙ sym (H.put-put (lent_words m) (lent_words (q ++ [])) u) ∙ sym (ap (H.put (lent_words m)) x)
      go t e (inr (k, k')) = absurd (let z : length (H.get t).left < 0 = k (ap (λ (ws : Words). ws.exhausted) e) in omega arith)

  -- nothing is drawn
  pub still : {c : Words → T} → ((ws ws' : Words) → c ws ≡ H.put ws (c ws')) → Goes c
  still {c} e =
      record {
        past = λ l ws h. rw (ap H.get (e ws ws), H.get-put) h;
        step = λ r m p. inl (p, c (lent_words []), e (lent_words (p ++ r)) (lent_words []), e (lent_words (p ++ m)) (lent_words []));
        ends = λ s. (0, ap H.get (e (lent_words []) (lent_words [])) ∙ H.get-put (lent_words []) (c (lent_words [])));
      }

  pub stays : (u : T) → Goes (λ ws. H.put ws u)
  stays u =
      record {
        past = λ l ws h. rw (H.get-put ws u) h;
        step = λ r m p. inl (p, u, refl, refl);
        ends = λ s. (0, H.get-put (lent_words []) u);
      }

  -- a choice that does not look at the words
  pub either : {c d : Words → T} (b : Bool) → Goes c → Goes d → Goes (λ ws. cond b (c ws) (d ws))
  either true g h = g
  either false g h = h

-- one after the other
module _ {S T : Type 0} (J : Held S) (H : Held T) where
  pub after : {c : Words → S} (f : S → T) → Goes J c → ((u : S) → Goes H (λ ws. f (J.put ws u))) → Goes H (λ ws. f (c ws))
  after {c} f g h =
      record {
        past = λ l ws k. beyond l (c ws) (g.past l ws k);
        step = λ r m p. go r m (c (lent_words (p ++ r))) (c (lent_words (p ++ m))) (g.step r m p);
        ends = both;
      }
    where
      both : Ends H (λ ws. f (c ws))
      both s =
          let (k, e) = g.ends s in
          let (j, d) = (h (c (lent_words (first_of s k)))).ends (after_first k s) in (
            k + j,
            ap (λ (l : List ℕ). H.get (f (c (lent_words l)))) (first_more k j s)
                ∙ ap (λ (t : S). H.get (f t)) (leaves J g (first_of s k) (first_of (after_first k s) j) e) ∙ d,
          )

      beyond : (l : List ℕ) (t : S) → Past l (J.get t) → Past l (H.get (f t))
      beyond l t k = rw (J.put-get t) at ((h t).past l (J.get t) k)

      go : (r m : List ℕ) (t t' : S) → Alike J r m t t' → Alike H r m (f t) (f t')
      go r m t t' (inl (q, u, e, e')) = rw (e, e') ((h u).step r m q)
      go r m t t' (inr (k, k')) = inr (beyond r t k, beyond m t' k')

module _ {T : Type 0} (H : Held T) where
  pub over : {A : Type 0} (f : A → T → T) → ((x : A) (u : T) → Goes H (λ ws. f x (H.put ws u))) → (l : List A) (u : T)
      → Goes H (λ ws. fold_over f l (H.put ws u))
  over f h [] u = stays H u
  over f h (x ∷ l) u = after H H (λ t. fold_over f l t) (h x u) (λ t. over f h l t)

  pub turns_go : (k : ℕ) (stop : T → Bool) (f : T → T) → ((ws : Words) (u : T) → stop (H.put ws u) ≡ stop u) → ((u : T) → Goes H (λ ws. f (H.put ws u)))
      → (u : T) → Goes H (λ ws. until k stop f (H.put ws u))
  turns_go zero stop f e h u = stays H u
  turns_go (suc k) stop f e h u = go (either H (stop u) (stays H u) (after H H (λ t. until k stop f t) (h u) (λ t. turns_go k stop f e h t)))
    where
      go : Goes H (λ ws. cond (stop u) (H.put ws u) (until k stop f (f (H.put ws u)))) → Goes H (λ ws. until (suc k) stop f (H.put ws u))
      go g =
          record {
            past = λ l ws k. rw (e ws u) (g.past l ws k);
            step = λ r m p. rw (e (lent_words (p ++ r)) u, e (lent_words (p ++ m)) u) (g.step r m p);
            ends = λ s. let (j, d) = g.ends s in (j, rw (e (lent_words (first_of s j)) u) d);
          }

-- ---- one draw ----

draw_past : (l left : List ℕ) (s : Bool) → (s ≡ false → length left ≤ length l) → Past l (draw_from left s).words
draw_past l [] s h e = clash refl e
draw_past l (w ∷ left) s h e = omega (arith, h e)

-- a run that takes one word, and does with it what it would do with that word whatever the others
pub drawing : {T : Type 0} (H : Held T) {c : Words → T}
    → ((ws ws' : Words) → (draw ws).value ≡ (draw ws').value → c ws ≡ H.put (draw ws).words (c ws')) → Goes H c
drawing H {c} e =
    record {
      past = λ l ws h. rw (ap H.get (e ws ws refl), H.get-put) (draw_past l ws.left ws.exhausted (λ k. omega (arith, h k)));
      step = go;
      ends = λ s. let ws : Words = lent_words (s 0 ∷ []) in (1, ap H.get (e ws ws refl) ∙ H.get-put (lent_words []) (c ws));
    }
  where
    first : (l : List ℕ) → Past l (H.get (c (lent_words l)))
    first l = rw (ap H.get (e (lent_words l) (lent_words l) refl), H.get-put) (draw_past l l false (λ k. omega arith))

    go : (r m p : List ℕ) → Alike H r m (c (lent_words (p ++ r))) (c (lent_words (p ++ m)))
    go r m [] = inr (first r, first m)
    go r m (w ∷ p) =
        inl (p, c (lent_words (w ∷ [])), e (lent_words (w ∷ p ++ r)) (lent_words (w ∷ [])) refl, e (lent_words (w ∷ p ++ m)) (lent_words (w ∷ [])) refl)
