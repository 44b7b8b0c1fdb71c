-- Vertices, and nets, are entered again by the words of a slot: those of a word from its lowest digit up. Assumes nothing.
use Rattle.std.specs.Prelude.{true, ◌≡◌, refl, List, [], ◌∷◌, ◌++◌, ℕ, suc, ◌+◌, ◌*◌, ◌^◌, ◌≤◌, ◌<◌, ltb, length, get_or, take}
use Rattle.std.proofs.Common.{sym, ap, ap₂, ◌∙◌, subst, append_assoc, arith, length-append, ltb-true}
use Rattle.std.proofs.lemmas.Nat.{ones-le}
use Rattle.spec.specs.Lists.{keep, from}
use Rattle.spec.specs.Members.{All}
use Rattle.spec.specs.Hypergraph.{fold_over}
use Rattle.spec.specs.Fm.{Queue}
use Rattle.laws.specs.Booleans.{and_left}
use Rattle.laws.specs.ListLaws.{kept_each, kept_few}
use Rattle.laws.specs.MemberLaws.{all_map}
use Rattle.bits.specs.Lowest.{places, places_ones, keep-places}
use Rattle.slots.specs.Slots.{held}
use Rattle.slots.specs.Rising.{rising_of, held_tests, below_of, below_next}
use Rattle.partition.specs.Folds.{fold_append}
use Rattle.partition.specs.Layout.{Laid}
use Rattle.partition.specs.declared.place.Place.{Place}
use Rattle.fm.specs.Again.{Stamped, again_in, Again, AllAgain}
use Rattle.fm.specs.NetAgain.{NetAgain}
use Rattle.fm.specs.NetsAgain.{NetsAgain, pins_in}
use Rattle.fm.specs.Turns.{Turns, turns_next, both}

-- ---- the members of a slot, by its words ----

pub places_few : (b x : ℕ) → x < 2 ^ 64 → length (places b 64 x) ≤ 64
places_few b x h = omega (arith, places_ones b 64 x h, ones-le 64 x h)

-- a slot of two words
pub rising_two : (ws : List ℕ) (s : ℕ) → rising_of ws 2 s ≡ places 0 64 (get_or ws (s * 2) 0) ++ places 64 64 (get_or ws (s * 2 + 1) 0)
unfolding rising_of
rising_two ws s =
    below_next ws 2 s 1
    ∙ ap (λ (l : List ℕ). l ++ places 64 64 (get_or ws (s * 2 + 1) 0))
    (below_next ws 2 s 0 ∙ ap (λ (i : ℕ). places 0 64 (get_or ws i 0)) (let e : s * 2 + 0 ≡ s * 2 = omega arith in e))

-- below word k of a slot of four words
pub below_few : (ws : List ℕ) (s k : ℕ) → length (below_of ws 4 s (k * 64)) ≤ k * 64
below_few ws s k = kept_few (held ws 4 s) (k * 64)

-- what holds of a slot's members holds of those of its word k
pub word_members : (P : ℕ → Type 0) (ws : List ℕ) (W s k : ℕ) → ((v : ℕ) → v < (k + 1) * 64 → held ws W s v ≡ true → P v)
    → All P (places (k * 64) 64 (get_or ws (s * W + k) 0))
word_members P ws W s k h =
    subst (All P) (keep-places (held ws W s) (k * 64) 64 (get_or ws (s * W + k) 0) (held_tests ws W s k))
    (all_map (λ v. (held ws W s v ≡ true) × (v < k * 64 + 64)) P (keep (held ws W s) (from (k * 64) 64)) (λ v m. h v (omega (arith, m.1)) m.0) (kept_each (held ws W s) (k * 64) 64))

module _ (ws : List ℕ) (o : Place) (weights : List ℕ) (locked : ℕ) where
  -- ---- lists of vertices ----

  first_again : (u : ℕ) (m : List ℕ) (q g r : Queue) → Again ws o weights locked u q g → AllAgain ws o weights locked m (length m) g r → AllAgain ws o weights locked (u ∷ m) (length (u ∷ m)) q r
  first_again u m q g r e a =
      record {
        queue = λ vw moves h. a.queue vw moves h ∙ ap (fold_over (again_in ws o weights locked vw moves) (take (length m) m)) (e.queue vw moves h);
        stamps = λ k h w. omega (arith, a.stamps (suc k) (e.stamps k h) w);
      }

  both_again : (l m : List ℕ) (q g r : Queue) → AllAgain ws o weights locked l (length l) q g → AllAgain ws o weights locked m (length m) g r → AllAgain ws o weights locked (l ++ m) (length (l ++ m)) q r
  both_again l m q g r a b =
      record {
        queue = λ vw moves h. let f = again_in ws o weights locked vw moves in
            both (fold_over f) (fold_append f) l m q g r (a.queue vw moves h) (b.queue vw moves h);
        stamps = λ k h w. omega (arith, b.stamps (k + length l) (a.stamps k h) w, length-append l m);
      }

  -- of the vertices `l`, from the queue q₀ on, those of `rest` are still to be entered, from the queue q on
  abbrev pub Entering : List ℕ → Queue → List ℕ → Queue → Type 0
  Entering l q₀ rest q =
      Turns (λ l. AllAgain ws o weights locked l (length l)) (AllAgain ws o weights locked l (length l) q₀) o.vertex_count 4294967295 1 rest q

  pub entering_all : (l : List ℕ) (q : Queue) → length l ≤ 64 → All (λ u. u < o.vertex_count) l → Stamped 4294967040 q.stamps → Entering l q l q
  entering_all l q b a s = record { low = a; stamp = 4294967040; stamps = s; fits = omega (arith, b); leads = λ r p. p }

  pub entering_next : (l : List ℕ) (q₀ : Queue) (rest : List ℕ) (q : Queue) (u : ℕ) (m : List ℕ) (g : Queue) → Entering l q₀ rest q → rest ≡ u ∷ m
      → Again ws o weights locked u q g → Entering l q₀ m g
  entering_next l q₀ rest q u m g h e a = turns_next h u m g e (λ k s w. omega (arith, a.stamps k s w)) (λ r. first_again u m q g r a)

  -- a net's pins are those of its two words
  pub two_words : (e x y : ℕ) (q g r : Queue) → x ≡ get_or ws ((o.nets + e) * 2) 0 → y ≡ get_or ws ((o.nets + e) * 2 + 1) 0
      → AllAgain ws o weights locked (places 0 64 x) (length (places 0 64 x)) q g → AllAgain ws o weights locked (places 64 64 y) (length (places 64 64 y)) g r
      → AllAgain ws o weights locked (rising_of ws 2 (o.nets + e)) (length (rising_of ws 2 (o.nets + e))) q r
  two_words e x y q g r ex ey a b =
      subst (λ (l : List ℕ). AllAgain ws o weights locked l (length l) q r)
      (ap₂ (λ (x y : ℕ). places 0 64 x ++ places 64 64 y) ex ey ∙ sym (rising_two ws (o.nets + e)))
      (both_again (places 0 64 x) (places 64 64 y) q g r a b)

  -- ---- lists of nets ----

  first_net : (e : ℕ) (m : List ℕ) (q g r : Queue) → NetAgain ws o weights locked e q g → NetsAgain ws o weights locked m (length m) g r → NetsAgain ws o weights locked (e ∷ m) (length (e ∷ m)) q r
  first_net e m q g r a b =
      record {
        queue = λ vw moves h. let f = again_in ws o weights locked vw moves in
            b.queue vw moves h ∙ ap (fold_over f (pins_in ws o weights locked (take (length m) m))) (a.queue vw moves h)
            ∙ sym (fold_append f (rising_of ws 2 (o.nets + e)) (pins_in ws o weights locked (take (length m) m)) q);
        stamps = λ k h w. omega (arith, b.stamps (k + 128) (a.stamps k h) w);
      }

  pins_both : (l m : List ℕ) → pins_in ws o weights locked (l ++ m) ≡ pins_in ws o weights locked l ++ pins_in ws o weights locked m
  pins_both [] m = refl
  pins_both (x ∷ l) m =
      ap (λ (k : List ℕ). rising_of ws 2 (o.nets + x) ++ k) (pins_both l m)
      ∙ sym (append_assoc (rising_of ws 2 (o.nets + x)) (pins_in ws o weights locked l) (pins_in ws o weights locked m))

  both_nets : (l m : List ℕ) (q g r : Queue) → NetsAgain ws o weights locked l (length l) q g → NetsAgain ws o weights locked m (length m) g r → NetsAgain ws o weights locked (l ++ m) (length (l ++ m)) q r
  both_nets l m q g r a b =
      record {
        queue = λ vw moves h. let f = again_in ws o weights locked vw moves in
            both (λ (z : List ℕ). fold_over f (pins_in ws o weights locked z))
            (λ l m q. ap (λ (z : List ℕ). fold_over f z q) (pins_both l m) ∙ fold_append f (pins_in ws o weights locked l) (pins_in ws o weights locked m) q)
            l m q g r (a.queue vw moves h) (b.queue vw moves h);
        stamps = λ k h w. omega (arith, b.stamps (k + length l * 128) (a.stamps k h) w, length-append l m);
      }

  -- the nets of a slot's words before word k have been entered
  abbrev pub Before : ℕ → ℕ → Queue → Queue → Type 0
  Before s k q r = NetsAgain ws o weights locked (below_of ws 4 s (k * 64)) (length (below_of ws 4 s (k * 64))) q r

  pub before_next : (s k x : ℕ) (q g r : Queue) → x ≡ get_or ws (s * 4 + k) 0 → Before s k q g
      → NetsAgain ws o weights locked (places (k * 64) 64 x) (length (places (k * 64) 64 x)) g r → Before s (k + 1) q r
  before_next s k x q g r e a b =
      subst (λ (l : List ℕ). NetsAgain ws o weights locked l (length l) q r) (sym (below_next ws 4 s k ∙ ap (λ (y : ℕ). below_of ws 4 s (k * 64) ++ places (k * 64) 64 y) (sym e)))
      (both_nets (below_of ws 4 s (k * 64)) (places (k * 64) 64 x) q g r a b)

  pub before_all : (s k : ℕ) (q r : Queue) → k ≡ 4 → Before s k q r → NetsAgain ws o weights locked (rising_of ws 4 s) (length (rising_of ws 4 s)) q r
  unfolding rising_of
  before_all s k q r e a = subst (λ (i : ℕ). Before s i q r) e a

  -- of word k's nets, those of `rest` are still to be entered, from the queue q on
  abbrev pub EnteringNets : ℕ → ℕ → Queue → List ℕ → Queue → Type 0
  EnteringNets s k q₀ rest q = Turns (λ l. NetsAgain ws o weights locked l (length l)) (Before s (k + 1) q₀) o.net_count 2147483648 128 rest q

  pub nets_all : (s k x : ℕ) (q₀ q : Queue) → k < 4 → x < 2 ^ 64 → x ≡ get_or ws (s * 4 + k) 0 → All (λ e. e < o.net_count) (places (k * 64) 64 x)
      → Stamped 1073741824 q₀.stamps → Before s k q₀ q → EnteringNets s k q₀ (places (k * 64) 64 x) q
  nets_all s k x q₀ q b d e a h p =
      record {
        low = a;
        stamp = 1073741824 + length (below_of ws 4 s (k * 64)) * 128;
        stamps = p.stamps 1073741824 h;
        fits = omega (arith, below_few ws s k, places_few (k * 64) x d, b);
        leads = λ r t. before_next s k x q₀ q r e p t;
      }

  pub nets_next : (s k : ℕ) (q₀ : Queue) (rest : List ℕ) (q : Queue) (e : ℕ) (m : List ℕ) (g : Queue) → EnteringNets s k q₀ rest q → rest ≡ e ∷ m
      → NetAgain ws o weights locked e q g → EnteringNets s k q₀ m g
  nets_next s k q₀ rest q e m g h i a = turns_next h e m g i a.stamps (λ r. first_net e m q g r a)

  -- ---- what lies in the words ----

  module _ (h : Laid ws o.nets o.vertices o.sides o.net_count o.vertex_count) where
    pub pins_low : (e k : ℕ) → e < o.net_count → k < 2 → All (λ u. u < o.vertex_count) (places (k * 64) 64 (get_or ws ((o.nets + e) * 2 + k) 0))
    pins_low e k b c = word_members (λ u. u < o.vertex_count) ws 2 (o.nets + e) k (λ v d x. h.within e v b (omega (arith, c)) x)

    pub low_word : (e : ℕ) → e < o.net_count → All (λ u. u < o.vertex_count) (places 0 64 (get_or ws ((o.nets + e) * 2) 0))
    low_word e b =
        subst (λ (i : ℕ). All (λ u. u < o.vertex_count) (places 0 64 (get_or ws i 0))) (let z : (o.nets + e) * 2 + 0 ≡ (o.nets + e) * 2 = omega arith in z)
        (pins_low e 0 b (omega arith))

    pub nets_low : (v k : ℕ) → v < o.vertex_count → k < 4 → All (λ e. e < o.net_count) (places (k * 64) 64 (get_or ws ((o.vertices + v) * 4 + k) 0))
    nets_low v k b c =
        word_members (λ e. e < o.net_count) ws 4 (o.vertices + v) k
        (λ e d x. ltb-true e o.net_count (and_left (ltb e o.net_count) _ (sym (h.crossed v e b (omega (arith, c))) ∙ x)))
