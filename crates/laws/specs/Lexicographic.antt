-- Orders by one key after another, and the scan of a list for the member that no other comes before: `least` of greedy's pairs and `best` of
-- slicing's indices are such scans, by such orders. Assumes nothing.
use Rattle.std.specs.Prelude.{◌≡◌, Bool, true, false, ◌&&◌, ◌||◌, cond, List, [], ◌∷◌, ℕ, ◌+◌, eqb, ltb}
use Rattle.std.proofs.Common.{sym, ap, ap₂, ◌∙◌, subst, arith, eqb-true, eq-eqb, le-ltb, ltb-true, ltb-false}
use Rattle.spec.specs.Members.{All}
use Rattle.laws.specs.Booleans.{by_cases, clash, or_cases, or_none, and_left, and_right, and_both, and_apart}

-- ---- orders ----

module _ {A : Type 0} where
  -- a strict weak order, as two tests: x comes before y, or the two tie
  pub record Order (before tie : A → A → Bool) : Type 0 where
    pub asym : (x y : A) → before x y ≡ true → before y x ≡ false
    pub trans : (x y z : A) → before x y ≡ false → before y z ≡ false → before x z ≡ false
    pub ties : (x y : A) → before x y ≡ false → before y x ≡ false → tie x y ≡ true
    pub tied : (x y : A) → tie x y ≡ true → (before x y ≡ false) × (before y x ≡ false)

  pub not_before_self : {before tie : A → A → Bool} → Order before tie → (x : A) → before x x ≡ false
  not_before_self {before} o x = by_cases (before x x) (o.asym x x) (λ e. e)

  -- By a number: f x y is x's. Where that is a difference, f x y is x's minuend and y's subtrahend, so that none is taken.
  pub by_number : (f : A → A → ℕ) (tie : A → A → Bool) → ((x y : A) → tie x y ≡ eqb (f x y) (f y x))
      → ((x y z : A) → f x y + (f y z + f z x) ≡ f y x + (f z y + f x z)) → Order (λ x y. ltb (f x y) (f y x)) tie
  by_number f tie is round =
      record {
        asym = λ x y e. le-ltb (f y x) (f x y) (omega (arith, ltb-true (f x y) (f y x) e));
        trans = λ x y z e g. le-ltb (f x z) (f z x) (omega (arith, round x y z, ltb-false (f x y) (f y x) e, ltb-false (f y z) (f z y) g));
        ties = λ x y e g. is x y ∙ eq-eqb (f x y) (f y x) (omega (arith, ltb-false (f x y) (f y x) e, ltb-false (f y x) (f x y) g));
        tied = λ x y e.
            let q : f x y ≡ f y x = eqb-true (f x y) (f y x) (sym (is x y) ∙ e) in
            (le-ltb (f x y) (f y x) (omega arith), le-ltb (f y x) (f x y) (omega arith));
      }

  -- lexicographic: by a first order, and where that ties by a second
  module _ {before tie then tie' : A → A → Bool} (o : Order before tie) (r : Order then tie') where
    abbrev lex : A → A → Bool
    lex x y = before x y || (tie x y && then x y)

    lex-false : (x y : A) → before x y ≡ false → (tie x y ≡ true → then x y ≡ false) → lex x y ≡ false
    lex-false x y e f = ap₂ ◌||◌ e (and_apart (tie x y) (then x y) f)

    false_lex : (x y : A) → lex x y ≡ false → (before x y ≡ false) × (tie x y ≡ true → then x y ≡ false)
    false_lex x y e = let (a, b) = or_none (before x y) _ e in (a, λ s. rw s at b)

    pub then_by : Order (λ x y. before x y || (tie x y && then x y)) (λ x y. tie x y && tie' x y)
    then_by =
        record {
          asym = λ x y e.
              or_cases (before x y) _ e
              (λ a. lex-false y x (o.asym x y a) (λ s. clash a (o.tied y x s).1))
              (λ a. lex-false y x (o.tied x y (and_left _ _ a)).1 (λ s. r.asym x y (and_right (tie x y) _ a)));
          trans = λ x y z e g.
              let (a, c) = false_lex x y e in
              let (b, d) = false_lex y z g in
              lex-false x z (o.trans x y z a b) (λ s.
              let q : before z x ≡ false = (o.tied x z s).1 in
              r.trans x y z (c (o.ties x y a (o.trans y z x b q))) (d (o.ties y z b (o.trans z x y q a))));
          ties = λ x y e g.
              let (a, c) = false_lex x y e in
              let (b, d) = false_lex y x g in
              and_both _ _ (o.ties x y a b) (r.ties x y (c (o.ties x y a b)) (d (o.ties y x b a)));
          tied = λ x y e.
              let (a, b) = o.tied x y (and_left _ _ e) in
              let (c, d) = r.tied x y (and_right (tie x y) _ e) in
              (lex-false x y a (λ s. c), lex-false y x b (λ s. d));
        }

-- by the order of what f gives for each
pub order_of : {A B : Type 0} {before tie : A → A → Bool} (f : B → A) → Order before tie
    → Order (λ x y. before (f x) (f y)) (λ x y. tie (f x) (f y))
order_of f o =
    record {
      asym = λ x y. o.asym (f x) (f y);
      trans = λ x y z. o.trans (f x) (f y) (f z);
      ties = λ x y. o.ties (f x) (f y);
      tied = λ x y. o.tied (f x) (f y);
    }

-- ---- scans ----

module _ {A : Type 0} where
  -- of what is kept so far and the next member, the next is kept if it comes before
  pub record Scan (before : A → A → Bool) (first : A → List A → A) : Type 0 where
    pub end : (x : A) → first x [] ≡ x
    pub next : (x y : A) (l : List A) → first x (y ∷ l) ≡ first (cond (before y x) y x) l

  module _ {before : A → A → Bool} {first : A → List A → A} (s : Scan before first) where
    -- whatever all have, the first has
    pub first_has : (P : A → Type 0) (x : A) (l : List A) → P x → All P l → P (first x l)
    first_has P x [] h k = subst P (sym (s.end x)) h
    first_has P x (y ∷ l) h k =
        subst P (sym (s.next x y l))
        (first_has P (cond (before y x) y x) l (by_cases (before y x) (λ q. rw q k.0) (λ q. rw q h)) k.1)

    -- none comes before the first
    pub first_first : {tie : A → A → Bool} → Order before tie → (x : A) (l : List A) → All (λ y. before y (first x l) ≡ false) (x ∷ l)
    first_first o x [] = (subst (λ z. before x z ≡ false) (sym (s.end x)) (not_before_self o x), tt)
    first_first o x (y ∷ l) =
        by_cases (before y x)
        (λ q. let h : All (λ z. before z (first y l) ≡ false) (y ∷ l) = first_first o y l in
        subst (λ m. All (λ z. before z m ≡ false) (x ∷ (y ∷ l))) (ap (λ b. first (cond b y x) l) (sym q) ∙ sym (s.next x y l))
        (o.trans x y (first y l) (o.asym y x q) h.0, h))
        (λ q. let h : All (λ z. before z (first x l) ≡ false) (x ∷ l) = first_first o x l in
        subst (λ m. All (λ z. before z m ≡ false) (x ∷ (y ∷ l))) (ap (λ b. first (cond b y x) l) (sym q) ∙ sym (s.next x y l))
        (h.0, (o.trans y x (first x l) q h.0, h.1)))
