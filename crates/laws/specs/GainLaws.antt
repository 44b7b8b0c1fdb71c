-- LAW B3: a gain is the weight of the nets that the move makes uncut less the weight of those that it newly cuts. Assumes nothing.
use Rattle.std.specs.Prelude.{ℕ, zero, suc, ◌+◌, ◌-◌, ◌^◌, ◌<◌, ◌≤◌, ◌≡◌, refl, List, [], ◌∷◌, map, Bool, true, false, cond, ◌&&◌, not, T, ltb, eqb, ℤ, pos, negsuc, ◌+ℤ◌, ◌-ℤ◌, length, set, Float}
use Rattle.std.proofs.Common.{sym, ap, ap₂, ◌∙◌, subst, arith, le→leb, lt→ltb, lt-ltb, le-ltb, ltb-true, ltb-false, eqb-true, eq-eqb, ne_eqb, get_or-set_same, get_or-set_other}
use Rattle.std.proofs.Math.Bool.{and_comm, and-false}
use Rattle.std.proofs.lemmas.Bool.{eqb-false}
use Rattle.std.proofs.Math.IntN.{sub_ℕ}
use Rattle.std.specs.Float.{binary64}
use Rattle.std.specs.Float.Ieee.{add, sub, of_int, round, in_float}
use Rattle.spec.specs.Lists.{memb, keep, anyb, sum_of}
use Rattle.spec.specs.Members.{All}
use Rattle.spec.specs.Network.{repeats}
use Rattle.spec.specs.Floats.{whole_float}
use Rattle.spec.specs.Hypergraph.{fold_over, Net, side_of, other_side, pins_on, is_cut}
use Rattle.spec.specs.Fm.{gain_net, gain_at, gain}
use Rattle.spec.specs.FmClaims.{WholeNet, as_net, whole_graph, made_uncut, newly_cut, LawfulNet, GainIs}
use Rattle.laws.specs.Booleans.{by_cases, or_none, clash, cond_most}
use Rattle.laws.specs.MemberLaws.{all_map}
use Rattle.laws.specs.WholeFloats.{add_whole, sub_whole}

-- ---- whole differences ----

sub_lt : (a b : ℕ) → a < b → sub_ℕ a b ≡ negsuc (b - suc a)
sub_lt a b h = ap (λ (t : Bool). cond t (negsuc (b - suc a)) (pos (a - b))) (lt-ltb a b h)

sub_ge : (a b : ℕ) → b ≤ a → sub_ℕ a b ≡ pos (a - b)
sub_ge a b h = ap (λ (t : Bool). cond t (negsuc (b - suc a)) (pos (a - b))) (le-ltb a b h)

same_sub : (a b c d : ℕ) → a + d ≡ c + b → sub_ℕ a b ≡ sub_ℕ c d
same_sub a b c d e =
    by_cases (ltb a b)
    (λ f. let h : a < b = ltb-true a b f in
    let k : c < d = omega arith in
    let l : b - suc a ≡ d - suc c = omega arith in
    sub_lt a b h ∙ ap negsuc l ∙ sym (sub_lt c d k))
    (λ f. let h : b ≤ a = ltb-false a b f in
    let k : d ≤ c = omega arith in
    let l : a - b ≡ c - d = omega arith in
    sub_ge a b h ∙ ap pos l ∙ sym (sub_ge c d k))

diff_add : (a b w : ℕ) → sub_ℕ a b +ℤ pos w ≡ sub_ℕ (a + w) b
diff_add a b w =
    by_cases (ltb a b)
    (λ f. let h : a < b = ltb-true a b f in
    ap (λ (z : ℤ). z +ℤ pos w) (sub_lt a b h) ∙ same_sub w (suc (b - suc a)) (a + w) b (omega arith))
    (λ f. let h : b ≤ a = ltb-false a b f in
    let k : b ≤ a + w = omega arith in
    let l : a - b + w ≡ a + w - b = omega arith in
    ap (λ (z : ℤ). z +ℤ pos w) (sub_ge a b h) ∙ ap pos l ∙ sym (sub_ge (a + w) b k))

diff_sub : (a b w : ℕ) → sub_ℕ a b -ℤ pos w ≡ sub_ℕ a (b + w)
diff_sub a b zero = diff_add a b 0 ∙ same_sub (a + 0) b a (b + 0) (omega arith)
diff_sub a b (suc w) =
    by_cases (ltb a b)
    (λ f. let h : a < b = ltb-true a b f in
    let k : a < b + suc w = omega arith in
    let l : suc (b - suc a + w) ≡ b + suc w - suc a = omega arith in
    ap (λ (z : ℤ). z +ℤ negsuc w) (sub_lt a b h) ∙ ap negsuc l ∙ sym (sub_lt a (b + suc w) k))
    (λ f. let h : b ≤ a = ltb-false a b f in
    ap (λ (z : ℤ). z +ℤ negsuc w) (sub_ge a b h) ∙ same_sub (a - b) (suc w) a (b + suc w) (omega arith))

-- a difference of numbers up to 2^53 is an f64
pub in_float_lem : (a b : ℕ) → a ≤ 2 ^ 53 → b ≤ 2 ^ 53 → T (in_float binary64 (sub_ℕ a b))
unfolding in_float
in_float_lem a b p q = go (ltb a b) refl
  where
    go : (t : Bool) → ltb a b ≡ t → T (in_float binary64 (cond t (negsuc (b - suc a)) (pos (a - b))))
    go true e = lt→ltb (b - suc a) (2 ^ 53) (let h : a < b = ltb-true a b e in omega arith)
    go false e = le→leb (a - b) (2 ^ 53) (omega arith)

abbrev F : ℕ → ℕ → Float
F a b = of_int binary64 (sub_ℕ a b)

plus : (a b w : ℕ) → a ≤ 2 ^ 53 → b ≤ 2 ^ 53 → w ≤ 2 ^ 53 → add binary64 (F a b) (whole_float w) ≡ F (a + w) b
unfolding in_float
plus a b w p q r = add_whole (sub_ℕ a b) (pos w) (in_float_lem a b p q) (le→leb w (2 ^ 53) r) ∙ ap (of_int binary64) (diff_add a b w)

less : (a b w : ℕ) → a ≤ 2 ^ 53 → b ≤ 2 ^ 53 → w ≤ 2 ^ 53 → sub binary64 (F a b) (whole_float w) ≡ F a (b + w)
unfolding in_float
less a b w p q r = sub_whole (sub_ℕ a b) (pos w) (in_float_lem a b p q) (le→leb w (2 ^ 53) r) ∙ ap (of_int binary64) (diff_sub a b w)

-- one net
net_gain : (here there w a b : ℕ) → a + w ≤ 2 ^ 52 → b + w ≤ 2 ^ 52
    → gain_net here there (whole_float w) (F a b) ≡ F (a + cond (eqb here 1) w 0) (b + cond (eqb there 0) w 0)
net_gain here there w a b p q = go (eqb here 1) (eqb there 0)
  where
    go : (x y : Bool)
        → cond y (sub binary64 (cond x (add binary64 (F a b) (whole_float w)) (F a b)) (whole_float w)) (cond x (add binary64 (F a b) (whole_float w)) (F a b))
        ≡ F (a + cond x w 0) (b + cond y w 0)
    go true true = ap (λ g. sub binary64 g (whole_float w)) (plus a b w (omega arith) (omega arith) (omega arith)) ∙ less (a + w) b w (omega arith) (omega arith) (omega arith)
    go true false = plus a b w (omega arith) (omega arith) (omega arith) ∙ ap (F (a + w)) (omega arith)
    go false true = less a b w (omega arith) (omega arith) (omega arith) ∙ ap (λ x. F x (b + w)) (omega arith)
    go false false =
        let p : a ≡ a + 0 = omega arith in
        let q : b ≡ b + 0 = omega arith in
        ap₂ F p q

-- ---- all nets of a vertex ----

-- the bits of the nets that pass a test
abbrev bits_if : (WholeNet → Bool) → List WholeNet → ℕ
bits_if p nets = sum_of (λ e. cond (p e) e.bits 0) nets

module _ (part : List ℕ) (v s : ℕ) where
  -- v is alone on its side; the other side has no pin
  abbrev alone : WholeNet → Bool
  alone e = memb v e.pins && eqb (pins_on part s e.pins) 1

  abbrev clear : WholeNet → Bool
  clear e = memb v e.pins && eqb (pins_on part (other_side s) e.pins) 0

  abbrev step : Net → Float → Float
  step e g = gain_net (pins_on part s e.pins) (pins_on part (other_side s) e.pins) e.weight g

  fold_nets : (nets : List WholeNet) (a b : ℕ) → a + sum_of (λ e. e.bits) nets ≤ 2 ^ 52 → b + sum_of (λ e. e.bits) nets ≤ 2 ^ 52
      → fold_over step (keep (λ (e : Net). memb v e.pins) (map as_net nets)) (F a b) ≡ F (a + bits_if alone nets) (b + bits_if clear nets)
  fold_nets [] a b p q =
      let x : a ≡ a + 0 = omega arith in
      let y : b ≡ b + 0 = omega arith in
      ap₂ F x y
  fold_nets (e ∷ nets) a b p q =
      by_cases (memb v e.pins)
      (λ m. rw m
      (let c = cond (eqb (pins_on part s e.pins) 1) e.bits 0 in
      let d = cond (eqb (pins_on part (other_side s) e.pins) 0) e.bits 0 in
      let cm : c ≤ e.bits = cond_most (eqb (pins_on part s e.pins) 1) e.bits in
      let dm : d ≤ e.bits = cond_most (eqb (pins_on part (other_side s) e.pins) 0) e.bits in
      let x : a + c + bits_if alone nets ≡ a + (c + bits_if alone nets) = omega arith in
      let y : b + d + bits_if clear nets ≡ b + (d + bits_if clear nets) = omega arith in
      ap (fold_over step (keep (λ (e : Net). memb v e.pins) (map as_net nets)))
      (net_gain (pins_on part s e.pins) (pins_on part (other_side s) e.pins) e.bits a b (omega arith) (omega arith))
      ∙ fold_nets nets (a + c) (b + d) (omega arith) (omega arith)
      ∙ ap₂ F x y))
      (λ m. rw m
      (let x : a + bits_if alone nets ≡ a + (0 + bits_if alone nets) = omega arith in
      let y : b + bits_if clear nets ≡ b + (0 + bits_if clear nets) = omega arith in
      fold_nets nets a b (omega arith) (omega arith) ∙ ap₂ F x y))

-- ---- the pins of a net, before and after the move ----

module _ (part : List ℕ) (v x : ℕ) (fits : v < length part) where
  abbrev moved : List ℕ
  moved = set part v x

  side_other : (u : ℕ) → eqb v u ≡ false → side_of moved u ≡ side_of part u
  side_other u e = get_or-set_other part v u x 0 (λ q. eqb-false v u e (sym q))

  -- a side's pins stay, where v is none of them
  pins_stay : (s : ℕ) (pins : List ℕ) → memb v pins ≡ false → pins_on moved s pins ≡ pins_on part s pins
  pins_stay s [] m = refl
  pins_stay s (u ∷ pins) m =
      let (h, t) = or_none (eqb v u) (memb v pins) m in
      rw (side_other u h) (by_cases (eqb (side_of part u) s) (λ e. rw e (ap suc (pins_stay s pins t))) (λ e. rw e (pins_stay s pins t)))

  -- v leaves side s, and comes to side x
  pins_leave : (s : ℕ) (pins : List ℕ) → side_of part v ≡ s → (x ≡ s → ⊥) → memb v pins ≡ true → repeats pins ≡ false
      → pins_on part s pins ≡ suc (pins_on moved s pins)
  pins_leave s [] a b m r = clash m refl
  pins_leave s (u ∷ pins) a b m r =
      let (h, t) = or_none (memb u pins) (repeats pins) r in
      by_cases (eqb v u)
      (λ e. let q : v ≡ u = eqb-true v u e in
      let none : memb v pins ≡ false = ap (λ z. memb z pins) q ∙ h in
      let before : eqb (side_of part u) s ≡ true = eq-eqb (side_of part u) s (ap (side_of part) (sym q) ∙ a) in
      let after : eqb (side_of moved u) s ≡ false = ne_eqb (side_of moved u) s (λ z. b (sym (ap (side_of moved) (sym q) ∙ get_or-set_same part v x 0 fits) ∙ z)) in
      rw (before, after) (ap suc (sym (pins_stay s pins none))))
      (λ e. let i = pins_leave s pins a b (rw e at m) t in
      rw (side_other u e) (by_cases (eqb (side_of part u) s) (λ f. rw f (ap suc i)) (λ f. rw f i)))

  pins_come : (pins : List ℕ) → (side_of part v ≡ x → ⊥) → memb v pins ≡ true → repeats pins ≡ false
      → pins_on moved x pins ≡ suc (pins_on part x pins)
  pins_come [] b m r = clash m refl
  pins_come (u ∷ pins) b m r =
      let (h, t) = or_none (memb u pins) (repeats pins) r in
      by_cases (eqb v u)
      (λ e. let q : v ≡ u = eqb-true v u e in
      let none : memb v pins ≡ false = ap (λ z. memb z pins) q ∙ h in
      let before : eqb (side_of part u) x ≡ false = ne_eqb (side_of part u) x (λ z. b (ap (side_of part) q ∙ z)) in
      let after : eqb (side_of moved u) x ≡ true = eq-eqb (side_of moved u) x (ap (side_of moved) (sym q) ∙ get_or-set_same part v x 0 fits) in
      rw (before, after) (ap suc (pins_stay x pins none)))
      (λ e. let i = pins_come pins b (rw e at m) t in
      rw (side_other u e) (by_cases (eqb (side_of part u) x) (λ f. rw f (ap suc i)) (λ f. rw f i)))

-- ---- cut by numbers ----

abbrev pub cut_by : ℕ → ℕ → Bool
cut_by a b = not (eqb a 0) && not (eqb b 0)

any_kept : (p : ℕ → Bool) (l : List ℕ) → anyb p l ≡ not (eqb (length (keep p l)) 0)
any_kept p [] = refl
any_kept p (x ∷ l) = by_cases (p x) (λ e. rw (e, ne_eqb (suc (length (keep p l))) 0 (λ q. omega arith))) (λ e. rw e (any_kept p l))

pub cut_by_lem : (part pins : List ℕ) → is_cut part pins ≡ cut_by (pins_on part 0 pins) (pins_on part 1 pins)
cut_by_lem part pins = ap₂ (λ a b. a && b) (any_kept (λ u. eqb (side_of part u) 0) pins) (any_kept (λ u. eqb (side_of part u) 1) pins)

cut_swap : (a b : ℕ) → cut_by a b ≡ cut_by b a
cut_swap a b = and_comm (not (eqb a 0)) (not (eqb b 0))

-- h pins here and l there before, k and m after
uncut_numbers : (h l k m : ℕ) → h ≡ suc k → m ≡ suc l → 2 ≤ h + l → eqb h 1 ≡ (cut_by h l && not (cut_by k m))
uncut_numbers h l k m p q r =
    by_cases (eqb k 0)
    (λ e. let z : k ≡ 0 = eqb-true k 0 e in
    rw (e, eq-eqb h 1 (omega arith), ne_eqb h 0 (λ w. omega arith), ne_eqb l 0 (λ w. omega arith)))
    (λ e. let z : k ≡ 0 → ⊥ = eqb-false k 0 e in
    rw (e, ne_eqb h 1 (λ w. z (omega arith)), ne_eqb h 0 (λ w. omega arith), ne_eqb m 0 (λ w. omega arith)) (sym (and-false (not (eqb l 0)))))

cut_numbers : (h l k m : ℕ) → h ≡ suc k → m ≡ suc l → 2 ≤ h + l → eqb l 0 ≡ (not (cut_by h l) && cut_by k m)
cut_numbers h l k m p q r =
    by_cases (eqb l 0)
    (λ e. let z : l ≡ 0 = eqb-true l 0 e in
    rw (e, ne_eqb h 0 (λ w. omega arith), ne_eqb k 0 (λ w. omega arith), ne_eqb m 0 (λ w. omega arith)))
    (λ e. rw (e, ne_eqb h 0 (λ w. omega arith)))

-- nothing changes
same_uncut : (b : Bool) → false ≡ (b && not b)
same_uncut true = refl
same_uncut false = refl

same_cut : (b : Bool) → false ≡ (not b && b)
same_cut true = refl
same_cut false = refl

-- every pin is on one of the two sides
both_sides : (part pins : List ℕ) → All (λ u. (u < length part) × (side_of part u < 2)) pins → pins_on part 0 pins + pins_on part 1 pins ≡ length pins
both_sides part [] h = refl
both_sides part (u ∷ pins) h =
    by_cases (eqb (side_of part u) 0)
    (λ e. rw (e, ne_eqb (side_of part u) 1 (λ z. omega (arith, eqb-true (side_of part u) 0 e))) (omega (arith, both_sides part pins h.1)))
    (λ e. let z : side_of part u ≡ 0 → ⊥ = eqb-false (side_of part u) 0 e in
    rw (e, eq-eqb (side_of part u) 1 (omega (arith, z, h.0.1))) (omega (arith, both_sides part pins h.1)))

-- ---- one net's share ----

-- a net is cut or not, before and after v moves from side s to side x
module _ (part : List ℕ) (v s x : ℕ) (fits : v < length part) (here : side_of part v ≡ s) (apart : x ≡ s → ⊥)
    (Cut-as : (q : List ℕ) (pins : List ℕ) → is_cut q pins ≡ cut_by (pins_on q s pins) (pins_on q x pins)) (e : WholeNet) (sum : 2 ≤ pins_on part s e.pins + pins_on part x e.pins)
    (once : repeats e.pins ≡ false)
  where
    abbrev after : List ℕ
    after = set part v x

    stays_cut : memb v e.pins ≡ false → is_cut after e.pins ≡ is_cut part e.pins
    stays_cut m = Cut-as after e.pins ∙ ap₂ cut_by (pins_stay part v x fits s e.pins m) (pins_stay part v x fits x e.pins m) ∙ sym (Cut-as part e.pins)

    uncut_share : (memb v e.pins && eqb (pins_on part s e.pins) 1) ≡ (is_cut part e.pins && not (is_cut after e.pins))
    uncut_share =
        by_cases (memb v e.pins)
        (λ m. rw (m, Cut-as part e.pins, Cut-as after e.pins)
        (uncut_numbers _ _ _ _ (pins_leave part v x fits s e.pins here apart m once)
        (pins_come part v x fits e.pins (λ q. apart (sym q ∙ here)) m once) sum))
        (λ m. rw (m, stays_cut m) (same_uncut (is_cut part e.pins)))

    cut_share : (memb v e.pins && eqb (pins_on part x e.pins) 0) ≡ (not (is_cut part e.pins) && is_cut after e.pins)
    cut_share =
        by_cases (memb v e.pins)
        (λ m. rw (m, Cut-as part e.pins, Cut-as after e.pins)
        (cut_numbers _ _ _ _ (pins_leave part v x fits s e.pins here apart m once)
        (pins_come part v x fits e.pins (λ q. apart (sym q ∙ here)) m once) sum))
        (λ m. rw (m, stays_cut m) (same_cut (is_cut part e.pins)))

-- ---- all nets ----

sum_kept : (p : WholeNet → Bool) (nets : List WholeNet) → bits_if p nets ≡ sum_of (λ e. e.bits) (keep p nets)
sum_kept p [] = refl
sum_kept p (e ∷ nets) = by_cases (p e) (λ q. rw q (ap (λ z. e.bits + z) (sum_kept p nets))) (λ q. rw q (omega (arith, sum_kept p nets)))

bits_same : (p q : WholeNet → Bool) (P : WholeNet → Type 0) (nets : List WholeNet) → ((e : WholeNet) → P e → p e ≡ q e) → All P nets → bits_if p nets ≡ bits_if q nets
bits_same p q P [] f h = refl
bits_same p q P (e ∷ nets) f h = ap₂ (λ b z. cond b e.bits 0 + z) (f e h.0) (bits_same p q P nets f h.1)

-- from side s to side x
from_side : (weights : List Float) (nets : List WholeNet) (part : List ℕ) (v s : ℕ) → v < length part → side_of part v ≡ s → (other_side s ≡ s → ⊥)
    → ((q : List ℕ) (pins : List ℕ) → is_cut q pins ≡ cut_by (pins_on q s pins) (pins_on q (other_side s) pins))
    → All (λ e. (2 ≤ pins_on part s e.pins + pins_on part (other_side s) e.pins) × (repeats e.pins ≡ false)) nets
    → sum_of (λ e. e.bits) nets ≤ 2 ^ 52
    → gain_at (whole_graph weights nets) part v s ≡ F (bits_if (λ e. is_cut part e.pins && not (is_cut (set part v (other_side s)) e.pins)) nets)
    (bits_if (λ e. not (is_cut part e.pins) && is_cut (set part v (other_side s)) e.pins) nets)
unfolding of_int round
from_side weights nets part v s fits here apart Cut-as ok most =
    fold_nets part v s nets 0 0 (omega arith) (omega arith)
    ∙ ap₂ F
    (zero-add (bits_if (alone part v s) nets) ∙ bits_same (alone part v s) _ _ nets (λ e l. uncut_share part v s (other_side s) fits here apart Cut-as e l.0 l.1) ok)
    (zero-add (bits_if (clear part v s) nets) ∙ bits_same (clear part v s) _ _ nets (λ e l. cut_share part v s (other_side s) fits here apart Cut-as e l.0 l.1) ok)
  where
    zero-add : (n : ℕ) → 0 + n ≡ n
    zero-add n = omega arith

-- LAW B3
pub gain_is : GainIs
unfolding gain
gain_is weights nets part v fits low lawful most =
    by_cases (eqb (side_of part v) 0)
    (λ e. let z : side_of part v ≡ 0 = eqb-true (side_of part v) 0 e in
    at_side 0 z (λ q. omega arith) (λ q pins. cut_by_lem q pins)
    (all_map (LawfulNet part) _ nets (λ e l. (subst (λ n. 2 ≤ n) (sym (both_sides part e.pins l.sided)) l.two, l.once)) lawful))
    (λ e. let y : side_of part v ≡ 0 → ⊥ = eqb-false (side_of part v) 0 e in
    let z : side_of part v ≡ 1 = omega (arith, y) in
    at_side 1 z (λ q. omega arith) (λ q pins. cut_by_lem q pins ∙ cut_swap (pins_on q 0 pins) (pins_on q 1 pins))
    (all_map (LawfulNet part) _ nets
    (λ e l. (omega (arith, both_sides part e.pins l.sided, l.two), l.once)) lawful))
  where
    at_side : (s : ℕ) → side_of part v ≡ s → (other_side s ≡ s → ⊥)
        → ((q : List ℕ) (pins : List ℕ) → is_cut q pins ≡ cut_by (pins_on q s pins) (pins_on q (other_side s) pins))
        → All (λ e. (2 ≤ pins_on part s e.pins + pins_on part (other_side s) e.pins) × (repeats e.pins ≡ false)) nets
        → gain_at (whole_graph weights nets) part v (side_of part v) ≡ F (made_uncut nets part v) (newly_cut nets part v)
    at_side s z apart Cut-as ok =
        ap (gain_at (whole_graph weights nets) part v) z
        ∙ from_side weights nets part v s fits z apart Cut-as ok most
        ∙ ap (λ t. F (bits_if (λ e. is_cut part e.pins && not (is_cut (set part v (other_side t)) e.pins)) nets)
        (bits_if (λ e. not (is_cut part e.pins) && is_cut (set part v (other_side t)) e.pins) nets)) (sym z)
        ∙ ap₂ F (sum_kept _ nets) (sum_kept _ nets)
