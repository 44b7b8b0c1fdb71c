-- The leaves of one side, picked one after another; both halves in one list. Assumes nothing.
use Rattle.std.specs.Prelude.{Bool, true, false, not, cond, ◌≡◌, refl, List, [], ◌∷◌, ◌++◌, ℕ, suc, ◌+◌, ◌-◌, ◌≤◌, ◌<◌, eqb, length, get_or, set, take, drop}
use Rattle.std.proofs.Common.{sym, ◌∙◌, ap, ap₂, append-nil, arith, add-one, length-append, length-drop, drop_of_length-le, take-suc, take_all, take_at, drop_at, length-take-le}
use Rattle.spec.specs.Memory.{over, copied}
use Rattle.spec.specs.Hypergraph.{side_of}
use Rattle.spec.specs.Bisection.{members_at, left_half, right_half}
use Rattle.laws.specs.Booleans.{by_cases}
use Rattle.laws.specs.BisectionHalves.{halves_length}
use Rattle.laws.specs.FileLists.{over_front}
use Rattle.cells.specs.Cells.{over-nil, over_snoc, over_all}

-- is a vertex on side 0, or, where that is asked for, on another
abbrev pub on_side : Bool → List ℕ → ℕ → Bool
on_side true part v = eqb (side_of part v) 0
on_side false part v = not (eqb (side_of part v) 0)

-- one leaf is put at place k if it is to be picked
abbrev pub place_after : Bool → ℕ → ℕ
place_after b k = cond b (k + 1) k

abbrev pub put_at : Bool → List ℕ → ℕ → ℕ → List ℕ
put_at b out k l = cond b (set out k l) out

members_snoc : (p : ℕ → Bool) (k : ℕ) (l : List ℕ) (x : ℕ) → members_at p k (l ++ (x ∷ [])) ≡ members_at p k l ++ cond (p (k + length l)) (x ∷ []) []
members_snoc p k [] x = ap (λ (i : ℕ). cond (p i) (x ∷ []) []) (let e : k ≡ k + 0 = omega arith in e)
members_snoc p k (y ∷ l) x =
    let more = members_snoc p (suc k) l x ∙ ap (λ (i : ℕ). members_at p (suc k) l ++ cond (p i) (x ∷ []) []) (let e : suc k + length l ≡ k + length (y ∷ l) = omega arith in e) in
    by_cases (p k) (λ e. rw e (ap (λ z. y ∷ z) more)) (λ e. rw e more)

members_few : (p : ℕ → Bool) (k : ℕ) (l : List ℕ) → length (members_at p k l) ≤ length l
members_few p k [] = omega arith
members_few p k (x ∷ l) = by_cases (p k) (λ e. rw e (omega (arith, members_few p (suc k) l))) (λ e. rw e (omega (arith, members_few p (suc k) l)))

-- ---- the loop ----

module _ (p : ℕ → Bool) (out₀ leaves : List ℕ) where
  abbrev picked : ℕ → List ℕ
  picked i = members_at p 0 (take i leaves)

  abbrev pub Picking : ℕ → ℕ → List ℕ → Type 0
  Picking i k out = (out ≡ over out₀ (picked i)) × (k ≡ length (picked i))

  pub pick_none : Picking 0 0 out₀
  pick_none = (sym (over-nil out₀), refl)

  pub pick_few : (i k : ℕ) (out : List ℕ) → i ≤ length leaves → Picking i k out → k ≤ i
  pick_few i k out h (eo, ek) = omega (arith, ek, members_few p 0 (take i leaves), length-take-le i leaves h)

  pub pick_next : (i k : ℕ) (out out' : List ℕ) (k' : ℕ) → i < length leaves → Picking i k out
      → k' ≡ place_after (p i) k → out' ≡ put_at (p i) out k (get_or leaves i 0) → Picking (i + 1) k' out'
  pick_next i k out out' k' h (eo, ek) e' er =
      let x : ℕ = get_or leaves i 0 in
      let z : picked (i + 1) ≡ picked i ++ cond (p i) (x ∷ []) [] =
      ap (λ (n : ℕ). picked n) (add-one i) ∙ ap (members_at p 0) (take-suc leaves i 0 h) ∙ members_snoc p 0 (take i leaves) x
      ∙ ap (λ (n : ℕ). picked i ++ cond (p n) (x ∷ []) []) (let q : 0 + length (take i leaves) ≡ i = omega (arith, length-take-le i leaves (omega arith)) in q) in
      by_cases (p i)
      (λ e.
      let z' : picked (i + 1) ≡ picked i ++ (x ∷ []) = z ∙ ap (λ (b : Bool). picked i ++ cond b (x ∷ []) []) e in (
        er ∙ ap (λ (b : Bool). put_at b out k x) e ∙ ap₂ (λ (a : List ℕ) (n : ℕ). set a n x) eo ek ∙ over_snoc out₀ (picked i) x ∙ ap (over out₀) (sym z'),
        e' ∙ ap (λ (b : Bool). place_after b k) e ∙ omega (arith, ek, ap length z', length-append (picked i) (x ∷ [])),
      ))
      (λ e.
      let z' : picked (i + 1) ≡ picked i = z ∙ ap (λ (b : Bool). picked i ++ cond b (x ∷ []) []) e ∙ append-nil (picked i) in (
        er ∙ ap (λ (b : Bool). put_at b out k x) e ∙ eo ∙ ap (over out₀) (sym z'),
        e' ∙ ap (λ (b : Bool). place_after b k) e ∙ ek ∙ ap length (sym z'),
      ))

  pub pick_end : (i k : ℕ) (out : List ℕ) → i ≡ length leaves → Picking i k out → (k ≡ length (members_at p 0 leaves)) × (out ≡ over out₀ (members_at p 0 leaves))
  pick_end i k out e (eo, ek) =
      let z : picked i ≡ members_at p 0 leaves = ap (members_at p 0) (ap (λ (n : ℕ). take n leaves) e ∙ take_all (length leaves) leaves (omega arith)) in
      (ek ∙ ap length z, eo ∙ ap (over out₀) z)

-- ---- one leaf ----

module _ (left : Bool) (part : List ℕ) (v side : ℕ) (e : side ≡ side_of part v) where
  pub on_left : left ≡ true → eqb side 0 ≡ on_side left part v
  on_left h = ap (λ (k : ℕ). eqb k 0) e ∙ ap (λ (b : Bool). on_side b part v) (sym h)

  pub on_right : left ≡ false → not (eqb side 0) ≡ on_side left part v
  on_right h = ap (λ (k : ℕ). not (eqb k 0)) e ∙ ap (λ (b : Bool). on_side b part v) (sym h)

module _ (b t : Bool) (e : t ≡ b) (out : List ℕ) (k l : ℕ) where
  pub leaf_put : t ≡ true → (x : ℕ) → x ≡ l → (out' : List ℕ) → out' ≡ set out k x → (k + 1 ≡ place_after b k) × (out' ≡ put_at b out k l)
  leaf_put h x ex out' eo =
      (ap (λ (z : Bool). place_after z k) (sym h ∙ e), eo ∙ ap (set out k) ex ∙ ap (λ (z : Bool). put_at z out k l) (sym h ∙ e))

  pub leaf_left : t ≡ false → (k ≡ place_after b k) × (out ≡ put_at b out k l)
  leaf_left h = (ap (λ (z : Bool). place_after z k) (sym h ∙ e), ap (λ (z : Bool). put_at z out k l) (sym h ∙ e))

-- ---- both halves ----

-- what was copied to the front of a list stands there
pub copied_front : (others leaves : List ℕ) (n : ℕ) → n ≡ length leaves → n ≤ length others → take n (copied others leaves n) ≡ leaves
unfolding copied
copied_front others leaves n e h =
    let z : over others (take n leaves) ≡ leaves ++ drop (length leaves) others =
    ap (over others) (take_all n leaves (omega (arith, e))) ∙ over_front others leaves (omega (arith, e)) in
    ap (take n) z ∙ take_at leaves (drop (length leaves) others) n (sym e)

pub few_left : (part leaves src : List ℕ) (m : ℕ) → src ≡ leaves → m ≡ length (members_at (on_side true part) 0 src) → m ≤ length leaves
few_left part leaves src m es e = omega (arith, e, ap (λ (l : List ℕ). length (left_half part l)) es, halves_length part leaves)

-- THE HALVES: the left one over the front, the right one over what is behind it
pub both_halves : (part leaves src o z : List ℕ) (m k : ℕ) → src ≡ leaves
    → (m ≡ length (members_at (on_side true part) 0 src)) × (o ≡ over leaves (members_at (on_side true part) 0 src))
    → k ≡ length o - m → z ≡ over (take k (drop m o)) (members_at (on_side false part) 0 src)
    → (m ≡ length (left_half part leaves)) × (take m o ++ (z ++ drop k (drop m o)) ≡ left_half part leaves ++ right_half part leaves)
both_halves part leaves src o z m k es (em₀, eo₀) ek ez =
    let L : List ℕ = left_half part leaves in
    let R : List ℕ = right_half part leaves in
    let em : m ≡ length L = em₀ ∙ ap (λ (l : List ℕ). length (left_half part l)) es in
    let eo : o ≡ L ++ drop (length L) leaves = eo₀ ∙ ap (λ (l : List ℕ). over leaves (left_half part l)) es ∙ over_front leaves L (omega (arith, halves_length part leaves)) in
    let a : take m o ≡ L = ap (take m) eo ∙ take_at L (drop (length L) leaves) m (sym em) in
    let b : drop m o ≡ drop (length L) leaves = ap (drop m) eo ∙ drop_at L (drop (length L) leaves) m (sym em) in
    let lb : length (drop m o) ≡ length R = ap length b ∙ omega (arith, length-drop (length L) leaves, halves_length part leaves) in
    let lk : k ≡ length (drop m o) = omega (arith, ek, length-drop m o) in
    let c : z ≡ R = ez ∙ ap₂ (λ (d l : List ℕ). over d (right_half part l)) (take_all k (drop m o) (omega (arith, lk))) es ∙ over_all (drop m o) R (sym lb) in
    (em, ap₂ (λ (x y : List ℕ). x ++ y) a (ap₂ (λ (x y : List ℕ). x ++ y) c (drop_of_length-le (drop m o) {i = k} (omega (arith, lk))) ∙ append-nil R))
