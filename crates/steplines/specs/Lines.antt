-- Numbers and the lines of steps, put one after another, and how long they are. Assumes nothing.
use Rattle.std.specs.Prelude.{◌≡◌, refl, Bool, true, false, cond, ℕ, ◌+◌, ◌*◌, ◌-◌, ◌<◌, ◌≤◌, length, get_or, take}
use Rattle.std.proofs.Common.{sym, ◌∙◌, subst, zero-add, add-one, arith, length-append}
use Rattle.std.proofs.Math.Seq.{take-suc}
use Rattle.std.proofs.Math.Path.{ap}
use mathlib.Core.List.{List, [], ◌∷◌, ◌++◌, map, append-nil, append_assoc}
use Rattle.spec.specs.Lists.{keep, from, range}
use Rattle.spec.specs.Text.{ascii, decimal, last_digits, spaced, lines_of, step_line}
use Rattle.laws.specs.Booleans.{by_cases}
use Rattle.laws.specs.TextLaws.{decimal_length}
use Rattle.laws.specs.LayoutLaws.{map-range_more}
use Rattle.slots.specs.Slots.{held}
use Rattle.slots.specs.Rising.{keep-add}
use Rattle.steplines.specs.declared.digits.Text.{Text}
use Rattle.steplines.specs.Puts.{Puts, puts_none, puts_both, puts_as}
use Rattle.steplines.specs.Digits.{spaced_one, spaced-append}
use Rattle.steplines.specs.Steps.{step_from, steps_from}

-- ---- one more ----

pub keep_more : (p : ℕ → Bool) (n : ℕ) → keep p (range (n + 1)) ≡ keep p (range n) ++ cond (p n) (n ∷ []) []
keep_more p n = keep-add p 0 n 1 ∙ ap (λ (x : ℕ). keep p (range n) ++ cond (p x) (x ∷ []) []) (zero-add n)

pub lines_append : {A : Type 0} (f : A → List ℕ) (k l : List A) → lines_of f (k ++ l) ≡ lines_of f k ++ lines_of f l
unfolding lines_of
lines_append f [] l = refl
lines_append f (x ∷ k) l = ap (λ (r : List ℕ). f x ++ r) (lines_append f k l) ∙ sym (append_assoc (f x) (lines_of f k) (lines_of f l))

pub lines_one : {A : Type 0} (f : A → List ℕ) (x : A) → lines_of f (x ∷ []) ≡ f x
unfolding lines_of
lines_one f x = append-nil (f x)

-- numbers, and then more numbers
pub put_numbers : {s t u : Text} (k l : List ℕ) → Puts s (spaced k) t → Puts t (spaced l) u → Puts s (spaced (k ++ l)) u
put_numbers k l p q = puts_as (sym (spaced-append k l)) (puts_both p q)

-- ---- lengths ----

-- a number of 16 bits, and its space
pub entry_length : (x : ℕ) → x < 65536 → length (spaced (x ∷ [])) ≤ 6
entry_length x h = omega (arith, ap length (spaced_one x), decimal_length 4 x (omega arith))

-- some of the numbers of a list
keep_shorter : (p : ℕ → Bool) (l : List ℕ) → length (spaced (keep p l)) ≤ length (spaced l)
unfolding spaced
keep_shorter p [] = omega arith
keep_shorter p (x ∷ l) =
    by_cases (p x)
    (λ e. rw e (omega (arith, keep_shorter p l, length-append (decimal x) (spaced (keep p l)), length-append (decimal x) (spaced l))))
    (λ e. rw e (omega (arith, keep_shorter p l, length-append (decimal x) (spaced l))))

all_indices : length (spaced (range 256)) ≡ 914
unfolding spaced decimal last_digits
all_indices = refl

-- indices below 256, each once: ten of one digit, ninety of two, 156 of three, and a space before each
pub kept_length : (p : ℕ → Bool) (m : ℕ) → m ≤ 256 → length (spaced (keep p (range m))) ≤ 914
kept_length p m h =
    let e : m + (256 - m) ≡ 256 = omega arith in
    let rest : List ℕ = keep p (from (0 + m) (256 - m)) in
    let f : spaced (keep p (range 256)) ≡ spaced (keep p (range m)) ++ spaced rest =
    ap (λ (n : ℕ). spaced (keep p (range n))) (sym e) ∙ ap spaced (keep-add p 0 m (256 - m)) ∙ spaced-append (keep p (range m)) rest in
    omega (arith, keep_shorter p (range 256), ap length f, length-append (spaced (keep p (range m))) (spaced rest), all_indices)

-- ---- the numbers of a list ----

pub numbers_none : (s : Text) (l : List ℕ) → Puts s (spaced (take 0 l)) s
unfolding spaced
numbers_none s l = puts_none s

pub numbers_more : {s t u : Text} (l : List ℕ) (i x : ℕ) → i < length l → get_or l i 0 ≡ x → Puts s (spaced (take i l)) t → Puts t (spaced (x ∷ [])) u
    → Puts s (spaced (take (i + 1) l)) u
numbers_more l i x h e p q =
    puts_as (ap spaced (sym (ap (λ (k : ℕ). take k l) (add-one i) ∙ take-suc l i 0 h ∙ ap (λ (y : ℕ). take i l ++ (y ∷ [])) e)))
    (put_numbers (take i l) (x ∷ []) p q)

-- ---- indices that pass a test ----

pub member_in : {s t : Text} (b : Bool) (j : ℕ) → b ≡ true → Puts s (spaced (j ∷ [])) t → Puts s (spaced (cond b (j ∷ []) [])) t
member_in b j e p = rw e p

pub member_out : (b : Bool) (s : Text) (j : ℕ) → b ≡ false → Puts s (spaced (cond b (j ∷ []) [])) s
unfolding spaced
member_out b s j e = rw e (puts_none s)

-- the loops over the indices: none yet, one more
pub kept_none : (s : Text) (p : ℕ → Bool) → Puts s (spaced (keep p (range 0))) s
unfolding spaced
kept_none s p = puts_none s

pub kept_more : {s t u : Text} (p : ℕ → Bool) (j : ℕ) → Puts s (spaced (keep p (range j))) t → Puts t (spaced (cond (p j) (j ∷ []) [])) u
    → Puts s (spaced (keep p (range (j + 1)))) u
kept_more p j a b = puts_as (ap spaced (sym (keep_more p j))) (put_numbers (keep p (range j)) (cond (p j) (j ∷ []) []) a b)

-- ---- steps ----

module _ (steps sets : List ℕ) (W m : ℕ) where
  pub step_put : {s₀ s₁ s₂ s₃ s₄ : Text} (k v : ℕ) → v ≡ get_or steps (k * 5) 0
      → Puts s₀ (ascii "step") s₁
      → Puts s₁ (spaced (get_or steps (k * 5) 0 ∷ get_or steps (k * 5 + 1) 0 ∷ get_or steps (k * 5 + 2) 0 ∷ get_or steps (k * 5 + 3) 0 ∷ get_or steps (k * 5 + 4) 0 ∷ [])) s₂
      → Puts s₂ (spaced (keep (held sets W v) (range m))) s₃ → Puts s₃ (10 ∷ []) s₄
      → Puts s₀ (step_line (step_from steps sets W m k)) s₄
  step_put {s₀} {s₁} {s₂} {s₃} {s₄} k v e p q r s =
      puts_both p (puts_both (put_numbers _ _ q (subst (λ (x : ℕ). Puts s₂ (spaced (keep (held sets W x) (range m))) s₃) e r)) s)

  pub steps_none : (s : Text) → Puts s (lines_of step_line (steps_from steps sets W m 0)) s
  unfolding lines_of steps_from
  steps_none s = puts_none s

  steps_next : (k : ℕ) → lines_of step_line (steps_from steps sets W m (k + 1))
      ≡ lines_of step_line (steps_from steps sets W m k) ++ step_line (step_from steps sets W m k)
  unfolding steps_from
  steps_next k =
      ap (lines_of step_line) (map-range_more (step_from steps sets W m) k)
      ∙ lines_append step_line (map (step_from steps sets W m) (range k)) (step_from steps sets W m k ∷ [])
      ∙ ap (λ (l : List ℕ). lines_of step_line (map (step_from steps sets W m) (range k)) ++ l) (lines_one step_line (step_from steps sets W m k))

  pub steps_more : {s t u : Text} (k : ℕ) → Puts s (lines_of step_line (steps_from steps sets W m k)) t
      → Puts t (step_line (step_from steps sets W m k)) u → Puts s (lines_of step_line (steps_from steps sets W m (k + 1))) u
  steps_more k p q = puts_as (sym (steps_next k)) (puts_both p q)
