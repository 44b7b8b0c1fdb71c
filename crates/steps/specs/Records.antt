-- A listing of five numbers a step as records, and what a lent list of records has after the steps are put into it. Assumes nothing.
use Rattle.std.specs.Prelude.{List, [], ◌∷◌, ◌++◌, map, ◌≡◌, refl, ℕ, zero, suc, ◌+◌, ◌*◌, ◌-◌, ◌<◌, ◌≤◌, min, length, get_or, take, drop}
use Rattle.std.proofs.Common.{sym, ap, ◌∙◌, arith, ext_get_or, get_or-take, take_at, length-append, length-drop}
use Rattle.std.proofs.Math.ListN.{get_or-append}
use Rattle.std.proofs.Math.Decide.{dec_lt}
use Rattle.std.proofs.lemmas.List.{length-map, length-take-le, get_or-append_right, get_or-drop}
use Rattle.spec.specs.Lists.{range}
use Rattle.spec.specs.Memory.{over}
use Rattle.spec.specs.Price as price
use Rattle.spec.specs.Price.{flat_steps}
use Rattle.laws.specs.LayoutLaws.{map_range_at, map_range_length, map_range_is}
use Rattle.laws.specs.FileLists.{over_front}
use Rattle.cells.specs.Cells.{over_length, over_at, over_past}
use Rattle.pricing.specs.Handed.{flat_length}
use Rattle.steps.specs.declared.Step.{Step}

-- step i of a listing of five numbers a step
unfoldable pub step_at : List ℕ → ℕ → Step
step_at numbers i =
    record {
      node = get_or numbers (i * 5) 0;
      left = get_or numbers (i * 5 + 1) 0;
      right = get_or numbers (i * 5 + 2) 0;
      work = get_or numbers (i * 5 + 3) 0;
      size = get_or numbers (i * 5 + 4) 0;
    }

-- its first n steps
unfoldable pub steps_of : List ℕ → ℕ → List Step
steps_of numbers n = map (step_at numbers) (range n)

-- a step of the definitions as a record
abbrev pub record_of : price.Step → Step
record_of c = record { node = c.made; left = c.left; right = c.right; work = c.work_bits; size = c.size_bits }

-- records as a flat list of numbers
abbrev pub numbers_of : List Step → List ℕ
numbers_of [] = []
numbers_of (s ∷ l) = s.node ∷ s.left ∷ s.right ∷ s.work ∷ s.size ∷ numbers_of l

pub steps_length : (numbers : List ℕ) (n : ℕ) → length (steps_of numbers n) ≡ n
unfolding steps_of
steps_length numbers n = map_range_length (step_at numbers) n

pub below_both : {e : ℕ} (n k : ℕ) → e ≡ min n k → (e ≤ n) × (e ≤ k)
below_both n k q = (omega arith, omega arith)

-- a list of records, known by index
pub put_by_index : (xs zs : List Step) (numbers : List ℕ) (n e : ℕ) → e ≡ min n (length xs) → length zs ≡ length xs
    → ((k : ℕ) (d : Step) → k < e → get_or zs k d ≡ step_at numbers k) → ((k : ℕ) (d : Step) → e ≤ k → get_or zs k d ≡ get_or xs k d)
    → zs ≡ over xs (steps_of numbers n)
unfolding steps_of
put_by_index xs zs numbers n e q l front back =
    let d : Step = step_at numbers 0 in
    ext_get_or d zs (over xs (steps_of numbers n)) (l ∙ sym (over_length xs (steps_of numbers n))) (λ k b.
    elim (dec_lt k e) [
      | yes h ↦ front k d h
          ∙ sym (over_at xs (steps_of numbers n) k d (omega arith) (omega (arith, steps_length numbers n)) ∙ map_range_at (step_at numbers) d n k (omega arith))
      | no h ↦ back k d (omega arith) ∙ sym (over_past xs (steps_of numbers n) k d (omega (arith, steps_length numbers n)))
    ])

-- the front that was lent, back before the records after it
pub put_back : (xs front : List Step) (numbers : List ℕ) (n e i : ℕ) → e ≡ min n (length xs) → length (take e xs) ≤ i
    → length front ≡ length (take e xs) → ((k : ℕ) (d : Step) → k < i → get_or front k d ≡ step_at numbers k)
    → front ++ drop e xs ≡ over xs (steps_of numbers n)
put_back xs front numbers n e i q h l done =
    let long : length front ≡ e = l ∙ length-take-le e xs (omega arith) in
    put_by_index xs (front ++ drop e xs) numbers n e q (omega (arith, length-append front (drop e xs), length-drop e xs))
    (λ k d b. get_or-append front (drop e xs) d k (omega arith) ∙ done k d (omega arith))
    (λ k d b. let r : e + (k - e) ≡ k = omega arith in
    get_or-append_right front (drop e xs) e k d long b ∙ get_or-drop e xs (k - e) d ∙ ap (λ (m : ℕ). get_or xs m d) r)

-- ---- the listing as records ----

-- five numbers on
five : (l : List ℕ) (a b c d e k m : ℕ) → m ≡ 5 + k → get_or (a ∷ b ∷ c ∷ d ∷ e ∷ l) m 0 ≡ get_or l k 0
five l a b c d e k m q = let w : m ≡ suc (suc (suc (suc (suc k)))) = omega arith in ap (λ (x : ℕ). get_or (a ∷ b ∷ c ∷ d ∷ e ∷ l) x 0) w

next_step : (l : List ℕ) (a b c d e i : ℕ) → step_at (a ∷ b ∷ c ∷ d ∷ e ∷ l) (suc i) ≡ step_at l i
unfolding step_at
next_step l a b c d e i = λ t. record {
  node = five l a b c d e (i * 5) (suc i * 5) (omega arith) t;
  left = five l a b c d e (i * 5 + 1) (suc i * 5 + 1) (omega arith) t;
  right = five l a b c d e (i * 5 + 2) (suc i * 5 + 2) (omega arith) t;
  work = five l a b c d e (i * 5 + 3) (suc i * 5 + 3) (omega arith) t;
  size = five l a b c d e (i * 5 + 4) (suc i * 5 + 4) (omega arith) t;
}

flat_at : (l : List price.Step) (i : ℕ) (d : Step) → i < length l → step_at (flat_steps l) i ≡ get_or (map record_of l) i d
unfolding flat_steps step_at
flat_at [] i d h = absurd (omega arith)
flat_at (c ∷ l) zero d h = refl
flat_at (c ∷ l) (suc i) d h = next_step (flat_steps l) c.made c.left c.right c.work_bits c.size_bits i ∙ flat_at l i d (omega arith)

front_step : (numbers : List ℕ) (n i : ℕ) → i < n → step_at (take (n * 5) numbers) i ≡ step_at numbers i
unfolding step_at
front_step numbers n i h = λ t. record {
  node = get_or-take (n * 5) numbers (i * 5) 0 (omega arith) t;
  left = get_or-take (n * 5) numbers (i * 5 + 1) 0 (omega arith) t;
  right = get_or-take (n * 5) numbers (i * 5 + 2) 0 (omega arith) t;
  work = get_or-take (n * 5) numbers (i * 5 + 3) 0 (omega arith) t;
  size = get_or-take (n * 5) numbers (i * 5 + 4) 0 (omega arith) t;
}

pub steps_are_records : (l : List price.Step) (numbers : List ℕ) (n : ℕ) → length l ≡ n → take (n * 5) numbers ≡ flat_steps l → steps_of numbers n ≡ map record_of l
unfolding steps_of
steps_are_records l numbers n e q =
    let d : Step = step_at numbers 0 in
    sym (map_range_is (step_at numbers) d n (map record_of l) (length-map l record_of ∙ e) (λ i h.
    sym (flat_at l i d (omega arith)) ∙ ap (λ (z : List ℕ). step_at z i) (sym q) ∙ front_step numbers n i h))

numbers_append : (a b : List Step) → numbers_of (a ++ b) ≡ numbers_of a ++ numbers_of b
numbers_append [] b = refl
numbers_append (s ∷ a) b = ap (λ (l : List ℕ). s.node ∷ s.left ∷ s.right ∷ s.work ∷ s.size ∷ l) (numbers_append a b)

numbers_of_records : (l : List price.Step) → numbers_of (map record_of l) ≡ flat_steps l
unfolding flat_steps
numbers_of_records [] = refl
numbers_of_records (c ∷ l) = ap (λ (z : List ℕ). c.made ∷ c.left ∷ c.right ∷ c.work_bits ∷ c.size_bits ∷ z) (numbers_of_records l)

-- the numbers of the records that stand in front of a list
pub records_taken : (l : List price.Step) (xs : List Step) (n : ℕ) → length l ≡ n → n ≤ length xs → take (n * 5) (numbers_of (over xs (map record_of l))) ≡ flat_steps l
records_taken l xs n e h =
    let r : List Step = map record_of l in
    let k : length (flat_steps l) ≡ n * 5 = omega (arith, flat_length l) in
    ap (λ (z : List Step). take (n * 5) (numbers_of z)) (over_front xs r (omega (arith, length-map l record_of)))
    ∙ ap (take (n * 5)) (numbers_append r (drop (length r) xs) ∙ ap (λ (z : List ℕ). z ++ numbers_of (drop (length r) xs)) (numbers_of_records l))
    ∙ take_at (flat_steps l) (numbers_of (drop (length r) xs)) (n * 5) k
