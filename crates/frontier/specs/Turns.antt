-- One member opened, case by case, and the loop that opens. Assumes nothing.
use Rattle.std.specs.Prelude.{List, ◌≡◌, refl, ℕ, ◌+◌, ◌-◌, ◌≤◌, length, get_or, set, take, Option, None, Some}
use Rattle.std.proofs.Common.{sym, ap, ◌∙◌, add-one, arith, length-set}
use Rattle.laws.specs.FlatLaws.{left_of, right_of}
use Rattle.frontier.specs.Opens.{ranks, State, state, open_at, open_found, open_most, openings}
use Rattle.frontier.specs.declared.Most.{Most}

-- the writes of one opening
pub open_is : (kids members opened a b d e : List ℕ) (n m p v last l r : ℕ) → v ≡ get_or members p 0 → last ≡ get_or members (m - 1) 0
    → l ≡ left_of kids n v → r ≡ right_of kids n v → a ≡ set members p last → b ≡ set a (m - 1) l → d ≡ set b m r → e ≡ set opened (m - 1) v
    → state d e (m + 1) ≡ open_at kids n p (state members opened m)
unfolding open_at
open_is kids members opened a b d e n m p v last l r hv hl el er ea eb ed ee =
    let x : d ≡ set (set (set members p (get_or members (m - 1) 0)) (m - 1) (left_of kids n (get_or members p 0))) m (right_of kids n (get_or members p 0)) =
    ed
    ∙ ap (λ q. set q m r) (eb ∙ ap (λ q. set q (m - 1) l) (ea ∙ ap (set members p) hl) ∙ ap (set (set members p (get_or members (m - 1) 0)) (m - 1)) (el ∙ ap (left_of kids n) hv))
    ∙ ap (set (set (set members p (get_or members (m - 1) 0)) (m - 1) (left_of kids n (get_or members p 0))) m) (er ∙ ap (right_of kids n) hv) in
    let y : e ≡ set opened (m - 1) (get_or members p 0) = ee ∙ ap (set opened (m - 1)) hv in
    λ i. state (x i) (y i) (m + 1)

-- the member found opened
pub most_opened : (kids works : List ℕ) (n : ℕ) (s : State) (o : Option Most) (t : State) → o ≡ ranks n works None 0 (take s.count s.members)
    → t ≡ open_found kids n s o → t ≡ open_most kids works n s
unfolding open_most
most_opened kids works n s o t e h = h ∙ ap (open_found kids n s) e

-- ---- the lists keep their lengths ----

pub open_at_members : (kids : List ℕ) (n p : ℕ) (s : State) → length (open_at kids n p s).members ≡ length s.members
unfolding open_at
open_at_members kids n p s = simp length-set

pub open_at_opened : (kids : List ℕ) (n p : ℕ) (s : State) → length (open_at kids n p s).opened ≡ length s.opened
unfolding open_at
open_at_opened kids n p s = simp length-set

-- at most one member more
found_count : (kids : List ℕ) (n : ℕ) (s : State) (o : Option Most) → (s.count ≤ (open_found kids n s o).count) × ((open_found kids n s o).count ≤ s.count + 1)
unfolding open_at
found_count kids n s None = (omega arith, omega arith)
found_count kids n s (Some q) = (omega arith, omega arith)

pub open_most_count : (kids works : List ℕ) (n : ℕ) (s : State) → (open_most kids works n s).count ≤ s.count + 1
unfolding open_most
open_most_count kids works n s = (found_count kids n s (ranks n works None 0 (take s.count s.members))).1

pub open_most_some : (kids works : List ℕ) (n : ℕ) (s : State) → s.count ≤ (open_most kids works n s).count
unfolding open_most
open_most_some kids works n s = (found_count kids n s (ranks n works None 0 (take s.count s.members))).0

-- ---- the loop ----

pub openings_none : (kids works : List ℕ) (n : ℕ) (s : State) → s ≡ openings kids works n 0 s
unfolding openings
openings_none kids works n s = refl

pub openings_next : (kids works : List ℕ) (n times : ℕ) (s t u : State) → t ≡ openings kids works n times s → u ≡ open_most kids works n t
    → u ≡ openings kids works n (times + 1) s
unfolding openings
openings_next kids works n times s t u e f = f ∙ ap (open_most kids works n) e ∙ sym (ap (λ k. openings kids works n k s) (add-one times))
