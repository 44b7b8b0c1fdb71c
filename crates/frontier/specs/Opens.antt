-- Members opened one after the other, on lists of node numbers. Definitions only. Assumes nothing.
use Rattle.std.specs.Prelude.{cond, List, [], ◌∷◌, ℕ, zero, suc, ◌+◌, ◌-◌, ltb, get_or, set, take, Option, None, Some}
use Rattle.laws.specs.FlatLaws.{left_of, right_of}
use Rattle.frontier.specs.declared.Most.{Most}

-- a member at place p with x work bits, if it has more than the one so far
abbrev pub more_than : Option Most → ℕ → ℕ → Option Most
more_than None p x = Some (record { place = p; work = x })
more_than (Some s) p x = cond (ltb s.work x) (Some (record { place = p; work = x })) (Some s)

-- the node v at place p, if it has more work than the one so far; v is a leaf if it is below n
unfoldable pub more_rank : ℕ → List ℕ → Option Most → ℕ → ℕ → Option Most
more_rank n works s p v = cond (ltb v n) s (more_than s p (get_or works v 0))

-- the first of most work: of s, and of the nodes from place p on
abbrev pub ranks : ℕ → List ℕ → Option Most → ℕ → List ℕ → Option Most
ranks n works s p [] = s
ranks n works s p (v ∷ vs) = ranks n works (more_rank n works s p v) (suc p) vs

-- the members at the front of a list, and one opened node less at the front of another
pub record State : Type 0 where
  pub members : List ℕ
  pub opened : List ℕ
  pub count : ℕ

abbrev pub state : List ℕ → List ℕ → ℕ → State
state members opened count = record { members = members; opened = opened; count = count }

-- the member at place p opened: the last in its place, then left, then right
unfoldable pub open_at : List ℕ → ℕ → ℕ → State → State
open_at kids n p s =
    let v = get_or s.members p 0 in
    state
    (set (set (set s.members p (get_or s.members (s.count - 1) 0)) (s.count - 1) (left_of kids n v)) s.count (right_of kids n v))
    (set s.opened (s.count - 1) v)
    (s.count + 1)

-- the member found opened, if one is
abbrev pub open_found : List ℕ → ℕ → State → Option Most → State
open_found kids n s None = s
open_found kids n s (Some q) = open_at kids n q.place s

-- the member of most work opened, if there is one that is no leaf
unfoldable pub open_most : List ℕ → List ℕ → ℕ → State → State
open_most kids works n s = open_found kids n s (ranks n works None 0 (take s.count s.members))

-- so many times
unfoldable pub openings : List ℕ → List ℕ → ℕ → ℕ → State → State
openings kids works n zero s = s
openings kids works n (suc times) s = open_most kids works n (openings kids works n times s)

-- the first c numbers of a list, from the last of them down
unfoldable pub freed : List ℕ → ℕ → List ℕ
freed l zero = []
freed l (suc c) = get_or l c 0 ∷ freed l c
