-- The pins of a net are entered again. Assumes nothing.
use Rattle.std.specs.Prelude.{true, ◌≡◌, List, ℕ, ◌+◌, ◌≤◌, ◌<◌, Float, length, get_or, take}
use Rattle.std.proofs.Common.{sym, ap, ◌∙◌, subst, arith, get_or-take}
use Rattle.std.proofs.lemmas.List.Edits.{sets}
use Rattle.spec.specs.Lists.{keep, range}
use Rattle.spec.specs.Hypergraph.{fold_over}
use Rattle.spec.specs.Fm.{Queue}
use Rattle.laws.specs.MemberLaws.{all_at}
use Rattle.laws.specs.ListLaws.{kept_each}
use Rattle.slots.specs.Slots.{held}
use Rattle.slots.specs.Rising.{rising_of, rising_few, listed_fits, listed_all}
use Rattle.partition.specs.declared.place.Place.{Place}
use Rattle.fm.specs.Again.{Stamped, Under, again_in, Locks, AllAgain}

-- ---- what is kept of a range ----

pin_held : (ws : List ℕ) (s k : ℕ) → k < length (rising_of ws 2 s) → (held ws 2 s (get_or (rising_of ws 2 s) k 0) ≡ true) × (get_or (rising_of ws 2 s) k 0 < 128)
unfolding rising_of
pin_held ws s k b = all_at (λ v. (held ws 2 s v ≡ true) × (v < 128)) (keep (held ws 2 s) (range 128)) k 0 (kept_each (held ws 2 s) 0 128) b

-- ---- the pins, put into a list ----

module _ (ws out out' : List ℕ) (s r : ℕ) (e : r ≡ length (rising_of ws 2 s)) (f : out' ≡ sets out 0 (rising_of ws 2 s)) (h : 128 ≤ length out) where
  pub pins_fit : (r ≤ length out') × (r ≤ 65536)
  pins_fit = (listed_fits ws out out' 2 s r e f h, omega (arith, rising_few ws 2 s))

  pub pins_under : (n : ℕ) → ((v : ℕ) → v < 128 → held ws 2 s v ≡ true → v < n) → Under n r out'
  pins_under n within k b =
      let (x, y) = pin_held ws s k (omega (arith, e)) in
      subst (λ (z : ℕ). z < n) (ap (λ l. get_or l k 0) (sym (listed_all ws out out' 2 s r e f h)) ∙ get_or-take r out' k 0 b) (within _ y x)

-- ---- one net, and a list of nets ----

module _ (ws : List ℕ) (o : Place) (weights : List ℕ) (locked : ℕ) where
  pub record NetAgain (e : ℕ) (q r : Queue) : Type 0 where
    pub queue : (vw : List Float) (moves : List ℕ) → Locks ws o weights locked moves → r ≡ fold_over (again_in ws o weights locked vw moves) (rising_of ws 2 (o.nets + e)) q
    pub stamps : (k : ℕ) → Stamped k q.stamps → Stamped (k + 128) r.stamps

  pub net_again : (e count : ℕ) (l : List ℕ) (q r : Queue) → take count l ≡ rising_of ws 2 (o.nets + e) → count ≡ length (rising_of ws 2 (o.nets + e))
      → AllAgain ws o weights locked l count q r → NetAgain e q r
  net_again e count l q r p c a =
      record {
        queue = λ vw moves h. a.queue vw moves h ∙ ap (λ z. fold_over (again_in ws o weights locked vw moves) z q) p;
        stamps = λ k h u. omega (arith, a.stamps k h u, c, rising_few ws 2 (o.nets + e));
      }
