-- After a vertex has moved, the pins of its nets are entered again. Assumes nothing.
use Rattle.std.specs.Prelude.{true, ◌≡◌, List, map, ℕ, ◌+◌, ◌≤◌, ◌<◌, ltb, Float, length, get_or, take}
use Rattle.std.proofs.Common.{sym, ap, ◌∙◌, subst, arith, ltb-true, get_or-take}
use Rattle.std.proofs.lemmas.List.Edits.{sets}
use Rattle.spec.specs.Lists.{keep, range}
use Rattle.spec.specs.Hypergraph.{fold_over, nets_at, all_pins}
use Rattle.spec.specs.Fm.{Queue}
use Rattle.laws.specs.Booleans.{and_left}
use Rattle.laws.specs.ListLaws.{kept_each}
use Rattle.laws.specs.MemberLaws.{all_at}
use Rattle.slots.specs.Slots.{held}
use Rattle.slots.specs.Rising.{rising_of, rising_few, listed_all}
use Rattle.partition.specs.Layout.{net_in, graph_in, Laid}
use Rattle.partition.specs.Gains.{nets_at_lem}
use Rattle.partition.specs.declared.place.Place.{Place}
use Rattle.fm.specs.Again.{Stamped, Under, again_in, Locks}
use Rattle.fm.specs.NetsAgain.{NetsAgain}

net_held : (ws : List ℕ) (s k : ℕ) → k < length (rising_of ws 4 s) → (held ws 4 s (get_or (rising_of ws 4 s) k 0) ≡ true) × (get_or (rising_of ws 4 s) k 0 < 256)
unfolding rising_of
net_held ws s k b = all_at (λ v. (held ws 4 s v ≡ true) × (v < 256)) (keep (held ws 4 s) (range 256)) k 0 (kept_each (held ws 4 s) 0 256) b

-- the nets of v, put into a list, are nets
pub own_under : (ws : List ℕ) (o : Place) (out out' : List ℕ) (v r : ℕ) → Laid ws o.nets o.vertices o.sides o.net_count o.vertex_count → v < o.vertex_count
    → r ≡ length (rising_of ws 4 (o.vertices + v)) → out' ≡ sets out 0 (rising_of ws 4 (o.vertices + v)) → 256 ≤ length out → Under o.net_count r out'
own_under ws o out out' v r h b e f l k q =
    let (x, y) = net_held ws (o.vertices + v) k (omega (arith, e)) in
    let z : get_or (rising_of ws 4 (o.vertices + v)) k 0 ≡ get_or out' k 0 =
    ap (λ w. get_or w k 0) (sym (listed_all ws out out' 4 (o.vertices + v) r e f l)) ∙ get_or-take r out' k 0 q in
    subst (λ (w : ℕ). w < o.net_count) z
    (ltb-true _ o.net_count (and_left (ltb (get_or (rising_of ws 4 (o.vertices + v)) k 0) o.net_count) _ (sym (h.crossed v (get_or (rising_of ws 4 (o.vertices + v)) k 0) b y) ∙ x)))

module _ (ws : List ℕ) (o : Place) (weights : List ℕ) (locked : ℕ) where
  pub record NeighboursAgain (v : ℕ) (q r : Queue) : Type 0 where
    pub queue : (vw : List Float) (moves : List ℕ) → Locks ws o weights locked moves
        → r ≡ fold_over (again_in ws o weights locked vw moves) (all_pins (nets_at (graph_in ws o.nets weights o.net_count vw) v)) q
    pub stamps : (k : ℕ) → Stamped k q.stamps → Stamped (k + 32768) r.stamps

  pub neighbours_again : (v r : ℕ) (l : List ℕ) (q q' : Queue) → Laid ws o.nets o.vertices o.sides o.net_count o.vertex_count → v < o.vertex_count
      → take r l ≡ rising_of ws 4 (o.vertices + v) → r ≡ length (rising_of ws 4 (o.vertices + v)) → NetsAgain ws o weights locked l r q q' → NeighboursAgain v q q'
  neighbours_again v r l q q' h b p c a =
      record {
        queue = λ vw moves k. a.queue vw moves k
            ∙ ap (λ z. fold_over (again_in ws o weights locked vw moves) (all_pins (map (net_in ws o.nets weights) z)) q) p
            ∙ ap (λ z. fold_over (again_in ws o weights locked vw moves) (all_pins z) q) (sym (nets_at_lem ws o.nets o.vertices o.sides o.net_count o.vertex_count weights h v vw b));
        stamps = λ k s u. omega (arith, a.stamps k s u, c, rising_few ws 4 (o.vertices + v));
      }
