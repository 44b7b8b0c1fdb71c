-- The pins of a list of nets are entered again. Assumes nothing.
use Rattle.std.specs.Prelude.{◌≡◌, refl, List, [], ◌∷◌, ◌++◌, map, ℕ, ◌+◌, ◌*◌, ◌<◌, Float, length, get_or, take}
use Rattle.std.proofs.Common.{sym, ap, ◌∙◌, subst, append_assoc, append-nil, arith, add-one, take-suc}
use Rattle.spec.specs.Hypergraph.{fold_over, all_pins}
use Rattle.spec.specs.Fm.{Queue}
use Rattle.slots.specs.Rising.{rising_of}
use Rattle.partition.specs.Folds.{fold_append}
use Rattle.partition.specs.Layout.{net_in}
use Rattle.partition.specs.declared.place.Place.{Place}
use Rattle.fm.specs.Again.{Stamped, again_in, Locks}
use Rattle.fm.specs.NetAgain.{NetAgain}

module _ (ws : List ℕ) (o : Place) (weights : List ℕ) (locked : ℕ) where
  -- the pins of the nets of a list
  abbrev pub pins_in : List ℕ → List ℕ
  pins_in l = all_pins (map (net_in ws o.nets weights) l)

  pins_last : (l : List ℕ) (e : ℕ) → pins_in (l ++ (e ∷ [])) ≡ pins_in l ++ rising_of ws 2 (o.nets + e)
  pins_last [] e = append-nil (rising_of ws 2 (o.nets + e))
  pins_last (x ∷ l) e =
      ap (λ k. rising_of ws 2 (o.nets + x) ++ k) (pins_last l e) ∙ sym (append_assoc (rising_of ws 2 (o.nets + x)) (pins_in l) (rising_of ws 2 (o.nets + e)))

  pins_next : (l : List ℕ) (k : ℕ) → k < length l → pins_in (take (k + 1) l) ≡ pins_in (take k l) ++ rising_of ws 2 (o.nets + get_or l k 0)
  pins_next l k b = ap pins_in (ap (λ n. take n l) (add-one k) ∙ take-suc l k 0 b) ∙ pins_last (take k l) (get_or l k 0)

  pub record NetsAgain (l : List ℕ) (i : ℕ) (q r : Queue) : Type 0 where
    pub queue : (vw : List Float) (moves : List ℕ) → Locks ws o weights locked moves → r ≡ fold_over (again_in ws o weights locked vw moves) (pins_in (take i l)) q
    pub stamps : (k : ℕ) → Stamped k q.stamps → Stamped (k + i * 128) r.stamps

  pub no_net_again : (l : List ℕ) (q : Queue) → NetsAgain l 0 q q
  no_net_again l q = record { queue = λ vw moves h. refl; stamps = λ k h u. omega (arith, h u) }

  pub next_net : (l : List ℕ) (i e : ℕ) (q g r : Queue) → i < length l → e ≡ get_or l i 0 → NetsAgain l i q g → NetAgain ws o weights locked e g r
      → NetsAgain l (i + 1) q r
  next_net l i e q g r b f p a =
      record {
        queue = λ vw moves h. a.queue vw moves h
            ∙ ap (λ (x : ℕ). fold_over (again_in ws o weights locked vw moves) (rising_of ws 2 (o.nets + x)) g) f
            ∙ ap (fold_over (again_in ws o weights locked vw moves) (rising_of ws 2 (o.nets + get_or l i 0))) (p.queue vw moves h)
            ∙ sym (ap (λ z. fold_over (again_in ws o weights locked vw moves) z q) (pins_next l i b)
            ∙ fold_append (again_in ws o weights locked vw moves) (pins_in (take i l)) (rising_of ws 2 (o.nets + get_or l i 0)) q);
        stamps = λ k h u. omega (arith, a.stamps (k + i * 128) (p.stamps k h) u);
      }

  pub all_nets : (l : List ℕ) (i k : ℕ) (q r : Queue) → i ≡ k → NetsAgain l i q r → NetsAgain l k q r
  all_nets l i k q r e p = subst (λ (z : ℕ). NetsAgain l z q r) e p
