-- Of LAWS G2 and G3: just the pairs of live tables that share an index are scored, and scores are made of pricing's sizes. Assumes nothing.
use Rattle.std.specs.Prelude.{◌≡◌, refl, true, false, List, [], ◌∷◌, ◌++◌, suc, ◌+◌, ◌<◌, ltb, length}
use Rattle.std.proofs.Common.{sym, ap, ◌∙◌, subst, arith, ltb-true, ltb-false}
use Rattle.spec.specs.Lists.{memb}
use Rattle.spec.specs.Members.{In, here, there, All}
use Rattle.spec.specs.Network.{Network, leaf_count}
use Rattle.spec.specs.Tree.{Tree}
use Rattle.spec.specs.Price.{bits, kept, lists, size_at}
use Rattle.spec.specs.declared.Refusal.TheVariants.{TableTooWide}
use Rattle.spec.specs.Greedy.{Live, Cand, share, in_order, least, any_wide, State, off, joined, merge}
use Rattle.spec.specs.GreedyClaims.{then, PairsAll, SharingPair, PairsJust, SizesAgree}
use Rattle.laws.specs.Booleans.{by_cases}
use Rattle.laws.specs.Results.{not_done}
use Rattle.laws.specs.MemberLaws.{all_in, any_in, in_any, memb_in, in_memb}
use Rattle.laws.specs.GreedyOrder.{least_least}
use Rattle.laws.specs.GreedyMerging.{Fine, pairs_fine}
use Rattle.laws.specs.GreedyRuns.{reached_sound, lists_agree}
use Rattle.laws.specs.GreedyRefusals.{greedy_refuses}
use Rattle.laws.specs.GreedyScan.{pairs_has, Pairing, pairs_are}

pub pairs_all : PairsAll
pairs_all N k s r x y i j b e = pairs_has N (leaf_count N) 0 s.live x y (reached_sound N k s r).0.rising i j b e

-- sharing goes both ways
share_turned : (N : Network) (t u : Tree) → share N t u ≡ true → share N u t ≡ true
share_turned N t u e =
    in_any (λ j. memb j (lists N u)) (lists N t) e (λ j i m.
    any_in (λ j. memb j (lists N t)) j (lists N u) (memb_in j (lists N u) m) (in_memb j (lists N t) i))

sharing_pair : (N : Network) (s : State) (x y : Live) → In x s.live → In y s.live → x.slot < y.slot → share N x.tree y.tree ≡ true
    → SharingPair N s (in_order (leaf_count N) x y)
sharing_pair N s x y i j h e =
    by_cases (ltb y.slot (leaf_count N))
    (λ q. rw q (record {
      first_live = i;
      second_live = j;
      sharing = e;
      different = λ z. omega arith;
      lower_first = λ z. ltb-true y.slot (leaf_count N) q;
      later_first = λ z. absurd (omega arith);
    }))
    (λ q. rw q (record {
      first_live = j;
      second_live = i;
      sharing = share_turned N x.tree y.tree e;
      different = λ z. omega arith;
      lower_first = λ z. absurd (omega arith);
      later_first = λ z. ltb-false y.slot (leaf_count N) q;
    }))

pub pairs_just : PairsJust
pairs_just N k s r c i =
    let p : Pairing N (leaf_count N) s.live c = pairs_are N (leaf_count N) 0 s.live (reached_sound N k s r).0.rising c i in
    subst (SharingPair N s) (sym p.same) (sharing_pair N s p.x p.y p.in_x p.in_y p.less p.shared)

last_in : {A : Type 0} (l : List A) (x : A) → In x (l ++ (x ∷ []))
last_in [] x = here refl
last_in (y ∷ l) x = there (last_in l x)

pub sizes_agree : SizesAgree
unfolding kept
sizes_agree N a e k s r c l p =
    let m : Cand = least N c l in
    let (g, h) = reached_sound N k s r in
    let f : Fine s.live m =
    all_in (Fine s.live) m (c ∷ l) (subst (All (Fine s.live)) p (pairs_fine N (leaf_count N) s.live g.rising)) (least_least N c l).member in
    let w : any_wide N (c ∷ l) ≡ false =
    by_cases (any_wide N (c ∷ l)) (λ t. not_done TableTooWide a (sym ((greedy_refuses N).whenever k s r (ap (any_wide N) p ∙ t)) ∙ e)) (λ t. t) in
    let new : Live = record { slot = s.next; tree = joined N s.pairs m.first.tree m.second.tree } in
    let v : leaf_count N + k ≡ leaf_count N + length s.pairs = omega (arith, h) in
    record {
      left = ap (bits N (λ j. false)) (lists_agree N a e k s r m.first f.one);
      right = ap (bits N (λ j. false)) (lists_agree N a e k s r m.second f.two);
      merged = ap (size_at N (λ j. false) a) v
          ∙ ap (bits N (λ j. false)) (lists_agree N a e (suc k) (merge N m s) (then c l r p w) new
          (last_in (off m.second.slot (off m.first.slot s.live)) new));
    }
