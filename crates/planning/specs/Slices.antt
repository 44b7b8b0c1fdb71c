-- The last stage: slicing to a target, or the plan as it stands. Assumes nothing.
use Rattle.std.specs.Prelude.{◌≡◌, refl, false, cond, List, [], ◌∷◌, ◌++◌, map, ℕ, ◌+◌, ◌*◌, ◌≤◌, length, Some, Result, Err, Ok}
use Rattle.std.proofs.Common.{sym, ap, ◌∙◌, subst, le_trans, mul-le-mul_right, arith, le-ltb}
use Rattle.std.proofs.Math.Bool.{true}
use Rattle.spec.specs.declared.Refusal.{Refusal}
use Rattle.spec.specs.Lists.{range}
use Rattle.spec.specs.Memory.{over}
use Rattle.spec.specs.Network.{Network, leaf_count, index_count, network_checks}
use Rattle.spec.specs.Tree.{valid, pairs_of, flat_of}
use Rattle.spec.specs.Refusal.{Check, and_then, checked}
use Rattle.spec.specs.Slicing.{Plan, slice, one_pass}
use Rattle.spec.specs.Calls.{lent, length_check, slice_words, tree_check, beyond_check, dangling_if, follow_up, slice_checks, slice_call, sliced_tree, sliced_flags}
use Rattle.spec.specs.File.{Ask, plain, target}
use Rattle.spec.specs.Program.{flags_of, flagged_plan, counted, slice_for}
use Rattle.laws.specs.Results.{done_same, checked_done}
use Rattle.laws.specs.Accepted.{accepted_means}
use Rattle.laws.specs.ImprovedValid.{keeps_valid}
use Rattle.laws.specs.OrderLaws.{valid_length}
use Rattle.laws.specs.SlicingLaws.{stays_valid}
use Rattle.laws.specs.LayoutLaws.{map_range_at, map_range_length}
use Rattle.cells.specs.Cells.{over_at}
use Rattle.merging.specs.Removed.{flat_length}
use Rattle.netfile.specs.declared.Ask.{Ask as Asked}
use Rattle.netfile.specs.declared.Ask.TheVariants.{Plain, Flagged}
use Rattle.netfile.specs.Writer.{ask_handed}
use Rattle.passes.specs.Made.{most_tried}
use Rattle.reconf.specs.declared.Visited.{Visited}
use Rattle.slicetree.specs.Answers.{counts}
use Rattle.planning.specs.Bounds.{slice_few}
use Rattle.planning.specs.Stages.{FlagsHeld, PlanHeld, Answers, Ready, answers_refused, improved_in, ImprovedHeld, over_tree}

-- ---- without a target ----

abbrev Stands : Network → (kids flags : List ℕ) → Visited → Asked → Type 0
Stands N kids flags v a =
    FlagsHeld N (flags_of (ask_handed a flags)) flags → Answers N (slice_for N (ask_handed a flags) (improved_in kids v)) kids flags (Ok v)

module _ {N : Network} {kids flags : List ℕ} {v : Visited} (held : ImprovedHeld N kids v) where
  stands : (ask : Ask) → slice_for N ask (improved_in kids v) ≡ Ok (flagged_plan (flags_of ask) (improved_in kids v)) → FlagsHeld N (flags_of ask) flags
      → Answers N (slice_for N ask (improved_in kids v)) kids flags (Ok v)
  stands ask e h =
      record {
        answer = sym (ap counts e);
        held = λ p f.
            subst (λ (q : Plan). PlanHeld N q kids flags) (done_same (flagged_plan (flags_of ask) (improved_in kids v)) p (sym e ∙ f))
            (record { tree = sym held.flat; flagged = h });
      }

  pub stands_plain : {a : Asked} → a ≡ Plain → FlagsHeld N (flags_of (ask_handed a flags)) flags
      → Answers N (slice_for N (ask_handed a flags) (improved_in kids v)) kids flags (Ok v)
  stands_plain e = subst (Stands N kids flags v) (sym e) (stands plain refl)

  pub stands_flagged : {a : Asked} {n : ℕ} → a ≡ Flagged n → FlagsHeld N (flags_of (ask_handed a flags)) flags
      → Answers N (slice_for N (ask_handed a flags) (improved_in kids v)) kids flags (Ok v)
  stands_flagged {a} {n} e = subst (Stands N kids flags v) (sym e) (stands (ask_handed (Flagged n) flags) refl)

-- ---- to a target ----

-- more room than stated changes nothing
slice_same : (N : Network) (w words places : ℕ) (kids : List ℕ) → slice_words true ≤ words → index_count N ≤ places
    → slice_call N true w words places kids ≡ slice_call N true w (slice_words true) (index_count N) kids
unfolding slice_call
slice_same N w words places kids h q =
    let e : length_check (lent words (slice_words true) ∷ lent places (index_count N) ∷ [])
    ≡ length_check (lent (slice_words true) (slice_words true) ∷ lent (index_count N) (index_count N) ∷ []) =
    rw (le-ltb words (slice_words true) h, le-ltb places (index_count N) q, le-ltb (index_count N) (index_count N) (omega arith)) in
    let rest : List Check = tree_check N kids ∷ beyond_check N (λ j. false) (pairs_of kids) ∷ dangling_if N true in
    ap (λ (x : Check). checked (network_checks false N ++ (x ∷ rest)) (Ok (slice N w (follow_up N true) (pairs_of kids)))) e

module _ (N : Network) (w : ℕ) (kids₀ flags₀ : List ℕ) (v : Visited) (words : ℕ) (enough : slice_words true ≤ words) (ready : Ready N (length flags₀)) (held : ImprovedHeld N kids₀ v) where
  abbrev call : Result Plan Refusal
  call = slice_call N true w words (length flags₀) kids₀

  abbrev whole : Result Plan Refusal
  whole = slice_for N (target w) (improved_in kids₀ v)

  whole_is : whole ≡ and_then call λ p. Ok (counted (improved_in kids₀ v) p)
  whole_is =
      ap (λ (x : Result Plan Refusal). and_then x (λ p. Ok (counted (improved_in kids₀ v) p)))
      (ap (slice_call N true w (slice_words true) (index_count N)) held.flat
      ∙ sym (slice_same N w words (length flags₀) kids₀ enough ready.room))

  module _ (p : Plan) (e : call ≡ Ok p) where
    is_slice : slice N w (one_pass N) (pairs_of kids₀) ≡ p
    unfolding slice_call
    is_slice =
        let (_, q) = checked_done (slice_checks N true words (length flags₀) kids₀) (Ok (slice N w (one_pass N) (pairs_of kids₀))) p e in
        done_same (slice N w (one_pass N) (pairs_of kids₀)) p q

    sliced_fine : valid (leaf_count N) p.tree ≡ true
    sliced_fine =
        subst (λ (x : Plan). valid (leaf_count N) x.tree ≡ true) is_slice
        (stays_valid N w (one_pass N) (λ f limit b h. keeps_valid N 8 1 (Some limit) f b h) (pairs_of kids₀) held.fine)

    sliced_few : (p.rebuilt ≤ 256 * 127) × (p.tried ≤ 256 * (127 * most_tried))
    sliced_few =
        let a = (accepted_means N).0 ready.ok in
        let (x, y) = slice_few N w a.few_leaves (pairs_of kids₀) held.fine in
        subst (λ (q : Plan). (q.rebuilt ≤ 256 * 127) × (q.tried ≤ 256 * (127 * most_tried))) is_slice
        (le_trans x (mul-le-mul_right 127 a.few_indices), le_trans y (mul-le-mul_right (127 * most_tried) a.few_indices))

    sliced_tree_lem : over kids₀ (flat_of p.tree) ≡ flat_of p.tree
    sliced_tree_lem =
        over_tree (leaf_count N) kids₀ p.tree
        (ap length (sym held.flat) ∙ flat_length (pairs_of kids₀) ∙ ap (λ (n : ℕ). n * 2) (valid_length (leaf_count N) (pairs_of kids₀) held.fine)) sliced_fine

    sliced_flags_lem : FlagsHeld N p.flag (sliced_flags N (Ok p) flags₀)
    sliced_flags_lem j h =
        let f : ℕ → ℕ = λ i. cond (p.flag i) 1 0 in
        over_at flags₀ (map f (range (index_count N))) j 0 (omega (arith, ready.room)) (omega (arith, map_range_length f (index_count N)))
        ∙ map_range_at f 0 (index_count N) j h

  pub slice_refused : {k : Refusal} {kids flags : List ℕ} → Err k ≡ counts call → Answers N whole kids flags (Err k)
  slice_refused {k} {kids} {flags} q = by_result call refl q
    where
      by_result : (x : Result Plan Refusal) → call ≡ x → Err k ≡ counts x → Answers N whole kids flags (Err k)
      by_result (Err r) e f =
          let z : k ≡ r = cc in answers_refused k (whole_is ∙ ap (λ (x : Result Plan Refusal). and_then x (λ p. Ok (counted (improved_in kids₀ v) p))) e ∙ ap Err (sym z))
      by_result (Ok p) e f = absurd (let z : ◌≡◌ {A = ℕ} 0 1 = cc in omega arith)

  -- the counts
  pub slice_counts : {d : Visited} → Ok d ≡ counts call → (d.rebuilt ≤ 256 * 127) × (d.tried ≤ 256 * (127 * most_tried))
  slice_counts {d} q = by_result call refl q
    where
      by_result : (x : Result Plan Refusal) → call ≡ x → Ok d ≡ counts x → (d.rebuilt ≤ 256 * 127) × (d.tried ≤ 256 * (127 * most_tried))
      by_result (Err r) e f = absurd (let z : ◌≡◌ {A = ℕ} 0 1 = cc in omega arith)
      by_result (Ok p) e f =
          let y : d ≡ record { rebuilt = p.rebuilt; tried = p.tried } = cc in
          subst (λ (u : Visited). (u.rebuilt ≤ 256 * 127) × (u.tried ≤ 256 * (127 * most_tried))) (sym y) (sliced_few p e)

  pub slice_done : {d : Visited} {kids flags : List ℕ} {u : Visited} → Ok d ≡ counts call → kids ≡ sliced_tree call kids₀ → flags ≡ sliced_flags N call flags₀
      → u ≡ record { rebuilt = v.rebuilt + d.rebuilt; tried = v.tried + d.tried } → Answers N whole kids flags (Ok u)
  slice_done {d} {kids} {flags} {u} q s t y = by_result call refl q s t
    where
      by_result : (x : Result Plan Refusal) → call ≡ x → Ok d ≡ counts x → kids ≡ sliced_tree x kids₀ → flags ≡ sliced_flags N x flags₀
          → Answers N whole kids flags (Ok u)
      by_result (Err r) e f k l = absurd (let z : ◌≡◌ {A = ℕ} 0 1 = cc in omega arith)
      by_result (Ok p) e f k l =
          let m : d ≡ record { rebuilt = p.rebuilt; tried = p.tried } = cc in
          let g : whole ≡ Ok (counted (improved_in kids₀ v) p) =
          whole_is ∙ ap (λ (x : Result Plan Refusal). and_then x (λ p. Ok (counted (improved_in kids₀ v) p))) e in
          record {
            answer = ap Ok (y ∙ ap (λ (w : Visited). record { rebuilt = v.rebuilt + w.rebuilt; tried = v.tried + w.tried }) m) ∙ sym (ap counts g);
            held = λ o z.
                subst (λ (x : Plan). PlanHeld N x kids flags) (done_same (counted (improved_in kids₀ v) p) o (sym g ∙ z))
                (record { tree = k ∙ sliced_tree_lem p e; flagged = subst (FlagsHeld N p.flag) (sym l) (sliced_flags_lem p e) });
          }
