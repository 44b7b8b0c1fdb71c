-- What bisection of a network in memory promises: the number, the tree, the workspace, the answer. Assumes nothing.
use Rattle.std.specs.Prelude.{◌≡◌, ℕ, ◌≤◌, ◌<◌, ltb, length, set, Result, Err, Ok}
use Rattle.std.proofs.Math.Path.{refl, sym, ap}
use Rattle.std.proofs.Common.{◌∙◌, subst, lt-ltb, le-ltb}
use Rattle.std.proofs.Math.Bool.{true, false}
use mathlib.Core.List.{List, [], ◌∷◌, ◌++◌}
use Rattle.spec.specs.declared.Refusal.{Refusal}
use Rattle.spec.specs.Memory.{over}
use Rattle.spec.specs.Refusal.{number_of, code_of, Check}
use Rattle.spec.specs.FileClaims.{refusal_in}
use Rattle.spec.specs.Network.{Network, leaf_count, network_checks}
use Rattle.spec.specs.Tree.{valid}
use Rattle.spec.specs.Bisection as spec
use Rattle.spec.specs.Bisection.{bisection}
use Rattle.spec.specs.Calls.{lent, length_check, tree_places, touches, bisection_words, bisection_checks, bisection_call, workspace_after, bisected_tree}
use Rattle.spec.specs.Host.{memory_bisection_call, taken_after}
use Rattle.laws.specs.Results.{checked_done}
use Rattle.laws.specs.BisectionLaws.{bisection_valid}
use Rattle.host.specs.Made.{made_refused, made_done}
use Rattle.host.specs.Own.{workspace_stays, short, Guarded, too_large, as_call}
use Rattle.bisection.specs.Answers.{taken_of}

-- every list follows the call c, and an answered tree is valid
pub record Follows (N : Network) (c : Result spec.Bisected Refusal) (tree₀ ws₀ answer₀ tree ws answer : List ℕ) (r : ℕ) : Type 0 where
  pub number : r ≡ code_of (refusal_in c)
  pub plan : tree ≡ bisected_tree c tree₀
  pub workspace : ws ≡ workspace_after bisection_words c ws₀
  pub answer_is : answer ≡ taken_after c answer₀
  pub sound : (b : spec.Bisected) → c ≡ Ok b → valid (leaf_count N) b.pairs ≡ true

-- the whole promise: the call is `memory_bisection_call`
abbrev pub MemoryBisects : (N : Network) (i cutoff : ℕ) (draws tree₀ ws₀ answer₀ tree ws answer : List ℕ) (r : ℕ) → Type 0
MemoryBisects N i cutoff draws tree₀ ws₀ answer₀ tree ws answer r =
    Follows N (memory_bisection_call (length answer₀) N i cutoff draws (length ws₀) (length tree₀)) tree₀ ws₀ answer₀ tree ws answer r

-- ---- one number over the front of a list ----

one_over : (l : List ℕ) (a : ℕ) → set l 0 a ≡ over l (a ∷ [])
unfolding over
one_over [] a = refl
one_over (x ∷ []) a = refl
one_over (x ∷ y ∷ l) a = refl

-- ---- the call ----

module _ (N : Network) (i cutoff : ℕ) (draws tree₀ ws₀ answer₀ : List ℕ) where
  abbrev own : Result spec.Bisected Refusal
  own = memory_bisection_call (length answer₀) N i cutoff draws (length ws₀) (length tree₀)

  abbrev bisecting : Network → Result spec.Bisected Refusal
  bisecting M = bisection_call M i cutoff draws (length ws₀) (length tree₀)

  sound_of : (b : spec.Bisected) → own ≡ Ok b → valid (leaf_count N) b.pairs ≡ true
  unfolding memory_bisection_call bisection_call
  sound_of b e =
      let q : bisecting N ≡ Ok b = (checked_done (network_checks (ltb 1000 i) N ++ short (length answer₀) 1) (bisecting N) b e).1 in
      bisection_valid N i cutoff draws b (checked_done (bisection_checks N i (length ws₀) (length tree₀)) (bisection N i cutoff draws) b q).1

  -- a refusal by 3 to 7 leaves every list as it was
  stays : (r : Refusal) → own ≡ Err r → touches r ≡ false → MemoryBisects N i cutoff draws tree₀ ws₀ answer₀ tree₀ ws₀ answer₀ (number_of r)
  stays r e t =
      subst (λ (c : Result spec.Bisected Refusal). Follows N c tree₀ ws₀ answer₀ tree₀ ws₀ answer₀ (number_of r)) (sym e)
      (record { number = refl; plan = refl; workspace = workspace_stays spec.Bisected bisection_words ws₀ r t; answer_is = refl; sound = λ b z. sound_of b (e ∙ z) })

  pub guarded : Guarded N (ltb 1000 i) (length answer₀) 1 own (bisecting N) (λ r. MemoryBisects N i cutoff draws tree₀ ws₀ answer₀ tree₀ ws₀ answer₀ (number_of r))
  unfolding memory_bisection_call
  guarded = record { checks = refl; stays = stays }

  -- too much imbalance
  pub too_uneven : 1000 < i → MemoryBisects N i cutoff draws tree₀ ws₀ answer₀ tree₀ ws₀ answer₀ 3
  too_uneven h = too_large guarded (lt-ltb 1000 i h)

  -- with room for the answer the call is bisection's
  as_bisecting : i ≤ 1000 → 1 ≤ length answer₀ → own ≡ bisecting N
  unfolding bisection_call
  as_bisecting few h =
      let rest : List Check = length_check (lent (length ws₀) bisection_words ∷ lent (length tree₀) (tree_places N) ∷ []) ∷ [] in
      as_call guarded (le-ltb 1000 i few) rest (bisection N i cutoff draws) refl h

  -- the lists follow bisection's call on a network that is this one
  module _ (few : i ≤ 1000) (h : 1 ≤ length answer₀) {M : Network} (m : M ≡ N) {tree ws : List ℕ} {x : Result ℕ Refusal} (a : x ≡ taken_of (bisecting M))
      (t : tree ≡ bisected_tree (bisecting M) tree₀) (w : ws ≡ workspace_after bisection_words (bisecting M) ws₀) where
    same : bisecting M ≡ own
    same = ap bisecting m ∙ sym (as_bisecting few h)

    follows : {answer : List ℕ} {r : ℕ} → r ≡ code_of (refusal_in (bisecting M)) → answer ≡ taken_after (bisecting M) answer₀
        → MemoryBisects N i cutoff draws tree₀ ws₀ answer₀ tree ws answer r
    follows {answer} {r} q b =
        subst (λ (c : Result spec.Bisected Refusal). Follows N c tree₀ ws₀ answer₀ tree ws answer r) same
        (record { number = q; plan = t; workspace = w; answer_is = b; sound = λ b e. sound_of b (sym same ∙ e) })

    pub bisect_refused : {r : Refusal} → x ≡ Err r → MemoryBisects N i cutoff draws tree₀ ws₀ answer₀ tree ws answer₀ (number_of r)
    bisect_refused e =
        let (q, k) = made_refused taken_of (λ b. b.taken) (λ r. refl) (λ b. refl) (λ c. taken_after c answer₀) (bisecting M) (sym e ∙ a) in follows q k

    pub bisect_done : {answer : List ℕ} {taken : ℕ} → x ≡ Ok taken → answer ≡ set answer₀ 0 taken
        → MemoryBisects N i cutoff draws tree₀ ws₀ answer₀ tree ws answer 0
    bisect_done {answer} {taken} e b =
        let (y, z, q, k) = made_done taken_of (λ b. b.taken) (λ r. refl) (λ b. refl) (λ c. taken_after c answer₀) (bisecting M) (sym e ∙ a) in
        follows q (b ∙ one_over answer₀ taken ∙ ap (λ (k : ℕ). over answer₀ (k ∷ [])) z ∙ k)
