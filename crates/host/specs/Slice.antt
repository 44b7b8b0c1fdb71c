-- What slicing of a network in memory promises: the number, the tree, the flags, the workspace, the answer. Assumes nothing.
use Rattle.std.specs.Prelude.{◌≡◌, refl, Bool, ℕ, ◌≤◌, length, Result, Err, Ok}
use Rattle.std.proofs.Math.Path.{sym, ap}
use Rattle.std.proofs.Common.{◌∙◌, subst}
use Rattle.std.proofs.Math.Bool.{false}
use mathlib.Core.List.{List, [], ◌∷◌}
use Rattle.spec.specs.declared.Refusal.{Refusal}
use Rattle.spec.specs.Memory.{over}
use Rattle.spec.specs.Refusal.{number_of, code_of, Check}
use Rattle.spec.specs.FileClaims.{refusal_in}
use Rattle.spec.specs.Network.{Network, index_count}
use Rattle.spec.specs.Tree.{pairs_of}
use Rattle.spec.specs.Slicing.{Plan, slice}
use Rattle.spec.specs.Calls.{lent, length_check, tree_check, beyond_check, dangling_if, follow_up, touches, slice_words, slice_call, workspace_after, sliced_tree, sliced_flags}
use Rattle.spec.specs.Host.{memory_slice_call, slice_after}
use Rattle.host.specs.Made.{made_refused, made_done}
use Rattle.host.specs.Own.{workspace_stays, Guarded, as_call}
use Rattle.reconf.specs.declared.Visited.{Visited}
use Rattle.slicetree.specs.Answers.{counts}

-- every list follows the call c
pub record Follows (N : Network) (c : Result Plan Refusal) (stated : ℕ) (kids₀ flags₀ ws₀ answer₀ kids flags ws answer : List ℕ) (r : ℕ) : Type 0 where
  pub number : r ≡ code_of (refusal_in c)
  pub tree : kids ≡ sliced_tree c kids₀
  pub flags_are : flags ≡ sliced_flags N c flags₀
  pub workspace : ws ≡ workspace_after stated c ws₀
  pub answer_is : answer ≡ slice_after c answer₀

-- the whole promise: the call is `memory_slice_call`
abbrev pub MemorySlices : (N : Network) (improving : Bool) (target : ℕ) (kids₀ flags₀ ws₀ answer₀ kids flags ws answer : List ℕ) (r : ℕ) → Type 0
MemorySlices N improving target kids₀ flags₀ ws₀ answer₀ kids flags ws answer r =
    Follows N (memory_slice_call (length answer₀) N improving target (length ws₀) (length flags₀) kids₀) (slice_words improving)
    kids₀ flags₀ ws₀ answer₀ kids flags ws answer r

-- ---- the call ----

module _ (N : Network) (improving : Bool) (target : ℕ) (kids₀ flags₀ ws₀ answer₀ : List ℕ) where
  abbrev own : Result Plan Refusal
  own = memory_slice_call (length answer₀) N improving target (length ws₀) (length flags₀) kids₀

  abbrev slicing : Network → Result Plan Refusal
  slicing M = slice_call M improving target (length ws₀) (length flags₀) kids₀

  -- a refusal by 3 to 7 leaves every list as it was
  stays : (r : Refusal) → own ≡ Err r → touches r ≡ false → MemorySlices N improving target kids₀ flags₀ ws₀ answer₀ kids₀ flags₀ ws₀ answer₀ (number_of r)
  stays r e t =
      subst (λ (c : Result Plan Refusal). Follows N c (slice_words improving) kids₀ flags₀ ws₀ answer₀ kids₀ flags₀ ws₀ answer₀ (number_of r)) (sym e)
      (record { number = refl; tree = refl; flags_are = refl; workspace = workspace_stays Plan (slice_words improving) ws₀ r t; answer_is = refl })

  pub guarded : Guarded N false (length answer₀) 2 own (slicing N) (λ r. MemorySlices N improving target kids₀ flags₀ ws₀ answer₀ kids₀ flags₀ ws₀ answer₀ (number_of r))
  unfolding memory_slice_call
  guarded = record { checks = refl; stays = stays }

  -- with room for the answer the call is slicing's
  as_slicing : 2 ≤ length answer₀ → own ≡ slicing N
  unfolding slice_call
  as_slicing h =
      let rest : List Check =
      length_check (lent (length ws₀) (slice_words improving) ∷ lent (length flags₀) (index_count N) ∷ [])
      ∷ tree_check N kids₀
      ∷ beyond_check N (λ j. false) (pairs_of kids₀)
      ∷ dangling_if N improving in
      as_call guarded refl rest (Ok (slice N target (follow_up N improving) (pairs_of kids₀))) refl h

  -- the lists follow slicing's call on a network that is this one
  module _ (h : 2 ≤ length answer₀) {M : Network} (m : M ≡ N) {kids flags ws : List ℕ} {x : Result Visited Refusal} (a : x ≡ counts (slicing M))
      (t : kids ≡ sliced_tree (slicing M) kids₀) (f : flags ≡ sliced_flags M (slicing M) flags₀)
      (w : ws ≡ workspace_after (slice_words improving) (slicing M) ws₀) where
    same : slicing M ≡ own
    same = ap slicing m ∙ sym (as_slicing h)

    follows : {answer : List ℕ} {r : ℕ} → r ≡ code_of (refusal_in (slicing M)) → answer ≡ slice_after (slicing M) answer₀
        → MemorySlices N improving target kids₀ flags₀ ws₀ answer₀ kids flags ws answer r
    follows {answer} {r} q b =
        subst (λ (c : Result Plan Refusal). Follows N c (slice_words improving) kids₀ flags₀ ws₀ answer₀ kids flags ws answer r) same
        (record { number = q; tree = t; flags_are = f ∙ ap (λ (L : Network). sliced_flags L (slicing M) flags₀) m; workspace = w; answer_is = b })

    pub slice_refused : {r : Refusal} → x ≡ Err r → MemorySlices N improving target kids₀ flags₀ ws₀ answer₀ kids flags ws answer₀ (number_of r)
    slice_refused e =
        let (q, k) = made_refused counts (λ p. record { rebuilt = p.rebuilt; tried = p.tried }) (λ r. refl) (λ p. refl) (λ c. slice_after c answer₀) (slicing M) (sym e ∙ a) in
        follows q k

    pub slice_done : {answer : List ℕ} {d : Visited} → x ≡ Ok d → answer ≡ over answer₀ (d.rebuilt ∷ d.tried ∷ [])
        → MemorySlices N improving target kids₀ flags₀ ws₀ answer₀ kids flags ws answer 0
    slice_done {answer} {d} e b =
        let (p, z, q, k) = made_done counts (λ p. record { rebuilt = p.rebuilt; tried = p.tried }) (λ r. refl) (λ p. refl) (λ c. slice_after c answer₀) (slicing M) (sym e ∙ a) in
        follows q (b ∙ ap (λ (v : Visited). over answer₀ (v.rebuilt ∷ v.tried ∷ [])) z ∙ k)
