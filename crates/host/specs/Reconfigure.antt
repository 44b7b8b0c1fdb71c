-- What improvement on a network in memory promises: the number, the tree, the workspace, the answer. Assumes nothing.
use Rattle.std.specs.Prelude.{◌≡◌, Bool, cond, ℕ, ◌≤◌, ◌<◌, ltb, length, Option, None, Some, Result, Err, Ok}
use Rattle.std.proofs.Math.Path.{refl, sym, ap}
use Rattle.std.proofs.Common.{◌∙◌, subst, lt-ltb, le-ltb}
use Rattle.std.proofs.Math.Bool.{false}
use mathlib.Core.List.{List, [], ◌∷◌}
use Rattle.spec.specs.declared.Refusal.{Refusal}
use Rattle.spec.specs.Memory.{over}
use Rattle.spec.specs.Refusal.{number_of, code_of, Check}
use Rattle.spec.specs.FileClaims.{refusal_in}
use Rattle.spec.specs.Network.{Network}
use Rattle.spec.specs.Tree.{pairs_of}
use Rattle.spec.specs.Improve as spec
use Rattle.spec.specs.Improve.{improve}
use Rattle.spec.specs.Calls.{lent, length_check, tree_check, flags_check, beyond_check, dangling_check, flag_at, touches, improve_words, improve_call, workspace_after, improved_tree}
use Rattle.spec.specs.Host.{limit_number, memory_improve_call, improve_after}
use Rattle.host.specs.Made.{made_refused, made_done}
use Rattle.host.specs.Own.{workspace_stays, Guarded, too_large, as_call}
use Rattle.reconf.specs.declared.Visited.{Visited}
use Rattle.reconfigure.specs.Answers.{given, counts_of, Improving}

-- every list follows the call c
pub record Follows (c : Result spec.Improved Refusal) (stated : ℕ) (kids₀ ws₀ answer₀ kids ws answer : List ℕ) (r : ℕ) : Type 0 where
  pub number : r ≡ code_of (refusal_in c)
  pub tree : kids ≡ improved_tree c kids₀
  pub workspace : ws ≡ workspace_after stated c ws₀
  pub answer_is : answer ≡ improve_after c answer₀

-- the whole promise: the call is `memory_improve_call`
abbrev pub MemoryReconfigures : (N : Network) (k passes : ℕ) (limit : Option ℕ) (flags kids₀ ws₀ answer₀ kids ws answer : List ℕ) (r : ℕ) → Type 0
MemoryReconfigures N k passes limit flags kids₀ ws₀ answer₀ kids ws answer r =
    Follows (memory_improve_call (length answer₀) N k passes limit (length ws₀) flags kids₀) (improve_words k) kids₀ ws₀ answer₀ kids ws answer r

-- ---- the limit ----

pub limit_bits : (x y : ℕ) → x < 65536 → y ≡ x → Some y ≡ limit_number x
limit_bits x y h e = ap Some e ∙ sym (ap (λ (b : Bool). cond b (Some x) None) (lt-ltb x 65536 h))

pub limit_none : (x : ℕ) → 65536 ≤ x → None ≡ limit_number x
limit_none x h = sym (ap (λ (b : Bool). cond b (Some x) None) (le-ltb x 65536 h))

-- ---- the call ----

module _ (N : Network) (k passes : ℕ) (limit : Option ℕ) (flags kids₀ ws₀ answer₀ : List ℕ) where
  abbrev own : Result spec.Improved Refusal
  own = memory_improve_call (length answer₀) N k passes limit (length ws₀) flags kids₀

  abbrev improving : Result spec.Improved Refusal
  improving = improve_call N k passes limit (length ws₀) flags kids₀

  -- a refusal by 3 to 7 leaves every list as it was
  stays : (r : Refusal) → own ≡ Err r → touches r ≡ false → MemoryReconfigures N k passes limit flags kids₀ ws₀ answer₀ kids₀ ws₀ answer₀ (number_of r)
  stays r e t =
      subst (λ (c : Result spec.Improved Refusal). Follows c (improve_words k) kids₀ ws₀ answer₀ kids₀ ws₀ answer₀ (number_of r)) (sym e)
      (record { number = refl; tree = refl; workspace = workspace_stays spec.Improved (improve_words k) ws₀ r t; answer_is = refl })

  pub guarded : Guarded N (ltb 255 passes) (length answer₀) 2 own improving (λ r. MemoryReconfigures N k passes limit flags kids₀ ws₀ answer₀ kids₀ ws₀ answer₀ (number_of r))
  unfolding memory_improve_call
  guarded = record { checks = refl; stays = stays }

  -- too many passes
  pub many_passes : 255 < passes → MemoryReconfigures N k passes limit flags kids₀ ws₀ answer₀ kids₀ ws₀ answer₀ 3
  many_passes h = too_large guarded (lt-ltb 255 passes h)

  -- with room for the answer the call is improvement's
  as_improving : passes ≤ 255 → 2 ≤ length answer₀ → own ≡ improving
  unfolding improve_call
  as_improving few h =
      let rest : List Check =
      length_check (lent (length ws₀) (improve_words k) ∷ [])
      ∷ tree_check N kids₀
      ∷ flags_check N flags
      ∷ beyond_check N (flag_at flags) (pairs_of kids₀)
      ∷ dangling_check N
      ∷ [] in
      as_call guarded (le-ltb 255 passes few) rest (Ok (improve N k passes limit (flag_at flags) (pairs_of kids₀))) refl h

  -- the lists follow improvement's call on a network that is this one
  module _ (few : passes ≤ 255) (h : 2 ≤ length answer₀) {M : Network} (m : M ≡ N) {kids ws : List ℕ} {x : Result Visited Refusal}
      (u : Improving M k passes limit flags kids₀ ws₀ kids ws x) where
    same : Improving N k passes limit flags kids₀ ws₀ kids ws x
    same = subst (λ (L : Network). Improving L k passes limit flags kids₀ ws₀ kids ws x) m u

    follows : {answer : List ℕ} {r : ℕ} → r ≡ code_of (refusal_in improving) → answer ≡ improve_after improving answer₀
        → MemoryReconfigures N k passes limit flags kids₀ ws₀ answer₀ kids ws answer r
    follows {answer} {r} q b =
        subst (λ (c : Result spec.Improved Refusal). Follows c (improve_words k) kids₀ ws₀ answer₀ kids ws answer r) (sym (as_improving few h))
        (record { number = q; tree = same.follows.tree; workspace = same.workspace; answer_is = b })

    pub improve_refused : {r : Refusal} → x ≡ Err r → MemoryReconfigures N k passes limit flags kids₀ ws₀ answer₀ kids ws answer₀ (number_of r)
    improve_refused e =
        let (q, k) = made_refused given counts_of (λ r. refl) (λ d. refl) (λ c. improve_after c answer₀) improving (sym e ∙ same.follows.answer) in follows q k

    pub improve_done : {answer : List ℕ} {v : Visited} → x ≡ Ok v → answer ≡ over answer₀ (v.rebuilt ∷ v.tried ∷ [])
        → MemoryReconfigures N k passes limit flags kids₀ ws₀ answer₀ kids ws answer 0
    improve_done {answer} {v} e b =
        let (d, z, q, k) = made_done given counts_of (λ r. refl) (λ d. refl) (λ c. improve_after c answer₀) improving (sym e ∙ same.follows.answer) in
        follows q (b ∙ ap (λ (v : Visited). over answer₀ (v.rebuilt ∷ v.tried ∷ [])) z ∙ k)
