-- The children of new nodes, copied from the words to the array of the caller. Assumes nothing.
use Rattle.std.specs.Prelude.{◌≡◌, List, [], ◌∷◌, ◌++◌, length, get_or, set, Result, Err}
use Rattle.std.proofs.Math.Path.{refl}
use Rattle.std.proofs.Common.{sym, ◌∙◌, ap, subst, arith, length-append, ext_get_or, get_or-set_same, get_or-append-add}
use Prim.Native.Nat.{ℕ, zero, suc, ◌+◌, ◌-◌, ◌*◌, ◌≤◌, ◌<◌}
use Rattle.std.proofs.Math.Decide.{ℕ_discrete, dec_le}
use Rattle.std.proofs.Math.ListN.{length-set}
use Rattle.std.proofs.Math.Seq.{get_or-set_other}
use Rattle.spec.specs.Lists.{memb, count}
use Rattle.spec.specs.Memory.{over}
use Rattle.spec.specs.Network.{Network}
use Rattle.spec.specs.Tree.{Pair, flat_of}
use Rattle.cells.specs.Loop.{turns}
use Rattle.cells.specs.Cells.{over_length, over_at, over_past}
use Rattle.merging.specs.Removed.{flat_length}
use Rattle.greedynodes.specs.Begin.{Asks}
use Rattle.greedynodes.specs.Ends.{Planned, is_too_wide, is_planned, apart}
use Rattle.spec.specs.declared.Refusal.{Refusal}
use Rattle.spec.specs.declared.Refusal.TheVariants.{TableTooWide}

-- the first n numbers of a list, at the places from `at` on
unfoldable pub copied_to : List ℕ → ℕ → List ℕ → ℕ → List ℕ
copied_to kids at l n = turns (λ i k. set k (at + i) (get_or l i 0)) kids n

module _ (kids : List ℕ) (at : ℕ) (l : List ℕ) where
  pub copied_length : (n : ℕ) → length (copied_to kids at l n) ≡ length kids
  unfolding copied_to turns
  copied_length zero = refl
  copied_length (suc n) = length-set (copied_to kids at l n) (at + n) (get_or l n 0) ∙ copied_length n

  copied_there : (n j : ℕ) → j < n → at + j < length kids → get_or (copied_to kids at l n) (at + j) 0 ≡ get_or l j 0
  unfolding copied_to turns
  copied_there zero j h b = absurd (omega arith)
  copied_there (suc n) j h b =
      elim (ℕ_discrete j n) [
        | yes e ↦ rw e (get_or-set_same (copied_to kids at l n) (at + n) (get_or l n 0) 0 (omega (arith, copied_length n, e)))
        | no e ↦ get_or-set_other (copied_to kids at l n) (at + n) (at + j) (get_or l n 0) 0 (λ q. e (omega arith)) ∙ copied_there n j (omega (arith, e)) b
      ]

  copied_other : (n j : ℕ) → ((i : ℕ) → i < n → j ≡ at + i → ⊥) → get_or (copied_to kids at l n) j 0 ≡ get_or kids j 0
  unfolding copied_to turns
  copied_other zero j f = refl
  copied_other (suc n) j f =
      get_or-set_other (copied_to kids at l n) (at + n) j (get_or l n 0) 0 (λ q. f n (omega arith) q) ∙ copied_other n j (λ i h. f i (omega arith))

-- what was written behind s, copied behind s in another list
pub copied_over : (kids s w₀ w f : List ℕ) (n : ℕ) → kids ≡ over kids s → s ++ w ≡ over (s ++ w₀) f → length f ≡ length s + n → n ≤ length w₀
    → copied_to kids (length s) w n ≡ over kids f
copied_over kids s w₀ w f n ek ew ef b =
    ext_get_or 0 (copied_to kids (length s) w n) (over kids f) (copied_length kids (length s) w n ∙ sym (over_length kids f)) (λ j h.
    let c : j < length kids = omega (arith, copied_length kids (length s) w n) in
    elim (dec_le (length f) j) [
      | yes p ↦ copied_other kids (length s) w n j (λ i q e. omega (arith, ef)) ∙ sym (over_past kids f j 0 p)
      | no p ↦
          let g : get_or (s ++ w) j 0 ≡ get_or f j 0 = ap (λ (x : List ℕ). get_or x j 0) ew ∙ over_at (s ++ w₀) f j 0 (omega (arith, length-append s w₀, ef)) (omega arith) in
          elim (dec_le (length s) j) [
            | yes q ↦
                let e : j ≡ length s + (j - length s) = omega arith in
                ap (λ (x : ℕ). get_or (copied_to kids (length s) w n) x 0) e
                ∙ copied_there kids (length s) w n (j - length s) (omega (arith, ef)) (omega (arith, c))
                ∙ sym (get_or-append-add s w (j - length s) 0) ∙ ap (λ (x : ℕ). get_or (s ++ w) x 0) (sym e) ∙ g ∙ sym (over_at kids f j 0 c (omega arith))
            | no q ↦
                copied_other kids (length s) w n j (λ i t e. omega arith)
                ∙ ap (λ (x : List ℕ). get_or x j 0) ek ∙ over_at kids s j 0 c (omega arith)
                ∙ sym (front s w j (omega arith)) ∙ g ∙ sym (over_at kids f j 0 c (omega arith))
          ]
    ])
  where
    front : (s w : List ℕ) (j : ℕ) → j < length s → get_or (s ++ w) j 0 ≡ get_or s j 0
    front [] w j h = absurd (omega arith)
    front (x ∷ s) w zero h = refl
    front (x ∷ s) w (suc j) h = front s w j (omega arith)

-- a refusal is one whatever stands in the lists
pub any_refused : {N : Network} {a : List Pair} {leaves k₀ k₁ j₀ j₁ : List ℕ} {r : Result ℕ Refusal} {e : Refusal} → r ≡ Err e → Planned N a leaves k₀ k₁ r → Planned N a leaves j₀ j₁ (Err e)
any_refused z (is_too_wide q g) = is_too_wide (sym z ∙ q) g
any_refused z (is_planned top q l b g v k t) = absurd (apart (sym q ∙ z))

pub entry_same : {N : Network} {a : List Pair} {leaves w₀ w₁ kids : List ℕ} {r : Result ℕ Refusal} → w₁ ≡ w₀ → Planned N a leaves (flat_of a ++ w₁) kids r → Planned N a leaves (flat_of a ++ w₀) kids r
entry_same {N} {a} {leaves} {w₀} {w₁} {kids} {r} e g = subst (λ (x : List ℕ). Planned N a leaves (flat_of a ++ x) kids r) e g

pub copied_answer : (N : Network) (a : List Pair) (leaves kids w₀ w : List ℕ) (r : Result ℕ Refusal) (at n : ℕ) → ((e : Refusal) → r ≡ Err e → ⊥) → kids ≡ over kids (flat_of a)
    → at ≡ length (flat_of a) → n ≡ (length leaves - 1) * 2 → n ≤ length w₀
    → Planned N a leaves (flat_of a ++ w₀) (flat_of a ++ w) r → Planned N a leaves kids (copied_to kids at w n) r
copied_answer N a leaves kids w₀ w r at n x ek ea en b (is_too_wide q g) = absurd (x TableTooWide q)
copied_answer N a leaves kids w₀ w r at n x ek ea en b (is_planned top q l c g v k t) =
    is_planned top q l c g
    (ap (λ (i : ℕ). copied_to kids i w n) ea
    ∙ copied_over kids (flat_of a) w₀ w (flat_of c.pairs) n ek v (omega (arith, flat_length c.pairs, flat_length a, k, en)) b) k t

-- ---- greedy over a list of leaves, from greedy whose new nodes' children are grown behind those of the array ----

self_over : (s w : List ℕ) → s ++ w ≡ over (s ++ w) s
unfolding over
self_over [] [] = refl
self_over [] (x ∷ w) = refl
self_over (x ∷ s) w = ap (λ (l : List ℕ). x ∷ l) (self_over s w)

module _ (n made : ℕ) (weights counts legs outputs leaves leaves' w₀ w : List ℕ) (same : leaves' ≡ leaves) (r : Result ℕ Refusal)
    (f : (N : Network) (a : List Pair) → Asks N a n made weights counts legs outputs leaves' (flat_of a ++ w₀) → Planned N a leaves' (flat_of a ++ w₀) (flat_of a ++ w) r)
    (N : Network) (a : List Pair) (kids : List ℕ) (asks : Asks N a n made weights counts legs outputs leaves kids)
  where
    within : Planned N a leaves (flat_of a ++ w₀) (flat_of a ++ w) r
    within =
        subst (λ (l : List ℕ). Planned N a l (flat_of a ++ w₀) (flat_of a ++ w) r) same
        (f N a
        (record {
          lends = asks.lends;
          accepted = asks.accepted;
          leaf = λ v e. asks.leaf v (ap (memb v) (sym same) ∙ e);
          once = λ v. subst (λ (l : List ℕ). count v l ≤ 1) (sym same) (asks.once v);
          array = asks.array;
          written = self_over (flat_of a) w₀;
        }))

    pub nodes_refused : (e : Refusal) → r ≡ Err e → Planned N a leaves kids kids (Err e)
    nodes_refused e z = any_refused z within

    pub nodes_built : ((e : Refusal) → r ≡ Err e → ⊥) → (at k : ℕ) → at ≡ made * 2 → k ≡ (length leaves - 1) * 2 → k ≤ length w₀
        → (kids' : List ℕ) → kids' ≡ copied_to kids at w k → Planned N a leaves kids kids' r
    nodes_built x at k ea ek b kids' e =
        subst (λ (l : List ℕ). Planned N a leaves kids l r) (sym e)
        (copied_answer N a leaves kids w₀ w r at k x asks.written (omega (arith, ea, asks.array, flat_length a)) ek b within)
