-- A turn of greedy's merging, from the lists that the scan and the merge leave. Assumes nothing.
use Rattle.std.specs.Prelude.{◌≡◌, refl, List, [], ◌∷◌, ◌++◌, ℕ, ◌+◌, ◌*◌, ◌<◌, length, get_or, set, Err, Ok}
use Rattle.std.proofs.Common.{sym, ◌∙◌, ap, ap₂, subst, zero-add, suc-add, arith}
use Rattle.spec.specs.Tree.{flat_of}
use Rattle.tables.specs.declared.PairTooWide.{PairTooWide}
use Rattle.tables.specs.Lists.{Lists}
use Rattle.rows.specs.Rows.{least_of}
use Rattle.merging.specs.Merge.{first_at, second_at, with_node, scanned_in, merged_in}
use Rattle.merging.specs.Holds.{Given, Ghost}
use Rattle.merging.specs.Connect.{Start, Reached, Connected, turn_ends, turn_refused, turn_merges}

-- ---- the children of the array so far, and behind them those of the new nodes ----

abbrev pub kids_behind : Ghost → List ℕ → List ℕ
kids_behind S kids = flat_of S.array ++ kids

set_behind : (pre l : List ℕ) (i v : ℕ) → set (pre ++ l) (length pre + i) v ≡ pre ++ set l i v
set_behind [] l i v = ap (λ (k : ℕ). set l k v) (zero-add i)
set_behind (x ∷ pre) l i v = ap (λ (k : ℕ). set (x ∷ (pre ++ l)) k v) (suc-add (length pre) i) ∙ ap (λ (k : List ℕ). x ∷ k) (set_behind pre l i v)

pub node_behind : (pre l : List ℕ) (c t u v : ℕ) → length pre ≡ c * 2 → with_node (pre ++ l) (c + t) u v ≡ pre ++ with_node l t u v
node_behind pre l c t u v e =
    let p : (c + t) * 2 ≡ length pre + t * 2 = omega (arith, e) in
    let q : (c + t) * 2 + 1 ≡ length pre + (t * 2 + 1) = omega (arith, e) in
    ap₂ (λ (i j : ℕ). set (set (pre ++ l) i u) j v) p q
    ∙ ap (λ (k : List ℕ). set k (length pre + (t * 2 + 1)) v) (set_behind pre l (t * 2) u) ∙ set_behind pre (set l (t * 2) u) (t * 2 + 1) v

-- ---- a turn ----

module _ (G : Given) (S : Ghost) (W n n0 count : ℕ) (weights kids₀ : List ℕ) (M₀ : Lists) (start : Start G S M₀ W n n0 count weights kids₀)
    (t : ℕ) (M : Lists) (kids : List ℕ) (R : Reached G S kids₀ t M kids) (less : t < n0)
    (K : Lists) (y : ℕ) (ek : K ≡ scanned_in W weights n0 M) (ey : y ≡ least_of K.sizes n0 K.rows K.live (length K.live))
  where
    abbrev L : Lists
    L = scanned_in W weights n0 M

    least_is : y ≡ least_of M.sizes n0 L.rows M.live (length M.live)
    least_is = ey ∙ ap (λ (l : Lists). least_of l.sizes n0 l.rows l.live (length l.live)) ek

    -- a pair is too wide
    pub scan_refused : (nodes sizes live kids' : List ℕ) (e : PairTooWide) → y ≡ 257 → Connected G S kids₀ nodes sizes live kids' (Err e)
    scan_refused nodes sizes live kids' e z =
        turn_refused G S W n n0 count weights kids₀ M₀ start t M kids R less y L.words L.rows refl refl least_is nodes sizes live kids' e z

    -- no pair is left
    pub scan_ends : y ≡ 256 → Connected G S kids₀ K.nodes K.sizes K.live kids (Ok t)
    scan_ends z =
        subst (λ (l : Lists). Connected G S kids₀ l.nodes l.sizes l.live kids (Ok t)) (sym ek)
        (turn_ends G S W n n0 count weights kids₀ M₀ start t M kids R less y L.words L.rows refl refl least_is z)

    -- the least pair is merged
    pub scan_merges : (K' : Lists) (kids' : List ℕ) → K' ≡ merged_in W n0 y (n0 + t) (n + (count + t)) K
        → kids' ≡ with_node kids (count + t) (get_or K.nodes (first_at n0 K.rows y) 0) (get_or K.nodes (second_at n0 K.rows y) 0)
        → (y ≡ 256 → ⊥) → (y ≡ 257 → ⊥) → Reached G S kids₀ (t + 1) K' kids'
    scan_merges K' kids' e e₆ n₁ n₂ =
        subst (λ (l : Lists). Reached G S kids₀ (t + 1) l kids') (sym (e ∙ ap (merged_in W n0 y (n0 + t) (n + (count + t))) ek))
        (turn_merges G S W n n0 count weights kids₀ M₀ start t M kids R less y L.words L.rows refl refl least_is
        (n0 + t) refl _ _ _ _ _ kids' refl refl refl refl refl
        (e₆ ∙ ap (λ (l : Lists). with_node kids (count + t) (get_or l.nodes (first_at n0 l.rows y) 0) (get_or l.nodes (second_at n0 l.rows y) 0)) ek)
        n₁ n₂)
