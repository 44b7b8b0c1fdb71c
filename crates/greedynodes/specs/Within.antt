-- From the prepared lists to greedy's answer over a list of leaves. Assumes nothing.
use Rattle.std.specs.Prelude.{◌≡◌, refl, List, ◌++◌, ℕ, ◌+◌, ◌-◌, ◌≤◌, ◌<◌, length, get_or, replicate, Result, Err, Ok}
use Rattle.std.proofs.Common.{sym, ◌∙◌, ap, subst, arith}
use Rattle.std.proofs.Math.ListN.{length-replicate}
use Rattle.spec.specs.declared.Refusal.TheVariants.{TableTooWide}
use Rattle.spec.specs.Lists.{range}
use Rattle.spec.specs.Memory.{copied, filled}
use Rattle.spec.specs.Network.{Network}
use Rattle.spec.specs.Tree.{Tree, Pair, flat_of}
use Rattle.tables.specs.declared.PairTooWide.{PairTooWide}
use Rattle.cells.specs.Cells.{copied_length, copied_at, filled_length, filled_at}
use Rattle.tables.specs.Lists.{Lists, lists_of}
use Rattle.merging.specs.Holds.{Given, Ghost}
use Rattle.merging.specs.Connect.{Start, Connected}
use Rattle.rest.specs.Joined.{Rest, Joined}
use Rattle.start.specs.Leaves.{start_words, weighed_in}
use Rattle.greedynodes.specs.Begin.{Fits, fits_again, Asks, given, ghost, prepared}
use Rattle.greedynodes.specs.Ends.{Planned, answer_refused, answer_built, answer_left}

-- what is asked of the leaves of a list, in words as many
module _ (W n made : ℕ) (weights outputs leaves leaves' : List ℕ) (same : leaves' ≡ leaves) where
  pub fits_put : (ws ws' : List ℕ) → Fits W n made weights outputs leaves ws → length ws' ≡ length ws → Fits W n made weights outputs leaves' ws'
  fits_put ws ws' f e = fits_again f (omega (arith, ap length same)) e f.array

-- lists for the tables, of 256 places or more: the leaves' numbers stand at the front of the first, and no row of the last is found
pub record Laid (leaves nodes sizes rows : List ℕ) : Type 0 where
  pub nodes_long : 256 ≤ length nodes
  pub numbers : (u : ℕ) → u < length leaves → get_or nodes u 0 ≡ get_or leaves u 0
  pub sizes_long : 256 ≤ length sizes
  pub rows_long : 256 ≤ length rows
  pub stale : (u : ℕ) → u < 256 → get_or rows u 0 ≡ 258

-- the leaves copied to the front of zeros, and rows that are filled
pub laid_new : (leaves nodes sizes rows₀ rows : List ℕ) → length leaves ≤ 128 → nodes ≡ copied (replicate 256 0) leaves (length leaves)
    → sizes ≡ replicate 256 0 → 256 ≤ length rows₀ → rows ≡ filled (length rows₀) 258 → Laid leaves nodes sizes rows
laid_new leaves nodes sizes rows₀ rows few en es br er =
    let z : length (replicate {A = ℕ} 256 0) ≡ 256 = length-replicate {A = ℕ} 256 0 in
    record {
      nodes_long = omega (arith, ap length en, copied_length (replicate 256 0) leaves (length leaves), z);
      numbers = λ u h. ap (λ (l : List ℕ). get_or l u 0) en ∙ copied_at (replicate 256 0) leaves (length leaves) u 0 h (omega (arith, few, z)) h;
      sizes_long = omega (arith, ap length es, z);
      rows_long = omega (arith, ap length er, filled_length {A = ℕ} (length rows₀) 258, br);
      stale = λ u h. ap (λ (l : List ℕ). get_or l u 0) er ∙ filled_at (length rows₀) u 258 0 (omega (arith, br));
    }

module _ (N : Network) (a : List Pair) (W n made : ℕ) (weights counts cells outputs leaves words w₁ : List ℕ)
    (asks : Asks N a n made weights counts cells outputs leaves (flat_of a ++ w₁)) (f : Fits W n made weights outputs leaves words)
    (nodes sizes₀ rows : List ℕ) (laid : Laid leaves nodes sizes₀ rows) (K : Lists)
    (ek : K ≡ weighed_in W weights (length leaves) (lists_of (start_words W n counts cells outputs leaves words) nodes sizes₀ (range (length leaves)) rows))
  where
    abbrev kids : List ℕ
    kids = flat_of a ++ w₁

    G : Given
    G = given N a W n made weights counts cells outputs leaves kids asks f.indices f.leaf_sets f.few words f.words

    S : Ghost
    S = ghost N a W n made weights counts cells outputs leaves kids asks f.indices f.leaf_sets f.few words f.words

    begun : Start G S K W n (length leaves) made weights kids
    unfolding G S
    begun =
        subst (λ (L : Lists). Start G S L W n (length leaves) made weights kids) (sym ek)
        (prepared N a W n made weights counts cells outputs leaves kids asks f.indices f.leaf_sets f.few words f.words
        sizes₀ laid.sizes_long (start_words W n counts cells outputs leaves words) nodes _ (range (length leaves)) rows
        refl laid.nodes_long laid.numbers refl refl laid.rows_long laid.stale)

    -- what the merging promises, where it is refused
    pub is_wide : (nodes' sizes' live' w₂ kids₂ : List ℕ) (r : Result ℕ PairTooWide) (w : PairTooWide) → r ≡ Err w
        → ((G : Given) (S : Ghost) → Start G S K W n (length leaves) made weights (flat_of S.array ++ w₁)
        → Connected G S (flat_of S.array ++ w₁) nodes' sizes' live' (flat_of S.array ++ w₂) r)
        → Planned N a leaves kids kids₂ (Err TableTooWide)
    unfolding G S
    is_wide nodes' sizes' live' w₂ kids₂ r w e c =
        answer_refused N a W n made weights counts cells outputs leaves kids asks f.indices f.leaf_sets f.few words f.words
        nodes' sizes' live' (flat_of a ++ w₂) kids₂ r w e (c G S begun)

    -- and where it ends, with what the joining of the rest promises
    pub is_joined : (nodes' sizes' live' w₂ : List ℕ) (t : ℕ) (r' : Result ℕ PairTooWide) → r' ≡ Ok t
        → ((G : Given) (S : Ghost) → Start G S K W n (length leaves) made weights (flat_of S.array ++ w₁)
        → Connected G S (flat_of S.array ++ w₁) nodes' sizes' live' (flat_of S.array ++ w₂) r')
        → (kids₂ : List ℕ) (r : ℕ) → r < 65536
        → ((N : Network) (tree : ℕ → Tree) (L : List ℕ) (b : List Pair) (before : List ℕ) → Rest N tree L b n (made + t) (length live') nodes' sizes' live' before (flat_of a ++ w₂)
        → Joined N tree L b (length live') before kids₂ r)
        → Planned N a leaves kids kids₂ (Ok r)
    unfolding G S
    is_joined nodes' sizes' live' w₂ t r' e c kids₂ r low g =
        answer_built N a W n made weights counts cells outputs leaves kids asks f.indices f.leaf_sets f.few words f.words
        nodes' sizes' live' (flat_of a ++ w₂) t (subst (Connected G S kids nodes' sizes' live' (flat_of a ++ w₂)) e (c G S begun)) kids₂ r low g

    -- the same, where the rest is joined by how many leaves the turns left
    pub is_joined_left : (nodes' sizes' live' w₂ : List ℕ) (t : ℕ) (r' : Result ℕ PairTooWide) → r' ≡ Ok t
        → ((G : Given) (S : Ghost) → Start G S K W n (length leaves) made weights (flat_of S.array ++ w₁)
        → Connected G S (flat_of S.array ++ w₁) nodes' sizes' live' (flat_of S.array ++ w₂) r')
        → (kids₂ : List ℕ) (r : ℕ) → r < 65536
        → ((N : Network) (tree : ℕ → Tree) (L : List ℕ) (b : List Pair) (before : List ℕ) → Rest N tree L b n (made + t) (length leaves - t) nodes' sizes' live' before (flat_of a ++ w₂)
        → Joined N tree L b (length leaves - t) before kids₂ r)
        → Planned N a leaves kids kids₂ (Ok r)
    unfolding G S
    is_joined_left nodes' sizes' live' w₂ t r' e c kids₂ r low g =
        answer_left N a W n made weights counts cells outputs leaves kids asks f.indices f.leaf_sets f.few words f.words
        nodes' sizes' live' (flat_of a ++ w₂) t (subst (Connected G S kids nodes' sizes' live' (flat_of a ++ w₂)) e (c G S begun)) kids₂ r low g
