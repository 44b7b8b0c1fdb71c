-- What the rows of the masks are. Definitions only. Assumes nothing.
use Rattle.std.specs.Prelude.{Bool, ◌&&◌, ◌||◌, List, [], ◌≡◌, ℕ, ◌-◌, ◌^◌, ◌≤◌, ◌<◌, length, get_or}
use Rattle.spec.specs.Lists.{anyb}
use Rattle.laws.specs.Masks.{places_from}
use Rattle.slots.specs.Weigh.{Light, weighed}
use Rattle.masks.specs.Rows.{has_at, in_either}

-- does member p list the index j: its mask is 2^p
abbrev pub member_has : List (List ℕ) → ℕ → ℕ → Bool
member_has united p j = has_at united (2 ^ p) j

-- does the region's root list j
abbrev pub root_has : List (List ℕ) → ℕ → Bool
root_has united j = has_at united 0 j

-- does a member of the mask s list j, as the rows `was` have the n masks' members
abbrev pub union_has : List (List ℕ) → ℕ → ℕ → ℕ → Bool
union_has was n s j = anyb (λ p. member_has was p j) (places_from 0 n s)

-- does the mask s keep j, of n masks, as the rows have the unions
unfoldable pub keeps_in : List (List ℕ) → ℕ → ℕ → ℕ → Bool
keeps_in united n s j = has_at united s j && (has_at united 0 j || has_at united (n - 1 - s) j)

-- the row of each mask below `top` has its members' sets united; all the others are as in `was`
pub record United (was united : List (List ℕ)) (n top : ℕ) : Type 0 where
  pub long : length united ≡ length was
  pub done : (s j : ℕ) → 1 ≤ s → s < top → j < 128 → has_at united s j ≡ union_has was n s j
  pub later : (s j : ℕ) → top ≤ s → s < n → j < 128 → has_at united s j ≡ has_at was s j
  pub root : (j : ℕ) → j < 128 → root_has united j ≡ root_has was j

-- for each mask below `top`, of n in all, what it keeps and how many bits that is
pub record KeptBelow (united : List (List ℕ)) (wt : List ℕ) (rows : List (List ℕ)) (bits : List ℕ) (n top : ℕ) : Type 0 where
  pub long : length rows ≡ n
  pub long_bits : length bits ≡ n
  pub kept : (s j : ℕ) → 1 ≤ s → s < top → j < 128 → has_at rows s j ≡ keeps_in united n s j
  pub sized : (s : ℕ) → 1 ≤ s → s < top → get_or bits s 0 ≡ weighed wt [] (keeps_in united n s) 128

-- ---- prices ----

-- the work bits of the step that joins the tables of the masks l and r
unfoldable pub work_at : List (List ℕ) → List ℕ → ℕ → ℕ → ℕ
work_at kept wt l r = weighed wt [] (in_either (get_or kept l []) (get_or kept r [])) 128

-- the bits of each mask's table stand in their place
pub record Sized (kept : List (List ℕ)) (bits wt : List ℕ) : Type 0 where
  pub few : length bits ≤ 4096
  pub long : length kept ≡ length bits
  pub weights : 128 ≤ length wt
  pub light : Light wt
  pub sized : (s : ℕ) → 1 ≤ s → s < length bits → get_or bits s 0 ≡ work_at kept wt s s
