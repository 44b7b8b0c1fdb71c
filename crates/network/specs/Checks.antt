-- The check by number on lists with counts: its parts, and the facts that follow where it finds nothing. Assumes nothing.
use Rattle.std.specs.Prelude.{◌≡◌, Bool, true, false, ℕ, ◌+◌, ◌-◌, ◌*◌, ◌≤◌, ◌<◌, length, get_or, take, drop}
use Rattle.std.proofs.Math.Path.{sym, ap}
use Rattle.std.proofs.Common.{◌∙◌, arith, length-drop}
use mathlib.Core.List.{List, [], map}
use Rattle.spec.specs.Lists.{anyb, range}
use Rattle.spec.specs.Network.{max_leaves, max_indices, max_legs, max_outputs}
use Rattle.spec.specs.Layout.{row_at}
use Rattle.laws.specs.LayoutLaws.{map_range_at, map_range_length}
use Rattle.network.specs.Layouts.{firsts-take}
use Rattle.network.specs.Searches.{NoneBefore, any_next, any_found, any_end}

-- ---- the leaves of lists with counts ----

unfoldable pub leaves_of : ℕ → List ℕ → List ℕ → List (List ℕ)
leaves_of n counts cells = map (row_at counts cells) (range n)

pub rows_length : (n : ℕ) (counts cells : List ℕ) → length (leaves_of n counts cells) ≡ n
unfolding leaves_of
rows_length n counts cells = map_range_length (row_at counts cells) n

-- leaf i has a count and its indices a place
pub record Row (counts cells : List ℕ) (i : ℕ) : Type 0 where
  pub counted : i < length counts
  pub room : i * max_legs + get_or counts i 0 ≤ length cells

-- the lists have the places that the limits ask for
pub record Lent (weights counts cells outputs : List ℕ) : Type 0 where
  pub weight_places : max_indices ≤ length weights
  pub count_places : max_leaves ≤ length counts
  pub leg_places : max_leaves * max_legs ≤ length cells
  pub output_places : max_outputs ≤ length outputs

-- the lists have the places that the counts ask for, as far as these are within the limits
pub record Fitting (m n o : ℕ) (weights counts cells outputs : List ℕ) : Type 0 where
  pub weight_places : m ≤ max_indices → m ≤ length weights
  pub count_places : n ≤ max_leaves → n ≤ length counts
  pub leg_places : n ≤ max_leaves → n * max_legs ≤ length cells
  pub output_places : o ≤ max_outputs → o ≤ length outputs

pub lent_fitting : {weights counts cells outputs : List ℕ} (m n o : ℕ) → Lent weights counts cells outputs → Fitting m n o weights counts cells outputs
lent_fitting m n o l =
    record {
      weight_places = λ h. omega (arith, l.weight_places);
      count_places = λ h. omega (arith, l.count_places);
      leg_places = λ h. omega (arith, l.leg_places);
      output_places = λ h. omega (arith, l.output_places);
    }

-- n leaves have
pub record Rows (n : ℕ) (counts cells : List ℕ) : Type 0 where
  pub counted : n ≤ length counts
  pub room : n * max_legs ≤ length cells
  pub few : (i : ℕ) → i < n → get_or counts i 0 ≤ max_legs

pub row_of : {n : ℕ} {counts cells : List ℕ} (i : ℕ) → Rows n counts cells → i < n → Row counts cells i
row_of i r h = record { counted = omega (arith, r.counted); room = omega (arith, r.few i h, r.room) }

-- a leaf's indices as a part of the list
pub row_part : {counts cells : List ℕ} (i : ℕ) → Row counts cells i → take (i * max_legs + get_or counts i 0 - i * max_legs) (drop (i * max_legs) cells) ≡ row_at counts cells i
row_part {counts} {cells} i r =
    let e : i * max_legs + get_or counts i 0 - i * max_legs ≡ get_or counts i 0 = omega arith in
    let h : get_or counts i 0 ≤ length (drop (i * max_legs) cells) = omega (arith, r.room, length-drop (i * max_legs) cells) in
    ap (λ (k : ℕ). take k (drop (i * max_legs) cells)) e ∙ sym (firsts-take (get_or counts i 0) (drop (i * max_legs) cells) h)

-- a search over the leaves: b is what the test p says of the row, which is leaf i's
module _ {n : ℕ} {counts cells : List ℕ} (r : Rows n counts cells) {p : List ℕ → Bool} {i : ℕ} (s : NoneBefore p (leaves_of n counts cells) i) where
  here : {row : List ℕ} {b : Bool} → i < n → row ≡ row_at counts cells i → b ≡ p row → p (get_or (leaves_of n counts cells) i []) ≡ b
  unfolding leaves_of
  here h leaf test = ap p (map_range_at (row_at counts cells) [] n i h ∙ sym leaf) ∙ sym test

  pub leaves_next : {row : List ℕ} {b : Bool} → i < n → row ≡ row_at counts cells i → b ≡ p row → b ≡ false → NoneBefore p (leaves_of n counts cells) (i + 1)
  leaves_next h leaf test e = any_next s [] (omega (arith, rows_length n counts cells)) (here h leaf test ∙ e)

  pub leaves_found : {row : List ℕ} {b : Bool} → i < n → row ≡ row_at counts cells i → b ≡ p row → b ≡ true → true ≡ anyb p (leaves_of n counts cells)
  leaves_found h leaf test e = any_found s [] (omega (arith, rows_length n counts cells)) (here h leaf test ∙ e)

  pub leaves_end : n ≤ i → false ≡ anyb p (leaves_of n counts cells)
  leaves_end h = any_end s (omega (arith, rows_length n counts cells))
