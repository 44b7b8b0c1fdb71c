-- The coarser hypergraph in slots. Assumes nothing.
use Rattle.std.specs.Prelude.{Bool, true, false, cond, ◌≡◌, refl, List, [], ◌∷◌, map, ℕ, ◌+◌, ◌*◌, ◌≤◌, ◌<◌, eqb, Float, length, get_or, take, Option, None, Some}
use Rattle.std.proofs.Math.Bool.{not}
use Rattle.std.proofs.Common.{sym, ◌∙◌, subst, arith, length-take-le, eqb-true}
use Rattle.std.proofs.Math.Path.{ap}
use Rattle.std.proofs.lemmas.Simd.{map-map}
use Rattle.std.specs.Float.{binary64}
use Rattle.std.specs.Float.Ieee.{mul, lt}
use Rattle.std.proofs.Math.Decide.{dec_le}
use Rattle.spec.specs.Lists.{memb, keep, range}
use Rattle.spec.specs.Floats.{zero_float, whole_float, decimal}
use Rattle.spec.specs.Draws.{Words, Drawn, drawn}
use Rattle.spec.specs.Hypergraph.{Net, nets≥2}
use Rattle.spec.specs.Coarsen.{Level, matching, level_of, worthwhile, coarsen}
use Rattle.laws.specs.Booleans.{by_cases, or_cases, or_intror, clash}
use Rattle.laws.specs.ListLaws.{keep_passes, memb_head, kept_below, map_cong}
use Rattle.spec.specs.Layout.{firsts}
use Rattle.network.specs.Layouts.{map-range_ext, firsts-take}
use Rattle.slots.specs.Slots.{held}
use Rattle.slots.specs.Rising.{rising_of}
use Rattle.partition.specs.Layout.{net_in, graph_in}
use Rattle.matching.specs.Meshed.{Meshed}
use Rattle.mesh.specs.Stays.{Stays, stays_then, stays_wider}
use Rattle.mesh.specs.Fronts.{rising_front}
use Rattle.mesh.specs.Compact.{Within}
use Rattle.mesh.specs.Mesh.{Built}
use Rattle.coarsen.specs.Pairs.{Mutual, Paired, mutual_matching, mutual_paired}
use Rattle.coarsen.specs.Joined.{lowers, coarse_in, joined_of, joined, Joins, joins, coarse_below}
use Rattle.coarsen.specs.Mapped.{images, mapped, Maps, maps}

-- ---- lists ----

image_below : (f : ℕ → ℕ) (n : ℕ) (l : List ℕ) → ((v : ℕ) → memb v l ≡ true → f v < n) → (j : ℕ) → n ≤ j → memb j (map f l) ≡ false
image_below f n [] h j b = refl
image_below f n (x ∷ l) h j b =
    by_cases (memb j (map f (x ∷ l)))
    (λ e. or_cases (eqb j (f x)) (memb j (map f l)) e
    (λ q. let z : j ≡ f x = eqb-true j (f x) q in let y : f x < n = h x (memb_head x l) in absurd (omega arith))
    (λ q. clash q (image_below f n l (λ v m. h v (or_intror (eqb v x) (memb v l) m)) j b)))
    (λ e. e)

rising_memb : (ws : List ℕ) (W s v : ℕ) → memb v (rising_of ws W s) ≡ true → (v < W * 64) × (held ws W s v ≡ true)
unfolding rising_of
rising_memb ws W s v m = (kept_below (held ws W s) (W * 64) v m, keep_passes v (held ws W s) (range (W * 64)) m)

take_is : (f : ℕ → ℕ) (n : ℕ) (l : List ℕ) → n ≤ length l → ((v : ℕ) → v < n → get_or l v 0 ≡ f v) → take n l ≡ map f (range n)
unfolding firsts
take_is f n l b h = sym (firsts-take n l b) ∙ map-range_ext 0 (λ k. get_or l k 0) f n h

-- ---- one level ----

abbrev pub level_in : List ℕ → ℕ → List ℕ → ℕ → List Float → ℕ → List ℕ → ℕ → Level
level_in ws nets weights m vw n places k = record { graph = graph_in ws nets weights m (take n vw); places = take k places }

-- The level of m' nets and n' vertices in ws' is that of the mates, from the hypergraph in ws.
pub record Coarser (ws : List ℕ) (nets : ℕ) (weights : List ℕ) (m : ℕ) (vw : List Float) (mates : List ℕ) (nets₂ vertices₂ : ℕ)
    (ws' weights' : List ℕ) (m' : ℕ) (vw' : List Float) (n' : ℕ) (places' : List ℕ) : Type 0 where
  pub few : (m' ≤ m) × (n' ≤ length vw)
  pub some_left : 0 < length vw → 0 < n'
  pub level_is : (maxw : Float) → level_in ws' nets₂ weights' m' vw' n' places' (length vw) ≡ level_of (graph_in ws nets weights m vw) maxw mates
  pub meshed : Meshed ws' nets₂ vertices₂ m' n'
  pub within : Within ws' nets₂ m' n'
  pub stays : Stays (nets₂ * 2) ((vertices₂ + 128) * 4) ws ws'

module _ (ws ws₁ ws₂ : List ℕ) (nets nets₂ vertices₂ m : ℕ) (weights weights' : List ℕ) (vw vw₀ vw' : List Float) (mates places₀ places' : List ℕ) (m' n' : ℕ)
    (few : (m ≤ 256) × (length vw ≤ 128)) (inside : Within ws nets m (length vw)) (paired : Paired (length vw) mates)
    (fits : (length vw ≤ length places₀) × (length vw ≤ length vw₀))
    (apart : nets + 256 ≤ nets₂) (level : nets₂ + 256 ≤ vertices₂ * 2) (room : (vertices₂ + 128) * 4 ≤ length ws)
    (ej : joined_of places' vw' n' ≡ joined vw mates (joined_of places₀ vw₀ 0) (length vw))
    (em : ws₁ ≡ mapped nets nets₂ places' ws m)
    (eb : Built ws₁ nets₂ vertices₂ weights m n' ws₂ weights' m') where
  j : Joins vw mates places₀ vw₀ (length vw) (joined_of places' vw' n')
  j = subst (Joins vw mates places₀ vw₀ (length vw)) (sym ej) (joins vw mates places₀ vw₀ (length vw) fits paired)

  k : Maps nets nets₂ places' ws m ws₁
  k = subst (Maps nets nets₂ places' ws m) (sym em) (maps nets nets₂ places' ws m few.0 apart (omega arith))

  pin_below : (e v : ℕ) → e < m → memb v (rising_of ws 2 (nets + e)) ≡ true → v < length vw
  pin_below e v b h = let r = rising_memb ws 2 (nets + e) v h in inside e v b r.0 r.1

  images_are : (e : ℕ) → e < m → images places' (rising_of ws 2 (nets + e)) ≡ map (coarse_in mates) (rising_of ws 2 (nets + e))
  images_are e b = map_cong (λ v. get_or places' v 0) (coarse_in mates) (rising_of ws 2 (nets + e)) (λ v h. j.stands v (pin_below e v b h))

  coarse_pins : (e x : ℕ) → e < m → x < 128 → held ws₁ 2 (nets₂ + e) x ≡ memb x (map (coarse_in mates) (rising_of ws 2 (nets + e)))
  coarse_pins e x b c = k.holds e x b c ∙ ap (memb x) (images_are e b)

  none_above : (e : ℕ) → e < m → (x : ℕ) → length (lowers mates (length vw)) ≤ x → memb x (map (coarse_in mates) (rising_of ws 2 (nets + e))) ≡ false
  none_above e b =
      image_below (coarse_in mates) (length (lowers mates (length vw))) (rising_of ws 2 (nets + e)) (λ v h. coarse_below mates (length vw) v paired (pin_below e v b h))

  abbrev coarse_one : Net → Net
  coarse_one e = record { pins = keep (λ x. memb x (map (coarse_in mates) e.pins)) (range (length (lowers mates (length vw)))); weight = e.weight }

  net_is : (e : ℕ) → e < m → net_in ws₁ nets₂ weights e ≡ coarse_one (net_in ws nets weights e)
  net_is e b =
      ap net_with
      (rising_front ws₁ 2 (nets₂ + e) (length (lowers mates (length vw))) (λ x. memb x (map (coarse_in mates) (rising_of ws 2 (nets + e))))
      (omega (arith, j.counts, j.few, few.1)) (λ x c. coarse_pins e x b c) (none_above e b))
    where
      net_with : List ℕ → Net
      net_with p = record { pins = p; weight = whole_float (get_or weights e 0) }

  nets_are : map (net_in ws₂ nets₂ weights') (range m') ≡ nets≥2 (map coarse_one (map (net_in ws nets weights) (range m)))
  nets_are =
      eb.nets_are
      ∙ ap nets≥2 (map-range_ext (record { pins = []; weight = zero_float }) (net_in ws₁ nets₂ weights) (λ e. coarse_one (net_in ws nets weights e)) m net_is
      ∙ sym (map-map coarse_one (net_in ws nets weights) (range m)))

  -- THE COARSER HYPERGRAPH
  pub coarser_made : Coarser ws nets weights m vw mates nets₂ vertices₂ ws₂ weights' m' vw' n' places'
  unfolding graph_in
  coarser_made =
      record {
        few = (eb.few, j.few);
        some_left = λ b. omega (arith, j.counts, coarse_below mates (length vw) 0 paired b);
        level_is = λ maxw i. record {
          graph = record { weights = j.weighs i; nets = nets_are i };
          places = take_is (coarse_in mates) (length vw) places' (omega (arith, j.long.0, fits.0)) j.stands i;
        };
        meshed = eb.meshed;
        within = eb.within (λ e v b c h. elim (dec_le n' v) [
          | yes l ↦ clash (sym (coarse_pins e v b c) ∙ h) (none_above e b v (omega (arith, j.counts)))
          | no l ↦ omega (arith, l)
        ]);
        stays = stays_then _ _ ws ws₁ ws₂ (stays_wider _ _ _ _ ws ws₁ (omega arith) (omega arith) k.stays) eb.stays;
      }

  pub count_fits : length (take n' vw') ≡ n'
  count_fits = length-take-le n' vw' (omega (arith, j.few, j.long.1, fits.1))

-- ---- is it worthwhile ----

-- over 95 of 100 vertices are left
unfoldable pub enough : ℕ → ℕ → Bool
enough n left = lt (mul binary64 (decimal 95 100) (whole_float n)) (whole_float left)

abbrev pub level_if : Bool → Level → Option Level
level_if found l = cond found (Some l) None

module _ (ws : List ℕ) (nets : ℕ) (weights : List ℕ) (m : ℕ) (vw : List Float) (maxw : Float) (words words' : Words) (mates : List ℕ)
    (e : drawn mates words' ≡ matching (graph_in ws nets weights m vw) maxw words) where
  pub drawn_paired : 0 < length vw → Paired (length vw) mates
  unfolding graph_in
  drawn_paired b =
      mutual_paired (length vw) mates
      (subst (λ (d : Drawn (List ℕ)). Mutual (length vw) d.value) (sym e) (mutual_matching (graph_in ws nets weights m vw) maxw words b))

  -- COARSENED
  pub coarsened : (ws' : List ℕ) (nets₂ : ℕ) (weights' : List ℕ) (m' : ℕ) (vw' : List Float) (n' : ℕ) (places' : List ℕ) (found : Bool)
      → level_in ws' nets₂ weights' m' vw' n' places' (length vw) ≡ level_of (graph_in ws nets weights m vw) maxw mates → length (take n' vw') ≡ n'
      → found ≡ not (enough (length vw) n')
      → drawn (level_if found (level_in ws' nets₂ weights' m' vw' n' places' (length vw))) words' ≡ coarsen (graph_in ws nets weights m vw) maxw words
  unfolding coarsen enough graph_in
  coarsened ws' nets₂ weights' m' vw' n' places' found q el f =
      let G = graph_in ws nets weights m vw in
      ap (λ b. drawn (level_if b l) words') (f ∙ ap (λ y. not (enough (length vw) y)) (sym el))
      ∙ ap (λ o. drawn o words') (either (enough (length vw) (length (take n' vw'))))
      ∙ ap (λ x. drawn (worthwhile G maxw x) words') q
      ∙ ap (λ (d : Drawn (List ℕ)). drawn (worthwhile G maxw (level_of G maxw d.value)) d.words) e
    where
      l : Level
      l = level_in ws' nets₂ weights' m' vw' n' places' (length vw)

      either : (b : Bool) → level_if (not b) l ≡ cond b None (Some l)
      either true = refl
      either false = refl
