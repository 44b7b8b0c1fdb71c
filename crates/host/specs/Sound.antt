-- What is handed out to a host runs to the direct sum. Assumes nothing.
use Rattle.std.specs.Prelude.{◌≡◌, refl, List, [], ◌∷◌, ℕ, ◌≤◌, Result, Err, Ok}
use Rattle.std.proofs.Common.{sym, arith}
use Rattle.spec.specs.Memory.{over}
use Rattle.spec.specs.Network.{Network, leaf_count, Sliceable}
use Rattle.spec.specs.Tree.{pairs_of}
use Rattle.spec.specs.Price.{listing}
use Rattle.spec.specs.declared.Refusal.{Refusal}
use Rattle.spec.specs.Refusal.{code_of}
use Rattle.spec.specs.Calls.{plain_words, lent, length_check, price_call, flag_at}
use Rattle.spec.specs.File.{Contents, flag_bytes, tree_bytes, read_of}
use Rattle.spec.specs.FileClaims.{refusal_in}
use Rattle.spec.specs.RunClaims.{RunsToDirectSum}
use Rattle.spec.specs.Host.{full_room, listing_bytes, listing_length, listing_call, host_call, host_after, Answered}
use Rattle.laws.specs.Integers.{ℤ_semiring}
use Rattle.laws.specs.Results.{and_then_lem, checked_done, done_same}
use Rattle.laws.specs.Accepted.{accepted_means}
use Rattle.laws.specs.Theorem.{listing_runs}
use Rattle.network.specs.Codes.{positive}
use Rattle.listing.specs.Listing.{priced}

-- The bytes are those of the listing of what the file has. For two leaves or more, and flagged indices that leaves name and that are no
-- outputs, the run of that listing gives the direct sum, whatever whole numbers the tables hold.
pub record Sound (file bytes : List ℕ) : Type 0 where
  pub contents : Contents
  pub is_read : read_of 254 256 file ≡ Ok contents
  pub is_listing : bytes ≡ listing_bytes contents.network (flag_at (flag_bytes contents.ask)) (pairs_of (tree_bytes contents.tree))
  pub runs : 2 ≤ leaf_count contents.network → Sliceable contents.network (flag_at (flag_bytes contents.ask))
      → (tables : ℕ → List ℕ → ℤ_semiring.Car)
      → RunsToDirectSum ℤ_semiring contents.network tables (flag_at (flag_bytes contents.ask)) (pairs_of (tree_bytes contents.tree))
      (listing contents.network (flag_at (flag_bytes contents.ask)) (pairs_of (tree_bytes contents.tree)))

-- after 0 the buffer starts with such bytes
abbrev pub HandsOut : List ℕ → List ℕ → List ℕ → Type 0
HandsOut file out after = (bytes : List ℕ) × (after ≡ over out bytes) × Sound file bytes

of_listing : (size : ℕ) (N : Network) (flags kids bytes : List ℕ) → listing_call size N flags kids ≡ Ok bytes
    → (bytes ≡ listing_bytes N (flag_at flags) (pairs_of kids))
    × (2 ≤ leaf_count N → Sliceable N (flag_at flags) → (tables : ℕ → List ℕ → ℤ_semiring.Car)
    → RunsToDirectSum ℤ_semiring N tables (flag_at flags) (pairs_of kids) (listing N (flag_at flags) (pairs_of kids)))
unfolding listing_call
of_listing size N flags kids bytes e =
    let (_, q) = checked_done (length_check (lent size (listing_length N) ∷ []) ∷ []) _ bytes e in
    and_then_lem (price_call N plain_words full_room flags kids) (λ p. Ok (listing_bytes N (flag_at flags) (pairs_of kids))) bytes q λ p x y.
    let (v, _, a) = priced N flags kids plain_words full_room p x in (
      sym (done_same (listing_bytes N (flag_at flags) (pairs_of kids)) bytes y),
      λ two sliceable tables. listing_runs ℤ_semiring N tables (flag_at flags) (pairs_of kids)
          (record { two = two; in_range = ((accepted_means N).0 a).in_range; is_valid = v; sliceable = sliceable }),
    )

sound : (size : ℕ) (file bytes : List ℕ) → host_call size file ≡ Ok bytes → Sound file bytes
unfolding host_call
sound size file bytes e =
    and_then_lem (read_of 254 256 file) (λ c. listing_call size c.network (flag_bytes c.ask) (tree_bytes c.tree)) bytes e λ c x y.
    let (b, r) = of_listing size c.network (flag_bytes c.ask) (tree_bytes c.tree) bytes y in
    record { contents = c; is_read = x; is_listing = b; runs = r }

pub hands_out : (size : ℕ) (file out : List ℕ) {n : ℕ} {after : List ℕ} → Answered (host_call size file) n out after → n ≡ 0 → HandsOut file out after
hands_out size file out {n} {after} (p, q) z = by_result (host_call size file) refl p q
  where
    by_result : (x : Result (List ℕ) Refusal) → host_call size file ≡ x → n ≡ code_of (refusal_in x) → after ≡ host_after x out → HandsOut file out after
    by_result (Err r) e p q = absurd (omega (arith, positive r))
    by_result (Ok bytes) e p q = (bytes, q, sound size file bytes e)
