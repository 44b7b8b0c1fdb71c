-- From what the reader answers to the answer of a file. Assumes nothing.
use Rattle.std.specs.Prelude.{◌≡◌, refl, List, ◌++◌, ℕ, ◌-◌, ◌≤◌, ◌<◌, length, get_or, take, drop, Option, None, Some, Result, Err, Ok, unwrap_or}
use Rattle.std.proofs.Common.{sym, ap, ap₂, ◌∙◌, subst, arith, length-append, take_at}
use Rattle.spec.specs.declared.Refusal.{Refusal}
use Rattle.std.proofs.lemmas.List.{take-append-le}
use Rattle.spec.specs.Memory.{filled}
use Rattle.spec.specs.Network.{Network, leaf_count, index_count}
use Rattle.spec.specs.File.{Ask, plain, flagged, target, Contents, flag_bytes, tree_bytes, tree_written, flags_written, read_of}
use Rattle.spec.specs.FileClaims.{LawfulTree, LawfulAsk, RoomForTree, RoomForFlags}
use Rattle.spec.specs.Host.{listing_call, host_call}
use Rattle.laws.specs.FileReads.{reads_just}
use Rattle.laws.specs.FileFields.{accepted_parts}
use Rattle.laws.specs.FileLists.{placed_front, valid_length}
use Rattle.laws.specs.FileBytes.{all_bytes}
use Rattle.cells.specs.Cells.{filled_length}
use Rattle.network.specs.Layouts.{leaf_count_lem}
use Rattle.network.specs.Record.{net_of}
use Rattle.network.specs.declared.Network.{Network as Record}
use Rattle.netfile.specs.Answers.{flag_count, places_in, ask_answer, given_in, given_of, network_in, tree_after, flags_after}
use Rattle.netfile.specs.declared.Given.{Given}
use Rattle.listing.specs.Listing.{Tells, tells_refused}

-- ---- how many places of the lists a file fills with its own tree and flags ----

places_are : (t : Option (List ℕ)) → unwrap_or (places_in t) 0 ≡ length (tree_bytes t)
places_are None = refl
places_are (Some kids) = refl

count_is : (a : Ask) → flag_count (ask_answer a) ≡ length (flag_bytes a)
count_is plain = refl
count_is (flagged l) = refl
count_is (target w) = refl

-- what stands there afterwards
abbrev contents : Network → Option (List ℕ) → Ask → Contents
contents N t a = record { network = N; tree = t; ask = a }

tree_part : (N : Network) (t : Option (List ℕ)) (a : Ask) (l : List ℕ) → LawfulTree N t → RoomForTree N (length l) t
    → (length (tree_bytes t) ≤ length l) × (take (length (tree_bytes t)) (tree_written (contents N t a) l) ≡ tree_bytes t)
tree_part N None a l h r = (omega arith, refl)
tree_part N (Some kids) a l (e, v) r =
    let q : length kids ≤ length l = omega (arith, valid_length (leaf_count N) kids e v) in
    (q, ap (take (length kids)) (placed_front l kids q) ∙ take_at kids (drop (length kids) l) (length kids) refl)

flags_part : (N : Network) (t : Option (List ℕ)) (a : Ask) (l : List ℕ) → LawfulAsk N a → RoomForFlags N (length l) a
    → (length (flag_bytes a) ≤ length l) × (take (length (flag_bytes a)) (flags_written (contents N t a) l) ≡ flag_bytes a)
flags_part N t plain l h r = (omega arith, refl)
flags_part N t (target w) l h r = (omega arith, refl)
flags_part N t (flagged f) l (h, b) r =
    let g : List ℕ = filled (index_count N - length f) 0 in
    let k : length (f ++ g) ≤ length l = omega (arith, length-append f g, filled_length {A = ℕ} (index_count N - length f) 0) in (
      omega arith,
      ap (take (length f)) (placed_front l (f ++ g) k)
          ∙ take-append-le (length f) (f ++ g) (drop (length (f ++ g)) l) (omega (arith, length-append f g))
          ∙ take_at f g (length f) refl,
    )

-- ---- the answer ----

-- after an answer: the network is small, the lists have their places, and what is left is to price
pub record Whole (file : List ℕ) (f : Given) (R : Record) (kids flags : List ℕ) : Type 0 where
  pub few : R.leaf_count ≤ 128
  pub tree_room : unwrap_or f.tree 0 ≤ 254
  pub flag_room : flag_count f.ask ≤ 256
  pub rest : (size : ℕ) → host_call size file ≡ listing_call size (net_of R) (take (flag_count f.ask) flags) (take (unwrap_or f.tree 0) kids)

host_done : (size : ℕ) (file : List ℕ) (c : Contents) → read_of 254 256 file ≡ Ok c
    → host_call size file ≡ listing_call size c.network (flag_bytes c.ask) (tree_bytes c.tree)
unfolding host_call
host_done size file c e = rw e

host_refused : (size : ℕ) (file : List ℕ) (r : Refusal) → read_of 254 256 file ≡ Err r → host_call size file ≡ Err r
unfolding host_call
host_refused size file r e = rw e

module _ (file a b : List ℕ) (h : length a ≡ 254) (k : length b ≡ 256) where
  same_read : read_of (length a) (length b) file ≡ read_of 254 256 file
  same_read = cc

  refused_cases : (x : Result Contents Refusal) {r : Refusal} → x ≡ read_of 254 256 file → Err r ≡ given_of x → (size : ℕ) (out : List ℕ)
      → Tells (host_call size file) (Err r) out out
  refused_cases (Err k) {r} e q size out = let w : k ≡ r = cc in tells_refused r out (host_refused size file r (sym e ∙ ap Err w))
  refused_cases (Ok c) e q size out = absurd (let w : ◌≡◌ {A = ℕ} 0 1 = cc in omega arith)

  done_cases : (x : Result Contents Refusal) {f : Given} {R : Record} {kids flags : List ℕ} → x ≡ read_of 254 256 file → ((i : ℕ) → get_or file i 0 < 256)
      → Ok f ≡ given_of x → net_of R ≡ network_in x → kids ≡ tree_after x a → flags ≡ flags_after x b → Whole file f R kids flags
  done_cases (Err r) e bytes q n s t = absurd (let w : ◌≡◌ {A = ℕ} 0 1 = cc in omega arith)
  done_cases (Ok c) {f} {R} {kids} {flags} e bytes q n s t =
      let found : f ≡ given_in c.tree c.ask = cc in
      let (lawful, (r, u), _) = (reads_just 254 256 file c (all_bytes file (λ i _. bytes i))).0 (sym e) in
      let (i, x) = tree_part c.network c.tree c.ask a lawful.tree (subst (λ p. RoomForTree c.network p c.tree) (sym h) r) in
      let (j, y) = flags_part c.network c.tree c.ask b lawful.ask (subst (λ p. RoomForFlags c.network p c.ask) (sym k) u) in
      let places : unwrap_or f.tree 0 ≡ length (tree_bytes c.tree) = ap (λ z. unwrap_or z.tree 0) found ∙ places_are c.tree in
      let count : flag_count f.ask ≡ length (flag_bytes c.ask) = ap (λ z. flag_count z.ask) found ∙ count_is c.ask in
      record {
        few = omega (arith, leaf_count_lem R, ap leaf_count n, (accepted_parts c.network lawful.network).0.few);
        tree_room = omega arith;
        flag_room = omega arith;
        rest = λ size. host_done size file c (sym e)
            ∙ sym (ap₂ (λ N l. listing_call size N l (take (unwrap_or f.tree 0) kids)) n (ap₂ take count t ∙ y)
            ∙ ap (listing_call size c.network (flag_bytes c.ask)) (ap₂ take places s ∙ x));
      }

  -- the reader's answer, a refusal or what is found
  pub read_refused : {r : Refusal} → Err r ≡ given_of (read_of (length a) (length b) file) → (size : ℕ) (out : List ℕ) → Tells (host_call size file) (Err r) out out
  read_refused = refused_cases (read_of (length a) (length b) file) same_read

  pub read_done : {f : Given} {R : Record} {kids flags : List ℕ} → ((i : ℕ) → get_or file i 0 < 256)
      → Ok f ≡ given_of (read_of (length a) (length b) file) → net_of R ≡ network_in (read_of (length a) (length b) file)
      → kids ≡ tree_after (read_of (length a) (length b) file) a → flags ≡ flags_after (read_of (length a) (length b) file) b → Whole file f R kids flags
  read_done = done_cases (read_of (length a) (length b) file) same_read
