-- Whole files: exactly the format is read, and 7 comes only of lists that are too short. Assumes nothing.
use Rattle.std.specs.Prelude.{◌≡◌, Bool, false, List, [], ◌∷◌, ◌++◌, ℕ, ◌≤◌, ltb, Option, None, Some, Err, Ok}
use Rattle.std.proofs.Common.{sym, ap, ◌∙◌, arith, ltb-false, le-ltb}
use Rattle.std.proofs.Math.Path.{subst}
use Rattle.spec.specs.declared.Refusal.TheVariants.{ShortBuffer}
use Rattle.spec.specs.Members.{All}
use Rattle.spec.specs.Network.{Network, index_count, max_indices}
use Rattle.spec.specs.Calls.{Lent}
use Rattle.spec.specs.File.{Ask, plain, flagged, target, Contents, file_of, nothing_read, tree_lent, flags_lent, read_of}
use Rattle.spec.specs.FileClaims.{Lawful, RoomForTree, RoomForFlags, Room, WrittenThenRead, ReadsJust, AcceptsFormat, NoRoom, OneMeaning, read_from}
use Rattle.laws.specs.Booleans.{by_cases, clash}
use Rattle.laws.specs.MemberLaws.{all_append, all_parts}
use Rattle.laws.specs.Results.{done_same, and_then_lem, checked_done}
use Rattle.laws.specs.FileDecisions.{room_check, refusal_cases, fields_no_7}
use Rattle.laws.specs.FileFields.{any_none, none_any, accepted_parts}
use Rattle.laws.specs.FileFormat.{read_back, is_file}

-- ---- room in the lists ----

abbrev too_few : Lent → Bool
too_few x = ltb x.has x.needs

abbrev Fits : List Lent → Type 0
Fits l = All (λ x. too_few x ≡ false) l

tree_fits : (N : Network) (places : ℕ) (t : Option (List ℕ)) → RoomForTree N places t → Fits (tree_lent N places t)
tree_fits N places None h = tt
tree_fits N places (Some kids) h = (le-ltb _ _ h, tt)

fits_tree : (N : Network) (places : ℕ) (t : Option (List ℕ)) → Fits (tree_lent N places t) → RoomForTree N places t
fits_tree N places None h = tt
fits_tree N places (Some kids) h = ltb-false _ _ h.0

flags_fit : (N : Network) (places : ℕ) (a : Ask) → RoomForFlags N places a → Fits (flags_lent N places a)
flags_fit N places plain h = tt
flags_fit N places (flagged l) h = (le-ltb _ _ h, tt)
flags_fit N places (target w) h = tt

fit_flags : (N : Network) (places : ℕ) (a : Ask) → Fits (flags_lent N places a) → RoomForFlags N places a
fit_flags N places plain h = tt
fit_flags N places (flagged l) h = ltb-false _ _ h.0
fit_flags N places (target w) h = tt

module _ (places flag_places : ℕ) (c : Contents) where
  abbrev for_tree : List Lent
  for_tree = tree_lent c.network places c.tree

  abbrev for_flags : List Lent
  for_flags = flags_lent c.network flag_places c.ask

  room_passes : Room places flag_places c → (room_check places flag_places c).holds ≡ false
  room_passes (t, f) =
      none_any too_few (for_tree ++ for_flags)
      (all_append (λ x. too_few x ≡ false) for_tree for_flags (tree_fits c.network places c.tree t) (flags_fit c.network flag_places c.ask f))

  passes_room : (room_check places flag_places c).holds ≡ false → Room places flag_places c
  passes_room e =
      let (t, f) = all_parts (λ x. too_few x ≡ false) for_tree for_flags (any_none too_few (for_tree ++ for_flags) e) in
      (fits_tree c.network places c.tree t, fit_flags c.network flag_places c.ask f)

-- ---- reading ----

module _ (places flag_places : ℕ) (file : List ℕ) where
  read_whole : (c : Contents) → read_from nothing_read file ≡ Ok c → Room places flag_places c → read_of places flag_places file ≡ Ok c
  unfolding read_of
  read_whole c e h = rw (e, room_passes places flag_places c h)

  whole_read : (c : Contents) → read_of places flag_places file ≡ Ok c → (read_from nothing_read file ≡ Ok c) × Room places flag_places c
  unfolding read_of
  whole_read c e =
      and_then_lem (read_from nothing_read file) _ c e λ d x y.
      let (f, z) = checked_done (room_check places flag_places d ∷ []) (Ok d) c y in
      let q : d ≡ c = done_same d c z in
      (x ∙ z, subst (Room places flag_places) q (passes_room places flag_places d f.0))

  read_no_room : (c : Contents) → read_from nothing_read file ≡ Ok c → (Room places flag_places c → ⊥) → read_of places flag_places file ≡ Err ShortBuffer
  unfolding read_of
  read_no_room c e h =
      by_cases (room_check places flag_places c).holds
      (λ s. rw (e, s))
      (λ s. absurd (h (passes_room places flag_places c s)))

pub written_then_read : WrittenThenRead
written_then_read places flag_places c l h = read_whole places flag_places (file_of c) c (read_back c l) h

pub reads_just : ReadsJust
reads_just places flag_places file c k = (
  (λ e. let (x, h) = whole_read places flag_places file c e in
      let (l, q) = is_file file c k x in
      (l, h, sym q)),
  (λ (l, h, q). read_whole places flag_places file c (ap (read_from nothing_read) q ∙ read_back c l) h),
)

pub one_meaning : OneMeaning
one_meaning c d h k e = done_same c d (sym (read_back c h) ∙ ap (read_from nothing_read) e ∙ read_back d k)

pub no_room : NoRoom
no_room places flag_places file k = (
  (λ e. refusal_cases places flag_places file ShortBuffer e
      (λ q. absurd (fields_no_7 file q))
      (λ c q s _. let (l, z) = is_file file c k q in (c, l, sym z, λ h. clash s (room_passes places flag_places c h)))),
  (λ (c, l, q, h). read_no_room places flag_places file c (ap (read_from nothing_read) q ∙ read_back c l) h),
)

-- every network's tree and flags have room
pub room_for_all : (places flag_places : ℕ) (c : Contents) → Lawful c → 254 ≤ places → 256 ≤ flag_places → Room places flag_places c
room_for_all places flag_places c l h k = (tree c.tree, flags c.ask)
  where
    tree : (t : Option (List ℕ)) → RoomForTree c.network places t
    tree None = tt
    tree (Some kids) = omega (arith, (accepted_parts c.network l.network).0.few)

    flags : (a : Ask) → RoomForFlags c.network flag_places a
    flags plain = tt
    flags (flagged f) = omega (arith, ltb-false max_indices (index_count c.network) (accepted_parts c.network l.network).0.weights.0)
    flags (target w) = tt

pub accepts_format : AcceptsFormat
accepts_format places flag_places file h k b = (
  (λ (c, e). let (l, r, q) = (reads_just places flag_places file c b).0 e in (c, l, q)),
  (λ (c, l, q). (c, (reads_just places flag_places file c b).1 (l, room_for_all places flag_places c l h k, q))),
)
