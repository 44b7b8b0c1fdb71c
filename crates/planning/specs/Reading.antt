-- From what the reader answers to the plan. Assumes nothing.
use Rattle.std.specs.Prelude.{◌≡◌, refl, true, List, [], ◌∷◌, ℕ, zero, suc, ◌≤◌, ◌<◌, length, get_or, take, drop, replicate, Option, None, Some, Result, Err, Ok}
use Rattle.std.proofs.Common.{sym, ap, ap₂, ◌∙◌, subst, arith, take_at, get_or-take, length-take-le, ext_get_or}
use Rattle.spec.specs.declared.Refusal.{Refusal}
use Rattle.spec.specs.Members.{All}
use Rattle.spec.specs.Network.{Network, leaf_count, index_count, accepted}
use Rattle.spec.specs.Calls.{tree_places}
use Rattle.spec.specs.File.{Ask, plain, flagged, target, Contents, read_of}
use Rattle.spec.specs.FileClaims.{Bytes, LawfulTree, LawfulAsk, TreeLeft, FlagsLeft}
use Rattle.spec.specs.Program.{flags_of, program}
use Rattle.spec.specs.Output.{program_on}
use Rattle.laws.specs.Accepted.{accepted_means}
use Rattle.laws.specs.FileReads.{reads_just}
use Rattle.laws.specs.FileLists.{fills_lists, valid_length}
use Rattle.laws.specs.SliceCallLaws.{byte_back}
use Rattle.laws.specs.FileBytes.{all_bytes}
use Rattle.network.specs.Record.{net_of}
use Rattle.network.specs.declared.Network.{Network as Record}
use Rattle.netfile.specs.Answers.{flag_count, places_in, ask_answer, given_in, given_of, network_in, tree_after, flags_after}
use Rattle.netfile.specs.Writer.{ask_handed}
use Rattle.netfile.specs.declared.Given.{Given}
use Rattle.planning.specs.Stages.{FlagsHeld, given_tree, FoundIn}

-- ---- the tree ----

tree_given : (N : Network) (t : Option (List ℕ)) (l kids : List ℕ) → LawfulTree N t → TreeLeft t l kids → given_tree (places_in t) (take (tree_places N) kids) ≡ t
tree_given N None l kids h e = refl
tree_given N (Some k) l kids (e, v) q =
    let n : length k ≡ tree_places N = omega (arith, valid_length (leaf_count N) k e v) in
    ap Some (ap (take (tree_places N)) q ∙ take_at k (drop (length k) l) (tree_places N) n)

-- ---- the flags ----

low_at : (l : List ℕ) → All (λ b. b ≤ 1) l → (j : ℕ) → get_or l j 0 ≤ 1
low_at [] h j = omega arith
low_at (x ∷ l) h zero = h.0
low_at (x ∷ l) h (suc j) = low_at l h.1 j

module _ (N : Network) (l flags : List ℕ) (clear : (j : ℕ) → get_or l j 0 ≡ 0) (long : index_count N ≤ length l) where
  front : (f : List ℕ) → length f ≤ index_count N → length flags ≡ length l → ((j : ℕ) → j < index_count N → get_or flags j 0 ≡ get_or f j 0)
      → take (length f) flags ≡ f
  front f h s b =
      ext_get_or 0 (take (length f) flags) f (length-take-le (length f) flags (omega arith))
      (λ j q. let r : j < length f = omega (arith, length-take-le (length f) flags (omega arith)) in get_or-take (length f) flags j 0 r ∙ b j (omega arith))

  ask_given : (a : Ask) → LawfulAsk N a → FlagsLeft (index_count N) a l flags
      → (ask_handed (ask_answer a) flags ≡ a) × FlagsHeld N (flags_of a) flags × (flag_count (ask_answer a) ≤ index_count N)
  ask_given plain h e = (refl, (λ j b. ap (λ (x : List ℕ). get_or x j 0) e ∙ clear j), omega arith)
  ask_given (target w) h e = (refl, (λ j b. ap (λ (x : List ℕ). get_or x j 0) e ∙ clear j), omega arith)
  ask_given (flagged f) (h, low) s = (
    ap flagged (front f h s.length s.byte),
    (λ j b. s.byte j b ∙ byte_back (get_or f j 0) (low_at f low j)),
    h,
  )

-- ---- the whole ----

-- after an answer: the network is accepted, and what is left is to plan
pub record Whole (file : List ℕ) (f : Given) (R : Record) (kids flags : List ℕ) : Type 0 where
  pub ok : accepted (net_of R) ≡ true
  pub flags_held : FlagsHeld (net_of R) (flags_of (ask_handed f.ask flags)) flags
  pub few_flags : flag_count f.ask ≤ index_count (net_of R)
  pub rest : program_on file
      ≡ program (net_of R) (given_tree f.tree (take (tree_places (net_of R)) kids)) (ask_handed f.ask flags)

pub found_in : {file : List ℕ} {f : Given} {R : Record} {kids flags : List ℕ} → Whole file f R kids flags → length kids ≡ 254 → length flags ≡ 256
    → FoundIn (net_of R) f kids flags
found_in w h k = record { ok = w.ok; flags_held = w.flags_held; few_flags = w.few_flags; tree_room = h; flag_room = k }

pub zeros : (n j : ℕ) → ◌≡◌ {A = ℕ} (get_or (replicate n 0) j 0) 0
zeros zero j = refl
zeros (suc n) zero = refl
zeros (suc n) (suc j) = zeros n j

on_done : (file : List ℕ) (c : Contents) → read_of 254 256 file ≡ Ok c → program_on file ≡ program c.network c.tree c.ask
unfolding program_on
on_done file c e = rw e

on_refused : (file : List ℕ) (r : Refusal) → read_of 254 256 file ≡ Err r → program_on file ≡ Err r
unfolding program_on
on_refused file r e = rw e

-- the lists that were lent: 254 places for a tree, and 256 clear flags
module _ (file a b : List ℕ) (h : length a ≡ 254) (k : length b ≡ 256) (clear : (j : ℕ) → get_or b j 0 ≡ 0) where
  same_read : read_of (length a) (length b) file ≡ read_of 254 256 file
  same_read = cc

  refused_cases : (x : Result Contents Refusal) {k : Refusal} → x ≡ read_of 254 256 file → Err k ≡ given_of x → program_on file ≡ Err k
  refused_cases (Err r) {k} e q = let w : k ≡ r = cc in on_refused file r (sym e) ∙ ap Err (sym w)
  refused_cases (Ok c) e q = absurd (let w : ◌≡◌ {A = ℕ} 0 1 = cc in omega arith)

  done_cases : (x : Result Contents Refusal) {f : Given} {R : Record} {kids flags : List ℕ} → x ≡ read_of (length a) (length b) file → ((i : ℕ) → get_or file i 0 < 256)
      → Ok f ≡ given_of x → net_of R ≡ network_in x → kids ≡ tree_after x a → flags ≡ flags_after x b → Whole file f R kids flags
  done_cases (Err r) e bytes q n s t = absurd (let w : ◌≡◌ {A = ℕ} 0 1 = cc in omega arith)
  done_cases (Ok c) {f} {R} {kids} {flags} e bytes q n s t =
      let found : f ≡ given_in c.tree c.ask = cc in
      let d : Bytes file = all_bytes file (λ i _. bytes i) in
      let (lawful, _, _) = (reads_just (length a) (length b) file c d).0 (sym e) in
      let (left, set) = fills_lists a b file c d (sym e) in
      let small : index_count c.network ≤ 256 = ((accepted_means c.network).0 lawful.network).few_indices in
      let given : given_tree (places_in c.tree) (take (tree_places c.network) kids) ≡ c.tree =
      tree_given c.network c.tree a kids lawful.tree (subst (TreeLeft c.tree a) (sym s) left) in
      let (asked, held, few) =
      ask_given c.network b flags clear (omega arith) c.ask lawful.ask (subst (FlagsLeft (index_count c.network) c.ask b) (sym t) set) in
      subst (λ (y : Given). Whole file y R kids flags) (sym found) (of_parts c R kids flags (sym n) lawful.network (sym same_read ∙ sym e) given asked held few)
    where
      of_parts : (c : Contents) (R : Record) (kids flags : List ℕ) → c.network ≡ net_of R → accepted c.network ≡ true → read_of 254 256 file ≡ Ok c
          → given_tree (places_in c.tree) (take (tree_places c.network) kids) ≡ c.tree → ask_handed (ask_answer c.ask) flags ≡ c.ask
          → FlagsHeld c.network (flags_of c.ask) flags → flag_count (ask_answer c.ask) ≤ index_count c.network
          → Whole file (given_in c.tree c.ask) R kids flags
      of_parts c R kids flags n ok e given asked held few =
          record {
            ok = subst (λ (N : Network). accepted N ≡ true) n ok;
            flags_held =
                subst (λ (x : Ask). FlagsHeld (net_of R) (flags_of x) flags) (sym asked)
                (subst (λ (N : Network). FlagsHeld N (flags_of c.ask) flags) n held);
            few_flags = subst (λ (N : Network). flag_count (ask_answer c.ask) ≤ index_count N) n few;
            rest = on_done file c e
                ∙ ap₂ (program c.network) (sym given) (sym asked)
                ∙ ap (λ (N : Network). program N (given_tree (places_in c.tree) (take (tree_places N) kids)) (ask_handed (ask_answer c.ask) flags)) n;
          }

  -- the reader's answer, a refusal or what is found
  pub read_refused : {k : Refusal} → Err k ≡ given_of (read_of (length a) (length b) file) → program_on file ≡ Err k
  read_refused = refused_cases (read_of (length a) (length b) file) same_read

  pub read_done : {f : Given} {R : Record} {kids flags : List ℕ} → ((i : ℕ) → get_or file i 0 < 256)
      → Ok f ≡ given_of (read_of (length a) (length b) file) → net_of R ≡ network_in (read_of (length a) (length b) file)
      → kids ≡ tree_after (read_of (length a) (length b) file) a → flags ≡ flags_after (read_of (length a) (length b) file) b → Whole file f R kids flags
  read_done = done_cases (read_of (length a) (length b) file) refl
