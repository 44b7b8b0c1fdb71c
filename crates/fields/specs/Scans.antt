-- What a scan stands for. Assumes nothing.
use Rattle.std.specs.Prelude.{List, ℕ, Option, None, Some}
use Rattle.std.proofs.Common.{Bor}
use Rattle.spec.specs.File.{Ask, plain, flagged, target, Contents as Contents_in_file, Reading}
use Rattle.network.specs.Record.{net_of}
use Rattle.network.specs.declared.Network.{Network as Record}
use Rattle.fields.specs.Dues.{due_of}
use Rattle.fields.specs.declared.contents.Asked.{Asked}
use Rattle.fields.specs.declared.contents.Asked.TheVariants.{Plain, Flagged, Target}
use Rattle.fields.specs.declared.contents.Contents.{Contents}
use Rattle.fields.specs.declared.contents.Counts.{Counts}
use Rattle.fields.specs.declared.Scan.{Scan}

-- the tree's children
abbrev pub tree_of : Option (Bor (List ℕ)) → Option (List ℕ)
tree_of None = None
tree_of (Some kids) = Some kids.now

abbrev pub ask_of : Asked → Ask
ask_of Plain = plain
ask_of (Flagged l) = flagged l.now
ask_of (Target w) = target w

-- the record of counts and lists
abbrev pub record_in : Counts → (weights counts legs outputs : List ℕ) → Record
record_in k weights counts legs outputs =
    record { index_count = k.index_count; leaf_count = k.leaf_count; output_count = k.output_count; weights = weights; leg_counts = counts; legs = legs; outputs = outputs }

-- what a file has: its network, which a record stands for, and the rest
abbrev pub contents_of : Contents → Record → Contents_in_file
contents_of c n = record { network = net_of n; tree = tree_of c.tree; ask = ask_of c.ask }

-- what was read so far, and what is due
abbrev pub reading_of : Scan → Record → Reading
reading_of s n = record { due = due_of s.due; read = contents_of s.contents n }
