-- What the parts that are handed to the writer stand for. Assumes nothing.
use Rattle.std.specs.Prelude.{List, ◌++◌, ℕ, Option, None, Some}
use Rattle.std.proofs.Common.{Bor}
use Rattle.spec.specs.Network.{Network}
use Rattle.spec.specs.Layout.{network_of}
use Rattle.spec.specs.File.{Contents, field, leaf_fields}
use Rattle.network.specs.Views.{net_in}
use Rattle.fields.specs.Scans.{ask_of}
use Rattle.fields.specs.declared.contents.Asked.{Asked}
use Rattle.netwrite.specs.declared.parts.Parts.{Parts}

-- the tree's children
abbrev pub kids_of : Option (Bor (List ℕ)) → Option (List ℕ)
kids_of None = None
kids_of (Some kids) = Some kids.now

abbrev pub parts_of : Parts → Contents
parts_of p = record { network = net_in p.network; tree = kids_of p.tree; ask = ask_of p.ask }

-- the network of lists, a tree's children, and what is asked
abbrev pub contents_of : (m n o : ℕ) (weights counts cells outputs : List ℕ) → Option (Bor (List ℕ)) → Asked → Contents
contents_of m n o weights counts cells outputs tree ask = record { network = network_of m n o weights counts cells outputs; tree = kids_of tree; ask = ask_of ask }

-- the fields of a network
unfoldable pub network_fields : Network → List ℕ
network_fields N = field 1 N.weights ++ (leaf_fields N.leaves ++ field 3 N.outputs)
