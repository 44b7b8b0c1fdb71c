use borrow.Author.Rules.{rules}
use Rattle.netfile.specs.Results.{read_refused, read_lacking, read_done, flags_have, given_refused, tree_kept, flags_kept, given_done, network_done, tree_done, flags_done}
use Rattle.netfile.specs.Writes.{flags_fit}
use Rattle.fields.specs.Scans.{contents_of, ask_of}
use Rattle.fields.specs.Fields.{indices}
use Rattle.std.proofs.Common.{Err, Ok}
use mathlib.Core.Path.{◌≡◌, sym, ap, ◌∙◌}
use lib.ListN.{length}
use Rattle.netfile.proofs.reader.read.Goals as goal

pub returns-in_err-contents-clause-answer : goal.returns-in_err-contents-clause-answer
returns-in_err-contents-clause-answer c = let k = c.in_err-contents.field-0.0 in
    let e : c.from_residual.result ≡ Err k = search rules in
    e ∙ given_refused _ k (read_refused (length c.args.tree.now) (length c.args.flags.now) c.args.file.now k c.in_err-contents.ensures)

pub returns-in_err-contents-clause-tree : goal.returns-in_err-contents-clause-tree
returns-in_err-contents-clause-tree c = let k = c.in_err-contents.field-0.0 in
    tree_kept _ k (read_refused (length c.args.tree.now) (length c.args.flags.now) c.args.file.now k c.in_err-contents.ensures) c.args.tree.now

pub returns-in_err-contents-clause-flags : goal.returns-in_err-contents-clause-flags
returns-in_err-contents-clause-flags c = let k = c.in_err-contents.field-0.0 in
    flags_kept _ k (read_refused (length c.args.tree.now) (length c.args.flags.now) c.args.file.now k c.in_err-contents.ensures) c.args.flags.now

pub returns-in_err-check_room-clause-answer : goal.returns-in_err-check_room-clause-answer
returns-in_err-check_room-clause-answer c = let k = c.in_err-check_room.field-0.0 in
    let e : c.from_residual-in_err-check_room.result ≡ Err k = search rules in
    e ∙ given_refused _ k (read_lacking (length c.args.tree.now) (length c.args.flags.now) c.args.file.now (contents_of c.in_ok-contents.contents c.read_network.new.network) c.in_ok-contents.ensures.0 k (sym c.in_err-check_room.was ∙ c.check_room.ensures))

pub returns-in_err-check_room-clause-tree : goal.returns-in_err-check_room-clause-tree
returns-in_err-check_room-clause-tree c = let k = c.in_err-check_room.field-0.0 in
    tree_kept _ k (read_lacking (length c.args.tree.now) (length c.args.flags.now) c.args.file.now (contents_of c.in_ok-contents.contents c.read_network.new.network) c.in_ok-contents.ensures.0 k (sym c.in_err-check_room.was ∙ c.check_room.ensures)) c.args.tree.now

pub returns-in_err-check_room-clause-flags : goal.returns-in_err-check_room-clause-flags
returns-in_err-check_room-clause-flags c = let k = c.in_err-check_room.field-0.0 in
    flags_kept _ k (read_lacking (length c.args.tree.now) (length c.args.flags.now) c.args.file.now (contents_of c.in_ok-contents.contents c.read_network.new.network) c.in_ok-contents.ensures.0 k (sym c.in_err-check_room.was ∙ c.check_room.ensures)) c.args.flags.now

pub put_flags-requires : goal.put_flags-requires
put_flags-requires c = let n = c.read_network.new.network in
    flags_fit n (ask_of c.in_ok-contents.contents.ask) (length c.args.flags.now) (flags_have (length c.args.tree.now) (length c.args.flags.now) (contents_of c.in_ok-contents.contents n) (sym c.in_ok-check_room.was ∙ c.check_room.ensures))

pub returns-clause-answer : goal.returns-clause-answer
returns-clause-answer c = let d = contents_of c.in_ok-contents.contents c.read_network.new.network in
    ap Ok c.given.ensures ∙ given_done _ d (read_done (length c.args.tree.now) (length c.args.flags.now) c.args.file.now d c.in_ok-contents.ensures.0 (sym c.in_ok-check_room.was ∙ c.check_room.ensures))

pub returns-clause-network : goal.returns-clause-network
returns-clause-network c = let d = contents_of c.in_ok-contents.contents c.read_network.new.network in
    network_done _ d (read_done (length c.args.tree.now) (length c.args.flags.now) c.args.file.now d c.in_ok-contents.ensures.0 (sym c.in_ok-check_room.was ∙ c.check_room.ensures))

pub returns-clause-tree : goal.returns-clause-tree
returns-clause-tree c = let d = contents_of c.in_ok-contents.contents c.read_network.new.network in
    tree_done _ d (read_done (length c.args.tree.now) (length c.args.flags.now) c.args.file.now d c.in_ok-contents.ensures.0 (sym c.in_ok-check_room.was ∙ c.check_room.ensures)) c.args.tree.now _ c.put_tree.ensures

pub returns-clause-flags : goal.returns-clause-flags
returns-clause-flags c = let n = c.read_network.new.network in
    let d = contents_of c.in_ok-contents.contents n in
    flags_done _ d (read_done (length c.args.tree.now) (length c.args.flags.now) c.args.file.now d c.in_ok-contents.ensures.0 (sym c.in_ok-check_room.was ∙ c.check_room.ensures)) n.index_count c.args.flags.now _ (indices n) c.put_flags.ensures
