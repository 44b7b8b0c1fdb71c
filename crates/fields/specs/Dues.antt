-- What is due, as the definitions name it. Assumes nothing.
use Rattle.spec.specs.File.{Due as Due_in_file, weights_due, leaves_due, tree_due, ask_due, end_due}
use Rattle.fields.specs.declared.due.Due.{Due}
use Rattle.fields.specs.declared.due.Due.TheVariants.{Weights, Leaves, Tree, Ask, End}

abbrev pub due_of : Due → Due_in_file
due_of Weights = weights_due
due_of Leaves = leaves_due
due_of Tree = tree_due
due_of Ask = ask_due
due_of End = end_due
