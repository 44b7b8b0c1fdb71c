-- The hypergraph that stands in lent words. Assumes nothing.
use Rattle.spec.specs.Hypergraph.{Hypergraph}
use Rattle.partition.specs.Layout.{graph_in}
use Rattle.matching.specs.declared.graph.Graph.{Graph}

abbrev pub graph_of : Graph → Hypergraph
graph_of g = graph_in g.words.now g.layout.nets g.layout.net_weights.now g.layout.net_count g.layout.vertex_weights.now
