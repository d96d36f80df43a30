use Rattle.rml_reading.proofs.Graphs.{read_links_graph}
use Rattle.rml_reading.proofs.reading.known_of.Goals as goal

pub components-requires : goal.components-requires
components-requires c =
    record { graph = read_links_graph c.args.names.now c.args.files.now c.args.texts.now _ _ _ c.requires.files c.requires.few c.in_ok-targets.ensures c.in_ok-links.ensures c.as_slice.ensures }

pub outlines-requires-clause-graph : goal.outlines-requires-clause-graph
outlines-requires-clause-graph c =
    read_links_graph c.args.names.now c.args.files.now c.args.texts.now _ _ _ c.requires.files c.requires.few c.in_ok-targets.ensures c.in_ok-links.ensures c.as_slice-2.ensures
