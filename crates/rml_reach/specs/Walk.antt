-- What contracts see of the search's own struct.
use Rattle.rml_reach.specs.Components.{Way}
use Rattle.rml_reach.specs.declared.connected.Walk.{Walk}

abbrev pub way_of : Walk → Way
way_of w = record { marks = w.marks.items; nodes = w.nodes.items; waiting = w.waiting.items; parts = w.parts.items }
