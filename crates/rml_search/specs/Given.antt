-- What the plain search is given, as a context and the rules of relations.
use Rattle.std.specs.Prelude.{ℕ}
use Rattle.rml_search.specs.declared.tables.Tables.{Tables}
use Rattle.rml_search.specs.Context.{Context}
use Rattle.rml_search.specs.Values.{val_of}
use Rattle.rml_terms.specs.Calling.{RelationCalls}
use Rattle.rml_search.specs.Search.{relations_to}
use Rattle.rml_search.specs.Whole.{rules_of}

abbrev pub context_in : Tables → Context
context_in t = record { names = t.names.now; vals = val_of t.names.now t.vals.now; step_weight = t.step_weight }

-- what relations do where calls go so deep, and are cut beyond
abbrev pub relations_in : Tables → ℕ → RelationCalls
relations_in t depth = relations_to (context_in t) (rules_of t.rels.now) depth
