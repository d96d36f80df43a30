-- A whole program as what is searched: its context, the rules of its relations, and the search of one of them.
use Rattle.std.specs.Prelude.{ℕ, ◌+◌, ◌*◌, List, [], Option, Some, None, slice_get}
use Rattle.rml_simulation.specs.declared.partial.Partial.{Partial}
use Rattle.rml_value.specs.declared.value.Value.{Value}
use Rattle.rml_builtin.specs.declared.applied.Answer.{Answer}
use Rattle.rml_resolved.specs.declared.program.Program.{Program}
use Rattle.rml_resolved.specs.declared.tables.RelDef.{RelDef}
use Rattle.rml_resolved.specs.declared.tables.RRule.{RRule}
use Rattle.rml_resolved.specs.Size.{longest}
use Rattle.rml_search.specs.Context.{Context}
use Rattle.rml_search.specs.Values.{val_of}
use Rattle.rml_search.specs.Search.{Rules, search_in}

-- what a step weighs: by the tokens of the longest rule
abbrev pub weight_by_tokens : ℕ → ℕ
weight_by_tokens tokens = 16 * tokens + 64

abbrev pub context_of : Program → Context
context_of p = record { names = p.names; vals = val_of p.names p.vals; step_weight = weight_by_tokens (longest p.rels) }

abbrev pub rules_in : Option RelDef → List RRule
rules_in None = []
rules_in (Some r) = r.rules

abbrev pub rules_of : List RelDef → Rules
rules_of rels r = rules_in (slice_get rels r)

-- the call of a relation from an empty store
abbrev pub search_of : Program → ℕ → List Value → ℕ → Partial Answer
search_of p = search_in (context_of p) (rules_of p.rels)
