-- A pattern of a rule against a value: the bindings of its variables, or that it does not match, or that the value is of a kind for
-- which the pattern cannot stand.
use Rattle.std.specs.Prelude.{ℕ, List, map, Option, Some, None, slice_get}
use Rattle.rml_syntax.specs.declared.token.Lit.{Lit}
use Rattle.rml_syntax.specs.declared.token.Lit.TheVariants as lit
use Rattle.rml_value.specs.declared.value.Value.{Value, out-Value}
use Rattle.rml_value.specs.declared.value.Value.TheOpen.{Value-F}
use Rattle.rml_terms.specs.declared.state.Matched.{Matched}
use Rattle.rml_terms.specs.declared.state.Matched.TheVariants.{Yes, Wrong}
use Rattle.rml_terms.specs.Env.{Env, bind}
use Rattle.rml_terms.specs.Matching.{Matcher, match_all, match_int, match_char, match_text, match_con, match_tuple_at, match_list, match_chain}
use Rattle.rml_resolved.specs.declared.trees.RPat.{RPat, fold-RPat}
use Rattle.rml_resolved.specs.declared.trees.RPat.TheOpen.{RPat-F}

-- a text literal is a number, under which its bytes stand among the names
abbrev pub match_named : Option (List ℕ) → Value-F Value → Env → Matched
match_named None v env = Wrong
match_named (Some bytes) v env = match_text bytes v env

abbrev pub match_lit : List (List ℕ) → Lit → Value-F Value → Env → Matched
match_lit names (lit.Int n) v env = match_int n v env
match_lit names (lit.Char c) v env = match_char c v env
match_lit names (lit.Text k) v env = match_named (slice_get names k) v env

abbrev pub match_at : List (List ℕ) → RPat-F Matcher → Matcher
match_at names RPat-F.Any v env = Yes env
match_at names (RPat-F.Lit l) v env = match_lit names l (out-Value v) env
match_at names (RPat-F.Var x) v env = Yes (bind x v env)
match_at names (RPat-F.Con c ps) v env = match_con c ps v env
match_at names (RPat-F.Tuple ps) v env = match_tuple_at ps (out-Value v) env
match_at names (RPat-F.List ps) v env = match_list ps v env
match_at names (RPat-F.Cons ps) v env = match_chain ps v env
match_at names (RPat-F.Bind x p) v env = p v (bind x v env)

abbrev pub matching : List (List ℕ) → RPat → Matcher
matching names = fold-RPat Matcher (match_at names)

-- patterns against as many values, from left to right
abbrev pub matching_all : List (List ℕ) → List RPat → List Value → Env → Matched
matching_all names ps vs env = match_all (map (matching names) ps) vs env
