-- What a pattern of clause form matches, and which variables it binds.
use Rattle.std.specs.Prelude.{ℕ, ◌+◌, List, [], ◌∷◌, sum}
use Rattle.std.specs.List.{concat}
use Rattle.rml_value.specs.declared.value.Value.{Value, out-Value}
use Rattle.rml_value.specs.declared.value.Value.TheOpen.{Value-F}
use Rattle.rml_terms.specs.declared.state.Matched.{Matched}
use Rattle.rml_terms.specs.declared.state.Matched.TheVariants.{Yes}
use Rattle.rml_terms.specs.Env.{Env, bind}
use Rattle.rml_terms.specs.Matching.{Matcher, match_int, match_char, match_text, match_con, match_tuple_at, match_list, match_chain}
use Rattle.rml_fol.specs.declared.terms.Literal.{Literal}
use Rattle.rml_fol.specs.declared.terms.Literal.TheVariants as literal
use Rattle.rml_fol.specs.declared.terms.Pattern.{Pattern, fold-Pattern}
use Rattle.rml_fol.specs.declared.terms.Pattern.TheOpen.{Pattern-F}

abbrev pub match_literal : Literal → Value-F Value → Env → Matched
match_literal (literal.Int n) = match_int n
match_literal (literal.Char c) = match_char c
match_literal (literal.Text bytes) = match_text bytes

abbrev pub match_at : Pattern-F Matcher → Matcher
match_at Pattern-F.Any v env = Yes env
match_at (Pattern-F.Lit l) v env = match_literal l (out-Value v) env
match_at (Pattern-F.Var x) v env = Yes (bind x v env)
match_at (Pattern-F.Con c ps) v env = match_con c ps v env
match_at (Pattern-F.Tuple ps) v env = match_tuple_at ps (out-Value v) env
match_at (Pattern-F.List ps) v env = match_list ps v env
match_at (Pattern-F.Cons ps) v env = match_chain ps v env
match_at (Pattern-F.Bind x p) v env = p v (bind x v env)

-- the bindings of the pattern's variables behind those that stood, or that it does not match, or Wrong
abbrev pub matching : Pattern → Matcher
matching = fold-Pattern Matcher match_at

abbrev pub bound_at : Pattern-F (List ℕ) → List ℕ
bound_at Pattern-F.Any = []
bound_at (Pattern-F.Lit l) = []
bound_at (Pattern-F.Var x) = x ∷ []
bound_at (Pattern-F.Con c xs) = concat xs
bound_at (Pattern-F.Tuple xs) = concat xs
bound_at (Pattern-F.List xs) = concat xs
bound_at (Pattern-F.Cons xs) = concat xs
bound_at (Pattern-F.Bind x xs) = x ∷ xs

-- the variables that a pattern binds, in the order in which it does
abbrev pub bound : Pattern → List ℕ
bound = fold-Pattern (List ℕ) bound_at

abbrev pub binds_at : Pattern-F ℕ → ℕ
binds_at Pattern-F.Any = 0
binds_at (Pattern-F.Lit l) = 0
binds_at (Pattern-F.Var x) = 1
binds_at (Pattern-F.Con c ns) = sum ns
binds_at (Pattern-F.Tuple ns) = sum ns
binds_at (Pattern-F.List ns) = sum ns
binds_at (Pattern-F.Cons ns) = sum ns
binds_at (Pattern-F.Bind x n) = 1 + n

-- how many variables a pattern binds
abbrev pub binds : Pattern → ℕ
binds = fold-Pattern ℕ binds_at
