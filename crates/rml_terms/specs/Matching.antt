-- What matches a value, put together from what matches its parts: the bindings of variables, or that it does not match, or that
-- the value is of a kind for which the pattern cannot stand.
use Rattle.std.specs.Prelude.{ℕ, Bool, ◌==◌, if◌then◌else◌, List, [], ◌∷◌, length, ℤ}
use Rattle.std.specs.Str.{bytes_eq}
use Rattle.std.specs.Ordering.{int_eq}
use Rattle.rml_value.specs.declared.value.Value.{Value, out-Value}
use Rattle.rml_value.specs.declared.value.Value.TheOpen.{Value-F}
use Rattle.rml_value.specs.declared.value.TheConstants.{NIL, CONS}
use Rattle.rml_terms.specs.declared.state.Matched.{Matched}
use Rattle.rml_terms.specs.declared.state.Matched.TheVariants.{Yes, No, Wrong}
use Rattle.rml_terms.specs.Env.{Env}

abbrev pub Matcher : Type 0
Matcher = Value → Env → Matched

abbrev pub then_match : Matched → (Env → Matched) → Matched
then_match (Yes env) go = go env
then_match No go = No
then_match Wrong go = Wrong

-- from left to right, up to the first that does not match or is Wrong
abbrev pub match_in_turn : List Matcher → List Value → Env → Matched
match_in_turn [] [] env = Yes env
match_in_turn (p ∷ ps) (v ∷ vs) env = then_match (p v env) (match_in_turn ps vs)
match_in_turn _ _ env = Wrong

-- patterns and values are as many, or it is Wrong before any is matched
abbrev pub match_all : List Matcher → List Value → Env → Matched
match_all ps vs env = if length ps == length vs then match_in_turn ps vs env else Wrong

abbrev pub when : Bool → Env → Matched
when b env = if b then Yes env else No

-- literals: another value of the kind does not match
abbrev pub match_int : ℤ → Value-F Value → Env → Matched
match_int n (Value-F.Int m) env = when (int_eq n m) env
match_int n _ env = Wrong

abbrev pub match_char : ℕ → Value-F Value → Env → Matched
match_char c (Value-F.Char d) env = when (c == d) env
match_char c _ env = Wrong

abbrev pub match_text : List ℕ → Value-F Value → Env → Matched
match_text bytes (Value-F.Text t) env = when (bytes_eq bytes t) env
match_text bytes _ env = Wrong

-- another constructor does not match
abbrev pub match_con_at : ℕ → List Matcher → Value-F Value → Env → Matched
match_con_at c ps (Value-F.Con d vs) env = if c == d then match_all ps vs env else No
match_con_at c ps _ env = Wrong

abbrev pub match_con : ℕ → List Matcher → Matcher
match_con c ps v env = match_con_at c ps (out-Value v) env

abbrev pub match_tuple_at : List Matcher → Value-F Value → Env → Matched
match_tuple_at ps (Value-F.Tuple vs) env = match_all ps vs env
match_tuple_at ps _ env = Wrong

-- `[..]` stands for its cells: `::` of each item and what comes after it, and `[]` at the end
abbrev pub match_list : List Matcher → Matcher
match_list [] v env = match_con NIL [] v env
match_list (p ∷ ps) v env = match_con CONS (p ∷ match_list ps ∷ []) v env

-- a chain of `::`, whose last item is the tail
abbrev pub match_chain : List Matcher → Matcher
match_chain [] v env = Wrong
match_chain (p ∷ []) v env = p v env
match_chain (p ∷ q ∷ ps) v env = match_con CONS (p ∷ match_chain (q ∷ ps) ∷ []) v env
