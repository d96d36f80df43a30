-- Lists, literals and names in trees. A number that stands for the bytes of a name or of a text literal is below a count of
-- names.
use Rattle.std.specs.Prelude.{ℕ, Bool, true, ◌&&◌, nat_lt, nat_le, List, length, Option, Some, None}
use Rattle.std.specs.List.{list_all}
use Rattle.rml_value.specs.Range.{is_integer}
use Rattle.rml_syntax.specs.declared.token.Lit.{Lit}
use Rattle.rml_syntax.specs.declared.token.Lit.TheVariants as lit
use Rattle.rml_syntax.specs.declared.rules.Long.{Long}

-- each of some parts is formed so
abbrev pub all : List Bool → Bool
all = list_all (λ b. b)

-- one or more of them
abbrev pub some : List Bool → Bool
some bs = nat_le 1 (length bs) && all bs

-- two or more
abbrev pub two_or_more : List Bool → Bool
two_or_more bs = nat_le 2 (length bs) && all bs

-- an integer of the language, a byte, or the number of a text's bytes
abbrev pub lit_is_formed : ℕ → Lit → Bool
lit_is_formed names (lit.Int i) = is_integer i
lit_is_formed names (lit.Char c) = nat_lt c 256
lit_is_formed names (lit.Text k) = nat_lt k names

abbrev pub module_is_formed : ℕ → Option ℕ → Bool
module_is_formed names None = true
module_is_formed names (Some m) = nat_lt m names

-- long = name [`.` name]
abbrev pub long_is_formed : ℕ → Long → Bool
long_is_formed names l = module_is_formed names l.«module» && nat_lt l.name names
