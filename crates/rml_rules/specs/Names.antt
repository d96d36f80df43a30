-- Names by numbers, where they stand. A name that means nothing fitting has the number behind all of its kind, which leads nowhere; in texts
-- without faults there is none.
use Rattle.std.specs.Prelude.{ℕ, ◌+◌, ◌-◌, ◌^◌, min, nat_eq, [], ◌++◌, length, if◌then◌else◌}
use Rattle.rml_syntax.specs.declared.rules.Long.{Long}
use Rattle.rml_tables.specs.Words.{place_of}
use Rattle.rml_scopes.specs.declared.role.Role.TheVariants as role
use Rattle.rml_scopes.specs.declared.scope.Scope.{Scope}
use Rattle.rml_scopes.specs.Meaning.{binds}
use Rattle.rml_values.specs.Meant.{meant}
use Rattle.rml_values.specs.Numbers.{capped}
use Rattle.rml_values.specs.declared.meant.Meant.{Meant}
use Rattle.rml_values.specs.declared.meant.Meant.TheVariants as meant
use Rattle.rml_named.specs.Rows.{row_number}
use Rattle.rml_resolved.specs.declared.trees.Callee.{Callee}
use Rattle.rml_resolved.specs.declared.trees.Callee.TheVariants as called
use Rattle.rml_resolved.specs.declared.trees.RExp.{RExp}
use Rattle.rml_resolved.specs.declared.trees.RExp.TheVariants as rexp
use Rattle.rml_resolved.specs.declared.trees.RPat.{RPat}
use Rattle.rml_resolved.specs.declared.trees.RPat.TheVariants as rpat
use Rattle.rml_rules.specs.declared.env.Env.{Env}

-- The variables of a rule are numbered in the order in which they are bound. Here stand those of the parts before this one, and then those
-- that this part has bound so far; one that is not among them is the next.
unfoldable pub variable : Scope → ℕ → ℕ
variable s name = capped (place_of nat_eq name (s.bound ++ s.part))

-- the relation of a built-in that is named as a value, and the number behind all relations
unfoldable pub row_relation : Env → ℕ → ℕ
row_relation env row = row_number env.values.end.relations env.named row

unfoldable pub no_relation : Env → ℕ
no_relation env = capped (env.values.end.relations + length env.named)

abbrev pub con_of : Env → Meant → ℕ
con_of env (meant.Con n arity) = n
con_of env m = env.values.end.cons

abbrev pub value_of : Env → Scope → ℕ → Meant → RExp
value_of env s name meant.Variable = rexp.Var (variable s name)
value_of env s name (meant.Con n arity) = rexp.Con n []
value_of env s name (meant.Val n) = rexp.Val n
value_of env s name (meant.Rel n) = rexp.Rel n
value_of env s name (meant.Built row) = rexp.Rel (row_relation env row)
value_of env s name meant.Nothing = rexp.Rel (no_relation env)

abbrev pub callee_of : Env → Scope → ℕ → Meant → Callee
callee_of env s name meant.Variable = called.Var (variable s name)
callee_of env s name (meant.Con n arity) = called.Rel (no_relation env)
callee_of env s name (meant.Val n) = called.Val n
callee_of env s name (meant.Rel n) = called.Rel n
callee_of env s name (meant.Built row) = called.Built (min row (2 ^ 16 - 1))
callee_of env s name meant.Nothing = called.Rel (no_relation env)

-- a name at its place: before arguments, alone in an expression, called, and alone in a pattern

unfoldable pub con : Env → Scope → Long → ℕ
con env s l = con_of env (meant env.world.known env.values s l)

unfoldable pub value : Env → Scope → Long → RExp
value env s l = value_of env s l.name (meant env.world.known env.values s l)

unfoldable pub callee : Env → Scope → Long → Callee
callee env s l = callee_of env s l.name (meant env.world.known env.values s l)

unfoldable pub named : Env → Scope → Long → RPat
named env s l = if binds env.world.known s role.Pattern l then rpat.Var (variable s l.name) else rpat.Con (con env s l) []
