-- The steps of a text at which values are named: its rules and the expressions of its vals.
use Rattle.std.specs.Prelude.{Bool, true, false, List, [], ◌∷◌, ◌++◌, map}
use Rattle.rml_syntax.specs.declared.texts.Decl.{Decl}
use Rattle.rml_syntax.specs.declared.texts.Decl.TheVariants as decl
use Rattle.rml_syntax.specs.declared.texts.Text.{Text}
use Rattle.rml_scopes.specs.declared.role.Role.{Role}
use Rattle.rml_scopes.specs.declared.role.Role.TheVariants as role
use Rattle.rml_scopes.specs.declared.scope.Scope.{Scope}
use Rattle.rml_scopes.specs.declared.world.World.{World}
use Rattle.rml_scopes.specs.Machine.{after_step}
use Rattle.rml_scopes.specs.Steps.{Step, joined, rule_steps, steps_if, val_exp_steps}
use Rattle.rml_scopes.specs.Steps as step

abbrev pub decl_uses : Decl → List Step
decl_uses (decl.Datatype binds) = []
decl_uses (decl.Abbrev head t) = []
decl_uses (decl.Abstype head) = []
decl_uses (decl.Val name place t e) = steps_if val_exp_steps e
decl_uses (decl.Relation name place sig rules) = joined (map (rule_steps name) rules)

-- those of a text, and where its body begins
abbrev pub text_uses : Text → List Step
text_uses t = joined (map decl_uses t.specs) ++ step.Body ∷ joined (map decl_uses t.decls)

abbrev pub is_type_name : Role → Bool
is_type_name (role.TypeName count) = true
is_type_name r = false

-- a step at which no value is named, and which moves nothing that values read
abbrev pub is_silent : Step → Bool
is_silent (step.Module name place) = true
is_silent (step.With file place) = true
is_silent step.Body = false
is_silent (step.DeclaresType entry twice name place) = true
is_silent (step.DeclaresValue entry typed name place) = true
is_silent (step.Params vars) = true
is_silent step.AnyParams = true
is_silent (step.TypeVariable name place) = true
is_silent (step.Inside within) = true
is_silent (step.Name r l) = is_type_name r
is_silent step.Begins = false
is_silent step.Part = false
is_silent step.Enter = false
is_silent step.Leave = false

-- the scope behind some steps
abbrev pub after_steps : World → Scope → List Step → Scope
after_steps w s [] = s
after_steps w s (x ∷ xs) = after_steps w (after_step w s x) xs
