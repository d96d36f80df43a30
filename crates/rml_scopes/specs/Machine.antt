-- The scope behind each step, and the visits of a text: each of its steps with the scope in which it stands.
use Rattle.std.specs.Prelude.{ℕ, true, false, ◌&&◌, nat_eq, List, [], ◌∷◌, length, take, if◌then◌else◌}
use Rattle.rml_syntax.specs.declared.rules.Long.{Long}
use Rattle.rml_syntax.specs.declared.texts.Text.{Text}
use Rattle.rml_tables.specs.Words.{with_each, with_name}
use Rattle.rml_outlines.specs.declared.entry.TypeEntry.{TypeEntry}
use Rattle.rml_outlines.specs.declared.entry.ValueEntry.{ValueEntry}
use Rattle.rml_scopes.specs.declared.role.Role.{Role}
use Rattle.rml_scopes.specs.declared.role.Within.TheVariants as within
use Rattle.rml_scopes.specs.declared.scope.Scope.{Scope}
use Rattle.rml_scopes.specs.declared.world.World.{World}
use Rattle.rml_scopes.specs.Meaning.{binds, is_abbrev, is_val}
use Rattle.rml_scopes.specs.Steps.{Step, text_steps}
use Rattle.rml_scopes.specs.Steps as step

-- where the text of this number begins
unfoldable pub fresh : ℕ → Scope
fresh text = record {
  text = text;
  in_body = false;
  types = [];
  values = [];
  abbrevs = [];
  vals = [];
  has_params = false;
  params = [];
  within = within.Anything;
  seen = [];
  bound = [];
  part = [];
  opened = [];
}

unfoldable pub after_type : Scope → TypeEntry → ℕ → Scope
after_type s entry name = record s {
  types = with_name nat_eq s.types name;
  abbrevs = (if is_abbrev entry.kind then with_name nat_eq s.abbrevs name else s.abbrevs);
}

unfoldable pub after_value : Scope → ValueEntry → ℕ → Scope
after_value s entry name = record s {
  values = with_name nat_eq s.values name;
  vals = (if s.in_body && is_val entry then with_name nat_eq s.vals name else s.vals);
}

-- what is bound enters the part, also where it is bound again
unfoldable pub after_name : World → Scope → Role → Long → Scope
after_name w s r l = if binds w.known s r l then record s { part = with_name nat_eq s.part l.name } else s

-- the innermost `not` closes: of the variables seen those stay that were seen where it opened
abbrev pub closed : Scope → List ℕ → Scope
closed s [] = s
closed s (count ∷ opened) = record s { seen = take count s.seen; opened = opened }

abbrev pub after_step : World → Scope → Step → Scope
after_step w s (step.Module name place) = s
after_step w s (step.With file place) = s
after_step w s step.Body = record s { in_body = true; types = []; values = [] }
after_step w s (step.DeclaresType entry twice name place) = after_type s entry name
after_step w s (step.DeclaresValue entry typed name place) = after_value s entry name
after_step w s (step.Params vars) = record s { has_params = true; params = with_each nat_eq [] vars }
after_step w s step.AnyParams = record s { has_params = false; params = [] }
after_step w s (step.TypeVariable name place) = s
after_step w s (step.Inside within) = record s { within = within }
after_step w s (step.Name r l) = after_name w s r l
after_step w s step.Begins = record s { seen = []; bound = []; part = []; opened = [] }
after_step w s step.Part = record s { seen = with_each nat_eq s.seen s.part; bound = with_each nat_eq s.bound s.part; part = [] }
after_step w s step.Enter = record s { opened = length s.seen ∷ s.opened }
after_step w s step.Leave = closed s s.opened

-- a step, and the scope in which it stands
pub record Visit : Type 0 where
  pub scope : Scope
  pub step : Step

abbrev pub visits_from : World → Scope → List Step → List Visit
visits_from w s [] = []
visits_from w s (x ∷ xs) = record { scope = s; step = x } ∷ visits_from w (after_step w s x) xs

-- the visits of the text of this number
unfoldable pub visits : World → ℕ → Text → List Visit
visits w text t = visits_from w (fresh text) (text_steps t)
