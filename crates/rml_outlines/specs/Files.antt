-- Which text a `with` names: the first whose file has the name, where of both names only what stands after the last `/` counts. There is
-- one file name a text. Names are numbers, and `names` has their bytes.
use Rattle.std.specs.Prelude.{ℕ, ◌==◌, nat_eq, List, [], ◌∷◌, Option, None, Some, position, slice_index_or}
use Rattle.std.specs.List.{after_last}
use Rattle.rml_base.specs.Numbering.{same}
use Rattle.rml_syntax.specs.declared.texts.Text.{Text}
use Rattle.rml_syntax.specs.declared.texts.Uses.{Uses}
use Rattle.rml_tables.specs.Words.{with_first}

-- what stands after the last `/`, or all where there is none
unfoldable pub last_part : List ℕ → List ℕ
last_part path = after_last (λ c. c == 47) path

-- the first text whose file has this name, where these are the last parts of the names of files
unfoldable pub text_named : List (List ℕ) → List ℕ → Option ℕ
text_named parts name = position (λ part. same part (last_part name)) parts

-- the texts that literals name, each literal once
abbrev pub Targets : Type 0
Targets = List (ℕ × ℕ)

abbrev pub with_named : Targets → ℕ → Option ℕ → Targets
with_named targets file None = targets
with_named targets file (Some text) = with_first nat_eq targets file text

module _ (names parts : List (List ℕ)) where
  unfoldable pub with_target : Targets → Uses → Targets
  with_target targets u = with_named targets u.file (text_named parts (slice_index_or names u.file []))

  abbrev pub with_targets : Targets → List Uses → Targets
  with_targets targets [] = targets
  with_targets targets (u ∷ us) = with_targets (with_target targets u) us

  -- those that the `with`s of some texts name, behind others
  abbrev pub with_targets_of : Targets → List Text → Targets
  with_targets_of targets [] = targets
  with_targets_of targets (t ∷ ts) = with_targets_of (with_targets (with_targets targets t.uses) t.body_uses) ts
