-- What is known of the texts of a set, as it is read from their trees.
use Rattle.std.specs.Prelude.{ℕ, suc, Bool, nat_eq, List, [], ◌∷◌, length, map, Option, None, Some, if◌then◌else◌}
use Rattle.std.specs.Map.{lookup}
use Rattle.rml_syntax.specs.declared.texts.Text.{Text}
use Rattle.rml_syntax.specs.declared.texts.Uses.{Uses}
use Rattle.rml_tables.specs.Words.{with_each, with_first, with_name}
use Rattle.rml_reach.specs.Within.{reaches_within}
use Rattle.rml_outlines.specs.Declarations.{entries_of}
use Rattle.rml_outlines.specs.Files.{Targets, last_part, with_targets_of}
use Rattle.rml_outlines.specs.declared.known.Known.{Known}
use Rattle.rml_outlines.specs.declared.outline.Entries.{Entries}
use Rattle.rml_outlines.specs.declared.outline.Outline.{Outline}

-- the first text of each module name, where this one has a number and stands behind the others; a text that is called as the prelude is
-- none
abbrev pub with_module : ℕ → List (ℕ × ℕ) → ℕ → ℕ → List (ℕ × ℕ)
with_module prelude modules name text = if nat_eq name prelude then modules else with_first nat_eq modules name text

abbrev pub with_modules : ℕ → List (ℕ × ℕ) → ℕ → List Text → List (ℕ × ℕ)
with_modules prelude modules text [] = modules
with_modules prelude modules text (t ∷ ts) = with_modules prelude (with_module prelude modules t.«module» text) (suc text) ts

abbrev pub and_found : Option ℕ → List ℕ → List ℕ
and_found None texts = texts
and_found (Some text) texts = text ∷ texts

-- the texts that some `with`s name
abbrev pub named_by : Targets → List Uses → List ℕ
named_by targets [] = []
named_by targets (u ∷ us) = and_found (lookup (nat_eq u.file) targets) (named_by targets us)

-- of each text, the texts that its interface names
abbrev pub links_of : Targets → List Text → List (List ℕ)
links_of targets texts = map (λ t. named_by targets t.uses) texts

-- interfaces lead from one text to another
abbrev pub leads_to : List (List ℕ) → ℕ → ℕ → Bool
leads_to links from to = reaches_within (length links) links from to

-- some texts, and those of some others that lead to this one
abbrev pub with_leading : List (List ℕ) → ℕ → List ℕ → List ℕ → List ℕ
with_leading links own texts [] = texts
with_leading links own texts (x ∷ xs) = with_leading links own (if leads_to links x own then with_name nat_eq texts x else texts) xs

-- the text of this number
unfoldable pub outline_of : List (List ℕ) → Targets → ℕ → Text → Outline
outline_of links targets own t = record {
  interface = entries_of t.specs;
  body = entries_of t.decls;
  seen = with_each nat_eq [] (named_by targets t.uses);
  body_seen = with_each nat_eq [] (named_by targets t.body_uses);
  circles = with_leading links own [] (named_by targets t.uses);
}

abbrev pub outlines_from : List (List ℕ) → Targets → ℕ → List Text → List Outline
outlines_from links targets own [] = []
outlines_from links targets own (t ∷ ts) = outline_of links targets own t ∷ outlines_from links targets (suc own) ts

-- What is known of some texts, with the names of their files and the bytes of all names. The prelude is a text before all others, whose
-- names need no module; no `with` names it.
unfoldable pub known_of : List (List ℕ) → List (List ℕ) → Text → Entries → List Text → Known
known_of names files prelude built texts =
    let targets = with_targets_of names (map last_part files) [] texts in
    record {
      texts = outlines_from (links_of targets texts) targets 0 texts;
      modules = with_modules prelude.«module» [] 0 texts;
      targets = targets;
      prelude_module = prelude.«module»;
      prelude = entries_of prelude.specs;
      built = built;
    }
