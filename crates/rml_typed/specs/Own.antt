-- Own abstypes, written out. In the text that defines an abstype by `type` it is its definition; elsewhere it equals itself
-- alone. A text is told by the number of its module's name.
use Rattle.std.specs.Prelude.{ℕ, zero, suc, ◌==◌, if◌then◌else◌, List, length, Option, Some, None, option_map, slice_get}
use Rattle.std.specs.Option.{option_map_or}
use Rattle.rml_types.specs.declared.scheme.Scheme.{Scheme}
use Rattle.rml_types.specs.declared.tree.SchemeTree.{SchemeTree, fold-SchemeTree}
use Rattle.rml_types.specs.declared.tree.SchemeTree.TheOpen.{SchemeTree-F}
use Rattle.rml_types.specs.declared.tree.SchemeTree.TheVariants as tree
use Rattle.rml_types.specs.Schemes.{inst}
use Rattle.rml_resolved.specs.declared.tables.TypeDef.{TypeDef}

-- what type names stand for: a type over variables for the arguments, where they stand for one
abbrev pub Meanings : Type 0
Meanings = ℕ → Option SchemeTree

abbrev pub written_at : Meanings → SchemeTree-F SchemeTree → SchemeTree
written_at meanings (SchemeTree-F.Var k) = tree.Var k
written_at meanings (SchemeTree-F.Named c ts) = option_map_or (inst ts) (meanings c) (tree.Named c ts)
written_at meanings (SchemeTree-F.Tuple ts) = tree.Tuple ts
written_at meanings (SchemeTree-F.Rel ins outs) = tree.Rel ins outs

-- a type in which each name that stands for a type gives way to that, over the name's arguments
abbrev pub written : Meanings → SchemeTree → SchemeTree
written meanings = fold-SchemeTree SchemeTree (written_at meanings)

-- the definition of an abstype, where this text defines it by `type`
abbrev pub definition_in : ℕ → Option TypeDef → Option Scheme
definition_in text None = None
definition_in text (Some d) = if d.«module» == text then d.means else None

-- the definitions of a text, written out where they name one another so deep at most
abbrev pub meanings_to : List TypeDef → ℕ → ℕ → Meanings
meanings_to types text zero c = None
meanings_to types text (suc depth) c = option_map (λ (s : Scheme). written (meanings_to types text depth) s.body) (definition_in text (slice_get types c))

-- a definition needs no more others than there are types
abbrev pub own_meanings : List TypeDef → ℕ → Meanings
own_meanings types text = meanings_to types text (length types)

-- a type as a text reads it
abbrev pub own : List TypeDef → ℕ → SchemeTree → SchemeTree
own types text = written (own_meanings types text)
