-- Types written out in full: each abstype that is defined by `type` gives way to its definition, whatever text it is read in. The
-- values of a running program pass from text to text, so they have types of this form.
use Rattle.std.specs.Prelude.{◌≡◌, ℕ, zero, suc, List, length, map, Option, Some, None, option_map, slice_get}
use Rattle.rml_types.specs.declared.scheme.Scheme.{Scheme}
use Rattle.rml_types.specs.declared.tree.SchemeTree.{SchemeTree}
use Rattle.rml_types.specs.declared.tree.SchemeTree.TheVariants as tree
use Rattle.rml_types.specs.Schemes.{inst}
use Rattle.rml_resolved.specs.declared.tables.TypeDef.{TypeDef}
use Rattle.rml_typed.specs.Own.{Meanings, written, own}

-- what a type stands for, if anything
abbrev pub definition : Option TypeDef → Option Scheme
definition None = None
definition (Some d) = d.means

-- the definitions, written out where they name one another so deep at most
abbrev pub full_meanings_to : List TypeDef → ℕ → Meanings
full_meanings_to types zero c = None
full_meanings_to types (suc depth) c = option_map (λ (s : Scheme). written (full_meanings_to types depth) s.body) (definition (slice_get types c))

-- a definition needs no more others than there are types
abbrev pub full_meanings : List TypeDef → Meanings
full_meanings types = full_meanings_to types (length types)

-- a type, written out
abbrev pub full : List TypeDef → SchemeTree → SchemeTree
full types = written (full_meanings types)

-- How the types in a text are read where a program runs: as types that stand for no other, whatever types the variables of its
-- rules have in a call. What is shown of patterns and expressions knows of a text's own abstypes by these equations alone.
pub record Reads (types : List TypeDef) (text : ℕ) (reads : SchemeTree → SchemeTree) : Type 0 where
  pub named : (c : ℕ) (ts : List SchemeTree) → definition (slice_get types c) ≡ None → reads (tree.Named c ts) ≡ tree.Named c (map reads ts)
  pub tuple : (ts : List SchemeTree) → reads (tree.Tuple ts) ≡ tree.Tuple (map reads ts)
  pub relation : (ins outs : List SchemeTree) → reads (tree.Rel ins outs) ≡ tree.Rel (map reads ins) (map reads outs)
  -- an instance of a scheme, as the text reads it, is the instance of the scheme that is written out
  pub instance : (ts : List SchemeTree) (t : SchemeTree) → reads (inst ts (own types text t)) ≡ inst (map reads ts) (full types t)
