-- The types of built-ins name no abstype, so each text reads them as they stand.
use Rattle.std.proofs.Common.{◌≡◌, ℕ, zero, suc, ◌<◌, Bool, true, false, ◌==◌, ◌&&◌, if◌then◌else◌, List, [], ◌∷◌, length, map, Option, Some, None, refl, ap, ◌∙◌, arith}
use Rattle.std.specs.Prelude.{is_none, slice_get, IsTrue}
use Rattle.std.specs.Option.{option_map_or}
use Rattle.rml_types.specs.declared.scheme.Scheme.{Scheme}
use Rattle.rml_types.specs.declared.tree.SchemeTree.{SchemeTree}
use Rattle.rml_types.specs.declared.tree.SchemeTree.TheVariants as tree
use Rattle.rml_types.specs.Schemes.{inst}
use Rattle.rml_types.proofs.Callers.{fold-Named, fold-Rel, fold-Var}
use Rattle.rml_builtin.specs.declared.types.TheConstants.{INT, CHAR, STRING, LIST, LVAR, VECTOR, BOOL, OPTION}
use Rattle.rml_builtin.specs.declared.row.Row.{Row}
use Rattle.rml_builtin.specs.declared.row.Row.TheVariants.{IntNeg, IntAbs, IntLt, IntLe, IntGt, IntGe, IntEq, IntNe, IntString, StringInt, IntChar, CharInt, StringLength, StringNth, StringAppend, StringList, ListString, LvarNew, LvarGet, LvarSet, Print, ListVector, VectorList, VectorLength, VectorNth}
use Rattle.rml_builtin.specs.Table.{inputs_of, outputs_of, type_of}
use Rattle.rml_builtin.specs.Types.{a, int, char, string, bool, list, lvar, vector, option}
use Rattle.rml_resolved.specs.declared.tables.TypeDef.{TypeDef}
use Rattle.rml_resolved.specs.Beginning.{begins, in_prelude, is_name, is_known_type, KnownType, known_types, types_begin}
use Rattle.rml_resolved.proofs.Callers.{both}
use Rattle.rml_typed.specs.Own.{Meanings, written_at, written, definition_in, own_meanings, own}
use Rattle.rml_typed.proofs.Owned.{meaning-none}

module _ (meanings : Meanings) (stand : (c : ℕ) → c < 8 → meanings c ≡ None) where
  constant-stands : (c : ℕ) → c < 8 → written meanings (tree.Named c []) ≡ tree.Named c []
  constant-stands c lt =
      fold-Named SchemeTree (written_at meanings) c [] ∙ ap (λ (o : Option SchemeTree). option_map_or (inst []) o (tree.Named c [])) (stand c lt)

  of-stands : (c : ℕ) (t : SchemeTree) → c < 8 → written meanings t ≡ t → written meanings (tree.Named c (t ∷ [])) ≡ tree.Named c (t ∷ [])
  of-stands c t lt e =
      fold-Named SchemeTree (written_at meanings) c (t ∷ [])
      ∙ ap (λ (o : Option SchemeTree). option_map_or (inst (written meanings t ∷ [])) o (tree.Named c (written meanings t ∷ []))) (stand c lt) ∙ ap (λ u. tree.Named c (u ∷ [])) e

  a-stands : written meanings a ≡ a
  a-stands = fold-Var SchemeTree (written_at meanings) 0

  int-stands : written meanings int ≡ int
  int-stands = constant-stands INT (omega arith)

  char-stands : written meanings char ≡ char
  char-stands = constant-stands CHAR (omega arith)

  string-stands : written meanings string ≡ string
  string-stands = constant-stands STRING (omega arith)

  bool-stands : written meanings bool ≡ bool
  bool-stands = constant-stands BOOL (omega arith)

  one : (t : SchemeTree) → written meanings t ≡ t → map (written meanings) (t ∷ []) ≡ t ∷ []
  one t e = ap (λ u. u ∷ []) e

  two : (t u : SchemeTree) → written meanings t ≡ t → written meanings u ≡ u → map (written meanings) (t ∷ u ∷ []) ≡ t ∷ u ∷ []
  two t u e f = ap (λ x. x ∷ written meanings u ∷ []) e ∙ ap (λ x. t ∷ x ∷ []) f

  inputs-stand : (row : Row) → map (written meanings) (inputs_of row) ≡ inputs_of row
  inputs-stand IntNeg = one int int-stands
  inputs-stand IntAbs = one int int-stands
  inputs-stand IntString = one int int-stands
  inputs-stand StringInt = one string string-stands
  inputs-stand IntChar = one int int-stands
  inputs-stand CharInt = one char char-stands
  inputs-stand StringLength = one string string-stands
  inputs-stand StringNth = two string int string-stands int-stands
  inputs-stand StringAppend = two string string string-stands string-stands
  inputs-stand StringList = one string string-stands
  inputs-stand ListString = one (list char) (of-stands LIST char (omega arith) char-stands)
  inputs-stand LvarNew = refl
  inputs-stand LvarGet = one (lvar a) (of-stands LVAR a (omega arith) a-stands)
  inputs-stand LvarSet = two (lvar a) a (of-stands LVAR a (omega arith) a-stands) a-stands
  inputs-stand Print = one string string-stands
  inputs-stand ListVector = one (list a) (of-stands LIST a (omega arith) a-stands)
  inputs-stand VectorList = one (vector a) (of-stands VECTOR a (omega arith) a-stands)
  inputs-stand VectorLength = one (vector a) (of-stands VECTOR a (omega arith) a-stands)
  inputs-stand VectorNth = two (vector a) int (of-stands VECTOR a (omega arith) a-stands) int-stands
  inputs-stand _ = two int int int-stands int-stands

  outputs-stand : (row : Row) → map (written meanings) (outputs_of row) ≡ outputs_of row
  outputs-stand IntLt = one bool bool-stands
  outputs-stand IntLe = one bool bool-stands
  outputs-stand IntGt = one bool bool-stands
  outputs-stand IntGe = one bool bool-stands
  outputs-stand IntEq = one bool bool-stands
  outputs-stand IntNe = one bool bool-stands
  outputs-stand IntString = one string string-stands
  outputs-stand IntChar = one char char-stands
  outputs-stand StringNth = one char char-stands
  outputs-stand StringAppend = one string string-stands
  outputs-stand StringList = one (list char) (of-stands LIST char (omega arith) char-stands)
  outputs-stand ListString = one string string-stands
  outputs-stand LvarNew = one (lvar a) (of-stands LVAR a (omega arith) a-stands)
  outputs-stand LvarGet = one (option a) (of-stands OPTION a (omega arith) a-stands)
  outputs-stand LvarSet = refl
  outputs-stand Print = refl
  outputs-stand ListVector = one (vector a) (of-stands VECTOR a (omega arith) a-stands)
  outputs-stand VectorList = one (list a) (of-stands LIST a (omega arith) a-stands)
  outputs-stand VectorNth = one a a-stands
  outputs-stand _ = one int int-stands

  pub row-stands : (row : Row) → written meanings (type_of row) ≡ type_of row
  row-stands row =
      fold-Rel SchemeTree (written_at meanings) (inputs_of row) (outputs_of row)
      ∙ ap (λ x. tree.Rel x (map (written meanings) (outputs_of row))) (inputs-stand row) ∙ ap (tree.Rel (inputs_of row)) (outputs-stand row)

-- ---- the types that programs begin with stand for no others

only-none : (b : Bool) (o : Option Scheme) → is_none o ≡ true → (if b then o else None) ≡ None
only-none true None h = refl
only-none true (Some s) h = absurd (cc)
only-none false o h = refl

begun-none : (text : ℕ) (names : List (List ℕ)) (ks : List KnownType) (types : List TypeDef) (n : ℕ) → n < length ks → begins (is_known_type names) ks types ≡ true
    → definition_in text (slice_get types n) ≡ None
begun-none text names [] types n lt h = absurd (omega arith)
begun-none text names (k ∷ ks) [] n lt h = absurd (cc)
begun-none text names (k ∷ ks) (d ∷ types) zero lt h =
    let first = both (is_known_type names k d) (begins (is_known_type names) ks types) h in
    let last = both (in_prelude names d.«module» && is_name names k.0 d.name && (d.params == k.1)) (is_none d.means) first.first in
    only-none (d.«module» == text) d.means last.second
begun-none text names (k ∷ ks) (d ∷ types) (suc n) lt h =
    begun-none text names ks types n (omega arith) (both (is_known_type names k d) (begins (is_known_type names) ks types) h).second

pub own-row : (names : List (List ℕ)) (types : List TypeDef) (text : ℕ) (row : Row) → IsTrue (types_begin names types) → own types text (type_of row) ≡ type_of row
unfolding types_begin
own-row names types text row h =
    row-stands (own_meanings types text) (λ c lt. meaning-none types text (length types) c (begun-none text names known_types types c lt h)) row
