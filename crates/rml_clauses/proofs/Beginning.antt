-- The constructors of a program in clause form begin with those of lists, truth values and options, and have as few arguments as they are
-- declared with.
use Rattle.std.proofs.Common.{◌≡◌, ℕ, true, List, [], ◌∷◌, map, length, refl, sym}
use Rattle.std.specs.Prelude.{◌==◌, nat_eq, nat_lt}
use Rattle.std.specs.List.{list_all, starts_with}
use Rattle.std.proofs.lemmas.Bool.{eqb-true, eq-eqb}
use Rattle.rml_types.specs.declared.tree.SchemeTree.{SchemeTree, out-SchemeTree}
use Rattle.rml_types.specs.declared.tree.SchemeTree.TheOpen.{SchemeTree-F}
use Rattle.rml_resolved.specs.declared.expected.Arguments.{Arguments}
use Rattle.rml_resolved.specs.declared.expected.Arguments.TheVariants.{Nothing, Parameter, HeadAndTail}
use Rattle.rml_resolved.specs.declared.tables.TypeDef.{TypeDef}
use Rattle.rml_resolved.specs.declared.tables.ConDef.{ConDef}
use Rattle.rml_resolved.specs.Beginning.{cons_begin as known_begin, begins, are_arguments, KnownCon, is_known_con, known_cons}
use Rattle.rml_resolved.specs.Typing.{type_fits, gives_whole, makes_whole, con_def_fits}
use Rattle.rml_resolved.specs.declared.limits.TheConstants.{CON_ARGUMENTS}
use Rattle.rml_resolved.proofs.Callers.{both}
use Rattle.rml_fol.specs.Fits.{arity_of, cons_begin, con_is_small}
use Rattle.rml_clause.proofs.Callers.{joined}
use Rattle.rml_clauses.specs.Tables.{constructor_of}

-- how many arguments
abbrev count : Arguments → ℕ
count Nothing = 0
count Parameter = 1
count HeadAndTail = 2

-- a scheme that has these arguments and makes a constructor of so many
counted : (args : Arguments) (c vars arity : ℕ) (t : SchemeTree-F SchemeTree) → are_arguments args t ≡ true → makes_whole c vars arity t ≡ true → arity ≡ count args
counted Nothing c vars arity (SchemeTree-F.Rel [] outs) h k = eqb-true arity 0 (both (arity == 0) (gives_whole c vars outs) k).first
counted Nothing c vars arity _ h k = absurd (cc)
counted Parameter c vars arity (SchemeTree-F.Rel (t ∷ []) outs) h k = eqb-true arity 1 (both (arity == 1) (gives_whole c vars outs) k).first
counted Parameter c vars arity _ h k = absurd (cc)
counted HeadAndTail c vars arity (SchemeTree-F.Rel (t ∷ u ∷ []) outs) h k = eqb-true arity 2 (both (arity == 2) (gives_whole c vars outs) k).first
counted HeadAndTail c vars arity _ h k = absurd (cc)

module _ (names : List (List ℕ)) (types : List TypeDef) where
  known-arity : (known : KnownCon) (d : ConDef) → is_known_con names known d ≡ true → con_def_fits (length names) types d ≡ true → d.arity ≡ count known.2
  known-arity known d h k =
      let named = both _ (are_arguments known.2 (out-SchemeTree d.scheme.body)) h in
      let made = both _ (makes_whole d.of d.scheme.vars d.arity (out-SchemeTree d.scheme.body)) k in
      counted known.2 d.of d.scheme.vars d.arity (out-SchemeTree d.scheme.body) named.second made.second

  begin-so : (knowns : List KnownCon) (cons : List ConDef) → begins (is_known_con names) knowns cons ≡ true → list_all (con_def_fits (length names) types) cons ≡ true
      → starts_with nat_eq (map arity_of (map (constructor_of names types) cons)) (map (λ (known : KnownCon). count known.2) knowns) ≡ true
  begin-so [] cons h k = refl
  begin-so (known ∷ knowns) [] h k = absurd (cc)
  begin-so (known ∷ knowns) (d ∷ cons) h k =
      let now = both (is_known_con names known d) (begins (is_known_con names) knowns cons) h in
      let fit = both (con_def_fits (length names) types d) (list_all (con_def_fits (length names) types) cons) k in
      joined (nat_eq (count known.2) d.arity) (starts_with nat_eq (map arity_of (map (constructor_of names types) cons)) (map (λ (z : KnownCon). count z.2) knowns))
      (eq-eqb (count known.2) d.arity (sym (known-arity known d now.first fit.first))) (begin-so knowns cons now.second fit.second)

  pub constructors-begin : (cons : List ConDef) → known_begin names cons ≡ true → list_all (con_def_fits (length names) types) cons ≡ true → cons_begin (map (constructor_of names types) cons) ≡ true
  unfolding known_begin
  constructors-begin cons h k = begin-so known_cons cons (both (begins (is_known_con names) known_cons cons) _ h).first k

  constructor-small : (d : ConDef) → con_def_fits (length names) types d ≡ true → con_is_small (constructor_of names types d) ≡ true
  constructor-small d h =
      let whole = both _ (makes_whole d.of d.scheme.vars d.arity (out-SchemeTree d.scheme.body)) h in
      let typed = both _ (type_fits types d.scheme.body) whole.first in
      (both _ (nat_lt d.arity CON_ARGUMENTS) typed.first).second

  pub constructors-small : (cons : List ConDef) → list_all (con_def_fits (length names) types) cons ≡ true → list_all con_is_small (map (constructor_of names types) cons) ≡ true
  constructors-small [] h = refl
  constructors-small (d ∷ cons) h =
      let two = both (con_def_fits (length names) types d) (list_all (con_def_fits (length names) types) cons) h in
      joined (con_is_small (constructor_of names types d)) (list_all con_is_small (map (constructor_of names types) cons)) (constructor-small d two.first) (constructors-small cons two.second)
