use Rattle.std.proofs.Common.{◌≡◌, ◌++◌, ◌∙◌, IfOk, List, [], ◌∷◌, refl, subst}
use Rattle.rml_syntax.specs.declared.texts.Decl.{Decl}
use Rattle.rml_prelude.specs.Interface.{interface, options, truths, type_of_and, type_of_append, type_of_delete, type_of_length, type_of_member, type_of_not, type_of_nth, type_of_or, type_of_reverse}
use Rattle.rml_prelude.proofs.text.interface.Goals as goal

pub returns : goal.returns
unfolding interface type_of_and type_of_append type_of_delete type_of_length type_of_member type_of_not type_of_nth type_of_or type_of_reverse
returns c =
    let w = c.args.w.now in
    let all : List Decl = type_of_and w ∷ type_of_or w ∷ type_of_not w ∷ type_of_append w ∷ type_of_reverse w ∷ type_of_length w ∷ type_of_member w ∷ type_of_nth w ∷ type_of_delete w ∷ [] in
    let types : c.in_ok-types.types ≡ truths w ∷ options w ∷ [] = c.in_ok-types.ensures ∙ rw (c.in_ok-truths.ensures, c.in_ok-options.ensures) refl in
    subst (λ ts. IfOk c.with_declared.result (λ ds. ds ≡ ts ++ all)) types c.with_declared.ensures
