use Rattle.std.proofs.Common.{◌≡◌, ◌++◌, ◌∙◌, IfOk, List, [], ◌∷◌, ap, subst}
use Rattle.rml_syntax.specs.declared.texts.Decl.{Decl}
use Rattle.rml_prelude.specs.Relations.{bool_and, bool_not, bool_or, over_truths}
use Rattle.rml_prelude.specs.Rules.{and_of_false, and_of_true_and_false, and_of_trues, not_of_false, not_of_true, or_of_false_and_true, or_of_falses, or_of_true}
use Rattle.rml_prelude.proofs.text.over_truths.Goals as goal

pub returns : goal.returns
unfolding over_truths bool_and bool_or bool_not and_of_false and_of_true_and_false and_of_trues not_of_false not_of_true or_of_false_and_true or_of_falses or_of_true
returns c =
    let w = c.args.w.now in
    let first : c.in_ok-decls.decls ≡ bool_and w ∷ [] = c.in_ok-decls.ensures ∙ ap (λ (l : List Decl). l ++ bool_and w ∷ []) c.new-decls.ensures in
    let second : c.in_ok-decls-2.decls ≡ bool_and w ∷ bool_or w ∷ [] = c.in_ok-decls-2.ensures ∙ ap (λ (l : List Decl). l ++ bool_or w ∷ []) first in
    subst (λ l. IfOk c.with_defined-3.result (λ ds. ds ≡ l ++ bool_not w ∷ [])) second c.with_defined-3.ensures
