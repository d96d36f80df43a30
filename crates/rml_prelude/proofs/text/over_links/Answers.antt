use Rattle.std.proofs.Common.{◌≡◌, ◌++◌, ◌∙◌, IfOk, List, [], ◌∷◌, ap, refl, subst}
use Rattle.rml_syntax.specs.declared.texts.Decl.{Decl}
use Rattle.rml_prelude.specs.Parts.{list_of_a, sig}
use Rattle.rml_prelude.specs.Relations.{list_append, list_reverse, list_turn, over_links}
use Rattle.rml_prelude.specs.Rules.{append_to_empty, append_to_link, reverse, turn_empty, turn_link}
use Rattle.rml_prelude.proofs.Behind.{three-behind}
use Rattle.rml_prelude.proofs.text.over_links.Goals as goal

pub returns : goal.returns
unfolding over_links list_append list_reverse list_turn append_to_empty append_to_link reverse turn_empty turn_link
returns c =
    let w = c.args.w.now in
    let before = c.args.before in
    let type : c.in_ok-turn.turn ≡ sig (list_of_a w ∷ list_of_a w ∷ []) (list_of_a w) = c.in_ok-turn.ensures in
    let first : c.in_ok-decls.decls ≡ before ++ list_append w ∷ [] = c.in_ok-decls.ensures in
    let second : c.in_ok-decls-2.decls ≡ (before ++ list_append w ∷ []) ++ list_turn w ∷ [] = c.in_ok-decls-2.ensures ∙ rw (type, first) refl in
    let third = ap (λ (l : List Decl). l ++ list_reverse w ∷ []) second ∙ three-behind before (list_append w) (list_turn w) (list_reverse w) in
    subst (λ l. IfOk c.with_defined-3.result (λ ds. ds ≡ l)) third c.with_defined-3.ensures
