use Rattle.std.proofs.Common.{◌≡◌, ◌++◌, ◌∙◌, IfOk, List, [], ◌∷◌, ap, subst}
use Rattle.rml_syntax.specs.declared.texts.Decl.{Decl}
use Rattle.rml_prelude.specs.Relations.{list_delete, list_length, list_member, list_nth, over_lists}
use Rattle.rml_prelude.specs.Rules.{delete_at_front, delete_behind, length_of_empty, length_of_link, member_at_front, member_behind, member_of_empty, nth_at_front, nth_behind}
use Rattle.rml_prelude.proofs.Behind.{four-behind}
use Rattle.rml_prelude.proofs.text.over_lists.Goals as goal

pub returns : goal.returns
unfolding over_lists list_delete list_length list_member list_nth delete_at_front delete_behind length_of_empty length_of_link member_at_front member_behind member_of_empty nth_at_front nth_behind
returns c =
    let w = c.args.w.now in
    let before = c.args.before in
    let first : c.in_ok-decls.decls ≡ before ++ list_length w ∷ [] = c.in_ok-decls.ensures in
    let second : c.in_ok-decls-2.decls ≡ (before ++ list_length w ∷ []) ++ list_member w ∷ [] = c.in_ok-decls-2.ensures ∙ ap (λ (l : List Decl). l ++ list_member w ∷ []) first in
    let third : c.in_ok-decls-3.decls ≡ ((before ++ list_length w ∷ []) ++ list_member w ∷ []) ++ list_nth w ∷ [] = c.in_ok-decls-3.ensures ∙ ap (λ (l : List Decl). l ++ list_nth w ∷ []) second in
    let fourth = ap (λ (l : List Decl). l ++ list_delete w ∷ []) third ∙ four-behind before (list_length w) (list_member w) (list_nth w) (list_delete w) in
    subst (λ l. IfOk c.with_defined-4.result (λ ds. ds ≡ l)) fourth c.with_defined-4.ensures
