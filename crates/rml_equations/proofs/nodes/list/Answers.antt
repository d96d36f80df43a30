use Rattle.std.proofs.Common.{◌∷◌, [], Err, Ok, map, subst, sym, ap, ◌∙◌}
use Rattle.std.proofs.lemmas.Result.{err_from_is_err_and}
use Rattle.rml_types.specs.declared.form.TypeCon.TheVariants as con
use Rattle.rml_types.specs.Finite.{built}
use Rattle.rml_builtin.specs.declared.types.TheConstants.{LIST}
use Rattle.rml_equations.specs.Joins.{CannotEquateAll, EquatesAll, Links, Makes}
use Rattle.rml_equations.proofs.Joining.{IsListOf, linked, links-stop, list-joined, list-prevented, makes-app-at, named-no-variable}
use Rattle.rml_equations.proofs.nodes.list.Goals as goal

pub returns-in_err-equal_all : goal.returns-in_err-equal_all
returns-in_err-equal_all c = λ k.
    let g = c.args.graph.now in let h = c.var.new.self in let i = c.equal_all.new.graph in let xs = c.args.items.now in
    let p = err_from_is_err_and c.from_residual-in_err-equal_all.result c.from_residual-in_err-equal_all.ensures.1 in
    subst (Links k g i xs IsListOf) (sym p.1) (links-stop k g i xs IsListOf p.0 (λ e.
    list-prevented k g h i xs c.requires.live c.requires.within c.in_ok-item.ensures.ok c.in_ok-item.ensures.types
    (subst (CannotEquateAll h xs) c.in_ok-item.ensures.node (c.in_err-equal_all.ensures.none (ap Err (sym p.2 ∙ e))))))

pub returns : goal.returns
returns c = λ k.
    let g = c.args.graph.now in let h = c.var.new.self in let i = c.equal_all.new.graph in let j = c.app.new.self in let xs = c.args.items.now in
    let equates = c.in_ok-equal_all.ensures.ok in
    let made = makes-app-at i j (con.Named LIST) (c.in_ok-item.item ∷ []) (Ok c.in_ok-app.field-0) (named-no-variable LIST) equates.live c.in_ok-app.ensures.node c.in_ok-app.ensures.ok c.in_ok-app.ensures.types in
    linked k g j xs IsListOf c.in_ok-app.field-0
    (list-joined k g h i xs c.requires.live c.requires.within c.in_ok-item.ensures.ok c.in_ok-item.ensures.types j c.in_ok-app.field-0
    (subst (EquatesAll h i xs) c.in_ok-item.ensures.node equates)
    (subst (λ n. Makes i j (λ types. built (con.Named LIST) (map types (n ∷ []))) c.in_ok-app.field-0) c.in_ok-item.ensures.node made))
