use Rattle.std.proofs.Common.{◌∷◌, ◌++◌, [], Err, subst, sym, ap, ◌∙◌, arith}
use Rattle.std.proofs.lemmas.Result.{err_from_is_err_and}
use Rattle.rml_equations.specs.declared.coding.Coding.TheVariants.{Plain}
use Rattle.rml_equations.specs.Joins.{Links}
use Rattle.rml_equations.proofs.Joining.{IsChainOf, chain-joined, chain-prevented, chain-stopped, clashed, linked, links-stop}
use Rattle.rml_equations.proofs.nodes.chain.Goals as goal

pub unify-requires-clause-a_within : goal.unify-requires-clause-a_within
unify-requires-clause-a_within c = let l = (c.in_ok-whole.ensures Plain).ok in let k = l.count in let w = c.requires.tail_within in omega arith

pub unify-requires-clause-b_within : goal.unify-requires-clause-b_within
unify-requires-clause-b_within c = (c.in_ok-whole.ensures Plain).ok.within

pub returns-in_err-whole : goal.returns-in_err-whole
returns-in_err-whole c = λ k.
    let g = c.args.graph.now in let h = c.list.new.graph in let xs = c.args.items.now in let x = c.args.tail in
    let p = err_from_is_err_and c.from_residual.result c.from_residual.ensures.1 in
    subst (Links k g h (xs ++ x ∷ []) IsChainOf) (sym p.1)
    (links-stop k g h (xs ++ x ∷ []) IsChainOf p.0 (λ e. chain-stopped k g h xs x ((c.in_err-whole.ensures k).none (ap Err (sym p.2 ∙ e)))))

pub returns-in_err-unify : goal.returns-in_err-unify
returns-in_err-unify c = λ k.
    let g = c.args.graph.now in let h = c.list.new.graph in let i = c.unify.new.self in let xs = c.args.items.now in let x = c.args.tail in
    let l = (c.in_ok-whole.ensures k).ok in
    let p = err_from_is_err_and c.from_residual-in_err-unify.result c.from_residual-in_err-unify.ensures.1 in
    subst (Links k g i (xs ++ x ∷ []) IsChainOf) (sym p.1)
    (links-stop k g i (xs ++ x ∷ []) IsChainOf p.0 (λ e.
    chain-prevented k g h xs x c.in_ok-whole.whole c.requires.tail_within l (c.in_err-unify.ensures.no_types (ap Err (clashed c.in_err-unify.field-0.0 (sym p.2 ∙ e))) l.live)))

pub returns : goal.returns
returns c = λ k.
    let g = c.args.graph.now in let h = c.list.new.graph in let i = c.unify.new.self in let xs = c.args.items.now in let x = c.args.tail in
    let l = (c.in_ok-whole.ensures k).ok in
    linked k g i (xs ++ x ∷ []) IsChainOf c.in_ok-whole.whole
    (chain-joined k g h xs x c.in_ok-whole.whole c.requires.tail_within l i c.in_ok-unify.ensures.failed c.in_ok-unify.ensures.forms c.in_ok-unify.ensures.types)
