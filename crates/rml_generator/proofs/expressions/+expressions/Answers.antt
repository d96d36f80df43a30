use denote.Param.Weighed.{at_most}
use Rattle.std.proofs.lemmas.Grind.{common_steps}
use Rattle.std.proofs.Common.{◌≡◌, ◌∙◌, List, [], ◌∷◌, ap, arith, sym}
use Rattle.std.proofs.lemmas.Result.{err_from_is_err_and}
use Rattle.rml_types.specs.declared.tree.SchemeTree.{SchemeTree}
use Rattle.rml_types.specs.declared.tree.SchemeTree.TheVariants as tree
use Rattle.rml_resolved.specs.declared.trees.RExp.{RExp, size-RExp}
use Rattle.rml_resolved.specs.declared.trees.RExp.TheOpen.{RExp-F}
use Rattle.rml_resolved.specs.declared.trees.RExp.TheVariants as exp
use Rattle.rml_typed.specs.Typed.{HasInstance, ExpOf, ExpsOf, type_of_literal}
use Rattle.rml_equations.proofs.Callers.{IsChainOf, IsListOf}
use Rattle.rml_generator.specs.declared.scope.Scope.{Scope}
use Rattle.rml_generator.specs.Adds.{Told, each_node}
use Rattle.rml_generator.specs.Scopes.{reads, uses, watched}
use Rattle.rml_generator.proofs.Adding.{found-alone, left-no-memory, whole-found, whole-left}
use Rattle.rml_generator.proofs.Owning.{nodes-within, serves-later}
use Rattle.rml_generator.proofs.ExpressionParts.{exp-found, exps-zip, zip-exps}
use Rattle.rml_generator.proofs.Turning.{EachOf, each-found, each-left, each-more, each-none}
use Rattle.rml_generator.proofs.expressions.+expressions.Goals as goal

abbrev AreOf : Scope → List RExp → Told → List SchemeTree → Type 0
AreOf s es told ts = ExpsOf (reads s) (uses s told) told.vars es ts

abbrev IsOf : Scope → Told → RExp → SchemeTree → Type 0
IsOf s told e t = ExpOf (reads s) (uses s told) told.vars e t

pub expression-made-requires-clause-within : goal.expression-made-requires-clause-within
expression-made-requires-clause-within t c =
    let s = c.args.scope.now in
    nodes-within s.coding (watched s) c.args.graph.now c.expressions.new.graph (AreOf s c.as_slice.result.now) c.in_ok-nodes-in-Con.nodes.items c.deref.result.now c.deref.ensures.value c.in_ok-nodes-in-Con.ensures.ok

pub expression-returns-in_err-nodes-in-Con : goal.expression-returns-in_err-nodes-in-Con
expression-returns-in_err-nodes-in-Con t c =
    let s = c.args.scope.now in let g = c.args.graph.now in let h = c.expressions.new.graph in
    let p = err_from_is_err_and c.from_residual.result c.from_residual.ensures.1 in
    exp-found s g h c.args.exp.now (RExp-F.Con c.in-Con.c c.in-Con.parts) c.from_residual.result (exp.rolls-Con c.in-Con.c c.in-Con.parts ∙ sym c.in-Con.is)
    (whole-left s.coding (watched s) (AreOf s) (λ ts t. HasInstance ((reads s).con c.in-Con.c) (tree.Rel ts (t ∷ []))) g h h c.in-Con.parts c.as_slice.result.now c.from_residual.result c.as_slice.ensures p c.in_err-nodes-in-Con.ensures)

pub expression-returns-in_ok-nodes-in-Con : goal.expression-returns-in_ok-nodes-in-Con
expression-returns-in_ok-nodes-in-Con t c =
    let s = c.args.scope.now in let g = c.args.graph.now in let h = c.expressions.new.graph in let i = c.made.new.graph in
    exp-found s g i c.args.exp.now (RExp-F.Con c.in-Con.c c.in-Con.parts) c.made.result (exp.rolls-Con c.in-Con.c c.in-Con.parts ∙ sym c.in-Con.is)
    (whole-found s.coding (watched s) (AreOf s) (λ ts t. HasInstance ((reads s).con c.in-Con.c) (tree.Rel ts (t ∷ []))) g h i c.in-Con.parts c.as_slice.result.now c.in_ok-nodes-in-Con.nodes.items c.deref.result.now c.made.result c.as_slice.ensures c.deref.ensures.value c.in_ok-nodes-in-Con.ensures.ok c.made.ensures)

pub expression-whole_tuple-requires-clause-within : goal.expression-whole_tuple-requires-clause-within
expression-whole_tuple-requires-clause-within t c =
    let s = c.args.scope.now in
    nodes-within s.coding (watched s) c.args.graph.now c.expressions-in-Tuple.new.graph (AreOf s c.as_slice-in-Tuple.result.now) c.in_ok-nodes-in-Tuple.nodes.items c.deref-in-Tuple.result.now c.deref-in-Tuple.ensures.value c.in_ok-nodes-in-Tuple.ensures.ok

pub expression-returns-in_err-nodes-in-Tuple : goal.expression-returns-in_err-nodes-in-Tuple
expression-returns-in_err-nodes-in-Tuple t c =
    let s = c.args.scope.now in let g = c.args.graph.now in let h = c.expressions-in-Tuple.new.graph in
    let p = err_from_is_err_and c.from_residual-in_err-nodes-in-Tuple.result c.from_residual-in_err-nodes-in-Tuple.ensures.1 in
    exp-found s g h c.args.exp.now (RExp-F.Tuple c.in-Tuple.parts) c.from_residual-in_err-nodes-in-Tuple.result (exp.rolls-Tuple c.in-Tuple.parts ∙ sym c.in-Tuple.is)
    (whole-left s.coding (watched s) (AreOf s) (λ ts t. t ≡ tree.Tuple ts) g h h c.in-Tuple.parts c.as_slice-in-Tuple.result.now c.from_residual-in_err-nodes-in-Tuple.result c.as_slice-in-Tuple.ensures p c.in_err-nodes-in-Tuple.ensures)

pub expression-returns-in_ok-nodes-in-Tuple : goal.expression-returns-in_ok-nodes-in-Tuple
expression-returns-in_ok-nodes-in-Tuple t c =
    let s = c.args.scope.now in let g = c.args.graph.now in let h = c.expressions-in-Tuple.new.graph in let i = c.whole_tuple.new.graph in
    exp-found s g i c.args.exp.now (RExp-F.Tuple c.in-Tuple.parts) c.whole_tuple.result (exp.rolls-Tuple c.in-Tuple.parts ∙ sym c.in-Tuple.is)
    (whole-found s.coding (watched s) (AreOf s) (λ ts t. t ≡ tree.Tuple ts) g h i c.in-Tuple.parts c.as_slice-in-Tuple.result.now c.in_ok-nodes-in-Tuple.nodes.items c.deref-in-Tuple.result.now c.whole_tuple.result c.as_slice-in-Tuple.ensures c.deref-in-Tuple.ensures.value c.in_ok-nodes-in-Tuple.ensures.ok (c.whole_tuple.ensures s.coding))

pub expression-list-requires-clause-within : goal.expression-list-requires-clause-within
expression-list-requires-clause-within t c =
    let s = c.args.scope.now in
    nodes-within s.coding (watched s) c.args.graph.now c.expressions-in-List.new.graph (AreOf s c.as_slice-in-List.result.now) c.in_ok-nodes-in-List.nodes.items c.deref-in-List.result.now c.deref-in-List.ensures.value c.in_ok-nodes-in-List.ensures.ok

pub expression-returns-in_err-nodes-in-List : goal.expression-returns-in_err-nodes-in-List
expression-returns-in_err-nodes-in-List t c =
    let s = c.args.scope.now in let g = c.args.graph.now in let h = c.expressions-in-List.new.graph in
    let p = err_from_is_err_and c.from_residual-in_err-nodes-in-List.result c.from_residual-in_err-nodes-in-List.ensures.1 in
    exp-found s g h c.args.exp.now (RExp-F.List c.in-List.items) c.from_residual-in_err-nodes-in-List.result (exp.rolls-List c.in-List.items ∙ sym c.in-List.is)
    (whole-left s.coding (watched s) (AreOf s) IsListOf g h h c.in-List.items c.as_slice-in-List.result.now c.from_residual-in_err-nodes-in-List.result c.as_slice-in-List.ensures p c.in_err-nodes-in-List.ensures)

pub expression-returns-in_ok-nodes-in-List : goal.expression-returns-in_ok-nodes-in-List
expression-returns-in_ok-nodes-in-List t c =
    let s = c.args.scope.now in let g = c.args.graph.now in let h = c.expressions-in-List.new.graph in let i = c.list.new.graph in
    exp-found s g i c.args.exp.now (RExp-F.List c.in-List.items) c.list.result (exp.rolls-List c.in-List.items ∙ sym c.in-List.is)
    (whole-found s.coding (watched s) (AreOf s) IsListOf g h i c.in-List.items c.as_slice-in-List.result.now c.in_ok-nodes-in-List.nodes.items c.deref-in-List.result.now c.list.result c.as_slice-in-List.ensures c.deref-in-List.ensures.value c.in_ok-nodes-in-List.ensures.ok (c.list.ensures s.coding))

pub expression-whole_chain-requires-clause-within : goal.expression-whole_chain-requires-clause-within
expression-whole_chain-requires-clause-within t c =
    let s = c.args.scope.now in
    nodes-within s.coding (watched s) c.args.graph.now c.expressions-in-Cons.new.graph (AreOf s c.as_slice-in-Cons.result.now) c.in_ok-nodes-in-Cons.nodes.items c.deref-in-Cons.result.now c.deref-in-Cons.ensures.value c.in_ok-nodes-in-Cons.ensures.ok

pub expression-returns-in_err-nodes-in-Cons : goal.expression-returns-in_err-nodes-in-Cons
expression-returns-in_err-nodes-in-Cons t c =
    let s = c.args.scope.now in let g = c.args.graph.now in let h = c.expressions-in-Cons.new.graph in
    let p = err_from_is_err_and c.from_residual-in_err-nodes-in-Cons.result c.from_residual-in_err-nodes-in-Cons.ensures.1 in
    exp-found s g h c.args.exp.now (RExp-F.Cons c.in-Cons.items) c.from_residual-in_err-nodes-in-Cons.result (exp.rolls-Cons c.in-Cons.items ∙ sym c.in-Cons.is)
    (whole-left s.coding (watched s) (AreOf s) IsChainOf g h h c.in-Cons.items c.as_slice-in-Cons.result.now c.from_residual-in_err-nodes-in-Cons.result c.as_slice-in-Cons.ensures p c.in_err-nodes-in-Cons.ensures)

pub expression-returns-in_ok-nodes-in-Cons : goal.expression-returns-in_ok-nodes-in-Cons
expression-returns-in_ok-nodes-in-Cons t c =
    let s = c.args.scope.now in let g = c.args.graph.now in let h = c.expressions-in-Cons.new.graph in let i = c.whole_chain.new.graph in
    exp-found s g i c.args.exp.now (RExp-F.Cons c.in-Cons.items) c.whole_chain.result (exp.rolls-Cons c.in-Cons.items ∙ sym c.in-Cons.is)
    (whole-found s.coding (watched s) (AreOf s) IsChainOf g h i c.in-Cons.items c.as_slice-in-Cons.result.now c.in_ok-nodes-in-Cons.nodes.items c.deref-in-Cons.result.now c.whole_chain.result c.as_slice-in-Cons.ensures c.deref-in-Cons.ensures.value c.in_ok-nodes-in-Cons.ensures.ok (c.whole_chain.ensures s.coding))

pub expression-returns-in-Lit : goal.expression-returns-in-Lit
expression-returns-in-Lit t c =
    let s = c.args.scope.now in
    exp-found s c.args.graph.now c.whole_literal.new.graph c.args.exp.now (RExp-F.Lit c.in-Lit.lit) c.whole_literal.result (exp.rolls-Lit c.in-Lit.lit ∙ sym c.in-Lit.is)
    (found-alone s.coding (watched s) c.args.graph.now c.whole_literal.new.graph (λ t. t ≡ type_of_literal c.in-Lit.lit) c.whole_literal.result c.requires.live (c.whole_literal.ensures s.coding))

pub expression-returns-in-Var : goal.expression-returns-in-Var
expression-returns-in-Var t c =
    exp-found c.args.scope.now c.args.graph.now c.variable.new.graph c.args.exp.now (RExp-F.Var c.in-Var.x) c.variable.result (exp.rolls-Var c.in-Var.x ∙ sym c.in-Var.is) c.variable.ensures

pub expression-returns-in-Val : goal.expression-returns-in-Val
expression-returns-in-Val t c =
    let s = c.args.scope.now in
    exp-found s c.args.graph.now c.val.new.graph c.args.exp.now (RExp-F.Val c.in-Val.v) c.val.result (exp.rolls-Val c.in-Val.v ∙ sym c.in-Val.is)
    (found-alone s.coding (watched s) c.args.graph.now c.val.new.graph (λ t. HasInstance ((reads s).val c.in-Val.v) t) c.val.result c.requires.live c.val.ensures)

pub expression-returns-in-Rel : goal.expression-returns-in-Rel
expression-returns-in-Rel t c =
    exp-found c.args.scope.now c.args.graph.now c.relation.new.graph c.args.exp.now (RExp-F.Rel c.in-Rel.r) c.relation.result (exp.rolls-Rel c.in-Rel.r ∙ sym c.in-Rel.is) c.relation.ensures

pub expressions-loop-exp-init : goal.expressions-loop-exp-init
expressions-loop-exp-init t c =
    let s = c.args.scope.now in
    each-none s.coding (watched s) (IsOf s) c.args.all.now c.args.graph.now c.new-nodes.result.items c.requires.live c.new-nodes.ensures.items

pub expressions-loop-exp-preserved : goal.expressions-loop-exp-preserved
expressions-loop-exp-preserved t c =
    let s = c.args.scope.now in
    each-more s.coding (watched s) (IsOf s) c.args.all.now c.args.graph.now c.loop-exp.graph c.expression.new.graph c.loop-exp.exp-index c.exp-item.result c.loop-exp.nodes.items c.push.new.self.items c.in_ok-node.node
    c.loop-exp-test.true c.exp-item.is c.in_ok-push.ensures.items c.requires.within c.loop-exp.invariant c.in_ok-node.ensures.ok

pub expressions-expression-requires : goal.expressions-expression-requires
expressions-expression-requires t c =
    let s = c.args.scope.now in
    let deepest = at_most (λ (x : RExp). size-RExp x) c.args.all.now c.loop-exp.exp-index c.exp-item.result c.loop-exp-test.true in
    let same = ap (λ (x : RExp). size-RExp x) c.exp-item.is in
    (first_of (omega (arith, deepest, same, c.decreases), grind (arith, common_steps, deepest, same, c.decreases)), serves-later s c.args.graph.now c.loop-exp.graph (EachOf s.coding (watched s) (IsOf s) c.args.all.now c.loop-exp.exp-index) c.loop-exp.nodes.items c.requires c.loop-exp.invariant)

pub expressions-returns-in_err-node : goal.expressions-returns-in_err-node
expressions-returns-in_err-node t c =
    let s = c.args.scope.now in
    let p = err_from_is_err_and c.from_residual.result c.from_residual.ensures.1 in
    each-left s.coding (watched s) (IsOf s) c.args.all.now c.args.graph.now c.loop-exp.graph c.expression.new.graph c.expression.new.graph c.loop-exp.exp-index c.exp-item.result c.loop-exp.nodes.items
    (AreOf s c.args.all.now) c.from_residual.result p c.loop-exp-test.true c.exp-item.is c.requires.within (λ told ts u. zip-exps (reads s) (uses s told) told.vars c.args.all.now ts u) c.loop-exp.invariant c.in_err-node.ensures

pub expressions-returns-in_err-push : goal.expressions-returns-in_err-push
expressions-returns-in_err-push t c =
    let s = c.args.scope.now in
    let p = err_from_is_err_and c.from_residual-in_err-push.result c.from_residual-in_err-push.ensures.1 in
    left-no-memory s.coding (watched s) each_node c.args.graph.now c.expression.new.graph (AreOf s c.args.all.now) c.from_residual-in_err-push.result p

pub expressions-returns : goal.expressions-returns
expressions-returns t c =
    let s = c.args.scope.now in
    each-found s.coding (watched s) (IsOf s) c.args.all.now c.args.graph.now c.loop-exp.graph c.loop-exp.exp-index c.loop-exp.nodes (AreOf s c.args.all.now) c.loop-exp-test.false
    (λ told ts z. exps-zip (reads s) (uses s told) told.vars c.args.all.now ts z) (λ told ts u. zip-exps (reads s) (uses s told) told.vars c.args.all.now ts u) c.loop-exp.invariant
