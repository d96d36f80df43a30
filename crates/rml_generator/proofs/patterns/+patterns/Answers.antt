use denote.Param.Weighed.{at_most}
use Rattle.std.proofs.lemmas.Grind.{common_steps}
use Rattle.std.proofs.Common.{◌≡◌, ◌∙◌, List, [], ◌∷◌, ap, arith, Err, sym}
use Rattle.std.proofs.lemmas.Result.{err_from_is_err_and}
use Rattle.rml_types.specs.declared.tree.SchemeTree.{SchemeTree}
use Rattle.rml_types.specs.declared.tree.SchemeTree.TheVariants as tree
use Rattle.rml_resolved.specs.declared.trees.RPat.{RPat, size-RPat}
use Rattle.rml_resolved.specs.declared.trees.RPat.TheOpen.{RPat-F}
use Rattle.rml_resolved.specs.declared.trees.RPat.TheVariants as pattern
use Rattle.rml_typed.specs.Typed.{HasInstance, PatternOf, PatternsOf, type_of_literal}
use Rattle.rml_equations.proofs.Callers.{IsChainOf, IsListOf}
use Rattle.rml_generator.specs.declared.scope.Scope.{Scope}
use Rattle.rml_generator.specs.Adds.{Alone, Told, each_node}
use Rattle.rml_generator.specs.Scopes.{reads, watched}
use Rattle.rml_generator.proofs.Adding.{found-alone, left-no-memory, whole-found, whole-left}
use Rattle.rml_generator.proofs.Owning.{node-later, node-within, nodes-within, serves-later}
use Rattle.rml_generator.proofs.PatternParts.{bind-found, bind-left, bind-left-later, bind-refused, pattern-found, patterns-zip, zip-patterns}
use Rattle.rml_generator.proofs.Turning.{EachOf, each-found, each-left, each-more, each-none}
use Rattle.rml_generator.proofs.patterns.+patterns.Goals as goal

abbrev AreOf : Scope → List RPat → Told → List SchemeTree → Type 0
AreOf s ps told ts = PatternsOf (reads s) told.vars ps ts

abbrev IsOf : Scope → Told → RPat → SchemeTree → Type 0
IsOf s told p t = PatternOf (reads s) told.vars p t

pub pattern-made-requires-clause-within : goal.pattern-made-requires-clause-within
pattern-made-requires-clause-within t c =
    let s = c.args.scope.now in
    nodes-within s.coding (watched s) c.args.graph.now c.patterns.new.graph (AreOf s c.as_slice.result.now) c.in_ok-nodes-in-Con.nodes.items c.deref.result.now c.deref.ensures.value c.in_ok-nodes-in-Con.ensures.ok

pub pattern-returns-in_err-nodes-in-Con : goal.pattern-returns-in_err-nodes-in-Con
pattern-returns-in_err-nodes-in-Con t c =
    let s = c.args.scope.now in let g = c.args.graph.now in let h = c.patterns.new.graph in
    let p = err_from_is_err_and c.from_residual.result c.from_residual.ensures.1 in
    pattern-found s g h c.args.one.now (RPat-F.Con c.in-Con.c c.in-Con.parts) c.from_residual.result (pattern.rolls-Con c.in-Con.c c.in-Con.parts ∙ sym c.in-Con.is)
    (whole-left s.coding (watched s) (AreOf s) (λ ts t. HasInstance ((reads s).con c.in-Con.c) (tree.Rel ts (t ∷ []))) g h h c.in-Con.parts c.as_slice.result.now c.from_residual.result c.as_slice.ensures p c.in_err-nodes-in-Con.ensures)

pub pattern-returns-in_ok-nodes-in-Con : goal.pattern-returns-in_ok-nodes-in-Con
pattern-returns-in_ok-nodes-in-Con t c =
    let s = c.args.scope.now in let g = c.args.graph.now in let h = c.patterns.new.graph in let i = c.made.new.graph in
    pattern-found s g i c.args.one.now (RPat-F.Con c.in-Con.c c.in-Con.parts) c.made.result (pattern.rolls-Con c.in-Con.c c.in-Con.parts ∙ sym c.in-Con.is)
    (whole-found s.coding (watched s) (AreOf s) (λ ts t. HasInstance ((reads s).con c.in-Con.c) (tree.Rel ts (t ∷ []))) g h i c.in-Con.parts c.as_slice.result.now c.in_ok-nodes-in-Con.nodes.items c.deref.result.now c.made.result c.as_slice.ensures c.deref.ensures.value c.in_ok-nodes-in-Con.ensures.ok c.made.ensures)

pub pattern-whole_tuple-requires-clause-within : goal.pattern-whole_tuple-requires-clause-within
pattern-whole_tuple-requires-clause-within t c =
    let s = c.args.scope.now in
    nodes-within s.coding (watched s) c.args.graph.now c.patterns-in-Tuple.new.graph (AreOf s c.as_slice-in-Tuple.result.now) c.in_ok-nodes-in-Tuple.nodes.items c.deref-in-Tuple.result.now c.deref-in-Tuple.ensures.value c.in_ok-nodes-in-Tuple.ensures.ok

pub pattern-returns-in_err-nodes-in-Tuple : goal.pattern-returns-in_err-nodes-in-Tuple
pattern-returns-in_err-nodes-in-Tuple t c =
    let s = c.args.scope.now in let g = c.args.graph.now in let h = c.patterns-in-Tuple.new.graph in
    let p = err_from_is_err_and c.from_residual-in_err-nodes-in-Tuple.result c.from_residual-in_err-nodes-in-Tuple.ensures.1 in
    pattern-found s g h c.args.one.now (RPat-F.Tuple c.in-Tuple.parts) c.from_residual-in_err-nodes-in-Tuple.result (pattern.rolls-Tuple c.in-Tuple.parts ∙ sym c.in-Tuple.is)
    (whole-left s.coding (watched s) (AreOf s) (λ ts t. t ≡ tree.Tuple ts) g h h c.in-Tuple.parts c.as_slice-in-Tuple.result.now c.from_residual-in_err-nodes-in-Tuple.result c.as_slice-in-Tuple.ensures p c.in_err-nodes-in-Tuple.ensures)

pub pattern-returns-in_ok-nodes-in-Tuple : goal.pattern-returns-in_ok-nodes-in-Tuple
pattern-returns-in_ok-nodes-in-Tuple t c =
    let s = c.args.scope.now in let g = c.args.graph.now in let h = c.patterns-in-Tuple.new.graph in let i = c.whole_tuple.new.graph in
    pattern-found s g i c.args.one.now (RPat-F.Tuple c.in-Tuple.parts) c.whole_tuple.result (pattern.rolls-Tuple c.in-Tuple.parts ∙ sym c.in-Tuple.is)
    (whole-found s.coding (watched s) (AreOf s) (λ ts t. t ≡ tree.Tuple ts) g h i c.in-Tuple.parts c.as_slice-in-Tuple.result.now c.in_ok-nodes-in-Tuple.nodes.items c.deref-in-Tuple.result.now c.whole_tuple.result c.as_slice-in-Tuple.ensures c.deref-in-Tuple.ensures.value c.in_ok-nodes-in-Tuple.ensures.ok (c.whole_tuple.ensures s.coding))

pub pattern-list-requires-clause-within : goal.pattern-list-requires-clause-within
pattern-list-requires-clause-within t c =
    let s = c.args.scope.now in
    nodes-within s.coding (watched s) c.args.graph.now c.patterns-in-List.new.graph (AreOf s c.as_slice-in-List.result.now) c.in_ok-nodes-in-List.nodes.items c.deref-in-List.result.now c.deref-in-List.ensures.value c.in_ok-nodes-in-List.ensures.ok

pub pattern-returns-in_err-nodes-in-List : goal.pattern-returns-in_err-nodes-in-List
pattern-returns-in_err-nodes-in-List t c =
    let s = c.args.scope.now in let g = c.args.graph.now in let h = c.patterns-in-List.new.graph in
    let p = err_from_is_err_and c.from_residual-in_err-nodes-in-List.result c.from_residual-in_err-nodes-in-List.ensures.1 in
    pattern-found s g h c.args.one.now (RPat-F.List c.in-List.items) c.from_residual-in_err-nodes-in-List.result (pattern.rolls-List c.in-List.items ∙ sym c.in-List.is)
    (whole-left s.coding (watched s) (AreOf s) IsListOf g h h c.in-List.items c.as_slice-in-List.result.now c.from_residual-in_err-nodes-in-List.result c.as_slice-in-List.ensures p c.in_err-nodes-in-List.ensures)

pub pattern-returns-in_ok-nodes-in-List : goal.pattern-returns-in_ok-nodes-in-List
pattern-returns-in_ok-nodes-in-List t c =
    let s = c.args.scope.now in let g = c.args.graph.now in let h = c.patterns-in-List.new.graph in let i = c.list.new.graph in
    pattern-found s g i c.args.one.now (RPat-F.List c.in-List.items) c.list.result (pattern.rolls-List c.in-List.items ∙ sym c.in-List.is)
    (whole-found s.coding (watched s) (AreOf s) IsListOf g h i c.in-List.items c.as_slice-in-List.result.now c.in_ok-nodes-in-List.nodes.items c.deref-in-List.result.now c.list.result c.as_slice-in-List.ensures c.deref-in-List.ensures.value c.in_ok-nodes-in-List.ensures.ok (c.list.ensures s.coding))

pub pattern-whole_chain-requires-clause-within : goal.pattern-whole_chain-requires-clause-within
pattern-whole_chain-requires-clause-within t c =
    let s = c.args.scope.now in
    nodes-within s.coding (watched s) c.args.graph.now c.patterns-in-Cons.new.graph (AreOf s c.as_slice-in-Cons.result.now) c.in_ok-nodes-in-Cons.nodes.items c.deref-in-Cons.result.now c.deref-in-Cons.ensures.value c.in_ok-nodes-in-Cons.ensures.ok

pub pattern-returns-in_err-nodes-in-Cons : goal.pattern-returns-in_err-nodes-in-Cons
pattern-returns-in_err-nodes-in-Cons t c =
    let s = c.args.scope.now in let g = c.args.graph.now in let h = c.patterns-in-Cons.new.graph in
    let p = err_from_is_err_and c.from_residual-in_err-nodes-in-Cons.result c.from_residual-in_err-nodes-in-Cons.ensures.1 in
    pattern-found s g h c.args.one.now (RPat-F.Cons c.in-Cons.items) c.from_residual-in_err-nodes-in-Cons.result (pattern.rolls-Cons c.in-Cons.items ∙ sym c.in-Cons.is)
    (whole-left s.coding (watched s) (AreOf s) IsChainOf g h h c.in-Cons.items c.as_slice-in-Cons.result.now c.from_residual-in_err-nodes-in-Cons.result c.as_slice-in-Cons.ensures p c.in_err-nodes-in-Cons.ensures)

pub pattern-returns-in_ok-nodes-in-Cons : goal.pattern-returns-in_ok-nodes-in-Cons
pattern-returns-in_ok-nodes-in-Cons t c =
    let s = c.args.scope.now in let g = c.args.graph.now in let h = c.patterns-in-Cons.new.graph in let i = c.whole_chain.new.graph in
    pattern-found s g i c.args.one.now (RPat-F.Cons c.in-Cons.items) c.whole_chain.result (pattern.rolls-Cons c.in-Cons.items ∙ sym c.in-Cons.is)
    (whole-found s.coding (watched s) (AreOf s) IsChainOf g h i c.in-Cons.items c.as_slice-in-Cons.result.now c.in_ok-nodes-in-Cons.nodes.items c.deref-in-Cons.result.now c.whole_chain.result c.as_slice-in-Cons.ensures c.deref-in-Cons.ensures.value c.in_ok-nodes-in-Cons.ensures.ok (c.whole_chain.ensures s.coding))

pub pattern-variable-requires-in-Bind : goal.pattern-variable-requires-in-Bind
pattern-variable-requires-in-Bind t c =
    let s = c.args.scope.now in
    serves-later s c.args.graph.now c.pattern.new.graph (Alone (λ told t. IsOf s told c.get.result.now t)) (c.in_ok-node-in-Bind.node ∷ []) c.requires c.in_ok-node-in-Bind.ensures.ok

pub pattern-same-requires-clause-a_within : goal.pattern-same-requires-clause-a_within
pattern-same-requires-clause-a_within t c =
    let s = c.args.scope.now in
    node-later s.coding (watched s) c.args.graph.now c.pattern.new.graph c.variable-in-Bind.new.graph (Alone (λ told t. IsOf s told c.get.result.now t)) (Alone (λ told t. t ≡ told.vars c.in-Bind.x))
    c.in_ok-node-in-Bind.node c.in_ok-named-in-Bind.named c.in_ok-node-in-Bind.ensures.ok c.in_ok-named-in-Bind.ensures.ok

pub pattern-same-requires-clause-b_within : goal.pattern-same-requires-clause-b_within
pattern-same-requires-clause-b_within t c =
    let s = c.args.scope.now in
    node-within s.coding (watched s) c.pattern.new.graph c.variable-in-Bind.new.graph (Alone (λ told t. t ≡ told.vars c.in-Bind.x)) c.in_ok-named-in-Bind.named c.in_ok-named-in-Bind.ensures.ok

pub pattern-returns-in_err-node-in-Bind : goal.pattern-returns-in_err-node-in-Bind
pattern-returns-in_err-node-in-Bind t c =
    let s = c.args.scope.now in let g = c.args.graph.now in let h = c.pattern.new.graph in
    let p = err_from_is_err_and c.from_residual-in_err-node-in-Bind.result c.from_residual-in_err-node-in-Bind.ensures.1 in
    bind-left s g h h c.args.one.now c.in-Bind.x c.in-Bind.part c.get.result.now c.in-Bind.is c.get.ensures c.from_residual-in_err-node-in-Bind.result p c.in_err-node-in-Bind.ensures

pub pattern-returns-in_err-named-in-Bind : goal.pattern-returns-in_err-named-in-Bind
pattern-returns-in_err-named-in-Bind t c =
    let s = c.args.scope.now in let g = c.args.graph.now in let h = c.pattern.new.graph in let i = c.variable-in-Bind.new.graph in
    let p = err_from_is_err_and c.from_residual-in_err-named-in-Bind.result c.from_residual-in_err-named-in-Bind.ensures.1 in
    bind-left-later s g h i i c.args.one.now c.in-Bind.x c.in-Bind.part c.get.result.now c.in-Bind.is c.get.ensures c.in_ok-node-in-Bind.node c.from_residual-in_err-named-in-Bind.result p c.requires.within
    c.in_ok-node-in-Bind.ensures.ok c.in_err-named-in-Bind.ensures

pub pattern-returns-in_err-same-in-Bind : goal.pattern-returns-in_err-same-in-Bind
pattern-returns-in_err-same-in-Bind t c =
    let s = c.args.scope.now in let g = c.args.graph.now in let h = c.pattern.new.graph in let i = c.variable-in-Bind.new.graph in
    let p = err_from_is_err_and c.from_residual-in_err-same-in-Bind.result c.from_residual-in_err-same-in-Bind.ensures.1 in
    bind-refused s g h i c.same.new.graph c.args.one.now c.in-Bind.x c.in-Bind.part c.get.result.now c.in-Bind.is c.get.ensures c.in_ok-node-in-Bind.node c.in_ok-named-in-Bind.named
    c.from_residual-in_err-same-in-Bind.result p c.requires.within c.in_ok-node-in-Bind.ensures.ok c.in_ok-named-in-Bind.ensures.ok (λ e. c.in_err-same-in-Bind.ensures.none (ap Err e))

pub pattern-returns-in_ok-same-in-Bind : goal.pattern-returns-in_ok-same-in-Bind
pattern-returns-in_ok-same-in-Bind t c =
    let s = c.args.scope.now in let g = c.args.graph.now in let h = c.pattern.new.graph in let i = c.variable-in-Bind.new.graph in
    bind-found s g h i c.same.new.graph c.args.one.now c.in-Bind.x c.in-Bind.part c.get.result.now c.in-Bind.is c.get.ensures c.in_ok-node-in-Bind.node c.in_ok-named-in-Bind.named
    c.requires.within c.in_ok-node-in-Bind.ensures.ok c.in_ok-named-in-Bind.ensures.ok c.in_ok-same-in-Bind.ensures.ok

pub pattern-returns-in-Any : goal.pattern-returns-in-Any
pattern-returns-in-Any t c =
    let s = c.args.scope.now in
    pattern-found s c.args.graph.now c.any_type.new.graph c.args.one.now RPat-F.Any c.any_type.result (pattern.rolls-Any ∙ sym c.in-Any.is)
    (found-alone s.coding (watched s) c.args.graph.now c.any_type.new.graph (λ t. Unit {0}) c.any_type.result c.requires.live (c.any_type.ensures s.coding))

pub pattern-returns-in-Lit : goal.pattern-returns-in-Lit
pattern-returns-in-Lit t c =
    let s = c.args.scope.now in
    pattern-found s c.args.graph.now c.whole_literal.new.graph c.args.one.now (RPat-F.Lit c.in-Lit.lit) c.whole_literal.result (pattern.rolls-Lit c.in-Lit.lit ∙ sym c.in-Lit.is)
    (found-alone s.coding (watched s) c.args.graph.now c.whole_literal.new.graph (λ t. t ≡ type_of_literal c.in-Lit.lit) c.whole_literal.result c.requires.live (c.whole_literal.ensures s.coding))

pub pattern-returns-in-Var : goal.pattern-returns-in-Var
pattern-returns-in-Var t c =
    pattern-found c.args.scope.now c.args.graph.now c.variable.new.graph c.args.one.now (RPat-F.Var c.in-Var.x) c.variable.result (pattern.rolls-Var c.in-Var.x ∙ sym c.in-Var.is) c.variable.ensures

pub patterns-loop-part-init : goal.patterns-loop-part-init
patterns-loop-part-init t c =
    let s = c.args.scope.now in
    each-none s.coding (watched s) (IsOf s) c.args.all.now c.args.graph.now c.new-nodes.result.items c.requires.live c.new-nodes.ensures.items

pub patterns-loop-part-preserved : goal.patterns-loop-part-preserved
patterns-loop-part-preserved t c =
    let s = c.args.scope.now in
    each-more s.coding (watched s) (IsOf s) c.args.all.now c.args.graph.now c.loop-part.graph c.pattern.new.graph c.loop-part.part-index c.part-item.result c.loop-part.nodes.items c.push.new.self.items c.in_ok-node.node
    c.loop-part-test.true c.part-item.is c.in_ok-push.ensures.items c.requires.within c.loop-part.invariant c.in_ok-node.ensures.ok

pub patterns-pattern-requires : goal.patterns-pattern-requires
patterns-pattern-requires t c =
    let s = c.args.scope.now in
    let deepest = at_most (λ (x : RPat). size-RPat x) c.args.all.now c.loop-part.part-index c.part-item.result c.loop-part-test.true in
    let same = ap (λ (x : RPat). size-RPat x) c.part-item.is in
    (first_of (omega (arith, deepest, same, c.decreases), grind (arith, common_steps, deepest, same, c.decreases)), serves-later s c.args.graph.now c.loop-part.graph (EachOf s.coding (watched s) (IsOf s) c.args.all.now c.loop-part.part-index) c.loop-part.nodes.items c.requires c.loop-part.invariant)

pub patterns-returns-in_err-node : goal.patterns-returns-in_err-node
patterns-returns-in_err-node t c =
    let s = c.args.scope.now in
    let p = err_from_is_err_and c.from_residual.result c.from_residual.ensures.1 in
    each-left s.coding (watched s) (IsOf s) c.args.all.now c.args.graph.now c.loop-part.graph c.pattern.new.graph c.pattern.new.graph c.loop-part.part-index c.part-item.result c.loop-part.nodes.items
    (AreOf s c.args.all.now) c.from_residual.result p c.loop-part-test.true c.part-item.is c.requires.within (λ told ts u. zip-patterns (reads s) told.vars c.args.all.now ts u) c.loop-part.invariant c.in_err-node.ensures

pub patterns-returns-in_err-push : goal.patterns-returns-in_err-push
patterns-returns-in_err-push t c =
    let s = c.args.scope.now in
    let p = err_from_is_err_and c.from_residual-in_err-push.result c.from_residual-in_err-push.ensures.1 in
    left-no-memory s.coding (watched s) each_node c.args.graph.now c.pattern.new.graph (AreOf s c.args.all.now) c.from_residual-in_err-push.result p

pub patterns-returns : goal.patterns-returns
patterns-returns t c =
    let s = c.args.scope.now in
    each-found s.coding (watched s) (IsOf s) c.args.all.now c.args.graph.now c.loop-part.graph c.loop-part.part-index c.loop-part.nodes (AreOf s c.args.all.now) c.loop-part-test.false
    (λ told ts z. patterns-zip (reads s) told.vars c.args.all.now ts z) (λ told ts u. zip-patterns (reads s) told.vars c.args.all.now ts u) c.loop-part.invariant
