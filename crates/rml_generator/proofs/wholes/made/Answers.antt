use Rattle.std.proofs.Common.{◌≡◌, ℕ, ◌<◌, List, [], ◌∷◌, Err, length, map, ap, arith, subst, sym, ◌∙◌}
use Rattle.std.proofs.lemmas.List.Elements.{All-weaker}
use Rattle.std.proofs.lemmas.Result.{err_from_is_err_and}
use Rattle.rml_types.specs.declared.tree.SchemeTree.{SchemeTree}
use Rattle.rml_types.specs.declared.tree.SchemeTree.TheVariants as tree
use Rattle.rml_types.specs.Nodes.{Nodes}
use Rattle.rml_typed.specs.Typed.{HasInstance}
use Rattle.rml_equations.specs.Coding.{relation_as}
use Rattle.rml_equations.specs.Joins.{Joins, Makes}
use Rattle.rml_equations.proofs.Callers.{linked, longer}
use Rattle.rml_generator.specs.declared.scope.Scope.{Scope}
use Rattle.rml_generator.specs.Scopes.{reads}
use Rattle.rml_generator.proofs.Adding.{alone-within}
use Rattle.rml_generator.proofs.Making.{links-left, links-left-no-memory}
use Rattle.rml_generator.proofs.Scoping.{made-joined, made-prevented, made-stopped}
use Rattle.rml_generator.proofs.wholes.made.Goals as goal

abbrev IsOf : Scope → ℕ → SchemeTree → Type 0
IsOf s con t = HasInstance ((reads s).con con) t

abbrev Made : Scope → ℕ → List SchemeTree → SchemeTree → Type 0
Made s con ts t = IsOf s con (tree.Rel ts (t ∷ []))

-- the graph with a node for what is made, as the calls have it
over : (s : Scope) (g h i : Nodes) (parts : List ℕ) (whole taken : ℕ) → whole ≡ length g.forms → Makes h i (λ types. relation_as s.coding (map types parts) (map types (whole ∷ []))) taken
    → Makes h i (λ types. relation_as s.coding (map types parts) (map types (length g.forms ∷ []))) taken
over s g h i parts whole taken at m = subst (λ n. Makes h i (λ types. relation_as s.coding (map types parts) (map types (n ∷ []))) taken) at m

pub relation-requires-clause-live : goal.relation-requires-clause-live
relation-requires-clause-live c = ap (λ (n : Nodes). n.failed) c.in_ok-whole.ensures.ok ∙ c.requires.live

pub relation-requires-clause-inputs : goal.relation-requires-clause-inputs
relation-requires-clause-inputs c =
    All-weaker (λ n. n < length c.args.graph.now.forms) (λ n. n < length c.var.new.self.forms) (λ n lt. (let l = longer c.args.graph.now c.var.new.self _ c.in_ok-whole.ensures.ok in omega arith)) c.args.parts.now c.requires.within

pub relation-requires-clause-outputs : goal.relation-requires-clause-outputs
relation-requires-clause-outputs c =
    alone-within (length c.var.new.self.forms) c.in_ok-whole.whole (let l = longer c.args.graph.now c.var.new.self _ c.in_ok-whole.ensures.ok in let e = c.in_ok-whole.ensures.node in omega arith)

pub constructor-requires : goal.constructor-requires
constructor-requires c = c.in_ok-taken.ensures.live

pub same-requires-clause-live : goal.same-requires-clause-live
same-requires-clause-live c = c.in_ok-scheme.ensures.ok.live

pub same-requires-clause-a_within : goal.same-requires-clause-a_within
same-requires-clause-a_within c = let w = c.in_ok-taken.ensures.within in let l = c.in_ok-scheme.ensures.ok.count in omega arith

pub same-requires-clause-b_within : goal.same-requires-clause-b_within
same-requires-clause-b_within c = c.in_ok-scheme.ensures.ok.within

pub returns-in_err-whole : goal.returns-in_err-whole
returns-in_err-whole c =
    let s = c.args.scope.now in
    let p = err_from_is_err_and c.from_residual.result c.from_residual.ensures.1 in
    links-left-no-memory s.coding c.args.graph.now c.var.new.self c.args.parts.now (Made s c.args.con) c.from_residual.result p

pub returns-in_err-taken : goal.returns-in_err-taken
returns-in_err-taken c =
    let s = c.args.scope.now in
    let p = err_from_is_err_and c.from_residual-in_err-taken.result c.from_residual-in_err-taken.ensures.1 in
    links-left-no-memory s.coding c.args.graph.now c.relation.new.graph c.args.parts.now (Made s c.args.con) c.from_residual-in_err-taken.result p

pub returns-in_err-scheme : goal.returns-in_err-scheme
returns-in_err-scheme c =
    let s = c.args.scope.now in let g = c.args.graph.now in let h = c.var.new.self in let i = c.relation.new.graph in let j = c.constructor.new.graph in let parts = c.args.parts.now in
    let p = err_from_is_err_and c.from_residual-in_err-scheme.result c.from_residual-in_err-scheme.ensures.1 in
    links-left s.coding g j parts (Made s c.args.con) c.from_residual-in_err-scheme.result p (λ e.
    made-stopped s.coding g h i parts c.in_ok-taken.taken (IsOf s c.args.con) c.requires.within c.in_ok-whole.ensures.ok c.in_ok-whole.ensures.types
    (over s g h i parts c.in_ok-whole.whole c.in_ok-taken.taken c.in_ok-whole.ensures.node c.in_ok-taken.ensures) (c.in_err-scheme.ensures.none (ap Err e)))

pub returns-in_err-same : goal.returns-in_err-same
returns-in_err-same c =
    let s = c.args.scope.now in let g = c.args.graph.now in let h = c.var.new.self in let i = c.relation.new.graph in let j = c.constructor.new.graph in let parts = c.args.parts.now in
    let p = err_from_is_err_and c.from_residual-in_err-same.result c.from_residual-in_err-same.ensures.1 in
    links-left s.coding g c.same.new.graph parts (Made s c.args.con) c.from_residual-in_err-same.result p (λ e.
    made-prevented s.coding g h i parts c.in_ok-taken.taken (IsOf s c.args.con) c.requires.within c.in_ok-whole.ensures.ok c.in_ok-whole.ensures.types
    (over s g h i parts c.in_ok-whole.whole c.in_ok-taken.taken c.in_ok-whole.ensures.node c.in_ok-taken.ensures) j c.in_ok-scheme.scheme c.in_ok-scheme.ensures.ok (c.in_err-same.ensures.none (ap Err e)))

pub returns : goal.returns
returns c =
    let s = c.args.scope.now in let g = c.args.graph.now in let h = c.var.new.self in let i = c.relation.new.graph in let j = c.constructor.new.graph in let k = c.same.new.graph in
    let parts = c.args.parts.now in
    linked s.coding g k parts (Made s c.args.con) c.in_ok-whole.whole
    (subst (Joins s.coding g k parts (Made s c.args.con)) (sym c.in_ok-whole.ensures.node)
    (made-joined s.coding g h i parts c.in_ok-taken.taken (IsOf s c.args.con) c.requires.within c.in_ok-whole.ensures.ok c.in_ok-whole.ensures.types
    (over s g h i parts c.in_ok-whole.whole c.in_ok-taken.taken c.in_ok-whole.ensures.node c.in_ok-taken.ensures) j c.in_ok-scheme.scheme c.in_ok-scheme.ensures.ok k c.in_ok-same.ensures.ok))
