use Rattle.std.proofs.Common.{◌∙◌, ℕ, List, Err, refl, sym, ap, subst}
use Rattle.std.specs.List.{AllZip}
use Rattle.rml_types.specs.declared.tree.SchemeTree.{SchemeTree}
use Rattle.rml_types.specs.Finite.{HasTypes}
use Rattle.rml_types.specs.Nodes.{HasNoFixed, Nodes}
use Rattle.rml_equations.specs.declared.coding.Coding.TheVariants.{Plain}
use Rattle.rml_alone.proofs.Callers.{not-both}
use Rattle.rml_groups.specs.declared.members.Member.{Member}
use Rattle.rml_groups.specs.Found.{IsReadOff}
use Rattle.rml_groups.proofs.Beginning.{begins-read}
use Rattle.rml_groups.proofs.ReadOff.{general-found, no-types, refuted}
use Rattle.rml_groups.proofs.whole.general.Goals as goal

pub returns-in-Err-Untyped : goal.returns-in-Err-Untyped
returns-in-Err-Untyped c = λ p text is.
    let u = c.args.unit.now in let g = c.begin.new.graph in let start = c.in_ok-start.start in let ms = c.deref-2.result.now in let nodes = c.deref.result.now in
    refuted p text u is g ms nodes (begins-read Plain u.rels.now u.number g start.members.items ms start.nodes.items nodes c.deref-2.ensures.value c.deref.ensures.value c.in_ok-start.ensures)
    (c.equations-made.ensures.none (c.in-Err-Untyped.is ∙ ap Err (rw c.in-Err-Untyped.is at c.in-Err-Untyped.field-0-is)))

pub returns-then-not-acyclic : goal.returns-then-not-acyclic
returns-then-not-acyclic c = λ p text is.
    let u = c.args.unit.now in let g = c.begin.new.graph in let start = c.in_ok-start.start in let ms = c.deref-2.result.now in let nodes = c.deref.result.now in
    no-types p text u is g c.equations-made.new.graph ms nodes (begins-read Plain u.rels.now u.number g start.members.items ms start.nodes.items nodes c.deref-2.ensures.value c.deref.ensures.value c.in_ok-start.ensures)
    c.in-Ok.ensures.ok (λ types. not-both _ (c.if-not-acyclic.ensures.exact.1 types) refl)

pub read_off-requires-clause-finite : goal.read_off-requires-clause-finite
read_off-requires-clause-finite c = subst (λ (h : Nodes). (types : ℕ → SchemeTree) × HasTypes h types) (sym c.if-not-acyclic.ensures.same) (c.if-not-acyclic.ensures.exact.0 refl)

pub read_off-requires-clause-unfixed : goal.read_off-requires-clause-unfixed
read_off-requires-clause-unfixed c = subst (λ (h : Nodes). HasNoFixed h) (sym c.if-not-acyclic.ensures.same) (c.in-Ok.ensures.ok.unfixed c.in_ok-start.ensures.unfixed)

pub returns : goal.returns
returns c = λ p text is.
    let u = c.args.unit.now in let g = c.begin.new.graph in let start = c.in_ok-start.start in let ms = c.deref-2.result.now in let nodes = c.deref.result.now in let all = c.in_ok-all.all in
    general-found p text u is g c.equations-made.new.graph ms nodes (begins-read Plain u.rels.now u.number g start.members.items ms start.nodes.items nodes c.deref-2.ensures.value c.deref.ensures.value c.in_ok-start.ensures)
    c.in-Ok.ensures.ok (c.if-not-acyclic.ensures.exact.0 refl) all
    (subst (λ (h : Nodes). AllZip (IsReadOff h) ms all.items) c.if-not-acyclic.ensures.same
    (subst (λ (xs : List Member). AllZip (IsReadOff c.acyclic.new.self) xs all.items) (c.deref-3.ensures.value ∙ sym c.deref-2.ensures.value) c.in_ok-all.ensures))
