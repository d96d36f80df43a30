use Rattle.std.proofs.Common.{◌∙◌, sym, ap, List, ℕ, map}
use Rattle.std.specs.Prelude.{slice_index}
use Rattle.rml_types.specs.UnionFind.{moved}
use Rattle.rml_types.proofs.Turns.{took, stuck-at, skipped-at, on-ok}
use Rattle.rml_types.proofs.graph.unify.equate.Goals as goal

pub returns-then-one-other-clause-ok : goal.returns-then-one-other-clause-ok
returns-then-one-other-clause-ok c =
    let s1 = c.find-one.ensures.same in
    rw (c.find-other.ensures.same, s1) (skipped-at c.args.forms.now c.args.classes.now c.args.shapes.now c.args.work.now.items c.args.m c.args.n c.find-one.result c.find-other.result
    c.requires.graph c.requires.m_within c.requires.n_within c.find-one.ensures.root (c.find-other.ensures.root ∙ ap (λ (r : List ℕ). slice_index r c.args.n) s1) c.if-one-other.true)

pub returns-clause-ok : goal.returns-clause-ok
returns-clause-ok c =
    let s1 = c.find-one.ensures.same in
    let s2 = c.find-other.ensures.same ∙ s1 in
    on-ok c.unite.result c.unite.ensures.classes c.unite.ensures.shapes c.unite.ensures.can c.unite.ensures.work (λ roots shapes can work.
    took c.args.forms.now c.args.classes.now c.args.shapes.now c.args.work.now.items c.args.m c.args.n c.find-one.result c.find-other.result c.min-kept.result c.max-lost.result
    c.requires.graph c.requires.m_within c.requires.n_within c.find-one.ensures.root (c.find-other.ensures.root ∙ ap (λ (r : List ℕ). slice_index r c.args.n) s1)
    c.find-one.ensures.own (ap (λ (r : List ℕ). slice_index r c.find-other.result) (sym s1) ∙ c.find-other.ensures.own) c.if-one-other.false c.min-kept.ensures c.max-lost.ensures
    c.unite.new.classes c.unite.new.shapes c.unite.new.work.items (roots ∙ ap (map (moved c.min-kept.result c.max-lost.result)) s2) shapes can work)

pub returns-clause-clash : goal.returns-clause-clash
returns-clause-clash c =
    let s1 = c.find-one.ensures.same in
    λ e. stuck-at c.args.forms.now c.args.classes.now c.args.shapes.now c.args.work.now.items c.args.m c.args.n c.find-one.result c.find-other.result c.min-kept.result c.max-lost.result
    c.requires.graph c.requires.m_within c.requires.n_within c.find-one.ensures.root (c.find-other.ensures.root ∙ ap (λ (r : List ℕ). slice_index r c.args.n) s1)
    c.find-one.ensures.own (ap (λ (r : List ℕ). slice_index r c.find-other.result) (sym s1) ∙ c.find-other.ensures.own) c.if-one-other.false c.min-kept.ensures c.max-lost.ensures (c.unite.ensures.clash e)
