use Rattle.std.proofs.Common.{◌≡◌, ◌∙◌, ◌<◌, sym, length, subst}
use Rattle.std.proofs.lemmas.List.{get_or_default}
use Rattle.rml_types.specs.Runs.{Fresh}
use Rattle.rml_types.proofs.Growth.{begun-ready, grows-trans, instance-at}
use Rattle.rml_types.proofs.graph.Graph.instance.Goals as goal

pub place-requires-clause-ready : goal.place-requires-clause-ready
place-requires-clause-ready c =
    let all = c.deref.ensures.value ∙ c.in_ok-labels.ensures in
    let count : length c.deref-2.result.now ≡ c.args.scheme.now.vars = c.deref-2.ensures.len ∙ c.in_ok-vars.ensures.count in
    rw (all, count) (begun-ready c.args.scheme.now.vars c.args.scheme.now.body c.args.scheme.now.vars_named)

pub place-requires-clause-vars_within : goal.place-requires-clause-vars_within
place-requires-clause-vars_within c k d lt =
    let fresh = subst (Fresh c.args.self.now c.fresh.new.self) (sym c.deref-2.ensures.value) c.in_ok-vars.ensures.ok in
    subst (λ n. n < length c.fresh.new.self.forms) (get_or_default c.deref-2.result.now k 0 d lt) (fresh.within k lt)

pub returns-clause-grows : goal.returns-clause-grows
returns-clause-grows c = grows-trans c.args.self.now c.fresh.new.self c.place.new.self c.fresh.ensures.grows c.place.ensures.grows

pub returns-clause-ok : goal.returns-clause-ok
returns-clause-ok c = instance-at c.args.self.now c.fresh.new.self c.place.new.self c.deref-2.result.now c.deref.result.now c.args.scheme.now c.place.result c.fresh.ensures.grows
    (subst (Fresh c.args.self.now c.fresh.new.self) (sym c.deref-2.ensures.value) c.in_ok-vars.ensures.ok) (c.deref-2.ensures.len ∙ c.in_ok-vars.ensures.count) (c.deref.ensures.value ∙ c.in_ok-labels.ensures)
    c.place.ensures.grows c.place.ensures.within c.place.ensures.types
