use Rattle.std.proofs.Common.{◌≡◌, ◌∷◌, [], sym, ap, subst, length, Err, arith}
use Rattle.rml_types.specs.declared.form.UnifyErr.TheVariants as UnifyErr
use Rattle.rml_types.specs.Kept.{known_by}
use Rattle.rml_types.specs.Nodes.{form_in, root_in}
use Rattle.rml_types.specs.Turns.{OnTheWay}
use Rattle.rml_types.specs.Waiting.{PairsBelow}
use Rattle.rml_types.proofs.Pairs.{below-split, none-left}
use Rattle.rml_types.proofs.Steps.{equates}
use Rattle.rml_types.proofs.graph.unify.settle.Goals as goal

split : (c : goal.After-work-in-Some-1) → PairsBelow (length c.args.forms.now) c.pop.new.self.items × PairsBelow (length c.args.forms.now) ((c.in-Some.m, c.in-Some.n) ∷ [])
split c = below-split (length c.args.forms.now) c.pop.new.self.items ((c.in-Some.m, c.in-Some.n) ∷ []) (subst (PairsBelow (length c.args.forms.now)) c.in-Some.ensures.items c.loop-m.invariant.below)

pub equate-requires-clause-m_within : goal.equate-requires-clause-m_within
equate-requires-clause-m_within c = (split c).1.0

pub equate-requires-clause-n_within : goal.equate-requires-clause-n_within
equate-requires-clause-n_within c = (split c).1.1

pub loop-m-preserved : goal.loop-m-preserved
loop-m-preserved c =
    let turn = c.in_ok-equate.ensures.ok in
    let popped = c.in-Some.ensures.items in
    record {
      graph = turn.graph;
      going = turn.goes (root_in c.args.classes.now) c.args.a c.args.b (subst (OnTheWay c.args.forms.now (root_in c.args.classes.now) c.args.a c.args.b c.loop-m.classes c.loop-m.shapes) popped c.loop-m.invariant.going);
      below = turn.below (below-split (length c.args.forms.now) c.pop.new.self.items ((c.in-Some.m, c.in-Some.n) ∷ []) (subst (PairsBelow (length c.args.forms.now)) popped c.loop-m.invariant.below)).0;
    }

pub returns-in_err-equate-clause-clash : goal.returns-in_err-equate-clause-clash
returns-in_err-equate-clause-clash c = λ e. (
    let gave : UnifyErr.Clash ≡ c.in_err-equate.field-0.0 = rw e at c.from_residual.ensures.1 in
    c.in_err-equate.ensures.clash (ap Err (sym gave)) (root_in c.args.classes.now) c.args.a c.args.b
    (subst (OnTheWay c.args.forms.now (root_in c.args.classes.now) c.args.a c.args.b c.loop-m.classes c.loop-m.shapes) c.in-Some.ensures.items c.loop-m.invariant.going))

pub returns-clause-ok : goal.returns-clause-ok
returns-clause-ok c =
    let empty : c.loop-m.work.items ≡ [] = none-left c.loop-m.work.items (let n = c.in_default.ensures.cases.0 in let l = c.loop-m.work.ok.0 in omega (arith, n, l)) in
    equates (form_in c.args.forms.now) (root_in c.args.classes.now) c.args.a c.args.b (root_in c.loop-m.classes) (known_by c.args.forms.now c.loop-m.shapes)
    (subst (OnTheWay c.args.forms.now (root_in c.args.classes.now) c.args.a c.args.b c.loop-m.classes c.loop-m.shapes) empty c.loop-m.invariant.going)
