use Rattle.std.proofs.Common.{◌∷◌, ◌++◌, [], length, take, refl, sym, ap, arith, subst, get_or}
use Rattle.std.proofs.lemmas.List.{take_more}
use Rattle.rml_types.specs.General.{InOrder}
use Rattle.rml_types.specs.Kept.{known_by}
use Rattle.rml_types.specs.Spelled.{Names, numbers_in}
use Rattle.rml_types.proofs.Numbering.{numbered-next, vars-more}
use Rattle.rml_types.proofs.graph.general.numbered.Goals as goal

pub loop-class-preserved : goal.loop-class-preserved
loop-class-preserved c =
    let known = known_by c.args.forms.now c.args.shapes.now in
    let class = get_or c.args.classes.now c.loop-class.class-index 0 in
    let next = numbered-next known (take c.loop-class.class-index c.args.classes.now) c.loop-class.labels.items c.loop-class.vars.keys c.name.new.vars.keys class (known class) c.in_ok-label.label
    c.requires.unfixed refl c.in_ok-label.ensures.label c.in_ok-label.ensures.vars c.loop-class.invariant.names c.loop-class.invariant.order in
    let so_far = take_more c.args.classes.now c.loop-class.class-index 0 c.loop-class-test.true in
    record {
      few = (let m = vars-more c.loop-class.vars.keys class (known class) in let e = ap length c.in_ok-label.ensures.vars in let f = c.loop-class.invariant.few in omega arith);
      names = subst (λ cs. Names known c.name.new.vars.keys cs c.push.new.self.items) (sym so_far) (subst (λ ls. Names known c.name.new.vars.keys (take c.loop-class.class-index c.args.classes.now ++ class ∷ []) ls) (sym c.in_ok-push.ensures.items) next.0);
      order = subst (λ ls. InOrder 0 (numbers_in ls) (length c.name.new.vars.keys)) (sym c.in_ok-push.ensures.items) next.1;
    }
