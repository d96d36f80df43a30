use Rattle.std.proofs.Common.{◌≡◌, suc, arith, refl, subst, sym}
use Rattle.rml_alone.specs.Texts.{FirstTypedAlone, held}
use Rattle.rml_alone.proofs.Halving.{at-whole, not-both, of-none, pieces-length}
use Rattle.rml_alone.proofs.rules.untyped_under.Goals as goal

pub returns-then-branch : goal.returns-then-branch
returns-then-branch c =
    at-whole c.args.text.now (held c.args.inputs.now c.args.outputs.now) c.args.rule.now c.as_slice.result.now _ c.as_slice.ensures refl (c.in_ok-can_be_typed.ensures.0 c.if-branch.true)

pub loop-typed-init : goal.loop-typed-init
loop-typed-init c =
    let many = pieces-length c.args.rule.now c.as_slice.result.now c.as_slice.ensures in
    record {
      before = of-none c.args.text.now (held c.args.inputs.now c.args.outputs.now) c.args.rule.now;
      after = λ h. not-both c.in_ok-can_be_typed.field-0 (c.in_ok-can_be_typed.ensures.1 h) c.if-branch.false;
      less = omega arith;
      within = omega (arith, many);
    }

pub loop-typed-preserved-then-branch-2 : goal.loop-typed-preserved-then-branch-2
loop-typed-preserved-then-branch-2 c = record {
  before = c.in_ok-can_be_typed-2.ensures.0 c.if-branch-2.true;
  after = c.loop-typed.invariant.after;
  less = (let l = c.loop-typed.invariant.less in omega arith);
  within = c.loop-typed.invariant.within;
}

pub returns : goal.returns
returns c =
    let l = c.loop-typed.invariant.less in
    let w = c.loop-typed.invariant.within in
    let next : c.loop-typed.untyped ≡ suc c.loop-typed.typed = omega arith in (
      omega arith,
      record {
        before = c.loop-typed.invariant.before;
        not_with_it = λ q. c.loop-typed.invariant.after (subst (FirstTypedAlone c.args.text.now (held c.args.inputs.now c.args.outputs.now) c.args.rule.now) (sym next) q);
      },
    )
