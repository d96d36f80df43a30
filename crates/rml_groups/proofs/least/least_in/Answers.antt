use Rattle.std.proofs.Common.{arith}
use Rattle.rml_alone.proofs.Callers.{not-both}
use Rattle.rml_groups.proofs.Halved.{between-begun, between-ended}
use Rattle.rml_groups.proofs.least.least_in.Goals as goal

pub loop-typed-init : goal.loop-typed-init
loop-typed-init c = record { fits = omega arith; within = omega arith; between = λ p text is found. between-begun p text c.args.rule found }

pub loop-typed-preserved-then-branch : goal.loop-typed-preserved-then-branch
loop-typed-preserved-then-branch c = record {
  fits = omega arith;
  within = c.loop-typed.invariant.within;
  between = λ p text is found. record { less = omega arith; before = (c.in_ok-can_be_typed.ensures p text is).0 c.if-branch.true; never = (c.loop-typed.invariant.between p text is found).never };
}

pub loop-typed-preserved : goal.loop-typed-preserved
loop-typed-preserved c = record {
  fits = omega arith;
  within = (let within = c.loop-typed.invariant.within in omega arith);
  between = λ p text is found. record {
    less = omega arith;
    before = (c.loop-typed.invariant.between p text is found).before;
    never = λ typed. not-both c.in_ok-can_be_typed.field-0 ((c.in_ok-can_be_typed.ensures p text is).1 typed) c.if-branch.false;
  };
}

pub returns : goal.returns
returns c = λ p text is found. between-ended p text c.args.rule c.loop-typed.typed c.loop-typed.untyped found c.loop-typed.invariant.within c.loop-typed-test.false (c.loop-typed.invariant.between p text is found)
