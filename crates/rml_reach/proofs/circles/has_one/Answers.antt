use Rattle.std.proofs.Common.{◌≡◌, ℕ, arith, subst}
use Rattle.std.specs.Prelude.{slice_index}
use Rattle.std.proofs.lemmas.List.Elements.{Contains-get_or}
use Rattle.rml_reach.proofs.Lists.{read}
use Rattle.rml_reach.proofs.circles.has_one.Goals as goal

pub bounds-chosen-end : goal.bounds-chosen-end
bounds-chosen-end c = c.requires (slice_index c.args.ends.now c.loop-end.end-index) (Contains-get_or c.args.ends.now c.loop-end.end-index 0 (omega arith))

pub returns : goal.returns
returns c = (
  λ h. absurd (cc h),
  λ r. absurd (c.loop-end.invariant r.1.0 (let l = r.1.1 in omega arith)
      (subst (λ (m : ℕ). slice_index c.args.chosen.now m ≡ c.args.own) (let e = read c.args.ends.now r.1.0 r.0 0 r.0 r.1.1 r.1.2 in let f : r.0 ≡ slice_index c.args.ends.now r.1.0 = cc e in f) r.2)),
)
