use Rattle.rml_acts.proofs.Silent.{built-in-plain}
use Rattle.rml_acts.proofs.laws.built_ins_are_plain.Goals as goal

pub returns : goal.returns
returns c = λ k rs ys e s quiet fits. built-in-plain c.what_stays.ensures.text k rs ys e s quiet fits
