use Rattle.std.proofs.Common.{[], ◌∷◌, get_or, refl, arith}
use Rattle.rml_fol.specs.TermText.{variable_text}
use Rattle.rml_fol.proofs.Separated.{item-written, items-written}
use Rattle.rml_fol.proofs.words.write_items.Goals as goal

pub loop-i-preserved : goal.loop-i-preserved
loop-i-preserved c = item-written c.args.out.now.items (44 ∷ 32 ∷ []) variable_text c.args.xs.now c.loop-i.i (get_or c.args.xs.now c.loop-i.i 0) 0 c.loop-i.invariant (omega arith) refl c.in_ok-separate.ensures c.in_ok-write_variable.ensures

pub returns : goal.returns
returns c = items-written c.args.out.now.items (44 ∷ 32 ∷ []) variable_text c.args.xs.now c.loop-i.i c.loop-i.invariant (omega arith)
