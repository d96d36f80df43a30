use Rattle.rml_alone.proofs.Verdicts.{val-verdict}
use Rattle.rml_alone.proofs.vals.is_val_typed.Goals as goal

pub returns : goal.returns
returns c = λ p n is fits. val-verdict p c.args.val.now n c.args.text.now c.in_ok-tree.tree c.is_of-found.result is fits c.in_ok-tree.ensures c.is_of-found.ensures
