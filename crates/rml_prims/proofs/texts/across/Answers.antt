use Rattle.rml_prims.proofs.Shifted.{across-bytes}
use Rattle.rml_prims.proofs.texts.across.Goals as goal

pub returns-else-bytes-eq0 : goal.returns-else-bytes-eq0
returns-else-bytes-eq0 c = λ bs each is then. across-bytes c.args.bytes c.args.first c.args.second bs each c.requires is then
