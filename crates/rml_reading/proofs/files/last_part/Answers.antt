use Rattle.rml_reading.proofs.LastPart.{last_part_taken}
use Rattle.rml_reading.proofs.files.last_part.Goals as goal

pub returns : goal.returns
returns c =
    last_part_taken c.args.path.now c.part_start-start.result c.part_start-start.ensures.within c.part_start-start.ensures.behind c.part_start-start.ensures.slash
