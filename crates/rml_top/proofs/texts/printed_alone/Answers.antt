use Rattle.std.proofs.Common.{rules, ◌≢◌, length}
use Rattle.std.proofs.lemmas.List.{length-map}
use Rattle.rml_stages.specs.Sources.{contents}
use Rattle.rml_top.proofs.Alone.{prints-none, no-alone}
use Rattle.rml_top.proofs.texts.printed_alone.Goals as goal

pub returns-then-sources-eq1-clause-unbuilt : goal.returns-then-sources-eq1-clause-unbuilt
returns-then-sources-eq1-clause-unbuilt c = prints-none _ _ _ c.only_text.ensures.alone c.printed.ensures.only

pub returns-else-sources-eq1-clause-unbuilt : goal.returns-else-sources-eq1-clause-unbuilt
returns-else-sources-eq1-clause-unbuilt c = let many : length (contents c.args.sources.now) ≢ 1 = rw length-map (search rules) in no-alone (contents c.args.sources.now) many
