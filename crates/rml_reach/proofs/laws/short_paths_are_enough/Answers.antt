use Rattle.rml_reach.proofs.WithinLemmas.{within-enough, within-path}
use Rattle.rml_reach.proofs.laws.short_paths_are_enough.Goals as goal

pub returns-clause-enough : goal.returns-clause-enough
returns-clause-enough c = within-enough

pub returns-clause-sound : goal.returns-clause-sound
returns-clause-sound c n edges = within-path edges n
