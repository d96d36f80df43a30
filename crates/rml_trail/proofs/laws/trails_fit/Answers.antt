use Rattle.rml_trail.proofs.Trails.{fits-nothing, fits-added, fits-frames, fits-taken_back}
use Rattle.rml_trail.proofs.laws.trails_fit.Goals as goal

pub returns-clause-added : goal.returns-clause-added
returns-clause-added c = fits-added

pub returns-clause-frames : goal.returns-clause-frames
returns-clause-frames c = fits-frames

pub returns-clause-taken_back : goal.returns-clause-taken_back
returns-clause-taken_back c = fits-taken_back

pub returns-clause-nothing : goal.returns-clause-nothing
returns-clause-nothing c = fits-nothing
