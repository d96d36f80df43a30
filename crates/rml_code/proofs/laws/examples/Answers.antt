use Rattle.rml_code.proofs.Tried.{runs_whole, is_cut, is_narrow, is_not_opened, sample_fits}
use Rattle.rml_code.proofs.laws.examples.Goals as goal

pub returns : goal.returns
returns c = record { whole = runs_whole; cut_short = is_cut; too_narrow = is_narrow; not_opened = is_not_opened; fits = sample_fits }
