use Rattle.rml_sound.proofs.Called.{search-safe}
use Rattle.rml_sound.proofs.laws.searches_keep_types.Goals as goal

pub returns : goal.returns
returns c = λ p r ins outs vs n typed. search-safe p typed r ins outs vs n
