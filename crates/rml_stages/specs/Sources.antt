-- The bytes of sources.
use Rattle.std.specs.Prelude.{ℕ, List, map}
use Rattle.rml_stages.specs.declared.source.Source.{Source}

abbrev pub contents : List Source → List (List ℕ)
contents sources = map (λ s. s.bytes) sources
