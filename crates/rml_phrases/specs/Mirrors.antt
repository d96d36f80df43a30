-- When a function of the parser mirrors the grammar of functions: it answers what that reads.
use Rattle.std.specs.Prelude.{◌≡◌, Result, Ok, Err}
use Rattle.rml_grammar.specs.declared.fault.Fault.{Fault}
use Rattle.rml_phrases.specs.declared.stop.Stop.{Stop}
use Rattle.rml_phrases.specs.declared.stop.Stop.TheVariants as stop

-- the fault that it stopped at is that of the reading, unless memory ran out
abbrev pub Fails : {Y : Type 0} → Stop → Result Y Fault → Type 0
Fails stop.Memory read = Unit {0}
Fails (stop.At f) read = read ≡ Err f

-- what it returned, seen by view, is what reading gives, unless memory ran out
abbrev pub Mirrors : {X Y : Type 0} → (X → Y) → Result X Stop → Result Y Fault → Type 0
Mirrors view (Ok x) read = read ≡ Ok (view x)
Mirrors view (Err e) read = Fails e read
