-- Reading an integer, by whether a minus comes first.
use Rattle.std.proofs.Common.{◌≡◌, ℕ, ◌<◌, List, [], ◌∷◌, Bool, true, false, length, get_or, drop, sym, ap, arith}
use Rattle.std.specs.Prelude.{if◌then◌else◌, option_map, option_and_then}
use Rattle.rml_builtin.specs.Decimal.{integer_of, is_minus, natural_of, read, with_sign}

pub read-by-sign : (bytes : List ℕ) → 0 < length bytes → (minus : Bool) → minus ≡ is_minus (get_or bytes 0 0) → read bytes ≡ option_and_then integer_of (option_map (with_sign minus) (natural_of (drop (if minus then 1 else 0) bytes)))
read-by-sign [] some minus is = absurd (omega (arith, some))
read-by-sign (c ∷ cs) some true is = ap (λ b. option_and_then integer_of (if b then option_map (with_sign true) (natural_of cs) else option_map (with_sign false) (natural_of (c ∷ cs)))) (sym is)
read-by-sign (c ∷ cs) some false is = ap (λ b. option_and_then integer_of (if b then option_map (with_sign true) (natural_of cs) else option_map (with_sign false) (natural_of (c ∷ cs)))) (sym is)
