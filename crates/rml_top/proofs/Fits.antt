-- A test of the limits that computes on tokens alone.
use Rattle.std.proofs.Common.{◌≡◌, ℕ, ◌<◌, Bool, true, false, ◌&&◌, List, [], ◌∷◌, ◌++◌, map, refl, subst}
use Rattle.std.specs.Prelude.{nat_lt}
use Rattle.std.specs.List.{fold}
use Rattle.std.proofs.lemmas.Bool.{ltb-true}
use Rattle.rml_syntax.specs.declared.token.Spot.{Spot}
use Rattle.rml_syntax.specs.declared.token.Token.{Token}
use Rattle.rml_syntax.specs.declared.token.Token.TheVariants as token
use Rattle.rml_syntax.specs.declared.token.Key.TheVariants as key
use Rattle.rml_syntax.specs.declared.token.Mark.TheVariants as mark
use Rattle.rml_grammar.specs.Limits.{BeginsRule, OpensBracket, WithinLimits, open_behind, rules_behind}

abbrev opens : Token → Bool
opens (token.Sign mark.OpenRound) = true
opens (token.Sign mark.OpenSquare) = true
opens _ = false

abbrev begins : Token → Bool
begins (token.Word key.KRule) = true
begins (token.Word key.KAxiom) = true
begins _ = false

opens-so : (t : Token) → OpensBracket t → opens t ≡ true
opens-so (token.Sign mark.OpenRound) h = refl
opens-so (token.Sign mark.OpenSquare) h = refl
opens-so _ h = absurd h

begins-so : (t : Token) → BeginsRule t → begins t ≡ true
begins-so (token.Word key.KRule) h = refl
begins-so (token.Word key.KAxiom) h = refl
begins-so _ h = absurd h

abbrev room : Bool → ℕ → ℕ → Bool
room true d n = nat_lt d n
room false d n = true

-- behind d open brackets and r rules, no bracket and no rule of the tokens is one too many
abbrev pub fits : ℕ → ℕ → List Token → Bool
fits d r [] = true
fits d r (t ∷ ts) = room (opens t) d 200 && room (begins t) r 4096 && fits (open_behind d t) (rules_behind r t) ts

abbrev pub tokens_in : List Spot → List Token
tokens_in us = map (λ s. s.token) us

and-left : (a b c : Bool) → (a && b && c) ≡ true → a ≡ true
and-left true b c e = refl
and-left false b c e = absurd cc

and-mid : (a b c : Bool) → (a && b && c) ≡ true → b ≡ true
and-mid true true c e = refl
and-mid true false c e = absurd cc
and-mid false b c e = absurd cc

and-right : (a b c : Bool) → (a && b && c) ≡ true → c ≡ true
and-right true true c e = e
and-right true false c e = absurd cc
and-right false b c e = absurd cc

room-less : (b : Bool) (d n : ℕ) → b ≡ true → room b d n ≡ true → d < n
room-less true d n e h = ltb-true d n h
room-less false d n e h = absurd cc

brackets-fit : (front rest : List Spot) (s : Spot) (d r : ℕ) → fits d r (tokens_in (front ++ s ∷ rest)) ≡ true → OpensBracket s.token → fold (λ n x. open_behind n x.token) d front < 200
brackets-fit [] rest s d r e o = room-less (opens s.token) d 200 (opens-so s.token o) (and-left _ _ _ e)
brackets-fit (f ∷ fs) rest s d r e o = brackets-fit fs rest s (open_behind d f.token) (rules_behind r f.token) (and-right (room (opens f.token) d 200) (room (begins f.token) r 4096) _ e) o

rules-fit : (front rest : List Spot) (s : Spot) (d r : ℕ) → fits d r (tokens_in (front ++ s ∷ rest)) ≡ true → BeginsRule s.token → fold (λ n x. rules_behind n x.token) r front < 4096
rules-fit [] rest s d r e o = room-less (begins s.token) r 4096 (begins-so s.token o) (and-mid _ _ _ e)
rules-fit (f ∷ fs) rest s d r e o = rules-fit fs rest s (open_behind d f.token) (rules_behind r f.token) (and-right (room (opens f.token) d 200) (room (begins f.token) r 4096) _ e) o

pub within : (us : List Spot) → fits 0 0 (tokens_in us) ≡ true → WithinLimits 200 4096 us
within us e = record {
  brackets = λ front rest s cut o. brackets-fit front rest s 0 0 (subst (λ (vs : List Spot). fits 0 0 (tokens_in vs) ≡ true) cut e) o;
  rules = λ front rest s cut o. rules-fit front rest s 0 0 (subst (λ (vs : List Spot). fits 0 0 (tokens_in vs) ≡ true) cut e) o;
}
