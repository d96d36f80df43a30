-- How many brackets are open behind some tokens, and how many rules their last relation has, by counting alone. What it
-- means that no bracket and no rule is one too many, and that a fault stands where the first one is.
use Rattle.std.specs.Prelude.{◌≡◌, ℕ, ◌+◌, ◌-◌, ◌<◌, List, ◌∷◌, ◌++◌, length, fold}
use Rattle.rml_syntax.specs.declared.token.Spot.{Spot}
use Rattle.rml_syntax.specs.declared.token.Token.{Token}
use Rattle.rml_syntax.specs.declared.token.Token.TheVariants as token
use Rattle.rml_syntax.specs.declared.token.Key.TheVariants as key
use Rattle.rml_syntax.specs.declared.token.Mark.TheVariants as mark
use Rattle.rml_grammar.specs.declared.fault.Fault.{Fault}
use Rattle.rml_grammar.specs.declared.fault.ParseKind.{ParseKind}
use Rattle.rml_grammar.specs.declared.fault.ParseKind.TheVariants as kind

abbrev pub OpensBracket : Token → Type 0
OpensBracket (token.Sign mark.OpenRound) = Unit {0}
OpensBracket (token.Sign mark.OpenSquare) = Unit {0}
OpensBracket _ = ⊥

abbrev pub BeginsRule : Token → Type 0
BeginsRule (token.Word key.KRule) = Unit {0}
BeginsRule (token.Word key.KAxiom) = Unit {0}
BeginsRule _ = ⊥

-- the brackets that are open behind a token, where d are before it
abbrev pub open_behind : ℕ → Token → ℕ
open_behind d (token.Sign mark.OpenRound) = d + 1
open_behind d (token.Sign mark.OpenSquare) = d + 1
open_behind d (token.Sign mark.CloseRound) = d - 1
open_behind d (token.Sign mark.CloseSquare) = d - 1
open_behind d _ = d

-- the rules since the last `relation`, that of the token too, where there are r before it
abbrev pub rules_behind : ℕ → Token → ℕ
rules_behind r (token.Word key.KRule) = r + 1
rules_behind r (token.Word key.KAxiom) = r + 1
rules_behind r (token.Word key.KRelation) = 0
rules_behind r _ = r

-- the same for lists of tokens
abbrev pub open_after : List Spot → ℕ
open_after us = fold (λ d s. open_behind d s.token) 0 us

abbrev pub rules_after : List Spot → ℕ
rules_after us = fold (λ r s. rules_behind r s.token) 0 us

-- no bracket of us opens where n are open, and no rule begins where its relation has m
pub record WithinLimits (n m : ℕ) (us : List Spot) : Type 0 where
  pub brackets : (front rest : List Spot) (s : Spot) → us ≡ front ++ s ∷ rest → OpensBracket s.token → open_after front < n
  pub rules : (front rest : List Spot) (s : Spot) → us ≡ front ++ s ∷ rest → BeginsRule s.token → rules_after front < m

-- what a fault of a kind means where it stands between two parts of a list
abbrev pub IsAtLimit : ParseKind → ℕ → ℕ → List Spot → List Spot → Type 0
IsAtLimit kind.Unexpected n m front rest = Unit {0}
IsAtLimit kind.TooDeep n m front rest = (s : Spot) × (others : List Spot) × (rest ≡ s ∷ others) × OpensBracket s.token × (open_after front ≡ n)
IsAtLimit kind.TooManyRules n m front rest = (s : Spot) × (others : List Spot) × (rest ≡ s ∷ others) × BeginsRule s.token × (rules_after front ≡ m)

-- the fault stands in us between front and rest, and no bracket and no rule before it is one too many
pub record StandsAt (n m : ℕ) (us : List Spot) (f : Fault) : Type 0 where
  pub front : List Spot
  pub rest : List Spot
  pub all : us ≡ front ++ rest
  pub left : length rest ≡ f.left
  pub within : WithinLimits n m front
  pub limit : IsAtLimit f.kind n m front rest
