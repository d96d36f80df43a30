-- No tokens begin with an expression, or with a pattern, in two ways.
use Rattle.std.proofs.Common.{◌≡◌, suc, ◌<◌, List, ◌∷◌, ◌++◌, length, sym, ap, ◌∙◌, arith, Some, None, Result}
use Rattle.rml_base.specs.declared.place.Place.{Place}
use Rattle.rml_syntax.specs.declared.token.Spot.{Spot}
use Rattle.rml_syntax.specs.declared.token.Mark.TheVariants as mark
use Rattle.rml_syntax.specs.declared.rules.Exp.{Exp}
use Rattle.rml_syntax.specs.declared.rules.Pattern.{Pattern}
use Rattle.rml_grammar.specs.declared.fault.Fault.{Fault}
use Rattle.rml_grammar.specs.declared.fault.ParseKind.{ParseKind}
use Rattle.rml_grammar.specs.declared.fault.ParseKind.TheVariants as kind
use Rattle.rml_grammar.specs.Tokens.{sign, after}
use Rattle.rml_grammar.specs.Laws.{IsLimit, Agrees}
use Rattle.rml_grammar.specs.Limits.{open_after, rules_after, IsAtLimit}
use Rattle.rml_grammar.specs.SpelledExpressions.{IsExp}
use Rattle.rml_grammar.specs.SpelledPatterns.{IsPat}
use Rattle.rml_grammar.proofs.Callers.{Ends, Whole, at-start, exp-complete, exp-keeps, large, pat-complete, pat-keeps, stopped, went}

-- limits that no token meets
abbrev roomy : List Spot → Whole
roomy us = record { tokens = us; depth = suc (length us); most = suc (length us) }

no-limit : (us front rest : List Spot) (k : ParseKind) → us ≡ front ++ rest → IsAtLimit k (suc (length us)) (suc (length us)) front rest → IsLimit k → ⊥
no-limit us front rest kind.Unexpected e a i = i
no-limit us front rest kind.TooDeep e a i =
    let cut : us ≡ front ++ a.0 ∷ a.1 = e ∙ ap (λ (vs : List Spot). front ++ vs) a.2 in
    let less : open_after front < suc (length us) = (large (suc (length us)) (suc (length us)) us (omega arith) (omega arith)).brackets front a.1 a.0 cut a.3 in
    let is : open_after front ≡ suc (length us) = a.4 in
    absurd (omega arith)
no-limit us front rest kind.TooManyRules e a i =
    let cut : us ≡ front ++ a.0 ∷ a.1 = e ∙ ap (λ (vs : List Spot). front ++ vs) a.2 in
    let less : rules_after front < suc (length us) = (large (suc (length us)) (suc (length us)) us (omega arith) (omega arith)).rules front a.1 a.0 cut a.3 in
    let is : rules_after front ≡ suc (length us) = a.4 in
    absurd (omega arith)

-- a reading within such limits gives one thing
settled : {us : List Spot} {X : Type 0} {G : X → Type 0} {r : Result X Fault} {x y : X} → Ends (roomy us) G r → Agrees r x → Agrees r y → x ≡ y
settled (went g) a b = sym a ∙ b
settled {us} (stopped {f} s) a b = absurd (no-limit us s.front s.rest f.kind s.all s.limit a)

-- what is read, and the tokens behind it
pub exp-one : {us rest others : List Spot} {t u : Exp} → IsExp us t rest → IsExp us u others → (t ≡ u) × (rest ≡ others)
exp-one {us} {rest} {others} {t} {u} a b =
    let n = suc (length us) in
    let e : (t, rest) ≡ (u, others) = settled (exp-keeps {w = roomy us} {d = 0} {r = 0} n (omega arith) us (at-start (roomy us))) (exp-complete a n) (exp-complete b n) in
    (ap (λ (x : Exp × List Spot). x.0) e, ap (λ (x : Exp × List Spot). x.1) e)

pub pat-one : {us rest others : List Spot} {t u : Pattern} → IsPat us t rest → IsPat us u others → (t ≡ u) × (rest ≡ others)
pat-one {us} {rest} {others} {t} {u} a b =
    let n = suc (length us) in
    let e : (t, rest) ≡ (u, others) = settled (pat-keeps {w = roomy us} {d = 0} {r = 0} n (omega arith) us (at-start (roomy us))) (pat-complete a n) (pat-complete b n) in
    (ap (λ (x : Pattern × List Spot). x.0) e, ap (λ (x : Pattern × List Spot). x.1) e)

-- what closes a bracket is no comma
pub apart : {us vs : List Spot} {p q : Place} → sign mark.CloseRound p ∷ us ≡ sign mark.Comma q ∷ vs → ⊥
apart {vs} e = let differs : None ≡ Some vs = ap (λ (zs : List Spot). after mark.Comma zs) e in cc
