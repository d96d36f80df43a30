-- What is a goal: a case for each production, between the front of a list of tokens, the tree and the tokens that
-- follow. What may be repeated or left out goes as far as it can.
use Rattle.std.specs.Prelude.{List, [], ◌∷◌}
use Rattle.rml_base.specs.declared.place.Place.{Place}
use Rattle.rml_syntax.specs.declared.token.Spot.{Spot}
use Rattle.rml_syntax.specs.declared.token.Key.TheVariants as key
use Rattle.rml_syntax.specs.declared.token.Mark.TheVariants as mark
use Rattle.rml_syntax.specs.declared.rules.Long.{Long}
use Rattle.rml_syntax.specs.declared.rules.Exp.{Exp}
use Rattle.rml_syntax.specs.declared.rules.Pattern.{Pattern}
use Rattle.rml_syntax.specs.declared.rules.Goal.{Goal}
use Rattle.rml_syntax.specs.declared.rules.Goal.TheVariants as goal
use Rattle.rml_grammar.specs.Tokens.{word, sign, Lacks}
use Rattle.rml_grammar.specs.SpelledNames.{IsLong}
use Rattle.rml_grammar.specs.SpelledPatterns.{IsPat, IsPseq}
use Rattle.rml_grammar.specs.SpelledExpressions.{IsExp, IsEargs}

-- [`=>` pseq], where an absent one is the empty list
pub data IsCallResults : List Spot → List Pattern → List Spot → Type 0 where
  no_results : {us : List Spot} → Lacks mark.Arrow us → IsCallResults us [] us
  results : {us rest : List Spot} {p : Place} {ps : List Pattern} → IsPseq us ps rest → IsCallResults (sign mark.Arrow p ∷ us) ps rest

mutual
  -- goals = goal {`&` goal}
  pub data IsGoals : List Spot → List Goal → List Spot → Type 0 where
    some_goals : {us vs rest : List Spot} {g : Goal} {gs : List Goal} → IsGoal us g vs → IsMoreGoals vs gs rest → IsGoals us (g ∷ gs) rest

  -- {`&` goal}
  pub data IsMoreGoals : List Spot → List Goal → List Spot → Type 0 where
    no_more_goals : {us : List Spot} → Lacks mark.Amp us → IsMoreGoals us [] us
    more_goals : {us vs rest : List Spot} {p : Place} {g : Goal} {gs : List Goal} → IsGoal us g vs → IsMoreGoals vs gs rest → IsMoreGoals (sign mark.Amp p ∷ us) (g ∷ gs) rest

  -- goal = [`not`] gatom
  pub data IsGoal : List Spot → Goal → List Spot → Type 0 where
    negated : {us rest : List Spot} {p : Place} {g : Goal} → IsGatom us g rest → IsGoal (word key.KNot p ∷ us) (goal.Not g) rest
    plain : {us rest : List Spot} {g : Goal} → IsGatom us g rest → IsGoal us g rest

  -- gatom = `let` pat `=` exp | long `=` exp | long [eargs] [`=>` pseq] | `(` goals `)`
  pub data IsGatom : List Spot → Goal → List Spot → Type 0 where
    matching : {us vs rest : List Spot} {p q : Place} {t : Pattern} {e : Exp} → IsPat us t (sign mark.Equals q ∷ vs) → IsExp vs e rest → IsGatom (word key.KLet p ∷ us) (goal.Let t e) rest
    equation : {us vs rest : List Spot} {p : Place} {l : Long} {e : Exp} → IsLong us l (sign mark.Equals p ∷ vs) → IsExp vs e rest → IsGatom us (goal.Equal l e) rest
    call : {us vs ws rest : List Spot} {l : Long} {es : List Exp} {ps : List Pattern} → IsLong us l vs → Lacks mark.Equals vs → IsEargs vs es ws → IsCallResults ws ps rest → IsGatom us (goal.Call l es ps) rest
    bracket : {us rest : List Spot} {p q : Place} {gs : List Goal} → IsGoals us gs (sign mark.CloseRound q ∷ rest) → IsGatom (sign mark.OpenRound p ∷ us) (goal.All gs) rest
