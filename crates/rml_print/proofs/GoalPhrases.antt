-- A goal of printable tokens is printed as a phrase.
use Rattle.std.proofs.Common.{ℕ, List, map, refl}
use Rattle.rml_syntax.specs.declared.token.Spot.{Spot}
use Rattle.rml_syntax.specs.declared.token.Token.{Token}
use Rattle.rml_syntax.specs.declared.token.Token.TheVariants as token
use Rattle.rml_syntax.specs.declared.token.Key.TheVariants as key
use Rattle.rml_syntax.specs.declared.token.Mark.TheVariants as mark
use Rattle.rml_syntax.specs.declared.rules.Long.{Long}
use Rattle.rml_syntax.specs.declared.rules.Exp.{Exp}
use Rattle.rml_syntax.specs.declared.rules.Pattern.{Pattern}
use Rattle.rml_syntax.specs.declared.rules.Goal.{Goal}
use Rattle.rml_syntax.specs.declared.rules.Goal.TheVariants as goal
use Rattle.rml_grammar.specs.SpelledGoals as s
use Rattle.rml_grammar.specs.SpelledGoals.{IsCallResults, IsGoals, IsMoreGoals, IsGoal, IsGatom}
use Rattle.rml_print.specs.declared.seats.Seat.TheVariants.{Free}
use Rattle.rml_print.specs.Expressions.{exp_tokens}
use Rattle.rml_print.specs.Goals.{goal_at, goal_tokens}
use Rattle.rml_print.specs.Parts.{long_tokens}
use Rattle.rml_print.specs.Patterns.{pattern_tokens}
use Rattle.rml_print.proofs.ExpPhrases.{FineExp, FineExps, eargs-fine, exp-fine}
use Rattle.rml_grammar.proofs.Callers.{goal-All, goal-Call, goal-Equal, goal-Let, goal-Not}
use Rattle.rml_print.proofs.NamePhrases.{Good, long-closed, others}
use Rattle.rml_print.proofs.PatternPhrases.{FinePattern, FinePatterns, pattern-fine, pseq-fine}
use Rattle.rml_print.proofs.Phrases.{Closed, Phrase, Phrases, both, put, results-phrase, round, separated-phrase, tupled-phrase}

module _ (names : List (List ℕ)) where
  abbrev pub PhraseGoal : Goal → Type 0
  PhraseGoal g = Phrase names (goal_tokens g)

  abbrev pub PhraseGoals : List Goal → Type 0
  PhraseGoals gs = Phrases names (map goal_tokens gs)

  call-phrase : (l : Long) (es : List Exp) (ps : List Pattern) → Closed names (long_tokens l) → FineExps names es → FinePatterns names ps → PhraseGoal (goal.Call l es ps)
  call-phrase l es ps h e p = rw (goal-Call (List Token) goal_at l es ps) (both names (both names h.phrase (tupled-phrase names (map exp_tokens es) e)) (results-phrase names (map pattern_tokens ps) p))

  equation-phrase : (l : Long) (e : Exp) → Closed names (long_tokens l) → FineExp names e → PhraseGoal (goal.Equal l e)
  equation-phrase l e h f = rw (goal-Equal (List Token) goal_at l e) (both names h.phrase (put names (token.Sign mark.Equals) tt refl (f.at Free)))

  match-phrase : (p : Pattern) (e : Exp) → FinePattern names p → FineExp names e → PhraseGoal (goal.Let p e)
  match-phrase p e h f = rw (goal-Let (List Token) goal_at p e) (put names (token.Word key.KLet) tt refl (both names (h.at Free) (put names (token.Sign mark.Equals) tt refl (f.at Free))))

  not-phrase : (g : Goal) → PhraseGoal g → PhraseGoal (goal.Not g)
  not-phrase g h = rw (goal-Not (List Token) goal_at g) (put names (token.Word key.KNot) tt refl h)

  all-phrase : (gs : List Goal) → PhraseGoals gs → PhraseGoal (goal.All gs)
  all-phrase gs h = rw (goal-All (List Token) goal_at gs) (round names (separated-phrase names (token.Sign mark.Amp) tt refl (map goal_tokens gs) h))

  results-fine : {us rest : List Spot} {ps : List Pattern} → IsCallResults us ps rest → Good names us → FinePatterns names ps × Good names rest
  results-fine (s.no_results e) h = (tt, h)
  results-fine (s.results a) h = pseq-fine names a (others names h)

  mutual
    pub goals-phrase : {us rest : List Spot} {gs : List Goal} → IsGoals us gs rest → Good names us → PhraseGoals gs × Good names rest
    goals-phrase (s.some_goals a b) h = let x = goal-phrase a h in let y = more-phrase b x.1 in ((x.0, y.0), y.1)

    more-phrase : {us rest : List Spot} {gs : List Goal} → IsMoreGoals us gs rest → Good names us → PhraseGoals gs × Good names rest
    more-phrase (s.no_more_goals e) h = (tt, h)
    more-phrase (s.more_goals a b) h = let x = goal-phrase a (others names h) in let y = more-phrase b x.1 in ((x.0, y.0), y.1)

    goal-phrase : {us rest : List Spot} {g : Goal} → IsGoal us g rest → Good names us → PhraseGoal g × Good names rest
    goal-phrase (s.negated {g = g} a) h = let x = gatom-phrase a (others names h) in (not-phrase g x.0, x.1)
    goal-phrase (s.plain a) h = gatom-phrase a h

    gatom-phrase : {us rest : List Spot} {g : Goal} → IsGatom us g rest → Good names us → PhraseGoal g × Good names rest
    gatom-phrase (s.matching {t = p} {e = e} a b) h = let x = pattern-fine names a (others names h) in let y = exp-fine names b (others names x.1) in (match-phrase p e x.0 y.0, y.1)
    gatom-phrase (s.equation {l = l} {e = e} a b) h = let x = long-closed names a h in let y = exp-fine names b (others names x.1) in (equation-phrase l e x.0 y.0, y.1)
    gatom-phrase (s.call {l = l} {es = es} {ps = ps} a e b c) h =
        let x = long-closed names a h in
        let y = eargs-fine names b x.1 in
        let z = results-fine c y.1 in
        (call-phrase l es ps x.0 y.0 z.0, z.1)
    gatom-phrase (s.bracket {gs = gs} a) h = let x = goals-phrase a (others names h) in (all-phrase gs x.0, others names x.1)
