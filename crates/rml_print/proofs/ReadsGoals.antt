-- What is printed of a goal is read as that goal.
use Rattle.std.proofs.Common.{◌≡◌, List, [], ◌∷◌, ◌++◌, map, refl, ap, sym, ◌∙◌}
use Rattle.rml_base.specs.declared.place.Place.{Place}
use Rattle.rml_syntax.specs.declared.token.Spot.{Spot}
use Rattle.rml_syntax.specs.declared.token.Token.{Token}
use Rattle.rml_syntax.specs.declared.token.Token.TheVariants as token
use Rattle.rml_syntax.specs.declared.token.Key.TheVariants as key
use Rattle.rml_syntax.specs.declared.token.Mark.TheVariants as mark
use Rattle.rml_syntax.specs.declared.rules.Long.{Long}
use Rattle.rml_syntax.specs.declared.rules.Exp.{Exp}
use Rattle.rml_syntax.specs.declared.rules.Pattern.{Pattern}
use Rattle.rml_syntax.specs.declared.rules.Goal.{Goal}
use Rattle.rml_syntax.specs.declared.rules.Goal.TheVariants as goal
use Rattle.rml_grammar.specs.Tokens.{sign, Lacks}
use Rattle.rml_grammar.specs.SpelledNames.{IsLong}
use Rattle.rml_grammar.specs.SpelledGoals as s
use Rattle.rml_grammar.specs.SpelledGoals.{IsCallResults, IsGoals, IsMoreGoals, IsGoal, IsGatom}
use Rattle.rml_print.specs.declared.seats.Seat.TheVariants.{Free}
use Rattle.rml_print.specs.Parts.{in_round, tupled, results_tokens, long_tokens}
use Rattle.rml_print.specs.Patterns.{pattern_tokens}
use Rattle.rml_print.specs.Expressions.{exp_tokens}
use Rattle.rml_print.specs.Goals.{goal_at, goal_tokens, goals_tokens}
use Rattle.rml_print.specs.Plain.{plain_long, plain_exp, plain_pattern, plain_goal_at, plain_goal}
use Rattle.rml_print.proofs.Shown.{Shows, ended, shown, cut, InRound, in_round_brackets, round-shown, Closes, closing, encloses-round, closes-equals, Again, ReadsAgain, Each, none, also, OneOrMore, first, each-map, together, First, separated-again, long-again}
use Rattle.rml_print.proofs.ReadsExpressions.{ExpReads, exp-reads, eargs-read, eargs-again}
use Rattle.rml_print.proofs.ReadsPatterns.{PatternReads, pattern-reads, pseq-read, result-again, results-again}
use Rattle.rml_grammar.proofs.Callers as fold

-- what stands behind a goal: nothing that goes on with its last part, and no results
pub record GoalStops (us : List Spot) : Type 0 where
  pub closes : Closes us
  pub arrow : Lacks mark.Arrow us

-- nor a further goal
pub record GoalEnds (us : List Spot) : Type 0 where
  pub stops : GoalStops us
  pub amp : Lacks mark.Amp us

stops-amp : (us : List Spot) (p : Place) → GoalStops (sign mark.Amp p ∷ us)
stops-amp us p = record { closes = closing _ refl refl refl refl refl refl refl; arrow = refl }

ends-round : (p : Place) (us : List Spot) → GoalEnds (sign mark.CloseRound p ∷ us)
ends-round p us = record { stops = record { closes = (encloses-round p us).closes; arrow = refl }; amp = refl }

pub record AtomReads (g : Goal) : Type 0 where
  pub whole : ReadsAgain plain_goal IsGatom goal_tokens GoalStops g

pub record GoalReads (g : Goal) : Type 0 where
  pub whole : ReadsAgain plain_goal IsGoal goal_tokens GoalStops g

-- ---- the same but for places

same-Call : (l m : Long) (es fs : List Exp) (ps qs : List Pattern) → plain_long l ≡ plain_long m → map plain_exp es ≡ map plain_exp fs → map plain_pattern ps ≡ map plain_pattern qs → plain_goal (goal.Call l es ps) ≡ plain_goal (goal.Call m fs qs)
same-Call l m es fs ps qs a b c =
    fold.goal-Call Goal plain_goal_at l es ps
    ∙ ap (λ (x : Long). goal.Call x (map plain_exp es) (map plain_pattern ps)) a
    ∙ ap (λ (x : List Exp). goal.Call (plain_long m) x (map plain_pattern ps)) b
    ∙ ap (λ (x : List Pattern). goal.Call (plain_long m) (map plain_exp fs) x) c
    ∙ sym (fold.goal-Call Goal plain_goal_at m fs qs)

same-Equal : (l m : Long) (e f : Exp) → plain_long l ≡ plain_long m → plain_exp e ≡ plain_exp f → plain_goal (goal.Equal l e) ≡ plain_goal (goal.Equal m f)
same-Equal l m e f a b =
    fold.goal-Equal Goal plain_goal_at l e
    ∙ ap (λ (x : Long). goal.Equal x (plain_exp e)) a
    ∙ ap (λ (x : Exp). goal.Equal (plain_long m) x) b
    ∙ sym (fold.goal-Equal Goal plain_goal_at m f)

same-Let : (p q : Pattern) (e f : Exp) → plain_pattern p ≡ plain_pattern q → plain_exp e ≡ plain_exp f → plain_goal (goal.Let p e) ≡ plain_goal (goal.Let q f)
same-Let p q e f a b =
    fold.goal-Let Goal plain_goal_at p e
    ∙ ap (λ (x : Pattern). goal.Let x (plain_exp e)) a
    ∙ ap (λ (x : Exp). goal.Let (plain_pattern q) x) b
    ∙ sym (fold.goal-Let Goal plain_goal_at q f)

same-Not : (g h : Goal) → plain_goal g ≡ plain_goal h → plain_goal (goal.Not g) ≡ plain_goal (goal.Not h)
same-Not g h a = fold.goal-Not Goal plain_goal_at g ∙ ap (λ (x : Goal). goal.Not x) a ∙ sym (fold.goal-Not Goal plain_goal_at h)

same-All : (gs hs : List Goal) → map plain_goal gs ≡ map plain_goal hs → plain_goal (goal.All gs) ≡ plain_goal (goal.All hs)
same-All gs hs a = fold.goal-All Goal plain_goal_at gs ∙ ap (λ (x : List Goal). goal.All x) a ∙ sym (fold.goal-All Goal plain_goal_at hs)

-- ---- one goal from what is printed of it

-- results, which are left out where there are none
call-results : (ps : List Pattern) {us rest : List Spot} → Each PatternReads ps → Shows (results_tokens (map pattern_tokens ps)) us rest → GoalStops rest → Again (map plain_pattern) IsCallResults ps us rest
call-results [] e ended c = record { tree = []; reads = s.no_results c.arrow; same = refl }
call-results (p ∷ []) (also r e) (shown x) c = let a = result-again r x c.closes in record { tree = a.tree; reads = s.results a.reads; same = a.same }
call-results (p ∷ q ∷ ps) (also r (also v rs)) (shown x) c = let a = results-again r v rs x c.closes in record { tree = a.tree; reads = s.results a.reads; same = a.same }

-- a bracket is no dot and no sign of equality
before-round : (ts : List Token) {us rest : List Spot} → Shows (in_round ts) us rest → Lacks mark.Dot us × Lacks mark.Equals us
before-round ts (shown x) = (refl, refl)

call-again : (l : Long) (es : List Exp) (ps : List Pattern) → Each ExpReads es → Each PatternReads ps → (us rest : List Spot) → Shows (long_tokens l ++ tupled (map exp_tokens es) ++ results_tokens (map pattern_tokens ps)) us rest → GoalStops rest → Again plain_goal IsGatom (goal.Call l es ps) us rest
call-again l es ps r v us rest x c =
    let j = cut (long_tokens l ++ tupled (map exp_tokens es)) x in
    let k = cut (long_tokens l) j.first in
    let lacks = before-round _ k.second in
    let a = long-again l us k.between k.first lacks.0 in
    let b = eargs-again es r k.second in
    let d = call-results ps v j.second c in
    record {
      tree = goal.Call a.tree b.tree d.tree;
      reads = s.call a.reads lacks.1 b.reads d.reads;
      same = same-Call a.tree l b.tree es d.tree ps a.same b.same d.same;
    }

call-reads : (l : Long) (es : List Exp) (ps : List Pattern) → Each ExpReads es → Each PatternReads ps → AtomReads (goal.Call l es ps)
call-reads l es ps r v = let e = fold.goal-Call (List Token) goal_at l es ps in record { whole = λ us rest x c. call-again l es ps r v us rest (rw e at x) c }

equal-by : {l : Long} {e : Exp} {us vs rest : List Spot} → ExpReads e → (Lacks mark.Dot vs → Again plain_long IsLong l us vs) → Shows (token.Sign mark.Equals ∷ exp_tokens e Free) vs rest → GoalStops rest → Again plain_goal IsGatom (goal.Equal l e) us rest
equal-by {l} {e} r long (shown {us = ws} {rest = others} x) c =
    let a = long refl in
    let b = r.free ws others x c.closes in
    record { tree = goal.Equal a.tree b.tree; reads = s.equation a.reads b.reads; same = same-Equal a.tree l b.tree e a.same b.same }

equal-again : (l : Long) (e : Exp) → ExpReads e → (us rest : List Spot) → Shows (long_tokens l ++ token.Sign mark.Equals ∷ exp_tokens e Free) us rest → GoalStops rest → Again plain_goal IsGatom (goal.Equal l e) us rest
equal-again l e r us rest x c = let k = cut (long_tokens l) x in equal-by r (λ d. long-again l us k.between k.first d) k.second c

equal-reads : (l : Long) (e : Exp) → ExpReads e → AtomReads (goal.Equal l e)
equal-reads l e r = let is = fold.goal-Equal (List Token) goal_at l e in record { whole = λ us rest x c. equal-again l e r us rest (rw is at x) c }

let-by : {p : Pattern} {e : Exp} {us vs rest : List Spot} {at : Place} → PatternReads p → ExpReads e → Shows (pattern_tokens p Free) us vs → Shows (token.Sign mark.Equals ∷ exp_tokens e Free) vs rest → GoalStops rest → Again plain_goal IsGatom (goal.Let p e) (record { token = token.Word key.KLet; place = at } ∷ us) rest
let-by {p} {e} {us} v r x (shown {p = q} {us = ws} {rest = others} y) c =
    let a = v.free us (sign mark.Equals q ∷ ws) x (closes-equals q ws) in
    let b = r.free ws others y c.closes in
    record { tree = goal.Let a.tree b.tree; reads = s.matching a.reads b.reads; same = same-Let a.tree p b.tree e a.same b.same }

let-again : (p : Pattern) (e : Exp) → PatternReads p → ExpReads e → (us rest : List Spot) → Shows (token.Word key.KLet ∷ pattern_tokens p Free ++ token.Sign mark.Equals ∷ exp_tokens e Free) us rest → GoalStops rest → Again plain_goal IsGatom (goal.Let p e) us rest
let-again p e v r _ _ (shown x) c = let k = cut (pattern_tokens p Free) x in let-by v r k.first k.second c

let-reads : (p : Pattern) (e : Exp) → PatternReads p → ExpReads e → AtomReads (goal.Let p e)
let-reads p e v r = let is = fold.goal-Let (List Token) goal_at p e in record { whole = λ us rest x c. let-again p e v r us rest (rw is at x) c }

-- goals with `&` between them
pub goals-again : {g : Goal} {gs : List Goal} {us rest : List Spot} → GoalReads g → Each GoalReads gs → Shows (goals_tokens (g ∷ gs)) us rest → GoalEnds rest → First plain_goal IsGoal IsMoreGoals g gs us rest
goals-again {g} {gs} r rs x c =
    separated-again plain_goal IsGoal IsMoreGoals goal_tokens (token.Sign mark.Amp) GoalStops GoalEnds
    (λ us e. s.no_more_goals e.amp) (λ us vs rest p t ts a b. s.more_goals a b) (λ us e. e.stops) stops-amp
    g gs r.whole (each-map (λ y h. h.whole) rs) x c

all-by : {g : Goal} {gs : List Goal} {us rest : List Spot} → GoalReads g → Each GoalReads gs → InRound (goals_tokens (g ∷ gs)) us rest → Again plain_goal IsGatom (goal.All (g ∷ gs)) us rest
all-by {g} {gs} r rs (in_round_brackets {q} {rest} x) =
    let f = goals-again r rs x (ends-round q rest) in
    record {
      tree = goal.All (f.first.tree ∷ f.others.tree);
      reads = s.bracket (s.some_goals f.first.reads f.others.reads);
      same = same-All (f.first.tree ∷ f.others.tree) (g ∷ gs) (together f.first.same f.others.same);
    }

all-reads : (gs : List Goal) → OneOrMore GoalReads gs → AtomReads (goal.All gs)
all-reads _ (first {x} {xs} r rs) = let is = fold.goal-All (List Token) goal_at (x ∷ xs) in record { whole = λ us rest y c. all-by r rs (round-shown (goals_tokens (x ∷ xs)) (rw is at y)) }

plain-reads : (g : Goal) → AtomReads g → GoalReads g
plain-reads g r = record { whole = λ us rest x c. let a = r.whole us rest x c in record { tree = a.tree; reads = s.plain a.reads; same = a.same } }

not-again : (g : Goal) → AtomReads g → (us rest : List Spot) → Shows (token.Word key.KNot ∷ goal_tokens g) us rest → GoalStops rest → Again plain_goal IsGoal (goal.Not g) us rest
not-again g r _ _ (shown {us = vs} {rest = ws} x) c = let a = r.whole vs ws x c in record { tree = goal.Not a.tree; reads = s.negated a.reads; same = same-Not a.tree g a.same }

not-reads : (g : Goal) → AtomReads g → GoalReads (goal.Not g)
not-reads g r = let is = fold.goal-Not (List Token) goal_at g in record { whole = λ us rest x c. not-again g r us rest (rw is at x) c }

-- ---- each goal that derives

results-read : {us rest : List Spot} {ps : List Pattern} → IsCallResults us ps rest → Each PatternReads ps
results-read (s.no_results e) = none
results-read (s.results a) = pseq-read a

mutual
  pub goals-read : {us rest : List Spot} {gs : List Goal} → IsGoals us gs rest → OneOrMore GoalReads gs
  goals-read (s.some_goals a b) = first (goal-reads a) (more-goals-read b)

  more-goals-read : {us rest : List Spot} {gs : List Goal} → IsMoreGoals us gs rest → Each GoalReads gs
  more-goals-read (s.no_more_goals e) = none
  more-goals-read (s.more_goals a b) = also (goal-reads a) (more-goals-read b)

  goal-reads : {us rest : List Spot} {g : Goal} → IsGoal us g rest → GoalReads g
  goal-reads (s.negated {g} a) = not-reads g (gatom-reads a)
  goal-reads (s.plain {g} a) = plain-reads g (gatom-reads a)

  gatom-reads : {us rest : List Spot} {g : Goal} → IsGatom us g rest → AtomReads g
  gatom-reads (s.matching {t} {e} a b) = let-reads t e (pattern-reads a) (exp-reads b)
  gatom-reads (s.equation {l} {e} a b) = equal-reads l e (exp-reads b)
  gatom-reads (s.call {l} {es} {ps} a h b c) = call-reads l es ps (eargs-read b) (results-read c)
  gatom-reads (s.bracket {gs} a) = all-reads gs (goals-read a)
