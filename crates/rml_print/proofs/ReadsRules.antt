-- What is printed of a rule is read as that rule.
use Rattle.std.proofs.Common.{◌≡◌, ℕ, ◌-◌, List, [], ◌∷◌, ◌++◌, length, map, refl, ap, ◌∙◌}
use Rattle.std.specs.List.{flat_map}
use Rattle.std.proofs.lemmas.List.Concat.{flat_map-append}
use mathlib.Core.List.{append-nil}
use Rattle.rml_base.specs.declared.place.Place.{Place}
use Rattle.rml_syntax.specs.declared.token.Spot.{Spot}
use Rattle.rml_syntax.specs.declared.token.Token.{Token}
use Rattle.rml_syntax.specs.declared.token.Token.TheVariants as token
use Rattle.rml_syntax.specs.declared.token.Key.TheVariants as key
use Rattle.rml_syntax.specs.declared.token.Mark.TheVariants as mark
use Rattle.rml_syntax.specs.declared.rules.Exp.{Exp}
use Rattle.rml_syntax.specs.declared.rules.Goal.{Goal}
use Rattle.rml_syntax.specs.declared.rules.Rule.{Rule}
use Rattle.rml_grammar.specs.Tokens.{word, dashes, Lacks, LacksWord}
use Rattle.rml_grammar.specs.Lacks.{LacksClause, LacksUses}
use Rattle.rml_grammar.specs.SpelledGoals.{some_goals}
use Rattle.rml_grammar.specs.SpelledTexts as s
use Rattle.rml_grammar.specs.SpelledTexts.{IsRuleResults, IsHead, IsClause, IsMoreClauses}
use Rattle.rml_grammar.specs.Trees.{Head, rule_of}
use Rattle.rml_print.specs.Lines.{Line}
use Rattle.rml_print.specs.Parts.{tupled, results_tokens}
use Rattle.rml_print.specs.Patterns.{pattern_tokens}
use Rattle.rml_print.specs.Expressions.{exp_tokens}
use Rattle.rml_print.specs.Goals.{goals_tokens}
use Rattle.rml_print.specs.Texts.{rule_lines_by, rule_lines}
use Rattle.rml_print.specs.Plain.{nowhere, plain_exp, plain_pattern, plain_goal, plain_rule}
use Rattle.rml_print.proofs.Shown.{Shows, ended, shown, cut, Closes, closing, Again, ReadsAgain, Each, none, also, OneOrMore, first, each-map, First, repeated-first, together}
use Rattle.rml_print.proofs.ReadsExpressions as e
use Rattle.rml_print.proofs.ReadsExpressions.{ExpReads, eseq-read}
use Rattle.rml_print.proofs.ReadsPatterns.{PatternReads, pargs-read, pargs-again}
use Rattle.rml_print.proofs.ReadsGoals.{GoalEnds, GoalReads, goals-read, goals-again}

-- what stands behind a rule or a declaration: nothing that goes on with any part of it, and no `with`
pub record LineEnds (us : List Spot) : Type 0 where
  pub closes : Closes us
  pub arrow : Lacks mark.Arrow us
  pub bar : Lacks mark.Bar us
  pub conjunction : LacksWord key.KAnd us
  pub parts : LacksWord key.KOf us
  pub uses : LacksUses us

-- the tokens of lines
abbrev pub line_tokens : List Line → List Token
line_tokens = flat_map (λ l. l.tokens)

pub lines-flat : {A : Type 0} (f : A → List Line) (xs : List A) → line_tokens (flat_map f xs) ≡ flat_map (λ x. line_tokens (f x)) xs
lines-flat f [] = refl
lines-flat f (x ∷ xs) = flat_map-append (λ (l : Line). l.tokens) (f x) (flat_map f xs) ∙ ap (λ (ts : List Token). line_tokens (f x) ++ ts) (lines-flat f xs)

-- the lines of each of some, and then more
pub lines-of : {A : Type 0} (f : A → List Line) (xs : List A) (ls : List Line) → line_tokens (flat_map f xs ++ ls) ≡ flat_map (λ x. line_tokens (f x)) xs ++ line_tokens ls
lines-of f xs ls = flat_map-append (λ (l : Line). l.tokens) (flat_map f xs) ls ∙ ap (λ (ts : List Token). ts ++ line_tokens ls) (lines-flat f xs)

-- a line that is the last one
pub only : (ts : List Token) {us rest : List Spot} → Shows (ts ++ []) us rest → Shows ts us rest
only ts x = rw (append-nil ts) at x

abbrev pub rule_tokens : Rule → List Token
rule_tokens r = line_tokens (rule_lines r)

pub record RuleReads (r : Rule) : Type 0 where
  pub whole : ReadsAgain plain_rule IsClause rule_tokens LineEnds r

-- the head of a rule without places
abbrev plain_conclusion : Head → Head
plain_conclusion h = ((h.0.0, nowhere), map plain_pattern h.1, map plain_exp h.2)

record HeadReads (h : Head) : Type 0 where
  pub inputs : Each PatternReads h.1
  pub results : Each ExpReads h.2

-- results, which are left out where there are none
rule-results : (es : List Exp) {us rest : List Spot} → Each ExpReads es → Shows (results_tokens (map exp_tokens es)) us rest → LineEnds rest → Again (map plain_exp) IsRuleResults es us rest
rule-results [] h ended c = record { tree = []; reads = s.no_results c.arrow; same = refl }
rule-results (t ∷ []) (also r h) (shown x) c = let a = e.result-again r x c.closes in record { tree = a.tree; reads = s.results a.reads; same = a.same }
rule-results (t ∷ u ∷ ts) (also r (also v rs)) (shown x) c = let a = e.results-again r v rs x c.closes in record { tree = a.tree; reads = s.results a.reads; same = a.same }

abbrev conclusion_tokens : Head → List Token
conclusion_tokens h = token.Name h.0.0 ∷ tupled (map pattern_tokens h.1) ++ results_tokens (map exp_tokens h.2)

conclusion-again : (h : Head) {us rest : List Spot} → HeadReads h → Shows (conclusion_tokens h) us rest → LineEnds rest → Again plain_conclusion IsHead h us rest
conclusion-again h r (shown {p} x) c =
    let k = cut (tupled (map pattern_tokens h.1)) x in
    let a = pargs-again h.1 r.inputs k.first in
    let b = rule-results h.2 r.results k.second c in
    record { tree = ((h.0.0, p), a.tree, b.tree); reads = s.conclusion a.reads b.reads; same = rw (a.same, b.same) refl }

same-rule : (p q : Place) (gs hs : List Goal) (h k : Head) (n m : ℕ) → map plain_goal gs ≡ map plain_goal hs → plain_conclusion h ≡ plain_conclusion k → plain_rule (rule_of p gs h n) ≡ plain_rule (rule_of q hs k m)
same-rule p q gs hs h k n m a b = ap (λ (x : List Goal). rule_of nowhere x (plain_conclusion h) 0) a ∙ ap (λ (x : Head). rule_of nowhere (map plain_goal hs) x 0) b

axiom-again : (at : Place) (h : Head) (n : ℕ) → HeadReads h → (us rest : List Spot) → Shows (token.Word key.KAxiom ∷ conclusion_tokens h) us rest → LineEnds rest → Again plain_rule IsClause (rule_of at [] h n) us rest
axiom-again at h n r _ _ (shown {p} {us = vs} {rest = ws} x) c =
    let a = conclusion-again h r x c in
    let m = length (word key.KAxiom p ∷ vs) - length ws in
    record { tree = rule_of p [] a.tree m; reads = s.axiom_head a.reads; same = same-rule p at [] [] a.tree h m n refl a.same }

axiom-reads : (at : Place) (h : Head) (n : ℕ) → HeadReads h → RuleReads (rule_of at [] h n)
axiom-reads at h n r = record { whole = λ us rest x c. axiom-again at h n r us rest (only (token.Word key.KAxiom ∷ conclusion_tokens h) x) c }

ends-line : (n : ℕ) (p : Place) (us : List Spot) → GoalEnds (dashes n p ∷ us)
ends-line n p us = record { stops = record { closes = closing _ refl refl refl refl refl refl refl; arrow = refl }; amp = refl }

rule-by : (p at : Place) {g : Goal} {gs : List Goal} (h : Head) (n : ℕ) {us vs rest : List Spot} → GoalReads g → Each GoalReads gs → HeadReads h → Shows (goals_tokens (g ∷ gs)) us vs → Shows (token.Dashes 2 ∷ (conclusion_tokens h ++ [])) vs rest → LineEnds rest → Again plain_rule IsClause (rule_of at (g ∷ gs) h n) (word key.KRule p ∷ us) rest
rule-by p at {g} {gs} h n {us} r rs v x (shown {p = q} {us = ws} {rest = others} y) c =
    let f = goals-again r rs x (ends-line 2 q ws) in
    let a = conclusion-again h v (only (conclusion_tokens h) y) c in
    let m = length (word key.KRule p ∷ us) - length others in
    record {
      tree = rule_of p (f.first.tree ∷ f.others.tree) a.tree m;
      reads = s.rule_goals (some_goals f.first.reads f.others.reads) a.reads;
      same = same-rule p at (f.first.tree ∷ f.others.tree) (g ∷ gs) a.tree h m n (together f.first.same f.others.same) a.same;
    }

rule-again : (at : Place) (g : Goal) (gs : List Goal) (h : Head) (n : ℕ) → GoalReads g → Each GoalReads gs → HeadReads h → (us rest : List Spot) → Shows (token.Word key.KRule ∷ (goals_tokens (g ∷ gs) ++ (token.Dashes 2 ∷ (conclusion_tokens h ++ [])))) us rest → LineEnds rest → Again plain_rule IsClause (rule_of at (g ∷ gs) h n) us rest
rule-again at g gs h n r rs v _ _ (shown {p} x) c = let k = cut (goals_tokens (g ∷ gs)) x in rule-by p at h n r rs v k.first k.second c

rule-reads : (at : Place) (gs : List Goal) (h : Head) (n : ℕ) → OneOrMore GoalReads gs → HeadReads h → RuleReads (rule_of at gs h n)
rule-reads at _ h n (first {x} {xs} r rs) v = record { whole = λ us rest y c. rule-again at x xs h n r rs v us rest y c }

-- ---- each rule that derives

results-read : {us rest : List Spot} {es : List Exp} → IsRuleResults us es rest → Each ExpReads es
results-read (s.no_results h) = none
results-read (s.results a) = eseq-read a

head-reads : {us rest : List Spot} {h : Head} → IsHead us h rest → HeadReads h
head-reads (s.conclusion a b) = record { inputs = pargs-read a; results = results-read b }

pub clause-reads : {us rest : List Spot} {r : Rule} → IsClause us r rest → RuleReads r
clause-reads (s.axiom_head {us} {rest} {p} {h} a) = axiom-reads p h _ (head-reads a)
clause-reads (s.rule_head {us} {rest} {d} {p} {q} {h} a) = axiom-reads p h _ (head-reads a)
clause-reads (s.rule_goals {us} {vs} {rest} {d} {p} {q} {gs} {h} a b) = rule-reads p gs h _ (goals-read a) (head-reads b)

pub clauses-read : {us rest : List Spot} {rs : List Rule} → IsMoreClauses us rs rest → Each RuleReads rs
clauses-read (s.no_more_clauses h) = none
clauses-read (s.more_clauses a b) = also (clause-reads a) (clauses-read b)

-- ---- rules one behind the other

line-rule : (p : Place) (us : List Spot) → LineEnds (word key.KRule p ∷ us)
line-rule p us = record { closes = closing _ refl refl refl refl refl refl refl; arrow = refl; bar = refl; conjunction = refl; parts = refl; uses = refl }

line-axiom : (p : Place) (us : List Spot) → LineEnds (word key.KAxiom p ∷ us)
line-axiom p us = record { closes = closing _ refl refl refl refl refl refl refl; arrow = refl; bar = refl; conjunction = refl; parts = refl; uses = refl }

rule-starts : (gs : List Goal) (r : Rule) (ts : List Token) (us rest : List Spot) → Shows (line_tokens (rule_lines_by gs r) ++ ts) us rest → LineEnds us
rule-starts [] r ts _ _ (shown {p} {us = vs} x) = line-axiom p vs
rule-starts (g ∷ gs) r ts _ _ (shown {p} {us = vs} x) = line-rule p vs

-- what stands behind the last rule
pub record RulesEnd (us : List Spot) : Type 0 where
  pub line : LineEnds us
  pub none_next : LacksClause us

pub clauses-again : {r : Rule} {rs : List Rule} {us rest : List Spot} → RuleReads r → Each RuleReads rs → Shows (flat_map rule_tokens (r ∷ rs)) us rest → RulesEnd rest → First plain_rule IsClause IsMoreClauses r rs us rest
clauses-again {r} {rs} a others x e =
    repeated-first plain_rule IsClause IsMoreClauses rule_tokens LineEnds RulesEnd
    (λ us h. s.no_more_clauses h.none_next) (λ us vs rest t ts a b. s.more_clauses a b) (λ us h. h.line) (λ t ts us rest y. rule-starts t.goals t ts us rest y)
    r rs a.whole (each-map (λ y h. h.whole) others) x e
