-- The blocks of what is made end.
use Rattle.std.proofs.Common.{◌≡◌, ℕ, suc, Bool, true, false, List, [], ◌∷◌, ◌++◌, map, length, refl, sym, ap, subst, ◌∙◌, reverse}
use Rattle.std.specs.Prelude.{◌&&◌}
use Rattle.std.specs.List.{list_all}
use Rattle.std.proofs.lemmas.List.{reverse-append}
use Rattle.rml_value.specs.declared.value.TheConstants.{NIL, CONS}
use Rattle.rml_fol.specs.declared.parts.Relation as clause
use Rattle.rml_fol.specs.declared.terms.Expression.{Expression}
use Rattle.rml_fol.specs.declared.terms.Pattern.{Pattern, map-Pattern, roll-Pattern, fold-roll-Pattern, ind-Pattern}
use Rattle.rml_fol.specs.declared.terms.Pattern.TheOpen.{Pattern-F}
use Rattle.rml_fol.specs.declared.statements.Tag.{Tag}
use Rattle.rml_fol.specs.declared.statements.Tag.TheVariants as tag
use Rattle.rml_fol.specs.declared.statements.Stmt.{Stmt as Clause, map-Stmt as map-Clause, roll-Stmt as roll-Clause, fold-roll-Stmt as fold-roll-Clause, ind-Stmt}
use Rattle.rml_fol.specs.declared.statements.Alternative.{Alternative, map-Alternative, roll-Alternative, fold-roll-Alternative}
use Rattle.rml_fol.specs.declared.statements.Case.{Case as Choice, map-Case, roll-Case as roll-Choice, fold-roll-Case as fold-roll-Choice}
use Rattle.rml_fol.specs.declared.statements.Stmt.TheOpen.{Stmt-F as Clause-F, Alternative-F, Case-F}
use Rattle.rml_fol.specs.Ends as old
use Rattle.rml_fol.specs.Ends.{Standing, goes_on, names, ends, answers, broken, block_ends, goal_ends, going_on, naming, ending}
use Rattle.rml_fol.specs.Fits.{every}
use Rattle.rml_cps.specs.declared.statements.Continuation.{Continuation}
use Rattle.rml_cps.specs.declared.statements.Continuation.TheVariants as continuation
use Rattle.rml_cps.specs.declared.statements.Stmt.{Stmt, map-Stmt, roll-Stmt, fold-roll-Stmt}
use Rattle.rml_cps.specs.declared.statements.Stmt.TheVariants as line
use Rattle.rml_cps.specs.declared.statements.Stmt.TheOpen.{Stmt-F}
use Rattle.rml_cps.specs.declared.statements.Case.{Case, fold-Case, fold-roll-Case}
use Rattle.rml_cps.specs.Ends as new
use Rattle.rml_cps.specs.Ends.{standing}
use Rattle.rml_tocps.specs.declared.pass.numbers.Numbers.{Numbers}
use Rattle.rml_tocps.specs.Matching.{place_at}
use Rattle.rml_tocps.specs.Passing.{alternative_ends, case_ends as choice_ends}
use Rattle.rml_tocps.proofs.Callers.{two}
use Rattle.rml_conversion.specs.Hand.{Hand, Making, hand, one_variable, one_name, only, with_line, or_else, case_of, tested, all_but_last, last_of}
use Rattle.rml_conversion.specs.Patterns.{PatternMaking, fresh_part, parts_made, items_made, reserved, list_made, chain_made, pattern_at, pattern_made}
use Rattle.rml_conversion.specs.Statements.{BlockMaking, CaseMaking, in_front, block_of, or_of, cased, fields_made, closed_case, all_cases, made_at, alternative_at, case_at, stmt_made, alternative_made, case_made}
use Rattle.rml_conversion.specs.Tables.{relation_made}

-- ---- lines

abbrev case_ends : Case → Bool
case_ends = fold-Case Standing Bool new.standing_at new.case_ends_at

stands : (s : Stmt) (y : Stmt-F Stmt Case) → roll-Stmt y ≡ s → standing s ≡ new.standing_at (map-Stmt Stmt Case Standing Bool standing case_ends y)
stands s y e = ap standing (sym e) ∙ fold-roll-Stmt Standing Bool new.standing_at new.case_ends_at y

-- what is made, with its last line first, ends
record Ends (lines : List Stmt) : Type 0 where
  is : block_ends (map standing (reverse lines)) ≡ true

-- a line that goes on, in front
before-ends : (x : Stmt) (lines : List Stmt) → standing x ≡ goes_on → Ends lines → Ends (lines ++ x ∷ [])
before-ends x lines on e = record {
  is = ap (λ (xs : List Stmt). block_ends (map standing xs)) (reverse-append lines (x ∷ [])) ∙ ap (λ (z : Standing). block_ends (z ∷ map standing (reverse lines))) on ∙ e.is;
}

only-ends : (x : Stmt) → standing x ≡ ends → Ends (x ∷ [])
only-ends x e = record { is = ap (λ (z : Standing). block_ends (z ∷ [])) e }

field-on : (x y i : ℕ) → standing (line.Field x y i) ≡ goes_on
field-on x y i = stands (line.Field x y i) (Stmt-F.Field x y i) (line.rolls-Field x y i)

set-on : (x : ℕ) (e : Expression) → standing (line.Set x e) ≡ goes_on
set-on x e = stands (line.Set x e) (Stmt-F.Set x e) (line.rolls-Set x e)

fail-ends : (h : Continuation) → standing (line.Fail h) ≡ ends
fail-ends h = stands (line.Fail h) (Stmt-F.Fail h) (line.rolls-Fail h)

failure-on : (name : ℕ) (other : List Stmt) → Ends other → standing (line.Failure name (reverse other)) ≡ goes_on
failure-on name other e =
    stands (line.Failure name (reverse other)) (Stmt-F.Failure name (reverse other)) (line.rolls-Failure name (reverse other)) ∙ ap going_on e.is

else-ends : (name : ℕ) (other : List Stmt) (tried : Hand) → Ends other → Ends tried.lines → Ends (or_else name other tried).lines
else-ends name other tried e f = before-ends (line.Failure name (reverse other)) tried.lines (failure-on name other e) f

case-ends : (t : Tag) (lines : List Stmt) → Ends lines → case_ends (case_of t (reverse lines)) ≡ true
case-ends t lines e = fold-roll-Case Standing Bool new.standing_at new.case_ends_at (record { tag = t; block = reverse lines }) ∙ e.is

switch-ends : (x : ℕ) (cases : List Case) (other : List Stmt) → every (map case_ends cases) ≡ true → Ends other → Ends (line.Switch x cases (reverse other) ∷ [])
switch-ends x cases other e f =
    only-ends (line.Switch x cases (reverse other))
    (stands (line.Switch x cases (reverse other)) (Stmt-F.Switch x cases (reverse other)) (line.rolls-Switch x cases (reverse other))
    ∙ ap (λ (b : Bool). ending (b && block_ends (map standing (reverse other)))) e ∙ ap ending f.is)

tested-ends : (t : Tag) (x : ℕ) (h : Continuation) (s : Hand) → Ends s.lines → Ends (tested t x h s).lines
tested-ends t x h s e =
    switch-ends x (case_of t (reverse s.lines) ∷ []) (line.Fail h ∷ []) (ap (λ (b : Bool). b && true) (case-ends t s.lines e)) (only-ends (line.Fail h) (fail-ends h))

-- ---- patterns

abbrev MakingEnds : Making → Type 0
MakingEnds m = (h : Continuation) (s : Hand) → Ends s.lines → Ends (m h s).lines

record PatternEnds (p : Pattern) : Type 0 where
  whole : (x : ℕ) → MakingEnds ((pattern_made p).whole x)
  part : (x i : ℕ) → MakingEnds ((pattern_made p).part x i)

record BothEnd (m : PatternMaking) : Type 0 where
  whole : (x : ℕ) → MakingEnds (m.whole x)
  part : (x i : ℕ) → MakingEnds (m.part x i)

abbrev EachPattern : List PatternMaking → Type 0
EachPattern [] = Unit {0}
EachPattern (m ∷ ms) = BothEnd m × EachPattern ms

parts-end : (ms : List PatternMaking) → EachPattern ms → (x i : ℕ) → MakingEnds (parts_made ms x i)
parts-end [] e x i h s f = f
parts-end (m ∷ ms) e x i h s f = e.0.part x i h (parts_made ms x (suc i) h s) (parts-end ms e.1 x (suc i) h s f)

items-end : (ms : List PatternMaking) → EachPattern ms → (x first : ℕ) → MakingEnds (items_made ms x first)
items-end [] e x first h s f = f
items-end (m ∷ ms) e x first h s f =
    let inner = items_made ms first (suc first) h s in
    let behind = with_line (line.Field first x 2) inner in
    tested-ends (tag.Con CONS) x h (m.part x 1 h behind)
    (e.0.part x 1 h behind (before-ends (line.Field first x 2) inner.lines (field-on first x 2) (items-end ms e.1 first (suc first) h s f)))

each-front : (m : PatternMaking) (ms : List PatternMaking) → EachPattern (m ∷ ms) → EachPattern (all_but_last (m ∷ ms))
each-front m [] e = tt
each-front m (k ∷ ms) e = (e.0, each-front k ms e.1)

each-last : (m : PatternMaking) (ms : List PatternMaking) → EachPattern (m ∷ ms) → BothEnd (last_of m ms)
each-last m [] e = e.0
each-last m (k ∷ ms) e = each-last k ms e.1

chain-ends : (ms : List PatternMaking) → EachPattern ms → (x : ℕ) → MakingEnds (chain_made ms x)
chain-ends [] e x h s f = f
chain-ends (m ∷ ms) e x h s f =
    let front = all_but_last (m ∷ ms) in
    let here = reserved (length front) s in
    let place = place_at x s.numbers.variable (length front) in
    items-end front (each-front m ms e) x s.numbers.variable h ((last_of m ms).whole place h here) ((each-last m ms e).whole place h here f)

list-ends : (ms : List PatternMaking) → EachPattern ms → (x : ℕ) → MakingEnds (list_made ms x)
list-ends ms e x h s f =
    let here = reserved (length ms) s in
    let place = place_at x s.numbers.variable (length ms) in
    items-end ms e x s.numbers.variable h (tested (tag.Con NIL) place h here) (tested-ends (tag.Con NIL) place h here f)

fresh-ends : (m : ℕ → Making) → ((x : ℕ) → MakingEnds (m x)) → (x i : ℕ) → MakingEnds (fresh_part m x i)
fresh-ends m e x i h s f =
    let v = s.numbers.variable in
    let inner = m v h (hand s.lines (one_variable s.numbers)) in
    before-ends (line.Field v x i) inner.lines (field-on v x i) (e v h (hand s.lines (one_variable s.numbers)) f)

whole-then-fresh : (m : ℕ → Making) → ((x : ℕ) → MakingEnds (m x)) → BothEnd (record { whole = m; part = fresh_part m })
whole-then-fresh m e = record { whole = e; part = fresh-ends m e }

abbrev Parted : Type 0
Parted = List ((x : Pattern) × PatternEnds x)

each-of : (ps : Parted) → EachPattern (map pattern_made (map (λ e. e.0) ps))
each-of [] = tt
each-of (p ∷ ps) = (record { whole = p.1.whole; part = p.1.part }, each-of ps)

rolled-pattern : (y : Pattern-F Pattern) → BothEnd (pattern_at (map-Pattern Pattern PatternMaking pattern_made y)) → PatternEnds (roll-Pattern y)
rolled-pattern y b =
    let all : BothEnd (pattern_made (roll-Pattern y)) = subst BothEnd (sym (fold-roll-Pattern PatternMaking pattern_at y)) b in
    record { whole = all.whole; part = all.part }

pattern-layer : (y : Pattern-F ((x : Pattern) × PatternEnds x)) → PatternEnds (roll-Pattern (map-Pattern ((x : Pattern) × PatternEnds x) Pattern (λ e. e.0) y))
pattern-layer Pattern-F.Any = rolled-pattern Pattern-F.Any (record { whole = λ x h s f. f; part = λ x i h s f. f })
pattern-layer (Pattern-F.Lit l) = rolled-pattern (Pattern-F.Lit l) (whole-then-fresh _ (λ x h s f. tested-ends (tag.Lit l) x h s f))
pattern-layer (Pattern-F.Var y) = rolled-pattern (Pattern-F.Var y) (record {
  whole = λ x h s f. before-ends _ s.lines (set-on y _) f;
  part = λ x i h s f. before-ends _ s.lines (field-on y x i) f;
})
pattern-layer (Pattern-F.Con c ps) =
    rolled-pattern (Pattern-F.Con c (map (λ e. e.0) ps)) (whole-then-fresh _ (λ x h s f. tested-ends (tag.Con c) x h (parts_made (map pattern_made (map (λ e. e.0) ps)) x 1 h s) (parts-end (map pattern_made (map (λ e. e.0) ps)) (each-of ps) x 1 h s f)))
pattern-layer (Pattern-F.Tuple ps) = rolled-pattern (Pattern-F.Tuple (map (λ e. e.0) ps)) (whole-then-fresh _ (λ x h s f. parts-end _ (each-of ps) x 1 h s f))
pattern-layer (Pattern-F.List ps) = rolled-pattern (Pattern-F.List (map (λ e. e.0) ps)) (whole-then-fresh _ (λ x h s f. list-ends _ (each-of ps) x h s f))
pattern-layer (Pattern-F.Cons ps) = rolled-pattern (Pattern-F.Cons (map (λ e. e.0) ps)) (whole-then-fresh _ (λ x h s f. chain-ends _ (each-of ps) x h s f))
pattern-layer (Pattern-F.Bind y e) = rolled-pattern (Pattern-F.Bind y e.0) (record {
  whole = λ x h s f. before-ends _ _ (set-on y _) (e.1.whole x h s f);
  part = λ x i h s f. before-ends _ _ (field-on y x i) (e.1.whole y h s f);
})

pattern-ends : (p : Pattern) → PatternEnds p
pattern-ends = ind-Pattern PatternEnds (λ x y is. subst (λ z. PatternEnds (roll-Pattern z)) is (pattern-layer y))

-- ---- statements

-- where a statement's block ends, and so does what is made already, if something follows the statement
abbrev EndsAs : Standing → Making → Type 0
EndsAs z m = (h : Continuation) (s : Hand) (rest : List Standing) → block_ends (z ∷ rest) ≡ true → (block_ends rest ≡ true → Ends s.lines) → Ends (m h s).lines

record StmtEnds (x : Clause) : Type 0 where
  is : EndsAs (old.standing x) (stmt_made x)

abbrev BlockEnds : BlockMaking → Type 0
BlockEnds m = (h : Continuation) (n : Numbers) → Ends (m h n).lines

record AlternativeEnds (a : Alternative) : Type 0 where
  is : alternative_ends a ≡ true → BlockEnds (alternative_made a)

record ChoiceEnds (k : Choice) : Type 0 where
  is : choice_ends k ≡ true → BlockEnds (case_made k).block

abbrev EachStmt : List Clause → Type 0
EachStmt [] = Unit {0}
EachStmt (x ∷ xs) = StmtEnds x × EachStmt xs

abbrev EachAlternative : List Alternative → Type 0
EachAlternative [] = Unit {0}
EachAlternative (x ∷ xs) = AlternativeEnds x × EachAlternative xs

abbrev EachChoice : List Choice → Type 0
EachChoice [] = Unit {0}
EachChoice (x ∷ xs) = ChoiceEnds x × EachChoice xs

block-ends : (xs : List Clause) → EachStmt xs → block_ends (map old.standing xs) ≡ true → BlockEnds (block_of (map stmt_made xs))
block-ends [] e ended h n = absurd (cc)
block-ends (x ∷ xs) e ended h n = e.0.is h (block_of (map stmt_made xs) h n) (map old.standing xs) ended (λ rest. block-ends xs e.1 rest h n)

-- a goal but for its `give`
goal-ends : (x : Clause) (xs : List Clause) → EachStmt (x ∷ xs) → goal_ends (map old.standing (x ∷ xs)) ≡ true → (h : Continuation) (s : Hand) → Ends s.lines → Ends (in_front (all_but_last (map stmt_made (x ∷ xs))) h s).lines
goal-ends x [] e ended h s f = f
goal-ends x (y ∷ ys) e ended h s f = kind (old.standing x) e.0.is (goal-ends y ys e.1) ended
  where
    kind : (z : Standing) → EndsAs z (stmt_made x) → (goal_ends (map old.standing (y ∷ ys)) ≡ true → (h : Continuation) (s : Hand) → Ends s.lines → Ends (in_front (all_but_last (map stmt_made (y ∷ ys))) h s).lines)
        → goal_ends (z ∷ map old.standing (y ∷ ys)) ≡ true → Ends (stmt_made x h (in_front (all_but_last (map stmt_made (y ∷ ys))) h s)).lines
    kind goes_on is rest t = is h (in_front (all_but_last (map stmt_made (y ∷ ys))) h s) (ends ∷ []) refl (λ u. rest t h s f)
    kind names is rest t = absurd (cc)
    kind ends is rest t = absurd (cc)
    kind answers is rest t = absurd (cc)
    kind broken is rest t = absurd (cc)

front-ends : (goal : List Clause) → EachStmt goal → goal_ends (map old.standing goal) ≡ true → (h : Continuation) (s : Hand) → Ends s.lines → Ends (in_front (all_but_last (map stmt_made goal)) h s).lines
front-ends [] e ended h s f = absurd (cc)
front-ends (x ∷ xs) e ended h s f = goal-ends x xs e ended h s f

or-ends : (all : List Alternative) → EachAlternative all → every (map alternative_ends all) ≡ true → BlockEnds (or_of (map alternative_made all))
or-ends [] e ended h n = only-ends (line.Fail h) (fail-ends h)
or-ends (a ∷ []) e ended h n = e.0.is (two (alternative_ends a) true ended).first h n
or-ends (a ∷ b ∷ rest) e ended h n =
    let t = two (alternative_ends a) (every (map alternative_ends (b ∷ rest))) ended in
    let other = or_of (map alternative_made (b ∷ rest)) h n in
    else-ends other.numbers.name other.lines (alternative_made a (continuation.Named other.numbers.name) (one_name other.numbers)) (or-ends (b ∷ rest) e.1 t.second h n) (e.0.is t.first (continuation.Named other.numbers.name) (one_name other.numbers))

fields-end : (x i : ℕ) (ys : List ℕ) (lines : List Stmt) → Ends lines → Ends (fields_made x i ys lines)
fields-end x i [] lines e = e
fields-end x i (y ∷ ys) lines e = before-ends (line.Field y x i) (fields_made x (suc i) ys lines) (field-on y x i) (fields-end x (suc i) ys lines e)

every-more : (cs : List Case) (c : Case) → every (map case_ends cs) ≡ true → case_ends c ≡ true → every (map case_ends (cs ++ c ∷ [])) ≡ true
every-more [] c e f = ap (λ (b : Bool). b && true) f
every-more (d ∷ cs) c e f =
    let t = two (case_ends d) (every (map case_ends cs)) e in
    ap (λ (b : Bool). b && every (map case_ends (cs ++ c ∷ []))) t.first ∙ every-more cs c t.second f

-- of what is turned round
every-turned : (cs : List Case) → every (map case_ends cs) ≡ true → every (map case_ends (reverse cs)) ≡ true
every-turned [] e = refl
every-turned (c ∷ cs) e =
    let t = two (case_ends c) (every (map case_ends cs)) e in
    ap (λ (ds : List Case). every (map case_ends ds)) (reverse-append (c ∷ []) cs) ∙ every-more (reverse cs) c (every-turned cs t.second) t.first

cases-end : (ks : List Choice) → EachChoice ks → every (map choice_ends ks) ≡ true → (x : ℕ) (h : Continuation) (n : Numbers) → every (map case_ends (all_cases (map case_made ks) x h (cased [] n)).cases) ≡ true
cases-end [] e ended x h n = refl
cases-end (k ∷ ks) e ended x h n =
    let t = two (choice_ends k) (every (map choice_ends ks)) ended in
    let rest = all_cases (map case_made ks) x h (cased [] n) in
    let m = case_made k in
    every-more rest.cases (closed_case m x (m.block h rest.numbers).lines) (cases-end ks e.1 t.second x h n)
    (case-ends m.tag (fields_made x 1 m.vars (m.block h rest.numbers).lines) (fields-end x 1 m.vars (m.block h rest.numbers).lines (e.0.is t.first h rest.numbers)))

-- ---- a layer of a statement

naming-true : (b : Bool) (rest : List Standing) → block_ends (naming b ∷ rest) ≡ true → (b ≡ true) × (block_ends rest ≡ true)
naming-true true rest h = (refl, h)
naming-true false rest h = absurd (cc)

going-true : (b : Bool) (rest : List Standing) → block_ends (going_on b ∷ rest) ≡ true → (b ≡ true) × (block_ends rest ≡ true)
going-true true rest h = (refl, h)
going-true false rest h = absurd (cc)

ending-true : (b : Bool) (rest : List Standing) → block_ends (ending b ∷ rest) ≡ true → b ≡ true
ending-true true rest h = refl
ending-true false rest h = absurd (cc)

rolled : (y : Clause-F Clause Alternative Choice)
    → EndsAs (old.standing_at (map-Clause Clause Alternative Choice Standing Bool Bool old.standing alternative_ends choice_ends y)) (made_at (map-Clause Clause Alternative Choice Making BlockMaking CaseMaking stmt_made alternative_made case_made y))
    → StmtEnds (roll-Clause y)
rolled y h = record {
  is = subst (λ (z : Standing). EndsAs z (stmt_made (roll-Clause y))) (sym (fold-roll-Clause Standing Bool Bool old.standing_at old.alternative_ends_at old.case_ends_at y))
      (subst (λ (m : Making). EndsAs (old.standing_at (map-Clause Clause Alternative Choice Standing Bool Bool old.standing alternative_ends choice_ends y)) m) (sym (fold-roll-Clause Making BlockMaking CaseMaking made_at alternative_at case_at y)) h);
}

stmts-of : (ps : List ((x : Clause) × StmtEnds x)) → EachStmt (map (λ e. e.0) ps)
stmts-of [] = tt
stmts-of (p ∷ ps) = (p.1, stmts-of ps)

alternatives-of : (ps : List ((x : Alternative) × AlternativeEnds x)) → EachAlternative (map (λ e. e.0) ps)
alternatives-of [] = tt
alternatives-of (p ∷ ps) = (p.1, alternatives-of ps)

choices-of : (ps : List ((x : Choice) × ChoiceEnds x)) → EachChoice (map (λ e. e.0) ps)
choices-of [] = tt
choices-of (p ∷ ps) = (p.1, choices-of ps)

layer : (y : Clause-F ((x : Clause) × StmtEnds x) ((a : Alternative) × AlternativeEnds a) ((k : Choice) × ChoiceEnds k))
    → StmtEnds (roll-Clause (map-Clause ((x : Clause) × StmtEnds x) ((a : Alternative) × AlternativeEnds a) ((k : Choice) × ChoiceEnds k) Clause Alternative Choice (λ e. e.0) (λ e. e.0) (λ e. e.0) y))
layer (Clause-F.Match x p) = rolled (Clause-F.Match x p) (λ h s rest ended f. (pattern-ends p).whole x h s (f ended))
layer (Clause-F.Set x e) = rolled (Clause-F.Set x e) (λ h s rest ended f. before-ends (line.Set x e) s.lines (set-on x e) (f ended))
layer (Clause-F.Call c xs ys) = rolled (Clause-F.Call c xs ys) (λ h s rest ended f.
    let name = s.numbers.name in
    let success = line.Success name ys (reverse s.lines) in
    before-ends success (line.Call c xs (continuation.Named name) h ∷ []) (stands success (Stmt-F.Success name ys (reverse s.lines)) (line.rolls-Success name ys (reverse s.lines)) ∙ ap going_on (f ended).is)
    (only-ends (line.Call c xs (continuation.Named name) h) (stands (line.Call c xs (continuation.Named name) h) (Stmt-F.Call c xs (continuation.Named name) h) (line.rolls-Call c xs (continuation.Named name) h))))
layer (Clause-F.Builtin k xs ys) = rolled (Clause-F.Builtin k xs ys) (λ h s rest ended f.
    before-ends (line.Builtin k xs ys h) s.lines (stands (line.Builtin k xs ys h) (Stmt-F.Builtin k xs ys h) (line.rolls-Builtin k xs ys h)) (f ended))
layer (Clause-F.Equal x y) = rolled (Clause-F.Equal x y) (λ h s rest ended f.
    before-ends (line.Equal x y h) s.lines (stands (line.Equal x y h) (Stmt-F.Equal x y h) (line.rolls-Equal x y h)) (f ended))
layer (Clause-F.Not ps) =
    let xs = map (λ e. e.0) ps in
    rolled (Clause-F.Not xs) (λ h s rest ended f.
    let t = going-true (goal_ends (map old.standing xs)) rest ended in
    else-ends s.numbers.name s.lines (in_front (all_but_last (map stmt_made xs)) (continuation.Named s.numbers.name) (only (line.Fail h) (one_name s.numbers))) (f t.1)
    (front-ends xs (stmts-of ps) t.0 (continuation.Named s.numbers.name) (only (line.Fail h) (one_name s.numbers)) (only-ends (line.Fail h) (fail-ends h))))
layer (Clause-F.Or ps) =
    let all = map (λ e. e.0) ps in
    rolled (Clause-F.Or all) (λ h s rest ended f. or-ends all (alternatives-of ps) (ending-true (every (map alternative_ends all)) rest ended) h s.numbers)
layer (Clause-F.Cond ps qs rs) =
    let xs = map (λ e. e.0) ps in
    let ys = map (λ e. e.0) qs in
    let zs = map (λ e. e.0) rs in
    rolled (Clause-F.Cond xs ys zs) (λ h s rest ended f.
    let all = two (goal_ends (map old.standing xs) && block_ends (map old.standing ys)) (block_ends (map old.standing zs)) (ending-true _ rest ended) in
    let both = two (goal_ends (map old.standing xs)) (block_ends (map old.standing ys)) all.first in
    let n = s.numbers in
    let other = block_of (map stmt_made zs) h (one_name n) in
    let answered = block_of (map stmt_made ys) h other.numbers in
    else-ends n.name other.lines (in_front (all_but_last (map stmt_made xs)) (continuation.Named n.name) answered) (block-ends zs (stmts-of rs) all.second h (one_name n))
    (front-ends xs (stmts-of ps) both.first (continuation.Named n.name) answered (block-ends ys (stmts-of qs) both.second h other.numbers)))
layer (Clause-F.Switch x ps qs) =
    let ks = map (λ e. e.0) ps in
    let ys = map (λ e. e.0) qs in
    rolled (Clause-F.Switch x ks ys) (λ h s rest ended f.
    let t = two (every (map choice_ends ks)) (block_ends (map old.standing ys)) (ending-true _ rest ended) in
    let other = block_of (map stmt_made ys) h s.numbers in
    let all = all_cases (map case_made ks) x h (cased [] other.numbers) in
    switch-ends x (reverse all.cases) other.lines (every-turned all.cases (cases-end ks (choices-of ps) t.first x h other.numbers)) (block-ends ys (stmts-of qs) t.second h s.numbers))
layer (Clause-F.Body j ys ps) =
    let xs = map (λ e. e.0) ps in
    rolled (Clause-F.Body j ys xs) (λ h s rest ended f.
    let t = naming-true (block_ends (map old.standing xs)) rest ended in
    let name = s.numbers.name in
    let inner = block_of (map stmt_made xs) (continuation.Named name) (one_name s.numbers) in
    let body = line.Body j ys name (reverse inner.lines) in
    before-ends body s.lines
    (stands body (Stmt-F.Body j ys name (reverse inner.lines)) (line.rolls-Body j ys name (reverse inner.lines)) ∙ ap going_on (block-ends xs (stmts-of ps) t.0 (continuation.Named name) (one_name s.numbers)).is) (f t.1))
layer (Clause-F.Goto j ys) = rolled (Clause-F.Goto j ys) (λ h s rest ended f. only-ends (line.Goto j ys h) (stands (line.Goto j ys h) (Stmt-F.Goto j ys h) (line.rolls-Goto j ys h)))
layer (Clause-F.Give ys) = rolled (Clause-F.Give ys) (λ h s rest ended f.
    only-ends (line.Answer continuation.Own ys) (stands (line.Answer continuation.Own ys) (Stmt-F.Answer continuation.Own ys) (line.rolls-Answer continuation.Own ys)))
layer Clause-F.Fail = rolled Clause-F.Fail (λ h s rest ended f. only-ends (line.Fail h) (fail-ends h))

alternative-layer : (y : Alternative-F ((x : Clause) × StmtEnds x) ((a : Alternative) × AlternativeEnds a) ((k : Choice) × ChoiceEnds k))
    → AlternativeEnds (roll-Alternative (map-Alternative ((x : Clause) × StmtEnds x) ((a : Alternative) × AlternativeEnds a) ((k : Choice) × ChoiceEnds k) Clause Alternative Choice (λ e. e.0) (λ e. e.0) (λ e. e.0) y))
alternative-layer y =
    let z = map-Alternative ((x : Clause) × StmtEnds x) ((a : Alternative) × AlternativeEnds a) ((k : Choice) × ChoiceEnds k) Clause Alternative Choice (λ e. e.0) (λ e. e.0) (λ e. e.0) y in
    record {
      is = λ ended. subst BlockEnds (sym (fold-roll-Alternative Making BlockMaking CaseMaking made_at alternative_at case_at z))
          (block-ends z.block (stmts-of y.block) (sym (fold-roll-Alternative Standing Bool Bool old.standing_at old.alternative_ends_at old.case_ends_at z) ∙ ended));
    }

choice-layer : (y : Case-F ((x : Clause) × StmtEnds x) ((a : Alternative) × AlternativeEnds a) ((k : Choice) × ChoiceEnds k))
    → ChoiceEnds (roll-Choice (map-Case ((x : Clause) × StmtEnds x) ((a : Alternative) × AlternativeEnds a) ((k : Choice) × ChoiceEnds k) Clause Alternative Choice (λ e. e.0) (λ e. e.0) (λ e. e.0) y))
choice-layer y =
    let z = map-Case ((x : Clause) × StmtEnds x) ((a : Alternative) × AlternativeEnds a) ((k : Choice) × ChoiceEnds k) Clause Alternative Choice (λ e. e.0) (λ e. e.0) (λ e. e.0) y in
    record {
      is = λ ended. subst (λ (m : CaseMaking). BlockEnds m.block) (sym (fold-roll-Choice Making BlockMaking CaseMaking made_at alternative_at case_at z))
          (block-ends z.block (stmts-of y.block) (sym (fold-roll-Choice Standing Bool Bool old.standing_at old.alternative_ends_at old.case_ends_at z) ∙ ended));
    }

stmt-ends : (x : Clause) → StmtEnds x
stmt-ends = ind-Stmt StmtEnds AlternativeEnds ChoiceEnds (λ x y is. subst (λ z. StmtEnds (roll-Clause z)) is (layer y))
    (λ x y is. subst (λ z. AlternativeEnds (roll-Alternative z)) is (alternative-layer y)) (λ x y is. subst (λ z. ChoiceEnds (roll-Choice z)) is (choice-layer y))

all-end : (xs : List Clause) → EachStmt xs
all-end [] = tt
all-end (x ∷ xs) = (stmt-ends x, all-end xs)

pub relation-ends : (r : clause.Relation) → old.relation_ends r ≡ true → new.relation_ends (relation_made r) ≡ true
relation-ends r ended = (block-ends r.body.stmts (all-end r.body.stmts) ended continuation.Own (record { variable = r.vars; name = r.bodies })).is

pub relations-end : (rels : List clause.Relation) → list_all old.relation_ends rels ≡ true → list_all new.relation_ends (map relation_made rels) ≡ true
relations-end [] ended = refl
relations-end (r ∷ rels) ended =
    let t = two (old.relation_ends r) (list_all old.relation_ends rels) ended in
    ap (λ (b : Bool). b && list_all new.relation_ends (map relation_made rels)) (relation-ends r t.first) ∙ relations-end rels t.second
