-- What is made of clauses fits, with the variables and names that are made along.
use Rattle.std.proofs.Common.{◌≡◌, ℕ, zero, suc, ◌+◌, ◌<◌, ◌≤◌, Bool, true, false, List, [], ◌∷◌, ◌++◌, map, length, refl, sym, ap, subst, ◌∙◌, reverse, arith}
use Rattle.std.specs.Prelude.{◌&&◌, ◌==◌, nat_le, nat_lt, nat_eq, Option, Some, None, slice_get}
use Rattle.std.specs.List.{list_all}
use Rattle.std.proofs.lemmas.List.{reverse-append}
use Rattle.std.proofs.lemmas.Option.{slice_get_within}
use Rattle.std.proofs.lemmas.Bool.{ltb-true, lt-ltb, leb-true, le-leb}
use Rattle.rml_value.specs.declared.value.TheConstants.{NIL, CONS}
use Rattle.rml_fol.specs.declared.parts.Relation as clause
use Rattle.rml_fol.specs.declared.parts.Parts as clauses
use Rattle.rml_fol.specs.declared.parts.Constructor.{Constructor}
use Rattle.rml_fol.specs.declared.parts.Val.{Val}
use Rattle.rml_fol.specs.declared.terms.Expression.{Expression, map-Expression, roll-Expression, fold-roll-Expression, ind-Expression}
use Rattle.rml_fol.specs.declared.terms.Expression.TheOpen.{Expression-F}
use Rattle.rml_fol.specs.declared.terms.Expression.TheVariants as expression
use Rattle.rml_fol.specs.declared.terms.Pattern.{Pattern, map-Pattern, roll-Pattern, fold-roll-Pattern, ind-Pattern}
use Rattle.rml_fol.specs.declared.terms.Pattern.TheOpen.{Pattern-F}
use Rattle.rml_fol.specs.declared.statements.Callee.{Callee}
use Rattle.rml_fol.specs.declared.statements.Callee.TheVariants as callee
use Rattle.rml_fol.specs.declared.statements.Tag.{Tag}
use Rattle.rml_fol.specs.declared.statements.Tag.TheVariants as tag
use Rattle.rml_fol.specs.declared.statements.Stmt.{Stmt as Clause, map-Stmt as map-Clause, roll-Stmt as roll-Clause, fold-roll-Stmt as fold-roll-Clause, ind-Stmt}
use Rattle.rml_fol.specs.declared.statements.Alternative.{Alternative, fold-Alternative, map-Alternative, roll-Alternative, fold-roll-Alternative}
use Rattle.rml_fol.specs.declared.statements.Case.{Case as Choice, fold-Case as fold-Choice, map-Case, roll-Case as roll-Choice, fold-roll-Case as fold-roll-Choice}
use Rattle.rml_fol.specs.declared.statements.Stmt.TheOpen.{Stmt-F as Clause-F, Alternative-F, Case-F}
use Rattle.rml_fol.specs.Fits as old
use Rattle.rml_fol.specs.Fits.{Signature, Signatures, signature_of, signatures_of, arity_of, first_arities, cons_begin, name_is_bytes, names_are_bytes, is_just, takes_and_gives, every, pattern_fits, pattern_fits_at, expression_fits, expression_fits_at, vars_fit, tag_fits}
use Rattle.rml_cps.specs.declared.statements.Continuation.{Continuation}
use Rattle.rml_cps.specs.declared.statements.Continuation.TheVariants as continuation
use Rattle.rml_cps.specs.declared.statements.Stmt.{Stmt, map-Stmt, roll-Stmt, fold-roll-Stmt}
use Rattle.rml_cps.specs.declared.statements.Stmt.TheVariants as line
use Rattle.rml_cps.specs.declared.statements.Stmt.TheOpen.{Stmt-F}
use Rattle.rml_cps.specs.declared.statements.Case.{Case, fold-Case, fold-roll-Case}
use Rattle.rml_cps.specs.declared.parts.Relation.{Relation}
use Rattle.rml_cps.specs.Fits as new
use Rattle.rml_cps.specs.Fits.{callee_is_there, tag_is_there, stmt_fits_at, case_fits_at, stmt_fits}
use Rattle.rml_cps.specs.Tables.{without_body, tables_of}
use Rattle.rml_tocps.specs.declared.pass.numbers.Numbers.{Numbers}
use Rattle.rml_tocps.proofs.Callers.{two}
use Rattle.rml_tocps.specs.Matching.{place_at}
use Rattle.rml_conversion.specs.Hand.{Hand, Making, hand, one_variable, one_name, only, with_line, or_else, case_of, tested, all_but_last, last_of}
use Rattle.rml_conversion.specs.Patterns.{PatternMaking, fresh_part, parts_made, items_made, reserved, list_made, chain_made, pattern_at, pattern_made}
use Rattle.rml_conversion.specs.Statements.{BlockMaking, CaseMaking, in_front, block_of, or_of, cased, fields_made, closed_case, all_cases, made_at, alternative_at, case_at, stmt_made, alternative_made, case_made}
use Rattle.rml_conversion.specs.Tables.{relation_made, tables_made}

-- ---- tests

joined : (a b : Bool) → a ≡ true → b ≡ true → (a && b) ≡ true
joined a b e f = ap (λ (c : Bool). c && b) e ∙ f

all-more : {A : Type 0} (f : A → Bool) (xs : List A) (x : A) → list_all f xs ≡ true → f x ≡ true → list_all f (xs ++ x ∷ []) ≡ true
all-more f [] x e g = joined (f x) true g refl
all-more f (y ∷ xs) x e g =
    let t = two (f y) (list_all f xs) e in
    joined (f y) (list_all f (xs ++ x ∷ [])) t.first (all-more f xs x t.second g)

-- of what is turned round
all-turned : {A : Type 0} (f : A → Bool) (xs : List A) → list_all f xs ≡ true → list_all f (reverse xs) ≡ true
all-turned f [] e = refl
all-turned f (x ∷ xs) e =
    let t = two (f x) (list_all f xs) e in
    ap (λ ys. list_all f ys) (reverse-append (x ∷ []) xs) ∙ all-more f (reverse xs) x (all-turned f xs t.second) t.first

every-mapped : {A : Type 0} (f : A → Bool) (xs : List A) → every (map f xs) ≡ list_all f xs
every-mapped f [] = refl
every-mapped f (x ∷ xs) = ap (λ (b : Bool). f x && b) (every-mapped f xs)

less-true : (a b : ℕ) → a < b → nat_lt a b ≡ true
less-true a b h = lt-ltb a b h

vars-fit-more : (own v : ℕ) (xs : List ℕ) → own ≤ v → vars_fit own xs ≡ true → vars_fit v xs ≡ true
vars-fit-more own v [] h e = refl
vars-fit-more own v (x ∷ xs) h e =
    let t = two (nat_lt x own) (vars_fit own xs) e in
    let less : x < own = ltb-true x own t.first in
    joined (nat_lt x v) (vars_fit v xs) (less-true x v (omega arith)) (vars-fit-more own v xs h t.second)

-- ---- expressions

record ExpressionMore (n : Signatures) (own v : ℕ) (e : Expression) : Type 0 where
  by : expression_fits n own e ≡ true → expression_fits n v e ≡ true

abbrev More : Signatures → ℕ → ℕ → Type 0
More n own v = (x : Expression) × ExpressionMore n own v x

abbrev expressions_in : (n : Signatures) (own v : ℕ) → List (More n own v) → List Expression
expressions_in n own v es = map (λ e. e.0) es

every-more : (n : Signatures) (own v : ℕ) (es : List (More n own v)) → every (map (expression_fits n own) (expressions_in n own v es)) ≡ true → every (map (expression_fits n v) (expressions_in n own v es)) ≡ true
every-more n own v [] f = refl
every-more n own v (e ∷ es) f =
    let t = two (expression_fits n own e.0) (every (map (expression_fits n own) (expressions_in n own v es))) f in
    joined (expression_fits n v e.0) (every (map (expression_fits n v) (expressions_in n own v es))) (e.1.by t.first) (every-more n own v es t.second)

length-as : (n : Signatures) (own v : ℕ) (f : Expression → Bool) (es : List Expression) → length (map f es) ≡ length es
length-as n own v f [] = refl
length-as n own v f (e ∷ es) = ap suc (length-as n own v f es)

rolled-expression : (n : Signatures) (own v : ℕ) (y : Expression-F Expression)
    → (expression_fits_at n own (map-Expression Expression Bool (expression_fits n own) y) ≡ true → expression_fits_at n v (map-Expression Expression Bool (expression_fits n v) y) ≡ true) → ExpressionMore n own v (roll-Expression y)
rolled-expression n own v y e = record {
  by = λ f. fold-roll-Expression Bool (expression_fits_at n v) y ∙ e (sym (fold-roll-Expression Bool (expression_fits_at n own) y) ∙ f);
}

expression-layer : (n : Signatures) (own v : ℕ) → own ≤ v → (y : Expression-F (More n own v)) → ExpressionMore n own v (roll-Expression (map-Expression (More n own v) Expression (λ e. e.0) y))
expression-layer n own v h (Expression-F.Lit l) = rolled-expression n own v (Expression-F.Lit l) (λ f. f)
expression-layer n own v h (Expression-F.Var x) = rolled-expression n own v (Expression-F.Var x) (λ f. let less : x < own = ltb-true x own f in less-true x v (omega arith))
expression-layer n own v h (Expression-F.Val k) = rolled-expression n own v (Expression-F.Val k) (λ f. f)
expression-layer n own v h (Expression-F.Rel r) = rolled-expression n own v (Expression-F.Rel r) (λ f. f)
expression-layer n own v h (Expression-F.Con c es) =
    let all = expressions_in n own v es in
    let a = map (expression_fits n own) all in
    let b = map (expression_fits n v) all in
    let same : length a ≡ length b = length-as n own v (expression_fits n own) all ∙ sym (length-as n own v (expression_fits n v) all) in
    rolled-expression n own v (Expression-F.Con c all) (λ f.
    let t = two (is_just (length a) (slice_get n.cons c)) (every a) f in
    joined (is_just (length b) (slice_get n.cons c)) (every b) (ap (λ k. is_just k (slice_get n.cons c)) (sym same) ∙ t.first) (every-more n own v es t.second))
expression-layer n own v h (Expression-F.Tuple es) = rolled-expression n own v (Expression-F.Tuple (expressions_in n own v es)) (λ f. every-more n own v es f)
expression-layer n own v h (Expression-F.List es) = rolled-expression n own v (Expression-F.List (expressions_in n own v es)) (λ f. every-more n own v es f)
expression-layer n own v h (Expression-F.Cons es) =
    let all = expressions_in n own v es in
    let a = map (expression_fits n own) all in
    let b = map (expression_fits n v) all in
    let same : length a ≡ length b = length-as n own v (expression_fits n own) all ∙ sym (length-as n own v (expression_fits n v) all) in
    rolled-expression n own v (Expression-F.Cons all) (λ f.
    let t = two (nat_le 2 (length a)) (every a) f in
    joined (nat_le 2 (length b)) (every b) (ap (λ k. nat_le 2 k) (sym same) ∙ t.first) (every-more n own v es t.second))

expression-more : (n : Signatures) (own v : ℕ) → own ≤ v → (e : Expression) → expression_fits n own e ≡ true → expression_fits n v e ≡ true
expression-more n own v h e f = (ind-Expression (ExpressionMore n own v) (λ x y is. subst (λ z. ExpressionMore n own v (roll-Expression z)) is (expression-layer n own v h y)) e).by f

-- ---- lines

abbrev case_fits : Signatures → ℕ → ℕ → Case → Bool
case_fits n v k = fold-Case Bool Bool (stmt_fits_at n v k) (case_fits_at n)

fitted : (n : Signatures) (v k : ℕ) (s : Stmt) (y : Stmt-F Stmt Case) → roll-Stmt y ≡ s → stmt_fits n v k s ≡ stmt_fits_at n v k (map-Stmt Stmt Case Bool Bool (stmt_fits n v k) (case_fits n v k) y)
fitted n v k s y e = ap (stmt_fits n v k) (sym e) ∙ fold-roll-Stmt Bool Bool (stmt_fits_at n v k) (case_fits_at n) y

-- all lines fit
record Fit (n : Signatures) (v k : ℕ) (lines : List Stmt) : Type 0 where
  all : list_all (stmt_fits n v k) lines ≡ true

fit-more : (n : Signatures) (v k : ℕ) (lines : List Stmt) (x : Stmt) → Fit n v k lines → stmt_fits n v k x ≡ true → Fit n v k (lines ++ x ∷ [])
fit-more n v k lines x f e = record { all = all-more (stmt_fits n v k) lines x f.all e }

fit-one : (n : Signatures) (v k : ℕ) (x : Stmt) → stmt_fits n v k x ≡ true → Fit n v k (x ∷ [])
fit-one n v k x e = record { all = joined (stmt_fits n v k x) true e refl }

fit-none : (n : Signatures) (v k : ℕ) → Fit n v k []
fit-none n v k = record { all = refl }

block-fits : (n : Signatures) (v k : ℕ) (lines : List Stmt) → Fit n v k lines → every (map (stmt_fits n v k) (reverse lines)) ≡ true
block-fits n v k lines f = every-mapped (stmt_fits n v k) (reverse lines) ∙ all-turned (stmt_fits n v k) lines f.all

field-fits : (n : Signatures) (v k y x i : ℕ) → y < v → 1 ≤ i → stmt_fits n v k (line.Field y x i) ≡ true
field-fits n v k y x i less from = fitted n v k (line.Field y x i) (Stmt-F.Field y x i) (line.rolls-Field y x i) ∙ joined (nat_lt y v) (nat_le 1 i) (less-true y v less) (le-leb 1 i from)

set-fits : (n : Signatures) (v k y : ℕ) (e : Expression) → y < v → expression_fits n v e ≡ true → stmt_fits n v k (line.Set y e) ≡ true
set-fits n v k y e less f = fitted n v k (line.Set y e) (Stmt-F.Set y e) (line.rolls-Set y e) ∙ joined (nat_lt y v) (expression_fits n v e) (less-true y v less) f

fail-fits : (n : Signatures) (v k : ℕ) (h : Continuation) → stmt_fits n v k (line.Fail h) ≡ true
fail-fits n v k h = fitted n v k (line.Fail h) (Stmt-F.Fail h) (line.rolls-Fail h)

failure-fits : (n : Signatures) (v k name : ℕ) (other : List Stmt) → name < k → Fit n v k other → stmt_fits n v k (line.Failure name (reverse other)) ≡ true
failure-fits n v k name other less f =
    fitted n v k (line.Failure name (reverse other)) (Stmt-F.Failure name (reverse other)) (line.rolls-Failure name (reverse other))
    ∙ joined (nat_lt name k) (every (map (stmt_fits n v k) (reverse other))) (less-true name k less) (block-fits n v k other f)

case-fits : (n : Signatures) (v k : ℕ) (t : Tag) (lines : List Stmt) → tag_is_there n t ≡ true → Fit n v k lines → case_fits n v k (case_of t (reverse lines)) ≡ true
case-fits n v k t lines there f =
    fold-roll-Case Bool Bool (stmt_fits_at n v k) (case_fits_at n) (record { tag = t; block = reverse lines })
    ∙ joined (tag_is_there n t) (every (map (stmt_fits n v k) (reverse lines))) there (block-fits n v k lines f)

switch-fits : (n : Signatures) (v k x : ℕ) (cases : List Case) (other : List Stmt) → list_all (case_fits n v k) cases ≡ true → Fit n v k other → stmt_fits n v k (line.Switch x cases (reverse other)) ≡ true
switch-fits n v k x cases other e f =
    fitted n v k (line.Switch x cases (reverse other)) (Stmt-F.Switch x cases (reverse other)) (line.rolls-Switch x cases (reverse other))
    ∙ joined (every (map (case_fits n v k) cases)) (every (map (stmt_fits n v k) (reverse other))) (every-mapped (case_fits n v k) cases ∙ e) (block-fits n v k other f)

-- ---- what is in hand

-- what is declared, and how many variables and bodies the relation has; the constructors of lists are declared
record Given : Type 0 where
  signatures : Signatures
  own : ℕ
  bodies : ℕ
  lists : 2 ≤ length signatures.cons

-- Numbers only grow, and where the lines in hand before fit with so many variables and names, those in hand afterwards do.
record Keeps (g : Given) (s t : Hand) : Type 0 where
  vars : s.numbers.variable ≤ t.numbers.variable
  names : s.numbers.name ≤ t.numbers.name
  fits : (v k : ℕ) → g.own ≤ v → g.bodies ≤ k → t.numbers.variable ≤ v → t.numbers.name ≤ k → Fit g.signatures v k s.lines → Fit g.signatures v k t.lines

same : (g : Given) (s : Hand) → Keeps g s s
same g s = record { vars = omega arith; names = omega arith; fits = λ v k o b p q f. f }

and-then : (g : Given) (s t u : Hand) → Keeps g s t → Keeps g t u → Keeps g s u
and-then g s t u a b = record {
  vars = omega arith;
  names = omega arith;
  fits = λ v k o j p q f. b.fits v k o j p q (a.fits v k o j (omega arith) (omega arith) f);
}

-- what does not look at the lines in hand
whatever : (g : Given) (s t : Hand) → Keeps g (hand [] s.numbers) t → Keeps g s t
whatever g s t a = record {
  vars = a.vars;
  names = a.names;
  fits = λ v k o b p q f. a.fits v k o b p q (fit-none g.signatures v k);
}

line-keeps : (g : Given) (x : Stmt) (s : Hand) → ((v k : ℕ) → g.own ≤ v → g.bodies ≤ k → s.numbers.variable ≤ v → s.numbers.name ≤ k → stmt_fits g.signatures v k x ≡ true) → Keeps g s (with_line x s)
line-keeps g x s e = record {
  vars = omega arith;
  names = omega arith;
  fits = λ v k o b p q f. fit-more g.signatures v k s.lines x f (e v k o b p q);
}

only-keeps : (g : Given) (x : Stmt) (s : Hand) (n : Numbers) → s.numbers.variable ≤ n.variable → s.numbers.name ≤ n.name → ((v k : ℕ) → stmt_fits g.signatures v k x ≡ true) → Keeps g s (only x n)
only-keeps g x s n vs ns e = record { vars = vs; names = ns; fits = λ v k o b p q f. fit-one g.signatures v k x (e v k) }

tested-keeps : (g : Given) (t : Tag) (x : ℕ) (h : Continuation) (s : Hand) → tag_is_there g.signatures t ≡ true → Keeps g s (tested t x h s)
tested-keeps g t x h s there = record {
  vars = omega arith;
  names = omega arith;
  fits = λ v k o b p q f.
      let n = g.signatures in
      let one = case_of t (reverse s.lines) in
      fit-one n v k (line.Switch x (one ∷ []) (line.Fail h ∷ []))
      (switch-fits n v k x (one ∷ []) (line.Fail h ∷ []) (joined (case_fits n v k one) true (case-fits n v k t s.lines there f) refl) (fit-one n v k (line.Fail h) (fail-fits n v k h)));
}

nil-there : (g : Given) → tag_is_there g.signatures (tag.Con NIL) ≡ true
nil-there g = let some = g.lists in less-true NIL (length g.signatures.cons) (omega arith)

cons-there : (g : Given) → tag_is_there g.signatures (tag.Con CONS) ≡ true
cons-there g = let some = g.lists in less-true CONS (length g.signatures.cons) (omega arith)

-- a constructor with so many arguments is there
con-there : (n : Signatures) (c k : ℕ) → old.con_fits n c k ≡ true → tag_is_there n (tag.Con c) ≡ true
con-there n c k e = found (slice_get n.cons c) refl e
  where
    found : (o : Option ℕ) → slice_get n.cons c ≡ o → is_just k o ≡ true → nat_lt c (length n.cons) ≡ true
    found None is e = absurd (cc)
    found (Some j) is e = less-true c (length n.cons) (slice_get_within n.cons c j is)

-- ---- patterns

-- a variable of the relation, or one that is made already
record Below (g : Given) (x : ℕ) (s : Hand) : Type 0 where
  at : (v : ℕ) → g.own ≤ v → s.numbers.variable ≤ v → x < v

own-below : (g : Given) (x : ℕ) (s : Hand) → x < g.own → Below g x s
own-below g x s less = record { at = λ v o p. omega arith }

place-below : (g : Given) (x first count : ℕ) (s : Hand) → Below g x s → first + count ≤ s.numbers.variable → Below g (place_at x first count) s
place-below g x first zero s b taken = b
place-below g x first (suc i) s b taken = record { at = λ v o p. omega arith }

var-fits : (n : Signatures) (v x : ℕ) → x < v → expression_fits n v (expression.Var x) ≡ true
var-fits n v x less = ap (expression_fits n v) (sym (expression.rolls-Var x)) ∙ fold-roll-Expression Bool (expression_fits_at n v) (Expression-F.Var x) ∙ less-true x v less

record BothKeep (g : Given) (m : PatternMaking) : Type 0 where
  whole : (x : ℕ) (h : Continuation) (s : Hand) → Below g x s → Keeps g s (m.whole x h s)
  part : (x i : ℕ) → 1 ≤ i → (h : Continuation) (s : Hand) → Keeps g s (m.part x i h s)

record PatternKeeps (g : Given) (p : Pattern) : Type 0 where
  by : pattern_fits g.signatures g.own p ≡ true → BothKeep g (pattern_made p)

abbrev EachPattern : Given → List PatternMaking → Type 0
EachPattern g [] = Unit {0}
EachPattern g (m ∷ ms) = BothKeep g m × EachPattern g ms

parts-keep : (g : Given) (ms : List PatternMaking) → EachPattern g ms → (x i : ℕ) → 1 ≤ i → (h : Continuation) (s : Hand) → Keeps g s (parts_made ms x i h s)
parts-keep g [] e x i from h s = same g s
parts-keep g (m ∷ ms) e x i from h s =
    let rest = parts_made ms x (suc i) h s in
    and-then g s rest (m.part x i h rest) (parts-keep g ms e.1 x (suc i) (omega arith) h s) (e.0.part x i from h rest)

items-keep : (g : Given) (ms : List PatternMaking) → EachPattern g ms → (x first : ℕ) (h : Continuation) (s : Hand) → first + length ms ≤ s.numbers.variable → Keeps g s (items_made ms x first h s)
items-keep g [] e x first h s taken = same g s
items-keep g (m ∷ ms) e x first h s taken =
    let inner = items_made ms first (suc first) h s in
    let behind = with_line (line.Field first x 2) inner in
    let more = m.part x 1 h behind in
    let rest = items-keep g ms e.1 first (suc first) h s (omega arith) in
    let field : Keeps g inner behind = line-keeps g (line.Field first x 2) inner (λ v k o b p q. field-fits g.signatures v k first x 2 (omega arith) (omega arith)) in
    and-then g s inner (tested (tag.Con CONS) x h more) rest
    (and-then g inner behind (tested (tag.Con CONS) x h more) field
    (and-then g behind more (tested (tag.Con CONS) x h more) (e.0.part x 1 (omega arith) h behind) (tested-keeps g (tag.Con CONS) x h more (cons-there g))))

each-front : (g : Given) (m : PatternMaking) (ms : List PatternMaking) → EachPattern g (m ∷ ms) → EachPattern g (all_but_last (m ∷ ms))
each-front g m [] e = tt
each-front g m (k ∷ ms) e = (e.0, each-front g k ms e.1)

each-last : (g : Given) (m : PatternMaking) (ms : List PatternMaking) → EachPattern g (m ∷ ms) → BothKeep g (last_of m ms)
each-last g m [] e = e.0
each-last g m (k ∷ ms) e = each-last g k ms e.1

reserved-keeps : (g : Given) (count : ℕ) (s : Hand) → Keeps g s (reserved count s)
reserved-keeps g count s = record { vars = omega arith; names = omega arith; fits = λ v k o b p q f. f }

chain-keeps : (g : Given) (ms : List PatternMaking) → EachPattern g ms → (x : ℕ) (h : Continuation) (s : Hand) → Below g x s → Keeps g s (chain_made ms x h s)
chain-keeps g [] e x h s b = same g s
chain-keeps g (m ∷ ms) e x h s b =
    let front = all_but_last (m ∷ ms) in
    let here = reserved (length front) s in
    let place = place_at x s.numbers.variable (length front) in
    let tail = (last_of m ms).whole place h here in
    let later : Below g x here = record { at = λ v o p. b.at v o (omega arith) } in
    let one : Keeps g here tail = (each-last g m ms e).whole place h here (place-below g x s.numbers.variable (length front) here later (omega arith)) in
    let vs = one.vars in
    and-then g s here (items_made front x s.numbers.variable h tail) (reserved-keeps g (length front) s)
    (and-then g here tail (items_made front x s.numbers.variable h tail) one (items-keep g front (each-front g m ms e) x s.numbers.variable h tail (omega arith)))

list-keeps : (g : Given) (ms : List PatternMaking) → EachPattern g ms → (x : ℕ) (h : Continuation) (s : Hand) → Keeps g s (list_made ms x h s)
list-keeps g ms e x h s =
    let here = reserved (length ms) s in
    let place = place_at x s.numbers.variable (length ms) in
    let end = tested (tag.Con NIL) place h here in
    and-then g s here (items_made ms x s.numbers.variable h end) (reserved-keeps g (length ms) s)
    (and-then g here end (items_made ms x s.numbers.variable h end) (tested-keeps g (tag.Con NIL) place h here (nil-there g)) (items-keep g ms e x s.numbers.variable h end (omega arith)))

-- a part that is taken into a fresh variable
whole-then-fresh : (g : Given) (m : ℕ → Making) → ((x : ℕ) (h : Continuation) (s : Hand) → Below g x s → Keeps g s (m x h s)) → BothKeep g (record { whole = m; part = fresh_part m })
whole-then-fresh g m e = record {
  whole = e;
  part = λ x i from h s.
      let y = s.numbers.variable in
      let here = hand s.lines (one_variable s.numbers) in
      let inner = m y h here in
      let one : Keeps g here inner = e y h here (record { at = λ v o p. omega arith }) in
      let first : Keeps g s here = record { vars = omega arith; names = omega arith; fits = λ v k o b p q f. f } in
      and-then g s here (with_line (line.Field y x i) inner) first
      (and-then g here inner (with_line (line.Field y x i) inner) one (line-keeps g (line.Field y x i) inner (λ v k o b p q. field-fits g.signatures v k y x i (omega (arith, one.vars)) from)));
}

abbrev Parted : Given → Type 0
Parted g = List ((x : Pattern) × PatternKeeps g x)

abbrev patterns_in : (g : Given) → Parted g → List Pattern
patterns_in g ps = map (λ e. e.0) ps

each-of : (g : Given) (ps : Parted g) → every (map (pattern_fits g.signatures g.own) (patterns_in g ps)) ≡ true → EachPattern g (map pattern_made (patterns_in g ps))
each-of g [] f = tt
each-of g (p ∷ ps) f =
    let t = two (pattern_fits g.signatures g.own p.0) (every (map (pattern_fits g.signatures g.own) (patterns_in g ps))) f in
    (p.1.by t.first, each-of g ps t.second)

rolled-pattern : (g : Given) (y : Pattern-F Pattern)
    → (pattern_fits_at g.signatures g.own (map-Pattern Pattern Bool (pattern_fits g.signatures g.own) y) ≡ true → BothKeep g (pattern_at (map-Pattern Pattern PatternMaking pattern_made y))) → PatternKeeps g (roll-Pattern y)
rolled-pattern g y b = record {
  by = λ f. subst (BothKeep g) (sym (fold-roll-Pattern PatternMaking pattern_at y)) (b (sym (fold-roll-Pattern Bool (pattern_fits_at g.signatures g.own) y) ∙ f));
}

pattern-layer : (g : Given) (y : Pattern-F ((x : Pattern) × PatternKeeps g x)) → PatternKeeps g (roll-Pattern (map-Pattern ((x : Pattern) × PatternKeeps g x) Pattern (λ e. e.0) y))
pattern-layer g Pattern-F.Any = rolled-pattern g Pattern-F.Any (λ f. record { whole = λ x h s b. same g s; part = λ x i from h s. same g s })
pattern-layer g (Pattern-F.Lit l) = rolled-pattern g (Pattern-F.Lit l) (λ f. whole-then-fresh g _ (λ x h s b. tested-keeps g (tag.Lit l) x h s f))
pattern-layer g (Pattern-F.Var y) = rolled-pattern g (Pattern-F.Var y) (λ f.
    let less : y < g.own = ltb-true y g.own f in
    record {
      whole = λ x h s below. line-keeps g (line.Set y (expression.Var x)) s (λ v k o b p q. set-fits g.signatures v k y (expression.Var x) (omega arith) (var-fits g.signatures v x (below.at v o p)));
      part = λ x i from h s. line-keeps g (line.Field y x i) s (λ v k o b p q. field-fits g.signatures v k y x i (omega arith) from);
    })
pattern-layer g (Pattern-F.Con c ps) =
    let all = patterns_in g ps in
    let ms = map pattern_made all in
    rolled-pattern g (Pattern-F.Con c all) (λ f.
    let k = length (map (pattern_fits g.signatures g.own) all) in
    let t = two (old.con_fits g.signatures c k) (every (map (pattern_fits g.signatures g.own) all)) f in
    whole-then-fresh g _ (λ x h s b.
    and-then g s (parts_made ms x 1 h s) (tested (tag.Con c) x h (parts_made ms x 1 h s)) (parts-keep g ms (each-of g ps t.second) x 1 (omega arith) h s)
    (tested-keeps g (tag.Con c) x h (parts_made ms x 1 h s) (con-there g.signatures c k t.first))))
pattern-layer g (Pattern-F.Tuple ps) =
    rolled-pattern g (Pattern-F.Tuple (patterns_in g ps)) (λ f. whole-then-fresh g _ (λ x h s b. parts-keep g (map pattern_made (patterns_in g ps)) (each-of g ps f) x 1 (omega arith) h s))
pattern-layer g (Pattern-F.List ps) =
    rolled-pattern g (Pattern-F.List (patterns_in g ps)) (λ f. whole-then-fresh g _ (λ x h s b. list-keeps g (map pattern_made (patterns_in g ps)) (each-of g ps f) x h s))
pattern-layer g (Pattern-F.Cons ps) =
    let all = patterns_in g ps in
    rolled-pattern g (Pattern-F.Cons all) (λ f.
    let t = two (nat_le 2 (length (map (pattern_fits g.signatures g.own) all))) (every (map (pattern_fits g.signatures g.own) all)) f in
    whole-then-fresh g _ (λ x h s b. chain-keeps g (map pattern_made all) (each-of g ps t.second) x h s b))
pattern-layer g (Pattern-F.Bind y e) = rolled-pattern g (Pattern-F.Bind y e.0) (λ f.
    let t = two (nat_lt y g.own) (pattern_fits g.signatures g.own e.0) f in
    let less : y < g.own = ltb-true y g.own t.first in
    let both = e.1.by t.second in
    record {
      whole = λ x h s below.
          let inner = (pattern_made e.0).whole x h s in
          let one : Keeps g s inner = both.whole x h s below in
          and-then g s inner (with_line (line.Set y (expression.Var x)) inner) one
          (line-keeps g (line.Set y (expression.Var x)) inner (λ v k o b p q. set-fits g.signatures v k y (expression.Var x) (omega arith) (var-fits g.signatures v x (below.at v o (omega (arith, one.vars))))));
      part = λ x i from h s.
          let inner = (pattern_made e.0).whole y h s in
          and-then g s inner (with_line (line.Field y x i) inner) (both.whole y h s (own-below g y s less)) (line-keeps g (line.Field y x i) inner (λ v k o b p q. field-fits g.signatures v k y x i (omega arith) from));
    })

pattern-keeps : (g : Given) (p : Pattern) → PatternKeeps g p
pattern-keeps g = ind-Pattern (PatternKeeps g) (λ x y is. subst (λ z. PatternKeeps g (roll-Pattern z)) is (pattern-layer g y))

-- ---- statements

abbrev clause_fits : Given → Clause → Bool
clause_fits g = old.stmt_fits g.signatures g.own g.bodies

abbrev alternative_fits : Given → Alternative → Bool
alternative_fits g = fold-Alternative Bool Bool Bool (old.stmt_fits_at g.signatures g.own g.bodies) old.alternative_fits_at (old.case_fits_at g.signatures g.own)

abbrev choice_fits : Given → Choice → Bool
choice_fits g = fold-Choice Bool Bool Bool (old.stmt_fits_at g.signatures g.own g.bodies) old.alternative_fits_at (old.case_fits_at g.signatures g.own)

record StmtKeeps (g : Given) (x : Clause) : Type 0 where
  by : clause_fits g x ≡ true → (h : Continuation) (s : Hand) → Keeps g s (stmt_made x h s)

-- a block begins with nothing in hand
abbrev BlockKeeps : Given → BlockMaking → Type 0
BlockKeeps g m = (h : Continuation) (n : Numbers) → Keeps g (hand [] n) (m h n)

record AlternativeKeeps (g : Given) (a : Alternative) : Type 0 where
  by : alternative_fits g a ≡ true → BlockKeeps g (alternative_made a)

record CaseKeeps (g : Given) (m : CaseMaking) : Type 0 where
  tag : tag_is_there g.signatures m.tag ≡ true
  vars : vars_fit g.own m.vars ≡ true
  block : BlockKeeps g m.block

record ChoiceKeeps (g : Given) (k : Choice) : Type 0 where
  by : choice_fits g k ≡ true → CaseKeeps g (case_made k)

abbrev EachStmt : Given → List Clause → Type 0
EachStmt g [] = Unit {0}
EachStmt g (x ∷ xs) = StmtKeeps g x × EachStmt g xs

abbrev EachAlternative : Given → List Alternative → Type 0
EachAlternative g [] = Unit {0}
EachAlternative g (x ∷ xs) = AlternativeKeeps g x × EachAlternative g xs

abbrev EachChoice : Given → List Choice → Type 0
EachChoice g [] = Unit {0}
EachChoice g (x ∷ xs) = ChoiceKeeps g x × EachChoice g xs

front-keeps : (g : Given) (xs : List Clause) → EachStmt g xs → every (map (clause_fits g) xs) ≡ true → (h : Continuation) (s : Hand) → Keeps g s (in_front (map stmt_made xs) h s)
front-keeps g [] e f h s = same g s
front-keeps g (x ∷ xs) e f h s =
    let t = two (clause_fits g x) (every (map (clause_fits g) xs)) f in
    let rest = in_front (map stmt_made xs) h s in
    and-then g s rest (stmt_made x h rest) (front-keeps g xs e.1 t.second h s) (e.0.by t.first h rest)

block-keeps : (g : Given) (xs : List Clause) → EachStmt g xs → every (map (clause_fits g) xs) ≡ true → BlockKeeps g (block_of (map stmt_made xs))
block-keeps g xs e f h n = front-keeps g xs e f h (hand [] n)

-- all but the last
goal-keeps : (g : Given) (xs : List Clause) → EachStmt g xs → every (map (clause_fits g) xs) ≡ true → (h : Continuation) (s : Hand) → Keeps g s (in_front (all_but_last (map stmt_made xs)) h s)
goal-keeps g [] e f h s = same g s
goal-keeps g (x ∷ []) e f h s = same g s
goal-keeps g (x ∷ y ∷ ys) e f h s =
    let t = two (clause_fits g x) (every (map (clause_fits g) (y ∷ ys))) f in
    let rest = in_front (all_but_last (map stmt_made (y ∷ ys))) h s in
    and-then g s rest (stmt_made x h rest) (goal-keeps g (y ∷ ys) e.1 t.second h s) (e.0.by t.first h rest)

-- another block follows the failure of what is tried, which is made later
else-keeps : (g : Given) (name : ℕ) (s other from tried : Hand) → Keeps g s other → Keeps g from tried → other.numbers.variable ≤ from.numbers.variable → other.numbers.name ≤ from.numbers.name → name < from.numbers.name
    → ((v k : ℕ) → Fit g.signatures v k from.lines) → Keeps g s (or_else name other.lines tried)
else-keeps g name s other from tried a b vs ns less nothing = record {
  vars = omega (arith, a.vars, b.vars);
  names = omega (arith, a.names, b.names);
  fits = λ v k o j p q f.
      fit-more g.signatures v k tried.lines (line.Failure name (reverse other.lines)) (b.fits v k o j p q (nothing v k))
      (failure-fits g.signatures v k name other.lines (omega (arith, b.names)) (a.fits v k o j (omega (arith, b.vars)) (omega (arith, b.names)) f));
}

or-keeps : (g : Given) (all : List Alternative) → EachAlternative g all → every (map (alternative_fits g) all) ≡ true → BlockKeeps g (or_of (map alternative_made all))
or-keeps g [] e f h n = only-keeps g (line.Fail h) (hand [] n) n (omega arith) (omega arith) (λ v k. fail-fits g.signatures v k h)
or-keeps g (a ∷ []) e f h n = e.0.by (two (alternative_fits g a) true f).first h n
or-keeps g (a ∷ b ∷ rest) e f h n =
    let t = two (alternative_fits g a) (every (map (alternative_fits g) (b ∷ rest))) f in
    let other = or_of (map alternative_made (b ∷ rest)) h n in
    let tried = alternative_made a (continuation.Named other.numbers.name) (one_name other.numbers) in
    else-keeps g other.numbers.name (hand [] n) other (hand [] (one_name other.numbers)) tried (or-keeps g (b ∷ rest) e.1 t.second h n) (e.0.by t.first (continuation.Named other.numbers.name) (one_name other.numbers))
    (omega arith) (omega arith) (omega arith) (λ v k. fit-none g.signatures v k)

fields-fit : (n : Signatures) (v k x i : ℕ) (ys : List ℕ) (lines : List Stmt) → 1 ≤ i → vars_fit v ys ≡ true → Fit n v k lines → Fit n v k (fields_made x i ys lines)
fields-fit n v k x i [] lines from e f = f
fields-fit n v k x i (y ∷ ys) lines from e f =
    let t = two (nat_lt y v) (vars_fit v ys) e in
    fit-more n v k (fields_made x (suc i) ys lines) (line.Field y x i) (fields-fit n v k x (suc i) ys lines (omega arith) t.second f) (field-fits n v k y x i (ltb-true y v t.first) from)

-- the cases that are made
record CasesKeep (g : Given) (n : Numbers) (cases : List Case) (m : Numbers) : Type 0 where
  vars : n.variable ≤ m.variable
  names : n.name ≤ m.name
  fits : (v k : ℕ) → g.own ≤ v → g.bodies ≤ k → m.variable ≤ v → m.name ≤ k → list_all (case_fits g.signatures v k) cases ≡ true

cases-keep : (g : Given) (ks : List Choice) → EachChoice g ks → every (map (choice_fits g) ks) ≡ true → (x : ℕ) (h : Continuation) (n : Numbers)
    → CasesKeep g n (all_cases (map case_made ks) x h (cased [] n)).cases (all_cases (map case_made ks) x h (cased [] n)).numbers
cases-keep g [] e f x h n = record { vars = omega arith; names = omega arith; fits = λ v k o b p q. refl }
cases-keep g (c ∷ ks) e f x h n =
    let t = two (choice_fits g c) (every (map (choice_fits g) ks)) f in
    let so_far = all_cases (map case_made ks) x h (cased [] n) in
    let m = case_made c in
    let block = m.block h so_far.numbers in
    let rest : CasesKeep g n so_far.cases so_far.numbers = cases-keep g ks e.1 t.second x h n in
    let one : CaseKeeps g m = e.0.by t.first in
    let made : Keeps g (hand [] so_far.numbers) block = one.block h so_far.numbers in
    record {
      vars = omega (arith, rest.vars, made.vars);
      names = omega (arith, rest.names, made.names);
      fits = λ v k o b p q.
          all-more (case_fits g.signatures v k) so_far.cases (closed_case m x block.lines) (rest.fits v k o b (omega (arith, made.vars)) (omega (arith, made.names)))
          (case-fits g.signatures v k m.tag (fields_made x 1 m.vars block.lines) one.tag
          (fields-fit g.signatures v k x 1 m.vars block.lines (omega arith) (vars-fit-more g.own v m.vars o one.vars) (made.fits v k o b p q (fit-none g.signatures v k))));
    }

-- a relation or a variable that is called
callee-there : (n : Signatures) (v taken given : ℕ) (f : Callee) → old.callee_fits n v taken given f ≡ true → callee_is_there n f ≡ true
callee-there n v taken given (callee.Var x) e = refl
callee-there n v taken given (callee.Rel r) e = found (slice_get n.rels r) refl e
  where
    found : (o : Option Signature) → slice_get n.rels r ≡ o → takes_and_gives taken given o ≡ true → nat_lt r (length n.rels) ≡ true
    found None is e = absurd (cc)
    found (Some j) is e = less-true r (length n.rels) (slice_get_within n.rels r j is)

-- ---- a layer of a statement

rolled : (g : Given) (y : Clause-F Clause Alternative Choice)
    → (old.stmt_fits_at g.signatures g.own g.bodies (map-Clause Clause Alternative Choice Bool Bool Bool (clause_fits g) (alternative_fits g) (choice_fits g) y) ≡ true
    → (h : Continuation) (s : Hand) → Keeps g s (made_at (map-Clause Clause Alternative Choice Making BlockMaking CaseMaking stmt_made alternative_made case_made y) h s))
    → StmtKeeps g (roll-Clause y)
rolled g y e = record {
  by = λ f h s.
      subst (λ (m : Making). Keeps g s (m h s)) (sym (fold-roll-Clause Making BlockMaking CaseMaking made_at alternative_at case_at y))
      (e (sym (fold-roll-Clause Bool Bool Bool (old.stmt_fits_at g.signatures g.own g.bodies) old.alternative_fits_at (old.case_fits_at g.signatures g.own) y) ∙ f) h s);
}

stmts-of : (g : Given) (ps : List ((x : Clause) × StmtKeeps g x)) → EachStmt g (map (λ e. e.0) ps)
stmts-of g [] = tt
stmts-of g (p ∷ ps) = (p.1, stmts-of g ps)

alternatives-of : (g : Given) (ps : List ((x : Alternative) × AlternativeKeeps g x)) → EachAlternative g (map (λ e. e.0) ps)
alternatives-of g [] = tt
alternatives-of g (p ∷ ps) = (p.1, alternatives-of g ps)

choices-of : (g : Given) (ps : List ((x : Choice) × ChoiceKeeps g x)) → EachChoice g (map (λ e. e.0) ps)
choices-of g [] = tt
choices-of g (p ∷ ps) = (p.1, choices-of g ps)

layer : (g : Given) (y : Clause-F ((x : Clause) × StmtKeeps g x) ((a : Alternative) × AlternativeKeeps g a) ((k : Choice) × ChoiceKeeps g k))
    → StmtKeeps g (roll-Clause (map-Clause ((x : Clause) × StmtKeeps g x) ((a : Alternative) × AlternativeKeeps g a) ((k : Choice) × ChoiceKeeps g k) Clause Alternative Choice (λ e. e.0) (λ e. e.0) (λ e. e.0) y))
layer g (Clause-F.Match x p) = rolled g (Clause-F.Match x p) (λ f h s.
    let t = two (nat_lt x g.own) (pattern_fits g.signatures g.own p) f in
    ((pattern-keeps g p).by t.second).whole x h s (own-below g x s (ltb-true x g.own t.first)))
layer g (Clause-F.Set x e) = rolled g (Clause-F.Set x e) (λ f h s.
    let t = two (nat_lt x g.own) (expression_fits g.signatures g.own e) f in
    let less : x < g.own = ltb-true x g.own t.first in
    line-keeps g (line.Set x e) s (λ v k o b p q. set-fits g.signatures v k x e (omega arith) (expression-more g.signatures g.own v o e t.second)))
layer g (Clause-F.Call c xs ys) = rolled g (Clause-F.Call c xs ys) (λ f h s.
    let n = g.signatures in
    let t = two (old.callee_fits n g.own (length xs) (length ys) c && vars_fit g.own xs) (vars_fit g.own ys) f in
    let u = two (old.callee_fits n g.own (length xs) (length ys) c) (vars_fit g.own xs) t.first in
    let name = s.numbers.name in
    let call = line.Call c xs (continuation.Named name) h in
    let success = line.Success name ys (reverse s.lines) in
    record {
      vars = omega arith;
      names = omega arith;
      fits = λ v k o b p q all.
          let block = every (map (stmt_fits n v k) (reverse s.lines)) in
          let first : stmt_fits n v k call ≡ true = fitted n v k call (Stmt-F.Call c xs (continuation.Named name) h) (line.rolls-Call c xs (continuation.Named name) h) ∙ callee-there n g.own (length xs) (length ys) c u.first in
          let second : stmt_fits n v k success ≡ true =
          fitted n v k success (Stmt-F.Success name ys (reverse s.lines)) (line.rolls-Success name ys (reverse s.lines))
          ∙ joined (nat_lt name k && vars_fit v ys) block (joined (nat_lt name k) (vars_fit v ys) (less-true name k (omega arith)) (vars-fit-more g.own v ys o t.second)) (block-fits n v k s.lines all) in
          fit-more n v k (call ∷ []) success (fit-one n v k call first) second;
    })
layer g (Clause-F.Builtin i xs ys) = rolled g (Clause-F.Builtin i xs ys) (λ f h s.
    let t = two _ (vars_fit g.own ys) f in
    let u = two _ (vars_fit g.own xs) t.first in
    line-keeps g (line.Builtin i xs ys h) s (λ v k o b p q.
    fitted g.signatures v k (line.Builtin i xs ys h) (Stmt-F.Builtin i xs ys h) (line.rolls-Builtin i xs ys h) ∙ joined _ (vars_fit v ys) u.first (vars-fit-more g.own v ys o t.second)))
layer g (Clause-F.Equal x y) = rolled g (Clause-F.Equal x y) (λ f h s.
    line-keeps g (line.Equal x y h) s (λ v k o b p q. fitted g.signatures v k (line.Equal x y h) (Stmt-F.Equal x y h) (line.rolls-Equal x y h)))
layer g (Clause-F.Not ps) =
    let xs = map (λ e. e.0) ps in
    rolled g (Clause-F.Not xs) (λ f h s.
    let name = s.numbers.name in
    let start = only (line.Fail h) (one_name s.numbers) in
    let tried = in_front (all_but_last (map stmt_made xs)) (continuation.Named name) start in
    else-keeps g name s s start tried (same g s) (goal-keeps g xs (stmts-of g ps) f (continuation.Named name) start) (omega arith) (omega arith) (omega arith) (λ v k. fit-one g.signatures v k (line.Fail h) (fail-fits g.signatures v k h)))
layer g (Clause-F.Or ps) =
    let all = map (λ e. e.0) ps in
    rolled g (Clause-F.Or all) (λ f h s. whatever g s (or_of (map alternative_made all) h s.numbers) (or-keeps g all (alternatives-of g ps) f h s.numbers))
layer g (Clause-F.Cond ps qs rs) =
    let xs = map (λ e. e.0) ps in
    let ys = map (λ e. e.0) qs in
    let zs = map (λ e. e.0) rs in
    rolled g (Clause-F.Cond xs ys zs) (λ f h s.
    let t = two (every (map (clause_fits g) xs) && every (map (clause_fits g) ys)) (every (map (clause_fits g) zs)) f in
    let u = two (every (map (clause_fits g) xs)) (every (map (clause_fits g) ys)) t.first in
    let n = s.numbers in
    let other = block_of (map stmt_made zs) h (one_name n) in
    let answered = block_of (map stmt_made ys) h other.numbers in
    let tried = in_front (all_but_last (map stmt_made xs)) (continuation.Named n.name) answered in
    let third : Keeps g (hand [] (one_name n)) other = block-keeps g zs (stmts-of g rs) t.second h (one_name n) in
    let second : Keeps g (hand [] other.numbers) answered = block-keeps g ys (stmts-of g qs) u.second h other.numbers in
    let first : Keeps g answered tried = goal-keeps g xs (stmts-of g ps) u.first (continuation.Named n.name) answered in
    let named : Keeps g (hand [] n) (hand [] (one_name n)) = record { vars = omega arith; names = omega arith; fits = λ v k o b p q e. e } in
    whatever g s (or_else n.name other.lines tried)
    (else-keeps g n.name (hand [] n) other (hand [] other.numbers) tried (and-then g (hand [] n) (hand [] (one_name n)) other named third)
    (and-then g (hand [] other.numbers) answered tried second first) (omega arith) (omega arith) (omega (arith, third.names)) (λ v k. fit-none g.signatures v k)))
layer g (Clause-F.Switch x ps qs) =
    let ks = map (λ e. e.0) ps in
    let ys = map (λ e. e.0) qs in
    rolled g (Clause-F.Switch x ks ys) (λ f h s.
    let t = two (nat_lt x g.own && every (map (choice_fits g) ks)) (every (map (clause_fits g) ys)) f in
    let u = two (nat_lt x g.own) (every (map (choice_fits g) ks)) t.first in
    let other = block_of (map stmt_made ys) h s.numbers in
    let all = all_cases (map case_made ks) x h (cased [] other.numbers) in
    let behind : Keeps g (hand [] s.numbers) other = block-keeps g ys (stmts-of g qs) t.second h s.numbers in
    let cases : CasesKeep g other.numbers all.cases all.numbers = cases-keep g ks (choices-of g ps) u.second x h other.numbers in
    record {
      vars = omega (arith, behind.vars, cases.vars);
      names = omega (arith, behind.names, cases.names);
      fits = λ v k o b p q e.
          fit-one g.signatures v k (line.Switch x (reverse all.cases) (reverse other.lines))
          (switch-fits g.signatures v k x (reverse all.cases) other.lines (all-turned (case_fits g.signatures v k) all.cases (cases.fits v k o b p q))
          (behind.fits v k o b (omega (arith, cases.vars)) (omega (arith, cases.names)) (fit-none g.signatures v k)));
    })
layer g (Clause-F.Body j ys ps) =
    let xs = map (λ e. e.0) ps in
    rolled g (Clause-F.Body j ys xs) (λ f h s.
    let n = g.signatures in
    let t = two (nat_lt j g.bodies && vars_fit g.own ys) (every (map (clause_fits g) xs)) f in
    let u = two (nat_lt j g.bodies) (vars_fit g.own ys) t.first in
    let few : j < g.bodies = ltb-true j g.bodies u.first in
    let name = s.numbers.name in
    let inner = block_of (map stmt_made xs) (continuation.Named name) (one_name s.numbers) in
    let body = line.Body j ys name (reverse inner.lines) in
    let made : Keeps g (hand [] (one_name s.numbers)) inner = block-keeps g xs (stmts-of g ps) t.second (continuation.Named name) (one_name s.numbers) in
    record {
      vars = omega (arith, made.vars);
      names = omega (arith, made.names);
      fits = λ v k o b p q e.
          let block = every (map (stmt_fits n v k) (reverse inner.lines)) in
          let before : Fit n v k s.lines = e in
          fit-more n v k s.lines body before
          (fitted n v k body (Stmt-F.Body j ys name (reverse inner.lines)) (line.rolls-Body j ys name (reverse inner.lines))
          ∙ joined (nat_lt j k && vars_fit v ys && nat_lt name k) block
          (joined (nat_lt j k && vars_fit v ys) (nat_lt name k) (joined (nat_lt j k) (vars_fit v ys) (less-true j k (omega arith)) (vars-fit-more g.own v ys o u.second)) (less-true name k (omega (arith, made.names))))
          (block-fits n v k inner.lines (made.fits v k o b p q (fit-none n v k))));
    })
layer g (Clause-F.Goto j ys) = rolled g (Clause-F.Goto j ys) (λ f h s.
    only-keeps g (line.Goto j ys h) s s.numbers (omega arith) (omega arith) (λ v k. fitted g.signatures v k (line.Goto j ys h) (Stmt-F.Goto j ys h) (line.rolls-Goto j ys h)))
layer g (Clause-F.Give ys) = rolled g (Clause-F.Give ys) (λ f h s.
    only-keeps g (line.Answer continuation.Own ys) s s.numbers (omega arith) (omega arith)
    (λ v k. fitted g.signatures v k (line.Answer continuation.Own ys) (Stmt-F.Answer continuation.Own ys) (line.rolls-Answer continuation.Own ys)))
layer g Clause-F.Fail = rolled g Clause-F.Fail (λ f h s. only-keeps g (line.Fail h) s s.numbers (omega arith) (omega arith) (λ v k. fail-fits g.signatures v k h))

alternative-layer : (g : Given) (y : Alternative-F ((x : Clause) × StmtKeeps g x) ((a : Alternative) × AlternativeKeeps g a) ((k : Choice) × ChoiceKeeps g k))
    → AlternativeKeeps g (roll-Alternative (map-Alternative ((x : Clause) × StmtKeeps g x) ((a : Alternative) × AlternativeKeeps g a) ((k : Choice) × ChoiceKeeps g k) Clause Alternative Choice (λ e. e.0) (λ e. e.0) (λ e. e.0) y))
alternative-layer g y =
    let z = map-Alternative ((x : Clause) × StmtKeeps g x) ((a : Alternative) × AlternativeKeeps g a) ((k : Choice) × ChoiceKeeps g k) Clause Alternative Choice (λ e. e.0) (λ e. e.0) (λ e. e.0) y in
    record {
      by = λ f. subst (BlockKeeps g) (sym (fold-roll-Alternative Making BlockMaking CaseMaking made_at alternative_at case_at z))
          (block-keeps g z.block (stmts-of g y.block) (sym (fold-roll-Alternative Bool Bool Bool (old.stmt_fits_at g.signatures g.own g.bodies) old.alternative_fits_at (old.case_fits_at g.signatures g.own) z) ∙ f));
    }

-- a tag with so many variables is there
tag-there : (n : Signatures) (count : ℕ) (t : Tag) → tag_fits n count t ≡ true → tag_is_there n t ≡ true
tag-there n count (tag.Con c) e = con-there n c count e
tag-there n count (tag.Lit l) e = (two (old.literal_fits l) (count == 0) e).first

choice-layer : (g : Given) (y : Case-F ((x : Clause) × StmtKeeps g x) ((a : Alternative) × AlternativeKeeps g a) ((k : Choice) × ChoiceKeeps g k))
    → ChoiceKeeps g (roll-Choice (map-Case ((x : Clause) × StmtKeeps g x) ((a : Alternative) × AlternativeKeeps g a) ((k : Choice) × ChoiceKeeps g k) Clause Alternative Choice (λ e. e.0) (λ e. e.0) (λ e. e.0) y))
choice-layer g y =
    let z = map-Case ((x : Clause) × StmtKeeps g x) ((a : Alternative) × AlternativeKeeps g a) ((k : Choice) × ChoiceKeeps g k) Clause Alternative Choice (λ e. e.0) (λ e. e.0) (λ e. e.0) y in
    record {
      by = λ f.
          let all : (tag_fits g.signatures (length z.vars) z.tag && vars_fit g.own z.vars && every (map (clause_fits g) z.block)) ≡ true =
          sym (fold-roll-Choice Bool Bool Bool (old.stmt_fits_at g.signatures g.own g.bodies) old.alternative_fits_at (old.case_fits_at g.signatures g.own) z) ∙ f in
          let t = two (tag_fits g.signatures (length z.vars) z.tag && vars_fit g.own z.vars) (every (map (clause_fits g) z.block)) all in
          let u = two (tag_fits g.signatures (length z.vars) z.tag) (vars_fit g.own z.vars) t.first in
          subst (CaseKeeps g) (sym (fold-roll-Choice Making BlockMaking CaseMaking made_at alternative_at case_at z))
          (record { tag = tag-there g.signatures (length z.vars) z.tag u.first; vars = u.second; block = block-keeps g z.block (stmts-of g y.block) t.second });
    }

stmt-keeps : (g : Given) (x : Clause) → StmtKeeps g x
stmt-keeps g = ind-Stmt (StmtKeeps g) (AlternativeKeeps g) (ChoiceKeeps g) (λ x y is. subst (λ z. StmtKeeps g (roll-Clause z)) is (layer g y))
    (λ x y is. subst (λ z. AlternativeKeeps g (roll-Alternative z)) is (alternative-layer g y)) (λ x y is. subst (λ z. ChoiceKeeps g (roll-Choice z)) is (choice-layer g y))

all-keep : (g : Given) (xs : List Clause) → EachStmt g xs
all-keep g [] = tt
all-keep g (x ∷ xs) = (stmt-keeps g x, all-keep g xs)

-- ---- relations and tables

pub relation-fits : (n : Signatures) (r : clause.Relation) → 2 ≤ length n.cons → old.relation_fits n r ≡ true → new.relation_fits n (relation_made r) ≡ true
relation-fits n r some f =
    let g : Given = record { signatures = n; own = r.vars; bodies = r.bodies; lists = some } in
    let t = two (nat_le r.params r.vars) (list_all (old.stmt_fits n r.vars r.bodies) r.body.stmts) f in
    let few : r.params ≤ r.vars = leb-true r.params r.vars t.first in
    let start : Numbers = record { variable = r.vars; name = r.bodies } in
    let made = block_of (map stmt_made r.body.stmts) continuation.Own start in
    let keeps : Keeps g (hand [] start) made = block-keeps g r.body.stmts (all-keep g r.body.stmts) (every-mapped (clause_fits g) r.body.stmts ∙ t.second) continuation.Own start in
    let vs : r.vars ≤ made.numbers.variable = keeps.vars in
    let ns : r.bodies ≤ made.numbers.name = keeps.names in
    let v = made.numbers.variable in
    let k = made.numbers.name in
    let lines : Fit n v k made.lines = keeps.fits v k vs ns (omega arith) (omega arith) (fit-none n v k) in
    joined (nat_le r.params v) (list_all (stmt_fits n v k) (reverse made.lines)) (le-leb r.params v (omega arith)) (all-turned (stmt_fits n v k) made.lines lines.all)

relations-fit : (n : Signatures) → 2 ≤ length n.cons → (rels : List clause.Relation) → list_all (old.relation_fits n) rels ≡ true → list_all (new.relation_fits n) (map relation_made rels) ≡ true
relations-fit n some [] f = refl
relations-fit n some (r ∷ rels) f =
    let t = two (old.relation_fits n r) (list_all (old.relation_fits n) rels) f in
    joined (new.relation_fits n (relation_made r)) (list_all (new.relation_fits n) (map relation_made rels)) (relation-fits n r some t.first) (relations-fit n some rels t.second)

declared-kept : (rels : List clause.Relation) → map signature_of (map without_body (map relation_made rels)) ≡ map signature_of rels
declared-kept [] = refl
declared-kept (r ∷ rels) = ap (λ (s : List Signature). signature_of r ∷ s) (declared-kept rels)

pub signatures-kept : (p : clauses.Parts) → signatures_of (tables_of (tables_made p)) ≡ signatures_of p
signatures-kept p = ap (λ (s : List Signature). record { cons = map arity_of p.cons; vals = length p.vals; rels = s }) (declared-kept p.rels)

named-kept : (rels : List clause.Relation) → list_all (λ (r : clause.Relation). name_is_bytes r.name) rels ≡ true → list_all (λ (r : clause.Relation). name_is_bytes r.name) (map without_body (map relation_made rels)) ≡ true
named-kept [] e = refl
named-kept (r ∷ rels) e =
    let t = two (name_is_bytes r.name) (list_all (λ (o : clause.Relation). name_is_bytes o.name) rels) e in
    joined (name_is_bytes r.name) (list_all (λ (o : clause.Relation). name_is_bytes o.name) (map without_body (map relation_made rels))) t.first (named-kept rels t.second)

pub names-kept : (p : clauses.Parts) → names_are_bytes p ≡ true → names_are_bytes (tables_of (tables_made p)) ≡ true
names-kept p e =
    let a = list_all (λ (c : Constructor). name_is_bytes c.name) p.cons && list_all (λ (v : Val). name_is_bytes v.name) p.vals in
    let t = two a (list_all (λ (r : clause.Relation). name_is_bytes r.name) p.rels) e in
    joined a (list_all (λ (r : clause.Relation). name_is_bytes r.name) (map without_body (map relation_made p.rels))) t.first (named-kept p.rels t.second)

-- the constructors of lists are declared
some-cons : (cons : List Constructor) → cons_begin cons ≡ true → 2 ≤ length (map arity_of cons)
some-cons [] e = absurd (cc)
some-cons (c ∷ []) e = absurd (missing (nat_eq 0 c.arity) e)
  where
    missing : (b : Bool) → (b && false) ≡ true → ⊥
    missing true f = absurd (cc)
    missing false f = absurd (cc)
some-cons (c ∷ d ∷ cons) e = omega arith

pub tables-fit : (p : clauses.Parts) → cons_begin p.cons ≡ true → list_all (old.relation_fits (signatures_of p)) p.rels ≡ true → list_all (new.relation_fits (signatures_of (tables_of (tables_made p)))) (tables_made p).rels ≡ true
tables-fit p begins f =
    subst (λ (n : Signatures). list_all (new.relation_fits n) (map relation_made p.rels) ≡ true) (sym (signatures-kept p)) (relations-fit (signatures_of p) (some-cons p.cons begins) p.rels f)
