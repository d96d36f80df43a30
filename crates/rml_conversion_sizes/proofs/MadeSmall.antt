-- How much is made of clauses, by how much they are.
use Rattle.std.proofs.Common.{◌≡◌, ℕ, suc, ◌+◌, ◌*◌, ◌≤◌, Bool, true, false, List, [], ◌∷◌, ◌++◌, map, length, refl, sym, ap, subst, ◌∙◌, reverse, arith}
use Rattle.std.specs.Prelude.{◌&&◌, nat_le, nat_lt, sum, sum_by}
use Rattle.std.specs.List.{list_all}
use Rattle.std.proofs.lemmas.List.{reverse-append}
use Rattle.std.proofs.lemmas.List.Sums.{sum_by-cons, sum_by_push, sum-map}
use Rattle.std.proofs.lemmas.Bool.{ltb-true, leb-true, le-leb}
use Rattle.rml_value.specs.declared.value.TheConstants.{NIL, CONS}
use Rattle.rml_fol.specs.declared.limits.TheConstants.{WEIGHT}
use Rattle.rml_fol.specs.declared.parts.Relation as clause
use Rattle.rml_fol.specs.declared.parts.Parts as clauses
use Rattle.rml_fol.specs.declared.parts.Val.{Val}
use Rattle.rml_fol.specs.declared.terms.Expression.{Expression}
use Rattle.rml_fol.specs.declared.terms.Pattern.{Pattern, map-Pattern, roll-Pattern, fold-roll-Pattern, ind-Pattern}
use Rattle.rml_fol.specs.declared.terms.Pattern.TheOpen.{Pattern-F}
use Rattle.rml_fol.specs.declared.statements.Tag.{Tag}
use Rattle.rml_fol.specs.declared.statements.Tag.TheVariants as tag
use Rattle.rml_fol.specs.declared.statements.Stmt.{Stmt as Clause, map-Stmt as map-Clause, roll-Stmt as roll-Clause, fold-roll-Stmt as fold-roll-Clause, ind-Stmt}
use Rattle.rml_fol.specs.declared.statements.Alternative.{Alternative, map-Alternative, roll-Alternative, fold-roll-Alternative}
use Rattle.rml_fol.specs.declared.statements.Case.{Case as Choice, map-Case, roll-Case as roll-Choice, fold-roll-Case as fold-roll-Choice}
use Rattle.rml_fol.specs.declared.statements.Stmt.TheOpen.{Stmt-F as Clause-F, Alternative-F, Case-F}
use Rattle.rml_fol.specs.Size as old
use Rattle.rml_fol.specs.Size.{pattern_nodes, pattern_nodes_at, nodes}
use Rattle.rml_cps.specs.declared.statements.Continuation.{Continuation}
use Rattle.rml_cps.specs.declared.statements.Continuation.TheVariants as continuation
use Rattle.rml_cps.specs.declared.statements.Stmt.{Stmt, map-Stmt, roll-Stmt, fold-roll-Stmt}
use Rattle.rml_cps.specs.declared.statements.Stmt.TheVariants as line
use Rattle.rml_cps.specs.declared.statements.Stmt.TheOpen.{Stmt-F}
use Rattle.rml_cps.specs.declared.statements.Case.{Case, fold-roll-Case}
use Rattle.rml_cps.specs.declared.parts.Relation.{Relation}
use Rattle.rml_cps.specs.Size as new
use Rattle.rml_cps.specs.Size.{size, size_at, case_size, case_size_at}
use Rattle.rml_tocps.specs.declared.pass.numbers.Numbers.{Numbers}
use Rattle.rml_tocps.proofs.Callers.{two}
use Rattle.rml_tocps.specs.Matching.{place_at}
use Rattle.rml_conversion.specs.Hand.{Hand, Making, hand, one_variable, one_name, only, with_line, or_else, case_of, tested, all_but_last, last_of}
use Rattle.rml_conversion.specs.Patterns.{PatternMaking, fresh_part, parts_made, items_made, reserved, list_made, chain_made, pattern_at, pattern_made}
use Rattle.rml_conversion.specs.Statements.{BlockMaking, CaseMaking, in_front, block_of, or_of, cased, fields_made, closed_case, all_cases, made_at, alternative_at, case_at, stmt_made, alternative_made, case_made}
use Rattle.rml_conversion.specs.Tables.{relation_made, tables_made}
use Rattle.rml_conversion_sizes.specs.Extent.{extent, alternative_extent, case_extent, case_extent_at}

-- ---- lines

-- how many statements are in hand
abbrev lines_of : Hand → ℕ
lines_of s = sum_by size s.lines

sized : (s : Stmt) (y : Stmt-F Stmt Case) → roll-Stmt y ≡ s → size s ≡ size_at (map-Stmt Stmt Case ℕ ℕ size case_size y)
sized s y e = ap size (sym e) ∙ fold-roll-Stmt ℕ ℕ size_at case_size_at y

sum-turned : {A : Type 0} (f : A → ℕ) (xs : List A) → sum_by f (reverse xs) ≡ sum_by f xs
sum-turned f [] = refl
sum-turned f (x ∷ xs) =
    ap (λ ys. sum_by f ys) (reverse-append (x ∷ []) xs) ∙ sum_by_push f (reverse xs) x ∙ omega (arith, sum-turned f xs, sum_by-cons f x xs)

block-size : (lines : List Stmt) → sum (map size (reverse lines)) ≡ sum_by size lines
block-size lines = sum-map size (reverse lines) ∙ sum-turned size lines

field-size : (x y i : ℕ) → size (line.Field x y i) ≡ 1
field-size x y i = sized (line.Field x y i) (Stmt-F.Field x y i) (line.rolls-Field x y i)

set-size : (x : ℕ) (e : Expression) → size (line.Set x e) ≡ 1
set-size x e = sized (line.Set x e) (Stmt-F.Set x e) (line.rolls-Set x e)

fail-size : (h : Continuation) → size (line.Fail h) ≡ 1
fail-size h = sized (line.Fail h) (Stmt-F.Fail h) (line.rolls-Fail h)

failure-size : (name : ℕ) (other : List Stmt) → size (line.Failure name (reverse other)) ≡ 1 + sum_by size other
failure-size name other =
    sized (line.Failure name (reverse other)) (Stmt-F.Failure name (reverse other)) (line.rolls-Failure name (reverse other)) ∙ ap (λ k. 1 + k) (block-size other)

case-size : (t : Tag) (lines : List Stmt) → case_size (case_of t (reverse lines)) ≡ 1 + sum_by size lines
case-size t lines = fold-roll-Case ℕ ℕ size_at case_size_at (record { tag = t; block = reverse lines }) ∙ ap (λ k. 1 + k) (block-size lines)

switch-size : (x : ℕ) (cases : List Case) (other : List Stmt) → size (line.Switch x cases (reverse other)) ≡ 1 + sum_by case_size cases + sum_by size other
switch-size x cases other =
    sized (line.Switch x cases (reverse other)) (Stmt-F.Switch x cases (reverse other)) (line.rolls-Switch x cases (reverse other))
    ∙ ap (λ k. 1 + k + sum (map size (reverse other))) (sum-map case_size cases) ∙ ap (λ k. 1 + sum_by case_size cases + k) (block-size other)

only-lines : (x : Stmt) (n : Numbers) → lines_of (only x n) ≡ size x
only-lines x n = omega arith

with-lines : (x : Stmt) (s : Hand) → lines_of (with_line x s) ≡ lines_of s + size x
with-lines x s = sum_by_push size s.lines x

tested-lines : (t : Tag) (x : ℕ) (h : Continuation) (s : Hand) → lines_of (tested t x h s) ≡ 3 + lines_of s
tested-lines t x h s =
    let one = case_of t (reverse s.lines) in
    let whole : size (line.Switch x (one ∷ []) (line.Fail h ∷ [])) ≡ 1 + sum_by case_size (one ∷ []) + sum_by size (line.Fail h ∷ []) = switch-size x (one ∷ []) (line.Fail h ∷ []) in
    let case : case_size one ≡ 1 + sum_by size s.lines = case-size t s.lines in
    let fails : size (line.Fail h) ≡ 1 = fail-size h in
    omega arith

else-lines : (name : ℕ) (other : List Stmt) (s : Hand) → lines_of (or_else name other s) ≡ lines_of s + 1 + sum_by size other
else-lines name other s =
    let one : size (line.Failure name (reverse other)) ≡ 1 + sum_by size other = failure-size name other in
    let both : lines_of (or_else name other s) ≡ lines_of s + size (line.Failure name (reverse other)) = with-lines (line.Failure name (reverse other)) s in
    omega arith

-- What is in hand afterwards has at most so many more lines, variables and names; as many lines and variables as are first said are still to
-- spare.
record Adds (a b l v n : ℕ) (s t : Hand) : Type 0 where
  lines : lines_of t + a ≤ l + lines_of s
  vars : t.numbers.variable + b ≤ v + s.numbers.variable
  names : t.numbers.name ≤ n + s.numbers.name

-- ---- patterns

record PatternAdds (m : PatternMaking) (n : ℕ) : Type 0 where
  whole : (x : ℕ) (h : Continuation) (s : Hand) → Adds 5 2 (8 * n) (2 * n) 0 s (m.whole x h s)
  part : (x i : ℕ) (h : Continuation) (s : Hand) → Adds 4 1 (8 * n) (2 * n) 0 s (m.part x i h s)

abbrev EachPattern : List PatternMaking → List ℕ → Type 0
EachPattern [] [] = Unit {0}
EachPattern [] (n ∷ ns) = ⊥
EachPattern (m ∷ ms) [] = ⊥
EachPattern (m ∷ ms) (n ∷ ns) = PatternAdds m n × EachPattern ms ns

parts-add : (ms : List PatternMaking) (ns : List ℕ) → EachPattern ms ns → (x i : ℕ) (h : Continuation) (s : Hand) → Adds 0 0 (8 * sum ns) (2 * sum ns) 0 s (parts_made ms x i h s)
parts-add [] [] e x i h s = record { lines = omega arith; vars = omega arith; names = omega arith }
parts-add [] (n ∷ ns) e x i h s = absurd e
parts-add (m ∷ ms) [] e x i h s = absurd e
parts-add (m ∷ ms) (n ∷ ns) e x i h s =
    let rest = parts-add ms ns e.1 x (suc i) h s in
    let one = e.0.part x i h (parts_made ms x (suc i) h s) in
    let all : sum (n ∷ ns) ≡ n + sum ns = sum_by-cons (λ k. k) n ns in
    record { lines = omega arith; vars = omega arith; names = omega arith }

-- the fresh variables in a row are taken before
items-add : (ms : List PatternMaking) (ns : List ℕ) → EachPattern ms ns → (x first : ℕ) (h : Continuation) (s : Hand) → Adds 0 (length ms) (8 * sum ns) (2 * sum ns) 0 s (items_made ms x first h s)
items-add [] [] e x first h s = record { lines = omega arith; vars = omega arith; names = omega arith }
items-add [] (n ∷ ns) e x first h s = absurd e
items-add (m ∷ ms) [] e x first h s = absurd e
items-add (m ∷ ms) (n ∷ ns) e x first h s =
    let inner = items_made ms first (suc first) h s in
    let behind = with_line (line.Field first x 2) inner in
    let rest = items-add ms ns e.1 first (suc first) h s in
    let one = e.0.part x 1 h behind in
    let all : sum (n ∷ ns) ≡ n + sum ns = sum_by-cons (λ k. k) n ns in
    let field : lines_of behind ≡ lines_of inner + size (line.Field first x 2) = with-lines (line.Field first x 2) inner in
    let single : size (line.Field first x 2) ≡ 1 = field-size first x 2 in
    let test : lines_of (tested (tag.Con CONS) x h (m.part x 1 h behind)) ≡ 3 + lines_of (m.part x 1 h behind) = tested-lines (tag.Con CONS) x h (m.part x 1 h behind) in
    record { lines = omega arith; vars = omega arith; names = omega arith }

each-front : (m : PatternMaking) (ms : List PatternMaking) (n : ℕ) (ns : List ℕ) → EachPattern (m ∷ ms) (n ∷ ns) → EachPattern (all_but_last (m ∷ ms)) (all_but_last (n ∷ ns))
each-front m [] n [] e = tt
each-front m [] n (l ∷ ns) e = absurd e.1
each-front m (k ∷ ms) n [] e = absurd e.1
each-front m (k ∷ ms) n (l ∷ ns) e = (e.0, each-front k ms l ns e.1)

each-last : (m : PatternMaking) (ms : List PatternMaking) (n : ℕ) (ns : List ℕ) → EachPattern (m ∷ ms) (n ∷ ns) → PatternAdds (last_of m ms) (last_of n ns)
each-last m [] n [] e = e.0
each-last m [] n (l ∷ ns) e = absurd e.1
each-last m (k ∷ ms) n [] e = absurd e.1
each-last m (k ∷ ms) n (l ∷ ns) e = each-last k ms l ns e.1

sum-split : (n : ℕ) (ns : List ℕ) → sum (n ∷ ns) ≡ sum (all_but_last (n ∷ ns)) + last_of n ns
sum-split n [] = omega arith
sum-split n (l ∷ ns) =
    let rest : sum (l ∷ ns) ≡ sum (all_but_last (l ∷ ns)) + last_of l ns = sum-split l ns in
    let one : sum (n ∷ l ∷ ns) ≡ n + sum (l ∷ ns) = sum_by-cons (λ k. k) n (l ∷ ns) in
    let front : sum (n ∷ all_but_last (l ∷ ns)) ≡ n + sum (all_but_last (l ∷ ns)) = sum_by-cons (λ k. k) n (all_but_last (l ∷ ns)) in
    omega arith

chain-adds : (ms : List PatternMaking) (ns : List ℕ) → EachPattern ms ns → (x : ℕ) (h : Continuation) (s : Hand) → Adds 5 2 (8 * (1 + sum ns)) (2 * (1 + sum ns)) 0 s (chain_made ms x h s)
chain-adds [] [] e x h s = record { lines = omega arith; vars = omega arith; names = omega arith }
chain-adds [] (n ∷ ns) e x h s = absurd e
chain-adds (m ∷ ms) [] e x h s = absurd e
chain-adds (m ∷ ms) (n ∷ ns) e x h s =
    let front = all_but_last (m ∷ ms) in
    let here = reserved (length front) s in
    let place = place_at x s.numbers.variable (length front) in
    let tail = (last_of m ms).whole place h here in
    let one = (each-last m ms n ns e).whole place h here in
    let rest = items-add front (all_but_last (n ∷ ns)) (each-front m ms n ns e) x s.numbers.variable h tail in
    let all : sum (n ∷ ns) ≡ sum (all_but_last (n ∷ ns)) + last_of n ns = sum-split n ns in
    record { lines = omega arith; vars = omega arith; names = omega arith }

list-adds : (ms : List PatternMaking) (ns : List ℕ) → EachPattern ms ns → (x : ℕ) (h : Continuation) (s : Hand) → Adds 5 2 (8 * (1 + sum ns)) (2 * (1 + sum ns)) 0 s (list_made ms x h s)
list-adds ms ns e x h s =
    let here = reserved (length ms) s in
    let place = place_at x s.numbers.variable (length ms) in
    let end : lines_of (tested (tag.Con NIL) place h here) ≡ 3 + lines_of here = tested-lines (tag.Con NIL) place h here in
    let rest = items-add ms ns e x s.numbers.variable h (tested (tag.Con NIL) place h here) in
    record { lines = omega arith; vars = omega arith; names = omega arith }

-- a part that is taken into a fresh variable
whole-then-fresh : (m : ℕ → Making) (n : ℕ) → ((x : ℕ) (h : Continuation) (s : Hand) → Adds 5 2 (8 * n) (2 * n) 0 s (m x h s)) → PatternAdds (record { whole = m; part = fresh_part m }) n
whole-then-fresh m n e = record {
  whole = e;
  part = λ x i h s.
      let v = s.numbers.variable in
      let inner = m v h (hand s.lines (one_variable s.numbers)) in
      let one : Adds 5 2 (8 * n) (2 * n) 0 (hand s.lines (one_variable s.numbers)) inner = e v h (hand s.lines (one_variable s.numbers)) in
      let field : lines_of (with_line (line.Field v x i) inner) ≡ lines_of inner + size (line.Field v x i) = with-lines (line.Field v x i) inner in
      let single : size (line.Field v x i) ≡ 1 = field-size v x i in
      record { lines = omega arith; vars = omega arith; names = omega arith };
}

record PatternSmall (p : Pattern) : Type 0 where
  adds : PatternAdds (pattern_made p) (pattern_nodes p)

abbrev Parted : Type 0
Parted = List ((x : Pattern) × PatternSmall x)

abbrev patterns_in : Parted → List Pattern
patterns_in ps = map (λ e. e.0) ps

each-of : (ps : Parted) → EachPattern (map pattern_made (patterns_in ps)) (map pattern_nodes (patterns_in ps))
each-of [] = tt
each-of (p ∷ ps) = (p.1.adds, each-of ps)

rolled-pattern : (y : Pattern-F Pattern) → PatternAdds (pattern_at (map-Pattern Pattern PatternMaking pattern_made y)) (pattern_nodes_at (map-Pattern Pattern ℕ pattern_nodes y)) → PatternSmall (roll-Pattern y)
rolled-pattern y b = record {
  adds = subst (λ (n : ℕ). PatternAdds (pattern_made (roll-Pattern y)) n) (sym (fold-roll-Pattern ℕ pattern_nodes_at y))
      (subst (λ (m : PatternMaking). PatternAdds m (pattern_nodes_at (map-Pattern Pattern ℕ pattern_nodes y))) (sym (fold-roll-Pattern PatternMaking pattern_at y)) b);
}

-- the same, with what is added in front
one-line : (x : Stmt) (n : ℕ) (s : Hand) → size x ≡ 1 → Adds 5 2 (8 * 1) (2 * 1) 0 s (with_line x s)
one-line x n s single =
    let more : lines_of (with_line x s) ≡ lines_of s + size x = with-lines x s in
    record { lines = omega arith; vars = omega arith; names = omega arith }

bound-line : (x : Stmt) (n a b : ℕ) (s t : Hand) → size x ≡ 1 → a ≤ 5 → b ≤ 2 → Adds 5 2 (8 * n) (2 * n) 0 s t → Adds a b (8 * (1 + n)) (2 * (1 + n)) 0 s (with_line x t)
bound-line x n a b s t single small few e =
    let more : lines_of (with_line x t) ≡ lines_of t + size x = with-lines x t in
    record { lines = omega arith; vars = omega arith; names = omega arith }

pattern-layer : (y : Pattern-F ((x : Pattern) × PatternSmall x)) → PatternSmall (roll-Pattern (map-Pattern ((x : Pattern) × PatternSmall x) Pattern (λ e. e.0) y))
pattern-layer Pattern-F.Any = rolled-pattern Pattern-F.Any (record {
  whole = λ x h s. record { lines = omega arith; vars = omega arith; names = omega arith };
  part = λ x i h s. record { lines = omega arith; vars = omega arith; names = omega arith };
})
pattern-layer (Pattern-F.Lit l) = rolled-pattern (Pattern-F.Lit l) (whole-then-fresh _ 1 (λ x h s.
    let test : lines_of (tested (tag.Lit l) x h s) ≡ 3 + lines_of s = tested-lines (tag.Lit l) x h s in
    record { lines = omega arith; vars = omega arith; names = omega arith }))
pattern-layer (Pattern-F.Var y) = rolled-pattern (Pattern-F.Var y) (record {
  whole = λ x h s.
      let more : lines_of ((pattern_at (Pattern-F.Var y)).whole x h s) ≡ lines_of s + 1 = with-lines _ s ∙ ap (λ k. lines_of s + k) (set-size y _) in
      record { lines = omega arith; vars = omega arith; names = omega arith };
  part = λ x i h s.
      let more : lines_of (with_line (line.Field y x i) s) ≡ lines_of s + 1 = with-lines (line.Field y x i) s ∙ ap (λ k. lines_of s + k) (field-size y x i) in
      record { lines = omega arith; vars = omega arith; names = omega arith };
})
pattern-layer (Pattern-F.Con c ps) =
    let ms = map pattern_made (patterns_in ps) in
    let ns = map pattern_nodes (patterns_in ps) in
    rolled-pattern (Pattern-F.Con c (patterns_in ps)) (whole-then-fresh _ (1 + sum ns) (λ x h s.
    let parts = parts-add ms ns (each-of ps) x 1 h s in
    let test : lines_of (tested (tag.Con c) x h (parts_made ms x 1 h s)) ≡ 3 + lines_of (parts_made ms x 1 h s) = tested-lines (tag.Con c) x h (parts_made ms x 1 h s) in
    record { lines = omega arith; vars = omega arith; names = omega arith }))
pattern-layer (Pattern-F.Tuple ps) =
    let ms = map pattern_made (patterns_in ps) in
    let ns = map pattern_nodes (patterns_in ps) in
    rolled-pattern (Pattern-F.Tuple (patterns_in ps)) (whole-then-fresh _ (1 + sum ns) (λ x h s.
    let parts = parts-add ms ns (each-of ps) x 1 h s in
    record { lines = omega arith; vars = omega arith; names = omega arith }))
pattern-layer (Pattern-F.List ps) =
    let ms = map pattern_made (patterns_in ps) in
    let ns = map pattern_nodes (patterns_in ps) in
    rolled-pattern (Pattern-F.List (patterns_in ps)) (whole-then-fresh _ (1 + sum ns) (λ x h s. list-adds ms ns (each-of ps) x h s))
pattern-layer (Pattern-F.Cons ps) =
    let ms = map pattern_made (patterns_in ps) in
    let ns = map pattern_nodes (patterns_in ps) in
    rolled-pattern (Pattern-F.Cons (patterns_in ps)) (whole-then-fresh _ (1 + sum ns) (λ x h s. chain-adds ms ns (each-of ps) x h s))
pattern-layer (Pattern-F.Bind y e) = rolled-pattern (Pattern-F.Bind y e.0) (record {
  whole = λ x h s. bound-line _ (pattern_nodes e.0) 5 2 s ((pattern_made e.0).whole x h s) (set-size y _) (omega arith) (omega arith) (e.1.adds.whole x h s);
  part = λ x i h s. bound-line _ (pattern_nodes e.0) 4 1 s ((pattern_made e.0).whole y h s) (field-size y x i) (omega arith) (omega arith) (e.1.adds.whole y h s);
})

pattern-small : (p : Pattern) → PatternSmall p
pattern-small = ind-Pattern PatternSmall (λ x y is. subst (λ z. PatternSmall (roll-Pattern z)) is (pattern-layer y))

-- ---- statements

record StmtSmall (x : Clause) : Type 0 where
  adds : (h : Continuation) (s : Hand) → Adds 0 0 (8 * extent x) (2 * extent x) (extent x) s (stmt_made x h s)

-- a block begins with nothing in hand
record BlockAdds (a k l v n : ℕ) (from : Numbers) (t : Hand) : Type 0 where
  lines : lines_of t + a ≤ l
  vars : t.numbers.variable ≤ v + from.variable
  names : t.numbers.name + k ≤ n + from.name

record AlternativeSmall (a : Alternative) : Type 0 where
  adds : (h : Continuation) (n : Numbers) → BlockAdds 8 1 (8 * alternative_extent a) (2 * alternative_extent a) (alternative_extent a) n (alternative_made a h n)

record ChoiceSmall (k : Choice) : Type 0 where
  adds : (h : Continuation) (n : Numbers) → BlockAdds (8 + 8 * length (case_made k).vars) 1 (8 * case_extent k) (2 * case_extent k) (case_extent k) n ((case_made k).block h n)

abbrev EachStmt : List Clause → Type 0
EachStmt [] = Unit {0}
EachStmt (x ∷ xs) = StmtSmall x × EachStmt xs

abbrev EachAlternative : List Alternative → Type 0
EachAlternative [] = Unit {0}
EachAlternative (x ∷ xs) = AlternativeSmall x × EachAlternative xs

abbrev EachChoice : List Choice → Type 0
EachChoice [] = Unit {0}
EachChoice (x ∷ xs) = ChoiceSmall x × EachChoice xs

abbrev sizes : List Clause → ℕ
sizes xs = sum (map extent xs)

sizes-more : (x : Clause) (xs : List Clause) → sizes (x ∷ xs) ≡ extent x + sizes xs
sizes-more x xs = sum_by-cons (λ k. k) (extent x) (map extent xs)

front-adds : (xs : List Clause) → EachStmt xs → (h : Continuation) (s : Hand) → Adds 0 0 (8 * sizes xs) (2 * sizes xs) (sizes xs) s (in_front (map stmt_made xs) h s)
front-adds [] e h s = record { lines = omega arith; vars = omega arith; names = omega arith }
front-adds (x ∷ xs) e h s =
    let rest = front-adds xs e.1 h s in
    let one = e.0.adds h (in_front (map stmt_made xs) h s) in
    let all : sizes (x ∷ xs) ≡ extent x + sizes xs = sizes-more x xs in
    record { lines = omega arith; vars = omega arith; names = omega arith }

block-adds : (xs : List Clause) → EachStmt xs → (h : Continuation) (n : Numbers) → BlockAdds 0 0 (8 * sizes xs) (2 * sizes xs) (sizes xs) n (block_of (map stmt_made xs) h n)
block-adds xs e h n =
    let all = front-adds xs e h (hand [] n) in
    record { lines = omega arith; vars = omega arith; names = omega arith }

-- all but the last
goal-adds : (xs : List Clause) → EachStmt xs → (h : Continuation) (s : Hand) → Adds 0 0 (8 * sizes xs) (2 * sizes xs) (sizes xs) s (in_front (all_but_last (map stmt_made xs)) h s)
goal-adds [] e h s = record { lines = omega arith; vars = omega arith; names = omega arith }
goal-adds (x ∷ []) e h s = record { lines = omega arith; vars = omega arith; names = omega arith }
goal-adds (x ∷ y ∷ ys) e h s =
    let inner = in_front (all_but_last (map stmt_made (y ∷ ys))) h s in
    let rest = goal-adds (y ∷ ys) e.1 h s in
    let one = e.0.adds h inner in
    let all : sizes (x ∷ y ∷ ys) ≡ extent x + sizes (y ∷ ys) = sizes-more x (y ∷ ys) in
    record { lines = omega arith; vars = omega arith; names = omega arith }

or-adds : (all : List Alternative) → EachAlternative all → (h : Continuation) (n : Numbers)
    → BlockAdds 0 0 (8 * (1 + sum (map alternative_extent all))) (2 * (1 + sum (map alternative_extent all))) (1 + sum (map alternative_extent all)) n (or_of (map alternative_made all) h n)
or-adds [] e h n =
    let one : lines_of (only (line.Fail h) n) ≡ 1 = only-lines (line.Fail h) n ∙ fail-size h in
    record { lines = omega arith; vars = omega arith; names = omega arith }
or-adds (a ∷ []) e h n =
    let one = e.0.adds h n in
    let all : sum (alternative_extent a ∷ []) ≡ alternative_extent a + sum [] = sum_by-cons (λ k. k) (alternative_extent a) [] in
    record { lines = omega arith; vars = omega arith; names = omega arith }
or-adds (a ∷ b ∷ rest) e h n =
    let other = or_of (map alternative_made (b ∷ rest)) h n in
    let tried = alternative_made a (continuation.Named other.numbers.name) (one_name other.numbers) in
    let others = or-adds (b ∷ rest) e.1 h n in
    let one = e.0.adds (continuation.Named other.numbers.name) (one_name other.numbers) in
    let all : sum (map alternative_extent (a ∷ b ∷ rest)) ≡ alternative_extent a + sum (map alternative_extent (b ∷ rest)) = sum_by-cons (λ k. k) (alternative_extent a) (map alternative_extent (b ∷ rest)) in
    let more : lines_of (or_else other.numbers.name other.lines tried) ≡ lines_of tried + 1 + sum_by size other.lines = else-lines other.numbers.name other.lines tried in
    record { lines = omega arith; vars = omega arith; names = omega arith }

fields-add : (x i : ℕ) (ys : List ℕ) (lines : List Stmt) → sum_by size (fields_made x i ys lines) ≡ length ys + sum_by size lines
fields-add x i [] lines = omega arith
fields-add x i (y ∷ ys) lines =
    let rest : sum_by size (fields_made x (suc i) ys lines) ≡ length ys + sum_by size lines = fields-add x (suc i) ys lines in
    let more : sum_by size (fields_made x (suc i) ys lines ++ line.Field y x i ∷ []) ≡ sum_by size (fields_made x (suc i) ys lines) + size (line.Field y x i) = sum_by_push size (fields_made x (suc i) ys lines) (line.Field y x i) in
    let one : size (line.Field y x i) ≡ 1 = field-size y x i in
    omega arith

record CasesAdd (ks : List Choice) (n : Numbers) (cases : List Case) (m : Numbers) : Type 0 where
  lines : sum_by case_size cases ≤ 8 * sum (map case_extent ks)
  vars : m.variable ≤ 2 * sum (map case_extent ks) + n.variable
  names : m.name ≤ sum (map case_extent ks) + n.name

cases-add : (ks : List Choice) → EachChoice ks → (x : ℕ) (h : Continuation) (n : Numbers)
    → CasesAdd ks n (all_cases (map case_made ks) x h (cased [] n)).cases (all_cases (map case_made ks) x h (cased [] n)).numbers
cases-add [] e x h n = record { lines = omega arith; vars = omega arith; names = omega arith }
cases-add (k ∷ ks) e x h n =
    let so_far = all_cases (map case_made ks) x h (cased [] n) in
    let m = case_made k in
    let block = m.block h so_far.numbers in
    let rest = cases-add ks e.1 x h n in
    let one = e.0.adds h so_far.numbers in
    let fields : sum_by size (fields_made x 1 m.vars block.lines) ≡ length m.vars + sum_by size block.lines = fields-add x 1 m.vars block.lines in
    let closed : case_size (closed_case m x block.lines) ≡ 1 + sum_by size (fields_made x 1 m.vars block.lines) = case-size m.tag (fields_made x 1 m.vars block.lines) in
    let more : sum_by case_size (so_far.cases ++ closed_case m x block.lines ∷ []) ≡ sum_by case_size so_far.cases + case_size (closed_case m x block.lines) = sum_by_push case_size so_far.cases (closed_case m x block.lines) in
    let all : sum (map case_extent (k ∷ ks)) ≡ case_extent k + sum (map case_extent ks) = sum_by-cons (λ j. j) (case_extent k) (map case_extent ks) in
    record { lines = omega arith; vars = omega arith; names = omega arith }

-- ---- a layer of a statement

rolled : (y : Clause-F Clause Alternative Choice)
    → ((h : Continuation) (s : Hand) → let w = old.size_at (map-Clause Clause Alternative Choice ℕ ℕ ℕ extent alternative_extent case_extent y) in
    Adds 0 0 (8 * w) (2 * w) w s (made_at (map-Clause Clause Alternative Choice Making BlockMaking CaseMaking stmt_made alternative_made case_made y) h s))
    → StmtSmall (roll-Clause y)
rolled y e = record {
  adds = λ h s.
      subst (λ (w : ℕ). Adds 0 0 (8 * w) (2 * w) w s (stmt_made (roll-Clause y) h s)) (sym (fold-roll-Clause ℕ ℕ ℕ old.size_at old.alternative_size_at case_extent_at y))
      (subst (λ (m : Making). let w = old.size_at (map-Clause Clause Alternative Choice ℕ ℕ ℕ extent alternative_extent case_extent y) in Adds 0 0 (8 * w) (2 * w) w s (m h s))
      (sym (fold-roll-Clause Making BlockMaking CaseMaking made_at alternative_at case_at y)) (e h s));
}

stmts-of : (ps : List ((x : Clause) × StmtSmall x)) → EachStmt (map (λ e. e.0) ps)
stmts-of [] = tt
stmts-of (p ∷ ps) = (p.1, stmts-of ps)

alternatives-of : (ps : List ((x : Alternative) × AlternativeSmall x)) → EachAlternative (map (λ e. e.0) ps)
alternatives-of [] = tt
alternatives-of (p ∷ ps) = (p.1, alternatives-of ps)

choices-of : (ps : List ((x : Choice) × ChoiceSmall x)) → EachChoice (map (λ e. e.0) ps)
choices-of [] = tt
choices-of (p ∷ ps) = (p.1, choices-of ps)

-- a line in front of what is made, or alone
line-adds : (x : Stmt) (s : Hand) → size x ≡ 1 → Adds 0 0 (8 * 1) (2 * 1) 1 s (with_line x s)
line-adds x s single =
    let more : lines_of (with_line x s) ≡ lines_of s + size x = with-lines x s in
    record { lines = omega arith; vars = omega arith; names = omega arith }

only-adds : (x : Stmt) (s : Hand) → size x ≡ 1 → Adds 0 0 (8 * 1) (2 * 1) 1 s (only x s.numbers)
only-adds x s single =
    let one : lines_of (only x s.numbers) ≡ size x = only-lines x s.numbers in
    record { lines = omega arith; vars = omega arith; names = omega arith }

layer : (y : Clause-F ((x : Clause) × StmtSmall x) ((a : Alternative) × AlternativeSmall a) ((k : Choice) × ChoiceSmall k))
    → StmtSmall (roll-Clause (map-Clause ((x : Clause) × StmtSmall x) ((a : Alternative) × AlternativeSmall a) ((k : Choice) × ChoiceSmall k) Clause Alternative Choice (λ e. e.0) (λ e. e.0) (λ e. e.0) y))
layer (Clause-F.Match x p) = rolled (Clause-F.Match x p) (λ h s.
    let one = (pattern-small p).adds.whole x h s in
    record { lines = omega arith; vars = omega arith; names = omega arith })
layer (Clause-F.Set x e) = rolled (Clause-F.Set x e) (λ h s. line-adds (line.Set x e) s (set-size x e))
layer (Clause-F.Call c xs ys) = rolled (Clause-F.Call c xs ys) (λ h s.
    let name = s.numbers.name in
    let call = line.Call c xs (continuation.Named name) h in
    let success = line.Success name ys (reverse s.lines) in
    let first : size call ≡ 1 = sized call (Stmt-F.Call c xs (continuation.Named name) h) (line.rolls-Call c xs (continuation.Named name) h) in
    let second : size success ≡ 1 + sum_by size s.lines = sized success (Stmt-F.Success name ys (reverse s.lines)) (line.rolls-Success name ys (reverse s.lines)) ∙ ap (λ k. 1 + k) (block-size s.lines) in
    let both : sum_by size (call ∷ success ∷ []) ≡ size call + sum_by size (success ∷ []) = sum_by-cons size call (success ∷ []) in
    record { lines = omega arith; vars = omega arith; names = omega arith })
layer (Clause-F.Builtin k xs ys) = rolled (Clause-F.Builtin k xs ys) (λ h s.
    line-adds (line.Builtin k xs ys h) s (sized (line.Builtin k xs ys h) (Stmt-F.Builtin k xs ys h) (line.rolls-Builtin k xs ys h)))
layer (Clause-F.Equal x y) = rolled (Clause-F.Equal x y) (λ h s. line-adds (line.Equal x y h) s (sized (line.Equal x y h) (Stmt-F.Equal x y h) (line.rolls-Equal x y h)))
layer (Clause-F.Not ps) =
    let xs = map (λ e. e.0) ps in
    rolled (Clause-F.Not xs) (λ h s.
    let name = s.numbers.name in
    let start = only (line.Fail h) (one_name s.numbers) in
    let tried = in_front (all_but_last (map stmt_made xs)) (continuation.Named name) start in
    let goal = goal-adds xs (stmts-of ps) (continuation.Named name) start in
    let one : lines_of start ≡ 1 = only-lines (line.Fail h) (one_name s.numbers) ∙ fail-size h in
    let more : lines_of (or_else name s.lines tried) ≡ lines_of tried + 1 + sum_by size s.lines = else-lines name s.lines tried in
    record { lines = omega arith; vars = omega arith; names = omega arith })
layer (Clause-F.Or ps) =
    let all = map (λ e. e.0) ps in
    rolled (Clause-F.Or all) (λ h s.
    let some = or-adds all (alternatives-of ps) h s.numbers in
    record { lines = omega arith; vars = omega arith; names = omega arith })
layer (Clause-F.Cond ps qs rs) =
    let xs = map (λ e. e.0) ps in
    let ys = map (λ e. e.0) qs in
    let zs = map (λ e. e.0) rs in
    rolled (Clause-F.Cond xs ys zs) (λ h s.
    let n = s.numbers in
    let other = block_of (map stmt_made zs) h (one_name n) in
    let answered = block_of (map stmt_made ys) h other.numbers in
    let tried = in_front (all_but_last (map stmt_made xs)) (continuation.Named n.name) answered in
    let third = block-adds zs (stmts-of rs) h (one_name n) in
    let second = block-adds ys (stmts-of qs) h other.numbers in
    let first = goal-adds xs (stmts-of ps) (continuation.Named n.name) answered in
    let more : lines_of (or_else n.name other.lines tried) ≡ lines_of tried + 1 + sum_by size other.lines = else-lines n.name other.lines tried in
    record { lines = omega arith; vars = omega arith; names = omega arith })
layer (Clause-F.Switch x ps qs) =
    let ks = map (λ e. e.0) ps in
    let ys = map (λ e. e.0) qs in
    rolled (Clause-F.Switch x ks ys) (λ h s.
    let other = block_of (map stmt_made ys) h s.numbers in
    let all = all_cases (map case_made ks) x h (cased [] other.numbers) in
    let behind = block-adds ys (stmts-of qs) h s.numbers in
    let cases = cases-add ks (choices-of ps) x h other.numbers in
    let turned : sum_by case_size (reverse all.cases) ≡ sum_by case_size all.cases = sum-turned case_size all.cases in
    let whole : size (line.Switch x (reverse all.cases) (reverse other.lines)) ≡ 1 + sum_by case_size (reverse all.cases) + sum_by size other.lines = switch-size x (reverse all.cases) other.lines in
    record { lines = omega arith; vars = omega arith; names = omega arith })
layer (Clause-F.Body j ys ps) =
    let xs = map (λ e. e.0) ps in
    rolled (Clause-F.Body j ys xs) (λ h s.
    let name = s.numbers.name in
    let inner = block_of (map stmt_made xs) (continuation.Named name) (one_name s.numbers) in
    let body = line.Body j ys name (reverse inner.lines) in
    let block = block-adds xs (stmts-of ps) (continuation.Named name) (one_name s.numbers) in
    let one : size body ≡ 1 + sum_by size inner.lines = sized body (Stmt-F.Body j ys name (reverse inner.lines)) (line.rolls-Body j ys name (reverse inner.lines)) ∙ ap (λ k. 1 + k) (block-size inner.lines) in
    let more : sum_by size (s.lines ++ body ∷ []) ≡ sum_by size s.lines + size body = sum_by_push size s.lines body in
    record { lines = omega arith; vars = omega arith; names = omega arith })
layer (Clause-F.Goto j ys) = rolled (Clause-F.Goto j ys) (λ h s. only-adds (line.Goto j ys h) s (sized (line.Goto j ys h) (Stmt-F.Goto j ys h) (line.rolls-Goto j ys h)))
layer (Clause-F.Give ys) = rolled (Clause-F.Give ys) (λ h s.
    only-adds (line.Answer continuation.Own ys) s (sized (line.Answer continuation.Own ys) (Stmt-F.Answer continuation.Own ys) (line.rolls-Answer continuation.Own ys)))
layer Clause-F.Fail = rolled Clause-F.Fail (λ h s. only-adds (line.Fail h) s (fail-size h))

alternative-layer : (y : Alternative-F ((x : Clause) × StmtSmall x) ((a : Alternative) × AlternativeSmall a) ((k : Choice) × ChoiceSmall k))
    → AlternativeSmall (roll-Alternative (map-Alternative ((x : Clause) × StmtSmall x) ((a : Alternative) × AlternativeSmall a) ((k : Choice) × ChoiceSmall k) Clause Alternative Choice (λ e. e.0) (λ e. e.0) (λ e. e.0) y))
alternative-layer y =
    let z = map-Alternative ((x : Clause) × StmtSmall x) ((a : Alternative) × AlternativeSmall a) ((k : Choice) × ChoiceSmall k) Clause Alternative Choice (λ e. e.0) (λ e. e.0) (λ e. e.0) y in
    record {
      adds = λ h n.
          let w = 1 + sizes z.block in
          let all = block-adds z.block (stmts-of y.block) h n in
          let here : BlockAdds 8 1 (8 * w) (2 * w) w n (block_of (map stmt_made z.block) h n) = record { lines = omega arith; vars = omega arith; names = omega arith } in
          subst (λ (k : ℕ). BlockAdds 8 1 (8 * k) (2 * k) k n (alternative_made (roll-Alternative z) h n)) (sym (fold-roll-Alternative ℕ ℕ ℕ old.size_at old.alternative_size_at case_extent_at z))
          (subst (λ (m : BlockMaking). BlockAdds 8 1 (8 * w) (2 * w) w n (m h n)) (sym (fold-roll-Alternative Making BlockMaking CaseMaking made_at alternative_at case_at z)) here);
    }

choice-layer : (y : Case-F ((x : Clause) × StmtSmall x) ((a : Alternative) × AlternativeSmall a) ((k : Choice) × ChoiceSmall k))
    → ChoiceSmall (roll-Choice (map-Case ((x : Clause) × StmtSmall x) ((a : Alternative) × AlternativeSmall a) ((k : Choice) × ChoiceSmall k) Clause Alternative Choice (λ e. e.0) (λ e. e.0) (λ e. e.0) y))
choice-layer y =
    let z = map-Case ((x : Clause) × StmtSmall x) ((a : Alternative) × AlternativeSmall a) ((k : Choice) × ChoiceSmall k) Clause Alternative Choice (λ e. e.0) (λ e. e.0) (λ e. e.0) y in
    record {
      adds = λ h n.
          let w = 1 + length z.vars + sizes z.block in
          let all = block-adds z.block (stmts-of y.block) h n in
          let here : BlockAdds (8 + 8 * length z.vars) 1 (8 * w) (2 * w) w n (block_of (map stmt_made z.block) h n) = record { lines = omega arith; vars = omega arith; names = omega arith } in
          subst (λ (k : ℕ). BlockAdds (8 + 8 * length (case_made (roll-Choice z)).vars) 1 (8 * k) (2 * k) k n ((case_made (roll-Choice z)).block h n)) (sym (fold-roll-Choice ℕ ℕ ℕ old.size_at old.alternative_size_at case_extent_at z))
          (subst (λ (m : CaseMaking). BlockAdds (8 + 8 * length m.vars) 1 (8 * w) (2 * w) w n (m.block h n)) (sym (fold-roll-Choice Making BlockMaking CaseMaking made_at alternative_at case_at z)) here);
    }

stmt-small : (x : Clause) → StmtSmall x
stmt-small = ind-Stmt StmtSmall AlternativeSmall ChoiceSmall (λ x y is. subst (λ z. StmtSmall (roll-Clause z)) is (layer y))
    (λ x y is. subst (λ z. AlternativeSmall (roll-Alternative z)) is (alternative-layer y)) (λ x y is. subst (λ z. ChoiceSmall (roll-Choice z)) is (choice-layer y))

all-small : (xs : List Clause) → EachStmt xs
all-small [] = tt
all-small (x ∷ xs) = (stmt-small x, all-small xs)

-- ---- relations and tables

-- what is made of the block of a relation has at most so many more lines, variables and names
pub record BodyAdds (r : clause.Relation) : Type 0 where
  pub statements : sum_by size (relation_made r).body.stmts ≤ 8 * sum_by extent r.body.stmts
  pub variables : (relation_made r).vars ≤ 2 * sum_by extent r.body.stmts + r.vars
  pub names : (relation_made r).names ≤ sum_by extent r.body.stmts + r.bodies

pub body-adds : (r : clause.Relation) → BodyAdds r
body-adds r =
    let counted : sizes r.body.stmts ≡ sum_by extent r.body.stmts = sum-map extent r.body.stmts in
    let start : Numbers = record { variable = r.vars; name = r.bodies } in
    let made = block_of (map stmt_made r.body.stmts) continuation.Own start in
    let adds = block-adds r.body.stmts (all-small r.body.stmts) continuation.Own start in
    let turned : sum_by size (relation_made r).body.stmts ≡ sum_by size made.lines = sum-turned size made.lines in
    record { statements = omega arith; variables = omega arith; names = omega arith }

tokens-kept : (rels : List clause.Relation) → sum_by (λ (r : Relation). r.tokens) (map relation_made rels) ≡ sum_by (λ (r : clause.Relation). r.tokens) rels
tokens-kept [] = refl
tokens-kept (r ∷ rels) =
    sum_by-cons (λ (n : Relation). n.tokens) (relation_made r) (map relation_made rels) ∙ ap (λ k. r.tokens + k) (tokens-kept rels) ∙ sym (sum_by-cons (λ (o : clause.Relation). o.tokens) r rels)

pub tables-light : (p : clauses.Parts) → old.is_light p ≡ true → new.is_light (tables_made p) ≡ true
tables-light p light =
    ap (λ (k : ℕ). nat_le (k + sum_by (λ (v : Val). nodes v.value) p.vals) p.weight && nat_le p.longest p.weight && nat_lt p.weight WEIGHT) (tokens-kept p.rels) ∙ light
