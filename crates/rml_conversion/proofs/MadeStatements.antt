-- What is made of a statement stands before what is made of those that follow it, or ends its block.
use Rattle.std.proofs.Common.{◌≡◌, ℕ, suc, ◌+◌, ◌≤◌, Bool, true, false, List, [], ◌∷◌, ◌++◌, map, refl, sym, ap, subst, ◌∙◌, reverse, arith}
use Rattle.std.specs.Prelude.{◌&&◌}
use Rattle.std.proofs.lemmas.List.{reverse-append}
use Rattle.rml_fol.specs.declared.statements.Stmt.{Stmt as Clause, map-Stmt, roll-Stmt, out-Stmt, roll-out-Stmt, fold-roll-Stmt, ind-Stmt}
use Rattle.rml_fol.specs.declared.statements.Alternative.{Alternative, map-Alternative, roll-Alternative, out-Alternative, out-roll-Alternative, fold-roll-Alternative}
use Rattle.rml_fol.specs.declared.statements.Case.{Case as Choice, map-Case, roll-Case, out-Case, out-roll-Case, fold-roll-Case}
use Rattle.rml_fol.specs.declared.statements.Stmt.TheOpen.{Stmt-F as Clause-F, Alternative-F, Case-F}
use Rattle.rml_fol.specs.declared.statements.Stmt.TheVariants as old_of
use Rattle.rml_fol.specs.Ends.{Standing, goes_on, names, ends, answers, broken, block_ends, goal_ends, going_on, naming, ending, standing, standing_at, alternative_ends_at, case_ends_at}
use Rattle.rml_fol.specs.Expressions.{Vals}
use Rattle.rml_fol.specs.Statements as clauses
use Rattle.rml_cps.specs.declared.statements.Continuation.{Continuation}
use Rattle.rml_cps.specs.declared.statements.Continuation.TheVariants as continuation
use Rattle.rml_cps.specs.declared.statements.Stmt.{Stmt}
use Rattle.rml_cps.specs.declared.statements.Stmt.TheVariants as line
use Rattle.rml_cps.specs.declared.statements.Stmt.TheOpen.{Stmt-F}
use Rattle.rml_cps.specs.declared.statements.Case.{Case as NewCase, out-roll-Case as out-roll-NewCase}
use Rattle.rml_cps.specs.Acts.{acts-Fail, acts-Field}
use Rattle.rml_cps.specs.Statements.{RelationActs, Action, block, in_turn, act}
use Rattle.rml_tocps.specs.declared.pass.numbers.Numbers.{Numbers}
use Rattle.rml_tocps.specs.Blocks.{NewBlock, old_last, new_last}
use Rattle.rml_tocps.specs.Cases.{new_fields}
use Rattle.rml_tocps.specs.Passing.{made, alternative_ends, case_ends, IsUnder, all_go_on, Before, Passes, AllPass, CaseMade, CasesMade, Rise}
use Rattle.rml_tocps.proofs.Callers.{all-more, all-one, before-more, before-none, before-passes, body-passes, both-as, built-in-before, call-before, cond-passes, ending-true, equal-before, fail-passes, fail_carries, free-less, give-passes, goes-front, goto-passes, line-made, match-before, not-before, opens, or-passes, set-before, switch-passes, two, under-more}
use Rattle.rml_conversion.specs.Hand.{Hand, Making, one_name, empty, only, or_else, all_but_last}
use Rattle.rml_conversion.specs.Patterns.{pattern_made}
use Rattle.rml_conversion.specs.Statements.{BlockMaking, CaseMaking, Cased, in_front, block_of, called, negated, or_of, cond_of, cased, fields_made, closed_case, all_cases, switch_rest, named, made_at, alternative_at, case_at, stmt_made, alternative_made, case_made}
use Rattle.rml_conversion.proofs.MadePatterns.{rises-itself, rises-on, pattern-is}

-- ---- the `give` of a goal

record Gives (x : Clause) : Type 0 where
  vars : List ℕ
  is : x ≡ old_of.Give vars

answers-at : (y : Clause-F Clause Alternative Choice) → standing_at (map-Stmt Clause Alternative Choice Standing Bool Bool standing alternative_ends case_ends y) ≡ answers → Gives (roll-Stmt y)
answers-at (Clause-F.Match x p) e = absurd (cc)
answers-at (Clause-F.Set x e') e = absurd (cc)
answers-at (Clause-F.Call f xs ys) e = absurd (cc)
answers-at (Clause-F.Builtin k xs ys) e = absurd (cc)
answers-at (Clause-F.Equal x y) e = absurd (cc)
answers-at (Clause-F.Not goal) e = no-going (goal_ends (map standing goal)) e
  where
    no-going : (b : Bool) → going_on b ≡ answers → Gives (roll-Stmt (Clause-F.Not goal))
    no-going true e = absurd (cc)
    no-going false e = absurd (cc)
answers-at (Clause-F.Or all) e = no-ending _ e
  where
    no-ending : (b : Bool) → ending b ≡ answers → Gives (roll-Stmt (Clause-F.Or all))
    no-ending true e = absurd (cc)
    no-ending false e = absurd (cc)
answers-at (Clause-F.Cond first second third) e = no-ending _ e
  where
    no-ending : (b : Bool) → ending b ≡ answers → Gives (roll-Stmt (Clause-F.Cond first second third))
    no-ending true e = absurd (cc)
    no-ending false e = absurd (cc)
answers-at (Clause-F.Switch x cases otherwise) e = no-ending _ e
  where
    no-ending : (b : Bool) → ending b ≡ answers → Gives (roll-Stmt (Clause-F.Switch x cases otherwise))
    no-ending true e = absurd (cc)
    no-ending false e = absurd (cc)
answers-at (Clause-F.Body j xs inner) e = no-naming _ e
  where
    no-naming : (b : Bool) → naming b ≡ answers → Gives (roll-Stmt (Clause-F.Body j xs inner))
    no-naming true e = absurd (cc)
    no-naming false e = absurd (cc)
answers-at (Clause-F.Goto j xs) e = absurd (cc)
answers-at (Clause-F.Give xs) e = record { vars = xs; is = old_of.rolls-Give xs }
answers-at Clause-F.Fail e = absurd (cc)

gives-if : (x : Clause) → standing x ≡ answers → Gives x
gives-if x e = subst Gives (roll-out-Stmt x) (answers-at (out-Stmt x) (sym (fold-roll-Stmt Standing Bool Bool standing_at alternative_ends_at case_ends_at (out-Stmt x)) ∙ ap standing (roll-out-Stmt x) ∙ e))

-- a goal, apart from the `give` that ends it
record Goal (goal : List Clause) : Type 0 where
  vars : List ℕ
  is : goal ≡ all_but_last goal ++ old_of.Give vars ∷ []

goal-of : (x : Clause) (xs : List Clause) → goal_ends (map standing (x ∷ xs)) ≡ true → Goal (x ∷ xs)
goal-of x [] h = kind (standing x) refl h
  where
    kind : (z : Standing) → standing x ≡ z → goal_ends (z ∷ []) ≡ true → Goal (x ∷ [])
    kind goes_on e t = absurd (cc)
    kind names e t = absurd (cc)
    kind ends e t = absurd (cc)
    kind answers e t = let g = gives-if x e in record { vars = g.vars; is = ap (λ (y : Clause). y ∷ []) g.is }
    kind broken e t = absurd (cc)
goal-of x (y ∷ ys) h = kind (standing x) (goal-of y ys) h
  where
    kind : (z : Standing) → (goal_ends (map standing (y ∷ ys)) ≡ true → Goal (y ∷ ys)) → goal_ends (z ∷ map standing (y ∷ ys)) ≡ true → Goal (x ∷ y ∷ ys)
    kind goes_on rest t = let g = rest t in record { vars = g.vars; is = ap (λ (zs : List Clause). x ∷ zs) g.is }
    kind names rest t = absurd (cc)
    kind ends rest t = absurd (cc)
    kind answers rest t = absurd (cc)
    kind broken rest t = absurd (cc)

goal-there : (goal : List Clause) → goal_ends (map standing goal) ≡ true → Goal goal
goal-there [] h = absurd (cc)
goal-there (x ∷ xs) h = goal-of x xs h

going-true : (b : Bool) → going_on b ≡ goes_on → b ≡ true
going-true true e = refl
going-true false e = absurd (cc)

going-there : (b : Bool) (rest : List Standing) → block_ends (going_on b ∷ rest) ≡ true → going_on b ≡ goes_on
going-there true rest h = refl
going-there false rest h = absurd (cc)

-- ---- more room

passes-more : (own a b : ℕ) (h : Continuation) (xs : List Clause) (new : NewBlock) → a ≤ b → Passes own a h xs new → Passes own b h xs new
passes-more own a b h xs new le p = record { by = λ s c taken fit ended known enough free. p.by s c taken fit ended known enough (free-less own a b s.vars taken le free) }

cases-more : (own a b : ℕ) (h : Continuation) (x : ℕ) (ks : List Choice) (cs : List NewCase) → a ≤ b → CasesMade own a h x ks cs → CasesMade own b h x ks cs
cases-more own a b h x [] [] le m = tt
cases-more own a b h x [] (c ∷ cs) le m = absurd m
cases-more own a b h x (k ∷ ks) [] le m = absurd m
cases-more own a b h x (k ∷ ks) (c ∷ cs) le m =
    (record { lines = m.0.lines; tag = m.0.tag; taken = m.0.taken; passes = passes-more own a b h (out-Case k).block (made m.0.lines) le m.0.passes }, cases-more own a b h x ks cs le m.1)

-- nothing ends no block
none-passes : (own to : ℕ) (h : Continuation) (new : NewBlock) → Passes own to h [] new
none-passes own to h new = record { by = λ s c taken fit ended known enough free. absurd (cc) }

-- no alternatives fail
no-alternatives : (own to : ℕ) (h : Continuation) → AllPass own to h [] (made (line.Fail h ∷ []))
no-alternatives own to h = record {
  by = λ n bodies s c taken fit ended known enough free.
      both-as h c taken (old_last Clause-F.Fail) (λ vals olds. clauses.in_order []) (new_last (Stmt-F.Fail h)) (made (line.Fail h ∷ [])) (λ vals olds. refl)
      (λ vals news. ap (λ (a : Action). a (in_turn [])) (acts-Fail vals news h)) (fail_carries h c taken);
}

-- ---- what is said of a statement, an alternative and a case

module _ (own : ℕ) where
  pub record StmtIs (x : Clause) : Type 0 where
    pub rises : (h : Continuation) (s : Hand) → Rise s.numbers (stmt_made x h s).numbers
    pub before : standing x ≡ goes_on → (h : Continuation) (s : Hand) → own ≤ s.numbers.variable → Before own s.numbers (stmt_made x h s).numbers h (x ∷ []) s.lines (stmt_made x h s).lines
    pub passes : (h : Continuation) (s : Hand) (xs : List Clause) → own ≤ s.numbers.variable → IsUnder h s.numbers.name → Passes own s.numbers.variable h xs (made s.lines)
        → Passes own (stmt_made x h s).numbers.variable h (x ∷ xs) (made (stmt_made x h s).lines)

  -- what is made of a block
  record BlockIs (xs : List Clause) (m : BlockMaking) : Type 0 where
    rises : (h : Continuation) (n : Numbers) → Rise n (m h n).numbers
    passes : (h : Continuation) (n : Numbers) → own ≤ n.variable → IsUnder h n.name → Passes own (m h n).numbers.variable h xs (made (m h n).lines)

  record AlternativeIs (a : Alternative) : Type 0 where
    is : BlockIs (out-Alternative a).block (alternative_made a)

  record CaseIs (k : Choice) : Type 0 where
    tag : (case_made k).tag ≡ (out-Case k).tag
    vars : (case_made k).vars ≡ (out-Case k).vars
    is : BlockIs (out-Case k).block (case_made k).block

  abbrev pub EachStmt : List Clause → Type 0
  EachStmt [] = Unit {0}
  EachStmt (x ∷ xs) = StmtIs x × EachStmt xs

  abbrev EachAlternative : List Alternative → Type 0
  EachAlternative [] = Unit {0}
  EachAlternative (x ∷ xs) = AlternativeIs x × EachAlternative xs

  abbrev EachCase : List Choice → Type 0
  EachCase [] = Unit {0}
  EachCase (x ∷ xs) = CaseIs x × EachCase xs

  -- ---- statements in a row

  front-rises : (xs : List Clause) → EachStmt xs → (h : Continuation) (s : Hand) → Rise s.numbers (in_front (map stmt_made xs) h s).numbers
  front-rises [] e h s = rises-itself s.numbers
  front-rises (x ∷ xs) e h s = rises-on s.numbers (in_front (map stmt_made xs) h s).numbers _ (front-rises xs e.1 h s) (e.0.rises h (in_front (map stmt_made xs) h s))

  front-before : (xs : List Clause) → EachStmt xs → all_go_on xs → (h : Continuation) (s : Hand) → own ≤ s.numbers.variable
      → Before own s.numbers (in_front (map stmt_made xs) h s).numbers h xs s.lines (in_front (map stmt_made xs) h s).lines
  front-before [] e on h s le = before-none own s.numbers h s.lines
  front-before (x ∷ xs) e on h s le =
      let rest = in_front (map stmt_made xs) h s in
      let up = front-rises xs e.1 h s in
      before-more own s.numbers rest.numbers (stmt_made x h rest).numbers h x xs s.lines rest.lines (stmt_made x h rest).lines up.names (front-before xs e.1 on.1 h s le)
      (e.0.before on.0 h rest (omega (arith, up.variables)))

  front-passes : (xs : List Clause) → EachStmt xs → (h : Continuation) (n : Numbers) → own ≤ n.variable → IsUnder h n.name
      → Passes own (block_of (map stmt_made xs) h n).numbers.variable h xs (made (block_of (map stmt_made xs) h n).lines)
  front-passes [] e h n le under = none-passes own n.variable h (made [])
  front-passes (x ∷ xs) e h n le under =
      let rest = block_of (map stmt_made xs) h n in
      let up = front-rises xs e.1 h (empty n) in
      e.0.passes h rest xs (omega (arith, up.variables)) (under-more h n.name rest.numbers.name up.names under) (front-passes xs e.1 h n le under)

  block-is : (xs : List Clause) → EachStmt xs → BlockIs xs (block_of (map stmt_made xs))
  block-is xs e = record { rises = λ h n. front-rises xs e h (empty n); passes = front-passes xs e }

  each-front : (x : Clause) (xs : List Clause) → EachStmt (x ∷ xs) → EachStmt (all_but_last (x ∷ xs))
  each-front x [] e = tt
  each-front x (y ∷ ys) e = (e.0, each-front y ys e.1)

  each-but-last : (xs : List Clause) → EachStmt xs → EachStmt (all_but_last xs)
  each-but-last [] e = tt
  each-but-last (x ∷ xs) e = each-front x xs e

  front-of : (x : Clause) (xs : List Clause) → all_but_last (map stmt_made (x ∷ xs)) ≡ map stmt_made (all_but_last (x ∷ xs))
  front-of x [] = refl
  front-of x (y ∷ ys) = ap (λ (zs : List Making). stmt_made x ∷ zs) (front-of y ys)

  pub front-made : (xs : List Clause) → all_but_last (map stmt_made xs) ≡ map stmt_made (all_but_last xs)
  front-made [] = refl
  front-made (x ∷ xs) = front-of x xs

  goal-goes-on : (goal : List Clause) (g : Goal goal) → goal_ends (map standing goal) ≡ true → all_go_on (all_but_last goal)
  goal-goes-on goal g h = goes-front (all_but_last goal) (old_of.Give g.vars) (ap (λ (xs : List Clause). goal_ends (map standing xs)) (sym g.is) ∙ h)

  -- ---- alternatives

  or-rises : (all : List Alternative) → EachAlternative all → (h : Continuation) (n : Numbers) → Rise n (or_of (map alternative_made all) h n).numbers
  or-rises [] e h n = rises-itself n
  or-rises (a ∷ []) e h n = e.0.is.rises h n
  or-rises (a ∷ b ∷ rest) e h n =
      let other = or_of (map alternative_made (b ∷ rest)) h n in
      rises-on n other.numbers _ (or-rises (b ∷ rest) e.1 h n)
      (rises-on other.numbers (one_name other.numbers) _ (record { variables = omega arith; names = omega arith }) (e.0.is.rises (continuation.Named other.numbers.name) (one_name other.numbers)))

  or-all : (all : List Alternative) → EachAlternative all → (h : Continuation) (n : Numbers) → own ≤ n.variable → IsUnder h n.name
      → AllPass own (or_of (map alternative_made all) h n).numbers.variable h all (made (or_of (map alternative_made all) h n).lines)
  or-all [] e h n le under = no-alternatives own n.variable h
  or-all (a ∷ []) e h n le under = all-one own _ h a _ (e.0.is.passes h n le under)
  or-all (a ∷ b ∷ rest) e h n le under =
      let other = or_of (map alternative_made (b ∷ rest)) h n in
      let name = continuation.Named other.numbers.name in
      let tried = alternative_made a name (one_name other.numbers) in
      let up = or-rises (b ∷ rest) e.1 h n in
      let up2 = e.0.is.rises name (one_name other.numbers) in
      all-more own other.numbers.variable tried.numbers.variable h other.numbers.name a b rest other.lines tried.lines _ up2.variables
      (e.0.is.passes name (one_name other.numbers) (omega (arith, up.variables)) (omega arith)) (or-all (b ∷ rest) e.1 h n le under) refl

  -- ---- cases

  fields-made : (x i : ℕ) (ys : List ℕ) (lines : List Stmt) (vals : Vals) (news : RelationActs) → made (fields_made x i ys lines) vals news ≡ new_fields x i ys vals news (made lines vals news)
  fields-made x i [] lines vals news = refl
  fields-made x i (y ∷ ys) lines vals news =
      line-made (fields_made x (suc i) ys lines) (line.Field y x i) vals news
      ∙ ap (λ (a : Action). a (made (fields_made x (suc i) ys lines) vals news)) (acts-Field vals news y x i)
      ∙ ap (λ d. act vals news (Stmt-F.Field y x i) d) (fields-made x (suc i) ys lines vals news)

  case-made : (k : Choice) → CaseIs k → (h : Continuation) (x : ℕ) (n : Numbers) → own ≤ n.variable → IsUnder h n.name
      → CaseMade own ((case_made k).block h n).numbers.variable h x k (closed_case (case_made k) x ((case_made k).block h n).lines)
  case-made k e h x n le under =
      let block_made = (case_made k).block h n in
      let opened = out-roll-NewCase (record { tag = (case_made k).tag; block = reverse (fields_made x 1 (case_made k).vars block_made.lines) }) in
      record {
        lines = block_made.lines;
        tag = ap (λ c. c.tag) opened ∙ e.tag;
        taken = λ vals news.
            ap (λ c. block vals news c.block) opened ∙ fields-made x 1 (case_made k).vars block_made.lines vals news
            ∙ ap (λ (ys : List ℕ). new_fields x 1 ys vals news (made block_made.lines vals news)) e.vars;
        passes = e.is.passes h n le under;
      }

  cases-rise : (ks : List Choice) → EachCase ks → (x : ℕ) (h : Continuation) (c : Cased) → Rise c.numbers (all_cases (map case_made ks) x h c).numbers
  cases-rise [] e x h c = rises-itself c.numbers
  cases-rise (k ∷ ks) e x h c =
      rises-on c.numbers (all_cases (map case_made ks) x h c).numbers _ (cases-rise ks e.1 x h c) (e.0.is.rises h (all_cases (map case_made ks) x h c).numbers)

  cases-made : (ks : List Choice) → EachCase ks → (x : ℕ) (h : Continuation) (n : Numbers) → own ≤ n.variable → IsUnder h n.name
      → CasesMade own (all_cases (map case_made ks) x h (cased [] n)).numbers.variable h x ks (reverse (all_cases (map case_made ks) x h (cased [] n)).cases)
  cases-made [] e x h n le under = tt
  cases-made (k ∷ ks) e x h n le under =
      let rest = all_cases (map case_made ks) x h (cased [] n) in
      let to = ((case_made k).block h rest.numbers).numbers.variable in
      let new = closed_case (case_made k) x ((case_made k).block h rest.numbers).lines in
      let up = cases-rise ks e.1 x h (cased [] n) in
      subst (λ (cs : List NewCase). CasesMade own to h x (k ∷ ks) cs) (sym (reverse-append rest.cases (new ∷ []))) (
        case-made k e.0 h x rest.numbers (omega (arith, up.variables)) (under-more h n.name rest.numbers.name up.names under),
        cases-more own rest.numbers.variable to h x ks (reverse rest.cases) (e.0.is.rises h rest.numbers).variables (cases-made ks e.1 x h n le under),
      )

  -- ---- a layer of a statement

  -- what is said of a making
  record MakingIs (x : Clause) (m : Making) : Type 0 where
    rises : (h : Continuation) (s : Hand) → Rise s.numbers (m h s).numbers
    before : standing x ≡ goes_on → (h : Continuation) (s : Hand) → own ≤ s.numbers.variable → Before own s.numbers (m h s).numbers h (x ∷ []) s.lines (m h s).lines
    passes : (h : Continuation) (s : Hand) (xs : List Clause) → own ≤ s.numbers.variable → IsUnder h s.numbers.name → Passes own s.numbers.variable h xs (made s.lines)
        → Passes own (m h s).numbers.variable h (x ∷ xs) (made (m h s).lines)

  -- a statement that goes on always
  goes : (x : Clause) (m : Making) → standing x ≡ goes_on → ((h : Continuation) (s : Hand) → Rise s.numbers (m h s).numbers)
      → ((h : Continuation) (s : Hand) → own ≤ s.numbers.variable → Before own s.numbers (m h s).numbers h (x ∷ []) s.lines (m h s).lines) → MakingIs x m
  goes x m on up is = record {
    rises = up;
    before = λ e h s le. is h s le;
    passes = λ h s xs le under p. before-passes own s.numbers (m h s).numbers h x xs s.lines (m h s).lines on under (is h s le) p;
  }

  -- one that ends its block
  last : (x : Clause) (m : Making) → (standing x ≡ goes_on → ⊥) → ((h : Continuation) (s : Hand) → Rise s.numbers (m h s).numbers)
      → ((h : Continuation) (s : Hand) (xs : List Clause) → own ≤ s.numbers.variable → IsUnder h s.numbers.name → Passes own (m h s).numbers.variable h (x ∷ xs) (made (m h s).lines)) → MakingIs x m
  last x m never up is = record { rises = up; before = λ e h s le. absurd (never e); passes = λ h s xs le under p. is h s xs le under }

  stands : (x : Clause) (y : Clause-F Clause Alternative Choice) → roll-Stmt y ≡ x → standing x ≡ standing_at (map-Stmt Clause Alternative Choice Standing Bool Bool standing alternative_ends case_ends y)
  stands x y e = (opens x y e).stands

  abbrev layered : Clause-F Clause Alternative Choice → Making
  layered y = made_at (map-Stmt Clause Alternative Choice Making BlockMaking CaseMaking stmt_made alternative_made case_made y)

  rolled : (x : Clause) (y : Clause-F Clause Alternative Choice) → roll-Stmt y ≡ x → MakingIs x (layered y) → StmtIs (roll-Stmt y)
  rolled x y e h =
      let same : layered y ≡ stmt_made x = sym (fold-roll-Stmt Making BlockMaking CaseMaking made_at alternative_at case_at y) ∙ ap stmt_made e in
      let all : MakingIs x (stmt_made x) = subst (λ (m : Making). MakingIs x m) same h in
      subst StmtIs (sym e) (record { rises = all.rises; before = all.before; passes = all.passes })

  ending-never : (b : Bool) → ending b ≡ goes_on → ⊥
  ending-never true e = cc
  ending-never false e = cc

  naming-never : (b : Bool) → naming b ≡ goes_on → ⊥
  naming-never true e = cc
  naming-never false e = cc

  -- ---- a `not`

  not-stands : (goal : List Clause) → standing (old_of.Not goal) ≡ going_on (goal_ends (map standing goal))
  not-stands goal = stands (old_of.Not goal) (Clause-F.Not goal) (old_of.rolls-Not goal)

  -- what is made of the goal
  abbrev goal_made : List Clause → Continuation → Hand → Hand
  goal_made goal h s = in_front (map stmt_made (all_but_last goal)) (continuation.Named s.numbers.name) (only (line.Fail h) (one_name s.numbers))

  not-as : (goal : List Clause) (h : Continuation) (s : Hand) → negated (map stmt_made goal) h s ≡ or_else s.numbers.name s.lines (goal_made goal h s)
  not-as goal h s = ap (λ (ms : List Making). or_else s.numbers.name s.lines (in_front ms (continuation.Named s.numbers.name) (only (line.Fail h) (one_name s.numbers)))) (front-made goal)

  goal-rises : (goal : List Clause) → EachStmt goal → (h : Continuation) (s : Hand) → Rise (one_name s.numbers) (goal_made goal h s).numbers
  goal-rises goal e h s = front-rises (all_but_last goal) (each-but-last goal e) (continuation.Named s.numbers.name) (only (line.Fail h) (one_name s.numbers))

  not-rises : (goal : List Clause) → EachStmt goal → (h : Continuation) (s : Hand) → Rise s.numbers (negated (map stmt_made goal) h s).numbers
  not-rises goal e h s =
      subst (λ (t : Hand). Rise s.numbers t.numbers) (sym (not-as goal h s))
      (rises-on s.numbers (one_name s.numbers) (goal_made goal h s).numbers (record { variables = omega arith; names = omega arith }) (goal-rises goal e h s))

  not-goes : (goal : List Clause) → EachStmt goal → standing (old_of.Not goal) ≡ goes_on → (h : Continuation) (s : Hand) → own ≤ s.numbers.variable
      → Before own s.numbers (negated (map stmt_made goal) h s).numbers h (old_of.Not goal ∷ []) s.lines (negated (map stmt_made goal) h s).lines
  not-goes goal e on h s le =
      let ended = going-true (goal_ends (map standing goal)) (sym (not-stands goal) ∙ on) in
      let g = goal-there goal ended in
      let inner = front-before (all_but_last goal) (each-but-last goal e) (goal-goes-on goal g ended) (continuation.Named s.numbers.name) (only (line.Fail h) (one_name s.numbers)) le in
      subst (λ (t : Hand). Before own s.numbers t.numbers h (old_of.Not goal ∷ []) s.lines t.lines) (sym (not-as goal h s))
      (not-before own s.numbers (one_name s.numbers) (goal_made goal h s).numbers h s.numbers.name goal (all_but_last goal) g.vars s.lines (goal_made goal h s).lines (or_else s.numbers.name s.lines (goal_made goal h s)).lines
      refl (omega arith) refl (goal-rises goal e h s).variables g.is inner refl)

  not-is : (goal : List Clause) → EachStmt goal → MakingIs (old_of.Not goal) (negated (map stmt_made goal))
  not-is goal e = record {
    rises = not-rises goal e;
    before = not-goes goal e;
    passes = λ h s xs le under p. record {
      by = λ given c taken fit ended known enough free.
          let st = not-stands goal in
          let on : standing (old_of.Not goal) ≡ goes_on =
          st ∙ going-there (goal_ends (map standing goal)) (map standing xs) (ap (λ (z : Standing). block_ends (z ∷ map standing xs)) (sym st) ∙ ended) in
          (before-passes own s.numbers (negated (map stmt_made goal) h s).numbers h (old_of.Not goal) xs s.lines (negated (map stmt_made goal) h s).lines on under (not-goes goal e on h s le) p).by given c taken fit ended known enough free;
    };
  }

  -- ---- a `cond`

  cond-stands : (first second third : List Clause) → standing (old_of.Cond first second third) ≡ ending (goal_ends (map standing first) && block_ends (map standing second) && block_ends (map standing third))
  cond-stands first second third = stands (old_of.Cond first second third) (Clause-F.Cond first second third) (old_of.rolls-Cond first second third)

  -- what is made of the three blocks
  abbrev other : List Clause → Continuation → Numbers → Hand
  other third h n = block_of (map stmt_made third) h (one_name n)

  abbrev answered : List Clause → List Clause → Continuation → Numbers → Hand
  answered second third h n = block_of (map stmt_made second) h (other third h n).numbers

  abbrev tried : List Clause → List Clause → List Clause → Continuation → Numbers → Hand
  tried first second third h n = in_front (map stmt_made (all_but_last first)) (continuation.Named n.name) (answered second third h n)

  abbrev cond_made : List Clause → List Clause → List Clause → Continuation → Numbers → Hand
  cond_made first second third h n = cond_of (map stmt_made first) (map stmt_made second) (map stmt_made third) h n

  cond-as : (first second third : List Clause) (h : Continuation) (n : Numbers) → cond_made first second third h n ≡ or_else n.name (other third h n).lines (tried first second third h n)
  cond-as first second third h n = ap (λ (ms : List Making). or_else n.name (other third h n).lines (in_front ms (continuation.Named n.name) (answered second third h n))) (front-made first)

  cond-rises : (first second third : List Clause) → EachStmt first → EachStmt second → EachStmt third → (h : Continuation) (n : Numbers) → Rise n (cond_made first second third h n).numbers
  cond-rises first second third e f g h n =
      subst (λ (t : Hand). Rise n t.numbers) (sym (cond-as first second third h n))
      (rises-on n (one_name n) (tried first second third h n).numbers (record { variables = omega arith; names = omega arith })
      (rises-on (one_name n) (other third h n).numbers (tried first second third h n).numbers (front-rises third g h (empty (one_name n)))
      (rises-on (other third h n).numbers (answered second third h n).numbers (tried first second third h n).numbers (front-rises second f h (empty (other third h n).numbers))
      (front-rises (all_but_last first) (each-but-last first e) (continuation.Named n.name) (answered second third h n)))))

  cond-ends : (first second third : List Clause) → EachStmt first → EachStmt second → EachStmt third → (h : Continuation) (n : Numbers) (xs : List Clause) → own ≤ n.variable → IsUnder h n.name → goal_ends (map standing first) ≡ true
      → Passes own (cond_made first second third h n).numbers.variable h (old_of.Cond first second third ∷ xs) (made (cond_made first second third h n).lines)
  cond-ends first second third e f g h n xs le under ended =
      let o = other third h n in
      let a = answered second third h n in
      let t = tried first second third h n in
      let r = front-rises third g h (empty (one_name n)) in
      let q = front-rises second f h (empty o.numbers) in
      let u = front-rises (all_but_last first) (each-but-last first e) (continuation.Named n.name) a in
      let goal = goal-there first ended in
      subst (λ (z : Hand). Passes own z.numbers.variable h (old_of.Cond first second third ∷ xs) (made z.lines)) (sym (cond-as first second third h n))
      (cond-passes own o.numbers.variable a.numbers t.numbers h n.name first second third (all_but_last first) goal.vars xs o.lines a.lines t.lines
      (or_else n.name o.lines t).lines under (omega (arith, r.names, q.names)) (omega (arith, q.variables, u.variables)) u.variables goal.is
      (front-passes third g h (one_name n) le (under-more h n.name (suc n.name) (omega arith) under))
      (front-passes second f h o.numbers (omega (arith, r.variables)) (under-more h n.name o.numbers.name (omega (arith, r.names)) under))
      (front-before (all_but_last first) (each-but-last first e) (goal-goes-on first goal ended) (continuation.Named n.name) a (omega (arith, r.variables, q.variables))) refl)

  cond-is : (first second third : List Clause) → EachStmt first → EachStmt second → EachStmt third → MakingIs (old_of.Cond first second third) (λ h s. cond_made first second third h s.numbers)
  cond-is first second third e f g = last (old_of.Cond first second third) (λ h s. cond_made first second third h s.numbers)
      (λ on. ending-never _ (sym (cond-stands first second third) ∙ on))
      (λ h s. cond-rises first second third e f g h s.numbers)
      (λ h s xs le under. record {
        by = λ given c taken fit ended known enough free.
            let all = two (goal_ends (map standing first) && block_ends (map standing second)) (block_ends (map standing third))
            (ending-true _ (map standing xs) (ap (λ (z : Standing). block_ends (z ∷ map standing xs)) (sym (cond-stands first second third)) ∙ ended)) in
            let both = two (goal_ends (map standing first)) (block_ends (map standing second)) all.first in
            (cond-ends first second third e f g h s.numbers xs le under both.first).by given c taken fit ended known enough free;
      })

  or-is : (all : List Alternative) → EachAlternative all → MakingIs (old_of.Or all) (λ h s. or_of (map alternative_made all) h s.numbers)
  or-is all e = last (old_of.Or all) _ (λ on. ending-never _ (sym (stands (old_of.Or all) (Clause-F.Or all) (old_of.rolls-Or all)) ∙ on))
      (λ h s. or-rises all e h s.numbers)
      (λ h s xs le under. or-passes own _ h all xs _ (or-all all e h s.numbers le under))

  switch-is : (x : ℕ) (ks : List Choice) (otherwise : List Clause) → EachCase ks → EachStmt otherwise
      → MakingIs (old_of.Switch x ks otherwise) (λ h s. switch_rest x (map case_made ks) h (block_of (map stmt_made otherwise) h s.numbers))
  switch-is x ks otherwise e f = last (old_of.Switch x ks otherwise) _ (λ on. ending-never _ (sym (stands (old_of.Switch x ks otherwise) (Clause-F.Switch x ks otherwise) (old_of.rolls-Switch x ks otherwise)) ∙ on))
      (λ h s.
      let other = block_of (map stmt_made otherwise) h s.numbers in
      rises-on s.numbers other.numbers _ (front-rises otherwise f h (empty s.numbers)) (cases-rise ks e x h (cased [] other.numbers)))
      (λ h s xs le under.
      let other = block_of (map stmt_made otherwise) h s.numbers in
      let all = all_cases (map case_made ks) x h (cased [] other.numbers) in
      let up = front-rises otherwise f h (empty s.numbers) in
      let more = cases-rise ks e x h (cased [] other.numbers) in
      switch-passes own all.numbers.variable h x ks (reverse all.cases) otherwise xs other.lines
      (cases-made ks e x h other.numbers (omega (arith, up.variables)) (under-more h s.numbers.name other.numbers.name up.names under))
      (passes-more own other.numbers.variable all.numbers.variable h otherwise (made other.lines) more.variables (front-passes otherwise f h s.numbers le under)))

  body-is : (j : ℕ) (ys : List ℕ) (inner : List Clause) → EachStmt inner
      → MakingIs (old_of.Body j ys inner) (λ h s. named j ys s.numbers.name s.lines (block_of (map stmt_made inner) (continuation.Named s.numbers.name) (one_name s.numbers)))
  body-is j ys inner e = record {
    rises = λ h s.
        rises-on s.numbers (one_name s.numbers) _ (record { variables = omega arith; names = omega arith }) (front-rises inner e (continuation.Named s.numbers.name) (empty (one_name s.numbers)));
    before = λ on h s le. absurd (naming-never _ (sym (stands (old_of.Body j ys inner) (Clause-F.Body j ys inner) (old_of.rolls-Body j ys inner)) ∙ on));
    passes = λ h s xs le under p.
        let block_made = block_of (map stmt_made inner) (continuation.Named s.numbers.name) (one_name s.numbers) in
        let up = front-rises inner e (continuation.Named s.numbers.name) (empty (one_name s.numbers)) in
        body-passes own s.numbers.variable block_made.numbers.variable h j ys s.numbers.name inner xs s.lines block_made.lines _ up.variables p
        (front-passes inner e (continuation.Named s.numbers.name) (one_name s.numbers) le (omega arith)) refl;
  }

  abbrev Layer : Type 0
  Layer = Clause-F ((x : Clause) × StmtIs x) ((a : Alternative) × AlternativeIs a) ((k : Choice) × CaseIs k)

  stmts-of : (ps : List ((x : Clause) × StmtIs x)) → EachStmt (map (λ e. e.0) ps)
  stmts-of [] = tt
  stmts-of (p ∷ ps) = (p.1, stmts-of ps)

  alternatives-of : (ps : List ((x : Alternative) × AlternativeIs x)) → EachAlternative (map (λ e. e.0) ps)
  alternatives-of [] = tt
  alternatives-of (p ∷ ps) = (p.1, alternatives-of ps)

  cases-of : (ps : List ((x : Choice) × CaseIs x)) → EachCase (map (λ e. e.0) ps)
  cases-of [] = tt
  cases-of (p ∷ ps) = (p.1, cases-of ps)

  layer : (y : Layer) → StmtIs (roll-Stmt (map-Stmt ((x : Clause) × StmtIs x) ((a : Alternative) × AlternativeIs a) ((k : Choice) × CaseIs k) Clause Alternative Choice (λ e. e.0) (λ e. e.0) (λ e. e.0) y))
  layer (Clause-F.Match x p) = rolled (old_of.Match x p) (Clause-F.Match x p) (old_of.rolls-Match x p)
      (goes (old_of.Match x p) (λ h s. (pattern_made p).whole x h s) (stands (old_of.Match x p) (Clause-F.Match x p) (old_of.rolls-Match x p)) (λ h s. (pattern-is own p).rises x h s)
      (λ h s le. match-before own s.numbers ((pattern_made p).whole x h s).numbers h x p s.lines ((pattern_made p).whole x h s).lines le ((pattern-is own p).rises x h s).variables ((pattern-is own p).whole x h s)))
  layer (Clause-F.Set x e) = rolled (old_of.Set x e) (Clause-F.Set x e) (old_of.rolls-Set x e)
      (goes (old_of.Set x e) _ (stands (old_of.Set x e) (Clause-F.Set x e) (old_of.rolls-Set x e)) (λ h s. rises-itself s.numbers) (λ h s le. set-before own s.numbers h x e s.lines))
  layer (Clause-F.Call f xs ys) = rolled (old_of.Call f xs ys) (Clause-F.Call f xs ys) (old_of.rolls-Call f xs ys)
      (goes (old_of.Call f xs ys) _ (stands (old_of.Call f xs ys) (Clause-F.Call f xs ys) (old_of.rolls-Call f xs ys)) (λ h s. record { variables = omega arith; names = omega arith })
      (λ h s le. call-before own s.numbers (one_name s.numbers) h s.numbers.name f xs ys s.lines (called f xs ys h s).lines refl refl))
  layer (Clause-F.Builtin k xs ys) = rolled (old_of.Builtin k xs ys) (Clause-F.Builtin k xs ys) (old_of.rolls-Builtin k xs ys)
      (goes (old_of.Builtin k xs ys) _ (stands (old_of.Builtin k xs ys) (Clause-F.Builtin k xs ys) (old_of.rolls-Builtin k xs ys)) (λ h s. rises-itself s.numbers) (λ h s le. built-in-before own s.numbers h k xs ys s.lines))
  layer (Clause-F.Equal x y) = rolled (old_of.Equal x y) (Clause-F.Equal x y) (old_of.rolls-Equal x y)
      (goes (old_of.Equal x y) _ (stands (old_of.Equal x y) (Clause-F.Equal x y) (old_of.rolls-Equal x y)) (λ h s. rises-itself s.numbers) (λ h s le. equal-before own s.numbers h x y s.lines))
  layer (Clause-F.Not ps) = let xs = map (λ e. e.0) ps in rolled (old_of.Not xs) (Clause-F.Not xs) (old_of.rolls-Not xs) (not-is xs (stmts-of ps))
  layer (Clause-F.Or ps) = let xs = map (λ e. e.0) ps in rolled (old_of.Or xs) (Clause-F.Or xs) (old_of.rolls-Or xs) (or-is xs (alternatives-of ps))
  layer (Clause-F.Cond ps qs rs) =
      let xs = map (λ e. e.0) ps in
      let ys = map (λ e. e.0) qs in
      let zs = map (λ e. e.0) rs in
      rolled (old_of.Cond xs ys zs) (Clause-F.Cond xs ys zs) (old_of.rolls-Cond xs ys zs) (cond-is xs ys zs (stmts-of ps) (stmts-of qs) (stmts-of rs))
  layer (Clause-F.Switch x ps qs) =
      let ks = map (λ e. e.0) ps in
      let xs = map (λ e. e.0) qs in
      rolled (old_of.Switch x ks xs) (Clause-F.Switch x ks xs) (old_of.rolls-Switch x ks xs) (switch-is x ks xs (cases-of ps) (stmts-of qs))
  layer (Clause-F.Body j ys ps) = let xs = map (λ e. e.0) ps in rolled (old_of.Body j ys xs) (Clause-F.Body j ys xs) (old_of.rolls-Body j ys xs) (body-is j ys xs (stmts-of ps))
  layer (Clause-F.Goto j ys) = rolled (old_of.Goto j ys) (Clause-F.Goto j ys) (old_of.rolls-Goto j ys)
      (last (old_of.Goto j ys) _ (λ on. let e = sym (stands (old_of.Goto j ys) (Clause-F.Goto j ys) (old_of.rolls-Goto j ys)) ∙ on in cc) (λ h s. rises-itself s.numbers) (λ h s xs le under. goto-passes own s.numbers.variable h j ys xs))
  layer (Clause-F.Give ys) = rolled (old_of.Give ys) (Clause-F.Give ys) (old_of.rolls-Give ys)
      (last (old_of.Give ys) _ (λ on. let e = sym (stands (old_of.Give ys) (Clause-F.Give ys) (old_of.rolls-Give ys)) ∙ on in cc) (λ h s. rises-itself s.numbers) (λ h s xs le under. give-passes own s.numbers.variable h ys xs))
  layer Clause-F.Fail = rolled old_of.Fail Clause-F.Fail old_of.rolls-Fail
      (last old_of.Fail _ (λ on. let e = sym (stands old_of.Fail Clause-F.Fail old_of.rolls-Fail) ∙ on in cc) (λ h s. rises-itself s.numbers) (λ h s xs le under. fail-passes own s.numbers.variable h xs))

  alternative-layer : (y : Alternative-F ((x : Clause) × StmtIs x) ((a : Alternative) × AlternativeIs a) ((k : Choice) × CaseIs k))
      → AlternativeIs (roll-Alternative (map-Alternative ((x : Clause) × StmtIs x) ((a : Alternative) × AlternativeIs a) ((k : Choice) × CaseIs k) Clause Alternative Choice (λ e. e.0) (λ e. e.0) (λ e. e.0) y))
  alternative-layer y =
      let z = map-Alternative ((x : Clause) × StmtIs x) ((a : Alternative) × AlternativeIs a) ((k : Choice) × CaseIs k) Clause Alternative Choice (λ e. e.0) (λ e. e.0) (λ e. e.0) y in
      record {
        is = subst (λ (xs : List Clause). BlockIs xs (alternative_made (roll-Alternative z))) (sym (ap (λ a. a.block) (out-roll-Alternative z)))
            (subst (λ (m : BlockMaking). BlockIs z.block m) (sym (fold-roll-Alternative Making BlockMaking CaseMaking made_at alternative_at case_at z)) (block-is z.block (stmts-of y.block)));
      }

  case-layer : (y : Case-F ((x : Clause) × StmtIs x) ((a : Alternative) × AlternativeIs a) ((k : Choice) × CaseIs k))
      → CaseIs (roll-Case (map-Case ((x : Clause) × StmtIs x) ((a : Alternative) × AlternativeIs a) ((k : Choice) × CaseIs k) Clause Alternative Choice (λ e. e.0) (λ e. e.0) (λ e. e.0) y))
  case-layer y =
      let z = map-Case ((x : Clause) × StmtIs x) ((a : Alternative) × AlternativeIs a) ((k : Choice) × CaseIs k) Clause Alternative Choice (λ e. e.0) (λ e. e.0) (λ e. e.0) y in
      let made_so = fold-roll-Case Making BlockMaking CaseMaking made_at alternative_at case_at z in
      let opened = out-roll-Case z in
      record {
        tag = ap (λ (m : CaseMaking). m.tag) made_so ∙ sym (ap (λ k. k.tag) opened);
        vars = ap (λ (m : CaseMaking). m.vars) made_so ∙ sym (ap (λ k. k.vars) opened);
        is = subst (λ (xs : List Clause). BlockIs xs (case_made (roll-Case z)).block) (sym (ap (λ k. k.block) opened))
            (subst (λ (m : CaseMaking). BlockIs z.block m.block) (sym made_so) (block-is z.block (stmts-of y.block)));
      }

  pub stmt-is : (x : Clause) → StmtIs x
  stmt-is = ind-Stmt StmtIs AlternativeIs CaseIs (λ x y is. subst (λ z. StmtIs (roll-Stmt z)) is (layer y))
      (λ x y is. subst (λ z. AlternativeIs (roll-Alternative z)) is (alternative-layer y)) (λ x y is. subst (λ z. CaseIs (roll-Case z)) is (case-layer y))

  pub all-are : (xs : List Clause) → EachStmt xs
  all-are [] = tt
  all-are (x ∷ xs) = (stmt-is x, all-are xs)

  pub stmts-pass : (xs : List Clause) (h : Continuation) (n : Numbers) → own ≤ n.variable → IsUnder h n.name
      → Passes own (block_of (map stmt_made xs) h n).numbers.variable h xs (made (block_of (map stmt_made xs) h n).lines)
  stmts-pass xs h n le under = front-passes xs (all-are xs) h n le under
