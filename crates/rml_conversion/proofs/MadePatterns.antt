-- What is made of a pattern matches what the pattern matches.
use Rattle.std.proofs.Common.{◌≡◌, ℕ, zero, suc, ◌+◌, ◌≤◌, List, [], ◌∷◌, ◌++◌, map, length, refl, sym, ap, subst, ◌∙◌, append_assoc, arith}
use Rattle.std.specs.List.{concat}
use Rattle.rml_value.specs.declared.value.TheConstants.{NIL, CONS}
use Rattle.rml_terms.specs.Matching.{Matcher, match_con, match_list, match_chain}
use Rattle.rml_simulation.proofs.Callers.{old_wrong}
use Rattle.rml_fol.specs.declared.terms.Pattern.{Pattern, map-Pattern, roll-Pattern, fold-roll-Pattern, ind-Pattern}
use Rattle.rml_fol.specs.declared.terms.Pattern.TheOpen.{Pattern-F}
use Rattle.rml_fol.specs.declared.statements.Tag.{Tag}
use Rattle.rml_fol.specs.declared.statements.Tag.TheVariants as tag
use Rattle.rml_fol.specs.Patterns.{match_at, matching, bound_at, bound}
use Rattle.rml_cps.specs.declared.statements.Continuation.{Continuation}
use Rattle.rml_cps.specs.declared.statements.Stmt.{Stmt}
use Rattle.rml_cps.specs.declared.statements.Stmt.TheVariants as line
use Rattle.rml_tocps.specs.declared.pass.numbers.Numbers.{Numbers}
use Rattle.rml_tocps.specs.Matching.{MatchMade, PartMade, PartsMade, TestMade, place_at, match_front}
use Rattle.rml_tocps.specs.Passing.{Rise}
use Rattle.rml_tocps.proofs.Callers.{any-made, any-part-made, bind-made, bind-part-made, con-made, fresh-part-made, front-made, literal-made, nil-made, parts-more, parts-none, test-made, tuple-made, var-made, var-part-made}
use Rattle.rml_conversion.specs.Hand.{Hand, Making, hand, one_variable, with_line, tested, all_but_last, last_of}
use Rattle.rml_conversion.specs.Patterns.{PatternMaking, fresh_part, parts_made, items_made, reserved, list_made, tail_made, chain_made, pattern_at, pattern_made}

-- ---- numbers rise

pub rises-itself : (n : Numbers) → Rise n n
rises-itself n = record { variables = omega arith; names = omega arith }

pub rises-on : (a b c : Numbers) → Rise a b → Rise b c → Rise a c
rises-on a b c r s = record { variables = omega arith; names = omega arith }

-- ---- what is said of a pattern

pub record PatternIs (own : ℕ) (p : Pattern) : Type 0 where
  pub rises : (x : ℕ) (h : Continuation) (s : Hand) → Rise s.numbers ((pattern_made p).whole x h s).numbers
  pub whole : (x : ℕ) (h : Continuation) (s : Hand) → MatchMade own s.numbers.variable ((pattern_made p).whole x h s).numbers.variable h (matching p) (bound p) x s.lines ((pattern_made p).whole x h s).lines
  pub part_rises : (x i : ℕ) (h : Continuation) (s : Hand) → Rise s.numbers ((pattern_made p).part x i h s).numbers
  pub part : (x i : ℕ) (h : Continuation) (s : Hand) → PartMade own s.numbers.variable ((pattern_made p).part x i h s).numbers.variable h (matching p) (bound p) x i s.lines ((pattern_made p).part x i h s).lines

-- the same of a making, a matcher and the variables that it binds
record MakingIs (own : ℕ) (m : PatternMaking) (t : Matcher) (xs : List ℕ) : Type 0 where
  rises : (x : ℕ) (h : Continuation) (s : Hand) → Rise s.numbers (m.whole x h s).numbers
  whole : (x : ℕ) (h : Continuation) (s : Hand) → MatchMade own s.numbers.variable (m.whole x h s).numbers.variable h t xs x s.lines (m.whole x h s).lines
  part_rises : (x i : ℕ) (h : Continuation) (s : Hand) → Rise s.numbers (m.part x i h s).numbers
  part : (x i : ℕ) (h : Continuation) (s : Hand) → PartMade own s.numbers.variable (m.part x i h s).numbers.variable h t xs x i s.lines (m.part x i h s).lines

test-is : (t : Tag) (x : ℕ) (h : Continuation) (s : Hand) → TestMade t x h s.lines (tested t x h s).lines
test-is t x h s = test-made t x h s.lines (tested t x h s).lines _ refl refl

module _ (own : ℕ) where
  abbrev pub EachIs : List Pattern → Type 0
  EachIs [] = Unit {0}
  EachIs (p ∷ ps) = PatternIs own p × EachIs ps

  -- ---- parts

  parts-rise : (ps : List Pattern) → EachIs ps → (x i : ℕ) (h : Continuation) (s : Hand) → Rise s.numbers (parts_made (map pattern_made ps) x i h s).numbers
  parts-rise [] e x i h s = rises-itself s.numbers
  parts-rise (p ∷ ps) e x i h s =
      rises-on s.numbers (parts_made (map pattern_made ps) x (suc i) h s).numbers _ (parts-rise ps e.1 x (suc i) h s) (e.0.part_rises x i h (parts_made (map pattern_made ps) x (suc i) h s))

  parts-are : (ps : List Pattern) → EachIs ps → (x i : ℕ) (h : Continuation) (s : Hand)
      → PartsMade own s.numbers.variable (parts_made (map pattern_made ps) x i h s).numbers.variable h (map matching ps) (concat (map bound ps)) x i s.lines (parts_made (map pattern_made ps) x i h s).lines
  parts-are [] e x i h s = parts-none own s.numbers.variable h x i s.lines
  parts-are (p ∷ ps) e x i h s =
      let rest = parts_made (map pattern_made ps) x (suc i) h s in
      parts-more own s.numbers.variable rest.numbers.variable _ h (matching p) (map matching ps) (bound p) (concat (map bound ps)) x i s.lines rest.lines _
      (parts-rise ps e.1 x (suc i) h s).variables (e.0.part_rises x i h rest).variables (parts-are ps e.1 x (suc i) h s) (e.0.part x i h rest)

  -- ---- items

  items-rise : (ps : List Pattern) → EachIs ps → (x first : ℕ) (h : Continuation) (s : Hand) → Rise s.numbers (items_made (map pattern_made ps) x first h s).numbers
  items-rise [] e x first h s = rises-itself s.numbers
  items-rise (p ∷ ps) e x first h s =
      let inner = items_made (map pattern_made ps) first (suc first) h s in
      rises-on s.numbers inner.numbers _ (items-rise ps e.1 first (suc first) h s) (e.0.part_rises x 1 h (with_line (line.Field first x 2) inner))

  place-next : (x first k : ℕ) → place_at x first (suc k) ≡ place_at first (suc first) k
  place-next x first zero = omega arith
  place-next x first (suc k) = omega arith

  items-are : (ps : List Pattern) → EachIs ps → (x first low : ℕ) (h : Continuation) (s : Hand) (tail : Matcher) (ys : List ℕ) (rest : List Stmt) → low ≡ first + length ps → low ≤ s.numbers.variable
      → MatchMade own low s.numbers.variable h tail ys (place_at x first (length ps)) rest s.lines
      → MatchMade own first (items_made (map pattern_made ps) x first h s).numbers.variable h (match_front (map matching ps) tail) (concat (map bound ps) ++ ys) x rest (items_made (map pattern_made ps) x first h s).lines
  items-are [] e x first low h s tail ys rest is le m =
      let same : low ≡ first = omega (arith, is) in
      subst (λ (z : ℕ). MatchMade own z s.numbers.variable h tail ys x rest s.lines) same m
  items-are (p ∷ ps) e x first low h s tail ys rest is le m =
      let inner = items_made (map pattern_made ps) first (suc first) h s in
      let behind = with_line (line.Field first x 2) inner in
      let between = (pattern_made p).part x 1 h behind in
      let inner_is = items-are ps e.1 first (suc first) low h s tail ys rest (omega (arith, is)) le
      (subst (λ (z : ℕ). MatchMade own low s.numbers.variable h tail ys z rest s.lines) (place-next x first (length ps)) m) in
      let up = (items-rise ps e.1 first (suc first) h s).variables in
      subst (λ (zs : List ℕ). MatchMade own first between.numbers.variable h (match_con CONS (matching p ∷ match_front (map matching ps) tail ∷ [])) zs x rest (tested (tag.Con CONS) x h between).lines)
      (sym (append_assoc (bound p) (concat (map bound ps)) ys))
      (front-made own first inner.numbers.variable between.numbers.variable h (matching p) (match_front (map matching ps) tail) (bound p) (concat (map bound ps) ++ ys) x rest inner.lines behind.lines between.lines (tested (tag.Con CONS) x h between).lines
      (omega (arith, is, le, up)) (e.0.part_rises x 1 h behind).variables inner_is refl (e.0.part x 1 h behind) (test-is (tag.Con CONS) x h between))

  -- ---- lists

  list-front : (ms : List Matcher) → match_list ms ≡ match_front ms (match_list [])
  list-front [] = refl
  list-front (m ∷ ms) = ap (λ (r : Matcher). match_con CONS (m ∷ r ∷ [])) (list-front ms)

  reserved-rises : (n : ℕ) (s : Hand) → Rise s.numbers (reserved n s).numbers
  reserved-rises n s = record { variables = omega arith; names = omega arith }

  length-as : (ps : List Pattern) → length (map pattern_made ps) ≡ length ps
  length-as [] = refl
  length-as (p ∷ ps) = ap suc (length-as ps)

  append-none : (xs : List ℕ) → xs ++ [] ≡ xs
  append-none [] = refl
  append-none (x ∷ xs) = ap (λ (ys : List ℕ). x ∷ ys) (append-none xs)

  list-rises : (ps : List Pattern) → EachIs ps → (x : ℕ) (h : Continuation) (s : Hand) → Rise s.numbers (list_made (map pattern_made ps) x h s).numbers
  list-rises ps e x h s =
      let n = length (map pattern_made ps) in
      let ended = tested (tag.Con NIL) (place_at x s.numbers.variable n) h (reserved n s) in
      rises-on s.numbers (reserved n s).numbers _ (reserved-rises n s) (items-rise ps e x s.numbers.variable h ended)

  list-is : (ps : List Pattern) → EachIs ps → (x : ℕ) (h : Continuation) (s : Hand)
      → MatchMade own s.numbers.variable (list_made (map pattern_made ps) x h s).numbers.variable h (match_list (map matching ps)) (concat (map bound ps)) x s.lines (list_made (map pattern_made ps) x h s).lines
  list-is ps e x h s =
      let n = length (map pattern_made ps) in
      let here = reserved n s in
      let place = place_at x s.numbers.variable n in
      let ended = tested (tag.Con NIL) place h here in
      let made = list_made (map pattern_made ps) x h s in
      let ends = nil-made own here.numbers.variable h place s.lines ended.lines (test-is (tag.Con NIL) place h here) in
      subst (λ (t : Matcher). MatchMade own s.numbers.variable made.numbers.variable h t (concat (map bound ps)) x s.lines made.lines) (sym (list-front (map matching ps)))
      (subst (λ (zs : List ℕ). MatchMade own s.numbers.variable made.numbers.variable h (match_front (map matching ps) (match_list [])) zs x s.lines made.lines) (append-none (concat (map bound ps)))
      (items-are ps e x s.numbers.variable here.numbers.variable h ended (match_list []) [] s.lines (ap (λ (k : ℕ). s.numbers.variable + k) (length-as ps)) (omega arith)
      (subst (λ (k : ℕ). MatchMade own here.numbers.variable here.numbers.variable h (match_list []) [] (place_at x s.numbers.variable k) s.lines ended.lines) (length-as ps) ends)))

  -- ---- chains

  tail-rises : (ps : List Pattern) (q : Pattern) → EachIs ps → PatternIs own q → (x : ℕ) (h : Continuation) (s : Hand) → Rise s.numbers (tail_made (map pattern_made ps) (pattern_made q) x h s).numbers
  tail-rises ps q e last x h s =
      let n = length (map pattern_made ps) in
      let place = place_at x s.numbers.variable n in
      rises-on s.numbers (reserved n s).numbers _ (reserved-rises n s)
      (rises-on (reserved n s).numbers ((pattern_made q).whole place h (reserved n s)).numbers _ (last.rises place h (reserved n s)) (items-rise ps e x s.numbers.variable h ((pattern_made q).whole place h (reserved n s))))

  tail-is : (ps : List Pattern) (q : Pattern) → EachIs ps → PatternIs own q → (x : ℕ) (h : Continuation) (s : Hand)
      → MatchMade own s.numbers.variable (tail_made (map pattern_made ps) (pattern_made q) x h s).numbers.variable h (match_front (map matching ps) (matching q)) (concat (map bound ps) ++ bound q) x s.lines (tail_made (map pattern_made ps) (pattern_made q) x h s).lines
  tail-is ps q e last x h s =
      let n = length (map pattern_made ps) in
      let here = reserved n s in
      let place = place_at x s.numbers.variable n in
      let ended = (pattern_made q).whole place h here in
      items-are ps e x s.numbers.variable here.numbers.variable h ended (matching q) (bound q) s.lines (ap (λ (k : ℕ). s.numbers.variable + k) (length-as ps)) (last.rises place h here).variables
      (subst (λ (k : ℕ). MatchMade own here.numbers.variable ended.numbers.variable h (matching q) (bound q) (place_at x s.numbers.variable k) s.lines ended.lines) (length-as ps) (last.whole place h here))

  chain-front : (m : Matcher) (ms : List Matcher) → match_chain (m ∷ ms) ≡ match_front (all_but_last (m ∷ ms)) (last_of m ms)
  chain-front m [] = refl
  chain-front m (k ∷ ms) = ap (λ (r : Matcher). match_con CONS (m ∷ r ∷ [])) (chain-front k ms)

  front-of : {A C : Type 0} (f : A → C) (x : A) (xs : List A) → all_but_last (map f (x ∷ xs)) ≡ map f (all_but_last (x ∷ xs))
  front-of f x [] = refl
  front-of f x (y ∷ ys) = ap (λ zs. f x ∷ zs) (front-of f y ys)

  last-as : {A C : Type 0} (f : A → C) (x : A) (xs : List A) → last_of (f x) (map f xs) ≡ f (last_of x xs)
  last-as f x [] = refl
  last-as f x (y ∷ ys) = last-as f y ys

  each-front : (p : Pattern) (ps : List Pattern) → EachIs (p ∷ ps) → EachIs (all_but_last (p ∷ ps))
  each-front p [] e = tt
  each-front p (q ∷ ps) e = (e.0, each-front q ps e.1)

  each-last : (p : Pattern) (ps : List Pattern) → EachIs (p ∷ ps) → PatternIs own (last_of p ps)
  each-last p [] e = e.0
  each-last p (q ∷ ps) e = each-last q ps e.1

  bound-split : (p : Pattern) (ps : List Pattern) → concat (map bound (all_but_last (p ∷ ps))) ++ bound (last_of p ps) ≡ concat (map bound (p ∷ ps))
  bound-split p [] = sym (append-none (bound p))
  bound-split p (q ∷ ps) =
      append_assoc (bound p) (concat (map bound (all_but_last (q ∷ ps)))) (bound (last_of q ps)) ∙ ap (λ (zs : List ℕ). bound p ++ zs) (bound-split q ps)

  chain-as : (p : Pattern) (ps : List Pattern) (x : ℕ) (h : Continuation) (s : Hand)
      → chain_made (map pattern_made (p ∷ ps)) x h s ≡ tail_made (map pattern_made (all_but_last (p ∷ ps))) (pattern_made (last_of p ps)) x h s
  chain-as p ps x h s =
      ap (λ (ms : List PatternMaking). tail_made ms (last_of (pattern_made p) (map pattern_made ps)) x h s) (front-of pattern_made p ps)
      ∙ ap (λ (m : PatternMaking). tail_made (map pattern_made (all_but_last (p ∷ ps))) m x h s) (last-as pattern_made p ps)

  chain-rises : (ps : List Pattern) → EachIs ps → (x : ℕ) (h : Continuation) (s : Hand) → Rise s.numbers (chain_made (map pattern_made ps) x h s).numbers
  chain-rises [] e x h s = rises-itself s.numbers
  chain-rises (p ∷ ps) e x h s =
      subst (λ (t : Hand). Rise s.numbers t.numbers) (sym (chain-as p ps x h s)) (tail-rises (all_but_last (p ∷ ps)) (last_of p ps) (each-front p ps e) (each-last p ps e) x h s)

  -- a chain of nothing is Wrong, so what is made of it is not asked
  none-matched : (from : ℕ) (h : Continuation) (x : ℕ) (rest : List Stmt) → MatchMade own from from h (match_chain []) [] x rest rest
  none-matched from h x rest = record {
    change = λ vals news onward. onward;
    is = λ vals news. refl;
    by = λ taken free fit fresh. record {
      after = taken;
      leaves = record { at = λ y free apart. free };
      matches = record { by = λ v vals news j d k f scope base store fails go onward env env2 found agrees each. old_wrong j d _ _ 0 refl };
    };
  }

  chain-is : (ps : List Pattern) → EachIs ps → (x : ℕ) (h : Continuation) (s : Hand)
      → MatchMade own s.numbers.variable (chain_made (map pattern_made ps) x h s).numbers.variable h (match_chain (map matching ps)) (concat (map bound ps)) x s.lines (chain_made (map pattern_made ps) x h s).lines
  chain-is [] e x h s = none-matched s.numbers.variable h x s.lines
  chain-is (p ∷ ps) e x h s =
      let front = all_but_last (p ∷ ps) in
      let last = last_of p ps in
      let matcher : match_chain (map matching (p ∷ ps)) ≡ match_front (map matching front) (matching last) =
      chain-front (matching p) (map matching ps)
      ∙ ap (λ (ms : List Matcher). match_front ms (last_of (matching p) (map matching ps))) (front-of matching p ps)
      ∙ ap (λ (m : Matcher). match_front (map matching front) m) (last-as matching p ps) in
      subst (λ (t : Hand). MatchMade own s.numbers.variable t.numbers.variable h (match_chain (map matching (p ∷ ps))) (concat (map bound (p ∷ ps))) x s.lines t.lines) (sym (chain-as p ps x h s))
      (let made = tail_made (map pattern_made front) (pattern_made last) x h s in
      subst (λ (t : Matcher). MatchMade own s.numbers.variable made.numbers.variable h t (concat (map bound (p ∷ ps))) x s.lines made.lines) (sym matcher)
      (subst (λ (zs : List ℕ). MatchMade own s.numbers.variable made.numbers.variable h (match_front (map matching front) (matching last)) zs x s.lines made.lines) (bound-split p ps)
      (tail-is front last (each-front p ps e) (each-last p ps e) x h s)))

  -- ---- a layer of a pattern

  fresh-rises : (m : ℕ → Making) → ((x : ℕ) (h : Continuation) (s : Hand) → Rise s.numbers (m x h s).numbers) → (x i : ℕ) (h : Continuation) (s : Hand) → Rise s.numbers (fresh_part m x i h s).numbers
  fresh-rises m up x i h s =
      let next = hand s.lines (one_variable s.numbers) in
      rises-on s.numbers next.numbers _ (record { variables = omega arith; names = omega arith }) (up s.numbers.variable h next)

  fresh-is : (m : ℕ → Making) (t : Matcher) (xs : List ℕ) → ((x : ℕ) (h : Continuation) (s : Hand) → Rise s.numbers (m x h s).numbers)
      → ((x : ℕ) (h : Continuation) (s : Hand) → MatchMade own s.numbers.variable (m x h s).numbers.variable h t xs x s.lines (m x h s).lines)
      → (x i : ℕ) (h : Continuation) (s : Hand) → PartMade own s.numbers.variable (fresh_part m x i h s).numbers.variable h t xs x i s.lines (fresh_part m x i h s).lines
  fresh-is m t xs up is x i h s =
      let v = s.numbers.variable in
      let next = hand s.lines (one_variable s.numbers) in
      let inner = m v h next in
      fresh-part-made own v inner.numbers.variable h t xs x i s.lines inner.lines (up v h next).variables (is v h next)

  abbrev Layer : Type 0
  Layer = Pattern-F ((x : Pattern) × PatternIs own x)

  abbrev Parted : Type 0
  Parted = List ((x : Pattern) × PatternIs own x)

  each-of : (ps : Parted) → EachIs (map (λ e. e.0) ps)
  each-of [] = tt
  each-of (p ∷ ps) = (p.1, each-of ps)

  rolled : (y : Pattern-F Pattern)
      → MakingIs own (pattern_at (map-Pattern Pattern PatternMaking pattern_made y)) (match_at (map-Pattern Pattern Matcher matching y)) (bound_at (map-Pattern Pattern (List ℕ) bound y))
      → PatternIs own (roll-Pattern y)
  rolled y h =
      let makes = sym (fold-roll-Pattern PatternMaking pattern_at y) in
      let all : MakingIs own (pattern_made (roll-Pattern y)) (matching (roll-Pattern y)) (bound (roll-Pattern y)) =
      subst (λ (m : PatternMaking). MakingIs own m (matching (roll-Pattern y)) (bound (roll-Pattern y))) makes
      (subst (λ (t : Matcher). MakingIs own (pattern_at (map-Pattern Pattern PatternMaking pattern_made y)) t (bound (roll-Pattern y))) (sym (fold-roll-Pattern Matcher match_at y))
      (subst (λ (xs : List ℕ). MakingIs own (pattern_at (map-Pattern Pattern PatternMaking pattern_made y)) (match_at (map-Pattern Pattern Matcher matching y)) xs) (sym (fold-roll-Pattern (List ℕ) bound_at y)) h)) in
      record { rises = all.rises; whole = all.whole; part_rises = all.part_rises; part = all.part }

  -- a pattern that is taken into a fresh variable where it is a part
  whole-then-fresh : (m : ℕ → Making) (t : Matcher) (xs : List ℕ) → ((x : ℕ) (h : Continuation) (s : Hand) → Rise s.numbers (m x h s).numbers)
      → ((x : ℕ) (h : Continuation) (s : Hand) → MatchMade own s.numbers.variable (m x h s).numbers.variable h t xs x s.lines (m x h s).lines)
      → MakingIs own (record { whole = m; part = fresh_part m }) t xs
  whole-then-fresh m t xs up is = record { rises = up; whole = is; part_rises = fresh-rises m up; part = fresh-is m t xs up is }

  layer : (y : Layer) → PatternIs own (roll-Pattern (map-Pattern ((x : Pattern) × PatternIs own x) Pattern (λ e. e.0) y))
  layer Pattern-F.Any = rolled Pattern-F.Any (record {
    rises = λ x h s. rises-itself s.numbers;
    whole = λ x h s. any-made own s.numbers.variable h x s.lines;
    part_rises = λ x i h s. rises-itself s.numbers;
    part = λ x i h s. any-part-made own s.numbers.variable h x i s.lines;
  })
  layer (Pattern-F.Lit l) = rolled (Pattern-F.Lit l) (whole-then-fresh _ _ _ (λ x h s. rises-itself s.numbers)
      (λ x h s. literal-made own s.numbers.variable h l x s.lines (tested (tag.Lit l) x h s).lines (test-is (tag.Lit l) x h s)))
  layer (Pattern-F.Var y) = rolled (Pattern-F.Var y) (record {
    rises = λ x h s. rises-itself s.numbers;
    whole = λ x h s. var-made own s.numbers.variable h x y s.lines;
    part_rises = λ x i h s. rises-itself s.numbers;
    part = λ x i h s. var-part-made own s.numbers.variable h x i y s.lines;
  })
  layer (Pattern-F.Con c ps) =
      let qs = map (λ e. e.0) ps in
      let e = each-of ps in
      rolled (Pattern-F.Con c qs) (whole-then-fresh _ _ _ (λ x h s. parts-rise qs e x 1 h s)
      (λ x h s. let between = parts_made (map pattern_made qs) x 1 h s in
      con-made own s.numbers.variable between.numbers.variable h c (map matching qs) (concat (map bound qs)) x s.lines between.lines (tested (tag.Con c) x h between).lines (parts-are qs e x 1 h s) (test-is (tag.Con c) x h between)))
  layer (Pattern-F.Tuple ps) =
      let qs = map (λ e. e.0) ps in
      let e = each-of ps in
      rolled (Pattern-F.Tuple qs) (whole-then-fresh _ _ _ (λ x h s. parts-rise qs e x 1 h s)
      (λ x h s. let made = parts_made (map pattern_made qs) x 1 h s in
      tuple-made own s.numbers.variable made.numbers.variable h (map matching qs) (concat (map bound qs)) x s.lines made.lines (parts-are qs e x 1 h s)))
  layer (Pattern-F.List ps) =
      let qs = map (λ e. e.0) ps in
      rolled (Pattern-F.List qs) (whole-then-fresh _ _ _ (λ x h s. list-rises qs (each-of ps) x h s) (λ x h s. list-is qs (each-of ps) x h s))
  layer (Pattern-F.Cons ps) =
      let qs = map (λ e. e.0) ps in
      rolled (Pattern-F.Cons qs) (whole-then-fresh _ _ _ (λ x h s. chain-rises qs (each-of ps) x h s) (λ x h s. chain-is qs (each-of ps) x h s))
  layer (Pattern-F.Bind y e) = rolled (Pattern-F.Bind y e.0) (record {
    rises = λ x h s. e.1.rises x h s;
    whole = λ x h s. let inner = (pattern_made e.0).whole x h s in bind-made own s.numbers.variable inner.numbers.variable h (matching e.0) (bound e.0) x y s.lines inner.lines (e.1.whole x h s);
    part_rises = λ x i h s. e.1.rises y h s;
    part = λ x i h s. let inner = (pattern_made e.0).whole y h s in bind-part-made own s.numbers.variable inner.numbers.variable h (matching e.0) (bound e.0) x i y s.lines inner.lines (e.1.whole y h s);
  })

  pub pattern-is : (p : Pattern) → PatternIs own p
  pattern-is = ind-Pattern (PatternIs own) (λ x y is. subst (λ z. PatternIs own (roll-Pattern z)) is (layer y))
