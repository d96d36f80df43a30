-- Patterns and expressions do in clause form what they do in rules: between environments that stand for one another.
use Rattle.std.proofs.Common.{◌≡◌, ℕ, suc, ◌+◌, Bool, true, false, List, [], ◌∷◌, map, length, Option, Some, None, refl, sym, ap, subst, ◌∙◌, IsTrue}
use Rattle.std.specs.Prelude.{◌==◌, if◌then◌else◌, nat_lt, nat_le, slice_get, slice_index_or, option_map, option_and_then, ℤ}
use Rattle.std.specs.List.{list_all}
use Rattle.std.specs.Str.{bytes_eq}
use Rattle.std.specs.Ordering.{int_eq}
use Rattle.std.proofs.lemmas.Bool.{ltb-true}
use Rattle.std.proofs.lemmas.Option.{get_or_from_slice_get}
use Rattle.rml_syntax.specs.declared.token.Lit.{Lit}
use Rattle.rml_syntax.specs.declared.token.Lit.TheVariants as lit
use Rattle.rml_value.specs.declared.value.Value.{Value, out-Value}
use Rattle.rml_value.specs.declared.value.Value.TheOpen.{Value-F}
use Rattle.rml_value.specs.declared.value.Value.TheVariants as value
use Rattle.rml_value.specs.declared.value.TheConstants.{NIL, CONS}
use Rattle.rml_value.specs.Lists.{list_of}
use Rattle.rml_terms.specs.declared.state.Matched.{Matched}
use Rattle.rml_terms.specs.declared.state.Matched.TheVariants as matched
use Rattle.rml_terms.specs.Env.{Env, bind}
use Rattle.rml_terms.specs.Matching.{Matcher, then_match, match_in_turn, match_all, when, match_int, match_char, match_text, match_con_at, match_con, match_tuple_at, match_list, match_chain}
use Rattle.rml_terms.specs.Evaluating.{Evaluation, with_first, all_of, chain_of}
use Rattle.rml_terms.proofs.Callers.{Worth, worth_same, worth_map, worth_then, worth_first}
use Rattle.rml_resolved.specs.declared.parts.Counts.{Counts}
use Rattle.rml_resolved.specs.declared.tables.ConDef.{ConDef}
use Rattle.rml_resolved.specs.declared.trees.RPat.{RPat, map-RPat, roll-RPat, fold-roll-RPat, ind-RPat}
use Rattle.rml_resolved.specs.declared.trees.RPat.TheOpen.{RPat-F}
use Rattle.rml_resolved.specs.declared.trees.RExp.{RExp, map-RExp, roll-RExp, fold-roll-RExp, ind-RExp}
use Rattle.rml_resolved.specs.declared.trees.RExp.TheOpen.{RExp-F}
use Rattle.rml_resolved.specs.Fits as fits
use Rattle.rml_resolved.specs.Fits.{con_fits, lit_fits, pattern_fits, patterns_fit}
use Rattle.rml_resolved.proofs.Callers.{both}
use Rattle.rml_search.specs.Matching as searched
use Rattle.rml_search.specs.Values as searched_values
use Rattle.rml_fol.specs.declared.terms.Pattern.{Pattern, map-Pattern, roll-Pattern, fold-roll-Pattern}
use Rattle.rml_fol.specs.declared.terms.Pattern.TheOpen.{Pattern-F}
use Rattle.rml_fol.specs.declared.terms.Pattern.TheVariants.{rolls-Any, rolls-Lit, rolls-Var, rolls-Con, rolls-Tuple, rolls-List, rolls-Cons, rolls-Bind}
use Rattle.rml_fol.specs.declared.terms.Expression.{Expression, map-Expression, roll-Expression, fold-roll-Expression}
use Rattle.rml_fol.specs.declared.terms.Expression.TheOpen.{Expression-F}
use Rattle.rml_fol.specs.declared.terms.Expression.TheVariants as expression
use Rattle.rml_fol.specs.Patterns.{match_literal, match_at, matching}
use Rattle.rml_fol.specs.Expressions.{Vals, literal_value, value_at, value_of}
use Rattle.rml_clause.specs.Plain.{literal_of, pattern_at, pattern_of, expression_at, expression_of}
use Rattle.rml_clause.proofs.Environments.{Keeps, keeps_all, keeps_more, keeps_bound, Stands, stands_bound}

-- ---- matches

module _ (params vars : ℕ) (more : List ℕ) where
  abbrev Stand : Env → Env → Type 0
  Stand = Stands params vars more

  -- what a match gives to both: environments that stand for one another, or no match; where it is Wrong to the search, anything
  abbrev pub Agrees : Env → Matched → Matched → Type 0
  Agrees new (matched.Yes e) (matched.Yes f) = Stands params vars more e f × Keeps new f
  Agrees new (matched.Yes e) matched.No = ⊥
  Agrees new (matched.Yes e) matched.Wrong = ⊥
  Agrees new matched.No (matched.Yes f) = ⊥
  Agrees new matched.No matched.No = Unit {0}
  Agrees new matched.No matched.Wrong = ⊥
  Agrees new matched.Wrong m = Unit {0}

  abbrev pub Agreeing : Matcher → Matcher → Type 0
  Agreeing m w = (v : Value) (env new : Env) → Stands params vars more env new → Agrees new (m v env) (w v new)

  abbrev pub AllAgreeing : List Matcher → List Matcher → Type 0
  AllAgreeing [] [] = Unit {0}
  AllAgreeing (m ∷ ms) (w ∷ ws) = Agreeing m w × AllAgreeing ms ws
  AllAgreeing [] (w ∷ ws) = ⊥
  AllAgreeing (m ∷ ms) [] = ⊥

  agrees_later : (new next : Env) (m w : Matched) → Keeps new next → Agrees next m w → Agrees new m w
  agrees_later new next (matched.Yes e) (matched.Yes f) k h = (h.0, keeps_more new next f k h.1)
  agrees_later new next (matched.Yes e) matched.No k h = h
  agrees_later new next (matched.Yes e) matched.Wrong k h = h
  agrees_later new next matched.No (matched.Yes f) k h = h
  agrees_later new next matched.No matched.No k h = h
  agrees_later new next matched.No matched.Wrong k h = h
  agrees_later new next matched.Wrong w k h = tt

  then_agrees : (new : Env) (m w : Matched) (go next : Env → Matched) → Agrees new m w → ((e f : Env) → Stand e f → Agrees f (go e) (next f)) → Agrees new (then_match m go) (then_match w next)
  then_agrees new (matched.Yes e) (matched.Yes f) go next h each = agrees_later new f (go e) (next f) h.1 (each e f h.0)
  then_agrees new (matched.Yes e) matched.No go next h each = absurd h
  then_agrees new (matched.Yes e) matched.Wrong go next h each = absurd h
  then_agrees new matched.No (matched.Yes f) go next h each = absurd h
  then_agrees new matched.No matched.No go next h each = tt
  then_agrees new matched.No matched.Wrong go next h each = absurd h
  then_agrees new matched.Wrong w go next h each = tt

  if_agrees : (b : Bool) (new : Env) (m w m' w' : Matched) → Agrees new m w → Agrees new m' w' → Agrees new (if b then m else m') (if b then w else w')
  if_agrees true new m w m' w' h k = h
  if_agrees false new m w m' w' h k = k

  when_agrees : (b : Bool) (env new : Env) → Stand env new → Agrees new (when b env) (when b new)
  when_agrees b env new h = if_agrees b new (matched.Yes env) (matched.Yes new) matched.No matched.No (h, keeps_all new) tt

  turn_agrees : (ms ws : List Matcher) → AllAgreeing ms ws → (vs : List Value) (env new : Env) → Stand env new → Agrees new (match_in_turn ms vs env) (match_in_turn ws vs new)
  turn_agrees [] [] a [] env new h = (h, keeps_all new)
  turn_agrees [] [] a (v ∷ vs) env new h = tt
  turn_agrees (m ∷ ms) (w ∷ ws) a [] env new h = tt
  turn_agrees (m ∷ ms) (w ∷ ws) a (v ∷ vs) env new h =
      then_agrees new (m v env) (w v new) (match_in_turn ms vs) (match_in_turn ws vs) (a.0 v env new h) (λ e f k. turn_agrees ms ws a.1 vs e f k)
  turn_agrees [] (w ∷ ws) a vs env new h = absurd a
  turn_agrees (m ∷ ms) [] a vs env new h = absurd a

  as_many : (ms ws : List Matcher) → AllAgreeing ms ws → length ms ≡ length ws
  as_many [] [] a = refl
  as_many (m ∷ ms) (w ∷ ws) a = ap suc (as_many ms ws a.1)
  as_many [] (w ∷ ws) a = absurd a
  as_many (m ∷ ms) [] a = absurd a

  all_agrees : (ms ws : List Matcher) → AllAgreeing ms ws → (vs : List Value) (env new : Env) → Stand env new → Agrees new (match_all ms vs env) (match_all ws vs new)
  all_agrees ms ws a vs env new h =
      subst (λ (n : ℕ). Agrees new (match_all ms vs env) (if n == length vs then match_in_turn ws vs new else matched.Wrong)) (as_many ms ws a)
      (if_agrees (length ms == length vs) new (match_in_turn ms vs env) (match_in_turn ws vs new) matched.Wrong matched.Wrong (turn_agrees ms ws a vs env new h) tt)

  con_at_agrees : (c : ℕ) (ms ws : List Matcher) → AllAgreeing ms ws → (x : Value-F Value) (env new : Env) → Stand env new → Agrees new (match_con_at c ms x env) (match_con_at c ws x new)
  con_at_agrees c ms ws a (Value-F.Con d vs) env new h = if_agrees (c == d) new (match_all ms vs env) (match_all ws vs new) matched.No matched.No (all_agrees ms ws a vs env new h) tt
  con_at_agrees c ms ws a _ env new h = tt

  con_agrees : (c : ℕ) (ms ws : List Matcher) → AllAgreeing ms ws → Agreeing (match_con c ms) (match_con c ws)
  con_agrees c ms ws a v env new h = con_at_agrees c ms ws a (out-Value v) env new h

  tuple_agrees : (ms ws : List Matcher) → AllAgreeing ms ws → (x : Value-F Value) (env new : Env) → Stand env new → Agrees new (match_tuple_at ms x env) (match_tuple_at ws x new)
  tuple_agrees ms ws a (Value-F.Tuple vs) env new h = all_agrees ms ws a vs env new h
  tuple_agrees ms ws a _ env new h = tt

  list_agrees : (ms ws : List Matcher) → AllAgreeing ms ws → Agreeing (match_list ms) (match_list ws)
  list_agrees [] [] a v env new h = con_agrees NIL [] [] tt v env new h
  list_agrees (m ∷ ms) (w ∷ ws) a v env new h = con_agrees CONS (m ∷ match_list ms ∷ []) (w ∷ match_list ws ∷ []) (a.0, (list_agrees ms ws a.1, tt)) v env new h
  list_agrees [] (w ∷ ws) a v env new h = absurd a
  list_agrees (m ∷ ms) [] a v env new h = absurd a

  chain_agrees : (ms ws : List Matcher) → AllAgreeing ms ws → Agreeing (match_chain ms) (match_chain ws)
  chain_agrees [] [] a v env new h = tt
  chain_agrees (m ∷ []) (w ∷ []) a v env new h = a.0 v env new h
  chain_agrees (m ∷ n ∷ ms) (w ∷ x ∷ ws) a v env new h = con_agrees CONS (m ∷ match_chain (n ∷ ms) ∷ []) (w ∷ match_chain (x ∷ ws) ∷ []) (a.0, (chain_agrees (n ∷ ms) (x ∷ ws) a.1, tt)) v env new h
  chain_agrees [] (w ∷ ws) a v env new h = absurd a
  chain_agrees (m ∷ ms) [] a v env new h = absurd a
  chain_agrees (m ∷ []) (w ∷ x ∷ ws) a v env new h = absurd a.1
  chain_agrees (m ∷ n ∷ ms) (w ∷ []) a v env new h = absurd a.1

  -- ---- literals

  int_agrees : (n : ℤ) (x : Value-F Value) (env new : Env) → Stand env new → Agrees new (match_int n x env) (match_int n x new)
  int_agrees n (Value-F.Int m) env new h = when_agrees (int_eq n m) env new h
  int_agrees n _ env new h = tt

  char_agrees : (c : ℕ) (x : Value-F Value) (env new : Env) → Stand env new → Agrees new (match_char c x env) (match_char c x new)
  char_agrees c (Value-F.Char d) env new h = when_agrees (c == d) env new h
  char_agrees c _ env new h = tt

  text_agrees : (bytes : List ℕ) (x : Value-F Value) (env new : Env) → Stand env new → Agrees new (match_text bytes x env) (match_text bytes x new)
  text_agrees bytes (Value-F.Text t) env new h = when_agrees (bytes_eq bytes t) env new h
  text_agrees bytes _ env new h = tt

  named_agrees : (o : Option (List ℕ)) (bytes : List ℕ) → ((b : List ℕ) → o ≡ Some b → bytes ≡ b) → (x : Value-F Value) (env new : Env) → Stand env new
      → Agrees new (searched.match_named o x env) (match_text bytes x new)
  named_agrees None bytes is x env new h = tt
  named_agrees (Some b) bytes is x env new h = subst (λ (c : List ℕ). Agrees new (match_text c x env) (match_text bytes x new)) (is b refl) (text_agrees bytes x env new h)

  lit_agrees : (names : List (List ℕ)) (l : Lit) (x : Value-F Value) (env new : Env) → Stand env new → Agrees new (searched.match_lit names l x env) (match_literal (literal_of names l) x new)
  lit_agrees names (lit.Int n) x env new h = int_agrees n x env new h
  lit_agrees names (lit.Char c) x env new h = char_agrees c x env new h
  lit_agrees names (lit.Text k) x env new h = named_agrees (slice_get names k) (slice_index_or names k []) (λ b e. get_or_from_slice_get names k b [] e) x env new h

  -- ---- patterns

  module _ (names : List (List ℕ)) (n : Counts) (cons : List ConDef) where
    abbrev made : RPat → Matcher
    made p = matching (pattern_of names params p)

    abbrev PatternAgrees : RPat → Type 0
    PatternAgrees p = IsTrue (pattern_fits n cons vars p) → Agreeing (searched.matching names p) (matching (pattern_of names params p))

    -- a pattern of clause form, a layer deep
    is_pattern : (q : Pattern) (y : Pattern-F Pattern) → q ≡ roll-Pattern y → matching q ≡ match_at (map-Pattern Pattern Matcher matching y)
    is_pattern q y e = ap matching e ∙ fold-roll-Pattern Matcher match_at y

    rolled : (y : RPat-F RPat) (z : Pattern-F Pattern) → pattern_at names params (map-RPat RPat Pattern (pattern_of names params) y) ≡ roll-Pattern z
        → (IsTrue (fits.pattern_at n cons vars (map-RPat RPat Bool (pattern_fits n cons vars) y))
        → Agreeing (searched.match_at names (map-RPat RPat Matcher (searched.matching names) y)) (match_at (map-Pattern Pattern Matcher matching z)))
        → PatternAgrees (roll-RPat y)
    rolled y z e each fit v env new h =
        let fit' : IsTrue (fits.pattern_at n cons vars (map-RPat RPat Bool (pattern_fits n cons vars) y)) = sym (fold-roll-RPat Bool (fits.pattern_at n cons vars) y) ∙ fit in
        let is : matching (pattern_of names params (roll-RPat y)) ≡ match_at (map-Pattern Pattern Matcher matching z) =
        is_pattern (pattern_of names params (roll-RPat y)) z (fold-roll-RPat Pattern (pattern_at names params) y ∙ e) in
        subst (λ (m : Matcher). Agrees new (m v env) (matching (pattern_of names params (roll-RPat y)) v new)) (sym (fold-roll-RPat Matcher (searched.match_at names) y))
        (subst (λ (w : Matcher). Agrees new (searched.match_at names (map-RPat RPat Matcher (searched.matching names) y) v env) (w v new)) (sym is) (each fit' v env new h))

    abbrev Parts : Type 0
    Parts = List ((x : RPat) × PatternAgrees x)

    abbrev patterns : Parts → List Pattern
    patterns es = map (pattern_of names params) (map (λ e. e.0) es)

    abbrev old_parts : Parts → List Matcher
    old_parts es = map (searched.matching names) (map (λ e. e.0) es)

    abbrev new_parts : Parts → List Matcher
    new_parts es = map matching (patterns es)

    abbrev fit_parts : Parts → List Bool
    fit_parts es = map (pattern_fits n cons vars) (map (λ e. e.0) es)

    parts_agree : (es : Parts) → IsTrue (list_all (λ b. b) (fit_parts es)) → AllAgreeing (old_parts es) (new_parts es)
    parts_agree [] fit = tt
    parts_agree (e ∷ es) fit =
        let two = both (pattern_fits n cons vars e.0) (list_all (λ b. b) (fit_parts es)) fit in
        (e.1 two.first, parts_agree es two.second)

    layer : (y : RPat-F ((x : RPat) × PatternAgrees x)) → PatternAgrees (roll-RPat (map-RPat ((x : RPat) × PatternAgrees x) RPat (λ e. e.0) y))
    layer RPat-F.Any = rolled RPat-F.Any Pattern-F.Any (sym rolls-Any) (λ fit v env new h. (h, keeps_all new))
    layer (RPat-F.Lit l) = rolled (RPat-F.Lit l) (Pattern-F.Lit (literal_of names l)) (sym (rolls-Lit (literal_of names l))) (λ fit v env new h. lit_agrees names l (out-Value v) env new h)
    layer (RPat-F.Var x) =
        rolled (RPat-F.Var x) (Pattern-F.Var (params + x)) (sym (rolls-Var (params + x)))
        (λ fit v env new h. (stands_bound params vars x v more env new (ltb-true x vars fit) h, keeps_bound (params + x) v new))
    layer (RPat-F.Con c es) =
        rolled (RPat-F.Con c (map (λ e. e.0) es)) (Pattern-F.Con c (patterns es)) (sym (rolls-Con c (patterns es)))
        (λ fit. con_agrees c (old_parts es) (new_parts es) (parts_agree es (both (con_fits cons c (length (fit_parts es))) (list_all (λ b. b) (fit_parts es)) fit).second))
    layer (RPat-F.Tuple es) =
        rolled (RPat-F.Tuple (map (λ e. e.0) es)) (Pattern-F.Tuple (patterns es)) (sym (rolls-Tuple (patterns es)))
        (λ fit v env new h. tuple_agrees (old_parts es) (new_parts es) (parts_agree es fit) (out-Value v) env new h)
    layer (RPat-F.List es) =
        rolled (RPat-F.List (map (λ e. e.0) es)) (Pattern-F.List (patterns es)) (sym (rolls-List (patterns es)))
        (λ fit. list_agrees (old_parts es) (new_parts es) (parts_agree es fit))
    layer (RPat-F.Cons es) =
        rolled (RPat-F.Cons (map (λ e. e.0) es)) (Pattern-F.Cons (patterns es)) (sym (rolls-Cons (patterns es)))
        (λ fit. chain_agrees (old_parts es) (new_parts es) (parts_agree es (both (nat_le 2 (length (fit_parts es))) (list_all (λ b. b) (fit_parts es)) fit).second))
    layer (RPat-F.Bind x e) =
        rolled (RPat-F.Bind x e.0) (Pattern-F.Bind (params + x) (pattern_of names params e.0)) (sym (rolls-Bind (params + x) (pattern_of names params e.0)))
        (λ fit v env new h. let two = both (nat_lt x vars) (pattern_fits n cons vars e.0) fit in
        agrees_later new (bind (params + x) v new) (searched.matching names e.0 v (bind x v env)) (matching (pattern_of names params e.0) v (bind (params + x) v new)) (keeps_bound (params + x) v new)
        (e.1 two.second v (bind x v env) (bind (params + x) v new) (stands_bound params vars x v more env new (ltb-true x vars two.first) h)))

    pub pattern_agrees : (p : RPat) → PatternAgrees p
    pattern_agrees = ind-RPat PatternAgrees (λ x y is. subst (λ z. PatternAgrees (roll-RPat z)) is (layer y))

-- ---- expressions

named_worth : (names : List (List ℕ)) (k : ℕ) (o : Option (List ℕ)) → slice_get names k ≡ o → Worth (option_map value.Text o) (Some (value.Text (slice_index_or names k [])))
named_worth names k None e = tt
named_worth names k (Some b) e = ap (λ (c : List ℕ). Some (value.Text c)) (get_or_from_slice_get names k b [] e)

lit_worth : (names : List (List ℕ)) (l : Lit) → Worth (searched_values.value_of_lit names l) (Some (literal_value (literal_of names l)))
lit_worth names (lit.Int n) = refl
lit_worth names (lit.Char c) = refl
lit_worth names (lit.Text k) = named_worth names k (slice_get names k) refl

module _ (params vars : ℕ) (names : List (List ℕ)) (old vals : Vals) (agree : (k : ℕ) → Worth (old k) (vals k)) where
  abbrev pub ExpressionWorth : RExp → Type 0
  ExpressionWorth e = (more : List ℕ) (env new : Env) → Stands params vars more env new → Worth (searched_values.meaning names old e env) (value_of vals (expression_of names params e) new)

  exp_rolled : (y : RExp-F RExp) (z : Expression-F Expression) → expression_at names params (map-RExp RExp Expression (expression_of names params) y) ≡ roll-Expression z
      → ((more : List ℕ) (env new : Env) → Stands params vars more env new
      → Worth (searched_values.value_at names old (map-RExp RExp Evaluation (searched_values.meaning names old) y) env) (value_at vals (map-Expression Expression Evaluation (value_of vals) z) new))
      → ExpressionWorth (roll-RExp y)
  exp_rolled y z e each more env new h =
      let is : value_of vals (expression_of names params (roll-RExp y)) ≡ value_at vals (map-Expression Expression Evaluation (value_of vals) z) =
      ap (value_of vals) (fold-roll-RExp Expression (expression_at names params) y ∙ e) ∙ fold-roll-Expression Evaluation (value_at vals) z in
      subst (λ (m : Evaluation). Worth (m env) (value_of vals (expression_of names params (roll-RExp y)) new)) (sym (fold-roll-RExp Evaluation (searched_values.value_at names old) y))
      (subst (λ (m : Evaluation). Worth (searched_values.value_at names old (map-RExp RExp Evaluation (searched_values.meaning names old) y) env) (m new)) (sym is) (each more env new h))

  abbrev ExpParts : Type 0
  ExpParts = List ((x : RExp) × ExpressionWorth x)

  abbrev expressions : ExpParts → List Expression
  expressions es = map (expression_of names params) (map (λ e. e.0) es)

  abbrev old_values : ExpParts → Env → Option (List Value)
  old_values es env = all_of (map (searched_values.meaning names old) (map (λ e. e.0) es)) env

  abbrev new_values : ExpParts → Env → Option (List Value)
  new_values es new = all_of (map (value_of vals) (expressions es)) new

  parts_worth : (es : ExpParts) (more : List ℕ) (env new : Env) → Stands params vars more env new → Worth (old_values es env) (new_values es new)
  parts_worth [] more env new h = refl
  parts_worth (e ∷ es) more env new h =
      worth_first (searched_values.meaning names old e.0 env) (value_of vals (expression_of names params e.0) new) (old_values es env) (new_values es new) (e.1 more env new h) (parts_worth es more env new h)

  exp_layer : (y : RExp-F ((x : RExp) × ExpressionWorth x)) → ExpressionWorth (roll-RExp (map-RExp ((x : RExp) × ExpressionWorth x) RExp (λ e. e.0) y))
  exp_layer (RExp-F.Lit l) = exp_rolled (RExp-F.Lit l) (Expression-F.Lit (literal_of names l)) (sym (expression.rolls-Lit (literal_of names l))) (λ more env new h. lit_worth names l)
  exp_layer (RExp-F.Var x) = exp_rolled (RExp-F.Var x) (Expression-F.Var (params + x)) (sym (expression.rolls-Var (params + x))) (λ more env new h. h.same x)
  exp_layer (RExp-F.Val k) = exp_rolled (RExp-F.Val k) (Expression-F.Val k) (sym (expression.rolls-Val k)) (λ more env new h. agree k)
  exp_layer (RExp-F.Rel r) = exp_rolled (RExp-F.Rel r) (Expression-F.Rel r) (sym (expression.rolls-Rel r)) (λ more env new h. refl)
  exp_layer (RExp-F.Con c es) =
      exp_rolled (RExp-F.Con c (map (λ e. e.0) es)) (Expression-F.Con c (expressions es)) (sym (expression.rolls-Con c (expressions es)))
      (λ more env new h. worth_map (value.Con c) (old_values es env) (new_values es new) (parts_worth es more env new h))
  exp_layer (RExp-F.Tuple es) =
      exp_rolled (RExp-F.Tuple (map (λ e. e.0) es)) (Expression-F.Tuple (expressions es)) (sym (expression.rolls-Tuple (expressions es)))
      (λ more env new h. worth_map value.Tuple (old_values es env) (new_values es new) (parts_worth es more env new h))
  exp_layer (RExp-F.List es) =
      exp_rolled (RExp-F.List (map (λ e. e.0) es)) (Expression-F.List (expressions es)) (sym (expression.rolls-List (expressions es)))
      (λ more env new h. worth_map list_of (old_values es env) (new_values es new) (parts_worth es more env new h))
  exp_layer (RExp-F.Cons es) =
      exp_rolled (RExp-F.Cons (map (λ e. e.0) es)) (Expression-F.Cons (expressions es)) (sym (expression.rolls-Cons (expressions es)))
      (λ more env new h. worth_then chain_of (old_values es env) (new_values es new) (parts_worth es more env new h))

  pub expression_worth : (e : RExp) → ExpressionWorth e
  expression_worth = ind-RExp ExpressionWorth (λ x y is. subst (λ z. ExpressionWorth (roll-RExp z)) is (exp_layer y))
