-- Patterns, one lemma a kind.
use Rattle.std.proofs.Common.{◌≡◌, ℕ, suc, ◌+◌, ◌≤◌, Bool, true, false, List, [], ◌∷◌, length, Option, Some, None, refl, sym, ap, subst, ◌∙◌, arith}
use Rattle.std.specs.Prelude.{◌==◌, if◌then◌else◌, option_and_then, slice_get}
use Rattle.std.specs.Str.{bytes_eq}
use Rattle.std.specs.Ordering.{int_eq}
use Rattle.rml_base.specs.Run.{Rest, Wrong, bare, step}
use Rattle.rml_simulation.specs.declared.partial.Partial.{Partial}
use Rattle.rml_simulation.specs.declared.partial.Partial.TheVariants.{No}
use Rattle.rml_simulation.specs.Partial.{untraced, followed}
use Rattle.rml_simulation.specs.Simulates.{Credit, Simulates}
use Rattle.rml_simulation.specs.Moves.{more_weighed}
use Rattle.rml_simulation.proofs.Callers.{equal, new_weigh, old_wrong, weaken}
use Rattle.rml_value.specs.declared.value.Value.{Value, out-Value}
use Rattle.rml_value.specs.declared.value.Value.TheOpen.{Value-F}
use Rattle.rml_builtin.specs.Applied.{Store}
use Rattle.rml_terms.specs.declared.state.Matched.{Matched}
use Rattle.rml_terms.specs.declared.state.Matched.TheVariants as matched
use Rattle.rml_terms.specs.Env.{Env, bind, look}
use Rattle.rml_terms.specs.Matching.{Matcher, then_match, match_in_turn, match_all, when, match_con_at, match_con, match_tuple_at}
use Rattle.rml_terms.specs.Evaluating.{Evaluation}
use Rattle.rml_terms.specs.Calling.{with_value}
use Rattle.rml_terms.proofs.Callers.{look_kept, look_new}
use Rattle.rml_fol.specs.declared.terms.Literal.{Literal}
use Rattle.rml_fol.specs.declared.terms.Literal.TheVariants as literal
use Rattle.rml_fol.specs.declared.terms.Expression.{fold-roll-Expression}
use Rattle.rml_fol.specs.declared.terms.Expression.TheOpen.{Expression-F}
use Rattle.rml_fol.specs.declared.terms.Expression.TheVariants as expression
use Rattle.rml_fol.specs.declared.statements.Tag.TheVariants as tag
use Rattle.rml_fol.specs.Expressions.{Vals, value_at, value_of, cells_of}
use Rattle.rml_fol.specs.declared.terms.Pattern.{Pattern}
use Rattle.rml_fol.specs.declared.statements.Stmt.TheOpen.{Stmt-F as Clause-F}
use Rattle.rml_fol.specs.Weights as clause
use Rattle.rml_fol.specs.Patterns.{match_literal, matching, binds}
use Rattle.rml_fol.specs.Statements.{Given, from_match, is_of_kind, has_tag}
use Rattle.rml_cps.specs.declared.statements.Continuation.{Continuation}
use Rattle.rml_cps.specs.Weights.{set_weight_at, set_weight}
use Rattle.rml_cps.specs.Statements.{RelationActs, Scope, Doing, with_known, fails_to, argument_at, argument_of}
use Rattle.rml_tocps.specs.Carries.{Agrees, take, Fails, Carries}
use Rattle.rml_tocps.specs.Pass.{New, old_stmt, both_new, new_set}
use Rattle.rml_tocps.specs.Matches.{Extends, MatchGoes, Matches, new_test, PartOf, PartMatches, EachPart, parts_taken, new_parts, matchers, new_field}
use Rattle.rml_tocps.proofs.Environments.{bind_agrees, extra_agrees}
use Rattle.rml_tocps.proofs.Cases.{AreArguments, next_arguments}
use Rattle.rml_tocps.proofs.Moves.{fails_richer, old_weight, both_fail}

itself : (env : Env) → Extends env env
itself env = record { at = λ y w e. e }

one_more : (env : Env) (x : ℕ) (v : Value) → Extends env (bind x v env)
one_more env x v = record { at = λ y w e. look_kept y x v w env e }

then_more : (a b c : Env) → Extends a b → Extends b c → Extends a c
then_more a b c h k = record { at = λ y w e. k.at y w (h.at y w e) }

-- a failure, with whatever there is to spare
fail_here : (j : ℕ) (d : Credit) (k : Given → Rest) (f : Rest) (scope : Scope) (h : Continuation) → Fails j d f scope h → Simulates j d (λ n. followed (No untraced n) k (step f)) (fails_to (scope.failure h))
fail_here j d k f scope h u = weaken j j (more_weighed 0 d) d _ _ (omega arith) (record { steps = omega arith; made = omega arith; weighed = omega arith }) (both_fail j d 0 k f scope h u)

-- `_`
pub any_matches : (h : Continuation) (p : ℕ → Bool) (x : ℕ) → Matches h p p (λ v env. matched.Yes env) x (λ vals news onward. onward)
any_matches h p x = record {
  by = λ v vals news j d k f scope base store fails go onward env env' found agrees each. each env env' agrees (itself env');
}

-- ---- variables

no_weight : (x : ℕ) → set_weight (expression.Var x) ≡ 0
no_weight x = ap (λ y. set_weight_at y (cells_of (expression.Var x))) (expression.outs-Var x)

var_value : (vals : Vals) (x : ℕ) (env : Env) → value_of vals (expression.Var x) env ≡ look x env
var_value vals x env = ap (λ e. value_of vals e env) (sym (expression.rolls-Var x)) ∙ ap (λ (w : Evaluation). w env) (fold-roll-Expression Evaluation (value_at vals) (Expression-F.Var x))

-- the line by which a variable stands for what x stands for
set_goes : (vals : Vals) (news : RelationActs) (j : ℕ) (d : Credit) (g : Rest) (scope : Scope) (store : Store) (x y : ℕ) (v : Value) (env' : Env) (onward : Doing) → look x env' ≡ Some v
    → Simulates j d g (onward scope (bind y v env') store) → Simulates j d g (new_set y (expression.Var x) vals news onward scope env' store)
set_goes vals news j d g scope store x y v env' onward found u =
    let light : set_weight (expression.Var x) ≡ 0 = no_weight x in
    new_weigh j d (set_weight (expression.Var x)) g (with_known (value_of vals (expression.Var x) env') (λ w. onward scope (bind y w env') store)) (omega (arith, light))
    (weaken j j d _ g _ (omega arith) (record { steps = omega arith; made = omega arith; weighed = omega (arith, light) })
    (subst (λ (o : Option Value). Simulates j d g (with_known o (λ w. onward scope (bind y w env') store))) (sym (var_value vals x env' ∙ found)) u))

-- a variable, and one with `as` before a pattern
pub var_matches : (h : Continuation) (p : ℕ → Bool) (x y : ℕ) → p y ≡ false → Matches h p (take y p) (λ v env. matched.Yes (bind y v env)) x (new_set y (expression.Var x))
var_matches h p x y fresh = record {
  by = λ v vals news j d k f scope base store fails go onward env env' found agrees each.
      set_goes vals news j d (λ n. followed (go (bind y v env) n) k (step f)) scope store x y v env' onward found
      (each (bind y v env) (bind y v env') (bind_agrees p base env env' y v fresh agrees) (one_more env' y v));
}

pub bind_matches : (h : Continuation) (p q : ℕ → Bool) (m : Matcher) (x y : ℕ) (new : New) → p y ≡ false → Matches h (take y p) q m x new
    → Matches h p q (λ v env. m v (bind y v env)) x (both_new (new_set y (expression.Var x)) new)
bind_matches h p q m x y new fresh inner = record {
  by = λ v vals news j d k f scope base store fails go onward env env' found agrees each.
      set_goes vals news j d (λ n. followed (from_match (m v (bind y v env)) go n) k (step f)) scope store x y v env' (new vals news onward) found
      (inner.by v vals news j d k f scope base store fails go onward (bind y v env) (bind y v env') (look_kept x y v v env' found) (bind_agrees p base env env' y v fresh agrees)
      (λ e e' ag more. each e e' ag (then_more env' (bind y v env') e' (one_more env' y v) more)));
}

-- ---- tests

-- where a test comes out alike
when_goes : (j : ℕ) (d : Credit) (k : Given → Rest) (f : Rest) (scope : Scope) (h : Continuation) (env : Env) (go : Env → ℕ → Partial Given) (g : Rest) (b : Bool) → Fails j d f scope h
    → Simulates j d (λ n. followed (go env n) k (step f)) g → Simulates j d (λ n. followed (from_match (when b env) go n) k (step f)) (λ n. if b then g n else fails_to (scope.failure h) n)
when_goes j d k f scope h env go g true fails u = u
when_goes j d k f scope h env go g false fails u = fail_here j d k f scope h fails

literal_goes : (j : ℕ) (d : Credit) (k : Given → Rest) (f : Rest) (scope : Scope) (h : Continuation) (env : Env) (go : Env → ℕ → Partial Given) (g : Rest) → Fails j d f scope h
    → Simulates j d (λ n. followed (go env n) k (step f)) g → (l : Literal) (y : Value-F Value)
    → Simulates j d (λ n. followed (from_match (match_literal l y env) go n) k (step f)) (λ n. if is_of_kind (tag.Lit l) y then (if has_tag (tag.Lit l) y then g n else fails_to (scope.failure h) n) else bare Wrong)
literal_goes j d k f scope h env go g fails u (literal.Int n) (Value-F.Int m) = when_goes j d k f scope h env go g (int_eq n m) fails u
literal_goes j d k f scope h env go g fails u (literal.Char c) (Value-F.Char e) = when_goes j d k f scope h env go g (c == e) fails u
literal_goes j d k f scope h env go g fails u (literal.Text bytes) (Value-F.Text t) = when_goes j d k f scope h env go g (bytes_eq bytes t) fails u
literal_goes j d k f scope h env go g fails u _ _ = old_wrong j d _ _ 0 refl

pub literal_matches : (h : Continuation) (p : ℕ → Bool) (l : Literal) (x : ℕ) → Matches h p p (λ v env. match_literal l (out-Value v) env) x (new_test (tag.Lit l) x h)
literal_matches h p l x = record {
  by = λ v vals news j d k f scope base store fails go onward env env' found agrees each.
      subst (λ (o : Option Value). Simulates j d (λ n. followed (from_match (match_literal l (out-Value v) env) go n) k (step f))
      (with_known o (λ w n. if is_of_kind (tag.Lit l) (out-Value w) then (if has_tag (tag.Lit l) (out-Value w) then onward scope env' store n else fails_to (scope.failure h) n) else bare Wrong))) (sym found)
      (literal_goes j d k f scope h env go (onward scope env' store) fails (each env env' agrees (itself env')) l (out-Value v));
}

-- ---- parts

-- the line by which a variable stands for an argument
field_goes : (vals : Vals) (news : RelationActs) (j : ℕ) (d : Credit) (g : Rest) (scope : Scope) (store : Store) (x y i : ℕ) (v w : Value) (env' : Env) (onward : Doing) → look x env' ≡ Some v → argument_of i v ≡ Some w
    → Simulates j d g (onward scope (bind y w env') store) → Simulates j d g (new_field y x i vals news onward scope env' store)
field_goes vals news j d g scope store x y i v w env' onward found there u =
    subst (λ (o : Option Value). Simulates j d g (with_known o (λ w. onward scope (bind y w env') store))) (sym (ap (option_and_then (argument_of i)) found ∙ there)) u

pub any_part : (h : Continuation) (p : ℕ → Bool) (x i : ℕ) → PartMatches h p x i (record { matcher = λ v env. matched.Yes env; new = λ vals news onward. onward; taken = p })
any_part h p x i = record {
  by = λ v w there vals news j d k f scope base store fails go onward env env' found agrees each. each env env' agrees (itself env');
}

pub var_part : (h : Continuation) (p : ℕ → Bool) (x i y : ℕ) → p y ≡ false → PartMatches h p x i (record { matcher = λ v env. matched.Yes (bind y v env); new = new_field y x i; taken = take y p })
var_part h p x i y fresh = record {
  by = λ v w there vals news j d k f scope base store fails go onward env env' found agrees each.
      field_goes vals news j d (λ n. followed (go (bind y w env) n) k (step f)) scope store x y i v w env' onward found there
      (each (bind y w env) (bind y w env') (bind_agrees p base env env' y w fresh agrees) (one_more env' y w));
}

pub bind_part : (h : Continuation) (p q : ℕ → Bool) (m : Matcher) (x i y : ℕ) (new : New) → p y ≡ false → Matches h (take y p) q m y new
    → PartMatches h p x i (record { matcher = λ v env. m v (bind y v env); new = both_new (new_field y x i) new; taken = q })
bind_part h p q m x i y new fresh inner = record {
  by = λ v w there vals news j d k f scope base store fails go onward env env' found agrees each.
      field_goes vals news j d (λ n. followed (from_match (m w (bind y w env)) go n) k (step f)) scope store x y i v w env' (new vals news onward) found there
      (inner.by w vals news j d k f scope base store fails go onward (bind y w env) (bind y w env') (look_new y w env' (agrees.new y fresh)) (bind_agrees p base env env' y w fresh agrees)
      (λ e e' ag more. each e e' ag (then_more env' (bind y w env') e' (one_more env' y w) more)));
}

-- a variable of continuation form alone
pub fresh_part : (h : Continuation) (p q : ℕ → Bool) (m : Matcher) (x i y : ℕ) (new : New) → p y ≡ false → Matches h (take y p) q m y new
    → PartMatches h p x i (record { matcher = m; new = both_new (new_field y x i) new; taken = q })
fresh_part h p q m x i y new fresh inner = record {
  by = λ v w there vals news j d k f scope base store fails go onward env env' found agrees each.
      field_goes vals news j d (λ n. followed (from_match (m w env) go n) k (step f)) scope store x y i v w env' (new vals news onward) found there
      (inner.by w vals news j d k f scope base store fails go onward env (bind y w env') (look_new y w env' (agrees.new y fresh)) (extra_agrees p base env env' y w fresh agrees)
      (λ e e' ag more. each e e' ag (then_more env' (bind y w env') e' (one_more env' y w) more)));
}

from_then : (m : Matched) (rest : Env → Matched) (go : Env → ℕ → Partial Given) (n : ℕ) → from_match m (λ e. from_match (rest e) go) n ≡ from_match (then_match m rest) go n
from_then (matched.Yes e) rest go n = refl
from_then matched.No rest go n = refl
from_then matched.Wrong rest go n = refl

module _ (h : Continuation) (vals : Vals) (news : RelationActs) (j : ℕ) (d : Credit) (k : Given → Rest) (f : Rest) (scope : Scope) (base : Env) (store : Store) (fails : Fails j d f scope h)
    (go : Env → ℕ → Partial Given) (onward : Doing) (x : ℕ) (v : Value) where
  parts_go : (parts : List PartOf) (vs : List Value) (from : ℕ) (p : ℕ → Bool) (env env' : Env) → AreArguments v from vs → EachPart h p x (suc from) parts → look x env' ≡ Some v → Agrees p base env env'
      → ((e e' : Env) → Agrees (parts_taken p parts) base e e' → Extends env' e' → Simulates j d (λ n. followed (go e n) k (step f)) (onward scope e' store))
      → Simulates j d (λ n. followed (from_match (match_in_turn (matchers parts) vs env) go n) k (step f)) (new_parts parts vals news onward scope env' store)
  parts_go [] [] from p env env' args each found agrees next = next env env' agrees (itself env')
  parts_go [] (w ∷ ws) from p env env' args each found agrees next = old_wrong j d _ _ 0 refl
  parts_go (a ∷ rest) [] from p env env' args each found agrees next = old_wrong j d _ _ 0 refl
  parts_go (a ∷ rest) (w ∷ ws) from p env env' args each found agrees next =
      let e : from + 0 ≡ from = omega arith in
      let there : argument_of (suc from) v ≡ Some w = subst (λ (n : ℕ). argument_of (suc n) v ≡ Some w) e (args.at 0 (omega arith)) in
      let onto : Env → ℕ → Partial Given = λ e. from_match (match_in_turn (matchers rest) ws e) go in
      equal j d (λ n. followed (from_match (a.matcher w env) onto n) k (step f)) _ _ _ (λ n. ap (λ u. followed u k (step f)) (from_then (a.matcher w env) (match_in_turn (matchers rest) ws) go n)) (λ m le. refl)
      (each.0.by v w there vals news j d k f scope base store fails onto (new_parts rest vals news onward) env env' found agrees
      (λ e e' ag more. parts_go rest ws (suc from) a.taken e e' (next_arguments v w from ws args) each.1 (more.at x v found) ag
      (λ b b' ag' more'. next b b' ag' (then_more env' e' b' more more'))))

  all_go : (b : Bool) (parts : List PartOf) (vs : List Value) (env : Env) (g : Rest) → Simulates j d (λ n. followed (from_match (match_in_turn (matchers parts) vs env) go n) k (step f)) g
      → Simulates j d (λ n. followed (from_match (if b then match_in_turn (matchers parts) vs env else matched.Wrong) go n) k (step f)) g
  all_go true parts vs env g u = u
  all_go false parts vs env g u = old_wrong j d _ g 0 refl

  con_go : (c e : ℕ) (b : Bool) (parts : List PartOf) (vs : List Value) (env : Env) (g : Rest) → Simulates j d (λ n. followed (from_match (match_all (matchers parts) vs env) go n) k (step f)) g
      → Simulates j d (λ n. followed (from_match (if b then match_all (matchers parts) vs env else matched.No) go n) k (step f)) (λ n. if b then g n else fails_to (scope.failure h) n)
  con_go c e true parts vs env g u = u
  con_go c e false parts vs env g u = fail_here j d k f scope h fails

-- the arguments of a block
block_arguments : (v : Value) (y : Value-F Value) (vs : List Value) → out-Value v ≡ y → ((i : ℕ) → argument_at (suc i) y ≡ slice_get vs i) → AreArguments v 0 vs
block_arguments v y vs e is = record {
  at = λ i lt. let z : 0 + i ≡ i = omega arith in subst (λ (n : ℕ). argument_of (suc n) v ≡ slice_get vs i) (sym z) (ap (argument_at (suc i)) e ∙ is i);
}

pub tuple_matches : (h : Continuation) (p : ℕ → Bool) (x : ℕ) (parts : List PartOf) → EachPart h p x 1 parts
    → Matches h p (parts_taken p parts) (λ v env. match_tuple_at (matchers parts) (out-Value v) env) x (new_parts parts)
tuple_matches h p x parts each = record {
  by = λ v vals news j d k f scope base store fails go onward env env' found agrees next. at_kind v (out-Value v) refl vals news j d k f scope base store fails go onward env env' found agrees next;
}
  where
    at_kind : (v : Value) (y : Value-F Value) → out-Value v ≡ y → MatchGoes h p (parts_taken p parts) (λ v env. match_tuple_at (matchers parts) y env) (new_parts parts) v (λ env. look x env ≡ Some v)
    at_kind v (Value-F.Tuple vs) e vals news j d k f scope base store fails go onward env env' found agrees next =
        all_go h vals news j d k f scope base store fails go onward x v (length (matchers parts) == length vs) parts vs env (new_parts parts vals news onward scope env' store)
        (parts_go h vals news j d k f scope base store fails go onward x v parts vs 0 p env env' (block_arguments v (Value-F.Tuple vs) vs e (λ i. refl)) each found agrees next)
    at_kind v _ e vals news j d k f scope base store fails go onward env env' found agrees next = old_wrong j d _ _ 0 refl

pub con_matches : (h : Continuation) (p : ℕ → Bool) (x c : ℕ) (parts : List PartOf) → EachPart h p x 1 parts
    → Matches h p (parts_taken p parts) (match_con c (matchers parts)) x (both_new (new_test (tag.Con c) x h) (new_parts parts))
con_matches h p x c parts each = record {
  by = λ v vals news j d k f scope base store fails go onward env env' found agrees next.
      subst (λ (o : Option Value). Simulates j d (λ n. followed (from_match (match_con_at c (matchers parts) (out-Value v) env) go n) k (step f))
      (with_known o (λ w n. if is_of_kind (tag.Con c) (out-Value w) then (if has_tag (tag.Con c) (out-Value w) then new_parts parts vals news onward scope env' store n else fails_to (scope.failure h) n) else bare Wrong))) (sym found)
      (at_kind v (out-Value v) refl vals news j d k f scope base store fails go onward env env' found agrees next);
}
  where
    at_kind : (v : Value) (y : Value-F Value) → out-Value v ≡ y → (vals : Vals) (news : RelationActs) (j : ℕ) (d : Credit) (k : Given → Rest) (f : Rest) (scope : Scope) (base : Env) (store : Store) → Fails j d f scope h
        → (go : Env → ℕ → Partial Given) (onward : Doing) (env env' : Env) → look x env' ≡ Some v → Agrees p base env env'
        → ((e e' : Env) → Agrees (parts_taken p parts) base e e' → Extends env' e' → Simulates j d (λ n. followed (go e n) k (step f)) (onward scope e' store))
        → Simulates j d (λ n. followed (from_match (match_con_at c (matchers parts) y env) go n) k (step f))
        (λ n. if is_of_kind (tag.Con c) y then (if has_tag (tag.Con c) y then new_parts parts vals news onward scope env' store n else fails_to (scope.failure h) n) else bare Wrong)
    at_kind v (Value-F.Con e vs) is vals news j d k f scope base store fails go onward env env' found agrees next =
        con_go h vals news j d k f scope base store fails go onward x v c e (c == e) parts vs env (new_parts parts vals news onward scope env' store)
        (all_go h vals news j d k f scope base store fails go onward x v (length (matchers parts) == length vs) parts vs env (new_parts parts vals news onward scope env' store)
        (parts_go h vals news j d k f scope base store fails go onward x v parts vs 0 p env env' (block_arguments v (Value-F.Con e vs) vs is (λ i. refl)) each found agrees next))
    at_kind v _ is vals news j d k f scope base store fails go onward env env' found agrees next = old_wrong j d _ _ 0 refl

-- ---- a `match`

pub match_carries : (h : Continuation) (s t : ℕ) (p q : ℕ → Bool) (x : ℕ) (pattern : Pattern) (new : New) → t ≤ clause.match_weight (binds pattern) + s → Matches h p q (matching pattern) x new
    → Carries h s p t q (old_stmt (Clause-F.Match x pattern)) new
match_carries h s t p q x pattern new le inner = record {
  by = λ vals olds news i below j ij c k f bodies scope base fails rest onward goes env env' store agrees.
      old_weight j c k (step f) s (clause.match_weight (binds pattern)) t (with_value (look x env) (λ v m. from_match (matching pattern v env) (λ e. rest bodies e store) m)) (new vals news onward scope env' store) le
      (looked j (more_weighed t c) k (step f) (look x env) (λ v. from_match (matching pattern v env) (λ e. rest bodies e store)) (new vals news onward scope env' store)
      (λ v e. inner.by v vals news j (more_weighed t c) k f scope base store (fails_richer j c t f scope h fails) (λ e. rest bodies e store) onward env env' (agrees.looks x v e) agrees
      (λ e e' ag more. goes j (omega arith) e e' store ag)));
}
  where
    looked : (i : ℕ) (d : Credit) (k : Given → Rest) (f : Rest) (o : Option Value) (go : Value → ℕ → Partial Given) (g : Rest) → ((v : Value) → o ≡ Some v → Simulates i d (λ n. followed (go v n) k f) g)
        → Simulates i d (λ n. followed (with_value o go n) k f) g
    looked i d k f None go g each = old_wrong i d _ g 0 refl
    looked i d k f (Some v) go g each = each v refl
