-- What variables stand for in both forms: what is found stays found as more is bound, and expressions are worth the same.
use Rattle.std.proofs.Common.{◌≡◌, ℕ, Bool, true, false, List, [], ◌∷◌, map, Option, Some, None, refl, sym, subst, ◌∙◌}
use Rattle.std.specs.Prelude.{◌==◌, if◌then◌else◌}
use Rattle.std.proofs.lemmas.Bool.{eqb-true}
use Rattle.rml_value.specs.declared.value.Value.{Value}
use Rattle.rml_value.specs.declared.value.Value.TheVariants as value
use Rattle.rml_value.specs.Lists.{list_of}
use Rattle.rml_terms.specs.Env.{Env, bind, look, values_in}
use Rattle.rml_terms.specs.Evaluating.{Evaluation, all_of, chain_of}
use Rattle.rml_terms.specs.Calling.{relation_in}
use Rattle.rml_terms.proofs.Callers.{Worth, or_else, known_kept, new_kept, look-bind, worth_self, worth_from, worth_map, worth_then, worth_first}
use Rattle.rml_fol.specs.declared.terms.Expression.{Expression, map-Expression, roll-Expression, fold-roll-Expression, ind-Expression}
use Rattle.rml_fol.specs.declared.terms.Expression.TheOpen.{Expression-F}
use Rattle.rml_fol.specs.declared.statements.Callee.{Callee}
use Rattle.rml_fol.specs.declared.statements.Callee.TheVariants as callee
use Rattle.rml_fol.specs.Expressions.{Vals, value_at, value_of}
use Rattle.rml_fol.specs.Statements.{bindings_of, values_of, bind_all, relation_of}
use Rattle.rml_tocps.specs.Carries.{Agrees, take, take_all, AreNew}

-- ---- one variable more

found_case : (o o' : Option Value) (t : Bool) (v w : Value) → ((u : Value) → o ≡ Some u → o' ≡ Some u) → (t ≡ true → o' ≡ None)
    → or_else o (if t then Some v else None) ≡ Some w → or_else o' (if t then Some v else None) ≡ Some w
found_case (Some u) o' t v w old fresh e = known_kept o' (if t then Some v else None) w (old u refl ∙ e)
found_case None o' true v w old fresh e = new_kept o' (Some v) (Some w) (fresh refl) e
found_case None o' false v w old fresh e = absurd (cc)

new_case : (t b : Bool) (o : Option Value) (v : Value) → (b ≡ false → o ≡ None) → (if t then true else b) ≡ false → or_else o (if t then Some v else None) ≡ None
new_case true b o v none e = absurd (cc)
new_case false b o v none e = new_kept o None None (none e) refl

module _ (taken : ℕ → Bool) (base env env' : Env) (x : ℕ) (v : Value) (fresh : taken x ≡ false) (h : Agrees taken base env env') where
  none_at : (y : ℕ) → (y == x) ≡ true → look y env' ≡ None
  none_at y e = subst (λ (z : ℕ). look z env' ≡ None) (sym (eqb-true y x e)) (h.new x fresh)

  new_there : (y : ℕ) → take x taken y ≡ false → look y (bind x v env') ≡ None
  new_there y e = look-bind y x v env' ∙ new_case (y == x) (taken y) (look y env') v (h.new y) e

  -- both bind a new variable to the same
  pub bind_agrees : Agrees (take x taken) base (bind x v env) (bind x v env')
  bind_agrees = record {
    keeps = λ y w e. look-bind y x v env ∙ known_kept (look y env) (if y == x then Some v else None) w (h.keeps y w e);
    looks = λ y w e. look-bind y x v env' ∙ found_case (look y env) (look y env') (y == x) v w (h.looks y) (none_at y) (sym (look-bind y x v env) ∙ e);
    new = new_there;
  }

  -- a variable of continuation form alone
  pub extra_agrees : Agrees (take x taken) base env (bind x v env')
  extra_agrees = record {
    keeps = h.keeps;
    looks = λ y w e. look-bind y x v env' ∙ known_kept (look y env') (if y == x then Some v else None) w (h.looks y w e);
    new = new_there;
  }

-- ---- values where there are values

module _ (taken : ℕ → Bool) (base env env' : Env) (h : Agrees taken base env env') where
  pub look_worth : (x : ℕ) → Worth (look x env) (look x env')
  look_worth x = worth_from (look x env) (look x env') (h.looks x)

  pub bindings_worth : (xs : List ℕ) → Worth (bindings_of xs env) (bindings_of xs env')
  bindings_worth [] = refl
  bindings_worth (x ∷ xs) = worth_first _ _ _ _ (worth_map _ (look x env) (look x env') (look_worth x)) (bindings_worth xs)

  pub values_worth : (xs : List ℕ) → Worth (values_of xs env) (values_of xs env')
  values_worth xs = worth_map values_in (bindings_of xs env) (bindings_of xs env') (bindings_worth xs)

  pub relation_worth : (f : Callee) → Worth (relation_of f env) (relation_of f env')
  relation_worth (callee.Rel r) = refl
  relation_worth (callee.Var x) = worth_then relation_in (look x env) (look x env') (look_worth x)

  module _ (vals : Vals) where
    abbrev IsWorth : Expression → Type 0
    IsWorth e = Worth (value_of vals e env) (value_of vals e env')

    rolled : (y : Expression-F Expression) → Worth (value_at vals (map-Expression Expression Evaluation (value_of vals) y) env) (value_at vals (map-Expression Expression Evaluation (value_of vals) y) env')
        → IsWorth (roll-Expression y)
    rolled y w = subst (λ (m : Evaluation). Worth (m env) (m env')) (sym (fold-roll-Expression Evaluation (value_at vals) y)) w

    abbrev Parts : Type 0
    Parts = List ((x : Expression) × IsWorth x)

    all_worth : (ps : Parts) → Worth (all_of (map (value_of vals) (map (λ e. e.0) ps)) env) (all_of (map (value_of vals) (map (λ e. e.0) ps)) env')
    all_worth [] = refl
    all_worth (p ∷ ps) = worth_first _ _ _ _ p.1 (all_worth ps)

    layer_worth : (y : Expression-F ((x : Expression) × IsWorth x)) → IsWorth (roll-Expression (map-Expression ((x : Expression) × IsWorth x) Expression (λ e. e.0) y))
    layer_worth (Expression-F.Lit l) = rolled (Expression-F.Lit l) refl
    layer_worth (Expression-F.Var x) = rolled (Expression-F.Var x) (look_worth x)
    layer_worth (Expression-F.Val k) = rolled (Expression-F.Val k) (worth_self (vals k))
    layer_worth (Expression-F.Rel r) = rolled (Expression-F.Rel r) refl
    layer_worth (Expression-F.Con c ps) = rolled (Expression-F.Con c (map (λ e. e.0) ps)) (worth_map (value.Con c) _ _ (all_worth ps))
    layer_worth (Expression-F.Tuple ps) = rolled (Expression-F.Tuple (map (λ e. e.0) ps)) (worth_map value.Tuple _ _ (all_worth ps))
    layer_worth (Expression-F.List ps) = rolled (Expression-F.List (map (λ e. e.0) ps)) (worth_map list_of _ _ (all_worth ps))
    layer_worth (Expression-F.Cons ps) = rolled (Expression-F.Cons (map (λ e. e.0) ps)) (worth_then chain_of _ _ (all_worth ps))

    pub expression_worth : (e : Expression) → Worth (value_of vals e env) (value_of vals e env')
    expression_worth = ind-Expression IsWorth (λ x y is. subst (λ z. IsWorth (roll-Expression z)) is (layer_worth y))

-- ---- several variables more

-- where the first are bound, the second are, and they agree
abbrev pub BothBound : (ℕ → Bool) → Env → Option Env → Option Env → Type 0
BothBound taken base None o = Unit {0}
BothBound taken base (Some env) None = ⊥
BothBound taken base (Some env) (Some env') = Agrees taken base env env'

pub bind_all_agrees : (xs : List ℕ) (vs : List Value) (taken : ℕ → Bool) (base env env' : Env) → AreNew xs taken → Agrees taken base env env'
    → BothBound (take_all xs taken) base (bind_all xs vs env) (bind_all xs vs env')
bind_all_agrees [] [] taken base env env' fresh h = h
bind_all_agrees [] (v ∷ vs) taken base env env' fresh h = tt
bind_all_agrees (x ∷ xs) [] taken base env env' fresh h = tt
bind_all_agrees (x ∷ xs) (v ∷ vs) taken base env env' fresh h =
    bind_all_agrees xs vs (take x taken) base (bind x v env) (bind x v env') fresh.1 (bind_agrees taken base env env' x v fresh.0 h)
