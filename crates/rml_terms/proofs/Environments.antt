-- One variable more: what it changes, and what it leaves.
use Rattle.std.proofs.Common.{◌≡◌, ◌≢◌, ℕ, Bool, true, false, [], ◌∷◌, Option, Some, None, refl, sym, ap, subst, ◌∙◌, eq-eqb}
use Rattle.std.specs.Prelude.{◌==◌, if◌then◌else◌}
use Rattle.std.proofs.lemmas.Bool.{ne_eqb}
use Rattle.rml_value.specs.declared.value.Value.{Value}
use Rattle.rml_terms.specs.Env.{Env, bind, look}

-- the first that is there
abbrev pub or_else : Option Value → Option Value → Option Value
or_else None p = p
or_else (Some v) p = Some v

pub known_kept : (o q : Option Value) (v : Value) → o ≡ Some v → or_else o q ≡ Some v
known_kept o q v e = subst (λ (p : Option Value). or_else p q ≡ Some v) (sym e) refl

pub new_kept : (o q p : Option Value) → o ≡ None → q ≡ p → or_else o q ≡ p
new_kept o q p e d = subst (λ (r : Option Value). or_else r q ≡ p) (sym e) d

-- what was bound first counts
pub look-bind : (x y : ℕ) (v : Value) (env : Env) → look x (bind y v env) ≡ or_else (look x env) (if x == y then Some v else None)
look-bind x y v [] = refl
look-bind x y v (b ∷ env) = in_case (x == b.var) b.value (look x (bind y v env)) (look x env) (if x == y then Some v else None) (look-bind x y v env)
  where
    in_case : (t : Bool) (w : Value) (o p q : Option Value) → o ≡ or_else p q → (if t then Some w else o) ≡ or_else (if t then Some w else p) q
    in_case true w o p q e = refl
    in_case false w o p q e = e

-- what stood for something stands for it still
pub look_kept : (x y : ℕ) (v w : Value) (env : Env) → look x env ≡ Some w → look x (bind y v env) ≡ Some w
look_kept x y v w env e = look-bind x y v env ∙ known_kept (look x env) (if x == y then Some v else None) w e

-- what stood for nothing stands for what is bound to it
pub look_new : (x : ℕ) (v : Value) (env : Env) → look x env ≡ None → look x (bind x v env) ≡ Some v
look_new x v env e = look-bind x x v env ∙ new_kept (look x env) (if x == x then Some v else None) (Some v) e (ap (λ (b : Bool). if b then Some v else None) (eq-eqb x x refl))

-- and others still stand for nothing
pub look_other : (x y : ℕ) (v : Value) (env : Env) → x ≢ y → look x env ≡ None → look x (bind y v env) ≡ None
look_other x y v env d e = look-bind x y v env ∙ new_kept (look x env) (if x == y then Some v else None) None e (ap (λ (b : Bool). if b then Some v else None) (ne_eqb x y d))
