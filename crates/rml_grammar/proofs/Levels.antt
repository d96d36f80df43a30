-- Readings level by level: at each number of brackets, by what is read one bracket further in.
use Rattle.std.proofs.Common.{◌≡◌, ℕ, zero, suc, List, [], ◌∷◌, refl, Some, None, Ok}
use Rattle.rml_syntax.specs.declared.token.Spot.{Spot}
use Rattle.rml_grammar.specs.Goals.{goals_at, goal_at}
use Rattle.rml_grammar.specs.Patterns.{pat_at, bound_pat, inner_pat}
use Rattle.rml_base.specs.declared.place.Place.{Place}
use Rattle.rml_grammar.specs.declared.fault.ParseKind.TheVariants as kind
use Rattle.rml_grammar.specs.Texts.{clause_next, clause_at, clauses_at, module_at, interface_at, body_at, text_at, whole_by, whole_text}
use Rattle.rml_grammar.specs.Reading.{◌>>=◌, refused, separated}
use Rattle.rml_grammar.specs.Tokens.{after}
use Rattle.rml_grammar.specs.Types.{bracket_at, in_bracket, inner_bracket}
use Rattle.rml_syntax.specs.declared.token.Mark.TheVariants as mark
use Rattle.rml_grammar.specs.Expressions.{exp_at, chained_exp, inner_exp}

pub exp_level : (n : ℕ) (us : List Spot) → exp_at n us ≡ chained_exp (inner_exp n) us
unfolding exp_at
exp_level zero us = refl
exp_level (suc n) us = refl

pub pat_level : (n : ℕ) (us : List Spot) → pat_at n us ≡ bound_pat (inner_pat n) us
unfolding pat_at
pat_level zero us = refl
pat_level (suc n) us = refl

pub bracket_level : (n : ℕ) (us : List Spot) → bracket_at n us ≡ in_bracket (inner_bracket n) us
unfolding bracket_at
bracket_level zero us = refl
bracket_level (suc n) us = refl

pub goals_level : (n : ℕ) (us : List Spot) → goals_at n us ≡ separated (after mark.Amp) (goal_at n) us
unfolding goals_at
goals_level zero us = refl
goals_level (suc n) us = refl

-- clauses, by what stands first
pub clauses_none : (n k : ℕ) (us : List Spot) → clause_next us ≡ None → clauses_at n k us ≡ Ok ([], us)
unfolding clauses_at
clauses_none n zero us e = rw (e, clauses_at) refl
clauses_none n (suc k) us e = rw (e, clauses_at) refl

pub clauses_one : (n k : ℕ) (us vs : List Spot) → clause_next us ≡ Some vs → clauses_at n (suc k) us ≡ (clause_at n vs >>= λ r. clauses_at n k r.1 >>= λ rs. Ok (r.0 ∷ rs.0, rs.1))
unfolding clauses_at
clauses_one n k us vs e = rw (e, clauses_at) refl

pub clauses_full : (n : ℕ) (us vs : List Spot) → clause_next us ≡ Some vs → clauses_at n zero us ≡ refused kind.TooManyRules us
unfolding clauses_at
clauses_full n us vs e = rw (e, clauses_at) refl

-- texts
pub text_is : (end : Place) (n k : ℕ) (us : List Spot) → text_at end n k us ≡ (module_at us >>= λ m. interface_at n m.1 >>= λ i. body_at n k i.1 >>= λ b.
    Ok (record { «module» = m.0.0; place = m.0.1; end = end; uses = i.0.0; specs = i.0.1; body_uses = b.0.0; decls = b.0.1 }, b.1))
unfolding text_at
text_is end n k us = refl

pub whole_is : (end : Place) (n k : ℕ) (us : List Spot) → whole_text end n k us ≡ (text_at end n k us >>= λ t. whole_by t.0 t.1)
unfolding whole_text
whole_is end n k us = refl
