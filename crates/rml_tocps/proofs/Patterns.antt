-- Patterns as clause form has them: what each kind matches and binds, that its variables are those of the relation, and a `match` in front of
-- what is made.
use Rattle.std.proofs.Common.{◌≡◌, ℕ, ◌+◌, ◌<◌, ◌≤◌, Bool, true, List, [], ◌∷◌, ◌++◌, map, refl, sym, ap, subst, ◌∙◌, inl, arith}
use Rattle.std.specs.Prelude.{◌&&◌, nat_lt}
use Rattle.std.specs.List.{concat}
use Rattle.rml_terms.specs.Matching.{Matcher}
use Rattle.rml_fol.specs.declared.terms.Pattern.{Pattern, map-Pattern, roll-Pattern, fold-roll-Pattern, ind-Pattern}
use Rattle.rml_fol.specs.declared.terms.Pattern.TheOpen.{Pattern-F}
use Rattle.rml_fol.specs.declared.statements.Stmt.TheOpen.{Stmt-F as Clause-F}
use Rattle.rml_fol.specs.declared.statements.Stmt.TheVariants as old_of
use Rattle.rml_fol.specs.Fits.{Signatures, every, pattern_fits, pattern_fits_at, vars_fit}
use Rattle.rml_fol.specs.Paid as pays
use Rattle.rml_fol.specs.Patterns.{match_at, matching, bound_at, bound, binds}
use Rattle.rml_fol.specs.Scoped as scopes
use Rattle.rml_fol.specs.Scoped.{binding}
use Rattle.rml_fol.specs.Weights as clause
use Rattle.rml_cps.specs.declared.statements.Continuation.{Continuation}
use Rattle.rml_cps.specs.declared.statements.Stmt.{Stmt}
use Rattle.rml_tocps.specs.declared.pass.numbers.Numbers.{Numbers}
use Rattle.rml_tocps.specs.Pass.{old_stmt}
use Rattle.rml_tocps.specs.Passing.{Before}
use Rattle.rml_tocps.specs.Matching.{MatchMade}
use Rattle.rml_tocps.proofs.Matches.{match_carries}
use Rattle.rml_tocps.proofs.Passing.{opens, two, one, bound-there, carries-as}

-- what a pattern matches and binds, by its layer
pub record OpensPattern (p : Pattern) (y : Pattern-F Pattern) : Type 0 where
  pub matches : matching p ≡ match_at (map-Pattern Pattern Matcher matching y)
  pub binds : bound p ≡ bound_at (map-Pattern Pattern (List ℕ) bound y)

pub opens-pattern : (p : Pattern) (y : Pattern-F Pattern) → p ≡ roll-Pattern y → OpensPattern p y
opens-pattern p y e = record { matches = ap matching e ∙ fold-roll-Pattern Matcher match_at y; binds = ap bound e ∙ fold-roll-Pattern (List ℕ) bound_at y }

-- ---- the variables of a pattern that fits

both-fit : (own : ℕ) (xs ys : List ℕ) → vars_fit own xs ≡ true → vars_fit own ys ≡ true → vars_fit own (xs ++ ys) ≡ true
both-fit own [] ys h k = k
both-fit own (x ∷ xs) ys h k =
    let fits = two (nat_lt x own) (vars_fit own xs) h in
    ap (λ (b : Bool). b && vars_fit own (xs ++ ys)) fits.first ∙ both-fit own xs ys fits.second k

module _ (n : Signatures) (own : ℕ) where
  abbrev BoundFit : Pattern → Type 0
  BoundFit p = pattern_fits n own p ≡ true → vars_fit own (bound p) ≡ true

  fit-rolled : (y : Pattern-F Pattern) → (pattern_fits_at n own (map-Pattern Pattern Bool (pattern_fits n own) y) ≡ true → vars_fit own (bound_at (map-Pattern Pattern (List ℕ) bound y)) ≡ true) → BoundFit (roll-Pattern y)
  fit-rolled y f h = ap (λ (xs : List ℕ). vars_fit own xs) (fold-roll-Pattern (List ℕ) bound_at y) ∙ f (sym (fold-roll-Pattern Bool (pattern_fits_at n own) y) ∙ h)

  abbrev Parts : Type 0
  Parts = List ((x : Pattern) × BoundFit x)

  parts-fit : (ps : Parts) → every (map (pattern_fits n own) (map (λ e. e.0) ps)) ≡ true → vars_fit own (concat (map bound (map (λ e. e.0) ps))) ≡ true
  parts-fit [] h = refl
  parts-fit (p ∷ ps) h =
      let fits = two (pattern_fits n own p.0) (every (map (pattern_fits n own) (map (λ e. e.0) ps))) h in
      both-fit own (bound p.0) (concat (map bound (map (λ e. e.0) ps))) (p.1 fits.first) (parts-fit ps fits.second)

  fit-layer : (y : Pattern-F ((x : Pattern) × BoundFit x)) → BoundFit (roll-Pattern (map-Pattern ((x : Pattern) × BoundFit x) Pattern (λ e. e.0) y))
  fit-layer Pattern-F.Any = fit-rolled Pattern-F.Any (λ h. refl)
  fit-layer (Pattern-F.Lit l) = fit-rolled (Pattern-F.Lit l) (λ h. refl)
  fit-layer (Pattern-F.Var x) = fit-rolled (Pattern-F.Var x) (λ h. ap (λ (b : Bool). b && true) h)
  fit-layer (Pattern-F.Con c ps) = fit-rolled (Pattern-F.Con c (map (λ e. e.0) ps)) (λ h. parts-fit ps (two _ (every (map (pattern_fits n own) (map (λ e. e.0) ps))) h).second)
  fit-layer (Pattern-F.Tuple ps) = fit-rolled (Pattern-F.Tuple (map (λ e. e.0) ps)) (parts-fit ps)
  fit-layer (Pattern-F.List ps) = fit-rolled (Pattern-F.List (map (λ e. e.0) ps)) (parts-fit ps)
  fit-layer (Pattern-F.Cons ps) = fit-rolled (Pattern-F.Cons (map (λ e. e.0) ps)) (λ h. parts-fit ps (two _ (every (map (pattern_fits n own) (map (λ e. e.0) ps))) h).second)
  fit-layer (Pattern-F.Bind x e) =
      fit-rolled (Pattern-F.Bind x e.0) (λ h. let fits = two (nat_lt x own) (pattern_fits n own e.0) h in ap (λ (b : Bool). b && vars_fit own (bound e.0)) fits.first ∙ e.1 fits.second)

  pub bound-fit : (p : Pattern) → BoundFit p
  bound-fit = ind-Pattern BoundFit (λ x y is. subst (λ z. BoundFit (roll-Pattern z)) is (fit-layer y))

-- ---- a `match`

pub match-before : (own : ℕ) (from to : Numbers) (h : Continuation) (x : ℕ) (p : Pattern) (rest new : List Stmt) → own ≤ from.variable → from.variable ≤ to.variable
    → MatchMade own from.variable to.variable h (matching p) (bound p) x rest new → Before own from to h (one (old_of.Match x p)) rest new
match-before own from to h x p rest new behind rising m = record {
  change = m.change;
  is = m.is;
  by = λ under s c taken given next giving onward fit on scoped paid free.
      let o = opens (old_of.Match x p) (Clause-F.Match x p) (old_of.rolls-Match x p) in
      let fits = two (nat_lt x own) (pattern_fits fit.signatures own p) (sym (o.fits fit.signatures own fit.bodies) ∙ (two _ true fit.fit).first) in
      let vars = bound-fit fit.signatures own p fits.second in
      let known = two (s.vars x) (binding (bound p) next s) (ap (λ (a : scopes.Action). a given next s) (sym o.scopes) ∙ scoped) in
      let there = bound-there own to.variable (bound p) taken next s vars known.second free in
      let gone = m.by taken (record { behind = behind; rising = rising; free = λ z far near. free.fresh z (omega arith) near }) vars there.new in
      record {
        scope = there.scope;
        left = clause.match_weight (binds p) + c;
        after = gone.after;
        scoped = there.passes;
        paid = ap (λ (a : pays.Action). a giving onward c) (sym o.pays) ∙ paid;
        free = record {
          new = λ y low e. gone.leaves.at y (there.free.new y low e) (inl (omega arith));
          fresh = λ y far near. gone.leaves.at y (there.free.fresh y far (omega arith)) (inl near);
        };
        carries = carries-as h c (clause.match_weight (binds p) + c) taken gone.after (old_of.Match x p) (old_stmt (Clause-F.Match x p)) m.change (λ vals calls. o.acts vals calls)
            (match_carries h c (clause.match_weight (binds p) + c) taken gone.after x p m.change (omega arith) gone.matches);
      };
}
