-- What is formed over some names is formed over more.
use Rattle.std.proofs.Common.{◌≡◌, ℕ, ◌<◌, ◌≤◌, Bool, true, false, List, [], ◌∷◌, Option, Some, None, length, map, refl, sym, ◌∙◌, subst, arith}
use Rattle.std.specs.Prelude.{◌&&◌, nat_le, nat_lt}
use Rattle.std.specs.List.{list_all}
use Rattle.std.proofs.lemmas.Bool.{le-leb, leb-true, lt-ltb, ltb-true}
use Rattle.std.proofs.lemmas.List.{length-map}
use Rattle.std.proofs.lemmas.List.Folds.{list_all-map}
use Rattle.rml_syntax.specs.declared.token.Lit.{Lit}
use Rattle.rml_syntax.specs.declared.token.Lit.TheVariants as lit
use Rattle.rml_syntax.specs.declared.rules.Long.{Long}
use Rattle.rml_syntax.specs.declared.rules.Pattern.{Pattern, map-Pattern, roll-Pattern, fold-roll-Pattern, ind-Pattern}
use Rattle.rml_syntax.specs.declared.rules.Pattern.TheOpen.{Pattern-F}
use Rattle.rml_syntax.specs.declared.rules.Exp.{Exp, map-Exp, roll-Exp, fold-roll-Exp, ind-Exp}
use Rattle.rml_syntax.specs.declared.rules.Exp.TheOpen.{Exp-F}
use Rattle.rml_syntax.specs.declared.rules.Goal.{Goal, map-Goal, roll-Goal, fold-roll-Goal, ind-Goal}
use Rattle.rml_syntax.specs.declared.rules.Goal.TheOpen.{Goal-F}
use Rattle.rml_syntax.specs.declared.rules.Rule.{Rule}
use Rattle.rml_syntax.specs.declared.types.TypeExp.{TypeExp, map-TypeExp, roll-TypeExp, fold-roll-TypeExp, ind-TypeExp}
use Rattle.rml_syntax.specs.declared.types.TypeExp.TheOpen.{TypeExp-F, Sig-F}
use Rattle.rml_syntax.specs.declared.types.Sig.{Sig, map-Sig, roll-Sig, fold-roll-Sig, ind-Sig}
use Rattle.rml_syntax.specs.declared.types.TypeHead.{TypeHead}
use Rattle.rml_syntax.specs.declared.types.ConBind.{ConBind}
use Rattle.rml_syntax.specs.declared.types.DataBind.{DataBind}
use Rattle.rml_syntax.specs.declared.texts.Uses.{Uses}
use Rattle.rml_syntax.specs.declared.texts.Decl.{Decl}
use Rattle.rml_syntax.specs.declared.texts.Decl.TheVariants as decl
use Rattle.rml_syntax.specs.declared.texts.Text.{Text}
use Rattle.rml_whole.specs.Parts.{all, lit_is_formed, long_is_formed, module_is_formed}
use Rattle.rml_whole.specs.Rules.{exp_formed_at, exp_is_formed, goal_formed_at, goal_is_formed, pattern_formed_at, pattern_is_formed, rule_is_formed}
use Rattle.rml_whole.specs.Texts.{decl_is_formed, if_there, spec_is_formed}
use Rattle.rml_whole.specs.Types.{con_is_formed, data_is_formed, head_is_formed, sig_formed_at, sig_is_formed, type_formed_at, type_is_formed}
use Rattle.rml_whole.specs.Whole.{text_is_whole}

-- two tests, of which the second holds where the first does
both-more : (a b c d : Bool) → (a ≡ true → c ≡ true) → (b ≡ true → d ≡ true) → (a && b) ≡ true → (c && d) ≡ true
both-more true b c d f g h = rw (f refl, g h) refl
both-more false b c d f g h = absurd cc

module _ {T : Type 0} (f g : T → Bool) where
  abbrev More : T → Type 0
  More t = f t ≡ true → g t ≡ true

  each-more : ((t : T) → More t) → (ts : List T) → list_all f ts ≡ true → list_all g ts ≡ true
  each-more more [] h = refl
  each-more more (t ∷ ts) h = both-more (f t) (list_all f ts) (g t) (list_all g ts) (more t) (each-more more ts) h

  parts-more : (ts : List ((t : T) × More t)) → all (map f (map (λ t. t.0) ts)) ≡ true → all (map g (map (λ t. t.0) ts)) ≡ true
  parts-more [] h = refl
  parts-more (t ∷ ts) h = both-more (f t.0) (all (map f (map (λ t. t.0) ts))) (g t.0) (all (map g (map (λ t. t.0) ts))) t.1 (parts-more ts) h

  -- as many of them
  as-many : (k : ℕ) (ts : List T) → nat_le k (length (map f ts)) ≡ true → nat_le k (length (map g ts)) ≡ true
  as-many k ts h = let le : k ≤ length (map f ts) = leb-true k (length (map f ts)) h in le-leb k (length (map g ts)) (omega (arith, le, length-map ts f, length-map ts g))

  many-more : (k : ℕ) (ts : List ((t : T) × More t)) → (nat_le k (length (map f (map (λ t. t.0) ts))) && all (map f (map (λ t. t.0) ts))) ≡ true
      → (nat_le k (length (map g (map (λ t. t.0) ts))) && all (map g (map (λ t. t.0) ts))) ≡ true
  many-more k ts h = both-more _ _ _ _ (as-many k (map (λ t. t.0) ts)) (parts-more ts) h

  -- one or more, each of which is so
  some-more : ((t : T) → More t) → (ts : List T) → (nat_le 1 (length (map f ts)) && all (map f ts)) ≡ true → (nat_le 1 (length (map g ts)) && all (map g ts)) ≡ true
  some-more more ts h = both-more _ _ _ _ (as-many 1 ts) (λ k. list_all-map (λ (b : Bool). b) g ts ∙ each-more more ts (sym (list_all-map (λ (b : Bool). b) f ts) ∙ k)) h

module _ (n m : ℕ) (le : n ≤ m) where
  below-more : (k : ℕ) → nat_lt k n ≡ true → nat_lt k m ≡ true
  below-more k h = let lt : k < n = ltb-true k n h in lt-ltb k m (omega arith)

  module-more : (k : Option ℕ) → module_is_formed n k ≡ true → module_is_formed m k ≡ true
  module-more None h = refl
  module-more (Some k) h = below-more k h

  long-more : (l : Long) → long_is_formed n l ≡ true → long_is_formed m l ≡ true
  long-more l h = both-more _ _ _ _ (module-more l.«module») (below-more l.name) h

  lit-more : (l : Lit) → lit_is_formed n l ≡ true → lit_is_formed m l ≡ true
  lit-more (lit.Int i) h = h
  lit-more (lit.Char c) h = h
  lit-more (lit.Text k) h = below-more k h

  abbrev MoreExp : Exp → Type 0
  MoreExp e = exp_is_formed n e ≡ true → exp_is_formed m e ≡ true

  exp-rolled : (y : Exp-F Exp) → (exp_formed_at n (map-Exp Exp Bool (exp_is_formed n) y) ≡ true → exp_formed_at m (map-Exp Exp Bool (exp_is_formed m) y) ≡ true) → MoreExp (roll-Exp y)
  exp-rolled y more h = fold-roll-Exp Bool (exp_formed_at m) y ∙ more (sym (fold-roll-Exp Bool (exp_formed_at n) y) ∙ h)

  exp-layer : (y : Exp-F ((e : Exp) × MoreExp e)) → MoreExp (roll-Exp (map-Exp ((e : Exp) × MoreExp e) Exp (λ e. e.0) y))
  exp-layer (Exp-F.Lit l) = exp-rolled (Exp-F.Lit l) (lit-more l)
  exp-layer (Exp-F.Name l) = exp-rolled (Exp-F.Name l) (long-more l)
  exp-layer (Exp-F.App l es) = exp-rolled (Exp-F.App l (map (λ e. e.0) es)) (both-more _ _ _ _ (long-more l) (many-more (exp_is_formed n) (exp_is_formed m) 1 es))
  exp-layer (Exp-F.Tuple es) = exp-rolled (Exp-F.Tuple (map (λ e. e.0) es)) (many-more (exp_is_formed n) (exp_is_formed m) 2 es)
  exp-layer (Exp-F.List es) = exp-rolled (Exp-F.List (map (λ e. e.0) es)) (parts-more (exp_is_formed n) (exp_is_formed m) es)
  exp-layer (Exp-F.Cons es) = exp-rolled (Exp-F.Cons (map (λ e. e.0) es)) (many-more (exp_is_formed n) (exp_is_formed m) 2 es)

  exp-more : (e : Exp) → MoreExp e
  exp-more = ind-Exp MoreExp (λ x y is. subst (λ z. MoreExp (roll-Exp z)) is (exp-layer y))

  abbrev MorePattern : Pattern → Type 0
  MorePattern p = pattern_is_formed n p ≡ true → pattern_is_formed m p ≡ true

  pattern-rolled : (y : Pattern-F Pattern) → (pattern_formed_at n (map-Pattern Pattern Bool (pattern_is_formed n) y) ≡ true → pattern_formed_at m (map-Pattern Pattern Bool (pattern_is_formed m) y) ≡ true) → MorePattern (roll-Pattern y)
  pattern-rolled y more h = fold-roll-Pattern Bool (pattern_formed_at m) y ∙ more (sym (fold-roll-Pattern Bool (pattern_formed_at n) y) ∙ h)

  pattern-layer : (y : Pattern-F ((p : Pattern) × MorePattern p)) → MorePattern (roll-Pattern (map-Pattern ((p : Pattern) × MorePattern p) Pattern (λ p. p.0) y))
  pattern-layer Pattern-F.Any = pattern-rolled Pattern-F.Any (λ h. refl)
  pattern-layer (Pattern-F.Lit l) = pattern-rolled (Pattern-F.Lit l) (lit-more l)
  pattern-layer (Pattern-F.Name l) = pattern-rolled (Pattern-F.Name l) (long-more l)
  pattern-layer (Pattern-F.App l ps) = pattern-rolled (Pattern-F.App l (map (λ p. p.0) ps)) (both-more _ _ _ _ (long-more l) (many-more (pattern_is_formed n) (pattern_is_formed m) 1 ps))
  pattern-layer (Pattern-F.Tuple ps) = pattern-rolled (Pattern-F.Tuple (map (λ p. p.0) ps)) (many-more (pattern_is_formed n) (pattern_is_formed m) 2 ps)
  pattern-layer (Pattern-F.List ps) = pattern-rolled (Pattern-F.List (map (λ p. p.0) ps)) (parts-more (pattern_is_formed n) (pattern_is_formed m) ps)
  pattern-layer (Pattern-F.Cons ps) = pattern-rolled (Pattern-F.Cons (map (λ p. p.0) ps)) (many-more (pattern_is_formed n) (pattern_is_formed m) 2 ps)
  pattern-layer (Pattern-F.Bind x at p) = pattern-rolled (Pattern-F.Bind x at p.0) (both-more _ _ _ _ (below-more x) p.1)

  pattern-more : (p : Pattern) → MorePattern p
  pattern-more = ind-Pattern MorePattern (λ x y is. subst (λ z. MorePattern (roll-Pattern z)) is (pattern-layer y))

  abbrev MoreGoal : Goal → Type 0
  MoreGoal g = goal_is_formed n g ≡ true → goal_is_formed m g ≡ true

  goal-rolled : (y : Goal-F Goal) → (goal_formed_at n (map-Goal Goal Bool (goal_is_formed n) y) ≡ true → goal_formed_at m (map-Goal Goal Bool (goal_is_formed m) y) ≡ true) → MoreGoal (roll-Goal y)
  goal-rolled y more h = fold-roll-Goal Bool (goal_formed_at m) y ∙ more (sym (fold-roll-Goal Bool (goal_formed_at n) y) ∙ h)

  exps-more : (es : List Exp) → list_all (exp_is_formed n) es ≡ true → list_all (exp_is_formed m) es ≡ true
  exps-more = each-more (exp_is_formed n) (exp_is_formed m) exp-more

  patterns-more : (ps : List Pattern) → list_all (pattern_is_formed n) ps ≡ true → list_all (pattern_is_formed m) ps ≡ true
  patterns-more = each-more (pattern_is_formed n) (pattern_is_formed m) pattern-more

  goal-layer : (y : Goal-F ((g : Goal) × MoreGoal g)) → MoreGoal (roll-Goal (map-Goal ((g : Goal) × MoreGoal g) Goal (λ g. g.0) y))
  goal-layer (Goal-F.Call l es ps) = goal-rolled (Goal-F.Call l es ps) (both-more _ _ _ _ (both-more _ _ _ _ (long-more l) (exps-more es)) (patterns-more ps))
  goal-layer (Goal-F.Equal l e) = goal-rolled (Goal-F.Equal l e) (both-more _ _ _ _ (long-more l) (exp-more e))
  goal-layer (Goal-F.Let p e) = goal-rolled (Goal-F.Let p e) (both-more _ _ _ _ (pattern-more p) (exp-more e))
  goal-layer (Goal-F.Not g) = goal-rolled (Goal-F.Not g.0) g.1
  goal-layer (Goal-F.All gs) = goal-rolled (Goal-F.All (map (λ g. g.0) gs)) (many-more (goal_is_formed n) (goal_is_formed m) 1 gs)

  goal-more : (g : Goal) → MoreGoal g
  goal-more = ind-Goal MoreGoal (λ x y is. subst (λ z. MoreGoal (roll-Goal z)) is (goal-layer y))

  rule-more : (r : Rule) → rule_is_formed n r ≡ true → rule_is_formed m r ≡ true
  rule-more r h =
      both-more _ _ _ _ (both-more _ _ _ _ (both-more _ _ _ _ (below-more r.head) (patterns-more r.inputs)) (each-more (goal_is_formed n) (goal_is_formed m) goal-more r.goals)) (exps-more r.results) h

  abbrev MoreType : TypeExp → Type 0
  MoreType t = type_is_formed n t ≡ true → type_is_formed m t ≡ true

  abbrev MoreSig : Sig → Type 0
  MoreSig s = sig_is_formed n s ≡ true → sig_is_formed m s ≡ true

  abbrev WithType : Type 0
  WithType = (t : TypeExp) × MoreType t

  abbrev WithSig : Type 0
  WithSig = (s : Sig) × MoreSig s

  type-rolled : (y : TypeExp-F TypeExp Sig)
      → (type_formed_at n (map-TypeExp TypeExp Sig Bool Bool (type_is_formed n) (sig_is_formed n) y) ≡ true → type_formed_at m (map-TypeExp TypeExp Sig Bool Bool (type_is_formed m) (sig_is_formed m) y) ≡ true)
      → MoreType (roll-TypeExp y)
  type-rolled y more h = fold-roll-TypeExp Bool Bool (type_formed_at m) sig_formed_at y ∙ more (sym (fold-roll-TypeExp Bool Bool (type_formed_at n) sig_formed_at y) ∙ h)

  type-layer : (y : TypeExp-F WithType WithSig) → MoreType (roll-TypeExp (map-TypeExp WithType WithSig TypeExp Sig (λ t. t.0) (λ s. s.0) y))
  type-layer (TypeExp-F.Var v p) = type-rolled (TypeExp-F.Var v p) (below-more v)
  type-layer (TypeExp-F.App ts ls) = type-rolled (TypeExp-F.App (map (λ t. t.0) ts) ls)
      (both-more _ _ _ _ (parts-more (type_is_formed n) (type_is_formed m) ts) (some-more (long_is_formed n) (long_is_formed m) long-more ls))
  type-layer (TypeExp-F.Tuple ts) = type-rolled (TypeExp-F.Tuple (map (λ t. t.0) ts)) (many-more (type_is_formed n) (type_is_formed m) 2 ts)
  type-layer (TypeExp-F.Rel s) = type-rolled (TypeExp-F.Rel s.0) s.1

  sig-layer : (y : Sig-F WithType WithSig) → MoreSig (roll-Sig (map-Sig WithType WithSig TypeExp Sig (λ t. t.0) (λ s. s.0) y))
  sig-layer y h =
      let z = map-Sig WithType WithSig TypeExp Sig (λ t. t.0) (λ s. s.0) y in
      fold-roll-Sig Bool Bool (type_formed_at m) sig_formed_at z
      ∙ both-more _ _ _ _ (parts-more (type_is_formed n) (type_is_formed m) y.inputs) (parts-more (type_is_formed n) (type_is_formed m) y.outputs) (sym (fold-roll-Sig Bool Bool (type_formed_at n) sig_formed_at z) ∙ h)

  type-more : (t : TypeExp) → MoreType t
  type-more = ind-TypeExp MoreType MoreSig (λ x y is. subst (λ z. MoreType (roll-TypeExp z)) is (type-layer y)) (λ x y is. subst (λ z. MoreSig (roll-Sig z)) is (sig-layer y))

  sig-more : (s : Sig) → MoreSig s
  sig-more = ind-Sig MoreType MoreSig (λ x y is. subst (λ z. MoreType (roll-TypeExp z)) is (type-layer y)) (λ x y is. subst (λ z. MoreSig (roll-Sig z)) is (sig-layer y))

  head-more : (t : TypeHead) → head_is_formed n t ≡ true → head_is_formed m t ≡ true
  head-more t h = both-more _ _ _ _ (each-more (λ v. nat_lt v n) (λ v. nat_lt v m) below-more t.vars) (below-more t.name) h

  con-more : (c : ConBind) → con_is_formed n c ≡ true → con_is_formed m c ≡ true
  con-more c h = both-more _ _ _ _ (below-more c.name) (each-more (type_is_formed n) (type_is_formed m) type-more c.parts) h

  data-more : (d : DataBind) → data_is_formed n d ≡ true → data_is_formed m d ≡ true
  data-more d h = both-more _ _ _ _ (head-more d.head) (some-more (con_is_formed n) (con_is_formed m) con-more d.cons) h

  spec-more : (d : Decl) → spec_is_formed n d ≡ true → spec_is_formed m d ≡ true
  spec-more (decl.Datatype ds) h = some-more (data_is_formed n) (data_is_formed m) data-more ds h
  spec-more (decl.Abbrev t e) h = both-more _ _ _ _ (head-more t) (type-more e) h
  spec-more (decl.Abstype t) h = head-more t h
  spec-more (decl.Val k p None e) h = absurd cc
  spec-more (decl.Val k p (Some t) None) h = both-more _ _ _ _ (below-more k) (type-more t) h
  spec-more (decl.Val k p (Some t) (Some e)) h = absurd cc
  spec-more (decl.Relation k p None rs) h = absurd cc
  spec-more (decl.Relation k p (Some s) []) h = both-more _ _ _ _ (below-more k) (sig-more s) h
  spec-more (decl.Relation k p (Some s) (r ∷ rs)) h = absurd cc

  there-more : {T : Type 0} (f g : T → Bool) → ((t : T) → f t ≡ true → g t ≡ true) → (t : Option T) → if_there f t ≡ true → if_there g t ≡ true
  there-more f g more None h = refl
  there-more f g more (Some t) h = more t h

  decl-more : (d : Decl) → decl_is_formed n d ≡ true → decl_is_formed m d ≡ true
  decl-more (decl.Datatype ds) h = some-more (data_is_formed n) (data_is_formed m) data-more ds h
  decl-more (decl.Abbrev t e) h = both-more _ _ _ _ (head-more t) (type-more e) h
  decl-more (decl.Abstype t) h = absurd cc
  decl-more (decl.Val k p t None) h = absurd cc
  decl-more (decl.Val k p t (Some e)) h = both-more _ _ _ _ (both-more _ _ _ _ (below-more k) (there-more (type_is_formed n) (type_is_formed m) type-more t)) (exp-more e) h
  decl-more (decl.Relation k p s rs) h =
      both-more _ _ _ _ (both-more _ _ _ _ (below-more k) (there-more (sig_is_formed n) (sig_is_formed m) sig-more s)) (some-more (rule_is_formed n) (rule_is_formed m) rule-more rs) h

  pub text-more : (t : Text) → text_is_whole n t ≡ true → text_is_whole m t ≡ true
  text-more t h =
      let files = each-more (λ (u : Uses). nat_lt u.file n) (λ (u : Uses). nat_lt u.file m) (λ u. below-more u.file) in
      let above = both-more _ _ _ _ (both-more _ _ _ _ (below-more t.«module») (files t.uses)) (each-more (spec_is_formed n) (spec_is_formed m) spec-more t.specs) in
      both-more _ _ _ _ (both-more _ _ _ _ (both-more _ _ _ _ above (files t.body_uses)) (each-more (decl_is_formed n) (decl_is_formed m) decl-more t.decls)) (λ k. k) h
