-- The tables in clause form weigh what the program weighs.
use Rattle.std.proofs.Common.{◌≡◌, ℕ, ◌+◌, ◌≤◌, List, [], ◌∷◌, ◌++◌, map, refl, sym, ap, subst, ◌∙◌, arith}
use Rattle.std.specs.Prelude.{fold, max, sum, sum_by}
use Rattle.std.specs.List.{concat}
use Rattle.std.proofs.lemmas.List.Sums.{sum_by-cons}
use Rattle.rml_resolved.specs.declared.tables.ValDef.{ValDef}
use Rattle.rml_resolved.specs.declared.tables.RelDef.{RelDef}
use Rattle.rml_resolved.specs.declared.tables.RRule.{RRule}
use Rattle.rml_resolved.specs.declared.trees.RExp.{RExp, map-RExp, roll-RExp, fold-roll-RExp, ind-RExp}
use Rattle.rml_resolved.specs.declared.trees.RExp.TheOpen.{RExp-F}
use Rattle.rml_resolved.specs.Size.{exp_at, exp_size, tokens_of, longest, relation_tokens, val_size, weight}
use Rattle.rml_fol.specs.declared.terms.Expression.{Expression, map-Expression, roll-Expression, fold-roll-Expression}
use Rattle.rml_fol.specs.declared.terms.Expression.TheOpen.{Expression-F}
use Rattle.rml_fol.specs.declared.terms.Expression.TheVariants as expression
use Rattle.rml_fol.specs.declared.parts.Val.{Val}
use Rattle.rml_fol.specs.declared.parts.Relation.{Relation}
use Rattle.rml_fol.specs.Size.{nodes_at, nodes, weight_of}
use Rattle.rml_clause.specs.Plain.{literal_of, expression_at, expression_of}
use Rattle.rml_clauses.specs.Tables.{val_of, AreRelationsOf}
use Rattle.rml_clauses.proofs.Rows.{sum-cons}

module _ (names : List (List ℕ)) (params : ℕ) where
  abbrev of : RExp → Expression
  of = expression_of names params

  abbrev Same : RExp → Type 0
  Same e = nodes (of e) ≡ exp_size e

  same-rolled : (y : RExp-F RExp) (z : Expression-F Expression) → expression_at names params (map-RExp RExp Expression of y) ≡ roll-Expression z
      → nodes_at (map-Expression Expression ℕ nodes z) ≡ exp_at (map-RExp RExp ℕ exp_size y) → Same (roll-RExp y)
  same-rolled y z e h =
      ap nodes (fold-roll-RExp Expression (expression_at names params) y ∙ e) ∙ fold-roll-Expression ℕ nodes_at z ∙ h ∙ sym (fold-roll-RExp ℕ exp_at y)

  abbrev exps : List ((x : RExp) × Same x) → List RExp
  exps es = map (λ e. e.0) es

  parts-same : (es : List ((x : RExp) × Same x)) → map nodes (map of (exps es)) ≡ map exp_size (exps es)
  parts-same [] = refl
  parts-same (e ∷ es) = ap (λ (k : ℕ). k ∷ map nodes (map of (exps es))) e.1 ∙ ap (λ (ks : List ℕ). exp_size e.0 ∷ ks) (parts-same es)

  sums-same : (es : List ((x : RExp) × Same x)) → 1 + sum (map nodes (map of (exps es))) ≡ 1 + sum (map exp_size (exps es))
  sums-same es = ap (λ (ks : List ℕ). 1 + sum ks) (parts-same es)

  same-layer : (y : RExp-F ((x : RExp) × Same x)) → Same (roll-RExp (map-RExp ((x : RExp) × Same x) RExp (λ e. e.0) y))
  same-layer (RExp-F.Lit l) = same-rolled (RExp-F.Lit l) (Expression-F.Lit (literal_of names l)) (sym (expression.rolls-Lit (literal_of names l))) refl
  same-layer (RExp-F.Var x) = same-rolled (RExp-F.Var x) (Expression-F.Var (params + x)) (sym (expression.rolls-Var (params + x))) refl
  same-layer (RExp-F.Val k) = same-rolled (RExp-F.Val k) (Expression-F.Val k) (sym (expression.rolls-Val k)) refl
  same-layer (RExp-F.Rel r) = same-rolled (RExp-F.Rel r) (Expression-F.Rel r) (sym (expression.rolls-Rel r)) refl
  same-layer (RExp-F.Con c es) = same-rolled (RExp-F.Con c (exps es)) (Expression-F.Con c (map of (exps es))) (sym (expression.rolls-Con c (map of (exps es)))) (sums-same es)
  same-layer (RExp-F.Tuple es) = same-rolled (RExp-F.Tuple (exps es)) (Expression-F.Tuple (map of (exps es))) (sym (expression.rolls-Tuple (map of (exps es)))) (sums-same es)
  same-layer (RExp-F.List es) = same-rolled (RExp-F.List (exps es)) (Expression-F.List (map of (exps es))) (sym (expression.rolls-List (map of (exps es)))) (sums-same es)
  same-layer (RExp-F.Cons es) = same-rolled (RExp-F.Cons (exps es)) (Expression-F.Cons (map of (exps es))) (sym (expression.rolls-Cons (map of (exps es)))) (sums-same es)

  -- as many expressions as there were
  same-nodes : (e : RExp) → Same e
  same-nodes = ind-RExp Same (λ x y is. subst (λ z. Same (roll-RExp z)) is (same-layer y))

-- ---- tables

vals-weigh : (names : List (List ℕ)) (ds : List ValDef) → sum_by (λ (v : Val). nodes v.value) (map (val_of names) ds) ≡ sum_by val_size ds
vals-weigh names [] = refl
vals-weigh names (d ∷ ds) =
    let made = sum_by-cons (λ (v : Val). nodes v.value) (val_of names d) (map (val_of names) ds) in
    let was = sum_by-cons val_size d ds in
    let one = same-nodes names 0 d.value in
    let later = vals-weigh names ds in
    omega (arith, made, was, one, later)

relations-weigh : (names : List (List ℕ)) (ds : List RelDef) (rs : List Relation) → AreRelationsOf names ds rs → sum_by (λ (r : Relation). r.tokens) rs ≡ sum_by relation_tokens ds
relations-weigh names [] [] h = refl
relations-weigh names [] (r ∷ rs) h = absurd h
relations-weigh names (d ∷ ds) [] h = absurd h
relations-weigh names (d ∷ ds) (r ∷ rs) h =
    let made = sum_by-cons (λ (x : Relation). x.tokens) r rs in
    let was = sum_by-cons relation_tokens d ds in
    let later = relations-weigh names ds rs h.1 in
    omega (arith, made, was, h.0.tokens, later)

pub weights-same : (names : List (List ℕ)) (vals : List ValDef) (made : List Val) (ds : List RelDef) (rs : List Relation) → made ≡ map (val_of names) vals → AreRelationsOf names ds rs → weight_of made rs ≡ weight vals ds
weights-same names vals made ds rs is h =
    let first = relations-weigh names ds rs h in
    let second = ap (λ (vs : List Val). sum_by (λ (v : Val). nodes v.value) vs) is ∙ vals-weigh names vals in
    omega (arith, first, second)

-- ---- the longest rule

max-few : (a : ℕ) (xs : List ℕ) → fold max a xs ≤ a + sum xs
max-few a [] = omega arith
max-few a (x ∷ xs) = let later = max-few (max a x) xs in let s = sum-cons x xs in omega (arith, later, s)

sum-joined : (xs ys : List ℕ) → sum (xs ++ ys) ≡ sum xs + sum ys
sum-joined [] ys = omega arith
sum-joined (x ∷ xs) ys = let later = sum-joined xs ys in let s = sum-cons x xs in let t = sum-cons x (xs ++ ys) in omega (arith, later, s, t)

rules-sum : (rules : List RRule) → sum (map (λ (r : RRule). r.tokens) rules) ≡ sum_by (λ (r : RRule). r.tokens) rules
rules-sum [] = refl
rules-sum (r ∷ rules) =
    let later = rules-sum rules in
    let s = sum-cons r.tokens (map (λ (x : RRule). x.tokens) rules) in
    let t = sum_by-cons (λ (x : RRule). x.tokens) r rules in
    omega (arith, later, s, t)

all-sum : (ds : List RelDef) → sum (concat (map tokens_of ds)) ≡ sum_by relation_tokens ds
all-sum [] = refl
all-sum (d ∷ ds) =
    let later = all-sum ds in
    let both = sum-joined (tokens_of d) (concat (map tokens_of ds)) in
    let one = rules-sum d.rules in
    let t = sum_by-cons relation_tokens d ds in
    omega (arith, later, both, one, t)

pub longest-few : (vals : List ValDef) (ds : List RelDef) → longest ds ≤ weight vals ds
unfolding longest
longest-few vals ds =
    let few = max-few 0 (concat (map tokens_of ds)) in
    let all = all-sum ds in
    omega (arith, few, all)
