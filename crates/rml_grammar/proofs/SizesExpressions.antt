-- An expression has no more expressions than tokens.
use Rattle.std.proofs.Common.{◌≡◌, ℕ, ◌+◌, ◌≤◌, List, [], ◌∷◌, length, ap, ◌∙◌, arith, sum_by}
use Rattle.std.proofs.lemmas.List.Sums.{sum-map, sum_by-cons}
use Rattle.rml_syntax.specs.declared.token.Spot.{Spot}
use Rattle.rml_syntax.specs.declared.rules.Long.{Long}
use Rattle.rml_syntax.specs.declared.rules.Exp.{Exp}
use Rattle.rml_syntax.specs.declared.rules.Exp.TheVariants as exp
use Rattle.rml_grammar.specs.Trees.{chain_exp}
use Rattle.rml_grammar.specs.Sizes.{exp_size, exp_size_at}
use Rattle.rml_grammar.specs.SpelledNames.{IsLong, alone, dotted}
use Rattle.rml_grammar.specs.SpelledExpressions as s
use Rattle.rml_grammar.specs.SpelledExpressions.{IsExp, IsEapps, IsEapp, IsEargs1, IsEatom, IsExpTuple, IsEatom1, IsExps, IsMoreExps, IsEargs, IsEseq}
use Rattle.rml_grammar.proofs.Folds.{exp-App, exp-Cons, exp-List, exp-Lit, exp-Name, exp-Tuple}

pub long-size : {us rest : List Spot} {l : Long} → IsLong us l rest → 1 + length rest ≤ length us
long-size (alone e) = omega arith
long-size dotted = omega arith

app-size : (l : Long) (es : List Exp) → exp_size (exp.App l es) ≡ 1 + sum_by exp_size es
app-size l es = exp-App ℕ exp_size_at l es ∙ ap (λ n. 1 + n) (sum-map exp_size es)

tuple-size : (es : List Exp) → exp_size (exp.Tuple es) ≡ 1 + sum_by exp_size es
tuple-size es = exp-Tuple ℕ exp_size_at es ∙ ap (λ n. 1 + n) (sum-map exp_size es)

list-size : (es : List Exp) → exp_size (exp.List es) ≡ 1 + sum_by exp_size es
list-size es = exp-List ℕ exp_size_at es ∙ ap (λ n. 1 + n) (sum-map exp_size es)

cons-size : (es : List Exp) → exp_size (exp.Cons es) ≡ 1 + sum_by exp_size es
cons-size es = exp-Cons ℕ exp_size_at es ∙ ap (λ n. 1 + n) (sum-map exp_size es)

chain-size : (e : Exp) (es : List Exp) → exp_size (chain_exp (e ∷ es)) ≤ exp_size e + sum_by exp_size es + length es
chain-size e [] = omega arith
chain-size e (f ∷ es) = omega (arith, cons-size (e ∷ f ∷ es), sum_by-cons exp_size e (f ∷ es))

mutual
  pub exp-size : {us rest : List Spot} {e : Exp} → IsExp us e rest → exp_size e + length rest ≤ length us
  exp-size (s.chain {t} {ts} a b) = let x = eapp-size a in let y = eapps-size b in omega (arith, chain-size t ts)

  eapps-size : {us rest : List Spot} {es : List Exp} → IsEapps us es rest → sum_by exp_size es + length es + length rest ≤ length us
  eapps-size (s.no_eapp e) = omega arith
  eapps-size (s.more_eapps {t} {ts} a b) = let x = eapp-size a in let y = eapps-size b in omega (arith, sum_by-cons exp_size t ts)

  eapp-size : {us rest : List Spot} {e : Exp} → IsEapp us e rest → exp_size e + length rest ≤ length us
  eapp-size (s.name {l} a e) = omega (arith, exp-Name ℕ exp_size_at l, long-size a)
  eapp-size (s.applied {l} {ts} a b) = let x = long-size a in let y = eargs1-size b in omega (arith, app-size l ts)
  eapp-size (s.atom a) = eatom-size a

  pub eargs1-size : {us rest : List Spot} {es : List Exp} → IsEargs1 us es rest → sum_by exp_size es + length rest ≤ length us
  eargs1-size (s.bracketed a) = let x = exps-size a in omega arith
  eargs1-size (s.an_atom {t} a) = let x = eatom1-size a in omega (arith, sum_by-cons exp_size t [])
  eargs1-size (s.a_long {l} a) = let x = long-size a in omega (arith, exp-Name ℕ exp_size_at l, sum_by-cons exp_size (exp.Name l) [])

  eatom-size : {us rest : List Spot} {e : Exp} → IsEatom us e rest → exp_size e + length rest ≤ length us
  eatom-size (s.simple a) = eatom1-size a
  eatom-size (s.bracket a) = let x = exp-size a in omega arith
  eatom-size (s.tuple {ts} a) = let x = exp_tuple-size a in omega (arith, tuple-size ts)

  pub exp_tuple-size : {us rest : List Spot} {es : List Exp} → IsExpTuple us es rest → 3 + sum_by exp_size es + length rest ≤ length us
  exp_tuple-size (s.two_exps {t} {u} {ts} a b c) = let x = exp-size a in let y = exp-size b in let z = more_exps-size c in omega (arith, sum_by-cons exp_size t (u ∷ ts), sum_by-cons exp_size u ts)

  eatom1-size : {us rest : List Spot} {e : Exp} → IsEatom1 us e rest → exp_size e + length rest ≤ length us
  eatom1-size (s.lit {l}) = omega (arith, exp-Lit ℕ exp_size_at l)
  eatom1-size s.no_list = omega (arith, list-size [])
  eatom1-size (s.list {ts} a) = let x = exps-size a in omega (arith, list-size ts)

  exps-size : {us rest : List Spot} {es : List Exp} → IsExps us es rest → sum_by exp_size es + length rest ≤ length us
  exps-size (s.some_exps {t} {ts} a b) = let x = exp-size a in let y = more_exps-size b in omega (arith, sum_by-cons exp_size t ts)

  more_exps-size : {us rest : List Spot} {es : List Exp} → IsMoreExps us es rest → sum_by exp_size es + length rest ≤ length us
  more_exps-size (s.no_more_exps e) = omega arith
  more_exps-size (s.more_exps {t} {ts} a b) = let x = exp-size a in let y = more_exps-size b in omega (arith, sum_by-cons exp_size t ts)

pub eargs-size : {us rest : List Spot} {es : List Exp} → IsEargs us es rest → sum_by exp_size es + length rest ≤ length us
eargs-size (s.no_eargs h) = omega arith
eargs-size s.empty_eargs = omega arith
eargs-size (s.eargs1 a) = eargs1-size a

pub eseq-size : {us rest : List Spot} {es : List Exp} → IsEseq us es rest → sum_by exp_size es + length rest ≤ length us
eseq-size s.no_exps = omega arith
eseq-size (s.exps a h) = let x = exp_tuple-size a in omega arith
eseq-size (s.one_exp {t} a h) = let x = exp-size a in omega (arith, sum_by-cons exp_size t [])
