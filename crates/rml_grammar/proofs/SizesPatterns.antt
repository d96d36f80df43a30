-- A pattern has no more patterns than tokens.
use Rattle.std.proofs.Common.{◌≡◌, ℕ, ◌+◌, ◌≤◌, List, [], ◌∷◌, length, ap, ◌∙◌, arith, sum_by}
use Rattle.std.proofs.lemmas.List.Sums.{sum-map, sum_by-cons}
use Rattle.rml_syntax.specs.declared.token.Spot.{Spot}
use Rattle.rml_syntax.specs.declared.rules.Long.{Long}
use Rattle.rml_syntax.specs.declared.rules.Pattern.{Pattern}
use Rattle.rml_syntax.specs.declared.rules.Pattern.TheVariants as pat
use Rattle.rml_grammar.specs.Trees.{chain_pat}
use Rattle.rml_grammar.specs.Sizes.{pattern_size, pattern_size_at}
use Rattle.rml_grammar.specs.SpelledPatterns as s
use Rattle.rml_grammar.specs.SpelledPatterns.{IsPat, IsPcons, IsPapps, IsPapp, IsPargs1, IsPatom, IsPatTuple, IsPatom1, IsPats, IsMorePats, IsPargs, IsPseq}
use Rattle.rml_grammar.proofs.Folds.{pattern-Any, pattern-App, pattern-Bind, pattern-Cons, pattern-List, pattern-Lit, pattern-Name, pattern-Tuple}
use Rattle.rml_grammar.proofs.SizesExpressions.{long-size}

app-size : (l : Long) (ps : List Pattern) → pattern_size (pat.App l ps) ≡ 1 + sum_by pattern_size ps
app-size l ps = pattern-App ℕ pattern_size_at l ps ∙ ap (λ n. 1 + n) (sum-map pattern_size ps)

tuple-size : (ps : List Pattern) → pattern_size (pat.Tuple ps) ≡ 1 + sum_by pattern_size ps
tuple-size ps = pattern-Tuple ℕ pattern_size_at ps ∙ ap (λ n. 1 + n) (sum-map pattern_size ps)

list-size : (ps : List Pattern) → pattern_size (pat.List ps) ≡ 1 + sum_by pattern_size ps
list-size ps = pattern-List ℕ pattern_size_at ps ∙ ap (λ n. 1 + n) (sum-map pattern_size ps)

cons-size : (ps : List Pattern) → pattern_size (pat.Cons ps) ≡ 1 + sum_by pattern_size ps
cons-size ps = pattern-Cons ℕ pattern_size_at ps ∙ ap (λ n. 1 + n) (sum-map pattern_size ps)

chain-size : (p : Pattern) (ps : List Pattern) → pattern_size (chain_pat (p ∷ ps)) ≤ pattern_size p + sum_by pattern_size ps + length ps
chain-size p [] = omega arith
chain-size p (q ∷ ps) = omega (arith, cons-size (p ∷ q ∷ ps), sum_by-cons pattern_size p (q ∷ ps))

mutual
  pub pat-size : {us rest : List Spot} {p : Pattern} → IsPat us p rest → pattern_size p + length rest ≤ length us
  pat-size (s.bound {n} {p} {t} a) = let x = pcons-size a in omega (arith, pattern-Bind ℕ pattern_size_at n p t)
  pat-size (s.unbound h a) = pcons-size a

  pcons-size : {us rest : List Spot} {p : Pattern} → IsPcons us p rest → pattern_size p + length rest ≤ length us
  pcons-size (s.chain {t} {ts} a b) = let x = papp-size a in let y = papps-size b in omega (arith, chain-size t ts)

  papps-size : {us rest : List Spot} {ps : List Pattern} → IsPapps us ps rest → sum_by pattern_size ps + length ps + length rest ≤ length us
  papps-size (s.no_papp e) = omega arith
  papps-size (s.more_papps {t} {ts} a b) = let x = papp-size a in let y = papps-size b in omega (arith, sum_by-cons pattern_size t ts)

  papp-size : {us rest : List Spot} {p : Pattern} → IsPapp us p rest → pattern_size p + length rest ≤ length us
  papp-size (s.name {l} a e) = omega (arith, pattern-Name ℕ pattern_size_at l, long-size a)
  papp-size (s.applied {l} {ts} a b) = let x = long-size a in let y = pargs1-size b in omega (arith, app-size l ts)
  papp-size (s.atom a) = patom-size a

  pargs1-size : {us rest : List Spot} {ps : List Pattern} → IsPargs1 us ps rest → sum_by pattern_size ps + length rest ≤ length us
  pargs1-size (s.bracketed a) = let x = pats-size a in omega arith
  pargs1-size (s.an_atom {t} a) = let x = patom1-size a in omega (arith, sum_by-cons pattern_size t [])
  pargs1-size (s.a_long {l} a) = let x = long-size a in omega (arith, pattern-Name ℕ pattern_size_at l, sum_by-cons pattern_size (pat.Name l) [])

  patom-size : {us rest : List Spot} {p : Pattern} → IsPatom us p rest → pattern_size p + length rest ≤ length us
  patom-size (s.simple a) = patom1-size a
  patom-size (s.bracket a) = let x = pat-size a in omega arith
  patom-size (s.tuple {ts} a) = let x = pat_tuple-size a in omega (arith, tuple-size ts)

  pat_tuple-size : {us rest : List Spot} {ps : List Pattern} → IsPatTuple us ps rest → 3 + sum_by pattern_size ps + length rest ≤ length us
  pat_tuple-size (s.two_pats {t} {u} {ts} a b c) = let x = pat-size a in let y = pat-size b in let z = more_pats-size c in omega (arith, sum_by-cons pattern_size t (u ∷ ts), sum_by-cons pattern_size u ts)

  patom1-size : {us rest : List Spot} {p : Pattern} → IsPatom1 us p rest → pattern_size p + length rest ≤ length us
  patom1-size s.any = omega (arith, pattern-Any ℕ pattern_size_at)
  patom1-size (s.lit {l}) = omega (arith, pattern-Lit ℕ pattern_size_at l)
  patom1-size s.no_list = omega (arith, list-size [])
  patom1-size (s.list {ts} a) = let x = pats-size a in omega (arith, list-size ts)

  pats-size : {us rest : List Spot} {ps : List Pattern} → IsPats us ps rest → sum_by pattern_size ps + length rest ≤ length us
  pats-size (s.some_pats {t} {ts} a b) = let x = pat-size a in let y = more_pats-size b in omega (arith, sum_by-cons pattern_size t ts)

  more_pats-size : {us rest : List Spot} {ps : List Pattern} → IsMorePats us ps rest → sum_by pattern_size ps + length rest ≤ length us
  more_pats-size (s.no_more_pats e) = omega arith
  more_pats-size (s.more_pats {t} {ts} a b) = let x = pat-size a in let y = more_pats-size b in omega (arith, sum_by-cons pattern_size t ts)

pub pargs-size : {us rest : List Spot} {ps : List Pattern} → IsPargs us ps rest → sum_by pattern_size ps + length rest ≤ length us
pargs-size (s.no_pargs h) = omega arith
pargs-size s.empty_pargs = omega arith
pargs-size (s.pargs1 a) = pargs1-size a

pub pseq-size : {us rest : List Spot} {ps : List Pattern} → IsPseq us ps rest → sum_by pattern_size ps + length rest ≤ length us
pseq-size s.no_pats = omega arith
pseq-size (s.pats a h) = let x = pat_tuple-size a in omega arith
pseq-size (s.one_pat {t} a h) = let x = pat-size a in omega (arith, sum_by-cons pattern_size t [])
