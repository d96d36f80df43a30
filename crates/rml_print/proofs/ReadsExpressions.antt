-- What is printed of an expression is read as that expression, in each seat.
use Rattle.std.proofs.Common.{◌≡◌, List, [], ◌∷◌, ◌++◌, map, refl, ap, sym, ◌∙◌}
use Rattle.rml_base.specs.declared.place.Place.{Place}
use Rattle.rml_syntax.specs.declared.token.Spot.{Spot}
use Rattle.rml_syntax.specs.declared.token.Token.{Token}
use Rattle.rml_syntax.specs.declared.token.Token.TheVariants as token
use Rattle.rml_syntax.specs.declared.token.Lit.{Lit}
use Rattle.rml_syntax.specs.declared.token.Mark.TheVariants as mark
use Rattle.rml_syntax.specs.declared.rules.Long.{Long}
use Rattle.rml_syntax.specs.declared.rules.Exp.{Exp, fold-Exp}
use Rattle.rml_syntax.specs.declared.rules.Exp.TheVariants as exp
use Rattle.rml_grammar.specs.Tokens.{sign, Lacks}
use Rattle.rml_grammar.specs.SpelledNames.{IsLong}
use Rattle.rml_grammar.specs.SpelledExpressions as s
use Rattle.rml_grammar.specs.SpelledExpressions.{IsExp, IsEapps, IsEapp, IsEargs1, IsEatom, IsExpTuple, IsEatom1, IsExps, IsMoreExps, IsEargs, IsEseq}
use Rattle.rml_print.specs.declared.seats.Seat.TheVariants.{Free, Item, OnlyResult}
use Rattle.rml_print.specs.declared.seats.Shape.{Shape}
use Rattle.rml_print.specs.declared.seats.Shape.TheVariants as shape
use Rattle.rml_print.specs.Parts.{in_round, in_square, listed, tupled, long_tokens, Printed}
use Rattle.rml_print.specs.Expressions.{exp_tokens, exp_at}
use Rattle.rml_print.specs.Plain.{plain_long, plain_exp, plain_exp_at}
use Rattle.rml_print.specs.Seats.{exp_shape_at}
use Rattle.rml_print.proofs.Shown.{Shows, ended, shown, cut, InRound, in_round_brackets, InSquare, in_square_brackets, round-shown, square-shown, Stops, stops-chain, Closes, closes-comma, Encloses, encloses-round, encloses-square, Again, ReadsAgain, Each, none, also, OneOrMore, first, each-of, each-map, together, First, separated-again, listed-shown, long-again}
use Rattle.rml_print.proofs.OneReading.{exp-one, apart}
use Rattle.rml_grammar.proofs.Callers as fold

-- one result
abbrev IsResult : List Spot → Exp → List Spot → Type 0
IsResult us t rest = IsEseq us (t ∷ []) rest

abbrev free_tokens : Exp → List Token
free_tokens t = exp_tokens t Free

abbrev item_tokens : Exp → List Token
item_tokens t = exp_tokens t Item

abbrev result_tokens : Exp → List Token
result_tokens t = exp_tokens t OnlyResult

-- what is printed of it is read again, in each seat
pub record ExpReads (t : Exp) : Type 0 where
  pub free : ReadsAgain plain_exp IsExp free_tokens Closes t
  pub item : ReadsAgain plain_exp IsEapp item_tokens Stops t
  pub result : ReadsAgain plain_exp IsResult result_tokens Closes t

-- ---- the same but for places

same-Name : (l m : Long) → plain_long l ≡ plain_long m → plain_exp (exp.Name l) ≡ plain_exp (exp.Name m)
same-Name l m p = fold.exp-Name Exp plain_exp_at l ∙ ap (λ (x : Long). exp.Name x) p ∙ sym (fold.exp-Name Exp plain_exp_at m)

same-App : (l m : Long) (es fs : List Exp) → plain_long l ≡ plain_long m → map plain_exp es ≡ map plain_exp fs → plain_exp (exp.App l es) ≡ plain_exp (exp.App m fs)
same-App l m es fs p q = fold.exp-App Exp plain_exp_at l es ∙ ap (λ (x : Long). exp.App x (map plain_exp es)) p ∙ ap (λ (x : List Exp). exp.App (plain_long m) x) q ∙ sym (fold.exp-App Exp plain_exp_at m fs)

same-Tuple : (es fs : List Exp) → map plain_exp es ≡ map plain_exp fs → plain_exp (exp.Tuple es) ≡ plain_exp (exp.Tuple fs)
same-Tuple es fs q = fold.exp-Tuple Exp plain_exp_at es ∙ ap (λ (x : List Exp). exp.Tuple x) q ∙ sym (fold.exp-Tuple Exp plain_exp_at fs)

same-List : (es fs : List Exp) → map plain_exp es ≡ map plain_exp fs → plain_exp (exp.List es) ≡ plain_exp (exp.List fs)
same-List es fs q = fold.exp-List Exp plain_exp_at es ∙ ap (λ (x : List Exp). exp.List x) q ∙ sym (fold.exp-List Exp plain_exp_at fs)

same-Cons : (es fs : List Exp) → map plain_exp es ≡ map plain_exp fs → plain_exp (exp.Cons es) ≡ plain_exp (exp.Cons fs)
same-Cons es fs q = fold.exp-Cons Exp plain_exp_at es ∙ ap (λ (x : List Exp). exp.Cons x) q ∙ sym (fold.exp-Cons Exp plain_exp_at fs)

-- what is no tuple without its places is none
abbrev NoTuple : Exp → Type 0
NoTuple t = (ts : List Exp) → plain_exp (exp.Tuple ts) ≡ plain_exp t → ⊥

abbrev kind : Exp → Shape
kind = fold-Exp Shape exp_shape_at

no-tuple : (t u : Exp) (k : Shape) → plain_exp t ≡ u → kind u ≡ k → (shape.Tuple ≡ k → ⊥) → NoTuple t
no-tuple t u k is has differs ts e =
    let tuple : plain_exp (exp.Tuple ts) ≡ exp.Tuple (map plain_exp ts) = fold.exp-Tuple Exp plain_exp_at ts in
    differs (sym (fold.exp-Tuple Shape exp_shape_at (map plain_exp ts)) ∙ ap kind (sym tuple ∙ e ∙ is) ∙ has)

-- ---- one tree from what is printed of it

-- an item alone is an expression
alone : {t : Exp} {us rest : List Spot} → Closes rest → Again plain_exp IsEapp t us rest → Again plain_exp IsExp t us rest
alone c a = record { tree = a.tree; reads = s.chain a.reads (s.no_eapp c.chain); same = a.same }

-- which is one result, where it is no tuple
one-result : {t : Exp} {us rest : List Spot} → NoTuple t → Closes rest → Again plain_exp IsExp t us rest → Again plain_exp IsResult t us rest
one-result {t} none_such c a = record {
  tree = a.tree;
  reads = s.one_exp a.reads (λ ts tup. none_such ts (ap plain_exp (sym (exp-one a.reads (s.chain (s.atom (s.tuple tup)) (s.no_eapp c.chain))).0) ∙ a.same));
  same = a.same;
}

-- what prints the same in each seat
even : (t : Exp) (p : Printed) → exp_tokens t ≡ p → p Free ≡ p Item → p OnlyResult ≡ p Item → NoTuple t → ((us rest : List Spot) → Shows (p Item) us rest → Stops rest → Again plain_exp IsEapp t us rest) → ExpReads t
even t p e f r none_such reads =
    let free_is : free_tokens t ≡ p Item = ap (λ (q : Printed). q Free) e ∙ f in
    let item_is : item_tokens t ≡ p Item = ap (λ (q : Printed). q Item) e in
    let result_is : result_tokens t ≡ p Item = ap (λ (q : Printed). q OnlyResult) e ∙ r in
    record {
      free = λ us rest x c. alone c (reads us rest (rw free_is at x) c.stops);
      item = λ us rest x c. reads us rest (rw item_is at x) c;
      result = λ us rest x c. one-result none_such c (alone c (reads us rest (rw result_is at x) c.stops));
    }

lit-again : (l : Lit) (us rest : List Spot) → Shows (token.Lit l ∷ []) us rest → Stops rest → Again plain_exp IsEapp (exp.Lit l) us rest
lit-again l _ _ (shown ended) c = record { tree = exp.Lit l; reads = s.atom (s.simple s.lit); same = refl }

lit-reads : (l : Lit) → ExpReads (exp.Lit l)
lit-reads l = even (exp.Lit l) _ (fold.exp-Lit Printed exp_at l) refl refl (no-tuple (exp.Lit l) _ shape.Other (fold.exp-Lit Exp plain_exp_at l) (fold.exp-Lit Shape exp_shape_at l) (λ e. cc)) (lit-again l)

name-again : (l : Long) (us rest : List Spot) → Shows (long_tokens l) us rest → Stops rest → Again plain_exp IsEapp (exp.Name l) us rest
name-again l us rest x c = let a = long-again l us rest x c.dot in record { tree = exp.Name a.tree; reads = s.name a.reads c.eargument; same = same-Name a.tree l a.same }

name-reads : (l : Long) → ExpReads (exp.Name l)
name-reads l = even (exp.Name l) _ (fold.exp-Name Printed exp_at l) refl refl (no-tuple (exp.Name l) _ shape.Other (fold.exp-Name Exp plain_exp_at l) (fold.exp-Name Shape exp_shape_at (plain_long l)) (λ e. cc)) (name-again l)

-- expressions with commas between them, and a bracket behind them
exps-again : {t : Exp} {ts : List Exp} {us rest : List Spot} → ExpReads t → Each ExpReads ts → Shows (listed mark.Comma Free (map exp_tokens (t ∷ ts))) us rest → Encloses rest → First plain_exp IsExp IsMoreExps t ts us rest
exps-again {t} {ts} r rs x c =
    separated-again plain_exp IsExp IsMoreExps free_tokens (token.Sign mark.Comma) Closes Encloses
    (λ us e. s.no_more_exps e.comma) (λ us vs rest p t ts a b. s.more_exps a b) (λ us e. e.closes) closes-comma
    t ts r.free (each-map (λ y h. h.free) rs) (listed-shown mark.Comma Free exp_tokens (t ∷ ts) x) c

app-by : {l : Long} {t : Exp} {ts : List Exp} {us vs rest : List Spot} → ExpReads t → Each ExpReads ts → (Lacks mark.Dot vs → Again plain_long IsLong l us vs) → InRound (listed mark.Comma Free (map exp_tokens (t ∷ ts))) vs rest → Again plain_exp IsEapp (exp.App l (t ∷ ts)) us rest
app-by {l} {t} {ts} r rs long (in_round_brackets {q} {rest} x) =
    let a = long refl in
    let f = exps-again r rs x (encloses-round q rest) in
    record {
      tree = exp.App a.tree (f.first.tree ∷ f.others.tree);
      reads = s.applied a.reads (s.bracketed (s.some_exps f.first.reads f.others.reads));
      same = same-App a.tree l (f.first.tree ∷ f.others.tree) (t ∷ ts) a.same (together f.first.same f.others.same);
    }

app-again : (l : Long) (ts : List Exp) → OneOrMore ExpReads ts → (us rest : List Spot) → Shows (long_tokens l ++ tupled (map exp_tokens ts)) us rest → Stops rest → Again plain_exp IsEapp (exp.App l ts) us rest
app-again l _ (first {x} {xs} r rs) us rest y c =
    let k = cut (long_tokens l) y in
    app-by r rs (λ e. long-again l us k.between k.first e) (round-shown (listed mark.Comma Free (map exp_tokens (x ∷ xs))) k.second)

app-reads : (l : Long) (ts : List Exp) → OneOrMore ExpReads ts → ExpReads (exp.App l ts)
app-reads l ts rs = even (exp.App l ts) _ (fold.exp-App Printed exp_at l ts) refl refl (no-tuple (exp.App l ts) _ shape.Other (fold.exp-App Exp plain_exp_at l ts) (fold.exp-App Shape exp_shape_at (plain_long l) (map plain_exp ts)) (λ e. cc)) (app-again l ts rs)

-- more items than one
tuple-by : {t u : Exp} {ts xs : List Exp} {us vs rest : List Spot} {p q : Place} → Again plain_exp IsExp t us vs → IsMoreExps vs xs (sign mark.CloseRound q ∷ rest) → map plain_exp xs ≡ map plain_exp (u ∷ ts) → Again (map plain_exp) IsExpTuple (t ∷ u ∷ ts) (sign mark.OpenRound p ∷ us) rest
tuple-by a (s.no_more_exps e) q = absurd (cc q)
tuple-by a (s.more_exps {t = x} {ts = xs} b c) q = record { tree = a.tree ∷ x ∷ xs; reads = s.two_exps a.reads b c; same = together a.same q }

tuple-from : {t u : Exp} {ts : List Exp} {us rest : List Spot} → ExpReads t → ExpReads u → Each ExpReads ts → InRound (listed mark.Comma Free (map exp_tokens (t ∷ u ∷ ts))) us rest → Again (map plain_exp) IsExpTuple (t ∷ u ∷ ts) us rest
tuple-from r v rs (in_round_brackets {q} {rest} x) = let f = exps-again r (also v rs) x (encloses-round q rest) in tuple-by f.first f.others.reads f.others.same

tuple-again : {t u : Exp} {ts : List Exp} → ExpReads t → ExpReads u → Each ExpReads ts → (us rest : List Spot) → Shows (tupled (map exp_tokens (t ∷ u ∷ ts))) us rest → Again (map plain_exp) IsExpTuple (t ∷ u ∷ ts) us rest
tuple-again {t} {u} {ts} r v rs us rest x = tuple-from r v rs (round-shown (listed mark.Comma Free (map exp_tokens (t ∷ u ∷ ts))) x)

tuple-item : {t u : Exp} {ts : List Exp} {us rest : List Spot} → Again (map plain_exp) IsExpTuple (t ∷ u ∷ ts) us rest → Again plain_exp IsEapp (exp.Tuple (t ∷ u ∷ ts)) us rest
tuple-item {t} {u} {ts} a = record { tree = exp.Tuple a.tree; reads = s.atom (s.tuple a.reads); same = same-Tuple a.tree (t ∷ u ∷ ts) a.same }

-- one expression in brackets is no bare tuple
bracket-alone : {us rest others : List Spot} {p q : Place} {t : Exp} {ts : List Exp} → IsExp us t (sign mark.CloseRound q ∷ rest) → IsExpTuple (sign mark.OpenRound p ∷ us) ts others → ⊥
bracket-alone a (s.two_exps b c d) = apart (exp-one a b).1

in-brackets : {t : Exp} {us rest : List Spot} {ts : List Token} → ((vs others : List Spot) → Shows ts vs others → Closes others → Again plain_exp IsExp t vs others) → Closes rest → InRound ts us rest → Again plain_exp IsResult t us rest
in-brackets h c (in_round_brackets {q} {us} {rest} x) =
    let a = h us (sign mark.CloseRound q ∷ rest) x (encloses-round q rest).closes in
    record { tree = a.tree; reads = s.one_exp (s.chain (s.atom (s.bracket a.reads)) (s.no_eapp c.chain)) (λ ts tup. bracket-alone a.reads tup); same = a.same }

tuple-reads : {t u : Exp} {ts : List Exp} → ExpReads t → ExpReads u → Each ExpReads ts → ExpReads (exp.Tuple (t ∷ u ∷ ts))
tuple-reads {t} {u} {ts} r v rs =
    let e = fold.exp-Tuple Printed exp_at (t ∷ u ∷ ts) in
    let all : List Token = tupled (map exp_tokens (t ∷ u ∷ ts)) in
    let free_is : free_tokens (exp.Tuple (t ∷ u ∷ ts)) ≡ all = ap (λ (q : Printed). q Free) e in
    let item_is : item_tokens (exp.Tuple (t ∷ u ∷ ts)) ≡ all = ap (λ (q : Printed). q Item) e in
    let result_is : result_tokens (exp.Tuple (t ∷ u ∷ ts)) ≡ in_round all = ap (λ (q : Printed). q OnlyResult) e in
    record {
      free = λ us rest x c. alone c (tuple-item (tuple-again r v rs us rest (rw free_is at x)));
      item = λ us rest x c. tuple-item (tuple-again r v rs us rest (rw item_is at x));
      result = λ us rest x c. in-brackets (λ vs others y d. alone d (tuple-item (tuple-again r v rs vs others y))) c (round-shown all (rw result_is at x));
    }

-- a list
list-by : {t : Exp} {ts : List Exp} {us rest : List Spot} → ExpReads t → Each ExpReads ts → InSquare (listed mark.Comma Free (map exp_tokens (t ∷ ts))) us rest → Again plain_exp IsEapp (exp.List (t ∷ ts)) us rest
list-by {t} {ts} r rs (in_square_brackets {q} {rest} x) =
    let f = exps-again r rs x (encloses-square q rest) in
    record {
      tree = exp.List (f.first.tree ∷ f.others.tree);
      reads = s.atom (s.simple (s.list (s.some_exps f.first.reads f.others.reads)));
      same = same-List (f.first.tree ∷ f.others.tree) (t ∷ ts) (together f.first.same f.others.same);
    }

list-again : (ts : List Exp) → Each ExpReads ts → (us rest : List Spot) → Shows (in_square (listed mark.Comma Free (map exp_tokens ts))) us rest → Stops rest → Again plain_exp IsEapp (exp.List ts) us rest
list-again [] e _ _ (shown (shown ended)) c = record { tree = exp.List []; reads = s.atom (s.simple s.no_list); same = refl }
list-again (t ∷ ts) (also r rs) us rest x c = list-by r rs (square-shown (listed mark.Comma Free (map exp_tokens (t ∷ ts))) x)

list-reads : (ts : List Exp) → Each ExpReads ts → ExpReads (exp.List ts)
list-reads ts rs = even (exp.List ts) _ (fold.exp-List Printed exp_at ts) refl refl (no-tuple (exp.List ts) _ shape.Other (fold.exp-List Exp plain_exp_at ts) (fold.exp-List Shape exp_shape_at (map plain_exp ts)) (λ e. cc)) (list-again ts rs)

-- a chain
chain-by : {t : Exp} (u : Exp) (ts : List Exp) {xs : List Exp} {us vs rest : List Spot} → Again plain_exp IsEapp t us vs → IsEapps vs xs rest → map plain_exp xs ≡ map plain_exp (u ∷ ts) → Again plain_exp IsExp (exp.Cons (t ∷ u ∷ ts)) us rest
chain-by u ts a (s.no_eapp e) q = absurd (cc q)
chain-by {t} u ts a (s.more_eapps {t = x} {ts = xs} b c) q = record { tree = exp.Cons (a.tree ∷ x ∷ xs); reads = s.chain a.reads (s.more_eapps b c); same = same-Cons (a.tree ∷ x ∷ xs) (t ∷ u ∷ ts) (together a.same q) }

chain-again : {t u : Exp} {ts : List Exp} → ExpReads t → ExpReads u → Each ExpReads ts → (us rest : List Spot) → Shows (listed mark.TwoColons Item (map exp_tokens (t ∷ u ∷ ts))) us rest → Closes rest → Again plain_exp IsExp (exp.Cons (t ∷ u ∷ ts)) us rest
chain-again {t} {u} {ts} r v rs us rest x c =
    let f = separated-again plain_exp IsEapp IsEapps item_tokens (token.Sign mark.TwoColons) Stops Closes
    (λ us e. s.no_eapp e.chain) (λ us vs rest p t ts a b. s.more_eapps a b) (λ us e. e.stops) stops-chain
    t (u ∷ ts) r.item (each-map (λ y h. h.item) (also v rs)) (listed-shown mark.TwoColons Item exp_tokens (t ∷ u ∷ ts) x) c in
    chain-by u ts f.first f.others.reads f.others.same

bracket-item : {t : Exp} {us rest : List Spot} {ts : List Token} → ((vs others : List Spot) → Shows ts vs others → Closes others → Again plain_exp IsExp t vs others) → InRound ts us rest → Again plain_exp IsEapp t us rest
bracket-item h (in_round_brackets {q} {us} {rest} x) =
    let a = h us (sign mark.CloseRound q ∷ rest) x (encloses-round q rest).closes in
    record { tree = a.tree; reads = s.atom (s.bracket a.reads); same = a.same }

chain-reads : {t u : Exp} {ts : List Exp} → ExpReads t → ExpReads u → Each ExpReads ts → ExpReads (exp.Cons (t ∷ u ∷ ts))
chain-reads {t} {u} {ts} r v rs =
    let e = fold.exp-Cons Printed exp_at (t ∷ u ∷ ts) in
    let all : List Token = listed mark.TwoColons Item (map exp_tokens (t ∷ u ∷ ts)) in
    let free_is : free_tokens (exp.Cons (t ∷ u ∷ ts)) ≡ all = ap (λ (q : Printed). q Free) e in
    let item_is : item_tokens (exp.Cons (t ∷ u ∷ ts)) ≡ in_round all = ap (λ (q : Printed). q Item) e in
    let result_is : result_tokens (exp.Cons (t ∷ u ∷ ts)) ≡ all = ap (λ (q : Printed). q OnlyResult) e in
    let none_such = no-tuple (exp.Cons (t ∷ u ∷ ts)) _ shape.Chain (fold.exp-Cons Exp plain_exp_at (t ∷ u ∷ ts)) (fold.exp-Cons Shape exp_shape_at (map plain_exp (t ∷ u ∷ ts))) (λ e. cc) in
    record {
      free = λ us rest x c. chain-again r v rs us rest (rw free_is at x) c;
      item = λ us rest x c. bracket-item (chain-again r v rs) (round-shown all (rw item_is at x));
      result = λ us rest x c. one-result none_such c (chain-again r v rs us rest (rw result_is at x) c);
    }

-- ---- each expression that derives

mutual
  pub exp-reads : {us rest : List Spot} {t : Exp} → IsExp us t rest → ExpReads t
  exp-reads (s.chain a (s.no_eapp e)) = eapp-reads a
  exp-reads (s.chain a (s.more_eapps b c)) = chain-reads (eapp-reads a) (eapp-reads b) (eapps-read c)

  eapps-read : {us rest : List Spot} {ts : List Exp} → IsEapps us ts rest → Each ExpReads ts
  eapps-read (s.no_eapp e) = none
  eapps-read (s.more_eapps a b) = also (eapp-reads a) (eapps-read b)

  eapp-reads : {us rest : List Spot} {t : Exp} → IsEapp us t rest → ExpReads t
  eapp-reads (s.name {l} a e) = name-reads l
  eapp-reads (s.applied {l} {ts} a b) = app-reads l ts (eargs1-read b)
  eapp-reads (s.atom a) = eatom-reads a

  pub eargs1-read : {us rest : List Spot} {ts : List Exp} → IsEargs1 us ts rest → OneOrMore ExpReads ts
  eargs1-read (s.bracketed a) = exps-read a
  eargs1-read (s.an_atom a) = first (eatom1-reads a) none
  eargs1-read (s.a_long {l} a) = first (name-reads l) none

  eatom-reads : {us rest : List Spot} {t : Exp} → IsEatom us t rest → ExpReads t
  eatom-reads (s.simple a) = eatom1-reads a
  eatom-reads (s.bracket a) = exp-reads a
  eatom-reads (s.tuple (s.two_exps a b c)) = tuple-reads (exp-reads a) (exp-reads b) (more-exps-read c)

  eatom1-reads : {us rest : List Spot} {t : Exp} → IsEatom1 us t rest → ExpReads t
  eatom1-reads (s.lit {l}) = lit-reads l
  eatom1-reads s.no_list = list-reads [] none
  eatom1-reads (s.list {ts} a) = list-reads ts (each-of (exps-read a))

  exps-read : {us rest : List Spot} {ts : List Exp} → IsExps us ts rest → OneOrMore ExpReads ts
  exps-read (s.some_exps a b) = first (exp-reads a) (more-exps-read b)

  more-exps-read : {us rest : List Spot} {ts : List Exp} → IsMoreExps us ts rest → Each ExpReads ts
  more-exps-read (s.no_more_exps e) = none
  more-exps-read (s.more_exps a b) = also (exp-reads a) (more-exps-read b)

-- ---- arguments and results

pub eargs-read : {us rest : List Spot} {ts : List Exp} → IsEargs us ts rest → Each ExpReads ts
eargs-read (s.no_eargs e) = none
eargs-read s.empty_eargs = none
eargs-read (s.eargs1 a) = each-of (eargs1-read a)

pub eseq-read : {us rest : List Spot} {ts : List Exp} → IsEseq us ts rest → Each ExpReads ts
eseq-read s.no_exps = none
eseq-read (s.exps (s.two_exps a b c) e) = also (exp-reads a) (also (exp-reads b) (more-exps-read c))
eseq-read (s.one_exp a h) = also (exp-reads a) none

eargs-by : {t : Exp} {ts : List Exp} {us rest : List Spot} → ExpReads t → Each ExpReads ts → InRound (listed mark.Comma Free (map exp_tokens (t ∷ ts))) us rest → Again (map plain_exp) IsEargs (t ∷ ts) us rest
eargs-by r rs (in_round_brackets {q} {rest} x) =
    let f = exps-again r rs x (encloses-round q rest) in
    record { tree = f.first.tree ∷ f.others.tree; reads = s.eargs1 (s.bracketed (s.some_exps f.first.reads f.others.reads)); same = together f.first.same f.others.same }

pub eargs-again : (ts : List Exp) {us rest : List Spot} → Each ExpReads ts → Shows (tupled (map exp_tokens ts)) us rest → Again (map plain_exp) IsEargs ts us rest
eargs-again [] e (shown (shown ended)) = record { tree = []; reads = s.empty_eargs; same = refl }
eargs-again (t ∷ ts) (also r rs) x = eargs-by r rs (round-shown (listed mark.Comma Free (map exp_tokens (t ∷ ts))) x)

-- one result, and more
pub result-again : {t : Exp} {us rest : List Spot} → ExpReads t → Shows (exp_tokens t OnlyResult) us rest → Closes rest → Again (map plain_exp) IsEseq (t ∷ []) us rest
result-again {us} {rest} r x c = let a = r.result us rest x c in record { tree = a.tree ∷ []; reads = a.reads; same = together a.same refl }

pub results-again : {t u : Exp} {ts : List Exp} {us rest : List Spot} → ExpReads t → ExpReads u → Each ExpReads ts → Shows (tupled (map exp_tokens (t ∷ u ∷ ts))) us rest → Closes rest → Again (map plain_exp) IsEseq (t ∷ u ∷ ts) us rest
results-again {us} {rest} r v rs x c = let a = tuple-again r v rs us rest x in record { tree = a.tree; reads = s.exps a.reads c.chain; same = a.same }
