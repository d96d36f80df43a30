-- What is printed of a pattern is read as that pattern, in each seat.
use Rattle.std.proofs.Common.{◌≡◌, ℕ, List, [], ◌∷◌, ◌++◌, map, refl, ap, sym, ◌∙◌}
use Rattle.rml_base.specs.declared.place.Place.{Place}
use Rattle.rml_syntax.specs.declared.token.Spot.{Spot}
use Rattle.rml_syntax.specs.declared.token.Token.{Token}
use Rattle.rml_syntax.specs.declared.token.Token.TheVariants as token
use Rattle.rml_syntax.specs.declared.token.Key.TheVariants as key
use Rattle.rml_syntax.specs.declared.token.Lit.{Lit}
use Rattle.rml_syntax.specs.declared.token.Mark.TheVariants as mark
use Rattle.rml_syntax.specs.declared.rules.Long.{Long}
use Rattle.rml_syntax.specs.declared.rules.Pattern.{Pattern, fold-Pattern}
use Rattle.rml_syntax.specs.declared.rules.Pattern.TheVariants as pat
use Rattle.rml_grammar.specs.Tokens.{sign, Lacks, LacksWord}
use Rattle.rml_grammar.specs.Lacks.{LacksBinder}
use Rattle.rml_grammar.specs.SpelledNames.{IsLong}
use Rattle.rml_grammar.specs.SpelledNames as long
use Rattle.rml_grammar.specs.SpelledPatterns as s
use Rattle.rml_grammar.specs.SpelledPatterns.{IsPat, IsPcons, IsPapps, IsPapp, IsPargs1, IsPatom, IsPatTuple, IsPatom1, IsPats, IsMorePats, IsPargs, IsPseq}
use Rattle.rml_print.specs.declared.seats.Seat.TheVariants.{Free, Item, BehindAs, OnlyResult}
use Rattle.rml_print.specs.declared.seats.Shape.{Shape}
use Rattle.rml_print.specs.declared.seats.Shape.TheVariants as shape
use Rattle.rml_print.specs.Parts.{in_round, in_square, listed, tupled, long_tokens, Printed}
use Rattle.rml_print.specs.Patterns.{pattern_tokens, pattern_at}
use Rattle.rml_print.specs.Plain.{nowhere, plain_long, plain_pattern, plain_pattern_at}
use Rattle.rml_print.specs.Seats.{pattern_shape_at}
use Rattle.rml_print.proofs.Shown.{Shows, ended, shown, cut, InRound, in_round_brackets, InSquare, in_square_brackets, round-shown, square-shown, Stops, stops-chain, Closes, closes-comma, Encloses, encloses-round, encloses-square, Again, ReadsAgain, Each, none, also, OneOrMore, first, each-of, each-map, together, First, separated-again, listed-shown, long-again}
use Rattle.rml_print.proofs.OneReading.{pat-one, apart}
use Rattle.rml_grammar.proofs.Callers as fold

-- one result
abbrev IsResult : List Spot → Pattern → List Spot → Type 0
IsResult us t rest = IsPseq us (t ∷ []) rest

-- a chain, or an item of one, that does not begin with a name and an `as`
abbrev IsChain : List Spot → Pattern → List Spot → Type 0
IsChain us t rest = IsPcons us t rest × LacksBinder us

abbrev IsItem : List Spot → Pattern → List Spot → Type 0
IsItem us t rest = IsPapp us t rest × LacksBinder us

abbrev free_tokens : Pattern → List Token
free_tokens t = pattern_tokens t Free

abbrev behind_tokens : Pattern → List Token
behind_tokens t = pattern_tokens t BehindAs

abbrev item_tokens : Pattern → List Token
item_tokens t = pattern_tokens t Item

abbrev result_tokens : Pattern → List Token
result_tokens t = pattern_tokens t OnlyResult

-- what is printed of it is read again, in each seat
pub record PatternReads (t : Pattern) : Type 0 where
  pub free : ReadsAgain plain_pattern IsPat free_tokens Closes t
  pub behind : ReadsAgain plain_pattern IsChain behind_tokens Closes t
  pub item : ReadsAgain plain_pattern IsItem item_tokens Stops t
  pub result : ReadsAgain plain_pattern IsResult result_tokens Closes t

-- ---- the same but for places

same-Name : (l m : Long) → plain_long l ≡ plain_long m → plain_pattern (pat.Name l) ≡ plain_pattern (pat.Name m)
same-Name l m p = fold.pattern-Name Pattern plain_pattern_at l ∙ ap (λ (x : Long). pat.Name x) p ∙ sym (fold.pattern-Name Pattern plain_pattern_at m)

same-App : (l m : Long) (es fs : List Pattern) → plain_long l ≡ plain_long m → map plain_pattern es ≡ map plain_pattern fs → plain_pattern (pat.App l es) ≡ plain_pattern (pat.App m fs)
same-App l m es fs p q = fold.pattern-App Pattern plain_pattern_at l es ∙ ap (λ (x : Long). pat.App x (map plain_pattern es)) p ∙ ap (λ (x : List Pattern). pat.App (plain_long m) x) q ∙ sym (fold.pattern-App Pattern plain_pattern_at m fs)

same-Tuple : (es fs : List Pattern) → map plain_pattern es ≡ map plain_pattern fs → plain_pattern (pat.Tuple es) ≡ plain_pattern (pat.Tuple fs)
same-Tuple es fs q = fold.pattern-Tuple Pattern plain_pattern_at es ∙ ap (λ (x : List Pattern). pat.Tuple x) q ∙ sym (fold.pattern-Tuple Pattern plain_pattern_at fs)

same-List : (es fs : List Pattern) → map plain_pattern es ≡ map plain_pattern fs → plain_pattern (pat.List es) ≡ plain_pattern (pat.List fs)
same-List es fs q = fold.pattern-List Pattern plain_pattern_at es ∙ ap (λ (x : List Pattern). pat.List x) q ∙ sym (fold.pattern-List Pattern plain_pattern_at fs)

same-Cons : (es fs : List Pattern) → map plain_pattern es ≡ map plain_pattern fs → plain_pattern (pat.Cons es) ≡ plain_pattern (pat.Cons fs)
same-Cons es fs q = fold.pattern-Cons Pattern plain_pattern_at es ∙ ap (λ (x : List Pattern). pat.Cons x) q ∙ sym (fold.pattern-Cons Pattern plain_pattern_at fs)

same-Bind : (n : ℕ) (p q : Place) (t u : Pattern) → plain_pattern t ≡ plain_pattern u → plain_pattern (pat.Bind n p t) ≡ plain_pattern (pat.Bind n q u)
same-Bind n p q t u e = fold.pattern-Bind Pattern plain_pattern_at n p t ∙ ap (λ (x : Pattern). pat.Bind n nowhere x) e ∙ sym (fold.pattern-Bind Pattern plain_pattern_at n q u)

-- what is no tuple without its places is none
abbrev NoTuple : Pattern → Type 0
NoTuple t = (ts : List Pattern) → plain_pattern (pat.Tuple ts) ≡ plain_pattern t → ⊥

abbrev kind : Pattern → Shape
kind = fold-Pattern Shape pattern_shape_at

no-tuple : (t u : Pattern) (k : Shape) → plain_pattern t ≡ u → kind u ≡ k → (shape.Tuple ≡ k → ⊥) → NoTuple t
no-tuple t u k is has differs ts e =
    let tuple : plain_pattern (pat.Tuple ts) ≡ pat.Tuple (map plain_pattern ts) = fold.pattern-Tuple Pattern plain_pattern_at ts in
    differs (sym (fold.pattern-Tuple Shape pattern_shape_at (map plain_pattern ts)) ∙ ap kind (sym tuple ∙ e ∙ is) ∙ has)

-- ---- one tree from what is printed of it

-- a name that is no binder
binder-long : {us rest : List Spot} {l : Long} → IsLong us l rest → LacksWord key.KAs rest → LacksBinder us
binder-long (long.alone e) w = w
binder-long long.dotted w = refl

binder-tuple : {us rest : List Spot} {ts : List Pattern} → IsPatTuple us ts rest → LacksBinder us
binder-tuple (s.two_pats a b c) = tt

-- an item alone is a chain
alone : {t : Pattern} {us rest : List Spot} → Closes rest → Again plain_pattern IsItem t us rest → Again plain_pattern IsChain t us rest
alone c a = record { tree = a.tree; reads = (s.chain a.reads.0 (s.no_papp c.chain), a.reads.1); same = a.same }

-- which is a pattern
chained : {t : Pattern} {us rest : List Spot} → Again plain_pattern IsChain t us rest → Again plain_pattern IsPat t us rest
chained a = record { tree = a.tree; reads = s.unbound a.reads.1 a.reads.0; same = a.same }

tuple-pattern : {ts : List Pattern} {us rest : List Spot} → Closes rest → IsPatTuple us ts rest → IsPat us (pat.Tuple ts) rest
tuple-pattern c a = s.unbound (binder-tuple a) (s.chain (s.atom (s.tuple a)) (s.no_papp c.chain))

-- which is one result, where it is no tuple
one-result : {t : Pattern} {us rest : List Spot} → NoTuple t → Closes rest → Again plain_pattern IsPat t us rest → Again plain_pattern IsResult t us rest
one-result {t} none_such c a = record {
  tree = a.tree;
  reads = s.one_pat a.reads (λ ts tup. none_such ts (ap plain_pattern (sym (pat-one a.reads (tuple-pattern c tup)).0) ∙ a.same));
  same = a.same;
}

-- what prints the same in each seat
even : (t : Pattern) (p : Printed) → pattern_tokens t ≡ p → p Free ≡ p Item → p BehindAs ≡ p Item → p OnlyResult ≡ p Item → NoTuple t → ((us rest : List Spot) → Shows (p Item) us rest → Stops rest → Again plain_pattern IsItem t us rest) → PatternReads t
even t p e f b r none_such reads =
    let free_is : free_tokens t ≡ p Item = ap (λ (q : Printed). q Free) e ∙ f in
    let behind_is : behind_tokens t ≡ p Item = ap (λ (q : Printed). q BehindAs) e ∙ b in
    let item_is : item_tokens t ≡ p Item = ap (λ (q : Printed). q Item) e in
    let result_is : result_tokens t ≡ p Item = ap (λ (q : Printed). q OnlyResult) e ∙ r in
    record {
      free = λ us rest x c. chained (alone c (reads us rest (rw free_is at x) c.stops));
      behind = λ us rest x c. alone c (reads us rest (rw behind_is at x) c.stops);
      item = λ us rest x c. reads us rest (rw item_is at x) c;
      result = λ us rest x c. one-result none_such c (chained (alone c (reads us rest (rw result_is at x) c.stops)));
    }

any-again : (us rest : List Spot) → Shows (token.Sign mark.Wild ∷ []) us rest → Stops rest → Again plain_pattern IsItem pat.Any us rest
any-again _ _ (shown ended) c = record { tree = pat.Any; reads = (s.atom (s.simple s.any), tt); same = refl }

any-reads : PatternReads pat.Any
any-reads = even pat.Any _ (fold.pattern-Any Printed pattern_at) refl refl refl (no-tuple pat.Any _ shape.Other (fold.pattern-Any Pattern plain_pattern_at) (fold.pattern-Any Shape pattern_shape_at) (λ e. cc)) any-again

lit-again : (l : Lit) (us rest : List Spot) → Shows (token.Lit l ∷ []) us rest → Stops rest → Again plain_pattern IsItem (pat.Lit l) us rest
lit-again l _ _ (shown ended) c = record { tree = pat.Lit l; reads = (s.atom (s.simple s.lit), tt); same = refl }

lit-reads : (l : Lit) → PatternReads (pat.Lit l)
lit-reads l = even (pat.Lit l) _ (fold.pattern-Lit Printed pattern_at l) refl refl refl (no-tuple (pat.Lit l) _ shape.Other (fold.pattern-Lit Pattern plain_pattern_at l) (fold.pattern-Lit Shape pattern_shape_at l) (λ e. cc)) (lit-again l)

name-again : (l : Long) (us rest : List Spot) → Shows (long_tokens l) us rest → Stops rest → Again plain_pattern IsItem (pat.Name l) us rest
name-again l us rest x c = let a = long-again l us rest x c.dot in record { tree = pat.Name a.tree; reads = (s.name a.reads c.pargument, binder-long a.reads c.binder); same = same-Name a.tree l a.same }

name-reads : (l : Long) → PatternReads (pat.Name l)
name-reads l = even (pat.Name l) _ (fold.pattern-Name Printed pattern_at l) refl refl refl (no-tuple (pat.Name l) _ shape.Other (fold.pattern-Name Pattern plain_pattern_at l) (fold.pattern-Name Shape pattern_shape_at (plain_long l)) (λ e. cc)) (name-again l)

-- patterns with commas between them, and a bracket behind them
pats-again : {t : Pattern} {ts : List Pattern} {us rest : List Spot} → PatternReads t → Each PatternReads ts → Shows (listed mark.Comma Free (map pattern_tokens (t ∷ ts))) us rest → Encloses rest → First plain_pattern IsPat IsMorePats t ts us rest
pats-again {t} {ts} r rs x c =
    separated-again plain_pattern IsPat IsMorePats free_tokens (token.Sign mark.Comma) Closes Encloses
    (λ us e. s.no_more_pats e.comma) (λ us vs rest p t ts a b. s.more_pats a b) (λ us e. e.closes) closes-comma
    t ts r.free (each-map (λ y h. h.free) rs) (listed-shown mark.Comma Free pattern_tokens (t ∷ ts) x) c

app-by : {l : Long} {t : Pattern} {ts : List Pattern} {us vs rest : List Spot} → PatternReads t → Each PatternReads ts → (Lacks mark.Dot vs → Again plain_long IsLong l us vs) → InRound (listed mark.Comma Free (map pattern_tokens (t ∷ ts))) vs rest → Again plain_pattern IsItem (pat.App l (t ∷ ts)) us rest
app-by {l} {t} {ts} r rs long (in_round_brackets {q} {rest} x) =
    let a = long refl in
    let f = pats-again r rs x (encloses-round q rest) in
    record {
      tree = pat.App a.tree (f.first.tree ∷ f.others.tree);
      reads = (s.applied a.reads (s.bracketed (s.some_pats f.first.reads f.others.reads)), binder-long a.reads refl);
      same = same-App a.tree l (f.first.tree ∷ f.others.tree) (t ∷ ts) a.same (together f.first.same f.others.same);
    }

app-again : (l : Long) (ts : List Pattern) → OneOrMore PatternReads ts → (us rest : List Spot) → Shows (long_tokens l ++ tupled (map pattern_tokens ts)) us rest → Stops rest → Again plain_pattern IsItem (pat.App l ts) us rest
app-again l _ (first {x} {xs} r rs) us rest y c =
    let k = cut (long_tokens l) y in
    app-by r rs (λ e. long-again l us k.between k.first e) (round-shown (listed mark.Comma Free (map pattern_tokens (x ∷ xs))) k.second)

app-reads : (l : Long) (ts : List Pattern) → OneOrMore PatternReads ts → PatternReads (pat.App l ts)
app-reads l ts rs = even (pat.App l ts) _ (fold.pattern-App Printed pattern_at l ts) refl refl refl (no-tuple (pat.App l ts) _ shape.Other (fold.pattern-App Pattern plain_pattern_at l ts) (fold.pattern-App Shape pattern_shape_at (plain_long l) (map plain_pattern ts)) (λ e. cc)) (app-again l ts rs)

-- more items than one
tuple-by : {t u : Pattern} {ts xs : List Pattern} {us vs rest : List Spot} {p q : Place} → Again plain_pattern IsPat t us vs → IsMorePats vs xs (sign mark.CloseRound q ∷ rest) → map plain_pattern xs ≡ map plain_pattern (u ∷ ts) → Again (map plain_pattern) IsPatTuple (t ∷ u ∷ ts) (sign mark.OpenRound p ∷ us) rest
tuple-by a (s.no_more_pats e) q = absurd (cc q)
tuple-by a (s.more_pats {t = x} {ts = xs} b c) q = record { tree = a.tree ∷ x ∷ xs; reads = s.two_pats a.reads b c; same = together a.same q }

tuple-from : {t u : Pattern} {ts : List Pattern} {us rest : List Spot} → PatternReads t → PatternReads u → Each PatternReads ts → InRound (listed mark.Comma Free (map pattern_tokens (t ∷ u ∷ ts))) us rest → Again (map plain_pattern) IsPatTuple (t ∷ u ∷ ts) us rest
tuple-from r v rs (in_round_brackets {q} {rest} x) = let f = pats-again r (also v rs) x (encloses-round q rest) in tuple-by f.first f.others.reads f.others.same

tuple-again : {t u : Pattern} {ts : List Pattern} → PatternReads t → PatternReads u → Each PatternReads ts → (us rest : List Spot) → Shows (tupled (map pattern_tokens (t ∷ u ∷ ts))) us rest → Again (map plain_pattern) IsPatTuple (t ∷ u ∷ ts) us rest
tuple-again {t} {u} {ts} r v rs us rest x = tuple-from r v rs (round-shown (listed mark.Comma Free (map pattern_tokens (t ∷ u ∷ ts))) x)

tuple-item : {t u : Pattern} {ts : List Pattern} {us rest : List Spot} → Again (map plain_pattern) IsPatTuple (t ∷ u ∷ ts) us rest → Again plain_pattern IsItem (pat.Tuple (t ∷ u ∷ ts)) us rest
tuple-item {t} {u} {ts} a = record { tree = pat.Tuple a.tree; reads = (s.atom (s.tuple a.reads), binder-tuple a.reads); same = same-Tuple a.tree (t ∷ u ∷ ts) a.same }

-- one pattern in brackets is no bare tuple
bracket-alone : {us rest others : List Spot} {p q : Place} {t : Pattern} {ts : List Pattern} → IsPat us t (sign mark.CloseRound q ∷ rest) → IsPatTuple (sign mark.OpenRound p ∷ us) ts others → ⊥
bracket-alone a (s.two_pats b c d) = apart (pat-one a b).1

in-brackets : {t : Pattern} {us rest : List Spot} {ts : List Token} → ((vs others : List Spot) → Shows ts vs others → Closes others → Again plain_pattern IsPat t vs others) → Closes rest → InRound ts us rest → Again plain_pattern IsResult t us rest
in-brackets h c (in_round_brackets {q} {us} {rest} x) =
    let a = h us (sign mark.CloseRound q ∷ rest) x (encloses-round q rest).closes in
    record { tree = a.tree; reads = s.one_pat (s.unbound tt (s.chain (s.atom (s.bracket a.reads)) (s.no_papp c.chain))) (λ ts tup. bracket-alone a.reads tup); same = a.same }

tuple-reads : {t u : Pattern} {ts : List Pattern} → PatternReads t → PatternReads u → Each PatternReads ts → PatternReads (pat.Tuple (t ∷ u ∷ ts))
tuple-reads {t} {u} {ts} r v rs =
    let e = fold.pattern-Tuple Printed pattern_at (t ∷ u ∷ ts) in
    let all : List Token = tupled (map pattern_tokens (t ∷ u ∷ ts)) in
    let free_is : free_tokens (pat.Tuple (t ∷ u ∷ ts)) ≡ all = ap (λ (q : Printed). q Free) e in
    let behind_is : behind_tokens (pat.Tuple (t ∷ u ∷ ts)) ≡ all = ap (λ (q : Printed). q BehindAs) e in
    let item_is : item_tokens (pat.Tuple (t ∷ u ∷ ts)) ≡ all = ap (λ (q : Printed). q Item) e in
    let result_is : result_tokens (pat.Tuple (t ∷ u ∷ ts)) ≡ in_round all = ap (λ (q : Printed). q OnlyResult) e in
    record {
      free = λ us rest x c. chained (alone c (tuple-item (tuple-again r v rs us rest (rw free_is at x))));
      behind = λ us rest x c. alone c (tuple-item (tuple-again r v rs us rest (rw behind_is at x)));
      item = λ us rest x c. tuple-item (tuple-again r v rs us rest (rw item_is at x));
      result = λ us rest x c. in-brackets (λ vs others y d. chained (alone d (tuple-item (tuple-again r v rs vs others y)))) c (round-shown all (rw result_is at x));
    }

-- a list
list-by : {t : Pattern} {ts : List Pattern} {us rest : List Spot} → PatternReads t → Each PatternReads ts → InSquare (listed mark.Comma Free (map pattern_tokens (t ∷ ts))) us rest → Again plain_pattern IsItem (pat.List (t ∷ ts)) us rest
list-by {t} {ts} r rs (in_square_brackets {q} {rest} x) =
    let f = pats-again r rs x (encloses-square q rest) in
    record {
      tree = pat.List (f.first.tree ∷ f.others.tree);
      reads = (s.atom (s.simple (s.list (s.some_pats f.first.reads f.others.reads))), tt);
      same = same-List (f.first.tree ∷ f.others.tree) (t ∷ ts) (together f.first.same f.others.same);
    }

list-again : (ts : List Pattern) → Each PatternReads ts → (us rest : List Spot) → Shows (in_square (listed mark.Comma Free (map pattern_tokens ts))) us rest → Stops rest → Again plain_pattern IsItem (pat.List ts) us rest
list-again [] e _ _ (shown (shown ended)) c = record { tree = pat.List []; reads = (s.atom (s.simple s.no_list), tt); same = refl }
list-again (t ∷ ts) (also r rs) us rest x c = list-by r rs (square-shown (listed mark.Comma Free (map pattern_tokens (t ∷ ts))) x)

list-reads : (ts : List Pattern) → Each PatternReads ts → PatternReads (pat.List ts)
list-reads ts rs = even (pat.List ts) _ (fold.pattern-List Printed pattern_at ts) refl refl refl (no-tuple (pat.List ts) _ shape.Other (fold.pattern-List Pattern plain_pattern_at ts) (fold.pattern-List Shape pattern_shape_at (map plain_pattern ts)) (λ e. cc)) (list-again ts rs)

-- a chain
chain-by : {t : Pattern} (u : Pattern) (ts : List Pattern) {xs : List Pattern} {us vs rest : List Spot} → Again plain_pattern IsItem t us vs → IsPapps vs xs rest → map plain_pattern xs ≡ map plain_pattern (u ∷ ts) → Again plain_pattern IsChain (pat.Cons (t ∷ u ∷ ts)) us rest
chain-by u ts a (s.no_papp e) q = absurd (cc q)
chain-by {t} u ts a (s.more_papps {t = x} {ts = xs} b c) q = record { tree = pat.Cons (a.tree ∷ x ∷ xs); reads = (s.chain a.reads.0 (s.more_papps b c), a.reads.1); same = same-Cons (a.tree ∷ x ∷ xs) (t ∷ u ∷ ts) (together a.same q) }

chain-again : {t u : Pattern} {ts : List Pattern} → PatternReads t → PatternReads u → Each PatternReads ts → (us rest : List Spot) → Shows (listed mark.TwoColons Item (map pattern_tokens (t ∷ u ∷ ts))) us rest → Closes rest → Again plain_pattern IsChain (pat.Cons (t ∷ u ∷ ts)) us rest
chain-again {t} {u} {ts} r v rs us rest x c =
    let f = separated-again plain_pattern IsItem IsPapps item_tokens (token.Sign mark.TwoColons) Stops Closes
    (λ us e. s.no_papp e.chain) (λ us vs rest p t ts a b. s.more_papps a.0 b) (λ us e. e.stops) stops-chain
    t (u ∷ ts) r.item (each-map (λ y h. h.item) (also v rs)) (listed-shown mark.TwoColons Item pattern_tokens (t ∷ u ∷ ts) x) c in
    chain-by u ts f.first f.others.reads f.others.same

bracket-item : {t : Pattern} {us rest : List Spot} {ts : List Token} → ((vs others : List Spot) → Shows ts vs others → Closes others → Again plain_pattern IsPat t vs others) → InRound ts us rest → Again plain_pattern IsItem t us rest
bracket-item h (in_round_brackets {q} {us} {rest} x) =
    let a = h us (sign mark.CloseRound q ∷ rest) x (encloses-round q rest).closes in
    record { tree = a.tree; reads = (s.atom (s.bracket a.reads), tt); same = a.same }

chain-reads : {t u : Pattern} {ts : List Pattern} → PatternReads t → PatternReads u → Each PatternReads ts → PatternReads (pat.Cons (t ∷ u ∷ ts))
chain-reads {t} {u} {ts} r v rs =
    let e = fold.pattern-Cons Printed pattern_at (t ∷ u ∷ ts) in
    let all : List Token = listed mark.TwoColons Item (map pattern_tokens (t ∷ u ∷ ts)) in
    let free_is : free_tokens (pat.Cons (t ∷ u ∷ ts)) ≡ all = ap (λ (q : Printed). q Free) e in
    let behind_is : behind_tokens (pat.Cons (t ∷ u ∷ ts)) ≡ all = ap (λ (q : Printed). q BehindAs) e in
    let item_is : item_tokens (pat.Cons (t ∷ u ∷ ts)) ≡ in_round all = ap (λ (q : Printed). q Item) e in
    let result_is : result_tokens (pat.Cons (t ∷ u ∷ ts)) ≡ all = ap (λ (q : Printed). q OnlyResult) e in
    let none_such = no-tuple (pat.Cons (t ∷ u ∷ ts)) _ shape.Chain (fold.pattern-Cons Pattern plain_pattern_at (t ∷ u ∷ ts)) (fold.pattern-Cons Shape pattern_shape_at (map plain_pattern (t ∷ u ∷ ts))) (λ e. cc) in
    record {
      free = λ us rest x c. chained (chain-again r v rs us rest (rw free_is at x) c);
      behind = λ us rest x c. chain-again r v rs us rest (rw behind_is at x) c;
      item = λ us rest x c. bracket-item (λ vs others y d. chained (chain-again r v rs vs others y d)) (round-shown all (rw item_is at x));
      result = λ us rest x c. one-result none_such c (chained (chain-again r v rs us rest (rw result_is at x) c));
    }

-- a pattern behind a name and an `as`
bind-again : (n : ℕ) (at : Place) {t : Pattern} → PatternReads t → (us rest : List Spot) → Shows (token.Name n ∷ token.Word key.KAs ∷ pattern_tokens t BehindAs) us rest → Closes rest → Again plain_pattern IsPat (pat.Bind n at t) us rest
bind-again n at {t} r _ _ (shown {p} (shown {us = vs} {rest = ws} x)) c =
    let a = r.behind vs ws x c in
    record { tree = pat.Bind n p a.tree; reads = s.bound a.reads.0; same = same-Bind n p at a.tree t a.same }

bind-reads : (n : ℕ) (at : Place) {t : Pattern} → PatternReads t → PatternReads (pat.Bind n at t)
bind-reads n at {t} r =
    let e = fold.pattern-Bind Printed pattern_at n at t in
    let all : List Token = token.Name n ∷ token.Word key.KAs ∷ pattern_tokens t BehindAs in
    let free_is : free_tokens (pat.Bind n at t) ≡ all = ap (λ (q : Printed). q Free) e in
    let behind_is : behind_tokens (pat.Bind n at t) ≡ in_round all = ap (λ (q : Printed). q BehindAs) e in
    let item_is : item_tokens (pat.Bind n at t) ≡ in_round all = ap (λ (q : Printed). q Item) e in
    let result_is : result_tokens (pat.Bind n at t) ≡ all = ap (λ (q : Printed). q OnlyResult) e in
    let none_such = no-tuple (pat.Bind n at t) _ shape.Binding (fold.pattern-Bind Pattern plain_pattern_at n at t) (fold.pattern-Bind Shape pattern_shape_at n nowhere (plain_pattern t)) (λ e. cc) in
    record {
      free = λ us rest x c. bind-again n at r us rest (rw free_is at x) c;
      behind = λ us rest x c. alone c (bracket-item (bind-again n at r) (round-shown all (rw behind_is at x)));
      item = λ us rest x c. bracket-item (bind-again n at r) (round-shown all (rw item_is at x));
      result = λ us rest x c. one-result none_such c (bind-again n at r us rest (rw result_is at x) c);
    }

-- ---- each pattern that derives

mutual
  pub pattern-reads : {us rest : List Spot} {t : Pattern} → IsPat us t rest → PatternReads t
  pattern-reads (s.bound {n} {p} a) = bind-reads n p (pcons-reads a)
  pattern-reads (s.unbound e a) = pcons-reads a

  pcons-reads : {us rest : List Spot} {t : Pattern} → IsPcons us t rest → PatternReads t
  pcons-reads (s.chain a (s.no_papp e)) = papp-reads a
  pcons-reads (s.chain a (s.more_papps b c)) = chain-reads (papp-reads a) (papp-reads b) (papps-read c)

  papps-read : {us rest : List Spot} {ts : List Pattern} → IsPapps us ts rest → Each PatternReads ts
  papps-read (s.no_papp e) = none
  papps-read (s.more_papps a b) = also (papp-reads a) (papps-read b)

  papp-reads : {us rest : List Spot} {t : Pattern} → IsPapp us t rest → PatternReads t
  papp-reads (s.name {l} a e) = name-reads l
  papp-reads (s.applied {l} {ts} a b) = app-reads l ts (pargs1-read b)
  papp-reads (s.atom a) = patom-reads a

  pub pargs1-read : {us rest : List Spot} {ts : List Pattern} → IsPargs1 us ts rest → OneOrMore PatternReads ts
  pargs1-read (s.bracketed a) = pats-read a
  pargs1-read (s.an_atom a) = first (patom1-reads a) none
  pargs1-read (s.a_long {l} a) = first (name-reads l) none

  patom-reads : {us rest : List Spot} {t : Pattern} → IsPatom us t rest → PatternReads t
  patom-reads (s.simple a) = patom1-reads a
  patom-reads (s.bracket a) = pattern-reads a
  patom-reads (s.tuple (s.two_pats a b c)) = tuple-reads (pattern-reads a) (pattern-reads b) (more-pats-read c)

  patom1-reads : {us rest : List Spot} {t : Pattern} → IsPatom1 us t rest → PatternReads t
  patom1-reads s.any = any-reads
  patom1-reads (s.lit {l}) = lit-reads l
  patom1-reads s.no_list = list-reads [] none
  patom1-reads (s.list {ts} a) = list-reads ts (each-of (pats-read a))

  pats-read : {us rest : List Spot} {ts : List Pattern} → IsPats us ts rest → OneOrMore PatternReads ts
  pats-read (s.some_pats a b) = first (pattern-reads a) (more-pats-read b)

  more-pats-read : {us rest : List Spot} {ts : List Pattern} → IsMorePats us ts rest → Each PatternReads ts
  more-pats-read (s.no_more_pats e) = none
  more-pats-read (s.more_pats a b) = also (pattern-reads a) (more-pats-read b)

-- ---- arguments and results

pub pargs-read : {us rest : List Spot} {ts : List Pattern} → IsPargs us ts rest → Each PatternReads ts
pargs-read (s.no_pargs e) = none
pargs-read s.empty_pargs = none
pargs-read (s.pargs1 a) = each-of (pargs1-read a)

pub pseq-read : {us rest : List Spot} {ts : List Pattern} → IsPseq us ts rest → Each PatternReads ts
pseq-read s.no_pats = none
pseq-read (s.pats (s.two_pats a b c) e) = also (pattern-reads a) (also (pattern-reads b) (more-pats-read c))
pseq-read (s.one_pat a h) = also (pattern-reads a) none

pargs-by : {t : Pattern} {ts : List Pattern} {us rest : List Spot} → PatternReads t → Each PatternReads ts → InRound (listed mark.Comma Free (map pattern_tokens (t ∷ ts))) us rest → Again (map plain_pattern) IsPargs (t ∷ ts) us rest
pargs-by r rs (in_round_brackets {q} {rest} x) =
    let f = pats-again r rs x (encloses-round q rest) in
    record { tree = f.first.tree ∷ f.others.tree; reads = s.pargs1 (s.bracketed (s.some_pats f.first.reads f.others.reads)); same = together f.first.same f.others.same }

pub pargs-again : (ts : List Pattern) {us rest : List Spot} → Each PatternReads ts → Shows (tupled (map pattern_tokens ts)) us rest → Again (map plain_pattern) IsPargs ts us rest
pargs-again [] e (shown (shown ended)) = record { tree = []; reads = s.empty_pargs; same = refl }
pargs-again (t ∷ ts) (also r rs) x = pargs-by r rs (round-shown (listed mark.Comma Free (map pattern_tokens (t ∷ ts))) x)

-- one result, and more
pub result-again : {t : Pattern} {us rest : List Spot} → PatternReads t → Shows (pattern_tokens t OnlyResult) us rest → Closes rest → Again (map plain_pattern) IsPseq (t ∷ []) us rest
result-again {us} {rest} r x c = let a = r.result us rest x c in record { tree = a.tree ∷ []; reads = a.reads; same = together a.same refl }

pub results-again : {t u : Pattern} {ts : List Pattern} {us rest : List Spot} → PatternReads t → PatternReads u → Each PatternReads ts → Shows (tupled (map pattern_tokens (t ∷ u ∷ ts))) us rest → Closes rest → Again (map plain_pattern) IsPseq (t ∷ u ∷ ts) us rest
results-again {us} {rest} r v rs x c = let a = tuple-again r v rs us rest x in record { tree = a.tree; reads = s.pats a.reads c.chain; same = a.same }
