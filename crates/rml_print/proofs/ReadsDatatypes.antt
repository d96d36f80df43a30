-- What is printed of a head of a type, a constructor or a datatype is read as that.
use Rattle.std.proofs.Common.{ℕ, List, [], ◌∷◌, ◌++◌, map, refl, ap, ◌∙◌}
use Rattle.rml_base.specs.declared.place.Place.{Place}
use Rattle.rml_syntax.specs.declared.token.Spot.{Spot}
use Rattle.rml_syntax.specs.declared.token.Token.{Token}
use Rattle.rml_syntax.specs.declared.token.Token.TheVariants as token
use Rattle.rml_syntax.specs.declared.token.Key.TheVariants as key
use Rattle.rml_syntax.specs.declared.token.Mark.TheVariants as mark
use Rattle.rml_syntax.specs.declared.types.TypeExp.{TypeExp}
use Rattle.rml_syntax.specs.declared.types.TypeHead.{TypeHead}
use Rattle.rml_syntax.specs.declared.types.DataBind.{DataBind}
use Rattle.rml_syntax.specs.declared.types.ConBind.{ConBind}
use Rattle.rml_grammar.specs.Tokens.{word, sign, Lacks, LacksWord}
use Rattle.rml_grammar.specs.SpelledTexts as s
use Rattle.rml_grammar.specs.SpelledTexts.{IsMoreTyvars, IsThead, IsCon, IsMoreCons, IsData, IsMoreDatas}
use Rattle.rml_print.specs.Parts.{led, separated}
use Rattle.rml_print.specs.Texts.{variables_tokens, head_tokens, parts_tokens, constructor_tokens, binding_tokens}
use Rattle.rml_print.specs.Plain.{nowhere, plain_head, plain_constructor, plain_binding}
use Rattle.rml_print.proofs.Shown.{Shows, ended, shown, cut, InRound, in_round_brackets, round-shown, Closes, closing, Again, ReadsAgain, Each, none, also, each-map, First, separated-again, together}
use Rattle.rml_print.proofs.ReadsTypes.{TypeReads, tatom-reads, factors-read, factors-again}
use Rattle.rml_print.proofs.ReadsRules.{LineEnds}

-- ---- heads

abbrev one_variable : ℕ → List Token
one_variable v = token.TyVar v ∷ []

variables-again : (vs : List ℕ) {us rest : List Spot} → Shows (led (token.Sign mark.Comma) (map one_variable vs)) us rest → Lacks mark.Comma rest → IsMoreTyvars us vs rest
variables-again [] ended h = s.no_more_tyvars h
variables-again (v ∷ vs) (shown (shown x)) h = s.more_tyvars (variables-again vs x h)

-- a head with more variables than one
head-by : (v w : ℕ) (vs : List ℕ) (n : ℕ) (at : Place) {us mid rest : List Spot} → InRound (separated (token.Sign mark.Comma) (map one_variable (v ∷ w ∷ vs))) us mid → Shows (token.Name n ∷ []) mid rest → Again plain_head IsThead (record { vars = v ∷ w ∷ vs; name = n; place = at }) us rest
head-by v w vs n at (in_round_brackets (shown (shown (shown x)))) (shown {p} ended) = record { tree = record { vars = v ∷ w ∷ vs; name = n; place = p }; reads = s.two_vars (variables-again vs x refl); same = refl }

head-of : (vs : List ℕ) (n : ℕ) (at : Place) {us rest : List Spot} → Shows (variables_tokens vs ++ token.Name n ∷ []) us rest → Again plain_head IsThead (record { vars = vs; name = n; place = at }) us rest
head-of [] n at (shown {p} ended) = record { tree = record { vars = []; name = n; place = p }; reads = s.bare; same = refl }
head-of (v ∷ []) n at (shown (shown {p} ended)) = record { tree = record { vars = v ∷ []; name = n; place = p }; reads = s.one_var; same = refl }
head-of (v ∷ w ∷ vs) n at x =
    let k = cut (variables_tokens (v ∷ w ∷ vs)) x in
    head-by v w vs n at (round-shown (separated (token.Sign mark.Comma) (map one_variable (v ∷ w ∷ vs))) k.first) k.second

pub head-again : (h : TypeHead) {us rest : List Spot} → Shows (head_tokens h) us rest → Again plain_head IsThead h us rest
head-again h x = head-of h.vars h.name h.place x

-- ---- constructors

-- what stands behind a constructor
pub record ConStops (us : List Spot) : Type 0 where
  pub closes : Closes us
  pub parts : LacksWord key.KOf us

-- behind the last one
pub record DataStops (us : List Spot) : Type 0 where
  pub constructor : ConStops us
  pub bar : Lacks mark.Bar us

stops-bar : (us : List Spot) (p : Place) → ConStops (sign mark.Bar p ∷ us)
stops-bar us p = record { closes = closing _ refl refl refl refl refl refl refl; parts = refl }

stops-and : (us : List Spot) (p : Place) → DataStops (word key.KAnd p ∷ us)
stops-and us p = record { constructor = record { closes = closing _ refl refl refl refl refl refl refl; parts = refl }; bar = refl }

line-stops : {us : List Spot} → LineEnds us → DataStops us
line-stops e = record { constructor = record { closes = e.closes; parts = e.parts }; bar = e.bar }

record ConReads (c : ConBind) : Type 0 where
  pub whole : ReadsAgain plain_constructor IsCon constructor_tokens ConStops c

abbrev con_of : ℕ → Place → List TypeExp → ConBind
con_of n p ts = record { name = n; place = p; parts = ts }

parts-again : (n : ℕ) (at : Place) (ts : List TypeExp) → Each TypeReads ts → (us rest : List Spot) → Shows (token.Name n ∷ parts_tokens ts) us rest → ConStops rest → Again plain_constructor IsCon (con_of n at ts) us rest
parts-again n at [] e _ _ (shown {p} ended) c = record { tree = con_of n p []; reads = s.constant c.parts; same = refl }
parts-again n at (t ∷ ts) (also r rs) _ _ (shown {p} (shown x)) c =
    let f = factors-again r rs x c.closes in
    record {
      tree = con_of n p (f.first.tree ∷ f.others.tree);
      reads = s.of_parts f.first.reads f.others.reads;
      same = ap (λ (x : List TypeExp). con_of n nowhere x) (together f.first.same f.others.same);
    }

con-reads : {us rest : List Spot} {c : ConBind} → IsCon us c rest → ConReads c
con-reads (s.constant {n} {p} e) = record { whole = parts-again n p [] none }
con-reads (s.of_parts {n} {p} {t} {ts} a b) = record { whole = parts-again n p (t ∷ ts) (also (tatom-reads a) (factors-read b)) }

cons-read : {us rest : List Spot} {cs : List ConBind} → IsMoreCons us cs rest → Each ConReads cs
cons-read (s.no_more_cons e) = none
cons-read (s.more_cons a b) = also (con-reads a) (cons-read b)

-- ---- datatypes

pub record DataReads (d : DataBind) : Type 0 where
  pub whole : ReadsAgain plain_binding IsData binding_tokens DataStops d

abbrev data_of : TypeHead → List ConBind → DataBind
data_of h cs = record { head = h; cons = cs }

cons-again : {c : ConBind} {cs : List ConBind} {us rest : List Spot} → ConReads c → Each ConReads cs → Shows (separated (token.Sign mark.Bar) (map constructor_tokens (c ∷ cs))) us rest → DataStops rest → First plain_constructor IsCon IsMoreCons c cs us rest
cons-again {c} {cs} r rs x e =
    separated-again plain_constructor IsCon IsMoreCons constructor_tokens (token.Sign mark.Bar) ConStops DataStops
    (λ us h. s.no_more_cons h.bar) (λ us vs rest p t ts a b. s.more_cons a b) (λ us h. h.constructor) stops-bar
    c cs r.whole (each-map (λ y h. h.whole) rs) x e

data-by : (h : TypeHead) (c : ConBind) (cs : List ConBind) {us vs rest : List Spot} → ConReads c → Each ConReads cs → Again plain_head IsThead h us vs → Shows (token.Sign mark.Equals ∷ separated (token.Sign mark.Bar) (map constructor_tokens (c ∷ cs))) vs rest → DataStops rest → Again plain_binding IsData (data_of h (c ∷ cs)) us rest
data-by h c cs r rs a (shown x) e =
    let f = cons-again r rs x e in
    record {
      tree = data_of a.tree (f.first.tree ∷ f.others.tree);
      reads = s.of_cons a.reads f.first.reads f.others.reads;
      same = ap (λ (y : TypeHead). data_of y (map plain_constructor (f.first.tree ∷ f.others.tree))) a.same ∙ ap (λ (y : List ConBind). data_of (plain_head h) y) (together f.first.same f.others.same);
    }

data-again : (h : TypeHead) (c : ConBind) (cs : List ConBind) → ConReads c → Each ConReads cs → (us rest : List Spot) → Shows (binding_tokens (data_of h (c ∷ cs))) us rest → DataStops rest → Again plain_binding IsData (data_of h (c ∷ cs)) us rest
data-again h c cs r rs us rest x e = let k = cut (head_tokens h) x in data-by h c cs r rs (head-again h k.first) k.second e

pub data-reads : {us rest : List Spot} {d : DataBind} → IsData us d rest → DataReads d
data-reads (s.of_cons {h} {c} {cs} a b d) = record { whole = data-again h c cs (con-reads b) (cons-read d) }

pub datas-read : {us rest : List Spot} {ds : List DataBind} → IsMoreDatas us ds rest → Each DataReads ds
datas-read (s.no_more_datas e) = none
datas-read (s.more_datas a b) = also (data-reads a) (datas-read b)

-- datatypes with `and` between them
pub datas-again : {d : DataBind} {ds : List DataBind} {us rest : List Spot} → DataReads d → Each DataReads ds → Shows (separated (token.Word key.KAnd) (map binding_tokens (d ∷ ds))) us rest → LineEnds rest → First plain_binding IsData IsMoreDatas d ds us rest
datas-again {d} {ds} r rs x e =
    separated-again plain_binding IsData IsMoreDatas binding_tokens (token.Word key.KAnd) DataStops LineEnds
    (λ us h. s.no_more_datas h.conjunction) (λ us vs rest p t ts a b. s.more_datas a b) (λ us h. line-stops h) stops-and
    d ds r.whole (each-map (λ y h. h.whole) rs) x e
