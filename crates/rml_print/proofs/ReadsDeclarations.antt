-- What is printed of a declaration is read as that declaration.
use Rattle.std.proofs.Common.{◌≡◌, ℕ, List, [], ◌∷◌, ◌++◌, map, refl, ap, ◌∙◌, Option, Some, None}
use Rattle.std.specs.List.{flat_map}
use Rattle.std.specs.Prelude.{IfSome}
use Rattle.rml_base.specs.declared.place.Place.{Place}
use Rattle.rml_syntax.specs.declared.token.Spot.{Spot}
use Rattle.rml_syntax.specs.declared.token.Token.{Token}
use Rattle.rml_syntax.specs.declared.token.Token.TheVariants as token
use Rattle.rml_syntax.specs.declared.token.Key.TheVariants as key
use Rattle.rml_syntax.specs.declared.token.Mark.TheVariants as mark
use Rattle.rml_syntax.specs.declared.rules.Exp.{Exp}
use Rattle.rml_syntax.specs.declared.rules.Rule.{Rule}
use Rattle.rml_syntax.specs.declared.types.TypeExp.{TypeExp}
use Rattle.rml_syntax.specs.declared.types.Sig.{Sig}
use Rattle.rml_syntax.specs.declared.types.TypeHead.{TypeHead}
use Rattle.rml_syntax.specs.declared.types.DataBind.{DataBind}
use Rattle.rml_syntax.specs.declared.texts.Decl.{Decl}
use Rattle.rml_syntax.specs.declared.texts.Decl.TheVariants as decl
use Rattle.rml_grammar.specs.Tokens.{word, named, Lacks}
use Rattle.rml_grammar.specs.SpelledTexts as s
use Rattle.rml_grammar.specs.SpelledTexts.{IsThead, IsDatas, IsAbbrev, IsSpec, IsOptionalType, IsOptionalSig, IsDecl, IsClause, IsMoreClauses, IsSpecs, IsDecls}
use Rattle.rml_print.specs.declared.seats.Seat.TheVariants.{Free}
use Rattle.rml_print.specs.Types.{type_tokens, sig_tokens}
use Rattle.rml_print.specs.Expressions.{exp_tokens}
use Rattle.rml_print.specs.Texts.{line, rule_lines, head_tokens, datatype_tokens, abbreviation_tokens, typed_tokens, signed_tokens, decl_lines}
use Rattle.rml_print.specs.Plain.{nowhere, plain_if, plain_type, plain_sig, plain_exp, plain_head, plain_rule, plain_decl}
use Rattle.rml_print.proofs.Shown.{Shows, ended, shown, cut, Closes, closing, closes-equals, Again, ReadsAgain, Each, together}
use Rattle.rml_print.proofs.ReadsTypes.{TypeReads, SigReads, type-reads, sig-reads}
use Rattle.rml_print.proofs.ReadsExpressions.{ExpReads, exp-reads}
use Rattle.rml_print.proofs.ReadsRules.{LineEnds, line_tokens, lines-of, only, rule_tokens, RuleReads, clause-reads, clauses-read, clauses-again}
use Rattle.rml_print.proofs.ReadsDatatypes.{DataReads, data-reads, datas-read, head-again, datas-again}

-- the tokens of a declaration in an interface, and in a body
abbrev pub spec_tokens : Decl → List Token
spec_tokens d = line_tokens (decl_lines 2 d)

abbrev pub decl_tokens : Decl → List Token
decl_tokens d = line_tokens (decl_lines 0 d)

pub record SpecReads (d : Decl) : Type 0 where
  pub whole : ReadsAgain plain_decl IsSpec spec_tokens LineEnds d

pub record DeclReads (d : Decl) : Type 0 where
  pub whole : ReadsAgain plain_decl IsDecl decl_tokens LineEnds d

pub line-end : (p : Place) (us : List Spot) → LineEnds (word key.KEnd p ∷ us)
line-end p us = record { closes = closing _ refl refl refl refl refl refl refl; arrow = refl; bar = refl; conjunction = refl; parts = refl; uses = refl }

-- ---- datatypes and abbreviations

datas-decl : (d : DataBind) (ds : List DataBind) → DataReads d → Each DataReads ds → (us rest : List Spot) → Shows (datatype_tokens (d ∷ ds)) us rest → LineEnds rest → Again plain_decl IsDatas (decl.Datatype (d ∷ ds)) us rest
datas-decl d ds r rs _ _ (shown x) e =
    let f = datas-again r rs x e in
    record { tree = decl.Datatype (f.first.tree ∷ f.others.tree); reads = s.some_datas f.first.reads f.others.reads; same = ap (λ (y : List DataBind). decl.Datatype y) (together f.first.same f.others.same) }

abbrev-by : (h : TypeHead) (t : TypeExp) {us vs rest : List Spot} {p : Place} → TypeReads t → Again plain_head IsThead h us vs → Shows (token.Sign mark.Equals ∷ type_tokens t Free) vs rest → LineEnds rest → Again plain_decl IsAbbrev (decl.Abbrev h t) (word key.KType p ∷ us) rest
abbrev-by h t r a (shown {us = ws} {rest = others} x) e =
    let b = r.free ws others x e.closes in
    record { tree = decl.Abbrev a.tree b.tree; reads = s.abbreviation a.reads b.reads; same = ap (λ (y : TypeHead). decl.Abbrev y (plain_type b.tree)) a.same ∙ ap (λ (y : TypeExp). decl.Abbrev (plain_head h) y) b.same }

abbrev-decl : (h : TypeHead) (t : TypeExp) → TypeReads t → (us rest : List Spot) → Shows (abbreviation_tokens h t) us rest → LineEnds rest → Again plain_decl IsAbbrev (decl.Abbrev h t) us rest
abbrev-decl h t r _ _ (shown x) e = let k = cut (head_tokens h) x in abbrev-by h t r (head-again h k.first) k.second e

-- ---- declarations of an interface

as-spec : {d : Decl} {us rest : List Spot} → Again plain_decl IsDatas d us rest → Again plain_decl IsSpec d us rest
as-spec a = record { tree = a.tree; reads = s.datas a.reads; same = a.same }

abstype-again : (h : TypeHead) (us rest : List Spot) → Shows (token.Word key.KAbstype ∷ head_tokens h) us rest → LineEnds rest → Again plain_decl IsSpec (decl.Abstype h) us rest
abstype-again h _ _ (shown x) e = let a = head-again h x in record { tree = decl.Abstype a.tree; reads = s.abstract a.reads; same = ap (λ (y : TypeHead). decl.Abstype y) a.same }

val-spec : (n : ℕ) (at : Place) (t : TypeExp) → TypeReads t → (us rest : List Spot) → Shows (token.Word key.KVal ∷ token.Name n ∷ token.Sign mark.Colon ∷ type_tokens t Free) us rest → LineEnds rest → Again plain_decl IsSpec (decl.Val n at (Some t) None) us rest
val-spec n at t r _ _ (shown (shown {p} (shown {us = vs} {rest = ws} x))) e =
    let a = r.free vs ws x e.closes in
    record { tree = decl.Val n p (Some a.tree) None; reads = s.val a.reads; same = ap (λ (y : TypeExp). decl.Val n nowhere (Some y) None) a.same }

relation-spec : (n : ℕ) (at : Place) (g : Sig) → SigReads g → (us rest : List Spot) → Shows (token.Word key.KRelation ∷ token.Name n ∷ token.Sign mark.Colon ∷ sig_tokens g) us rest → LineEnds rest → Again plain_decl IsSpec (decl.Relation n at (Some g) []) us rest
relation-spec n at g r _ _ (shown (shown {p} (shown {us = vs} {rest = ws} x))) e =
    let a = r.whole vs ws x e.closes in
    record { tree = decl.Relation n p (Some a.tree) []; reads = s.relation a.reads; same = ap (λ (y : Sig). decl.Relation n nowhere (Some y) []) a.same }

pub spec-reads : {us rest : List Spot} {d : Decl} → IsSpec us d rest → SpecReads d
spec-reads (s.datas (s.some_datas {d} {ds} a b)) = record { whole = λ us rest x e. as-spec (datas-decl d ds (data-reads a) (datas-read b) us rest (only (datatype_tokens (d ∷ ds)) x) e) }
spec-reads (s.an_abbrev (s.abbreviation {h} {t} a b)) = record { whole = λ us rest x e. let y = abbrev-decl h t (type-reads b) us rest (only (abbreviation_tokens h t) x) e in record { tree = y.tree; reads = s.an_abbrev y.reads; same = y.same } }
spec-reads (s.abstract {h} a) = record { whole = λ us rest x e. abstype-again h us rest (only (token.Word key.KAbstype ∷ head_tokens h) x) e }
spec-reads (s.val {n} {p} {t} a) = record { whole = λ us rest x e. val-spec n p t (type-reads a) us rest (only (token.Word key.KVal ∷ token.Name n ∷ token.Sign mark.Colon ∷ type_tokens t Free) (only (token.Word key.KVal ∷ token.Name n ∷ token.Sign mark.Colon ∷ (type_tokens t Free ++ [])) x)) e }
spec-reads (s.relation {n} {p} {s = g} a) = record { whole = λ us rest x e. relation-spec n p g (sig-reads a) us rest (only (token.Word key.KRelation ∷ token.Name n ∷ token.Sign mark.Colon ∷ sig_tokens g) x) e }

-- ---- declarations of a body

optional-type : (o : Option TypeExp) {us rest : List Spot} → IfSome o TypeReads → Shows (typed_tokens o) us rest → Closes rest → Lacks mark.Colon rest → Again (plain_if plain_type) IsOptionalType o us rest
optional-type None h ended e l = record { tree = None; reads = s.no_type l; same = refl }
optional-type (Some t) r (shown {us = vs} {rest = ws} x) e l = let a = r.free vs ws x e in record { tree = Some a.tree; reads = s.a_type a.reads; same = ap (λ (y : TypeExp). Some y) a.same }

optional-sig : (o : Option Sig) {us rest : List Spot} → IfSome o SigReads → Shows (signed_tokens o) us rest → Closes rest → Lacks mark.Colon rest → Again (plain_if plain_sig) IsOptionalSig o us rest
optional-sig None h ended e l = record { tree = None; reads = s.no_sig l; same = refl }
optional-sig (Some g) r (shown {us = vs} {rest = ws} x) e l = let a = r.whole vs ws x e in record { tree = Some a.tree; reads = s.a_sig a.reads; same = ap (λ (y : Sig). Some y) a.same }

val-by : (n : ℕ) (p q at : Place) (o : Option TypeExp) (t : Exp) {us vs rest : List Spot} → IfSome o TypeReads → ExpReads t → Shows (typed_tokens o) us vs → Shows (token.Sign mark.Equals ∷ exp_tokens t Free) vs rest → LineEnds rest → Again plain_decl IsDecl (decl.Val n at o (Some t)) (word key.KVal q ∷ named n p ∷ us) rest
val-by n p q at o t r v x (shown {p = z} {us = ws} {rest = others} y) e =
    let a = optional-type o r x (closes-equals z ws) refl in
    let b = v.free ws others y e.closes in
    record {
      tree = decl.Val n p a.tree (Some b.tree);
      reads = s.d_val a.reads b.reads;
      same = ap (λ (y : Option TypeExp). decl.Val n nowhere y (Some (plain_exp b.tree))) a.same ∙ ap (λ (y : Exp). decl.Val n nowhere (plain_if plain_type o) (Some y)) b.same;
    }

val-decl : (n : ℕ) (at : Place) (o : Option TypeExp) (t : Exp) → IfSome o TypeReads → ExpReads t → (us rest : List Spot) → Shows (token.Word key.KVal ∷ token.Name n ∷ (typed_tokens o ++ token.Sign mark.Equals ∷ exp_tokens t Free)) us rest → LineEnds rest → Again plain_decl IsDecl (decl.Val n at o (Some t)) us rest
val-decl n at o t r v _ _ (shown {p = q} (shown {p} x)) e = let k = cut (typed_tokens o) x in val-by n p q at o t r v k.first k.second e

-- a relation: its opening, its rules, and the word that ends it
rules-by : (n : ℕ) (p q at : Place) (o : Option Sig) (r : Rule) (rs : List Rule) {us vs ws rest : List Spot} → IfSome o SigReads → RuleReads r → Each RuleReads rs → Shows (signed_tokens o) us vs → Shows (token.Sign mark.Equals ∷ flat_map rule_tokens (r ∷ rs)) vs ws → Shows (token.Word key.KEnd ∷ []) ws rest → Again plain_decl IsDecl (decl.Relation n at o (r ∷ rs)) (word key.KRelation q ∷ named n p ∷ us) rest
rules-by n p q at o r rs h v vs x (shown {p = z} {us = ys} y) (shown {p = end} {us = others} ended) =
    let a = optional-sig o h x (closes-equals z ys) refl in
    let f = clauses-again v vs y (record { line = line-end end others; none_next = refl }) in
    record {
      tree = decl.Relation n p a.tree (f.first.tree ∷ f.others.tree);
      reads = s.d_relation a.reads f.first.reads f.others.reads;
      same = ap (λ (y : Option Sig). decl.Relation n nowhere y (map plain_rule (f.first.tree ∷ f.others.tree))) a.same ∙ ap (λ (y : List Rule). decl.Relation n nowhere (plain_if plain_sig o) y) (together f.first.same f.others.same);
    }

equals-first : {ts : List Token} {us vs rest : List Spot} → Shows (token.Sign mark.Equals ∷ []) us vs → Shows ts vs rest → Shows (token.Sign mark.Equals ∷ ts) us rest
equals-first (shown ended) y = shown y

relation-decl : (n : ℕ) (at : Place) (o : Option Sig) (r : Rule) (rs : List Rule) → IfSome o SigReads → RuleReads r → Each RuleReads rs → (us rest : List Spot) → Shows (token.Word key.KRelation ∷ token.Name n ∷ ((signed_tokens o ++ token.Sign mark.Equals ∷ []) ++ (flat_map rule_tokens (r ∷ rs) ++ token.Word key.KEnd ∷ []))) us rest → Again plain_decl IsDecl (decl.Relation n at o (r ∷ rs)) us rest
relation-decl n at o r rs h v vs _ _ (shown {p = q} (shown {p} x)) =
    let k = cut (signed_tokens o ++ token.Sign mark.Equals ∷ []) x in
    let j = cut (signed_tokens o) k.first in
    let i = cut (flat_map rule_tokens (r ∷ rs)) k.second in
    rules-by n p q at o r rs h v vs j.first (equals-first j.second i.first) i.second

relation-flat : (n : ℕ) (at : Place) (o : Option Sig) (r : Rule) (rs : List Rule) → decl_tokens (decl.Relation n at o (r ∷ rs)) ≡ token.Word key.KRelation ∷ token.Name n ∷ ((signed_tokens o ++ token.Sign mark.Equals ∷ []) ++ (flat_map rule_tokens (r ∷ rs) ++ token.Word key.KEnd ∷ []))
relation-flat n at o r rs = ap (λ (ts : List Token). token.Word key.KRelation ∷ token.Name n ∷ ((signed_tokens o ++ token.Sign mark.Equals ∷ []) ++ ts)) (lines-of rule_lines (r ∷ rs) (line 0 (token.Word key.KEnd ∷ []) ∷ []))

optional-type-read : {us rest : List Spot} {o : Option TypeExp} → IsOptionalType us o rest → IfSome o TypeReads
optional-type-read (s.no_type e) = tt
optional-type-read (s.a_type a) = type-reads a

optional-sig-read : {us rest : List Spot} {o : Option Sig} → IsOptionalSig us o rest → IfSome o SigReads
optional-sig-read (s.no_sig e) = tt
optional-sig-read (s.a_sig a) = sig-reads a

pub decl-reads : {us rest : List Spot} {d : Decl} → IsDecl us d rest → DeclReads d
decl-reads (s.d_datas (s.some_datas {d} {ds} a b)) = record { whole = λ us rest x e. let y = datas-decl d ds (data-reads a) (datas-read b) us rest (only (datatype_tokens (d ∷ ds)) x) e in record { tree = y.tree; reads = s.d_datas y.reads; same = y.same } }
decl-reads (s.d_abbrev (s.abbreviation {h} {t} a b)) = record { whole = λ us rest x e. let y = abbrev-decl h t (type-reads b) us rest (only (abbreviation_tokens h t) x) e in record { tree = y.tree; reads = s.d_abbrev y.reads; same = y.same } }
decl-reads (s.d_val {n} {p} {t} {e = v} a b) = record { whole = λ us rest x e. val-decl n p t v (optional-type-read a) (exp-reads b) us rest (only (token.Word key.KVal ∷ token.Name n ∷ (typed_tokens t ++ token.Sign mark.Equals ∷ exp_tokens v Free)) x) e }
decl-reads (s.d_relation {n} {p} {s = o} {c} {cs} a b d) = record { whole = λ us rest x e. relation-decl n p o c cs (optional-sig-read a) (clause-reads b) (clauses-read d) us rest (rw (relation-flat n p o c cs) at x) }

-- ---- the word that begins a declaration

line-datatype : (p : Place) (us : List Spot) → LineEnds (word key.KDatatype p ∷ us)
line-datatype p us = record { closes = closing _ refl refl refl refl refl refl refl; arrow = refl; bar = refl; conjunction = refl; parts = refl; uses = refl }

line-type : (p : Place) (us : List Spot) → LineEnds (word key.KType p ∷ us)
line-type p us = record { closes = closing _ refl refl refl refl refl refl refl; arrow = refl; bar = refl; conjunction = refl; parts = refl; uses = refl }

line-abstype : (p : Place) (us : List Spot) → LineEnds (word key.KAbstype p ∷ us)
line-abstype p us = record { closes = closing _ refl refl refl refl refl refl refl; arrow = refl; bar = refl; conjunction = refl; parts = refl; uses = refl }

line-val : (p : Place) (us : List Spot) → LineEnds (word key.KVal p ∷ us)
line-val p us = record { closes = closing _ refl refl refl refl refl refl refl; arrow = refl; bar = refl; conjunction = refl; parts = refl; uses = refl }

line-relation : (p : Place) (us : List Spot) → LineEnds (word key.KRelation p ∷ us)
line-relation p us = record { closes = closing _ refl refl refl refl refl refl refl; arrow = refl; bar = refl; conjunction = refl; parts = refl; uses = refl }

pub decl-starts : (margin : ℕ) (d : Decl) (ts : List Token) (us rest : List Spot) → Shows (line_tokens (decl_lines margin d) ++ ts) us rest → LineEnds us
decl-starts margin (decl.Datatype ds) ts _ _ (shown {p} {us = vs} x) = line-datatype p vs
decl-starts margin (decl.Abbrev h t) ts _ _ (shown {p} {us = vs} x) = line-type p vs
decl-starts margin (decl.Abstype h) ts _ _ (shown {p} {us = vs} x) = line-abstype p vs
decl-starts margin (decl.Val n at t e) ts _ _ (shown {p} {us = vs} x) = line-val p vs
decl-starts margin (decl.Relation n at o []) ts _ _ (shown {p} {us = vs} x) = line-relation p vs
decl-starts margin (decl.Relation n at o (r ∷ rs)) ts _ _ (shown {p} {us = vs} x) = line-relation p vs
