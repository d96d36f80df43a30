-- Each line of a text of printable tokens is printed as a phrase.
use Rattle.std.proofs.Common.{ℕ, ◌-◌, List, [], ◌∷◌, ◌++◌, length, map, refl, arith}
use Rattle.std.specs.Prelude.{All, Option, Some}
use Rattle.std.specs.List.{flat_map}
use Rattle.std.proofs.lemmas.List.Elements.{All-cons, All-nil}
use Rattle.rml_base.specs.declared.place.Place.{Place}
use Rattle.rml_syntax.specs.declared.token.Spot.{Spot}
use Rattle.rml_syntax.specs.declared.token.Token.{Token}
use Rattle.rml_syntax.specs.declared.token.Token.TheVariants as token
use Rattle.rml_syntax.specs.declared.token.Key.{Key}
use Rattle.rml_syntax.specs.declared.token.Key.TheVariants as key
use Rattle.rml_syntax.specs.declared.token.Lit.TheVariants as lit
use Rattle.rml_syntax.specs.declared.token.Mark.TheVariants as mark
use Rattle.rml_syntax.specs.declared.rules.Exp.{Exp}
use Rattle.rml_syntax.specs.declared.rules.Goal.{Goal}
use Rattle.rml_syntax.specs.declared.rules.Rule.{Rule}
use Rattle.rml_syntax.specs.declared.types.ConBind.{ConBind}
use Rattle.rml_syntax.specs.declared.types.DataBind.{DataBind}
use Rattle.rml_syntax.specs.declared.types.Sig.{Sig}
use Rattle.rml_syntax.specs.declared.types.TypeExp.{TypeExp}
use Rattle.rml_syntax.specs.declared.types.TypeHead.{TypeHead}
use Rattle.rml_syntax.specs.declared.texts.Decl.{Decl}
use Rattle.rml_syntax.specs.declared.texts.Text.{Text}
use Rattle.rml_syntax.specs.declared.texts.Uses.{Uses}
use Rattle.rml_grammar.specs.Tokens.{dashes, word}
use Rattle.rml_grammar.specs.SpelledTexts as s
use Rattle.rml_grammar.specs.SpelledTexts.{Derives, IsAbbrev, IsClause, IsCon, IsData, IsDatas, IsDecl, IsDecls, IsHead, IsMoreClauses, IsMoreCons, IsMoreDatas, IsMoreTyvars, IsOptionalSig, IsOptionalType, IsRuleResults, IsSpec, IsSpecs, IsThead, IsUses}
use Rattle.rml_grammar.specs.Trees.{Head, rule_of}
use Rattle.rml_print.specs.declared.seats.Seat.TheVariants.{Free}
use Rattle.rml_print.specs.Expressions.{exp_tokens}
use Rattle.rml_print.specs.Goals.{goal_tokens}
use Rattle.rml_print.specs.Lines.{Line}
use Rattle.rml_print.specs.Parts.{results_tokens, tupled}
use Rattle.rml_print.specs.Patterns.{pattern_tokens}
use Rattle.rml_print.specs.Printable.{ArePrintable, IsPrintable}
use Rattle.rml_print.specs.Source.{IsOfSomeText}
use Rattle.rml_print.specs.Texts.{binding_tokens, conclusion, constructor_tokens, decl_lines, defined_tokens, head_tokens, part_lines, rule_lines, rule_lines_by, signed_tokens, text_lines, typed_tokens, uses_line, variables_tokens}
use Rattle.rml_print.specs.Types.{sig_tokens, type_tokens}
use Rattle.rml_print.proofs.ExpPhrases.{FineExp, FineExps, eseq-fine, exp-fine}
use Rattle.rml_print.proofs.GoalPhrases.{PhraseGoals, goals-phrase}
use Rattle.rml_print.proofs.NamePhrases.{Good, first, good, others}
use Rattle.rml_print.proofs.PatternPhrases.{pargs-fine}
use Rattle.rml_print.proofs.Phrases.{After, Phrase, Phrases, after-both, both, nothing, one, printable, put, quiet, results-phrase, round, separated-phrase, tupled-phrase}
use Rattle.rml_print.proofs.TypePhrases.{FirmType, factors-closed, factors-firm, sig-phrase, tatom-firm, type-firm}

module _ (names : List (List ℕ)) where
  -- lines
  abbrev pub Lines : List Line → Type 0
  Lines [] = Unit {0}
  Lines (l ∷ ls) = Phrase names l.tokens × Lines ls

  more-lines : (ks ls : List Line) → Lines ks → Lines ls → Lines (ks ++ ls)
  more-lines [] ls h k = k
  more-lines (l ∷ ks) ls h k = (h.0, more-lines ks ls h.1 k)

  lines-printable : (ls : List Line) → Lines ls → All (λ l. ArePrintable names l.tokens) ls
  lines-printable [] h = All-nil (λ (l : Line). ArePrintable names l.tokens)
  lines-printable (l ∷ ls) h = All-cons (λ (l : Line). ArePrintable names l.tokens) l ls (printable names h.0) (lines-printable ls h.1)

  -- a word, a name and what stands behind the name
  named-phrase : (k : Key) (n : ℕ) (ts : List Token) → IsPrintable names (token.Name n) → After names (token.Name n) ts → Phrase names (token.Word k ∷ token.Name n ∷ ts)
  named-phrase k n ts h a = record { from = λ t. (tt, quiet t (token.Word k) refl, (h, refl, a)) }

  -- heads of types
  abbrev AllTyvars : List ℕ → Type 0
  AllTyvars [] = Unit {0}
  AllTyvars (v ∷ vs) = IsPrintable names (token.TyVar v) × AllTyvars vs

  tyvars-good : {us rest : List Spot} {vs : List ℕ} → IsMoreTyvars us vs rest → Good names us → AllTyvars vs × Good names rest
  tyvars-good (s.no_more_tyvars e) h = (tt, h)
  tyvars-good (s.more_tyvars a) h = let x = tyvars-good a (others names (others names h)) in ((first names (others names h), x.0), x.1)

  tyvars-phrases : (vs : List ℕ) → AllTyvars vs → Phrases names (map (λ u. token.TyVar u ∷ []) vs)
  tyvars-phrases [] h = tt
  tyvars-phrases (v ∷ vs) h = (one names (token.TyVar v) h.0 refl, tyvars-phrases vs h.1)

  variables-phrase : (vs : List ℕ) → AllTyvars vs → Phrase names (variables_tokens vs)
  variables-phrase [] h = nothing names
  variables-phrase (v ∷ []) h = one names (token.TyVar v) h.0 refl
  variables-phrase (v ∷ w ∷ vs) h = round names (separated-phrase names (token.Sign mark.Comma) tt refl (map (λ u. token.TyVar u ∷ []) (v ∷ w ∷ vs)) (tyvars-phrases (v ∷ w ∷ vs) h))

  head-phrase : (vs : List ℕ) (n : ℕ) (p : Place) → AllTyvars vs → IsPrintable names (token.Name n) → Phrase names (head_tokens (record { vars = vs; name = n; place = p }))
  head-phrase vs n p h k = both names (variables-phrase vs h) (one names (token.Name n) k refl)

  thead-phrase : {us rest : List Spot} {h : TypeHead} → IsThead us h rest → Good names us → Phrase names (head_tokens h) × Good names rest
  thead-phrase (s.bare {n} {p}) g = (head-phrase [] n p tt (first names g), others names g)
  thead-phrase (s.one_var {v} {n} {p = p}) g = (head-phrase (v ∷ []) n p (first names g, tt) (first names (others names g)), others names (others names g))
  thead-phrase (s.two_vars {v} {w} {n} {p = p} {vs = vs} a) g =
      let g1 = others names g in
      let g3 = others names (others names g1) in
      let x = tyvars-good a (others names g3) in
      let y = others names x.1 in
      (head-phrase (v ∷ w ∷ vs) n p (first names g1, (first names g3, x.0)) (first names y), others names y)

  -- datatypes
  con-phrase : {us rest : List Spot} {c : ConBind} → IsCon us c rest → Good names us → Phrase names (constructor_tokens c) × Good names rest
  con-phrase (s.constant {n} e) g = (one names (token.Name n) (first names g) refl, others names g)
  con-phrase (s.of_parts {n} {t = t} {ts = ts} a b) g =
      let x = tatom-firm names a (others names (others names g)) in
      let y = factors-firm names b x.1 in
      let parts = factors-closed names (type_tokens t) (map type_tokens ts) (x.0, y.0) in
      (put names (token.Name n) (first names g) refl (put names (token.Word key.KOf) tt refl parts.phrase), y.1)

  cons-phrases : {us rest : List Spot} {cs : List ConBind} → IsMoreCons us cs rest → Good names us → Phrases names (map constructor_tokens cs) × Good names rest
  cons-phrases (s.no_more_cons e) g = (tt, g)
  cons-phrases (s.more_cons a b) g = let x = con-phrase a (others names g) in let y = cons-phrases b x.1 in ((x.0, y.0), y.1)

  data-phrase : {us rest : List Spot} {d : DataBind} → IsData us d rest → Good names us → Phrase names (binding_tokens d) × Good names rest
  data-phrase (s.of_cons {c = c} {cs = cs} a b e) g =
      let x = thead-phrase a g in
      let y = con-phrase b (others names x.1) in
      let z = cons-phrases e y.1 in
      (both names x.0 (put names (token.Sign mark.Equals) tt refl (separated-phrase names (token.Sign mark.Bar) tt refl (map constructor_tokens (c ∷ cs)) (y.0, z.0))), z.1)

  datas-phrases : {us rest : List Spot} {ds : List DataBind} → IsMoreDatas us ds rest → Good names us → Phrases names (map binding_tokens ds) × Good names rest
  datas-phrases (s.no_more_datas e) g = (tt, g)
  datas-phrases (s.more_datas a b) g = let x = data-phrase a (others names g) in let y = datas-phrases b x.1 in ((x.0, y.0), y.1)

  datatypes-lines : {us rest : List Spot} {d : Decl} (margin : ℕ) → IsDatas us d rest → Good names us → Lines (decl_lines margin d) × Good names rest
  datatypes-lines margin (s.some_datas {d = d} {ds = ds} a b) g =
      let x = data-phrase a (others names g) in
      let y = datas-phrases b x.1 in
      ((put names (token.Word key.KDatatype) tt refl (separated-phrase names (token.Word key.KAnd) tt refl (map binding_tokens (d ∷ ds)) (x.0, y.0)), tt), y.1)

  abbreviation-lines : {us rest : List Spot} {d : Decl} (margin : ℕ) → IsAbbrev us d rest → Good names us → Lines (decl_lines margin d) × Good names rest
  abbreviation-lines margin (s.abbreviation a b) g =
      let x = thead-phrase a (others names g) in
      let y = type-firm names b (others names x.1) in
      ((put names (token.Word key.KType) tt refl (both names x.0 (put names (token.Sign mark.Equals) tt refl (let f = y.0 in let c = f.at Free in c.phrase))), tt), y.1)

  -- types and signatures behind a name
  typed-after : (n : ℕ) (t : TypeExp) → FirmType names t → After names (token.Name n) (typed_tokens (Some t))
  typed-after n t f = (tt, refl, (let c = f.at Free in let p = c.phrase in p.from (token.Sign mark.Colon)))

  signed-after : (n : ℕ) (s : Sig) → Phrase names (sig_tokens s) → After names (token.Name n) (signed_tokens (Some s))
  signed-after n s p = (tt, refl, p.from (token.Sign mark.Colon))

  optional-type : {us rest : List Spot} {t : Option TypeExp} (n : ℕ) → IsOptionalType us t rest → Good names us → After names (token.Name n) (typed_tokens t) × Good names rest
  optional-type n (s.no_type e) g = (tt, g)
  optional-type n (s.a_type {t = t} a) g = let x = type-firm names a (others names g) in (typed-after n t x.0, x.1)

  optional-sig : {us rest : List Spot} {t : Option Sig} (n : ℕ) → IsOptionalSig us t rest → Good names us → After names (token.Name n) (signed_tokens t) × Good names rest
  optional-sig n (s.no_sig e) g = (tt, g)
  optional-sig n (s.a_sig {s = t} a) g = let x = sig-phrase names a (others names g) in (signed-after n t x.0, x.1)

  -- rules
  rule-results : {us rest : List Spot} {es : List Exp} → IsRuleResults us es rest → Good names us → FineExps names es × Good names rest
  rule-results (s.no_results e) g = (tt, g)
  rule-results (s.results a) g = eseq-fine names a (others names g)

  abbrev conclusion_of : Head → List Token
  conclusion_of h = token.Name h.0.0 ∷ tupled (map pattern_tokens h.1) ++ results_tokens (map exp_tokens h.2)

  conclusion-phrase : {us rest : List Spot} {h : Head} → IsHead us h rest → Good names us → Phrase names (conclusion_of h) × Good names rest
  conclusion-phrase (s.conclusion {n = n} {ps = ps} {es = es} a b) g =
      let x = pargs-fine names a (others names g) in
      let y = rule-results b x.1 in
      (put names (token.Name n) (first names g) refl (both names (tupled-phrase names (map pattern_tokens ps) x.0) (results-phrase names (map exp_tokens es) y.0)), y.1)

  by-goals : (gs : List Goal) (r : Rule) → PhraseGoals names gs → Phrase names (conclusion r) → Lines (rule_lines_by gs r)
  by-goals [] r h p = (put names (token.Word key.KAxiom) tt refl p, tt)
  by-goals (g ∷ gs) r h p =
      (put names (token.Word key.KRule) tt refl (separated-phrase names (token.Sign mark.Amp) tt refl (map goal_tokens (g ∷ gs)) h), (one names (token.Dashes 2) (omega arith) refl, (p, tt)))

  clause-lines : {us rest : List Spot} {r : Rule} → IsClause us r rest → Good names us → Lines (rule_lines r) × Good names rest
  clause-lines (s.axiom_head {us} {rest} {p} {h} a) g = let x = conclusion-phrase a (others names g) in (by-goals [] (rule_of p [] h (length (word key.KAxiom p ∷ us) - length rest)) tt x.0, x.1)
  clause-lines (s.rule_head {us} {rest} {d} {p} {q} {h} a) g =
      let x = conclusion-phrase a (others names (others names g)) in
      (by-goals [] (rule_of p [] h (length (word key.KRule p ∷ dashes d q ∷ us) - length rest)) tt x.0, x.1)
  clause-lines (s.rule_goals {us} {vs} {rest} {d} {p} {q} {gs} {h} a b) g =
      let x = goals-phrase names a (others names g) in
      let y = conclusion-phrase b (others names x.1) in
      (by-goals gs (rule_of p gs h (length (word key.KRule p ∷ us) - length rest)) x.0 y.0, y.1)

  clauses-lines : {us rest : List Spot} {rs : List Rule} → IsMoreClauses us rs rest → Good names us → Lines (flat_map rule_lines rs) × Good names rest
  clauses-lines (s.no_more_clauses e) g = (tt, g)
  clauses-lines (s.more_clauses {r = r} {rs = rs} a b) g = let x = clause-lines a g in let y = clauses-lines b x.1 in (more-lines (rule_lines r) (flat_map rule_lines rs) x.0 y.0, y.1)

  word-line : (k : Key) → Phrase names (token.Word k ∷ [])
  word-line k = one names (token.Word k) tt refl

  -- declarations
  spec-lines : {us rest : List Spot} {d : Decl} (margin : ℕ) → IsSpec us d rest → Good names us → Lines (decl_lines margin d) × Good names rest
  spec-lines margin (s.datas a) g = datatypes-lines margin a g
  spec-lines margin (s.an_abbrev a) g = abbreviation-lines margin a g
  spec-lines margin (s.abstract a) g = let x = thead-phrase a (others names g) in ((put names (token.Word key.KAbstype) tt refl x.0, tt), x.1)
  spec-lines margin (s.val {n = n} {t = t} a) g =
      let x = type-firm names a (others names (others names (others names g))) in
      ((named-phrase key.KVal n _ (first names (others names g)) (after-both names (token.Name n) (typed_tokens (Some t)) (typed-after n t x.0) (nothing names)), tt), x.1)
  spec-lines margin (s.relation {n = n} {s = t} a) g =
      let x = sig-phrase names a (others names (others names (others names g))) in
      ((named-phrase key.KRelation n _ (first names (others names g)) (signed-after n t x.0), tt), x.1)

  defined-phrase : (e : Exp) → FineExp names e → Phrase names (defined_tokens (Some e))
  defined-phrase e f = put names (token.Sign mark.Equals) tt refl (f.at Free)

  decl-lines : {us rest : List Spot} {d : Decl} (margin : ℕ) → IsDecl us d rest → Good names us → Lines (decl_lines margin d) × Good names rest
  decl-lines margin (s.d_datas a) g = datatypes-lines margin a g
  decl-lines margin (s.d_abbrev a) g = abbreviation-lines margin a g
  decl-lines margin (s.d_val {n = n} {t = t} {e = e} a b) g =
      let x = optional-type n a (others names (others names g)) in
      let y = exp-fine names b (others names x.1) in
      ((named-phrase key.KVal n _ (first names (others names g)) (after-both names (token.Name n) (typed_tokens t) x.0 (defined-phrase e y.0)), tt), y.1)
  decl-lines margin (s.d_relation {n = n} {s = t} {c = r} {cs = rs} a b c) g =
      let x = optional-sig n a (others names (others names g)) in
      let y = clause-lines b (others names x.1) in
      let z = clauses-lines c y.1 in
      let rules = more-lines (rule_lines r) (flat_map rule_lines rs) y.0 z.0 in (
        (
          named-phrase key.KRelation n _ (first names (others names g)) (after-both names (token.Name n) (signed_tokens t) x.0 (one names (token.Sign mark.Equals) tt refl)),
          more-lines (flat_map rule_lines (r ∷ rs)) _ rules (word-line key.KEnd, tt),
        ),
        others names z.1,
      )

  specs-lines : {us rest : List Spot} {ds : List Decl} (margin : ℕ) → IsSpecs us ds rest → Good names us → Lines (flat_map (decl_lines margin) ds) × Good names rest
  specs-lines margin (s.no_spec e) g = (tt, g)
  specs-lines margin (s.more_specs {d = d} {ds = ds} a b) g =
      let x = spec-lines margin a g in let y = specs-lines margin b x.1 in (more-lines (decl_lines margin d) (flat_map (decl_lines margin) ds) x.0 y.0, y.1)

  decls-lines : {us rest : List Spot} {ds : List Decl} (margin : ℕ) → IsDecls us ds rest → Good names us → Lines (flat_map (decl_lines margin) ds) × Good names rest
  decls-lines margin (s.no_decl e) g = (tt, g)
  decls-lines margin (s.more_decls {d = d} {ds = ds} a b) g =
      let x = decl-lines margin a g in let y = decls-lines margin b x.1 in (more-lines (decl_lines margin d) (flat_map (decl_lines margin) ds) x.0 y.0, y.1)

  uses-lines : {us rest : List Spot} {fs : List Uses} (margin : ℕ) → IsUses us fs rest → Good names us → Lines (map (uses_line margin) fs) × Good names rest
  uses-lines margin (s.no_uses e) g = (tt, g)
  uses-lines margin (s.more_uses {f = f} a) g =
      let x = uses-lines margin a (others names (others names g)) in
      ((put names (token.Word key.KWith) tt refl (one names (token.Lit (lit.Text f)) (first names (others names g)) refl), x.0), x.1)

  text-lines : {end : Place} {us : List Spot} {t : Text} → Derives end us t → Good names us → Lines (text_lines t)
  text-lines (s.a_text {m = m} {fs = fs} {bs = bs} {ss = ss} {ds = ds} a b c e) g =
      let w = uses-lines 2 a (others names (others names (others names g))) in
      let x = specs-lines 2 b w.1 in
      let y = uses-lines 0 c (others names x.1) in
      let z = decls-lines 0 e y.1 in
      let head = named-phrase key.KModule m (token.Sign mark.Colon ∷ []) (first names (others names g)) (tt, refl, tt) in
      (head, more-lines (part_lines 2 fs ss) _ (more-lines (map (uses_line 2) fs) (flat_map (decl_lines 2) ss) w.0 x.0) (word-line key.KEnd, more-lines (map (uses_line 0) bs) (flat_map (decl_lines 0) ds) y.0 z.0))

  pub text-printable : (t : Text) → IsOfSomeText names t → All (λ l. ArePrintable names l.tokens) (text_lines t)
  text-printable t h = lines-printable (text_lines t) (text-lines h.derived (good names h.spots h.spelled))
