-- A rule, a declaration and a text of formed tokens are formed so, production by production.
use Rattle.std.proofs.Common.{◌≡◌, ℕ, Bool, true, List, ◌∷◌, Option, refl, arith}
use Rattle.std.specs.Prelude.{nat_lt}
use Rattle.std.specs.List.{list_all}
use Rattle.rml_base.specs.declared.place.Place.{Place}
use Rattle.rml_syntax.specs.declared.token.Spot.{Spot}
use Rattle.rml_syntax.specs.declared.rules.Exp.{Exp}
use Rattle.rml_syntax.specs.declared.rules.Rule.{Rule}
use Rattle.rml_syntax.specs.declared.types.TypeExp.{TypeExp}
use Rattle.rml_syntax.specs.declared.types.Sig.{Sig}
use Rattle.rml_syntax.specs.declared.types.TypeHead.{TypeHead}
use Rattle.rml_syntax.specs.declared.types.ConBind.{ConBind}
use Rattle.rml_syntax.specs.declared.types.DataBind.{DataBind}
use Rattle.rml_syntax.specs.declared.texts.Decl.{Decl}
use Rattle.rml_syntax.specs.declared.texts.Text.{Text}
use Rattle.rml_syntax.specs.declared.texts.Uses.{Uses}
use Rattle.rml_grammar.specs.SpelledTexts as s
use Rattle.rml_grammar.specs.SpelledTexts.{Derives, IsAbbrev, IsClause, IsCon, IsData, IsDatas, IsDecl, IsDecls, IsHead, IsMoreClauses, IsMoreCons, IsMoreDatas, IsMoreTyvars, IsOptionalSig, IsOptionalType, IsRuleResults, IsSpec, IsSpecs, IsThead, IsUses}
use Rattle.rml_grammar.specs.Trees.{Head}
use Rattle.rml_whole.specs.Rules.{exp_is_formed, pattern_is_formed, rule_is_formed}
use Rattle.rml_whole.specs.Texts.{decl_is_formed, if_there, spec_is_formed, text_is_formed}
use Rattle.rml_whole.specs.Types.{con_is_formed, data_is_formed, head_is_formed, sig_is_formed, type_is_formed}
use Rattle.rml_whole_trees.proofs.Expressions.{eseq-formed, exp-formed}
use Rattle.rml_whole_trees.proofs.Goals.{goals-formed}
use Rattle.rml_whole_trees.proofs.Patterns.{pargs-formed}
use Rattle.rml_whole_trees.proofs.Tokens.{AreFormed}
use Rattle.rml_whole_trees.proofs.Types.{factors-formed, sig-formed, tatom-formed, type-formed}
use Rattle.rml_whole_trees.proofs.Words.{cons-of, some-of}

module _ (n : ℕ) where
  abbrev below : ℕ → Bool
  below v = nat_lt v n

  abbrev is_use : Uses → Bool
  is_use u = nat_lt u.file n

  more_tyvars-formed : {us rest : List Spot} {vs : List ℕ} → IsMoreTyvars us vs rest → AreFormed n us → (list_all below vs ≡ true) × AreFormed n rest
  more_tyvars-formed (s.no_more_tyvars e) h = (refl, h)
  more_tyvars-formed (s.more_tyvars {v} {vs} a) h = let x = more_tyvars-formed a h.1.1 in (cons-of below v vs h.1.0 x.0, x.1)

  thead-formed : {us rest : List Spot} {t : TypeHead} → IsThead us t rest → AreFormed n us → (head_is_formed n t ≡ true) × AreFormed n rest
  thead-formed s.bare h = (h.0, h.1)
  thead-formed s.one_var h = (rw (h.0, h.1.0) refl, h.1.1)
  thead-formed (s.two_vars {v} {w} {vs} a) h =
      let x = more_tyvars-formed a h.1.1.1.1 in
      let vars : list_all below (v ∷ w ∷ vs) ≡ true = cons-of below v (w ∷ vs) h.1.0 (cons-of below w vs h.1.1.1.0 x.0) in
      (rw (vars, x.1.1.0) refl, x.1.1.1)

  con-formed : {us rest : List Spot} {c : ConBind} → IsCon us c rest → AreFormed n us → (con_is_formed n c ≡ true) × AreFormed n rest
  con-formed (s.constant e) h = (rw h.0 refl, h.1)
  con-formed (s.of_parts {t} {ts} a b) h =
      let x = tatom-formed n a h.1.1 in
      let y = factors-formed n b x.1 in
      (rw (h.0, cons-of (type_is_formed n) t ts x.0 y.0) refl, y.1)

  more_cons-formed : {us rest : List Spot} {cs : List ConBind} → IsMoreCons us cs rest → AreFormed n us → (list_all (con_is_formed n) cs ≡ true) × AreFormed n rest
  more_cons-formed (s.no_more_cons e) h = (refl, h)
  more_cons-formed (s.more_cons {c} {cs} a b) h = let x = con-formed a h.1 in let y = more_cons-formed b x.1 in (cons-of (con_is_formed n) c cs x.0 y.0, y.1)

  data-formed : {us rest : List Spot} {d : DataBind} → IsData us d rest → AreFormed n us → (data_is_formed n d ≡ true) × AreFormed n rest
  data-formed (s.of_cons {c} {cs} a b d) h =
      let x = thead-formed a h in
      let y = con-formed b x.1.1 in
      let z = more_cons-formed d y.1 in
      (rw (x.0, some-of (con_is_formed n) (c ∷ cs) (omega arith) (cons-of (con_is_formed n) c cs y.0 z.0)) refl, z.1)

  more_datas-formed : {us rest : List Spot} {ds : List DataBind} → IsMoreDatas us ds rest → AreFormed n us → (list_all (data_is_formed n) ds ≡ true) × AreFormed n rest
  more_datas-formed (s.no_more_datas e) h = (refl, h)
  more_datas-formed (s.more_datas {d} {ds} a b) h = let x = data-formed a h.1 in let y = more_datas-formed b x.1 in (cons-of (data_is_formed n) d ds x.0 y.0, y.1)

  -- datatypes and abbreviations stand in interfaces and in bodies
  abbrev InBoth : Decl → Type 0
  InBoth d = (spec_is_formed n d ≡ true) × (decl_is_formed n d ≡ true)

  datas-formed : {us rest : List Spot} {d : Decl} → IsDatas us d rest → AreFormed n us → InBoth d × AreFormed n rest
  datas-formed (s.some_datas {d} {ds} a b) h =
      let x = data-formed a h.1 in
      let y = more_datas-formed b x.1 in
      let e = some-of (data_is_formed n) (d ∷ ds) (omega arith) (cons-of (data_is_formed n) d ds x.0 y.0) in
      ((e, e), y.1)

  abbrev-formed : {us rest : List Spot} {d : Decl} → IsAbbrev us d rest → AreFormed n us → InBoth d × AreFormed n rest
  abbrev-formed (s.abbreviation a b) h =
      let x = thead-formed a h.1 in
      let y = type-formed n b x.1.1 in
      ((rw (x.0, y.0) refl, rw (x.0, y.0) refl), y.1)

  spec-formed : {us rest : List Spot} {d : Decl} → IsSpec us d rest → AreFormed n us → (spec_is_formed n d ≡ true) × AreFormed n rest
  spec-formed (s.datas a) h = let x = datas-formed a h in (x.0.0, x.1)
  spec-formed (s.an_abbrev a) h = let x = abbrev-formed a h in (x.0.0, x.1)
  spec-formed (s.abstract a) h = thead-formed a h.1
  spec-formed (s.val a) h = let x = type-formed n a h.1.1.1 in (rw (h.1.0, x.0) refl, x.1)
  spec-formed (s.relation a) h = let x = sig-formed n a h.1.1.1 in (rw (h.1.0, x.0) refl, x.1)

  rule_results-formed : {us rest : List Spot} {es : List Exp} → IsRuleResults us es rest → AreFormed n us → (list_all (exp_is_formed n) es ≡ true) × AreFormed n rest
  rule_results-formed (s.no_results e) h = (refl, h)
  rule_results-formed (s.results a) h = eseq-formed n a h.1

  -- a rule's head: its name, its patterns and its results
  record HeadFormed (t : Head) : Type 0 where
    name : nat_lt t.0.0 n ≡ true
    inputs : list_all (pattern_is_formed n) t.1 ≡ true
    results : list_all (exp_is_formed n) t.2 ≡ true

  head-formed : {us rest : List Spot} {t : Head} → IsHead us t rest → AreFormed n us → HeadFormed t × AreFormed n rest
  head-formed (s.conclusion a b) h =
      let x = pargs-formed n a h.1 in
      let y = rule_results-formed b x.1 in
      (record { name = h.0; inputs = x.0; results = y.0 }, y.1)

  clause-formed : {us rest : List Spot} {r : Rule} → IsClause us r rest → AreFormed n us → (rule_is_formed n r ≡ true) × AreFormed n rest
  clause-formed (s.axiom_head a) h = let x = head-formed a h.1 in (rw (x.0.name, x.0.inputs, x.0.results) refl, x.1)
  clause-formed (s.rule_head a) h = let x = head-formed a h.1.1 in (rw (x.0.name, x.0.inputs, x.0.results) refl, x.1)
  clause-formed (s.rule_goals a b) h =
      let g = goals-formed n a h.1 in
      let x = head-formed b g.2.1 in
      (rw (x.0.name, x.0.inputs, g.1, x.0.results) refl, x.1)

  more_clauses-formed : {us rest : List Spot} {rs : List Rule} → IsMoreClauses us rs rest → AreFormed n us → (list_all (rule_is_formed n) rs ≡ true) × AreFormed n rest
  more_clauses-formed (s.no_more_clauses e) h = (refl, h)
  more_clauses-formed (s.more_clauses {r} {rs} a b) h = let x = clause-formed a h in let y = more_clauses-formed b x.1 in (cons-of (rule_is_formed n) r rs x.0 y.0, y.1)

  optional_type-formed : {us rest : List Spot} {t : Option TypeExp} → IsOptionalType us t rest → AreFormed n us → (if_there (type_is_formed n) t ≡ true) × AreFormed n rest
  optional_type-formed (s.no_type e) h = (refl, h)
  optional_type-formed (s.a_type a) h = type-formed n a h.1

  optional_sig-formed : {us rest : List Spot} {t : Option Sig} → IsOptionalSig us t rest → AreFormed n us → (if_there (sig_is_formed n) t ≡ true) × AreFormed n rest
  optional_sig-formed (s.no_sig e) h = (refl, h)
  optional_sig-formed (s.a_sig a) h = sig-formed n a h.1

  decl-formed : {us rest : List Spot} {d : Decl} → IsDecl us d rest → AreFormed n us → (decl_is_formed n d ≡ true) × AreFormed n rest
  decl-formed (s.d_datas a) h = let x = datas-formed a h in (x.0.1, x.1)
  decl-formed (s.d_abbrev a) h = let x = abbrev-formed a h in (x.0.1, x.1)
  decl-formed (s.d_val a b) h =
      let x = optional_type-formed a h.1.1 in
      let y = exp-formed n b x.1.1 in
      (rw (h.1.0, x.0, y.0) refl, y.1)
  decl-formed (s.d_relation {c} {cs} a b d) h =
      let x = optional_sig-formed a h.1.1 in
      let y = clause-formed b x.1.1 in
      let z = more_clauses-formed d y.1 in
      (rw (h.1.0, x.0, some-of (rule_is_formed n) (c ∷ cs) (omega arith) (cons-of (rule_is_formed n) c cs y.0 z.0)) refl, z.1.1)

  uses-formed : {us rest : List Spot} {fs : List Uses} → IsUses us fs rest → AreFormed n us → (list_all is_use fs ≡ true) × AreFormed n rest
  uses-formed (s.no_uses e) h = (refl, h)
  uses-formed (s.more_uses {f} {p} {fs} a) h = let x = uses-formed a h.1.1 in (cons-of is_use (record { file = f; place = p }) fs h.1.0 x.0, x.1)

  specs-formed : {us rest : List Spot} {ds : List Decl} → IsSpecs us ds rest → AreFormed n us → (list_all (spec_is_formed n) ds ≡ true) × AreFormed n rest
  specs-formed (s.no_spec e) h = (refl, h)
  specs-formed (s.more_specs {d} {ds} a b) h = let x = spec-formed a h in let y = specs-formed b x.1 in (cons-of (spec_is_formed n) d ds x.0 y.0, y.1)

  decls-formed : {us rest : List Spot} {ds : List Decl} → IsDecls us ds rest → AreFormed n us → (list_all (decl_is_formed n) ds ≡ true) × AreFormed n rest
  decls-formed (s.no_decl e) h = (refl, h)
  decls-formed (s.more_decls {d} {ds} a b) h = let x = decl-formed a h in let y = decls-formed b x.1 in (cons-of (decl_is_formed n) d ds x.0 y.0, y.1)

  pub text-formed : {end : Place} {us : List Spot} {t : Text} → Derives end us t → AreFormed n us → text_is_formed n t ≡ true
  text-formed (s.a_text a b c d) h =
      let x = uses-formed a h.1.1.1 in
      let y = specs-formed b x.1 in
      let z = uses-formed c y.1.1 in
      let w = decls-formed d z.1 in
      rw (h.1.0, x.0, y.0, z.0, w.0) refl
