-- What is a rule, a declaration and a text: a case for each production, between the front of a list of tokens, the tree
-- and the tokens that follow. What may be repeated or left out goes as far as it can.
use Rattle.std.specs.Prelude.{ℕ, ◌-◌, List, [], ◌∷◌, length, Option, Some, None}
use Rattle.rml_base.specs.declared.place.Place.{Place}
use Rattle.rml_syntax.specs.declared.token.Spot.{Spot}
use Rattle.rml_syntax.specs.declared.token.Lit.TheVariants as lit
use Rattle.rml_syntax.specs.declared.token.Key.TheVariants as key
use Rattle.rml_syntax.specs.declared.token.Mark.TheVariants as mark
use Rattle.rml_syntax.specs.declared.rules.Exp.{Exp}
use Rattle.rml_syntax.specs.declared.rules.Pattern.{Pattern}
use Rattle.rml_syntax.specs.declared.rules.Goal.{Goal}
use Rattle.rml_syntax.specs.declared.rules.Rule.{Rule}
use Rattle.rml_syntax.specs.declared.types.TypeExp.{TypeExp}
use Rattle.rml_syntax.specs.declared.types.Sig.{Sig}
use Rattle.rml_syntax.specs.declared.types.TypeHead.{TypeHead}
use Rattle.rml_syntax.specs.declared.types.DataBind.{DataBind}
use Rattle.rml_syntax.specs.declared.types.ConBind.{ConBind}
use Rattle.rml_syntax.specs.declared.texts.Uses.{Uses}
use Rattle.rml_syntax.specs.declared.texts.Decl.{Decl}
use Rattle.rml_syntax.specs.declared.texts.Decl.TheVariants as decl
use Rattle.rml_syntax.specs.declared.texts.Text.{Text}
use Rattle.rml_grammar.specs.Tokens.{word, named, tyvar, literal, sign, dashes, Lacks, LacksWord}
use Rattle.rml_grammar.specs.Lacks.{LacksClause, LacksDecl, LacksSpec, LacksUses}
use Rattle.rml_grammar.specs.SpelledTypes.{IsTatom, IsFactors, IsType, IsSig}
use Rattle.rml_grammar.specs.SpelledPatterns.{IsPargs}
use Rattle.rml_grammar.specs.SpelledExpressions.{IsExp, IsEseq}
use Rattle.rml_grammar.specs.SpelledGoals.{IsGoals}
use Rattle.rml_grammar.specs.Trees.{Head, rule_of}

-- {`,` tyvar}
pub data IsMoreTyvars : List Spot → List ℕ → List Spot → Type 0 where
  no_more_tyvars : {us : List Spot} → Lacks mark.Comma us → IsMoreTyvars us [] us
  more_tyvars : {us rest : List Spot} {v : ℕ} {p q : Place} {vs : List ℕ} → IsMoreTyvars us vs rest → IsMoreTyvars (sign mark.Comma p ∷ tyvar v q ∷ us) (v ∷ vs) rest

-- thead = [tyvar | `(` tyvar `,` tyvar {`,` tyvar} `)`] name
pub data IsThead : List Spot → TypeHead → List Spot → Type 0 where
  bare : {n : ℕ} {p : Place} {rest : List Spot} → IsThead (named n p ∷ rest) (record { vars = []; name = n; place = p }) rest
  one_var : {v n : ℕ} {p q : Place} {rest : List Spot} → IsThead (tyvar v q ∷ named n p ∷ rest) (record { vars = v ∷ []; name = n; place = p }) rest
  two_vars : {v w n : ℕ} {p q r s t u : Place} {us rest : List Spot} {vs : List ℕ} → IsMoreTyvars us vs (sign mark.CloseRound u ∷ named n p ∷ rest)
      → IsThead (sign mark.OpenRound q ∷ tyvar v r ∷ sign mark.Comma s ∷ tyvar w t ∷ us) (record { vars = v ∷ w ∷ vs; name = n; place = p }) rest

-- con = name [`of` tatom {`*` tatom}]
pub data IsCon : List Spot → ConBind → List Spot → Type 0 where
  constant : {n : ℕ} {p : Place} {rest : List Spot} → LacksWord key.KOf rest → IsCon (named n p ∷ rest) (record { name = n; place = p; parts = [] }) rest
  of_parts : {n : ℕ} {p q : Place} {us vs rest : List Spot} {t : TypeExp} {ts : List TypeExp} → IsTatom us t vs → IsFactors vs ts rest
      → IsCon (named n p ∷ word key.KOf q ∷ us) (record { name = n; place = p; parts = t ∷ ts }) rest

-- {`|` con}
pub data IsMoreCons : List Spot → List ConBind → List Spot → Type 0 where
  no_more_cons : {us : List Spot} → Lacks mark.Bar us → IsMoreCons us [] us
  more_cons : {us vs rest : List Spot} {p : Place} {c : ConBind} {cs : List ConBind} → IsCon us c vs → IsMoreCons vs cs rest → IsMoreCons (sign mark.Bar p ∷ us) (c ∷ cs) rest

-- data = thead `=` con {`|` con}
pub data IsData : List Spot → DataBind → List Spot → Type 0 where
  of_cons : {us vs ws rest : List Spot} {p : Place} {h : TypeHead} {c : ConBind} {cs : List ConBind} → IsThead us h (sign mark.Equals p ∷ vs) → IsCon vs c ws → IsMoreCons ws cs rest
      → IsData us (record { head = h; cons = c ∷ cs }) rest

-- {`and` data}
pub data IsMoreDatas : List Spot → List DataBind → List Spot → Type 0 where
  no_more_datas : {us : List Spot} → LacksWord key.KAnd us → IsMoreDatas us [] us
  more_datas : {us vs rest : List Spot} {p : Place} {d : DataBind} {ds : List DataBind} → IsData us d vs → IsMoreDatas vs ds rest → IsMoreDatas (word key.KAnd p ∷ us) (d ∷ ds) rest

-- datas = `datatype` data {`and` data}
pub data IsDatas : List Spot → Decl → List Spot → Type 0 where
  some_datas : {us vs rest : List Spot} {p : Place} {d : DataBind} {ds : List DataBind} → IsData us d vs → IsMoreDatas vs ds rest → IsDatas (word key.KDatatype p ∷ us) (decl.Datatype (d ∷ ds)) rest

-- abbrev = `type` thead `=` type
pub data IsAbbrev : List Spot → Decl → List Spot → Type 0 where
  abbreviation : {us vs rest : List Spot} {p q : Place} {h : TypeHead} {t : TypeExp} → IsThead us h (sign mark.Equals q ∷ vs) → IsType vs t rest → IsAbbrev (word key.KType p ∷ us) (decl.Abbrev h t) rest

-- spec = datas | abbrev | `abstype` thead | `val` name `:` type | `relation` name `:` sig
pub data IsSpec : List Spot → Decl → List Spot → Type 0 where
  datas : {us rest : List Spot} {d : Decl} → IsDatas us d rest → IsSpec us d rest
  an_abbrev : {us rest : List Spot} {d : Decl} → IsAbbrev us d rest → IsSpec us d rest
  abstract : {us rest : List Spot} {p : Place} {h : TypeHead} → IsThead us h rest → IsSpec (word key.KAbstype p ∷ us) (decl.Abstype h) rest
  val : {us rest : List Spot} {n : ℕ} {p q r : Place} {t : TypeExp} → IsType us t rest → IsSpec (word key.KVal q ∷ named n p ∷ sign mark.Colon r ∷ us) (decl.Val n p (Some t) None) rest
  relation : {us rest : List Spot} {n : ℕ} {p q r : Place} {s : Sig} → IsSig us s rest → IsSpec (word key.KRelation q ∷ named n p ∷ sign mark.Colon r ∷ us) (decl.Relation n p (Some s) []) rest

-- [`=>` eseq], where an absent one is the empty list
pub data IsRuleResults : List Spot → List Exp → List Spot → Type 0 where
  no_results : {us : List Spot} → Lacks mark.Arrow us → IsRuleResults us [] us
  results : {us rest : List Spot} {p : Place} {es : List Exp} → IsEseq us es rest → IsRuleResults (sign mark.Arrow p ∷ us) es rest

-- head = name [pargs] [`=>` eseq]
pub data IsHead : List Spot → Head → List Spot → Type 0 where
  conclusion : {us vs rest : List Spot} {n : ℕ} {p : Place} {ps : List Pattern} {es : List Exp} → IsPargs us ps vs → IsRuleResults vs es rest → IsHead (named n p ∷ us) ((n, p), ps, es) rest

-- clause = `axiom` head | `rule` [goals] dashes head
pub data IsClause : List Spot → Rule → List Spot → Type 0 where
  axiom_head : {us rest : List Spot} {p : Place} {h : Head} → IsHead us h rest
      → IsClause (word key.KAxiom p ∷ us) (rule_of p [] h (length (word key.KAxiom p ∷ us) - length rest)) rest
  rule_head : {us rest : List Spot} {d : ℕ} {p q : Place} {h : Head} → IsHead us h rest
      → IsClause (word key.KRule p ∷ dashes d q ∷ us) (rule_of p [] h (length (word key.KRule p ∷ dashes d q ∷ us) - length rest)) rest
  rule_goals : {us vs rest : List Spot} {d : ℕ} {p q : Place} {gs : List Goal} {h : Head} → IsGoals us gs (dashes d q ∷ vs) → IsHead vs h rest
      → IsClause (word key.KRule p ∷ us) (rule_of p gs h (length (word key.KRule p ∷ us) - length rest)) rest

-- {clause}
pub data IsMoreClauses : List Spot → List Rule → List Spot → Type 0 where
  no_more_clauses : {us : List Spot} → LacksClause us → IsMoreClauses us [] us
  more_clauses : {us vs rest : List Spot} {r : Rule} {rs : List Rule} → IsClause us r vs → IsMoreClauses vs rs rest → IsMoreClauses us (r ∷ rs) rest

-- [`:` type]
pub data IsOptionalType : List Spot → Option TypeExp → List Spot → Type 0 where
  no_type : {us : List Spot} → Lacks mark.Colon us → IsOptionalType us None us
  a_type : {us rest : List Spot} {p : Place} {t : TypeExp} → IsType us t rest → IsOptionalType (sign mark.Colon p ∷ us) (Some t) rest

-- [`:` sig]
pub data IsOptionalSig : List Spot → Option Sig → List Spot → Type 0 where
  no_sig : {us : List Spot} → Lacks mark.Colon us → IsOptionalSig us None us
  a_sig : {us rest : List Spot} {p : Place} {s : Sig} → IsSig us s rest → IsOptionalSig (sign mark.Colon p ∷ us) (Some s) rest

-- decl = datas | abbrev | `val` name [`:` type] `=` exp | `relation` name [`:` sig] `=` clause {clause} `end`
pub data IsDecl : List Spot → Decl → List Spot → Type 0 where
  d_datas : {us rest : List Spot} {d : Decl} → IsDatas us d rest → IsDecl us d rest
  d_abbrev : {us rest : List Spot} {d : Decl} → IsAbbrev us d rest → IsDecl us d rest
  d_val : {us vs rest : List Spot} {n : ℕ} {p q r : Place} {t : Option TypeExp} {e : Exp} → IsOptionalType us t (sign mark.Equals r ∷ vs) → IsExp vs e rest
      → IsDecl (word key.KVal q ∷ named n p ∷ us) (decl.Val n p t (Some e)) rest
  d_relation : {us vs ws rest : List Spot} {n : ℕ} {p q r x : Place} {s : Option Sig} {c : Rule} {cs : List Rule} → IsOptionalSig us s (sign mark.Equals r ∷ vs) → IsClause vs c ws
      → IsMoreClauses ws cs (word key.KEnd x ∷ rest) → IsDecl (word key.KRelation q ∷ named n p ∷ us) (decl.Relation n p s (c ∷ cs)) rest

-- uses = `with` text-literal, any number of them
pub data IsUses : List Spot → List Uses → List Spot → Type 0 where
  no_uses : {us : List Spot} → LacksUses us → IsUses us [] us
  more_uses : {us rest : List Spot} {f : ℕ} {p q : Place} {fs : List Uses} → IsUses us fs rest → IsUses (word key.KWith p ∷ literal (lit.Text f) q ∷ us) (record { file = f; place = p } ∷ fs) rest

-- {spec}
pub data IsSpecs : List Spot → List Decl → List Spot → Type 0 where
  no_spec : {us : List Spot} → LacksSpec us → IsSpecs us [] us
  more_specs : {us vs rest : List Spot} {d : Decl} {ds : List Decl} → IsSpec us d vs → IsSpecs vs ds rest → IsSpecs us (d ∷ ds) rest

-- {decl}
pub data IsDecls : List Spot → List Decl → List Spot → Type 0 where
  no_decl : {us : List Spot} → LacksDecl us → IsDecls us [] us
  more_decls : {us vs rest : List Spot} {d : Decl} {ds : List Decl} → IsDecl us d vs → IsDecls vs ds rest → IsDecls us (d ∷ ds) rest

-- text = `module` name `:` {uses} {spec} `end` {uses} {decl}, with the place of its end, and nothing behind it
pub data Derives (end : Place) : List Spot → Text → Type 0 where
  a_text : {us vs ws xs : List Spot} {m : ℕ} {p q r s : Place} {fs bs : List Uses} {ss ds : List Decl}
      → IsUses us fs vs → IsSpecs vs ss (word key.KEnd s ∷ ws) → IsUses ws bs xs → IsDecls xs ds []
      → Derives end (word key.KModule q ∷ named m p ∷ sign mark.Colon r ∷ us)
      (record { «module» = m; place = p; end = end; uses = fs; specs = ss; body_uses = bs; decls = ds })
