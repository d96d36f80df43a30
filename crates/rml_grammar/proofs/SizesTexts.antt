-- A rule has fewer parts than tokens, a constructor fewer than a text; and what declarations weigh is no more than their tokens.
use Rattle.std.proofs.Common.{◌≡◌, ℕ, suc, ◌+◌, ◌<◌, ◌≤◌, List, [], ◌∷◌, length, refl, arith, sum_by}
use Rattle.std.specs.Prelude.{All}
use Rattle.std.specs.List.{flat_map}
use Rattle.std.proofs.lemmas.List.Sums.{sum_by-append, sum_by-cons}
use Rattle.std.proofs.lemmas.List.Concat.{flat_map-cons}
use Rattle.std.proofs.lemmas.List.Elements.{All-append, All-cons, All-nil}
use Rattle.rml_base.specs.declared.place.Place.{Place}
use Rattle.rml_syntax.specs.declared.token.Spot.{Spot}
use Rattle.rml_syntax.specs.declared.rules.Exp.{Exp}
use Rattle.rml_syntax.specs.declared.rules.Rule.{Rule}
use Rattle.rml_syntax.specs.declared.types.TypeExp.{TypeExp}
use Rattle.rml_syntax.specs.declared.types.ConBind.{ConBind}
use Rattle.rml_syntax.specs.declared.types.DataBind.{DataBind}
use Rattle.rml_syntax.specs.declared.texts.Decl.{Decl}
use Rattle.rml_syntax.specs.declared.texts.Text.{Text}
use Rattle.rml_syntax.specs.declared.texts.Uses.{Uses}
use Rattle.rml_grammar.specs.Sizes.{HasPartsBelow, IsSmallRule, constructors_in, declarations, exp_size, pattern_size, rules_in, weight}
use Rattle.rml_grammar.specs.SpelledTypes.{IsFactors}
use Rattle.rml_grammar.specs.SpelledTypes as t
use Rattle.rml_grammar.specs.SpelledTexts as s
use Rattle.rml_grammar.specs.SpelledTexts.{Derives, IsAbbrev, IsClause, IsCon, IsData, IsDatas, IsDecl, IsDecls, IsHead, IsMoreClauses, IsMoreCons, IsMoreDatas, IsRuleResults, IsSpec, IsSpecs, IsUses}
use Rattle.rml_grammar.specs.Trees.{Head}
use Rattle.rml_grammar.proofs.ShortTypes.{short-tatom}
use Rattle.rml_grammar.proofs.ShortTexts.{short-optional_sig, short-optional_type, shorter-con, shorter-data, shorter-decl, shorter-spec, shorter-thead}
use Rattle.rml_grammar.proofs.SizesExpressions.{eseq-size, exp-size}
use Rattle.rml_grammar.proofs.SizesGoals.{goals-size}
use Rattle.rml_grammar.proofs.SizesPatterns.{pargs-size}

-- rules
rule_results-size : {us rest : List Spot} {es : List Exp} → IsRuleResults us es rest → sum_by exp_size es + length rest ≤ length us
rule_results-size (s.no_results h) = omega arith
rule_results-size (s.results a) = let x = eseq-size a in omega arith

head-size : {us rest : List Spot} {h : Head} → IsHead us h rest → 1 + sum_by pattern_size h.1 + sum_by exp_size h.2 + length rest ≤ length us
head-size (s.conclusion a b) = let x = pargs-size a in let y = rule_results-size b in omega arith

clause-size : {us rest : List Spot} {r : Rule} → IsClause us r rest → IsSmallRule r × (r.tokens + length rest ≤ length us)
clause-size (s.axiom_head a) = let x = head-size a in (omega arith, omega arith)
clause-size (s.rule_head a) = let x = head-size a in (omega arith, omega arith)
clause-size (s.rule_goals a b) = let x = goals-size a in let y = head-size b in (omega arith, omega arith)

abbrev tokens_of : Rule → ℕ
tokens_of r = r.tokens

more_clauses-size : {us rest : List Spot} {rs : List Rule} → IsMoreClauses us rs rest → All IsSmallRule rs × (sum_by tokens_of rs + length rest ≤ length us)
more_clauses-size (s.no_more_clauses e) = (All-nil IsSmallRule, omega arith)
more_clauses-size (s.more_clauses {r} {rs} a b) = let x = clause-size a in let y = more_clauses-size b in (All-cons IsSmallRule r rs x.0 y.0, omega (arith, sum_by-cons tokens_of r rs, x.1, y.1))

-- constructors
factors-size : {us rest : List Spot} {ts : List TypeExp} → IsFactors us ts rest → length ts + length rest ≤ length us
factors-size (t.no_factor e) = omega arith
factors-size (t.more_factors a b) = let x = short-tatom a in let y = factors-size b in omega arith

module _ (n : ℕ) where
  con-size : {us rest : List Spot} {c : ConBind} → length us ≤ n → IsCon us c rest → HasPartsBelow n c
  con-size le (s.constant e) = omega arith
  con-size le (s.of_parts a b) = let x = short-tatom a in let y = factors-size b in omega arith

  more_cons-size : {us rest : List Spot} {cs : List ConBind} → length us ≤ n → IsMoreCons us cs rest → All (HasPartsBelow n) cs
  more_cons-size le (s.no_more_cons e) = All-nil (HasPartsBelow n)
  more_cons-size le (s.more_cons {c} {cs} a b) = let x = shorter-con a in All-cons (HasPartsBelow n) c cs (con-size (omega arith) a) (more_cons-size (omega arith) b)

  data-size : {us rest : List Spot} {d : DataBind} → length us ≤ n → IsData us d rest → All (HasPartsBelow n) d.cons
  data-size le (s.of_cons {c} {cs} a b d) = let x = shorter-thead a in let y = shorter-con b in All-cons (HasPartsBelow n) c cs (con-size (omega arith) b) (more_cons-size (omega arith) d)

  abbrev cons_of : DataBind → List ConBind
  cons_of d = d.cons

  all-cons : (d : DataBind) (ds : List DataBind) → All (HasPartsBelow n) d.cons → All (HasPartsBelow n) (flat_map cons_of ds) → All (HasPartsBelow n) (flat_map cons_of (d ∷ ds))
  all-cons d ds a b = rw (flat_map-cons cons_of d ds) (All-append (HasPartsBelow n) d.cons (flat_map cons_of ds) a b)

  more_datas-size : {us rest : List Spot} {ds : List DataBind} → length us ≤ n → IsMoreDatas us ds rest → All (HasPartsBelow n) (flat_map cons_of ds)
  more_datas-size le (s.no_more_datas e) = All-nil (HasPartsBelow n)
  more_datas-size le (s.more_datas {d} {ds} a b) = let x = shorter-data a in all-cons d ds (data-size (omega arith) a) (more_datas-size (omega arith) b)

  -- what holds of a declaration
  pub record IsSmall (us rest : List Spot) (d : Decl) : Type 0 where
    pub rules : All IsSmallRule (rules_in d)
    pub constructors : All (HasPartsBelow n) (constructors_in d)
    pub weighs : weight d + length rest ≤ length us

  -- one without rules, vals and constructors
  bare : {us rest : List Spot} (d : Decl) → rules_in d ≡ [] → constructors_in d ≡ [] → weight d ≡ 0 → length rest < length us → IsSmall us rest d
  bare d a b c lt = record {
    rules = rw a (All-nil IsSmallRule);
    constructors = rw b (All-nil (HasPartsBelow n));
    weighs = omega arith;
  }

  datas-size : {us rest : List Spot} {d : Decl} → length us ≤ n → length rest < length us → IsDatas us d rest → IsSmall us rest d
  datas-size le lt (s.some_datas {d} {ds} a b) = let x = shorter-data a in record {
    rules = All-nil IsSmallRule;
    constructors = all-cons d ds (data-size (omega arith) a) (more_datas-size (omega arith) b);
    weighs = omega arith;
  }

  spec-size : {us rest : List Spot} {d : Decl} → length us ≤ n → length rest < length us → IsSpec us d rest → IsSmall us rest d
  spec-size le lt (s.datas a) = datas-size le lt a
  spec-size le lt (s.an_abbrev (s.abbreviation a b)) = bare _ refl refl refl lt
  spec-size le lt (s.abstract a) = bare _ refl refl refl lt
  spec-size le lt (s.val a) = bare _ refl refl refl lt
  spec-size le lt (s.relation a) = bare _ refl refl refl lt

  decl-size : {us rest : List Spot} {d : Decl} → length us ≤ n → length rest < length us → IsDecl us d rest → IsSmall us rest d
  decl-size le lt (s.d_datas a) = datas-size le lt a
  decl-size le lt (s.d_abbrev (s.abbreviation a b)) = bare _ refl refl refl lt
  decl-size le lt (s.d_val {e} a b) = let x = short-optional_type a in let y = exp-size b in record {
    rules = All-nil IsSmallRule;
    constructors = All-nil (HasPartsBelow n);
    weighs = omega (arith, sum_by-cons exp_size e []);
  }
  decl-size le lt (s.d_relation {c} {cs} a b d) = let x = short-optional_sig a in let y = clause-size b in let z = more_clauses-size d in record {
    rules = All-cons IsSmallRule c cs y.0 z.0;
    constructors = All-nil (HasPartsBelow n);
    weighs = omega (arith, sum_by-cons tokens_of c cs, y.1, z.1);
  }

  -- the same of all declarations in a list
  abbrev HasSmallRules : Decl → Type 0
  HasSmallRules d = All IsSmallRule (rules_in d)

  abbrev HasSmallConstructors : Decl → Type 0
  HasSmallConstructors d = All (HasPartsBelow n) (constructors_in d)

  pub record AreSmall (us rest : List Spot) (ds : List Decl) : Type 0 where
    pub rules : All HasSmallRules ds
    pub constructors : All HasSmallConstructors ds
    pub weighs : sum_by weight ds + length rest ≤ length us

  none-small : {us : List Spot} → AreSmall us us []
  none-small = record { rules = All-nil HasSmallRules; constructors = All-nil HasSmallConstructors; weighs = omega arith }

  more-small : {us vs rest : List Spot} {d : Decl} {ds : List Decl} → IsSmall us vs d → AreSmall vs rest ds → AreSmall us rest (d ∷ ds)
  more-small {d} {ds} x y = record {
    rules = All-cons HasSmallRules d ds x.rules y.rules;
    constructors = All-cons HasSmallConstructors d ds x.constructors y.constructors;
    weighs = omega (arith, sum_by-cons weight d ds, x.weighs, y.weighs);
  }

  specs-size : {us rest : List Spot} {ds : List Decl} → length us ≤ n → IsSpecs us ds rest → AreSmall us rest ds
  specs-size le (s.no_spec e) = none-small
  specs-size le (s.more_specs a b) = let x = shorter-spec a in more-small (spec-size le x a) (specs-size (omega arith) b)

  decls-size : {us rest : List Spot} {ds : List Decl} → length us ≤ n → IsDecls us ds rest → AreSmall us rest ds
  decls-size le (s.no_decl e) = none-small
  decls-size le (s.more_decls a b) = let x = shorter-decl a in more-small (decl-size le x a) (decls-size (omega arith) b)

short-uses : {us rest : List Spot} {fs : List Uses} → IsUses us fs rest → length rest ≤ length us
short-uses (s.no_uses e) = omega arith
short-uses (s.more_uses a) = let x = short-uses a in omega arith

short-specs : {us rest : List Spot} {ds : List Decl} → IsSpecs us ds rest → length rest ≤ length us
short-specs (s.no_spec e) = omega arith
short-specs (s.more_specs a b) = let x = shorter-spec a in let y = short-specs b in omega arith

-- both halves of a text
pub text-size : {end : Place} {us : List Spot} {t : Text} → Derives end us t → AreSmall (length us) us [] (declarations t)
text-size (s.a_text {us} {vs} {ws} {xs} {m} {p} {q} {r} {s} {ss} {ds} a b c d) =
    let n : ℕ = suc (suc (suc (length us))) in
    let h = short-uses a in
    let i = short-specs b in
    let j = short-uses c in
    let x = specs-size n (omega arith) b in
    let y = decls-size n (omega arith) d in
    record {
      rules = All-append (HasSmallRules n) ss ds x.rules y.rules;
      constructors = All-append (HasSmallConstructors n) ss ds x.constructors y.constructors;
      weighs = omega (arith, sum_by-append weight ss ds, x.weighs, y.weighs);
    }
