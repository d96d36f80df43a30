-- The tokens of the first form derive a tree.
use Rattle.std.proofs.Common.{◌≡◌, ℕ, ◌-◌, Bool, true, false, List, [], ◌∷◌, ◌++◌, length, map, Option, refl, sym, ap, subst, ◌∙◌, append_assoc}
use Rattle.std.specs.Prelude.{codes}
use Rattle.std.proofs.lemmas.List.{map-append}
use Rattle.rml_base.specs.Numbering.{number_in}
use Rattle.rml_base.specs.declared.place.Place.{Place}
use Rattle.rml_syntax.specs.declared.token.Spot.{Spot}
use Rattle.rml_syntax.specs.declared.token.Token.{Token}
use Rattle.rml_syntax.specs.declared.token.Token.TheVariants as token
use Rattle.rml_syntax.specs.declared.token.Lit.TheVariants as lit
use Rattle.rml_syntax.specs.declared.token.Key.TheVariants as key
use Rattle.rml_syntax.specs.declared.token.Mark.TheVariants as mark
use Rattle.rml_syntax.specs.declared.rules.Goal.{Goal}
use Rattle.rml_syntax.specs.declared.types.Sig.{Sig}
use Rattle.rml_syntax.specs.declared.types.TypeExp.TheVariants as type
use Rattle.rml_syntax.specs.declared.texts.Decl.{Decl}
use Rattle.rml_syntax.specs.declared.texts.Text.{Text}
use Rattle.rml_grammar.specs.Tokens.{word, named, sign, dashes, Lacks}
use Rattle.rml_grammar.specs.SpelledNames as n
use Rattle.rml_grammar.specs.SpelledTypes as y
use Rattle.rml_grammar.specs.SpelledTypes.{IsSig}
use Rattle.rml_grammar.specs.SpelledPatterns as p
use Rattle.rml_grammar.specs.SpelledExpressions as e
use Rattle.rml_grammar.specs.SpelledGoals as g
use Rattle.rml_grammar.specs.SpelledGoals.{IsGoal, IsGoals, IsMoreGoals}
use Rattle.rml_grammar.specs.SpelledTexts as t
use Rattle.rml_grammar.specs.SpelledTexts.{Derives, IsClause, IsDecl, IsHead, IsOptionalSig}
use Rattle.rml_grammar.specs.Trees.{Head, rule_of, short}
use Rattle.rml_lex.specs.Numbered.{token_in}
use Rattle.rml_top.specs.FirstForm.{Parts, Premise, conclusion, further, interface, opening, premise, tokens_of}
use Rattle.rml_top.proofs.Fits.{fits, tokens_in}
use Rattle.rml_top.proofs.TokenKinds.{shown_of}

-- ---- tokens at any places

-- P of each list that begins with these tokens, wherever they stand, and goes on with tokens like the others
abbrev Before : List Token → List Token → (List Spot → Type 0) → Type 0
Before [] others P = (rest : List Spot) → tokens_in rest ≡ others → P rest
Before (t ∷ ts) others P = (at : Place) → Before ts others (λ us. P (record { token = t; place = at } ∷ us))

before : (ts others : List Token) (P : List Spot → Type 0) → Before ts others P → (us : List Spot) → tokens_in us ≡ ts ++ others → P us
before [] others P h us e = h us e
before (t ∷ ts) others P h [] e = absurd cc
before (t ∷ ts) others P h (u ∷ us) e =
    let same : t ≡ u.token = cc in
    let more : tokens_in us ≡ ts ++ others = cc in
    before ts others (λ vs. P (u ∷ vs)) (subst (λ (x : Token). Before ts others (λ vs. P (record { token = x; place = u.place } ∷ vs))) same (h u.place)) us more

-- P of each list of these tokens
abbrev Anywhere : List Token → (List Spot → Type 0) → Type 0
Anywhere [] P = P []
Anywhere (t ∷ ts) P = (at : Place) → Anywhere ts (λ us. P (record { token = t; place = at } ∷ us))

anywhere : (ts : List Token) (P : List Spot → Type 0) → Anywhere ts P → (us : List Spot) → tokens_in us ≡ ts → P us
anywhere [] P h [] e = h
anywhere [] P h (u ∷ us) e = absurd cc
anywhere (t ∷ ts) P h [] e = absurd cc
anywhere (t ∷ ts) P h (u ∷ us) e =
    let same : t ≡ u.token = cc in
    let more : tokens_in us ≡ ts = cc in
    anywhere ts (λ vs. P (u ∷ vs)) (subst (λ (x : Token). Anywhere ts (λ vs. P (record { token = x; place = u.place } ∷ vs))) same (h u.place)) us more

-- ---- the rule

-- a goal, and the tokens behind it
record OneGoal (others : List Token) (us : List Spot) : Type 0 where
  pub goal : Goal
  pub rest : List Spot
  pub is : Lacks mark.Arrow rest → IsGoal us goal rest
  pub tokens : tokens_in rest ≡ others

-- further goals, the dashes and the conclusion
record EndsRule (us : List Spot) : Type 0 where
  pub goals : List Goal
  pub number : ℕ
  pub place : Place
  pub behind : List Spot
  pub head : Head
  pub end : Place
  pub are : IsMoreGoals us goals (dashes number place ∷ behind)
  pub concludes : IsHead behind head (word key.KEnd end ∷ [])
  pub lacks : Lacks mark.Arrow us

-- goals, the dashes and the conclusion
record IsRule (us : List Spot) : Type 0 where
  pub goals : List Goal
  pub number : ℕ
  pub place : Place
  pub behind : List Spot
  pub head : Head
  pub end : Place
  pub are : IsGoals us goals (dashes number place ∷ behind)
  pub concludes : IsHead behind head (word key.KEnd end ∷ [])

rule-is : (at : Place) (us : List Spot) (r : IsRule us) → IsClause (word key.KRule at ∷ us) (rule_of at r.goals r.head (length (word key.KRule at ∷ us) - length (word key.KEnd r.end ∷ []))) (word key.KEnd r.end ∷ [])
rule-is at us r = t.rule_goals r.are r.concludes

-- ---- the declarations

signature-is : (a b : ℕ) (p q r s u : Place) (rest : List Spot)
    → IsSig (named a p ∷ named b q ∷ sign mark.Arrow r ∷ sign mark.OpenRound s ∷ sign mark.CloseRound u ∷ rest) (record { inputs = type.App [] (short (a, p) ∷ short (b, q) ∷ []) ∷ []; outputs = [] }) rest
signature-is a b p q r s u rest = y.arrow (y.one_type (y.product (y.name (n.alone refl) (y.more_longs (n.alone refl) (y.no_long refl))) (y.no_factor refl))) y.no_types

relation-is : (m : ℕ) (p q r at : Place) (us vs : List Spot) (s : Option Sig) → IsOptionalSig us s (sign mark.Equals r ∷ word key.KRule at ∷ vs) → IsRule vs → (d : Decl) × IsDecl (word key.KRelation q ∷ named m p ∷ us) d []
relation-is m p q r at us vs s o k = (_, t.d_relation o (rule-is at vs k) (t.no_more_clauses refl))

abbrev HasTree : Place → List Spot → Type 0
HasTree end us = (tree : Text) × Derives end us tree

module _ (names : List (List ℕ)) where
  -- the token that the bytes spell, with its number
  abbrev pub token_of : List ℕ → Token
  token_of s = token_in names (shown_of s)

  abbrev pub tokens : List (List ℕ) → List Token
  tokens ss = map token_of ss

  abbrev called : List ℕ → Token
  called s = token.Name (number_in names s)

  abbrev pub IsLiteralToken : List ℕ → Type 0
  IsLiteralToken s = (k : ℕ) × (token_of s ≡ token.Lit (lit.Text k))

  abbrev pub AreLiteralTokens : List Premise → Type 0
  AreLiteralTokens [] = Unit {0}
  AreLiteralTokens (q ∷ qs) = IsLiteralToken q.literal × AreLiteralTokens qs

  abbrev premise_of : Bool → List ℕ → List (List ℕ)
  premise_of b l = premise (record { literal = l; bracketed = b })

  goal-first : (b : Bool) (l : List ℕ) (others : List Token) → IsLiteralToken l → (us : List Spot) → tokens_in us ≡ tokens (premise_of b l) ++ others → OneGoal others us
  goal-first true l others k us f =
      before (called (codes "print") ∷ token.Sign mark.OpenRound ∷ token.Lit (lit.Text k.0) ∷ token.Sign mark.CloseRound ∷ []) others (OneGoal others)
      (λ a b c d rest same. record {
        goal = _;
        rest = rest;
        is = λ lacks. g.plain (g.call (n.alone refl) refl (e.eargs1 (e.bracketed (e.some_exps (e.chain (e.atom (e.simple e.lit)) (e.no_eapp refl)) (e.no_more_exps refl)))) (g.no_results lacks));
        tokens = same;
      })
      us (f ∙ ap (λ (x : Token). called (codes "print") ∷ token.Sign mark.OpenRound ∷ x ∷ token.Sign mark.CloseRound ∷ others) k.1)
  goal-first false l others k us f =
      before (called (codes "print") ∷ token.Lit (lit.Text k.0) ∷ []) others (OneGoal others)
      (λ a b rest same. record {
        goal = _;
        rest = rest;
        is = λ lacks. g.plain (g.call (n.alone refl) refl (e.eargs1 (e.an_atom e.lit)) (g.no_results lacks));
        tokens = same;
      })
      us (f ∙ ap (λ (x : Token). called (codes "print") ∷ x ∷ others) k.1)

  ending : (d : List ℕ) (k : ℕ) → token_of d ≡ token.Dashes k → (us : List Spot) → tokens_in us ≡ tokens (d ∷ conclusion) → EndsRule us
  ending d k same us f =
      anywhere (token.Dashes k ∷ called (codes "main") ∷ token.Sign mark.OpenRound ∷ token.Sign mark.Wild ∷ token.Sign mark.CloseRound ∷ token.Word key.KEnd ∷ []) EndsRule
      (λ a b c d h i. record {
        goals = [];
        number = k;
        place = a;
        behind = _;
        head = _;
        end = i;
        are = g.no_more_goals refl;
        concludes = t.conclusion (p.pargs1 (p.bracketed (p.some_pats (p.unbound tt (p.chain (p.atom (p.simple p.any)) (p.no_papp refl))) (p.no_more_pats refl)))) (t.no_results refl);
        lacks = refl;
      })
      us (f ∙ ap (λ (x : Token). x ∷ tokens conclusion) same)

  regrouped : (q : Premise) (qs : List Premise) (rest : List (List ℕ)) → tokens (premise q ++ (further qs ++ rest)) ≡ tokens (premise q) ++ tokens (further qs ++ rest)
  regrouped q qs rest = map-append token_of (premise q) (further qs ++ rest)

  further-ends : (qs : List Premise) (d : List ℕ) (k : ℕ) → token_of d ≡ token.Dashes k → AreLiteralTokens qs → (us : List Spot) → tokens_in us ≡ tokens (further qs ++ d ∷ conclusion) → EndsRule us
  further-ends [] d k same ls us f = ending d k same us f
  further-ends (q ∷ qs) d k same ls us f =
      let assoc : (premise q ++ further qs) ++ d ∷ conclusion ≡ premise q ++ (further qs ++ d ∷ conclusion) = append_assoc (premise q) (further qs) (d ∷ conclusion) in
      before (token.Sign mark.Amp ∷ []) (tokens (premise q) ++ tokens (further qs ++ d ∷ conclusion)) EndsRule
      (λ a rest e.
      let one = goal-first q.bracketed q.literal (tokens (further qs ++ d ∷ conclusion)) ls.0 rest e in
      let more = further-ends qs d k same ls.1 one.rest one.tokens in
      record {
        goals = one.goal ∷ more.goals;
        number = more.number;
        place = more.place;
        behind = more.behind;
        head = more.head;
        end = more.end;
        are = g.more_goals (one.is more.lacks) more.are;
        concludes = more.concludes;
        lacks = refl;
      })
      us (f ∙ ap (λ (x : List (List ℕ)). token.Sign mark.Amp ∷ tokens x) assoc ∙ ap (λ (x : List Token). token.Sign mark.Amp ∷ x) (regrouped q qs (d ∷ conclusion)))

  abbrev goals_of : Parts → List (List ℕ)
  goals_of p = premise p.first ++ (further p.others ++ p.dashes ∷ conclusion)

  rule-of : (first : Premise) (qs : List Premise) (d : List ℕ) (k : ℕ) → token_of d ≡ token.Dashes k → IsLiteralToken first.literal → AreLiteralTokens qs → (us : List Spot)
      → tokens_in us ≡ tokens (premise first ++ (further qs ++ d ∷ conclusion)) → IsRule us
  rule-of first qs d k same l ls us f =
      let one = goal-first first.bracketed first.literal (tokens (further qs ++ d ∷ conclusion)) l us (f ∙ regrouped first qs (d ∷ conclusion)) in
      let more = further-ends qs d k same ls one.rest one.tokens in
      record {
        goals = one.goal ∷ more.goals;
        number = more.number;
        place = more.place;
        behind = more.behind;
        head = more.head;
        end = more.end;
        are = g.some_goals (one.is more.lacks) more.are;
        concludes = more.concludes;
      }

  -- ---- the text

  abbrev signature_tokens : List Token → List Token
  signature_tokens rest = called (codes "string") ∷ called (codes "list") ∷ token.Sign mark.Arrow ∷ token.Sign mark.OpenRound ∷ token.Sign mark.CloseRound ∷ rest

  abbrev opening_tokens : Bool → List Token
  opening_tokens true = token.Word key.KRelation ∷ called (codes "main") ∷ token.Sign mark.Colon ∷ signature_tokens (token.Sign mark.Equals ∷ token.Word key.KRule ∷ [])
  opening_tokens false = token.Word key.KRelation ∷ called (codes "main") ∷ token.Sign mark.Equals ∷ token.Word key.KRule ∷ []

  abbrev interface_tokens : ℕ → List Token → List Token
  interface_tokens m rest =
      token.Word key.KModule ∷ token.Name m ∷ token.Sign mark.Colon ∷ token.Word key.KRelation ∷ called (codes "main") ∷ token.Sign mark.Colon ∷ signature_tokens (token.Word key.KEnd ∷ rest)

  tree-of : (typed : Bool) (end : Place) (m : ℕ) (others : List Token) → ((rest : List Spot) → tokens_in rest ≡ others → IsRule rest) → (us : List Spot) → tokens_in us ≡ interface_tokens m (opening_tokens typed) ++ others → HasTree end us
  tree-of true end m others rule us f =
      before (interface_tokens m (opening_tokens true)) others (HasTree end)
      (λ p1 p2 p3 p4 p5 p6 p7 p8 p9 p10 p11 p12 p13 p14 p15 p16 p17 p18 p19 p20 p21 p22 rest same.
      let body = relation-is (number_in names (codes "main")) p14 p13 p21 p22 _ rest _ (t.a_sig (signature-is _ _ p16 p17 p18 p19 p20 _)) (rule rest same) in
      (_, t.a_text (t.no_uses refl) (t.more_specs (t.relation (signature-is _ _ p7 p8 p9 p10 p11 _)) (t.no_spec refl)) (t.no_uses refl) (t.more_decls body.1 (t.no_decl refl))))
      us f
  tree-of false end m others rule us f =
      before (interface_tokens m (opening_tokens false)) others (HasTree end)
      (λ p1 p2 p3 p4 p5 p6 p7 p8 p9 p10 p11 p12 p13 p14 p15 p16 rest same.
      let body = relation-is (number_in names (codes "main")) p14 p13 p15 p16 _ rest _ (t.no_sig refl) (rule rest same) in
      (_, t.a_text (t.no_uses refl) (t.more_specs (t.relation (signature-is _ _ p7 p8 p9 p10 p11 _)) (t.no_spec refl)) (t.no_uses refl) (t.more_decls body.1 (t.no_decl refl))))
      us f

  opened : (typed : Bool) (name : List ℕ) (m : ℕ) (rest : List (List ℕ)) → token_of name ≡ token.Name m → tokens (codes "module" ∷ name ∷ interface ++ (opening typed ++ rest)) ≡ interface_tokens m (opening_tokens typed) ++ tokens rest
  opened true name m rest same = ap (λ (x : Token). token.Word key.KModule ∷ x ∷ tokens (interface ++ (opening true ++ rest))) same
  opened false name m rest same = ap (λ (x : Token). token.Word key.KModule ∷ x ∷ tokens (interface ++ (opening false ++ rest))) same

  -- each token of the first form that may vary is one of its kind
  pub record Tells (p : Parts) : Type 0 where
    pub name : ℕ
    pub named : token_of p.name ≡ token.Name name
    pub first : IsLiteralToken p.first.literal
    pub others : AreLiteralTokens p.others
    pub dashes : ℕ
    pub dashed : token_of p.dashes ≡ token.Dashes dashes

  pub derived : (p : Parts) (end : Place) (us : List Spot) → Tells p → tokens_in us ≡ tokens (tokens_of p) → HasTree end us
  derived p end us h f =
      tree-of p.typed end h.name (tokens (goals_of p)) (λ rest e. rule-of p.first p.others p.dashes h.dashes h.dashed h.first h.others rest e) us (f ∙ opened p.typed p.name h.name (goals_of p) h.named)

  -- ---- the limits

  fits-premise : (b : Bool) (l : List ℕ) (others : List Token) → IsLiteralToken l → fits 0 1 others ≡ true → fits 0 1 (tokens (premise_of b l) ++ others) ≡ true
  fits-premise true l others k h = subst (λ (x : Token). fits 0 1 (called (codes "print") ∷ token.Sign mark.OpenRound ∷ x ∷ token.Sign mark.CloseRound ∷ others) ≡ true) (sym k.1) h
  fits-premise false l others k h = subst (λ (x : Token). fits 0 1 (called (codes "print") ∷ x ∷ others) ≡ true) (sym k.1) h

  fits-further : (qs : List Premise) (d : List ℕ) (k : ℕ) → token_of d ≡ token.Dashes k → AreLiteralTokens qs → fits 0 1 (tokens (further qs ++ d ∷ conclusion)) ≡ true
  fits-further [] d k same ls = subst (λ (x : Token). fits 0 1 (x ∷ tokens conclusion) ≡ true) (sym same) refl
  fits-further (q ∷ qs) d k same ls =
      let assoc : (premise q ++ further qs) ++ d ∷ conclusion ≡ premise q ++ (further qs ++ d ∷ conclusion) = append_assoc (premise q) (further qs) (d ∷ conclusion) in
      let one = fits-premise q.bracketed q.literal (tokens (further qs ++ d ∷ conclusion)) ls.0 (fits-further qs d k same ls.1) in
      subst (λ (x : List Token). fits 0 1 x ≡ true) (sym (ap tokens assoc ∙ regrouped q qs (d ∷ conclusion))) one

  fits-opened : (typed : Bool) (m : ℕ) (others : List Token) → fits 0 1 others ≡ true → fits 0 0 (interface_tokens m (opening_tokens typed) ++ others) ≡ true
  fits-opened true m others h = h
  fits-opened false m others h = h

  pub fits-all : (p : Parts) (us : List Spot) → Tells p → tokens_in us ≡ tokens (tokens_of p) → fits 0 0 (tokens_in us) ≡ true
  fits-all p us h f =
      let rest = fits-premise p.first.bracketed p.first.literal (tokens (further p.others ++ p.dashes ∷ conclusion)) h.first (fits-further p.others p.dashes h.dashes h.dashed h.others) in
      let goals : fits 0 1 (tokens (goals_of p)) ≡ true = subst (λ (x : List Token). fits 0 1 x ≡ true) (sym (regrouped p.first p.others (p.dashes ∷ conclusion))) rest in
      subst (λ (x : List Token). fits 0 0 x ≡ true) (sym (f ∙ opened p.typed p.name h.name (goals_of p) h.named)) (fits-opened p.typed h.name (tokens (goals_of p)) goals)
