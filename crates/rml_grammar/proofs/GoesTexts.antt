-- Rules, declarations and texts can be finished.
use Rattle.std.proofs.Common.{◌≡◌, ℕ, zero, suc, ◌-◌, ◌<◌, List, [], ◌∷◌, ◌++◌, length, refl, sym, ap, ◌∙◌, arith, Option, Some, None, Result, Ok, Err, inl, inr}
use Rattle.std.proofs.Math.ListN.{length-append}
use Rattle.rml_base.specs.declared.place.Place.{Place}
use Rattle.rml_syntax.specs.declared.token.Spot.{Spot}
use Rattle.rml_syntax.specs.declared.token.Token.{Token}
use Rattle.rml_syntax.specs.declared.token.Token.TheVariants as token
use Rattle.rml_syntax.specs.declared.token.Lit.TheVariants as lit
use Rattle.rml_syntax.specs.declared.token.Key.TheVariants as key
use Rattle.rml_syntax.specs.declared.token.Mark.TheVariants as mark
use Rattle.rml_syntax.specs.declared.rules.Goal.{Goal}
use Rattle.rml_syntax.specs.declared.rules.Pattern.{Pattern}
use Rattle.rml_syntax.specs.declared.rules.Rule.{Rule}
use Rattle.rml_syntax.specs.declared.types.ConBind.{ConBind}
use Rattle.rml_syntax.specs.declared.types.DataBind.{DataBind}
use Rattle.rml_syntax.specs.declared.types.Sig.{Sig}
use Rattle.rml_syntax.specs.declared.types.TypeExp.{TypeExp}
use Rattle.rml_syntax.specs.declared.texts.Text.{Text}
use Rattle.rml_syntax.specs.declared.texts.Uses.{Uses}
use Rattle.rml_syntax.specs.declared.types.TypeHead.{TypeHead}
use Rattle.rml_syntax.specs.declared.texts.Decl.{Decl}
use Rattle.rml_syntax.specs.declared.texts.Decl.TheVariants as decl
use Rattle.rml_grammar.specs.declared.fault.Fault.{Fault}
use Rattle.rml_grammar.specs.declared.fault.ParseKind.TheVariants as kind
use Rattle.rml_grammar.specs.declared.front.Front.{Front}
use Rattle.rml_grammar.specs.declared.front.Front.TheVariants as front
use Rattle.rml_grammar.specs.declared.front.Opening.{Opening}
use Rattle.rml_grammar.specs.declared.front.Opening.TheVariants as opening
use Rattle.rml_grammar.specs.Tokens.{named, literal, tyvar, word, sign, dashes, after, after_word, front_of, opening_of}
use Rattle.rml_grammar.specs.Reading.{◌>>=◌, Parser, before, enclosed, name_at, repeated, separated, then_by}
use Rattle.rml_grammar.specs.Trees.{Head, rule_of}
use Rattle.rml_grammar.specs.Types.{sig_at, tatom_at, type_at, inner_bracket}
use Rattle.rml_grammar.specs.Patterns.{pargs_at}
use Rattle.rml_grammar.specs.Expressions.{eseq_at, exp_at}
use Rattle.rml_grammar.specs.Goals.{goals_at}
use Rattle.rml_grammar.specs.Texts as g
use Rattle.rml_grammar.proofs.Holds.{Holds, holds-map, name-sound}
use Rattle.rml_grammar.proofs.Views.{opens}
use Rattle.rml_grammar.proofs.Levels.{clauses_full, clauses_none, clauses_one, text_is}
use Rattle.rml_grammar.proofs.ShortTexts.{shorter-clause, shorter-decl, shorter-spec}
use Rattle.rml_grammar.proofs.SoundTexts.{clause-sound, decl-sound, spec-sound, use-sound, use-turn}
use Rattle.rml_grammar.specs.SpelledTexts.{IsClause, IsDecl, IsSpec}
use Rattle.rml_grammar.specs.Laws.{IsUnexpected}
use Rattle.rml_grammar.proofs.Fine.{Keeps, Within, fine-front, fine-opening, sign-decides, word-decides}
use Rattle.rml_grammar.proofs.FineTexts as fine
use Rattle.rml_grammar.proofs.Goes.{Anything, Narrow, Wide, narrow, closed, ended, equals, line, CanFinish, Cut, Goes, err-is, goes-is, goes-refused, goes-repeated, goes-word, next-is, next-word, passes, takes-word, Next, Branch, behind, like, at, wide-all, narrow-all, ok-is, bind-ok, fine-within-ok, goes-give, goes-map, goes-then, goes-before-fewer, next-before-fewer, goes-first, next-first, goes-by, goes-separated, goes-sign, next-sign, goes-enclosed, next-enclosed, lacks-quiet, none-repeats, never-sign, never-word, next-give, next-map, next-then, next-separated, refuses}
use Rattle.rml_grammar.proofs.GoesNames.{Quiet, ByName, quiet-next, quiet-anywhere, quiet-map, quiet-then, quiet-fewer, named-next, goes-name, by-name}
use Rattle.rml_grammar.proofs.GoesTypes as t
use Rattle.rml_grammar.proofs.GoesExpressions.{exp-goes, exp-by-name, eseq-goes, eseq-by-name}
use Rattle.rml_grammar.proofs.GoesPatterns.{pargs-goes, quiet-pargs}
use Rattle.rml_grammar.proofs.GoesGoals.{wider, narrow-arrow, goals-goes}

next-name : (S : List Spot → Type 0) → Next Anything S name_at
next-name S = named-next S name_at (by-name S)

-- heads of types, behind which nothing is looked at
by-tyvar : (S : List Spot → Type 0) (y : Spot) (f : Front) → front_of (y ∷ []) ≡ f → Branch S g.tyvar_at y
by-tyvar S y (front.TyVar v p) e = behind (λ us. Ok (v, us)) (goes-give S v) (next-give Anything S v (λ z s. tt)) (λ us. rw e refl)
by-tyvar S y f e = refuses S g.tyvar_at y kind.Unexpected (λ us. rw e refl)

tyvar-goes : (S : List Spot → Type 0) → Goes S g.tyvar_at
tyvar-goes S = goes-first S g.tyvar_at fine.tyvar-fine (λ a h z s. absurd (cc h)) (λ y. by-tyvar S y (front_of (y ∷ [])) refl)

tyvar-next : (S : List Spot → Type 0) → Next Anything S g.tyvar_at
tyvar-next S = next-first S g.tyvar_at (λ us. Ok (0, us)) (tyvar 0 at) (λ us. refl) (next-give Anything S 0 (λ z s. tt))

abbrev first-var : Parser ℕ
first-var us = g.tyvar_at us >>= before (after mark.Comma)

abbrev other-vars : ℕ → Parser (List ℕ)
other-vars v us = enclosed mark.CloseRound g.tyvar_at us >>= λ vs. Ok (v ∷ vs.0, vs.1)

ready-round : (z : List Spot) → Wide (sign mark.CloseRound at ∷ z)
ready-round z = narrow closed

tyvars-goes : Goes Anything g.tyvars_at
tyvars-goes = goes-then Anything Anything first-var other-vars (goes-sign Anything Anything mark.Comma g.tyvar_at (λ z. tt) (tyvar-goes Anything))
    (λ v. goes-map Anything (enclosed mark.CloseRound g.tyvar_at) (λ vs. v ∷ vs) (goes-enclosed g.tyvar_at (tyvar-goes Wide) (tyvar-next Wide) Anything mark.CloseRound ready-round))
    (λ v. next-map Anything Anything (enclosed mark.CloseRound g.tyvar_at) (λ vs. v ∷ vs) (next-enclosed g.tyvar_at (tyvar-goes Wide) (tyvar-next Wide) Anything mark.CloseRound ready-round)) (λ a b rest e z s. tt)

tyvars-next : Next Anything Anything g.tyvars_at
tyvars-next = next-then Anything Anything Anything first-var other-vars (next-then Anything Anything Anything g.tyvar_at (λ a us. then_by a us (after mark.Comma us)) (tyvar-next Anything) (λ a. next-sign Anything Anything mark.Comma a (λ z. tt)))
    (λ v. next-map Anything Anything (enclosed mark.CloseRound g.tyvar_at) (λ vs. v ∷ vs) (next-enclosed g.tyvar_at (tyvar-goes Wide) (tyvar-next Wide) Anything mark.CloseRound ready-round))

abbrev head-of : List ℕ → ℕ × Place → TypeHead
head-of vs n = record { vars = vs; name = n.0; place = n.1 }

from-goes : (vs : List ℕ) → Goes Anything (g.thead_from vs)
from-goes vs = goes-map Anything name_at (head-of vs) (goes-name Anything)

from-next : (vs : List ℕ) → Next Anything Anything (g.thead_from vs)
from-next vs = next-map Anything Anything name_at (head-of vs) (next-name Anything)

holds-ok : {X : Type 0} (P : X → Type 0) (r : Result X Fault) (x : X) → Holds P r → r ≡ Ok x → P x
holds-ok P r x h e = rw e at h

from-strict : (vs : List ℕ) (us rest : List Spot) (h : TypeHead) → g.thead_from vs us ≡ Ok (h, rest) → length rest < length us
from-strict vs us rest h e =
    let i = bind-ok (name_at us) (λ n. Ok (head-of vs n.0, n.1)) (h, rest) e in
    let l = ap length (holds-ok (λ x. us ≡ named x.0.0 x.0.1 ∷ x.1) (name_at us) i.0 (name-sound us) i.1) in
    let m = ap (λ (w : TypeHead × List Spot). length w.1) (ok-is (head-of vs i.0.0, i.0.1) (h, rest) i.2) in
    omega arith

behind-round : Parser TypeHead
behind-round us = g.tyvars_at us >>= λ vs. g.thead_from vs.0 vs.1

round-goes : Goes Anything behind-round
unfolding behind-round
round-goes = goes-then Anything Anything g.tyvars_at g.thead_from tyvars-goes from-goes from-next (λ a b rest e z s. tt)

round-next : Next Anything Anything behind-round
unfolding behind-round
round-next = next-then Anything Anything Anything g.tyvars_at g.thead_from tyvars-next from-next

never-left : (y : Spot) (us : List Spot) (a : TypeHead) → g.thead_from [] (y ∷ us) ≡ Ok (a, y ∷ us) → ⊥
never-left y us a h = let l = from-strict [] (y ∷ us) (y ∷ us) a h in omega arith

by-thead : (y : Spot) (f : Front) → front_of (y ∷ []) ≡ f → Branch Anything g.thead_at y
unfolding behind-round
by-thead y (front.TyVar v p) e = behind (g.thead_from (v ∷ [])) (from-goes (v ∷ [])) (from-next (v ∷ [])) (λ us. rw e refl)
by-thead y front.Round e = behind behind-round round-goes round-next (λ us. rw e refl)
by-thead y f e = like (g.thead_from []) (from-goes []) (λ us. rw e refl) (λ us a h z s. absurd (never-left y us a h))

thead-goes : Goes Anything g.thead_at
thead-goes = goes-first Anything g.thead_at fine.thead-fine (λ a h z s. absurd (cc h)) (λ y. by-thead y (front_of (y ∷ [])) refl)

thead-next : Next Anything Anything g.thead_at
thead-next = record { more = named 0 at ∷ []; gives = head-of [] (0, at); allowed = λ z s. tt; reads = λ z s. refl }

abbrev headed : Parser TypeHead
headed us = g.thead_at us >>= before (after mark.Equals)

headed-goes : Goes Anything headed
headed-goes = goes-sign Anything Anything mark.Equals g.thead_at (λ z. tt) thead-goes

headed-next : Next Anything Anything headed
headed-next = next-then Anything Anything Anything g.thead_at (λ a us. then_by a us (after mark.Equals us)) thead-next (λ a. next-sign Anything Anything mark.Equals a (λ z. tt))

-- types, before the end of a declaration
module _ (n : ℕ) where
  type-goes : Goes Wide (type_at n)
  type-goes = t.product-goes (inner_bracket n) (t.inner-goes n)

  type-by-name : ByName Wide (type_at n)
  type-by-name = t.product-by-name (inner_bracket n) (t.inner-goes n)

  type-narrow : Goes Narrow (type_at n)
  type-narrow = goes-before-fewer Wide Narrow (type_at n) wider type-goes

  type-next : Next Anything Narrow (type_at n)
  type-next = next-before-fewer Anything Wide Narrow (type_at n) wider (named-next Wide (type_at n) type-by-name)

  sig-narrow : Goes Narrow (sig_at n)
  sig-narrow = goes-before-fewer Wide Narrow (sig_at n) wider (t.signature-goes (inner_bracket n) (t.inner-goes n))

  sig-next : Next Anything Narrow (sig_at n)
  sig-next = next-before-fewer Anything Wide Narrow (sig_at n) wider (t.signature-next (inner_bracket n) (t.inner-goes n))

  -- datatypes
  tatom-goes : Goes Wide (tatom_at n)
  tatom-goes = t.tatom-goes (inner_bracket n) (t.inner-goes n)

  tatom-next : Next Anything Wide (tatom_at n)
  tatom-next = named-next Wide (tatom_at n) (t.tatom-by-name (inner_bracket n) (t.inner-goes n))

  abbrev factors : Parser (List TypeExp)
  factors us = separated (after mark.Star) (tatom_at n) us

  factors-goes : Goes Narrow factors
  factors-goes = goes-before-fewer Wide Narrow factors wider (goes-separated Wide (after mark.Star) (tatom_at n) (sign-decides mark.Star) tatom-goes tatom-next t.wide-star (λ y us e. never-sign mark.Star (tatom_at n) y us e))

  factors-next : Next Anything Narrow factors
  factors-next = next-before-fewer Anything Wide Narrow factors wider (next-separated Wide (after mark.Star) (tatom_at n) (sign-decides mark.Star) tatom-goes tatom-next t.wide-star (λ y us e. never-sign mark.Star (tatom_at n) y us e))

  narrow-of : (z : List Spot) → Narrow z → after_word key.KOf z ≡ None
  narrow-of z w = narrow-all (λ us. after_word key.KOf us ≡ None) refl (λ p us. refl) (λ p us. refl) (λ k p us. refl) (λ p us. refl) z w

  abbrev parts : Parser (List TypeExp)
  parts us = g.parts_by n us (after_word key.KOf us)

  parts-goes : Goes Narrow parts
  parts-goes = goes-by Narrow (after_word key.KOf) (g.parts_by n) factors (word-decides key.KOf) (λ us vs. refl) (goes-give Narrow []) factors-goes factors-next (lacks-quiet Narrow (after_word key.KOf) (g.parts_by n) (goes-give Narrow []) narrow-of) (λ y us e. never-word key.KOf factors y us e)

  parts-quiet : Quiet Narrow parts
  parts-quiet = record { gives = []; reads = λ z s. (rw (narrow-of z s) refl) }

  abbrev con-of : ℕ × Place → List TypeExp → ConBind
  con-of c ts = record { name = c.0; place = c.1; parts = ts }

  con-goes : Goes Narrow (g.con_at n)
  con-goes = goes-then Anything Narrow name_at (λ c us. parts us >>= λ ts. Ok (con-of c ts.0, ts.1)) (goes-name Anything) (λ c. goes-map Narrow parts (con-of c) parts-goes) (λ c. quiet-anywhere Anything Narrow (λ us. parts us >>= λ ts. Ok (con-of c ts.0, ts.1)) (λ z s. tt) (quiet-map Narrow parts (con-of c) parts-quiet)) (λ a b rest e z s. tt)

  con-next : Next Anything Narrow (g.con_at n)
  con-next = next-then Anything Anything Narrow name_at (λ c us. parts us >>= λ ts. Ok (con-of c ts.0, ts.1)) (next-name Anything) (λ c. quiet-anywhere Anything Narrow (λ us. parts us >>= λ ts. Ok (con-of c ts.0, ts.1)) (λ z s. tt) (quiet-map Narrow parts (con-of c) parts-quiet))

  narrow-bar : (z : List Spot) → Narrow z → after mark.Bar z ≡ None
  narrow-bar z w = narrow-all (λ us. after mark.Bar us ≡ None) refl (λ p us. refl) (λ p us. refl) (λ k p us. refl) (λ p us. refl) z w

  abbrev cons : Parser (List ConBind)
  cons us = separated (after mark.Bar) (g.con_at n) us

  cons-goes : Goes Narrow cons
  cons-goes = goes-separated Narrow (after mark.Bar) (g.con_at n) (sign-decides mark.Bar) con-goes con-next narrow-bar (λ y us e. never-sign mark.Bar (g.con_at n) y us e)

  cons-next : Next Anything Narrow cons
  cons-next = next-separated Narrow (after mark.Bar) (g.con_at n) (sign-decides mark.Bar) con-goes con-next narrow-bar (λ y us e. never-sign mark.Bar (g.con_at n) y us e)

  abbrev data-of : TypeHead → List ConBind → DataBind
  data-of h cs = record { head = h; cons = cs }

  data-goes : Goes Narrow (g.data_at n)
  data-goes = goes-then Anything Narrow headed (λ h us. cons us >>= λ cs. Ok (data-of h cs.0, cs.1)) headed-goes (λ h. goes-map Narrow cons (data-of h) cons-goes) (λ h. next-map Anything Narrow cons (data-of h) cons-next) (λ a b rest e z s. tt)

  data-next : Next Anything Narrow (g.data_at n)
  data-next = next-then Anything Anything Narrow headed (λ h us. cons us >>= λ cs. Ok (data-of h cs.0, cs.1)) headed-next (λ h. next-map Anything Narrow cons (data-of h) cons-next)

  narrow-and : (z : List Spot) → Narrow z → after_word key.KAnd z ≡ None
  narrow-and z w = narrow-all (λ us. after_word key.KAnd us ≡ None) refl (λ p us. refl) (λ p us. refl) (λ k p us. refl) (λ p us. refl) z w

  datas-goes : Goes Narrow (g.datas_at n)
  datas-goes = goes-map Narrow (separated (after_word key.KAnd) (g.data_at n)) (λ ds. decl.Datatype ds) (goes-separated Narrow (after_word key.KAnd) (g.data_at n) (word-decides key.KAnd) data-goes data-next narrow-and (λ y us e. never-word key.KAnd (g.data_at n) y us e))

  datas-next : Next Anything Narrow (g.datas_at n)
  datas-next = next-map Anything Narrow (separated (after_word key.KAnd) (g.data_at n)) (λ ds. decl.Datatype ds) (next-separated Narrow (after_word key.KAnd) (g.data_at n) (word-decides key.KAnd) data-goes data-next narrow-and (λ y us e. never-word key.KAnd (g.data_at n) y us e))

  abbrev-goes : Goes Narrow (g.abbrev_at n)
  abbrev-goes = goes-then Anything Narrow headed (λ h us. type_at n us >>= λ x. Ok (decl.Abbrev h x.0, x.1)) headed-goes (λ h. goes-map Narrow (type_at n) (λ x. decl.Abbrev h x) type-narrow) (λ h. next-map Anything Narrow (type_at n) (λ x. decl.Abbrev h x) type-next) (λ a b rest e z s. tt)

  abbrev-next : Next Anything Narrow (g.abbrev_at n)
  abbrev-next = next-then Anything Anything Narrow headed (λ h us. type_at n us >>= λ x. Ok (decl.Abbrev h x.0, x.1)) headed-next (λ h. next-map Anything Narrow (type_at n) (λ x. decl.Abbrev h x) type-next)

  -- declarations of an interface
  abstype-goes : Goes Narrow g.abstype_at
  abstype-goes = goes-map Narrow g.thead_at (λ h. decl.Abstype h) (goes-before-fewer Anything Narrow g.thead_at (λ z s. tt) thead-goes)

  abstype-next : Next Anything Narrow g.abstype_at
  abstype-next = next-map Anything Narrow g.thead_at (λ h. decl.Abstype h) (next-before-fewer Anything Anything Narrow g.thead_at (λ z s. tt) thead-next)

  abbrev name-colon : Parser (ℕ × Place)
  name-colon us = name_at us >>= before (after mark.Colon)

  colon-goes : Goes Anything name-colon
  colon-goes = goes-sign Anything Anything mark.Colon name_at (λ z. tt) (goes-name Anything)

  colon-next : Next Anything Anything name-colon
  colon-next = next-then Anything Anything Anything name_at (λ a us. then_by a us (after mark.Colon us)) (next-name Anything) (λ a. next-sign Anything Anything mark.Colon a (λ z. tt))

  val-spec-goes : Goes Narrow (g.val_spec_at n)
  val-spec-goes = goes-then Anything Narrow name-colon (λ x us. type_at n us >>= λ y. Ok (decl.Val x.0 x.1 (Some y.0) None, y.1)) colon-goes (λ x. goes-map Narrow (type_at n) (λ y. decl.Val x.0 x.1 (Some y) None) type-narrow)
      (λ x. next-map Anything Narrow (type_at n) (λ y. decl.Val x.0 x.1 (Some y) None) type-next) (λ a b rest e z s. tt)

  val-spec-next : Next Anything Narrow (g.val_spec_at n)
  val-spec-next = next-then Anything Anything Narrow name-colon (λ x us. type_at n us >>= λ y. Ok (decl.Val x.0 x.1 (Some y.0) None, y.1)) colon-next (λ x. next-map Anything Narrow (type_at n) (λ y. decl.Val x.0 x.1 (Some y) None) type-next)

  relation-spec-goes : Goes Narrow (g.relation_spec_at n)
  relation-spec-goes = goes-then Anything Narrow name-colon (λ x us. sig_at n us >>= λ y. Ok (decl.Relation x.0 x.1 (Some y.0) [], y.1)) colon-goes (λ x. goes-map Narrow (sig_at n) (λ y. decl.Relation x.0 x.1 (Some y) []) sig-narrow)
      (λ x. next-map Anything Narrow (sig_at n) (λ y. decl.Relation x.0 x.1 (Some y) []) sig-next) (λ a b rest e z s. tt)

  relation-spec-next : Next Anything Narrow (g.relation_spec_at n)
  relation-spec-next = next-then Anything Anything Narrow name-colon (λ x us. sig_at n us >>= λ y. Ok (decl.Relation x.0 x.1 (Some y.0) [], y.1)) colon-next (λ x. next-map Anything Narrow (sig_at n) (λ y. decl.Relation x.0 x.1 (Some y) []) sig-next)

  by-spec : (y : Spot) (f : Opening) → opening_of (y ∷ []) ≡ f → Branch Narrow (g.spec_at n) y
  by-spec y opening.Datatype e = behind (g.datas_at n) datas-goes datas-next (λ us. rw e refl)
  by-spec y opening.Type e = behind (g.abbrev_at n) abbrev-goes abbrev-next (λ us. rw e refl)
  by-spec y opening.Abstype e = behind g.abstype_at abstype-goes abstype-next (λ us. rw e refl)
  by-spec y opening.Val e = behind (g.val_spec_at n) val-spec-goes val-spec-next (λ us. rw e refl)
  by-spec y opening.Relation e = behind (g.relation_spec_at n) relation-spec-goes relation-spec-next (λ us. rw e refl)
  by-spec y f e = refuses Narrow (g.spec_at n) y kind.Unexpected (λ us. rw e refl)

  pub spec-goes : Goes Narrow (g.spec_at n)
  spec-goes = goes-first Narrow (g.spec_at n) (fine.spec-fine n) (λ a h z s. absurd (cc h)) (λ y. by-spec y (opening_of (y ∷ [])) refl)

  pub spec-next : Next Anything Narrow (g.spec_at n)
  spec-next = next-first Narrow (g.spec_at n) g.abstype_at (word key.KAbstype at) (λ us. refl) abstype-next

  -- heads of rules
  results-goes : Goes Narrow (g.rule_results_at n)
  results-goes = goes-by Narrow (after mark.Arrow) (g.rule_results_by n) (eseq_at n) (sign-decides mark.Arrow) (λ us vs. refl) (goes-give Narrow []) (goes-before-fewer Wide Narrow (eseq_at n) wider (eseq-goes n))
      (next-before-fewer Anything Wide Narrow (eseq_at n) wider (named-next Wide (eseq_at n) (eseq-by-name n))) (lacks-quiet Narrow (after mark.Arrow) (g.rule_results_by n) (goes-give Narrow []) narrow-arrow) (λ y us e. never-sign mark.Arrow (eseq_at n) y us e)

  results-quiet : Quiet Narrow (g.rule_results_at n)
  results-quiet = record { gives = []; reads = λ z s. (rw (narrow-arrow z s) refl) }

  abbrev with-results : ℕ × Place → List Pattern → Parser Head
  with-results h ps us = g.rule_results_at n us >>= λ es. Ok ((h, ps, es.0), es.1)

  abbrev with-inputs : ℕ × Place → Parser Head
  with-inputs h us = pargs_at n us >>= λ ps. with-results h ps.0 ps.1

  inputs-goes : (h : ℕ × Place) → Goes Narrow (with-inputs h)
  inputs-goes h = goes-then Wide Narrow (pargs_at n) (with-results h) (pargs-goes n) (λ ps. goes-map Narrow (g.rule_results_at n) (λ es. (h, ps, es)) results-goes)
      (λ ps. quiet-anywhere Wide Narrow (with-results h ps) wider (quiet-map Narrow (g.rule_results_at n) (λ es. (h, ps, es)) results-quiet)) (λ a b rest e z s. narrow s)

  inputs-quiet : (h : ℕ × Place) → Quiet Narrow (with-inputs h)
  inputs-quiet h = quiet-then Narrow (pargs_at n) (with-results h) (quiet-fewer Wide Narrow (pargs_at n) wider (quiet-pargs n)) (λ ps. quiet-map Narrow (g.rule_results_at n) (λ es. (h, ps, es)) results-quiet)

  pub head-goes : Goes Narrow (g.head_at n)
  head-goes = goes-then Anything Narrow name_at with-inputs (goes-name Anything) inputs-goes (λ h. quiet-anywhere Anything Narrow (with-inputs h) (λ z s. tt) (inputs-quiet h)) (λ a b rest e z s. tt)

  pub head-next : Next Anything Narrow (g.head_at n)
  head-next = next-then Anything Anything Narrow name_at with-inputs (next-name Anything) (λ h. quiet-anywhere Anything Narrow (with-inputs h) (λ z s. tt) (inputs-quiet h))

  -- premises, and the dashes behind them
  by-dashes : (gs : List Goal) (y : Spot) (f : Front) → front_of (y ∷ []) ≡ f → Branch Anything (λ us. g.then_dashes gs us (front_of us)) y
  by-dashes gs y front.Dashes e = behind (λ us. Ok (gs, us)) (goes-give Anything gs) (next-give Anything Anything gs (λ z s. tt)) (λ us. rw e refl)
  by-dashes gs y f e = refuses Anything (λ us. g.then_dashes gs us (front_of us)) y kind.Unexpected (λ us. rw e refl)

  abbrev lined : List Goal → Parser (List Goal)
  lined gs us = g.then_dashes gs us (front_of us)

  lined-goes : (gs : List Goal) → Goes Anything (lined gs)
  lined-goes gs = goes-first Anything (lined gs) (fine-front (g.then_dashes gs) (fine.dashes-by-fine gs)) (λ a h z s. absurd (cc h)) (λ y. by-dashes gs y (front_of (y ∷ [])) refl)

  lined-next : (gs : List Goal) → Next Narrow Anything (lined gs)
  lined-next gs = record { more = dashes 2 at ∷ []; gives = gs; allowed = λ z s. line; reads = λ z s. refl }

  dashed : (gs : List Goal) (y : Spot) (us rest : List Spot) (b : List Goal) (f : Front) → g.then_dashes gs (y ∷ us) f ≡ Ok (b, rest) → length rest < length (y ∷ us)
  dashed gs y us rest b front.Dashes e = let l = ap (λ (w : List Goal × List Spot). length w.1) (ok-is (gs, us) (b, rest) e) in omega arith
  dashed gs y us rest b f e = absurd (cc e)

  lined-strict : (gs : List Goal) (us rest : List Spot) (b : List Goal) → lined gs us ≡ Ok (b, rest) → length rest < length us
  lined-strict gs [] rest b e = absurd (cc e)
  lined-strict gs (y ∷ us) rest b e = dashed gs y us rest b (front_of (y ∷ us)) e

  abbrev some-premises : Parser (List Goal)
  some-premises us = goals_at n us >>= λ gs. lined gs.0 gs.1

  some-goes : Goes Anything some-premises
  some-goes = goes-then Narrow Anything (goals_at n) lined (goals-goes n) lined-goes lined-next (λ a b rest e z s. (let l = lined-strict a rest rest b e in absurd (omega arith)))

  some-strict : (us rest : List Spot) (b : List Goal) → some-premises us ≡ Ok (b, rest) → length rest < length us
  some-strict us rest b e =
      let i = bind-ok (goals_at n us) (λ gs. lined gs.0 gs.1) (b, rest) e in
      let w = fine-within-ok (length us) (goals_at n us) i.0.0 i.0.1 ((goals-goes n).fine.within us) i.1 in
      let l = lined-strict i.0.0 i.0.1 rest b i.2 in
      omega arith

  as-some : (y : Spot) → ((us : List Spot) → g.premises_at n (y ∷ us) ≡ some-premises (y ∷ us)) → Branch Anything (g.premises_at n) y
  as-some y e = like some-premises some-goes e (λ us a h z s. (let l = some-strict (y ∷ us) (y ∷ us) a h in absurd (omega arith)))

  by-premises : (y : Spot) (f : Front) → front_of (y ∷ []) ≡ f → Branch Anything (g.premises_at n) y
  by-premises y front.Dashes e = behind (λ us. Ok ([], us)) (goes-give Anything []) (next-give Anything Anything [] (λ z s. tt)) (λ us. rw e refl)
  by-premises y f e = as-some y (λ us. rw e refl)

  premises-goes : Goes Anything (g.premises_at n)
  premises-goes = goes-first Anything (g.premises_at n) (fine.premises-fine n) (λ a h z s. (let l = some-strict [] [] a h in absurd (omega arith))) (λ y. by-premises y (front_of (y ∷ [])) refl)

  premises-next : Next Anything Anything (g.premises_at n)
  premises-next = record { more = dashes 2 at ∷ []; gives = []; allowed = λ z s. tt; reads = λ z s. refl }

  abbrev both-parts : Parser (List Goal × Head)
  both-parts us = g.premises_at n us >>= λ gs. g.head_at n gs.1 >>= λ h. Ok ((gs.0, h.0), h.1)

  parts-of-rule : Goes Narrow both-parts
  parts-of-rule = goes-then Anything Narrow (g.premises_at n) (λ gs us. g.head_at n us >>= λ h. Ok ((gs, h.0), h.1)) premises-goes (λ gs. goes-map Narrow (g.head_at n) (λ h. (gs, h)) head-goes) (λ gs. next-map Anything Narrow (g.head_at n) (λ h. (gs, h)) head-next) (λ a b rest e z s. tt)

  next-parts-of-rule : Next Anything Narrow both-parts
  next-parts-of-rule = next-then Anything Anything Narrow (g.premises_at n) (λ gs us. g.head_at n us >>= λ h. Ok ((gs, h.0), h.1)) premises-next (λ gs. next-map Anything Narrow (g.head_at n) (λ h. (gs, h)) head-next)

-- readings that count the tokens they took, behind one
counted : {A B : Type 0} → (A → ℕ → B) → Spot → List Spot → Result (A × List Spot) Fault → Result (B × List Spot) Fault
counted f y us (Ok v) = Ok (f v.0 (length (y ∷ us) - length v.1), v.1)
counted f y us (Err e) = Err e

module _ {A B : Type 0} (f : A → ℕ → B) (y : Spot) where
  -- the same count, whatever follows
  count-is : (c rest z : List Spot) → length (y ∷ c ++ rest) - length rest ≡ length (y ∷ c ++ z) - length z
  count-is c rest z = omega (arith, length-append c rest, length-append c z)

  same-count : (x : Spot) (tail other c d : List Spot) → length (y ∷ c ++ x ∷ other) - length (d ++ x ∷ other) ≡ length (y ∷ c ++ x ∷ tail) - length (d ++ x ∷ tail)
  same-count x tail other c d = omega (arith, length-append d (x ∷ tail), length-append c (x ∷ tail), length-append d (x ∷ other), length-append c (x ∷ other))

  counted-within : (n : ℕ) (us : List Spot) (r : Result (A × List Spot) Fault) → Within n r → Within n (counted f y us r)
  unfolding counted
  counted-within n us (Ok v) h = h
  counted-within n us (Err e) h = h

  counted-keeps : (x : Spot) (tail other c : List Spot) (r s : Result (A × List Spot) Fault) → Keeps x tail other r s → Keeps x tail other (counted f y (c ++ x ∷ tail) r) (counted f y (c ++ x ∷ other) s)
  unfolding counted
  counted-keeps x tail other c (Ok v) s (inl k) = rw k.2 (inl (k.0, k.1, (rw (same-count x tail other c k.0, k.1) refl)))
  counted-keeps x tail other c (Ok v) s (inr k) = inr k
  counted-keeps x tail other c (Err e) s (inl k) = rw k.2 (inl (k.0, k.1, refl))
  counted-keeps x tail other c (Err e) s (inr k) = inr k

  counted-cut : (us : List Spot) (r : Result (A × List Spot) Fault) → Cut us r → Cut us (counted f y us r)
  unfolding counted
  counted-cut us (Ok v) h = h
  counted-cut us (Err e) h = h

  counted-ok : (us rest : List Spot) (r : Result (A × List Spot) Fault) (b : B) → counted f y us r ≡ Ok (b, rest) → (a : A) × (r ≡ Ok (a, rest)) × (f a (length (y ∷ us) - length rest) ≡ b)
  unfolding counted
  counted-ok us rest (Ok v) b e =
      let whole = ok-is (f v.0 (length (y ∷ us) - length v.1), v.1) (b, rest) e in
      let same : v.1 ≡ rest = ap (λ (w : B × List Spot). w.1) whole in
      let first : f v.0 (length (y ∷ us) - length v.1) ≡ b = ap (λ (w : B × List Spot). w.0) whole in
      (v.0, ap (λ (l : List Spot). Ok (v.0, l)) same, ap (λ (l : List Spot). f v.0 (length (y ∷ us) - length l)) (sym same) ∙ first)
  counted-ok us rest (Err g) b e = absurd (cc e)

  counted-err : (n : ℕ) (us : List Spot) (r : Result (A × List Spot) Fault) → IsUnexpected n (counted f y us r) → IsUnexpected n r
  unfolding counted
  counted-err n us (Ok v) e = absurd (cc e)
  counted-err n us (Err g) e = ap (λ (h : Fault). Err h) (err-is {A = B × List Spot} g (record { kind = kind.Unexpected; left = n }) e)

  counted-reads : (us rest : List Spot) (a : A) (r : Result (A × List Spot) Fault) → r ≡ Ok (a, rest) → counted f y us r ≡ Ok (f a (length (y ∷ us) - length rest), rest)
  unfolding counted
  counted-reads us rest a r e = rw e refl

  module _ (S : List Spot → Type 0) (q : Parser A) (goes : Goes S q) where
    abbrev count : Parser B
    count us = counted f y us (q us)

    count-ends : (c rest : List Spot) (b : B) → count (c ++ rest) ≡ Ok (b, rest) → (z : List Spot) → S z → count (c ++ z) ≡ Ok (b, z)
    count-ends c rest b e z s =
        let i = counted-ok (c ++ rest) rest (q (c ++ rest)) b e in
        counted-reads (c ++ z) z i.0 (q (c ++ z)) (goes.ends c rest i.0 i.1 z s) ∙ ap (λ (n : ℕ). Ok (f i.0 n, z)) (count-is c z rest) ∙ ap (λ (x : B). Ok (x, z)) i.2

    count-stops : (x : Spot) (c rest : List Spot) → IsUnexpected (length rest) (count (x ∷ c ++ rest)) → CanFinish S count (x ∷ c)
    count-stops x c rest e =
        let m = goes.stops x c rest (counted-err (length rest) (x ∷ c ++ rest) (q (x ∷ c ++ rest)) e) in
        record {
          more = m.more;
          gives = f m.gives (length (y ∷ x ∷ c ++ m.more));
          reads = λ z s. counted-reads (x ∷ c ++ (m.more ++ z)) z m.gives (q (x ∷ c ++ (m.more ++ z))) (m.reads z s) ∙ ap (λ (n : ℕ). Ok (f m.gives n, z)) (omega (arith, length-append c (m.more ++ z), length-append m.more z, length-append c m.more));
        }

    goes-counted : Goes S count
    goes-counted = record {
      fine = record { within = λ us. counted-within (length us) us (q us) (goes.fine.within us); keeps = λ x tail other c. counted-keeps x tail other c (q (c ++ x ∷ tail)) (q (c ++ x ∷ other)) (goes.fine.keeps x tail other c) };
      cuts = λ us. counted-cut us (q us) (goes.cuts us);
      ends = count-ends;
      stops = count-stops;
    }

    next-counted : Next Anything S q → Next Anything S count
    next-counted n = record {
      more = n.more;
      gives = f n.gives (length (y ∷ n.more));
      allowed = λ z s. tt;
      reads = λ z s. counted-reads (n.more ++ z) z n.gives (q (n.more ++ z)) (n.reads z s) ∙ ap (λ (k : ℕ). Ok (f n.gives k, z)) (omega (arith, length-append n.more z));
    }

-- rules
module _ (n : ℕ) where
  abbrev rule_parts : Place → List Goal × Head → ℕ → Rule
  rule_parts p x k = rule_of p x.0 x.1 k

  axiom-is : (p : Place) (y : Spot) (us : List Spot) (r : Result (Head × List Spot) Fault) → (r >>= λ h. Ok (rule_of p [] h.0 (length (y ∷ us) - length h.1), h.1)) ≡ counted (rule_of p []) y us r
  unfolding counted
  axiom-is p y us (Ok h) = refl
  axiom-is p y us (Err e) = refl

  parts-is : (p : Place) (y : Spot) (us : List Spot) (gs : List Goal) (r : Result (Head × List Spot) Fault) → (r >>= λ h. Ok (rule_of p gs h.0 (length (y ∷ us) - length h.1), h.1)) ≡ counted (rule_parts p) y us (r >>= λ h. Ok ((gs, h.0), h.1))
  unfolding counted
  parts-is p y us gs (Ok h) = refl
  parts-is p y us gs (Err e) = refl

  rule-is : (p : Place) (y : Spot) (us : List Spot) (r : Result (List Goal × List Spot) Fault) → (r >>= λ gs. g.head_at n gs.1 >>= λ h. Ok (rule_of p gs.0 h.0 (length (y ∷ us) - length h.1), h.1)) ≡ counted (rule_parts p) y us (r >>= λ gs. g.head_at n gs.1 >>= λ h. Ok ((gs.0, h.0), h.1))
  unfolding counted
  rule-is p y us (Ok gs) = parts-is p y us gs.0 (g.head_at n gs.1)
  rule-is p y us (Err e) = refl

  by-clause : (y : Spot) (f : Opening) → opening_of (y ∷ []) ≡ f → Branch Narrow (g.clause_at n) y
  by-clause y (opening.Axiom p) e = behind (λ us. counted (rule_of p []) y us (g.head_at n us)) (goes-counted (rule_of p []) y Narrow (g.head_at n) (head-goes n)) (next-counted (rule_of p []) y Narrow (g.head_at n) (head-goes n) (head-next n))
      (λ us. rw e (axiom-is p y us (g.head_at n us)))
  by-clause y (opening.Rule p) e = behind (λ us. counted (rule_parts p) y us (both-parts n us)) (goes-counted (rule_parts p) y Narrow (both-parts n) (parts-of-rule n)) (next-counted (rule_parts p) y Narrow (both-parts n) (parts-of-rule n) (next-parts-of-rule n))
      (λ us. rw e (rule-is p y us (g.premises_at n us)))
  by-clause y f e = refuses Narrow (g.clause_at n) y kind.Unexpected (λ us. rw e refl)

  clause-goes : Goes Narrow (g.clause_at n)
  clause-goes = goes-first Narrow (g.clause_at n) (fine.clause-fine n) (λ a h z s. absurd (cc h)) (λ y. by-clause y (opening_of (y ∷ [])) refl)

  clause-next : Next Anything Narrow (g.clause_at n)
  clause-next = next-first Narrow (g.clause_at n) (λ us. counted (rule_of at []) (word key.KAxiom at) us (g.head_at n us)) (word key.KAxiom at) (λ us. axiom-is at (word key.KAxiom at) us (g.head_at n us)) (next-counted (rule_of at []) (word key.KAxiom at) Narrow (g.head_at n) (head-goes n) (head-next n))

  clause-strict : (us rest : List Spot) (r : Rule) → g.clause_at n us ≡ Ok (r, rest) → length rest < length us
  clause-strict us rest r e = shorter-clause (holds-ok (λ x. IsClause us x.0 x.1) (g.clause_at n us) (r, rest) (clause-sound n us (opens us)) e)

  narrow-clause : (z : List Spot) → Narrow z → g.clause_next z ≡ None
  narrow-clause z w = narrow-all (λ us. g.clause_next us ≡ None) refl (λ p us. refl) (λ p us. refl) (λ k p us. refl) (λ p us. refl) z w

  -- {clause}
  module _ (k : ℕ) where
    no-clauses : (z : List Spot) → Narrow z → g.clauses_at n k z ≡ Ok ([], z)
    no-clauses z s = clauses_none n k z (narrow-clause z s)

    clauses-quiet : Quiet Narrow (g.clauses_at n k)
    clauses-quiet = record { gives = []; reads = no-clauses }

    clauses-empty : (a : List Rule) → g.clauses_at n k [] ≡ Ok (a, []) → (z : List Spot) → Narrow z → g.clauses_at n k z ≡ Ok (a, z)
    clauses-empty a h z s =
        let e : ([], []) ≡ (a, []) = ok-is ([], []) (a, []) (sym (clauses_none n k [] refl) ∙ h) in
        no-clauses z s ∙ ap (λ (b : List Rule). Ok (b, z)) (ap (λ (w : List Rule × List Spot). w.0) e)

    abbrev another : Parser (List Rule)
    another us = g.clause_at n us >>= λ r. g.clauses_at n k r.1 >>= λ rs. Ok (r.0 ∷ rs.0, rs.1)

    abbrev then-clauses : Rule → Parser (List Rule)
    then-clauses r us = g.clauses_at n k us >>= λ rs. Ok (r ∷ rs.0, rs.1)

    another-goes : Goes Narrow (g.clauses_at n k) → Goes Narrow another
    another-goes more = goes-then Narrow Narrow (g.clause_at n) then-clauses clause-goes (λ r. goes-map Narrow (g.clauses_at n k) (λ rs. r ∷ rs) more) (λ r. quiet-next Narrow (then-clauses r) (quiet-map Narrow (g.clauses_at n k) (λ rs. r ∷ rs) clauses-quiet)) (λ a b rest e z s. s)

    another-strict : Goes Narrow (g.clauses_at n k) → (us rest : List Spot) (b : List Rule) → another us ≡ Ok (b, rest) → length rest < length us
    another-strict more us rest b e =
        let i = bind-ok (g.clause_at n us) (λ r. then-clauses r.0 r.1) (b, rest) e in
        let l = clause-strict us i.0.1 i.0.0 i.1 in
        let m = fine-within-ok (length i.0.1) (then-clauses i.0.0 i.0.1) b rest ((goes-map Narrow (g.clauses_at n k) (λ rs. i.0.0 ∷ rs) more).fine.within i.0.1) i.2 in
        omega arith

  full-here : (y : Spot) → ((us : List Spot) → g.clause_next (y ∷ us) ≡ Some (y ∷ us)) → Branch Narrow (g.clauses_at n zero) y
  full-here y e = refuses Narrow (g.clauses_at n zero) y kind.TooManyRules (λ us. clauses_full n (y ∷ us) (y ∷ us) (e us))

  none-here : (k : ℕ) (y : Spot) → ((us : List Spot) → g.clause_next (y ∷ us) ≡ None) → Branch Narrow (g.clauses_at n k) y
  none-here k y e = passes Narrow (g.clauses_at n k) y [] (λ us. clauses_none n k (y ∷ us) (e us)) (no-clauses k)

  one-here : (k : ℕ) → Goes Narrow (g.clauses_at n k) → (y : Spot) → ((us : List Spot) → g.clause_next (y ∷ us) ≡ Some (y ∷ us)) → Branch Narrow (g.clauses_at n (suc k)) y
  one-here k more y e = like (another k) (another-goes k more) (λ us. clauses_one n k (y ∷ us) (y ∷ us) (e us)) (λ us a h z s. (let l = another-strict k more (y ∷ us) (y ∷ us) a h in absurd (omega arith)))

  by-full : (y : Spot) (f : Opening) → opening_of (y ∷ []) ≡ f → Branch Narrow (g.clauses_at n zero) y
  by-full y (opening.Axiom p) e = full-here y (λ us. rw e refl)
  by-full y (opening.Rule p) e = full-here y (λ us. rw e refl)
  by-full y f e = none-here zero y (λ us. rw e refl)

  by-more : (k : ℕ) → Goes Narrow (g.clauses_at n k) → (y : Spot) (f : Opening) → opening_of (y ∷ []) ≡ f → Branch Narrow (g.clauses_at n (suc k)) y
  by-more k more y (opening.Axiom p) e = one-here k more y (λ us. rw e refl)
  by-more k more y (opening.Rule p) e = one-here k more y (λ us. rw e refl)
  by-more k more y f e = none-here (suc k) y (λ us. rw e refl)

  clauses-goes : (k : ℕ) → Goes Narrow (g.clauses_at n k)
  clauses-goes zero = goes-first Narrow (g.clauses_at n zero) (fine.clauses-fine n zero) (clauses-empty zero) (λ y. by-full y (opening_of (y ∷ [])) refl)
  clauses-goes (suc k) = goes-first Narrow (g.clauses_at n (suc k)) (fine.clauses-fine n (suc k)) (clauses-empty (suc k)) (λ y. by-more k (clauses-goes k) y (opening_of (y ∷ [])) refl)

  module _ (k : ℕ) where
    abbrev ending : Parser (List Rule)
    ending us = g.clauses_at n k us >>= before (after_word key.KEnd)

    abbrev then-ending : Rule → Parser (List Rule)
    then-ending r us = ending us >>= λ rs. Ok (r ∷ rs.0, rs.1)

    ending-goes : Goes Anything ending
    ending-goes = goes-word Narrow Anything key.KEnd (g.clauses_at n k) (λ z. ended) (clauses-goes k)

    ending-next : Next Narrow Anything ending
    ending-next = next-then Narrow Narrow Anything (g.clauses_at n k) (λ a us. then_by a us (after_word key.KEnd us)) (quiet-next Narrow (g.clauses_at n k) (clauses-quiet k)) (λ a. next-word Narrow Anything key.KEnd a (λ z. ended))

    ending-strict : (r : Rule) (us rest : List Spot) (b : List Rule) → then-ending r us ≡ Ok (b, rest) → length rest < length us
    ending-strict r us rest b e =
        let i = bind-ok (ending us) (λ rs. Ok (r ∷ rs.0, rs.1)) (b, rest) e in
        let j = bind-ok (g.clauses_at n k us) (before (after_word key.KEnd)) i.0 i.1 in
        let m = ap (λ (w : List Rule × List Spot). length w.1) (ok-is (r ∷ i.0.0, i.0.1) (b, rest) i.2) in
        let l = takes-word key.KEnd j.0.0 i.0.0 j.0.1 i.0.1 j.2 in
        let w = fine-within-ok (length us) (g.clauses_at n k us) j.0.0 j.0.1 ((clauses-goes k).fine.within us) j.1 in
        omega arith

    rules-goes : Goes Anything (g.rules_at n k)
    rules-goes = goes-then Narrow Anything (g.clause_at n) then-ending clause-goes (λ r. goes-map Anything ending (λ rs. r ∷ rs) ending-goes) (λ r. next-map Narrow Anything ending (λ rs. r ∷ rs) ending-next)
        (λ r b rest e z s. (let l = ending-strict r rest rest b e in absurd (omega arith)))

    rules-next : Next Anything Anything (g.rules_at n k)
    rules-next = next-then Anything Narrow Anything (g.clause_at n) then-ending clause-next (λ r. next-map Narrow Anything ending (λ rs. r ∷ rs) ending-next)

-- declarations of a body
wide-colon : (z : List Spot) → Wide z → after mark.Colon z ≡ None
wide-colon z w = wide-all (λ us. after mark.Colon us ≡ None) refl (λ p us. refl) (λ p us. refl) (λ n p us. refl) (λ p us. refl) (λ p us. refl) (λ p us. refl) z w

module _ {A : Type 0} (q : Parser A) (goes : Goes Wide q) (next : Next Anything Wide q) where
  abbrev optional : Parser (Option A)
  optional us = g.optional_by q us (after mark.Colon us)

  abbrev optional-equals : Parser (Option A)
  optional-equals us = optional us >>= before (after mark.Equals)

  optional-goes : Goes Wide optional
  optional-goes = goes-by Wide (after mark.Colon) (g.optional_by q) (λ us. q us >>= λ t. Ok (Some t.0, t.1)) (sign-decides mark.Colon) (λ us vs. refl) (goes-give Wide None) (goes-map Wide q (λ t. Some t) goes) (next-map Anything Wide q (λ t. Some t) next)
      (lacks-quiet Wide (after mark.Colon) (g.optional_by q) (goes-give Wide None) wide-colon) (λ y us e. never-sign {A = Option A} mark.Colon (λ vs. q vs >>= λ t. Ok (Some t.0, t.1)) y us e)

  equals-goes : Goes Anything optional-equals
  equals-goes = goes-sign Wide Anything mark.Equals optional (λ z. equals) optional-goes

  equals-next : Next Anything Anything optional-equals
  equals-next = record { more = sign mark.Equals at ∷ []; gives = None; allowed = λ z s. tt; reads = λ z s. refl }

module _ (n k : ℕ) where
  abbrev typed : Parser (Option TypeExp)
  typed us = optional-equals (type_at n) (type-goes n) (named-next Wide (type_at n) (type-by-name n)) us

  abbrev signed : Parser (Option Sig)
  signed us = optional-equals (sig_at n) (t.signature-goes (inner_bracket n) (t.inner-goes n)) (t.signature-next (inner_bracket n) (t.inner-goes n)) us

  typed-goes : Goes Anything typed
  typed-goes = equals-goes (type_at n) (type-goes n) (named-next Wide (type_at n) (type-by-name n))

  signed-goes : Goes Anything signed
  signed-goes = equals-goes (sig_at n) (t.signature-goes (inner_bracket n) (t.inner-goes n)) (t.signature-next (inner_bracket n) (t.inner-goes n))

  signed-next : Next Anything Anything signed
  signed-next = equals-next (sig_at n) (t.signature-goes (inner_bracket n) (t.inner-goes n)) (t.signature-next (inner_bracket n) (t.inner-goes n))

  exp-narrow : Goes Narrow (exp_at n)
  exp-narrow = goes-before-fewer Wide Narrow (exp_at n) wider (exp-goes n)

  exp-next : Next Anything Narrow (exp_at n)
  exp-next = next-before-fewer Anything Wide Narrow (exp_at n) wider (named-next Wide (exp_at n) (exp-by-name n))

  typed-next : Next Anything Anything typed
  typed-next = equals-next (type_at n) (type-goes n) (named-next Wide (type_at n) (type-by-name n))

  abbrev val-from : ℕ × Place → Parser Decl
  val-from x us = typed us >>= λ y. exp_at n y.1 >>= λ e. Ok (decl.Val x.0 x.1 y.0 (Some e.0), e.1)

  val-from-goes : (x : ℕ × Place) → Goes Narrow (val-from x)
  val-from-goes x = goes-then Anything Narrow typed (λ y us. exp_at n us >>= λ e. Ok (decl.Val x.0 x.1 y (Some e.0), e.1)) typed-goes (λ y. goes-map Narrow (exp_at n) (λ e. decl.Val x.0 x.1 y (Some e)) exp-narrow) (λ y. next-map Anything Narrow (exp_at n) (λ e. decl.Val x.0 x.1 y (Some e)) exp-next) (λ a b rest e z s. tt)

  val-from-next : (x : ℕ × Place) → Next Anything Narrow (val-from x)
  val-from-next x = next-then Anything Anything Narrow typed (λ y us. exp_at n us >>= λ e. Ok (decl.Val x.0 x.1 y (Some e.0), e.1)) typed-next (λ y. next-map Anything Narrow (exp_at n) (λ e. decl.Val x.0 x.1 y (Some e)) exp-next)

  val-goes : Goes Narrow (g.val_at n)
  val-goes = goes-then Anything Narrow name_at val-from (goes-name Anything) val-from-goes val-from-next (λ a b rest e z s. tt)

  val-next : Next Anything Narrow (g.val_at n)
  val-next = next-then Anything Anything Narrow name_at val-from (next-name Anything) val-from-next

  rules-narrow : Goes Narrow (g.rules_at n k)
  rules-narrow = goes-before-fewer Anything Narrow (g.rules_at n k) (λ z s. tt) (rules-goes n k)

  rules-next-narrow : Next Anything Narrow (g.rules_at n k)
  rules-next-narrow = next-before-fewer Anything Anything Narrow (g.rules_at n k) (λ z s. tt) (rules-next n k)

  abbrev relation-from : ℕ × Place → Parser Decl
  relation-from x us = signed us >>= λ y. g.rules_at n k y.1 >>= λ rs. Ok (decl.Relation x.0 x.1 y.0 rs.0, rs.1)

  relation-from-goes : (x : ℕ × Place) → Goes Narrow (relation-from x)
  relation-from-goes x = goes-then Anything Narrow signed (λ y us. g.rules_at n k us >>= λ rs. Ok (decl.Relation x.0 x.1 y rs.0, rs.1)) signed-goes (λ y. goes-map Narrow (g.rules_at n k) (λ rs. decl.Relation x.0 x.1 y rs) rules-narrow) (λ y. next-map Anything Narrow (g.rules_at n k) (λ rs. decl.Relation x.0 x.1 y rs) rules-next-narrow) (λ a b rest e z s. tt)

  relation-from-next : (x : ℕ × Place) → Next Anything Narrow (relation-from x)
  relation-from-next x = next-then Anything Anything Narrow signed (λ y us. g.rules_at n k us >>= λ rs. Ok (decl.Relation x.0 x.1 y rs.0, rs.1)) signed-next (λ y. next-map Anything Narrow (g.rules_at n k) (λ rs. decl.Relation x.0 x.1 y rs) rules-next-narrow)

  relation-goes : Goes Narrow (g.relation_at n k)
  relation-goes = goes-then Anything Narrow name_at relation-from (goes-name Anything) relation-from-goes relation-from-next (λ a b rest e z s. tt)

  relation-next : Next Anything Narrow (g.relation_at n k)
  relation-next = next-then Anything Anything Narrow name_at relation-from (next-name Anything) relation-from-next

  by-decl : (y : Spot) (f : Opening) → opening_of (y ∷ []) ≡ f → Branch Narrow (g.decl_at n k) y
  by-decl y opening.Datatype e = behind (g.datas_at n) (datas-goes n) (datas-next n) (λ us. rw e refl)
  by-decl y opening.Type e = behind (g.abbrev_at n) (abbrev-goes n) (abbrev-next n) (λ us. rw e refl)
  by-decl y opening.Val e = behind (g.val_at n) val-goes val-next (λ us. rw e refl)
  by-decl y opening.Relation e = behind (g.relation_at n k) relation-goes relation-next (λ us. rw e refl)
  by-decl y f e = refuses Narrow (g.decl_at n k) y kind.Unexpected (λ us. rw e refl)

  decl-goes : Goes Narrow (g.decl_at n k)
  decl-goes = goes-first Narrow (g.decl_at n k) (fine.decl-fine n k) (λ a h z s. absurd (cc h)) (λ y. by-decl y (opening_of (y ∷ [])) refl)

  decl-next : Next Anything Narrow (g.decl_at n k)
  decl-next = next-first Narrow (g.decl_at n k) (g.val_at n) (word key.KVal at) (λ us. refl) val-next

-- the files of an interface and of a body
file-first : (t : Token) (p : Place) → Branch Narrow g.file_at (record { token = t; place = p })
file-first (token.Lit (lit.Text f)) p = behind (λ us. Ok (f, us)) (goes-give Narrow f) (next-give Anything Narrow f (λ z s. tt)) (λ us. refl)
file-first (token.Lit (lit.Int f)) p = refuses Narrow g.file_at (record { token = token.Lit (lit.Int f); place = p }) kind.Unexpected (λ us. refl)
file-first (token.Lit (lit.Char f)) p = refuses Narrow g.file_at (record { token = token.Lit (lit.Char f); place = p }) kind.Unexpected (λ us. refl)
file-first (token.Name n) p = refuses Narrow g.file_at (record { token = token.Name n; place = p }) kind.Unexpected (λ us. refl)
file-first (token.Word k) p = refuses Narrow g.file_at (record { token = token.Word k; place = p }) kind.Unexpected (λ us. refl)
file-first (token.TyVar n) p = refuses Narrow g.file_at (record { token = token.TyVar n; place = p }) kind.Unexpected (λ us. refl)
file-first (token.Sign m) p = refuses Narrow g.file_at (record { token = token.Sign m; place = p }) kind.Unexpected (λ us. refl)
file-first (token.Dashes n) p = refuses Narrow g.file_at (record { token = token.Dashes n; place = p }) kind.Unexpected (λ us. refl)

file-goes : Goes Narrow g.file_at
file-goes = goes-first Narrow g.file_at fine.file-fine (λ a h z s. absurd (cc h)) (λ y. file-first y.token y.place)

file-next : Next Anything Narrow g.file_at
file-next = next-first Narrow g.file_at (λ us. Ok (0, us)) (literal (lit.Text 0) at) (λ us. refl) (next-give Anything Narrow 0 (λ z s. tt))

abbrev use-of : Place → ℕ → Uses
use-of p f = record { file = f; place = p }

by-uses : (y : Spot) (f : Opening) → opening_of (y ∷ []) ≡ f → Branch Narrow g.uses_at y
by-uses y (opening.With p) e = behind (λ us. g.file_at us >>= λ f. Ok (use-of p f.0, f.1)) (goes-map Narrow g.file_at (use-of p) file-goes) (next-map Anything Narrow g.file_at (use-of p) file-next) (λ us. rw e refl)
by-uses y f e = refuses Narrow g.uses_at y kind.Unexpected (λ us. rw e refl)

uses-goes : Goes Narrow g.uses_at
uses-goes = goes-first Narrow g.uses_at (fine-opening g.uses_by fine.uses-by-fine) (λ a h z s. absurd (cc h)) (λ y. by-uses y (opening_of (y ∷ [])) refl)

uses-next : Next Anything Narrow g.uses_at
uses-next = next-first Narrow g.uses_at (λ us. g.file_at us >>= λ f. Ok (use-of at f.0, f.1)) (word key.KWith at) (λ us. refl) (next-map Anything Narrow g.file_at (use-of at) file-next)

narrow-uses : (z : List Spot) → Narrow z → g.uses_next z ≡ None
narrow-uses z w = narrow-all (λ us. g.uses_next us ≡ None) refl (λ p us. refl) (λ p us. refl) (λ n p us. refl) (λ p us. refl) z w

narrow-spec : (z : List Spot) → Narrow z → g.spec_next z ≡ None
narrow-spec z w = narrow-all (λ us. g.spec_next us ≡ None) refl (λ p us. refl) (λ p us. refl) (λ n p us. refl) (λ p us. refl) z w

narrow-decl : (z : List Spot) → Narrow z → g.decl_next z ≡ None
narrow-decl z w = narrow-all (λ us. g.decl_next us ≡ None) refl (λ p us. refl) (λ p us. refl) (λ n p us. refl) (λ p us. refl) z w

abbrev all-uses : Parser (List Uses)
all-uses us = repeated g.uses_next g.uses_at us

all-uses-goes : Goes Narrow all-uses
all-uses-goes = goes-repeated Narrow g.uses_next g.uses_at (record { nil = refl; first = λ y. fine.uses-choice y (opening_of (y ∷ [])) refl }) uses-goes uses-next narrow-uses
    (λ y us e. holds-map _ (λ z. length z.1 < suc (length us)) (g.uses_at (y ∷ us)) (use-sound (y ∷ us) (opens (y ∷ us))) (λ z h. (use-turn (y ∷ us) z.1 z.0 h).0))

all-uses-quiet : Quiet Narrow all-uses
all-uses-quiet = record { gives = []; reads = λ z s. none-repeats g.uses_next g.uses_at z (narrow-uses z s) }

module _ (n k : ℕ) where
  abbrev all-specs : Parser (List Decl)
  all-specs us = repeated g.spec_next (g.spec_at n) us

  specs-goes : Goes Narrow all-specs
  specs-goes = goes-repeated Narrow g.spec_next (g.spec_at n) (record { nil = refl; first = λ y. fine.spec-choice y (opening_of (y ∷ [])) refl }) (spec-goes n) (spec-next n) narrow-spec
      (λ y us e. holds-map (λ x. IsSpec (y ∷ us) x.0 x.1) (λ z. length z.1 < suc (length us)) (g.spec_at n (y ∷ us)) (spec-sound n (y ∷ us) (opens (y ∷ us))) (λ z h. shorter-spec h))

  abbrev all-decls : Parser (List Decl)
  all-decls us = repeated g.decl_next (g.decl_at n k) us

  decls-goes : Goes Narrow all-decls
  decls-goes = goes-repeated Narrow g.decl_next (g.decl_at n k) (record { nil = refl; first = λ y. fine.decl-choice y (opening_of (y ∷ [])) refl }) (decl-goes n k) (decl-next n k) narrow-decl
      (λ y us e. holds-map (λ x. IsDecl (y ∷ us) x.0 x.1) (λ z. length z.1 < suc (length us)) (g.decl_at n k (y ∷ us)) (decl-sound n k (y ∷ us) (opens (y ∷ us))) (λ z h. shorter-decl h))

  abbrev specs-ended : Parser (List Decl)
  specs-ended us = all-specs us >>= before (after_word key.KEnd)

  abbrev with-specs : List Uses → Parser (List Uses × List Decl)
  with-specs fs us = specs-ended us >>= λ ds. Ok ((fs, ds.0), ds.1)

  ended-next : Next Narrow Anything specs-ended
  ended-next = next-then Narrow Narrow Anything all-specs (λ a us. then_by a us (after_word key.KEnd us)) (record { more = []; gives = []; allowed = λ z s. s; reads = λ z s. none-repeats g.spec_next (g.spec_at n) z (narrow-spec z s) }) (λ a. next-word Narrow Anything key.KEnd a (λ z. ended))

  ended-strict : (fs : List Uses) (us rest : List Spot) (b : List Uses × List Decl) → with-specs fs us ≡ Ok (b, rest) → length rest < length us
  ended-strict fs us rest b e =
      let i = bind-ok (specs-ended us) (λ ds. Ok ((fs, ds.0), ds.1)) (b, rest) e in
      let j = bind-ok (all-specs us) (before (after_word key.KEnd)) i.0 i.1 in
      let m = ap (λ (w : (List Uses × List Decl) × List Spot). length w.1) (ok-is ((fs, i.0.0), i.0.1) (b, rest) i.2) in
      let l = takes-word key.KEnd j.0.0 i.0.0 j.0.1 i.0.1 j.2 in
      let w = fine-within-ok (length us) (all-specs us) j.0.0 j.0.1 (specs-goes.fine.within us) j.1 in
      omega arith

  interface-goes : Goes Anything (g.interface_at n)
  interface-goes = goes-then Narrow Anything all-uses with-specs all-uses-goes (λ fs. goes-map Anything specs-ended (λ ds. (fs, ds)) (goes-word Narrow Anything key.KEnd all-specs (λ z. ended) specs-goes)) (λ fs. next-map Narrow Anything specs-ended (λ ds. (fs, ds)) ended-next)
      (λ fs b rest e z s. (let l = ended-strict fs rest rest b e in absurd (omega arith)))

  interface-next : Next Anything Anything (g.interface_at n)
  interface-next = next-then Anything Narrow Anything all-uses with-specs (quiet-anywhere Anything Narrow all-uses (λ z s. tt) all-uses-quiet) (λ fs. next-map Narrow Anything specs-ended (λ ds. (fs, ds)) ended-next)

  abbrev with-decls : List Uses → Parser (List Uses × List Decl)
  with-decls fs us = all-decls us >>= λ ds. Ok ((fs, ds.0), ds.1)

  decls-quiet : (fs : List Uses) → Quiet Narrow (with-decls fs)
  decls-quiet fs = quiet-map Narrow all-decls (λ ds. (fs, ds)) (record { gives = []; reads = λ z s. none-repeats g.decl_next (g.decl_at n k) z (narrow-decl z s) })

  body-goes : Goes Narrow (g.body_at n k)
  body-goes = goes-then Narrow Narrow all-uses with-decls all-uses-goes (λ fs. goes-map Narrow all-decls (λ ds. (fs, ds)) decls-goes) (λ fs. quiet-next Narrow (with-decls fs) (decls-quiet fs)) (λ a b rest e z s. s)

  body-quiet : Quiet Narrow (g.body_at n k)
  body-quiet = quiet-then Narrow all-uses with-decls all-uses-quiet decls-quiet

  -- texts
  module-goes : Goes Anything g.module_at
  module-goes = goes-by Anything (after_word key.KModule) g.module_by (name-colon n) (word-decides key.KModule) (λ us vs. refl) (goes-refused Anything kind.Unexpected) (colon-goes n) (colon-next n) (λ rest a e z s. absurd (cc e)) (λ y us e. never-word key.KModule (name-colon n) y us e)

  module-next : Next Anything Anything g.module_at
  module-next = next-first Anything g.module_at (name-colon n) (word key.KModule at) (λ us. refl) (colon-next n)

  module _ (end : Place) where
    abbrev text-of : ℕ × Place → List Uses × List Decl → List Uses × List Decl → Text
    text-of m i b = record { «module» = m.0; place = m.1; end = end; uses = i.0; specs = i.1; body_uses = b.0; decls = b.1 }

    abbrev with-body : ℕ × Place → List Uses × List Decl → Parser Text
    with-body m i us = g.body_at n k us >>= λ b. Ok (text-of m i b.0, b.1)

    abbrev with-interface : ℕ × Place → Parser Text
    with-interface m us = g.interface_at n us >>= λ i. with-body m i.0 i.1

    body-of : (m : ℕ × Place) (i : List Uses × List Decl) → Quiet Narrow (with-body m i)
    body-of m i = quiet-map Narrow (g.body_at n k) (text-of m i) body-quiet

    interface-then : (m : ℕ × Place) → Goes Narrow (with-interface m)
    interface-then m = goes-then Anything Narrow (g.interface_at n) (with-body m) interface-goes (λ i. goes-map Narrow (g.body_at n k) (text-of m i) body-goes) (λ i. quiet-anywhere Anything Narrow (with-body m i) (λ z s. tt) (body-of m i)) (λ a b rest e z s. tt)

    interface-then-next : (m : ℕ × Place) → Next Anything Narrow (with-interface m)
    interface-then-next m = next-then Anything Anything Narrow (g.interface_at n) (with-body m) interface-next (λ i. quiet-anywhere Anything Narrow (with-body m i) (λ z s. tt) (body-of m i))

    pub text-goes : Goes Narrow (g.text_at end n k)
    text-goes = goes-is Narrow (g.text_at end n k) (λ us. g.module_at us >>= λ m. with-interface m.0 m.1) (text_is end n k) (goes-then Anything Narrow g.module_at with-interface module-goes interface-then interface-then-next (λ a b rest e z s. tt))

    pub text-next : Next Anything Narrow (g.text_at end n k)
    text-next = next-is Anything Narrow (g.text_at end n k) (λ us. g.module_at us >>= λ m. with-interface m.0 m.1) (text_is end n k) (next-then Anything Anything Narrow g.module_at with-interface module-next interface-then-next)
