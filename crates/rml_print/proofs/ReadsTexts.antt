-- What is printed of a text is read as that text.
use Rattle.std.proofs.Common.{◌≡◌, ℕ, List, [], ◌∷◌, ◌++◌, map, refl, ap, sym, ◌∙◌}
use Rattle.std.specs.List.{flat_map}
use mathlib.Core.List.{append_assoc}
use Rattle.rml_base.specs.declared.place.Place.{Place}
use Rattle.rml_syntax.specs.declared.token.Spot.{Spot}
use Rattle.rml_syntax.specs.declared.token.Token.{Token}
use Rattle.rml_syntax.specs.declared.token.Token.TheVariants as token
use Rattle.rml_syntax.specs.declared.token.Lit.TheVariants as lit
use Rattle.rml_syntax.specs.declared.token.Key.TheVariants as key
use Rattle.rml_syntax.specs.declared.token.Mark.TheVariants as mark
use Rattle.rml_syntax.specs.declared.texts.Uses.{Uses}
use Rattle.rml_syntax.specs.declared.texts.Decl.{Decl}
use Rattle.rml_syntax.specs.declared.texts.Text.{Text}
use Rattle.rml_grammar.specs.Tokens.{word, named, sign}
use Rattle.rml_grammar.specs.Lacks.{LacksDecl, LacksSpec, LacksUses}
use Rattle.rml_grammar.specs.SpelledTexts as s
use Rattle.rml_grammar.specs.SpelledTexts.{IsUses, IsSpec, IsSpecs, IsDecl, IsDecls, Derives}
use Rattle.rml_grammar.proofs.Callers.{one-tree}
use Rattle.rml_print.specs.Lines.{Line}
use Rattle.rml_print.specs.Texts.{line, uses_line, decl_lines, part_lines}
use Rattle.rml_print.specs.Plain.{nowhere, plain_uses, plain_decl, plain_text}
use Rattle.rml_print.specs.ReadsBack.{SameText, text_tokens, ReadsBack, ReadsNothingElse}
use Rattle.rml_print.proofs.Shown.{Shows, ended, shown, all-shown, cut, closing, Again, Each, none, also, each-map, repeated-again, repeated-stops, together}
use Rattle.rml_print.proofs.ReadsRules.{LineEnds, line_tokens, lines-flat, lines-of}
use Rattle.rml_print.proofs.ReadsDeclarations.{spec_tokens, decl_tokens, SpecReads, DeclReads, spec-reads, decl-reads, decl-starts, line-end}

-- ---- `with`s

abbrev uses_tokens : Uses → List Token
uses_tokens u = token.Word key.KWith ∷ token.Lit (lit.Text u.file) ∷ []

uses-again : (fs : List Uses) {us rest : List Spot} → Shows (flat_map uses_tokens fs) us rest → LacksUses rest → Again (map plain_uses) IsUses fs us rest
uses-again [] ended h = record { tree = []; reads = s.no_uses h; same = refl }
uses-again (f ∷ fs) (shown {p} (shown x)) h =
    let a = uses-again fs x h in
    record { tree = record { file = f.file; place = p } ∷ a.tree; reads = s.more_uses a.reads; same = together refl a.same }

-- ---- declarations one behind the other

record SpecsEnd (us : List Spot) : Type 0 where
  pub line : LineEnds us
  pub none_next : LacksSpec us

record DeclsEnd (us : List Spot) : Type 0 where
  pub line : LineEnds us
  pub none_next : LacksDecl us

specs-again : (ds : List Decl) {us rest : List Spot} → Each SpecReads ds → Shows (flat_map spec_tokens ds) us rest → SpecsEnd rest → Again (map plain_decl) IsSpecs ds us rest
specs-again ds rs x e =
    repeated-again plain_decl IsSpec IsSpecs spec_tokens LineEnds SpecsEnd
    (λ us h. s.no_spec h.none_next) (λ us vs rest t ts a b. s.more_specs a b) (λ us h. h.line) (decl-starts 2)
    ds (each-map (λ y h. h.whole) rs) x e

decls-again : (ds : List Decl) {us rest : List Spot} → Each DeclReads ds → Shows (flat_map decl_tokens ds) us rest → DeclsEnd rest → Again (map plain_decl) IsDecls ds us rest
decls-again ds rs x e =
    repeated-again plain_decl IsDecl IsDecls decl_tokens LineEnds DeclsEnd
    (λ us h. s.no_decl h.none_next) (λ us vs rest t ts a b. s.more_decls a b) (λ us h. h.line) (decl-starts 0)
    ds (each-map (λ y h. h.whole) rs) x e

specs-read : {us rest : List Spot} {ds : List Decl} → IsSpecs us ds rest → Each SpecReads ds
specs-read (s.no_spec e) = none
specs-read (s.more_specs a b) = also (spec-reads a) (specs-read b)

decls-read : {us rest : List Spot} {ds : List Decl} → IsDecls us ds rest → Each DeclReads ds
decls-read (s.no_decl e) = none
decls-read (s.more_decls a b) = also (decl-reads a) (decls-read b)

-- ---- whole texts

uses-flat : (fs : List Uses) (margin : ℕ) (ls : List Line) → line_tokens (map (uses_line margin) fs ++ ls) ≡ flat_map uses_tokens fs ++ line_tokens ls
uses-flat [] margin ls = refl
uses-flat (f ∷ fs) margin ls = ap (λ (ts : List Token). token.Word key.KWith ∷ token.Lit (lit.Text f.file) ∷ ts) (uses-flat fs margin ls)

-- `with`s and declarations, and then more
interface-flat : (fs : List Uses) (ds : List Decl) (ls : List Line) → line_tokens (part_lines 2 fs ds ++ ls) ≡ flat_map uses_tokens fs ++ (flat_map spec_tokens ds ++ line_tokens ls)
interface-flat fs ds ls =
    ap line_tokens (append_assoc (map (uses_line 2) fs) (flat_map (decl_lines 2) ds) ls)
    ∙ uses-flat fs 2 (flat_map (decl_lines 2) ds ++ ls)
    ∙ ap (λ (ts : List Token). flat_map uses_tokens fs ++ ts) (lines-of (decl_lines 2) ds ls)

body-flat : (fs : List Uses) (ds : List Decl) → line_tokens (part_lines 0 fs ds) ≡ flat_map uses_tokens fs ++ flat_map decl_tokens ds
body-flat fs ds = uses-flat fs 0 (flat_map (decl_lines 0) ds) ∙ ap (λ (ts : List Token). flat_map uses_tokens fs ++ ts) (lines-flat (decl_lines 0) ds)

nothing-behind : LineEnds []
nothing-behind = record { closes = closing _ refl refl refl refl refl refl refl; arrow = refl; bar = refl; conjunction = refl; parts = refl; uses = refl }

-- `with`s and declarations of a body, which end the text
record Body (fs : List Uses) (ds : List Decl) (us : List Spot) : Type 0 where
  pub between : List Spot
  pub uses : Again (map plain_uses) IsUses fs us between
  pub decls : Again (map plain_decl) IsDecls ds between []

body-again : (fs : List Uses) (ds : List Decl) {us : List Spot} → Each DeclReads ds → Shows (line_tokens (part_lines 0 fs ds)) us [] → Body fs ds us
body-again fs ds rs x =
    let k = cut (flat_map uses_tokens fs) (rw (body-flat fs ds) at x) in
    record {
      between = k.between;
      uses = uses-again fs k.first (repeated-stops decl_tokens LineEnds (decl-starts 0) ds k.second nothing-behind).uses;
      decls = decls-again ds rs k.second (record { line = nothing-behind; none_next = refl });
    }

abbrev text_of : ℕ → Place → Place → List Uses → List Decl → List Uses → List Decl → Text
text_of m p end fs ss bs ds = record { «module» = m; place = p; end = end; uses = fs; specs = ss; body_uses = bs; decls = ds }

abbrev IsAgain : Place → List Spot → Text → Type 0
IsAgain last us t = (u : Text) × Derives last us u × SameText t u

same-text : (m : ℕ) (p q end last : Place) (fs gs bs cs : List Uses) (ss rs ds es : List Decl) → map plain_uses gs ≡ map plain_uses fs → map plain_decl rs ≡ map plain_decl ss → map plain_uses cs ≡ map plain_uses bs → map plain_decl es ≡ map plain_decl ds → SameText (text_of m p end fs ss bs ds) (text_of m q last gs rs cs es)
same-text m p q end last fs gs bs cs ss rs ds es a b c d =
    ap (λ (x : List Uses). text_of m nowhere nowhere x (map plain_decl ss) (map plain_uses bs) (map plain_decl ds)) (sym a)
    ∙ ap (λ (x : List Decl). text_of m nowhere nowhere (map plain_uses gs) x (map plain_uses bs) (map plain_decl ds)) (sym b)
    ∙ ap (λ (x : List Uses). text_of m nowhere nowhere (map plain_uses gs) (map plain_decl rs) x (map plain_decl ds)) (sym c)
    ∙ ap (λ (x : List Decl). text_of m nowhere nowhere (map plain_uses gs) (map plain_decl rs) (map plain_uses cs) x) (sym d)

text-by : (m : ℕ) (p q r at end last : Place) (fs bs : List Uses) (ss ds : List Decl) {us vs ws : List Spot} → Each SpecReads ss → Each DeclReads ds → Shows (flat_map uses_tokens fs) us vs → Shows (flat_map spec_tokens ss) vs ws → Shows (token.Word key.KEnd ∷ line_tokens (part_lines 0 bs ds)) ws [] → IsAgain last (word key.KModule q ∷ named m p ∷ sign mark.Colon r ∷ us) (text_of m at end fs ss bs ds)
text-by m p q r at end last fs bs ss ds a b x y (shown {p = o} {us = ys} z) =
    let e = line-end o ys in
    let f = uses-again fs x (repeated-stops spec_tokens LineEnds (decl-starts 2) ss y e).uses in
    let g = specs-again ss a y (record { line = e; none_next = refl }) in
    let h = body-again bs ds b z in (
      text_of m p last f.tree g.tree h.uses.tree h.decls.tree,
      s.a_text f.reads g.reads h.uses.reads h.decls.reads,
      same-text m at p end last fs f.tree bs h.uses.tree ss g.tree ds h.decls.tree f.same g.same h.uses.same h.decls.same,
    )

text-again : (m : ℕ) (at end last : Place) (fs bs : List Uses) (ss ds : List Decl) (us : List Spot) → Each SpecReads ss → Each DeclReads ds → Shows (text_tokens (text_of m at end fs ss bs ds)) us [] → IsAgain last us (text_of m at end fs ss bs ds)
text-again m at end last fs bs ss ds _ a b (shown {p = q} (shown {p} (shown {p = r} x))) =
    let k = cut (flat_map uses_tokens fs) (rw (interface-flat fs ss (line 0 (token.Word key.KEnd ∷ []) ∷ part_lines 0 bs ds)) at x) in
    let j = cut (flat_map spec_tokens ss) k.second in
    text-by m p q r at end last fs bs ss ds a b k.first j.first j.second

reads-by : {end : Place} {us : List Spot} {t : Text} (last : Place) (spots : List Spot) → Derives end us t → Shows (text_tokens t) spots [] → IsAgain last spots t
reads-by {end} last spots (s.a_text {m} {p} {fs} {bs} {ss} {ds} a b c d) x = text-again m p end last fs bs ss ds spots (specs-read b) (decls-read d) x

pub reads-back : ReadsBack
reads-back end last us spots t d e = reads-by last spots d (all-shown (text_tokens t) spots e)

pub reads-nothing-else : ReadsNothingElse
reads-nothing-else end last us spots t u d e f =
    let r = reads-back end last us spots t d e in
    r.2 ∙ ap plain_text (one-tree last spots r.0 u r.1 f)
