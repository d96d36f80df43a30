-- Each text of the first form is read.
use Rattle.std.proofs.Common.{◌≡◌, ℕ, Bool, true, false, List, [], ◌∷◌, ◌++◌, map, refl, sym, ap, subst, ◌∙◌, append_assoc}
use Rattle.std.specs.Prelude.{codes}
use Rattle.std.specs.List.{AllByRecursion}
use Rattle.rml_base.specs.Numbering.{number_in}
use Rattle.rml_base.specs.declared.place.Place.{Place}
use Rattle.rml_lex.specs.Character.{unescaped}
use Rattle.rml_lex.specs.Numbered.{names_in, spots_in, token_in, with_names}
use Rattle.rml_lex.specs.Places.{start}
use Rattle.rml_lex.specs.Reading.{Shown, marks}
use Rattle.rml_stages.specs.Reading.{IsRead, end_of}
use Rattle.rml_top.specs.Due.{AreAccepted}
use Rattle.rml_top.specs.FirstForm.{IsFirstForm, Premise, conclusion, further, interface, is_literal, literals_of, opening, premise, tokens_of}
use Rattle.rml_top.specs.Text.{HasTokens, IsText, spellings}
use Rattle.rml_top.proofs.Derived.{AreLiteralTokens, IsLiteralToken, Tells, derived, fits-all, token_of, tokens}
use Rattle.rml_top.proofs.Fits.{tokens_in, within}
use Rattle.rml_top.proofs.TokenKinds.{ArePieces, IsPiece, are-pieces, dashes-shown, literal-shown, name-shown, pieces-behind, shown_of, shown_tokens, tokens-shown}

-- ---- the tokens as they are numbered

spots-tokens : (names : List (List ℕ)) (spots : List (Place × Shown)) → tokens_in (spots_in names spots) ≡ map (token_in names) (shown_tokens spots)
spots-tokens names [] = refl
spots-tokens names (s ∷ spots) = ap (λ x. token_in names s.1 ∷ x) (spots-tokens names spots)

numbered : (names : List (List ℕ)) (ss : List (List ℕ)) → map (token_in names) (map shown_of ss) ≡ tokens names ss
numbered names [] = refl
numbered names (s ∷ ss) = ap (λ x. token_of names s ∷ x) (numbered names ss)

-- ---- which tokens they are

abbrev AreLiterals : List (List ℕ) → Type 0
AreLiterals ls = AllByRecursion (λ l. is_literal l ≡ true) ls

module _ (names : List (List ℕ)) where
  literal-token : (l : List ℕ) → is_literal l ≡ true → IsPiece l → IsLiteralToken names l
  literal-token l e h = (number_in names (unescaped l), ap (token_in names) (literal-shown l e h))

  premise-piece : (b : Bool) (l : List ℕ) (rest : List (List ℕ)) → ArePieces (premise (record { literal = l; bracketed = b }) ++ rest) → IsPiece l
  premise-piece true l rest h = h.1.1.0
  premise-piece false l rest h = h.1.0

  further-tokens : (qs : List Premise) (rest : List (List ℕ)) → ArePieces (further qs ++ rest) → AreLiterals (map (λ q. q.literal) qs) → AreLiteralTokens names qs
  further-tokens [] rest h ls = tt
  further-tokens (q ∷ qs) rest h ls =
      let more : ArePieces (premise q ++ (further qs ++ rest)) = subst (λ (x : List (List ℕ)). ArePieces x) (append_assoc (premise q) (further qs) rest) h.1 in
      (literal-token q.literal ls.0 (premise-piece q.bracketed q.literal (further qs ++ rest) more), further-tokens qs rest (pieces-behind (premise q) (further qs ++ rest) more) ls.1)

  tells : (ts literals : List (List ℕ)) (f : IsFirstForm ts literals) → ArePieces (tokens_of f.parts) → Tells names f.parts
  tells ts literals f h =
      let p = f.parts in
      let ls : AreLiterals (literals_of p) = subst (λ (x : List (List ℕ)). AreLiterals x) f.literals_are f.literals_fit in
      let last = p.dashes ∷ conclusion in
      let goals = premise p.first ++ (further p.others ++ last) in
      let opened : ArePieces goals = pieces-behind (opening p.typed) goals (pieces-behind (codes "module" ∷ p.name ∷ interface) (opening p.typed ++ goals) h) in
      let more : ArePieces (further p.others ++ last) = pieces-behind (premise p.first) (further p.others ++ last) opened in
      let end : ArePieces last = pieces-behind (further p.others) last more in
      record {
        name = number_in names p.name;
        named = ap (token_in names) (name-shown p.name f.name_fits h.1.0);
        first = literal-token p.first.literal ls.0 (premise-piece p.first.bracketed p.first.literal (further p.others ++ last) opened);
        others = further-tokens p.others last more ls.1;
        dashes = _;
        dashed = ap (token_in names) (dashes-shown p.dashes f.dashes_fit end.0);
      }

-- ---- the law

pub first-read : (bytes : List ℕ) (ts literals : List (List ℕ)) → HasTokens bytes ts → IsFirstForm ts literals → AreAccepted (bytes ∷ [])
first-read bytes ts literals h f =
    let shown = marks (start 0) h.parts in
    let names = with_names [] (names_in shown) in
    let spots = spots_in names shown in
    let same : spellings h.parts ≡ tokens_of f.parts = sym h.tokens_are ∙ f.tokens_are in
    let told : Tells names f.parts = tells names ts literals f (subst (λ (x : List (List ℕ)). ArePieces x) same (are-pieces h.parts bytes h.reaches)) in
    let are : tokens_in spots ≡ tokens names (tokens_of f.parts) =
    spots-tokens names shown ∙ ap (λ x. map (token_in names) x) (tokens-shown h.parts bytes (start 0) h.reaches h.no_comment) ∙ numbered names (spellings h.parts) ∙ ap (tokens names) same in
    let tree = derived names f.parts (end_of 0 bytes) spots told are in
    let read : IsRead 0 bytes [] tree.0 names = (
      spots,
      record {
        spelled = record { shown = shown; spelled = (h.parts, h.reaches, refl); numbered = record { names = refl; tokens = refl } };
        is_tree = record { derived = tree.1; within = within spots (fits-all names f.parts spots told are) };
      },
    ) in
    (tree.0 ∷ [], names, (names, read, refl))

pub first-accepted : (bytes text : List ℕ) → IsText bytes text → AreAccepted (bytes ∷ [])
first-accepted bytes text t = first-read bytes t.tokens t.literals t.has_tokens t.form
