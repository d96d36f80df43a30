-- A text that is read has its tree over the names behind it, and over all later ones.
use Rattle.std.proofs.Common.{◌≡◌, ℕ, suc, ◌≤◌, List, [], ◌∷◌, ◌++◌, length, sym, ap, subst, ◌∙◌, append-nil, append_assoc, arith}
use Rattle.rml_base.specs.Numbering.{GrowsBy}
use Rattle.rml_base.specs.declared.place.Place.{Place}
use Rattle.rml_syntax.specs.declared.token.Spot.{Spot}
use Rattle.rml_syntax.specs.declared.texts.Text.{Text}
use Rattle.rml_lex.specs.Numbered.{names_in}
use Rattle.rml_lex.specs.Reading.{AllGiven, Shown, Spelled, shown}
use Rattle.rml_stages.specs.Over.{AreTreesOver, IsTreeOver}
use Rattle.rml_stages.specs.Reading.{AreRead, IsRead}
use Rattle.rml_stages.proofs.LaterNames.{AllStand, all-stand, given-later, shown-later, tokens-shown, with-more}

pub behind : (number : ℕ) (bytes : List ℕ) (old new : List (List ℕ)) (tree : Text) → IsRead number bytes old tree new → IsTreeOver new number bytes tree
behind number bytes old new tree (spots, h) =
    let numbered = h.spelled.numbered in
    let stand : AllStand new (names_in h.spelled.shown) = subst (λ (ns : List (List ℕ)). AllStand ns (names_in h.spelled.shown)) (sym numbered.names) (all-stand old (names_in h.spelled.shown)) in
    let are = tokens-shown new h.spelled.shown stand in
    let same : h.spelled.shown ≡ shown new spots = sym (ap (shown new) numbered.tokens ∙ are.0) in
    record {
      spots = spots;
      spelled = subst (λ (ss : List (Place × Shown)). Spelled number bytes ss) same h.spelled.spelled;
      given = subst (λ (ss : List Spot). AllGiven (length new) ss) (sym numbered.tokens) are.1;
      is_tree = h.is_tree;
    }

pub over-later : (most number : ℕ) (bytes : List ℕ) (names later : List (List ℕ)) (tree : Text) → GrowsBy most names later → IsTreeOver names number bytes tree → IsTreeOver later number bytes tree
over-later most number bytes names later tree g h = record {
  spots = h.spots;
  spelled = subst (λ (ss : List (Place × Shown)). Spelled number bytes ss) (sym (shown-later most names later h.spots g h.given)) h.spelled;
  given = given-later most names later h.spots g h.given;
  is_tree = h.is_tree;
}

-- texts that are read let the names grow at their end
grown : (texts : List (List ℕ)) (number : ℕ) (old new : List (List ℕ)) (trees : List Text) → AreRead number texts old trees new → (more : List (List ℕ)) × (new ≡ old ++ more)
grown [] number old new [] h = ([], h ∙ sym (append-nil old))
grown [] number old new (t ∷ ts) h = absurd h
grown (x ∷ xs) number old new [] h = absurd h
grown (x ∷ xs) number old new (t ∷ ts) h =
    let read = h.1.1.spelled in
    let one = with-more old (names_in read.shown) in
    let rest = grown xs (suc number) h.0 new ts h.2 in
    (one.0 ++ rest.0, rest.1 ∙ ap (λ (ns : List (List ℕ)). ns ++ rest.0) (read.numbered.names ∙ one.1) ∙ append_assoc old one.0 rest.0)

pub all-behind : (texts : List (List ℕ)) (number : ℕ) (old new : List (List ℕ)) (trees : List Text) → AreRead number texts old trees new → AreTreesOver new number texts trees
all-behind [] number old new [] h = tt
all-behind [] number old new (t ∷ ts) h = h
all-behind (x ∷ xs) number old new [] h = h
all-behind (x ∷ xs) number old new (t ∷ ts) h =
    let g = grown xs (suc number) h.0 new ts h.2 in
    let most : length g.0 ≤ length g.0 = omega arith in
    (over-later (length g.0) number x h.0 new t (g.0, g.1, most) (behind number x old h.0 t h.1), all-behind xs (suc number) h.0 new ts h.2)

pub all-later : (most : ℕ) (names later : List (List ℕ)) → GrowsBy most names later → (texts : List (List ℕ)) (number : ℕ) (trees : List Text) → AreTreesOver names number texts trees → AreTreesOver later number texts trees
all-later most names later g [] number [] h = tt
all-later most names later g [] number (t ∷ ts) h = h
all-later most names later g (x ∷ xs) number [] h = h
all-later most names later g (x ∷ xs) number (t ∷ ts) h = (over-later most number x names later t g h.0, all-later most names later g xs (suc number) ts h.1)
