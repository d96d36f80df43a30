-- What literals stand for, one after the other.
use Rattle.std.proofs.Common.{◌≡◌, ℕ, suc, ◌+◌, ◌<◌, List, [], ◌∷◌, ◌++◌, length, drop, true, false, subst, get_or, flat_map, refl, sym, ap, ◌∙◌, append_assoc, add-one, drop-cons}
use Rattle.std.proofs.lemmas.List.{drop-map}
use Rattle.std.specs.Borrow.{Bor}
use Rattle.std.specs.List.{list_all}
use Rattle.rml_lex.specs.Character.{unescaped}
use Rattle.rml_top.specs.FirstForm.{spelled, IsFirstForm}
use Rattle.rml_top.specs.Text.{HasTokens, IsText, is_simple}
use Rattle.rml_top.proofs.Form.{form-found, some-is}
use Rattle.rml_top.proofs.Pieces.{same-tokens}

-- one literal more
pub one-more : (literals : List (Bor (List ℕ))) (i : ℕ) (d : Bor (List ℕ)) (before after : List ℕ) → i < length literals → after ≡ before ++ unescaped (get_or literals i d).now
    → after ++ flat_map unescaped (drop (i + 1) (spelled literals)) ≡ before ++ flat_map unescaped (drop i (spelled literals))
one-more literals i d before after lt f =
    let l : Bor (List ℕ) = get_or literals i d in
    let here : drop i literals ≡ l ∷ drop (suc i) literals = drop-cons literals i d lt in
    let first : drop i (spelled literals) ≡ l.now ∷ drop (suc i) (spelled literals) =
    drop-map (λ t. t.now) i literals ∙ ap spelled here ∙ ap (λ (x : List (List ℕ)). l.now ∷ x) (sym (drop-map (λ t. t.now) (suc i) literals)) in
    rw (first, f, add-one) (append_assoc before (unescaped l.now) (flat_map unescaped (drop (suc i) (spelled literals))))

-- ---- what a text prints

pub all-spelled : (literals : List (Bor (List ℕ))) → list_all (λ l. is_simple l.now) literals ≡ list_all is_simple (spelled literals)
all-spelled [] = refl
all-spelled (l ∷ ls) = rw (all-spelled ls) refl

pub same-literals : (tokens a b : List (List ℕ)) → IsFirstForm tokens a → IsFirstForm tokens b → a ≡ b
same-literals tokens a b f g = some-is a b (sym (form-found tokens a f) ∙ form-found tokens b g)

pub no-form : (bytes : List ℕ) (tokens : List (List ℕ)) → HasTokens bytes tokens → ((literals : List (List ℕ)) → ¬ IsFirstForm tokens literals) → (text : List ℕ) → ¬ IsText bytes text
no-form bytes tokens h none text t = none t.literals (subst (λ (x : List (List ℕ)). IsFirstForm x t.literals) (same-tokens bytes t.tokens tokens t.has_tokens h) t.form)

pub not-simple : (bytes : List ℕ) (tokens literals : List (List ℕ)) → HasTokens bytes tokens → IsFirstForm tokens literals → list_all is_simple literals ≡ false → (text : List ℕ) → ¬ IsText bytes text
not-simple bytes tokens literals h f e text t =
    let there : IsFirstForm tokens t.literals = subst (λ (x : List (List ℕ)). IsFirstForm x t.literals) (same-tokens bytes t.tokens tokens t.has_tokens h) t.form in
    let same : t.literals ≡ literals = same-literals tokens t.literals literals there f in
    let simple : list_all is_simple literals ≡ true = subst (λ (x : List (List ℕ)). list_all is_simple x ≡ true) same t.simple in
    cc
