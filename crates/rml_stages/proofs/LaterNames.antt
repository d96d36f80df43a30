-- Names that grow: what has a place among them keeps it, so tokens show the same over all later names.
use Rattle.std.proofs.Common.{◌≡◌, ℕ, suc, ◌+◌, ◌<◌, true, false, List, [], ◌∷◌, ◌++◌, length, refl, sym, ap, subst, ◌∙◌, append-nil, append_assoc, arith}
use Rattle.std.proofs.Math.ListN.{get_or, get_or-append, length-append}
use Rattle.std.proofs.lemmas.List.Elements.{All-cons, All-nil}
use Rattle.std.proofs.lemmas.List.Folds.{list_any_at}
use Rattle.rml_base.specs.Numbering.{GrowsBy, is_known, number_in, same, with_name}
use Rattle.rml_base.specs.declared.place.Place.{Place}
use Rattle.rml_base.proofs.Callers.{name-bytes, name-given, same-refl}
use Rattle.rml_syntax.specs.declared.token.Lit.TheVariants as lit
use Rattle.rml_syntax.specs.declared.token.Spot.{Spot}
use Rattle.rml_syntax.specs.declared.token.Token.{Token}
use Rattle.rml_syntax.specs.declared.token.Token.TheVariants as token
use Rattle.rml_lex.specs.Numbered.{bytes_in, names_in, spots_in, token_in, with_names}
use Rattle.rml_lex.specs.Reading as reading
use Rattle.rml_lex.specs.Reading.{AllGiven, IsGiven, Shown, shown, shown_token}

-- a token shows the same under more names
token-later : (names more : List (List ℕ)) (t : Token) → IsGiven (length names) t → shown_token (names ++ more) t ≡ shown_token names t
token-later names more (token.Name k) h = rw (get_or-append names more [] k h) refl
token-later names more (token.TyVar k) h = rw (get_or-append names more [] k h) refl
token-later names more (token.Lit (lit.Text k)) h = rw (get_or-append names more [] k h) refl
token-later names more (token.Lit (lit.Int i)) h = refl
token-later names more (token.Lit (lit.Char v)) h = refl
token-later names more (token.Word k) h = refl
token-later names more (token.Dashes n) h = refl
token-later names more (token.Sign m) h = refl

given-more : (n k : ℕ) (t : Token) → IsGiven n t → IsGiven (n + k) t
given-more n k (token.Name j) h = omega arith
given-more n k (token.TyVar j) h = omega arith
given-more n k (token.Lit (lit.Text j)) h = omega arith
given-more n k (token.Lit (lit.Int i)) h = tt
given-more n k (token.Lit (lit.Char v)) h = tt
given-more n k (token.Word j) h = tt
given-more n k (token.Dashes v) h = tt
given-more n k (token.Sign m) h = tt

shown-more : (names more : List (List ℕ)) (spots : List Spot) → AllGiven (length names) spots → shown (names ++ more) spots ≡ shown names spots
shown-more names more [] h = refl
shown-more names more (s ∷ ss) h =
    let one : IsGiven (length names) s.token = h 0 s (omega arith) in
    let rest = shown-more names more ss (λ k d lt. h (suc k) d (omega arith)) in
    rw (token-later names more s.token one, rest) refl

pub shown-later : (most : ℕ) (names later : List (List ℕ)) (spots : List Spot) → GrowsBy most names later → AllGiven (length names) spots → shown later spots ≡ shown names spots
shown-later most names later spots g h = rw (g.1, shown-more names g.0 spots h) refl

pub given-later : (most : ℕ) (names later : List (List ℕ)) (spots : List Spot) → GrowsBy most names later → AllGiven (length names) spots → AllGiven (length later) spots
given-later most names later spots g h =
    let n : length later ≡ length names + length g.0 = ap length g.1 ∙ length-append names g.0 in
    λ k d lt. (rw n (given-more (length names) (length g.0) _ (h k d lt)))

-- the bytes have a place among the names
pub Stands : List (List ℕ) → List ℕ → Type 0
Stands names b = (k : ℕ) × (k < length names) × (get_or names k [] ≡ b)

-- and each of these has
pub AllStand : List (List ℕ) → List (List ℕ) → Type 0
AllStand names [] = Unit {0}
AllStand names (b ∷ bs) = Stands names b × AllStand names bs

stands-more : (names more : List (List ℕ)) (b : List ℕ) → Stands names b → Stands (names ++ more) b
unfolding Stands
stands-more names more b h = (h.0, omega (arith, length-append names more, h.1), get_or-append names more [] h.0 h.1 ∙ h.2)

stands-now : (names : List (List ℕ)) (b : List ℕ) → Stands (with_name names b) b
unfolding Stands
stands-now names b = (number_in names b, name-given names b, name-bytes names b)

known : (names : List (List ℕ)) (b : List ℕ) → Stands names b → is_known names b ≡ true
unfolding Stands
known names b h = list_any_at (same b) names h.0 [] h.1 (rw h.2 (same-refl b))

-- so its number is that of such a place
number-bytes : (names : List (List ℕ)) (b : List ℕ) → Stands names b → (get_or names (number_in names b) [] ≡ b) × (number_in names b < length names)
number-bytes names b h =
    let e : with_name names b ≡ names = rw (known names b h) refl in
    (subst (λ (ns : List (List ℕ)). get_or ns (number_in names b) [] ≡ b) e (name-bytes names b), subst (λ (ns : List (List ℕ)). number_in names b < length ns) e (name-given names b))

-- names grow at their end
with-one : (names : List (List ℕ)) (b : List ℕ) → (more : List (List ℕ)) × (with_name names b ≡ names ++ more)
with-one names b = elim (is_known names b) as (λ v. is_known names b ≡ v → (more : List (List ℕ)) × (with_name names b ≡ names ++ more)) [
  | true ↦ λ h. ([], rw h (sym (append-nil names)))
  | false ↦ λ h. (b ∷ [], rw h refl)
] refl

pub with-more : (names bs : List (List ℕ)) → (more : List (List ℕ)) × (with_names names bs ≡ names ++ more)
with-more names [] = ([], sym (append-nil names))
with-more names (b ∷ bs) =
    let one = with-one names b in
    let rest = with-more (with_name names b) bs in
    (one.0 ++ rest.0, rest.1 ∙ ap (λ (ns : List (List ℕ)). ns ++ rest.0) one.1 ∙ append_assoc names one.0 rest.0)

pub all-stand : (names bs : List (List ℕ)) → AllStand (with_names names bs) bs
unfolding AllStand
all-stand names [] = tt
all-stand names (b ∷ bs) =
    let g = with-more (with_name names b) bs in
    (rw g.1 (stands-more (with_name names b) g.0 b (stands-now names b)), all-stand (with_name names b) bs)

-- a token that is numbered among names where its bytes stand shows as it was
token-shown : (names : List (List ℕ)) (s : Shown) → AllStand names (bytes_in s) → (shown_token names (token_in names s) ≡ s) × IsGiven (length names) (token_in names s)
unfolding AllStand
token-shown names (reading.Name b) h = (let n = number-bytes names b h.0 in (ap reading.Name n.0, n.1))
token-shown names (reading.TyVar b) h = (let n = number-bytes names b h.0 in (ap reading.TyVar n.0, n.1))
token-shown names (reading.Text b) h = (let n = number-bytes names b h.0 in (ap reading.Text n.0, n.1))
token-shown names (reading.Word k) h = (refl, tt)
token-shown names (reading.Int i) h = (refl, tt)
token-shown names (reading.Char v) h = (refl, tt)
token-shown names (reading.Sign m) h = (refl, tt)
token-shown names (reading.Dashes n) h = (refl, tt)

stand-front : (names front bs : List (List ℕ)) → AllStand names (front ++ bs) → AllStand names front
unfolding AllStand
stand-front names [] bs h = tt
stand-front names (b ∷ front) bs h = (h.0, stand-front names front bs h.1)

stand-behind : (names front bs : List (List ℕ)) → AllStand names (front ++ bs) → AllStand names bs
unfolding AllStand
stand-behind names [] bs h = h
stand-behind names (b ∷ front) bs h = stand-behind names front bs h.1

pub tokens-shown : (names : List (List ℕ)) (ss : List (Place × Shown)) → AllStand names (names_in ss) → (shown names (spots_in names ss) ≡ ss) × AllGiven (length names) (spots_in names ss)
tokens-shown names [] h = (refl, All-nil (λ (s : Spot). IsGiven (length names) s.token))
tokens-shown names (s ∷ ss) h =
    let one = token-shown names s.1 (stand-front names (bytes_in s.1) (names_in ss) h) in
    let rest = tokens-shown names ss (stand-behind names (bytes_in s.1) (names_in ss) h) in
    (rw (one.0, rest.0) refl, All-cons (λ (s : Spot). IsGiven (length names) s.token) _ _ one.1 rest.1)
