-- Values where there are values: what two meanings of one expression are to each other.
use Rattle.std.proofs.Common.{◌≡◌, List, ◌∷◌, Option, Some, None, refl, sym, ap, subst, ◌∙◌}
use Rattle.std.specs.Prelude.{option_map, option_and_then}
use Rattle.rml_terms.specs.Evaluating.{with_first}

-- where the first is there, the second is the same
abbrev pub Worth : {A : Type 0} → Option A → Option A → Type 0
Worth None o = Unit {0}
Worth (Some v) o = o ≡ Some v

pub worth_same : {A : Type 0} (o o' : Option A) → o ≡ o' → Worth o o'
worth_same None o' e = tt
worth_same (Some v) o' e = sym e

pub worth_self : {A : Type 0} (o : Option A) → Worth o o
worth_self o = worth_same o o refl

pub worth_from : {A : Type 0} (o o' : Option A) → ((v : A) → o ≡ Some v → o' ≡ Some v) → Worth o o'
worth_from None o' each = tt
worth_from (Some v) o' each = each v refl

pub worth_at : {A : Type 0} (o o' : Option A) (v : A) → Worth o o' → o ≡ Some v → o' ≡ Some v
worth_at None o' v h e = absurd (cc)
worth_at (Some w) o' v h e = h ∙ e

pub worth_map : {A C : Type 0} (f : A → C) (o o' : Option A) → Worth o o' → Worth (option_map f o) (option_map f o')
worth_map f None o' h = tt
worth_map f (Some v) o' h = ap (option_map f) h

pub worth_then : {A C : Type 0} (f : A → Option C) (o o' : Option A) → Worth o o' → Worth (option_and_then f o) (option_and_then f o')
worth_then f None o' h = tt
worth_then {A = A} f (Some v) o' h = subst (λ (p : Option A). Worth (f v) (option_and_then f p)) (sym h) (worth_self (f v))

pub worth_first : {A : Type 0} (o o' : Option A) (p p' : Option (List A)) → Worth o o' → Worth p p' → Worth (with_first o p) (with_first o' p')
worth_first None o' p p' h k = tt
worth_first {A = A} (Some x) o' p p' h k =
    subst (λ (q : Option A). Worth (option_map (λ rest. x ∷ rest) p) (with_first q p')) (sym h) (worth_map (λ rest. x ∷ rest) p p' k)
