-- Declarations in tables.
use Rattle.std.proofs.Common.{◌≡◌, ℕ, Bool, true, false, cond, List, [], ◌∷◌, ◌++◌, suc, length, refl, sym, ap, ◌∙◌, Option, None, Some}
use Rattle.std.specs.Prelude.{is_some, if◌then◌else◌}
use Rattle.std.specs.Cmp.{IsEquivalence}
use Rattle.std.specs.List.{list_any, position_or_len}
use Rattle.std.specs.Map.{keys_of, lookup}
use Rattle.indexmap.specs.IndexMap.{insert_entry}
use Rattle.rml_tables.specs.Words.{with_first, with_name}
use Rattle.rml_tables.proofs.Places.{place-none}

none-found : {V : Type 0} (o : Option V) → is_some o ≡ false → o ≡ None
none-found None e = refl
none-found (Some v) e = absurd (cc e)

module _ {K V : Type 0} where
  module _ (test : K → Bool) where
    -- a name is declared where it is among the names of the declarations
    pub declared : (es : List (K × V)) → is_some (lookup test es) ≡ list_any test (keys_of es)
    declared [] = refl
    declared (x ∷ es) = elim (test x.0) as (λ v. test x.0 ≡ v → is_some (lookup test (x ∷ es)) ≡ list_any test (keys_of (x ∷ es))) [
      | true ↦ λ h. rw h refl
      | false ↦ λ h. rw h (declared es)
    ] refl

    length-keys : (es : List (K × V)) → length (keys_of es) ≡ length es
    length-keys [] = refl
    length-keys (x ∷ es) = ap suc (length-keys es)

    pub undeclared-place : (es : List (K × V)) → is_some (lookup test es) ≡ false → position_or_len test (keys_of es) ≡ length es
    undeclared-place es e = place-none test (keys_of es) (sym (declared es) ∙ e) ∙ length-keys es

    -- what is declared behind changes nothing of what is declared
    pub lookup-append : (es more : List (K × V)) → is_some (lookup test es) ≡ true → lookup test (es ++ more) ≡ lookup test es
    lookup-append [] more e = absurd (cc e)
    lookup-append (x ∷ es) more e = elim (test x.0) as (λ v. test x.0 ≡ v → lookup test ((x ∷ es) ++ more) ≡ lookup test (x ∷ es)) [
      | true ↦ λ h. rw h refl
      | false ↦ λ h. (let r : is_some (lookup test es) ≡ true = rw h at e in rw h (lookup-append es more r))
    ] refl

    -- and is found where nothing before it is
    pub lookup-behind : (es more : List (K × V)) → is_some (lookup test es) ≡ false → lookup test (es ++ more) ≡ lookup test more
    lookup-behind [] more e = refl
    lookup-behind (x ∷ es) more e = elim (test x.0) as (λ v. test x.0 ≡ v → lookup test ((x ∷ es) ++ more) ≡ lookup test more) [
      | true ↦ λ h. absurd (let t : is_some (lookup test (x ∷ es)) ≡ true = rw h refl in cc (t, e))
      | false ↦ λ h. (let r : is_some (lookup test es) ≡ false = rw h at e in rw h (lookup-behind es more r))
    ] refl

  module _ (same : K → K → Bool) where
    -- a name that is not declared goes last
    pub insert_entry-new : (name : K) (value : V) (es : List (K × V)) → is_some (lookup (same name) es) ≡ false → insert_entry same es name value ≡ es ++ (name, value) ∷ []
    insert_entry-new name value [] e = refl
    insert_entry-new name value (x ∷ es) e = elim (same name x.0) as (λ v. same name x.0 ≡ v → insert_entry same (x ∷ es) name value ≡ (x ∷ es) ++ (name, value) ∷ []) [
      | true ↦ λ h. absurd (let t : is_some (lookup (same name) (x ∷ es)) ≡ true = rw h refl in cc (t, e))
      | false ↦ λ h. (let r : is_some (lookup (same name) es) ≡ false = rw h at e in rw h (ap (λ ys. x ∷ ys) (insert_entry-new name value es r)))
    ] refl

    keys-push : (es : List (K × V)) (name : K) (value : V) → keys_of (es ++ (name, value) ∷ []) ≡ keys_of es ++ name ∷ []
    keys-push [] name value = refl
    keys-push (x ∷ es) name value = ap (λ ks. x.0 ∷ ks) (keys-push es name value)

    pub first-stays : (table : List (K × V)) (name other : K) (value old : V) → lookup (same name) table ≡ Some old → lookup (same name) (with_first same table other value) ≡ Some old
    first-stays table name other value old e = elim (is_some (lookup (same other) table)) as (λ v. is_some (lookup (same other) table) ≡ v → lookup (same name) (with_first same table other value) ≡ Some old) [
      | true ↦ λ h. rw h e
      | false ↦ λ h. rw h (lookup-append (same name) table ((other, value) ∷ []) (ap is_some e) ∙ e)
    ] refl

    pub new-is-found : ((x : K) → same x x ≡ true) → (table : List (K × V)) (name : K) (value : V) → lookup (same name) table ≡ None → lookup (same name) (with_first same table name value) ≡ Some value
    new-is-found itself table name value e =
        let none : is_some (lookup (same name) table) ≡ false = ap is_some e in
        rw none (lookup-behind (same name) table ((name, value) ∷ []) none ∙ ap (λ v. cond v (Some value) None) (itself name))

    pub others-stay : (table : List (K × V)) (name other : K) (value : V) → same name other ≡ false → lookup (same name) (with_first same table other value) ≡ lookup (same name) table
    others-stay table name other value differ = elim (is_some (lookup (same other) table)) as (λ v. is_some (lookup (same other) table) ≡ v → lookup (same name) (with_first same table other value) ≡ lookup (same name) table) [
      | true ↦ λ h. rw h refl
      | false ↦ λ h. rw h (elim (is_some (lookup (same name) table)) as (λ v. is_some (lookup (same name) table) ≡ v → lookup (same name) (table ++ (other, value) ∷ []) ≡ lookup (same name) table) [
        | true ↦ λ g. lookup-append (same name) table ((other, value) ∷ []) g
        | false ↦ λ g. lookup-behind (same name) table ((other, value) ∷ []) g ∙ ap (λ v. cond v (Some value) None) differ ∙ sym (none-found (lookup (same name) table) g)
      ] refl)
    ] refl

    pub names-declared : (table : List (K × V)) (name : K) (value : V) → keys_of (with_first same table name value) ≡ with_name same (keys_of table) name
    names-declared table name value = elim (is_some (lookup (same name) table)) as (λ v. is_some (lookup (same name) table) ≡ v → keys_of (with_first same table name value) ≡ with_name same (keys_of table) name) [
      | true ↦ λ h. rw (h, sym (declared (same name) table) ∙ h) refl
      | false ↦ λ h. rw (h, sym (declared (same name) table) ∙ h) (keys-push table name value)
    ] refl
