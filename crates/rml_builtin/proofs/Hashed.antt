-- How the names of the rows are hashed, one after the other, and found.
use Rattle.std.proofs.Common.{◌≡◌, ℕ, ◌+◌, ◌<◌, true, false, List, [], ◌∷◌, ◌++◌, map, drop, length, get_or, refl, sym, ap, ◌∙◌, add-one, drop-cons}
use Rattle.std.specs.Prelude.{if◌then◌else◌, fold, position}
use Rattle.std.specs.Str.{bytes_eq}
use Rattle.std.proofs.lemmas.List.{length-map}
use Rattle.std.specs.List.{list_any}
use Rattle.rml_base.specs.Numbering.{same, with_name}
use Rattle.rml_base.proofs.Callers.{keys-kept, keys-more, place-map}
use Rattle.rml_builtin.specs.declared.row.TheConstants.{ROWS}
use Rattle.rml_builtin.specs.declared.row.Row.{Row}
use Rattle.rml_builtin.specs.Table.{name_of}
use Rattle.rml_builtin.specs.Names.{row_names, number_named}

-- the names are those of the keys, and with a key put in they are those with its name
key-put : {K : Type 0} (f : K → List ℕ) (keys : List K) (key : K)
    → map f (if list_any (λ k. same (f key) (f k)) keys then keys else keys ++ key ∷ []) ≡ with_name (map f keys) (f key)
key-put f keys key =
    elim (list_any (λ k. same (f key) (f k)) keys)
    as (λ b. list_any (λ k. same (f key) (f k)) keys ≡ b → map f (if b then keys else keys ++ key ∷ []) ≡ with_name (map f keys) (f key)) [
      | true ↦ λ h. keys-kept f keys (f key) h
      | false ↦ λ h. keys-more f keys key h
    ] refl

-- what is left to hash after a row
pub after-row : {K : Type 0} (f : K → List ℕ) (keys new : List K) (key : K) (k : ℕ) (d : Row) → k < length ROWS
    → f key ≡ name_of (get_or ROWS k d) → new ≡ (if list_any (λ x. same (f key) (f x)) keys then keys else keys ++ key ∷ [])
    → fold with_name (map f keys) (map name_of (drop k ROWS)) ≡ row_names → fold with_name (map f new) (map name_of (drop (k + 1) ROWS)) ≡ row_names
after-row f keys new key k d inside is put before =
    let front : drop k ROWS ≡ get_or ROWS k d ∷ drop (k + 1) ROWS = rw (add-one, drop-cons ROWS k d) refl in
    let keyed : map f new ≡ with_name (map f keys) (name_of (get_or ROWS k d)) = ap (map f) put ∙ key-put f keys key ∙ ap (with_name (map f keys)) is in
    ap (λ (ns : List (List ℕ)). fold with_name ns (map name_of (drop (k + 1) ROWS))) keyed
    ∙ sym (ap (λ (rows : List Row). fold with_name (map f keys) (map name_of rows)) front)
    ∙ before

-- a name's place among the keys
pub place-named : {K : Type 0} (f : K → List ℕ) (keys : List K) (name : List ℕ) → map f keys ≡ row_names → position (λ k. bytes_eq name (f k)) keys ≡ number_named name
place-named f keys name whole =
    let mapped : position (bytes_eq name) (map f keys) ≡ position (λ k. bytes_eq name (f k)) keys = rw (place-map f (bytes_eq name) keys, length-map keys f) refl in
    sym mapped ∙ ap (position (bytes_eq name)) whole
