-- Tables that write types out some times over at once.
use Rattle.std.proofs.Common.{◌≡◌, ℕ, zero, suc, ◌+◌, ◌/◌, ◌%◌, ◌-◌, List, [], ◌∷◌, map, refl, sym, ap, ◌∙◌, Option, Some, None, Bool, true, false, arith, subst}
use Rattle.std.specs.Prelude.{is_some}
use Rattle.std.specs.Option.{option_map}
use Rattle.rml_types.specs.declared.tree.SchemeTree.{SchemeTree}
use Rattle.rml_abbreviations.specs.Powers.{IsPower}
use Rattle.rml_abbreviations.specs.Written.{meaning_in, times, written, written_out}
use Rattle.rml_abbreviations.proofs.WrittenTypes.{times-more, written-both, written-nothing}

abbrev Table : Type 0
Table = List (Option SchemeTree)

meaning-map : (f : SchemeTree → SchemeTree) (table : Table) (c : ℕ) → meaning_in (map (option_map f) table) c ≡ option_map f (meaning_in table c)
meaning-map f [] c = refl
meaning-map f (o ∷ table) zero = refl
meaning-map f (o ∷ table) (suc c) = meaning-map f table c

some-map : (f : SchemeTree → SchemeTree) (o : Option SchemeTree) → is_some (option_map f o) ≡ is_some o
some-map f None = refl
some-map f (Some t) = refl

-- a table that another follows, which has the same names
follows : (first next table : Table) → table ≡ map (option_map (written (meaning_in next))) first → ((c : ℕ) → is_some (meaning_in first c) ≡ is_some (meaning_in next c))
    → (t : SchemeTree) → written (meaning_in table) t ≡ written (meaning_in next) (written (meaning_in first) t)
follows first next table is same =
    written-both (meaning_in first) (meaning_in next) (meaning_in table)
    (λ c. ap (λ (x : Table). meaning_in x c) is ∙ meaning-map (written (meaning_in next)) first c) same

names-follow : (first next table : Table) → table ≡ map (option_map (written (meaning_in next))) first → (c : ℕ) → is_some (meaning_in table c) ≡ is_some (meaning_in first c)
names-follow first next table is c =
    ap (λ (x : Table). is_some (meaning_in x c)) is ∙ ap is_some (meaning-map (written (meaning_in next)) first c) ∙ some-map (written (meaning_in next)) (meaning_in first c)

not-true : {X : Type 0} → false ≡ true → X
not-true e = absurd (cc e)

pub once : (bodies table : Table) → table ≡ bodies → IsPower bodies 1 table false
once bodies table is = record {
  names = λ c. ap (λ (x : Table). is_some (meaning_in x c)) is;
  writes = λ t. ap (λ (x : Table). written (meaning_in x) t) is;
  stays = λ e. not-true e;
}

-- a table for a times, and then one for b more
pub added : (bodies first next table : Table) (a b : ℕ) (p q : Bool) → IsPower bodies a first p → IsPower bodies b next q → table ≡ map (option_map (written (meaning_in next))) first
    → IsPower bodies (b + a) table false
added bodies first next table a b p q f n is = record {
  names = λ c. names-follow first next table is c ∙ f.names c;
  writes = λ t. follows first next table is (λ c. f.names c ∙ sym (n.names c)) t ∙ n.writes (written (meaning_in first) t)
      ∙ ap (written_out b (meaning_in bodies)) (f.writes t) ∙ sym (times-more b a (written (meaning_in bodies)) t);
  stays = λ e. not-true e;
}

-- where a further time changes nothing, no number of further times does
steady : (bodies table : Table) → ((t : SchemeTree) → written (meaning_in bodies) (written (meaning_in table) t) ≡ written (meaning_in table) t)
    → (n : ℕ) (t : SchemeTree) → times n (written (meaning_in bodies)) (written (meaning_in table) t) ≡ written (meaning_in table) t
steady bodies table stays zero t = refl
steady bodies table stays (suc n) t = ap (written (meaning_in bodies)) (steady bodies table stays n t) ∙ stays t

-- so a table that is fixed serves for more times
pub further : (bodies table : Table) (a n : ℕ) → IsPower bodies a table true → IsPower bodies (n + a) table true
further bodies table a n p = record {
  names = p.names;
  writes = λ t. sym (times-more n a (written (meaning_in bodies)) t ∙ ap (times n (written (meaning_in bodies))) (sym (p.writes t)) ∙ steady bodies table (p.stays refl) n t);
  stays = p.stays;
}

-- a table that once more leaves as it is, is fixed
pub fixed : (bodies half more : Table) (a : ℕ) → IsPower bodies a half false → IsPower bodies 1 bodies false → more ≡ map (option_map (written (meaning_in bodies))) half → more ≡ half
    → IsPower bodies a half true
fixed bodies half more a h one is same = record {
  names = h.names;
  writes = h.writes;
  stays = λ e t. sym (follows half bodies more is h.names t) ∙ ap (λ (x : Table). written (meaning_in x) t) same;
}

-- how doubling goes, by which of its ways
halved : (n : ℕ) → (n - n / 2) + n / 2 ≡ n
halved n = omega arith

pub half-is-fixed : (bodies table : Table) (count : ℕ) (p : Bool) → p ≡ true → IsPower bodies (count / 2) table p → IsPower bodies count table p
half-is-fixed bodies table count false e h = not-true e
half-is-fixed bodies table count true e h = subst (λ n. IsPower bodies n table true) (halved count) (further bodies table (count / 2) (count - count / 2) h)

pub becomes-fixed : (bodies half more : Table) (count : ℕ) (p : Bool) → p ≡ false → IsPower bodies (count / 2) half p → more ≡ map (option_map (written (meaning_in bodies))) half → more ≡ half
    → IsPower bodies count more true
becomes-fixed bodies half more count true e h is same = not-true (sym e)
becomes-fixed bodies half more count false e h is same =
    subst (λ (x : Table). IsPower bodies count x true) (sym same)
    (half-is-fixed bodies half count true refl (fixed bodies half more (count / 2) h (once bodies bodies refl) is same))

pub doubles : (bodies half table : Table) (count : ℕ) (p : Bool) → count % 2 ≡ 0 → IsPower bodies (count / 2) half p → table ≡ map (option_map (written (meaning_in half))) half
    → IsPower bodies count table false
doubles bodies half table count p even h is =
    let e : count / 2 + count / 2 ≡ count = omega arith in
    subst (λ n. IsPower bodies n table false) e (added bodies half half table (count / 2) (count / 2) p p h h is)

pub doubles-more : (bodies half more table : Table) (count : ℕ) (p : Bool) → (count % 2 ≡ 0 → ⊥) → IsPower bodies (count / 2) half p
    → more ≡ map (option_map (written (meaning_in bodies))) half → table ≡ map (option_map (written (meaning_in more))) half → IsPower bodies count table false
doubles-more bodies half more table count p odd h is then_is =
    let next : IsPower bodies (1 + count / 2) more false = added bodies half bodies more (count / 2) 1 p false h (once bodies bodies refl) is in
    let e : (1 + count / 2) + count / 2 ≡ count = omega arith in
    subst (λ n. IsPower bodies n table false) e (added bodies half more table (count / 2) (1 + count / 2) p false h next then_is)

nothing : (c : ℕ) → meaning_in [] c ≡ None
nothing c = refl

pub no-times : (bodies table : Table) → table ≡ [] → (t : SchemeTree) → written (meaning_in table) t ≡ written_out 0 (meaning_in bodies) t
no-times bodies table is t = ap (λ (x : Table). written (meaning_in x) t) is ∙ written-nothing (meaning_in []) nothing t
