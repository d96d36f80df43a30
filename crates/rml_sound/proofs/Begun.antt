-- The constructors of a program: those with which its tables begin, by their numbers, and what any other may belong to.
use Rattle.std.proofs.Common.{◌≡◌, ℕ, zero, suc, ◌<◌, ◌≤◌, ◌⊎◌, inl, inr, Bool, true, List, [], ◌∷◌, map, length, drop, Option, Some, None, refl, sym, ap, subst, ◌∙◌, arith}
use Rattle.std.specs.Prelude.{◌&&◌, ◌==◌, IsSomeAnd, is_none, slice_get}
use Rattle.std.specs.List.{list_all}
use Rattle.std.proofs.lemmas.Bool.{eqb-true, leb-true}
use Rattle.rml_types.specs.declared.scheme.Scheme.{Scheme}
use Rattle.rml_types.specs.declared.tree.SchemeTree.{SchemeTree, out-SchemeTree}
use Rattle.rml_types.specs.declared.tree.SchemeTree.TheOpen.{SchemeTree-F}
use Rattle.rml_value.specs.declared.value.TheConstants.{NIL, CONS, FALSE, TRUE, NONE, SOME}
use Rattle.rml_builtin.specs.declared.types.TheConstants.{LIST, BOOL, OPTION}
use Rattle.rml_builtin.specs.Types.{a, list}
use Rattle.rml_resolved.specs.declared.expected.Arguments.{Arguments}
use Rattle.rml_resolved.specs.declared.expected.Arguments.TheVariants.{Nothing, Parameter, HeadAndTail}
use Rattle.rml_resolved.specs.declared.program.Program.{Program}
use Rattle.rml_resolved.specs.declared.tables.ConDef.{ConDef}
use Rattle.rml_resolved.specs.declared.tables.TypeDef.{TypeDef}
use Rattle.rml_resolved.specs.Beginning.{begins, in_prelude, is_name, is_known_type, KnownType, known_types, types_begin, are_arguments, KnownCon, is_known_con, known_cons, is_further, cons_begin}
use Rattle.rml_resolved.specs.Facts.{tables_of}
use Rattle.rml_resolved.specs.Typing.{is_var, is_whole}
use Rattle.rml_resolved.proofs.Callers.{both, first_so, list_at, var_at}
use Rattle.rml_typed.specs.Parts.{sides}
use Rattle.rml_sound.specs.Full.{definition, full, full_meanings}
use Rattle.rml_sound.specs.Values.{arguments_of}
use Rattle.rml_sound.proofs.Written.{full-none, written-Named, written-Var}

-- ---- the types that programs begin with stand for no others

is-none-true : (o : Option Scheme) → is_none o ≡ true → o ≡ None
is-none-true None h = refl
is-none-true (Some s) h = absurd (cc)

begun-stands : (names : List (List ℕ)) (ks : List KnownType) (types : List TypeDef) (n : ℕ) → n < length ks → begins (is_known_type names) ks types ≡ true
    → definition (slice_get types n) ≡ None
begun-stands names [] types n lt h = absurd (omega arith)
begun-stands names (k ∷ ks) [] n lt h = absurd (cc)
begun-stands names (k ∷ ks) (d ∷ types) zero lt h =
    let first = both (is_known_type names k d) (begins (is_known_type names) ks types) h in
    is-none-true d.means (both (in_prelude names d.«module» && is_name names k.0 d.name && (d.params == k.1)) (is_none d.means) first.first).second
begun-stands names (k ∷ ks) (d ∷ types) (suc n) lt h =
    begun-stands names ks types n (omega arith) (both (is_known_type names k d) (begins (is_known_type names) ks types) h).second

pub stands : (p : Program) (c : ℕ) → c < 8 → definition (slice_get p.types c) ≡ None
unfolding types_begin
stands p c lt = begun-stands p.names known_types p.types c lt p.types_first

pub stands-full : (p : Program) (c : ℕ) → c < 8 → full_meanings p.types c ≡ None
stands-full p c lt = full-none p.types c (stands p c lt)

full-a : (p : Program) → full p.types a ≡ a
full-a p = written-Var (full_meanings p.types) 0

full-list : (p : Program) → full p.types (list a) ≡ list a
full-list p = grind (arith, written-Named (full_meanings p.types) LIST (a ∷ []), stands-full p LIST (omega arith), full-a p)

-- ---- the constructors that programs begin with

-- what these arguments are
abbrev pub taken : Arguments → List SchemeTree
taken Nothing = []
taken Parameter = a ∷ []
taken HeadAndTail = a ∷ list a ∷ []

arguments-at : (k : Arguments) (z : SchemeTree-F SchemeTree) → are_arguments k z ≡ true → (sides z).inputs ≡ taken k
arguments-at Nothing (SchemeTree-F.Rel [] outs) h = refl
arguments-at Nothing (SchemeTree-F.Rel (t ∷ ts) outs) h = absurd (cc)
arguments-at Nothing (SchemeTree-F.Var j) h = absurd (cc)
arguments-at Nothing (SchemeTree-F.Named c ts) h = absurd (cc)
arguments-at Nothing (SchemeTree-F.Tuple ts) h = absurd (cc)
arguments-at Parameter (SchemeTree-F.Rel [] outs) h = absurd (cc)
arguments-at Parameter (SchemeTree-F.Rel (t ∷ []) outs) h = ap (λ u. u ∷ []) (var_at 0 t (out-SchemeTree t) refl h)
arguments-at Parameter (SchemeTree-F.Rel (t ∷ u ∷ ts) outs) h = absurd (cc)
arguments-at Parameter (SchemeTree-F.Var j) h = absurd (cc)
arguments-at Parameter (SchemeTree-F.Named c ts) h = absurd (cc)
arguments-at Parameter (SchemeTree-F.Tuple ts) h = absurd (cc)
arguments-at HeadAndTail (SchemeTree-F.Rel [] outs) h = absurd (cc)
arguments-at HeadAndTail (SchemeTree-F.Rel (t ∷ []) outs) h = absurd (cc)
arguments-at HeadAndTail (SchemeTree-F.Rel (t ∷ u ∷ []) outs) h =
    let two = both (is_var 0 (out-SchemeTree t)) (is_whole LIST 1 (out-SchemeTree u)) h in
    ap (λ x. x ∷ u ∷ []) (var_at 0 t (out-SchemeTree t) refl two.first) ∙ ap (λ x. a ∷ x ∷ []) (list_at u (out-SchemeTree u) refl two.second)
arguments-at HeadAndTail (SchemeTree-F.Rel (t ∷ u ∷ w ∷ ts) outs) h = absurd (cc)
arguments-at HeadAndTail (SchemeTree-F.Var j) h = absurd (cc)
arguments-at HeadAndTail (SchemeTree-F.Named c ts) h = absurd (cc)
arguments-at HeadAndTail (SchemeTree-F.Tuple ts) h = absurd (cc)

-- a constructor has what its known entry says
record IsKnown (known : KnownCon) (d : ConDef) : Type 0 where
  datatype : d.of ≡ known.1
  arguments : (sides (out-SchemeTree d.scheme.body)).inputs ≡ taken known.2

known-so : (names : List (List ℕ)) (known : KnownCon) (d : ConDef) → is_known_con names known d ≡ true → IsKnown known d
known-so names known d h =
    let two = both (is_name names known.0 d.name && (d.of == known.1)) (are_arguments known.2 (out-SchemeTree d.scheme.body)) h in
    record {
      datatype = eqb-true d.of known.1 (both (is_name names known.0 d.name) (d.of == known.1) two.first).second;
      arguments = arguments-at known.2 (out-SchemeTree d.scheme.body) two.second;
    }

cons-begun : (p : Program) → begins (is_known_con p.names) known_cons p.cons ≡ true
unfolding cons_begin
cons-begun p = (both (begins (is_known_con p.names) known_cons p.cons) (list_all is_further (drop (length known_cons) p.cons)) p.cons_first).first

cons-further : (p : Program) → list_all is_further (drop 6 p.cons) ≡ true
unfolding cons_begin
cons-further p = (both (begins (is_known_con p.names) known_cons p.cons) (list_all is_further (drop (length known_cons) p.cons)) p.cons_first).second

-- the constructor of a known number: it is there, and this is its datatype and what it takes
pub record Begun (p : Program) (c of : ℕ) (takes : List SchemeTree) : Type 0 where
  pub con : ConDef
  pub there : slice_get p.cons c ≡ Some con
  pub datatype : con.of ≡ of
  pub arguments : arguments_of (tables_of p) con ≡ takes

full-taken : (p : Program) (k : Arguments) → map (full p.types) (taken k) ≡ taken k
full-taken p Nothing = refl
full-taken p Parameter = ap (λ x. x ∷ []) (full-a p)
full-taken p HeadAndTail = ap (λ x. x ∷ full p.types (list a) ∷ []) (full-a p) ∙ ap (λ x. a ∷ x ∷ []) (full-list p)

begun-at : (p : Program) (c : ℕ) (known : KnownCon) (o : Option ConDef) → slice_get p.cons c ≡ o → IsSomeAnd o (IsKnown known) → Begun p c known.1 (taken known.2)
begun-at p c known None e h = absurd h
begun-at p c known (Some d) e h = record { con = d; there = e; datatype = h.datatype; arguments = ap (map (full p.types)) h.arguments ∙ full-taken p known.2 }

begun : (p : Program) (c : ℕ) (known : KnownCon) → slice_get known_cons c ≡ Some known → Begun p c known.1 (taken known.2)
begun p c known e =
    begun-at p c known (slice_get p.cons c) refl (first_so (is_known_con p.names) IsKnown (known-so p.names) known_cons p.cons c known (cons-begun p) e)

pub nil : (p : Program) → Begun p NIL LIST []
nil p = begun p NIL _ refl

pub cons : (p : Program) → Begun p CONS LIST (a ∷ list a ∷ [])
cons p = begun p CONS _ refl

pub falsehood : (p : Program) → Begun p FALSE BOOL []
falsehood p = begun p FALSE _ refl

pub truth : (p : Program) → Begun p TRUE BOOL []
truth p = begun p TRUE _ refl

pub none-option : (p : Program) → Begun p NONE OPTION []
none-option p = begun p NONE _ refl

pub some-option : (p : Program) → Begun p SOME OPTION (a ∷ [])
some-option p = begun p SOME _ refl

-- ---- what a constructor may belong to

pub passed : {X : Type 0} (test : X → Bool) (xs : List X) (k : ℕ) (x : X) → list_all test xs ≡ true → slice_get xs k ≡ Some x → test x ≡ true
passed test [] k x h e = absurd (cc)
passed {X} test (y ∷ ys) zero x h e =
    let same : y ≡ x = cc in
    subst (λ (z : X). test z ≡ true) same (both (test y) (list_all test ys) h).first
passed test (y ∷ ys) (suc k) x h e = passed test ys k x (both (test y) (list_all test ys) h).second e

passed-past : {X : Type 0} (test : X → Bool) (n : ℕ) (xs : List X) (k : ℕ) (x : X) → list_all test (drop n xs) ≡ true → n ≤ k → slice_get xs k ≡ Some x → test x ≡ true
passed-past test zero xs k x h le e = passed test xs k x h e
passed-past test (suc n) [] k x h le e = absurd (cc)
passed-past test (suc n) (y ∷ ys) zero x h le e = absurd (omega arith)
passed-past test (suc n) (y ∷ ys) (suc k) x h le e = passed-past test n ys k x h (omega arith) e

at-known : (p : Program) (c of : ℕ) (takes : List SchemeTree) (d : ConDef) → Begun p c of takes → slice_get p.cons c ≡ Some d → d.of ≡ of
at-known p c of takes d b e = let there = b.there in let same : b.con ≡ d = cc in ap (λ (x : ConDef). x.of) (sym same) ∙ b.datatype

-- the two constructors of lists, those of the prelude's datatypes, or further ones: so no built-in type but the lists has any
pub of-what : (p : Program) (c : ℕ) (d : ConDef) → slice_get p.cons c ≡ Some d → ((c < 2) × (d.of ≡ LIST)) ⊎ (6 ≤ d.of)
of-what p zero d e = inl (omega arith, at-known p _ _ _ d (nil p) e)
of-what p (suc zero) d e = inl (omega arith, at-known p _ _ _ d (cons p) e)
of-what p (suc (suc zero)) d e = inr (let is : d.of ≡ BOOL = at-known p _ _ _ d (falsehood p) e in omega arith)
of-what p (suc (suc (suc zero))) d e = inr (let is : d.of ≡ BOOL = at-known p _ _ _ d (truth p) e in omega arith)
of-what p (suc (suc (suc (suc zero)))) d e = inr (let is : d.of ≡ OPTION = at-known p _ _ _ d (none-option p) e in omega arith)
of-what p (suc (suc (suc (suc (suc zero))))) d e = inr (let is : d.of ≡ OPTION = at-known p _ _ _ d (some-option p) e in omega arith)
of-what p (suc (suc (suc (suc (suc (suc c)))))) d e =
    inr (let far : 8 ≤ d.of = leb-true 8 d.of (passed-past is_further 6 p.cons (suc (suc (suc (suc (suc (suc c)))))) d (cons-further p) (omega arith) e) in omega arith)
