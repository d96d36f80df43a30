-- A graph with one node more.
use Rattle.std.proofs.Common.{◌≡◌, ℕ, zero, suc, ◌<◌, ◌≤◌, List, [], ◌∷◌, ◌++◌, length, refl, sym, ap, ◌∙◌, arith, get_or, inl, inr, length-append, Option, Some, None, subst, map}
use Rattle.std.specs.Prelude.{slice_index, ◌==◌, true, false, option_and_then}
use Rattle.std.specs.Option.{ForSome}
use Rattle.std.proofs.lemmas.Bool.Decides.{nat_tests}
use Rattle.std.proofs.lemmas.List.{get_or_append_left, get_or_at}
use Rattle.rml_types.specs.declared.form.Form.{Form}
use Rattle.rml_types.specs.Nodes.{Nodes, Fits, root_in, form_of, class_of, with_node}
use Rattle.rml_types.specs.Kept.{IsGraph, MayHave, known_by}
use Rattle.rml_types.specs.declared.tree.SchemeTree.{SchemeTree}
use Rattle.rml_types.specs.Finite.{Adds, built, with_type}
use Rattle.rml_types.specs.Waiting.{Alike, Closed}
use Rattle.rml_types.proofs.Roots.{at-end}

pub data Order (m n : ℕ) : Type 0 where
  Less : m < n → Order m n
  Equal : m ≡ n → Order m n
  More : n < m → Order m n

pub order : (m n : ℕ) → Order m n
order zero zero = Equal refl
order zero (suc n) = Less (omega arith)
order (suc m) zero = More (omega arith)
order (suc m) (suc n) = elim (order m n) [ Less h ↦ Less (omega arith) | Equal e ↦ Equal (ap suc e) | More h ↦ More (omega arith) ]

pub past : {X : Type 0} (xs : List X) (n : ℕ) (d : X) → length xs ≤ n → get_or xs n d ≡ d
past [] n d le = refl
past (x ∷ xs) zero d le = absurd (omega arith)
past (x ∷ xs) (suc n) d le = past xs n d (omega arith)

pub past-one : {X : Type 0} (xs : List X) (y : X) (n : ℕ) (d : X) → length xs < n → get_or (xs ++ y ∷ []) n d ≡ d
past-one xs y n d lt = past (xs ++ y ∷ []) n d (let l = length-append xs (y ∷ []) in omega arith)

-- a further class that is its own changes no class
pub root-grown : (roots : List ℕ) (n : ℕ) → root_in (roots ++ length roots ∷ []) n ≡ root_in roots n
root-grown roots n = elim (order n (length roots)) [
  | Less h ↦ get_or_append_left roots (length roots ∷ []) n n h
  | Equal e ↦ get_or_at roots (length roots) [] n n (sym e) ∙ sym e ∙ sym (past roots n n (omega arith))
  | More h ↦ past-one roots (length roots) n n h ∙ sym (past roots n n (omega arith))
]

abbrev pub shape_of : ℕ → Option Form → Option ℕ
shape_of n None = None
shape_of n (Some f) = Some n

pub none-some : {X A : Type 0} {o : Option X} {x : X} → o ≡ None → o ≡ Some x → A
none-some e q = cc

module _ (g : Nodes) (shapes : List (Option ℕ)) (form : Option Form) (is : IsGraph g shapes) (may : ForSome form (MayHave g)) where
  abbrev new : Nodes
  new = with_node g form

  abbrev more : List (Option ℕ)
  more = shapes ++ shape_of (length g.forms) form ∷ []

  class-same : (n : ℕ) → class_of new n ≡ class_of g n
  class-same n = ap (λ x. root_in (g.roots ++ x ∷ []) n) (sym is.count) ∙ root-grown g.roots n

  form-old : (n : ℕ) → n < length g.forms → form_of new n ≡ form_of g n
  form-old n lt = get_or_append_left g.forms (form ∷ []) None n lt

  form-new : form_of new (length g.forms) ≡ form
  form-new = get_or_at g.forms form [] None (length g.forms) refl

  form-past : (n : ℕ) → length g.forms < n → form_of new n ≡ None
  form-past n lt = past-one g.forms form n None lt

  pub some-within : (n : ℕ) (f : Form) → form_of g n ≡ Some f → n < length g.forms
  some-within n f e = elim (order n (length g.forms)) [
    | Less h ↦ h
    | Equal q ↦ none-some (past g.forms n None (omega arith)) e
    | More h ↦ none-some (past g.forms n None (omega arith)) e
  ]

  length-new : length new.forms ≡ suc (length g.forms)
  length-new = omega (arith, length-append g.forms (form ∷ []))

  shape-old : (c : ℕ) → c < length g.forms → get_or more c None ≡ get_or shapes c None
  shape-old c lt = get_or_append_left shapes (shape_of (length g.forms) form ∷ []) None c (let e = is.shape_count in omega arith)

  shape-new : get_or more (length g.forms) None ≡ shape_of (length g.forms) form
  shape-new = get_or_at shapes (shape_of (length g.forms) form) [] None (length g.forms) is.shape_count

  shape-past : (c : ℕ) → length g.forms < c → get_or more c None ≡ None
  shape-past c lt = past-one shapes (shape_of (length g.forms) form) c None (let e = is.shape_count in omega arith)

  same-known : (o : Option ℕ) → ((s : ℕ) → o ≡ Some s → s < length g.forms) → option_and_then (form_of new) o ≡ option_and_then (form_of g) o
  same-known None h = refl
  same-known (Some s) h = form-old s (h s refl)

  known-old : (c : ℕ) → class_of g c ≡ c → c < length g.forms → known_by new.forms more c ≡ known_by g.forms shapes c
  known-old c own lt = ap (option_and_then (form_of new)) (shape-old c lt) ∙ same-known (get_or shapes c None) (λ s e. (let q = is.shaped c s own e in some-within s q.1.0 q.1.1))

  known-new : (f : Form) → form ≡ Some f → known_by new.forms more (length g.forms) ≡ Some f
  known-new f e = ap (option_and_then (form_of new)) (shape-new ∙ ap (shape_of (length g.forms)) e) ∙ form-new ∙ e

  of-some : (f : Form) → form ≡ Some f → MayHave g f
  of-some f e = let P : Option Form → Type 0 = λ o. ForSome o (MayHave g) in let s : ForSome (Some f) (MayHave g) = subst P e may in s f refl

  fits-new : (n : ℕ) (f : Form) → form_of new n ≡ Some f → Fits f.con (length f.args)
  fits-new n f e = elim (order n (length g.forms)) [
    | Less h ↦ is.fits n f (sym (form-old n h) ∙ e)
    | Equal q ↦ (of-some f (sym form-new ∙ ap (form_of new) (sym q) ∙ e)).fits
    | More h ↦ none-some (form-past n h) e
  ]

  args-new : (n : ℕ) (f : Form) → form_of new n ≡ Some f → (i : ℕ) → i < length f.args → slice_index f.args i < length new.forms
  args-new n f e i lt = let l = length-new in elim (order n (length g.forms)) [
    | Less h ↦ (let w = is.arguments n f (sym (form-old n h) ∙ e) i lt in omega arith)
    | Equal q ↦ (let w = (of-some f (sym form-new ∙ ap (form_of new) (sym q) ∙ e)).within i lt in omega arith)
    | More h ↦ none-some (form-past n h) e
  ]

  rooted-new : (n : ℕ) → n < length new.forms → class_of new n < length new.forms
  rooted-new n lt = let l = length-new in rw (class-same n) (elim (order n (length g.forms)) [
    | Less h ↦ (let w = is.rooted n h in omega arith)
    | Equal q ↦ (let w = past g.roots n n (let k = is.count in omega arith) in omega arith)
    | More h ↦ absurd (omega arith)
  ])

  own-new : (n : ℕ) → class_of new (class_of new n) ≡ class_of new n
  own-new n = ap (class_of new) (class-same n) ∙ class-same (class_of g n) ∙ is.own n ∙ sym (class-same n)

  shaped-by : (o : Option Form) → form ≡ o → (s : ℕ) → shape_of (length g.forms) o ≡ Some s → (length g.forms ≡ s) × ((f : Form) × (form ≡ Some f))
  shaped-by None e s q = none-some refl q
  shaped-by (Some f) e s q = (cc, (f, e))

  shaped-new : (c s : ℕ) → class_of new c ≡ c → get_or more c None ≡ Some s → (class_of new s ≡ c) × ((f : Form) × (form_of new s ≡ Some f))
  shaped-new c s own e = elim (order c (length g.forms)) [
    | Less h ↦ (let q = is.shaped c s (sym (class-same c) ∙ own) (sym (shape-old c h) ∙ e) in (class-same s ∙ q.0, (q.1.0, form-old s (some-within s q.1.0 q.1.1) ∙ q.1.1)))
    | Equal q ↦ (
        let b = shaped-by form refl s (sym (ap (λ x. get_or more x None) q ∙ shape-new) ∙ e) in
        let own : class_of g (length g.forms) ≡ length g.forms = past g.roots (length g.forms) (length g.forms) (let k = is.count in omega arith) in
        (ap (class_of new) (sym b.0) ∙ class-same (length g.forms) ∙ own ∙ sym q, (b.1.0, ap (form_of new) (sym b.0) ∙ form-new ∙ b.1.1)))
    | More h ↦ none-some (shape-past c h) e
  ]

  alike-new : (f k : Form) → Alike (class_of g) f k → Alike (class_of new) f k
  alike-new f k a = record { con = a.con; count = a.count; arguments = λ i lt. class-same (slice_index f.args i) ∙ a.arguments i lt ∙ sym (class-same (slice_index k.args i)) }

  closed-new : new.failed ≡ None → Closed (form_of new) (class_of new) (known_by new.forms more)
  closed-new fine n f e = elim (order n (length g.forms)) [
    | Less h ↦ (let q = is.closed fine n f (sym (form-old n h) ∙ e) in
        (q.0, ap (known_by new.forms more) (class-same n) ∙ known-old (class_of g n) (is.own n) (is.rooted n h) ∙ q.1, alike-new f q.0 q.2))
    | Equal q ↦ (
        let o : form ≡ Some f = sym form-new ∙ ap (form_of new) (sym q) ∙ e in
        let own : class_of g (length g.forms) ≡ length g.forms = past g.roots (length g.forms) (length g.forms) (let k = is.count in omega arith) in
        (f, ap (known_by new.forms more) (ap (class_of new) q ∙ class-same (length g.forms) ∙ own) ∙ known-new f o, record { con = refl; count = refl; arguments = λ i lt. refl }))
    | More h ↦ none-some (form-past n h) e
  ]

  pub grown : IsGraph (with_node g form) (shapes ++ shape_of (length g.forms) form ∷ [])
  grown = record {
    count = (let a = length-append g.roots (length g.forms ∷ []) in let l = length-new in let k = is.count in omega arith);
    shape_count = (let a = length-append shapes (shape_of (length g.forms) form ∷ []) in let l = length-new in let k = is.shape_count in omega arith);
    fits = fits-new;
    arguments = args-new;
    rooted = rooted-new;
    own = own-new;
    shaped = shaped-new;
    closed = closed-new;
  }

  other-type : (types : ℕ → SchemeTree) (t : SchemeTree) (n : ℕ) → (n ≡ length g.forms → ⊥) → with_type types (length g.forms) t n ≡ types n
  other-type types t n ne = let e : (n == length g.forms) ≡ false = grind (arith, nat_tests, ne) in rw e refl

  this-type : (types : ℕ → SchemeTree) (t : SchemeTree) (n : ℕ) → n ≡ length g.forms → with_type types (length g.forms) t n ≡ t
  this-type types t n e = let q : (n == length g.forms) ≡ true = grind (arith, nat_tests) in rw q refl

  map-old : (types : ℕ → SchemeTree) (t : SchemeTree) (args : List ℕ) → ((i : ℕ) → i < length args → slice_index args i < length g.forms) → map (with_type types (length g.forms) t) args ≡ map types args
  map-old types t [] h = refl
  map-old types t (a ∷ args) h = rw (other-type types t a (λ e. (let w = h zero (omega arith) in omega arith)), map-old types t args (λ i lt. h (suc i) (omega arith))) refl

  -- the class of the new node is its own, and no other node's
  alone : (n : ℕ) → class_of g n ≡ length g.forms → n ≡ length g.forms
  alone n e = elim (order n (length g.forms)) [
    | Less h ↦ (let w = is.rooted n h in absurd (omega arith))
    | Equal q ↦ q
    | More h ↦ (let p = past g.roots n n (let k = is.count in omega arith) in absurd (omega arith))
  ]

  pub adds : Adds g (with_node g form) form
  adds = record {
    restricts = λ types h. record {
      forms = λ n f e. h.forms n f (form-old n (some-within n f e) ∙ e);
      classes = λ m n e. h.classes m n (class-same m ∙ e ∙ sym (class-same n));
    };
    extends = λ types t h by. record {
      forms = λ n f e. elim (order n (length g.forms)) [
        | Less lt ↦ (let o = sym (form-old n lt) ∙ e in
            other-type types t n (λ q. omega arith) ∙ h.forms n f o ∙ ap (built f.con) (sym (map-old types t f.args (is.arguments n f o))))
        | Equal q ↦ (let o = sym form-new ∙ ap (form_of new) (sym q) ∙ e in
            this-type types t n q ∙ by f o ∙ ap (built f.con) (sym (map-old types t f.args (of-some f o).within)))
        | More gt ↦ none-some (form-past n gt) e
      ];
      classes = λ m n e. (let c = sym (class-same m) ∙ e ∙ class-same n in elim (at-end m (length g.forms)) [
        | inl q ↦ this-type types t m q ∙ sym (this-type types t n (alone n (sym c ∙ ap (class_of g) q ∙ past g.roots (length g.forms) (length g.forms) (let k = is.count in omega arith))))
        | inr ne ↦ other-type types t m ne ∙ h.classes m n c
            ∙ sym (other-type types t n (λ q. ne (alone m (c ∙ ap (class_of g) q ∙ past g.roots (length g.forms) (length g.forms) (let k = is.count in omega arith)))))
      ]);
    };
  }

  pub grown-as : (forms : List (Option Form)) (roots : List ℕ) (shape : Option ℕ) (all : List (Option ℕ)) → forms ≡ g.forms ++ form ∷ [] → roots ≡ g.roots ++ length g.forms ∷ []
      → all ≡ shapes ++ shape ∷ [] → shape ≡ shape_of (length g.forms) form → IsGraph (record { forms = forms; roots = roots; failed = g.failed }) all
  grown-as forms roots shape all ef er ea es = rw (ef, er, ea, es) grown
