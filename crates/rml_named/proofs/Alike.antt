-- Scopes that are alike as far as values go. All visits of a text tell of values what those of its rules and of the expressions of its vals
-- tell: the other steps are silent, and move nothing that values read.
use Rattle.std.proofs.Common.{◌≡◌, ℕ, Bool, true, false, List, [], ◌∷◌, ◌++◌, map, length, refl, sym, ap, subst, ◌∙◌, append_assoc}
use Rattle.std.specs.Prelude.{◌&&◌, nat_eq, take, Option, None, Some, if◌then◌else◌}
use Rattle.std.specs.List.{flat_map, list_all}
use Rattle.std.proofs.lemmas.List.Folds.{list_all-append}
use Rattle.rml_syntax.specs.declared.rules.Long.{Long}
use Rattle.rml_syntax.specs.declared.texts.Decl.{Decl}
use Rattle.rml_syntax.specs.declared.texts.Decl.TheVariants as decl
use Rattle.rml_syntax.specs.declared.texts.Text.{Text}
use Rattle.rml_syntax.specs.declared.texts.Uses.{Uses}
use Rattle.rml_syntax.specs.declared.types.ConBind.{ConBind}
use Rattle.rml_syntax.specs.declared.types.DataBind.{DataBind}
use Rattle.rml_syntax.specs.declared.types.Sig.{Sig, map-Sig, roll-Sig, fold-roll-Sig, ind-Sig}
use Rattle.rml_syntax.specs.declared.types.TypeExp.{TypeExp, map-TypeExp, roll-TypeExp, fold-roll-TypeExp, ind-TypeExp}
use Rattle.rml_syntax.specs.declared.types.TypeExp.TheOpen.{TypeExp-F, Sig-F}
use Rattle.rml_syntax.specs.declared.types.TypeHead.{TypeHead}
use Rattle.rml_tables.specs.Words.{with_each, with_name}
use Rattle.rml_outlines.specs.declared.entry.TypeKind.TheVariants as kind
use Rattle.rml_outlines.specs.declared.known.Known.{Known}
use Rattle.rml_scopes.specs.declared.role.Role.{Role}
use Rattle.rml_scopes.specs.declared.role.Role.TheVariants as role
use Rattle.rml_scopes.specs.declared.scope.Scope.{Scope}
use Rattle.rml_scopes.specs.declared.world.World.{World}
use Rattle.rml_scopes.specs.Machine.{Visit, after_name, after_step, after_type, after_value, closed, fresh, visits_from}
use Rattle.rml_scopes.specs.Meaning.{binds, meaning, value_by}
use Rattle.rml_scopes.specs.Steps.{Step, abbrev_steps, bind_steps, con_steps, decl_steps, head_step, joined, later_names, rule_steps, sig_at, sig_steps, steps_if, text_steps, type_at, type_names, type_steps, val_exp_steps, with_step}
use Rattle.rml_scopes.specs.Steps as step
use Rattle.rml_values.specs.Meant.{meant, meant_by}
use Rattle.rml_values.specs.declared.values.Values.{Values}
use Rattle.rml_named.specs.Rows.{as_list, row_at, row_of}
use Rattle.rml_named.specs.Uses.{after_steps, decl_uses, is_silent, text_uses}

pub record Alike (s r : Scope) : Type 0 where
  pub text : s.text ≡ r.text
  pub in_body : s.in_body ≡ r.in_body
  pub seen : s.seen ≡ r.seen
  pub bound : s.bound ≡ r.bound
  pub part : s.part ≡ r.part
  pub opened : s.opened ≡ r.opened

pub itself : (s : Scope) → Alike s s
itself s = record { text = refl; in_body = refl; seen = refl; bound = refl; part = refl; opened = refl }

-- what names mean

meaning-by : (k : Known) (s r : Scope) (name : ℕ) (m : Option ℕ) → Alike s r → value_by k s name m ≡ value_by k r name m
meaning-by k s r name None h = let a = h.seen in let b = h.text in rw (a, b) refl
meaning-by k s r name (Some m) h = let a = h.in_body in let b = h.text in rw (a, b) refl

pub meaning_alike : (k : Known) (s r : Scope) (l : Long) → Alike s r → meaning k s l ≡ meaning k r l
unfolding meaning
meaning_alike k s r l h = meaning-by k s r l.name l.«module» h

meant-by : (k : Known) (v : Values) (s r : Scope) (name : ℕ) (m : Option ℕ) → Alike s r → meant_by k v s name m ≡ meant_by k v r name m
meant-by k v s r name None h = let a = h.seen in let b = h.text in rw (a, b) refl
meant-by k v s r name (Some m) h = let a = h.in_body in let b = h.text in rw (a, b) refl

pub meant_alike : (k : Known) (v : Values) (s r : Scope) (l : Long) → Alike s r → meant k v s l ≡ meant k v r l
unfolding meant
meant_alike k v s r l h = meant-by k v s r l.name l.«module» h

pub binds_alike : (k : Known) (s r : Scope) (x : Role) (l : Long) → Alike s r → binds k s x l ≡ binds k r x l
unfolding binds
binds_alike k s r (role.Head n) l h = refl
binds_alike k s r role.Pattern l h = let m = meaning_alike k s r l h in rw m refl
binds_alike k s r role.Variable l h = refl
binds_alike k s r (role.Constructor n) l h = refl
binds_alike k s r role.Value l h = refl
binds_alike k s r role.Callee l h = refl
binds_alike k s r (role.TypeName n) l h = refl

-- steps in scopes that are alike

bound-alike : (s r : Scope) (name : ℕ) (b : Bool) → Alike s r
    → Alike (if b then record s { part = with_name nat_eq s.part name } else s) (if b then record r { part = with_name nat_eq r.part name } else r)
bound-alike s r name true h = record { text = h.text; in_body = h.in_body; seen = h.seen; bound = h.bound; part = ap (λ (p : List ℕ). with_name nat_eq p name) h.part; opened = h.opened }
bound-alike s r name false h = h

name-alike : (w : World) (s r : Scope) (x : Role) (l : Long) → Alike s r → Alike (after_name w s x l) (after_name w r x l)
unfolding after_name
name-alike w s r x l h =
    subst (λ (b : Bool). Alike (if b then record s { part = with_name nat_eq s.part l.name } else s) (if binds w.known r x l then record r { part = with_name nat_eq r.part l.name } else r))
    (sym (binds_alike w.known s r x l h)) (bound-alike s r l.name (binds w.known r x l) h)

closed-alike : (s r : Scope) (o : List ℕ) → Alike s r → Alike (closed s o) (closed r o)
closed-alike s r [] h = h
closed-alike s r (count ∷ o) h = record { text = h.text; in_body = h.in_body; seen = ap (λ (p : List ℕ). take count p) h.seen; bound = h.bound; part = h.part; opened = refl }

part-alike : (s r : Scope) → Alike s r → with_each nat_eq s.seen s.part ≡ with_each nat_eq r.seen r.part
part-alike s r h = let a = h.seen in let b = h.part in rw (a, b) refl

part-bound : (s r : Scope) → Alike s r → with_each nat_eq s.bound s.part ≡ with_each nat_eq r.bound r.part
part-bound s r h = let a = h.bound in let b = h.part in rw (a, b) refl

opened-alike : (s r : Scope) → Alike s r → length s.seen ∷ s.opened ≡ length r.seen ∷ r.opened
opened-alike s r h = let a = h.seen in let b = h.opened in rw (a, b) refl

pub step_alike : (w : World) (s r : Scope) (x : Step) → Alike s r → Alike (after_step w s x) (after_step w r x)
unfolding after_type after_value
step_alike w s r (step.Module name place) h = h
step_alike w s r (step.With file place) h = h
step_alike w s r step.Body h = record { text = h.text; in_body = refl; seen = h.seen; bound = h.bound; part = h.part; opened = h.opened }
step_alike w s r (step.DeclaresType entry twice name place) h = record { text = h.text; in_body = h.in_body; seen = h.seen; bound = h.bound; part = h.part; opened = h.opened }
step_alike w s r (step.DeclaresValue entry typed name place) h = record { text = h.text; in_body = h.in_body; seen = h.seen; bound = h.bound; part = h.part; opened = h.opened }
step_alike w s r (step.Params vars) h = record { text = h.text; in_body = h.in_body; seen = h.seen; bound = h.bound; part = h.part; opened = h.opened }
step_alike w s r step.AnyParams h = record { text = h.text; in_body = h.in_body; seen = h.seen; bound = h.bound; part = h.part; opened = h.opened }
step_alike w s r (step.TypeVariable name place) h = h
step_alike w s r (step.Inside inside) h = record { text = h.text; in_body = h.in_body; seen = h.seen; bound = h.bound; part = h.part; opened = h.opened }
step_alike w s r (step.Name x l) h = name-alike w s r x l h
step_alike w s r step.Begins h = record { text = h.text; in_body = h.in_body; seen = refl; bound = refl; part = refl; opened = refl }
step_alike w s r step.Part h = record { text = h.text; in_body = h.in_body; seen = part-alike s r h; bound = part-bound s r h; part = refl; opened = h.opened }
step_alike w s r step.Enter h = record { text = h.text; in_body = h.in_body; seen = h.seen; bound = h.bound; part = h.part; opened = opened-alike s r h }
step_alike w s r step.Leave h = subst (λ (o : List ℕ). Alike (closed s s.opened) (closed r o)) h.opened (closed-alike s r s.opened h)

type-name : (w : World) (n : ℕ) (s : Scope) (l : Long) → after_name w s (role.TypeName n) l ≡ s
unfolding after_name binds
type-name w n s l = refl

-- a silent step moves nothing that values read
pub silent_alike : (w : World) (s r : Scope) (x : Step) → is_silent x ≡ true → Alike s r → Alike (after_step w s x) r
unfolding after_type after_value
silent_alike w s r (step.Module name place) e h = h
silent_alike w s r (step.With file place) e h = h
silent_alike w s r step.Body e h = absurd cc
silent_alike w s r (step.DeclaresType entry twice name place) e h = record { text = h.text; in_body = h.in_body; seen = h.seen; bound = h.bound; part = h.part; opened = h.opened }
silent_alike w s r (step.DeclaresValue entry typed name place) e h = record { text = h.text; in_body = h.in_body; seen = h.seen; bound = h.bound; part = h.part; opened = h.opened }
silent_alike w s r (step.Params vars) e h = record { text = h.text; in_body = h.in_body; seen = h.seen; bound = h.bound; part = h.part; opened = h.opened }
silent_alike w s r step.AnyParams e h = record { text = h.text; in_body = h.in_body; seen = h.seen; bound = h.bound; part = h.part; opened = h.opened }
silent_alike w s r (step.TypeVariable name place) e h = h
silent_alike w s r (step.Inside inside) e h = record { text = h.text; in_body = h.in_body; seen = h.seen; bound = h.bound; part = h.part; opened = h.opened }
silent_alike w s r (step.Name (role.Head n) l) e h = absurd cc
silent_alike w s r (step.Name role.Pattern l) e h = absurd cc
silent_alike w s r (step.Name role.Variable l) e h = absurd cc
silent_alike w s r (step.Name (role.Constructor n) l) e h = absurd cc
silent_alike w s r (step.Name role.Value l) e h = absurd cc
silent_alike w s r (step.Name role.Callee l) e h = absurd cc
silent_alike w s r (step.Name (role.TypeName n) l) e h = subst (λ (z : Scope). Alike z r) (sym (type-name w n s l)) h
silent_alike w s r step.Begins e h = absurd cc
silent_alike w s r step.Part e h = absurd cc
silent_alike w s r step.Enter e h = absurd cc
silent_alike w s r step.Leave e h = absurd cc

pub steps_over : (w : World) (xs ys : List Step) (s : Scope) → after_steps w s (xs ++ ys) ≡ after_steps w (after_steps w s xs) ys
steps_over w [] ys s = refl
steps_over w (x ∷ xs) ys s = steps_over w xs ys (after_step w s x)

-- the steps of types and of declared names are silent

both : (a b : Bool) → a ≡ true → b ≡ true → (a && b) ≡ true
both true true p q = refl
both true false p q = q
both false b p q = p

first-of : (a b : Bool) → (a && b) ≡ true → a ≡ true
first-of true b h = refl
first-of false b h = h

second-of : (a b : Bool) → (a && b) ≡ true → b ≡ true
second-of true b h = h
second-of false b h = absurd cc

abbrev AllSilent : List Step → Type 0
AllSilent xs = list_all is_silent xs ≡ true

over-silent : (xs ys : List Step) → AllSilent xs → AllSilent ys → AllSilent (xs ++ ys)
over-silent xs ys p q = list_all-append is_silent xs ys ∙ both (list_all is_silent xs) (list_all is_silent ys) p q

each-silent : {T : Type 0} (f : T → List Step) → ((t : T) → AllSilent (f t)) → (ts : List T) → AllSilent (joined (map f ts))
each-silent f silent [] = refl
each-silent f silent (t ∷ ts) = over-silent (f t) (joined (map f ts)) (silent t) (each-silent f silent ts)

parts-silent : {T : Type 0} (f : T → List Step) (ts : List ((t : T) × AllSilent (f t))) → AllSilent (joined (map f (map (λ t. t.0) ts)))
parts-silent f [] = refl
parts-silent f (t ∷ ts) = over-silent (f t.0) (joined (map f (map (λ t. t.0) ts))) t.1 (parts-silent f ts)

later-silent : (ls : List Long) → AllSilent (later_names ls)
later-silent [] = refl
later-silent (l ∷ ls) = later-silent ls

names-silent : (count : ℕ) (ls : List Long) → AllSilent (type_names count ls)
names-silent count [] = refl
names-silent count (l ∷ ls) = later-silent ls

abbrev TypeSilent : TypeExp → Type 0
TypeSilent t = AllSilent (type_steps t)

abbrev SigSilent : Sig → Type 0
SigSilent s = AllSilent (sig_steps s)

abbrev WithType : Type 0
WithType = (t : TypeExp) × TypeSilent t

abbrev WithSig : Type 0
WithSig = (s : Sig) × SigSilent s

type-rolled : (y : TypeExp-F TypeExp Sig) → AllSilent (type_at (map-TypeExp TypeExp Sig (List Step) (List Step) type_steps sig_steps y)) → TypeSilent (roll-TypeExp y)
type-rolled y h = ap (list_all is_silent) (fold-roll-TypeExp (List Step) (List Step) type_at sig_at y) ∙ h

type-layer : (y : TypeExp-F WithType WithSig) → TypeSilent (roll-TypeExp (map-TypeExp WithType WithSig TypeExp Sig (λ t. t.0) (λ s. s.0) y))
type-layer (TypeExp-F.Var v p) = type-rolled (TypeExp-F.Var v p) refl
type-layer (TypeExp-F.App ts ls) =
    type-rolled (TypeExp-F.App (map (λ t. t.0) ts) ls)
    (over-silent (joined (map type_steps (map (λ t. t.0) ts))) (type_names (length (map type_steps (map (λ t. t.0) ts))) ls) (parts-silent type_steps ts) (names-silent (length (map type_steps (map (λ t. t.0) ts))) ls))
type-layer (TypeExp-F.Tuple ts) = type-rolled (TypeExp-F.Tuple (map (λ t. t.0) ts)) (parts-silent type_steps ts)
type-layer (TypeExp-F.Rel s) = type-rolled (TypeExp-F.Rel s.0) s.1

sig-layer : (y : Sig-F WithType WithSig) → SigSilent (roll-Sig (map-Sig WithType WithSig TypeExp Sig (λ t. t.0) (λ s. s.0) y))
sig-layer y =
    let z = map-Sig WithType WithSig TypeExp Sig (λ t. t.0) (λ s. s.0) y in
    ap (list_all is_silent) (fold-roll-Sig (List Step) (List Step) type_at sig_at z)
    ∙ over-silent (joined (map type_steps (map (λ t. t.0) y.inputs))) (joined (map type_steps (map (λ t. t.0) y.outputs))) (parts-silent type_steps y.inputs) (parts-silent type_steps y.outputs)

type-silent : (t : TypeExp) → TypeSilent t
type-silent = ind-TypeExp TypeSilent SigSilent (λ x y is. subst (λ z. TypeSilent (roll-TypeExp z)) is (type-layer y)) (λ x y is. subst (λ z. SigSilent (roll-Sig z)) is (sig-layer y))

sig-silent : (s : Sig) → SigSilent s
sig-silent = ind-Sig TypeSilent SigSilent (λ x y is. subst (λ z. TypeSilent (roll-TypeExp z)) is (type-layer y)) (λ x y is. subst (λ z. SigSilent (roll-Sig z)) is (sig-layer y))

if-silent : {T : Type 0} (f : T → List Step) → ((t : T) → AllSilent (f t)) → (o : Option T) → AllSilent (steps_if f o)
if-silent f silent None = refl
if-silent f silent (Some t) = silent t

con-silent : (c : ConBind) → AllSilent (con_steps c)
con-silent c = over-silent (joined (map type_steps c.parts)) _ (each-silent type_steps type-silent c.parts) refl

bind-silent : (d : DataBind) → AllSilent (bind_steps d)
bind-silent d = over-silent (joined (map con_steps d.cons)) _ (each-silent con_steps con-silent d.cons) refl

abbrev-silent : (h : TypeHead) (t : TypeExp) → AllSilent (abbrev_steps h t)
abbrev-silent h t = over-silent (type_steps t) _ (type-silent t) refl

with-silent : (u : Uses) → AllSilent (with_step u)
with-silent u = refl

-- What is told at the visits of some steps, where scopes that are alike tell the same, and silent steps nothing.
module _ (w : World) {X : Type 0} (g : Scope → Step → List X) (g_same : (s r : Scope) (x : Step) → Alike s r → g s x ≡ g r x) (g_none : (s : Scope) (x : Step) → is_silent x ≡ true → g s x ≡ []) where
  abbrev told : Scope → List Step → List X
  told s xs = flat_map (λ (v : Visit). g v.scope v.step) (visits_from w s xs)

  told-over : (xs ys : List Step) (s : Scope) → told s (xs ++ ys) ≡ told s xs ++ told (after_steps w s xs) ys
  told-over [] ys s = refl
  told-over (x ∷ xs) ys s =
      ap (λ (l : List X). g s x ++ l) (told-over xs ys (after_step w s x)) ∙ sym (append_assoc (g s x) (told (after_step w s x) xs) (told (after_steps w (after_step w s x) xs) ys))

  -- from scopes that are alike, some steps tell what others tell, and lead to scopes that are alike
  abbrev Matches : List Step → List Step → Type 0
  Matches xs ys = (s r : Scope) → Alike s r → (told s xs ≡ told r ys) × Alike (after_steps w s xs) (after_steps w r ys)

  equal : (xs : List Step) → Matches xs xs
  equal [] s r h = (refl, h)
  equal (x ∷ xs) s r h =
      let t = equal xs (after_step w s x) (after_step w r x) (step_alike w s r x h) in
      (ap (λ (l : List X). l ++ told (after_step w s x) xs) (g_same s r x h) ∙ ap (λ (l : List X). g r x ++ l) t.0, t.1)

  quiet : (xs : List Step) → AllSilent xs → Matches xs []
  quiet [] e s r h = (refl, h)
  quiet (x ∷ xs) e s r h =
      let now = first-of (is_silent x) (list_all is_silent xs) e in
      let t = quiet xs (second-of (is_silent x) (list_all is_silent xs) e) (after_step w s x) r (silent_alike w s r x now h) in
      (ap (λ (l : List X). l ++ told (after_step w s x) xs) (g_none s x now) ∙ t.0, t.1)

  in-line : (xs ys us vs : List Step) → Matches xs ys → Matches us vs → Matches (xs ++ us) (ys ++ vs)
  in-line xs ys us vs m n s r h =
      let p = m s r h in
      let q = n (after_steps w s xs) (after_steps w r ys) p.1 in (
        told-over xs us s ∙ ap (λ (l : List X). l ++ told (after_steps w s xs) us) p.0 ∙ ap (λ (l : List X). told r ys ++ l) q.0 ∙ sym (told-over ys vs r),
        subst (λ (z : Scope). Alike z (after_steps w r (ys ++ vs))) (sym (steps_over w xs us s))
            (subst (λ (z : Scope). Alike (after_steps w (after_steps w s xs) us) z) (sym (steps_over w ys vs r)) q.1),
      )

  -- silent steps before others
  behind : (xs ys zs : List Step) → AllSilent xs → Matches ys zs → Matches (xs ++ ys) zs
  behind xs ys zs e m = in-line xs [] ys zs (quiet xs e) m

  -- one silent step behind others
  before : (xs : List Step) (x : Step) → is_silent x ≡ true → Matches (xs ++ x ∷ []) xs
  before [] x e s r h = quiet (x ∷ []) (both (is_silent x) true e refl) s r h
  before (y ∷ ys) x e s r h =
      let t = before ys x e (after_step w s y) (after_step w r y) (step_alike w s r y h) in
      (ap (λ (l : List X). l ++ told (after_step w s y) (ys ++ x ∷ [])) (g_same s r y h) ∙ ap (λ (l : List X). g r y ++ l) t.0, t.1)

  each : {T : Type 0} (f k : T → List Step) → ((t : T) → Matches (f t) (k t)) → (ts : List T) → Matches (joined (map f ts)) (joined (map k ts))
  each f k m [] = equal []
  each f k m (t ∷ ts) = in-line (f t) (k t) (joined (map f ts)) (joined (map k ts)) (m t) (each f k m ts)

  decl-matches : (d : Decl) → Matches (decl_steps d) (decl_uses d)
  decl-matches (decl.Datatype binds) = quiet (joined (map bind_steps binds)) (each-silent bind_steps bind-silent binds)
  decl-matches (decl.Abbrev head t) = quiet (abbrev_steps head t) (abbrev-silent head t)
  decl-matches (decl.Abstype head) = quiet (head_step kind.Abstype head ∷ []) refl
  decl-matches (decl.Val name place t e) = behind (steps_if type_steps t) _ (steps_if val_exp_steps e) (if-silent type_steps type-silent t) (before (steps_if val_exp_steps e) _ refl)
  decl-matches (decl.Relation name place sig rules) =
      behind (steps_if sig_steps sig) _ (joined (map (rule_steps name) rules)) (if-silent sig_steps sig-silent sig)
      (behind (_ ∷ []) (joined (map (rule_steps name) rules)) (joined (map (rule_steps name) rules)) refl (equal (joined (map (rule_steps name) rules))))

  text-matches : (t : Text) → Matches (text_steps t) (text_uses t)
  text-matches t =
      let specs = each decl_steps decl_uses decl-matches t.specs in
      let decls = each decl_steps decl_uses decl-matches t.decls in
      let bodies = behind (joined (map with_step t.body_uses)) (joined (map decl_steps t.decls)) (joined (map decl_uses t.decls)) (each-silent with_step with-silent t.body_uses) decls in
      let after_body = in-line (step.Body ∷ []) (step.Body ∷ []) (joined (map with_step t.body_uses) ++ joined (map decl_steps t.decls)) (joined (map decl_uses t.decls)) (equal (step.Body ∷ [])) bodies in
      let below = in-line (joined (map decl_steps t.specs)) (joined (map decl_uses t.specs)) (step.Body ∷ (joined (map with_step t.body_uses) ++ joined (map decl_steps t.decls))) (step.Body ∷ joined (map decl_uses t.decls)) specs after_body in
      behind (step.Module t.«module» t.place ∷ []) _ (text_uses t) refl (behind (joined (map with_step t.uses)) _ (text_uses t) (each-silent with_step with-silent t.uses) below)

  -- all visits of a text tell what those of its uses tell
  pub text_told : (number : ℕ) (t : Text) → told (fresh number) (text_steps t) ≡ told (fresh number) (text_uses t)
  text_told number t = (text-matches t (fresh number) (fresh number) (itself (fresh number))).0

-- rows

rows-same : (w : World) (v : Values) (s r : Scope) (x : Step) → Alike s r → as_list (row_at w v s x) ≡ as_list (row_at w v r x)
rows-same w v s r (step.Name (role.Head n) l) h = refl
rows-same w v s r (step.Name role.Pattern l) h = refl
rows-same w v s r (step.Name role.Variable l) h = refl
rows-same w v s r (step.Name (role.Constructor n) l) h = refl
rows-same w v s r (step.Name role.Value l) h = ap (λ m. as_list (row_of m)) (meant_alike w.known v s r l h)
rows-same w v s r (step.Name role.Callee l) h = refl
rows-same w v s r (step.Name (role.TypeName n) l) h = refl
rows-same w v s r (step.Module name place) h = refl
rows-same w v s r (step.With file place) h = refl
rows-same w v s r step.Body h = refl
rows-same w v s r (step.DeclaresType entry twice name place) h = refl
rows-same w v s r (step.DeclaresValue entry typed name place) h = refl
rows-same w v s r (step.Params vars) h = refl
rows-same w v s r step.AnyParams h = refl
rows-same w v s r (step.TypeVariable name place) h = refl
rows-same w v s r (step.Inside inside) h = refl
rows-same w v s r step.Begins h = refl
rows-same w v s r step.Part h = refl
rows-same w v s r step.Enter h = refl
rows-same w v s r step.Leave h = refl

rows-none : (w : World) (v : Values) (s : Scope) (x : Step) → is_silent x ≡ true → as_list (row_at w v s x) ≡ []
rows-none w v s (step.Name role.Value l) e = absurd cc
rows-none w v s (step.Name (role.Head n) l) e = refl
rows-none w v s (step.Name role.Pattern l) e = refl
rows-none w v s (step.Name role.Variable l) e = refl
rows-none w v s (step.Name (role.Constructor n) l) e = refl
rows-none w v s (step.Name role.Callee l) e = refl
rows-none w v s (step.Name (role.TypeName n) l) e = refl
rows-none w v s (step.Module name place) e = refl
rows-none w v s (step.With file place) e = refl
rows-none w v s step.Body e = refl
rows-none w v s (step.DeclaresType entry twice name place) e = refl
rows-none w v s (step.DeclaresValue entry typed name place) e = refl
rows-none w v s (step.Params vars) e = refl
rows-none w v s step.AnyParams e = refl
rows-none w v s (step.TypeVariable name place) e = refl
rows-none w v s (step.Inside inside) e = refl
rows-none w v s step.Begins e = refl
rows-none w v s step.Part e = refl
rows-none w v s step.Enter e = refl
rows-none w v s step.Leave e = refl

pub rows_told : (w : World) (v : Values) (number : ℕ) (t : Text)
    → flat_map (λ (x : Visit). as_list (row_at w v x.scope x.step)) (visits_from w (fresh number) (text_steps t)) ≡ flat_map (λ (x : Visit). as_list (row_at w v x.scope x.step)) (visits_from w (fresh number) (text_uses t))
rows_told w v number t = text_told w (λ s x. as_list (row_at w v s x)) (rows-same w v) (rows-none w v) number t
