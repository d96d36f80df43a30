-- The value of an expression has the expression's type, as types are read where the program runs.
use Rattle.std.proofs.Common.{◌≡◌, ℕ, List, [], ◌∷◌, map, Option, Some, None, refl, sym, ap, subst, ◌∙◌, arith}
use Rattle.std.specs.Prelude.{option_and_then, option_map, slice_get}
use Rattle.rml_syntax.specs.declared.token.Lit.{Lit}
use Rattle.rml_syntax.specs.declared.token.Lit.TheVariants as literal
use Rattle.rml_types.specs.declared.tree.SchemeTree.{SchemeTree}
use Rattle.rml_types.specs.declared.tree.SchemeTree.TheVariants as tree
use Rattle.rml_types.specs.Schemes.{inst}
use Rattle.rml_value.specs.declared.value.Value.{Value}
use Rattle.rml_value.specs.declared.value.Value.TheVariants as value
use Rattle.rml_value.specs.Lists.{list_of}
use Rattle.rml_builtin.specs.declared.types.TheConstants.{INT, CHAR, STRING, LIST}
use Rattle.rml_builtin.specs.Types.{int, char, string, list}
use Rattle.rml_resolved.specs.declared.program.Program.{Program}
use Rattle.rml_resolved.specs.declared.tables.ConDef.{ConDef}
use Rattle.rml_resolved.specs.declared.tables.ValDef.{ValDef}
use Rattle.rml_resolved.specs.declared.trees.RExp.{RExp, fold-roll-RExp}
use Rattle.rml_resolved.specs.declared.trees.RExp.TheOpen.{RExp-F}
use Rattle.rml_resolved.specs.declared.trees.RExp.TheVariants as exp
use Rattle.rml_resolved.specs.Facts.{tables_of}
use Rattle.rml_terms.specs.Env.{Env}
use Rattle.rml_terms.specs.Evaluating.{Evaluation, with_first, all_of, chain_of}
use Rattle.rml_search.specs.Values.{value_of_lit, value_at, meaning}
use Rattle.rml_typed.specs.Own.{own}
use Rattle.rml_typed.specs.Typed.{Assigned, Uses, HasInstance, type_of_literal, ExpOf, ExpsOf}
use Rattle.rml_typed.specs.Units.{declared}
use Rattle.rml_sound.specs.Full.{full, Reads}
use Rattle.rml_sound.specs.Values.{StoreTypes, ValueHas, ValuesHave}
use Rattle.rml_sound.specs.Safe.{EnvHas}
use Rattle.rml_sound.proofs.Begun.{stands}
use Rattle.rml_sound.proofs.Constructors.{con-reads}
use Rattle.rml_sound.proofs.Listed.{chain-has, chain-read, items-read, list-has, mapped}

-- what a scheme in a table is an instance of
pub scheme-at : {X : Type 0} (body : X → SchemeTree) (o : Option X) (t : SchemeTree) → HasInstance (option_map body o) t → (d : X) × (o ≡ Some d) × (ts : List SchemeTree) × (t ≡ inst ts (body d))
scheme-at body None t h = absurd h
scheme-at body (Some d) t h = (d, refl, h.0, h.1)

first-value : (o : Option Value) (r : Option (List Value)) (vs : List Value) → with_first o r ≡ Some vs → (v : Value) × (ws : List Value) × (o ≡ Some v) × (r ≡ Some ws) × (vs ≡ v ∷ ws)
first-value None r vs h = absurd (cc)
first-value (Some v) None vs h = absurd (cc)
first-value (Some v) (Some ws) vs h = (v, ws, refl, refl, cc)

chained : (o : Option (List Value)) (v : Value) → option_and_then chain_of o ≡ Some v → (vs : List Value) × (o ≡ Some vs) × (chain_of vs ≡ Some v)
chained None v h = absurd (cc)
chained (Some vs) v h = (vs, refl, h)

-- how a text reads the types that stand for no other
module _ (p : Program) (text : ℕ) (reads : SchemeTree → SchemeTree) (r : Reads p.types text reads) where
  pub int-read : reads int ≡ int
  int-read = r.named INT [] (stands p INT (omega arith))

  pub char-read : reads char ≡ char
  char-read = r.named CHAR [] (stands p CHAR (omega arith))

  pub string-read : reads string ≡ string
  string-read = r.named STRING [] (stands p STRING (omega arith))

  pub list-read : (t : SchemeTree) → reads (list t) ≡ list (reads t)
  list-read t = r.named LIST (t ∷ []) (stands p LIST (omega arith))

-- each val has the types of its scheme, where it has a value
abbrev pub ValsHave : Program → (ℕ → Option Value) → Type 0
ValsHave p vals = (S : StoreTypes) (k : ℕ) (v : Value) (def : ValDef) (ts : List SchemeTree) → vals k ≡ Some v → slice_get p.vals k ≡ Some def
    → ValueHas (tables_of p) S v (inst ts (full p.types def.scheme.body))

-- the relations that may be used at some types have these, as they are read
abbrev pub UsesHave : Program → (SchemeTree → SchemeTree) → Uses → Type 0
UsesHave p reads uses = (S : StoreTypes) (r : ℕ) (t : SchemeTree) → uses r t → ValueHas (tables_of p) S (value.Rel r) (reads t)

module _ (p : Program) (text : ℕ) (reads : SchemeTree → SchemeTree) (r : Reads p.types text reads) (uses : Uses) (used : UsesHave p reads uses) (vals : ℕ → Option Value) (valued : ValsHave p vals)
    (S : StoreTypes) (G : Assigned) (env : Env) (bound : EnvHas (tables_of p) S reads G env) where
  abbrev Has : Value → SchemeTree → Type 0
  Has v t = ValueHas (tables_of p) S v (reads t)

  abbrev of : RExp → Evaluation
  of = meaning p.names vals

  lit-typed : (l : Lit) (v : Value) → value_of_lit p.names l ≡ Some v → Has v (type_of_literal l)
  lit-typed (literal.Int n) v is = (let same : value.Int n ≡ v = cc in subst (λ (x : Value). Has x int) same (subst (ValueHas (tables_of p) S (value.Int n)) (sym (int-read p text reads r)) (ValueHas.integer n)))
  lit-typed (literal.Char c) v is = (let same : value.Char c ≡ v = cc in subst (λ (x : Value). Has x char) same (subst (ValueHas (tables_of p) S (value.Char c)) (sym (char-read p text reads r)) (ValueHas.character c)))
  lit-typed (literal.Text k) v is =
      let m = mapped value.Text (slice_get p.names k) v is in
      subst (λ (x : Value). Has x string) m.2 (subst (ValueHas (tables_of p) S (value.Text m.0)) (sym (string-read p text reads r)) (ValueHas.text m.0))

  mutual
    pub exp-typed : (e : RExp) (t : SchemeTree) → ExpOf (declared (tables_of p) text) uses G e t → (v : Value) → of e env ≡ Some v → Has v t
    exp-typed e t (ExpOf.lit l) v is = lit-typed l v (ap (λ (m : Evaluation). m env) (sym (ap of (sym (exp.rolls-Lit l)) ∙ fold-roll-RExp Evaluation (value_at p.names vals) (RExp-F.Lit l))) ∙ is)
    exp-typed e t (ExpOf.var x) v is = bound x v (ap (λ (m : Evaluation). m env) (sym (ap of (sym (exp.rolls-Var x)) ∙ fold-roll-RExp Evaluation (value_at p.names vals) (RExp-F.Var x))) ∙ is)
    exp-typed e t (ExpOf.val k u i) v is =
        let there : vals k ≡ Some v = ap (λ (m : Evaluation). m env) (sym (ap of (sym (exp.rolls-Val k)) ∙ fold-roll-RExp Evaluation (value_at p.names vals) (RExp-F.Val k))) ∙ is in
        let s = scheme-at (λ (d : ValDef). own p.types text d.scheme.body) (slice_get p.vals k) u i in
        subst (ValueHas (tables_of p) S v) (sym (ap reads s.3 ∙ r.instance s.2 s.0.scheme.body)) (valued S k v s.0 (map reads s.2) there s.1)
    exp-typed e t (ExpOf.rel k u h) v is =
        let there : Some (value.Rel k) ≡ Some v = ap (λ (m : Evaluation). m env) (sym (ap of (sym (exp.rolls-Rel k)) ∙ fold-roll-RExp Evaluation (value_at p.names vals) (RExp-F.Rel k))) ∙ is in
        let same : value.Rel k ≡ v = cc in
        subst (λ (x : Value). Has x u) same (used S k u h)
    exp-typed e t (ExpOf.con c es ts u i hs) v is =
        let there = ap (λ (m : Evaluation). m env) (sym (ap of (sym (exp.rolls-Con c es)) ∙ fold-roll-RExp Evaluation (value_at p.names vals) (RExp-F.Con c es))) ∙ is in
        let m = mapped (value.Con c) (all_of (map of es) env) v there in
        let s = scheme-at (λ (d : ConDef). own p.types text d.scheme.body) (slice_get p.cons c) (tree.Rel ts (u ∷ [])) i in
        let k = con-reads p c s.0 s.1 text reads r s.2 ts u s.3 in
        subst (λ (x : Value). Has x u) m.2
        (subst (ValueHas (tables_of p) S (value.Con c m.0)) (sym k.1) (ValueHas.con c s.0 m.0 k.0 s.1 (subst (ValuesHave (tables_of p) S m.0) k.2 (exps-typed es ts hs m.0 m.1))))
    exp-typed e t (ExpOf.tuple es ts hs) v is =
        let there = ap (λ (m : Evaluation). m env) (sym (ap of (sym (exp.rolls-Tuple es)) ∙ fold-roll-RExp Evaluation (value_at p.names vals) (RExp-F.Tuple es))) ∙ is in
        let m = mapped value.Tuple (all_of (map of es) env) v there in
        subst (λ (x : Value). Has x (tree.Tuple ts)) m.2 (subst (ValueHas (tables_of p) S (value.Tuple m.0)) (sym (r.tuple ts)) (ValueHas.tuple m.0 (map reads ts) (exps-typed es ts hs m.0 m.1)))
    exp-typed e t (ExpOf.items es ts u are hs) v is =
        let there = ap (λ (m : Evaluation). m env) (sym (ap of (sym (exp.rolls-List es)) ∙ fold-roll-RExp Evaluation (value_at p.names vals) (RExp-F.List es))) ∙ is in
        let m = mapped list_of (all_of (map of es) env) v there in
        subst (λ (x : Value). Has x (list u)) m.2
        (subst (ValueHas (tables_of p) S (list_of m.0)) (sym (list-read p text reads r u)) (list-has p S (reads u) m.0 (map reads ts) (items-read reads u ts are) (exps-typed es ts hs m.0 m.1)))
    exp-typed e t (ExpOf.chain es ts u are hs) v is =
        let there = ap (λ (m : Evaluation). m env) (sym (ap of (sym (exp.rolls-Cons es)) ∙ fold-roll-RExp Evaluation (value_at p.names vals) (RExp-F.Cons es))) ∙ is in
        let m = chained (all_of (map of es) env) v there in
        subst (ValueHas (tables_of p) S v) (sym (list-read p text reads r u))
        (chain-has p S (reads u) m.0 (map reads ts) (chain-read reads u ts (list-read p text reads r u) are) (exps-typed es ts hs m.0 m.1) v m.2)

    pub exps-typed : (es : List RExp) (ts : List SchemeTree) → ExpsOf (declared (tables_of p) text) uses G es ts → (vs : List Value) → all_of (map of es) env ≡ Some vs → ValuesHave (tables_of p) S vs (map reads ts)
    exps-typed es ts ExpsOf.none vs is = (let same : [] ≡ vs = cc in subst (λ (x : List Value). ValuesHave (tables_of p) S x []) same ValuesHave.none)
    exps-typed es ts (ExpsOf.more e t fs us h hs) vs is =
        let f = first-value (of e env) (all_of (map of fs) env) vs is in
        subst (λ (x : List Value). ValuesHave (tables_of p) S x (reads t ∷ map reads us)) (sym f.4)
        (ValuesHave.more f.0 (reads t) f.1 (map reads us) (exp-typed e t h f.0 f.2) (exps-typed fs us hs f.1 f.3))
