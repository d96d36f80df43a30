-- Closed classes have a solution. Different constructors have none.
use Rattle.std.proofs.Common.{◌≡◌, ℕ, ◌<◌, List, [], ◌∷◌, length, refl, sym, ap, ◌∙◌, Option, Some, None}
use Rattle.std.specs.Prelude.{slice_index, if◌then◌else◌, nat_lt, Bool, true, false}
use borrow.Author.Tests.{ltb-true, lt-ltb}
use Rattle.rml_types.specs.declared.form.TypeCon.{TypeCon}
use Rattle.rml_types.specs.declared.form.Form.{Form}
use Rattle.rml_types.specs.Trees.{Tree, Same, Respects, Joins, SolvesBy}
use Rattle.rml_types.specs.Waiting.{Alike, Closed, below, unfolded}

at-test : {X : Type 0} {x y : X} (z : X) (b : Bool) → (b ≡ true → x ≡ y) → (if b then x else z) ≡ (if b then y else z)
at-test z true h = h refl
at-test z false h = refl

module _ (root : ℕ → ℕ) (known : ℕ → Option Form) where
  pub joins : Joins root (unfolded root known)
  joins m n e path = rw e refl

  one-child : (f g : Form) (i : ℕ) (path : List ℕ) → Alike root f g
      → below root known (Some g) (i ∷ path) ≡ (if nat_lt i (length f.args) then unfolded root known (slice_index f.args i) path else None)
  one-child f g i path a = rw (← a.count) (at-test None (nat_lt i (length f.args)) (λ t. rw (a.arguments i (ltb-true i (length f.args) t)) refl))

  as-form : (f g : Form) (o : Option Form) → o ≡ Some g → Alike root f g
      → (below root known o [] ≡ Some (f.con, length f.args)) × ((i : ℕ) (path : List ℕ) → below root known o (i ∷ path) ≡ (if nat_lt i (length f.args) then unfolded root known (slice_index f.args i) path else None))
  as-form f g o is a = (rw (is, a.con, a.count) refl, λ i path. rw is (one-child f g i path a))

  pub respects : (form : ℕ → Option Form) → Closed form root known → Respects form (unfolded root known)
  respects form closed n f e = let c = closed n f e in as-form f c.0 (known (root n)) c.1 c.2

  -- closed classes have a solution
  pub solves : (form : ℕ → Option Form) → Closed form root known → SolvesBy form root (unfolded root known)
  solves form closed = record { forms = respects form closed; classes = joins }

some-of : {x y : TypeCon × ℕ} → Some x ≡ Some y → x ≡ y
some-of e = cc

-- no tree has two constructors, or two numbers of arguments
pub clash : (form : ℕ → Option Form) (tree : ℕ → Tree) (m n : ℕ) (f g : Form) → Respects form tree → form m ≡ Some f → form n ≡ Some g → Same (tree m) (tree n) → (f.con ≡ g.con) × (length f.args ≡ length g.args)
clash form tree m n f g r ef eg same =
    let e : Some (f.con, length f.args) ≡ Some (g.con, length g.args) = sym (r m f ef).0 ∙ same [] ∙ (r n g eg).0 in
    let p : (f.con, length f.args) ≡ (g.con, length g.args) = some-of e in
    (ap (λ (q : TypeCon × ℕ). q.0) p, ap (λ (q : TypeCon × ℕ). q.1) p)

-- one tree at two nodes is one tree at each argument
pub arguments-same : (form : ℕ → Option Form) (tree : ℕ → Tree) (m n : ℕ) (f g : Form) (i : ℕ) → Respects form tree → form m ≡ Some f → form n ≡ Some g → i < length f.args → i < length g.args → Same (tree m) (tree n) → Same (tree (slice_index f.args i)) (tree (slice_index g.args i))
arguments-same form tree m n f g i r ef eg hf hg same path =
    let a = (r m f ef).1 i path in
    let b = (r n g eg).1 i path in
    let tf : nat_lt i (length f.args) ≡ true = lt-ltb i (length f.args) hf in
    let tg : nat_lt i (length g.args) ≡ true = lt-ltb i (length g.args) hg in
    sym (rw tf at a) ∙ same (i ∷ path) ∙ (rw tg at b)
