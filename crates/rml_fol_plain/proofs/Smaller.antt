-- What is left of a block, and what is named, are smaller with each statement.
use Rattle.std.proofs.Common.{◌≡◌, ◌≤◌, ◌<◌, ◌+◌, ℕ, List, [], ◌∷◌, ◌++◌, length, get_or, drop, sym, ap, ◌∙◌, arith}
use Rattle.std.proofs.lemmas.List.Sums.{sum-map, sum_by-drop_more, sum_by_push}
use Rattle.rml_fol.specs.declared.statements.Stmt.{Stmt, fold-roll-Stmt}
use Rattle.rml_fol.specs.declared.statements.Stmt.TheVariants as stmt
use Rattle.rml_fol.specs.declared.statements.Stmt.TheVariants.{rolls-Body}
use Rattle.rml_fol.specs.declared.statements.Stmt.TheOpen.{Stmt-F}
use Rattle.rml_fol.specs.Size.{size, size_at, alternative_size_at, case_size_at}
use Rattle.rml_fol_plain.specs.declared.named.Named.{Named}
use Rattle.rml_fol_plain.specs.Sizes.{stmts_size, named_size, bodies_size}

size_of_body : (j : ℕ) (xs : List ℕ) (b : List Stmt) → size (stmt.Body j xs b) ≡ 1 + stmts_size b
size_of_body j xs b = ap size (sym (rolls-Body j xs b)) ∙ fold-roll-Stmt ℕ ℕ ℕ size_at alternative_size_at case_size_at (Stmt-F.Body j xs b) ∙ ap (λ n. 1 + n) (sum-map size b)

module _ (stmts : List Stmt) (i : ℕ) (s : Stmt) (inside : i < length stmts) (is : s ≡ get_or stmts i s) where
  left : stmts_size (drop i stmts) ≡ size s + stmts_size (drop (i + 1) stmts)
  left = sum_by-drop_more size stmts i s inside ∙ ap (λ (x : Stmt). size x + stmts_size (drop (i + 1) stmts)) (sym is)

  -- a statement more is run
  pub less_is_left : (bodies : List Named) (most : ℕ) → stmts_size (drop i stmts) + bodies_size bodies ≤ most → stmts_size (drop (i + 1) stmts) + bodies_size bodies ≤ most
  less_is_left bodies most small = omega (arith, small, left)

  -- a body more is named
  pub named_is_left : (bodies more : List Named) (b : Named) (j : ℕ) (xs : List ℕ) (inner : List Stmt) (most : ℕ) → s ≡ stmt.Body j xs inner → more ≡ bodies ++ b ∷ [] → b.block.now ≡ inner
      → stmts_size (drop i stmts) + bodies_size bodies ≤ most → stmts_size (drop (i + 1) stmts) + bodies_size more ≤ most
  named_is_left bodies more b j xs inner most body pushed inner_is small =
      let whole : size s ≡ 1 + stmts_size inner = ap size body ∙ size_of_body j xs inner in
      let named : bodies_size more ≡ bodies_size bodies + named_size b = ap bodies_size pushed ∙ sum_by_push named_size bodies b in
      let part : named_size b ≡ stmts_size inner = ap stmts_size inner_is in
      omega (arith, small, left, whole, named, part)

-- one of the bodies that are named is let go
pub fewer_bodies : (bodies before : List Named) (b : Named) (most : ℕ) → bodies ≡ before ++ b ∷ [] → bodies_size bodies ≤ most → bodies_size before ≤ most
fewer_bodies bodies before b most popped small =
    let more : bodies_size bodies ≡ bodies_size before + named_size b = ap bodies_size popped ∙ sum_by_push named_size before b in
    omega (arith, small, more)
