use Rattle.std.proofs.Common.{◌≡◌, map, drop}
use Rattle.rml_scopes.specs.Steps.{joined}
use Rattle.rml_named.specs.Uses.{decl_uses}
use Rattle.rml_named.specs.Gathered.{gather_each}
use Rattle.rml_named.proofs.texts.decls.Given as goal

abbrev pub invariant-loop-item : goal.invariant-loop-item
invariant-loop-item l =
    gather_each l.world l.values l.fn.gathering (joined (map decl_uses l.trees)) ≡ gather_each l.world l.values l.gathering (joined (map decl_uses (drop l.item-index l.trees)))
