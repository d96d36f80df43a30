use Rattle.std.proofs.Common.{◌+◌, ◌∷◌, [], None, map, drop, ap}
use Rattle.std.proofs.lemmas.List.{drop_more}
use Rattle.rml_signatures.specs.Definitions.{nothing}
use Rattle.rml_signatures.proofs.Turns.{appended}
use Rattle.rml_signatures.proofs.definitions.undefined.Goals as goal

pub loop-name-preserved : goal.loop-name-preserved
loop-name-preserved c =
    let names = c.args.names.now in
    let i = c.loop-name._name-index in
    appended (map nothing names) c.loop-name.all.items (None ∷ []) (map nothing (drop i names)) (map nothing (drop (i + 1) names)) c.push.new.self.items c.loop-name.invariant
    (ap (map nothing) (drop_more names i 0 c.loop-name-test.true)) c.in_ok-push.ensures.items
