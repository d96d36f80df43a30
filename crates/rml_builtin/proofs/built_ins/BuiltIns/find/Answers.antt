use Rattle.std.proofs.Common.{◌∙◌}
use Rattle.rml_builtin.proofs.Hashed.{place-named}
use Rattle.rml_builtin.proofs.built_ins.BuiltIns.find.Goals as goal

pub returns-in-Some : goal.returns-in-Some
returns-in-Some c =
    c.in-Some.ensures.index ∙ place-named (λ v. v.items) c.args.self.now.names.keys c.args.name.now c.args.self.now.whole

pub returns-in-None : goal.returns-in-None
returns-in-None c =
    c.in-None.ensures.index ∙ place-named (λ v. v.items) c.args.self.now.names.keys c.args.name.now c.args.self.now.whole
