use Rattle.std.proofs.Common.{◌≡◌, drop, map}
use Rattle.rml_base.specs.Numbering.{same}
use Rattle.rml_resolved.specs.Differ.{all_differ}
use Rattle.rml_checked.proofs.Apart.{is_new}
use Rattle.rml_checked.proofs.names.do_names_differ.Given as goal

abbrev pub invariant-loop-name : goal.invariant-loop-name
invariant-loop-name l = all_differ same l.names ≡ is_new same (map (λ v. v.items) l.met.keys) (drop l.name-index l.names)
