use Rattle.std.proofs.Common.{◌*◌, take}
use Rattle.rml_base.specs.Numbering.{GrowsBy}
use Rattle.rml_base.specs.declared.limits.TheConstants.{BYTES}
use Rattle.rml_stages.specs.Sources.{contents}
use Rattle.rml_stages.specs.Reading.{AreRead}
use Rattle.rml_stages.proofs.read.read_all.Given as goal

abbrev pub invariant-loop-number : goal.invariant-loop-number
invariant-loop-number l = record {
  read : AreRead 0 (contents (take l.number l.sources)) l.fn.names l.texts.items l.names;
  names : GrowsBy (BYTES * l.number) l.fn.names l.names;
}
