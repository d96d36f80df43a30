-- The notes of limits, with their numbers in decimal.
use Rattle.std.specs.Fmt.{digits}
use Rattle.std.proofs.Common.{◌≡◌, refl}
use Rattle.std.specs.Prelude.{codes}
use Rattle.rml_stages.specs.declared.refusal.Which.TheVariants.{Texts, Arguments, Bytes, Total, Literal, Nesting, Rules}
use Rattle.rml_top.specs.Notes.{limit_note}

pub texts-note : codes "limit texts 64\n" ≡ limit_note Texts
unfolding digits
texts-note = refl

pub arguments-note : codes "limit arguments 64\n" ≡ limit_note Arguments
unfolding digits
arguments-note = refl

pub bytes-note : codes "limit bytes 1048576\n" ≡ limit_note Bytes
unfolding digits
bytes-note = refl

pub total-note : codes "limit total 4194304\n" ≡ limit_note Total
unfolding digits
total-note = refl

pub literal-note : codes "limit literal 65535\n" ≡ limit_note Literal
unfolding digits
literal-note = refl

pub nesting-note : codes "limit nesting 200\n" ≡ limit_note Nesting
unfolding digits
nesting-note = refl

pub rules-note : codes "limit rules 4096\n" ≡ limit_note Rules
unfolding digits
rules-note = refl
