use Rattle.rml_base.proofs.KnownNames.{name-given, name-bytes, name-known, name-next, name-one, name-old}
use Rattle.rml_base.proofs.laws.numbers_stand.Goals as goal

pub returns-clause-given : goal.returns-clause-given
returns-clause-given c = name-given

pub returns-clause-bytes : goal.returns-clause-bytes
returns-clause-bytes c = name-bytes

pub returns-clause-known : goal.returns-clause-known
returns-clause-known c = name-known

pub returns-clause-next : goal.returns-clause-next
returns-clause-next c = name-next

pub returns-clause-one : goal.returns-clause-one
returns-clause-one c = name-one

pub returns-clause-old : goal.returns-clause-old
returns-clause-old c = name-old
