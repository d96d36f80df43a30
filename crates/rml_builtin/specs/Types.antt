-- The built-in types, which are the first in every program's table of types.
use Rattle.std.specs.Prelude.{[], ◌∷◌}
use Rattle.rml_types.specs.declared.tree.SchemeTree.{SchemeTree}
use Rattle.rml_types.specs.declared.tree.SchemeTree.TheVariants as tree
use Rattle.rml_builtin.specs.declared.types.TheConstants.{INT, CHAR, STRING, LIST, LVAR, VECTOR, BOOL, OPTION}

-- the first variable of a scheme
abbrev pub a : SchemeTree
a = tree.Var 0

abbrev pub int : SchemeTree
int = tree.Named INT []

abbrev pub char : SchemeTree
char = tree.Named CHAR []

abbrev pub string : SchemeTree
string = tree.Named STRING []

abbrev pub bool : SchemeTree
bool = tree.Named BOOL []

abbrev pub list : SchemeTree → SchemeTree
list t = tree.Named LIST (t ∷ [])

abbrev pub lvar : SchemeTree → SchemeTree
lvar t = tree.Named LVAR (t ∷ [])

abbrev pub vector : SchemeTree → SchemeTree
vector t = tree.Named VECTOR (t ∷ [])

abbrev pub option : SchemeTree → SchemeTree
option t = tree.Named OPTION (t ∷ [])
