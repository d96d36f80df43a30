-- What the prelude's tree is made of. All its places are one, which stands before each place of a text. `w` has the numbers of the words.
use Rattle.std.specs.Prelude.{ℕ, List, [], ◌∷◌, None, Some}
use Rattle.rml_base.specs.declared.place.Place.{Place}
use Rattle.rml_syntax.specs.declared.rules.Exp.{Exp}
use Rattle.rml_syntax.specs.declared.rules.Exp.TheVariants as exp
use Rattle.rml_syntax.specs.declared.rules.Goal.{Goal}
use Rattle.rml_syntax.specs.declared.rules.Goal.TheVariants as goal
use Rattle.rml_syntax.specs.declared.rules.Long.{Long}
use Rattle.rml_syntax.specs.declared.rules.Pattern.{Pattern}
use Rattle.rml_syntax.specs.declared.rules.Pattern.TheVariants as pattern
use Rattle.rml_syntax.specs.declared.rules.Rule.{Rule}
use Rattle.rml_syntax.specs.declared.texts.Decl.{Decl}
use Rattle.rml_syntax.specs.declared.texts.Decl.TheVariants as decl
use Rattle.rml_syntax.specs.declared.types.ConBind.{ConBind}
use Rattle.rml_syntax.specs.declared.types.Sig.{Sig}
use Rattle.rml_syntax.specs.declared.types.TypeExp.{TypeExp}
use Rattle.rml_syntax.specs.declared.types.TypeExp.TheVariants as type
use Rattle.rml_syntax.specs.declared.types.TypeHead.{TypeHead}
use Rattle.rml_prelude.specs.Words.{number}
use Rattle.rml_prelude.specs.declared.word.Word.{Word}
use Rattle.rml_prelude.specs.declared.word.Word.TheVariants as word

abbrev pub nowhere : Place
nowhere = record { text = 0; line = 0; column = 0 }

abbrev pub sig : List TypeExp → TypeExp → Sig
sig inputs output = record { inputs = inputs; outputs = output ∷ [] }

module _ (w : List ℕ) where
  abbrev pub long : Word → Long
  long n = record { «module» = None; name = number w n; place = nowhere }

  -- types: a variable, a type without arguments, and lists

  abbrev pub a : TypeExp
  a = type.Var (number w word.TypeA) nowhere

  abbrev pub plain : Word → TypeExp
  plain n = type.App [] (long n ∷ [])

  abbrev pub list_of : TypeExp → TypeExp
  list_of t = type.App (t ∷ []) (long word.List ∷ [])

  abbrev pub list_of_a : TypeExp
  list_of_a = list_of a

  -- patterns, expressions and premises

  abbrev pub name : Word → Pattern
  name n = pattern.Name (long n)

  abbrev pub value : Word → Exp
  value n = exp.Name (long n)

  abbrev pub call : Word → List Exp → Pattern → Goal
  call f inputs output = goal.Call (long f) inputs (output ∷ [])

  -- a rule of a relation, with the count of its tokens
  abbrev pub rule : Word → List Pattern → List Goal → List Exp → ℕ → Rule
  rule f inputs goals results tokens = record {
    place = nowhere;
    head = number w f;
    head_place = nowhere;
    inputs = inputs;
    goals = goals;
    results = results;
    tokens = tokens;
  }

  -- declarations: the head of a datatype, a constructor, a relation in the interface, and one in the body

  abbrev pub head : List ℕ → Word → TypeHead
  head vars n = record { vars = vars; name = number w n; place = nowhere }

  abbrev pub con : Word → List TypeExp → ConBind
  con n parts = record { name = number w n; place = nowhere; parts = parts }

  abbrev pub declared : Word → List TypeExp → TypeExp → Decl
  declared f inputs output = decl.Relation (number w f) nowhere (Some (sig inputs output)) []

  abbrev pub defined : Word → List Rule → Decl
  defined f rules = decl.Relation (number w f) nowhere None rules
