use Rattle.std.proofs.Common.{◌≡◌, List, [], ◌∷◌, Option, Some, None, ap, sym, ◌∙◌}
use Rattle.rml_value.specs.declared.value.Value.{Value}
use Rattle.rml_value.specs.declared.value.Value.TheVariants as value
use Rattle.rml_value.specs.declared.value.Value.TheVariants.{outs-Vector}
use Rattle.rml_value.specs.Lists.{items_of, list_of}
use Rattle.rml_builtin.specs.Arguments.{vector_at, vector_of}
use Rattle.rml_builtin.specs.Applied.{Store, or_wrong, gives_one}
use Rattle.rml_builtin.specs.declared.applied.Applied.{Applied}
use Rattle.rml_builtin.specs.declared.applied.Applied.TheVariants.{Yes, No, Wrong}
use Rattle.rml_builtin.proofs.Reading.{read-decimal_of}
use Rattle.rml_builtin.proofs.laws.read_back.Goals as goal

abbrev vector_in : List Value → Option (List Value)
vector_in [] = None
vector_in (v ∷ vs) = vector_of v

-- the items of the vector that a built-in gives
abbrev vector_result : Applied → Option (List Value)
vector_result (Yes answer text) = vector_in answer.values
vector_result No = None
vector_result Wrong = None

items-of_vector : (items : Option (List Value)) (vs : List Value) (store : Store)
    → or_wrong items (λ is. gives_one (value.Vector is) store) ≡ gives_one (value.Vector vs) store → items ≡ Some vs
items-of_vector None vs store h = absurd (cc)
items-of_vector (Some is) vs store h = sym (ap vector_at (outs-Vector is)) ∙ ap vector_result h ∙ ap vector_at (outs-Vector vs)

list-of_vector : (vs : List Value) (store : Store) → or_wrong (vector_of (value.Vector vs)) (λ items. gives_one (list_of items) store) ≡ gives_one (list_of vs) store
list-of_vector vs store = ap (λ x. or_wrong (vector_at x) (λ items. gives_one (list_of items) store)) (outs-Vector vs)

pub returns-clause-integers : goal.returns-clause-integers
returns-clause-integers c = read-decimal_of

pub returns-clause-lists : goal.returns-clause-lists
returns-clause-lists c = λ vs store. ap (λ (o : Option (List Value)). or_wrong o (λ items. gives_one (value.Vector items) store)) (c.lists.ensures.made vs)

pub returns-clause-vectors : goal.returns-clause-vectors
returns-clause-vectors c = list-of_vector

pub returns-clause-back : goal.returns-clause-back
returns-clause-back c = λ v vs store h. list-of_vector vs store ∙ ap (λ (w : Value). gives_one w store) (sym (c.lists.ensures.read v vs (items-of_vector (items_of v) vs store h)))
