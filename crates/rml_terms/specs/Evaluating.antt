-- What an expression is worth, put together from what its parts are worth. Evaluating never fails; None is no value.
use Rattle.std.specs.Prelude.{ℕ, zero, suc, List, [], ◌∷◌, length, Option, Some, None, option_map, option_and_then, slice_get}
use Rattle.rml_value.specs.declared.value.Value.{Value}
use Rattle.rml_value.specs.declared.value.Value.TheVariants as value
use Rattle.rml_value.specs.declared.value.TheConstants.{CONS}
use Rattle.rml_terms.specs.Env.{Env}

-- from what the variables stand for
abbrev pub Evaluation : Type 0
Evaluation = Env → Option Value

abbrev pub with_first : {A : Type 0} → Option A → Option (List A) → Option (List A)
with_first None all = None
with_first (Some x) all = option_map (λ rest. x ∷ rest) all

-- the values of expressions
abbrev pub all_of : List Evaluation → Env → Option (List Value)
all_of [] env = Some []
all_of (e ∷ es) env = with_first (e env) (all_of es env)

-- a chain of `::`, whose last item is the tail
abbrev pub chain_of : List Value → Option Value
chain_of [] = None
chain_of (v ∷ []) = Some v
chain_of (v ∷ w ∷ vs) = option_map (λ rest. value.Con CONS (v ∷ rest ∷ [])) (chain_of (w ∷ vs))

-- ---- vals: each is the value of its expression, which names only vals that need it not

-- what an expression is worth, over what the vals are
abbrev pub Meanings : Type 0 → Type 0
Meanings E = (ℕ → Option Value) → E → Evaluation

-- where vals need one another so deep at most
abbrev pub vals_to : {E : Type 0} → Meanings E → List E → ℕ → ℕ → Option Value
vals_to meaning vals zero k = None
vals_to meaning vals (suc depth) k = option_and_then (λ e. meaning (vals_to meaning vals depth) e []) (slice_get vals k)

-- a val needs no more others than there are
abbrev pub vals_of : {E : Type 0} → Meanings E → List E → ℕ → Option Value
vals_of meaning vals = vals_to meaning vals (length vals)
