-- From relations to programs.
use Rattle.std.proofs.Common.{◌≡◌, ℕ, ◌≤◌, List, Option, Some, None, refl, sym, ap, ◌∙◌, arith}
use Rattle.std.proofs.Math.Path.{fun_ext}
use Rattle.std.specs.Prelude.{slice_get}
use Rattle.rml_base.specs.Run.{Run, Rest, Answer as Answered, Failure, bare, step, weigh}
use Rattle.rml_base.specs.Light.{Light, NoWrong}
use Rattle.rml_base.specs.Monotone.{IsMonotone}
use Rattle.rml_base.specs.MonotoneLaws.{longer_is_monotone, longer_always}
use Rattle.rml_simulation.specs.declared.partial.Partial.{Partial}
use Rattle.rml_simulation.specs.declared.partial.Partial.TheVariants.{No}
use Rattle.rml_simulation.specs.Partial.{untraced, after, followed}
use Rattle.rml_simulation.specs.Calls.{calls_by_steps}
use Rattle.rml_simulation.specs.Simulates.{Credit, nothing, Simulates}
use Rattle.rml_simulation.specs.Moves.{more_steps, more_weighed, less_steps}
use Rattle.rml_simulation.specs.Carries.{SimulatesAct, kept, acted, CarriesCall}
use Rattle.rml_simulation.proofs.Callers.{both_step, equal, first_simulates, followed_after, followed_step, itself, light, new_step, old_weigh, traced_none, traced_weight}
use Rattle.rml_builtin.specs.declared.applied.Answer.{Answer}
use Rattle.rml_builtin.specs.Called.{Called}
use Rattle.rml_resolved.specs.declared.program.Program.{Program}
use Rattle.rml_resolved.specs.declared.tables.RelDef.{RelDef}
use Rattle.rml_search.specs.Context.{Context}
use Rattle.rml_search.specs.Search.{step_trace, try, relation_body as body_by_rules, relations as relations_by_rules}
use Rattle.rml_search.specs.Whole.{context_of, rules_of, rules_in}
use Rattle.rml_search.specs.Runs as searched
use Rattle.rml_search.proofs.Callers.{steps_to_call as search_is_local}
use Rattle.rml_terms.specs.Calling.{RelationCalls}
use Rattle.rml_terms.specs.Running.{opening, integer_in}
use Rattle.rml_fol.specs.declared.parts.Parts.{Parts}
use Rattle.rml_fol.specs.declared.parts.Relation.{Relation}
use Rattle.rml_fol.specs.Expressions.{Vals, values_of_vals}
use Rattle.rml_fol.specs.Relations.{does_if_there, relation_body, relations}
use Rattle.rml_fol.specs.Runs.{main_called, run_from, runs_of}
use Rattle.rml_fol.proofs.Callers.{steps_to_call}
use Rattle.rml_clause.specs.Carries.{EachCarries, FirstCarries, AreCarried}

-- ---- relations of each number

-- where neither is there, both fail
none_carries : CarriesCall {S = Called} {A = Answer} kept (λ f s n. No untraced n) (λ f s n. No untraced n)
none_carries = record {
  by = λ i olds news below. record {
    at = λ j c k k' h h' le ks hs s.
        equal j c h (λ n. followed {A = Answer} (No untraced n) k h) h' (λ n. followed {A = Answer} (No untraced n) k' h') (λ n. sym (traced_none (h n))) (λ m within. sym (traced_none (h' m))) hs;
  };
}

each_carries : (c : Context) (vals : Vals) (o : Option RelDef) (w : Option Relation) → EachCarries c vals o w
    → CarriesCall kept (λ (f : RelationCalls) s n. try c f (rules_in o) s n) (λ (f : RelationCalls) s n. does_if_there vals f w s n)
each_carries c vals None None h = none_carries
each_carries c vals (Some old) (Some new) h = h
each_carries c vals None (Some new) h = absurd h
each_carries c vals (Some old) None h = absurd h

first_carries : (c : Context) (vals : Vals) (o : Option RelDef) (w : Option Relation) → FirstCarries c vals o w
    → CarriesCall (more_steps 1) (λ (f : RelationCalls) s n. try c f (rules_in o) s n) (λ (f : RelationCalls) s n. does_if_there vals f w s n)
first_carries c vals (Some old) (Some new) h = h
first_carries c vals None w h = absurd h
first_carries c vals (Some old) None h = absurd h

-- ---- runs

always_monotone : (r : Run) → IsMonotone (λ n. r)
always_monotone r = longer_is_monotone (λ n. r) (λ j. longer_always j r)

-- the step that was earned pays for the failure that the end of the run takes
failure_taken : (j : ℕ) (c : Credit) → 1 ≤ c.steps → Simulates j c (λ n. bare Failure) (step (λ n. bare Failure))
failure_taken j c h =
    new_step j c (λ n. bare Failure) (λ n. bare Failure) h (record { text = refl; not_full = λ e. cc }) (λ l lt. itself l (less_steps 1 c) (λ n. bare Failure) (always_monotone (bare Failure)))

answer_given : (j : ℕ) (c : Credit) (a : Answer) → Simulates j c (λ n. bare (Answered (integer_in a.values))) (λ n. bare (Answered (integer_in a.values)))
answer_given j c a = itself j c (λ n. bare (Answered (integer_in a.values))) (always_monotone (bare (Answered (integer_in a.values))))

module _ (p : Program) (q : Parts) (h : AreCarried p q) (args : List (List ℕ)) where
  abbrev vals : Vals
  vals = values_of_vals q.vals

  abbrev context : Context
  context = context_of p

  abbrev answers : Answer → Rest
  answers a n = bare (Answered (integer_in a.values))

  abbrev fails : Rest
  fails n = bare Failure

  abbrev old_main : ℕ → Partial Answer
  old_main = relations_by_rules context (rules_of p.rels) p.main (opening args)

  abbrev new_main : ℕ → Partial Answer
  new_main = relations vals q.rels p.main (opening args)

  main_simulates : (i : ℕ) → SimulatesAct (more_steps 1) i (acted (calls_by_steps (body_by_rules context (rules_of p.rels)) p.main)) (acted (calls_by_steps (relation_body vals q.rels) p.main))
  main_simulates =
      first_simulates (body_by_rules context (rules_of p.rels)) (relation_body vals q.rels) (search_is_local context (rules_of p.rels)) (steps_to_call vals q.rels)
      (λ r. each_carries context vals (slice_get p.rels r) (slice_get q.rels r) (h.each r))
      (more_steps 1) p.main (first_carries context vals (slice_get p.rels p.main) (slice_get q.rels p.main) h.first)

  old_run : (n : ℕ) → step (λ m. weigh context.step_weight (followed (old_main m) answers fails)) n ≡ searched.run_of p args n
  old_run n =
      ap (λ (g : Rest). step g n) (fun_ext (λ m. sym (followed_after (step_trace context.step_weight) (old_main m) answers fails ∙ traced_weight context.step_weight (followed (old_main m) answers fails))))
      ∙ sym (followed_step (λ m. after (step_trace context.step_weight) (old_main m)) answers fails n)

  new_run : (cells n : ℕ) → step (λ m. followed (new_main m) answers (step fails)) n ≡ runs_of q args cells n
  new_run cells n = sym (followed_step new_main answers (step fails) n) ∙ ap (λ (r : ℕ). run_from (main_called vals q.rels r args n)) (sym h.main)

  pub whole : (cells i : ℕ) → Simulates i nothing (searched.runs_of p args cells) (runs_of q args cells)
  whole cells i =
      equal i nothing (step (λ m. weigh context.step_weight (followed (old_main m) answers fails))) (searched.runs_of p args cells)
      (step (λ m. followed (new_main m) answers (step fails))) (runs_of q args cells) old_run (λ m within. new_run cells m)
      (both_step i nothing _ _ (λ j lt. old_weigh j nothing context.step_weight (λ m. followed (old_main m) answers fails) (λ m. followed (new_main m) answers (step fails))
      ((main_simulates j).at j (more_weighed context.step_weight nothing) answers answers fails (step fails) (omega arith)
      (answer_given j (more_steps 1 (more_weighed context.step_weight nothing))) (failure_taken j (more_steps 1 (more_weighed context.step_weight nothing)) (omega arith)) (opening args))))

pub carried_light : (p : Program) (q : Parts) → NoWrong (searched.runs_of p) → AreCarried p q → Light (searched.runs_of p) (runs_of q)
carried_light p q right h = light (searched.runs_of p) (runs_of q) right (λ args cells i bytes. whole p q h args cells i)
