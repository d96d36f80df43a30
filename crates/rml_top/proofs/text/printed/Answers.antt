use Rattle.std.proofs.Common.{◌∙◌, sym, ap}
use Rattle.std.specs.Prelude.{flat_map}
use Rattle.std.specs.List.{list_all}
use Rattle.rml_lex.specs.Character.{unescaped}
use Rattle.rml_top.specs.FirstForm.{spelled}
use Rattle.rml_top.specs.Text.{is_simple}
use Rattle.rml_top.proofs.Printing.{all-spelled, no-form, not-simple}
use Rattle.rml_top.proofs.text.printed.Goals as goal

pub returns-in_default-clause-only : goal.returns-in_default-clause-only
returns-in_default-clause-only c = let none = rw c.in_default.is at c.in_ok-tokens.ensures.only in λ text t. none t.tokens t.has_tokens

pub returns-in_default-2-clause-only : goal.returns-in_default-2-clause-only
returns-in_default-2-clause-only c =
    let there = rw c.in-Some.is at c.in_ok-tokens.ensures.found in
    let none = rw (c.in_default-2.is, c.as_slice.ensures.value) at c.in_ok-literals.ensures.only in
    no-form c.args.bytes.now (spelled c.in-Some.tokens.items) there none

pub returns-then-are_simple-clause-found : goal.returns-then-are_simple-clause-found
returns-then-are_simple-clause-found c =
    let there = rw c.in-Some.is at c.in_ok-tokens.ensures.found in
    let form = rw (c.in-Some-2.is, c.as_slice.ensures.value) at c.in_ok-literals.ensures.found in
    record {
      short = c.requires;
      tokens = spelled c.in-Some.tokens.items;
      literals = spelled c.in-Some-2.literals.items;
      has_tokens = there;
      form = form;
      simple = sym (all-spelled c.in-Some-2.literals.items) ∙ ap (λ ls. list_all (λ l. is_simple l.now) ls) (sym c.as_slice-2.ensures.value) ∙ sym c.are_simple.ensures ∙ c.if-are_simple.true;
      prints = c.in_ok-joined.ensures ∙ ap (λ ls. flat_map unescaped (spelled ls)) c.as_slice-then-are_simple.ensures.value;
    }

pub returns-clause-only : goal.returns-clause-only
returns-clause-only c =
    let there = rw c.in-Some.is at c.in_ok-tokens.ensures.found in
    let form = rw (c.in-Some-2.is, c.as_slice.ensures.value) at c.in_ok-literals.ensures.found in
    not-simple c.args.bytes.now (spelled c.in-Some.tokens.items) (spelled c.in-Some-2.literals.items) there form (sym (all-spelled c.in-Some-2.literals.items) ∙ ap (λ ls. list_all (λ l. is_simple l.now) ls) (sym c.as_slice-2.ensures.value) ∙ sym c.are_simple.ensures ∙ c.if-are_simple.false)
