use Rattle.std.proofs.Common.{◌≡◌, ℕ, ap, sym, ◌∙◌, subst, arith, rules}
use Rattle.rml_heap.specs.Form.{form_of}
use Rattle.rml_heap.specs.Reading.{cell_at}
use Rattle.rml_code.specs.Seen as seen
use Rattle.rml_code.specs.Seen.{seen_at}
use Rattle.std.specs.Prelude.{Some}
use Rattle.std.specs.Int.{w64}
use Rattle.std.proofs.lemmas.Int.{to_z-of_z}
use Rattle.rml_acts.proofs.Sights.{see-int, see-char, see-con, see-block}
use Rattle.rml_acts.proofs.sight.see.Goals as goal

pub returns-in-0 : goal.returns-in-0
returns-in-0 c = λ s h. see-int c.args.heap.now.values c.args.cell s c.in-0.is h ∙ ap seen.Int (sym (to_z-of_z w64 c.args.cell.number (search rules)))

pub overflow_cast-result : goal.overflow_cast-result
overflow_cast-result c = let r = see-char c.args.heap.now.values c.args.cell c.requires.0 c.in-1.is c.requires.1 in omega (arith, r.small, c.count_of.ensures)

pub returns-in-1 : goal.returns-in-1
returns-in-1 c = λ s h. let r = see-char c.args.heap.now.values c.args.cell s c.in-1.is h in r.is ∙ ap seen.Char (sym c.count_of.ensures)

pub returns-in-4 : goal.returns-in-4
returns-in-4 c = λ s h. see-con c.args.heap.now.values c.args.cell s c.in-4.is h ∙ ap seen.Con (sym c.count_of-in-4.ensures)

pub see_block-requires : goal.see_block-requires
see_block-requires c =
    let r = see-block c.args.heap.now.values c.args.cell c.requires.0 (omega (arith, c.used-used.ensures.used, c.used-used.ensures.within, c.used-used.ensures.limit)) (λ e. omega (arith, e)) (λ e. omega (arith, e)) (λ e. omega (arith, e)) c.requires.1 in
    let P : ℕ → Type 0 = λ n. seen_at c.args.heap.now.values n (form_of (cell_at c.args.heap.now.values n)) ≡ Some c.requires.0 in
    (c.requires.0, subst P (sym c.address_of.ensures) r.seen)

pub returns-in_default : goal.returns-in_default
returns-in_default c = λ s h.
    let r = see-block c.args.heap.now.values c.args.cell s (omega (arith, c.used-used.ensures.used, c.used-used.ensures.within, c.used-used.ensures.limit)) (λ e. omega (arith, e)) (λ e. omega (arith, e)) (λ e. omega (arith, e)) h in
    let P : ℕ → Type 0 = λ n. seen_at c.args.heap.now.values n (form_of (cell_at c.args.heap.now.values n)) ≡ Some s in
    c.see_block.ensures s (subst P (sym c.address_of.ensures) r.seen)
