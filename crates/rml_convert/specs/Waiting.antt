-- What waits while the pass goes through a relation, of which the last is next: each is a change of what is in hand.
use Rattle.std.specs.Prelude.{ℕ, ◌+◌, ◌*◌, List, [], ◌∷◌, map, sum_by}
use Rattle.rml_fol.specs.declared.terms.Pattern.{Pattern}
use Rattle.rml_fol.specs.declared.statements.Stmt.{Stmt as Clause}
use Rattle.rml_fol.specs.declared.statements.Alternative.{Alternative}
use Rattle.rml_fol.specs.declared.statements.Case.{Case as Choice}
use Rattle.rml_fol.specs.declared.statements.Tag.TheVariants as tag
use Rattle.rml_fol.specs.Size.{pattern_nodes, size, alternative_size, case_size}
use Rattle.rml_cps.specs.declared.statements.Continuation.{Continuation}
use Rattle.rml_convert.specs.declared.waiting.Waiting.{Waiting}
use Rattle.rml_convert.specs.declared.waiting.Waiting.TheVariants as waits
use Rattle.rml_conversion.specs.Hand.{Hand, with_line, tested}
use Rattle.rml_conversion.specs.Patterns.{pattern_made, parts_made, items_made}
use Rattle.rml_conversion.specs.Statements.{in_front, others, cond_rest, cased, with_case, all_cases, switched, switch_rest, named, stmt_made, alternative_made, case_made}

abbrev pub stmts_in_front : List Clause → Continuation → Hand → Hand
stmts_in_front stmts = in_front (map stmt_made stmts)

abbrev pub waiting_made : Waiting → Hand → Hand
waiting_made (waits.Stmts stmts h) at_hand = stmts_in_front stmts.now h at_hand
waiting_made (waits.Line x) at_hand = with_line x at_hand
waiting_made (waits.Test c x h) at_hand = tested (tag.Con c) x h at_hand
waiting_made (waits.Others all h) at_hand = others (map alternative_made all.now) h at_hand
waiting_made (waits.Cond name first second h) at_hand = cond_rest name (map stmt_made first.now) (map stmt_made second.now) h at_hand
waiting_made (waits.Otherwise x all h) at_hand = switch_rest x (map case_made all.now) h at_hand
waiting_made (waits.Cases x one rest h otherwise cases) at_hand =
    switched x otherwise (all_cases (map case_made rest.now) x h (with_case (case_made one.now) x cases.items at_hand))
waiting_made (waits.Named j xs name rest) at_hand = named j xs.now name rest.items at_hand
waiting_made (waits.Whole p x h) at_hand = (pattern_made p.now).whole x h at_hand
waiting_made (waits.Parts all x h) at_hand = parts_made (map pattern_made all.now) x 1 h at_hand
waiting_made (waits.Items all x first h) at_hand = items_made (map pattern_made all.now) x first h at_hand

-- all that waits, the last of it first
abbrev pub all_made : List Waiting → Hand → Hand
all_made [] at_hand = at_hand
all_made (w ∷ ws) at_hand = waiting_made w (all_made ws at_hand)

-- ---- how often something is still taken from what waits: fewer times than this

abbrev pub stmts_work : List Clause → ℕ
stmts_work stmts = 1 + 8 * sum_by size stmts

abbrev pub others_work : List Alternative → ℕ
others_work all = 1 + 8 * sum_by alternative_size all

abbrev pub cases_work : List Choice → ℕ
cases_work all = 1 + 8 * sum_by case_size all

abbrev pub patterns_work : List Pattern → ℕ
patterns_work all = 1 + 8 * sum_by pattern_nodes all

abbrev pub work : Waiting → ℕ
work (waits.Stmts stmts h) = stmts_work stmts.now
work (waits.Line x) = 1
work (waits.Test c x h) = 1
work (waits.Others all h) = others_work all.now
work (waits.Cond name first second h) = 2 + stmts_work first.now + stmts_work second.now
work (waits.Otherwise x all h) = 1 + cases_work all.now
work (waits.Cases x one rest h otherwise cases) = 1 + cases_work rest.now
work (waits.Named j xs name rest) = 1
work (waits.Whole p x h) = 8 * pattern_nodes p.now
work (waits.Parts all x h) = patterns_work all.now
work (waits.Items all x first h) = patterns_work all.now
