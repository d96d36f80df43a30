use Rattle.std.proofs.Common.{◌≡◌, map, drop}
use Rattle.rml_terms.specs.Matching.{match_in_turn, match_list, match_chain}
use Rattle.rml_fol.specs.Patterns.{matching}
use Rattle.rml_fol_plain.proofs.matching.+matching.Given as goal

abbrev pub invariant-match_each-loop-i : goal.invariant-match_each-loop-i
invariant-match_each-loop-i l =
    match_in_turn (map matching l.patterns) l.values l.fn.env ≡ match_in_turn (map matching (drop l.i l.patterns)) (drop l.i l.values) l.env

abbrev pub invariant-match_list-loop-pattern : goal.invariant-match_list-loop-pattern
invariant-match_list-loop-pattern l =
    match_list (map matching l.patterns) l.value l.fn.env ≡ match_list (map matching (drop l.pattern-index l.patterns)) l.rest l.env

abbrev pub invariant-match_chain-loop-i : goal.invariant-match_chain-loop-i
invariant-match_chain-loop-i l =
    match_chain (map matching l.patterns) l.value l.fn.env ≡ match_chain (map matching (drop l.i l.patterns)) l.rest l.env
