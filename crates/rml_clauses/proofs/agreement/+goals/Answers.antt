use Rattle.rml_clauses.specs.Agrees.{shapes_of}
use Rattle.rml_clauses.proofs.Counts.{all-told}
use Rattle.rml_clauses.proofs.agreement.+goals.Goals as goal

pub does_goal_agree-returns-in-All : goal.does_goal_agree-returns-in-All
does_goal_agree-returns-in-All t c =
    all-told (shapes_of c.args.rels.now) c.args.goal.now c.in-All.goals c.as_slice.result.now c.do_goals_agree.result c.in-All.is c.as_slice.ensures c.do_goals_agree.ensures
