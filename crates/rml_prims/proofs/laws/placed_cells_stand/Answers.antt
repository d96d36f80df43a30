use Rattle.rml_prims.proofs.PlacedCells.{cons-last, cons-stands, text-last, text-stands}
use Rattle.rml_prims.proofs.laws.placed_cells_stand.Goals as goal

pub returns-clause-text : goal.returns-clause-text
returns-clause-text c = text-stands

pub returns-clause-text_last : goal.returns-clause-text_last
returns-clause-text_last c = text-last

pub returns-clause-cons : goal.returns-clause-cons
returns-clause-cons c = cons-stands

pub returns-clause-cons_last : goal.returns-clause-cons_last
returns-clause-cons_last c = cons-last
