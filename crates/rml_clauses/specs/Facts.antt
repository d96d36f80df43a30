-- What tables in clause form keep, fact by fact, besides that no run is Wrong.
use Rattle.std.specs.Prelude.{IsTrue, slice_get}
use Rattle.std.specs.List.{list_all}
use Rattle.rml_fol.specs.declared.parts.Parts.{Parts}
use Rattle.rml_fol.specs.Ends.{relation_ends}
use Rattle.rml_fol.specs.Fits.{signatures_of, val_fits, relation_fits, main_fits as takes_the_arguments, cons_begin, con_is_small, names_are_bytes as named_by_bytes}
use Rattle.rml_fol.specs.Gives.{relation_gives}
use Rattle.rml_fol.specs.Scoped.{relation_is_scoped}
use Rattle.rml_fol.specs.Paid.{relation_is_paid}
use Rattle.rml_fol.specs.Size.{relation_is_small, is_light}

-- each is a test, under the name that it has in a program in clause form
pub record KeepsFacts (q : Parts) : Type 0 where
  pub names_are_bytes : IsTrue (named_by_bytes q)
  pub cons_first : IsTrue (cons_begin q.cons)
  pub cons_small : IsTrue (list_all con_is_small q.cons)
  pub vals_fit : IsTrue (list_all (val_fits (signatures_of q)) q.vals)
  pub relations_fit : IsTrue (list_all (relation_fits (signatures_of q)) q.rels)
  pub main_fits : IsTrue (takes_the_arguments q.gives (slice_get (signatures_of q).rels q.main))
  pub relations_scoped : IsTrue (list_all relation_is_scoped q.rels)
  pub blocks_end : IsTrue (list_all relation_ends q.rels)
  pub gives_fit : IsTrue (list_all relation_gives q.rels)
  pub relations_paid : IsTrue (list_all relation_is_paid q.rels)
  pub relations_small : IsTrue (list_all relation_is_small q.rels)
  pub light : IsTrue (is_light q)
