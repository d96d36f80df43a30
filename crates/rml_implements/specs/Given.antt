-- What cells stand for, all of them together: the words of the crates below, by one name each.
pub use Rattle.rml_prims.specs.Standing.{lvars_in, lvars_from, NoHeads, is_lvar}
