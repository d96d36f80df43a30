use Rattle.std.proofs.Common.{◌≡◌, ◌∙◌, refl, subst}
use Rattle.rml_outlines.specs.declared.known.Known.{Known}
use Rattle.rml_scopes.specs.Module.{world_of}
use Rattle.rml_signatures.specs.Types.{AreTypes}
use Rattle.rml_faults.specs.Faults.{known}
use Rattle.rml_faults.proofs.set.set_from.Goals as goal

pub returns : goal.returns
unfolding known world_of
returns c =
    let names = c.args.names.now in
    let files = c.args.files.now in
    let texts = c.args.texts.now in
    let is : c.in_ok-known.known ≡ known names files texts = c.in_ok-known.ensures ∙ rw (c.requires.prelude, c.requires.built) refl in
    record {
      prelude = c.requires.prelude;
      main_name = c.requires.main;
      world = (rw (c.in_ok-facts.ensures, is) refl);
      types = subst (λ (k : Known). AreTypes k texts c.in_ok-types.types) is c.in_ok-types.ensures;
      mains = c.in_ok-mains.ensures ∙ rw (c.requires.main, is) refl;
    }
