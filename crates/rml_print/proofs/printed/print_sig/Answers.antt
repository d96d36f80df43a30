use Rattle.rml_print.specs.Types.{sig_tokens}
use Rattle.rml_print.proofs.Lines.{tokens-written}
use Rattle.rml_print.proofs.printed.print_sig.Goals as goal

pub returns : goal.returns
returns c = tokens-written _ (sig_tokens c.args.sig.now) _ _ _ c.new-page.ensures c.in_ok-print_signature.ensures c.finish.ensures
