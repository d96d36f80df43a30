use Rattle.rml_print.specs.Texts.{text_lines}
use Rattle.rml_print.proofs.Lines.{lines-written}
use Rattle.rml_print.proofs.ReadBack.{read-back}
use Rattle.rml_print.proofs.printed.print_tree.Goals as goal

pub returns-clause-layout : goal.returns-clause-layout
returns-clause-layout c = lines-written _ (text_lines c.args.text.now) _ _ _ c.new-page.ensures c.in_ok-print_text.ensures c.finish.ensures

pub returns-clause-reads_back : goal.returns-clause-reads_back
returns-clause-reads_back c = λ number h. read-back number c.args.names.now c.args.text.now _ (returns-clause-layout c) h
