use Rattle.std.proofs.Common.{◌++◌, ◌∷◌, [], Err, length, refl, sym}
use Rattle.rml_equations.specs.declared.stop.Stop.TheVariants as stop
use Rattle.rml_generator.proofs.Making.{chain-within, links-chain, links-no-chain}
use Rattle.rml_generator.proofs.wholes.whole_chain.Goals as goal

pub chain-requires-clause-within : goal.chain-requires-clause-within
chain-requires-clause-within c =
    (chain-within (length c.args.graph.now.forms) c.args.nodes.now c.in-Some.items.now c.in-Some.tail.now c.in-Some.ensures.cases.0 c.requires.within).0

pub chain-requires-clause-tail_within : goal.chain-requires-clause-tail_within
chain-requires-clause-tail_within c =
    (chain-within (length c.args.graph.now.forms) c.args.nodes.now c.in-Some.items.now c.in-Some.tail.now c.in-Some.ensures.cases.0 c.requires.within).1

pub returns-in-Some : goal.returns-in-Some
returns-in-Some c = λ k.
    links-chain k c.args.graph.now c.chain.new.graph c.args.nodes.now (c.in-Some.items.now ++ c.in-Some.tail.now ∷ []) c.chain.result (sym c.in-Some.ensures.cases.0) (c.chain.ensures k)

pub returns-in-None : goal.returns-in-None
returns-in-None c = λ k. links-no-chain k c.args.graph.now c.args.nodes.now (Err stop.Untyped) refl c.in-None.ensures.cases
