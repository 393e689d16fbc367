use Rattle.std.proofs.Common.{of_calls, rules}
use Rattle.cep_infer.proofs.Drafting.{resolved}
use Rattle.cep_infer.proofs.resolving.resolve.Goals as goal

pub returns : goal.returns
returns c = resolved (record { text = c.args.text.now; file = c.args.file.now }) c.in_ok-drafted.drafted c.map_err.result _ (λ fault refusal told. search (of_calls, rules, told)) c.in_ok-drafted.ensures c.map_err.ensures.cases

pub drafted-requires-clause-filled : goal.drafted-requires-clause-filled
drafted-requires-clause-filled c = c.atoms_are_made_of_tokens.ensures.filled _ c.requires.source
