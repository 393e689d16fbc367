use Rattle.std.proofs.Common.{take}
use Rattle.cep_parse.specs.Symbols.{symbols_of}
use Rattle.cep_parse.proofs.ParsedOnce.{IsAt}
use Rattle.cep_parse.proofs.parser.parse.Given as goal

abbrev pub invariant-loop-token : goal.invariant-loop-token
invariant-loop-token l = IsAt (take l.token-index (symbols_of l.text l.tokens)) l.items l.state l.depth
