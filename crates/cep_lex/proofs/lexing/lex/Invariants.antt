use Rattle.std.proofs.Common.{◌≤◌, ◌-◌, length, drop}
use Rattle.cep_lex.specs.Cuts.{Cuts}
use Rattle.cep_lex.proofs.lexing.lex.Given as goal

abbrev pub invariant-loop-tokens : goal.invariant-loop-tokens
invariant-loop-tokens l = record {
  within : l.at ≤ length l.text;
  cut : Cuts 0 l.text l.tokens (drop l.at l.text);
}

abbrev pub decreases-loop-tokens : goal.decreases-loop-tokens
decreases-loop-tokens l = length l.text - l.at
