use Rattle.cep_parse.proofs.ParsedOnce.{file_once, ends_early}
use Rattle.cep_parse.proofs.BackItems.{step_back, state_ends}
use Rattle.cep_parse.proofs.Within.{step_within}
use Rattle.cep_parse.proofs.laws.one_raw_file.Goals as goal

pub returns : goal.returns
returns c = let h = step_back in let g = step_within in let k = state_ends in let m = ends_early in file_once
