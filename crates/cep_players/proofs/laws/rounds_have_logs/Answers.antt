use Rattle.std.proofs.Common.{◌++◌}
use Rattle.cep_players.proofs.BlockedLines.{start_of, whole_supply, all_done, done_before}
use Rattle.cep_players.proofs.RoundsThere.{run_told}
use Rattle.cep_players.proofs.laws.rounds_have_logs.Goals as goal

pub returns : goal.returns
returns c = λ program settings players come rest parts end word last events kept height said.
    c.deeds_have_legal_logs.ensures.written program settings.height (all_done parts ++ done_before end) last word _ kept height
    (c.rounds_are_deeds.ensures.deeds program settings players (start_of program) last (whole_supply come) said.left parts end word said.run)
    (c.rounds_are_deeds.ensures.quiet program settings players (start_of program) last (whole_supply come) said.left parts end word said.run)
    (run_told program c.lines_are_read_as_written.ensures.numbers (λ offer is. c.lines_are_read_as_written.ensures.offers program offer kept is) settings players come parts end word last events rest said)
