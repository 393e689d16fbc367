use Rattle.cep_players.proofs.BlockedLines.{IsPermutation-refl, admitted}
use Rattle.cep_players.proofs.laws.players_are_lawful.Goals as goal

pub returns : goal.returns
returns c = record {
  bags = c.bags_are_lawful.ensures;
  rounds = record {
    lead = c.steps_lead_to_states.ensures;
    needed = λ program. c.what_is_needed_is_there.ensures.contained program;
    heights = λ program state offers flags kept flagged.
        c.rounds_can_be_done_in_every_order.ensures.heights program state (admitted offers flags) (admitted offers flags) kept (c.what_is_admitted_is_there.ensures program state offers flags flagged) (IsPermutation-refl (admitted offers flags));
  };
  heard = c.one_choice_is_heard.ensures.there;
  within = c.one_choice_is_heard.ensures.within;
  runs = c.runs_are_there.ensures;
  can_be_done = c.offers_can_be_done.ensures;
  lead_on = c.questions_lead_on.ensures;
}
