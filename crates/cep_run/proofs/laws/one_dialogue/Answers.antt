use Rattle.cep_run.proofs.OneDialogue.{one_but_proofs, one_whole}
use Rattle.cep_run.proofs.laws.one_dialogue.Goals as goal

pub returns : goal.returns
returns c = record {
  but_for_proofs = λ program settings. one_but_proofs program settings (c.one_run.ensures program settings);
  to_the_byte = λ program settings. one_whole program settings (c.one_run.ensures program settings);
}
