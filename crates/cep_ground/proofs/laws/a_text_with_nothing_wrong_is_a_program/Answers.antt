use Rattle.cep_ground.proofs.OneAnswer.{Laws, spelled, nothing_left}
use Rattle.cep_ground.proofs.laws.a_text_with_nothing_wrong_is_a_program.Goals as goal

pub returns : goal.returns
returns c =
    let laws : Laws = record {
      lexed = c.every_text_is_lexed.ensures;
      parsed = c.all_tokens_are_parsed.ensures;
      declared = c.a_text_in_order_declares.ensures;
      counted = c.clean_parts_are_a_program.ensures.counted;
    } in
    record { right = spelled laws; unrefused = λ text unrefused. spelled laws text (nothing_left text unrefused) }
