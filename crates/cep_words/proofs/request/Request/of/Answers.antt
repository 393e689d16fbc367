use Rattle.std.proofs.Common.{map}
use Rattle.std.specs.Prelude.{string_bytes}
use Rattle.cep_words.specs.Words.{AskFor}
use Rattle.cep_words.specs.Requests.{request_of}
use Rattle.cep_words.proofs.OneRequest.{no_form, none_weaker}
use Rattle.cep_words.proofs.request.Request.of.Goals as goal

pub returns-in-None-to_report_dead : goal.returns-in-None-to_report_dead
returns-in-None-to_report_dead c =
    let words = map string_bytes c.args.words.now in
    none_weaker c.to_run.result _ _ (λ request. AskFor words (request_of request)) (no_form words c.in-None.ensures c.in-None-to_examine.ensures c.in-None-to_do_again.ensures c.in-None-to_report_dead.ensures) c.to_run.ensures
