use Rattle.std.proofs.Common.{◌∙◌, ap, unwrap_or}
use Rattle.std.proofs.lemmas.Result.{IfOk-weaker}
use Rattle.cep_source.proofs.Declaring.{number_among}
use Rattle.cep_types.proofs.variables.variable_number.Goals as goal

pub returns : goal.returns
returns c = IfOk-weaker c.number_at.result _ _ (λ number is. is ∙ c.unwrap_or.ensures ∙ ap (λ n. unwrap_or n 0) (c.number.ensures ∙ number_among c.args.variables.now.firsts c.args.name.now)) c.number_at.ensures
