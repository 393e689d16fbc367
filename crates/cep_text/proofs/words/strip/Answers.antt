use Rattle.std.proofs.lemmas.Bool.Decides.{Decides-eqb}
use Rattle.std.proofs.lemmas.Slice.Eq.{strip_prefix_is}
use Rattle.cep_text.proofs.ValuesFound.{literal_is}
use Rattle.cep_text.proofs.words.strip.Goals as goal

pub returns-clause-read : goal.returns-clause-read
returns-clause-read c =
    let word = c.args.word.now in
    let bytes = c.args.bytes.now in
    literal_is word bytes _ (strip_prefix_is Decides-eqb bytes word _ c.strip_prefix.ensures.cases)
