use Rattle.std.proofs.Common.{take, map}
use Rattle.std.specs.Prelude.{string_bytes}
use Rattle.cep_words.proofs.OneRequest.{AreRead}
use Rattle.cep_words.proofs.options.Options.of.Given as goal

abbrev pub invariant-loop-word : goal.invariant-loop-word
invariant-loop-word l = AreRead (map string_bytes (take l.word-index l.words)) l.options
