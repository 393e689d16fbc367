-- What the code's word for a request says.
use Rattle.std.specs.Prelude.{string_bytes}
use Rattle.cep_words.specs.declared.request.Request as code
use Rattle.cep_words.specs.declared.request.Request.TheVariants as asked
use Rattle.cep_words.specs.Words.{Request, Play, Examine, Dead, World}

-- the request itself, with its files by their names' bytes
abbrev pub request_of : code.Request → Request
request_of (asked.Play file options) = Play (string_bytes file.now) options
request_of (asked.Examine task file second) = Examine task (string_bytes file.now) (string_bytes second.now)
request_of (asked.Dead file) = Dead (string_bytes file.now)
request_of (asked.World rooms options) = World rooms options
