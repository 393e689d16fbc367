-- The reasons why a text is refused.
use Rattle.std.specs.Prelude.{ℕ, List, codes}
use Rattle.cep_refusal.specs.declared.reason.Reason.{Reason}
use Rattle.cep_refusal.specs.declared.reason.Reason.TheVariants.{BadByte, NameLong, Unexpected, Nested, Twice, Unknown, WrongKind, WrongArity, TypeClash, VarInContext, BwdInState, LinearInClause, BadQui, NoTrace, TwoTraces, Unbound, Ungrounded, OverLimit, TooLong}

-- the number of a reason
abbrev pub number : Reason → ℕ
number BadByte = 1
number NameLong = 2
number Unexpected = 3
number Nested = 4
number Twice = 5
number Unknown = 6
number WrongKind = 7
number WrongArity = 8
number TypeClash = 9
number VarInContext = 10
number BwdInState = 11
number LinearInClause = 12
number BadQui = 13
number NoTrace = 14
number TwoTraces = 15
number Unbound = 16
number Ungrounded = 17
number OverLimit = 18
number TooLong = 19

-- its name
abbrev pub reason_name : Reason → List ℕ
reason_name BadByte = codes "BadByte"
reason_name NameLong = codes "NameLong"
reason_name Unexpected = codes "Unexpected"
reason_name Nested = codes "Nested"
reason_name Twice = codes "Twice"
reason_name Unknown = codes "Unknown"
reason_name WrongKind = codes "WrongKind"
reason_name WrongArity = codes "WrongArity"
reason_name TypeClash = codes "TypeClash"
reason_name VarInContext = codes "VarInContext"
reason_name BwdInState = codes "BwdInState"
reason_name LinearInClause = codes "LinearInClause"
reason_name BadQui = codes "BadQui"
reason_name NoTrace = codes "NoTrace"
reason_name TwoTraces = codes "TwoTraces"
reason_name Unbound = codes "Unbound"
reason_name Ungrounded = codes "Ungrounded"
reason_name OverLimit = codes "OverLimit"
reason_name TooLong = codes "TooLong"

-- the phase in which a text is judged for it
abbrev pub phase : Reason → ℕ
phase TooLong = 1
phase BadByte = 2
phase NameLong = 2
phase Unexpected = 3
phase Nested = 3
phase Twice = 4
phase Unknown = 4
phase WrongKind = 4
phase WrongArity = 4
phase VarInContext = 4
phase BwdInState = 4
phase LinearInClause = 4
phase BadQui = 4
phase NoTrace = 4
phase TwoTraces = 4
phase OverLimit = 4
phase TypeClash = 5
phase Unbound = 6
phase Ungrounded = 7
