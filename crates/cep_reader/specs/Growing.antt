-- Private.
-- What the reader keeps of what it has read.
use Rattle.std.specs.Prelude.{ℕ, ◌<◌, ◌+◌, length}
use Rattle.cep_base.specs.declared.limits.TheConstants.{MOST_LOG}
use Rattle.cep_rule.specs.declared.parts.Parts.{Parts}
use Rattle.cep_log.specs.declared.log.Log.{Log}
use Rattle.cep_log.specs.declared.so_far.SoFar.{SoFar}
use Rattle.cep_log.specs.declared.so_far.SoFar.TheVariants.{Nothing, Begun, Height, Whole, Within, Unlisted, Listed, Ended}

-- With so many steps more, the log has fewer than bytes may have lines.
abbrev pub HasRoom : ℕ → Log → Type 0
HasRoom more log = length log.steps + more < MOST_LOG

-- What was read can grow: its steps can be counted, and one that lacks own lines has a rule of the program.
abbrev pub CanGrow : Parts → SoFar → Type 0
CanGrow program Nothing = Unit {0}
CanGrow program (Begun version) = Unit {0}
CanGrow program (Height version height) = Unit {0}
CanGrow program (Whole log) = HasRoom 0 log
CanGrow program (Within log step) = HasRoom 0 log × (step.offer.rule < length program.rules)
CanGrow program (Unlisted log step) = HasRoom 0 log
CanGrow program (Listed log step mid) = HasRoom 1 log
CanGrow program (Ended log end) = Unit {0}
