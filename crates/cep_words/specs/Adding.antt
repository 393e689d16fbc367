-- Private.
-- Options that are given one after another.
use Rattle.std.specs.Prelude.{◌≡◌, ℕ, Option, None, Some, IsSome}
use Rattle.cep_words.specs.declared.run_option.RunOption.{RunOption}
use Rattle.cep_words.specs.declared.run_option.RunOption.TheVariants.{Seed, Height, Turns, Players}
use Rattle.cep_words.specs.declared.options.Options.{Options}

-- what options ask of an option's kind
abbrev pub of_its_kind : Options → RunOption → Option ℕ
of_its_kind options (Seed seed) = options.seed
of_its_kind options (Height levels) = options.height
of_its_kind options (Turns turns) = options.turns
of_its_kind options (Players players) = options.players

-- options of the kind are there already
abbrev pub IsThere : Options → RunOption → Type 0
IsThere options option = IsSome (of_its_kind options option)

-- one more is there than before
abbrev pub AddsOne : Options → RunOption → Options → Type 0
AddsOne options (Seed seed) after = (options.seed ≡ None) × (after ≡ record options { seed = Some seed })
AddsOne options (Height levels) after = (options.height ≡ None) × (after ≡ record options { height = Some levels })
AddsOne options (Turns turns) after = (options.turns ≡ None) × (after ≡ record options { turns = Some turns })
AddsOne options (Players players) after = (options.players ≡ None) × (after ≡ record options { players = Some players })
