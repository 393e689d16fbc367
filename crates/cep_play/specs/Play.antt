-- What is due where a program is to be played, by one player or by several in rounds.
use Rattle.std.specs.Prelude.{◌≡◌, ℕ, List, [], ◌∷◌, Option, None, Some}
use Rattle.cep_base.specs.declared.console.Event.{Event}
use Rattle.cep_rule.specs.declared.parts.Parts.{Parts}
use Rattle.cep_lines.specs.declared.end_word.EndWord.{EndWord}
use Rattle.cep_words.specs.declared.options.Options.{Options}
use Rattle.cep_run.specs.declared.settings.Settings.{Settings}
use Rattle.cep_run.specs.Said.{IsSaid}
use Rattle.cep_players.specs.Said.{IsSaidInRounds}
use Rattle.cep_examine.specs.Loading.{OfFile}
use Rattle.cep_play.specs.Command.{settings_of}
use Rattle.cep_play.specs.Outside.{Outside, Due, OfText}
use Rattle.cep_examine.specs.Report.{code_told}

-- A dialogue of the program that ends with the word: of one player, where nothing says how many
-- play, or of so many in rounds.
abbrev pub IsDialogueOf : Option ℕ → Parts → Settings → EndWord → List ℕ → List Event → List ℕ
    → Type 0
IsDialogueOf None program settings word =
    IsSaid program settings (λ turns ending. ending.word ≡ word)
IsDialogueOf (Some players) program settings word = IsSaidInRounds program settings players word

-- such a dialogue with these options for what is to be typed, with the status that tells how it ended
abbrev pub IsDialogueDue : Parts → Options → List (List ℕ) → List ℕ → Due → Type 0
IsDialogueDue program options names come due =
    (word : EndWord)
    × IsDialogueOf options.players program (settings_of program options) word come due.events due.rest
    × (due.code ≡ code_told word) × (due.names ≡ names)

-- this is due where the program in a file is to be played with options
abbrev pub IsPlayDue : List ℕ → Options → Outside → Due → Type 0
IsPlayDue file options outside due =
    OfFile outside.files file (λ text. OfText text (file ∷ []) outside.come
    (λ program. IsDialogueDue program options (file ∷ []) outside.come due) due)
