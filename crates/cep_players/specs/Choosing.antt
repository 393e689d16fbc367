-- Private.
-- What comes of asking all players.
use Rattle.std.specs.Prelude.{◌≡◌, ℕ, List, Option, Contains, length}
use Rattle.std.specs.List.{AllByRecursion}
use Rattle.cep_base.specs.declared.console.Event.{Event}
use Rattle.cep_base.specs.Talk.{Did}
use Rattle.cep_rule.specs.declared.offer.Offer.{Offer}
use Rattle.cep_run.specs.declared.deciding.Spent.{Spent}
use Rattle.cep_players.specs.declared.choices.Chosen.{Chosen}
use Rattle.cep_players.specs.declared.choices.Chosen.TheVariants.{All, Over}
use Rattle.cep_players.specs.Playing.{AllChoose, OneDoesNot}

-- each of so many players chooses one of the offers, or one does not
abbrev pub IsChoosing : {C : Type 0} → (C → Option (List Event)) → (C → Option (List ℕ)) → C → C
    → ℕ → List Offer → Spent → Spent → Chosen → Type 0
IsChoosing talk left old new players offers spent spent' (All chosen) =
    Did talk left old new (AllChoose players offers chosen spent spent')
IsChoosing talk left old new players offers spent spent' (Over word) =
    Did talk left old new (OneDoesNot players offers word spent spent')

-- if all choose, there are as many offers as players, all of the list, whether it is reported or not
abbrev pub ArePicked : ℕ → List Offer → Chosen → Type 0
ArePicked players offers (All chosen) =
    (length chosen ≡ players) × AllByRecursion (Contains offers) chosen
ArePicked players offers (Over word) = Unit {0}
