-- What a shelf holds, and what was asked of it.
use Rattle.std.specs.Prelude.{◌≡◌, ℕ, ◌<◌, List, [], ◌∷◌, ◌++◌, length, Option, Some, IfSome, Result, Ok, Err}
use Rattle.std.specs.Option.{option_map, IsSomeAnd}
use Rattle.cep_base.specs.declared.shelf.ShelfFault.{ShelfFault}
use Rattle.cep_base.specs.declared.shelf.ShelfFault.TheVariants.{Memory, Failed, TooLong}
use Rattle.cep_base.specs.Faults.{Rose}

-- a map from the names of files to their bytes
abbrev pub Files : Type 0
Files = List ℕ → Option (List ℕ)

-- if the files are reported, the file has these bytes
abbrev pub HasFile : Option Files → List ℕ → List ℕ → Type 0
HasFile files name bytes = IfSome files (λ file. file name ≡ Some bytes)

-- if the files are reported, the file has more bytes than so many
abbrev pub HasLongerFile : Option Files → List ℕ → ℕ → Type 0
HasLongerFile files name most = IfSome files (λ file. IsSomeAnd (file name) (λ bytes. most < length bytes))

-- If the names asked for are reported, this one was added, except for out of memory.
abbrev pub Asks : {T : Type 0} → Option (List (List ℕ)) → List ℕ → Option (List (List ℕ)) → Result T ShelfFault → Type 0
Asks before name after (Ok value) = after ≡ option_map (λ names. names ++ name ∷ []) before
Asks before name after (Err (Memory error)) = after ≡ before
Asks before name after (Err Failed) = after ≡ option_map (λ names. names ++ name ∷ []) before
Asks before name after (Err TooLong) = after ≡ option_map (λ names. names ++ name ∷ []) before

-- `Failed` is answered only if the count of faults rose, and every other answer leaves it as it was.
abbrev pub ShelfCause : {T : Type 0} → ℕ → ℕ → Result T ShelfFault → Type 0
ShelfCause before after (Ok value) = after ≡ before
ShelfCause before after (Err (Memory error)) = after ≡ before
ShelfCause before after (Err Failed) = Rose before after
ShelfCause before after (Err TooLong) = after ≡ before
