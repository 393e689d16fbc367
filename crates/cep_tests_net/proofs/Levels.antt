-- The levels of the memory of a rule.
use Rattle.std.proofs.Common.{◌≡◌, ⊎_elim, ℕ, ◌<◌, ◌≤◌, length, Some, sym, subst, arith}
use Rattle.std.specs.Prelude.{slice_get, IsSomeAnd}
use Rattle.std.proofs.lemmas.Option.{slice_get_cases, slice_get_within}
use Rattle.cep_rule.specs.declared.rule.Rule.{Rule}
use Rattle.cep_rule.specs.declared.parts.Parts.{Parts}
use Rattle.cep_beta.specs.Beta.{Beta}
use Rattle.cep_net.specs.declared.net.Net.{Net}
use Rattle.cep_net.specs.Net.{IsNetOf}

-- the memory of a rule has a level for each number of its first premises
pub level_there : (program : Parts) (net : Net) → IsNetOf program net
    → (number level : ℕ) (rule : Rule) → slice_get program.rules number ≡ Some rule → level ≤ length rule.premises → IsSomeAnd (slice_get net.memories number) (λ (memory : Beta). level < length memory.levels)
level_there program net is number level rule numbered low = ⊎_elim
    (λ there.
    let memory = is.up_to_date.matches.are_memories.each number rule there.0 numbered there.2 in
    let levels = memory.is_beta.levels in
    subst (λ o. IsSomeAnd o (λ (m : Beta). level < length m.levels)) (sym there.2) (omega (arith, levels, low)))
    (λ past.
    let long = is.up_to_date.matches.are_memories.as_many in
    let within = slice_get_within program.rules number rule numbered in
    let short = past.0 in
    absurd (omega (arith, long, within, short)))
    (slice_get_cases net.memories number).1
