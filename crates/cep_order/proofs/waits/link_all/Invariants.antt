use Rattle.std.proofs.Common.{◌≡◌, ℕ, ◌<◌, ◌≤◌, ◌^◌, List, [], ◌∷◌, ◌++◌, length, take}
use Rattle.cep_order.specs.Waits.{AreLinksFor}
use Rattle.cep_order.proofs.waits.link_all.Given as goal

abbrev pub invariant-loop-number : goal.invariant-loop-number
invariant-loop-number l = record {
  few : l.number-index < 2 ^ 32;
  no_more : l.number-index ≤ length l.links.items;
  links : (entries : List (List ℕ)) → length entries ≡ l.step → AreLinksFor entries l.initial.begins l.initial.links.items → AreLinksFor (entries ++ take l.number-index l.numbers ∷ []) l.begins l.links.items;
}
