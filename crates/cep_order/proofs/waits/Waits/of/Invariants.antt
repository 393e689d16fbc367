use Rattle.std.proofs.Common.{◌≡◌, length, map, take}
use Rattle.cep_order.specs.Waits.{all_entries, AreLinksFor}
use Rattle.cep_order.proofs.waits.Waits.of.Given as goal

abbrev pub invariant-loop-step : goal.invariant-loop-step
invariant-loop-step l = record {
  links : AreLinksFor (all_entries (take l.step l.causes)) l.begins.items l.links.items;
  long : length l.begins.items ≡ length l.causes;
  left : l.left.items ≡ map length (all_entries (take l.step l.causes));
}
