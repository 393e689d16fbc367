use Rattle.std.proofs.Common.{◌≡◌, ◌∙◌, ap, replicate, false, length}
use Rattle.std.proofs.lemmas.List.{length-replicate}
use Rattle.cep_modes.specs.Places.{holds}
use Rattle.cep_modes.proofs.Deciding.{none_set}
use Rattle.cep_modes.proofs.reach.no_flags.Goals as goal

pub returns : goal.returns
returns c =
    let is : c.in_ok-flags.flags.items ≡ replicate c.args.count false = c.in_ok-flags.ensures.items_if_clones_equal (λ y e. e) in
    record {
      long = ap length is ∙ length-replicate c.args.count false;
      none = λ n. ap (λ flags. holds flags n) is ∙ none_set c.args.count n;
    }
