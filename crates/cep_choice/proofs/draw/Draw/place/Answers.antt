use Rattle.std.proofs.Common.{◌∙◌, rules}
use Rattle.cep_choice.proofs.Drawing.{draws}
use Rattle.cep_choice.proofs.draw.Draw.place.Goals as goal

pub returns-clause-drawn : goal.returns-clause-drawn
returns-clause-drawn c = λ several seed drawn is.
    let both = draws seed drawn c.next_word.result c.args.n c.self.inside.generator c.next_word.new.self (c.self.view_is ∙ is) c.next_word.ensures in
    (c.place_by.ensures.place ∙ both.0, both.1)

pub returns-clause-lone : goal.returns-clause-lone
returns-clause-lone c = search rules
