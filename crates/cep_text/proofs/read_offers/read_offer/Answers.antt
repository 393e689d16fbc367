use Rattle.cep_text.proofs.OfferTexts.{offer_some, offer_none}
use Rattle.cep_text.proofs.read_offers.read_offer.Goals as goal

pub returns-in-Ok-clause-some : goal.returns-in-Ok-clause-some
returns-in-Ok-clause-some c = offer_some c.args.vocabulary.now c.args.bytes.now c.in-Ok.offer c.whole_offer.ensures.kept c.in-Ok.ensures.read

pub returns-in-Err-Unread-clause-none : goal.returns-in-Err-Unread-clause-none
returns-in-Err-Unread-clause-none c =
    let unread = rw c.in-Err-Unread.field-0-is at c.in-Err-Unread.ensures.read in
    offer_none c.args.vocabulary.now c.args.bytes.now c.whole_offer.ensures.kept unread
