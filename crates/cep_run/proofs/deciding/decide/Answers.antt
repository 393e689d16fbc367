use Rattle.std.proofs.Common.{◌++◌, ◌∙◌}
use Rattle.std.proofs.lemmas.Result.{IfOk-weaker, on_err_weaker}
use Rattle.cep_base.proofs.Did.{did_map}
use Rattle.cep_base.proofs.Outcomes.{on_err}
use Rattle.cep_rule.specs.Matching.{offers_of}
use Rattle.cep_lines.specs.Lines.{offer_lines}
use Rattle.cep_run.proofs.Framed.{asks_on, player_on, unasked_on, did_nothing, player_settles, unasked_settles, player_spends, unasked_spends, nobody}
use Rattle.cep_run.proofs.deciding.decide.Goals as goal

pub returns-in_ok-text-clause-settled : goal.returns-in_ok-text-clause-settled
returns-in_ok-text-clause-settled g c =
    let many = rw c.matcher-matcher.ensures.matcher at c.count-offers.ensures in
    let iff = rw (c.stage.ensures, many) at c.is_players.ensures in
    let text = rw c.matcher-matcher.ensures.matcher at (c.bytes.ensures ∙ c.in_ok-text.ensures) in
    IfOk-weaker c.ask.result _ _ (λ choice. did_map g.C.Console.talk g.C.Console.left _ _ _ _ (player_settles c.args.asking.now c.args.program.now c.args.seed c.args.config.now.stage c.args.group _ c.args.spent.now c.ask.new.taken choice (iff.0 c.if-is_players.true))) (rw (many, text) at c.ask.ensures.heard)

pub returns-in_ok-text-clause-spent : goal.returns-in_ok-text-clause-spent
returns-in_ok-text-clause-spent g c = player_spends c.args.seed c.args.config.now.turns c.args.spent.now c.ask.new.taken c.requires.spent c.ask.ensures.within

pub returns-in_ok-text-clause-begun : goal.returns-in_ok-text-clause-begun
returns-in_ok-text-clause-begun g c =
    let many = rw c.matcher-matcher.ensures.matcher at c.count-offers.ensures in
    let iff = rw (c.stage.ensures, many) at c.is_players.ensures in
    let text = rw c.matcher-matcher.ensures.matcher at (c.bytes.ensures ∙ c.in_ok-text.ensures) in
    on_err_weaker c.ask.result (did_map g.C.Console.talk g.C.Console.left _ _ _ _ (player_on c.args.asking.now c.args.program.now c.args.seed c.args.config.now.stage c.args.group _ c.args.spent.now (iff.0 c.if-is_players.true))) (rw (many, text) at c.ask.ensures.begun)

pub returns-in_err-text-clause-begun : goal.returns-in_err-text-clause-begun
returns-in_err-text-clause-begun g c =
    let offers = offers_of (g.M.Matcher.offers_held c.args.config.now.matcher) c.args.group in
    let iff = rw (c.stage.ensures, rw c.matcher-matcher.ensures.matcher at c.count-offers.ensures) at c.is_players.ensures in
    let text = offer_lines c.args.program.now 1 offers ++ c.args.asking.now in
    let begun = did_map g.C.Console.talk g.C.Console.left _ _ _ _ (asks_on text _ c.args.spent.now.taken) (did_nothing g.C.Console.talk g.C.Console.left c.args.console.now text) in
    on_err c.from_residual.result _ (did_map g.C.Console.talk g.C.Console.left _ _ _ _ (player_on c.args.asking.now c.args.program.now c.args.seed c.args.config.now.stage c.args.group offers c.args.spent.now (iff.0 c.if-is_players.true)) begun)

pub returns-in_ok-tell-clause-settled : goal.returns-in_ok-tell-clause-settled
returns-in_ok-tell-clause-settled g c =
    let many = rw c.matcher-matcher.ensures.matcher at c.count-offers.ensures in
    let others = nobody _ _ (rw (c.stage.ensures, many) at c.is_players.ensures) c.if-is_players.false in
    let settles = unasked_settles c.args.asking.now c.args.program.now c.args.seed c.args.config.now.stage c.args.group _ c.args.spent.now c.place.new.self c.place.result _ c.args.config.now.turns many (rw many c.requires.some) c.requires.spent c.place.ensures.lone c.place.ensures.drawn others in
    did_map g.C.Console.talk g.C.Console.left _ _ _ _ settles (rw c.matcher-matcher.ensures.matcher at c.in_ok-tell.ensures.told)

pub returns-in_ok-tell-clause-spent : goal.returns-in_ok-tell-clause-spent
returns-in_ok-tell-clause-spent g c =
    let many = rw c.matcher-matcher.ensures.matcher at c.count-offers.ensures in
    unasked_spends c.args.seed c.args.config.now.turns c.count-offers.result c.place.result c.args.spent.now c.place.new.self (rw many c.requires.some) c.requires.spent c.place.ensures.lone c.place.ensures.drawn

pub returns-in_err-tell-clause-begun : goal.returns-in_err-tell-clause-begun
returns-in_err-tell-clause-begun g c =
    let others = nobody _ _ (rw (c.stage.ensures, rw c.matcher-matcher.ensures.matcher at c.count-offers.ensures) at c.is_players.ensures) c.if-is_players.false in
    on_err c.from_residual-in_err-tell.result _ (did_map g.C.Console.talk g.C.Console.left _ _ _ _ (unasked_on c.args.asking.now c.args.program.now c.args.seed c.args.config.now.stage c.args.group _ c.args.spent.now others c.requires.some) (rw c.matcher-matcher.ensures.matcher at c.in_err-tell.ensures.begun))
