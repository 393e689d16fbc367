use Rattle.std.proofs.Common.{map, subst, refl, sym}
use Rattle.std.specs.Prelude.{string_bytes}
use Rattle.cep_words.specs.Words.{Play, Examine, Dead, World, AskFor}
use Rattle.cep_words.specs.Requests.{request_of}
use Rattle.cep_examine.specs.Exchange.{loaded}
use Rattle.cep_play.proofs.Reported.{adds_none, none_to_play, dead_of, tour_of, report_on, usage_on}
use Rattle.cep_words.specs.declared.request.Request as code
use Rattle.cep_play.proofs.reply.reply_to.Goals as goal

pub returns-in-Ok-clause-replied : goal.returns-in-Ok-clause-replied
returns-in-Ok-clause-replied g c =
    let words = map string_bytes c.args.words.now in
    let options = c.in-Some-Play.options in
    let ask = subst (λ (request : code.Request). AskFor words (request_of request)) c.in-Some-Play.field-0-is c.in-Some-Play.ensures in
    let found = rw c.in-Ok.is at c.in_ok-program-in-Some-Play.ensures.found in
    (record { file = c.as_str.result.now; ask = subst (λ name. AskFor words (Play name options)) (sym c.as_str.ensures.value) ask; is_in = found.0; asked = c.in_ok-program-in-Some-Play.ensures.asked; read = found.1 }, refl)

pub returns-in-Err-clause-replied : goal.returns-in-Err-clause-replied
returns-in-Err-clause-replied g c =
    let words = map string_bytes c.args.words.now in
    let options = c.in-Some-Play.options in
    let ask = subst (λ (request : code.Request). AskFor words (request_of request)) c.in-Some-Play.field-0-is c.in-Some-Play.ensures in
    let loads = loaded g.H.Shelf.files g.H.Shelf.asked g.H.Shelf.faults c.args.shelf.now c.program_in.new.shelf in
    let steps = c.args.steps.now in
    let name = c.as_str.result.now in
    let report = c.in-Err.report in
    report_on words loads steps steps c.one_request.ensures (Play name options) report (subst (λ name. AskFor words (Play name options)) (sym c.as_str.ensures.value) ask)
    (none_to_play loads steps steps report name options c.in_ok-program-in-Some-Play.ensures.asked (rw c.in-Err.is at c.in_ok-program-in-Some-Play.ensures.found))

pub returns-in_ok-report-in-Some-Examine-clause-replied : goal.returns-in_ok-report-in-Some-Examine-clause-replied
returns-in_ok-report-in-Some-Examine-clause-replied g c =
    let words = map string_bytes c.args.words.now in
    let task = c.in-Some-Examine.task in
    let name = c.as_str-in-Some-Examine.result.now in
    let second = c.as_str-in-Some-Examine-2.result.now in
    let ask = subst (λ (request : code.Request). AskFor words (request_of request)) c.in-Some-Examine.field-0-is c.in-Some-Examine.ensures in
    report_on words (loaded g.H.Shelf.files g.H.Shelf.asked g.H.Shelf.faults c.args.shelf.now c.examine.new.shelf) c.args.steps.now c.examine.new.steps c.one_request.ensures (Examine task name second) c.in_ok-report-in-Some-Examine.report
    (subst (λ other. AskFor words (Examine task name other)) (sym c.as_str-in-Some-Examine-2.ensures.value) (subst (λ file. AskFor words (Examine task file (string_bytes c.in-Some-Examine.second.now))) (sym c.as_str-in-Some-Examine.ensures.value) ask))
    c.in_ok-report-in-Some-Examine.ensures.reported

pub returns-in_ok-report-in-Some-Dead-clause-replied : goal.returns-in_ok-report-in-Some-Dead-clause-replied
returns-in_ok-report-in-Some-Dead-clause-replied g c =
    let words = map string_bytes c.args.words.now in
    let steps = c.args.steps.now in
    let name = c.as_str-in-Some-Dead.result.now in
    let ask = subst (λ (request : code.Request). AskFor words (request_of request)) c.in-Some-Dead.field-0-is c.in-Some-Dead.ensures in
    let loads = loaded g.H.Shelf.files g.H.Shelf.asked g.H.Shelf.faults c.args.shelf.now c.report_dead_in.new.shelf in
    let report = c.in_ok-report-in-Some-Dead.report in
    report_on words loads steps steps c.one_request.ensures (Dead name) report (subst (λ file. AskFor words (Dead file)) (sym c.as_str-in-Some-Dead.ensures.value) ask)
    (dead_of loads steps steps report name c.in_ok-report-in-Some-Dead.ensures.asked c.in_ok-report-in-Some-Dead.ensures.reported)

pub returns-in_ok-report-in-Some-World-clause-replied : goal.returns-in_ok-report-in-Some-World-clause-replied
returns-in_ok-report-in-Some-World-clause-replied g c =
    let words = map string_bytes c.args.words.now in
    let options = c.in-Some-World.options in
    let loads = loaded g.H.Shelf.files g.H.Shelf.asked g.H.Shelf.faults c.args.shelf.now c.args.shelf.now in
    let report = c.in_ok-report-in-Some-World.report in
    report_on words loads c.args.steps.now c.tour.new.steps c.one_request.ensures (World c.in-Some-World.rooms options) report (subst (λ (request : code.Request). AskFor words (request_of request)) c.in-Some-World.field-0-is c.in-Some-World.ensures)
    (tour_of loads c.args.steps.now c.tour.new.steps report c.in-Some-World.rooms options (adds_none (g.H.Shelf.asked c.args.shelf.now)) refl c.in_ok-report-in-Some-World.ensures.reported)

pub returns-in-None-clause-replied : goal.returns-in-None-clause-replied
returns-in-None-clause-replied g c =
    usage_on (map string_bytes c.args.words.now) (loaded g.H.Shelf.files g.H.Shelf.asked g.H.Shelf.faults c.args.shelf.now c.args.shelf.now) c.args.steps.now c.args.steps.now c.line.result c.line.ensures c.in-None.ensures
    (adds_none (g.H.Shelf.asked c.args.shelf.now)) refl
