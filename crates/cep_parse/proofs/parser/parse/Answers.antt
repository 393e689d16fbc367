use Rattle.std.proofs.Common.{◌+◌, [], length, take, drop, sym, ap, subst, ◌∙◌}
use Rattle.cep_parse.specs.declared.state.Plain.TheVariants.{Top}
use Rattle.cep_parse.specs.declared.state.State.TheVariants.{Plain}
use Rattle.cep_parse.specs.declared.symbol.Symbol.{Symbol}
use Rattle.cep_parse.specs.Files.{IsNested, IsUnexpected}
use Rattle.cep_parse.specs.Symbols.{symbols_of}
use Rattle.cep_parse.proofs.ParsedOnce.{IsAt, at_next, at_start, ends_early, ends_well, nests_at, stops_at, all_read, open_within, symbols_cut, symbols_next, tokens_within}
use Rattle.cep_parse.proofs.parser.parse.Goals as goal

pub loop-token-init : goal.loop-token-init
loop-token-init c = subst (λ items. IsAt [] items (Plain Top) 0) (sym c.new-items.ensures) at_start

pub symbol_of-symbol-requires-clause-ordered : goal.symbol_of-symbol-requires-clause-ordered
symbol_of-symbol-requires-clause-ordered c =
    (tokens_within c.args.text.now c.args.tokens.now c.as_slice-token-items.result.now c.requires.tokens c.as_slice-token-items.ensures c.loop-token.token-index _ c.loop-token-test.true).0

pub symbol_of-symbol-requires-clause-within : goal.symbol_of-symbol-requires-clause-within
symbol_of-symbol-requires-clause-within c =
    (tokens_within c.args.text.now c.args.tokens.now c.as_slice-token-items.result.now c.requires.tokens c.as_slice-token-items.ensures c.loop-token.token-index _ c.loop-token-test.true).1

pub is_too_deep-requires : goal.is_too_deep-requires
is_too_deep-requires c = open_within _ c.loop-token.items c.loop-token.state c.loop-token.depth c.loop-token.invariant

pub returns-in-None : goal.returns-in-None
returns-in-None c =
    let symbols = symbols_of c.args.text.now c.args.tokens.now in
    let i = c.loop-token.token-index in
    let cut = symbols_cut c.args.text.now c.args.tokens.now c.as_slice-token-items.result.now i _ _ c.as_slice-token-items.ensures c.loop-token-test.true c.symbol_of-symbol.ensures in
    subst (λ place. IsUnexpected symbols (length c.args.text.now) place) (ap (λ (s : Symbol). s.at.from) c.symbol_of-symbol.ensures)
    (stops_at symbols (take i symbols) (drop (i + 1) symbols) c.loop-token.items c.loop-token.state c.loop-token.depth c.symbol_of-symbol.result.word c.symbol_of-symbol.result.at (length c.args.text.now) c.loop-token.invariant
    (rw c.in-None.is at c.in_ok-next.ensures) cut)

pub returns-then-is_too_deep : goal.returns-then-is_too_deep
returns-then-is_too_deep c =
    let symbols = symbols_of c.args.text.now c.args.tokens.now in
    let i = c.loop-token.token-index in
    let cut = symbols_cut c.args.text.now c.args.tokens.now c.as_slice-token-items.result.now i _ _ c.as_slice-token-items.ensures c.loop-token-test.true c.symbol_of-symbol.ensures in
    let deep = rw c.if-is_too_deep.true at c.is_too_deep.ensures in
    subst (λ place. IsNested symbols place) (ap (λ (s : Symbol). s.at.from) c.symbol_of-symbol.ensures)
    (nests_at symbols (take i symbols) (drop (i + 1) symbols) c.loop-token.items c.loop-token.state c.loop-token.depth c.symbol_of-symbol.result.word c.symbol_of-symbol.result.at
    (record { items = c.advance.new.items; state = c.in-Some.next }) c.loop-token.invariant (rw c.in-Some.is at c.in_ok-next.ensures) deep.0 deep.1 cut)

pub loop-token-preserved : goal.loop-token-preserved
loop-token-preserved c =
    let symbols = symbols_of c.args.text.now c.args.tokens.now in
    let i = c.loop-token.token-index in
    let front = symbols_next c.args.text.now c.args.tokens.now c.as_slice-token-items.result.now i _ _ c.as_slice-token-items.ensures c.loop-token-test.true c.symbol_of-symbol.ensures in
    rw (← front, c.open_behind-depth.ensures)
    (at_next (take i symbols) c.loop-token.items c.loop-token.state c.loop-token.depth c.symbol_of-symbol.result.word c.symbol_of-symbol.result.at
    (record { items = c.advance.new.items; state = c.in-Some.next }) c.loop-token.invariant (rw c.in-Some.is at c.in_ok-next.ensures) (rw c.if-is_too_deep.false at c.is_too_deep.ensures))

pub returns-then-within : goal.returns-then-within
returns-then-within c =
    let all = all_read c.args.text.now c.args.tokens.now c.as_slice-token-items.result.now c.loop-token.token-index c.as_slice-token-items.ensures c.loop-token-test.false in
    ends_early _ c.loop-token.items c.loop-token.state c.loop-token.depth (length c.args.text.now) (rw all at c.loop-token.invariant) (sym c.is_within-within.ensures ∙ c.if-within.true)

pub returns : goal.returns
returns c =
    let all = all_read c.args.text.now c.args.tokens.now c.as_slice-token-items.result.now c.loop-token.token-index c.as_slice-token-items.ensures c.loop-token-test.false in
    ends_well _ c.loop-token.items c.loop-token.state c.loop-token.depth (rw all at c.loop-token.invariant) (sym c.is_within-within.ensures ∙ c.if-within.false)
