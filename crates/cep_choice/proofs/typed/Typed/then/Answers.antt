use Rattle.std.proofs.Common.{arith}
use Rattle.cep_choice.proofs.LineBytes.{first_digit, next_digit, bad_first, bad_later, bad_end}
use Rattle.cep_choice.proofs.typed.Typed.then.Goals as goal

pub returns-in-49-to-57-clause-reads : goal.returns-in-49-to-57-clause-reads
returns-in-49-to-57-clause-reads c =
    first_digit c.args.n c.from.result c.args.byte c.args.self c.number.result (omega arith) c.in-Empty.is (omega arith) (omega arith) c.from.ensures c.number.ensures.kept c.number.ensures.large

pub returns-in_default-clause-reads : goal.returns-in_default-clause-reads
returns-in_default-clause-reads c = bad_first c.args.n c.args.self c.args.byte (omega arith) c.in-Empty.is (λ low high. omega arith)

pub returns-in_default-2-clause-reads : goal.returns-in_default-2-clause-reads
returns-in_default-2-clause-reads c = bad_first c.args.n c.args.self c.args.byte (omega arith) c.in-Empty.is (λ low high. omega arith)

pub returns-in-48-to-57-clause-reads : goal.returns-in-48-to-57-clause-reads
returns-in-48-to-57-clause-reads c =
    next_digit c.args.n c.in-Number.value _ c.args.byte c.args.self c.number-in-48-to-57.result (omega arith) c.requires c.in-Number.is (omega arith) (omega arith) (omega arith) c.number-in-48-to-57.ensures.kept c.number-in-48-to-57.ensures.large

pub returns-in_default-byte-clause-reads : goal.returns-in_default-byte-clause-reads
returns-in_default-byte-clause-reads c = bad_later c.args.n c.args.self c.args.byte (omega arith) (λ low high. omega arith) (λ end. omega arith)

pub returns-in_default-byte-2-clause-reads : goal.returns-in_default-byte-2-clause-reads
returns-in_default-byte-2-clause-reads c = bad_later c.args.n c.args.self c.args.byte (omega arith) (λ low high. omega arith) (λ end. omega arith)

pub returns-in-Closed-clause-reads : goal.returns-in-Closed-clause-reads
returns-in-Closed-clause-reads c = bad_end c.args.n c.args.self c.args.byte (omega arith) c.in-Closed.is
