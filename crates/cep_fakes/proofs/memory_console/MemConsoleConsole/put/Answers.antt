use Rattle.std.proofs.Common.{rules, arith, ◌≡◌, ℕ, List, take, min, length, ◌/◌}
use Rattle.std.proofs.lemmas.List.{take-take, take_all, length-take}
use Rattle.std.proofs.lemmas.Result.{err_from_is_err_and}
use Rattle.cep_fakes.proofs.memory_console.MemConsoleConsole.put.Goals as goal

-- a prefix of a front
take_of_take : (m n : ℕ) (xs : List ℕ) → take m (take n xs) ≡ take (min m n) xs
take_of_take m n xs = grind (arith, take-take, take_all, length-take)

pub returns-in_err-put-clause-part : goal.returns-in_err-put-clause-part
returns-in_err-put-clause-part c =
    let part = c.in_err-put.ensures.part in
    let failed = err_from_is_err_and c.from_residual.result c.from_residual.ensures.1 in
    let half = length c.args.bytes.now / 2 in
    rw failed.1 (min part.0 half, rw (← take_of_take part.0 half c.args.bytes.now) (search (rules, part.1)))

pub returns-then-begin-clause-part : goal.returns-then-begin-clause-part
returns-then-begin-clause-part c = (length c.args.bytes.now / 2, search (rules, c.in_ok-put.ensures.written))
