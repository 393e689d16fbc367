use Rattle.std.proofs.Common.{◌≤◌, length, sym, arith}
use Rattle.cep_base.specs.declared.limits.TheConstants.{MOST_CLAUSES}
use Rattle.cep_rule.specs.Program.{IsTypedClause}
use Rattle.cep_text.proofs.TableLemmas.{all_at}
use Rattle.cep_text.proofs.ProofsFound.{numbered_found}
use Rattle.cep_text.proofs.read_proofs.clause.Goals as goal

pub get-requires : goal.get-requires
get-requires c = omega (arith, (numbered_found c.len.result _ c.in-Some.number (sym c.in-Some.ensures)).0)

pub overflow_cast-result : goal.overflow_cast-result
overflow_cast-result c =
    let few : length c.parts.result.now.clauses ≤ MOST_CLAUSES = rw c.parts.ensures.parts c.parts.ensures.kept.small.clauses in
    omega (arith, (numbered_found c.len.result _ c.in-Some.number (sym c.in-Some.ensures)).0)

pub returns-in-Some-clause-as_many : goal.returns-in-Some-clause-as_many
returns-in-Some-clause-as_many c = (all_at (IsTypedClause c.args.vocabulary.now.signature) c.args.vocabulary.now.clauses c.in-Some.number _ c.parts.ensures.kept.typed_clauses (rw c.parts.ensures.parts at c.get.ensures)).kinds
