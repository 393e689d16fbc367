use Rattle.std.proofs.Common.{◌≡◌, ℕ, ◌<◌, ◌≤◌, List, map, length, Some, refl, sym, subst}
use Rattle.std.specs.Prelude.{slice_get, get_or}
use Rattle.std.proofs.lemmas.List.{length-map}
use Rattle.std.proofs.lemmas.Option.{slice_get_read}
use Rattle.cep_base.proofs.Lists.{holds_at, get_mapped}
use Rattle.cep_base.proofs.Outcomes.{on_err}
use Rattle.cep_rule.specs.declared.derivation.Derivation.{Derivation}
use Rattle.cep_rule.specs.Derivations.{proof_of}
use Rattle.cep_rule.specs.Shapes.{IsProofOf}
use Rattle.cep_lines.specs.Lines.{by_line, by_lines}
use Rattle.cep_lines.proofs.Adding.{line_added, line_breaks, lines_done}
use Rattle.cep_lines.proofs.deed.put_proofs.Goals as goal

-- the derivation at a place of the list
at_place : (proofs : List Derivation) (i : ℕ) (proof : Derivation) → i < length proofs → proof ≡ get_or proofs i proof → slice_get (map proof_of proofs) i ≡ Some (proof_of proof)
at_place proofs i proof within is = get_mapped proof_of proofs i proof (slice_get_read proofs (length proofs) i proof refl within is)

pub put_by-requires : goal.put_by-requires
put_by-requires c =
    holds_at (IsProofOf c.args.program.now) (map proof_of c.args.proofs.now) c.loop-proof.proof-index (proof_of c.proof-item.result) c.requires
    (at_place c.args.proofs.now c.loop-proof.proof-index c.proof-item.result c.loop-proof-test.true c.proof-item.is)

pub loop-proof-preserved : goal.loop-proof-preserved
loop-proof-preserved c =
    line_added (by_line c.args.program.now) (map proof_of c.args.proofs.now) c.args.out.now c.loop-proof.proof-index _ c.loop-proof.out c.put_by.new.out c.loop-proof.invariant
    (at_place c.args.proofs.now c.loop-proof.proof-index c.proof-item.result c.loop-proof-test.true c.proof-item.is) c.in_ok-put_by.ensures.ok

pub returns-in_err-put_by-clause-err : goal.returns-in_err-put_by-clause-err
unfolding by_lines
returns-in_err-put_by-clause-err c =
    on_err c.from_residual.result _
    (line_breaks (by_line c.args.program.now) (map proof_of c.args.proofs.now) c.args.out.now c.loop-proof.proof-index _ c.loop-proof.out c.put_by.new.out c.loop-proof.invariant
    (at_place c.args.proofs.now c.loop-proof.proof-index c.proof-item.result c.loop-proof-test.true c.proof-item.is) c.in_err-put_by.ensures.err)

pub returns-clause-ok : goal.returns-clause-ok
unfolding by_lines
returns-clause-ok c =
    lines_done (by_line c.args.program.now) (map proof_of c.args.proofs.now) c.args.out.now c.loop-proof.proof-index c.loop-proof.out c.loop-proof.invariant
    (subst (λ n. n ≤ c.loop-proof.proof-index) (sym (length-map c.args.proofs.now proof_of)) c.loop-proof-test.false)
