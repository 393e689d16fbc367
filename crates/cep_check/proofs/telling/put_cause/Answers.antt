use Rattle.cep_check.proofs.telling.put_cause.Goals as goal

pub returns-in-StartStage : goal.returns-in-StartStage
returns-in-StartStage c = rw c.in-StartStage.is (record { ok = c.put_stages.ensures.ok; err = c.put_stages.ensures.err })

pub returns-in-StartState : goal.returns-in-StartState
returns-in-StartState c = rw c.in-StartState.is (record { ok = c.put_counts.ensures.ok; err = c.put_counts.ensures.err })

pub returns-in-NotContained : goal.returns-in-NotContained
returns-in-NotContained c = rw c.in-NotContained.is (record { ok = c.put_counts-in-NotContained.ensures.ok; err = c.put_counts-in-NotContained.ensures.err })

pub returns-in-StageLine : goal.returns-in-StageLine
returns-in-StageLine c = rw c.in-StageLine.is (record { ok = c.put_stages-in-StageLine.ensures.ok; err = c.put_stages-in-StageLine.ensures.err })

pub returns-in-OtherStage-clause-ok : goal.returns-in-OtherStage-clause-ok
returns-in-OtherStage-clause-ok c = rw c.in-OtherStage.is c.put_other_stage.ensures.ok
