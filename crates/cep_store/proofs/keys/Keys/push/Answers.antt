use Rattle.cep_store.proofs.Additions.{apart_keys, takes_place}
use Rattle.cep_store.proofs.keys.Keys.push.Goals as goal

pub returns-in_err-id-clause-apart : goal.returns-in_err-id-clause-apart
returns-in_err-id-clause-apart c = apart_keys (λ key. key.items) c.insert_full.new.self.keys c.insert_full.ensures.unique

pub returns-clause-place : goal.returns-clause-place
returns-clause-place c = takes_place (λ key. key.items) c.self.inside.keys.keys c.insert_full.new.self.keys c.args.key c.in_ok-id.id c.args.self.now _ c.self.view_is c.in_ok-id.ensures.keys c.in_ok-id.ensures.stored

pub returns-clause-apart : goal.returns-clause-apart
returns-clause-apart c = apart_keys (λ key. key.items) c.insert_full.new.self.keys c.insert_full.ensures.unique
