use Rattle.std.proofs.Common.{◌∙◌, sym}
use Rattle.cep_store.proofs.Additions.{apart_keys, found_takes_place}
use Rattle.cep_store.proofs.keys.Keys.add.Goals as goal

pub returns-in-Some-clause-place : goal.returns-in-Some-clause-place
returns-in-Some-clause-place c = found_takes_place (λ key. key.items) c.self.inside.keys.keys c.args.key.now c.in-Some.id c.args.self.now c.self.view_is (sym c.get_index_of.ensures.index ∙ c.in-Some.is)

pub returns-in-Some-clause-apart : goal.returns-in-Some-clause-apart
returns-in-Some-clause-apart c = rw (← c.self.view_is) (apart_keys (λ key. key.items) c.self.inside.keys.keys c.len.ensures.unique)

pub returns-in_err-from_slice-in-None-clause-apart : goal.returns-in_err-from_slice-in-None-clause-apart
returns-in_err-from_slice-in-None-clause-apart c = rw (← c.self.view_is) (apart_keys (λ key. key.items) c.self.inside.keys.keys c.len.ensures.unique)
