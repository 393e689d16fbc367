use Rattle.cep_base.proofs.Entries.{pushed}
use Rattle.cep_base.proofs.first_names.FirstNames.push.Goals as goal

pub returns-clause-ok : goal.returns-clause-ok
returns-clause-ok g c =
    pushed (λ key. key.items) c.in_ok-name.name c.args.with c.self.inside.entries.entries c.insert.new.self.entries c.args.name.now c.args.self.now c.self.view_is c.in_ok-name.ensures.items c.requires c.in_ok-insert.ensures.entries
