use Rattle.cep_source.proofs.Declaring.{rule_more}
use Rattle.cep_source.proofs.rules.Rules.add_rule.Goals as goal

pub returns-clause-named : goal.returns-clause-named
returns-clause-named c = λ were.
    rule_more c.args.text.now c.args.self.now _ c.args.rule c.add_rule_name.new.name were
    (rw c.new-name.ensures at c.in_ok-add_rule_name.ensures.name) c.in_ok-add_rule_name.ensures.count
    c.in_ok-push.ensures.items c.in_ok-declare_as.ensures.items
    (λ names are. rw c.bytes.ensures at (c.in_ok-declare_as.ensures.names names are))
