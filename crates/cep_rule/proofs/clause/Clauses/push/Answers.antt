use Rattle.std.proofs.Common.{rules, ◌≡◌, length, map, ◌∷◌, [], sym, ◌∙◌}
use Rattle.std.proofs.lemmas.List.{map-append, length-map}
use Rattle.cep_rule.specs.Patterns.{clause_of}
use Rattle.cep_rule.proofs.HeadSets.{heads_more, heads_stay}
use Rattle.cep_rule.proofs.clause.Clauses.push.Goals as goal

pub invariant_of-self-in_err-push : goal.invariant_of-self-in_err-push
invariant_of-self-in_err-push c = rw c.in_err-push.ensures.items (heads_stay c.self.inside.heads c.insert.new.self _ c.in_ok-insert.ensures.updates (map clause_of c.self.inside.clauses.items) c.self.invariant)

pub invariant_of-self-2 : goal.invariant_of-self-2
invariant_of-self-2 c =
    let count : c.len.result ≡ length c.self.inside.clauses.items = search rules in
    rw (c.in_ok-push.ensures.items, map-append clause_of c.self.inside.clauses.items (c.args.clause ∷ [])) (heads_more c.self.inside.heads c.insert.new.self _ c.in_ok-insert.ensures.updates (map clause_of c.self.inside.clauses.items) (clause_of c.args.clause) (λ i. (c.args.clause.head.pred, c.first_of-first.ensures i, (count ∙ sym (length-map c.self.inside.clauses.items clause_of)) i)) c.self.invariant)
