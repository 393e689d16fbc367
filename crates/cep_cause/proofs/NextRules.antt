-- The rules of a block of steps are looked up one after another.
use Rattle.std.proofs.Common.{◌≡◌, ◌⊎◌, ℕ, suc, ◌+◌, ◌-◌, ◌%◌, ◌<◌, ◌≤◌, List, [], ◌∷◌, ◌++◌, length, length-append, Some, ap, ◌∙◌, arith}
use Rattle.std.specs.Prelude.{slice_get}
use Rattle.std.proofs.lemmas.Bool.{cases_lt}
use Rattle.std.proofs.lemmas.Option.{slice_get_within}
use Rattle.cep_base.proofs.Lists.{some_same}
use Rattle.cep_log.specs.declared.log.LogStep.{LogStep}
use Rattle.cep_cause.specs.Walking.{AreDueAt, AreRulesAt}

before_last : (xs : List ℕ) (x k : ℕ) → k < length xs → slice_get (xs ++ (x ∷ [])) k ≡ slice_get xs k
before_last (y ∷ xs) x (suc k) less = before_last xs x k (omega arith)
before_last xs x k less = grind arith

at_last : (xs : List ℕ) (x k : ℕ) → k ≡ length xs → slice_get (xs ++ (x ∷ [])) k ≡ Some x
at_last (y ∷ xs) x (suc k) is = at_last xs x k (omega arith)
at_last xs x k is = grind arith

module _ (steps : List LogStep) (order : List ℕ) where
  -- The rules of the steps from a place on, before another one.
  pub record AreRulesTo (place i : ℕ) (rules : List ℕ) : Type 0 where
    pub long : length rules + place ≡ i
    pub each : (k number : ℕ) (step : LogStep) → k < length rules → slice_get order (place + k) ≡ Some number → slice_get steps (number - 1) ≡ Some step → slice_get rules k ≡ Some step.offer.rule

  pub no_rules : (place : ℕ) (rules : List ℕ) → rules ≡ [] → AreRulesTo place place rules
  no_rules place rules none = record { long = omega (arith, ap length none); each = λ k number step less at there. absurd (omega (arith, less, ap length none)) }

  pub one_rule_more : (place i number : ℕ) (step : LogStep) (rules : List ℕ) → slice_get order i ≡ Some number → slice_get steps (number - 1) ≡ Some step → AreRulesTo place i rules → AreRulesTo place (i + 1) (rules ++ (step.offer.rule ∷ []))
  one_rule_more place i number step rules at there are = grind (arith, length-append, before_last, some_same, at_last, cases_lt, are.long, step.offer.rule, are.each)

  pub rules_there : (place i : ℕ) (rules : List ℕ) → place % 64 ≡ 0 → (length order ≤ i) ⊎ (place + 64 ≤ i) → AreRulesTo place i rules → AreRulesAt steps order place rules
  rules_there place i rules begins all are = grind (arith, slice_get_within, are.each, are.long)

  -- The rule of the step at a place is among them,
  pub rule_there : (place number : ℕ) (step : LogStep) (rules : List ℕ) → slice_get order place ≡ Some number → slice_get steps (number - 1) ≡ Some step → AreRulesAt steps order place rules → slice_get rules (place % 64) ≡ Some step.offer.rule
  rule_there place number step rules at there are = are.each (place % 64) number step (omega arith) (ap (λ n. slice_get order n) (omega arith) ∙ at) there

  -- and they are those of the next place, if it does not begin a block.
  pub rules_stay : (place : ℕ) (rules : List ℕ) → AreRulesAt steps order place rules → AreDueAt steps order (place + 1) rules
  rules_stay place rules are = λ inside. record { each = λ k number step less at there. are.each k number step less (ap (λ n. slice_get order (n + k)) (omega (arith, inside)) ∙ at) there }
