-- The status of what is reported of a second file: there is one, and it is 5 or less.
use Rattle.std.proofs.Common.{◌≡◌, inl, inr, ℕ, ◌≤◌, List, refl, sym, ap, ◌∙◌, subst, arith, Option, None, Some, [], ◌∷◌, map}
use Rattle.std.specs.List.{AllByRecursion}
use Rattle.cep_rule.specs.declared.parts.Parts.{Parts}
use Rattle.cep_base.proofs.Lists.{holds_at}
use Rattle.cep_words.specs.declared.request.Task.{Task}
use Rattle.cep_words.specs.declared.request.Task.TheVariants as tasks
use Rattle.cep_words.specs.declared.request.Task.TheVariants.{Check, Renew, Again, Weigh}
use Rattle.cep_log.specs.declared.log.Log.{Log}
use Rattle.cep_log.specs.Transcript.{HasLog}
use Rattle.cep_cause.specs.declared.reordered.Reordered.{Reordered}
use Rattle.cep_graph.specs.BySeed.{IsReorderedBy}
use Rattle.cep_claim.specs.declared.fault.KeepFault.{KeepFault}
use Rattle.cep_claim.specs.declared.weight.Weight.{Weight}
use Rattle.cep_weigh.specs.declared.against.Against.{Against}
use Rattle.cep_weigh.specs.Claims.{HasClaims, HasFault}
use Rattle.cep_weigh.specs.Weights.{KeepsTo, AllKeepTo, IsFirstAgainst}
use Rattle.cep_examine.specs.Report.{Report}
use Rattle.cep_examine.specs.Check.{IsLegalTranscript}
use Rattle.cep_examine.specs.Again.{reordered_report, ReportsReordering}
use Rattle.cep_examine.specs.Claims.{claims_code, IsJudged, ReportsWeighing}
use Rattle.cep_examine.specs.Reports.{Reports}
use Rattle.cep_examine.proofs.Judging.{Judged}

abbrev pub code : Report → ℕ
code report = report.code

-- What is read of a second file is one: a file of claims says one list of claims, or has a fault; a transcript says one log, which comes to one answer by a seed.
pub record ReadsOnce (program : Parts) : Type 0 where
  pub claims : (bytes : List ℕ) (one other : List Weight) → HasClaims program bytes one → HasClaims program bytes other → one ≡ other
  pub either : (bytes : List ℕ) (weights : List Weight) (fault : KeepFault) → HasClaims program bytes weights → ¬ (HasFault program bytes fault)
  pub logs : (bytes : List ℕ) (one other : Log) → HasLog program bytes one → HasLog program bytes other → one ≡ other
  pub answers : (log : Log) (seed : ℕ) (one other : Reordered) → IsReorderedBy program log seed one → IsReorderedBy program log seed other → one ≡ other

low_claims : (judged : List (Option Against)) → claims_code judged ≤ 5
low_claims (None ∷ later) = low_claims later
low_claims judged = omega arith

-- what each rule keeps, none breaks
kept_unbroken : (program : Parts) (weight : Weight) (against : Against) → AllKeepTo program weight.claim weight.sum → ¬ (IsFirstAgainst program weight.claim weight.sum against)
kept_unbroken program weight against kept first = first.breaks (holds_at (KeepsTo weight.claim weight.sum) program.rules against.rule first.rule kept first.numbered)

-- claims are judged in one way, as far as the status tells it
same_codes : (program : Parts) (judged judged' : List Judged) → map (λ one. one.0) judged ≡ map (λ one. one.0) judged' → AllByRecursion (λ one. IsJudged program one.0 one.1) judged → AllByRecursion (λ one. IsJudged program one.0 one.1) judged'
    → claims_code (map (λ one. one.1) judged) ≡ claims_code (map (λ one. one.1) judged')
same_codes program [] [] same right right' = refl
same_codes program ((weight, None) ∷ later) ((weight', None) ∷ later') same right right' = same_codes program later later' (let tails : map (λ one. one.0) later ≡ map (λ one. one.0) later' = cc in tails) right.1 right'.1
same_codes program ((weight, Some against) ∷ later) ((weight', Some against') ∷ later') same right right' = refl
same_codes program ((weight, None) ∷ later) ((weight', Some against) ∷ later') same right right' =
    let weights : weight ≡ weight' = cc in absurd (kept_unbroken program weight' against (subst (λ (w : Weight). AllKeepTo program w.claim w.sum) weights right.0) right'.0)
same_codes program ((weight, Some against) ∷ later) ((weight', None) ∷ later') same right right' =
    let weights : weight' ≡ weight = cc in absurd (kept_unbroken program weight against (subst (λ (w : Weight). AllKeepTo program w.claim w.sum) weights right'.0) right.0)
same_codes program judged judged' same right right' = absurd (cc)

one_weighing : (program : Parts) (bytes : List ℕ) (one other : Report) → ReadsOnce program → ReportsWeighing program bytes one → ReportsWeighing program bytes other → one.code ≡ other.code
one_weighing program bytes one other reads (inl (long, same)) (inl (long', same')) = ap code same ∙ sym (ap code same')
one_weighing program bytes one other reads (inl (long, same)) (inr (inl (fault, short, has, same'))) = ap code same ∙ sym (ap code same')
one_weighing program bytes one other reads (inl (long, same)) (inr (inr (weights, short, has, is))) = absurd (omega (arith, long, short))
one_weighing program bytes one other reads (inr (inl (fault, short, has, same))) (inl (long, same')) = ap code same ∙ sym (ap code same')
one_weighing program bytes one other reads (inr (inl (fault, short, has, same))) (inr (inl (fault', short', has', same'))) = ap code same ∙ sym (ap code same')
one_weighing program bytes one other reads (inr (inl (fault, short, has, same))) (inr (inr (weights, short', says, is))) = absurd (reads.either bytes weights fault says has)
one_weighing program bytes one other reads (inr (inr (weights, short, says, is))) (inl (long, same)) = absurd (omega (arith, long, short))
one_weighing program bytes one other reads (inr (inr (weights, short, says, is))) (inr (inl (fault, short', has, same))) = absurd (reads.either bytes weights fault says has)
one_weighing program bytes one other reads (inr (inr (weights, short, says, is))) (inr (inr (weights', short', says', is'))) = grind (arith, code, same_codes)

-- Two reports of a legal log that is done in the order of a seed are one.
one_reordering : (program : Parts) (bytes : List ℕ) (log log' : Log) (seed : ℕ) (one other : Report) → ReadsOnce program → IsLegalTranscript program bytes log → IsLegalTranscript program bytes log' → ReportsReordering program log seed one → ReportsReordering program log' seed other → one.code ≡ other.code
one_reordering program bytes log log' seed one other reads legal legal' (reordered, by, same) (reordered', by', same') =
    let logs : log' ≡ log = reads.logs bytes log' log legal'.1 legal.1 in
    let answers = reads.answers log seed reordered reordered' by (subst (λ (l : Log). IsReorderedBy program l seed reordered') logs by') in
    ap code same ∙ ap (λ r. (reordered_report r).code) answers ∙ sym (ap code same')

low_reordered : (reordered : Reordered) → (reordered_report reordered).code ≤ 5
low_reordered reordered = grind arith

-- Two reports on the bytes of a second file have one status.
pub one_code : (task : Task) (program : Parts) (bytes : List ℕ) (one other : Report) → ReadsOnce program → Reports task program bytes one → Reports task program bytes other → one.code ≡ other.code
one_code Check program bytes one other reads (inl (text, accepts, same)) (inl (text', accepts', same')) = ap code same ∙ sym (ap code same')
one_code Check program bytes one other reads (inl (text, (log, legal, is), same)) (inr (text', rejects, same')) = absurd (rejects.no_legal log legal)
one_code Check program bytes one other reads (inr (text, rejects, same)) (inl (text', (log, legal, is), same')) = absurd (rejects.no_legal log legal)
one_code Check program bytes one other reads (inr (text, rejects, same)) (inr (text', rejects', same')) = ap code same ∙ sym (ap code same')
one_code Renew program bytes one other reads (inl (text, renews, same)) (inl (text', renews', same')) = ap code same ∙ sym (ap code same')
one_code Renew program bytes one other reads (inl (text, (log, legal, is), same)) (inr (inl (text', rejects, same'))) = absurd (rejects.no_legal log legal)
one_code Renew program bytes one other reads (inl (text, renews, same)) (inr (inr (long, same'))) = absurd (long.no_text text renews)
one_code Renew program bytes one other reads (inr (inl (text, rejects, same))) (inl (text', (log, legal, is), same')) = absurd (rejects.no_legal log legal)
one_code Renew program bytes one other reads (inr (inr (long, same))) (inl (text', renews, same')) = absurd (long.no_text text' renews)
one_code Renew program bytes one other reads (inr (inl (text, rejects, same))) (inr (inl (text', rejects', same'))) = ap code same ∙ sym (ap code same')
one_code Renew program bytes one other reads (inr (inl (text, rejects, same))) (inr (inr (long, same'))) = ap code same ∙ sym (ap code same')
one_code Renew program bytes one other reads (inr (inr (long, same))) (inr (inl (text, rejects, same'))) = ap code same ∙ sym (ap code same')
one_code Renew program bytes one other reads (inr (inr (long, same))) (inr (inr (long', same'))) = ap code same ∙ sym (ap code same')
one_code tasks.Cause program bytes one other reads (inl (log, legal, (causes, graph, same))) (inl (log', legal', (causes', graph', same'))) = ap code same ∙ sym (ap code same')
one_code tasks.Cause program bytes one other reads (inl (log, legal, is)) (inr (text, rejects, same)) = absurd (rejects.no_legal log legal)
one_code tasks.Cause program bytes one other reads (inr (text, rejects, same)) (inl (log, legal, is)) = absurd (rejects.no_legal log legal)
one_code tasks.Cause program bytes one other reads (inr (text, rejects, same)) (inr (text', rejects', same')) = ap code same ∙ sym (ap code same')
one_code (Again seed) program bytes one other reads (inl (log, legal, is)) (inl (log', legal', is')) = one_reordering program bytes log log' _ one other reads legal legal' is is'
one_code (Again seed) program bytes one other reads (inl (log, legal, is)) (inr (text, rejects, same)) = absurd (rejects.no_legal log legal)
one_code (Again seed) program bytes one other reads (inr (text, rejects, same)) (inl (log, legal, is)) = absurd (rejects.no_legal log legal)
one_code (Again seed) program bytes one other reads (inr (text, rejects, same)) (inr (text', rejects', same')) = ap code same ∙ sym (ap code same')
one_code Weigh program bytes one other reads is is' = one_weighing program bytes one other reads is is'

-- that status is 0, 1 or 5
pub low_code : (task : Task) (program : Parts) (bytes : List ℕ) (report : Report) → Reports task program bytes report → report.code ≤ 5
low_code task program bytes report said = grind (arith, low_reordered, low_claims)
