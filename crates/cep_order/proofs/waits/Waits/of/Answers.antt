use Rattle.std.proofs.Common.{◌≡◌, ℕ, ◌+◌, ◌<◌, List, [], ◌∷◌, ◌++◌, length, map, take, drop, get_or, Some, ap, sym, ◌∙◌, subst, arith, append-nil}
use Rattle.std.proofs.lemmas.List.{take_all, drop_all, take_more, map-append, length-map, length-take-le, length-replicate}
use Rattle.std.proofs.lemmas.Option.{slice_get-get_or}
use Rattle.cep_base.proofs.Lists.{all_weaker}
use Rattle.cep_order.specs.declared.step_cause.StepCause.{StepCause}
use Rattle.cep_order.specs.declared.waits.Link.{Link}
use Rattle.cep_order.specs.Waits.{all_entries, AreLinksFor}
use Rattle.cep_order.proofs.Releasing.{no_links}
use Rattle.cep_order.proofs.waits.Waits.of.Goals as goal

same_begins : (n : ℕ) (new old : List ℕ) → n ≡ length old → length new ≡ length old → take n (new ++ drop (length new) old) ≡ new
same_begins n new old is same =
    ap (λ (rest : List ℕ). take n (new ++ rest)) (drop_all (length new) old (omega arith)) ∙ ap (take n) (append-nil new) ∙ take_all n new (omega arith)

-- one entry more
more_entries : (causes : List StepCause) (step : ℕ) (cause : StepCause) → step < length causes → cause ≡ get_or causes step cause → all_entries (take (step + 1) causes) ≡ all_entries (take step causes) ++ cause.after ∷ []
more_entries causes step cause within read =
    ap all_entries (take_more causes step cause within ∙ ap (λ (c : StepCause). take step causes ++ c ∷ []) (sym read)) ∙ map-append (λ (c : StepCause). c.after) (take step causes) (cause ∷ [])

pub loop-step-init : goal.loop-step-init
loop-step-init c =
    let zeros = c.in_ok-begins.ensures.items_if_clones_equal (λ y e. e) in
    record {
      links = subst (λ (l : List Link). AreLinksFor [] c.in_ok-begins.begins.items l) (sym c.new-links.ensures.items)
          (subst (λ (b : List ℕ). AreLinksFor [] b []) (sym zeros) (no_links (length c.args.causes.now)));
      long = ap (λ (b : List ℕ). length b) zeros ∙ length-replicate (length c.args.causes.now) 0;
      left = c.new-left.ensures.items;
    }

pub link_all-requires : goal.link_all-requires
link_all-requires c =
    let at = c.loop-step in
    let cause = c.index-causes-step.result in
    let all = c.requires.earlier at.step cause (slice_get-get_or c.args.causes.now at.step cause c.loop-step-test.true ∙ ap Some (sym c.index-causes-step.is)) in
    rw c.as_slice-numbers.ensures (all_weaker _ _ cause.after (λ number bounds. (bounds.0, omega (arith, bounds.1, ap (λ (b : List ℕ). length b) c.deref_mut.ensures.value, at.invariant.long, c.loop-step-test.true))) all)

pub loop-step-preserved : goal.loop-step-preserved
loop-step-preserved c =
    let at = c.loop-step in
    let causes = c.args.causes.now in
    let cause = c.index-causes-step.result in
    let within = c.loop-step-test.true in
    let more = more_entries causes at.step cause within c.index-causes-step.is in
    let long : length (all_entries (take at.step causes)) ≡ at.step = length-map (take at.step causes) (λ (c : StepCause). c.after) ∙ length-take-le at.step causes (omega arith) in
    let begins = same_begins at.begins.len c.link_all.new.begins at.begins.items at.begins.ok.0 (c.link_all.auto.begins ∙ ap (λ (b : List ℕ). length b) c.deref_mut.ensures.value) in
    let numbers = c.as_slice-numbers.ensures in
    let linked = c.in_ok-link_all.ensures.links (all_entries (take at.step causes)) long (subst (λ (b : List ℕ). AreLinksFor (all_entries (take at.step causes)) b at.links.items) (sym c.deref_mut.ensures.value) at.invariant.links) in
    record {
      links = subst (λ (b : List ℕ). AreLinksFor (all_entries (take (at.step + 1) causes)) b c.link_all.new.links.items) (sym begins)
          (subst (λ (entries : List (List ℕ)). AreLinksFor entries c.link_all.new.begins c.link_all.new.links.items) (sym more)
          (subst (λ (ns : List ℕ). AreLinksFor (all_entries (take at.step causes) ++ ns ∷ []) c.link_all.new.begins c.link_all.new.links.items) numbers linked));
      long = ap (λ (b : List ℕ). length b) begins ∙ c.link_all.auto.begins ∙ ap (λ (b : List ℕ). length b) c.deref_mut.ensures.value ∙ at.invariant.long;
      left = c.in_ok-push.ensures.items
          ∙ ap (λ (l : List ℕ). l ++ length c.as_slice-numbers.result.now ∷ []) at.invariant.left
          ∙ ap (λ (ns : List ℕ). map length (all_entries (take at.step causes)) ++ length ns ∷ []) numbers
          ∙ sym (ap (λ (entries : List (List ℕ)). map length entries) more ∙ map-append length (all_entries (take at.step causes)) (cause.after ∷ []));
    }

pub returns : goal.returns
returns c =
    let at = c.loop-step in
    let whole : take at.step c.args.causes.now ≡ c.args.causes.now = take_all at.step c.args.causes.now c.loop-step-test.false in
    record {
      links = subst (λ (cs : List StepCause). AreLinksFor (all_entries cs) at.begins.items at.links.items) whole at.invariant.links;
      long = at.invariant.long;
      left = at.invariant.left ∙ ap (λ (cs : List StepCause). map length (all_entries cs)) whole;
    }
