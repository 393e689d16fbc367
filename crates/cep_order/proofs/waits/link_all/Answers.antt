use Rattle.std.proofs.Common.{ℕ, ◌+◌, ◌-◌, ◌<◌, ◌≤◌, List, [], ◌∷◌, ◌++◌, length, take, get_or, set, sym, subst, refl, arith}
use Rattle.std.proofs.lemmas.List.{take_more}
use Rattle.std.proofs.lemmas.Grind.{common_steps}
use Rattle.std.proofs.lemmas.List.Elements.{Contains-get_or}
use Rattle.cep_base.proofs.Elements.{all_at}
use Rattle.cep_order.specs.declared.waits.Link.{Link}
use Rattle.cep_order.specs.Waits.{AreLinksFor}
use Rattle.cep_order.proofs.Releasing.{links_begin, linked}
use Rattle.cep_order.proofs.waits.link_all.Goals as goal

pub loop-number-init : goal.loop-number-init
loop-number-init c = record {
  few = omega arith;
  no_more = omega arith;
  links = λ entries here are. links_begin entries c.args.begins.now c.args.links.now.items are;
}

pub loop-number-preserved : goal.loop-number-preserved
loop-number-preserved c =
    let at = c.loop-number in
    let numbers = c.args.numbers.now in
    let number = get_or numbers at.number-index 0 in
    let earlier = get_or at.begins (number - 1) 0 in
    let link : Link = record { step = c.args.step; next = earlier } in
    let pushed = c.in_ok-push.ensures.items in
    let long = c.in_ok-push.ensures.len in
    let size = at.links.ok.0 in
    let new = c.push.new.self.ok.0 in
    let fits = c.in-Ok.ensures in
    let here = all_at (λ n. (0 < n) × (n ≤ length c.args.begins.now)) numbers number c.requires (Contains-get_or numbers at.number-index 0 c.loop-number-test.true) in
    record {
      few = omega (arith, fits, c.len.ensures, long, size, at.invariant.no_more);
      no_more = omega (arith, long, size, new, at.invariant.no_more);
      links = λ entries same are.
          subst (λ (all : List Link). AreLinksFor (entries ++ take (at.number-index + 1) numbers ∷ []) (set at.begins (number - 1) c.in-Ok.link) all) (sym pushed)
          (subst (λ (some : List ℕ). AreLinksFor (entries ++ some ∷ []) (set at.begins (number - 1) c.in-Ok.link) (at.links.items ++ link ∷ [])) (sym (take_more numbers at.number-index 0 c.loop-number-test.true))
          (linked entries (take at.number-index numbers) at.begins at.links.items c.args.step number c.in-Ok.link link (at.invariant.links entries same are) same here.0 (omega (arith, here.1, at.auto.begins)) refl refl (omega (arith, fits, c.len.ensures, long, size))));
    }

pub overflow_sub-earlier : goal.overflow_sub-earlier
overflow_sub-earlier c = grind (arith, common_steps)

pub bounds-begins-earlier : goal.bounds-begins-earlier
bounds-begins-earlier c = grind (arith, common_steps)

pub bounds-begins-earlier-in-loop-number : goal.bounds-begins-earlier-in-loop-number
bounds-begins-earlier-in-loop-number c = grind (arith, common_steps)

pub returns-clause-links : goal.returns-clause-links
returns-clause-links c = grind (arith, common_steps)
