use Rattle.std.proofs.Common.{List, ◌≡◌, ◌∙◌, ℕ, ap, sym, Bor}
use Rattle.cep_source.specs.Items.{Source}
use Rattle.cep_source.specs.Spaces.{first_place}
use Rattle.cep_base.specs.FirstNames.{under_name}
use Rattle.cep_source.proofs.Declaring.{places_in, known_in}
use Rattle.cep_source.proofs.source.Source.place.Goals.{in-Sorts, in-Constructors, in-Predicates, in-Stages, in-Contexts, in-Rules}
use Rattle.cep_source.proofs.source.Source.place.Goals as goal

pub returns : goal.returns
returns c =
    let places : c.match-space.places.now ≡ places_in c.self.inside c.args.space =
    elim c.match-space.branch [
      | in-Sorts w ↦ ap (λ (b : Bor (List (List ℕ × ℕ))). b.now) w.places-is ∙ ap (places_in c.self.inside) (sym w.in-Sorts.is)
      | in-Constructors w ↦ ap (λ (b : Bor (List (List ℕ × ℕ))). b.now) w.places-is ∙ ap (places_in c.self.inside) (sym w.in-Constructors.is)
      | in-Predicates w ↦ ap (λ (b : Bor (List (List ℕ × ℕ))). b.now) w.places-is ∙ ap (places_in c.self.inside) (sym w.in-Predicates.is)
      | in-Stages w ↦ ap (λ (b : Bor (List (List ℕ × ℕ))). b.now) w.places-is ∙ ap (places_in c.self.inside) (sym w.in-Stages.is)
      | in-Contexts w ↦ ap (λ (b : Bor (List (List ℕ × ℕ))). b.now) w.places-is ∙ ap (places_in c.self.inside) (sym w.in-Contexts.is)
      | in-Rules w ↦ ap (λ (b : Bor (List (List ℕ × ℕ))). b.now) w.places-is ∙ ap (places_in c.self.inside) (sym w.in-Rules.is)
    ] in
    c.under.ensures ∙ ap (λ (table : List (List ℕ × ℕ)). under_name table c.args.name.now) places ∙ (known_in c.self.inside c.self.invariant c.args.space).places c.args.name.now
    ∙ ap (λ (s : Source). first_place s c.args.space c.args.name.now) c.self.view_is
