-- A legal log is played by typing what answers its steps.
use Rattle.std.proofs.Common.{◌≡◌, ◌⊎◌, ℕ, zero, suc, ◌+◌, ◌*◌, ◌<◌, ◌≤◌, true, List, [], ◌∷◌, ◌++◌, length, inl, inr, refl, sym, ap, ◌∙◌, subst, arith, Option, None, Some, IsSomeAnd, slice_get, ◌≢◌, ◌-◌}
use Rattle.std.specs.Prelude.{Contains, get_or, decimal, map}
use Rattle.std.specs.List.{AllByRecursion, AllZip}
use Rattle.std.proofs.lemmas.Option.{slice_get_within}
use Rattle.cep_base.proofs.Lists.{holds_at, all_weaker}
use Rattle.cep_base.specs.declared.limits.TheConstants.{MOST_OFFERS, MOST_TYPED}
use Rattle.cep_term.specs.Tree.{Tree, AtomTree}
use Rattle.cep_term.specs.Multiset.{Multiset, IsContained}
use Rattle.cep_rule.specs.declared.signature.Signature.{Signature}
use Rattle.cep_rule.specs.declared.rule.Rule.{Rule}
use Rattle.cep_rule.specs.declared.parts.Stage.{Stage}
use Rattle.cep_rule.specs.declared.parts.Parts.{Parts}
use Rattle.cep_rule.specs.declared.offer.Offer.{Offer}
use Rattle.cep_rule.specs.Typing.{AreValues}
use Rattle.cep_rule.specs.Instances.{left_of, full_instances}
use Rattle.cep_rule.specs.Derivations.{ProofTree, IsDerivable}
use Rattle.cep_rule.specs.Offers.{IsOffer, AreOffers}
use Rattle.cep_rule.specs.Stages.{IsAsked, HasOffer, own_group, leaving_group, IsQuiet}
use Rattle.cep_rule.specs.State.{IsState}
use Rattle.cep_rule.specs.Step.{Step}
use Rattle.cep_rule.specs.Steps.{Spot, MakesFit, AreProofs, IsMachineStep, StepsTo, stage_after, start_spot}
use Rattle.cep_rule.specs.Program.{IsTypedRule, IsDividedRule, IsGroupedRule, IsProgram}
use Rattle.cep_log.specs.declared.log.LogStep.{LogStep}
use Rattle.cep_log.specs.Legal.{IsLegalStep, AreLegalSteps, IsLegalEnd, IsLegal}
use Rattle.cep_run.specs.declared.settings.Settings.{Settings}
use Rattle.cep_run.specs.Deciding.{IsPlayers, Supply, How, Heard, Lone, Drawn, Decides}
use Rattle.cep_replay.specs.Playing.{typed_for, Decision, by_player, alone, IsPosed, IsTypedFor, AreTypedFor, AreInteractive, HasFewOffers, HaveFewOffers, by_seed, CanEnd, CanBePlayed, IsReplayed}
use Rattle.std.specs.FinMap as finite
use Rattle.std.proofs.lemmas.List.{append_assoc, length-append}
use Rattle.cep_base.specs.Spelling.{IsUnbroken}
use Rattle.cep_base.specs.Talk.{ins, outs}
use Rattle.cep_base.specs.declared.console.Event.{Event}
use Rattle.cep_base.specs.declared.console.Event.TheVariants.{End}
use Rattle.cep_step.specs.Deeds.{Position, Deed, start_of}
use Rattle.cep_choice.specs.TypedLine.{Ended, ReadsLine, IsLine, Chooses}
use Rattle.cep_lines.specs.Lines.{line, header}
use Rattle.cep_lines.specs.declared.end_word.EndWord.{EndWord}
use Rattle.cep_lines.specs.declared.end_word.EndWord.TheVariants.{Quiet, Input, Turns, Offers, Typed, Atom, State}
use Rattle.cep_log.specs.declared.log.Log.{Log}
use Rattle.cep_log.specs.declared.log.LogEnd.{LogEnd}
use Rattle.cep_log.specs.Transcript.{IsOneLine}
use Rattle.cep_log.specs.Holding.{HoldsDeed, HoldsEnd, HoldsDeeds}
use Rattle.cep_run.specs.declared.choice.Choice.TheVariants.{Place, NoMore}
use Rattle.cep_run.specs.Choice.{Hears, chosen, no_more, room_after}
use Rattle.cep_run.specs.Run.{Question, Turn, Ending, IsQuestion, IsTurn, AreTurns, EndsAt, quiet_end, turns_end, input_end, Run, whole_supply, deeds_of, unproved}
use Rattle.cep_run.specs.Dialogue.{Dialogue, events_of}

-- Each step of a legal log is answered, where the player decides all that is to be decided.

-- what is proved is derivable
derivable : (program : Parts) (height : ℕ) (proofs : List ProofTree) (atoms : List AtomTree) → AreProofs program height proofs atoms → AllByRecursion (IsDerivable program height) atoms
derivable program height [] [] are = tt
derivable program height [] (a ∷ atoms) are = absurd are
derivable program height (proof ∷ proofs) [] are = absurd are
derivable program height (proof ∷ proofs) (a ∷ atoms) are = (record { proof = proof; proves = are.0; low = are.1 }, derivable program height proofs atoms are.2)

-- What is known of steps and offers.
pub record Known : Type 0 where
  pub lead : (signature : Signature) (rule : Rule) (values : List Tree) (old new : Multiset) → IsTypedRule signature rule → IsDividedRule signature rule → AreValues signature.cons rule.kinds values
      → IsState signature old → MakesFit rule values → Step signature rule values old new → IsState signature new
  pub contained : (signature : Signature) (rule : Rule) (values : List Tree) (old new : Multiset) → Step signature rule values old new → IsContained (left_of signature rule values) old
  pub there : (program : Parts) (height : ℕ) (state : Multiset) (group : ℕ) → IsProgram program → IsState program.signature state → (offers : List Offer) × AreOffers program height state group offers

-- what stands among offers stands at a place
place_of : (offers : List Offer) (offer : Offer) → Contains offers offer → (place : ℕ) × (slice_get offers place ≡ Some offer)
place_of offers offer among = (among.0, get_at offers among.0 offer among.1 among.2)
  where
    get_at : (offers : List Offer) (n : ℕ) (offer : Offer) → n < length offers → get_or offers n offer ≡ offer → slice_get offers n ≡ Some offer
    get_at [] n offer low is = absurd (omega (arith, low))
    get_at (one ∷ offers) zero offer low is = ap Some is
    get_at (one ∷ offers) (suc n) offer low is = get_at offers n offer (omega (arith, low)) is

module _ (known : Known) (program : Parts) (is : IsProgram program) (interactive : AreInteractive program) (settings : Settings) where
  offer_of : (old new : Spot) (step : LogStep) (legal : IsLegalStep program settings.height old new step) → IsOffer program settings.height old.state legal.rule.group step.offer
  offer_of old new step legal = record {
    in_group = record { rule = legal.rule; numbered = legal.machine.numbered; grouped = refl };
    applies = record {
      rule = legal.rule;
      numbered = legal.machine.numbered;
      values = legal.machine.values;
      contained = known.contained program.signature legal.rule step.offer.values old.state new.state legal.machine.steps.step;
      derivable = derivable program settings.height step.proofs (full_instances step.offer.values legal.rule.backs) legal.machine.proved;
    };
  }

  -- the group of a step's rule is the one that is asked
  asked_of : (height : ℕ) (state : Multiset) (stage group : ℕ) (offer : Offer) → IsOffer program height state group offer
      → (group ≡ own_group stage) ⊎ ((group ≡ leaving_group stage) × ¬ HasOffer program height state (own_group stage)) → IsAsked program height state stage group
  asked_of height state stage group offer of (inl own) = inl (own, (offer, of))
  asked_of height state stage group offer of (inr leaving) = inr (leaving.0, leaving.1, (offer, of))

  -- the stage of a step is one of the program's, and so the player decides in it
  in_stage : (stage group : ℕ) → group < 2 * length program.stages → (group ≡ own_group stage) ⊎ (group ≡ leaving_group stage) → IsSomeAnd (slice_get program.stages stage) (λ it. it.interactive ≡ true)
  in_stage stage group low at = all_interactive program.stages interactive stage (elim at [
    | inl own ↦ omega (arith, low, own)
    | inr leaving ↦ omega (arith, low, leaving)
  ])
    where
      all_interactive : (stages : List Stage) → AllByRecursion (λ (it : Stage). it.interactive ≡ true) stages → (n : ℕ) → n < length stages → IsSomeAnd (slice_get stages n) (λ it. it.interactive ≡ true)
      all_interactive [] all n low = absurd (omega (arith, low))
      all_interactive (it ∷ stages) all zero low = all.0
      all_interactive (it ∷ stages) all (suc n) low = all_interactive stages all.1 n (omega (arith, low))

  -- how the offer at a place comes to be done, with no word drawn
  record IsDecided (stage group n place drawn : ℕ) : Type 0 where
    typed : List ℕ
    decision : Decision program settings.seed stage group n place drawn typed drawn

  decided : (stage group n place drawn : ℕ) → IsSomeAnd (slice_get program.stages stage) (λ it. it.interactive ≡ true) → (group ≡ own_group stage) ⊎ (group ≡ leaving_group stage) → 0 < n
      → IsDecided stage group n place drawn
  decided stage group n place drawn players (inl own) some = record { typed = typed_for place; decision = by_player (players, inl own) refl refl }
  decided stage group zero place drawn players (inr leaving) some = absurd (omega (arith, some))
  decided stage group (suc zero) place drawn players (inr leaving) some = record {
    typed = [];
    decision = alone (λ are. elim are.1 [ inl own ↦ omega (arith, own, leaving) | inr several ↦ omega (arith, several) ]) refl refl refl;
  }
  decided stage group (suc (suc n)) place drawn players (inr leaving) some = record { typed = typed_for place; decision = by_player (players, inr (omega arith)) refl refl }

  -- a rule is of one group or the other
  one_of : (stage group : ℕ) {X : Type 0} → (group ≡ own_group stage) ⊎ ((group ≡ leaving_group stage) × X) → (group ≡ own_group stage) ⊎ (group ≡ leaving_group stage)
  one_of stage group (inl own) = inl own
  one_of stage group (inr leaving) = inr leaving.0

  record IsTypedSo (old : Spot) (step : LogStep) (drawn : ℕ) : Type 0 where
    typed : List ℕ
    answer : IsTypedFor program settings old step.offer drawn typed drawn

  answer_there : (old new : Spot) (step : LogStep) (drawn : ℕ) → IsState program.signature old.state → IsLegalStep program settings.height old new step → HasFewOffers program settings.height old → IsTypedSo old step drawn
  answer_there old new step drawn state legal few = record {
    typed = decision.typed;
    answer = record {
      group = group;
      offers = offers.0;
      posed = record { asked = asked; are = offers.1; few = few group offers.0 asked offers.1 };
      place = found.0;
      there = found.1;
      decided = decision.decision;
    };
  }
    where
      group : ℕ
      group = legal.rule.group

      asked : IsAsked program settings.height old.state old.stage group
      asked = asked_of settings.height old.state old.stage group step.offer (offer_of old new step legal) legal.machine.in_turn

      offers : (offers : List Offer) × AreOffers program settings.height old.state group offers
      offers = known.there program settings.height old.state group is state

      found : (place : ℕ) × (slice_get offers.0 place ≡ Some step.offer)
      found = place_of offers.0 step.offer (offers.1.each step.offer (offer_of old new step legal))

      at : (group ≡ own_group old.stage) ⊎ (group ≡ leaving_group old.stage)
      at = one_of old.stage group legal.machine.in_turn

      low : group < 2 * length program.stages
      low = let grouped = holds_at (IsGroupedRule (length program.stages)) program.rules step.offer.rule legal.rule is.grouped legal.machine.numbered in grouped.in_range

      decision : IsDecided old.stage group (length offers.0) (found.0 + 1) drawn
      decision = decided old.stage group (length offers.0) (found.0 + 1) drawn (in_stage old.stage group low at) at (let within = slice_get_within offers.0 found.0 step.offer found.1 in omega (arith, within))

  pub answered_there : (steps : List LogStep) (old last : Spot) (drawn : ℕ) → IsState program.signature old.state → AreLegalSteps program settings.height steps old last → HaveFewOffers program settings.height old steps
      → (typed : List ℕ) × (end : Spot) × AreTypedFor program settings old steps drawn typed end
  answered_there [] old last drawn state legal few = ([], old, (refl, refl))
  answered_there (step ∷ steps) old last drawn state (new, legal, later) few =
      let first = answer_there old new step drawn state legal few.0 in
      let others = answered_there steps new last drawn (state_after old new step state legal) later (few.1 new legal) in
      (first.typed ++ others.0, others.1, (new, first.typed, others.0, drawn, legal, first.answer, others.2, refl))
    where
      state_after : (old new : Spot) (step : LogStep) → IsState program.signature old.state → IsLegalStep program settings.height old new step → IsState program.signature new.state
      state_after old new step state legal =
          let typed = holds_at (IsTypedRule program.signature) program.rules step.offer.rule legal.rule is.typed_rules legal.machine.numbered in
          let divided = holds_at (IsDividedRule program.signature) program.rules step.offer.rule legal.rule is.divided_rules legal.machine.numbered in
          known.lead program.signature legal.rule step.offer.values old.state new.state typed divided legal.machine.values state legal.machine.steps.fit legal.machine.steps.step

-- Decisions

-- no LF stands in a line
unbroken_line : (bytes : List ℕ) → IsOneLine bytes → IsUnbroken bytes
unbroken_line bytes is = all_weaker (λ byte. (byte ≢ 10) × (byte ≢ 13)) (λ byte. byte ≢ 10) bytes (λ byte both. both.0) is

-- a supply by its parts
abbrev supply : List ℕ → ℕ → ℕ → Supply
supply come taken drawn = record { come = come; taken = taken; drawn = drawn }

same_supply : (come come' : List ℕ) (taken taken' drawn drawn' : ℕ) → come ≡ come' → taken ≡ taken' → drawn ≡ drawn' → supply come taken drawn ≡ supply come' taken' drawn'
same_supply come come' taken taken' drawn drawn' here there more = rw (here, there, more) refl

-- what was decided of a place: how, with the supply that it leaves
record IsSettled (program : Parts) (seed stage group n place : ℕ) (from to : Supply) : Type 0 where
  how : How
  decides : Decides program seed stage group n from how (Place place) to

module _ (numbers : (number : ℕ) → IsOneLine (decimal number)) (program : Parts) (seed stage group n place : ℕ)
    (some : 0 < place) (within : place ≤ n) (others : List ℕ) (taken drawn : ℕ) where
  -- the player types the line of a place, which is read and chooses it
  hears_place : taken + length (typed_for place ++ others) ≤ MOST_TYPED
      → Hears n (typed_for place ++ others) taken (ins (typed_for place)) (Place place) others (taken + length (typed_for place))
  hears_place room =
      chosen (Ended (decimal place)) (decimal place) (length (decimal place) + 1)
      (append_assoc (decimal place) (10 ∷ []) others, unbroken_line (decimal place) (numbers place), short, refl, refl)
      (inl refl) (some, within, inl refl)
      (ap (λ more. taken + more) (length-append (decimal place) (10 ∷ [])))
    where
      short : length (decimal place) < room_after taken
      short =
          let all = length-append (typed_for place) others in
          let line = length-append (decimal place) (10 ∷ []) in
          omega (arith, room, all, line)

  settled : (typed : List ℕ) (drawn' : ℕ) → taken + length (typed ++ others) ≤ MOST_TYPED
      → Decision program seed stage group n place drawn typed drawn'
      → IsSettled program seed stage group n place (record { come = typed ++ others; taken = taken; drawn = drawn })
      (record { come = others; taken = taken + length typed; drawn = drawn' })
  settled typed drawn' room (by_player players line same) =
      subst (λ (typed : List ℕ). IsSettled program seed stage group n place (record { come = typed ++ others; taken = taken; drawn = drawn }) (record { come = others; taken = taken + length typed; drawn = drawn' }))
      (sym line)
      (record {
        how = Heard (ins (typed_for place));
        decides = (players, hears_place (subst (λ (typed : List ℕ). taken + length (typed ++ others) ≤ MOST_TYPED) line room), same);
      })
  settled typed drawn' room (alone nobody one none same) = record {
    how = Lone;
    decides = (nobody, one, (ap Place (omega (arith, some, within, one))), same_supply others (typed ++ others) (taken + length typed) taken drawn' drawn (rw none refl) (let size = ap length none in omega (arith, size)) same);
  }
  settled typed drawn' room (by_seed nobody several is none more) = record {
    how = Drawn;
    decides = (nobody, several, (ap Place is), same_supply others (typed ++ others) (taken + length typed) taken drawn' (drawn + 1) (rw none refl) (let size = ap length none in omega (arith, size)) more);
  }

-- Turns

-- the turn in which a step is done from a position to a spot
abbrev turn_by : Position → Spot → Rule → LogStep → ℕ → List Offer → ℕ → How → Supply → Turn
turn_by at new rule step group offers place how left = record {
  question = record { group = group; offers = offers; how = how; choice = Place (place + 1) };
  deed = record { before = at; offer = step.offer; rule = rule; proofs = step.proofs; after = record { spot = new; turns = at.turns + 1 } };
  left = left;
}

module _ (numbers : (number : ℕ) → IsOneLine (decimal number)) (program : Parts) (settings : Settings) where
  turn_is : (at : Position) (step : LogStep) (new : Spot) (legal : IsLegalStep program settings.height at.spot new step) (from to : Supply) (drawn drawn' : ℕ) (typed : List ℕ)
      (answer : IsTypedFor program settings at.spot step.offer drawn typed drawn') → at.turns < settings.limit
      → (settled_so : IsSettled program settings.seed at.spot.stage answer.group (length answer.offers) (answer.place + 1) from to)
      → IsTurn program settings at from (turn_by at new legal.rule step answer.group answer.offers answer.place settled_so.how to)
  turn_is at step new legal from to drawn drawn' typed answer remain settled_so = record {
    here = refl;
    asks = record { remain = remain; asked = answer.posed.asked; offered = answer.posed.are; few = answer.posed.few; decided = settled_so.decides };
    chosen = record { place = answer.place; chosen = refl; at_place = answer.there; of_rule = legal.machine.numbered };
    does = record { step = legal.machine; counted = refl };
  }

  -- The turns in which steps are done, from a position to the last spot, with these bytes typed.
  pub record HaveTurns (at : Position) (steps : List LogStep) (last : Spot) (taken drawn : ℕ) (typed : List ℕ) : Type 0 where
    pub turns : List Turn
    pub to : Position
    pub left : Supply
    pub done : AreTurns program settings at (record { come = typed; taken = taken; drawn = drawn }) turns to left
    pub hold : AllZip HoldsDeed (deeds_of turns) steps
    pub spot : to.spot ≡ last
    pub counted : to.turns ≡ at.turns + length steps
    pub none : left.come ≡ []
    pub taken_is : left.taken ≡ taken + length typed

  one_more_turn : (at : Position) (step : LogStep) (steps : List LogStep) (new last : Spot) (first others : List ℕ) (taken drawn drawn' : ℕ)
      → at.turns < settings.limit → taken + length (first ++ others) ≤ MOST_TYPED
      → IsLegalStep program settings.height at.spot new step
      → IsTypedFor program settings at.spot step.offer drawn first drawn'
      → HaveTurns (record { spot = new; turns = at.turns + 1 }) steps last (taken + length first) drawn' others
      → HaveTurns at (step ∷ steps) last taken drawn (first ++ others)
  one_more_turn at step steps new last first others taken drawn drawn' remain fits legal answer rest =
      let within = slice_get_within answer.offers answer.place step.offer answer.there in
      let sizes = length-append first others in
      let from : Supply = supply (first ++ others) taken drawn in
      let to : Supply = supply others (taken + length first) drawn' in
      let settled_so = settled numbers program settings.seed at.spot.stage answer.group (length answer.offers) (answer.place + 1) (omega arith) (omega (arith, within)) others taken drawn first drawn' fits answer.decided in
      record {
        turns = turn_by at new legal.rule step answer.group answer.offers answer.place settled_so.how to ∷ rest.turns;
        to = rest.to;
        left = rest.left;
        done = (turn_is at step new legal from to drawn drawn' first answer remain settled_so, rest.done);
        hold = (record { offer = refl; proofs = refl; stage = legal.stage; mid = legal.mid }, rest.hold);
        spot = rest.spot;
        counted = (let later = rest.counted in omega (arith, later));
        none = rest.none;
        taken_is = (let later = rest.taken_is in omega (arith, later, sizes));
      }

  pub turns_there : (at : Position) (steps : List LogStep) (last : Spot) (typed : List ℕ) (taken drawn : ℕ)
      → at.turns + length steps ≤ settings.limit → taken + length typed ≤ MOST_TYPED
      → AreTypedFor program settings at.spot steps drawn typed last
      → HaveTurns at steps last taken drawn typed
  turns_there at [] last typed taken drawn few room answered = record {
    turns = [];
    to = at;
    left = record { come = typed; taken = taken; drawn = drawn };
    done = (refl, refl);
    hold = tt;
    spot = sym answered.1;
    counted = omega arith;
    none = answered.0;
    taken_is = (let size = ap length answered.0 in omega (arith, size));
  }
  turns_there at (step ∷ steps) last typed taken drawn few room (new, first, others, drawn', legal, answer, later, whole) =
      let fits : taken + length (first ++ others) ≤ MOST_TYPED = subst (λ (typed : List ℕ). taken + length typed ≤ MOST_TYPED) whole room in
      let sizes = length-append first others in
      let after : Position = record { spot = new; turns = at.turns + 1 } in
      let rest = turns_there after steps last others (taken + length first) drawn' (omega (arith, few)) (omega (arith, fits, sizes)) later in
      subst (HaveTurns at (step ∷ steps) last taken drawn) (sym whole) (one_more_turn at step steps new last first others taken drawn drawn' (omega (arith, few)) fits legal answer rest)

-- One last spot

-- A step by a rule with values leads from a state to one state.
abbrev pub LeadToOne : Type 0
LeadToOne = (signature : Signature) (rule : Rule) (values : List Tree) (old one other : Multiset) → Step signature rule values old one → Step signature rule values old other → one ≡ other

module _ (lead : LeadToOne) (program : Parts) (settings : Settings) where
  one_spot : (old one other : Spot) (step : LogStep) → IsLegalStep program settings.height old one step → IsLegalStep program settings.height old other step → one ≡ other
  one_spot old one other step is is' =
      let same : is.rule ≡ is'.rule = cc (is.machine.numbered, is'.machine.numbered) in
      let stages : one.stage ≡ other.stage = is.machine.steps.stage ∙ (ap (λ (rule : Rule). stage_after rule old.stage) same ∙ sym is'.machine.steps.stage) in
      let states : one.state ≡ other.state = lead program.signature is'.rule step.offer.values old.state one.state other.state
      (subst (λ (rule : Rule). Step program.signature rule step.offer.values old.state one.state) same is.machine.steps.step) is'.machine.steps.step in
      rw (stages, states) refl

  pub one_last : (steps : List LogStep) (old one other : Spot) (drawn : ℕ) (typed : List ℕ) → AreLegalSteps program settings.height steps old one → AreTypedFor program settings old steps drawn typed other → one ≡ other
  one_last [] old one other drawn typed legal answered = legal ∙ sym answered.1
  one_last (step ∷ steps) old one other drawn typed (next, legal, later) (new, first, others, drawn', legal', answer, answered, whole) =
      one_last steps new one other drawn' others (subst (λ (next : Spot). AreLegalSteps program settings.height steps next one) (one_spot old next new step legal legal') later) answered

-- The end

-- A run ends at a position with a word, and its log says so.
record HasEnd (program : Parts) (settings : Settings) (at : Position) (from : Supply) (word : EndWord) : Type 0 where
  asked : Option Question
  to : Supply
  ends : EndsAt program settings at from word asked to

module _ (program : Parts) (settings : Settings) (at : Position) (from : Supply) (none : from.come ≡ []) where
  -- nothing more comes, where more may be typed
  hears_none : (n : ℕ) → from.taken < MOST_TYPED → Hears n from.come from.taken (End ∷ []) NoMore [] from.taken
  hears_none n room = no_more 0 (none, refl, (omega (arith, room)), refl, refl) (omega arith)

  end_there : (word : EndWord) (turns typed : ℕ) → at.turns ≡ turns → from.taken ≡ typed → CanEnd program settings at.spot turns typed word
      → (word ≡ Quiet → IsQuiet program settings.height at.spot.state at.spot.stage) → HasEnd program settings at from word
  end_there Quiet turns typed counted taken can quiet = record { asked = None; to = from; ends = quiet_end (quiet refl) refl }
  end_there Input turns typed counted taken (asked, remain, room) quiet =
      let posed = asked.posed in
      let question : Question = record { group = asked.group; offers = asked.offers; how = Heard (End ∷ []); choice = NoMore } in
      let to : Supply = record { come = []; taken = from.taken; drawn = from.drawn } in
      record {
        asked = Some question;
        to = to;
        ends = input_end (record {
          remain = omega (arith, remain, counted);
          asked = posed.asked;
          offered = posed.are;
          few = posed.few;
          decided = (asked.players, hears_none (length asked.offers) (omega (arith, room, taken)), refl);
        }) refl;
      }
  end_there Turns turns typed counted taken (all, some) quiet = record { asked = None; to = from; ends = turns_end some.1 (counted ∙ all) refl }
  end_there Offers turns typed counted taken can quiet = absurd can
  end_there Typed turns typed counted taken can quiet = absurd can
  end_there Atom turns typed counted taken can quiet = absurd can
  end_there State turns typed counted taken can quiet = absurd can

-- what holds of two parts of an end that is there
both_of : {P Q : LogEnd → Type 0} (found : Option LogEnd) → IsSomeAnd found P → IsSomeAnd found Q → (end : LogEnd) × (found ≡ Some end) × P end × Q end
both_of None is is' = absurd is
both_of (Some end) is is' = (end, refl, is, is')

end_held : (P : LogEnd → Type 0) (found : Option LogEnd) (end : LogEnd) → found ≡ Some end → P end → IsSomeAnd found P
end_held P found end same is = subst (λ (found : Option LogEnd). IsSomeAnd found P) (sym same) is

-- The log is played

module _ (numbers : (number : ℕ) → IsOneLine (decimal number)) (lead : LeadToOne) (program : Parts) (settings : Settings) (log : Log) (typed : List ℕ)
    (one : (turns turns' : List Turn) (ending ending' : Ending) (events events' : List Event) (rest rest' : List ℕ) → Dialogue program settings typed turns ending events rest → Dialogue program settings typed turns' ending' events' rest'
    → (map unproved turns ≡ map unproved turns') × (ending ≡ ending') × (rest ≡ rest')) where
  pub played : IsLegal program log → CanBePlayed program settings log typed → IsReplayed program settings log typed
  played legal can = record {
    turns = have.turns;
    ending = ending;
    events = outs (header program settings.height) ++ events_of program have.turns ending;
    rest = found.to.come;
    dialogue = dialogue;
    holds = record {
      height_is = sym can.height;
      stage = legal.stage;
      start = legal.start;
      steps = have.hold;
      listed = legal.of_program.listed;
      ended = end_held (HoldsEnd end.0.word have.to.spot.state) log.end end.0 end.1 (record { word_is = refl; state_is = end.2.state ∙ ap (λ (spot : Spot). finite.entries spot.state) (sym here) });
    };
    only = λ others ended said left is. one others have.turns ended ending said (outs (header program settings.height) ++ events_of program have.turns ending) left found.to.come is dialogue;
  }
    where
      have : HaveTurns numbers program settings (start_of program) log.steps can.last 0 0 typed
      have = turns_there numbers program settings (start_of program) log.steps can.last typed 0 0 (let few = can.turns in omega (arith, few)) (let few = can.few in omega (arith, few)) can.answered

      same : legal.last ≡ can.last
      same = one_last lead program settings log.steps (start_spot program) legal.last can.last 0 typed (subst (λ (height : ℕ). AreLegalSteps program height log.steps (start_spot program) legal.last) (sym can.height) legal.steps) can.answered

      -- the run ends where the log does
      here : have.to.spot ≡ legal.last
      here = have.spot ∙ sym same

      end : (end : LogEnd) × (log.end ≡ Some end) × IsLegalEnd program log.height legal.last end × CanEnd program settings can.last (length log.steps) (length typed) end.word
      end = both_of log.end legal.ending can.ended

      found : HasEnd program settings have.to have.left end.0.word
      found = end_there program settings have.to have.left have.none end.0.word (length log.steps) (length typed) (let counted = have.counted in omega (arith, counted)) (let taken = have.taken_is in omega (arith, taken))
          (subst (λ (spot : Spot). CanEnd program settings spot (length log.steps) (length typed) end.0.word) (sym have.spot) end.3)
          (λ quiet. subst (λ (spot : Spot). IsQuiet program settings.height spot.state spot.stage) (sym here) (subst (λ (height : ℕ). IsQuiet program height legal.last.state legal.last.stage) (sym can.height) (end.2.quiet quiet)))

      ending : Ending
      ending = record { word = end.0.word; state = have.to.spot.state; question = found.asked }

      dialogue : Dialogue program settings typed have.turns ending (outs (header program settings.height) ++ events_of program have.turns ending) found.to.come
      dialogue = record {
        left = found.to;
        run = record { last = have.to; between = have.left; done = have.done; ends = found.ends; state = refl };
        whole = refl;
        rest_is = refl;
      }
