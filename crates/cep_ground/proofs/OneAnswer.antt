-- A text declares one program at most, or is refused for one fault; before that, what nodes in prefix order say of terms.
use Rattle.std.proofs.Common.{◌≡◌, inl, inr, ⊎_elim, ℕ, List, [], ◌++◌, length, refl, sym, ◌∙◌, arith, append_assoc, length-append, Contains, ◌||◌, ◌∷◌, map, ap, subst, ◌==◌, Bool, true, ◌&&◌, ◌⊎◌, zero, suc, ◌+◌, ◌*◌, ◌<◌, ◌≤◌, take, ◌-◌, false, get_or, drop, min, add-one}
use Rattle.cep_term.specs.Tree.{Tree, Trees, variable, node, more, term_nodes, argument_nodes, Occurs, OccursAmong, AtomTree}
use Rattle.cep_types.specs.Heads.{Head, var, con, number_of, head_at, heads_from}
use Rattle.cep_infer.specs.Heads.{argument_count, heads_of, heads_among, IsAtomBy, AreAtomsBy}
use Rattle.cep_base.proofs.Elements.{contains_cases, contains_none, contains_either, contains_behind, contains_left, contains_right, contains_first, contains_flat, flat_cases, map_cases, contains_map, all_of, all_at}
use Rattle.std.proofs.lemmas.List.{append-nil}
use Rattle.std.specs.Option.{option_and_then}
use Rattle.std.specs.List.{AllZip, flat_map, AllByRecursion}
use Rattle.cep_source.specs.Variables.{blanks_after, blanks_behind, Occurrence}
use Rattle.cep_source.specs.Starts.{turns_said, is_node_alike, are_nodes_alike, is_written_alike}
use Rattle.cep_parse.specs.declared.raw.RawAtom.{RawAtom}
use Rattle.cep_parse.specs.declared.raw.RawElem.{RawElem}
use Rattle.cep_term.specs.Multiset.{Multiset}
use Rattle.cep_rule.specs.declared.rule.Rule.{Rule}
use Rattle.cep_rule.specs.declared.parts.Parts.{Parts}
use Rattle.cep_rule.specs.Patterns.{PremiseTree, ClauseTree}
use Rattle.cep_source.specs.Items.{Source, ClauseItem, RuleItem, TraceItem, said, rules_of}
use Rattle.cep_types.specs.Sites.{clause_scope, Mistyped}
use Rattle.cep_infer.specs.Meaning.{is_fact_by, ArePremisesBy, IsRuleBy, IsClauseBy, IsStartBy, AreParts, signature_of}
use Rattle.std.specs.Prelude.{Result, Ok, Some, slice_get, None, Err}
use Rattle.std.proofs.lemmas.Option.{slice_get-map, slice_get_within}
use Rattle.std.specs.Str.{bytes_eq}
use Rattle.std.proofs.lemmas.Bool.{eqb-true, cases_lt, ltb-true, ltb-false}
use Rattle.std.proofs.lemmas.Slice.Eq.{bytes_eq-Decides}
use Rattle.cep_parse.specs.declared.raw.Span.{Span}
use Rattle.cep_parse.specs.declared.raw.RawKind.{RawKind}
use Rattle.cep_parse.specs.declared.raw.RawNode.{RawNode}
use Rattle.cep_rule.specs.Typing.{is_fact}
use Rattle.cep_infer.specs.States.{AreClosed}
use Rattle.cep_lex.specs.declared.token.Token.{Token}
use Rattle.cep_lex.specs.declared.fault.LexFault.{LexFault}
use Rattle.cep_lex.specs.Cuts.{AreTokens, IsLexed}
use Rattle.cep_parse.specs.declared.raw.RawItem.{RawItem}
use Rattle.cep_parse.specs.Symbols.{symbols_of}
use Rattle.cep_parse.specs.Grammar.{File}
use Rattle.cep_infer.specs.Shapes.{IsSource}
use Rattle.cep_ground.specs.Texts.{Spells, IsBound, IsClean}
use Rattle.cep_base.specs.declared.place.Pos.{Pos}
use Rattle.cep_lex.specs.Places.{IsPlaceAfter}
use Rattle.cep_refusal.specs.declared.fault.Fault.{Fault}
use Rattle.cep_refusal.specs.declared.refusal.Refusal.{Refusal}
use Rattle.cep_refusal.specs.declared.reason.Reason.{Reason}
use Rattle.cep_refusal.specs.Reasons.{number, phase}
use Rattle.cep_refusal.specs.Told.{Tells}
use Rattle.cep_ground.specs.Refusals.{IsWrong, IsRefusedFor, IsUngroundedIn}
use Rattle.cep_ground.proofs.EarliestPlaces.{later_place, one_place, joined, at_pos, least_at, both_places}
use Rattle.cep_ground.proofs.NameLaws.{there_within}
use Rattle.std.proofs.Math.Seq.{take-length}
use Rattle.cep_base.proofs.Lists.{none_some, some_same, get_mapped, all_from_places, holds_at}
use Rattle.cep_ground.specs.Earliest.{marked_among, all_marked, IsEarliest}
use Rattle.cep_infer.specs.Places.{unbound_of, unbound_at, ArePlaceLists, backs_at, ArePlaces}
use Rattle.cep_base.proofs.Members.{in_got, to_contains}
use Rattle.cep_rule.specs.Binding.{needed_of}
use Rattle.cep_rule.specs.Groundness.{Known, nothing, known_after, known_after_all, CallsAt, IsBad, IsUngroundedAt, IsGrounded}
use Rattle.cep_modes.specs.Grounding.{AreMarks, AreAllMarks}
use Rattle.cep_base.specs.declared.limits.TheConstants.{MOST_TEXT}
use Rattle.cep_parse.specs.declared.fault.ParseFault.{ParseFault}
use Rattle.cep_parse.specs.Files.{IsParsed}
use Rattle.cep_refusal.specs.declared.reason.Reason.TheVariants.{BadByte, NameLong, Unexpected, Nested, Unbound, Ungrounded, TooLong}
use Rattle.cep_refusal.specs.First.{wrong, IsFirst, IsNoLater, IsToldFirst}
use Rattle.cep_ground.specs.Refusals.IsWrong.{too_long, bad_byte, name_long, unexpected, nested, misnamed, mistyped, unbound, ungrounded}
use Rattle.cep_faults.specs.Misnamed.{Misnamed}
use Rattle.cep_infer.specs.Resolved.{IsRefused}
use Rattle.cep_source.specs.declared.space.Space.TheVariants as space
use Rattle.cep_parse.specs.declared.raw.RawElem.TheVariants as elem
use Rattle.cep_parse.specs.declared.raw.RawKind.TheVariants as kind
use Rattle.cep_lex.specs.declared.fault.LexFault.TheVariants as lex
use Rattle.cep_parse.specs.declared.fault.ParseFault.TheVariants as parse

-- What the nodes of terms in prefix order say of them.

-- two lists of terms that are as many and have the same nodes before others are the same
pub record AreSame {A : Type 0} (one other : A) (heads heads' : List Head) : Type 0 where
  pub same : one ≡ other
  pub behind : heads ≡ heads'

mutual
  term_once : (t u : Tree) (heads heads' : List Head) → heads_of t ++ heads ≡ heads_of u ++ heads' → AreSame t u heads heads'
  term_once (variable v) (variable w) heads heads' e = record { same = cc; behind = cc }
  term_once (variable v) (node d us) heads heads' e = absurd cc
  term_once (node c ts) (variable w) heads heads' e = absurd cc
  term_once (node c ts) (node d us) heads heads' e =
      let count : argument_count ts ≡ argument_count us = cc in
      let head : c ≡ d = cc in
      let both = terms_once ts us heads heads' count cc in
      let same = both.same in
      record { same = cc; behind = both.behind }

  pub terms_once : (ts us : Trees) (heads heads' : List Head) → argument_count ts ≡ argument_count us → heads_among ts ++ heads ≡ heads_among us ++ heads' → AreSame ts us heads heads'
  terms_once Trees.none Trees.none heads heads' count e = record { same = refl; behind = e }
  terms_once Trees.none (more u us) heads heads' count e = absurd (omega (arith, count))
  terms_once (more t ts) Trees.none heads heads' count e = absurd (omega (arith, count))
  terms_once (more t ts) (more u us) heads heads' count e =
      let first = term_once t u (heads_among ts ++ heads) (heads_among us ++ heads') (sym (append_assoc (heads_of t) (heads_among ts) heads) ∙ e ∙ append_assoc (heads_of u) (heads_among us) heads') in
      let fewer : argument_count ts ≡ argument_count us = omega (arith, count) in
      let rest = terms_once ts us heads heads' fewer first.behind in
      let same = first.same in
      let others = rest.same in
      record { same = cc; behind = rest.behind }

-- there are as many nodes as in the terms
mutual
  pub term_heads : (t : Tree) → term_nodes t ≡ length (heads_of t)
  term_heads (variable v) = refl
  term_heads (node c args) = let e = terms_nodes args in omega (arith, e)

  pub terms_nodes : (ts : Trees) → argument_nodes ts ≡ length (heads_among ts)
  terms_nodes Trees.none = refl
  terms_nodes (more t rest) = grind (arith, term_heads t, length-append (heads_of t) (heads_among rest), terms_nodes rest)

-- a variable among the nodes occurs in the terms
mutual
  pub term_occurs : (t : Tree) (v : ℕ) → Contains (heads_of t) (var v) → Occurs v t
  term_occurs (variable w) v there = ⊎_elim (λ (here : var w ≡ var v). cc) (λ later. absurd (contains_none (var v) later)) (contains_cases (var w) [] (var v) there)
  term_occurs (node c args) v there = ⊎_elim (λ (here : con c (argument_count args) ≡ var v). absurd cc) (λ later. terms_occur args v later) (contains_cases (con c (argument_count args)) (heads_among args) (var v) there)

  pub terms_occur : (ts : Trees) (v : ℕ) → Contains (heads_among ts) (var v) → OccursAmong v ts
  terms_occur Trees.none v there = absurd (contains_none (var v) there)
  terms_occur (more t rest) v there = ⊎_elim (λ left. inl (term_occurs t v left)) (λ right. inr (terms_occur rest v right)) (contains_either (heads_of t) (heads_among rest) (var v) there)

-- A text declares one program at most.

pub atom_once : (source : Source) (vars : List (List ℕ)) (blanks : ℕ) (raw : RawAtom) (a b : AtomTree) → IsAtomBy source vars blanks raw a → IsAtomBy source vars blanks raw b → a ≡ b
atom_once source vars blanks raw a b one other = grind (arith, terms_once a.args b.args [] [] (one.count ∙ sym other.count) (append-nil (heads_among a.args) ∙ one.heads ∙ sym other.heads ∙ sym (append-nil (heads_among b.args))))

atoms_once : (source : Source) (vars : List (List ℕ)) (blanks : ℕ) (raws : List RawAtom) (xs ys : List AtomTree) → AreAtomsBy source vars blanks raws xs → AreAtomsBy source vars blanks raws ys → xs ≡ ys
atoms_once source vars blanks (raw ∷ raws) (x ∷ xs) (y ∷ ys) one other = cc (atom_once source vars blanks raw x y one.0 other.0, atoms_once source vars (blanks_after blanks raw.nodes) raws xs ys one.1 other.1)
atoms_once source vars blanks raws xs ys one other = grind arith

same_premise : (p q : PremiseTree) → p.kept ≡ q.kept → p.atom ≡ q.atom → p ≡ q
same_premise p q kept atom = λ i. record { atom = atom i; kept = kept i }

premises_once : (source : Source) (vars : List (List ℕ)) (blanks : ℕ) (elems : List RawElem) (xs ys : List PremiseTree) → ArePremisesBy source vars blanks elems xs → ArePremisesBy source vars blanks elems ys → xs ≡ ys
premises_once source vars blanks (elem.Qui span ∷ elems) xs ys one other = premises_once source vars blanks elems xs ys one other
premises_once source vars blanks (elem.Stage span ∷ elems) xs ys one other = premises_once source vars blanks elems xs ys one other
premises_once source vars blanks (elem.Atom kept raw ∷ elems) (x ∷ xs) (y ∷ ys) one other =
    let atom = atom_once source vars blanks raw x.atom y.atom one.1 other.1 in
    let here = same_premise x y (one.0 ∙ ap (λ (a : AtomTree). kept || is_fact_by source a) atom ∙ sym other.0) atom in
    let rest = premises_once source vars (blanks_after blanks raw.nodes) elems xs ys one.2 other.2 in
    cc
premises_once source vars blanks elems xs ys one other = grind arith

same_rule : (r s : Rule) → r.name ≡ s.name → r.group ≡ s.group → r.vars ≡ s.vars → r.kinds ≡ s.kinds → r.premises ≡ s.premises → r.backs ≡ s.backs → r.right ≡ s.right → r.next ≡ s.next → r ≡ s
same_rule r s name group vars kinds premises backs right next = λ i. record { name = name i; group = group i; vars = vars i; kinds = kinds i; premises = premises i; backs = backs i; right = right i; next = next i }

rule_once : (source : Source) (item : RuleItem) (r s : Rule) → r.name ≡ s.name → IsRuleBy source item r → IsRuleBy source item s → r ≡ s
rule_once source item r s name one other = grind (arith, premises_once, same_rule, atoms_once)

rules_once : (source : Source) (items : List RuleItem) (xs ys : List Rule) → map (λ (rule : Rule). rule.name) xs ≡ map (λ (rule : Rule). rule.name) ys → AllZip (IsRuleBy source) items xs → AllZip (IsRuleBy source) items ys → xs ≡ ys
rules_once source (item ∷ items) (x ∷ xs) (y ∷ ys) names one other =
    let name : x.name ≡ y.name = cc in
    let others : map (λ (rule : Rule). rule.name) xs ≡ map (λ (rule : Rule). rule.name) ys = cc in
    let here = rule_once source item x y name one.0 other.0 in
    let rest = rules_once source items xs ys others one.1 other.1 in
    cc
rules_once source items xs ys names one other = grind arith

same_clause : (c d : ClauseTree) → c.vars ≡ d.vars → c.kinds ≡ d.kinds → c.head ∷ c.goals ≡ d.head ∷ d.goals → c ≡ d
same_clause c d vars kinds atoms = grind arith

clause_once : (source : Source) (item : ClauseItem) (c d : ClauseTree) → IsClauseBy source item c → IsClauseBy source item d → c ≡ d
clause_once source item c d one other =
    let vars : c.vars ≡ d.vars = one.vars_are ∙ sym other.vars_are in
    same_clause c d vars (one.kinds_are ∙ sym other.kinds_are)
    (atoms_once source d.vars 0 (clause_scope item) (c.head ∷ c.goals) (d.head ∷ d.goals) (subst (λ vs. AreAtomsBy source vs 0 (clause_scope item) (c.head ∷ c.goals)) vars one.atoms_are) other.atoms_are)

clauses_once : (source : Source) (items : List ClauseItem) (xs ys : List ClauseTree) → AllZip (IsClauseBy source) items xs → AllZip (IsClauseBy source) items ys → xs ≡ ys
clauses_once source (item ∷ items) (x ∷ xs) (y ∷ ys) one other = cc (clause_once source item x y one.0 other.0, clauses_once source items xs ys one.1 other.1)
clauses_once source items xs ys one other = grind arith

same_trace : (t u : TraceItem) (ts us : List TraceItem) → t ∷ ts ≡ u ∷ us → t ≡ u
same_trace t u ts us e = cc

start_once : (source : Source) (t u : TraceItem) (x y : Multiset) → t ≡ u → IsStartBy source t x → IsStartBy source u y → x ≡ y
start_once source t u x y same one other = let one' : IsStartBy source u x = subst (λ v. IsStartBy source v x) same one in rw (one'.start_is, atoms_once source [] 0 _ one'.atoms other.atoms one'.atoms_are other.atoms_are, ← other.start_is)

same_parts : (p q : Parts) → p.signature ≡ q.signature → p.stages ≡ q.stages → p.rules ≡ q.rules → p.clauses ≡ q.clauses → p.start_stage ≡ q.start_stage → p.start ≡ q.start → p.turns ≡ q.turns → p ≡ q
same_parts p q signature stages rules clauses start_stage start turns = λ i. record { signature = signature i; stages = stages i; rules = rules i; clauses = clauses i; start_stage = start_stage i; start = start i; turns = turns i }

pub parts_once : (source : Source) (p q : Parts) → AreParts source p → AreParts source q → p ≡ q
parts_once source p q one other =
    let trace : one.trace ≡ other.trace = same_trace one.trace other.trace one.rest other.rest (sym one.first ∙ other.first) in
    same_parts p q (one.signature_is ∙ sym other.signature_is) (one.stages_are ∙ sym other.stages_are)
    (rules_once source _ p.rules q.rules (one.rule_names_are ∙ sym other.rule_names_are) one.rules_are other.rules_are)
    (clauses_once source _ p.clauses q.clauses one.clauses_are other.clauses_are)
    (one.start_stage_is ∙ ap (λ (t : TraceItem). number_of source space.Stages (said source t.stage)) trace ∙ sym other.start_stage_is)
    (start_once source one.trace other.trace p.start q.start trace one.start_is other.start_is)
    (one.turns_are ∙ ap (λ (t : TraceItem). option_and_then (turns_said source.text) t.limit) trace ∙ sym other.turns_are)

-- Facts of a text: which atoms are facts, and what it means to be written alike.

-- what is a fact by its text is one by its signature
pub fact_by : (source : Source) (a : AtomTree) → is_fact (signature_of source) a ≡ is_fact_by source a
fact_by source a = grind (arith, slice_get-map)

both_true : (a b : Bool) → (a && b) ≡ true → (a ≡ true) × (b ≡ true)
both_true a b e = grind arith

-- nodes that are written alike, and are no variables, have one head
head_same : (source : Source) (blanks more_ : ℕ) (shape other_ : RawKind) (at at' : Span) (args args' : ℕ) → shape ≡ kind.App → other_ ≡ kind.App → said source at ≡ said source at' → args ≡ args'
    → head_at source [] blanks shape at args ≡ head_at source [] more_ other_ at' args'
head_same source blanks more_ shape other_ at at' args args' one other name count = grind arith

heads_same : (source : Source) (blanks more_ : ℕ) (ones others : List RawNode) → are_nodes_alike source ones others ≡ true → AreClosed ones → AreClosed others → heads_from source [] blanks ones ≡ heads_from source [] more_ others
heads_same source blanks more_ (one ∷ ones) (other ∷ others) alike closed closed' =
    let parts = both_true (is_node_alike source one other) (are_nodes_alike source ones others) alike in
    let node_ = both_true (bytes_eq (said source one.at) (said source other.at)) (one.args == other.args) parts.0 in
    let here = head_same source blanks more_ one.kind other.kind one.at other.at one.args other.args closed.0 closed'.0 ((bytes_eq-Decides (said source one.at) (said source other.at)).0 node_.0) (eqb-true one.args other.args node_.1) in
    let rest = heads_same source (blanks_behind blanks one.kind) (blanks_behind more_ other.kind) ones others parts.1 closed.1 closed'.1 in
    cc
heads_same source blanks more_ ones others alike closed closed' = grind arith

-- so atoms of states that are written alike are one atom
pub alike_atoms : (source : Source) (one other : RawAtom) (blanks more_ : ℕ) (a b : AtomTree) → is_written_alike source one other ≡ true → AreClosed one.nodes → AreClosed other.nodes → IsAtomBy source [] blanks one a → IsAtomBy source [] more_ other b → a ≡ b
alike_atoms source one other blanks more_ a b alike closed closed' is is' = grind (arith, both_true, atom_once, bytes_eq-Decides, eqb-true, heads_same)

-- A text spells one program at most, since its tokens and its raw file are one.

-- what the laws of tokens and of raw files say
abbrev pub LexedOnce : Type 0
LexedOnce = (text : List ℕ) (one other : Result (List Token) LexFault) → IsLexed text one → IsLexed text other → one ≡ other

-- tokens as an answer
abbrev pub Ok' : List Token → Result (List Token) LexFault
Ok' tokens = Ok tokens

-- the tokens are those of the other list
pub tokens_once : LexedOnce → (text : List ℕ) (one other : List Token) → AreTokens text one → AreTokens text other → one ≡ other
tokens_once law text one other is is' = ok_once one other (law text (Ok one) (Ok other) is is')
  where
    ok_once : (xs ys : List Token) → (the_same : Ok' xs ≡ Ok' ys) → xs ≡ ys
    ok_once xs ys e = cc

same_source : (one other : Source) → one.text ≡ other.text → one.file ≡ other.file → one ≡ other
same_source one other text file = λ i. record { text = text i; file = file i }

abbrev pub FileOnce : Type 0
FileOnce = (text : List ℕ) (tokens : List Token) (one other : List RawItem) → File (symbols_of text tokens) one → File (symbols_of text tokens) other → one ≡ other

-- a text has one source
pub source_once : LexedOnce → FileOnce → (one other : Source) → one.text ≡ other.text → IsSource one → IsSource other → one ≡ other
source_once lexed parsed one other text is is' =
    let tokens = tokens_once lexed other.text is.tokens is'.tokens (subst (λ t. AreTokens t is.tokens) text is.lexed) is'.lexed in
    let file : File (symbols_of other.text is'.tokens) one.file = subst (λ ts. File (symbols_of other.text ts) one.file) tokens (subst (λ t. File (symbols_of t is.tokens) one.file) text is.parsed) in
    same_source one other text (parsed other.text is'.tokens one.file other.file file is'.parsed)

pub program_once : LexedOnce → FileOnce → (text : List ℕ) (one other : Parts) → Spells text one → Spells text other → one ≡ other
program_once lexed parsed text one other is is' = parts_once is'.source one other (subst (λ s. AreParts s one) (source_once lexed parsed is.source is'.source (is.text_is ∙ sym is'.text_is) is.clean.is_source is'.clean.is_source) is.declared) is'.declared

-- A text is refused for one fault at most, and for some fault where anything is wrong with it.

number_within : (reason : Reason) → number reason ≤ 19
number_within reason = grind arith

-- ---- the order of faults, on numbers

abbrev IsBefore : ℕ → ℕ → ℕ → ℕ → ℕ → ℕ → Type 0
IsBefore p p' a a' n n' = (p < p') ⊎ ((p ≡ p') × ((a < a') ⊎ ((a ≡ a') × (n ≤ n'))))

one_standing : (p p' a a' n n' : ℕ) → IsBefore p p' a a' n n' → IsBefore p' p a' a n' n → (a ≡ a') × (n ≡ n')
one_standing p p' a a' n n' one other = grind arith

-- a fault is told no later than another, or the other is of an earlier phase, or stands earlier
told_or_not : (p p' a a' n n' : ℕ) → n ≤ 19 → n' ≤ 19 → IsBefore p p' a a' n n' ⊎ ((p' < p) ⊎ ((p' ≡ p) × (a' * 20 + n' < a * 20 + n)))
told_or_not p p' a a' n n' within within' = grind (arith, cases_lt)

-- ---- one refusal

pub one_refusal : (text : List ℕ) (one other : Fault) → IsRefusedFor text one → IsRefusedFor text other → one ≡ other
one_refusal text one other is is' = grind (arith, one_standing (phase one.reason) (phase other.reason) one.at other.at (number one.reason) (number other.reason) (is.first other is'.holds) (is'.first one is.holds))

-- ---- one line and column

same_place : (before : List ℕ) (one other : Pos) → IsPlaceAfter before one → IsPlaceAfter before other → one ≡ other
same_place before one other is is' =
    let again : (pos : Pos) → IsPlaceAfter before pos → IsPlaceAfter (before ++ []) pos = λ pos there. rw (append-nil before) there in
    one_place one other (later_place before [] other one is' (again one is)) (later_place before [] one other is (again other is'))

pub one_telling : (text : List ℕ) (fault : Fault) (one other : Refusal) → Tells text fault one → Tells text fault other → one ≡ other
one_telling text fault one other is is' = grind (arith, same_place (take fault.at text) one.pos other.pos is.pos is'.pos, is.reason ∙ sym is'.reason)

-- ---- where anything is wrong, something is the first

abbrev key : Fault → ℕ
key fault = fault.at * 20 + number fault.reason

module _ (text : List ℕ) (unrefused : (fault : Fault) → ¬ (IsRefusedFor text fault)) where
  -- of one phase, by place and number
  none_of_phase : (phase_ : ℕ) → ((other : Fault) → IsWrong text other → phase other.reason < phase_ → ⊥) → (bound : ℕ) (fault : Fault) → IsWrong text fault → phase fault.reason ≡ phase_ → key fault < bound → ⊥
  none_of_phase phase_ earlier zero fault is here less = omega arith
  none_of_phase phase_ earlier (suc bound) fault is here less =
      unrefused fault (record {
        holds = is;
        first = λ other is'. ⊎_elim (λ told. told) (λ before. absurd (⊎_elim
            (λ (less' : phase other.reason < phase fault.reason). earlier other is' (omega arith))
            (λ (same : (phase other.reason ≡ phase fault.reason) × (key other < key fault)). none_of_phase phase_ earlier bound other is' (same.0 ∙ here) (omega (arith, same.1)))
            before))
            (told_or_not (phase fault.reason) (phase other.reason) fault.at other.at (number fault.reason) (number other.reason) (number_within fault.reason) (number_within other.reason));
      })

  none_before : (bound : ℕ) (fault : Fault) → IsWrong text fault → phase fault.reason < bound → ⊥
  none_before zero fault is less = omega arith
  none_before (suc bound) fault is less =
      ⊎_elim
      (λ (earlier : phase fault.reason < bound). none_before bound fault is earlier)
      (λ (last : bound ≤ phase fault.reason). none_of_phase bound (none_before bound) (suc (key fault)) fault is (omega arith) (omega arith))
      (cases_lt (phase fault.reason) bound)

  pub nothing_left : (fault : Fault) → ¬ (IsWrong text fault)
  nothing_left fault is = none_before (suc (phase fault.reason)) fault is (omega arith)

-- The backward premises that call bad pairs, by their marks and by the places that a draft keeps.

-- Items of lists that are marked.

-- the first item, if it is marked, and the others that are
pub marked_split : {A : Type 0} (x : A) (xs : List A) (mark : Bool) (marks : List Bool) → marked_among (x ∷ xs) (mark ∷ marks) ≡ marked_among (x ∷ []) (mark ∷ []) ++ marked_among xs marks
marked_split x xs mark marks = grind arith

-- the marked items of one list more
marked_suc : {A : Type 0} (rest : List (List A)) (lists : List (List Bool)) (i : ℕ) (xs : List A) (marks : List Bool) → slice_get rest i ≡ Some xs → slice_get lists i ≡ Some marks → all_marked (take (suc i) rest) (take (suc i) lists) ≡ all_marked (take i rest) (take i lists) ++ marked_among xs marks
marked_suc (ys ∷ rest) (ms ∷ lists) (suc i) xs marks is is' = grind (arith, append_assoc, marked_suc rest lists i xs marks is is')
marked_suc rest lists i xs marks is is' = grind (arith, none_some, some_same, append-nil)

pub marked_next : {A : Type 0} (rest : List (List A)) (lists : List (List Bool)) (i : ℕ) (xs : List A) (marks : List Bool) → slice_get rest i ≡ Some xs → slice_get lists i ≡ Some marks → all_marked (take (i + 1) rest) (take (i + 1) lists) ≡ all_marked (take i rest) (take i lists) ++ marked_among xs marks
marked_next rest lists i xs marks is is' = ap (λ n. all_marked (take n rest) (take n lists)) (add-one i) ∙ marked_suc rest lists i xs marks is is'

-- as many of each as there are of the fewer are all that count
pub marked_whole : {A : Type 0} (n : ℕ) (rest : List (List A)) (lists : List (List Bool)) → (length rest ≤ n) ⊎ (length lists ≤ n) → all_marked (take n rest) (take n lists) ≡ all_marked rest lists
marked_whole zero (xs ∷ rest) (ms ∷ lists) few = absurd (⊎_elim (λ (h : length (xs ∷ rest) ≤ 0). omega (arith, h)) (λ (h : length (ms ∷ lists) ≤ 0). omega (arith, h)) few)
marked_whole (suc n) (xs ∷ rest) (ms ∷ lists) few = rw (marked_whole n rest lists (⊎_elim (λ (h : length (xs ∷ rest) ≤ suc n). inl (omega (arith, h))) (λ (h : length (ms ∷ lists) ≤ suc n). inr (omega (arith, h))) few))
marked_whole n rest lists few = refl

-- The item stands at a place of a list, and is marked there.
pub record IsMarkedIn {A : Type 0} (xs : List A) (marks : List Bool) (x : A) : Type 0 where
  pub place : ℕ
  pub there : slice_get xs place ≡ Some x
  pub marked : slice_get marks place ≡ Some true

pub marked_cases : {A : Type 0} (xs : List A) (marks : List Bool) (x : A) → Contains (marked_among xs marks) x → IsMarkedIn xs marks x
marked_cases (y ∷ xs) (true ∷ marks) x there = ⊎_elim
    (λ (same : y ≡ x). record { place = 0; there = ap Some same; marked = refl })
    (λ later. let rest = marked_cases xs marks x later in record { place = suc rest.place; there = rest.there; marked = rest.marked })
    (contains_cases y (marked_among xs marks) x there)
marked_cases (y ∷ xs) (false ∷ marks) x there = let rest = marked_cases xs marks x there in record { place = suc rest.place; there = rest.there; marked = rest.marked }
marked_cases xs marks x there = absurd (contains_none x there)

pub marked_there : {A : Type 0} (xs : List A) (marks : List Bool) (x : A) (place : ℕ) → slice_get xs place ≡ Some x → slice_get marks place ≡ Some true → Contains (marked_among xs marks) x
marked_there (y ∷ xs) (true ∷ marks) x (suc place) is is' = contains_behind y (marked_among xs marks) x (marked_there xs marks x place is is')
marked_there (y ∷ xs) (false ∷ marks) x (suc place) is is' = marked_there xs marks x place is is'
marked_there xs marks x place is is' = grind (arith, none_some, some_same)

-- The item stands in some list, and is marked there.
pub record IsMarkedAmong {A : Type 0} (rest : List (List A)) (lists : List (List Bool)) (x : A) : Type 0 where
  pub number : ℕ
  pub xs : List A
  pub marks : List Bool
  pub list_is : slice_get rest number ≡ Some xs
  pub marks_are : slice_get lists number ≡ Some marks
  pub inside : IsMarkedIn xs marks x

pub all_marked_cases : {A : Type 0} (rest : List (List A)) (lists : List (List Bool)) (x : A) → Contains (all_marked rest lists) x → IsMarkedAmong rest lists x
all_marked_cases (xs ∷ rest) (marks ∷ lists) x there = ⊎_elim
    (λ here. record { number = 0; xs = xs; marks = marks; list_is = refl; marks_are = refl; inside = marked_cases xs marks x here })
    (λ later. let found = all_marked_cases rest lists x later in record { number = suc found.number; xs = found.xs; marks = found.marks; list_is = found.list_is; marks_are = found.marks_are; inside = found.inside })
    (contains_either (marked_among xs marks) (all_marked rest lists) x there)
all_marked_cases rest lists x there = absurd (contains_none x there)

pub all_marked_there : {A : Type 0} (rest : List (List A)) (lists : List (List Bool)) (x : A) (number : ℕ) (xs : List A) (marks : List Bool) (place : ℕ) → slice_get rest number ≡ Some xs → slice_get lists number ≡ Some marks → slice_get xs place ≡ Some x → slice_get marks place ≡ Some true → Contains (all_marked rest lists) x
all_marked_there (ys ∷ rest) (ms ∷ lists) x (suc number) xs marks place is is' at at' = grind (arith, contains_right, all_marked_there rest lists x number xs marks place is is')
all_marked_there rest lists x number xs marks place is is' at at' = grind (arith, none_some, some_same, contains_left, marked_there)

take_others : {A : Type 0} (x : A) (xs : List A) → take (length (x ∷ xs) - 1) xs ≡ xs
take_others x xs = ap (λ n. take n xs) (let e : length (x ∷ xs) - 1 ≡ length xs = omega arith in e) ∙ take-length xs

-- the first item, if it is marked, and the others that are, as a slice has them
pub marked_step : {A : Type 0} (xs : List A) (marks : List Bool) (x : A) (mark : Bool) → 1 ≤ length xs → 1 ≤ length marks
    → marked_among (get_or xs 0 x ∷ []) (get_or marks 0 mark ∷ []) ++ marked_among (take (length xs - 1) (drop 1 xs)) (take (length marks - 1) (drop 1 marks)) ≡ marked_among xs marks
marked_step (y ∷ xs) (m ∷ marks) x mark some some' = grind (arith, take_others y xs, take_others m marks, marked_split y xs m marks)
marked_step xs marks x mark some some' = grind arith

-- what is no more than the lesser of two is no more than one of them
pub lesser_within : (a b n : ℕ) → min a b ≤ n → (a ≤ n) ⊎ (b ≤ n)
lesser_within a b n most = grind (arith, ltb-true, ltb-false)

-- The first variable of a right side that is not bound, by the places that a draft keeps.

-- The first unbound occurrence, and where it stands.
pub record IsFirstUnbound (source : Source) (pos : Pos) : Type 0 where
  pub rule : RuleItem
  pub occurrence : Occurrence
  pub there : Contains (rules_of source) rule
  pub inside : Contains (unbound_of source rule) occurrence
  pub least : (rule' : RuleItem) (o' : Occurrence) → Contains (rules_of source) rule' → Contains (unbound_of source rule') o' → occurrence.at.from ≤ o'.at.from
  pub pos_is : IsPlaceAfter (take occurrence.at.from source.text) pos

module _ (source : Source) where
  at_there : (rule : RuleItem) (o : Occurrence) → Contains (rules_of source) rule → Contains (unbound_of source rule) o → Contains (flat_map (λ (xs : List ℕ). xs) (map (unbound_at source) (rules_of source))) o.at.from
  at_there rule o there inside =
      contains_flat (λ (xs : List ℕ). xs) (map (unbound_at source) (rules_of source)) (unbound_at source rule) o.at.from
      (contains_map (unbound_at source) (rules_of source) rule there)
      (contains_map (λ (o : Occurrence). o.at.from) (unbound_of source rule) o inside)

  pub first_unbound : (lists : List (List Pos)) → ArePlaceLists source.text (map (unbound_at source) (rules_of source)) lists → (pos : Pos) → IsEarliest (flat_map (λ ps. ps) lists) (Some pos) → IsFirstUnbound source pos
  first_unbound lists are pos earliest =
      let all = flat_map (λ (xs : List ℕ). xs) (map (unbound_at source) (rules_of source)) in
      let least = least_at source.text all all refl (flat_map (λ ps. ps) lists) (joined source.text (map (unbound_at source) (rules_of source)) lists are) pos earliest in
      let list = flat_cases (λ (xs : List ℕ). xs) (map (unbound_at source) (rules_of source)) least.at least.there in
      let rule = map_cases (unbound_at source) (rules_of source) list.from list.there in
      let inside : Contains (unbound_at source rule.from) least.at = subst (λ xs. Contains xs least.at) (sym rule.same) list.inside in
      let o = map_cases (λ (o : Occurrence). o.at.from) (unbound_of source rule.from) least.at inside in
      record {
        rule = rule.from;
        occurrence = o.from;
        there = rule.there;
        inside = o.there;
        least = λ rule' o' there' inside'. let l = least.least o'.at.from (at_there rule' o' there' inside') in let e = o.same in omega (arith, l, e);
        pos_is = subst (λ k. IsPlaceAfter (take k source.text) pos) (sym o.same) least.pos_is;
      }

  no_occurrence : (os : List Occurrence) → ((o : Occurrence) → Contains os o → ⊥) → os ≡ []
  no_occurrence [] none = refl
  no_occurrence (o ∷ os) none = absurd (none o (contains_first o os))

  pub all_bound : (lists : List (List Pos)) → ArePlaceLists source.text (map (unbound_at source) (rules_of source)) lists → IsEarliest (flat_map (λ ps. ps) lists) None → IsBound source
  all_bound lists are none =
      all_of (λ (rule : RuleItem). unbound_of source rule ≡ []) (rules_of source)
      (λ rule there. no_occurrence (unbound_of source rule) (λ o inside.
      let own = at_pos source.text (flat_map (λ (xs : List ℕ). xs) (map (unbound_at source) (rules_of source))) (flat_map (λ ps. ps) lists) o.at.from (joined source.text (map (unbound_at source) (rules_of source)) lists are) (at_there rule o there inside) in
      contains_none own.pos (subst (λ ps. Contains ps own.pos) none own.there)))

-- The first backward premise that calls a bad pair, by the marks of the premises and the places that a draft keeps.

-- places in bytes and by lines, those that are marked
marked_places : (text : List ℕ) (ats : List ℕ) (ps : List Pos) (marks : List Bool) → ArePlaces text ats ps → ArePlaces text (marked_among ats marks) (marked_among ps marks)
marked_places text (at ∷ ats) (p ∷ ps) (true ∷ marks) are = (are.0, marked_places text ats ps marks are.1)
marked_places text (at ∷ ats) (p ∷ ps) (false ∷ marks) are = marked_places text ats ps marks are.1
marked_places text ats ps marks are = grind arith

all_marked_places : (text : List ℕ) (ats : List (List ℕ)) (lists : List (List Pos)) (marks : List (List Bool)) → ArePlaceLists text ats lists → ArePlaces text (all_marked ats marks) (all_marked lists marks)
all_marked_places text (xs ∷ ats) (ps ∷ lists) (ms ∷ marks) are = grind (arith, both_places, marked_places, are.0, all_marked_places text ats lists marks are.1, are.1)
all_marked_places text ats lists marks are = grind arith

-- An item at a place of a list.
record IsThere {A : Type 0} (xs : List A) (n : ℕ) (P : A → Type 0) : Type 0 where
  item : A
  there : slice_get xs n ≡ Some item
  holds : P item

rule_marked : (clauses : List ClauseTree) (rules : List Rule) (lists : List (List Bool)) (n : ℕ) (marks : List Bool) → AreAllMarks clauses rules lists → slice_get lists n ≡ Some marks → IsThere rules n (λ rule. AreMarks clauses rule marks)
rule_marked clauses (rule ∷ rules) (ms ∷ lists) (suc n) marks are is = let rest = rule_marked clauses rules lists n marks are.1 is in record { item = rest.item; there = rest.there; holds = rest.holds }
rule_marked clauses rules lists n marks are is = grind (arith, none_some, some_same)

marks_of : (clauses : List ClauseTree) (rules : List Rule) (lists : List (List Bool)) (n : ℕ) (rule : Rule) → AreAllMarks clauses rules lists → slice_get rules n ≡ Some rule → IsThere lists n (λ marks. AreMarks clauses rule marks)
marks_of clauses (r ∷ rules) (ms ∷ lists) (suc n) rule are is = let rest = marks_of clauses rules lists n rule are.1 is in record { item = rest.item; there = rest.there; holds = rest.holds }
marks_of clauses rules lists n rule are is = grind (arith, none_some, some_same)

item_of : (source : Source) (items : List RuleItem) (rules : List Rule) (n : ℕ) (rule : Rule) → AllZip (IsRuleBy source) items rules → slice_get rules n ≡ Some rule → IsThere items n (λ item. IsRuleBy source item rule)
item_of source (item ∷ items) (r ∷ rules) (suc n) rule are is = let rest = item_of source items rules n rule are.1 is in record { item = rest.item; there = rest.there; holds = rest.holds }
item_of source items rules n rule are is = grind (arith, none_some, some_same)

-- a premise that calls a pair is one of the rule's
called_at : (pairs : ℕ → Known → Type 0) (known : Known) (goals : List AtomTree) (i : ℕ) → CallsAt pairs known goals i → i < length goals
called_at pairs known (goal ∷ goals) (suc i) calls = let rest = called_at pairs (known_after known goal) goals i calls in omega (arith, rest)
called_at pairs known goals i calls = grind arith

called_within : (clauses : List ClauseTree) (rule : Rule) (i : ℕ) → IsUngroundedAt clauses rule i → i < length rule.backs
called_within clauses rule i calls = called_at (IsBad clauses) (known_after_all nothing (needed_of rule)) rule.backs i calls

-- what is at a place of an image
mapped_at : {A B : Type 0} (f : A → B) (xs : List A) (n : ℕ) (y : B) → slice_get (map f xs) n ≡ Some y → IsThere xs n (λ x. f x ≡ y)
mapped_at f (x ∷ xs) (suc n) y is = let rest = mapped_at f xs n y is in record { item = rest.item; there = rest.there; holds = rest.holds }
mapped_at f xs n y is = grind (arith, none_some, some_same)

-- The first backward premise that calls a bad pair, and where it stands.
pub record IsFirstUngrounded (source : Source) (pos : Pos) : Type 0 where
  pub at : ℕ
  pub is : IsUngroundedIn source at
  pub least : (other : ℕ) → IsUngroundedIn source other → at ≤ other
  pub pos_is : IsPlaceAfter (take at source.text) pos

-- the rules of the parts have as many backward premises as are written
abbrev AreCounted : Source → Type 0
AreCounted source = (item : RuleItem) (rule : Rule) → Contains (rules_of source) item → IsRuleBy source item rule → length rule.backs ≡ length (backs_at source item)

-- a premise that calls a bad pair stands at some place
pub placed : (source : Source) (parts : Parts) → AreParts source parts → AreCounted source → (n : ℕ) (rule : Rule) → slice_get parts.rules n ≡ Some rule → (i : ℕ) → IsUngroundedAt parts.clauses rule i → (at : ℕ) × IsUngroundedIn source at
placed source parts are counted n rule is i calls =
    let item = item_of source (rules_of source) parts.rules n rule are.rules_are is in
    let size = counted item.item rule (to_contains (rules_of source) item.item (in_got (rules_of source) n item.item item.there)) item.holds in
    let at = there_within (backs_at source item.item) i (omega (arith, size, (called_within parts.clauses rule i calls))) in
    (at.it, record { parts = parts; declared = are; number = n; premise = i; item = item.item; rule = rule; written = item.there; numbered = is; calls = calls; here = at.found_is })

module _ (source : Source) (parts : Parts) (are : AreParts source parts) (marks : List (List Bool)) (marked : AreAllMarks parts.clauses parts.rules marks) where
  -- what stands at a marked place is ungrounded
  ungrounded_at : (at : ℕ) → Contains (all_marked (map (backs_at source) (rules_of source)) marks) at → IsUngroundedIn source at
  ungrounded_at at there =
      let found = all_marked_cases (map (backs_at source) (rules_of source)) marks at there in
      let item = mapped_at (backs_at source) (rules_of source) found.number found.xs found.list_is in
      let rule = rule_marked parts.clauses parts.rules marks found.number found.marks marked found.marks_are in
      let within : found.inside.place < _ = slice_get_within found.marks found.inside.place true found.inside.marked in
      record {
        parts = parts;
        declared = are;
        number = found.number;
        premise = found.inside.place;
        item = item.item;
        rule = rule.item;
        written = item.there;
        numbered = rule.there;
        calls = (rule.holds.each found.inside.place (let e = rule.holds.as_many in omega (arith, e, within))).0 found.inside.marked;
        here = ap (λ xs. slice_get xs found.inside.place) item.holds ∙ found.inside.there;
      }

  -- and what is ungrounded stands at one
  marked_at : (at : ℕ) → IsUngroundedIn source at → Contains (all_marked (map (backs_at source) (rules_of source)) marks) at
  marked_at at is =
      let same = parts_once source is.parts parts is.declared are in
      let numbered : slice_get parts.rules is.number ≡ Some is.rule = subst (λ (p : Parts). slice_get p.rules is.number ≡ Some is.rule) same is.numbered in
      let calls : IsUngroundedAt parts.clauses is.rule is.premise = subst (λ (p : Parts). IsUngroundedAt p.clauses is.rule is.premise) same is.calls in
      let found = marks_of parts.clauses parts.rules marks is.number is.rule marked numbered in
      all_marked_there (map (backs_at source) (rules_of source)) marks at is.number (backs_at source is.item) found.item is.premise
      (get_mapped (backs_at source) (rules_of source) is.number is.item is.written) found.there is.here
      ((found.holds.each is.premise (called_within parts.clauses is.rule is.premise calls)).1 calls)

  module _ (lists : List (List Pos)) (places : ArePlaceLists source.text (map (backs_at source) (rules_of source)) lists) where
    pub first_ungrounded : (pos : Pos) → IsEarliest (all_marked lists marks) (Some pos) → IsFirstUngrounded source pos
    first_ungrounded pos earliest =
        let all = all_marked (map (backs_at source) (rules_of source)) marks in
        let least = least_at source.text all all refl (all_marked lists marks) (all_marked_places source.text (map (backs_at source) (rules_of source)) lists marks places) pos earliest in
        record { at = least.at; is = ungrounded_at least.at least.there; least = λ other is. least.least other (marked_at other is); pos_is = least.pos_is }

    -- where no place is marked, all rules are grounded
    pub all_grounded : AreCounted source → IsEarliest (all_marked lists marks) None → AllByRecursion (IsGrounded parts.clauses) parts.rules
    all_grounded counted none =
        all_from_places (IsGrounded parts.clauses) parts.rules (λ n rule is i calls.
        let at = placed source parts are counted n rule is i calls in
        let pos = at_pos source.text (all_marked (map (backs_at source) (rules_of source)) marks) (all_marked lists marks) at.0 (all_marked_places source.text (map (backs_at source) (rules_of source)) lists marks places) (marked_at at.0 at.1) in
        contains_none pos.pos (subst (λ ps. Contains ps pos.pos) none pos.there))

-- A text with which nothing is wrong spells a program, and any other is refused for its first fault.

-- the faults that those of tokens, and of a grammar, are of a text
abbrev pub of_lex : LexFault → Fault
of_lex (lex.BadByte at) = wrong BadByte at
of_lex (lex.NameLong at) = wrong NameLong at

abbrev pub of_parse : ParseFault → Fault
of_parse (parse.Unexpected at) = wrong Unexpected at
of_parse (parse.Nested at) = wrong Nested at

wrong_tokens : (text : List ℕ) (its : LexFault) → length text ≤ MOST_TEXT → IsLexed text (Err its) → IsWrong text (of_lex its)
wrong_tokens text (lex.BadByte at) short is = bad_byte at short is refl
wrong_tokens text (lex.NameLong at) short is = name_long at short is refl

wrong_grammar : (text : List ℕ) (tokens : List Token) (its : ParseFault) → length text ≤ MOST_TEXT → AreTokens text tokens → IsParsed text tokens (Err its) → IsWrong text (of_parse its)
wrong_grammar text tokens (parse.Unexpected at) short are is = unexpected tokens at short are is refl
wrong_grammar text tokens (parse.Nested at) short are is = nested tokens at short are is refl

-- what the laws say of which this stands
pub record Laws : Type 0 where
  pub lexed : (text : List ℕ) → (answer : Result (List Token) LexFault) × IsLexed text answer
  pub parsed : (text : List ℕ) (tokens : List Token) → (answer : Result (List RawItem) ParseFault) × IsParsed text tokens answer
  pub declared : (source : Source) → IsClean source → (parts : Parts) × AreParts source parts
  pub counted : (source : Source) → IsClean source → IsBound source → (item : RuleItem) (rule : Rule) → Contains (rules_of source) item → IsRuleBy source item rule → length rule.backs ≡ length (backs_at source item)

module _ (laws : Laws) (text : List ℕ) (nothing : (fault : Fault) → ¬ (IsWrong text fault)) where
  short : length text ≤ MOST_TEXT
  short = ⊎_elim (λ long. absurd (nothing (wrong TooLong 0) (too_long long refl))) (λ within. within) (cases_lt MOST_TEXT (length text))

  tokens_there : (answer : Result (List Token) LexFault) → IsLexed text answer → (tokens : List Token) × AreTokens text tokens
  tokens_there (Ok tokens) is = (tokens, is)
  tokens_there (Err its) is = absurd (nothing (of_lex its) (wrong_tokens text its short is))

  source_there : (tokens : List Token) → AreTokens text tokens → (answer : Result (List RawItem) ParseFault) → IsParsed text tokens answer → (source : Source) × (source.text ≡ text) × IsSource source
  source_there tokens are (Ok file) is = (record { text = text; file = file }, refl, record { tokens = tokens; lexed = are; parsed = is.0; shallow = is.1 })
  source_there tokens are (Err its) is = absurd (nothing (of_parse its) (wrong_grammar text tokens its short are is))

  module _ (source : Source) (text_is : source.text ≡ text) (is_source : IsSource source) where
    in_order : IsClean source
    in_order = record {
      is_source = is_source;
      short = subst (λ t. length t ≤ MOST_TEXT) (sym text_is) short;
      names = λ fault bad. nothing fault (misnamed source text_is short is_source bad);
      types = λ fault bad. nothing fault (mistyped source text_is short is_source bad);
    }

    none_unbound : (rule : RuleItem) → Contains (rules_of source) rule → (occurrences : List Occurrence) → unbound_of source rule ≡ occurrences → occurrences ≡ []
    none_unbound rule there [] is = refl
    none_unbound rule there (o ∷ os) is =
        absurd (nothing (wrong Unbound o.at.from) (unbound source rule o text_is short is_source there (subst (λ all. Contains all o) (sym is) (contains_first o os)) refl))

    bound : IsBound source
    bound = all_of (λ rule. unbound_of source rule ≡ []) (rules_of source) (λ rule there. none_unbound rule there (unbound_of source rule) refl)

    grounded : (parts : Parts) → AreParts source parts → AllByRecursion (IsGrounded parts.clauses) parts.rules
    grounded parts are = all_from_places (IsGrounded parts.clauses) parts.rules (λ n rule is i calls.
        let at = placed source parts are (laws.counted source in_order bound) n rule is i calls in
        nothing (wrong Ungrounded at.0) (ungrounded source at.0 text_is in_order at.1 refl))

    spelled_from : (parts : Parts) × Spells text parts
    spelled_from = let parts = laws.declared source in_order in
        (parts.0, record { source = source; text_is = text_is; clean = in_order; declared = parts.1; bound = bound; grounded = grounded parts.0 parts.1 })

  pub spelled : (parts : Parts) × Spells text parts
  spelled =
      let lexed = laws.lexed text in
      let tokens = tokens_there lexed.0 lexed.1 in
      let parsed = laws.parsed text tokens.0 in
      let source = source_there tokens.0 tokens.1 parsed.0 parsed.1 in
      spelled_from source.0 source.1 source.2

-- For which fault a text is refused.

-- what the law of parsed tokens says
abbrev pub ParsedOnce : Type 0
ParsedOnce = (text : List ℕ) (tokens : List Token) (one other : Result (List RawItem) ParseFault) → IsParsed text tokens one → IsParsed text tokens other → one ≡ other

-- less or the same
le_cases : (a b : ℕ) → a ≤ b → (a < b) ⊎ (a ≡ b)
le_cases a b less = grind (arith, ltb-true, ltb-false)

-- a fault is told no later than itself
told_itself : (fault other : Fault) → fault ≡ other → IsToldFirst fault other
told_itself fault other same = subst (IsToldFirst fault) same (inr (refl, inr (refl, omega arith)))

pub refused_too_long : (text : List ℕ) → MOST_TEXT < length text → IsRefusedFor text (wrong TooLong 0)
refused_too_long text long = grind (arith, told_itself)

-- What is wrong with the source of a text.
data IsWrongIn (source : Source) (fault : Fault) : Type 0 where
  in_names : Misnamed source fault → IsWrongIn source fault
  in_types : Mistyped source fault → IsWrongIn source fault
  in_right : (rule : RuleItem) (o : Occurrence) → Contains (rules_of source) rule → Contains (unbound_of source rule) o → fault ≡ wrong Unbound o.at.from → IsWrongIn source fault
  in_backs : (at : ℕ) → IsClean source → IsUngroundedIn source at → fault ≡ wrong Ungrounded at → IsWrongIn source fault

-- What is wrong with a text that is short enough, by how far it is read.
data IsWrongAfter (text : List ℕ) (fault : Fault) : Type 0 where
  in_tokens : (its : LexFault) → IsLexed text (Err its) → fault ≡ of_lex its → IsWrongAfter text fault
  in_grammar : (tokens : List Token) (its : ParseFault) → AreTokens text tokens → IsParsed text tokens (Err its) → fault ≡ of_parse its → IsWrongAfter text fault
  in_source : (source : Source) → source.text ≡ text → IsSource source → IsWrongIn source fault → IsWrongAfter text fault

wrong_after : (text : List ℕ) (fault : Fault) → length text ≤ MOST_TEXT → IsWrong text fault → IsWrongAfter text fault
wrong_after text fault short (too_long long is) = absurd (omega (arith, long, short))
wrong_after text fault short (bad_byte at short' bad is) = in_tokens (lex.BadByte at) bad is
wrong_after text fault short (name_long at short' bad is) = in_tokens (lex.NameLong at) bad is
wrong_after text fault short (unexpected tokens at short' are bad is) = in_grammar tokens (parse.Unexpected at) are bad is
wrong_after text fault short (nested tokens at short' are bad is) = in_grammar tokens (parse.Nested at) are bad is
wrong_after text fault short (misnamed source text_is short' is_source bad) = in_source source text_is is_source (in_names bad)
wrong_after text fault short (mistyped source text_is short' is_source bad) = in_source source text_is is_source (in_types bad)
wrong_after text fault short (unbound source rule o text_is short' is_source there inside is) = in_source source text_is is_source (in_right rule o there inside is)
wrong_after text fault short (ungrounded source at text_is clean bad is) = in_source source text_is clean.is_source (in_backs at clean bad is)

module _ (lexed : LexedOnce) (text : List ℕ) where
  -- a text that has tokens has no fault of tokens
  no_fault : (tokens : List Token) (fault : LexFault) → AreTokens text tokens → IsLexed text (Err fault) → ⊥
  no_fault tokens fault are is = let e = lexed text (Ok tokens) (Err fault) are is in absurd cc

  pub refused_tokens : (its : LexFault) → length text ≤ MOST_TEXT → IsLexed text (Err its) → IsRefusedFor text (of_lex its)
  refused_tokens its short bad = record { holds = wrong_tokens text its short bad; first = λ other is. first other (wrong_after text other short is) }
    where
      first : (other : Fault) → IsWrongAfter text other → IsToldFirst (of_lex its) other
      first other (in_tokens its' bad' is) =
          let e = lexed text (Err its) (Err its') bad bad' in
          let same : its ≡ its' = cc in
          told_itself (of_lex its) other (ap of_lex same ∙ sym is)
      first other (in_grammar tokens its' are bad' is) = absurd (no_fault tokens its are bad)
      first other (in_source source text_is is_source bad') = absurd (no_fault is_source.tokens its (rw text_is at is_source.lexed) bad)

  module _ (parsed : ParsedOnce) where
    -- a text that has a raw file has no fault of the grammar
    no_parse_fault : (tokens : List Token) (fault : ParseFault) (source : Source) → AreTokens text tokens → IsParsed text tokens (Err fault) → source.text ≡ text → IsSource source → ⊥
    no_parse_fault tokens fault source are is text_is is_source =
        let same = tokens_once lexed text is_source.tokens tokens (subst (λ t. AreTokens t is_source.tokens) text_is is_source.lexed) are in
        let file : IsParsed text is_source.tokens (Ok source.file) = subst (λ t. IsParsed t is_source.tokens (Ok source.file)) text_is (is_source.parsed, is_source.shallow) in
        let e = parsed text tokens (Ok source.file) (Err fault) (subst (λ ts. IsParsed text ts (Ok source.file)) same file) is in
        absurd cc

    pub refused_grammar : (tokens : List Token) (its : ParseFault) → length text ≤ MOST_TEXT → AreTokens text tokens → IsParsed text tokens (Err its) → IsRefusedFor text (of_parse its)
    refused_grammar tokens its short are bad = record { holds = wrong_grammar text tokens its short are bad; first = λ other is. first other (wrong_after text other short is) }
      where
        first : (other : Fault) → IsWrongAfter text other → IsToldFirst (of_parse its) other
        first other (in_tokens its' bad' is) = absurd (no_fault tokens its' are bad')
        first other (in_grammar tokens' its' are' bad' is) =
            let e = parsed text tokens (Err its) (Err its') bad (subst (λ ts. IsParsed text ts (Err its')) (tokens_once lexed text tokens' tokens are' are) bad') in
            let same : its ≡ its' = cc in
            told_itself (of_parse its) other (ap of_parse same ∙ sym is)
        first other (in_source source text_is is_source bad') = absurd (no_parse_fault tokens its source are bad text_is is_source)

    module _ (file_once : FileOnce) (source : Source) (text_is : source.text ≡ text) (short : length text ≤ MOST_TEXT) (is_source : IsSource source) where
      -- what is wrong with the text is wrong with its source
      wrong_in : (other : Fault) → IsWrong text other → IsWrongIn source other
      wrong_in other is = from (wrong_after text other short is)
        where
          from : IsWrongAfter text other → IsWrongIn source other
          from (in_tokens its bad is) = absurd (no_fault is_source.tokens its (subst (λ t. AreTokens t is_source.tokens) text_is is_source.lexed) bad)
          from (in_grammar tokens its are bad is) = absurd (no_parse_fault tokens its source are bad text_is is_source)
          from (in_source source' text_is' is_source' bad) = subst (λ s. IsWrongIn s other) (source_once lexed file_once source' source (text_is' ∙ sym text_is) is_source' is_source) bad

      -- names are judged in one phase, types in the next
      mistyped_phase : (fault : Fault) → Mistyped source fault → phase fault.reason ≡ 5
      mistyped_phase fault given = grind arith

      misnamed_phase : (fault : Fault) → Misnamed source fault → phase fault.reason ≡ 4
      misnamed_phase fault given = grind arith

      pub refused_misnamed : (fault : Fault) → IsFirst (Misnamed source) fault → IsRefusedFor text fault
      refused_misnamed fault bad = record { holds = misnamed source text_is short is_source bad.holds; first = λ other is. first other (wrong_in other is) }
        where
          first : (other : Fault) → IsWrongIn source other → IsToldFirst fault other
          first other (in_names bad') = inr (misnamed_phase fault bad.holds ∙ sym (misnamed_phase other bad'), bad.first other bad')
          first other (in_types bad') = inl (omega (arith, (misnamed_phase fault bad.holds), (mistyped_phase other bad')))
          first other (in_right rule o there inside is) = inl (omega (arith, (misnamed_phase fault bad.holds), (ap (λ (f : Fault). phase f.reason) is)))
          first other (in_backs at clean bad' is) = absurd (clean.names fault bad.holds)

      pub refused_mistyped : (fault : Fault) → ((other : Fault) → ¬ (Misnamed source other)) → IsFirst (Mistyped source) fault → IsRefusedFor text fault
      refused_mistyped fault names bad = record { holds = mistyped source text_is short is_source bad.holds; first = λ other is. first other (wrong_in other is) }
        where
          first : (other : Fault) → IsWrongIn source other → IsToldFirst fault other
          first other (in_names bad') = absurd (names other bad')
          first other (in_types bad') = inr (mistyped_phase fault bad.holds ∙ sym (mistyped_phase other bad'), bad.first other bad')
          first other (in_right rule o there inside is) = inl (omega (arith, (mistyped_phase fault bad.holds), (ap (λ (f : Fault). phase f.reason) is)))
          first other (in_backs at clean bad' is) = absurd (clean.types fault bad.holds)

      -- where each variable is bound, none is unbound
      never_unbound : (rule : RuleItem) (o : Occurrence) → IsBound source → Contains (rules_of source) rule → Contains (unbound_of source rule) o → ⊥
      never_unbound rule o bound there inside = grind (arith, all_at (λ (item : RuleItem). unbound_of source item ≡ []) (rules_of source) rule bound there)

      no_later : (reason : Reason) (at at' : ℕ) → at ≤ at' → IsNoLater (wrong reason at) (wrong reason at')
      no_later reason at at' less = grind (arith, le_cases)

      pub refused_unbound : (clean : IsClean source) (rule : RuleItem) (o : Occurrence) → Contains (rules_of source) rule → Contains (unbound_of source rule) o
          → ((rule' : RuleItem) (o' : Occurrence) → Contains (rules_of source) rule' → Contains (unbound_of source rule') o' → o.at.from ≤ o'.at.from)
          → IsRefusedFor text (wrong Unbound o.at.from)
      refused_unbound clean rule o there inside least = record { holds = unbound source rule o text_is short is_source there inside refl; first = λ other is. first other (wrong_in other is) }
        where
          first : (other : Fault) → IsWrongIn source other → IsToldFirst (wrong Unbound o.at.from) other
          first other (in_names bad) = absurd (clean.names other bad)
          first other (in_types bad) = absurd (clean.types other bad)
          first other (in_right rule' o' there' inside' is) = subst (IsToldFirst (wrong Unbound o.at.from)) (sym is) (inr (refl, no_later Unbound o.at.from o'.at.from (least rule' o' there' inside')))
          first other (in_backs at clean' bad is) = inl (omega (arith, (ap (λ (f : Fault). phase f.reason) is)))

      -- where all rules are grounded, no premise is ungrounded
      none_ungrounded : (parts : Parts) → AreParts source parts → AllByRecursion (IsGrounded parts.clauses) parts.rules → (at : ℕ) → IsUngroundedIn source at → ⊥
      none_ungrounded parts are grounded at bad = grind (arith, parts_once source bad.parts parts bad.declared are, holds_at, grounded)

      pub refused_ungrounded : (clean : IsClean source) → IsBound source → (at : ℕ) → IsUngroundedIn source at → ((at' : ℕ) → IsUngroundedIn source at' → at ≤ at') → IsRefusedFor text (wrong Ungrounded at)
      refused_ungrounded clean bound at bad least = record { holds = ungrounded source at text_is clean bad refl; first = λ other is. first other (wrong_in other is) }
        where
          first : (other : Fault) → IsWrongIn source other → IsToldFirst (wrong Ungrounded at) other
          first other (in_names bad') = absurd (clean.names other bad')
          first other (in_types bad') = absurd (clean.types other bad')
          first other (in_right rule o there inside is) = absurd (never_unbound rule o bound there inside)
          first other (in_backs at' clean' bad' is) = subst (IsToldFirst (wrong Ungrounded at)) (sym is) (inr (refl, no_later Ungrounded at at' (least at' bad')))

      -- nothing is wrong with a text that spells a program
      pub nothing_wrong : (clean : IsClean source) → IsBound source → (parts : Parts) → AreParts source parts → AllByRecursion (IsGrounded parts.clauses) parts.rules → (fault : Fault) → ¬ (IsWrong text fault)
      nothing_wrong clean bound parts are grounded fault is = never (wrong_in fault is)
        where
          never : IsWrongIn source fault → ⊥
          never (in_names bad) = clean.names fault bad
          never (in_types bad) = clean.types fault bad
          never (in_right rule o there inside is') = never_unbound rule o bound there inside
          never (in_backs at clean' bad is') = none_ungrounded parts are grounded at bad

-- What is told of a text whose names or types are wrong.

module _ (lexed : LexedOnce) (parsed : ParsedOnce) (file_once : FileOnce) (source : Source) (short : length source.text ≤ MOST_TEXT) (is_source : IsSource source) where
  -- the first fault of names, or else of types, is the one for which a text is refused
  pub refused_draft : (refusal : Refusal) → IsRefused source refusal → (fault : Fault) × IsRefusedFor source.text fault × Tells source.text fault refusal
  refused_draft refusal refused =
      let by_names = refused_misnamed lexed source.text parsed file_once source refl short is_source refused.fault in
      let by_types = refused_mistyped lexed source.text parsed file_once source refl short is_source refused.fault in
      (refused.fault, ⊎_elim by_names (λ types. by_types types.0 types.1) refused.first, refused.told)
