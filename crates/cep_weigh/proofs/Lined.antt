-- Lines and numbers of claims that are read, in one way.
use Rattle.std.proofs.Common.{◌≡◌, ◌⊎◌, inl, inr, ℕ, ◌+◌, ◌<◌, ◌≤◌, List, [], ◌∷◌, ◌++◌, length, refl, sym, ap, ◌∙◌, subst, arith, length-append, append_assoc, slice_get, Bool, false, map}
use Rattle.std.specs.Prelude.{IsTrue, ◌↔◌}
use Rattle.std.specs.List.{AllByRecursion}
use Rattle.std.proofs.lemmas.List.{append-nil}
use Rattle.cep_base.specs.declared.kind.PredKind.TheVariants.{Linear}
use Rattle.cep_base.proofs.Elements.{both_all}
use Rattle.cep_base.proofs.Options.{some_weaker as some_as}
use Rattle.cep_rule.specs.declared.signature.Signature.{Signature}
use Rattle.cep_rule.specs.declared.parts.Parts.{Parts}
use Rattle.cep_rule.specs.Names.{AllDiffer}
use Rattle.cep_claim.specs.declared.weight.Part.{Part}
use Rattle.cep_claim.specs.declared.weight.Weight.{Weight}
use Rattle.cep_claim.specs.declared.fault.KeepFault.{KeepFault}
use Rattle.cep_claim.specs.declared.written.NamedPart.{NamedPart}
use Rattle.cep_claim.specs.Factors.{IsFactor}
use Rattle.cep_weigh.specs.Weights.{AreOfLinear, IsWeightOf}
use Rattle.cep_claim.specs.declared.fault.KeepFault.TheVariants.{Keep, KeepName, KeepTwice, KeepSign}
use Rattle.cep_claim.specs.Written.{SaysNothing, IsNamedPart, AreResolved}
use Rattle.cep_weigh.specs.Claims.{claim_lines, IsClaimOf, IsClaimFault, AddsLine, AddClaims, HasClaims, HasFault, IsResolvedLine, SaysTwice}
use Rattle.cep_claim.specs.declared.written.Written.{Written}
use Rattle.cep_claim.proofs.Spelled.{one_written, sum_of_line, none_unknown}

-- The lines that were read so far, and what is said of all of them.

-- Of all lines these are left; those before add these claims.
pub record LinesSoFar (signature : Signature) (lines left : List (List ℕ)) (number : ℕ) (claims : List Weight) : Type 0 where
  pub done : List (List ℕ)
  pub cut : lines ≡ done ++ left
  pub add : AddClaims signature 1 done [] claims
  pub counted : number ≡ length done

pub none_done : (signature : Signature) (lines left : List (List ℕ)) → left ≡ lines → LinesSoFar signature lines left 0 []
none_done signature lines left same = record { done = []; cut = sym same; add = refl; counted = refl }

add_more : (signature : Signature) (n : ℕ) (lines : List (List ℕ)) (line : List ℕ) (old mid new : List Weight) → AddClaims signature n lines old mid → AddsLine signature (n + length lines) line mid new → AddClaims signature n (lines ++ line ∷ []) old new
add_more signature n [] line old mid new add adds = grind arith
add_more signature n (first ∷ lines) line old mid new add adds = (add.0, add.1, add_more signature (n + 1) lines line add.0 mid new add.2 (subst (λ (m : ℕ). AddsLine signature m line mid new) (omega arith) adds))

pub one_done : (signature : Signature) (lines left rest : List (List ℕ)) (line : List ℕ) (number : ℕ) (claims after : List Weight) → LinesSoFar signature lines left number claims → left ≡ line ∷ rest → AddsLine signature (number + 1) line claims after
    → LinesSoFar signature lines rest (number + 1) after
one_done signature lines left rest line number claims after so_far is adds = record {
  done = so_far.done ++ line ∷ [];
  cut = so_far.cut ∙ (ap (λ behind. so_far.done ++ behind) is ∙ sym (append_assoc so_far.done (line ∷ []) rest));
  add = add_more signature 1 so_far.done line [] claims after so_far.add (subst (λ (n : ℕ). AddsLine signature n line claims after) (let counted = so_far.counted in omega arith) adds);
  counted = let h = length-append so_far.done (line ∷ []) in let counted = so_far.counted in omega arith;
}

-- fewer lines than these were read
pub number_short : (signature : Signature) (lines left rest : List (List ℕ)) (line : List ℕ) (number most : ℕ) (claims : List Weight) → length lines ≤ most → LinesSoFar signature lines left number claims → left ≡ line ∷ rest → number < most
number_short signature lines left rest line number most claims few so_far is = grind (arith, length-append, so_far.cut, so_far.done, so_far.counted)

pub all_said : (program other : Parts) (bytes : List ℕ) (left : List (List ℕ)) (number : ℕ) (claims : List Weight) → other ≡ program → LinesSoFar other.signature (claim_lines bytes) left number claims → left ≡ [] → HasClaims program bytes claims
all_said program other bytes left number claims same so_far none = grind (arith, append-nil, so_far.done, so_far.cut, other.signature, so_far.add)

pub fault_said : (program other : Parts) (bytes : List ℕ) (left rest : List (List ℕ)) (line : List ℕ) (number : ℕ) (claims : List Weight) (fault : KeepFault) → other ≡ program → LinesSoFar other.signature (claim_lines bytes) left number claims → left ≡ line ∷ rest
    → ¬ SaysNothing line → IsClaimFault other.signature claims line (number + 1) fault → HasFault program bytes fault
fault_said program other bytes left rest line number claims fault same so_far is says why = grind (arith, so_far.done, so_far.cut, so_far.add, other.signature, so_far.counted)

linear_parts : (signature : Signature) (parts : List NamedPart) (sum : List Part) → AreResolved signature parts sum → AreOfLinear signature sum
linear_parts signature (named ∷ parts) (part ∷ sum) are = (some_as (slice_get signature.preds part.pred) (λ d. (d.name ≡ named.name) × (d.kind ≡ Linear)) (λ d. d.kind ≡ Linear) (λ d h. h.1) are.1, linear_parts signature parts sum are.2)
linear_parts signature parts sum are = grind arith

factor_parts : (signature : Signature) (parts : List NamedPart) (sum : List Part) → AreResolved signature parts sum → AllByRecursion IsNamedPart parts → AllByRecursion (λ part. IsFactor part.factor) sum
factor_parts signature (named ∷ parts) (part ∷ sum) are each = (subst IsFactor (sym are.0) each.0.factor, factor_parts signature parts sum are.2 each.1)
factor_parts signature parts sum are each = grind arith

weight_is : (program : Parts) (earlier : List Weight) (line : List ℕ) (number : ℕ) (weight : Weight) → IsClaimOf program.signature earlier line number weight → IsWeightOf program weight
weight_is program earlier line number weight is = grind (arith, linear_parts, factor_parts, program.signature, is.written.parts, weight.sum, is.numbered, is.apart, is.line_is.writable.parts, is.signs)

pub all_of_program : (program : Parts) (number : ℕ) (lines : List (List ℕ)) (earlier all : List Weight) → AddClaims program.signature number lines earlier all → AllByRecursion (IsWeightOf program) earlier → AllByRecursion (IsWeightOf program) all
all_of_program program number [] earlier all add each = subst (AllByRecursion (IsWeightOf program)) (sym add) each
all_of_program program number (line ∷ lines) earlier all add each = all_of_program program (number + 1) lines add.0 all add.2 (after add.1) where
  after : AddsLine program.signature number line earlier add.0 → AllByRecursion (IsWeightOf program) add.0
  after (inl none) = subst (AllByRecursion (IsWeightOf program)) (sym none.1) each
  after (inr one) = subst (AllByRecursion (IsWeightOf program)) (sym one.3) (both_all (IsWeightOf program) earlier (one.0 ∷ []) each (weight_is program earlier line number one.0 one.2, tt))

pub not_twice : (b : Bool) (P Q : Type 0) → (IsTrue b ↔ P) → b ≡ false → Q → (P ⊎ ¬ Q) → ⊥
not_twice b P Q tells is q given = grind arith

-- A file of claims says one list of claims or has one fault.

module _ (signature : Signature) (differ : AllDiffer (map (λ decl. decl.name) signature.preds)) where
  -- a line says one claim
  one_claim : (earlier : List Weight) (line : List ℕ) (number : ℕ) (one other : Weight) → IsClaimOf signature earlier line number one → IsClaimOf signature earlier line number other → one ≡ other
  one_claim earlier line number one other is is' =
      let same = one_written line is.written is'.written is.line_is is'.line_is in
      let lines : one.line ≡ other.line = is.number_is ∙ sym is'.number_is in
      let claims : one.claim ≡ other.claim = is.claim_is ∙ ap (λ (w : Written). w.claim) same ∙ sym is'.claim_is in
      let sums : one.sum ≡ other.sum = sum_of_line signature differ line is.written is'.written one.sum other.sum is.line_is is'.line_is is.numbered is'.numbered in
      λ i. record { line = lines i; claim = claims i; name = (is.name_is ∙ ap (λ (w : Written). w.name) same ∙ sym is'.name_is) i; sum = sums i }

  one_line : (number : ℕ) (line : List ℕ) (earlier one other : List Weight) → AddsLine signature number line earlier one → AddsLine signature number line earlier other → one ≡ other
  one_line number line earlier one other (inl a) (inl b) = a.1 ∙ sym b.1
  one_line number line earlier one other (inl a) (inr b) = absurd (b.1 a.0)
  one_line number line earlier one other (inr a) (inl b) = absurd (a.1 b.0)
  one_line number line earlier one other (inr a) (inr b) = a.3 ∙ ap (λ (w : Weight). earlier ++ w ∷ []) (one_claim earlier line number a.0 b.0 a.2 b.2) ∙ sym b.3

  one_adding : (number : ℕ) (lines : List (List ℕ)) (earlier one other : List Weight) → AddClaims signature number lines earlier one → AddClaims signature number lines earlier other → one ≡ other
  one_adding number [] earlier one other a b = a ∙ sym b
  one_adding number (line ∷ lines) earlier one other a b = one_adding (number + 1) lines b.0 one other (subst (λ after. AddClaims signature (number + 1) lines after one) (one_line number line earlier a.0 b.0 a.1 b.1) a.2) b.2

  -- a line has one fault, and then it says no claim
  twice_too : (earlier : List Weight) (line : List ℕ) (one other : IsResolvedLine signature line) → SaysTwice earlier one → SaysTwice earlier other
  twice_too earlier line one other given = grind (arith, one_written, sum_of_line signature differ)

  known_of : (earlier : List Weight) (line : List ℕ) (number : ℕ) (weight : Weight) → IsClaimOf signature earlier line number weight → IsResolvedLine signature line
  known_of earlier line number weight is = record { written = is.written; line_is = is.line_is; sum = weight.sum; numbered = is.numbered }

  claim_or_fault : (earlier : List Weight) (line : List ℕ) (number at : ℕ) (weight : Weight) (fault : KeepFault) → IsClaimOf signature earlier line number weight → IsClaimFault signature earlier line at fault → ⊥
  claim_or_fault earlier line number at weight fault is why = grind (arith, none_unknown signature differ, twice_too, known_of, one_written, sum_of_line signature differ)

  one_fault : (earlier : List Weight) (line : List ℕ) (at : ℕ) (one other : KeepFault) → IsClaimFault signature earlier line at one → IsClaimFault signature earlier line at other → one ≡ other
  one_fault earlier line at (Keep n) (Keep m) a b = ap Keep (a.0 ∙ sym b.0)
  one_fault earlier line at (Keep n) (KeepName m) a b = absurd (a.1 b.1.0 b.1.1)
  one_fault earlier line at (KeepName n) (Keep m) a b = absurd (b.1 a.1.0 a.1.1)
  one_fault earlier line at (KeepName n) (KeepName m) a b = ap KeepName (a.0 ∙ sym b.0)
  one_fault earlier line at (KeepName n) (KeepTwice m) a b = absurd (none_unknown signature differ line a.1.0 b.1.0.written b.1.0.sum a.1.1 b.1.0.line_is b.1.0.numbered a.1.2)
  one_fault earlier line at (KeepName n) (KeepSign m) a b = absurd (none_unknown signature differ line a.1.0 b.1.0.written b.1.0.sum a.1.1 b.1.0.line_is b.1.0.numbered a.1.2)
  one_fault earlier line at (KeepTwice n) (Keep m) a b = absurd (b.1 a.1.0.written a.1.0.line_is)
  one_fault earlier line at (KeepTwice n) (KeepName m) a b = absurd (none_unknown signature differ line b.1.0 a.1.0.written a.1.0.sum b.1.1 a.1.0.line_is a.1.0.numbered b.1.2)
  one_fault earlier line at (KeepTwice n) (KeepTwice m) a b = ap KeepTwice (a.0 ∙ sym b.0)
  one_fault earlier line at (KeepTwice n) (KeepSign m) a b = absurd (b.1.1 (twice_too earlier line a.1.0 b.1.0 a.1.1))
  one_fault earlier line at (KeepSign n) (Keep m) a b = absurd (b.1 a.1.0.written a.1.0.line_is)
  one_fault earlier line at (KeepSign n) (KeepName m) a b = absurd (none_unknown signature differ line b.1.0 a.1.0.written a.1.0.sum b.1.1 a.1.0.line_is a.1.0.numbered b.1.2)
  one_fault earlier line at (KeepSign n) (KeepTwice m) a b = absurd (a.1.1 (twice_too earlier line b.1.0 a.1.0 b.1.1))
  one_fault earlier line at (KeepSign n) (KeepSign m) a b = ap KeepSign (a.0 ∙ sym b.0)
  one_fault earlier line at one other a b = absurd (a.1 b.1.0.written b.1.0.line_is)

  adds_or_fault : (earlier after : List Weight) (line : List ℕ) (number at : ℕ) (fault : KeepFault) → AddsLine signature number line earlier after → ¬ SaysNothing line → IsClaimFault signature earlier line at fault → ⊥
  adds_or_fault earlier after line number at fault (inl none) says why = says none.0
  adds_or_fault earlier after line number at fault (inr one) says why = claim_or_fault earlier line number at one.0 fault one.2 why

  -- the first line that says no claim is one
  heads : (a b : List ℕ) (xs ys : List (List ℕ)) → a ∷ xs ≡ b ∷ ys → a ≡ b
  heads a b xs ys e = cc

  tails : (a b : List ℕ) (xs ys : List (List ℕ)) → a ∷ xs ≡ b ∷ ys → xs ≡ ys
  tails a b xs ys e = cc

  first_fault : (number : ℕ) (before before' rest rest' : List (List ℕ)) (line line' : List ℕ) (old earlier earlier' : List Weight) (one other : KeepFault)
      → before ++ line ∷ rest ≡ before' ++ line' ∷ rest' → AddClaims signature number before old earlier → AddClaims signature number before' old earlier' → ¬ SaysNothing line → ¬ SaysNothing line'
      → IsClaimFault signature earlier line (number + length before) one → IsClaimFault signature earlier' line' (number + length before') other → one ≡ other
  first_fault number [] [] rest rest' line line' old earlier earlier' one other e a b says says' why why' = grind (arith, one_fault, heads)
  first_fault number [] (first ∷ before') rest rest' line line' old earlier earlier' one other e a b says says' why why' =
      absurd (adds_or_fault old b.0 line number (number + length {A = List ℕ} []) one
      (subst (λ l. AddsLine signature number l old b.0) (sym (heads line first rest (before' ++ line' ∷ rest') e)) b.1) says
      (subst (λ claims. IsClaimFault signature claims line (number + length {A = List ℕ} []) one) a why))
  first_fault number (first ∷ before) [] rest rest' line line' old earlier earlier' one other e a b says says' why why' =
      absurd (adds_or_fault old a.0 line' number (number + length {A = List ℕ} []) other
      (subst (λ l. AddsLine signature number l old a.0) (heads first line' (before ++ line ∷ rest) rest' e) a.1) says'
      (subst (λ claims. IsClaimFault signature claims line' (number + length {A = List ℕ} []) other) b why'))
  first_fault number (first ∷ before) (first' ∷ before') rest rest' line line' old earlier earlier' one other e a b says says' why why' =
      let same = heads first first' (before ++ line ∷ rest) (before' ++ line' ∷ rest') e in
      let after = one_line number first' old a.0 b.0 (subst (λ l. AddsLine signature number l old a.0) same a.1) b.1 in
      let at : number + length (first ∷ before) ≡ number + 1 + length before = omega arith in
      first_fault (number + 1) before before' rest rest' line line' b.0 earlier earlier' one other (tails first first' (before ++ line ∷ rest) (before' ++ line' ∷ rest') e)
      (subst (λ claims. AddClaims signature (number + 1) before claims earlier) after a.2) b.2 says says'
      (subst (λ (n : ℕ). IsClaimFault signature earlier line n one) at why) (subst (λ (n : ℕ). IsClaimFault signature earlier' line' n other) (omega arith) why')

  all_or_fault : (number : ℕ) (before rest lines : List (List ℕ)) (line : List ℕ) (old earlier all : List Weight) (at : ℕ) (fault : KeepFault) → lines ≡ before ++ line ∷ rest → AddClaims signature number before old earlier → AddClaims signature number lines old all → ¬ SaysNothing line
      → IsClaimFault signature earlier line at fault → ⊥
  all_or_fault number [] rest (first ∷ lines) line old earlier all at fault e a b says why = grind (arith, adds_or_fault old b.0 line number, heads first line lines rest e, b.0, b.1)
  all_or_fault number (first ∷ before) rest (first' ∷ lines) line old earlier all at fault e a b says why =
      let after = one_line number first old a.0 b.0 a.1 (subst (λ l. AddsLine signature number l old b.0) (heads first' first lines (before ++ line ∷ rest) e) b.1) in
      all_or_fault (number + 1) before rest lines line b.0 earlier all at fault (tails first' first lines (before ++ line ∷ rest) e)
      (subst (λ claims. AddClaims signature (number + 1) before claims earlier) after a.2) b.2 says why
  all_or_fault number before rest lines line old earlier all at fault e a b says why = absurd cc

module _ (program : Parts) (differ : AllDiffer (map (λ decl. decl.name) program.signature.preds)) (bytes : List ℕ) where
  pub one_list : (one other : List Weight) → HasClaims program bytes one → HasClaims program bytes other → one ≡ other
  one_list one other a b = one_adding program.signature differ 1 (claim_lines bytes) [] one other a b

  pub one_first : (one other : KeepFault) → HasFault program bytes one → HasFault program bytes other → one ≡ other
  one_first one other a b =
      first_fault program.signature differ 1 a.before b.before a.rest b.rest a.line b.line [] a.earlier b.earlier one other (sym a.cut ∙ b.cut) a.add b.add a.says b.says
      (subst (λ (n : ℕ). IsClaimFault program.signature a.earlier a.line n one) (turn (length a.before)) a.why) (subst (λ (n : ℕ). IsClaimFault program.signature b.earlier b.line n other) (turn (length b.before)) b.why)
    where
      turn : (n : ℕ) → n + 1 ≡ 1 + n
      turn n = omega arith

  pub not_both : (weights : List Weight) (fault : KeepFault) → HasClaims program bytes weights → HasFault program bytes fault → ⊥
  not_both weights fault a b = all_or_fault program.signature differ 1 b.before b.rest (claim_lines bytes) b.line [] b.earlier weights (length b.before + 1) fault b.cut b.add a b.says b.why
