use Rattle.std.proofs.Common.{sym, arith}
use Rattle.cep_base.proofs.Lists.{holds_at}
use Rattle.cep_term.specs.Multiset.{IsEntry}
use Rattle.cep_check.proofs.Differences.{state_longer, listing_longer, line_first, entry_first, two_counts, one_line}
use Rattle.cep_check.proofs.counts.difference_at.Goals as goal

pub returns-then-place-len : goal.returns-then-place-len
returns-then-place-len c = state_longer c.bags_are_lawful.ensures _ _ c.requires.listing.1 _ c.args.place c.requires.below _ _ (omega arith) c.entry-is.ensures (holds_at IsEntry _ _ _ c.len-entries.ensures.kept c.entry-is.ensures).0

pub returns-then-place-entries : goal.returns-then-place-entries
returns-then-place-entries c = listing_longer c.bags_are_lawful.ensures _ _ c.requires.listing.1 _ c.args.place c.requires.below _ _ (omega arith) c.get-have.ensures

pub returns-in-Less : goal.returns-in-Less
returns-in-Less c = line_first c.bags_are_lawful.ensures _ _ c.requires.listing.1 _ _ c.requires.below _ _ _ _ c.get-have.ensures c.entry-is-2.ensures (sym c.in-Less.ensures)

pub returns-in-Greater : goal.returns-in-Greater
returns-in-Greater c = entry_first c.bags_are_lawful.ensures _ _ c.requires.listing.1 _ _ c.requires.below _ _ _ _ c.get-have.ensures c.entry-is-2.ensures (sym c.in-Greater.ensures) (holds_at IsEntry _ _ _ c.len-entries.ensures.kept c.entry-is-2.ensures).0

pub returns-then-said-is : goal.returns-then-said-is
returns-then-said-is c = one_line c.bags_are_lawful.ensures _ _ c.requires.listing.1 _ _ c.requires.below _ _ _ _ c.get-have.ensures c.entry-is-2.ensures (sym c.in-Equal.ensures) c.if-said-is.true

pub returns-else-said-is : goal.returns-else-said-is
returns-else-said-is c = two_counts c.bags_are_lawful.ensures _ _ c.requires.listing.1 _ _ c.requires.below _ _ _ _ c.get-have.ensures c.entry-is-2.ensures (sym c.in-Equal.ensures) c.if-said-is.false
