use Rattle.cep_term.proofs.OrderLaws.{atom_cmp_total, atom_cmp_ties}
use Rattle.cep_term.proofs.Multisets.{count_empty, copies_empty, nodes_empty, bag_empty, count_set_own, count_set_other, copies_set_count, nodes_set_count, bag_set_count, same_counts, count_le_copies, count_sum, copies_sum, nodes_sum, bag_sum, sum_commutes, sum_groups, count_difference, bag_difference, sum_of_difference, difference_of_sum, bag_gathered, gathered-append, sum_with_one, gathered_copies, gathered_nodes, gathered_there, earlier_is_less, entry_counted, entry_there, count_joined, count_once, bag_once, copies_once, same_once, gains_all, ground_gained, count_others, count_single, once_gathered, gained_alike, gained_among, gained_few}
use Rattle.cep_term.proofs.laws.bags_are_lawful.Goals as goal

pub returns : goal.returns
returns c = record {
  total = atom_cmp_total;
  ties = atom_cmp_ties;
  empty = count_empty;
  empty_copies = copies_empty;
  empty_nodes = nodes_empty;
  empty_kept = bag_empty;
  own = count_set_own;
  others = count_set_other;
  set_copies = copies_set_count;
  set_nodes = nodes_set_count;
  set_kept = bag_set_count;
  equal = same_counts;
  within = count_le_copies;
  sum = count_sum;
  sum_copies = copies_sum;
  sum_nodes = nodes_sum;
  sum_kept = bag_sum;
  sum_commutes = sum_commutes;
  sum_groups = sum_groups;
  difference = count_difference;
  difference_kept = bag_difference;
  taken_and_added = sum_of_difference;
  added_and_taken = difference_of_sum;
  earlier_is_less = earlier_is_less;
  entry_counted = entry_counted;
  entry_there = entry_there;
  gathered_kept = bag_gathered;
  gathered_joined = gathered-append;
  gathered_copies = gathered_copies;
  gathered_nodes = gathered_nodes;
  gathered_there = gathered_there;
  sum_with_one = sum_with_one;
  joined_count = count_joined;
  once_count = count_once;
  once_kept = bag_once;
  once_copies = copies_once;
  once_same = same_once;
  once_gains = gains_all;
  once_gathered = once_gathered;
  gained_alike = gained_alike;
  gained_among = gained_among;
  gained_few = gained_few;
  gained_ground = ground_gained;
  without_others = count_others;
  without_those = count_single;
}
