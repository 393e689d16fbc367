-- What is known of tests. Most of it is std's, brought together here.
use Rattle.std.proofs.Common.{◌≡◌, Bool, true, false}
pub use Rattle.std.proofs.lemmas.Bool.{and_parts, and_from, and_cases, and_left, and_right, or_cases, or_parts, or_from, or_left, or_right, cases_Bool}

-- a test that holds and does not
pub true_false : {X : Type 0} (b : Bool) → b ≡ true → b ≡ false → X
true_false b holds fails = cc
