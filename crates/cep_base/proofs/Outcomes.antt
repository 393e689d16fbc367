-- What is said of an outcome, if it holds of each.
use Rattle.std.specs.Prelude.{Result, Ok, Err, OnOk, OnErr}

pub on_err : {T E : Type 0} (r : Result T E) (P : Type 0) → P → OnErr r P
on_err (Ok x) P p = tt
on_err (Err x) P p = p

pub on_ok : {T E : Type 0} (r : Result T E) (P : Type 0) → P → OnOk r P
on_ok (Ok x) P p = p
on_ok (Err x) P p = tt
