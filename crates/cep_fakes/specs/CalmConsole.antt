use Rattle.std.specs.Prelude.{ℕ, List}
use Rattle.cep_base.specs.declared.console.Event.{Event}

-- what a console in memory holds: all events so far, and the bytes still to come
pub record Conversation : Type 0 where
  pub talk : List Event
  pub left : List ℕ
