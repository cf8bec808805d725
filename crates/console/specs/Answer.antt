-- A call that begins with the loader's looks.
use Rattle.std.specs.Prelude.{Ok, Err}
use Rattle.tables.specs.declared.refusal.Refusal.{Refusal}
use Rattle.tables.specs.Outcome.{Outcome}

-- what is answered to the looks' refusal, or the rest of the call
abbrev pub after : {A B : Type 0} → Outcome A → (Refusal → B) → B → B
after (Ok a) refused rest = rest
after (Err r) refused rest = refused r
