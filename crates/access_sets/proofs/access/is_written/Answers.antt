use Rattle.std.proofs.Common.{arith, sym, ◌∙◌}
use Rattle.extern_call.proofs.CallLaws.{place-within}
use Rattle.access_sets.proofs.access.is_written.Goals as goal

pub overflow_add-call : goal.overflow_add-call
overflow_add-call c = record { fits = omega (arith, place-within _ _ _ c.requires.1 (sym c.place_of-place.ensures ∙ c.in-Parameter.is)) }

pub parameter_at-p-requires : goal.parameter_at-p-requires
parameter_at-p-requires c = omega (arith, place-within _ _ _ c.requires.1 (sym c.place_of-place.ensures ∙ c.in-Parameter.is))
