use Prim.Native.Nat.{◌<◌}
use mathlib.Core.Path.{sym, ◌∙◌}
use native.Mathlib.Omega.{arith}
use Rattle.extern_call.specs.Call.{resolution_at}
use Rattle.extern_call.proofs.CallLaws.{place-within}
use Rattle.extern_call.proofs.call.resolve_at.Goals as goal

pub overflow_add-call-in-Parameter : goal.overflow_add-call-in-Parameter
overflow_add-call-in-Parameter c =
    let within : c.in-Parameter.k < c.args.call.parameter_count = place-within _ _ _ c.requires.wanted (sym c.place_of-place.ensures ∙ c.in-Parameter.is) in
    record { fits = omega (arith, within) }

pub parameter_at-p-requires : goal.parameter_at-p-requires
parameter_at-p-requires c =
    let within : c.in-Parameter.k < c.args.call.parameter_count = place-within _ _ _ c.requires.wanted (sym c.place_of-place.ensures ∙ c.in-Parameter.is) in
    omega (arith, within)

pub returns-in-Return : goal.returns-in-Return
unfolding resolution_at
returns-in-Return c = rw (sym c.place_of-place.ensures ∙ c.in-Return.is, ← c.argument_at-row.ensures, ← c.resolve_return.ensures) c.of_return.ensures

pub returns-in-Parameter : goal.returns-in-Parameter
unfolding resolution_at
returns-in-Parameter c =
    rw (sym c.place_of-place.ensures ∙ c.in-Parameter.is, ← c.argument_at-row.ensures, ← c.parameter_at-p.ensures, ← c.resolve_argument.ensures) c.of_parameter.ensures
