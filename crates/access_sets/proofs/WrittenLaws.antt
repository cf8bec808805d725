-- A mutable resolved argument's name is in the write set. Assumes nothing.
use Rattle.std.proofs.Common.{Ok}
use Prim.Native.Nat.{ℕ, ◌+◌, ◌<◌}
use mathlib.Core.Path.{◌≡◌, refl, ◌∙◌}
use mathlib.Core.Bool.{true}
use mathlib.Core.List.{List, [], ◌∷◌}
use borrow.Author.Tests.{ne_eqb}
use Rattle.tables.specs.Rows.{argument_at}
use Rattle.call_argument.specs.Argument.{argument_of, argument_names}
use Rattle.extern_call.specs.Call.{place_of, resolution_at}
use Rattle.call_argument.specs.declared.argument.UnresolvedCallArgument.{UnresolvedCallArgument}
use Rattle.call_argument.specs.declared.resolved.ResolvedCallArgument.{ResolvedCallArgument}
use Rattle.call_argument.specs.declared.resolved.ResolvedCallArgument.TheVariants as R
use Rattle.extern_call.specs.declared.call.ExternCall.{ExternCall}
use Rattle.extern_call.specs.declared.call.Place.{Place}
use Rattle.extern_call.specs.declared.call.Place.TheVariants as P
use Rattle.extern_call.proofs.ResolvedLaws.{resolved_name, resolved_mutable, Facts, mutable_for, resolved_facts}
use Rattle.access_sets.specs.Set.{has}
use Rattle.access_sets.specs.Access.{names_in, written_for, written_at, paired_count, access_of}
use Rattle.access_sets.specs.declared.access.Access.TheVariants.{Write}
use Rattle.access_sets.proofs.SetLaws.{added_has}

written_mutable : (parameters : List ℕ) (call : ExternCall) (p : Place) → (mutable_for parameters call p ≡ 0 → ⊥) → written_for parameters call p ≡ true
written_mutable parameters call P.Return h = refl
written_mutable parameters call (P.Parameter k) h = rw (ne_eqb _ _ h)

facts_named : (regions : List ℕ) (a : UnresolvedCallArgument) (m : ℕ) (r : ResolvedCallArgument) → Facts regions a m r → (resolved_mutable r ≡ 0 → ⊥)
    → (argument_names a ≡ resolved_name r ∷ []) × (m ≡ 0 → ⊥)
facts_named regions a m (R.Vector name v mutable) f h = (f.names, λ e. h (f.mutability ∙ e))
facts_named regions a m (R.MemoryReference name index kind mutable) f h = (f.names, λ e. h (f.mutability ∙ e))
facts_named regions a m (R.Immediate real imaginary kind) f h = absurd (h refl)

pub mutable_written : (regions parameters arguments : List ℕ) (call : ExternCall) (i : ℕ) (r : ResolvedCallArgument) → i < paired_count call
    → resolution_at regions parameters arguments call i ≡ Ok r → (resolved_mutable r ≡ 0 → ⊥)
    → has (resolved_name r) (access_of parameters arguments call Write) ≡ true
unfolding names_in written_at
mutable_written regions parameters arguments call i r h e d =
    let f = facts_named regions (argument_of (argument_at arguments (call.first_argument + i))) (mutable_for parameters call (place_of call i)) r
    (resolved_facts regions parameters arguments call i r e) d in
    added_has parameters arguments call Write (resolved_name r) i h
    (rw (written_mutable parameters call (place_of call i) f.1) f.0)
