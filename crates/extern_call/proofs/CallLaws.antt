-- Which rows a CALL's arguments and their parameters are. Assumes nothing.
use Rattle.std.proofs.Common.{Option, Some, None, Ok}
use Prim.Native.Nat.{ℕ, ◌+◌, ◌-◌, ◌<◌}
use mathlib.Core.Path.{◌≡◌, refl}
use mathlib.Core.Bool.{Bool, true, false, cond}
use mathlib.Core.List.{List}
use native.Mathlib.Omega.{arith}
use borrow.Author.Tests.{eqb-false}
use lib.Dec.{eqb}
use Rattle.tables.specs.Outcome.{◌>>=◌}
use Rattle.tables.specs.Family as family
use Rattle.tables.specs.Rows.{instruction_rows, extern_at, instruction_at}
use Rattle.tables.specs.Lookup.{lookup_extern}
use Rattle.tables.specs.declared.rows.Instruction.{Instruction}
use Rattle.tables.specs.Tables.{Tables}
use Rattle.loader.proofs.Loaded.{Loaded, call-arguments, extern_parameters}
use Rattle.tables.proofs.LookupLaws.{extern_row}
use Rattle.extern_call.specs.Call.{call_of, found_extern, find_call, expected_count, place_of, CallRanges, Ranges, Counted, Paired}
use Rattle.extern_call.specs.declared.call.ExternCall.{ExternCall}
use Rattle.extern_call.specs.declared.call.Place.TheVariants.{Return, Parameter}

-- what the loader's acceptance gives a CALL's row
pub loaded_ranges : {t : Tables} (l : Loaded t) (row : ℕ) → row < instruction_rows t.instructions → (instruction_at t.instructions row).family ≡ family.call
    → CallRanges t.externs t.parameters t.arguments (instruction_at t.instructions row)
loaded_ranges l row h f = record { argument_range = call-arguments l row h f; parameter_range = extern_parameters l }

-- the extern of a CALL that is found
pub record CallAt (externs : List ℕ) (x : Instruction) (call : ExternCall) : Type 0 where
  pub row : ℕ
  pub named : lookup_extern externs x.first_name ≡ Some row
  pub signature : call_of (extern_at externs row) x ≡ call

call_by : (externs : List ℕ) (x : Instruction) (f : Option ℕ) (call : ExternCall) → lookup_extern externs x.first_name ≡ f
    → (found_extern f >>= (λ row. Ok (call_of (extern_at externs row) x))) ≡ Ok call → CallAt externs x call
unfolding ◌>>=◌
call_by externs x (Some row) call e h = record { row = row; named = e; signature = cc }
call_by externs x None call e h = let z : ◌≡◌ {A = ℕ} 0 1 = cc in absurd (omega arith)

pub call_at : (externs : List ℕ) (x : Instruction) (call : ExternCall) → find_call externs x ≡ Ok call → CallAt externs x call
unfolding find_call
call_at externs x call e = call_by externs x (lookup_extern externs x.first_name) call refl e

-- its arguments and parameters lie in their tables
pub call-ranges : {externs parameters arguments : List ℕ} {x : Instruction} {call : ExternCall} → CallRanges externs parameters arguments x
    → find_call externs x ≡ Ok call → Ranges parameters arguments call
call-ranges {externs} {parameters} {arguments} {x} {call} r e =
    let c = call_at externs x call e in
    rw (← c.signature)
    (record { argument_range = r.argument_range; parameter_range = r.parameter_range c.row (extern_row externs x.first_name c.row c.named) })

place-below : (b₁ b₂ : Bool) (i k n : ℕ) → eqb i 0 ≡ b₂ → i < cond b₁ n (n + 1)
    → cond b₁ (Parameter i) (cond b₂ Return (Parameter (i - 1))) ≡ Parameter k → k < n
place-below true b₂ i k n e h p = let q : i ≡ k = cc in omega arith
place-below false true i k n e h p = let z : ◌≡◌ {A = ℕ} 0 1 = cc in absurd (omega arith)
place-below false false i k n e h p = let q : i - 1 ≡ k = cc in omega (arith, eqb-false i 0 e)

-- the parameter of an argument that has one
pub place-within : (call : ExternCall) (i k : ℕ) → i < expected_count call → place_of call i ≡ Parameter k → k < call.parameter_count
unfolding expected_count place_of
place-within call i k h p = place-below (eqb call.return_kind 4) (eqb i 0) i k call.parameter_count refl h p

pub counted-paired : {parameters arguments : List ℕ} {call : ExternCall} (i : ℕ) → Counted parameters arguments call → i < call.argument_count → Paired parameters arguments call i
counted-paired i c h = record { ranges = c.ranges; argument = h; wanted = rw c.count at h }
