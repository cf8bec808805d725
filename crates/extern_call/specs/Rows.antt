-- A CALL resolved into lent rows. 01, Order: "Resolve: 1, 2, 3, 6, 7, 4 (7 words an argument), 8."
use Rattle.std.specs.Prelude.{ℕ, ◌*◌, cond, List, [], ◌∷◌, leb, length, Result, Ok, Err}
use Rattle.std.proofs.lemmas.List.Edits.{sets}
use Rattle.tables.specs.Refusal.{refusal_number, buffer_size, argument_count, argument_errors}
use Rattle.tables.specs.Outcome.{Outcome, ◌>>=◌, ◌>>◌, need}
use Rattle.tables.specs.declared.rows.Instruction.{Instruction}
use Rattle.call_argument.specs.Errors.{error_row}
use Rattle.call_argument.specs.Resolved.{resolved_row}
use Rattle.extern_call.specs.Gather.{gather, flat}
use Rattle.extern_call.specs.Call.{find_call, is_counted, resolution_at, all_resolve}
use Rattle.call_argument.specs.declared.error.CallArgumentError.{CallArgumentError}
use Rattle.call_argument.specs.declared.resolved.ResolvedCallArgument.{ResolvedCallArgument}
use Rattle.extern_call.specs.declared.call.ExternCall.{ExternCall}
use Rattle.extern_call.specs.declared.rows.ResolveError.{ResolveError}
use Rattle.extern_call.specs.declared.rows.ResolveError.TheVariants.{Refused, Errors}

-- "Error row, 7 words"; "Resolved row, 5 words"
abbrev pub error_width : ℕ
error_width = 7

abbrev pub resolved_width : ℕ
resolved_width = 5

abbrev pub error_in : Result ResolvedCallArgument CallArgumentError → List CallArgumentError
error_in (Ok a) = []
error_in (Err e) = e ∷ []

abbrev pub resolved_in : Result ResolvedCallArgument CallArgumentError → List ResolvedCallArgument
resolved_in (Ok a) = a ∷ []
resolved_in (Err e) = []

-- the ordered list of a CALL's errors
unfoldable pub errors_of : List ℕ → List ℕ → List ℕ → ExternCall → List CallArgumentError
errors_of regions parameters arguments call =
    gather (λ i. error_in (resolution_at regions parameters arguments call i)) 0 call.argument_count

-- its resolved arguments, in order
unfoldable pub resolved_arguments : List ℕ → List ℕ → List ℕ → ExternCall → List ResolvedCallArgument
resolved_arguments regions parameters arguments call =
    gather (λ i. resolved_in (resolution_at regions parameters arguments call i)) 0 call.argument_count

-- what resolve gives: its answer, and the lent rows at exit
pub record Resolving : Type 0 where
  pub answer : Result ℕ ResolveError
  pub rows : List ℕ

abbrev pub resolving : Result ℕ ResolveError → List ℕ → Resolving
resolving answer rows = record { answer = answer; rows = rows }

-- the answer's cases: 0, or the refusal's number, which is 8 for the errors
abbrev pub resolve_number : Result ℕ ResolveError → ℕ
resolve_number (Err (Refused r)) = refusal_number r
resolve_number (Err (Errors count)) = refusal_number argument_errors
resolve_number (Ok count) = 0

-- how many rows were written, on 0 and on 8
abbrev pub resolve_count : Result ℕ ResolveError → List ℕ
resolve_count (Err (Refused r)) = []
resolve_count (Err (Errors count)) = count ∷ []
resolve_count (Ok count) = count ∷ []

-- "It writes nothing, but 8 in resolve writes its error rows and returns their count."
abbrev pub or_refused : List ℕ → Outcome Resolving → Resolving
or_refused rows (Ok r) = r
or_refused rows (Err r) = resolving (Err (Refused r)) rows

-- the items' rows from word 0 on, and the answer with their count
abbrev pub with_rows : {A : Type 0} → (ℕ → Result ℕ ResolveError) → (A → List ℕ) → List A → List ℕ → Resolving
with_rows answer row items rows = resolving (answer (length items)) (sets rows 0 (flat row items))

-- 6, 7, 4, then 8 with the rows of all errors, or the resolved rows
unfoldable pub resolve_call : List ℕ → List ℕ → List ℕ → List ℕ → Instruction → List ℕ → Resolving
resolve_call regions externs parameters arguments x rows = or_refused rows (do
  call ← find_call externs x
  need (is_counted call) argument_count
  need (leb (error_width * call.argument_count) (length rows)) buffer_size
  Ok
      (cond (all_resolve regions parameters arguments call)
      (with_rows Ok resolved_row (resolved_arguments regions parameters arguments call) rows)
      (with_rows (λ count. Err (Errors count)) error_row (errors_of regions parameters arguments call) rows)))
