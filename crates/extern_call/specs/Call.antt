-- The arguments of one CALL, and whether all resolve.
use Rattle.call_argument.specs.declared.error.CallArgumentError.{CallArgumentError}
use Rattle.call_argument.specs.declared.error.CallArgumentResolutionError.{CallArgumentResolutionError}
use Rattle.call_argument.specs.declared.resolved.ResolvedCallArgument.{ResolvedCallArgument}
use Rattle.std.specs.Prelude.{ℕ, ◌+◌, ◌-◌, ◌<◌, ◌≤◌, ◌≡◌, Bool, true, false, cond, List, eqb, Option, Result, Ok, Err}
use Rattle.std.specs.Option.{ok_or}
use Rattle.tables.specs.First.{every}
use Rattle.tables.specs.ParameterShape.{no_return}
use Rattle.tables.specs.Refusal.{extern_not_found, argument_count, argument_errors}
use Rattle.tables.specs.Outcome.{Outcome, ◌>>=◌, ◌>>◌, need}
use Rattle.tables.specs.Rows.{extern_rows, parameter_rows, argument_rows, extern_at, parameter_at, argument_at}
use Rattle.tables.specs.Lookup.{lookup_extern}
use Rattle.tables.specs.declared.rows.Extern.{Extern}
use Rattle.tables.specs.declared.rows.Instruction.{Instruction}
use Rattle.call_argument.specs.Resolve.{resolve_argument, resolve_return}
use Rattle.call_argument.specs.declared.error.CallArgumentError.TheVariants as E
use Rattle.extern_call.specs.declared.call.ExternCall.{ExternCall}
use Rattle.extern_call.specs.declared.call.Place.{Place}
use Rattle.extern_call.specs.declared.call.Place.TheVariants.{Return, Parameter}

-- "9 call: words 3 to 5 are extern name, first argument, count." With the extern's "return kind .., first parameter row, parameter count".
abbrev pub call_of : Extern → Instruction → ExternCall
call_of signature x =
    record {
      return_kind = signature.return_kind;
      first_parameter = signature.first_parameter;
      parameter_count = signature.parameter_count;
      first_argument = x.first_index;
      argument_count = x.second_name;
    }

-- "6 extern not found"
abbrev pub found_extern : Option ℕ → Outcome ℕ
found_extern row = ok_or row extern_not_found

unfoldable pub find_call : List ℕ → Instruction → Outcome ExternCall
find_call externs x = do
  row ← found_extern (lookup_extern externs x.first_name)
  Ok (call_of (extern_at externs row) x)

-- "parameters plus one for a return kind"
unfoldable pub expected_count : ExternCall → ℕ
expected_count call = cond (eqb call.return_kind no_return) call.parameter_count (call.parameter_count + 1)

-- "The argument count must equal parameters plus one for a return kind."
abbrev pub is_counted : ExternCall → Bool
is_counted call = eqb call.argument_count (expected_count call)

-- Argument i is the return's where there is a return kind and i is 0, else a parameter's; a parameter's place does not count the return.
unfoldable pub place_of : ExternCall → ℕ → Place
place_of call i =
    cond (eqb call.return_kind no_return) (Parameter i)
    (cond (eqb i 0) Return (Parameter (i - 1)))

-- "an error is the return's or a parameter's"
abbrev pub of_return : Result ResolvedCallArgument CallArgumentResolutionError → Result ResolvedCallArgument CallArgumentError
of_return (Ok a) = Ok a
of_return (Err error) = Err (E.Return error)

abbrev pub of_parameter : ℕ → Result ResolvedCallArgument CallArgumentResolutionError → Result ResolvedCallArgument CallArgumentError
of_parameter index (Ok a) = Ok a
of_parameter index (Err error) = Err (E.Argument index error)

-- what the argument i of a CALL resolves to
module _ (regions parameters arguments : List ℕ) (call : ExternCall) where
  abbrev pub resolution_for : ℕ → Place → Result ResolvedCallArgument CallArgumentError
  resolution_for i Return =
      of_return (resolve_return regions (argument_at arguments (call.first_argument + i)) call.return_kind)
  resolution_for i (Parameter k) =
      of_parameter k
      (resolve_argument regions (argument_at arguments (call.first_argument + i)) (parameter_at parameters (call.first_parameter + k)))

  unfoldable pub resolution_at : ℕ → Result ResolvedCallArgument CallArgumentError
  resolution_at i = resolution_for i (place_of call i)

abbrev pub is_resolved : Result ResolvedCallArgument CallArgumentError → Bool
is_resolved (Ok a) = true
is_resolved (Err e) = false

-- whether every argument of the CALL resolves
unfoldable pub all_resolve : List ℕ → List ℕ → List ℕ → ExternCall → Bool
all_resolve regions parameters arguments call =
    every (λ i. is_resolved (resolution_at regions parameters arguments call i)) call.argument_count

-- "a call: 6, 7, 8 (number only)"
unfoldable pub resolves_call : List ℕ → List ℕ → List ℕ → List ℕ → Instruction → Outcome ExternCall
resolves_call regions externs parameters arguments x = do
  call ← find_call externs x
  need (is_counted call) argument_count
  need (all_resolve regions parameters arguments call) argument_errors
  Ok call

-- What the functions over a CALL ask for, index safety alone: the CALL's arguments are rows of their table, and so are the parameters of each extern.
pub record CallRanges (externs parameters arguments : List ℕ) (x : Instruction) : Type 0 where
  pub argument_range : x.first_index + x.second_name ≤ argument_rows arguments
  pub parameter_range : (k : ℕ) → k < extern_rows externs
      → (extern_at externs k).first_parameter + (extern_at externs k).parameter_count ≤ parameter_rows parameters

-- the same of a CALL whose extern is found
pub record Ranges (parameters arguments : List ℕ) (call : ExternCall) : Type 0 where
  pub argument_range : call.first_argument + call.argument_count ≤ argument_rows arguments
  pub parameter_range : call.first_parameter + call.parameter_count ≤ parameter_rows parameters

-- of one whose count is right
pub record Counted (parameters arguments : List ℕ) (call : ExternCall) : Type 0 where
  pub ranges : Ranges parameters arguments call
  pub count : call.argument_count ≡ expected_count call

-- of an argument that is the return's or a parameter's
pub record Paired (parameters arguments : List ℕ) (call : ExternCall) (i : ℕ) : Type 0 where
  pub ranges : Ranges parameters arguments call
  pub argument : i < call.argument_count
  pub wanted : i < expected_count call
