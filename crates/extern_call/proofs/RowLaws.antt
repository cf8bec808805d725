-- The width of a row, and how many rows an argument adds. Assumes nothing.
use Rattle.std.proofs.Common.{Result, Ok, Err}
use Prim.Native.Nat.{◌*◌, ◌≤◌}
use mathlib.Core.Path.{◌≡◌, refl}
use mathlib.Core.List.{append-nil}
use native.Mathlib.Omega.{arith}
use lib.ListN.{length}
use Rattle.call_argument.specs.Errors.{argument_error_words, error_row}
use Rattle.call_argument.specs.Resolved.{resolved_row}
use Rattle.extern_call.specs.Gather.{flat}
use Rattle.extern_call.specs.Rows.{error_in, resolved_in}
use Rattle.call_argument.specs.declared.error.CallArgumentResolutionError.{CallArgumentResolutionError}
use Rattle.call_argument.specs.declared.error.CallArgumentResolutionError.TheVariants.{UndeclaredMemoryReference, MismatchedVector, MismatchedScalar, InvalidVectorArgument, ReturnArgument, ImmediateArgumentForMutable}
use Rattle.call_argument.specs.declared.error.CallArgumentError.{CallArgumentError}
use Rattle.call_argument.specs.declared.error.CallArgumentError.TheVariants.{Return, Argument}
use Rattle.call_argument.specs.declared.resolved.ResolvedCallArgument.{ResolvedCallArgument}
use Rattle.call_argument.specs.declared.resolved.ResolvedCallArgument.TheVariants as R

error-words : (e : CallArgumentResolutionError) → length (argument_error_words e) ≡ 5
error-words (UndeclaredMemoryReference name) = refl
error-words (MismatchedVector expected found) = refl
error-words (MismatchedScalar expected found) = refl
error-words (InvalidVectorArgument row) = refl
error-words (ReturnArgument row) = refl
error-words (ImmediateArgumentForMutable name) = refl

error-row : (e : CallArgumentError) → length (error_row e) ≡ 7
error-row (Return e) = rw (error-words e)
error-row (Argument index e) = rw (error-words e)

resolved_row_lem : (a : ResolvedCallArgument) → length (resolved_row a) ≡ 5
resolved_row_lem (R.Vector name v mutable) = refl
resolved_row_lem (R.MemoryReference name index kind mutable) = refl
resolved_row_lem (R.Immediate real imaginary kind) = refl

pub error_width_lem : (r : Result ResolvedCallArgument CallArgumentError) → length (flat error_row (error_in r)) ≡ length (error_in r) * 7
unfolding flat
error_width_lem (Ok a) = refl
error_width_lem (Err e) = rw append-nil (error-row e)

pub resolved_width_lem : (r : Result ResolvedCallArgument CallArgumentError) → length (flat resolved_row (resolved_in r)) ≡ length (resolved_in r) * 5
unfolding flat
resolved_width_lem (Ok a) = rw append-nil (resolved_row_lem a)
resolved_width_lem (Err e) = refl

pub error-few : (r : Result ResolvedCallArgument CallArgumentError) → length (error_in r) ≤ 1
error-few (Ok a) = omega arith
error-few (Err e) = omega arith

pub resolved_few : (r : Result ResolvedCallArgument CallArgumentError) → length (resolved_in r) ≤ 1
resolved_few (Ok a) = omega arith
resolved_few (Err e) = omega arith
