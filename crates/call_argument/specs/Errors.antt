-- 01, Calls: "In the ordered list an error is the return's or a parameter's, and inside it one of six, 1 to 6 in the Rust's order."
use Rattle.std.specs.Prelude.{ℕ, List, [], ◌∷◌}
use Rattle.call_argument.specs.declared.error.CallArgumentResolutionError.{CallArgumentResolutionError}
use Rattle.call_argument.specs.declared.error.CallArgumentResolutionError.TheVariants.{UndeclaredMemoryReference, MismatchedVector, MismatchedScalar, InvalidVectorArgument, ReturnArgument, ImmediateArgumentForMutable}
use Rattle.call_argument.specs.declared.error.CallArgumentError.{CallArgumentError}
use Rattle.call_argument.specs.declared.error.CallArgumentError.TheVariants.{Return, Argument}

-- "error, four detail words in field order, zero filled (an argument shows its 3 words)"
abbrev pub argument_error_words : CallArgumentResolutionError → List ℕ
argument_error_words (UndeclaredMemoryReference name) = 1 ∷ name ∷ 0 ∷ 0 ∷ 0 ∷ []
argument_error_words (MismatchedVector expected found) = 2 ∷ expected.kind ∷ expected.length ∷ found.kind ∷ found.length ∷ []
argument_error_words (MismatchedScalar expected found) = 3 ∷ expected ∷ found ∷ 0 ∷ 0 ∷ []
argument_error_words (InvalidVectorArgument row) = 4 ∷ row.form ∷ row.first ∷ row.second ∷ 0 ∷ []
argument_error_words (ReturnArgument row) = 5 ∷ row.form ∷ row.first ∷ row.second ∷ 0 ∷ []
argument_error_words (ImmediateArgumentForMutable name) = 6 ∷ name ∷ 0 ∷ 0 ∷ 0 ∷ []

-- "Error row, 7 words: 0 return or 1 parameter, parameter index (0 for return), error, four detail words"
abbrev pub error_row : CallArgumentError → List ℕ
error_row (Return error) = 0 ∷ 0 ∷ argument_error_words error
error_row (Argument index error) = 1 ∷ index ∷ argument_error_words error
