-- 01, Calls: "Access sets: distinct names, ascending." Order: "Access: 1, 2, 3, 6, 4 (argument count in each list)."
use Rattle.std.specs.Prelude.{ℕ, ◌+◌, Bool, true, not, cond, List, [], ◌∷◌, eqb, ltb, leb, length, Ok, Err}
use Rattle.std.proofs.lemmas.List.Edits.{sets}
use Rattle.tables.specs.Refusal.{refusal_number, buffer_size}
use Rattle.tables.specs.Outcome.{Outcome, ◌>>=◌, ◌>>◌, need}
use Rattle.tables.specs.Rows.{parameter_at, argument_at}
use Rattle.tables.specs.declared.rows.Argument.{Argument}
use Rattle.tables.specs.declared.rows.Instruction.{Instruction}
use Rattle.call_argument.specs.Argument.{argument_of, argument_names}
use Rattle.extern_call.specs.Gather.{gather}
use Rattle.extern_call.specs.Call.{find_call, expected_count, place_of}
use Rattle.extern_call.specs.declared.call.ExternCall.{ExternCall}
use Rattle.extern_call.specs.declared.call.Place.{Place}
use Rattle.extern_call.specs.declared.call.Place.TheVariants.{Return, Parameter}
use Rattle.access_sets.specs.Set.{insert_all}
use Rattle.access_sets.specs.declared.access.Access.{Access}
use Rattle.access_sets.specs.declared.access.Access.TheVariants.{Read, Write}

-- "Every identifier and reference left ..; an immediate adds nothing."
unfoldable pub names_in : Argument → List ℕ
names_in row = argument_names (argument_of row)

-- "the return's and a mutable parameter's are written too"
abbrev pub written_for : List ℕ → ExternCall → Place → Bool
written_for parameters call Return = true
written_for parameters call (Parameter k) = not (eqb (parameter_at parameters (call.first_parameter + k)).mutable 0)

unfoldable pub written_at : List ℕ → ExternCall → ℕ → Bool
written_at parameters call i = written_for parameters call (place_of call i)

-- "Every identifier and reference left is read"
abbrev pub listed_at : List ℕ → ExternCall → Access → ℕ → Bool
listed_at parameters call Read i = true
listed_at parameters call Write i = written_at parameters call i

-- the names that argument i adds to a set
abbrev pub names_at : List ℕ → List ℕ → ExternCall → Access → ℕ → List ℕ
names_at parameters arguments call access i =
    cond (listed_at parameters call access i) (names_in (argument_at arguments (call.first_argument + i))) []

-- "They ignore counts: extra arguments or parameters drop off." The lower of the two counts.
unfoldable pub paired_count : ExternCall → ℕ
paired_count call = cond (ltb call.argument_count (expected_count call)) call.argument_count (expected_count call)

-- the set; Laws.antt says that it is "distinct names, ascending"
unfoldable pub access_of : List ℕ → List ℕ → ExternCall → Access → List ℕ
access_of parameters arguments call access = insert_all [] (gather (names_at parameters arguments call access) 0 (paired_count call))

-- what access gives: its answer, and the lent lists at exit
pub record Accessing : Type 0 where
  pub answer : Outcome (ℕ × ℕ)
  pub reads : List ℕ
  pub writes : List ℕ

abbrev pub accessing : Outcome (ℕ × ℕ) → List ℕ → List ℕ → Accessing
accessing answer reads writes = record { answer = answer; reads = reads; writes = writes }

-- the answer's cases: 0, or the refusal's number
abbrev pub access_number : Outcome (ℕ × ℕ) → ℕ
access_number (Err r) = refusal_number r
access_number (Ok counts) = 0

-- how many names are read and written, where there is no refusal
abbrev pub access_counts : Outcome (ℕ × ℕ) → List ℕ
access_counts (Err r) = []
access_counts (Ok (read, written)) = read ∷ written ∷ []

-- "A refusal returns its number .. It writes nothing"
abbrev pub or_untouched : List ℕ → List ℕ → Outcome Accessing → Accessing
or_untouched reads writes (Ok a) = a
or_untouched reads writes (Err r) = accessing (Err r) reads writes

-- the names of each set at the front of its lent list, and how many there are
abbrev pub with_sets : List ℕ → List ℕ → List ℕ → List ℕ → Accessing
with_sets read written reads writes = accessing (Ok (length read, length written)) (sets reads 0 read) (sets writes 0 written)

-- 6, 4, then the two sets
unfoldable pub access_call : List ℕ → List ℕ → List ℕ → Instruction → List ℕ → List ℕ → Accessing
access_call externs parameters arguments x reads writes = or_untouched reads writes (do
  call ← find_call externs x
  need (leb call.argument_count (length reads)) buffer_size
  need (leb call.argument_count (length writes)) buffer_size
  Ok (with_sets (access_of parameters arguments call Read) (access_of parameters arguments call Write) reads writes))
