-- 02, P3, of one frame: its verdict, and the nodes that its check looked at. Order (DECISIONS C6): 1, 2 (the chosen row is absent or no frame), 3, 5.
use Rattle.std.specs.Prelude.{ℕ, ◌+◌, List, [], ◌∷◌, ◌≡◌, Result, Ok, Err}
use Rattle.console.specs.declared.frame.FrameError.{FrameError}
use Rattle.console.specs.declared.frame.FrameError.TheVariants as F
use Rattle.type_rules.specs.declared.error.TypeError.{TypeError}
use Rattle.tables.specs.Refusal.{refusal_number, type_error}
use Rattle.tables.specs.Tables.{Tables}
use Rattle.tables.specs.Family as family
use Rattle.tables.specs.Rows.{instruction_at}
use Rattle.tables.specs.declared.rows.Instruction.{Instruction}
use Rattle.loader.specs.Load.{load_row_look}
use Rattle.type_rules.specs.Numbers.{node_spot}
use Rattle.type_check.specs.Check.{error_words}
use Rattle.type_check.specs.Looked.{frame_check}
use Rattle.type_check.specs.declared.frame.FrameCheck.{FrameCheck}
use Rattle.console.specs.Answer.{after}

-- the count goes with either verdict
abbrev pub with_count : Result (Unit {0}) TypeError → ℕ → Result ℕ FrameError
with_count (Ok _) looked = Ok looked
with_count (Err e) looked = Err (F.Type e looked)

abbrev pub frame_answer : FrameCheck → Result ℕ FrameError
frame_answer c = with_count c.verdict c.looked

-- that row alone: type errors of other rows are not looked for
unfoldable pub frame_tables : Tables → ℕ → Result ℕ FrameError
frame_tables t row =
    after (load_row_look t row family.frame) (λ r. Err (F.Refused r))
    (frame_answer (frame_check t.regions t.nodes row (instruction_at t.instructions row)))

-- the answer's cases: 0, the refusal's number, or "with 5 the type error"
abbrev pub frame_number : Result ℕ FrameError → ℕ
frame_number (Ok looked) = 0
frame_number (Err (F.Refused r)) = refusal_number r
frame_number (Err (F.Type e looked)) = refusal_number type_error

-- the count is given on 0 and on 5
abbrev pub frame_looked : Result ℕ FrameError → List ℕ
frame_looked (Ok looked) = looked ∷ []
frame_looked (Err (F.Refused number)) = []
frame_looked (Err (F.Type e looked)) = looked ∷ []

-- "with 5 the type error"
abbrev pub frame_error : Result ℕ FrameError → List ℕ
frame_error (Ok looked) = []
frame_error (Err (F.Refused number)) = []
frame_error (Err (F.Type e looked)) = error_words e

-- 02: "the failing node's place in its tree plus 1", the place read off the error's spot, "or the whole tree's where none fails", the row's node count;
-- a refusal has no count
abbrev pub CountOf : Instruction → Result ℕ FrameError → Type 0
CountOf x (Ok looked) = looked ≡ x.first_index
CountOf x (Err (F.Refused number)) = Unit {0}
CountOf x (Err (F.Type e looked)) = node_spot looked ≡ e.spot + 1

-- 02: "Proved", of every answer of the call. FrameCount.antt in proofs/ has the theorem.
abbrev pub FrameCount : Type 0
FrameCount = (t : Tables) (row : ℕ) → CountOf (instruction_at t.instructions row) (frame_tables t row)
