-- What a row does to the cells: a refusal, or its writes in order. 11 and 13 are the session's.
use Rattle.std.specs.Prelude.{ℕ, Bool, not, cond, ◌&&◌, List, [], ◌∷◌, length, eqb, Ok, Err}
use Rattle.tables.specs.Refusal.{other_instruction, unfit_reply, unfit_labels}
use Rattle.tables.specs.Outcome.{Outcome, ◌>>=◌, ◌>>◌, need}
use Rattle.tables.specs.Family as family
use Rattle.tables.specs.Operator as operator
use Rattle.tables.specs.Tables.{Tables}
use Rattle.tables.specs.Rows.{instruction_at}
use Rattle.tables.specs.declared.rows.Instruction.{Instruction}
use Rattle.labels.specs.Labels.{labels_fit}
use Rattle.operands.specs.Address.{names_of, addresses_of}
use Rattle.machine.specs.Families.{family_of}
use Rattle.call_reply.specs.Call.{call_outcome}
use Rattle.journal.specs.declared.cells.Write.{Write}
use Rattle.machine.specs.declared.outcome.Writes.{Writes}
use Rattle.machine.specs.declared.outcome.Writes.TheVariants.{Nothing, One, Two}

abbrev pub is_call : Instruction → Bool
is_call x = eqb x.family family.call

-- "10: operator 0 is NOP, 1 any other instruction"
abbrev pub is_other : Instruction → Bool
is_other x = eqb x.family family.other && eqb x.operator operator.any_other

-- A row that is no CALL. 01, Order: "else 17, 18 names, 14 written indices", and the families' looks.
unfoldable pub plain_outcome : List ℕ → List ℕ → Instruction → List ℕ → Outcome (List Write)
plain_outcome regions cells x reply = do
  need (eqb (length reply) 0) unfit_reply
  n ← names_of regions x
  a ← addresses_of regions x n
  family_of regions cells x n a

-- Any row. 01, Order: "9; a call: 6, 7, 8 (number only), 14 over scalar references, 17, ..; else 17, 18 names, .."; 02, P4: "after 9 and before the calls, with 20"
unfoldable pub outcome_of : Tables → List ℕ → Instruction → List ℕ → Outcome (List Write)
outcome_of t cells x reply = do
  need (not (is_other x)) other_instruction
  need (labels_fit t.instructions) unfit_labels
  cond (is_call x) (call_outcome t.regions t.externs t.parameters t.arguments x reply) (plain_outcome t.regions cells x reply)

-- the row of that number
unfoldable pub outcome_at : Tables → List ℕ → ℕ → List ℕ → Outcome (List Write)
outcome_at t cells row reply = outcome_of t cells (instruction_at t.instructions row) reply

-- the code's `Writes` as a list, and its answer
abbrev pub listed : Writes → List Write
listed Nothing = []
listed (One w) = w ∷ []
listed (Two v w) = v ∷ w ∷ []

abbrev pub row_outcome : Outcome Writes → Outcome (List Write)
row_outcome (Ok w) = Ok (listed w)
row_outcome (Err r) = Err r
