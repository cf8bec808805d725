-- 02, P4: "A run key is added: it stops after a stated number of steps and reports the number taken, or sooner only at the end, before a CALL or at a refusal, and says which."
use Rattle.std.specs.Prelude.{ℕ, zero, suc, ◌+◌, cond, List, [], length, leb, Ok, Err}
use Rattle.tables.specs.Outcome.{Outcome}
use Rattle.tables.specs.Tables.{Tables}
use Rattle.tables.specs.Rows.{instruction_rows, instruction_at}
use Rattle.journal.specs.declared.position.Position.{Position}
use Rattle.machine.specs.Outcome.{is_call}
use Rattle.session.specs.Answer.{StepAnswer, RunAnswer}
use Rattle.session.specs.Position.{placed_look}
use Rattle.session.specs.Leaves.{Leaves, leaves}
use Rattle.session.specs.declared.answer.Stop.{Stop}
use Rattle.session.specs.declared.answer.Stop.TheVariants.{Allowance, End, Call, Refusal}
use Rattle.session_forward.specs.Forward.{Left, forward_tables}

-- ---- what run leaves

abbrev pub Running : Type 0
Running = Leaves RunAnswer (List ℕ)

abbrev pub running : RunAnswer → List ℕ → List ℕ → Running
running = leaves

-- stopped after so many steps, for a reason, at a position
abbrev pub stopped : ℕ → Stop → Position → List ℕ → List ℕ → Running
stopped taken stop p memory journal = running (Ok (taken, stop, p)) memory journal

-- ---- one turn

-- what a step of forward does to memory, journal and position
abbrev pub Step : Type 0
Step = List ℕ → List ℕ → Position → Left

-- how a run goes on from memory, journal and position
abbrev pub Rest : Type 0
Rest = List ℕ → List ℕ → Position → Running

-- "A stop at a step's refusal is an answer that gives its number and keeps the steps already taken."; else the run goes on from what the step left
abbrev pub onward : Rest → ℕ → List ℕ → List ℕ → StepAnswer → Running
onward rest taken memory journal (Ok p) = rest memory journal p
onward rest taken memory journal (Err (number, p)) = stopped taken (Refusal number) p memory journal

-- "before each step, come allowance, end, CALL, refusal": from the end on
unfoldable pub turn : Step → List ℕ → Rest → ℕ → List ℕ → List ℕ → Position → Running
turn step instructions rest taken memory journal p =
    cond (leb (instruction_rows instructions) p.row) (stopped taken End p memory journal)
    (cond (is_call (instruction_at instructions p.row)) (stopped taken Call p memory journal)
    (onward rest taken (step memory journal p).memory (step memory journal p).journal (step memory journal p).answer))

-- ---- run

-- with so many steps left of the allowance, after so many taken
unfoldable pub run_by : Step → List ℕ → ℕ → ℕ → Rest
run_by step instructions zero taken memory journal p = stopped taken Allowance p memory journal
run_by step instructions (suc left) taken memory journal p = turn step instructions (run_by step instructions left (taken + 1)) taken memory journal p

-- a forward with no reply
abbrev pub forward_step : Tables → Step
forward_step t memory journal p = forward_tables t memory journal p []

-- where the looks before the first step refuse nothing
abbrev pub unless_refused : {A : Type 0} → Outcome A → Position → List ℕ → List ℕ → Running → Running
unless_refused (Ok a) p memory journal run = run
unless_refused (Err number) p memory journal run = running (Err (number, p)) memory journal

-- "It makes forward's looks up to 19 first": "1, 2, 3, 10, 4, 19"
unfoldable pub run_tables : Tables → List ℕ → List ℕ → Position → ℕ → Running
run_tables t memory journal p allowance =
    unless_refused (placed_look t (length memory) (length journal) p) p memory journal (run_by (forward_step t) t.instructions allowance 0 memory journal p)
