-- 01, "Bench examples": "These ten lines form the proved set, a joint theorem about the definitions". The declarations are `tables/specs/Bench.antt`.
use Rattle.session.specs.Answer.{OpenAnswer}
use Rattle.type_rules.specs.declared.error.ProgramError.TheVariants as P
use Rattle.type_rules.specs.declared.error.TypeError.{TypeError}
use Rattle.std.specs.Prelude.{ℕ, ◌-◌, ◌^◌, List, [], ◌∷◌, ◌++◌, ◌≡◌, refl, Result, Ok, Err}
use Rattle.tables.specs.declared.refusal.Refusal.{Refusal}
use Rattle.tables.specs.Bench.{a, n, o, r, q}
use Rattle.tables.specs.Refusal.{at_end, journal_full, index_past_length, negative_shift_count, unfit_literal}
use Rattle.words.specs.Kind.{bit, integer, octet, real, real_literal}
use Rattle.type_rules.specs.Numbers.{imaginary, real_or_integral, first_spot, source_spot, node_spot}
use Rattle.type_rules.specs.Judgement.{Judgement, undefined_memory_reference, data_type_mismatch, real_value_required, operator_operand_mismatch, verdict_at}
use Rattle.journal.specs.Position.{first_position}
use Rattle.sequence.specs.Calls.{Call, forward, back, Answer, of_step}
use Rattle.sequence.specs.BenchRun.{ADD_INTEGER, ADD_REAL, DIV, SHL, ASHR, MOVE, MOVE_REAL, EXCHANGE, LOAD, STORE, SET_PHASE, number, run}

-- open's answer for a verdict of the type check, and where the rule of row 0 is not met
abbrev answer_of : Result (Unit {0}) TypeError → OpenAnswer
answer_of (Ok _) = Ok first_position
answer_of (Err e) = Err (P.Type e)

abbrev failing : Judgement → OpenAnswer
failing j = answer_of (verdict_at 0 j)

-- a forward with no reply
abbrev step : Call
step = forward []

-- its answers, with the position: steps not taken back, journal entries used. No row of these lines is a jump, so the row is the number of steps.
abbrev moved : ℕ → ℕ → Answer
moved done used = of_step (Ok (record { row = done; done = done; used = used }))

abbrev refused : Refusal → ℕ → ℕ → Answer
refused r done used = of_step (Err (r, record { row = done; done = done; used = used }))

-- a[0], a[1], n[0] to n[2], o[0], r[0], r[1]: kind and word; n[0], o[0], r[0] and r[1] as given, 0 elsewhere
abbrev cells : ℕ → ℕ → ℕ → ℕ → List ℕ
cells n₀ o₀ r₀ r₁ =
    bit ∷ 0 ∷ bit ∷ 0 ∷ integer ∷ n₀ ∷ integer ∷ 0 ∷ integer ∷ 0 ∷ octet ∷ o₀ ∷ real ∷ r₀ ∷ real ∷ r₁ ∷ []

-- 1.5
abbrev bits : ℕ
bits = 0x3FF8000000000000

-- the program of the eighth line: n[0] as given, and 1.5 in r[1]
abbrev loading : ℕ → List ℕ
loading n₀ = MOVE n n₀ ++ (MOVE_REAL r 1 bits ++ LOAD r r n)

-- a field a line
pub record Bench : Type 0 where
  -- "Empty program passes; its first forward is 11."
  pub empty :
      ((run [] [] 4 (step ∷ [])).opening ≡ Ok first_position)
      × ((run [] [] 4 (step ∷ [])).steps ≡ refused at_end 0 0 ∷ [])
  -- "ADD a[0] 1.5 is error 2; ADD a[0] 1 is 4."
  pub add :
      ((run [] (ADD_REAL a bits) 4 []).opening ≡ failing (data_type_mismatch first_spot source_spot bit real_literal))
      × ((run [] (ADD_INTEGER a 1) 4 []).opening ≡ failing (operator_operand_mismatch first_spot bit real_or_integral))
  -- "STORE n n[0] q[0] with q undeclared is error 1", by 02, P1, "at spot 3, in the bench example too"
  pub store-undeclared : (run [] (STORE n n q) 4 []).opening ≡ failing (undefined_memory_reference source_spot)
  -- "MOVE o[0] 300", by 02, P6, is 24, and nothing is written
  pub move_300 :
      ((run [] (MOVE o 300) 4 (step ∷ [])).steps ≡ refused unfit_literal 0 0 ∷ [])
      × ((run [] (MOVE o 300) 4 (step ∷ [])).memory ≡ cells 0 0 0 0)
  -- "-7 by 2 is -3."
  pub minus_seven_by_two : (run [] (MOVE n (2 ^ 64 - 7) ++ DIV n 2) 4 (step ∷ step ∷ [])).memory ≡ cells (2 ^ 64 - 3) 0 0 0
  -- "o = 128: ASHR 1 gives 192, SHL 8 gives 0, SHL -1 is 16."
  pub shifts :
      ((run [] (MOVE o 128 ++ ASHR o 1) 4 (step ∷ step ∷ [])).memory ≡ cells 0 192 0 0)
      × ((run [] (MOVE o 128 ++ SHL o 8) 4 (step ∷ step ∷ [])).memory ≡ cells 0 0 0 0)
      × ((run [] (MOVE o 128 ++ SHL o (2 ^ 64 - 1)) 4 (step ∷ step ∷ [])).steps ≡ moved 1 2 ∷ refused negative_shift_count 1 2 ∷ [])
  -- "Imaginary 3CB0000000000000 (hexadecimal) passes, 3CB0000000000001 is error 3."
  pub imaginary_part :
      ((run (number 0x3CB0000000000000) SET_PHASE 4 []).opening ≡ Ok first_position)
      × ((run (number 0x3CB0000000000001) SET_PHASE 4 []).opening ≡ failing (real_value_required (node_spot 0) imaginary))
  -- "LOAD r[0] r n[0]: n[0] 1 works, 2 is 14."
  pub load :
      ((run [] (loading 1) 6 (step ∷ step ∷ step ∷ [])).steps ≡ moved 1 2 ∷ moved 2 4 ∷ moved 3 6 ∷ [])
      × ((run [] (loading 1) 6 (step ∷ step ∷ step ∷ [])).memory ≡ cells 1 0 bits bits)
      × ((run [] (loading 2) 6 (step ∷ step ∷ step ∷ [])).steps ≡ moved 1 2 ∷ moved 2 4 ∷ refused index_past_length 2 4 ∷ [])
  -- "EXCHANGE n[0] n[0] changes nothing, uses 3 entries."
  pub exchange :
      ((run [] (MOVE n 9 ++ EXCHANGE n n) 5 (step ∷ step ∷ [])).memory ≡ cells 9 0 0 0)
      × ((run [] (EXCHANGE n n) 3 (step ∷ [])).steps ≡ moved 1 3 ∷ [])
  -- "Journal of 2: MOVE works, another is 13, back, MOVE works."
  pub journal_of_2 : (run [] (MOVE n 1 ++ MOVE n 2) 2 (step ∷ step ∷ back ∷ step ∷ [])).steps
      ≡ moved 1 2 ∷ refused journal_full 1 2 ∷ moved 0 0 ∷ moved 1 2 ∷ []

pub bench : Bench
unfolding run
bench =
    record {
      empty = (refl, refl);
      add = (refl, refl);
      store-undeclared = refl;
      move_300 = (refl, refl);
      minus_seven_by_two = refl;
      shifts = (refl, refl, refl);
      imaginary_part = (refl, refl);
      load = (refl, refl, refl);
      exchange = (refl, refl);
      journal_of_2 = refl;
    }
