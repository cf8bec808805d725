-- What a typing rule says of a row: it passes, or it has a type error, still without its row.
use Rattle.type_rules.specs.declared.error.TypeError.{TypeError}
use Rattle.std.specs.Prelude.{ℕ, Bool, true, false, cond, List, [], ◌∷◌, Result, Ok, Err}
use Rattle.type_rules.specs.Numbers.{undefined_error, data_type_error, real_required_error, operand_error, absent, no_spot}

-- "A type error holds kind (1 undefined, 2 data type, 3 real required, 4 operand), row, spot of the named operand .., spot of `src` or 0, and two codes"
pub record Fault : Type 0 where
  pub kind : ℕ
  pub spot : ℕ
  pub src_spot : ℕ
  pub first_code : ℕ
  pub second_code : ℕ

pub data Judgement : Type 0 where
  pass : Judgement
  fail : Fault → Judgement

-- "1 has 8 and 8"
abbrev pub undefined_memory_reference : ℕ → Judgement
undefined_memory_reference spot =
    fail (record { kind = undefined_error; spot = spot; src_spot = no_spot; first_code = absent; second_code = absent })

-- "Error 2 has dst and src codes"
abbrev pub data_type_mismatch : ℕ → ℕ → ℕ → ℕ → Judgement
data_type_mismatch dst_spot src_spot dst src =
    fail (record { kind = data_type_error; spot = dst_spot; src_spot = src_spot; first_code = dst; second_code = src })

-- "3 has found and 8"
abbrev pub real_value_required : ℕ → ℕ → Judgement
real_value_required spot found =
    fail (record { kind = real_required_error; spot = spot; src_spot = no_spot; first_code = found; second_code = absent })

-- "4 has found and required"
abbrev pub operator_operand_mismatch : ℕ → ℕ → ℕ → Judgement
operator_operand_mismatch spot found required =
    fail (record { kind = operand_error; spot = spot; src_spot = no_spot; first_code = found; second_code = required })

-- clauses in their order: the judgement of the first whose test holds, else `other`
abbrev pub judge : List (Bool × Judgement) → Judgement → Judgement
judge [] other = other
judge (clause ∷ clauses) other = cond clause.0 clause.1 (judge clauses other)

abbrev pub passes : Judgement → Bool
passes pass = true
passes (fail f) = false

-- the verdict on a row
abbrev pub verdict_at : ℕ → Judgement → Result (Unit {0}) TypeError
verdict_at row pass = (Ok tt)
verdict_at row (fail f) =
    Err
    (record {
      kind = f.kind;
      row = row;
      spot = f.spot;
      src_spot = f.src_spot;
      first_code = f.first_code;
      second_code = f.second_code;
    })

-- the error of an undeclared operand, with its row
abbrev pub undeclared_at : ℕ → ℕ → TypeError
undeclared_at row spot =
    record {
      kind = undefined_error;
      row = row;
      spot = spot;
      src_spot = no_spot;
      first_code = absent;
      second_code = absent;
    }
