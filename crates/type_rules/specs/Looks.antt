-- Looks that several rules share: at the first two operands, and at a source beside the kind of another operand. An undeclared name
-- ends the look with its error. The rules themselves are in Rule.antt.
use Rattle.type_rules.specs.declared.error.TypeError.{TypeError}
use Rattle.std.specs.Prelude.{ℕ, cond, Option, Some, None, Result, Ok, Err}
use Rattle.type_rules.specs.Numbers.{first_spot, second_spot, source_spot}
use Rattle.type_rules.specs.Judgement.{undeclared_at}
use Rattle.type_rules.specs.Rule.{undeclared, misfits}

-- "destination, then lhs declared", "both declared", "destination, offset declared"
unfoldable pub pair_of : ℕ → ℕ → ℕ → Result (ℕ × ℕ) TypeError
pair_of row first second =
    cond (undeclared first)
    (Err (undeclared_at row first_spot))
    (cond (undeclared second) (Err (undeclared_at row second_spot)) (Ok (first, second)))

-- the code of a source that misfits: "source declared, same kind or 2"; of STORE: "kinds as for move"
unfoldable pub fit_of : ℕ → ℕ → ℕ → Result (Option ℕ) TypeError
fit_of row kind source =
    cond (undeclared source)
    (Err (undeclared_at row source_spot))
    (cond (misfits kind source) (Ok (Some source)) (Ok None))
