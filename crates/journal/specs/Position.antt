-- "A step takes the old position and gives the new one". 02, P4: "Position holds it, the steps not taken back and the entries used", where it is the current row.
use Rattle.std.specs.Prelude.{ℕ, ◌+◌, ◌-◌}
use Rattle.journal.specs.declared.position.Position.{Position}

-- Open's: the first row, no step and no entry.
abbrev pub first_position : Position
first_position = record { row = 0; done = 0; used = 0 }

-- After a step with so many changes that leads to a row: "journal changes plus 1 added up over its steps".
abbrev pub advanced : Position → ℕ → ℕ → Position
advanced p next changes = record { row = next; done = p.done + 1; used = p.used + (changes + 1) }

-- Before the last step: the row that it left, and its changes, by the closing entry.
abbrev pub retreated : Position → ℕ → ℕ → Position
retreated p row changes = record { row = row; done = p.done - 1; used = p.used - (changes + 1) }
