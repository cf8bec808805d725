-- The operands that a row reads: cells and literals; and what it writes. 01, Machine: "A cell is kind, word."
use Rattle.std.specs.Prelude.{ℕ, ◌+◌, ◌*◌, List, [], ◌∷◌, get_or, eqb, Ok, Err}
use Rattle.words.specs.Kind.{bit, integer, integer_literal, real_literal, fits_kind}
use Rattle.tables.specs.Refusal.{no_rule}
use Rattle.tables.specs.Cases.{case_of}
use Rattle.tables.specs.Source as source
use Rattle.tables.specs.Outcome.{Outcome, ◌>>=◌, ◌>>◌, need}
use Rattle.tables.specs.declared.rows.Instruction.{Instruction}
use Rattle.journal.specs.Cells.{cell_width}
use Rattle.journal.specs.declared.cells.Write.{Write}
use Rattle.operands.specs.declared.cell.Value.{Value}

abbrev pub cell_kind : List ℕ → ℕ → ℕ
cell_kind cells c = get_or cells (cell_width * c) 0

abbrev pub cell_word : List ℕ → ℕ → ℕ
cell_word cells c = get_or cells (cell_width * c + 1) 0

abbrev pub cell_at : List ℕ → ℕ → Value
cell_at cells c = record { kind = cell_kind cells c; word = cell_word cells c }

-- "A step reads kinds from cells, never declarations; a read cell with kind above 3 or a word beyond its kind (BIT 1, OCTET 255) has no rule"
unfoldable pub read_of : List ℕ → ℕ → Outcome Value
read_of cells c = need (fits_kind (cell_kind cells c) (cell_word cells c)) no_rule >> Ok (cell_at cells c)

-- "source form (0 integer literal, 1 real literal, 2 reference ..)": c is a reference's cell. A row without a source reads none.
abbrev pub sources : List ℕ → Instruction → ℕ → List (ℕ × Outcome Value)
sources cells x c =
    (source.integer_literal, Ok (record { kind = integer_literal; word = x.source_first }))
    ∷ (source.real_literal, Ok (record { kind = real_literal; word = x.source_first }))
    ∷ (source.reference, read_of cells c)
    ∷ []

unfoldable pub source_of : List ℕ → Instruction → ℕ → Outcome Value
source_of cells x c = case_of x.source_form (sources cells x c) (Err no_rule)

-- the word of a cell that is read and has a rule as one kind alone
unfoldable pub read_word : ℕ → List ℕ → ℕ → Outcome ℕ
read_word kind cells c = do
  v ← read_of cells c
  need (eqb v.kind kind) no_rule
  Ok v.word

-- a LOAD's or STORE's offset: "offset not INTEGER is 4"
abbrev pub offset_of : List ℕ → ℕ → Outcome ℕ
offset_of = read_word integer

-- a jump's condition. 02, P4: "in forward only a BIT cell there has a rule"
abbrev pub condition_of : List ℕ → ℕ → Outcome ℕ
condition_of = read_word bit

-- what a row writes to cell c
abbrev pub write : ℕ → ℕ → ℕ → Write
write c k w = record { cell = c; kind = k; word = w }
