-- 01, "Tables, in 64-bit words": the fields of each table's rows, in order; "Limits in rows", each inclusive.
use Rattle.std.specs.Prelude.{ℕ, ◌+◌, ◌*◌, ◌/◌, List, length, get_or}
use Rattle.tables.specs.declared.rows.Region.{Region}
use Rattle.tables.specs.declared.rows.Extern.{Extern}
use Rattle.tables.specs.declared.rows.Parameter.{Parameter}
use Rattle.tables.specs.declared.rows.Node.{Node}
use Rattle.tables.specs.declared.rows.Argument.{Argument}
use Rattle.tables.specs.declared.rows.Instruction.{Instruction}

-- how many rows of `width` words a table has
abbrev pub rows_of : ℕ → List ℕ → ℕ
rows_of width xs = length xs / width

-- Region: name, kind, length.
abbrev pub region_width : ℕ
region_width = 3

abbrev pub region_limit : ℕ
region_limit = 64

abbrev pub region_rows : List ℕ → ℕ
region_rows = rows_of region_width

abbrev pub region_name : List ℕ → ℕ → ℕ
region_name xs i = get_or xs (i * region_width) 0

abbrev pub region_kind : List ℕ → ℕ → ℕ
region_kind xs i = get_or xs (i * region_width + 1) 0

abbrev pub region_length : List ℕ → ℕ → ℕ
region_length xs i = get_or xs (i * region_width + 2) 0

abbrev pub region_at : List ℕ → ℕ → Region
region_at xs i = record { name = region_name xs i; kind = region_kind xs i; length = region_length xs i }

-- Extern: name, return kind or 4 for none, first parameter row, parameter count.
abbrev pub extern_width : ℕ
extern_width = 4

abbrev pub extern_limit : ℕ
extern_limit = 32

abbrev pub extern_rows : List ℕ → ℕ
extern_rows = rows_of extern_width

abbrev pub extern_at : List ℕ → ℕ → Extern
extern_at xs i =
    record {
      name = get_or xs (i * extern_width) 0;
      return_kind = get_or xs (i * extern_width + 1) 0;
      first_parameter = get_or xs (i * extern_width + 2) 0;
      parameter_count = get_or xs (i * extern_width + 3) 0;
    }

-- Parameter: name, mutable 0/1, shape (0 scalar, 1 fixed vector, 2 variable vector), kind, length (fixed only).
abbrev pub parameter_width : ℕ
parameter_width = 5

abbrev pub parameter_limit : ℕ
parameter_limit = 256

abbrev pub parameter_rows : List ℕ → ℕ
parameter_rows = rows_of parameter_width

abbrev pub parameter_at : List ℕ → ℕ → Parameter
parameter_at xs i =
    record {
      name = get_or xs (i * parameter_width) 0;
      mutable = get_or xs (i * parameter_width + 1) 0;
      shape = get_or xs (i * parameter_width + 2) 0;
      kind = get_or xs (i * parameter_width + 3) 0;
      length = get_or xs (i * parameter_width + 4) 0;
    }

-- Node: tag, two words.
abbrev pub node_width : ℕ
node_width = 3

abbrev pub node_limit : ℕ
node_limit = 2048

abbrev pub node_rows : List ℕ → ℕ
node_rows = rows_of node_width

abbrev pub node_tag : List ℕ → ℕ → ℕ
node_tag xs i = get_or xs (i * node_width) 0

abbrev pub node_at : List ℕ → ℕ → Node
node_at xs i = record { tag = node_tag xs i; first = get_or xs (i * node_width + 1) 0; second = get_or xs (i * node_width + 2) 0 }

-- Argument: form, two words.
abbrev pub argument_width : ℕ
argument_width = 3

abbrev pub argument_limit : ℕ
argument_limit = 1024

abbrev pub argument_rows : List ℕ → ℕ
argument_rows = rows_of argument_width

abbrev pub argument_at : List ℕ → ℕ → Argument
argument_at xs i = record { form = get_or xs (i * argument_width) 0; first = get_or xs (i * argument_width + 1) 0; second = get_or xs (i * argument_width + 2) 0 }

-- Instruction, nine words: family, operator, first name, index, second name, index, source form, source's two words.
abbrev pub instruction_width : ℕ
instruction_width = 9

abbrev pub instruction_limit : ℕ
instruction_limit = 512

abbrev pub instruction_rows : List ℕ → ℕ
instruction_rows = rows_of instruction_width

abbrev pub instruction_at : List ℕ → ℕ → Instruction
instruction_at xs i =
    record {
      family = get_or xs (i * instruction_width) 0;
      operator = get_or xs (i * instruction_width + 1) 0;
      first_name = get_or xs (i * instruction_width + 2) 0;
      first_index = get_or xs (i * instruction_width + 3) 0;
      second_name = get_or xs (i * instruction_width + 4) 0;
      second_index = get_or xs (i * instruction_width + 5) 0;
      source_form = get_or xs (i * instruction_width + 6) 0;
      source_first = get_or xs (i * instruction_width + 7) 0;
      source_second = get_or xs (i * instruction_width + 8) 0;
    }
