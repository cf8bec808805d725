-- The loader's refusals: 1 over all tables, then 2 over all, then 3.
use Rattle.std.specs.Prelude.{ℕ, Bool, ◌&&◌, List, eqb, ltb}
use Rattle.tables.specs.Refusal.{table_shape, word_not_allowed, name_twice}
use Rattle.tables.specs.Outcome.{Outcome, ◌>>◌, need}
use Rattle.tables.specs.Tables.{Tables}
use Rattle.tables.specs.Rows.{region_width, extern_width, node_width, node_limit, parameter_rows, argument_rows, instruction_rows, instruction_at}
use Rattle.tables.specs.Lookup.{distinct}
use Rattle.tables.specs.Tree.{one_tree}
use Rattle.loader.specs.Shape.{whole_rows, whole_tables}
use Rattle.word_rules.specs.Allowed.{regions_allowed, externs_allowed, parameters_allowed, nodes_allowed, arguments_allowed}
use Rattle.word_rules.specs.Instruction.{instructions_allowed}

-- 2: "word not allowed, range outside its table"
unfoldable pub allowed_tables : Tables → Bool
allowed_tables t =
    regions_allowed t.regions
    && (externs_allowed (parameter_rows t.parameters) t.externs
    && (parameters_allowed t.parameters
    && (nodes_allowed t.nodes
    && (arguments_allowed t.arguments
    && instructions_allowed t.nodes (argument_rows t.arguments) t.instructions))))

-- 2: "chosen row absent or of the wrong family"
unfoldable pub chosen_row : List ℕ → ℕ → ℕ → Bool
chosen_row instructions row family = ltb row (instruction_rows instructions) && eqb (instruction_at instructions row).family family

-- 3: "two regions or two externs of one name"
unfoldable pub distinct_names : List ℕ → List ℕ → Bool
distinct_names regions externs = distinct region_width regions && distinct extern_width externs

-- the looks in their order, where `chosen` says whether the row that a call takes, if it takes one, is there and of its family
unfoldable pub chosen_look : Tables → Bool → Outcome (Unit {0})
chosen_look t chosen = do
  need (whole_tables t) table_shape
  need (allowed_tables t && chosen) word_not_allowed
  need (distinct_names t.regions t.externs) name_twice

-- every call that takes all tables
unfoldable pub load_look : Tables → Outcome (Unit {0})
load_look t = do
  need (whole_tables t) table_shape
  need (allowed_tables t) word_not_allowed
  need (distinct_names t.regions t.externs) name_twice

-- a call that takes a row of a family besides
unfoldable pub load_row_look : Tables → ℕ → ℕ → Outcome (Unit {0})
load_row_look t row family = do
  need (whole_tables t) table_shape
  need (allowed_tables t) word_not_allowed
  need (chosen_row t.instructions row family) word_not_allowed
  need (distinct_names t.regions t.externs) name_twice

-- the walk, which takes the nodes alone and a range
unfoldable pub load_nodes_look : List ℕ → ℕ → ℕ → Outcome (Unit {0})
load_nodes_look nodes first count = do
  need (whole_rows node_width node_limit nodes) table_shape
  need (nodes_allowed nodes) word_not_allowed
  need (one_tree nodes first count) word_not_allowed
