-- 1: "table not whole rows or over a limit". "Limits in rows", each inclusive.
use Rattle.std.specs.Prelude.{ℕ, ◌/◌, ◌%◌, Bool, ◌&&◌, List, length, eqb, leb}
use Rattle.tables.specs.Tables.{Tables}
use Rattle.tables.specs.Rows.{region_width, extern_width, parameter_width, node_width, argument_width, instruction_width, region_limit, extern_limit, parameter_limit, node_limit, argument_limit, instruction_limit}

unfoldable pub whole_rows : ℕ → ℕ → List ℕ → Bool
whole_rows width limit xs = eqb (length xs % width) 0 && leb (length xs / width) limit

unfoldable pub whole_tables : Tables → Bool
whole_tables t =
    whole_rows region_width region_limit t.regions
    && (whole_rows extern_width extern_limit t.externs
    && (whole_rows parameter_width parameter_limit t.parameters
    && (whole_rows node_width node_limit t.nodes
    && (whole_rows argument_width argument_limit t.arguments
    && whole_rows instruction_width instruction_limit t.instructions))))
