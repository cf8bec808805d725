-- The names that a row uses: those of its operands (tables/specs/Names.antt), or the addresses in a frame's expression.
use Rattle.std.specs.Prelude.{ℕ, ◌+◌, Bool, true, false, cond, ◌&&◌, ◌||◌, List, eqb}
use Rattle.tables.specs.Family as family
use Rattle.tables.specs.NodeTag as tag
use Rattle.tables.specs.First.{first}
use Rattle.tables.specs.Names.{names_first, names_second, names_source}
use Rattle.tables.specs.Rows.{node_at}
use Rattle.tables.specs.declared.rows.Node.{Node}
use Rattle.tables.specs.declared.rows.Instruction.{Instruction}

unfoldable pub operand_named : Instruction → ℕ → Bool
operand_named x name =
    (names_first x.family && eqb x.first_name name)
    || ((names_second x.family && eqb x.second_name name)
    || (names_source x.source_form && eqb x.source_first name))

-- "0 address (name, index)"
abbrev pub address_named : Node → ℕ → Bool
address_named node name = eqb node.tag tag.address && eqb node.first name

unfoldable pub node_named : List ℕ → Instruction → ℕ → Bool
node_named nodes x name =
    first (λ k. address_named (node_at nodes (x.first_name + k)) name) (λ k. true) false 0 x.first_index

-- whether the row names `name` by an operand or by an address in its expression
unfoldable pub row_named : List ℕ → Instruction → ℕ → Bool
row_named nodes x name = cond (eqb x.family family.frame) (node_named nodes x name) (operand_named x name)
