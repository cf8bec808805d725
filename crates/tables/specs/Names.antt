-- Which operands of a row are names of regions, by family and source form alone. Every look at a row's names cites this file.
use Rattle.std.specs.Prelude.{ℕ, Bool, true, false, List, [], ◌∷◌, eqb}
use Rattle.tables.specs.Cases.{case_of}
use Rattle.tables.specs.Family as family
use Rattle.tables.specs.Source as source

-- No name; the name of a whole region ("A region operand has index 0, which is no written index"); the name of a region with a written index.
pub data Use : Type 0 where
  unused : Use
  region : Use
  reference : Use

-- of the first and the second operand
pub record Operands : Type 0 where
  pub first : Use
  pub second : Use

abbrev pub operands : Use → Use → Operands
operands first second = record { first = first; second = second }

-- 02, P4: "First name and index are the condition, second name the label": a label is no name of a region.
-- 02, P5: "its first name and index the destination".
-- "1 comparison (second = lhs)", "6 load (second = source region ..)", "7 store (first = destination region, second = offset)"
abbrev pub operands_by_family : List (ℕ × Operands)
operands_by_family =
    (family.arithmetic, operands reference unused)
    ∷ (family.comparison, operands reference reference)
    ∷ (family.binary_logic, operands reference unused)
    ∷ (family.unary, operands reference unused)
    ∷ (family.move, operands reference unused)
    ∷ (family.exchange, operands reference reference)
    ∷ (family.load, operands reference region)
    ∷ (family.store, operands region reference)
    ∷ (family.jump_when, operands reference unused)
    ∷ (family.jump_unless, operands reference unused)
    ∷ (family.convert, operands reference unused)
    ∷ []

-- the other families name no region by an operand; a frame's names are in its expression, a CALL's among its arguments
unfoldable pub operands_of : ℕ → Operands
operands_of family = case_of family operands_by_family (operands unused unused)

abbrev pub is_name : Use → Bool
is_name unused = false
is_name region = true
is_name reference = true

abbrev pub has_index : Use → Bool
has_index unused = false
has_index region = false
has_index reference = true

unfoldable pub names_first : ℕ → Bool
unfolding operands_of
names_first family = is_name (operands_of family).first

unfoldable pub names_second : ℕ → Bool
unfolding operands_of
names_second family = is_name (operands_of family).second

-- a written index
unfoldable pub indexes_first : ℕ → Bool
unfolding operands_of
indexes_first family = has_index (operands_of family).first

unfoldable pub indexes_second : ℕ → Bool
unfolding operands_of
indexes_second family = has_index (operands_of family).second

-- the source, by its form: "source form (.. 2 reference ..)"; it has a written index
abbrev pub names_source : ℕ → Bool
names_source form = eqb form source.reference
