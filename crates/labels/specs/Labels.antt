-- 02, P4: "JUMP, JUMP-WHEN, JUMP-UNLESS, LABEL and HALT .. second name the label". A label is a name of its own: it may be a region's or an extern's number too.
use Rattle.std.specs.Prelude.{ℕ, Bool, true, false, not, ◌&&◌, ◌||◌, List, eqb}
use Rattle.tables.specs.First.{first, every}
use Rattle.tables.specs.Family as family
use Rattle.tables.specs.Rows.{instruction_rows, instruction_at}
use Rattle.tables.specs.declared.rows.Instruction.{Instruction}

abbrev pub is_label : Instruction → Bool
is_label x = eqb x.family family.label

abbrev pub is_jump : Instruction → Bool
is_jump x = eqb x.family family.jump || (eqb x.family family.jump_when || eqb x.family family.jump_unless)

-- the label of a LABEL or of a jump
abbrev pub label_at : List ℕ → ℕ → ℕ
label_at instructions k = (instruction_at instructions k).second_name

-- whether row k is the LABEL of that label
abbrev pub has_label : List ℕ → ℕ → ℕ → Bool
has_label instructions label k = is_label (instruction_at instructions k) && eqb (label_at instructions k) label

-- "A taken jump goes to its LABEL's row". Of a label that no row has, the end: the program is then refused with 20.
unfoldable pub label_row : List ℕ → ℕ → ℕ
label_row instructions label = first (has_label instructions label) (λ k. k) (instruction_rows instructions) 0 (instruction_rows instructions)

-- whether one of the first n rows is the label's
unfoldable pub labelled : List ℕ → ℕ → ℕ → Bool
labelled instructions label n = first (has_label instructions label) (λ k. true) false 0 n

-- no "label twice": a LABEL's is no earlier LABEL's
abbrev pub new_label : List ℕ → ℕ → Bool
new_label instructions k = not (is_label (instruction_at instructions k) && labelled instructions (label_at instructions k) k)

-- no "target absent": a jump's label has its row
abbrev pub has_target : List ℕ → ℕ → Bool
has_target instructions k = not (is_jump (instruction_at instructions k)) || labelled instructions (label_at instructions k) (instruction_rows instructions)

unfoldable pub labels_distinct : List ℕ → Bool
labels_distinct instructions = every (new_label instructions) (instruction_rows instructions)

unfoldable pub targets_present : List ℕ → Bool
targets_present instructions = every (has_target instructions) (instruction_rows instructions)

-- whether no row is a LABEL or a jump: then there is nothing to look for
unfoldable pub unlabelled : List ℕ → Bool
unlabelled instructions = every (λ k. not (is_label (instruction_at instructions k) || is_jump (instruction_at instructions k))) (instruction_rows instructions)

-- "20 a label twice or a target absent anywhere in the program"
unfoldable pub labels_fit : List ℕ → Bool
labels_fit instructions = labels_distinct instructions && targets_present instructions
