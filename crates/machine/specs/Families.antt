-- What a row of each family does, from its operands' cells on. 01, Order: "18 row's cells, 14 index from a cell, 18 cell reached, 15, 16", with
-- 02's 24 "before 15" (P6) and 23 "after 16" (P5); then the writes.
use Rattle.std.specs.Prelude.{ℕ, Bool, List, [], ◌∷◌, eqb, ltb, Ok}
use Rattle.words.specs.Kind.{bit, real, integer_literal, real_literal}
use Rattle.words.specs.Literal.{literal_fits}
use Rattle.tables.specs.Cases.{case_of}
use Rattle.tables.specs.Family as family
use Rattle.tables.specs.Refusal.{no_rule, unfit_literal}
use Rattle.tables.specs.Outcome.{Outcome, ◌>>=◌, ◌>>◌, need}
use Rattle.tables.specs.declared.rows.Instruction.{Instruction}
use Rattle.operands.specs.Cells.{cell_kind, read_of, source_of, offset_of, condition_of, write}
use Rattle.operands.specs.Address.{indexed_of}
use Rattle.operators.specs.Operators.{arithmetic_kinds, arithmetic_result, comparison_kinds, comparison_result, logic_kinds, logic_result, unary_kinds, unary_result}
use Rattle.operators.specs.Convert.{convert_kinds, converted_kind, convert_result}
use Rattle.operands.specs.declared.cell.Value.{Value}
use Rattle.journal.specs.declared.cells.Write.{Write}
use Rattle.operands.specs.declared.address.NamedRegions.{NamedRegions}
use Rattle.operands.specs.declared.address.Addresses.{Addresses}

abbrev pub one : ℕ → ℕ → ℕ → List Write
one c k w = write c k w ∷ []

-- ---- the source put into cell c: "in move and store a literal's target is read for its kind alone"

-- `kind` is the target cell's. "An integer literal takes the target cell's kind, ..; no rule for REAL." 02, P6: "MOVE and STORE of a literal outside 0 to 1
-- for BIT or 0 to 255 for OCTET now stop", with 24 "after the kind of the reached cell is looked at and before 15". What fits is written as it is.
unfoldable pub put_integer : ℕ → ℕ → ℕ → Outcome (List Write)
put_integer c kind word = do
  need (ltb kind real) no_rule
  need (literal_fits kind word) unfit_literal
  Ok (one c kind word)

-- "real literal elsewhere is 2"
abbrev pub put_real : ℕ → ℕ → ℕ → Outcome (List Write)
put_real c kind word = need (eqb kind real) no_rule >> Ok (one c real word)

-- "Move, load, store copy kind and word."
abbrev pub copied : ℕ → Value → Outcome (List Write)
copied c s = Ok (one c s.kind s.word)

abbrev pub literals : List ℕ → ℕ → ℕ → List (ℕ × Outcome (List Write))
literals cells c word = (integer_literal, put_integer c (cell_kind cells c) word) ∷ (real_literal, put_real c (cell_kind cells c) word) ∷ []

-- an integer literal, a real literal, else a cell's value
unfoldable pub put_into : List ℕ → ℕ → Value → Outcome (List Write)
put_into cells c s = case_of s.kind (literals cells c s.word) (copied c s)

-- ---- the families; x is the row, n its regions, a its addresses

-- The destination combined with the source, into the destination: `kinds` says which kinds have a rule, `result` takes the destination's kind and both words.
-- 01, Order: "18 row's cells", then "15, 16"; "A step reads kinds from cells, never declarations".
unfoldable pub combined_of : (ℕ → ℕ → Bool) → (ℕ → ℕ → ℕ → Outcome ℕ) → List ℕ → Instruction → Addresses → Outcome (List Write)
combined_of kinds result cells x a = do
  d ← read_of cells a.first
  s ← source_of cells x a.source
  need (kinds d.kind s.kind) no_rule
  w ← result d.kind d.word s.word
  Ok (one a.first d.kind w)

-- "Arithmetic: equal kinds (a literal counts as its own), INTEGER or REAL."; "15 INTEGER zero divisor"
unfoldable pub arithmetic_of : List ℕ → Instruction → Addresses → Outcome (List Write)
arithmetic_of cells x a = combined_of arithmetic_kinds (arithmetic_result x.operator) cells x a

-- "A cell only overwritten is not read": the destination's kind is not looked at
unfoldable pub comparison_of : List ℕ → Instruction → Addresses → Outcome (List Write)
comparison_of cells x a = do
  l ← read_of cells a.second
  s ← source_of cells x a.source
  need (comparison_kinds l.kind s.kind) no_rule
  Ok (one a.first bit (comparison_result x.operator l.kind l.word s.word))

-- "Binary logic: destination, then source: declared, not REAL"; "And, Ior, Xor: source's low bits at the destination's width"; "16 negative shift count"
unfoldable pub logic_of : List ℕ → Instruction → Addresses → Outcome (List Write)
logic_of cells x a = combined_of logic_kinds (logic_result x.operator) cells x a

unfoldable pub unary_of : List ℕ → Instruction → Addresses → Outcome (List Write)
unary_of cells x a = do
  d ← read_of cells a.first
  need (unary_kinds x.operator d.kind) no_rule
  Ok (one a.first d.kind (unary_result x.operator d.kind d.word))

unfoldable pub move_of : List ℕ → Instruction → Addresses → Outcome (List Write)
move_of cells x a = do
  s ← source_of cells x a.source
  put_into cells a.first s

-- "Exchange swaps." First, then second; the order is free (Exchange.antt).
unfoldable pub exchange_of : List ℕ → Addresses → Outcome (List Write)
exchange_of cells a = do
  d ← read_of cells a.first
  e ← read_of cells a.second
  Ok (write a.first e.kind e.word ∷ write a.second d.kind d.word ∷ [])

-- "6 load (second = source region, source = offset reference)"
unfoldable pub load_of : List ℕ → List ℕ → NamedRegions → Addresses → Outcome (List Write)
load_of regions cells n a = do
  i ← offset_of cells a.source
  c ← indexed_of regions n.second i
  v ← read_of cells c
  Ok (one a.first v.kind v.word)

-- "7 store (first = destination region, second = offset)"
unfoldable pub store_of : List ℕ → List ℕ → Instruction → NamedRegions → Addresses → Outcome (List Write)
store_of regions cells x n a = do
  i ← offset_of cells a.second
  s ← source_of cells x a.source
  c ← indexed_of regions n.first i
  put_into cells c s

-- "Frame, NOP: no change, nothing looked up."
abbrev pub no_writes : Outcome (List Write)
no_writes = Ok []

-- 02, P5: "its first name and index the destination, its source a reference whose cell's kind picks the direction". The destination is only overwritten: it gets
-- the other kind, whatever it held.
unfoldable pub convert_of : List ℕ → Addresses → Outcome (List Write)
convert_of cells a = do
  s ← read_of cells a.source
  need (convert_kinds s.kind) no_rule
  w ← convert_result s.kind s.word
  Ok (one a.first (converted_kind s.kind) w)

-- 02, P4: a jump with a condition reads it and changes nothing. Where a row leads is in control_flow/specs/Next.antt.
unfoldable pub conditional_of : List ℕ → Addresses → Outcome (List Write)
conditional_of cells a = do
  word ← condition_of cells a.first
  no_writes

abbrev pub families : List ℕ → List ℕ → Instruction → NamedRegions → Addresses → List (ℕ × Outcome (List Write))
families regions cells x n a =
    (family.arithmetic, arithmetic_of cells x a)
    ∷ (family.comparison, comparison_of cells x a)
    ∷ (family.binary_logic, logic_of cells x a)
    ∷ (family.unary, unary_of cells x a)
    ∷ (family.move, move_of cells x a)
    ∷ (family.exchange, exchange_of cells a)
    ∷ (family.load, load_of regions cells n a)
    ∷ (family.store, store_of regions cells x n a)
    ∷ (family.jump_when, conditional_of cells a)
    ∷ (family.jump_unless, conditional_of cells a)
    ∷ (family.convert, convert_of cells a)
    ∷ []

-- by the family; the rest are frame rows, NOP, JUMP, LABEL and HALT, as 9 and CALL were looked for before
unfoldable pub family_of : List ℕ → List ℕ → Instruction → NamedRegions → Addresses → Outcome (List Write)
family_of regions cells x n a = case_of x.family (families regions cells x n a) no_writes
