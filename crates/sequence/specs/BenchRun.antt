-- Programs on the bench's declarations, opened and run by a list of calls: what the ten bench lines are stated of.
use Rattle.session.specs.Answer.{OpenAnswer}
use Rattle.std.specs.Prelude.{ℕ, ◌*◌, List, [], ◌∷◌, length, replicate}
use Rattle.std.specs.Float.Ieee.{of_bits, lt}
use Rattle.words.specs.Kind.{width_of, fits_kind}
use Rattle.words.specs.TwosComplement.{signed, word_of}
use Rattle.words.specs.Integer.{integer_divide, integer_quotient, integer_is_negative}
use Rattle.words.specs.Literal.{literal_fits}
use Rattle.words.specs.Width.{low_bits, shl_at, ashr_at, shifted, shift_left, shift_right_arithmetic}
use Rattle.reals.specs.Real.{size, real_above_epsilon}
use Rattle.tables.specs.Bench.{declarations}
use Rattle.tables.specs.Cases.{case_of}
use Rattle.tables.specs.Family as family
use Rattle.tables.specs.Operator as operator
use Rattle.tables.specs.Source as source
use Rattle.tables.specs.NodeTag as tag
use Rattle.tables.specs.Names.{operands_of, names_first, names_second, indexes_first, indexes_second}
use Rattle.tables.specs.Outcome.{◌>>=◌, ◌>>◌, need}
use Rattle.tables.specs.First.{first, every}
use Rattle.tables.specs.Tables.{Tables, tables_of}
use Rattle.loader.specs.Shape.{whole_rows, whole_tables}
use Rattle.word_rules.specs.Allowed.{region_allowed, node_allowed, regions_allowed, externs_allowed, parameters_allowed, nodes_allowed, arguments_allowed}
use Rattle.word_rules.specs.Instruction.{flow_operators_of, operators_of, form_allowed, source_allowed, flow_operands_allowed, operands_allowed, instruction_allowed, instructions_allowed}
use Rattle.labels.specs.Labels.{labelled, labels_distinct, targets_present, labels_fit}
use Rattle.tables.specs.Tree.{arity_of, trees_from, inside, one_tree}
use Rattle.tables.specs.Lookup.{lookup_of, lookup_among, distinct}
use Rattle.loader.specs.Load.{load_look, allowed_tables, distinct_names}
use Rattle.tables.specs.Sum.{sum_to}
use Rattle.tables.specs.Cells.{first_cell, cell_count, cells_of}
use Rattle.type_rules.specs.Rule.{arithmetic_rule, source_rule, logic_source, logic_rule, move_rule, exchange_rule, load_offset, load_rule, store_source, store_rule, rule_of}
use Rattle.type_rules.specs.Codes.{kind_code, code_of, operand_code, source_code, row_rule}
use Rattle.type_check.specs.Frame.{number_verdict, node_verdict, tree_verdict, frame_rule}
use Rattle.type_check.specs.Check.{judgement_of, verdict_of, check_of}
use Rattle.journal.specs.Cells.{cell_width, put, applied}
use Rattle.journal.specs.Entries.{entry_width, flatten, olds, log, closing, entered, journaled, entries_at}
use Rattle.journal.specs.Restore.{restored, undone, present}
use Rattle.operands.specs.Kinds.{region_among, region_of, declared_kind, zeros_from, zeros}
use Rattle.operands.specs.Cells.{read_of, source_of, read_word}
use Rattle.operands.specs.Address.{address_of, index_fits, indexed_of, named_of, names_of, written_of, addresses_of}
use Rattle.operators.specs.Operators.{integer_result, arithmetic_result, logic_result}
use Rattle.operators.specs.Convert.{conversion_fits, conversions_fit}
use Rattle.machine.specs.Families as families
use Rattle.machine.specs.Outcome.{plain_outcome, outcome_of, outcome_at}
use Rattle.control_flow.specs.Next.{next_row}
use Rattle.control_flow.specs.Condition.{condition_fits, conditions_fit}
use Rattle.session.specs.Prepare.{tables_look, buffers_fit, prepared_of}
use Rattle.session.specs.Position.{position_fits, placed_look, room_for}
use Rattle.session.specs.Leaves.{with_tail}
use Rattle.session_open.specs.Open.{no_other, call_look, calls_look, program_look, program_verdict, tables_verdict, open_verdict, open_cells, open_tables}
use Rattle.session_forward.specs.Forward.{step_look, forward_look, stepped, forward_tables}
use Rattle.session_back.specs.Back.{journal_look, back_look, taken_back, back_tables}
use Rattle.session.specs.Session.{Session}
use Rattle.sequence.specs.Calls.{Call, Answer, opened, answers, end}

-- ---- rows

-- family, operator, first name and index, second name, source form and first word; the second's and the source's index is 0
abbrev row : ℕ → ℕ → ℕ → ℕ → ℕ → ℕ → ℕ → List ℕ
row f op first index second form word = f ∷ op ∷ first ∷ index ∷ second ∷ 0 ∷ form ∷ word ∷ 0 ∷ []

-- a row with a literal for the cell at index 0
abbrev literal : ℕ → ℕ → ℕ → ℕ → ℕ → List ℕ
literal f op destination form word = row f op destination 0 0 form word

abbrev pub ADD_INTEGER : ℕ → ℕ → List ℕ
ADD_INTEGER destination word = literal family.arithmetic operator.add destination source.integer_literal word

abbrev pub ADD_REAL : ℕ → ℕ → List ℕ
ADD_REAL destination bits = literal family.arithmetic operator.add destination source.real_literal bits

abbrev pub DIV : ℕ → ℕ → List ℕ
DIV destination word = literal family.arithmetic operator.divide destination source.integer_literal word

abbrev pub SHL : ℕ → ℕ → List ℕ
SHL destination word = literal family.binary_logic operator.shl destination source.integer_literal word

abbrev pub ASHR : ℕ → ℕ → List ℕ
ASHR destination word = literal family.binary_logic operator.ashr destination source.integer_literal word

abbrev pub MOVE : ℕ → ℕ → List ℕ
MOVE destination word = literal family.move 0 destination source.integer_literal word

-- into the cell at an index
abbrev pub MOVE_REAL : ℕ → ℕ → ℕ → List ℕ
MOVE_REAL destination index bits = row family.move 0 destination index 0 source.real_literal bits

abbrev pub EXCHANGE : ℕ → ℕ → List ℕ
EXCHANGE left right = row family.exchange 0 left 0 right source.none 0

-- "6 load (second = source region, source = offset reference)"
abbrev pub LOAD : ℕ → ℕ → ℕ → List ℕ
LOAD destination region offset = row family.load 0 destination 0 region source.reference offset

-- "7 store (first = destination region, second = offset)"
abbrev pub STORE : ℕ → ℕ → ℕ → List ℕ
STORE region offset reference = row family.store 0 region 0 offset source.reference reference

-- a frame row: "words 3 and 4 (counting from 1) are first node and node count". Its expression is the one node of the table, a number with that imaginary part.
abbrev pub SET_PHASE : List ℕ
SET_PHASE = row family.frame operator.set_phase 0 1 0 source.none 0

abbrev pub number : ℕ → List ℕ
number imaginary = tag.number ∷ 0 ∷ imaginary ∷ []

-- ---- a program, opened, and then the calls

pub record Run : Type 0 where
  pub opening : OpenAnswer
  pub steps : List Answer
  pub memory : List ℕ

-- The lent memory has room for the eight cells, and the journal for so many entries; both hold something else before. All that the calls rest on is unfolded.
unfoldable pub run : List ℕ → List ℕ → ℕ → List Call → Run
unfolding fits_kind width_of low_bits literal_fits signed word_of integer_is_negative integer_divide integer_quotient shift_left shift_right_arithmetic shifted shl_at ashr_at
    real_above_epsilon size of_bits lt case_of
    ◌>>=◌ ◌>>◌ need first every load_look whole_tables whole_rows allowed_tables regions_allowed region_allowed externs_allowed parameters_allowed nodes_allowed
    node_allowed arguments_allowed instructions_allowed instruction_allowed flow_operators_of operators_of form_allowed source_allowed flow_operands_allowed operands_allowed one_tree inside trees_from
    arity_of distinct_names distinct lookup_of lookup_among cells_of cell_count first_cell sum_to
    check_of verdict_of judgement_of row_rule rule_of source_code operand_code code_of kind_code arithmetic_rule source_rule logic_rule logic_source move_rule
    exchange_rule load_rule load_offset store_rule store_source frame_rule tree_verdict node_verdict number_verdict
    put applied flatten olds log closing entered journaled entries_at restored undone present
    operands_of names_first names_second indexes_first indexes_second zeros zeros_from declared_kind region_of region_among outcome_at outcome_of plain_outcome names_of named_of addresses_of written_of indexed_of index_fits address_of
    read_of source_of read_word families.family_of families.put_into families.put_integer families.combined_of families.arithmetic_of families.logic_of families.move_of families.exchange_of
    families.load_of arithmetic_result integer_result logic_result
    open_tables open_cells open_verdict tables_verdict program_verdict prepared_of tables_look buffers_fit program_look no_other labels_fit labels_distinct targets_present labelled conditions_fit condition_fits conversions_fit conversion_fits calls_look call_look with_tail
    next_row forward_tables stepped forward_look placed_look step_look room_for position_fits back_tables taken_back back_look journal_look answers end
run nodes program entries calls =
    let t : Tables = tables_of declarations [] [] nodes [] program in
    let memory : List ℕ = replicate (cell_width * 8) 9 in
    let journal : List ℕ = replicate (entry_width * entries) 9 in
    let s : Session = opened t memory journal in
    let steps : List Answer = answers t calls s in
    let left : List ℕ = (end t calls s).memory in
    record { opening = (open_tables t memory (length journal)).answer; steps = steps; memory = left }
