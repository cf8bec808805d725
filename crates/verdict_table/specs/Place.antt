-- A form's place in the chart, by numbers alone: its family's block, and in it its operands, "the last fastest".
use Rattle.std.specs.Prelude.{ℕ, zero, suc, ◌+◌, ◌*◌, List, map, eqb, length, get_or}
use Rattle.tables.specs.First.{first}
use Rattle.verdict_table.specs.Forms.{Form, families, names, seconds_of, sources_of, operators_of}
use Rattle.verdict_table.specs.declared.blocks.Block.{Block}

unfoldable pub size_of : ℕ → ℕ
unfolding seconds_of sources_of operators_of
size_of f = length names * (length (seconds_of f) * (length (sources_of f) * length (operators_of f)))

-- where a family's forms start: after those of the families before it
unfoldable pub start_of : ℕ → ℕ
unfolding size_of
start_of zero = 0
start_of (suc f) = start_of f + size_of f

-- a code's place among those that an operand may have; 0 where one stands for all
unfoldable pub place_among : List ℕ → ℕ → ℕ
unfolding first
place_among codes code = first (λ k. eqb (get_or codes k 0) code) (λ k. k) 0 0 (length codes)

unfoldable pub place_of : Form → ℕ
unfolding start_of place_among
place_of x =
    let seconds = seconds_of x.family in
    let sources = sources_of x.family in
    let operators = operators_of x.family in
    let a = place_among names x.first in
    let b = a * length seconds + place_among seconds x.second in
    let c = b * length sources + place_among sources x.source in
    start_of x.family + (c * length operators + place_among operators x.operator)

-- a number of each of the eight families, by family
abbrev pub by_family : (ℕ → ℕ) → ℕ → ℕ
by_family of f = get_or (map of families) f 0

-- a family's block: its start, and how many codes its second and its source operand may have, and how many operators are told apart
unfoldable pub block_of : ℕ → Block
unfolding start_of
block_of f =
    record {
      start = by_family start_of f;
      seconds = by_family (λ k. length (seconds_of k)) f;
      sources = by_family (λ k. length (sources_of k)) f;
      operators = by_family (λ k. length (operators_of k)) f;
    }
