-- 02, P7: the verdict on each form, and how many forms are under each.
use Rattle.type_rules.specs.declared.error.TypeError.{TypeError}
use Rattle.std.specs.Prelude.{ℕ, zero, suc, ◌+◌, cond, List, map, eqb, get_or, Result, Ok, Err}
use Rattle.tables.specs.Cases.{case_of}
use Rattle.type_rules.specs.Judgement.{verdict_at}
use Rattle.type_rules.specs.Rule.{arithmetic_source, arithmetic_rule, source_rule, comparison_rule, logic_source, logic_rule, unary_rule, move_rule, exchange_rule, load_offset, load_rule, store_source, store_rule, rule_of}
use Rattle.verdict_table.specs.Forms.{Form, forms}

-- 02: "each 0 for accepted or the error kind"
abbrev pub kind_of : Result (Unit {0}) TypeError → ℕ
kind_of (Ok _) = 0
kind_of (Err e) = e.kind

-- by the typing rules; the row's number matters to no kind
unfoldable pub verdict_on : Form → ℕ
unfolding rule_of arithmetic_source arithmetic_rule source_rule comparison_rule logic_source logic_rule unary_rule move_rule exchange_rule load_offset load_rule store_source store_rule case_of
verdict_on x = kind_of (verdict_at 0 (rule_of x.family x.operator x.first x.second x.source))

-- 02: "Carry the 610 verdicts as one constant table"
abbrev pub form_count : ℕ
form_count = 610

unfoldable pub chart : List ℕ
unfolding forms verdict_on
chart = map verdict_on forms

-- 02: "A report counts the forms under each verdict": 1 where the entry at a place is the verdict
unfoldable pub count_at : ℕ → ℕ → ℕ
unfolding chart
count_at verdict place = cond (eqb (get_or chart place 0) verdict) 1 0

-- of the n entries from a place on
unfoldable pub count_from : ℕ → ℕ → ℕ → ℕ
unfolding count_at
count_from verdict place zero = 0
count_from verdict place (suc n) = count_at verdict place + count_from verdict (place + 1) n
