use Rattle.tables.proofs.FirstLaws.{tests}
use Rattle.verdict_digits.specs.Rows.{source_form}
use Rattle.verdict_digits.proofs.row.source_form.Goals as goal

pub returns-then-choices-eq1 : goal.returns-then-choices-eq1
unfolding source_form
returns-then-choices-eq1 c = search tests

pub returns-then-which-lt-NAMES : goal.returns-then-which-lt-NAMES
unfolding source_form
returns-then-which-lt-NAMES c = search tests

pub returns-then-which-eq-NAMES : goal.returns-then-which-eq-NAMES
unfolding source_form
returns-then-which-eq-NAMES c = search tests

pub returns-else-which-eq-NAMES : goal.returns-else-which-eq-NAMES
unfolding source_form
returns-else-which-eq-NAMES c = search tests
