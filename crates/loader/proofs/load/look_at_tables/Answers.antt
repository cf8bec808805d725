use Rattle.std.proofs.Common.{sym, ◌∙◌}
use Rattle.tables.specs.Outcome.{◌>>◌, need}
use Rattle.loader.specs.Load.{chosen_look}
use Rattle.loader.proofs.Loaded.{whole-nodes}
use Rattle.loader.proofs.load.look_at_tables.Goals as goal

pub returns-then-not-whole_tables : goal.returns-then-not-whole_tables
unfolding chosen_look ◌>>◌ need
returns-then-not-whole_tables c = rw (sym c.whole_tables.ensures ∙ c.if-not-whole_tables.true)

pub allowed_tables-requires : goal.allowed_tables-requires
allowed_tables-requires c = whole-nodes _ (sym c.whole_tables.ensures ∙ c.if-not-whole_tables.false)

pub returns-then-not-allowed : goal.returns-then-not-allowed
unfolding chosen_look ◌>>◌ need
returns-then-not-allowed c = rw (sym c.whole_tables.ensures ∙ c.if-not-whole_tables.false, ← c.allowed_tables.ensures, c.if-not-allowed.true)

pub returns-then-not-distinct_tables : goal.returns-then-not-distinct_tables
unfolding chosen_look ◌>>◌ need
returns-then-not-distinct_tables c =
    rw (sym c.whole_tables.ensures ∙ c.if-not-whole_tables.false, ← c.allowed_tables.ensures, c.if-not-allowed.false, sym c.distinct_tables.ensures ∙ c.if-not-distinct_tables.true)

pub returns : goal.returns
unfolding chosen_look ◌>>◌ need
returns c =
    rw (sym c.whole_tables.ensures ∙ c.if-not-whole_tables.false, ← c.allowed_tables.ensures, c.if-not-allowed.false, sym c.distinct_tables.ensures ∙ c.if-not-distinct_tables.false)
