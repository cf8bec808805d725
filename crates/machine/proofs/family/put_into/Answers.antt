use Prim.Native.Nat.{ℕ}
use borrow.Author.Tests.{eq-eqb, ne_eqb}
use Rattle.tables.specs.Cases.{case_of}
use Rattle.tables.specs.Outcome.{◌>>◌, need}
use Rattle.tables.proofs.Cases.{other_arm}
use Rattle.operands.specs.Cells.{cell_kind}
use Rattle.machine.specs.Families.{literals, copied, put_into}
use Rattle.machine.proofs.family.put_into.Goals as goal

pub returns-then-kind-eq-REAL : goal.returns-then-kind-eq-REAL
unfolding put_into case_of ◌>>◌ need
returns-then-kind-eq-REAL c =
    let kind : ℕ = cell_kind c.args.cells.now c.args.c in
    rw (c.in-5.is, eq-eqb kind 3 c.if-kind-eq-REAL.true)

pub returns-in-4 : goal.returns-in-4
unfolding put_into case_of
returns-in-4 c = rw c.in-4.is c.put_integer.ensures

pub returns-else-kind-eq-REAL : goal.returns-else-kind-eq-REAL
unfolding put_into case_of ◌>>◌ need
returns-else-kind-eq-REAL c =
    let kind : ℕ = cell_kind c.args.cells.now c.args.c in
    rw (c.in-5.is, ne_eqb kind 3 c.if-kind-eq-REAL.false)

pub returns-in_default : goal.returns-in_default
unfolding put_into
returns-in_default c = other_arm (literals c.args.cells.now c.args.c c.args.s.word) (copied c.args.c c.args.s) _ c.in_default.in_default-own.rest
