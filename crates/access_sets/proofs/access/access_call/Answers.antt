use Rattle.std.proofs.Common.{ℕ, ◌≡◌, ap₂, ◌∙◌, Ok, rules, arith}
use Rattle.tables.proofs.Passed.{seen}
use borrow.Author.Tests.{le-leb, lt-leb}
use Rattle.tables.specs.Outcome.{◌>>=◌, ◌>>◌, need}
use Rattle.access_sets.specs.Access.{accessing, access_call}
use Rattle.extern_call.proofs.CallLaws.{call-ranges}
use Rattle.access_sets.proofs.access.access_call.Goals as goal

pub returns-in_err-call : goal.returns-in_err-call
unfolding access_call ◌>>=◌
returns-in_err-call c = rw (seen c.find_call.ensures c.in_err-call.was) (search rules)

pub returns-then-reads-call : goal.returns-then-reads-call
unfolding access_call ◌>>=◌ ◌>>◌ need
returns-then-reads-call c = rw (seen c.find_call.ensures c.in_ok-call.was, lt-leb _ _ c.if-reads-call.true)

pub returns-then-writes-call : goal.returns-then-writes-call
unfolding access_call ◌>>=◌ ◌>>◌ need
returns-then-writes-call c = rw (seen c.find_call.ensures c.in_ok-call.was, le-leb _ _ c.if-reads-call.false, lt-leb _ _ c.if-writes-call.true)

pub collect-read-requires : goal.collect-read-requires
collect-read-requires c = (call-ranges c.requires (seen c.find_call.ensures c.in_ok-call.was), c.if-reads-call.false)

pub collect-written-requires : goal.collect-written-requires
collect-written-requires c = (call-ranges c.requires (seen c.find_call.ensures c.in_ok-call.was), c.if-writes-call.false)

-- By numbers, so that an edit of a count is refused for the number.
pub returns : goal.returns
unfolding access_call ◌>>=◌ ◌>>◌ need
returns c =
    let read : _ ≡ c.collect-read.result = omega arith in
    let written : _ ≡ c.collect-written.result = omega arith in
    ap₂ (λ (read written : ℕ). accessing (Ok (read, written)) c.collect-read.new.names c.collect-written.new.names) read written
    ∙ rw (seen c.find_call.ensures c.in_ok-call.was, le-leb _ _ c.if-reads-call.false, le-leb _ _ c.if-writes-call.false, c.collect-read.ensures.count, c.collect-written.ensures.count, c.collect-read.ensures.words, c.collect-written.ensures.words)
