use Rattle.std.proofs.Common.{sym, ap, ◌∙◌, rules}
use Rattle.std.specs.Result.{result_ok}
use Rattle.tables.specs.Outcome.{◌>>=◌}
use Rattle.tables.proofs.LookupLaws.{lookup_within}
use Rattle.extern_call.specs.Call.{found_extern, find_call}
use Rattle.extern_call.proofs.call.find_call.Goals as goal

pub returns-in_err-row : goal.returns-in_err-row
unfolding find_call ◌>>=◌
returns-in_err-row c = rw (sym (c.ok_or.ensures.value ∙ ap found_extern c.lookup_extern.ensures) ∙ c.in_err-row.was) (search rules)

pub extern_at-signature-requires : goal.extern_at-signature-requires
extern_at-signature-requires c = lookup_within _ _ _ _ (sym c.lookup_extern.ensures ∙ c.ok_or.ensures.ok_part ∙ ap result_ok c.in_ok-row.was)

pub returns : goal.returns
unfolding find_call ◌>>=◌
returns c = rw (sym (c.ok_or.ensures.value ∙ ap found_extern c.lookup_extern.ensures) ∙ c.in_ok-row.was, c.extern_at-signature.ensures)
