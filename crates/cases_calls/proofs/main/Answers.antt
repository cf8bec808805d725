use Rattle.std.proofs.Common.{ℕ, sym}
use Rattle.std.proofs.lemmas.List.{length-replicate}
use Rattle.cases_calls.proofs.main.Goals as goal

-- `cases_calls::main` is safe and ends. The buffer's length by a law, since `search` would count its bytes. Assumes nothing.
pub slice_bounds-read_full-end : goal.slice_bounds-read_full-end
slice_bounds-read_full-end c = sym (length-replicate {A = ℕ} 1048576 0)

pub slice_bounds-play-end : goal.slice_bounds-play-end
slice_bounds-play-end c = c.read_full-count.ensures.0
