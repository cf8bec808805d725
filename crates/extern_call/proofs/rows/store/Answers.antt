use Rattle.std.proofs.Common.{arith, ◌≡◌, ◌+◌, ◌-◌, ◌*◌, append_assoc, length}
use Rattle.std.proofs.lemmas.List.{drop-drop}
use Rattle.std.proofs.lemmas.List.Edits.{sets-eq}
use Rattle.extern_call.proofs.rows.store.Goals as goal

pub returns : goal.returns
returns g c =
    let at = c.args.count * g.row.WIDTH in
    let n : at + g.row.WIDTH - at ≡ length c.args.row.now = omega arith in
    rw (n, c.copy_from_slice.ensures.after, drop-drop, sets-eq c.args.row.now c.args.rows.now at (omega arith), append_assoc)
