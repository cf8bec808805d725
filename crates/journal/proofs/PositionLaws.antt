-- Retreat takes an advance back. Assumes nothing.
use Rattle.std.proofs.Common.{◌≡◌, ℕ, ◌+◌, ◌-◌, arith}
use Rattle.journal.specs.declared.position.Position.{Position}
use Rattle.journal.specs.Position.{advanced, retreated}

pub retreat_advance : (p : Position) (next changes : ℕ) → retreated (advanced p next changes) p.row changes ≡ p
retreat_advance p next changes =
    let d : p.done + 1 - 1 ≡ p.done = omega arith in
    let u : p.used + (changes + 1) - (changes + 1) ≡ p.used = omega arith in
    λ i. record { row = p.row; done = d i; used = u i }
