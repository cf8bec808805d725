-- The one combinator behind every sum over rows. Its laws are in proofs/SumLaws.antt.
use Rattle.std.specs.Prelude.{ℕ, zero, suc, ◌+◌}

-- of `value` over the first n rows
unfoldable pub sum_to : (ℕ → ℕ) → ℕ → ℕ
sum_to value zero = 0
sum_to value (suc n) = sum_to value n + value n
