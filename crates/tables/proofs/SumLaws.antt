-- Laws of a sum over rows. Assumes nothing.
use Rattle.std.proofs.Common.{ℕ, zero, suc, ◌+◌, ◌*◌, ◌-◌, ◌≤◌, ◌≡◌, ap, add-one, arith}
use Rattle.tables.specs.Sum.{sum_to}

module _ (value : ℕ → ℕ) where
  pub sum-next : (n : ℕ) → sum_to value (n + 1) ≡ sum_to value n + value n
  unfolding sum_to
  sum-next n = rw (add-one n)

  sum-after : (n m : ℕ) → sum_to value n ≤ sum_to value (n + m)
  sum-after n zero = let e : sum_to value (n + 0) ≡ sum_to value n = ap (sum_to value) (omega arith) in omega arith
  sum-after n (suc m) =
      let h : sum_to value n ≤ sum_to value (n + m) = sum-after n m in
      let e : sum_to value (n + suc m) ≡ sum_to value (n + m + 1) = ap (sum_to value) (omega arith) in
      let s : sum_to value (n + m + 1) ≡ sum_to value (n + m) + value (n + m) = sum-next (n + m) in
      omega arith

  -- over more rows it is no less
  pub sum_mono : (n m : ℕ) → n ≤ m → sum_to value n ≤ sum_to value m
  sum_mono n m h =
      let k : sum_to value n ≤ sum_to value (n + (m - n)) = sum-after n (m - n) in
      let e : sum_to value (n + (m - n)) ≡ sum_to value m = ap (sum_to value) (omega arith) in
      omega arith

  -- of values that are at most `most`
  pub sum_most : (most : ℕ) → ((k : ℕ) → value k ≤ most) → (n : ℕ) → sum_to value n ≤ most * n
  unfolding sum_to
  sum_most most each zero = omega arith
  sum_most most each (suc n) = omega (arith, sum_most most each n, each n)
