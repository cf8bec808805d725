-- The one combinator behind every search over rows. Its laws, which the loops cite, are in proofs/FirstLaws.antt.
use Rattle.std.specs.Prelude.{ℕ, zero, suc, ◌+◌, Bool, true, false, not, cond}

-- of the n rows from row i on, `value` of the first that `test` holds of, else `other`
unfoldable pub first : {A : Type 0} → (ℕ → Bool) → (ℕ → A) → A → ℕ → ℕ → A
first test value other i zero = other
first test value other i (suc n) = cond (test i) (value i) (first test value other (i + 1) n)

-- whether `test` holds of each of the n rows from row i on
abbrev pub every_from : (ℕ → Bool) → ℕ → ℕ → Bool
every_from test i n = first (λ k. not (test k)) (λ k. false) true i n

-- whether `test` holds of each of the first n rows
unfoldable pub every : (ℕ → Bool) → ℕ → Bool
every test n = every_from test 0 n
