-- Two words are one where their numbers are. Assumes nothing.
use Rattle.std.proofs.Common.{◌≡◌, ℕ, ◌^◌, ◌<◌, eqb, ℤ, arith}
use Rattle.std.proofs.lemmas.Bool.Decides.{nat_tests}
use Rattle.words.specs.Integer.{integer_equal, eq_z}
use Rattle.words.proofs.Signs.{by_signs}

pub eq_word : (a b : ℕ) → a < 2 ^ 64 → b < 2 ^ 64 → integer_equal a b ≡ eqb a b
unfolding integer_equal
eq_word a b ha hb =
    by_signs 64 (λ (x y : ℤ). eq_z x y ≡ eqb a b) a b
    (λ p q. grind (arith, nat_tests))
    (λ p q. grind (arith, nat_tests))
    (λ p q. grind (arith, nat_tests))
    (λ p q. grind (arith, nat_tests))
