-- Each operator's result is a word of its kind, or the refusal is 15, 16 or 23. Assumes nothing.
use Rattle.std.proofs.Common.{ℕ, ◌^◌, ◌<◌, Bool, true, false, not, cond, ◌||◌, [], ◌∷◌, ◌≡◌, refl, arith, eqb, ltb, pow_pos, eqb-true, ltb-true, Option, Some, None, Ok}
use Rattle.words.specs.Kind.{bit, real, width_of, fits_kind}
use Rattle.words.specs.Fits as W
use Rattle.reals.specs.Fits as R
use Rattle.words.specs.WidthLaws.{not-below}
use Rattle.words.specs.Integer.{integer_divide, integer_negate}
use Rattle.reals.specs.Real.{real_negate}
use Rattle.words.specs.Width.{shift_left, shift_right, shift_right_arithmetic}
use Rattle.words.specs.Convert.{real_to_integer}
use Rattle.tables.specs.Refusal.{zero_divisor, negative_shift_count, outside_integer}
use Rattle.tables.specs.Cases.{case_of}
use Rattle.tables.specs.Operator as operator
use Rattle.tables.proofs.Cases.{by_key, past_keys}
use Rattle.tables.proofs.Passed.{both}
use Rattle.operators.specs.Operators.{quotient_outcome, integer_results, integer_result, real_results, real_result, arithmetic_result, comparison_test, comparison_result, shifted_outcome, logic_results, logic_result, negated, unary_results, unary_result}
use Rattle.operators.specs.Convert.{converted_outcome, convert_result}
use Rattle.operators.proofs.ConvertLaws.{integer_to_real-below, real_to_integer-below}
use Rattle.machine.proofs.Ends.{Ends, Ruled, fine, turned, either}

-- ---- arithmetic

quotient_ends : (a b : ℕ) (q : Option ℕ) → integer_divide a b ≡ q → Ends Ruled (λ w. w < 2 ^ 64) (quotient_outcome q)
quotient_ends a b (Some r) e = fine (W.integer_divide-below a b r e)
quotient_ends a b None e = turned {n = zero_divisor} refl

integer_ends : (which a b : ℕ) → Ends Ruled (λ w. w < 2 ^ 64) (integer_result which a b)
unfolding integer_result case_of
integer_ends which a b =
    by_key (λ o. Ends Ruled (λ w. w < 2 ^ 64) (integer_result o a b))
    (
    (operator.add, fine (W.integer_add-below a b))
    ∷ (operator.subtract, fine (W.integer_subtract-below a b))
    ∷ (operator.divide, quotient_ends a b (integer_divide a b) refl)
    ∷ (operator.multiply, fine (W.integer_multiply-below a b))
    ∷ []
    )
    which
    (λ past. rw (past_keys past (integer_results a b) (Ok 0) refl) (fine (pow_pos 64)))

real-below : (which a b : ℕ) → real_result which a b < 2 ^ 64
unfolding real_result case_of
real-below which a b =
    by_key (λ o. real_result o a b < 2 ^ 64)
    (
    (operator.add, R.real_add-below a b)
    ∷ (operator.subtract, R.real_subtract-below a b)
    ∷ (operator.divide, R.real_divide-below a b)
    ∷ (operator.multiply, R.real_multiply-below a b)
    ∷ []
    )
    which
    (λ past. rw (past_keys past (real_results a b) 0 refl) (pow_pos 64))

pub arithmetic_ends : (which kind a b : ℕ) → Ends Ruled (λ w. w < 2 ^ 64) (arithmetic_result which kind a b)
unfolding arithmetic_result
arithmetic_ends which kind a b = either (eqb kind real) (λ e. fine (real-below which a b)) (λ e. integer_ends which a b)

-- ---- comparison

-- "Comparison writes a BIT"
pub comparison-below : (which kind a b : ℕ) → comparison_result which kind a b < 2 ^ width_of bit
unfolding comparison_result width_of
comparison-below which kind a b = at (comparison_test which kind a b)
  where
    at : (t : Bool) → cond t 1 0 < 2 ^ 1
    at true = omega arith
    at false = omega arith

-- ---- binary logic

module _ (kind v s : ℕ) (f : fits_kind kind v ≡ true) where
  shifted_ends : (answer : Option ℕ) → ((r : ℕ) → answer ≡ Some r → fits_kind kind r ≡ true) → Ends Ruled (λ w. fits_kind kind w ≡ true) (shifted_outcome answer)
  shifted_ends (Some r) h = fine (h r refl)
  shifted_ends None h = turned {n = negative_shift_count} refl

  pub logic_ends : (which : ℕ) → Ends Ruled (λ w. fits_kind kind w ≡ true) (logic_result which kind v s)
  unfolding logic_result case_of fits_kind
  logic_ends which =
      by_key (λ o. Ends Ruled (λ w. fits_kind kind w ≡ true) (logic_result o kind v s))
      (
      (operator.and, fine (W.and_at-fits kind v f s))
      ∷ (operator.ior, fine (W.ior_at-fits kind v f s))
      ∷ (operator.xor, fine (W.xor_at-fits kind v f s))
      ∷ (operator.shl, shifted_ends (shift_left (width_of kind) v s) (W.shift_left-fits kind v f s))
      ∷ (operator.shr, shifted_ends (shift_right (width_of kind) v s) (W.shift_right-fits kind v f s))
      ∷ (operator.ashr, shifted_ends (shift_right_arithmetic (width_of kind) v s) (W.shift_right_arithmetic-fits kind v f s))
      ∷ []
      )
      which
      (λ past.
      let small = ltb-true kind 4 (both (ltb kind 4) _ f).0 in
      rw (past_keys past (logic_results (width_of kind) v s) (Ok 0) refl) (fine (W.fits_of kind 0 small (pow_pos (width_of kind)))))

-- ---- unary

negated-below : (kind v : ℕ) → negated kind v < 2 ^ 64
unfolding negated
negated-below kind v = at (eqb kind real)
  where
    at : (t : Bool) → cond t (real_negate v) (integer_negate v) < 2 ^ 64
    at true = R.real_negate-below v
    at false = W.integer_negate-below v

-- NEG at 64 bits, NOT at any width
pub unary-below : (which kind v : ℕ) → (not (eqb which operator.neg) || eqb (width_of kind) 64) ≡ true → unary_result which kind v < 2 ^ width_of kind
unfolding unary_result case_of
unary-below which kind v =
    by_key (λ o. (not (eqb o operator.neg) || eqb (width_of kind) 64) ≡ true → unary_result o kind v < 2 ^ width_of kind)
    (
    (operator.neg, λ e. rw (eqb-true (width_of kind) 64 e) (negated-below kind v))
    ∷ (operator.not, λ e. not-below (width_of kind) v)
    ∷ []
    )
    which
    (λ past e. rw (past_keys past (unary_results kind v) 0 refl) (pow_pos (width_of kind)))

-- ---- CONVERT

converted_ends : (a : ℕ) (answer : Option ℕ) → real_to_integer a ≡ answer → Ends Ruled (λ w. w < 2 ^ 64) (converted_outcome answer)
converted_ends a (Some r) e = fine (real_to_integer-below a r e)
converted_ends a None e = turned {n = outside_integer} refl

pub convert_ends : (source word : ℕ) → Ends Ruled (λ w. w < 2 ^ 64) (convert_result source word)
unfolding convert_result
convert_ends source word = either (eqb source real) (λ e. converted_ends word (real_to_integer word) refl) (λ e. fine (integer_to_real-below word))
