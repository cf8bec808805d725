-- A count over the places of the chart, as a chain makes it. Assumes nothing.
use Rattle.std.proofs.Common.{ℕ, zero, suc, ◌+◌, Bool, true, false, cond, List, ◌∷◌, eqb, length, get_or, filter, ◌≡◌, refl, ◌∙◌, ap, arith}
use Rattle.std.specs.List.{range_with_len}
use Rattle.verdict_table.specs.Chart.{chart, count_at, count_from}

-- the test that a place's entry is a verdict
abbrev pub is_under : ℕ → ℕ → Bool
is_under verdict place = eqb (get_or chart place 0) verdict

one_more : (t : Bool) (place : ℕ) (places : List ℕ) → length (cond t (place ∷ places) places) ≡ cond t 1 0 + length places
one_more true place places = omega arith
one_more false place places = omega arith

pub length-is_under : (verdict place n : ℕ) → length (filter (is_under verdict) (range_with_len place n)) ≡ count_from verdict place n
unfolding count_from count_at
length-is_under verdict place zero = refl
length-is_under verdict place (suc n) =
    one_more (is_under verdict place) place _ ∙ ap (λ count. cond (is_under verdict place) 1 0 + count) (length-is_under verdict (place + 1) n)
