-- The chart's theorem. Assumes nothing.
use Prim.Native.Nat.{ℕ, zero, suc, ◌<◌}
use mathlib.Core.List.{List, [], ◌∷◌, map}
use mathlib.Core.Path.{◌≡◌, refl}
use native.Mathlib.Nat.{le_of_suc-le-suc, not-suc-le-zero}
use lib.ListN.{length, get_or}
use Rattle.verdict_table.specs.Forms.{forms}
use Rattle.verdict_table.specs.Chart.{verdict_on, count_from}
use Rattle.verdict_table.specs.Place.{place_of}
use Rattle.verdict_table.specs.Claim.{ChartClaim}
use Rattle.verdict_table.proofs.Rows.{rows}

-- an entry of a list that was made from another
made : {A : Type 0} (of : A → ℕ) (xs : List A) (past : A) (k : ℕ) → k < length xs → get_or (map of xs) k 0 ≡ of (get_or xs k past)
made of [] past k h = absurd (not-suc-le-zero h)
made of (x ∷ xs) past zero h = refl
made of (x ∷ xs) past (suc k) h = made of xs past k (le_of_suc-le-suc h)

pub chart_claim : ChartClaim
unfolding count_from place_of
chart_claim =
    record {
      sizes = refl;
      size = refl;
      entries = made verdict_on forms;
      places = refl;
      counts = refl;
      rows = rows;
    }
