-- The cells that open leaves hold their declared kinds. Assumes nothing.
use Rattle.std.proofs.Common.{ℕ, ◌<◌, ◌≤◌, List, refl, arith, pow_pos}
use Rattle.words.specs.Kind.{width_of}
use Rattle.words.specs.Fits.{fits_of}
use Rattle.tables.specs.Rows.{region_kind}
use Rattle.tables.specs.Cells.{cell_count}
use Rattle.operands.specs.Kinds.{region_of, declared_kind, zeros}
use Rattle.operands.proofs.KindsLaws.{length-zeros, zeros-at}
use Rattle.operands.specs.Typed.{Typed}
use Rattle.soundness.proofs.Regions.{RegionsFit, region-below}

module _ (regions : List ℕ) where
  declared-below : RegionsFit regions → (c : ℕ) → c < cell_count regions → declared_kind regions c < 4
  unfolding declared_kind
  declared-below fit c h = let k : region_kind regions (region_of regions c) ≤ 3 = fit.kind (region_of regions c) (region-below regions c h) in omega arith

  -- "Open zeroes each cell with its declared kind"
  pub zeros_typed : RegionsFit regions → Typed regions (zeros regions)
  zeros_typed fit = record {
    wide = length-zeros regions;
    each = λ c l. rw (zeros-at regions c l) (record {
      kind = refl;
      word = fits_of (declared_kind regions c) 0 (declared-below fit c l) (pow_pos (width_of (declared_kind regions c)));
    });
  }
