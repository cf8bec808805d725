-- What refusal 21 says of a row. Assumes nothing.
use Rattle.std.proofs.Common.{Option, Some, None}
use Prim.Native.Nat.{ℕ}
use mathlib.Core.Bool.{Bool, true, not, ◌||◌}
use mathlib.Core.List.{List}
use mathlib.Core.Path.{◌≡◌, refl, sym, ap, ◌∙◌}
use borrow.Author.Tests.{eqb-true}
use Rattle.words.specs.Kind.{bit}
use Rattle.tables.specs.Lookup.{lookup_region}
use Rattle.tables.specs.Rows.{region_kind}
use Rattle.tables.specs.declared.rows.Instruction.{Instruction}
use Rattle.tables.proofs.FirstLaws.{never}
use Rattle.control_flow.specs.Condition.{has_condition, is_bit, condition_fits}

-- the region of a condition that fits
pub record Bit (regions : List ℕ) (name : ℕ) : Type 0 where
  pub region : ℕ
  pub found : lookup_region regions name ≡ Some region
  pub kind : region_kind regions region ≡ bit

pub condition_bit : (regions : List ℕ) (x : Instruction) → has_condition x ≡ true → condition_fits regions x ≡ true → Bit regions x.first_name
unfolding condition_fits
condition_bit regions x e h = at (lookup_region regions x.first_name) refl (ap (λ (t : Bool). not t || is_bit regions (lookup_region regions x.first_name)) (sym e) ∙ h)
  where
    at : (f : Option ℕ) → lookup_region regions x.first_name ≡ f → is_bit regions f ≡ true → Bit regions x.first_name
    at (Some r) found k = record { region = r; found = found; kind = eqb-true (region_kind regions r) bit k }
    at None found k = never k
