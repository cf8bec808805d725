-- What a `do` line that gave a value says of its parts. Assumes nothing.
use Rattle.std.proofs.Common.{Ok, Err}
use Prim.Native.Nat.{ℕ}
use mathlib.Core.Path.{◌≡◌, refl}
use native.Mathlib.Omega.{arith}
use Rattle.tables.specs.Outcome.{Outcome, ◌>>=◌}

pub record Bound {A B : Type 0} (s : Outcome A) (f : A → Outcome B) (b : B) : Type 0 where
  pub value : A
  pub given : s ≡ Ok value
  pub rest : f value ≡ Ok b

pub bound : {A B : Type 0} (s : Outcome A) (f : A → Outcome B) (b : B) → (s >>= f) ≡ Ok b → Bound s f b
unfolding ◌>>=◌
bound (Ok a) f b e = record { value = a; given = refl; rest = e }
bound (Err n) f b e = let z : ◌≡◌ {A = ℕ} 0 1 = cc in absurd (omega arith)
