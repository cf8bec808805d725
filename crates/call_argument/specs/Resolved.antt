-- 01, Calls: "Resolved row, 5 words: 0, name, kind, length, mutable; or 1, name, index, kind, mutable; or 2, real, imaginary, kind, 0."
use Rattle.std.specs.Prelude.{ℕ, List, [], ◌∷◌}
use Rattle.call_argument.specs.declared.resolved.ResolvedCallArgument.{ResolvedCallArgument}
use Rattle.call_argument.specs.declared.resolved.ResolvedCallArgument.TheVariants.{Vector, MemoryReference, Immediate}

abbrev pub resolved_row : ResolvedCallArgument → List ℕ
resolved_row (Vector name v mutable) = 0 ∷ name ∷ v.kind ∷ v.length ∷ mutable ∷ []
resolved_row (MemoryReference name index kind mutable) = 1 ∷ name ∷ index ∷ kind ∷ mutable ∷ []
resolved_row (Immediate real imaginary kind) = 2 ∷ real ∷ imaginary ∷ kind ∷ 0 ∷ []
