-- One argument. 01, Calls: "As source `resolve` and `resolve_return`."
use Rattle.call_argument.specs.declared.error.CallArgumentResolutionError.{CallArgumentResolutionError}
use Rattle.call_argument.specs.declared.resolved.ResolvedCallArgument.{ResolvedCallArgument}
use Rattle.std.specs.Prelude.{ℕ, cond, List, [], ◌∷◌, eqb, Option, Some, None, Result, Ok, Err}
use Rattle.tables.specs.Rows.{region_kind, region_at}
use Rattle.tables.specs.Lookup.{lookup_region}
use Rattle.tables.specs.Cases.{case_of}
use Rattle.tables.specs.ParameterShape as shape
use Rattle.tables.specs.declared.rows.Argument.{Argument}
use Rattle.tables.specs.declared.rows.Parameter.{Parameter}
use Rattle.call_argument.specs.Argument.{argument_of}
use Rattle.call_argument.specs.Vectors.{same_vector, declared_vector, expected_vector}
use Rattle.call_argument.specs.declared.vector.Vector.{Vector}
use Rattle.call_argument.specs.declared.argument.UnresolvedCallArgument.{UnresolvedCallArgument}
use Rattle.call_argument.specs.declared.argument.UnresolvedCallArgument.TheVariants.{Identifier, Reference, Immediate}
use Rattle.call_argument.specs.declared.error.CallArgumentResolutionError.TheVariants as E
use Rattle.call_argument.specs.declared.resolved.ResolvedCallArgument.TheVariants as R

-- "a lookup that finds no declaration ends that argument"
abbrev pub declared : Option ℕ → ℕ → (ℕ → Result ResolvedCallArgument CallArgumentResolutionError) → Result ResolvedCallArgument CallArgumentResolutionError
declared (Some region) name rest = rest region
declared None name rest = Err (E.UndeclaredMemoryReference name)

-- a reference for a scalar of that kind
unfoldable pub scalar_of : List ℕ → ℕ → ℕ → ℕ → ℕ → Result ResolvedCallArgument CallArgumentResolutionError
scalar_of regions name index kind mutable =
    declared (lookup_region regions name) name
    (λ r. cond (eqb (region_kind regions r) kind)
    (Ok (R.MemoryReference name index kind mutable))
    (Err (E.MismatchedScalar kind (region_kind regions r))))

-- an identifier for a vector of that kind and length
unfoldable pub fixed_of : List ℕ → ℕ → Vector → ℕ → Result ResolvedCallArgument CallArgumentResolutionError
fixed_of regions name expected mutable =
    declared (lookup_region regions name) name
    (λ r. cond (same_vector (declared_vector (region_at regions r)) expected)
    (Ok (R.Vector name expected mutable))
    (Err (E.MismatchedVector expected (declared_vector (region_at regions r)))))

-- an identifier for a vector of that kind and any length
unfoldable pub variable_of : List ℕ → ℕ → ℕ → ℕ → Result ResolvedCallArgument CallArgumentResolutionError
variable_of regions name kind mutable =
    declared (lookup_region regions name) name
    (λ r. cond (eqb (region_kind regions r) kind)
    (Ok (R.Vector name (declared_vector (region_at regions r)) mutable))
    (Err (E.MismatchedScalar kind (region_kind regions r))))

-- "An identifier for a scalar, or for the return, means index 0"
unfoldable pub identifier_of : List ℕ → ℕ → Parameter → Result ResolvedCallArgument CallArgumentResolutionError
identifier_of regions name p =
    case_of p.shape
    ((shape.scalar, scalar_of regions name 0 p.kind p.mutable)
    ∷ (shape.fixed_vector, fixed_of regions name (expected_vector p) p.mutable)
    ∷ [])
    (variable_of regions name p.kind p.mutable)

-- "A reference to a vector parameter is refused before lookup; an immediate to a mutable parameter before its shape. An immediate fits any scalar kind."
abbrev pub by_argument : List ℕ → Argument → Parameter → UnresolvedCallArgument → Result ResolvedCallArgument CallArgumentResolutionError
by_argument regions row p (Identifier name) = identifier_of regions name p
by_argument regions row p (Reference name index) =
    cond (eqb p.shape shape.scalar) (scalar_of regions name index p.kind p.mutable) (Err (E.InvalidVectorArgument row))
by_argument regions row p (Immediate x y) =
    cond (eqb p.mutable 0)
    (cond (eqb p.shape shape.scalar) (Ok (R.Immediate row.first row.second p.kind)) (Err (E.InvalidVectorArgument row)))
    (Err (E.ImmediateArgumentForMutable p.name))

-- an argument's row for a parameter
unfoldable pub resolve_argument : List ℕ → Argument → Parameter → Result ResolvedCallArgument CallArgumentResolutionError
resolve_argument regions row p = by_argument regions row p (argument_of row)

abbrev pub by_return : List ℕ → Argument → ℕ → UnresolvedCallArgument → Result ResolvedCallArgument CallArgumentResolutionError
by_return regions row kind (Identifier name) = scalar_of regions name 0 kind 1
by_return regions row kind (Reference name index) = scalar_of regions name index kind 1
by_return regions row kind (Immediate x y) = Err (E.ReturnArgument row)

-- an argument's row for the return of that kind, which is mutable
unfoldable pub resolve_return : List ℕ → Argument → ℕ → Result ResolvedCallArgument CallArgumentResolutionError
resolve_return regions row kind = by_return regions row kind (argument_of row)
