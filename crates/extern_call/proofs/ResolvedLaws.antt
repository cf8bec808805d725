-- What a resolved argument says: its region is declared with that kind, and a vector's length is the region's. Assumes nothing.
use Rattle.call_argument.specs.declared.error.CallArgumentError.{CallArgumentError}
use Rattle.call_argument.specs.declared.error.CallArgumentResolutionError.{CallArgumentResolutionError}
use Rattle.std.proofs.Common.{Option, Some, None, Result, Ok, Err}
use Prim.Native.Nat.{ℕ, ◌+◌}
use mathlib.Core.Path.{◌≡◌, refl}
use mathlib.Core.Bool.{Bool, true, false, cond}
use mathlib.Core.List.{List, [], ◌∷◌}
use borrow.Author.Tests.{eqb-true}
use lib.Dec.{eqb}
use Rattle.tables.specs.Rows.{region_kind, region_length, region_at, parameter_at, argument_at}
use Rattle.tables.specs.Lookup.{lookup_region}
use Rattle.tables.specs.Cases.{case_of}
use Rattle.tables.specs.declared.rows.Argument.{Argument}
use Rattle.tables.specs.declared.rows.Parameter.{Parameter}
use Rattle.tables.proofs.Passed.{both}
use Rattle.call_argument.specs.Argument.{argument_of, argument_names}
use Rattle.call_argument.specs.Vectors.{same_vector, declared_vector, expected_vector}
use Rattle.call_argument.specs.Resolve.{declared, scalar_of, fixed_of, variable_of, identifier_of, by_argument, resolve_argument, by_return, resolve_return}
use Rattle.extern_call.specs.Call.{place_of, of_return, of_parameter, resolution_for, resolution_at}
use Rattle.call_argument.specs.declared.vector.Vector.{Vector}
use Rattle.call_argument.specs.declared.argument.UnresolvedCallArgument.{UnresolvedCallArgument}
use Rattle.call_argument.specs.declared.argument.UnresolvedCallArgument.TheVariants.{Identifier, Reference, Immediate}
use Rattle.call_argument.specs.declared.resolved.ResolvedCallArgument.{ResolvedCallArgument}
use Rattle.call_argument.specs.declared.resolved.ResolvedCallArgument.TheVariants as R
use Rattle.extern_call.specs.declared.call.ExternCall.{ExternCall}
use Rattle.extern_call.specs.declared.call.Place.{Place}
use Rattle.extern_call.specs.declared.call.Place.TheVariants as P

-- an argument's index for a scalar: "An identifier for a scalar, or for the return, means index 0"
abbrev argument_index : UnresolvedCallArgument → ℕ
argument_index (Identifier name) = 0
argument_index (Reference name index) = index
argument_index (Immediate x y) = 0

-- the name and the mutable word of a resolved argument
abbrev pub resolved_name : ResolvedCallArgument → ℕ
resolved_name (R.Vector name v mutable) = name
resolved_name (R.MemoryReference name index kind mutable) = name
resolved_name (R.Immediate real imaginary kind) = 0

abbrev pub resolved_mutable : ResolvedCallArgument → ℕ
resolved_mutable (R.Vector name v mutable) = mutable
resolved_mutable (R.MemoryReference name index kind mutable) = mutable
resolved_mutable (R.Immediate real imaginary kind) = 0

-- a property of the resolved argument, where there is one
module _ (Q : ResolvedCallArgument → Type 0) where
  abbrev pub Gives : Result ResolvedCallArgument CallArgumentResolutionError → Type 0
  Gives (Ok r) = Q r
  Gives (Err e) = Unit {0}

  gives_cond : (b : Bool) (r s : Result ResolvedCallArgument CallArgumentResolutionError) → (b ≡ true → Gives r) → (b ≡ false → Gives s) → Gives (cond b r s)
  gives_cond true r s p q = p refl
  gives_cond false r s p q = q refl

  gives_declared : (f : Option ℕ) (name : ℕ) (rest : ℕ → Result ResolvedCallArgument CallArgumentResolutionError) → ((k : ℕ) → f ≡ Some k → Gives (rest k)) → Gives (declared f name rest)
  gives_declared (Some k) name rest p = p k refl
  gives_declared None name rest p = tt

-- a region of that name and kind
pub record Declares (regions : List ℕ) (name kind : ℕ) : Type 0 where
  pub region : ℕ
  pub named : lookup_region regions name ≡ Some region
  pub of_kind : region_kind regions region ≡ kind

-- and of that length
pub record DeclaresVector (regions : List ℕ) (name : ℕ) (v : Vector) : Type 0 where
  pub region : ℕ
  pub named : lookup_region regions name ≡ Some region
  pub of_kind : region_kind regions region ≡ v.kind
  pub of_length : region_length regions region ≡ v.length

-- what a resolved argument says, a the argument that it comes from, m the mutable word of its parameter
module _ (regions : List ℕ) (a : UnresolvedCallArgument) (m : ℕ) where
  pub record VectorFacts (name : ℕ) (v : Vector) (mutable : ℕ) : Type 0 where
    pub names : argument_names a ≡ name ∷ []
    pub mutability : mutable ≡ m
    pub declares : DeclaresVector regions name v

  pub record ReferenceFacts (name index kind mutable : ℕ) : Type 0 where
    pub names : argument_names a ≡ name ∷ []
    pub mutability : mutable ≡ m
    pub declares : Declares regions name kind
    pub place : argument_index a ≡ index

  abbrev pub Facts : ResolvedCallArgument → Type 0
  Facts (R.Vector name v mutable) = VectorFacts name v mutable
  Facts (R.MemoryReference name index kind mutable) = ReferenceFacts name index kind mutable
  Facts (R.Immediate real imaginary kind) = m ≡ 0

module _ (regions : List ℕ) (a : UnresolvedCallArgument) (name m : ℕ) (names : argument_names a ≡ name ∷ []) where
  scalar_facts : (index kind : ℕ) → argument_index a ≡ index → Gives (Facts regions a m) (scalar_of regions name index kind m)
  unfolding scalar_of
  scalar_facts index kind place =
      gives_declared (Facts regions a m) (lookup_region regions name) name _
      (λ k f. gives_cond (Facts regions a m) (eqb (region_kind regions k) kind) _ _
      (λ t. record { names = names; mutability = refl; declares = record { region = k; named = f; of_kind = eqb-true _ _ t }; place = place })
      (λ t. tt))

  fixed_facts : (v : Vector) → Gives (Facts regions a m) (fixed_of regions name v m)
  unfolding fixed_of same_vector
  fixed_facts v =
      gives_declared (Facts regions a m) (lookup_region regions name) name _
      (λ k f. gives_cond (Facts regions a m) (same_vector (declared_vector (region_at regions k)) v) _ _
      (λ t.
      let b = both (eqb (region_kind regions k) v.kind) (eqb (region_length regions k) v.length) t in
      record { names = names; mutability = refl; declares = record { region = k; named = f; of_kind = eqb-true _ _ b.0; of_length = eqb-true _ _ b.1 } })
      (λ t. tt))

  variable_facts : (kind : ℕ) → Gives (Facts regions a m) (variable_of regions name kind m)
  unfolding variable_of
  variable_facts kind =
      gives_declared (Facts regions a m) (lookup_region regions name) name _
      (λ k f. gives_cond (Facts regions a m) (eqb (region_kind regions k) kind) _ _
      (λ t. record { names = names; mutability = refl; declares = record { region = k; named = f; of_kind = refl; of_length = refl } })
      (λ t. tt))

argument_facts : (regions : List ℕ) (row : Argument) (p : Parameter) (a : UnresolvedCallArgument)
    → Gives (Facts regions a p.mutable) (by_argument regions row p a)
unfolding identifier_of case_of
argument_facts regions row p (Identifier name) =
    let F = Facts regions (Identifier name) p.mutable in
    gives_cond F (eqb p.shape 0) _ _ (λ t. scalar_facts regions (Identifier name) name p.mutable refl 0 p.kind refl)
    (λ t. gives_cond F (eqb p.shape 1) _ _ (λ t. fixed_facts regions (Identifier name) name p.mutable refl (expected_vector p))
    (λ t. variable_facts regions (Identifier name) name p.mutable refl p.kind))
argument_facts regions row p (Reference name index) =
    gives_cond (Facts regions (Reference name index) p.mutable) (eqb p.shape 0) _ _
    (λ t. scalar_facts regions (Reference name index) name p.mutable refl index p.kind refl) (λ t. tt)
argument_facts regions row p (Immediate x y) =
    let F = Facts regions (Immediate x y) p.mutable in
    gives_cond F (eqb p.mutable 0) _ _ (λ t. gives_cond F (eqb p.shape 0) _ _ (λ s. eqb-true _ _ t) (λ s. tt)) (λ t. tt)

return_facts : (regions : List ℕ) (row : Argument) (kind : ℕ) (a : UnresolvedCallArgument) → Gives (Facts regions a 1) (by_return regions row kind a)
return_facts regions row kind (Identifier name) = scalar_facts regions (Identifier name) name 1 refl 0 kind refl
return_facts regions row kind (Reference name index) = scalar_facts regions (Reference name index) name 1 refl index kind refl
return_facts regions row kind (Immediate x y) = tt

-- the mutable word of a place: the return is written
abbrev pub mutable_for : List ℕ → ExternCall → Place → ℕ
mutable_for parameters call P.Return = 1
mutable_for parameters call (P.Parameter k) = (parameter_at parameters (call.first_parameter + k)).mutable

abbrev GivesCall : (ResolvedCallArgument → Type 0) → Result ResolvedCallArgument CallArgumentError → Type 0
GivesCall Q (Ok r) = Q r
GivesCall Q (Err e) = Unit {0}

of_return_lem : (Q : ResolvedCallArgument → Type 0) (r : Result ResolvedCallArgument CallArgumentResolutionError) → Gives Q r → GivesCall Q (of_return r)
of_return_lem Q (Ok r) q = q
of_return_lem Q (Err e) q = tt

of_parameter_lem : (Q : ResolvedCallArgument → Type 0) (index : ℕ) (r : Result ResolvedCallArgument CallArgumentResolutionError) → Gives Q r → GivesCall Q (of_parameter index r)
of_parameter_lem Q index (Ok r) q = q
of_parameter_lem Q index (Err e) q = tt

module _ (regions parameters arguments : List ℕ) (call : ExternCall) (i : ℕ) where
  row : Argument
  row = argument_at arguments (call.first_argument + i)

  place_facts : (p : Place) → GivesCall (Facts regions (argument_of row) (mutable_for parameters call p)) (resolution_for regions parameters arguments call i p)
  unfolding row resolve_argument resolve_return
  place_facts P.Return = of_return_lem _ (by_return regions row call.return_kind (argument_of row)) (return_facts regions row call.return_kind (argument_of row))
  place_facts (P.Parameter k) =
      let p = parameter_at parameters (call.first_parameter + k) in
      of_parameter_lem _ k (by_argument regions row p (argument_of row)) (argument_facts regions row p (argument_of row))

  -- the facts of argument i, where it resolves
  pub resolved_facts : (r : ResolvedCallArgument) → resolution_at regions parameters arguments call i ≡ Ok r
      → Facts regions (argument_of (argument_at arguments (call.first_argument + i))) (mutable_for parameters call (place_of call i)) r
  unfolding row resolution_at
  resolved_facts r e = rw e at (place_facts (place_of call i))
