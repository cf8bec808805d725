-- What the functions ask for, index safety alone: an argument that is looked at and the cell that it has at an offset are there.
use Rattle.call_argument.specs.declared.error.CallArgumentError.{CallArgumentError}
use Rattle.std.specs.Prelude.{ℕ, ◌<◌, true, List, ◌≡◌, Option, Some, None, Result, Ok, Err}
use Rattle.tables.specs.Rows.{region_length}
use Rattle.tables.specs.Lookup.{lookup_region}
use Rattle.extern_call.specs.Call.{resolution_at, Counted, Paired}
use Rattle.extern_call.specs.declared.call.ExternCall.{ExternCall}
use Rattle.call_argument.specs.declared.resolved.ResolvedCallArgument.{ResolvedCallArgument}
use Rattle.call_argument.specs.declared.resolved.ResolvedCallArgument.TheVariants.{Vector, MemoryReference, Immediate}
use Rattle.operands.specs.Reach.{Laid}
use Rattle.call_reply.specs.Call.{reply_rows, scalars_fit, reply_row_fits}

-- an index of a region that was found
abbrev pub FoundWithin : List ℕ → ℕ → Option ℕ → Type 0
FoundWithin regions i (Some r) = i < region_length regions r
FoundWithin regions i None = Unit {0}

-- the cell of a resolved argument at an offset
abbrev pub CellWithin : List ℕ → ℕ → ResolvedCallArgument → Type 0
CellWithin regions offset (Vector name v mutable) = FoundWithin regions offset (lookup_region regions name)
CellWithin regions offset (MemoryReference name index kind mutable) = FoundWithin regions index (lookup_region regions name)
CellWithin regions offset (Immediate real imaginary kind) = Unit {0}

abbrev pub HitWithin : List ℕ → ℕ → Result ResolvedCallArgument CallArgumentError → Type 0
HitWithin regions offset (Ok a) = CellWithin regions offset a
HitWithin regions offset (Err error) = Unit {0}

-- argument i and its cell
pub record Hit (regions parameters arguments : List ℕ) (call : ExternCall) (i offset : ℕ) : Type 0 where
  pub laid : Laid regions
  pub paired : Paired parameters arguments call i
  pub cell : HitWithin regions offset (resolution_at regions parameters arguments call i)

-- a row of the reply and the arguments that it may hit
pub record Judging (parameters arguments : List ℕ) (call : ExternCall) (reply : List ℕ) (k : ℕ) : Type 0 where
  pub counted : Counted parameters arguments call
  pub row : k < reply_rows reply

-- row k of a reply that fits
pub record Replied (regions parameters arguments : List ℕ) (call : ExternCall) (reply : List ℕ) (k : ℕ) : Type 0 where
  pub laid : Laid regions
  pub counted : Counted parameters arguments call
  pub scalars : scalars_fit regions parameters arguments call ≡ true
  pub row : k < reply_rows reply
  pub fits : reply_row_fits regions parameters arguments call reply k ≡ true
