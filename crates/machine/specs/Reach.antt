-- What the functions ask for, index safety alone: a row's cells and regions are there.
use Rattle.std.specs.Prelude.{ℕ, ◌<◌, true, List, ◌≡◌}
use Rattle.tables.specs.Rows.{region_rows}
use Rattle.tables.specs.Cells.{cell_count}
use Rattle.word_rules.specs.Instruction.{form_allowed}
use Rattle.tables.specs.declared.rows.Instruction.{Instruction}
use Rattle.tables.specs.Names.{names_first, indexes_first, names_second, indexes_second, names_source}
use Rattle.operands.specs.declared.address.NamedRegions.{NamedRegions}
use Rattle.operands.specs.declared.address.Addresses.{Addresses}
use Rattle.operands.specs.Reach.{There, SourceThere, Layout}

-- what the outermost function of a row asks for; the loader has checked the form
pub record Opened (regions cells : List ℕ) (x : Instruction) : Type 0 where
  pub layout : Layout regions cells
  pub form : form_allowed x.family x.source_form ≡ true

-- where a row's operands lie
pub record Placed (regions cells : List ℕ) (x : Instruction) (n : NamedRegions) (a : Addresses) : Type 0 where
  pub layout : Layout regions cells
  pub form : form_allowed x.family x.source_form ≡ true
  pub first-region : names_first x.family ≡ true → n.first < region_rows regions
  pub second-region : names_second x.family ≡ true → n.second < region_rows regions
  pub first : indexes_first x.family ≡ true → a.first < cell_count regions
  pub second : indexes_second x.family ≡ true → a.second < cell_count regions
  pub source : names_source x.source_form ≡ true → a.source < cell_count regions

-- by family: arithmetic, logic and move; comparison; exchange; load; store
pub record TargetAndSource (cells : List ℕ) (x : Instruction) (a : Addresses) : Type 0 where
  pub target : There cells a.first
  pub source : SourceThere cells x a.source

pub record Compared (cells : List ℕ) (x : Instruction) (a : Addresses) : Type 0 where
  pub lhs : There cells a.second
  pub source : SourceThere cells x a.source

pub record Exchanged (cells : List ℕ) (a : Addresses) : Type 0 where
  pub first : There cells a.first
  pub second : There cells a.second

pub record Loading (regions cells : List ℕ) (n : NamedRegions) (a : Addresses) : Type 0 where
  pub layout : Layout regions cells
  pub region : n.second < region_rows regions
  pub offset : There cells a.source

pub record Storing (regions cells : List ℕ) (x : Instruction) (n : NamedRegions) (a : Addresses) : Type 0 where
  pub layout : Layout regions cells
  pub region : n.first < region_rows regions
  pub offset : There cells a.second
  pub source : SourceThere cells x a.source
