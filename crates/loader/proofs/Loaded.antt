-- What tables are that the loader accepts: the facts that the layers above cite. Assumes nothing.
use Rattle.std.proofs.Common.{ℕ, ◌+◌, ◌/◌, ◌%◌, ◌<◌, ◌≤◌, Bool, true, ◌&&◌, List, ◌≡◌, length, eqb, ltb, leb, ltb-true, leb-true, eqb-true, Ok}
use Rattle.tables.specs.Tables.{Tables}
use Rattle.tables.specs.Rows as R
use Rattle.tables.specs.Family as family
use Rattle.tables.specs.Tree.{inside, one_tree}
use Rattle.loader.specs.Shape.{whole_rows, whole_tables}
use Rattle.word_rules.specs.Allowed as A
use Rattle.word_rules.specs.Instruction as I
use Rattle.loader.specs.Load.{allowed_tables, chosen_row, distinct_names, load_look, load_row_look, load_nodes_look}
use Rattle.tables.proofs.FirstLaws.{every-row}
use Rattle.tables.proofs.Passed.{both, passed, needed}
use Rattle.tables.proofs.TreeLaws.{inside_le}

pub record Loaded (t : Tables) : Type 0 where
  pub whole : whole_tables t ≡ true
  pub allowed : allowed_tables t ≡ true
  pub distinct : distinct_names t.regions t.externs ≡ true

pub loaded : (t : Tables) → load_look t ≡ Ok tt → Loaded t
unfolding load_look
loaded t e =
    let (w, e₁) = passed (whole_tables t) _ _ _ e in
    let (a, e₂) = passed (allowed_tables t) _ _ _ e₁ in
    record { whole = w; allowed = a; distinct = needed (distinct_names t.regions t.externs) _ e₂ }

pub loaded_row : (t : Tables) (row family : ℕ) → load_row_look t row family ≡ Ok tt → Loaded t × (chosen_row t.instructions row family ≡ true)
unfolding load_row_look
loaded_row t row family e =
    let (w, e₁) = passed (whole_tables t) _ _ _ e in
    let (a, e₂) = passed (allowed_tables t) _ _ _ e₁ in
    let (c, e₃) = passed (chosen_row t.instructions row family) _ _ _ e₂ in
    (record { whole = w; allowed = a; distinct = needed (distinct_names t.regions t.externs) _ e₃ }, c)

pub loaded_nodes : (nodes : List ℕ) (first count : ℕ) → load_nodes_look nodes first count ≡ Ok tt → one_tree nodes first count ≡ true
unfolding load_nodes_look
loaded_nodes nodes first count e =
    let (w, e₁) = passed (whole_rows R.node_width 2048 nodes) _ _ _ e in
    let (a, e₂) = passed (A.nodes_allowed nodes) _ _ _ e₁ in
    needed (one_tree nodes first count) _ e₂

-- a chosen row
pub chosen : (xs : List ℕ) (row family : ℕ) → chosen_row xs row family ≡ true → (row < R.instruction_rows xs) × ((R.instruction_at xs row).family ≡ family)
unfolding chosen_row
chosen xs row family e =
    let (l, f) = both (ltb row (R.instruction_rows xs)) _ e in
    (ltb-true row (R.instruction_rows xs) l, eqb-true (R.instruction_at xs row).family family f)

pub few : (width limit : ℕ) (xs : List ℕ) → whole_rows width limit xs ≡ true → length xs / width ≤ limit
unfolding whole_rows
few width limit xs e = leb-true (length xs / width) limit (both (eqb (length xs % width) 0) _ e).1

-- six tests that all hold
pub record Six (a b c d e f : Bool) : Type 0 where
  pub of_regions : a ≡ true
  pub of_externs : b ≡ true
  pub of_parameters : c ≡ true
  pub of_nodes : d ≡ true
  pub of_arguments : e ≡ true
  pub of_instructions : f ≡ true

six : (a b c d e f : Bool) → a && (b && (c && (d && (e && f)))) ≡ true → Six a b c d e f
six a b c d e f h =
    let (p, h₁) = both a _ h in
    let (q, h₂) = both b _ h₁ in
    let (r, h₃) = both c _ h₂ in
    let (s, h₄) = both d _ h₃ in
    let (t, u) = both e _ h₄ in
    record { of_regions = p; of_externs = q; of_parameters = r; of_nodes = s; of_arguments = t; of_instructions = u }

module _ (t : Tables) (w : whole_tables t ≡ true) where
  wholes : Six (whole_rows R.region_width 64 t.regions) (whole_rows R.extern_width 32 t.externs) (whole_rows R.parameter_width 256 t.parameters) (whole_rows R.node_width 2048 t.nodes) (whole_rows R.argument_width 1024 t.arguments) (whole_rows R.instruction_width 512 t.instructions)
  unfolding whole_tables
  wholes = six (whole_rows R.region_width 64 t.regions) (whole_rows R.extern_width 32 t.externs) (whole_rows R.parameter_width 256 t.parameters) (whole_rows R.node_width 2048 t.nodes) (whole_rows R.argument_width 1024 t.arguments) (whole_rows R.instruction_width 512 t.instructions) w

  -- what the word rules need of it: room for where each node's tree ends
  pub whole-nodes : R.node_rows t.nodes ≤ 2048
  whole-nodes = few R.node_width 2048 t.nodes wholes.of_nodes

module _ {t : Tables} (l : Loaded t) where
  alloweds : Six (A.regions_allowed t.regions) (A.externs_allowed (R.parameter_rows t.parameters) t.externs) (A.parameters_allowed t.parameters) (A.nodes_allowed t.nodes) (A.arguments_allowed t.arguments) (I.instructions_allowed t.nodes (R.argument_rows t.arguments) t.instructions)
  unfolding allowed_tables
  alloweds = six (A.regions_allowed t.regions) (A.externs_allowed (R.parameter_rows t.parameters) t.externs) (A.parameters_allowed t.parameters) (A.nodes_allowed t.nodes) (A.arguments_allowed t.arguments) (I.instructions_allowed t.nodes (R.argument_rows t.arguments) t.instructions) l.allowed

  -- ---- limits
  pub few-regions : R.region_rows t.regions ≤ 64
  few-regions = few R.region_width 64 t.regions (wholes t l.whole).of_regions

  pub few-externs : R.extern_rows t.externs ≤ 32
  few-externs = few R.extern_width 32 t.externs (wholes t l.whole).of_externs

  pub few-parameters : R.parameter_rows t.parameters ≤ 256
  few-parameters = few R.parameter_width 256 t.parameters (wholes t l.whole).of_parameters

  pub few-nodes : R.node_rows t.nodes ≤ 2048
  few-nodes = whole-nodes t l.whole

  pub few-arguments : R.argument_rows t.arguments ≤ 1024
  few-arguments = few R.argument_width 1024 t.arguments (wholes t l.whole).of_arguments

  pub few-instructions : R.instruction_rows t.instructions ≤ 512
  few-instructions = few R.instruction_width 512 t.instructions (wholes t l.whole).of_instructions

  -- ---- rows
  pub region-allowed : (r : ℕ) → r < R.region_rows t.regions → A.region_allowed (R.region_at t.regions r) ≡ true
  unfolding A.regions_allowed
  region-allowed = every-row _ _ alloweds.of_regions

  pub extern_allowed_lem : (r : ℕ) → r < R.extern_rows t.externs → A.extern_allowed (R.parameter_rows t.parameters) (R.extern_at t.externs r) ≡ true
  unfolding A.externs_allowed
  extern_allowed_lem = every-row _ _ alloweds.of_externs

  pub parameter_allowed_lem : (r : ℕ) → r < R.parameter_rows t.parameters → A.parameter_allowed (R.parameter_at t.parameters r) ≡ true
  unfolding A.parameters_allowed
  parameter_allowed_lem = every-row _ _ alloweds.of_parameters

  pub node_allowed_lem : (r : ℕ) → r < R.node_rows t.nodes → A.node_allowed (R.node_at t.nodes r) ≡ true
  unfolding A.nodes_allowed
  node_allowed_lem = every-row _ _ alloweds.of_nodes

  pub argument-allowed : (r : ℕ) → r < R.argument_rows t.arguments → A.argument_allowed (R.argument_at t.arguments r) ≡ true
  unfolding A.arguments_allowed
  argument-allowed = every-row _ _ alloweds.of_arguments

  pub instruction_allowed_lem : (r : ℕ) → r < R.instruction_rows t.instructions → I.instruction_allowed t.nodes (R.argument_rows t.arguments) (R.instruction_at t.instructions r) ≡ true
  unfolding I.instructions_allowed
  instruction_allowed_lem = every-row _ _ alloweds.of_instructions

  -- ---- what callers need of them
  -- a region's kind is one of four
  pub region-kind : (r : ℕ) → r < R.region_rows t.regions → R.region_kind t.regions r ≤ 3
  unfolding A.region_allowed
  region-kind r h = leb-true (R.region_kind t.regions r) 3 (region-allowed r h)

  -- an extern's parameters are rows of the parameter table
  pub extern_parameters : (r : ℕ) → r < R.extern_rows t.externs → (R.extern_at t.externs r).first_parameter + (R.extern_at t.externs r).parameter_count ≤ R.parameter_rows t.parameters
  unfolding A.extern_allowed
  extern_parameters r h = inside_le _ _ _ (both (leb (R.extern_at t.externs r).return_kind 4) _ (extern_allowed_lem r h)).1

  operands : (r : ℕ) → r < R.instruction_rows t.instructions → I.operands_allowed t.nodes (R.argument_rows t.arguments) (R.instruction_at t.instructions r) ≡ true
  unfolding I.instruction_allowed
  operands r h =
      let x = R.instruction_at t.instructions r in
      (both (I.source_allowed x) _ (both (I.form_allowed x.family x.source_form) _ (both (ltb x.operator (I.operators_of x.family)) _ (instruction_allowed_lem r h)).1).1).1

  -- a frame's nodes are exactly one tree of the node table
  pub frame_tree : (r : ℕ) → r < R.instruction_rows t.instructions → (R.instruction_at t.instructions r).family ≡ family.frame
      → one_tree t.nodes (R.instruction_at t.instructions r).first_name (R.instruction_at t.instructions r).first_index ≡ true
  unfolding I.operands_allowed
  frame_tree r h f =
      let x = R.instruction_at t.instructions r in
      (both (eqb x.second_name 0 && eqb x.second_index 0) _ (rw f at (operands r h))).1

  -- a CALL's arguments are rows of the argument table
  pub call-arguments : (r : ℕ) → r < R.instruction_rows t.instructions → (R.instruction_at t.instructions r).family ≡ family.call
      → (R.instruction_at t.instructions r).first_index + (R.instruction_at t.instructions r).second_name ≤ R.argument_rows t.arguments
  unfolding I.operands_allowed
  call-arguments r h f =
      let x = R.instruction_at t.instructions r in
      inside_le _ _ _ (both (eqb x.second_index 0) _ (rw f at (operands r h))).1

  pub frame-inside : (r : ℕ) → r < R.instruction_rows t.instructions → (R.instruction_at t.instructions r).family ≡ family.frame
      → (R.instruction_at t.instructions r).first_name + (R.instruction_at t.instructions r).first_index ≤ R.node_rows t.nodes
  unfolding one_tree
  frame-inside r h f =
      let x = R.instruction_at t.instructions r in
      inside_le _ _ _ (both (inside x.first_name x.first_index (R.node_rows t.nodes)) _ (frame_tree r h f)).0
