-- Where a row's operands were found, the cells that its family looks at are there. Assumes nothing.
use Rattle.std.proofs.Common.{Ok}
use Prim.Native.Nat.{ℕ, ◌≤◌}
use native.Mathlib.Decide.{ℕ_discrete}
use native.Mathlib.Omega.{arith}
use mathlib.Core.Bool.{true}
use mathlib.Core.List.{List}
use mathlib.Core.Path.{◌≡◌, refl}
use Rattle.word_rules.specs.Instruction.{form_allowed}
use Rattle.tables.specs.declared.rows.Instruction.{Instruction}
use Rattle.tables.specs.Cases.{case_of}
use Rattle.tables.specs.Family as family
use Rattle.tables.specs.Names.{operands_of, names_first, indexes_first, names_second, indexes_second}
use Rattle.operands.specs.Address.{names_of, addresses_of}
use Rattle.operands.specs.Reach.{There, SourceThere, Named}
use Rattle.machine.specs.Reach.{Opened, Placed, TargetAndSource, Compared, Exchanged, Loading, Storing}
use Rattle.operands.specs.declared.address.NamedRegions.{NamedRegions}
use Rattle.operands.specs.declared.address.Addresses.{Addresses}
use Rattle.operands.proofs.Reaches.{first-named, second-named, names-within, addresses_within, in_cells}

-- ---- from the names and the indices

module _ {regions cells : List ℕ} {x : Instruction} (o : Opened regions cells x) {n : NamedRegions} (e : names_of regions x ≡ Ok n) where
  pub opened-named : Named regions x n
  opened-named =
      let g = names-within regions x e in
      record {
        laid = o.layout.laid;
        first = λ t. g.first (first-named x.family t);
        second = λ t. g.second (second-named x.family t);
        source = g.source;
      }

  pub opened-placed : {a : Addresses} → addresses_of regions x n ≡ Ok a → Placed regions cells x n a
  opened-placed {a} h =
      let g = names-within regions x e in
      let k = addresses_within o.layout.laid x g h in
      record {
        layout = o.layout;
        form = o.form;
        first-region = g.first;
        second-region = g.second;
        first = k.first;
        second = k.second;
        source = k.source;
      }

-- ---- by family

module _ {regions cells : List ℕ} {x : Instruction} {n : NamedRegions} {a : Addresses} (p : Placed regions cells x n a) where
  first-there : {f : ℕ} → x.family ≡ f → indexes_first f ≡ true → There cells a.first
  first-there e t = in_cells p.layout (p.first (rw e t))

  second-there : {f : ℕ} → x.family ≡ f → indexes_second f ≡ true → There cells a.second
  second-there e t = in_cells p.layout (p.second (rw e t))

  source-there : SourceThere cells x a.source
  source-there t = in_cells p.layout (p.source t)

  pub arithmetic_reach : x.family ≡ family.arithmetic → TargetAndSource cells x a
  unfolding indexes_first operands_of case_of
  arithmetic_reach e = record { target = first-there e refl; source = source-there }

  pub comparison_reach : x.family ≡ family.comparison → Compared cells x a
  unfolding indexes_second operands_of case_of
  comparison_reach e = record { lhs = second-there e refl; source = source-there }

  pub logic_reach : x.family ≡ family.binary_logic → TargetAndSource cells x a
  unfolding indexes_first operands_of case_of
  logic_reach e = record { target = first-there e refl; source = source-there }

  pub unary_reach : x.family ≡ family.unary → There cells a.first
  unfolding indexes_first operands_of case_of
  unary_reach e = first-there e refl

  pub move_reach : x.family ≡ family.move → TargetAndSource cells x a
  unfolding indexes_first operands_of case_of
  move_reach e = record { target = first-there e refl; source = source-there }

  pub exchange_reach : x.family ≡ family.exchange → Exchanged cells a
  unfolding indexes_first indexes_second operands_of case_of
  exchange_reach e = record { first = first-there e refl; second = second-there e refl }

  pub load_reach : x.family ≡ family.load → Loading regions cells n a
  unfolding names_second operands_of case_of form_allowed
  load_reach e = record { layout = p.layout; region = p.second-region (rw e refl); offset = in_cells p.layout (p.source (rw e at p.form)) }

  pub store_reach : x.family ≡ family.store → Storing regions cells x n a
  unfolding names_first indexes_second operands_of case_of
  store_reach e = record { layout = p.layout; region = p.first-region (rw e refl); offset = second-there e refl; source = source-there }

  pub conditional_reach : family.jump_when ≤ x.family → x.family ≤ family.jump_unless → There cells a.first
  unfolding indexes_first operands_of case_of
  conditional_reach l h = at (ℕ_discrete x.family family.jump_when)
    where
      at : Dec (x.family ≡ family.jump_when) → There cells a.first
      at (yes e) = first-there e refl
      at (no ne) = let e : x.family ≡ family.jump_unless = omega arith in first-there e refl

  pub convert_reach : x.family ≡ family.convert → There cells a.source
  unfolding case_of form_allowed
  convert_reach e = in_cells p.layout (p.source (rw e at p.form))
