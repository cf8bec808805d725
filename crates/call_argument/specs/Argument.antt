-- 01, Tables: "Argument (1,024): form, two words. 0 identifier (name), 1 reference (name, index), 2 immediate; an immediate is a complex number of two binary64 parts."
use Rattle.std.specs.Prelude.{ℕ, List, [], ◌∷◌}
use Rattle.tables.specs.ArgumentForm as form
use Rattle.tables.specs.Cases.{case_of}
use Rattle.tables.specs.declared.rows.Argument.{Argument}
use Rattle.reals.specs.Real.{real_value}
use Rattle.call_argument.specs.declared.argument.UnresolvedCallArgument.{UnresolvedCallArgument}
use Rattle.call_argument.specs.declared.argument.UnresolvedCallArgument.TheVariants.{Identifier, Reference, Immediate}

unfoldable pub argument_of : Argument → UnresolvedCallArgument
argument_of row =
    case_of row.form
    ((form.identifier, Identifier row.first)
    ∷ (form.reference, Reference row.first row.second)
    ∷ [])
    (Immediate (real_value row.first) (real_value row.second))

-- the names in an argument: one of an identifier or a reference; "an immediate adds nothing"
abbrev pub argument_names : UnresolvedCallArgument → List ℕ
argument_names (Identifier name) = name ∷ []
argument_names (Reference name index) = name ∷ []
argument_names (Immediate x y) = []
