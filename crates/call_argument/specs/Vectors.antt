-- A vector's type: kind and length, as a region declares them.
use Rattle.std.specs.Prelude.{Bool, ◌&&◌, eqb}
use Rattle.tables.specs.declared.rows.Region.{Region}
use Rattle.tables.specs.declared.rows.Parameter.{Parameter}
use Rattle.call_argument.specs.declared.vector.Vector.{Vector}

unfoldable pub same_vector : Vector → Vector → Bool
same_vector v w = eqb v.kind w.kind && eqb v.length w.length

abbrev pub declared_vector : Region → Vector
declared_vector r = record { kind = r.kind; length = r.length }

abbrev pub expected_vector : Parameter → Vector
expected_vector p = record { kind = p.kind; length = p.length }
