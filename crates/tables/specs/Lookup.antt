-- "A name is a number; equal names are equal numbers." A name's row is the first that has it; a row's name is its first word.
use Rattle.std.specs.Prelude.{ℕ, ◌*◌, Bool, not, List, get_or, eqb, Option, Some, None}
use Rattle.std.specs.Option.{is_some}
use Rattle.tables.specs.First.{first, every}
use Rattle.tables.specs.Rows.{rows_of, region_width, extern_width}

abbrev pub name_at : ℕ → List ℕ → ℕ → ℕ
name_at width xs i = get_or xs (i * width) 0

-- of the n rows from row i on
abbrev pub lookup_from : ℕ → List ℕ → ℕ → ℕ → ℕ → Option ℕ
lookup_from width xs name i n = first (λ k. eqb (name_at width xs k) name) (λ k. Some k) None i n

-- of the first n rows
unfoldable pub lookup_among : ℕ → List ℕ → ℕ → ℕ → Option ℕ
lookup_among width xs name n = lookup_from width xs name 0 n

unfoldable pub lookup_of : ℕ → List ℕ → ℕ → Option ℕ
lookup_of width xs name = lookup_among width xs name (rows_of width xs)

abbrev pub lookup_region : List ℕ → ℕ → Option ℕ
lookup_region = lookup_of region_width

abbrev pub lookup_extern : List ℕ → ℕ → Option ℕ
lookup_extern = lookup_of extern_width

-- 3: "two regions or two externs of one name". Row k has no earlier row's name.
abbrev pub new_name : ℕ → List ℕ → ℕ → Bool
new_name width xs k = not (is_some (lookup_among width xs (name_at width xs k) k))

unfoldable pub distinct : ℕ → List ℕ → Bool
distinct width xs = every (new_name width xs) (rows_of width xs)
