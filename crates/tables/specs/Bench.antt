-- 01, "Bench examples": "a BIT[2], n INTEGER[3], o OCTET[1], r REAL[2]." The declarations that every bench line starts from; q is undeclared.
use Rattle.std.specs.Prelude.{ℕ, List, [], ◌∷◌}

abbrev pub a : ℕ
a = 0

abbrev pub n : ℕ
n = 1

abbrev pub o : ℕ
o = 2

abbrev pub r : ℕ
r = 3

abbrev pub q : ℕ
q = 4

-- name, kind, length
abbrev pub declarations : List ℕ
declarations = a ∷ 0 ∷ 2 ∷ n ∷ 1 ∷ 3 ∷ o ∷ 2 ∷ 1 ∷ r ∷ 3 ∷ 2 ∷ []
