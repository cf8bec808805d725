-- 2: "word not allowed, range outside its table". The words that each row allows, table by table; "unused words are 0".
use Rattle.std.specs.Prelude.{ℕ, Bool, true, false, ◌&&◌, ◌||◌, List, [], ◌∷◌, eqb, leb}
use Rattle.words.specs.Kind.{real}
use Rattle.tables.specs.First.{every, every_from}
use Rattle.tables.specs.Cases.{case_of}
use Rattle.tables.specs.NodeTag as tag
use Rattle.tables.specs.ArgumentForm as form
use Rattle.tables.specs.ParameterShape as shape
use Rattle.tables.specs.Rows.{region_rows, extern_rows, parameter_rows, node_rows, argument_rows, region_at, extern_at, parameter_at, node_at, argument_at}
use Rattle.tables.specs.Tree.{inside}
use Rattle.tables.specs.declared.rows.Region.{Region}
use Rattle.tables.specs.declared.rows.Extern.{Extern}
use Rattle.tables.specs.declared.rows.Parameter.{Parameter}
use Rattle.tables.specs.declared.rows.Node.{Node}
use Rattle.tables.specs.declared.rows.Argument.{Argument}

-- "Kinds: 0 BIT, 1 INTEGER, 2 OCTET, 3 REAL"; "length (any, 0 too)"
abbrev pub is_kind : ℕ → Bool
is_kind kind = leb kind real

unfoldable pub region_allowed : Region → Bool
region_allowed x = is_kind x.kind

-- "return kind or 4 for none"; its parameters are rows of the parameter table
unfoldable pub extern_allowed : ℕ → Extern → Bool
extern_allowed parameters x = leb x.return_kind shape.no_return && inside x.first_parameter x.parameter_count parameters

-- "mutable 0/1, shape (0 scalar, 1 fixed vector, 2 variable vector), kind, length (fixed only)"
unfoldable pub parameter_allowed : Parameter → Bool
parameter_allowed x =
    leb x.mutable 1
    && (leb x.shape shape.variable_vector
    && (is_kind x.kind && (eqb x.shape shape.fixed_vector || eqb x.length 0)))

-- "0 address (name, index), 1 function call, 2 infix, 3 number (real bits, imaginary bits), 4 pi, 5 prefix, 6 variable (name)"
abbrev pub words_by_tag : Node → List (ℕ × Bool)
words_by_tag x =
    let unused = eqb x.first 0 && eqb x.second 0 in
    (tag.address, true)
    ∷ (tag.function_call, unused)
    ∷ (tag.infix_expression, unused)
    ∷ (tag.number, true)
    ∷ (tag.pi, unused)
    ∷ (tag.prefix_expression, unused)
    ∷ (tag.variable, eqb x.second 0)
    ∷ []

unfoldable pub node_allowed : Node → Bool
unfolding case_of
node_allowed x = case_of x.tag (words_by_tag x) false

-- "0 identifier (name), 1 reference (name, index), 2 immediate" (two binary64 parts)
abbrev pub words_by_form : Argument → List (ℕ × Bool)
words_by_form x = (form.identifier, eqb x.second 0) ∷ (form.reference, true) ∷ (form.immediate, true) ∷ []

unfoldable pub argument_allowed : Argument → Bool
unfolding case_of
argument_allowed x = case_of x.form (words_by_form x) false

unfoldable pub regions_allowed : List ℕ → Bool
regions_allowed xs = every (λ k. region_allowed (region_at xs k)) (region_rows xs)

unfoldable pub externs_allowed : ℕ → List ℕ → Bool
externs_allowed parameters xs = every (λ k. extern_allowed parameters (extern_at xs k)) (extern_rows xs)

unfoldable pub parameters_allowed : List ℕ → Bool
parameters_allowed xs = every (λ k. parameter_allowed (parameter_at xs k)) (parameter_rows xs)

unfoldable pub nodes_allowed : List ℕ → Bool
nodes_allowed xs = every (λ k. node_allowed (node_at xs k)) (node_rows xs)

-- the n nodes from row i on
abbrev pub nodes_allowed_from : List ℕ → ℕ → ℕ → Bool
nodes_allowed_from xs i n = every_from (λ k. node_allowed (node_at xs k)) i n

unfoldable pub arguments_allowed : List ℕ → Bool
arguments_allowed xs = every (λ k. argument_allowed (argument_at xs k)) (argument_rows xs)
