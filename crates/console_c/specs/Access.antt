-- console_access: "counts on 0: names read, names written".
use Rattle.std.specs.Prelude.{ℕ, List}
use Rattle.std.proofs.lemmas.List.Edits.{sets}
use Rattle.tables.specs.Tables.{Tables}
use Rattle.access_sets.specs.Access.{Accessing, access_number, access_counts}
use Rattle.console.specs.Access.{access_tables}

-- the number returned, and the lent lists and the out-array at exit
pub record AccessedWords : Type 0 where
  pub number : ℕ
  pub reads : List ℕ
  pub writes : List ℕ
  pub counts : List ℕ

abbrev pub accessed_words : ℕ → List ℕ → List ℕ → List ℕ → AccessedWords
accessed_words number reads writes counts = record { number = number; reads = reads; writes = writes; counts = counts }

abbrev pub accessed_for : Accessing → List ℕ → AccessedWords
accessed_for a counts = accessed_words (access_number a.answer) a.reads a.writes (sets counts 0 (access_counts a.answer))

unfoldable pub console_access : Tables → ℕ → List ℕ → List ℕ → List ℕ → AccessedWords
console_access t row reads writes counts = accessed_for (access_tables t row reads writes) counts
