-- What inner functions keep of the lent rows while they write them. No public contract mentions it.
use Rattle.std.specs.Prelude.{ℕ, ◌+◌, ◌*◌, ◌≡◌, List, length}
use Rattle.std.proofs.lemmas.List.Edits.{sets}
use Rattle.extern_call.specs.Gather.{flat}

-- the items' rows stand in a lent list after `count` rows of that width, and n rows stand there then; nothing else has changed
pub record Stored {A : Type 0} (row : A → List ℕ) (width count : ℕ) (items : List A) (entry exit : List ℕ) (n : ℕ) : Type 0 where
  pub total : n ≡ count + length items
  pub words : exit ≡ sets entry (count * width) (flat row items)
