-- What inner functions keep of a lent list while they put names into it. No public contract mentions it.
use Rattle.std.specs.Prelude.{ℕ, ◌≡◌, List, length}
use Rattle.std.proofs.lemmas.List.Edits.{sets}

-- the names stand at the front of a lent list, n of them; nothing else has changed
pub record Listed (names entry exit : List ℕ) (n : ℕ) : Type 0 where
  pub count : n ≡ length names
  pub words : exit ≡ sets entry 0 names
