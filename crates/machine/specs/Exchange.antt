-- "exchange 2 in either order": the result that 01 leaves free, and what holds of it.
use Rattle.std.specs.Prelude.{ℕ, List, [], ◌∷◌, ◌≡◌, Ok}
use Rattle.journal.specs.declared.cells.Write.{Write}
use Rattle.journal.specs.Cells.{applied}
use Rattle.operands.specs.declared.address.Addresses.{Addresses}
use Rattle.machine.specs.Families.{exchange_of}

-- The two writes of an EXCHANGE leave the same cells in both orders, where both operands are one cell too. Proved in proofs/Exchange.antt.
abbrev pub FreeOrder : Type 0
FreeOrder =
    (cells : List ℕ) (a : Addresses) (v w : Write) → exchange_of cells a ≡ Ok (v ∷ w ∷ []) → applied cells (v ∷ w ∷ []) ≡ applied cells (w ∷ v ∷ [])
