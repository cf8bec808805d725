-- The journal of steps by their old values and the rows that they left, and its last step read back: what back's looks find and what it restores, whatever the memory holds. Assumes nothing.
use Rattle.std.proofs.Common.{Ok}
use Prim.Native.Nat.{ℕ, ◌+◌, ◌*◌, ◌-◌, ◌<◌}
use mathlib.Core.Bool.{true}
use mathlib.Core.List.{List, [], ◌∷◌, ◌++◌, append_assoc}
use mathlib.Core.Path.{◌≡◌, refl, sym, ap, ap₂, ◌∙◌}
use native.Mathlib.Omega.{arith}
use lib.ListN.{length, length-append}
use borrow.Author.Tests.{lt-ltb}
use Rattle.tables.specs.Outcome.{◌>>=◌, ◌>>◌, need}
use Rattle.tables.specs.Rows.{instruction_rows}
use Rattle.journal.specs.declared.position.Position.{Position}
use Rattle.journal.specs.Entries.{flatten, closing, changes_at, row_left_at, entries_at}
use Rattle.journal.specs.Restore.{present, restored, undone}
use Rattle.journal.proofs.EntriesLaws.{length-flatten, length-closing, entries-flatten, changes_closing, row-closing}
use Rattle.session_back.specs.Back.{journal_look}
use Rattle.sequence.specs.Journal.{Step, Steps, stacked, used_by}

pub length-stacked : (steps : Steps) → length (stacked steps) ≡ 3 * used_by steps
unfolding stacked used_by
length-stacked [] = refl
length-stacked (s ∷ steps) =
    let n : ℕ = length s.olds in
    omega (
      arith,
      length-append (stacked steps) (flatten s.olds ++ closing n s.row),
      length-append (flatten s.olds) (closing n s.row),
      length-flatten s.olds,
      length-closing n s.row,
      length-stacked steps,
    )

-- the position of a session at a row that has done so many steps, with the entries of `steps` in use
abbrev pub placed : ℕ → ℕ → Steps → Position
placed row done steps = record { row = row; done = done; used = used_by steps }

module _ (s : Step) (steps : Steps) (rest : List ℕ) where
  abbrev pub changes : ℕ
  changes = length s.olds

  -- the last step's entries, parted from what stands before them
  pub stacked_parted : stacked (s ∷ steps) ++ rest ≡ stacked steps ++ (flatten s.olds ++ (closing changes s.row ++ rest))
  unfolding stacked
  stacked_parted = simp append_assoc

  pub used_more : used_by (s ∷ steps) ≡ used_by steps + (changes + 1)
  unfolding used_by
  used_more = refl

  -- ---- the last closing entry

  closing_parted : stacked (s ∷ steps) ++ rest ≡ (stacked steps ++ flatten s.olds) ++ (closing changes s.row ++ rest)
  closing_parted = stacked_parted ∙ sym (append_assoc (stacked steps) (flatten s.olds) (closing changes s.row ++ rest))

  before_closing : length (stacked steps ++ flatten s.olds) ≡ 3 * (used_by steps + changes)
  before_closing = omega (arith, length-append (stacked steps) (flatten s.olds), length-flatten s.olds, length-stacked steps)

  last_is : used_by (s ∷ steps) - 1 ≡ used_by steps + changes
  last_is = omega (arith, used_more)

  -- it has the last step's count
  pub count_is : changes_at (stacked (s ∷ steps) ++ rest) (used_by (s ∷ steps) - 1) ≡ changes
  count_is = ap₂ changes_at closing_parted last_is ∙ changes_closing (stacked steps ++ flatten s.olds) rest changes s.row (used_by steps + changes) before_closing

  -- and the row that it left
  pub row_is : row_left_at (stacked (s ∷ steps) ++ rest) (used_by (s ∷ steps) - 1) ≡ s.row
  row_is = ap₂ row_left_at closing_parted last_is ∙ row-closing (stacked steps ++ flatten s.olds) rest changes s.row (used_by steps + changes) before_closing

  -- ---- before it stand its old values

  pub first_is : used_by (s ∷ steps) - (changes + 1) ≡ used_by steps
  first_is = omega (arith, used_more)

  pub entries_are : entries_at (stacked (s ∷ steps) ++ rest) (used_by (s ∷ steps) - (changes + 1)) changes ≡ s.olds
  entries_are =
      ap₂ (λ (j : List ℕ) (e : ℕ). entries_at j e changes) stacked_parted first_is
      ∙ entries-flatten (stacked steps) (closing changes s.row ++ rest) s.olds (used_by steps) (length-stacked steps)

  -- 12 and 19 of the journal: none is met where the cells are there and the row left is one
  pub journal_look_lem : (instructions : List ℕ) (cells row done : ℕ) → 0 < done → present cells s.olds ≡ true → s.row < instruction_rows instructions
      → journal_look instructions cells (stacked (s ∷ steps) ++ rest) (placed row done (s ∷ steps)) ≡ Ok changes
  unfolding journal_look ◌>>=◌ ◌>>◌ need
  journal_look_lem instructions cells row done some there left =
      rw (
        lt-ltb 0 done some,
        lt-ltb 0 (used_by (s ∷ steps)) (omega (arith, used_more)),
        count_is,
        lt-ltb changes (used_by (s ∷ steps)) (omega (arith, used_more)),
        entries_are,
        there,
        row_is,
        lt-ltb s.row (instruction_rows instructions) left,
      )

  pub undone_is : (m : List ℕ) → undone (stacked (s ∷ steps) ++ rest) (used_by (s ∷ steps) - (changes + 1)) changes m ≡ restored m s.olds
  unfolding undone
  undone_is m = ap (restored m) entries_are
