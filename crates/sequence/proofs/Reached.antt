-- The sessions that are reached: the replay machine at a state, laid out in the lent buffers. Their cells keep the declared kinds, their lengths never change,
-- and forward's and back's looks before 11 and 12 refuse nothing on them. Assumes nothing.
use Rattle.std.proofs.Common.{Ok, Err}
use Prim.Native.Nat.{ℕ, ◌+◌, ◌*◌, ◌<◌, ◌≤◌}
use mathlib.Core.List.{List, [], ◌∷◌, ◌++◌}
use mathlib.Core.Path.{◌≡◌, refl, sym, ap, ◌∙◌, subst}
use native.Mathlib.Omega.{arith}
use lib.ListN.{get_or-append, length, take, drop, length-append}
use lib.Seq.{take_at, drop_at}
use mathlib.Core.Bool.{true}
use Rattle.tables.specs.Outcome.{Outcome}
use Rattle.tables.specs.Rows.{instruction_rows, instruction_at}
use Rattle.tables.specs.Cells.{cell_count}
use Rattle.journal.specs.declared.cells.Write.{Write}
use Rattle.journal.specs.Cells.{held}
use Rattle.journal.specs.Each.{Each, none}
use Rattle.journal.specs.Entries.{flatten, olds, log, closing}
use Rattle.journal.specs.Restore.{present}
use Rattle.journal.proofs.CellsLaws.{each_map, length-applied, applied-each}
use Rattle.journal.proofs.EntriesLaws.{length-olds, entries-log}
use Rattle.journal.proofs.RestoreLaws.{present-log}
use Rattle.machine.specs.Outcome.{outcome_at}
use Rattle.control_flow.proofs.NextLaws.{next-within}
use Rattle.session.specs.Prepare.{entries_of, prepared_of}
use Rattle.session.specs.Position.{position_fits}
use Rattle.session.proofs.PositionLaws.{fits_is}
use Rattle.operands.specs.Typed.{Fits, Typed}
use Rattle.soundness.specs.Sound.{GoodWrite, Sound}
use Rattle.session.specs.Session.{Session}
use Rattle.sequence.specs.Replay.{Machine, History, State, made, place_after, row_after, cells_after, writes_after, used_after, cells_at, used_at, position_at, looks_first}
use Rattle.sequence.specs.Journal.{Step, stacked, used_by, steps_after, journal_after, journal_at}
use Rattle.sequence.proofs.Stack.{length-stacked, stacked_parted}

-- ---- the journal of a history

module _ (M : Machine) where
  -- the old values of the step that a reply adds to a history
  abbrev pub olds_after : History → List ℕ → List Write
  olds_after h reply = olds (cells_after M h) (writes_after M h reply)

  -- that step, as the journal has it
  abbrev pub step_after : History → List ℕ → Step
  step_after h reply = record { olds = olds_after h reply; row = row_after M h }

  pub length_olds_after : (h : History) (reply : List ℕ) → length (olds_after h reply) ≡ length (writes_after M h reply)
  length_olds_after h reply = length-olds (cells_after M h) (writes_after M h reply)

  pub used_is : (h : History) → used_by (steps_after M h) ≡ used_after M h
  unfolding used_by steps_after used_after
  used_is [] = refl
  used_is (reply ∷ h) = let e = length_olds_after h reply in omega (arith, used_is h)

  pub length-journal : (h : History) → length (journal_after M h) ≡ 3 * used_after M h
  length-journal h = length-stacked (steps_after M h) ∙ ap (λ (n : ℕ). 3 * n) (used_is h)

  -- the last step's entries, parted from what stands before them
  pub journal_parted : (reply : List ℕ) (h : History) (rest : List ℕ)
      → journal_after M (reply ∷ h) ++ rest ≡ journal_after M h ++ (log (cells_after M h) (writes_after M h reply) ++ (closing (length (writes_after M h reply)) (row_after M h) ++ rest))
  unfolding steps_after log
  journal_parted reply h rest =
      stacked_parted (step_after h reply) (steps_after M h) rest
      ∙ ap (λ (n : ℕ). journal_after M h ++ (flatten (olds_after h reply) ++ (closing n (row_after M h) ++ rest))) (length_olds_after h reply)

  -- each step uses an entry at least
  steps-used : (h : History) → length h ≤ used_after M h
  unfolding used_after
  steps-used [] = omega arith
  steps-used (reply ∷ h) = omega (arith, steps-used h)

-- ---- what an accepted open gives

abbrev pub count : Machine → ℕ
count M = cell_count M.tables.regions

abbrev pub rows : Machine → ℕ
rows M = instruction_rows M.tables.instructions

-- the start cells have the declared kinds, `past` lies behind them, and the looks at the tables and the lengths refuse nothing
pub record Started (M : Machine) (past : List ℕ) : Type 0 where
  pub sound : Sound M.tables
  pub typed : Typed M.tables.regions M.start_cells
  pub behind : 2 * count M + length past ≡ M.memory_words
  pub prepared : looks_first M ≡ Ok (count M)

-- the replay machine at a state, with `past` behind the cells and `rest` in the journal past the used part
abbrev pub session_at : Machine → List ℕ → State → List ℕ → Session
session_at M past s rest = record { memory = cells_at M s ++ past; journal = journal_at M s ++ rest; position = position_at M s }

-- each step of a history was taken at a row of the program
abbrev pub InProgram : Machine → History → Type 0
InProgram M [] = Unit {0}
InProgram M (reply ∷ h) = (row_after M h < rows M) × InProgram M h

-- and so it has come to a row or to the end
pub row_within : (M : Machine) (h : History) → InProgram M h → row_after M h ≤ rows M
unfolding place_after
row_within M [] l = omega arith
row_within M (reply ∷ h) l = next-within M.tables.regions M.tables.instructions (cells_after M h) (row_after M h) l.0

-- the steps were taken in the program, and the journal has its length
pub record Within (M : Machine) (s : State) (rest : List ℕ) : Type 0 where
  pub steps : InProgram M s.history
  pub size : length (journal_at M s ++ rest) ≡ M.journal_words

module _ {M : Machine} {past : List ℕ} (started : Started M past) where
  -- ---- the cells

  good-made : (h : History) (reply : List ℕ) → row_after M h < rows M → Typed M.tables.regions (cells_after M h)
      → (o : Outcome (List Write)) → outcome_at M.tables (cells_after M h) (row_after M h) reply ≡ o
      → Each (GoodWrite M.tables (instruction_at M.tables.instructions (row_after M h))) (made o)
  good-made h reply l f (Err n) e = none
  good-made h reply l f (Ok ws) e = started.sound.good (cells_after M h) (row_after M h) reply ws f l e

  pub typed_after : (h : History) → InProgram M h → Typed M.tables.regions (cells_after M h)
  unfolding place_after
  typed_after [] l = started.typed
  typed_after (reply ∷ h) l =
      let f = typed_after h l.1 in
      let good = good-made h reply l.0 f (outcome_at M.tables (cells_after M h) (row_after M h) reply) refl in
      record {
        wide = length-applied (cells_after M h) (writes_after M h reply) ∙ f.wide;
        each = applied-each (Fits M.tables.regions) (count M) (cells_after M h) (writes_after M h reply) (omega (arith, f.wide)) (each_map (λ w g. (g.there, g.fits)) good) f.each;
      }

  pub good-after : (h : History) (reply : List ℕ) → InProgram M (reply ∷ h)
      → Each (GoodWrite M.tables (instruction_at M.tables.instructions (row_after M h))) (writes_after M h reply)
  good-after h reply l = good-made h reply l.0 (typed_after h l.1) (outcome_at M.tables (cells_after M h) (row_after M h) reply) refl

  -- the cells of a step's old values are there
  pub present-after : (h : History) (reply : List ℕ) → InProgram M (reply ∷ h) → present (count M) (olds_after M h reply) ≡ true
  present-after h reply l =
      let m : List ℕ = cells_after M h in
      let ws : List Write = writes_after M h reply in
      subst (λ (os : List Write). present (count M) os ≡ true) (entries-log [] [] m ws 0 refl)
      (present-log (count M) [] [] m ws 0 refl (each_map (λ w g. g.there) (good-after h reply l)))

  pub wide : (h : History) → length (cells_after M h) ≡ 2 * count M
  unfolding place_after
  wide [] = started.typed.wide
  wide (reply ∷ h) = length-applied (cells_after M h) (writes_after M h reply) ∙ wide h

  pub cells_taken : (h : History) → take (2 * count M) (cells_after M h ++ past) ≡ cells_after M h
  cells_taken h = take_at (cells_after M h) past (2 * count M) (wide h)

  pub past_left : (h : History) → drop (2 * count M) (cells_after M h ++ past) ≡ past
  past_left h = drop_at (cells_after M h) past (2 * count M) (wide h)

  pub held_among : (h : History) (c : ℕ) → c < count M → held (cells_after M h ++ past) c ≡ held (cells_after M h) c
  held_among h c l = λ i. record {
    cell = c;
    kind = get_or-append (cells_after M h) past 0 (2 * c) (omega (arith, wide h)) i;
    word = get_or-append (cells_after M h) past 0 (2 * c + 1) (omega (arith, wide h)) i;
  }

  -- ---- what both calls look at first

  module _ {s : State} {rest : List ℕ} (within : Within M s rest) where
    pub spent : 3 * used_at M s + length rest ≡ M.journal_words
    spent = omega (arith, length-append (journal_at M s) rest, length-journal M s.history, within.size)

    -- 1, 2, 3, 10, 4
    pub prepared_at : prepared_of M.tables (length (cells_at M s ++ past)) (length (journal_at M s ++ rest)) ≡ Ok (count M)
    prepared_at = rw (length-append (cells_at M s) past, wide s.history, started.behind, within.size) started.prepared

    -- 19
    pub position-fits : position_fits M.tables.instructions (entries_of (length (journal_at M s ++ rest))) (position_at M s) ≡ true
    position-fits =
        fits_is M.tables.instructions (entries_of (length (journal_at M s ++ rest))) (position_at M s)
        (record { row = row_within M s.history within.steps; steps = steps-used M s.history; used = rw within.size (omega (arith, spent)) })
