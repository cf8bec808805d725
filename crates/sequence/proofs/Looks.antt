-- What the replay machine's looks have seen, by what they gave: the step's writes, or a refusal of the row's; and that they are the session's. Assumes nothing.
use Rattle.std.proofs.Common.{Ok, Err}
use Prim.Native.Nat.{ℕ, ◌+◌, ◌-◌, ◌<◌, ◌≤◌}
use mathlib.Core.Bool.{Bool, true, false}
use mathlib.Core.List.{List}
use mathlib.Core.Path.{◌≡◌, refl, sym, ap, ◌∙◌, subst}
use native.Mathlib.Omega.{arith}
use lib.Dec.{ltb, leb}
use lib.ListN.{length}
use borrow.Author.Tests.{ltb-true, leb-true, leb-false, le-leb, lt-leb}
use Rattle.tables.specs.declared.refusal.Refusal.{Refusal}
use Rattle.tables.specs.Refusal.{at_end, journal_full}
use Rattle.tables.specs.Outcome.{Outcome, ◌>>=◌, ◌>>◌, need}
use Rattle.tables.specs.Rows.{instruction_rows}
use Rattle.tables.proofs.Passed.{passed}
use Rattle.journal.specs.declared.cells.Write.{Write}
use Rattle.machine.specs.Outcome.{outcome_at}
use Rattle.operands.proofs.Binds.{bound}
use Rattle.session.specs.Prepare.{entries_of}
use Rattle.session.specs.Position.{room_for}
use Rattle.session_forward.specs.Forward.{step_look}
use Rattle.sequence.specs.Replay.{Machine, State, row_at, cells_at, used_at, position_at, looks_first, replay_look}

-- a refusal k of a look that is not refused with k itself
pub passed_over : {B : Type 0} (b : Bool) (n k : Refusal) (s : Outcome B) → (n ≡ k → ⊥) → (need b n >> s) ≡ Err k → (b ≡ true) × (s ≡ Err k)
unfolding ◌>>◌ need
passed_over true n k s ne e = (refl, e)
passed_over false n k s ne e = absurd (ne (cc))

bound_over : {A B : Type 0} (s : Outcome A) (f : A → Outcome B) (k : Refusal) → ((a : A) → s ≡ Ok a → f a ≡ Err k → ⊥) → (s >>= f) ≡ Err k → s ≡ Err k
unfolding ◌>>=◌
bound_over (Ok a) f k never e = absurd (never a refl e)
bound_over (Err n) f k never e = cc

-- what comes after is the same
pub bind_same : {A B : Type 0} (s : Outcome A) (f g : A → Outcome B) → ((a : A) → f a ≡ g a) → (s >>= f) ≡ (s >>= g)
unfolding ◌>>=◌
bind_same (Ok a) f g same = same a
bind_same (Err n) f g same = refl

-- ---- where the first looks refuse nothing

module _ (M : Machine) {n : ℕ} (prepared : looks_first M ≡ Ok n) (s : State) (reply : List ℕ) where
  abbrev here : Bool
  here = ltb (row_at M s) (instruction_rows M.tables.instructions)

  abbrev outcome : Outcome (List Write)
  outcome = outcome_at M.tables (cells_at M s) (row_at M s) reply

  abbrev room : List Write → Bool
  room ws = leb (used_at M s + (length ws + 1)) (entries_of M.journal_words)

  -- 11, the row's, 13
  look_is : replay_look M s reply ≡ (need here at_end >> (outcome >>= (λ ws. need (room ws) journal_full >> Ok ws)))
  unfolding replay_look ◌>>◌
  look_is = rw prepared

  -- ---- what they have seen, by what they gave

  pub record Steps (ws : List Write) : Type 0 where
    pub row : row_at M s < instruction_rows M.tables.instructions
    pub outcome_is : outcome ≡ Ok ws
    pub fits : used_at M s + (length ws + 1) ≤ entries_of M.journal_words

  pub steps : (ws : List Write) → replay_look M s reply ≡ Ok ws → Steps ws
  steps ws e =
      let (here_is, e₁) = passed here _ _ _ (sym look_is ∙ e) in
      let b = bound outcome _ ws e₁ in
      let (fits, e₂) = passed (room b.value) _ _ _ b.rest in
      let same : b.value ≡ ws = cc in
      let given = b.given in
      record {
        row = ltb-true (row_at M s) (instruction_rows M.tables.instructions) here_is;
        outcome_is = cc;
        fits = subst (λ (vs : List Write). used_at M s + (length vs + 1) ≤ entries_of M.journal_words) same
            (leb-true (used_at M s + (length b.value + 1)) (entries_of M.journal_words) fits);
      }

  pub record RowRefused (k : Refusal) : Type 0 where
    pub row : row_at M s < instruction_rows M.tables.instructions
    pub outcome_is : outcome ≡ Err k

  room_over : (k : Refusal) (ws : List Write) → (room ws ≡ false → journal_full ≡ k → ⊥) → (need (room ws) journal_full >> Ok ws) ≡ Err k → ⊥
  unfolding ◌>>◌ need
  room_over k ws full e = at (room ws) refl e
    where
      at : (b : Bool) → room ws ≡ b → (need b journal_full >> Ok ws) ≡ Err k → ⊥
      at true r e = let z : ◌≡◌ {A = ℕ} 0 1 = cc in omega arith
      at false r e = full r (cc)

  -- a number that is not 11, nor 13 for want of room, is the row's
  pub refused_by_row : (k : Refusal) → (at_end ≡ k → ⊥) → ((ws : List Write) → row_at M s < instruction_rows M.tables.instructions → outcome ≡ Ok ws → room ws ≡ false → journal_full ≡ k → ⊥)
      → replay_look M s reply ≡ Err k → RowRefused k
  refused_by_row k ended full e =
      let (here_is, e₁) = passed_over here at_end k _ ended (sym look_is ∙ e) in
      let l = ltb-true (row_at M s) (instruction_rows M.tables.instructions) here_is in
      record { row = l; outcome_is = bound_over outcome _ k (λ ws o. room_over k ws (full ws l o)) e₁ }

  -- ---- they are the session's, whose 13 takes the used entries away first

  room_same : (n used entries : ℕ) → used ≤ entries → leb (n + 1) (entries - used) ≡ leb (used + (n + 1)) entries
  room_same n used entries l = at (leb (used + (n + 1)) entries) refl
    where
      at : (b : Bool) → leb (used + (n + 1)) entries ≡ b → leb (n + 1) (entries - used) ≡ b
      at true e = let q : used + (n + 1) ≤ entries = leb-true (used + (n + 1)) entries e in le-leb (n + 1) (entries - used) (omega arith)
      at false e = let q : entries < used + (n + 1) = leb-false (used + (n + 1)) entries e in lt-leb (n + 1) (entries - used) (omega arith)

  pub same_look : used_at M s ≤ entries_of M.journal_words
      → step_look M.tables (cells_at M s) (entries_of M.journal_words) (position_at M s) reply ≡ replay_look M s reply
  unfolding step_look room_for
  same_look l =
      ap (λ o. need here at_end >> o)
      (bind_same outcome _ _ (λ ws. ap (λ b. need b journal_full >> Ok ws) (room_same (length ws) (used_at M s) (entries_of M.journal_words) l)))
      ∙ sym look_is
