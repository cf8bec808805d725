-- Laws of the entries that are counted. Assumes nothing.
use Rattle.std.proofs.Common.{ℕ, ◌+◌, ◌*◌, ◌≤◌, List, [], ◌∷◌, ◌≡◌, refl, ap, ◌∙◌, arith}
use Rattle.tables.specs.Cases.{case_of}
use Rattle.tables.specs.Family as family
use Rattle.tables.specs.Rows.{instruction_at}
use Rattle.tables.specs.declared.rows.Instruction.{Instruction}
use Rattle.tables.proofs.Cases.{by_key, past_keys}
use Rattle.tables.proofs.SumLaws.{sum-next, sum_mono, sum_most}
use Rattle.session_length.specs.Entries.{entries_by_family, entries_for, entries_before}

-- a CALL's count is the largest
entries-few : (f : ℕ) → entries_for f ≤ 65
unfolding entries_for case_of
entries-few f =
    by_key (λ k. entries_for k ≤ 65)
    (
    (family.exchange, omega arith)
    ∷ (family.frame, omega arith)
    ∷ (family.call, omega arith)
    ∷ (family.other, omega arith)
    ∷ []
    )
    f
    (λ past. rw (past_keys past entries_by_family 2 refl) (omega arith))

module _ (instructions : List ℕ) where
  abbrev counted : ℕ → ℕ
  counted row = entries_for (instruction_at instructions row).family

  pub entries_next : (row : ℕ) → entries_before instructions (row + 1) ≡ entries_before instructions row + entries_for (instruction_at instructions row).family
  unfolding entries_before
  entries_next = sum-next counted

  -- a row's count is added
  pub entries_turn : (row : ℕ) {entries count : ℕ} {x : Instruction} → entries ≡ entries_before instructions row → x ≡ instruction_at instructions row
      → count ≡ entries_for x.family → entries + count ≡ entries_before instructions (row + 1)
  entries_turn row {entries} {count} e r f =
      let g : count ≡ entries_for (instruction_at instructions row).family = f ∙ ap (λ (x : Instruction). entries_for x.family) r in
      omega (arith, e, g, entries_next row)

  pub entries_mono : (row past : ℕ) → row ≤ past → entries_before instructions row ≤ entries_before instructions past
  unfolding entries_before
  entries_mono = sum_mono counted

  pub entries_most : (row : ℕ) → entries_before instructions row ≤ 65 * row
  unfolding entries_before
  entries_most = sum_most counted 65 (λ k. entries-few (instruction_at instructions k).family)
