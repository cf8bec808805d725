-- How many changes a row makes at most, whatever the cells hold: by its family alone. Assumes nothing.
use Rattle.std.proofs.Common.{ℕ, ◌%◌, ◌≤◌, Bool, true, false, not, cond, List, [], ◌∷◌, ◌≡◌, refl, ap, sym, ◌∙◌, arith, eqb, length, leb-true, Ok}
use Rattle.tables.specs.Cases.{case_of}
use Rattle.tables.specs.Family as family
use Rattle.tables.specs.Outcome.{Outcome}
use Rattle.tables.specs.Tables.{Tables}
use Rattle.tables.specs.declared.rows.Instruction.{Instruction}
use Rattle.tables.proofs.Cases.{by_key, past_keys}
use Rattle.tables.proofs.Passed.{both, passed}
use Rattle.labels.specs.Labels.{labels_fit}
use Rattle.journal.specs.declared.cells.Write.{Write}
use Rattle.call_reply.specs.Call.{reply_width, reply_limit, reply_rows, reply_length_fits, reply_fits, reply_writes, call_judged, call_outcome}
use Rattle.machine.specs.Outcome.{is_call, is_other, plain_outcome, outcome_of}
use Rattle.operands.specs.Reach.{Laid}
use Rattle.operands.proofs.Binds.{bound}
use Rattle.call_reply.proofs.ReplyLaws.{judged_ok, reply_writes-length}
use Rattle.machine.proofs.WritesLaws.{changes, changes_of, writes-count}

-- "exchange 2 .., call one per reply row"; "a reply is up to 64 rows"
unfoldable pub most_changes : ℕ → ℕ
most_changes f = case_of f ((family.call, reply_limit) ∷ changes) 0

-- a CALL's are the most
pub most_few : (f : ℕ) → most_changes f ≤ reply_limit
unfolding most_changes case_of
most_few f =
    by_key (λ k. most_changes k ≤ reply_limit)
    (
    (family.call, omega arith)
    ∷ (family.arithmetic, omega arith)
    ∷ (family.comparison, omega arith)
    ∷ (family.binary_logic, omega arith)
    ∷ (family.unary, omega arith)
    ∷ (family.move, omega arith)
    ∷ (family.exchange, omega arith)
    ∷ (family.load, omega arith)
    ∷ (family.store, omega arith)
    ∷ (family.convert, omega arith)
    ∷ []
    )
    f
    (λ past. rw (past_keys past ((family.call, reply_limit) ∷ changes) 0 refl) (omega arith))

module _ (t : Tables) (x : Instruction) (reply : List ℕ) where
  abbrev called : Outcome (List Write)
  called = call_outcome t.regions t.externs t.parameters t.arguments x reply

  -- "a reply is up to 64 rows"
  pub call-count : {ws : List Write} → called ≡ Ok ws → (length ws ≡ reply_rows reply) × (reply_rows reply ≤ reply_limit)
  unfolding call_outcome reply_fits reply_length_fits
  call-count {ws} e =
      let b = bound (call_judged t.regions t.externs t.parameters t.arguments x reply) _ ws e in
      let q : reply_writes t.regions t.parameters t.arguments b.value reply ≡ ws = cc b.rest in
      let j = judged_ok t.regions t.externs t.parameters t.arguments x b.value reply b.given in
      let f = (both (reply_length_fits reply) _ j.fits).0 in (
        ap length (sym q) ∙ reply_writes-length t.regions t.parameters t.arguments b.value reply,
        leb-true (reply_rows reply) reply_limit (both (eqb (length reply % reply_width) 0) _ f).1,
      )

  module _ {ws : List Write} (laid : Laid t.regions) (cells : List ℕ) (e : outcome_of t cells x reply ≡ Ok ws) where
    -- behind 9 and 20
    behind : cond (is_call x) called (plain_outcome t.regions cells x reply) ≡ Ok ws
    unfolding outcome_of
    behind = (passed (labels_fit t.instructions) _ _ _ (passed (not (is_other x)) _ _ _ e).1).1

    -- of a row that is no CALL, to the number
    pub plain_changes : is_call x ≡ false → length ws ≡ changes_of x.family
    plain_changes plain = writes-count laid cells x reply (ap (λ (c : Bool). cond c called (plain_outcome t.regions cells x reply)) (sym plain) ∙ behind)

    pub outcome_most : length ws ≤ most_changes x.family
    unfolding most_changes changes_of case_of
    outcome_most = at (is_call x) refl behind
      where
        at : (c : Bool) → is_call x ≡ c → cond c called (plain_outcome t.regions cells x reply) ≡ Ok ws → length ws ≤ cond c reply_limit (changes_of x.family)
        at true q h = let (n, l) = call-count h in omega arith
        at false q h = let n : length ws ≡ changes_of x.family = plain_changes q in omega arith
