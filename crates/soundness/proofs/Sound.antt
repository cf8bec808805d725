-- The theorem: on cells of the declared kinds, no row of accepted tables is refused with 18, and its writes are good. Under the premises of `Checked`; no axioms.
use Rattle.std.proofs.Common.{ℕ, ◌+◌, ◌*◌, ◌<◌, Bool, true, false, not, cond, List, ◌≡◌, refl, ap₂, ◌∙◌, arith, ltb, ltb-true, Some, Ok, Err}
use Rattle.tables.specs.Refusal.{refusal_number, journal_full, no_rule, other_instruction, unfit_labels}
use Rattle.tables.specs.declared.refusal.Refusal.{Refusal}
use Rattle.tables.specs.Outcome.{Outcome}
use Rattle.tables.specs.Tables.{Tables}
use Rattle.tables.specs.Lookup.{lookup_region}
use Rattle.tables.specs.Rows.{region_kind, instruction_rows, instruction_at}
use Rattle.word_rules.specs.Instruction.{operators_of, form_allowed, instruction_allowed}
use Rattle.tables.specs.declared.rows.Instruction.{Instruction}
use Rattle.loader.proofs.Loaded.{Loaded, loaded, region-kind, instruction_allowed_lem}
use Rattle.tables.proofs.Cases.{among}
use Rattle.tables.proofs.FirstLaws.{every-row}
use Rattle.tables.proofs.LookupLaws.{region-row}
use Rattle.tables.proofs.Passed.{both, passed}
use Rattle.labels.specs.Labels.{labels_fit}
use Rattle.type_rules.specs.Codes.{code_of}
use Rattle.type_rules.proofs.CodeLaws.{code_kind}
use Rattle.type_check.proofs.CheckLaws.{rule_passes}
use Rattle.journal.specs.declared.cells.Write.{Write}
use Rattle.journal.specs.Each.{Each}
use Rattle.journal.proofs.CellsLaws.{each_map}
use Rattle.call_reply.specs.Call.{call_outcome}
use Rattle.machine.specs.Outcome.{is_call, is_other, plain_outcome, outcome_of, outcome_at}
use Rattle.control_flow.specs.Condition.{condition_fits, conditions_fit}
use Rattle.control_flow.proofs.ConditionLaws.{condition_bit}
use Rattle.operators.specs.Convert.{convertible, conversion_fits, conversions_fit}
use Rattle.operators.proofs.ConvertLaws.{conversion_kinds}
use Rattle.machine.proofs.Ends.{Ends, unmet, Ruled, tested, weaken, gives, never_met}
use Rattle.operands.specs.Typed.{Typed}
use Rattle.soundness.specs.Sound.{Checked, GoodWrite, Sound}
use Rattle.soundness.proofs.Regions.{RegionsFit}
use Rattle.soundness.proofs.Zeros.{zeros_typed}
use Rattle.soundness.proofs.Values.{Kept, Keeps}
use Rattle.soundness.proofs.Rows.{Accepted, plain_sound}
use Rattle.soundness.proofs.CallRefusals.{call_ends}
use Rattle.soundness.proofs.Calls.{call-good}

module _ (t : Tables) (checked : Checked t) where
  tables : Loaded t
  tables = loaded t checked.loads

  fit : RegionsFit t.regions
  fit = record { laid = checked.laid; kind = region-kind tables }

  -- a declared name's code is its region's kind
  own_code : (name : ℕ) {r : ℕ} → lookup_region t.regions name ≡ Some r → code_of t.regions name ≡ region_kind t.regions r
  own_code name {r} e = let small = region-kind tables r (region-row t.regions name r e) in code_kind t.regions name e (omega arith)

  -- what was looked at of a row
  accepted : (row : ℕ) → row < instruction_rows t.instructions → Accepted t.regions (instruction_at t.instructions row)
  unfolding instruction_allowed conditions_fit conversions_fit
  accepted row h =
      let x = instruction_at t.instructions row in
      let (o, e) = both (ltb x.operator (operators_of x.family)) _ (instruction_allowed_lem tables row h) in
      record {
        fit = fit;
        operator = ltb-true x.operator (operators_of x.family) o;
        form = (both (form_allowed x.family x.source_form) _ e).0;
        word = checked.words (row * 9 + 7);
        rule = rule_passes t.regions t.nodes t.instructions checked.passes row h;
        condition = λ e.
            let fits = every-row (λ k. condition_fits t.regions (instruction_at t.instructions k)) (instruction_rows t.instructions) checked.conditions row h in
            let b = condition_bit t.regions x e fits in
            code_kind t.regions x.first_name b.found (omega (arith, b.kind)) ∙ b.kind;
        conversion = λ e.
            let fits = every-row (λ k. conversion_fits t.regions (instruction_at t.instructions k)) (instruction_rows t.instructions) checked.conversions row h in
            let b = conversion_kinds t.regions x e fits in
            ap₂ convertible (own_code x.first_name b.to_found) (own_code x.source_first b.from_found) ∙ b.kinds;
      }

  -- a write of a row that is no CALL
  kept_good : (x : Instruction) → is_call x ≡ false → (w : Write) → Kept t.regions w → GoodWrite t x w
  kept_good x plain w k = record {
    there = k.there;
    fits = k.fits;
    allowed = λ call. (let z : ◌≡◌ {A = ℕ} 0 1 = cc in absurd (omega arith));
  }

  module _ (cells : List ℕ) (typed : Typed t.regions cells) (row : ℕ) (h : row < instruction_rows t.instructions) (reply : List ℕ) where
    abbrev x : Instruction
    x = instruction_at t.instructions row

    abbrev called : Outcome (List Write)
    called = call_outcome t.regions t.externs t.parameters t.arguments x reply

    abbrev plain : Outcome (List Write)
    plain = plain_outcome t.regions cells x reply

    plain_ends : Keeps t.regions plain
    plain_ends = plain_sound typed x (accepted row h) reply

    -- nor are 9 and 20 among these
    row_unmet : (n : Refusal) → among (refusal_number n) unmet ≡ true → outcome_at t cells row reply ≡ Err n → ⊥
    unfolding outcome_at outcome_of
    row_unmet n m e =
        never_met n m
        (tested {R = Ruled} {Q = λ ws. Unit {0}} other_instruction (not (is_other x)) refl (λ o.
        tested unfit_labels (labels_fit t.instructions) refl (λ l. ends (is_call x)))) e
      where
        ends : (c : Bool) → Ends Ruled (λ ws. Unit {0}) (cond c called plain)
        ends true = call_ends t.regions t.externs t.parameters t.arguments x reply
        ends false = weaken (λ ws k. tt) plain_ends

    row-good : (ws : List Write) → outcome_at t cells row reply ≡ Ok ws → Each (GoodWrite t x) ws
    unfolding outcome_at outcome_of
    row-good ws e = at (is_call x) refl (passed (labels_fit t.instructions) _ _ _ (passed (not (is_other x)) _ _ _ e).1).1
      where
        at : (c : Bool) → is_call x ≡ c → cond c called plain ≡ Ok ws → Each (GoodWrite t x) ws
        at true q e = call-good t x fit reply ws e
        at false q e = each_map (kept_good x q) (gives ws plain_ends e)

  pub sound : Sound t
  sound = record {
    starts = zeros_typed t.regions fit;
    ruled = λ cells row reply typed h. row_unmet cells typed row h reply no_rule refl;
    journal_apart = λ cells row reply typed h. row_unmet cells typed row h reply journal_full refl;
    good = λ cells row reply ws typed h. row-good cells typed row h reply ws;
  }
