-- A row that is no CALL and passes the type check, 21 and 22, on cells of the declared kinds: no 18, and every write keeps the kinds. Assumes nothing.
use Prim.Native.Nat.{ℕ, ◌^◌, ◌<◌}
use mathlib.Core.Bool.{true, false, false≢true, ◌||◌}
use mathlib.Core.List.{List, [], ◌∷◌}
use mathlib.Core.Path.{◌≡◌, refl, sym, ap, ◌∙◌, subst}
use native.Mathlib.Omega.{arith}
use lib.ListN.{length}
use lib.Dec.{eqb}
use borrow.Author.Tests.{ltb-true}
use Rattle.words.specs.Kind.{bit}
use Rattle.tables.specs.Cases.{case_of}
use Rattle.tables.specs.Family as family
use Rattle.tables.specs.Operator as operator
use Rattle.tables.specs.Source as source
use Rattle.tables.specs.Refusal.{unfit_reply}
use Rattle.tables.proofs.Cases.{at_key, by_key, past_keys}
use Rattle.word_rules.specs.Instruction.{up_to, operators_of, forms_by_family, form_allowed}
use Rattle.tables.specs.declared.rows.Instruction.{Instruction}
use Rattle.type_rules.specs.Judgement.{pass}
use Rattle.type_rules.specs.Rule.{rule_of}
use Rattle.type_rules.specs.Codes.{first_code, second_code, reference_code, operand_code, row_rule}
use Rattle.type_check.proofs.NameLaws.{logic_form}
use Rattle.type_rules.proofs.CodeLaws.{Code, name_code, operand_code_lem, reference_is, source_is}
use Rattle.journal.specs.Each.{none}
use Rattle.tables.specs.Names.{unused, reference, Operands, operands, operands_by_family, operands_of, is_name, has_index, names_first, names_second, indexes_first, indexes_second, names_source}
use Rattle.operands.specs.Cells.{source_of}
use Rattle.machine.specs.Families.{no_writes, conditional_of, families, family_of}
use Rattle.control_flow.specs.Condition.{has_condition}
use Rattle.operators.specs.Convert.{convertible, is_convert}
use Rattle.machine.specs.Outcome.{plain_outcome}
use Rattle.operands.specs.declared.address.NamedRegions.{NamedRegions}
use Rattle.operands.specs.declared.address.Addresses.{Addresses}
use Rattle.machine.proofs.Ends.{Ends, Ruled, fine, bind, tested}
use Rattle.operands.specs.Typed.{Typed}
use Rattle.soundness.proofs.Regions.{RegionsFit}
use Rattle.soundness.proofs.Operands.{Declared, Placed, names_ends, addresses_ends, no_source}
use Rattle.soundness.proofs.Codes as C
use Rattle.soundness.proofs.Families as F
use Rattle.soundness.proofs.Values.{Holds, Keeps, source_ends}

-- ---- what the loader, the type check and open's looks at conditions and conversions say of a row

pub record Accepted (regions : List ℕ) (x : Instruction) : Type 0 where
  pub fit : RegionsFit regions
  pub operator : x.operator < operators_of x.family
  pub form : form_allowed x.family x.source_form ≡ true
  pub word : x.source_first < 2 ^ 64
  pub rule : eqb x.family family.frame ≡ false → row_rule regions x ≡ pass
  pub condition : has_condition x ≡ true → first_code regions x ≡ bit
  pub conversion : is_convert x ≡ true → convertible (first_code regions x) (reference_code regions x) ≡ true

-- ---- the row

module _ {regions cells : List ℕ} (typed : Typed regions cells) (x : Instruction) (k : Accepted regions x) where
  -- the codes of first, second and source
  abbrev d : ℕ
  d = first_code regions x

  abbrev e : ℕ
  e = second_code regions x

  abbrev s : ℕ
  s = operand_code regions x

  dc : Code 4 d
  dc = name_code regions x.first_name

  ec : Code 4 e
  ec = name_code regions x.second_name

  sc : Code 6 s
  sc = operand_code_lem regions x

  -- a row of family f: its names are declared, and from where its operands lie it is sound
  abbrev Ready : ℕ → Type 0
  Ready f = Declared regions x f × ((n : NamedRegions) (a : Addresses) → Placed regions x f n a → Keeps regions (family_of regions cells x n a))

  below : (c : ℕ) → C.declared c ≡ true → c < 8
  below c h = ltb-true c 8 h

  -- a source that is declared, where it is a reference
  sourced : C.declared s ≡ true → names_source x.source_form ≡ true → reference_code regions x < 8
  sourced h q = rw (reference_is regions x q) at (below s h)

  -- and read
  source-read : {f : ℕ} {n : NamedRegions} {a : Addresses} → x.source_form < source.none → Placed regions x f n a → Ends Ruled (Holds s) (source_of cells x a.source)
  source-read {a = a} h p = source_ends typed x a.source k.word h p.source

  -- what a row of family f does
  keyed : (n : NamedRegions) (a : Addresses) {f : ℕ} → x.family ≡ f → Keeps regions (case_of f (families regions cells x n a) no_writes)
      → Keeps regions (family_of regions cells x n a)
  unfolding family_of
  keyed n a q h = subst (Keeps regions) (at_key (families regions cells x n a) no_writes q) h

  -- by the family: "18 names" and "18 row's cells", "18 cell reached" are not met where its rule passes
  abbrev Row : ℕ → Type 0
  Row f = x.family ≡ f → (eqb f family.frame ≡ false → rule_of f x.operator d e s ≡ pass) → Ready f

  arithmetic-row : Row family.arithmetic
  unfolding rule_of case_of operands_of names_second indexes_first form_allowed
  arithmetic-row q h =
      let w = C.arithmetic_wants_lem d s dc sc (h refl) in
      let l = ltb-true _ source.none (rw q at k.form) in (
        record { first = λ t. below d w.0; second = λ t. absurd (false≢true t); source = sourced w.1.0 },
        λ n a p. keyed n a q (F.arithmetic_sound typed x n a d e s (p.first refl) (source-read l p) w),
      )

  comparison-row : Row family.comparison
  unfolding rule_of case_of operands_of indexes_first indexes_second form_allowed
  comparison-row q h =
      let w = C.comparison_wants_lem d e s dc ec sc (h refl) in
      let l = ltb-true _ source.none (rw q at k.form) in (
        record { first = λ t. below d w.0; second = λ t. below e w.1.0; source = sourced w.1.1.0 },
        λ n a p. keyed n a q (F.comparison_sound typed x n a d e s (p.first refl) (p.second refl) (source-read l p) w),
      )

  logic_row : Row family.binary_logic
  unfolding rule_of case_of operands_of names_second indexes_first form_allowed
  logic_row q h =
      let w = C.logic_wants_lem d s dc sc (h refl) in
      let l = logic_form x.source_form (rw q at k.form) in (
        record { first = λ t. below d w.0; second = λ t. absurd (false≢true t); source = sourced w.1.0 },
        λ n a p. keyed n a q (F.logic_sound typed x n a d e s (p.first refl) (source-read l p) w),
      )

  unary-row : Row family.unary
  unfolding rule_of case_of operands_of names_second indexes_first form_allowed operators_of
  unary-row q h =
      let o : x.operator < up_to operator.not = rw q at k.operator in
      let w = C.unary_wants_lem d x.operator dc o (h refl) in (
        record { first = λ t. below d w.0; second = λ t. absurd (false≢true t); source = no_source x.source_form (rw q at k.form) },
        λ n a p. keyed n a q (F.unary_sound typed x n a d e s (p.first refl) w),
      )

  move_row : Row family.move
  unfolding rule_of case_of operands_of names_second indexes_first form_allowed
  move_row q h =
      let w = C.move_wants_lem d s dc sc (h refl) in
      let l = ltb-true _ source.none (rw q at k.form) in (
        record { first = λ t. below d w.0; second = λ t. absurd (false≢true t); source = sourced w.1.0 },
        λ n a p. keyed n a q (F.move_sound typed x n a d e s (p.first refl) (source-read l p) w),
      )

  exchange-row : Row family.exchange
  unfolding rule_of case_of operands_of indexes_first indexes_second form_allowed
  exchange-row q h =
      let w = C.exchange_wants_lem d e dc ec (h refl) in (
        record { first = λ t. below d w.0; second = λ t. below e w.1.0; source = no_source x.source_form (rw q at k.form) },
        λ n a p. keyed n a q (F.exchange_sound typed x n a d e s (p.first refl) (p.second refl) w),
      )

  load_row : Row family.load
  unfolding rule_of case_of operands_of names_second indexes_first form_allowed
  load_row q h =
      let w = C.load_wants_lem d e s dc ec sc (h refl) in
      let z : names_source x.source_form ≡ true = rw q at k.form in (
        record { first = λ t. below d w.0; second = λ t. below e w.1.0; source = sourced w.1.1.0 },
        λ n a p. keyed n a q (F.load_sound typed x n a d e s (p.first refl) (p.named.second refl) (rw (reference_is regions x z) (p.source z)) w),
      )

  store-row : Row family.store
  unfolding rule_of case_of operands_of names_first indexes_second form_allowed
  store-row q h =
      let w = C.store_wants_lem d e s dc ec sc (h refl) in
      let l = ltb-true _ source.none (rw q at k.form) in (
        record { first = λ t. below d w.0; second = λ t. below e w.1.0; source = sourced w.1.1.0 },
        λ n a p. keyed n a q (F.store_sound typed x n a d e s (p.named.first refl) (p.second refl) (source-read l p) w),
      )

  -- a jump with a condition: its rule passes whatever the condition is, so that it is a BIT comes from 21
  conditional_row : (f : ℕ) → (eqb f family.jump_when || eqb f family.jump_unless) ≡ true → operands_of f ≡ operands reference unused
      → form_allowed f x.source_form ≡ eqb x.source_form source.none
      → ((n : NamedRegions) (a : Addresses) → case_of f (families regions cells x n a) no_writes ≡ conditional_of cells a) → Row f
  unfolding names_first names_second indexes_first
  conditional_row f has uses form does q h =
      let is : d ≡ bit = k.condition (rw q has) in
      let second = ap (λ (o : Operands). is_name o.second) uses in (
        record { first = λ t. omega (arith, is); second = λ t. absurd (false≢true (sym second ∙ t)); source = no_source x.source_form (sym form ∙ (rw q at k.form)) },
        λ n a p. keyed n a q (rw (does n a) (F.conditional_sound typed x n a d e s (p.first (ap (λ (o : Operands). has_index o.first) uses)) is)),
      )

  -- a CONVERT: its rule passes whatever its operands are, so that there is a conversion comes from 22
  convert-row : Row family.convert
  unfolding case_of operands_of names_second indexes_first form_allowed
  convert-row q h =
      let r = reference_code regions x in
      let w = C.convert_wants_lem d r dc (name_code regions x.source_first) (k.conversion (rw q refl)) in
      let z : names_source x.source_form ≡ true = rw q at k.form in (
        record { first = λ t. below d w.0; second = λ t. absurd (false≢true t); source = λ t. below r w.1.0 },
        λ n a p. keyed n a q (F.convert_sound typed x n a d e r (p.first refl) (p.source z) w),
      )

  -- a family with no operands: nothing is looked up, and nothing changes
  idle : (f : ℕ) → operands_of f ≡ operands unused unused → form_allowed f x.source_form ≡ eqb x.source_form source.none
      → ((n : NamedRegions) (a : Addresses) → case_of f (families regions cells x n a) no_writes ≡ no_writes) → Row f
  unfolding names_first names_second
  idle f unnamed form still q h =
      let first = ap (λ (o : Operands). is_name o.first) unnamed in
      let second = ap (λ (o : Operands). is_name o.second) unnamed in (
        record { first = λ t. absurd (false≢true (sym first ∙ t)); second = λ t. absurd (false≢true (sym second ∙ t)); source = no_source x.source_form (sym form ∙ (rw q at k.form)) },
        λ n a p. keyed n a q (rw (still n a) (fine none)),
      )

  ready : (f : ℕ) → Row f
  unfolding case_of operands_of form_allowed
  ready f =
      by_key Row
      (
      (family.arithmetic, arithmetic-row)
      ∷ (family.comparison, comparison-row)
      ∷ (family.binary_logic, logic_row)
      ∷ (family.unary, unary-row)
      ∷ (family.move, move_row)
      ∷ (family.exchange, exchange-row)
      ∷ (family.load, load_row)
      ∷ (family.store, store-row)
      ∷ (family.frame, idle family.frame refl refl (λ n a. refl))
      ∷ (family.call, idle family.call refl refl (λ n a. refl))
      ∷ (family.other, idle family.other refl refl (λ n a. refl))
      ∷ (family.jump_when, conditional_row family.jump_when refl refl refl (λ n a. refl))
      ∷ (family.jump_unless, conditional_row family.jump_unless refl refl refl (λ n a. refl))
      ∷ (family.convert, convert-row)
      ∷ []
      )
      f
      (λ past.
      idle f (past_keys past operands_by_family (operands unused unused) refl) (past_keys past (forms_by_family x.source_form) (eqb x.source_form source.none) refl)
      (λ n a. past_keys past (families regions cells x n a) no_writes refl))

  rule : eqb x.family family.frame ≡ false → rule_of x.family x.operator d e s ≡ pass
  unfolding row_rule
  rule l = rw (source_is regions x k.form) at (k.rule l)

  -- "17, 18 names, 14 written indices", and the families' looks
  pub plain_sound : (reply : List ℕ) → Keeps regions (plain_outcome regions cells x reply)
  unfolding plain_outcome
  plain_sound reply =
      let r = ready x.family refl rule in
      tested unfit_reply (eqb (length reply) 0) refl (λ l.
      bind (names_ends x k.fit r.0) (λ n g. bind (addresses_ends x n g) (λ a p. r.1 n a p)))
