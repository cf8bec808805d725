-- The word that decides a jump is the one that its step has read. Assumes nothing.
use Rattle.std.proofs.Common.{Ok}
use Prim.Native.Nat.{ℕ}
use mathlib.Core.Bool.{Bool, true, ◌||◌}
use mathlib.Core.List.{List, [], ◌∷◌}
use mathlib.Core.Path.{◌≡◌, refl, sym, ap, ap₂, ◌∙◌}
use lib.ListN.{length}
use lib.Dec.{eqb}
use borrow.Author.Tests.{ne_eqb}
use Rattle.words.specs.Kind.{bit}
use Rattle.tables.specs.Cases.{case_of}
use Rattle.tables.specs.Family as family
use Rattle.tables.specs.Lookup.{lookup_region}
use Rattle.tables.specs.Names.{operands_of, names_first, indexes_first, names_second, indexes_second, names_source}
use Rattle.tables.specs.Outcome.{◌>>=◌}
use Rattle.tables.specs.declared.rows.Instruction.{Instruction}
use Rattle.tables.proofs.Cases.{by_key}
use Rattle.tables.proofs.FirstLaws.{never}
use Rattle.tables.proofs.Passed.{passed}
use Rattle.journal.specs.declared.cells.Write.{Write}
use Rattle.operands.specs.Address.{found_region, indexed_of, named_of, names_of, written_of, addresses_of}
use Rattle.operands.specs.Cells.{cell_word, read_of, read_word, condition_of}
use Rattle.operands.specs.declared.address.NamedRegions.{NamedRegions}
use Rattle.operands.specs.declared.address.Addresses.{Addresses}
use Rattle.operands.proofs.Binds.{bound}
use Rattle.control_flow.specs.Condition.{has_condition}
use Rattle.control_flow.specs.Next.{condition_cell, word_on}
use Rattle.machine.specs.Families.{no_writes, families, conditional_of, family_of}
use Rattle.machine.specs.Outcome.{plain_outcome}
use Rattle.machine.specs.Condition.{ReadCondition, ConditionRead}

module _ (regions cells : List ℕ) (x : Instruction) where
  -- what a family with a condition looks at and does
  record Conditional (f : ℕ) : Type 0 where
    names : names_first f ≡ true
    indexes : indexes_first f ≡ true
    does : (n : NamedRegions) (a : Addresses) → case_of f (families regions cells x n a) no_writes ≡ conditional_of cells a

  conditional : (f : ℕ) → (eqb f family.jump_when || eqb f family.jump_unless) ≡ true → Conditional f
  unfolding names_first indexes_first operands_of case_of
  conditional f =
      by_key (λ k. (eqb k family.jump_when || eqb k family.jump_unless) ≡ true → Conditional k)
      (
      (family.jump_when, λ e. record { names = refl; indexes = refl; does = λ n a. refl })
      ∷ (family.jump_unless, λ e. record { names = refl; indexes = refl; does = λ n a. refl })
      ∷ []
      )
      f
      (λ past e. never (ap₂ ◌||◌ (sym (ne_eqb f family.jump_when (past.from family.jump_when refl))) (sym (ne_eqb f family.jump_unless (past.from family.jump_unless refl))) ∙ e))

  -- the region of the first name, and the cell at its index
  first-region : (n : NamedRegions) → names_first x.family ≡ true → names_of regions x ≡ Ok n → found_region (lookup_region regions x.first_name) ≡ Ok n.first
  unfolding names_of named_of
  first-region n named e =
      let b = bound (named_of regions (names_first x.family) x.first_name) _ n e in
      let c = bound (named_of regions (names_second x.family) x.second_name) _ n b.rest in
      let d = bound (named_of regions (names_source x.source_form) x.source_first) _ n c.rest in
      let q : record { first = b.value; second = c.value; source = d.value } ≡ n = cc d.rest in
      ap (λ (t : Bool). named_of regions t x.first_name) (sym named) ∙ b.given ∙ ap (λ (m : NamedRegions). Ok m.first) q

  first_cell : (n : NamedRegions) (a : Addresses) → indexes_first x.family ≡ true → addresses_of regions x n ≡ Ok a → indexed_of regions n.first x.first_index ≡ Ok a.first
  unfolding addresses_of written_of
  first_cell n a indexed e =
      let b = bound (written_of regions (indexes_first x.family) n.first x.first_index) _ a e in
      let c = bound (written_of regions (indexes_second x.family) n.second x.second_index) _ a b.rest in
      let d = bound (written_of regions (names_source x.source_form) n.source x.source_second) _ a c.rest in
      let q : record { first = b.value; second = c.value; source = d.value } ≡ a = cc d.rest in
      ap (λ (t : Bool). written_of regions t n.first x.first_index) (sym indexed) ∙ b.given ∙ ap (λ (m : Addresses). Ok m.first) q

  -- a cell that is read gives its word
  word_read : (c w : ℕ) → condition_of cells c ≡ Ok w → w ≡ cell_word cells c
  unfolding read_word read_of
  word_read c w e =
      let b = bound (read_of cells c) _ w e in
      let (k, r) = passed (eqb b.value.kind bit) _ _ w b.rest in
      let (f, g) = passed _ _ _ b.value b.given in
      cc

  module _ (reply : List ℕ) (ws : List Write) (has : has_condition x ≡ true) (e : plain_outcome regions cells x reply ≡ Ok ws) where
    abbrev facts : Conditional x.family
    facts = conditional x.family has

    read_condition : ReadCondition regions cells x
    unfolding plain_outcome family_of conditional_of condition_cell ◌>>=◌
    read_condition =
        let (l, e₁) = passed (eqb (length reply) 0) _ _ ws e in
        let b = bound (names_of regions x) _ ws e₁ in
        let d = bound (addresses_of regions x b.value) _ ws b.rest in
        let r = first-region b.value facts.names b.given in
        let i = first_cell b.value d.value facts.indexes d.given in
        let found : condition_cell regions x ≡ Ok d.value.first = rw (r, i) in
        let w = bound (condition_of cells d.value.first) _ ws (sym (facts.does b.value d.value) ∙ d.rest) in
        record {
          cell = d.value.first;
          found = found;
          read = w.given ∙ ap Ok (word_read d.value.first w.value w.given ∙ ap (word_on cells) (sym found));
        }

pub condition_read : ConditionRead
condition_read regions cells x reply ws has e = read_condition regions cells x reply ws has e
