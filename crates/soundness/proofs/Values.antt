-- Cells of the declared kinds, as they are read and written: no 18, and what is put into a cell keeps its kind. Assumes nothing.
use Rattle.std.proofs.Common.{ℕ, ◌^◌, ◌<◌, Bool, true, false, cond, List, ◌≡◌, refl, sym, ◌∙◌, arith, eqb, ltb, eqb-true, eq-eqb, Ok, Err}
use borrow.Author.Tests.{eqb-false}
use Rattle.words.specs.Kind.{integer_literal, real_literal, width_of, fits_kind}
use Rattle.words.specs.Literal.{literal_fits}
use Rattle.words.specs.Fits.{fits_of, fits_below}
use Rattle.words.proofs.Literal.{literal-fits}
use Rattle.tables.specs.Cases.{case_of}
use Rattle.tables.specs.Refusal.{no_rule, unfit_literal}
use Rattle.tables.specs.Outcome.{Outcome, ◌>>◌, need}
use Rattle.tables.specs.Cells.{cell_count}
use Rattle.tables.specs.declared.rows.Instruction.{Instruction}
use Rattle.type_rules.specs.Codes.{code_of, operand_code}
use Rattle.journal.specs.declared.cells.Write.{Write}
use Rattle.journal.specs.Each.{Each}
use Rattle.tables.specs.Names.{names_source}
use Rattle.operands.specs.Cells.{cell_kind, read_of, source_of, read_word, write}
use Rattle.operators.specs.Operators.{comparison_kinds}
use Rattle.machine.specs.Families as F
use Rattle.operands.specs.declared.cell.Value.{Value}
use Rattle.machine.proofs.Ends.{Ends, Ruled, fine, bind, tested, ruled}
use Rattle.machine.proofs.WritesLaws.{single}
use Rattle.operands.specs.Typed.{Fits, Typed}
use Rattle.soundness.proofs.Regions.{Cell}

-- ---- values and writes

-- a value of code k, a literal's too
pub record Holds (k : ℕ) (v : Value) : Type 0 where
  pub kind_is : v.kind ≡ k
  pub below : v.word < 2 ^ width_of k

-- a write to a cell that is there, of its declared kind
pub record Kept (regions : List ℕ) (w : Write) : Type 0 where
  pub there : w.cell < cell_count regions
  pub fits : Fits regions w

pub kept : {regions : List ℕ} {k c : ℕ} → Cell regions k c → {k' w : ℕ} → k' ≡ k → fits_kind k w ≡ true → Kept regions (write c k' w)
kept t e f = record { there = t.there; fits = record { kind = e ∙ sym t.is; word = rw e f } }

-- the same by the word's bound
pub kept_below : {regions : List ℕ} {k c : ℕ} → Cell regions k c → {k' w : ℕ} → k' ≡ k → w < 2 ^ width_of k → Kept regions (write c k' w)
kept_below {regions} {k} t {k'} {w} e h = kept t e (fits_of k w t.small h)

-- no 18, and writes that keep the kinds
abbrev pub Keeps : List ℕ → Outcome (List Write) → Type 0
Keeps regions o = Ends Ruled (Each (Kept regions)) o

module _ {regions cells : List ℕ} (typed : Typed regions cells) where
  -- ---- what is read

  module _ {k c : ℕ} (t : Cell regions k c) where
    cell-kind : cell_kind cells c ≡ k
    cell-kind = (typed.each c t.there).kind ∙ t.is

    pub read_ends : Ends Ruled (Holds k) (read_of cells c)
    unfolding read_of
    read_ends =
        let f = (typed.each c t.there).word in
        ruled f (fine (record { kind_is = cell-kind; below = rw cell-kind at (fits_below (cell_kind cells c) _ f) }))

  -- a source's value has the code that the type check gives it
  pub source_ends : (x : Instruction) (c : ℕ) → x.source_first < 2 ^ 64 → x.source_form < 3
      → (names_source x.source_form ≡ true → Cell regions (code_of regions x.source_first) c)
      → Ends Ruled (Holds (operand_code regions x)) (source_of cells x c)
  unfolding operand_code source_of width_of case_of
  source_ends x c w f t = at (eqb x.source_form 0) (eqb x.source_form 1) (eqb x.source_form 2) refl refl refl
    where
      at : (a b r : Bool) → eqb x.source_form 0 ≡ a → eqb x.source_form 1 ≡ b → eqb x.source_form 2 ≡ r
          → Ends Ruled (Holds (cond a integer_literal (cond b real_literal (code_of regions x.source_first))))
          (cond a (Ok (record { kind = integer_literal; word = x.source_first })) (cond b (Ok (record { kind = real_literal; word = x.source_first }))
          (cond r (read_of cells c) (Err no_rule))))
      at true b r ea eb er = fine (record { kind_is = refl; below = w })
      at false true r ea eb er = fine (record { kind_is = refl; below = w })
      at false false true ea eb er = read_ends (t er)
      at false false false ea eb er =
          absurd (omega (arith, eqb-false x.source_form 0 ea, eqb-false x.source_form 1 eb, eqb-false x.source_form 2 er))

  -- a source that fits the kind of the cell that it is put into
  pub put_ends : {k s c : ℕ} (v : Value) → Cell regions k c → Holds s v → comparison_kinds k s ≡ true → Keeps regions (F.put_into cells c v)
  unfolding F.put_into F.put_integer case_of width_of
  put_ends {k} {s} {c} v t h e = rw (h.kind_is, cell-kind t) (at (eqb s integer_literal) (eqb s real_literal) refl refl e)
    where
      at : (a b : Bool) → eqb s integer_literal ≡ a → eqb s real_literal ≡ b → cond a (ltb k 3) (cond b (eqb k 3) (eqb k s)) ≡ true
          → Keeps regions (cond a (need (ltb k 3) no_rule >> (need (literal_fits k v.word) unfit_literal >> Ok (F.one c k v.word)))
          (cond b (need (eqb k 3) no_rule >> Ok (F.one c 3 v.word)) (Ok (F.one c s v.word))))
      at true b ea eb e =
          let l : v.word < 2 ^ width_of 4 = rw (eqb-true s integer_literal ea) at h.below in
          ruled e (tested unfit_literal (literal_fits k v.word) refl (λ f. fine (single (kept t refl (sym (literal-fits k v.word t.small l) ∙ f)))))
      at false true ea eb e =
          let q = eqb-true k 3 e in
          let l : v.word < 2 ^ width_of 3 = rw (eqb-true s real_literal eb) at h.below in
          ruled e (fine (single (kept_below t {w = v.word} (sym q) (rw q l))))
      at false false ea eb e = let q = eqb-true k s e in fine (single (kept_below t {w = v.word} (sym q) (rw q h.below)))

  -- an offset or a condition: a cell of the one kind that has a rule
  pub word_ends : {k c : ℕ} → Cell regions k c → Ends Ruled (λ i. Unit {0}) (read_word k cells c)
  unfolding read_word
  word_ends {k} t = bind (read_ends t) (λ v h. ruled (eq-eqb v.kind k h.kind_is) (fine tt))
