-- Each family, on operands of the declared kinds: it is not refused with 18, and its writes keep the kinds. Assumes nothing.
use Prim.Native.Nat.{ℕ, ◌^◌, ◌<◌}
use mathlib.Core.Bool.{Bool, true}
use mathlib.Core.List.{List}
use mathlib.Core.Path.{◌≡◌, refl, sym, ap, ◌∙◌}
use borrow.Author.Tests.{eqb-true}
use Rattle.words.specs.Kind.{bit, width_of, fits_kind}
use Rattle.words.specs.Fits.{fits_of}
use Rattle.tables.specs.Outcome.{Outcome}
use Rattle.tables.specs.declared.rows.Instruction.{Instruction}
use Rattle.journal.specs.Each.{none, also}
use Rattle.operands.specs.Cells.{source_of}
use Rattle.operators.specs.Operators.{arithmetic_kinds, arithmetic_result, logic_kinds, logic_result}
use Rattle.operators.specs.Convert.{converted_kind}
use Rattle.machine.specs.Families as F
use Rattle.operands.specs.declared.address.NamedRegions.{NamedRegions}
use Rattle.operands.specs.declared.address.Addresses.{Addresses}
use Rattle.machine.proofs.Ends.{Ends, Ruled, fine, bind, ruled, weaken}
use Rattle.machine.proofs.WritesLaws.{single}
use Rattle.operands.specs.Typed.{Typed}
use Rattle.soundness.proofs.Regions.{Region, Cell, indexed_ends}
use Rattle.soundness.proofs.Results.{arithmetic_ends, comparison-below, logic_ends, unary-below, convert_ends}
use Rattle.soundness.proofs.Values.{Holds, Keeps, kept, kept_below, read_ends, put_ends, word_ends}
use Rattle.soundness.proofs.Codes as C
use Rattle.soundness.proofs.Codes.{Trues}

-- From where the operands lie; d, e, s are the codes of first, second and source.
module _ {regions cells : List ℕ} (typed : Typed regions cells) (x : Instruction) (n : NamedRegions) (a : Addresses) (d e s : ℕ) where
  abbrev pub Source : Type 0
  Source = Ends Ruled (Holds s) (source_of cells x a.source)

  -- arithmetic and binary logic: the kinds have a rule, and the result is a word of the destination's kind or the refusal is not 18
  combined_sound : (kinds : ℕ → ℕ → Bool) (result : ℕ → ℕ → ℕ → Outcome ℕ) → Cell regions d a.first → Source → kinds d s ≡ true
      → ((v u : ℕ) → v < 2 ^ width_of d → Ends Ruled (λ z. fits_kind d z ≡ true) (result d v u)) → Keeps regions (F.combined_of kinds result cells x a)
  unfolding F.combined_of
  combined_sound kinds result t src rule ends =
      bind (read_ends typed t) (λ v h. bind src (λ u k. ruled (rw (h.kind_is, k.kind_is) rule)
      (bind (rw h.kind_is (ends v.word u.word h.below)) (λ z f. fine (single (kept t h.kind_is f))))))

  pub arithmetic_sound : Cell regions d a.first → Source → Trues (C.arithmetic_wants d s) → Keeps regions (F.arithmetic_of cells x a)
  unfolding F.arithmetic_of
  arithmetic_sound t src (_, (_, (kinds, (wide, _)))) =
      combined_sound arithmetic_kinds (arithmetic_result x.operator) t src kinds (λ v u h.
      weaken (λ z b. fits_of d z t.small (rw (eqb-true (width_of d) 64 wide) b)) (arithmetic_ends x.operator d v u))

  pub comparison_sound : Cell regions d a.first → Cell regions e a.second → Source → Trues (C.comparison_wants d e s) → Keeps regions (F.comparison_of cells x a)
  unfolding F.comparison_of
  comparison_sound t l src (_, (_, (_, (bit, (kinds, _))))) =
      let q = eqb-true d 0 bit in
      bind (read_ends typed l) (λ v h. bind src (λ u k. ruled (rw (h.kind_is, k.kind_is) kinds)
      (fine (single (kept_below t (sym q) (rw q (comparison-below x.operator v.kind v.word u.word)))))))

  pub logic_sound : Cell regions d a.first → Source → Trues (C.logic_wants d s) → Keeps regions (F.logic_of cells x a)
  unfolding F.logic_of
  logic_sound t src (_, (_, (kinds, _))) =
      combined_sound logic_kinds (logic_result x.operator) t src kinds (λ v u h. logic_ends d v u (fits_of d v t.small h) x.operator)

  pub unary_sound : Cell regions d a.first → Trues (C.unary_wants x.operator d) → Keeps regions (F.unary_of cells x a)
  unfolding F.unary_of
  unary_sound t (_, (kinds, (wide, _))) =
      bind (read_ends typed t) (λ v h. ruled (rw h.kind_is kinds)
      (fine (single (kept_below t h.kind_is (rw h.kind_is (unary-below x.operator d v.word wide))))))

  pub move_sound : Cell regions d a.first → Source → Trues (C.move_wants d s) → Keeps regions (F.move_of cells x a)
  unfolding F.move_of
  move_sound t src (_, (_, (kinds, _))) = bind src (λ u k. put_ends typed u t k kinds)

  pub exchange_sound : Cell regions d a.first → Cell regions e a.second → Trues (C.exchange_wants d e) → Keeps regions (F.exchange_of cells a)
  unfolding F.exchange_of
  exchange_sound t l (_, (_, (same, _))) =
      let q = eqb-true d e same in
      bind (read_ends typed t) (λ v h. bind (read_ends typed l) (λ u k.
      fine (also (kept_below t {w = u.word} (k.kind_is ∙ sym q) (rw q k.below)) (single (kept_below l {w = v.word} (h.kind_is ∙ q) (rw (← q) h.below))))))

  pub load_sound : Cell regions d a.first → Region regions e n.second → Cell regions s a.source → Trues (C.load_wants d e s) → Keeps regions (F.load_of regions cells n a)
  unfolding F.load_of
  load_sound t g o (_, (_, (_, (integer, (same, _))))) =
      let q = eqb-true d e same in
      bind (word_ends typed (rw (eqb-true s 1 integer) at o)) (λ i u. bind (indexed_ends i g refl) (λ c r.
      bind (read_ends typed r) (λ v h. fine (single (kept_below t {w = v.word} (h.kind_is ∙ sym q) (rw q h.below))))))

  pub store_sound : Region regions d n.first → Cell regions e a.second → Source → Trues (C.store_wants d e s) → Keeps regions (F.store_of regions cells x n a)
  unfolding F.store_of
  store_sound g o src (_, (_, (_, (integer, (kinds, _))))) =
      bind (word_ends typed (rw (eqb-true e 1 integer) at o)) (λ i u. bind src (λ v k.
      bind (indexed_ends i g refl) (λ c r. put_ends typed v r k kinds)))

  pub conditional_sound : Cell regions d a.first → d ≡ bit → Keeps regions (F.conditional_of cells a)
  unfolding F.conditional_of
  conditional_sound t q = bind (word_ends typed (rw q at t)) (λ w u. fine none)

  pub convert_sound : Cell regions d a.first → Cell regions s a.source → Trues (C.convert_wants d s) → Keeps regions (F.convert_of cells a)
  unfolding F.convert_of
  convert_sound t o (_, (_, (kinds, (other, (wide, _))))) =
      bind (read_ends typed o) (λ v h. ruled (rw h.kind_is kinds)
      (bind (convert_ends v.kind v.word) (λ w b.
      fine (single (kept_below t (ap converted_kind h.kind_is ∙ sym (eqb-true d (converted_kind s) other)) (rw (eqb-true (width_of d) 64 wide) b))))))
