-- Whatever the cells hold, a row that is no CALL writes to cells that are there, as many as its family has changes. Assumes nothing.
use Rattle.std.proofs.Common.{Ok, Err}
use Prim.Native.Nat.{ℕ, ◌<◌}
use mathlib.Core.Bool.{Bool, true}
use mathlib.Core.List.{List, [], ◌∷◌}
use mathlib.Core.Path.{◌≡◌, refl, subst}
use lib.ListN.{length}
use lib.Dec.{eqb, ltb}
use Rattle.words.specs.Kind.{real, integer_literal, real_literal}
use Rattle.words.specs.Literal.{literal_fits}
use Rattle.tables.specs.Cases.{case_of}
use Rattle.tables.specs.Family as family
use Rattle.tables.specs.Names.{operands_of, names_first, indexes_first, indexes_second}
use Rattle.tables.specs.Refusal.{no_rule, unfit_literal}
use Rattle.tables.specs.Outcome.{Outcome}
use Rattle.tables.specs.Rows.{region_rows}
use Rattle.tables.specs.Cells.{cell_count}
use Rattle.tables.specs.declared.rows.Instruction.{Instruction}
use Rattle.tables.proofs.Cases.{at_key, by_key, past_keys}
use Rattle.tables.proofs.Passed.{passed}
use Rattle.journal.specs.declared.cells.Write.{Write}
use Rattle.journal.specs.Each.{Each, none, also}
use Rattle.operands.specs.Address.{indexed_of, names_of, addresses_of}
use Rattle.operands.specs.Cells.{cell_kind, read_of, source_of, offset_of, condition_of}
use Rattle.operators.specs.Operators.{arithmetic_kinds, arithmetic_result, comparison_kinds, logic_kinds, logic_result, unary_kinds}
use Rattle.operators.specs.Convert.{convert_kinds, convert_result}
use Rattle.machine.specs.Families.{put_integer, put_into, no_writes, families, combined_of, arithmetic_of, comparison_of, logic_of, unary_of, move_of, exchange_of, load_of, store_of, conditional_of, convert_of, family_of}
use Rattle.machine.specs.Outcome.{plain_outcome}
use Rattle.operands.specs.declared.cell.Value.{Value}
use Rattle.operands.specs.declared.address.NamedRegions.{NamedRegions}
use Rattle.operands.specs.declared.address.Addresses.{Addresses}
use Rattle.operands.proofs.Binds.{bound}
use Rattle.operands.proofs.AddressLaws.{indexed_within}
use Rattle.operands.proofs.Reaches.{Regions, Cells, names-within, addresses_within}
use Rattle.operands.specs.Reach.{Laid}
use Rattle.machine.proofs.Ends.{Ends, Any, fine, turned, bind, tested, either, gives, any}

-- the cell of a write is one of the cells
abbrev pub Within : List ℕ → Write → Type 0
Within regions w = w.cell < cell_count regions

pub single : {A : Type 0} {P : A → Type 0} {x : A} → P x → Each P (x ∷ [])
single p = also p none

-- how many changes a row of each family makes: "exchange 2"; "Frame, NOP: no change". 02, P5: "Each is one change"
abbrev pub changes : List (ℕ × ℕ)
changes =
    (family.arithmetic, 1)
    ∷ (family.comparison, 1)
    ∷ (family.binary_logic, 1)
    ∷ (family.unary, 1)
    ∷ (family.move, 1)
    ∷ (family.exchange, 2)
    ∷ (family.load, 1)
    ∷ (family.store, 1)
    ∷ (family.convert, 1)
    ∷ []

unfoldable pub changes_of : ℕ → ℕ
changes_of family = case_of family changes 0

-- n writes, each to a cell that is there
pub record Written (regions : List ℕ) (n : ℕ) (ws : List Write) : Type 0 where
  pub within : Each (Within regions) ws
  pub count : length ws ≡ n

module _ {regions : List ℕ} (laid : Laid regions) (cells : List ℕ) where
  abbrev Reaches : ℕ → Outcome (List Write) → Type 0
  Reaches n o = Ends Any (Written regions n) o

  -- one write
  once : {w : Write} → Within regions w → Ends Any (Written regions 1) (Ok (w ∷ []))
  once h = fine (record { within = single h; count = refl })

  put-within : (c : ℕ) (v : Value) → c < cell_count regions → Reaches 1 (put_into cells c v)
  unfolding put_into put_integer case_of
  put-within c v h =
      either (eqb v.kind integer_literal)
      (λ e. tested no_rule (ltb (cell_kind cells c) real) tt (λ t. tested unfit_literal (literal_fits (cell_kind cells c) v.word) tt (λ f. once h)))
      (λ e. either (eqb v.kind real_literal) (λ e. tested no_rule (eqb (cell_kind cells c) real) tt (λ t. once h)) (λ e. once h))

  -- the cell that an offset reaches
  reached : (r i : ℕ) → r < region_rows regions → (o : Outcome ℕ) → indexed_of regions r i ≡ o → Ends Any (λ c. c < cell_count regions) o
  reached r i h (Ok c) e = fine (indexed_within laid r i h e)
  reached r i h (Err n) e = turned tt

  module _ (x : Instruction) (n : NamedRegions) (a : Addresses) where
    -- what a family's writes ask for
    record Targets (f : ℕ) : Type 0 where
      first : indexes_first f ≡ true → a.first < cell_count regions
      second : indexes_second f ≡ true → a.second < cell_count regions
      region : names_first f ≡ true → n.first < region_rows regions

    -- arithmetic and binary logic
    combined_within : (kinds : ℕ → ℕ → Bool) (result : ℕ → ℕ → ℕ → Outcome ℕ) → a.first < cell_count regions → Reaches 1 (combined_of kinds result cells x a)
    unfolding combined_of
    combined_within kinds result h =
        bind (any (read_of cells a.first)) (λ d u. bind (any (source_of cells x a.source)) (λ s u. tested no_rule (kinds d.kind s.kind) tt (λ e.
        bind (any (result d.kind d.word s.word)) (λ w u. once h))))

    picked : {f : ℕ} (m : ℕ) → x.family ≡ f → Reaches m (case_of f (families regions cells x n a) no_writes) → Reaches m (family_of regions cells x n a)
    unfolding family_of
    picked m q h = subst (λ (o : Outcome (List Write)). Reaches m o) (at_key (families regions cells x n a) no_writes q) h

    -- a row of family f
    abbrev Row : ℕ → Type 0
    Row f = x.family ≡ f → Targets f → Reaches (changes_of f) (family_of regions cells x n a)

    comparison-within : a.first < cell_count regions → Reaches 1 (comparison_of cells x a)
    unfolding comparison_of
    comparison-within h =
        bind (any (read_of cells a.second)) (λ l u. bind (any (source_of cells x a.source)) (λ s u. tested no_rule (comparison_kinds l.kind s.kind) tt (λ e. once h)))

    unary-within : a.first < cell_count regions → Reaches 1 (unary_of cells x a)
    unfolding unary_of
    unary-within h = bind (any (read_of cells a.first)) (λ d u. tested no_rule (unary_kinds x.operator d.kind) tt (λ e. once h))

    move-within : a.first < cell_count regions → Reaches 1 (move_of cells x a)
    unfolding move_of
    move-within h = bind (any (source_of cells x a.source)) (λ s u. put-within a.first s h)

    exchange-within : a.first < cell_count regions → a.second < cell_count regions → Reaches 2 (exchange_of cells a)
    unfolding exchange_of
    exchange-within h k =
        bind (any (read_of cells a.first)) (λ d u. bind (any (read_of cells a.second)) (λ e u. fine (record { within = also h (single k); count = refl })))

    load-within : a.first < cell_count regions → Reaches 1 (load_of regions cells n a)
    unfolding load_of
    load-within h =
        bind (any (offset_of cells a.source)) (λ i u. bind (any (indexed_of regions n.second i)) (λ c u. bind (any (read_of cells c)) (λ v u. once h)))

    store-within : n.first < region_rows regions → Reaches 1 (store_of regions cells x n a)
    unfolding store_of
    store-within h =
        bind (any (offset_of cells a.second)) (λ i u. bind (any (source_of cells x a.source)) (λ s u.
        bind (reached n.first i h (indexed_of regions n.first i) refl) (λ c k. put-within c s k)))

    conditional_within : Reaches 0 (conditional_of cells a)
    unfolding conditional_of
    conditional_within = bind (any (condition_of cells a.first)) (λ w u. fine (record { within = none; count = refl }))

    convert-within : a.first < cell_count regions → Reaches 1 (convert_of cells a)
    unfolding convert_of
    convert-within h =
        bind (any (read_of cells a.source)) (λ s u. tested no_rule (convert_kinds s.kind) tt (λ e. bind (any (convert_result s.kind s.word)) (λ w u. once h)))

    family-within : (f : ℕ) → Row f
    unfolding changes_of case_of indexes_first indexes_second names_first operands_of arithmetic_of logic_of
    family-within f =
        by_key Row
        (
        (family.arithmetic, λ q t. picked 1 q (combined_within arithmetic_kinds (arithmetic_result x.operator) (t.first refl)))
        ∷ (family.comparison, λ q t. picked 1 q (comparison-within (t.first refl)))
        ∷ (family.binary_logic, λ q t. picked 1 q (combined_within logic_kinds (logic_result x.operator) (t.first refl)))
        ∷ (family.unary, λ q t. picked 1 q (unary-within (t.first refl)))
        ∷ (family.move, λ q t. picked 1 q (move-within (t.first refl)))
        ∷ (family.exchange, λ q t. picked 2 q (exchange-within (t.first refl) (t.second refl)))
        ∷ (family.load, λ q t. picked 1 q (load-within (t.first refl)))
        ∷ (family.store, λ q t. picked 1 q (store-within (t.region refl)))
        ∷ (family.jump_when, λ q t. picked 0 q conditional_within)
        ∷ (family.jump_unless, λ q t. picked 0 q conditional_within)
        ∷ (family.convert, λ q t. picked 1 q (convert-within (t.first refl)))
        ∷ []
        )
        f
        (λ past q t.
        picked (case_of f changes 0) q
        (rw (past_keys past (families regions cells x n a) no_writes refl, past_keys past changes 0 refl) (fine (record { within = none; count = refl }))))

    -- they were found
    targets : Regions regions x n → Cells regions x a → Targets x.family
    targets g k = record { first = k.first; second = k.second; region = g.first }

  module _ (x : Instruction) (reply : List ℕ) {ws : List Write} (e : plain_outcome regions cells x reply ≡ Ok ws) where
    written : Written regions (changes_of x.family) ws
    unfolding plain_outcome
    written =
        let (l, e₁) = passed (eqb (length reply) 0) _ _ _ e in
        let b = bound (names_of regions x) _ ws e₁ in
        let c = bound (addresses_of regions x b.value) _ ws b.rest in
        let g = names-within regions x b.given in
        gives ws (family-within x b.value c.value x.family refl (targets x b.value c.value g (addresses_within laid x g c.given))) c.rest

    -- so the writer's index safety needs no typing
    pub writes-within : Each (Within regions) ws
    writes-within = written.within

    pub writes-count : length ws ≡ changes_of x.family
    writes-count = written.count
