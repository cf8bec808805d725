-- The writes of a CALL keep the declared kinds and lie in regions of its write set. Assumes nothing.
use Rattle.std.proofs.Common.{ℕ, zero, suc, ◌+◌, ◌<◌, ◌≤◌, Bool, true, false, not, List, ◌≡◌, refl, arith, eqb, ltb, ltb-true, eqb-true, Some, Result, Ok, Err}
use Rattle.call_argument.specs.declared.error.CallArgumentError.{CallArgumentError}
use borrow.Author.Tests.{eqb-false, not-true}
use Rattle.words.specs.Kind.{fits_kind}
use Rattle.tables.specs.Tables.{Tables}
use Rattle.tables.specs.Rows.{region_kind, region_length}
use Rattle.tables.specs.Lookup.{lookup_region}
use Rattle.tables.specs.declared.rows.Instruction.{Instruction}
use Rattle.tables.proofs.FirstLaws.{every-row}
use Rattle.tables.proofs.LookupLaws.{region-row, region-named}
use Rattle.tables.proofs.Passed.{both}
use Rattle.extern_call.specs.Call.{resolution_at}
use Rattle.extern_call.specs.declared.call.ExternCall.{ExternCall}
use Rattle.call_argument.specs.declared.resolved.ResolvedCallArgument.{ResolvedCallArgument}
use Rattle.call_argument.specs.declared.resolved.ResolvedCallArgument.TheVariants.{Vector, MemoryReference, Immediate}
use Rattle.extern_call.proofs.ResolvedLaws.{resolved_name, resolved_mutable, resolved_facts}
use Rattle.extern_call.proofs.ResolvesLaws.{Resolvable}
use Rattle.access_sets.specs.Set.{has}
use Rattle.access_sets.proofs.PairedLaws.{below-paired}
use Rattle.access_sets.proofs.WrittenLaws.{mutable_written}
use Rattle.journal.specs.declared.cells.Write.{Write}
use Rattle.journal.specs.Each.{Each, none, also}
use Rattle.operands.specs.Address.{address_of}
use Rattle.operands.specs.Cells.{write}
use Rattle.call_reply.specs.Call as M
use Rattle.call_reply.specs.declared.reply.Reply.{Reply}
use Rattle.operands.proofs.Binds.{bound}
use Rattle.operands.proofs.AddressLaws.{index_below}
use Rattle.call_reply.proofs.ReplyLaws.{Judged, judged_ok, scalar_below, replied_argument}
use Rattle.soundness.specs.WriteSet.{write_set}
use Rattle.soundness.specs.Sound.{GoodWrite}
use Rattle.soundness.proofs.Regions.{RegionsFit, Region, cell_of}
use Rattle.soundness.proofs.Values.{Kept, kept}

-- ---- the cell that a row of the reply hits

-- a row that fits an argument
record RowFits (mutable length kind : ℕ) (y : Reply) : Type 0 where
  mutable_is : mutable ≡ 0 → ⊥
  inside : y.offset < length
  kind_is : y.kind ≡ kind
  word_fits : fits_kind y.kind y.word ≡ true

row_fits : (mutable length kind : ℕ) (y : Reply) → M.fits_row mutable length kind y ≡ true → RowFits mutable length kind y
unfolding M.fits_row
row_fits mutable length kind y e =
    let (m, e₁) = both (not (eqb mutable 0)) _ e in
    let (o, e₂) = both (ltb y.offset length) _ e₁ in
    let (k, w) = both (eqb y.kind kind) (fits_kind y.kind y.word) e₂ in
    record {
      mutable_is = eqb-false mutable 0 (not-true (eqb mutable 0) m);
      inside = ltb-true y.offset length o;
      kind_is = eqb-true y.kind kind k;
      word_fits = w;
    }

-- the cell at an index of a declared region, of that kind
record Aimed (regions : List ℕ) (name kind i : ℕ) : Type 0 where
  region : ℕ
  named : lookup_region regions name ≡ Some region
  of_kind : region_kind regions region ≡ kind
  index : i < region_length regions region

module _ (t : Tables) (x : Instruction) (fit : RegionsFit t.regions) where
  -- a write there, of a name in the write set
  aimed_good : {name kind i : ℕ} (y : Reply) → Aimed t.regions name kind i → y.kind ≡ kind → fits_kind y.kind y.word ≡ true
      → has name (write_set t x) ≡ true → GoodWrite t x (write (M.cell_found t.regions i (lookup_region t.regions name)) y.kind y.word)
  unfolding address_of
  aimed_good {name} {kind} {i} y a k f h =
      let r = a.region in
      let l = region-row t.regions name r a.named in
      let b : region_kind t.regions r ≤ 3 = fit.kind r l in
      let g : Region t.regions kind r = record { laid = fit.laid; there = l; is = a.of_kind; small = omega (arith, a.of_kind) } in
      let w : Kept t.regions (write (address_of t.regions r i) y.kind y.word) = kept (cell_of g i a.index) k (rw k at f) in
      rw a.named (record {
        there = w.there;
        fits = w.fits;
        allowed = λ u. record {
          region = r;
          cell = record { there = l; from = omega arith; below = omega (arith, a.index) };
          named = rw (region-named t.regions name r a.named) h;
        };
      })

  module _ {call : ExternCall} (v : Resolvable t.regions t.externs t.parameters t.arguments x call) where
    abbrev resolution : ℕ → Result ResolvedCallArgument CallArgumentError
    resolution i = resolution_at t.regions t.parameters t.arguments call i

    -- the name of a mutable argument
    written : (i : ℕ) (r : ResolvedCallArgument) → i < call.argument_count → resolution i ≡ Ok r → (resolved_mutable r ≡ 0 → ⊥)
        → has (resolved_name r) (write_set t x) ≡ true
    unfolding write_set
    written i r h e m = rw v.found (mutable_written t.regions t.parameters t.arguments call i r (below-paired call i h (rw v.count at h)) e m)

    -- a row of the reply that fits argument i
    hit_good : (i : ℕ) (y : Reply) (r : Result ResolvedCallArgument CallArgumentError) → i < call.argument_count → resolution i ≡ r
        → M.of_resolved (M.scalar_fits t.regions) true r ≡ true → M.of_resolved (M.hits y) false r ≡ true
        → GoodWrite t x (write (M.of_resolved (M.cell_hit t.regions y.offset) 0 r) y.kind y.word)
    hit_good i y (Ok (Vector name a mutable)) h e s f =
        let d = (resolved_facts t.regions t.parameters t.arguments call i (Vector name a mutable) e).declares in
        let b = row_fits mutable a.length a.kind y f in
        aimed_good y (record { region = d.region; named = d.named; of_kind = d.of_kind; index = rw d.of_length b.inside }) b.kind_is b.word_fits
        (written i (Vector name a mutable) h e b.mutable_is)
    hit_good i y (Ok (MemoryReference name index kind mutable)) h e s f =
        let d = (resolved_facts t.regions t.parameters t.arguments call i (MemoryReference name index kind mutable) e).declares in
        let b = row_fits mutable 1 kind y f in
        aimed_good y (record { region = d.region; named = d.named; of_kind = d.of_kind; index = index_below t.regions d.region index (rw d.named at s) })
        b.kind_is b.word_fits (written i (MemoryReference name index kind mutable) h e b.mutable_is)
    hit_good i y (Ok (Immediate real imaginary kind)) h e s f = let z : ◌≡◌ {A = ℕ} 0 1 = cc in absurd (omega arith)
    hit_good i y (Err error) h e s f = let z : ◌≡◌ {A = ℕ} 0 1 = cc in absurd (omega arith)

    -- ---- the writes of a CALL whose reply was judged

    module _ (reply : List ℕ) where
      abbrev write_at : ℕ → Write
      write_at k = M.reply_write t.regions t.parameters t.arguments call reply k

      abbrev fits_at : ℕ → Bool
      fits_at k = M.reply_row_fits t.regions t.parameters t.arguments call reply k

      row-good : M.scalars_fit t.regions t.parameters t.arguments call ≡ true → (k : ℕ) → fits_at k ≡ true → GoodWrite t x (write_at k)
      unfolding M.reply_write M.reply_row_fits
      row-good s k f =
          let y = M.reply_at reply k in
          let h = replied_argument t.regions t.parameters t.arguments call reply k f in
          hit_good y.argument y (resolution y.argument) h refl
          (scalar_below t.regions t.parameters t.arguments call y.argument s h (resolution y.argument) refl)
          (both (ltb y.argument call.argument_count) _ f).1

      rows-good : (k n : ℕ) → ((i : ℕ) → i < k + n → GoodWrite t x (write_at i))
          → Each (GoodWrite t x) (M.reply_writes_from t.regions t.parameters t.arguments call reply k n)
      unfolding M.reply_writes_from
      rows-good k zero h = none
      rows-good k (suc n) h = also (h k (omega arith)) (rows-good (k + 1) n (λ i l. h i (omega arith)))

      judged_good : Judged t.regions t.externs t.parameters t.arguments x reply call
          → Each (GoodWrite t x) (M.reply_writes t.regions t.parameters t.arguments call reply)
      unfolding M.reply_writes M.reply_fits
      judged_good j =
          let f = (both (M.reply_length_fits reply) _ j.fits).1 in
          rows-good 0 (M.reply_rows reply) (λ i l. row-good j.scalars i (every-row fits_at (M.reply_rows reply) f i (omega arith)))

  pub call-good : (reply : List ℕ) (ws : List Write) → M.call_outcome t.regions t.externs t.parameters t.arguments x reply ≡ Ok ws
      → Each (GoodWrite t x) ws
  unfolding M.call_outcome
  call-good reply ws e =
      let b = bound (M.call_judged t.regions t.externs t.parameters t.arguments x reply) _ ws e in
      let q : M.reply_writes t.regions t.parameters t.arguments b.value reply ≡ ws = cc b.rest in
      let j = judged_ok t.regions t.externs t.parameters t.arguments x b.value reply b.given in
      rw (← q) (judged_good j.resolving reply j)
