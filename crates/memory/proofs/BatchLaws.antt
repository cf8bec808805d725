-- Laws of the walk by lists: a loop that fills a list, from its start to its end. Assumes nothing.
use Rattle.std.proofs.Common.{ℕ, suc, ◌+◌, ◌-◌, ◌*◌, ◌<◌, ◌≤◌, List, ◌≡◌, ◌∙◌, arith, length, Some, None}
use lib.Seq.{sets}
use Rattle.tables.proofs.FirstLaws.{left_suc}
use Rattle.memory.specs.References.{next_of}
use Rattle.memory.specs.Batch.{Batch, step_then, batch_of, reference_width, reference_words, rows_words, Handing, handing}
use Rattle.memory.specs.declared.MemoryReference.{MemoryReference}
use Rattle.memory.specs.declared.Stepped.{Stepped}

-- a batch whose rows come after `count` rows of the list
abbrev after : ℕ → Batch → List ℕ → Handing
after count batch rows =
    handing (record { count = count + length batch.references; place = batch.place }) (sets rows (count * reference_width) (rows_words batch.references))

-- what is left of a list of that room, of which `count` rows were filled
abbrev pub left_from : List ℕ → ℕ → ℕ → ℕ → List ℕ → Handing
left_from nodes room place count rows = after count (batch_of nodes place (room - count)) rows

module _ (nodes : List ℕ) (room place count : ℕ) (rows : List ℕ) where
  -- a full list
  pub left_full : room ≤ count → left_from nodes room place count rows ≡ handing (record { count = count; place = place }) rows
  unfolding batch_of rows_words
  left_full h =
      let d : room - count ≡ 0 = omega arith in
      let e : count + 0 ≡ count = omega arith in
      rw (d, e)

  module _ (s : Stepped) (e : s ≡ next_of nodes place) (h : count < room) where
    step : left_from nodes room place count rows ≡ after count (step_then s.found s.place (λ p. batch_of nodes p (room - (count + 1)))) rows
    unfolding batch_of
    step = rw (left_suc room count h, e)

    -- the end
    pub left_end : s.found ≡ None → left_from nodes room place count rows ≡ handing (record { count = count; place = s.place }) rows
    unfolding rows_words
    left_end f = step ∙ (let z : count + 0 ≡ count = omega arith in rw (f, z))

    -- a reference goes into the list's next row
    pub left-turn : (r : MemoryReference) → s.found ≡ Some r
        → left_from nodes room place count rows ≡ left_from nodes room s.place (count + 1) (sets rows (count * reference_width) (reference_words r))
    unfolding rows_words
    left-turn r f =
        let rest = batch_of nodes s.place (room - (count + 1)) in
        let a : count + suc (length rest.references) ≡ count + 1 + length rest.references = omega arith in
        let b : (count + 1) * reference_width ≡ suc (suc (count * reference_width)) = omega arith in
        step ∙ rw (f, a, b)
