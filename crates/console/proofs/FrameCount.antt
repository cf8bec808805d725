-- What the call tells of the nodes looked at, as specs/Frame.antt claims it. Assumes nothing.
use Rattle.std.proofs.Common.{ℕ, ◌≡◌, arith, Ok, Err, Result}
use Rattle.console.specs.declared.frame.FrameError.{FrameError}
use Rattle.console.specs.declared.frame.FrameError.TheVariants as F
use Rattle.tables.specs.Outcome.{Outcome}
use Rattle.tables.specs.Family as family
use Rattle.tables.specs.Rows.{instruction_at}
use Rattle.tables.specs.declared.rows.Instruction.{Instruction}
use Rattle.loader.specs.Load.{load_row_look}
use Rattle.type_rules.specs.Judgement.{verdict_at}
use Rattle.type_check.specs.Frame.{TreeVerdict, tree_verdict, tree_rule, frame_rule}
use Rattle.type_check.specs.Looked.{place_plus_one_or, frame_check}
use Rattle.type_check.specs.declared.frame.NodeError.TheVariants.{Undefined, NotReal}
use Rattle.type_check.proofs.Looked.{looked_is}
use Rattle.console.specs.Answer.{after}
use Rattle.console.specs.Frame.{with_count, frame_answer, CountOf, frame_tables, FrameCount}

module _ (x : Instruction) where
  -- a refusal tells no count
  refused_or : {A : Type 0} (o : Outcome A) (rest : Result ℕ FrameError) → CountOf x rest → CountOf x (after o (λ r. Err (F.Refused r)) rest)
  refused_or (Ok a) rest h = h
  refused_or (Err number) rest h = tt

  -- by the tree's verdict
  counted : (v : TreeVerdict) (row looked : ℕ) → looked ≡ place_plus_one_or v x.first_index → CountOf x (with_count (verdict_at row (tree_rule v)) looked)
  counted (Ok _) row looked e = e
  counted (Err (place, Undefined)) row looked e = omega arith
  counted (Err (place, (NotReal found))) row looked e = omega arith

pub frame-count : FrameCount
unfolding frame_tables frame_check frame_rule
frame-count t row =
    let x = instruction_at t.instructions row in
    let tree = tree_verdict t.regions t.nodes x.first_name x.first_index in
    refused_or x (load_row_look t row family.frame) (frame_answer (frame_check t.regions t.nodes row x))
    (counted x tree row _ (looked_is t.regions t.nodes x.first_name x.first_index))
