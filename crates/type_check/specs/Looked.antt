-- 02, P3: "let the frame check end at the first failure, with the error reported today, and count the nodes it looked at". To be read without the proofs; Looked.antt in proofs/ has the theorem.
use Rattle.std.specs.Prelude.{ℕ, zero, suc, ◌+◌, cond, List, ◌≡◌, Ok, Err}
use Rattle.tables.specs.declared.rows.Instruction.{Instruction}
use Rattle.type_rules.specs.Judgement.{verdict_at}
use Rattle.type_check.specs.Frame.{TreeVerdict, is_failure, verdict_there, tree_verdict, frame_rule}
use Rattle.type_check.specs.declared.frame.TreeCheck.{TreeCheck}
use Rattle.type_check.specs.declared.frame.FrameCheck.{FrameCheck}

-- one for each node judged, of the n from a place on of the tree whose first row is `root`: a node that fails is the last
unfoldable pub looked_from : List ℕ → List ℕ → ℕ → ℕ → ℕ → ℕ
looked_from regions nodes root place zero = 0
looked_from regions nodes root place (suc n) =
    1 + cond (is_failure (verdict_there regions nodes root place)) 0 (looked_from regions nodes root (place + 1) n)

-- in a tree of `count` nodes
abbrev pub looked_in : List ℕ → List ℕ → ℕ → ℕ → ℕ
looked_in regions nodes root count = looked_from regions nodes root 0 count

-- 02: "the failing node's place in its tree plus 1, or the whole tree's where none fails"
abbrev pub place_plus_one_or : TreeVerdict → ℕ → ℕ
place_plus_one_or (Err (place, e)) count = place + 1
place_plus_one_or (Ok _) count = count

-- 02: "Proved: the count is the failing node's place in its tree plus 1, or the whole tree's where none fails."
abbrev pub LookedIs : Type 0
LookedIs =
    (regions nodes : List ℕ) (root count : ℕ)
    → looked_in regions nodes root count ≡ place_plus_one_or (tree_verdict regions nodes root count) count

-- a tree's verdict and its count
abbrev pub tree_check : List ℕ → List ℕ → ℕ → ℕ → TreeCheck
tree_check regions nodes root count =
    record { verdict = tree_verdict regions nodes root count; looked = looked_in regions nodes root count }

-- a frame's; 01: "words 3 and 4 (counting from 1) are first node and node count"
unfoldable pub frame_check : List ℕ → List ℕ → ℕ → Instruction → FrameCheck
frame_check regions nodes row x =
    record {
      verdict = verdict_at row (frame_rule regions nodes x);
      looked = looked_in regions nodes x.first_name x.first_index;
    }
