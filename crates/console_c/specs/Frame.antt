-- console_frame: "looked on 0 and on 5, error on 5".
use Rattle.console.specs.declared.frame.FrameError.{FrameError}
use Rattle.std.specs.Prelude.{ℕ, List, Result}
use Rattle.std.proofs.lemmas.List.Edits.{sets}
use Rattle.tables.specs.Tables.{Tables}
use Rattle.console.specs.Frame.{frame_tables, frame_number, frame_looked, frame_error}

-- the number returned, and the two out-arrays at exit
pub record FrameWords : Type 0 where
  pub number : ℕ
  pub looked : List ℕ
  pub error : List ℕ

abbrev pub frame_words : ℕ → List ℕ → List ℕ → FrameWords
frame_words number looked error = record { number = number; looked = looked; error = error }

abbrev pub frame_for : Result ℕ FrameError → List ℕ → List ℕ → FrameWords
frame_for answer looked error =
    frame_words (frame_number answer) (sets looked 0 (frame_looked answer)) (sets error 0 (frame_error answer))

unfoldable pub console_frame : Tables → ℕ → List ℕ → List ℕ → FrameWords
console_frame t row looked error = frame_for (frame_tables t row) looked error
