-- A refusal's number says which it is. Assumes nothing.
use Rattle.std.proofs.Common.{ℕ, List, [], ◌∷◌, ◌≡◌, refl, sym, ap, ◌∙◌}
use Rattle.tables.specs.Cases.{case_of}
use Rattle.tables.specs.Refusal.{refusal_number}
use Rattle.tables.specs.declared.refusal.Refusal.{Refusal}
use Rattle.tables.specs.declared.refusal.Refusal.TheVariants as R

abbrev numbered : List (ℕ × Refusal)
numbered =
    (1, R.TableShape)
    ∷ (2, R.WordNotAllowed)
    ∷ (3, R.NameTwice)
    ∷ (4, R.BufferSize)
    ∷ (5, R.TypeError)
    ∷ (6, R.ExternNotFound)
    ∷ (7, R.ArgumentCount)
    ∷ (8, R.ArgumentErrors)
    ∷ (9, R.OtherInstruction)
    ∷ (10, R.TooManyCells)
    ∷ (11, R.AtEnd)
    ∷ (12, R.NothingToTakeBack)
    ∷ (13, R.JournalFull)
    ∷ (14, R.IndexPastLength)
    ∷ (15, R.ZeroDivisor)
    ∷ (16, R.NegativeShiftCount)
    ∷ (17, R.UnfitReply)
    ∷ (18, R.NoRule)
    ∷ (19, R.ForeignPosition)
    ∷ (20, R.UnfitLabels)
    ∷ (21, R.ConditionNotBit)
    ∷ (22, R.UnfitConversion)
    ∷ (23, R.OutsideInteger)
    ∷ (24, R.UnfitLiteral)
    ∷ []

abbrev of_number : ℕ → Refusal
of_number n = case_of n numbered R.TableShape

of_number-refusal_number : (r : Refusal) → of_number (refusal_number r) ≡ r
unfolding case_of
of_number-refusal_number R.TableShape = refl
of_number-refusal_number R.WordNotAllowed = refl
of_number-refusal_number R.NameTwice = refl
of_number-refusal_number R.BufferSize = refl
of_number-refusal_number R.TypeError = refl
of_number-refusal_number R.ExternNotFound = refl
of_number-refusal_number R.ArgumentCount = refl
of_number-refusal_number R.ArgumentErrors = refl
of_number-refusal_number R.OtherInstruction = refl
of_number-refusal_number R.TooManyCells = refl
of_number-refusal_number R.AtEnd = refl
of_number-refusal_number R.NothingToTakeBack = refl
of_number-refusal_number R.JournalFull = refl
of_number-refusal_number R.IndexPastLength = refl
of_number-refusal_number R.ZeroDivisor = refl
of_number-refusal_number R.NegativeShiftCount = refl
of_number-refusal_number R.UnfitReply = refl
of_number-refusal_number R.NoRule = refl
of_number-refusal_number R.ForeignPosition = refl
of_number-refusal_number R.UnfitLabels = refl
of_number-refusal_number R.ConditionNotBit = refl
of_number-refusal_number R.UnfitConversion = refl
of_number-refusal_number R.OutsideInteger = refl
of_number-refusal_number R.UnfitLiteral = refl

pub same_refusal : {r s : Refusal} → refusal_number r ≡ refusal_number s → r ≡ s
same_refusal {r} {s} e = sym (of_number-refusal_number r) ∙ ap of_number e ∙ of_number-refusal_number s
