use Rattle.std.proofs.Common.{sym, ◌∙◌}
use Rattle.labels.proofs.LabelsLaws.{unlabelled-fits}
use Rattle.labels.proofs.TargetsLaws.{targets_none}
use Rattle.labels.proofs.labels.find_targets.Goals as goal

pub returns-then-is_unlabelled : goal.returns-then-is_unlabelled
returns-then-is_unlabelled c =
    let none = sym c.is_unlabelled.ensures ∙ c.if-is_unlabelled.true in
    record { answer = c.if-is_unlabelled.true ∙ unlabelled-fits _ none; found = λ t. targets_none _ _ c.requires.1 none }
