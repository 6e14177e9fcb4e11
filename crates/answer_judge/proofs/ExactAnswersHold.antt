-- The answers that are not refused are those that an accepted Write-Replace or Cancel can have, and no others.
use Rattle.answer_judge.specs.Answerable.{ExactAnswers}
use Rattle.answer_judge.proofs.NoneRefused.{none-refused}
use Rattle.answer_judge.proofs.AllGiven.{all_given}

pub exact-answers : ExactAnswers
exact-answers = record { none-refused = none-refused; all_given = all_given }
