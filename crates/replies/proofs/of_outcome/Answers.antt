use Rattle.std.proofs.Common.{sym, ap, ◌∙◌}
use Rattle.refusals.specs.Answers.{Answer}
use Rattle.state_entries.specs.Permutation.{outcome_reply}
use Rattle.replies.specs.Replies.{number_of}
use Rattle.replies.proofs.of_outcome.Goals as goal

pub returns-in-Ok : goal.returns-in-Ok
unfolding number_of
returns-in-Ok c = sym (ap (λ (o : Answer Unit). number_of (outcome_reply o)) c.in-Ok.is)

pub returns-in-Err : goal.returns-in-Err
unfolding number_of
returns-in-Err c = c.number.ensures ∙ sym (ap (λ (o : Answer Unit). number_of (outcome_reply o)) c.in-Err.is)
