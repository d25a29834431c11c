use Rattle.std.proofs.Common.{ℕ, sym, ap, ◌∙◌}
use Rattle.refusals.specs.Answers.{Answer}
use Rattle.field_entries.specs.Arithmetic.{reply_of}
use Rattle.replies.specs.Replies.{number_of, value_at, value_after}
use Rattle.replies.proofs.of_answer.Goals as goal

pub returns-in-Ok : goal.returns-in-Ok
unfolding number_of value_at
returns-in-Ok c =
    let e = c.in-Ok.is in
    (sym (ap (λ (a : Answer ℕ). number_of (reply_of a)) e), sym (ap (λ (a : Answer ℕ). value_after (reply_of a) c.args.res.now) e))

pub returns-in-Err : goal.returns-in-Err
unfolding number_of value_at
returns-in-Err c =
    let e = c.in-Err.is in
    (c.number.ensures ∙ sym (ap (λ (a : Answer ℕ). number_of (reply_of a)) e), sym (ap (λ (a : Answer ℕ). value_after (reply_of a) c.args.res.now) e))
