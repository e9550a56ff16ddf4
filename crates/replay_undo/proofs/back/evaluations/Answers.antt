-- Four evaluations, and the places behind the values. Assumes nothing.
use Rattle.replay_undo.proofs.back.evaluations.Goals as goal

pub returns : goal.returns
returns c =
    record {
      once = _;
      twice = _;
      thrice = _;
      words_short = rw c.saturating_sub.ensures at c.evaluation.ensures;
      room_short = rw (c.saturating_sub-2.ensures, c.count_of-count.ensures.0) at c.evaluation-2.ensures;
      enough = rw c.count_of-count.ensures.0 at c.evaluation-3.ensures;
      rest = rw (c.same_numbers.ensures.0, c.saturating_sub-rest.ensures, c.count_of-count.ensures.0) at c.count_answer.ensures;
    }
