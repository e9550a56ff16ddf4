-- Read or not. Assumes nothing.
use Rattle.std.proofs.Common.{[], Ok, Err}
use Rattle.lower.specs.Stores.{stores}
use Rattle.replay_undo.specs.Attempts.{unread, read}
use Rattle.replay_undo.proofs.attempt.attempt.Goals as goal

pub returns-in_default : goal.returns-in_default
returns-in_default c =
    record {
      before = stores c.read-answer.new.terms [] c.read-answer.new.ands c.read-answer.new.imuls c.read-answer.new.bmuls c.read-answer.new.zeros c.read-answer.new.dsts c.read-answer.new.rhss;
      answer = Err c.in_default.field-0;
      reads = c.in_default.ensures;
      goes = rw c.count_answer.ensures unread;
    }

pub returns : goal.returns
returns c =
    record {
      before = stores c.read-answer.new.terms [] c.read-answer.new.ands c.read-answer.new.imuls c.read-answer.new.bmuls c.read-answer.new.zeros c.read-answer.new.dsts c.read-answer.new.rhss;
      answer = Ok c.in-Ok.read;
      reads = c.in-Ok.ensures;
      goes = read c.with_words.ensures;
    }
