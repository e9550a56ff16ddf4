-- Fusing answers with a system, or not. Assumes nothing.
use Rattle.std.proofs.Common.{[], Ok, Err}
use Rattle.lower.specs.Stores.{stores}
use Rattle.replay_undo.specs.Patched.{refusal, done}
use Rattle.replay_undo.proofs.patched.patched.Goals as goal

pub returns-in_default : goal.returns-in_default
returns-in_default c =
    record {
      before = stores c.read.new.terms [] c.read.new.ands c.read.new.imuls c.read.new.bmuls c.read.new.zeros c.read.new.dsts c.read.new.rhss;
      after = stores c.read.new.terms [] c.fuse-answer.new.ands c.fuse-answer.new.imuls c.fuse-answer.new.bmuls c.fuse-answer.new.zeros c.fuse-answer.new.dsts c.fuse-answer.new.rhss;
      new = c.fuse-answer.new.new;
      read = c.read.result;
      answer = Err c.in_default.field-0;
      reads = c.read.ensures;
      fuses = c.in_default.ensures;
      judged = rw c.count_answer.ensures refusal;
    }

pub returns : goal.returns
returns c =
    record {
      before = stores c.read.new.terms [] c.read.new.ands c.read.new.imuls c.read.new.bmuls c.read.new.zeros c.read.new.dsts c.read.new.rhss;
      after = stores c.read.new.terms [] c.fuse-answer.new.ands c.fuse-answer.new.imuls c.fuse-answer.new.bmuls c.fuse-answer.new.zeros c.fuse-answer.new.dsts c.fuse-answer.new.rhss;
      new = c.fuse-answer.new.new;
      read = c.read.result;
      answer = Ok c.in-Ok.counts;
      reads = c.read.ensures;
      fuses = c.in-Ok.ensures;
      judged = done (rw c.sizes_after.ensures at c.compare_values.ensures);
    }
