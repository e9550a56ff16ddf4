-- The call that the vector asks for, and the further ones. Assumes nothing.
use Rattle.replay_fuse.proofs.replay_vector.Goals as goal

pub returns : goal.returns
returns c =
    record {
      seen = _;
      attempted = rw (c.part.ensures, c.told_at.ensures, c.part-2.ensures) at c.attempt-seen.ensures;
      further = rw (c.part.ensures, c.told_at.ensures, c.part-2.ensures, c.with_vector.ensures) at c.check_further.ensures;
    }
