-- The three parts are as long. Assumes nothing.
use Rattle.replay_undo.proofs.back.undo.Goals as goal

pub returns : goal.returns
returns c =
    record {
      noisy = _;
      other = _;
      overwrites = rw (c.copy_from_slice.ensures.after, c.rows-d.ensures.0, c.min-n.ensures) at c.overwrite.ensures;
      lays = rw (c.rows-d.ensures.0, c.min-n.ensures) at c.lay_flags.ensures;
      undone = rw c.min-n.ensures at c.undone.ensures;
    }
