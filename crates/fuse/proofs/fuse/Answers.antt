-- What the answer speaks of is there. Assumes nothing.
use Rattle.fuse.proofs.Words.{covers}
use Rattle.fuse.proofs.fuse.Goals as goal

pub print_answer-requires : goal.print_answer-requires
print_answer-requires c = covers _ c.fuse_file-answer.ensures
