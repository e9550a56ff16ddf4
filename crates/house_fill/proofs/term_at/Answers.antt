-- The three numbers of a term, put together as stores have them. Assumes nothing.
use Rattle.house_file.specs.Decoding.{term_at}
use Rattle.house_fill.proofs.term_at.Goals as goal

pub returns : goal.returns
unfolding term_at
returns c = cc
