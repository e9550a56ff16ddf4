-- Too long, or what the file comes to. Assumes nothing.
use Rattle.report.specs.File.{long, looked}
use Rattle.report.proofs.fuse_file.Goals as goal

pub returns-then-input-gt-MAX_FILE : goal.returns-then-input-gt-MAX_FILE
returns-then-input-gt-MAX_FILE c = long c.if-input-gt-MAX_FILE.true

pub returns : goal.returns
returns c = looked c.if-input-gt-MAX_FILE.false c.fuse_bytes.ensures
