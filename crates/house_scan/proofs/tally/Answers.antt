-- Each count grows by one where the tag is its own. Assumes nothing.
use native.Mathlib.Omega.{arith}
use Rattle.house_file.specs.Reading.{counted}
use Rattle.house_scan.proofs.tally.Goals as goal

pub returns : goal.returns
unfolding counted
returns c = (cc, omega arith)
