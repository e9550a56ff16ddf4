-- Two bytes, the second worth 256 times as much. Assumes nothing.
use native.Mathlib.Omega.{arith}
use Rattle.house_file.specs.Decoding.{u16_at}
use Rattle.house_file.proofs.num.Goals as goal

pub returns : goal.returns
unfolding u16_at
returns c = omega arith
