-- The starred examples hold. Assumes nothing.
use mathlib.Core.Path.{refl}
use Rattle.shift.specs.Compose.{degenerates, chains, compose_valid}
use Rattle.operand.specs.Push.{push_valid}
use Rattle.operand.specs.Examples.{examples, All}

pub examples_hold : All examples
unfolding compose_valid degenerates chains push_valid
examples_hold = (refl, (refl, (refl, (refl, (refl, (refl, (refl, (refl, (refl, (refl, (refl, tt)))))))))))
