-- The word of the term's wire, under its two shifts. Assumes nothing.
use mathlib.Core.Path.{ap, ◌∙◌}
use Rattle.shift.specs.Shifts.{valid_number, shift_at}
use Rattle.lower.specs.Values.{word_of}
use Rattle.evaluate.proofs.Summing.{term_is}
use Rattle.evaluate.proofs.value.term_value.Goals as goal

pub from_index-inner-requires : goal.from_index-inner-requires
from_index-inner-requires c = ap valid_number c.inner.ensures ∙ c.requires.0

pub from_index-outer-requires : goal.from_index-outer-requires
from_index-outer-requires c = ap valid_number c.outer.ensures ∙ c.requires.1

pub apply-moved-requires : goal.apply-moved-requires
apply-moved-requires c = c.from_index-inner.ensures.1

pub apply-requires : goal.apply-requires
apply-requires c = c.from_index-outer.ensures.1

pub returns : goal.returns
returns c = c.apply.ensures ∙ term_is (word_of c.args.words.now) c.args.t c.from_index-inner.result c.from_index-outer.result c.word_of-word.result c.apply-moved.result
    c.requires (c.from_index-inner.ensures.0 ∙ ap shift_at c.inner.ensures) (c.from_index-outer.ensures.0 ∙ ap shift_at c.outer.ensures)
    (c.word_of-word.ensures ∙ ap (word_of c.args.words.now) c.wire-wire.ensures) c.apply-moved.ensures
