-- Held against what is asked; a file that is read goes round again. Assumes nothing.
use Rattle.std.proofs.Common.{◌∙◌}
use Rattle.replay_house.proofs.Passes.{file_refused, file_again}
use Rattle.replay_house.proofs.file_of.Goals as goal

pub returns-then-seen-ne0 : goal.returns-then-seen-ne0
returns-then-seen-ne0 c =
    rw (c.count-told.ensures, c.answer.ensures, c.meets.ensures) (file_refused c.args.file.now c.args.asked c.args.one.now c.args.two.now c.args.t c.pass-seen.ensures c.if-seen-ne0.true)

pub returns : goal.returns
returns c =
    c.again.ensures ∙ rw (c.count-told.ensures, c.answer.ensures, c.meets.ensures) (file_again c.args.file.now c.args.asked c.args.one.now c.args.two.now c.args.t c.pass-seen.ensures c.if-seen-ne0.false)
