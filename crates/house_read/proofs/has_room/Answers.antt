-- Each return is the first store that is too short, and the last one says that none is. Assumes nothing.
use Rattle.house_read.specs.Answer.{room_of}
use borrow.Author.Tests.{lt-leb, le-leb}
use Rattle.house_read.proofs.has_room.Goals as goal

pub returns-then-terms-n : goal.returns-then-terms-n
unfolding room_of
returns-then-terms-n c = simp (lt-leb _ _ c.if-terms-n.true)

pub returns-then-ands-a : goal.returns-then-ands-a
unfolding room_of
returns-then-ands-a c = simp (le-leb _ _ c.if-terms-n.false, lt-leb _ _ c.if-ands-a.true)

pub returns-then-imuls-i : goal.returns-then-imuls-i
unfolding room_of
returns-then-imuls-i c = simp (le-leb _ _ c.if-terms-n.false, le-leb _ _ c.if-ands-a.false, lt-leb _ _ c.if-imuls-i.true)

pub returns-then-bmuls-b : goal.returns-then-bmuls-b
unfolding room_of
returns-then-bmuls-b c = simp (le-leb _ _ c.if-terms-n.false, le-leb _ _ c.if-ands-a.false, le-leb _ _ c.if-imuls-i.false, lt-leb _ _ c.if-bmuls-b.true)

pub returns-then-zeros-o : goal.returns-then-zeros-o
unfolding room_of
returns-then-zeros-o c = simp (le-leb _ _ c.if-terms-n.false, le-leb _ _ c.if-ands-a.false, le-leb _ _ c.if-imuls-i.false, le-leb _ _ c.if-bmuls-b.false, lt-leb _ _ c.if-zeros-o.true)

pub returns-then-dsts-l : goal.returns-then-dsts-l
unfolding room_of
returns-then-dsts-l c = simp (le-leb _ _ c.if-terms-n.false, le-leb _ _ c.if-ands-a.false, le-leb _ _ c.if-imuls-i.false, le-leb _ _ c.if-bmuls-b.false, le-leb _ _ c.if-zeros-o.false, lt-leb _ _ c.if-dsts-l.true)

pub returns-then-rhss-l : goal.returns-then-rhss-l
unfolding room_of
returns-then-rhss-l c = simp (le-leb _ _ c.if-terms-n.false, le-leb _ _ c.if-ands-a.false, le-leb _ _ c.if-imuls-i.false, le-leb _ _ c.if-bmuls-b.false, le-leb _ _ c.if-zeros-o.false, le-leb _ _ c.if-dsts-l.false, lt-leb _ _ c.if-rhss-l.true)

pub returns : goal.returns
unfolding room_of
returns c = simp (le-leb _ _ c.if-terms-n.false, le-leb _ _ c.if-ands-a.false, le-leb _ _ c.if-imuls-i.false, le-leb _ _ c.if-bmuls-b.false, le-leb _ _ c.if-zeros-o.false, le-leb _ _ c.if-dsts-l.false, le-leb _ _ c.if-rhss-l.false)
