-- A field of another kind adds nothing; one of the kind adds the numbers of its operands. Assumes nothing.
use Rattle.house_fill.proofs.Fills.{shown_other, shown-same, views_length, arity_of, start_of}
use Rattle.house_fill.specs.Layout.{numbers_from, shown}
use Rattle.house_file.specs.Decoding.{entry_at, operands_at}
use lib.ListN.{length}
use native.Mathlib.Omega.{arith}
use mathlib.Core.Path.{◌≡◌, refl, sym, ap, ◌∙◌}
use Rattle.house_fill.proofs.put_entry.Goals as goal

pub returns-then-tag-kind : goal.returns-then-tag-kind
returns-then-tag-kind c =
    let e = shown_other c.args.s.now c.args.kind c.args.t c.args.at (λ h. c.if-tag-kind.true (c.byte-tag.ensures.0 ∙ h)) in
    rw e (omega arith, (omega arith, refl))

pub returns : goal.returns
returns c =
    let e = shown-same c.args.s.now c.args.kind c.args.t c.args.at (sym c.byte-tag.ensures.0 ∙ c.if-tag-kind.false) in
    let v : numbers_from c.args.t (operands_at c.args.s.now c.arity_of-k.result c.start_of-b.result) ≡ numbers_from c.args.t (operands_at c.args.s.now (arity_of c.args.s.now c.args.at) (start_of c.args.s.now c.args.at)) = cc in
    let n : length (shown c.args.kind c.args.t (entry_at c.args.s.now c.args.at)) ≡ c.arity_of-k.result = omega (arith, ap length e, views_length c.args.s.now c.arity_of-k.result c.start_of-b.result c.args.t, ap length v) in
    (omega (arith, n), (omega (arith, c.arity_of-k.ensures.1), c.put_numbers.ensures ∙ rw (v, e)))
