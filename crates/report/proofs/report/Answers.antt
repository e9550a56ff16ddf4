-- Too long, or what the file comes to. Assumes nothing.
use mathlib.Core.Path.{subst}
use Prim.Native.Nat.{ℕ}
use Rattle.text.specs.Text.{refused_text, Puts}
use Rattle.report.specs.Report.{long, answers}
use Rattle.report.proofs.report.Goals as goal

pub returns-then-input-gt-MAX_INPUT-clause-reported : goal.returns-then-input-gt-MAX_INPUT-clause-reported
returns-then-input-gt-MAX_INPUT-clause-reported c =
    let p = subst (λ (n : ℕ). Puts (refused_text n) c.args.out.now c.refused_line.result c.refused_line.new.out) c.number.ensures c.refused_line.ensures.puts in
    record { line = _; reports = long c.if-input-gt-MAX_INPUT.true; puts = p }

pub returns-clause-reported : goal.returns-clause-reported
returns-clause-reported c = record { line = _; reports = answers c.if-input-gt-MAX_INPUT.false c.answer.ensures.0; puts = c.outcome_line.ensures.puts }
