use Rattle.std.proofs.Common.{ℕ, List, subst, arith}
use Rattle.std.proofs.lemmas.List.{take_all}
use Rattle.report.specs.Appending.{Appended}
use Rattle.report.specs.Lines.{hexes}
use Rattle.report.proofs.Appends.{then}
use Rattle.report.proofs.Hexes.{hexes_more}
use Rattle.report.proofs.writer.RowWriter.steps.Goals as goal

pub loop-w-preserved : goal.loop-w-preserved
loop-w-preserved c = record {
  bound = omega arith;
  wrote = rw (hexes_more c.args.steps.now c.loop-w.w-index (omega arith)) (then c.loop-w.invariant.wrote c.word.ensures.wrote);
}

pub returns : goal.returns
returns c = record {
  bound = omega arith;
  wrote = subst (λ (ws : List ℕ). Appended c.args.self.now (hexes ws) c.loop-w.self) (take_all c.loop-w.w-index c.args.steps.now (omega arith)) c.loop-w.invariant.wrote;
}
