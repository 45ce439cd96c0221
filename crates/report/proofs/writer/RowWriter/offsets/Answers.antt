use Rattle.std.proofs.Common.{◌≡◌, ◌∷◌, ◌++◌, length, sym, subst, add-one, arith}
use Rattle.report.specs.Appending.{Appended}
use Rattle.report.specs.Lines.{listed}
use Rattle.report.proofs.Appends.{still, then}
use Rattle.report.proofs.Hexes.{held}
use Rattle.report.proofs.writer.RowWriter.offsets.Goals as goal

pub loop-t-preserved : goal.loop-t-preserved
loop-t-preserved g c = record {
  same = still c.loop-t.invariant.same (still c.text.ensures.same c.total.ensures.same);
  bound = omega arith;
  wrote = λ d h.
      let M = g.K.Kind.meaning in
      let i = c.loop-t.t-index in
      let x = held M d c.args.totals.now i c.t-item.result c.t-item.is (omega arith) h in
      let p = then (c.loop-t.invariant.wrote d h) (then c.text.ensures (c.total.ensures.wrote x.0)) in
      subst (λ q. Appended c.args.self.now (listed M d q) c.total.new.self) (sym (add-one i))
      (subst (λ q. Appended c.args.self.now (◌++◌ (listed M d i) (32 ∷ M.text q)) c.total.new.self) x.1 p);
}

pub returns : goal.returns
returns g c = record {
  same = c.loop-t.invariant.same;
  bound = omega arith;
  wrote = λ d h. let e : c.loop-t.t-index ≡ length c.args.totals.now = omega arith in subst (λ q. Appended c.args.self.now (listed g.K.Kind.meaning d q) c.loop-t.self) e (c.loop-t.invariant.wrote d h);
}
