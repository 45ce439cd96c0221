use Rattle.std.proofs.Common.{Some, refl, ap, arith}
use Rattle.report.specs.History.{failed}
use Rattle.report.specs.declared.fault.Fault.TheVariants.{File}
use Rattle.report.proofs.session.Session.fail.Goals as goal

pub returns : goal.returns
returns g c m = (omega arith, rw c.shut.ensures (failed c.args.f c.requires c.show_fault-bytes.ensures.wrote (ap (λ p. Some (record { fault = File c.args.f; place = p })) c.place.ensures) refl))
