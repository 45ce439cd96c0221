use Rattle.std.proofs.Common.{arith}
use Rattle.std.proofs.lemmas.Fmt.{length-decimal-le}
use Rattle.text.proofs.Text.of_number.Goals as goal

pub put_number-len-requires : goal.put_number-len-requires
put_number-len-requires c = omega (arith, length-decimal-le 20 c.args.n (omega arith) (omega arith) (omega arith))
