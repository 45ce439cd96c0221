use Rattle.std.proofs.Common.{◌≡◌, length, lit≤, rules}
use Rattle.trials.proofs.Course.{sizes}
use Rattle.trials.proofs.Returned.{out_enters}
use Rattle.trials.proofs.round_trip.round_trip.Goals as goal

pub returns : goal.returns
returns g c =
    let M = g.K.Kind.meaning in
    let room : length c.args.totals.now ≡ 4 = search rules in
    let room-2 : length c.link-out.new.totals ≡ 4 = search rules in
    let sized = sizes M 2 (lit≤ tt) (lit≤ tt) (search rules) c.size-sized.ensures in
    let out = out_enters M (lit≤ tt) sized.1 (rw room at c.link-out.ensures) in
    record {
      before = c.link-out.new.book.store;
      after = c.link-back.new.book.store;
      back = c.link-back.result;
      taken = rw (sized.0, out.0);
      out = out.1;
      came = rw room-2 at c.link-back.ensures;
    }
