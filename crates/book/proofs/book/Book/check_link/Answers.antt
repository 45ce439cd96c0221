use Rattle.std.proofs.Common.{suc, sym, refl, inl, inr, arith}
use Rattle.std.proofs.lemmas.Bool.{both_ways}
use Rattle.std.proofs.lemmas.Result.{MatchResult-weaker}
use Rattle.book.specs.Memory.{records}
use Rattle.book.specs.Search.{Joins}
use Rattle.book.proofs.Places.{stands, absent, found, missing}
use Rattle.book.proofs.Walks.{standing_count}
use Rattle.book.proofs.book.Book.check_link.Goals as goal

pub returns-then-is_some : goal.returns-then-is_some
returns-then-is_some g c =
    let s = c.args.self.now.store in
    let joins = Joins c.args.new.from c.args.new.to in
    let u = c.in_ok-check_not_issued.ensures in
    let i = c.in_ok-check_inside.ensures in
    let f = found joins (records s) c.find.result c.find.ensures c.if-is_some.ensures in
    let h = stands g.K.Kind.meaning s joins f.0 f.1 in
    inr (both_ways _ u, inr ((λ f. f i), inr (c.if-new.false, inl (refl, (suc f.0, (h.0, h.1.0, h.1.1)), refl))))

pub returns-then-is_full : goal.returns-then-is_full
returns-then-is_full g c =
    let s = c.args.self.now.store in
    let joins = Joins c.args.new.from c.args.new.to in
    let u = c.in_ok-check_not_issued.ensures in
    let i = c.in_ok-check_inside.ensures in
    let h = absent g.K.Kind.meaning s joins (missing joins (records s) c.find.result c.find.ensures c.if-is_some.ensures) in
    let len = standing_count g.K.Kind.meaning s c.args.self.now.held.0 in
    let full = c.if-is_full.ensures in
    inr (both_ways _ u, inr ((λ f. f i), inr (c.if-new.false, inr ((λ e. h e.0 e.1.0 (e.1.1, e.1.2)), inl (refl, omega arith, refl)))))

pub returns : goal.returns
returns g c =
    let s = c.args.self.now.store in
    let joins = Joins c.args.new.from c.args.new.to in
    let u = c.in_ok-check_not_issued.ensures in
    let i = c.in_ok-check_inside.ensures in
    let none = missing joins (records s) c.find.result c.find.ensures c.if-is_some.ensures in
    let h = absent g.K.Kind.meaning s joins none in
    let len = standing_count g.K.Kind.meaning s c.args.self.now.held.0 in
    let free = c.if-is_full.ensures in
    MatchResult-weaker c.check_rows.result c.check_rows.ensures
    (λ _ enough. (record { unissued = u; inside = i; apart = c.if-new.false; new = (λ e. h e.0 e.1.0 (e.1.1, e.1.2)); room = omega arith; enough = enough }, none))
    (λ e short. inr (both_ways _ u, inr ((λ f. f i), inr (c.if-new.false, inr ((λ e. h e.0 e.1.0 (e.1.1, e.1.2)), inr ((λ e. omega arith), inl (sym short.0, short.1, refl)))))))
