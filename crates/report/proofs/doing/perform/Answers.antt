use Rattle.std.proofs.Common.{ap}
use Rattle.calls.specs.State.{SIZE, STRIKE, ISSUE, RECALL}
use Rattle.report.specs.Entries.{item_of}
use Rattle.report.specs.Doing.{for_size, for_strike, for_issue, for_recall}
use Rattle.report.proofs.Deeds.{asked, refuses, does}
use Rattle.report.proofs.doing.perform.Goals as goal
use Rattle.report.proofs.doing.perform.Goals.{in-Size+in_ok-size-in-Size, in-Strike+in_ok-strike-in-Strike, in-Issue+in_ok-issue-in-Issue, in-Recall+in_ok-recall-in-Recall}

pub returns-in_err-size-in-Size : goal.returns-in_err-size-in-Size
returns-in_err-size-in-Size g c =
    let y = c.in_err-size-in-Size.ensures.call in
    refuses g.K.Kind.meaning _ _ _ _ (SIZE c.in-Size.n) (asked g.K.Kind.meaning _ _ _ _ (ap item_of c.in-Size.is) (for_size _)) c.in_err-size-in-Size.field-0.0 c.from_residual.result c.from_residual.ensures.1 y.answer y.state

pub returns-in_err-strike-in-Strike : goal.returns-in_err-strike-in-Strike
returns-in_err-strike-in-Strike g c =
    let y = c.in_err-strike-in-Strike.ensures.call in
    refuses g.K.Kind.meaning _ _ _ _ (STRIKE c.in-Strike.i c.in-Strike.j) (asked g.K.Kind.meaning _ _ _ _ (ap item_of c.in-Strike.is) (for_strike _ _)) c.in_err-strike-in-Strike.field-0.0 c.from_residual-in_err-strike-in-Strike.result c.from_residual-in_err-strike-in-Strike.ensures.1 y.answer y.state

pub returns-in_err-issue-in-Issue : goal.returns-in_err-issue-in-Issue
returns-in_err-issue-in-Issue g c =
    let y = c.in_err-issue-in-Issue.ensures.call in
    refuses g.K.Kind.meaning _ _ _ _ ISSUE (asked g.K.Kind.meaning _ _ _ _ (ap item_of c.in-Issue.is) for_issue) c.in_err-issue-in-Issue.field-0.0 c.from_residual-in_err-issue-in-Issue.result c.from_residual-in_err-issue-in-Issue.ensures.1 y.answer y.state

pub returns-in_err-recall-in-Recall : goal.returns-in_err-recall-in-Recall
returns-in_err-recall-in-Recall g c =
    let y = c.in_err-recall-in-Recall.ensures.call in
    refuses g.K.Kind.meaning _ _ _ _ RECALL (asked g.K.Kind.meaning _ _ _ _ (ap item_of c.in-Recall.is) for_recall) c.in_err-recall-in-Recall.field-0.0 c.from_residual-in_err-recall-in-Recall.result c.from_residual-in_err-recall-in-Recall.ensures.1 y.answer y.state

pub returns : goal.returns
returns g c =
    elim c.match-e.branch [
      | in-Size+in_ok-size-in-Size w ↦ let y = w.in_ok-size-in-Size.ensures.call in rw w.book-is (does g.K.Kind.meaning _ _ _ _ (SIZE w.in-Size.n) (asked g.K.Kind.meaning _ _ _ _ (ap item_of w.in-Size.is) (for_size _)) y.answer y.state)
      | in-Strike+in_ok-strike-in-Strike w ↦ let y = w.in_ok-strike-in-Strike.ensures.call in rw w.book-is (does g.K.Kind.meaning _ _ _ _ (STRIKE w.in-Strike.i w.in-Strike.j) (asked g.K.Kind.meaning _ _ _ _ (ap item_of w.in-Strike.is) (for_strike _ _)) y.answer y.state)
      | in-Issue+in_ok-issue-in-Issue w ↦ let y = w.in_ok-issue-in-Issue.ensures.call in rw w.book-is (does g.K.Kind.meaning _ _ _ _ ISSUE (asked g.K.Kind.meaning _ _ _ _ (ap item_of w.in-Issue.is) for_issue) y.answer y.state)
      | in-Recall+in_ok-recall-in-Recall w ↦ let y = w.in_ok-recall-in-Recall.ensures.call in rw w.book-is (does g.K.Kind.meaning _ _ _ _ RECALL (asked g.K.Kind.meaning _ _ _ _ (ap item_of w.in-Recall.is) for_recall) y.answer y.state)
    ]
