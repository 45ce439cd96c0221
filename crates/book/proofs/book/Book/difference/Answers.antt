use Rattle.std.proofs.Common.{◌≡◌, ℕ, ◌⊎◌, [], ◌∷◌, Ok, Err, Result, MatchResult, sym, refl, subst₂, inl, inr}
use Rattle.std.proofs.lemmas.Result.{err_from_is_err_and}
use Rattle.kind.specs.Meaning.{Meaning}
use Rattle.network.specs.Offsets.{Fits}
use Rattle.calls.specs.declared.Refusal.{Refusal}
use Rattle.calls.specs.declared.Refusal.TheVariants.{Torn, NotConnected}
use Rattle.calls.specs.State.{Rows, Inside, Enough, OFFSET, total}
use Rattle.calls.specs.Calls.{unchanged, by_offset}
use Rattle.calls.specs.Verdicts.{Posed}
use Rattle.calls.proofs.Asking.{offset_torn, offset_apart, offset_known}
use Rattle.search.specs.Known.{Tells}
use Rattle.search.specs.declared.errors.Unknown.TheVariants.{Torn as AreTorn, Apart as AreApart}
use Rattle.book.specs.declared.store.Store.{Store}
use Rattle.book.specs.Memory.{state_of, records, rows_of, single, Answered}
use Rattle.book.proofs.Promise.{answered, refuses}
use Rattle.book.proofs.book.Book.difference.Goals as goal

pub returns-in_err-check_inside-clause-call : goal.returns-in_err-check_inside-clause-call
returns-in_err-check_inside-clause-call g c =
    let p = err_from_is_err_and c.from_residual.result c.from_residual.ensures.1 in
    let h = c.in_err-check_inside.ensures in
    rw (p.1, p.2) (refuses _ _ _ _ (inl (sym h.0, h.1, refl)))

pub returns-in_err-check_rows-clause-call : goal.returns-in_err-check_rows-clause-call
returns-in_err-check_rows-clause-call g c =
    let r = c.from_residual-in_err-check_rows in
    let p = err_from_is_err_and r.result r.ensures.1 in
    let i = c.in_ok-check_inside.ensures in
    let h = c.in_err-check_rows.ensures in
    rw (p.1, p.2) (refuses _ _ _ _ (inr ((λ f. f i), inl (sym h.0, h.1, refl))))

-- the refusal, or the total, of the links that the network holds
module _ {L T : Type 0} (M : Meaning L T) (s : Store L) (i j : ℕ) (rows : Rows) (inside : Inside s.n (i ∷ j ∷ [])) (enough : Enough s.n rows) where
  posed : Fits M.quantities (state_of M s).links → Posed M (state_of M s) i j rows
  posed f = record { inside = inside; enough = enough; fits = f }

  asked : (r : Result T Refusal)
      → MatchResult r (λ t. Tells M (records s) s.n i j (Ok t)) (λ e. ((e ≡ Torn) × Tells M (records s) s.n i j (Err AreTorn)) ⊎ ((e ≡ NotConnected) × Tells M (records s) s.n i j (Err AreApart)))
      → Answered M s (OFFSET i j rows) (single M r) s
  asked (Ok t) v = answered M s s (OFFSET i j rows) (total (M.total t)) (offset_known M (state_of M s) i j rows (posed v.0) v.1 (M.total t) v.2) (by_offset i j rows (M.total t))
  asked (Err e) (inl v) = rw v.0 (answered M s s (OFFSET i j rows) _ (offset_torn M (state_of M s) i j rows inside enough v.1) (unchanged _ _ _))
  asked (Err e) (inr v) = rw v.0 (answered M s s (OFFSET i j rows) _ (offset_apart M (state_of M s) i j rows (posed v.1.0) v.1.1) (unchanged _ _ _))

pub returns-clause-call : goal.returns-clause-call
returns-clause-call g c =
    let M = g.K.Kind.meaning in
    let s = c.args.self.now.store in
    let i = c.args.i in
    let j = c.args.j in
    let rows = rows_of c.args.totals.now c.args.numbers.now c.args.steps.now in
    asked M s i j rows c.in_ok-check_inside.ensures c.in_ok-check_rows.ensures c.known_difference.result
    (subst₂ (λ n ls. MatchResult c.known_difference.result (λ t. Tells M ls n i j (Ok t)) (λ e. ((e ≡ Torn) × Tells M ls n i j (Err AreTorn)) ⊎ ((e ≡ NotConnected) × Tells M ls n i j (Err AreApart)))) c.network.ensures.n c.network.ensures.links c.known_difference.ensures.answer)
