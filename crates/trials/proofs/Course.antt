-- Where a call leads, once its right answer is known.
use Rattle.std.proofs.Common.{◌≡◌, ℕ, ◌≤◌, List, [], ◌∷◌, ◌++◌, sym, refl, ap, ◌∙◌, subst, arith, Ok}
use Rattle.std.proofs.lemmas.Bool.{false≢true}
use Rattle.kind.specs.Meaning.{Meaning}
use Rattle.network.specs.declared.Step.{Step}
use Rattle.network.specs.Offsets.{Link, graph, Fits}
use Rattle.network.proofs.Graph.{none}
use Rattle.network.proofs.Lists.{theory}
use Rattle.calls.specs.declared.Refusal.TheVariants.{Contradicts}
use Rattle.calls.specs.State.{State, Rows, Call, SIZE, LINK, Answer, done, refused}
use Rattle.calls.specs.Standing.{Back}
use Rattle.calls.specs.Calls.{Right, yields, sized, Next, by_size, by_link, Ran, then}
use Rattle.calls.specs.OneAnswer.{Same, same}
use Rattle.calls.specs.Verdicts.{Ready}
use Rattle.calls.proofs.Linking.{judged, fitting}
use Rattle.calls.proofs.Whole.{one_book}
use Rattle.book.specs.declared.store.Store.{Store}
use Rattle.book.specs.Memory.{state_of}
use Rattle.trials.specs.Outcomes.{Outcome, told, holds, Came, Reached}

module _ {L T : Type 0} (M : Meaning L T) where
  abbrev Q : Type 0
  Q = M.quantities.Q

  same_done : {n : ℕ} {a : Answer Q} → Same n a done → a ≡ done
  same_done (same _) = refl

  same_contradicts : {n : ℕ} {a : Answer Q} {steps : List Step} → Same n a (refused Contradicts steps) → a ≡ refused Contradicts steps
  same_contradicts (same _) = refl

  module _ {b t : Store L} {c : Call Q} {o : Outcome} (s : State Q) (at : Reached M b s) (came : Came M b c o t) where
    only : (a : Answer Q) → Right M s c a → Same b.n came.answer a
    only a r =
        let h = at.1.0 in
        came.answered.only h (subst (Ran M h) (sym at.0) at.1.1) a (subst (λ x. Right M x c a) (sym at.0) r)

    -- a call that is rightly taken is taken, and leaves what it should
    pub takes : (u : State Q) → Right M s c done → Next M s c done u → (o ≡ Ok tt) × Reached M t u
    takes u r n =
        let h = at.1.0 in
        let ran = at.1.1 in
        let e : came.answer ≡ done = same_done (only done r) in
        let left = subst (λ a. Next M s c a (state_of M t)) e (subst (λ x. Next M x c came.answer (state_of M t)) at.0 came.answered.state) in
        (came.tells ∙ ap told e, (one_book M h s (state_of M t) u ran c done left n, ((c, done) ∷ h, then h s u c done ran r n)))

    -- and one that rightly contradicts is refused, and shows its steps
    refuses : (steps : List Step) → Right M s c (refused Contradicts steps) → o ≡ told {Q = Q} (refused Contradicts steps)
    refuses steps r = came.tells ∙ ap told (same_contradicts (only (refused Contradicts steps) r))

  pub sizes : {b t : Store L} {o : Outcome} (n : ℕ) → 1 ≤ n → n ≤ 1024 → Reached M b (holds 1 []) → Came M b (SIZE n) o t → (o ≡ Ok tt) × Reached M t (holds n [])
  sizes n low high at came = takes (holds 1 []) at came (holds n []) (yields done (false≢true, ((λ f. f (low, high)), ((λ x. omega (arith, x.1)), tt))) (sized n)) (by_size n)

  module _ {b t : Store L} {o : Outcome} {l : Link Q} {rows : Rows} (n : ℕ) (links : List (Link Q)) (at : Reached M b (holds n links)) (came : Came M b (LINK l rows) o t) (ready : Ready M (holds n links) l rows) where
    -- a link that fits is entered last
    pub enters : Fits M.quantities (links ++ l ∷ []) → (o ≡ Ok tt) × Reached M t (holds n (links ++ l ∷ []))
    enters f = takes (holds n links) at came (holds n (links ++ l ∷ [])) (fitting M (holds n links) l rows ready f) (by_link l rows)

    -- one that does not is refused, and the way back is shown
    pub contradicts : (Fits M.quantities (links ++ l ∷ []) → ⊥) → (steps : List Step) → Back M.quantities (holds n links) l steps → o ≡ told {Q = Q} (refused Contradicts steps)
    contradicts f steps w = refuses (holds n links) at came steps (judged M (holds n links) l rows ready f steps w)

  -- a first link fits, whatever it measured and wants
  pub first_enters : {b t : Store L} {o : Outcome} {l : Link Q} {rows : Rows} (n : ℕ) → Reached M b (holds n []) → Came M b (LINK l rows) o t → Ready M (holds n []) l rows → (o ≡ Ok tt) × Reached M t (holds n (l ∷ []))
  first_enters {l = l} n at came ready =
      let K = M.quantities in
      enters n [] at came ready ((theory K []).add_apart l (theory K []).none (λ c. ready.apart (none (graph K []) l.from c.0 l.to c.1)))
