-- LINK: which check is the first to apply, what its verdict says, and that the words it shows are read back.
use Rattle.std.proofs.Common.{◌≡◌, ℕ, ◌*◌, ◌≤◌, Bool, true, false, List, [], ◌∷◌, ◌++◌, map, length, sym, refl, ap, subst, inl, inr, arith}
use native.Mathlib.Decide.{dec_le}
use Rattle.std.proofs.lemmas.Bool.{both_ways}
use Rattle.kind.specs.Group.{Quantities}
use Rattle.kind.specs.Meaning.{Meaning}
use Rattle.network.specs.declared.Step.{Step}
use Rattle.network.specs.Graph.{Joining}
use Rattle.network.specs.Offsets.{Link, Fits}
use Rattle.network.specs.Words.{word}
use Rattle.network.proofs.Graph.{near_dec, back}
use Rattle.network.proofs.Lists.{theory}
use Rattle.calls.specs.declared.Refusal.{Refusal}
use Rattle.calls.specs.declared.Refusal.TheVariants.{Contradicts}
use Rattle.calls.specs.State.{State, Rows, Call, LINK, Answer, done, refused, Inside, Enough, First, Passes}
use Rattle.calls.specs.Standing.{Stands, Linked, Standing, plan, ReadAs, Back}
use Rattle.calls.specs.Calls.{checks, Right, yields, turned_down, entered, walked, Next, by_link, Ran}
use Rattle.calls.specs.Verdicts.{Ready, LinkVerdict, ReadsBack}
use Rattle.calls.proofs.Reading.{nowhere_not, elsewhere_not, words_read}
use Rattle.calls.proofs.Inversion.{was_refused}
use Rattle.calls.proofs.Runs.{untorn}

pub unless : (b : Bool) → (b ≡ true → ⊥) → b ≡ false
unless true h = absurd (h refl)
unless false h = refl

pub at_most : (a b : ℕ) → ((a ≤ b → ⊥) → ⊥) → a ≤ b
at_most a b h = go (dec_le a b)
  where
    go : Dec (a ≤ b) → a ≤ b
    go (yes p) = p
    go (no n) = absurd (h n)

module _ {L T : Type 0} (M : Meaning L T) (s : State M.quantities.Q) (l : Link M.quantities.Q) (rows : Rows) where
  abbrev K : Quantities
  K = M.quantities

  abbrev Apart : Type 0
  Apart = Fits K (s.links ++ l ∷ []) → ⊥

  pub judged : Ready M s l rows → Apart → (steps : List Step) → Back K s l steps → Right M s (LINK l rows) (refused Contradicts steps)
  judged P h steps b = turned_down Contradicts steps (inr (both_ways s.issued P.unissued, inr ((λ f. f P.inside), inr (P.apart, inr (P.new, inr ((λ h. let r = P.room in omega arith), inr ((λ f. f P.enough), inl (refl, h, b))))))))

  pub fitting : Ready M s l rows → Fits K (s.links ++ l ∷ []) → Right M s (LINK l rows) done
  fitting P f = yields done (both_ways s.issued P.unissued, ((λ g. g P.inside), (P.apart, (P.new, ((λ h. let r = P.room in omega arith), ((λ g. g P.enough), ((λ h. h f), tt))))))) (entered l rows f)

  open_yet : (s.issued ≡ true → ⊥) → s.issued ≡ false
  open_yet h = unless s.issued h

  ready : (s.issued ≡ true → ⊥) → ((Inside s.n (l.from ∷ l.to ∷ []) → ⊥) → ⊥) → (l.from ≡ l.to → ⊥) → ((p : ℕ) × Stands K s l.from l.to p → ⊥)
      → (s.capacity ≤ length s.links → ⊥) → ((Enough s.n rows → ⊥) → ⊥) → Ready M s l rows
  ready p q r t u v = record {
    unissued = open_yet p;
    inside = (at_most 1 l.from (λ n. q (λ x. n x.0)), at_most l.from s.n (λ n. q (λ x. n x.1)), (at_most 1 l.to (λ n. q (λ x. n x.2.0)), at_most l.to s.n (λ n. q (λ x. n x.2.1)), tt));
    apart = r;
    new = t;
    room = omega arith;
    enough = (at_most (2 * s.n) rows.totals (λ n. v (λ x. n x.0)), at_most (4 * s.n) rows.numbers (λ n. v (λ x. n x.1)), at_most s.n rows.steps (λ n. v (λ x. n x.2)));
  }

  -- the check that applied first, read against a call that is past those before the verdict
  applied : Ready M s l rows → (e : Refusal) (steps : List Step) → First (checks M s (LINK l rows)) e steps → (Contradicts ≡ e) × Apart × Back K s l steps
  applied P e ss (inl (_, b, _)) = absurd (both_ways s.issued P.unissued b)
  applied P e ss (inr (_, inl (_, b, _))) = absurd (b P.inside)
  applied P e ss (inr (_, inr (_, inl (_, b, _)))) = absurd (P.apart b)
  applied P e ss (inr (_, inr (_, inr (_, inl (_, b, _))))) = absurd (P.new b)
  applied P e ss (inr (_, inr (_, inr (_, inr (_, inl (_, b, _)))))) = let r = P.room in absurd (omega arith)
  applied P e ss (inr (_, inr (_, inr (_, inr (_, inr (_, inl (_, b, _))))))) = absurd (b P.enough)
  applied P e ss (inr (_, inr (_, inr (_, inr (_, inr (_, inr (_, inl (a, b, c)))))))) = (a, b, c)
  applied P e ss (inr (_, inr (_, inr (_, inr (_, inr (_, inr (_, inr (_, x)))))))) = absurd x

  -- a refusal for a contradiction is that of a call past the checks before it
  contradicted : (steps : List Step) → First (checks M s (LINK l rows)) Contradicts steps → Ready M s l rows × Apart × Back K s l steps
  contradicted ss (inl (a, _, _)) = let z : ◌≡◌ {A = ℕ} 0 1 = cc in absurd (omega arith)
  contradicted ss (inr (_, inl (a, _, _))) = let z : ◌≡◌ {A = ℕ} 0 1 = cc in absurd (omega arith)
  contradicted ss (inr (_, inr (_, inl (a, _, _)))) = let z : ◌≡◌ {A = ℕ} 0 1 = cc in absurd (omega arith)
  contradicted ss (inr (_, inr (_, inr (_, inl (a, _, _))))) = let z : ◌≡◌ {A = ℕ} 0 1 = cc in absurd (omega arith)
  contradicted ss (inr (_, inr (_, inr (_, inr (_, inl (a, _, _)))))) = let z : ◌≡◌ {A = ℕ} 0 1 = cc in absurd (omega arith)
  contradicted ss (inr (_, inr (_, inr (_, inr (_, inr (_, inl (a, _, _))))))) = let z : ◌≡◌ {A = ℕ} 0 1 = cc in absurd (omega arith)
  contradicted ss (inr (p, inr (q, inr (r, inr (t, inr (u, inr (v, inl (_, b, c)))))))) = (ready p q r t u v, b, c)
  contradicted ss (inr (_, inr (_, inr (_, inr (_, inr (_, inr (_, inr (_, x)))))))) = absurd x

  passed : Passes (checks M s (LINK l rows)) → Ready M s l rows
  passed (p, (q, (r, (t, (u, (v, _)))))) = ready p q r t u v

  when_refused : (e : Refusal) (steps : List Step) → Right M s (LINK l rows) (refused e steps) → First (checks M s (LINK l rows)) e steps
  when_refused e steps r = was_refused M s (LINK l rows) e steps r

  contradicting : (a : Answer K.Q) → Right M s (LINK l rows) a → Ready M s l rows → Apart → (steps : List Step) × (a ≡ refused Contradicts steps)
  contradicting _ (yields _ p (entered _ _ f)) P h = absurd (h f)
  contradicting _ (turned_down e steps f) P h = (steps, ap (λ x. refused x steps) (sym (applied P e steps f).0))

  taking : (a : Answer K.Q) (t : State K.Q) → Right M s (LINK l rows) a → Next M s (LINK l rows) a t → Ready M s l rows → Fits K (s.links ++ l ∷ []) → (a ≡ done) × (t.links ≡ s.links ++ l ∷ [])
  taking _ _ (yields _ p (entered _ _ f)) (by_link _ _) P h = (refl, refl)
  taking _ _ (turned_down e steps f) n P h = absurd ((applied P e steps f).1 h)

  taken : Right M s (LINK l rows) done → Ready M s l rows × Fits K (s.links ++ l ∷ [])
  taken (yields _ p (entered _ _ f)) = (passed p, f)

  pub verdict : (a : Answer K.Q) (t : State K.Q) → Right M s (LINK l rows) a → Next M s (LINK l rows) a t → LinkVerdict M s l rows a t
  verdict a t r n = record {
    contradicts = λ P h. contradicting a r P h;
    contradicts_only = λ steps e. let x = contradicted steps (when_refused Contradicts steps (subst (Right M s (LINK l rows)) e r)) in (x.0, x.1);
    taken = λ P f. taking a t r n P f;
    taken_only = λ e. taken (subst (Right M s (LINK l rows)) e r);
    equivalent = (theory K (s.links ++ l ∷ [])).equivalent;
  }

  -- in a list of calls a contradiction comes only where standing links connect the two switches
  met : (h : List (Call K.Q × Answer K.Q)) → Ran M h s → Apart → Linked K s l.to l.from
  met h ran x = go (near_dec (plan K s) (length s.links) l.from l.to)
    where
      go : Dec (Linked K s l.from l.to) → Linked K s l.to l.from
      go (yes c) = back (plan K s) (Standing K s) l.from l.to c
      go (no n) = absurd (x ((theory K s.links).add_apart l (untorn M h s ran) n))

  pub reads_back : (a : Answer K.Q) (words : List ℕ) → Right M s (LINK l rows) a → length s.links ≤ 8192 → length words ≤ 65536
      → ((steps : List Step) → a ≡ refused Contradicts steps → words ≡ map word steps) → ReadsBack M s l a words
  reads_back a words r few short told h ran steps e =
      let x = contradicted steps (when_refused Contradicts steps (subst (Right M s (LINK l rows)) e r)) in
      let read = subst (λ ws. ReadAs K s ws l.to steps l.from) (sym (told steps e)) (words_read K s (Joining (plan K s) (length s.links)) (λ p j. (j.0, j.1)) l.to steps l.from (x.2.0 (met h ran x.1)).0) in
      record {
        walk = read;
        answer = yields _ ((λ b. omega arith), (nowhere_not K s few words l.to steps l.from read, (elsewhere_not K s few words l.to steps l.from read, tt))) (walked words l.to l.from steps read);
      }
