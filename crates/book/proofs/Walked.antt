-- The right answers to a walk.
use Rattle.std.proofs.Common.{◌≡◌, ℕ, suc, ◌+◌, ◌<◌, ◌≤◌, List, [], ◌∷◌, ◌++◌, length, get_or, take, drop, Err, sym, refl, ap, ◌∙◌, subst, inl, inr, ⊎_elim, arith}
use Rattle.std.proofs.lemmas.List.{take-append-drop, drop_more}
use Rattle.kind.specs.Group.{Quantities}
use Rattle.kind.specs.Meaning.{Meaning}
use Rattle.network.specs.Graph.{end}
use Rattle.network.specs.declared.Step.{Step}
use Rattle.calls.specs.declared.Refusal.{Refusal}
use Rattle.book.specs.declared.store.Store.{Store}
use Rattle.book.specs.declared.trip.Trip.{Trip}
use Rattle.calls.specs.State.{State, WALK, totals, refused}
use Rattle.calls.specs.Standing.{plan, ReadAs, Stops, Nowhere, Elsewhere, measured, wanted}
use Rattle.calls.specs.Calls.{Right, yields, walked, by_walk}
use Rattle.book.specs.Memory.{state_of, Held, Answered}
use Rattle.book.specs.Walking.{Walked, Stepped}
use Rattle.book.proofs.Promise.{answered, refuses}
use Rattle.book.proofs.Walks.{few_links}
use Rattle.calls.proofs.Reading.{nowhere_not, elsewhere_not, clash}

read_length : (K : Quantities) (s : State K.Q) (ws : List ℕ) (i : ℕ) (ss : List Step) (j : ℕ) → ReadAs K s ws i ss j → length ss ≡ length ws
read_length K s [] i [] j e = refl
read_length K s [] i (x ∷ ss) j e = absurd e
read_length K s (w ∷ ws) i [] j e = absurd e
read_length K s (w ∷ ws) i (x ∷ ss) j e = ap suc (read_length K s ws (end (plan K s) x) ss j e.2)

module _ {L T : Type 0} (M : Meaning L T) (s : Store L) (held : Held s) (words : List ℕ) (few : length words ≤ 65536) where
  small : length (state_of M s).links ≤ 8192
  small = few_links M s held

  pub stopped : (i : ℕ) → i < length words → (x : Trip T) → Walked M (state_of M s) (take i words) x → (e : Refusal) → Stepped M (state_of M s) (take i words) x (get_or words i 0) (Err e) → Answered M s (WALK words) (refused e []) s
  stopped i lt x k e f =
      ⊎_elim
      (λ h. refuses M s (WALK words) e (inr ((λ l. absurd (omega arith)), inl (sym h.0, stop (Nowhere M.quantities (state_of M s)) h.1, refl))))
      (λ h.
      let len = read_length M.quantities (state_of M s) (take i words) k.first k.steps x.at k.read in
      let t = stop (Elsewhere M.quantities (state_of M s)) (omega (arith, h.1), h.2) in
      refuses M s (WALK words) e (inr ((λ l. absurd (omega arith)), inr (clash M.quantities (state_of M s) small words t, inl (sym h.0, t, refl)))))
      f where
        stop : (F : ℕ → List Step → ℕ → Type 0) → F (get_or words i 0) k.steps x.at → Stops M.quantities (state_of M s) words F
        stop F h = record {
          front = take i words;
          fault = get_or words i 0;
          rest = drop (i + 1) words;
          whole = sym (take-append-drop i words) ∙ ap (λ z. take i words ++ z) (drop_more words i 0 lt);
          first = k.first;
          last = x.at;
          steps = k.steps;
          read = k.read;
          wrong = h;
        }

  pub arrived : (x : Trip T) → Walked M (state_of M s) words x → Answered M s (WALK words) (totals (M.total x.measured) (M.total x.wanted)) s
  arrived x k =
      let right : Right M (state_of M s) (WALK words) (totals (measured M.quantities (state_of M s) k.steps) (wanted M.quantities (state_of M s) k.steps)) =
      yields _ ((λ l. absurd (omega arith)), (nowhere_not M.quantities (state_of M s) small words k.first k.steps x.at k.read, (elsewhere_not M.quantities (state_of M s) small words k.first k.steps x.at k.read, tt)))
      (walked words k.first x.at k.steps k.read) in
      answered M s s (WALK words) _ (subst (λ a. Right M (state_of M s) (WALK words) a) (ap (λ z. totals z (wanted M.quantities (state_of M s) k.steps)) (sym k.measures) ∙ ap (totals (M.total x.measured)) (sym k.wants)) right) (by_walk words _ _)
