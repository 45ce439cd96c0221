-- OFFSET, OFFSETS and REALISE: right answers, and what their verdicts say.
use Rattle.std.proofs.Common.{◌≡◌, ℕ, ◌*◌, ◌≤◌, Bool, true, false, List, [], ◌∷◌, map, length, sym, refl, ap, ◌∙◌, subst, inl, inr, arith}
use Rattle.std.proofs.lemmas.Bool.{both_ways}
use Rattle.kind.specs.Group.{Quantities}
use Rattle.kind.specs.Meaning.{Meaning}
use Rattle.network.specs.declared.Step.{Step}
use Rattle.network.specs.Offsets.{Carries, Fits}
use Rattle.network.proofs.Lists.{theory}
use Rattle.calls.specs.declared.Refusal.{Refusal}
use Rattle.calls.specs.declared.Refusal.TheVariants.{ShortRow, Torn, NotConnected, Unordered, NegativeLoop}
use Rattle.calls.specs.State.{State, Rows, OFFSET, OFFSETS, REALISE, Answer, total, offsets, refused, Inside, Enough, First}
use Rattle.network.specs.Words.{word}
use Rattle.calls.specs.Standing.{Linked, Lowest, Loop, Standing, ReadAs, measured}
use Rattle.calls.specs.Calls.{checks, Right, yields, turned_down, apart, carried, least, walked, Leaves, Realises}
use Rattle.calls.specs.Verdicts.{Posed, Differ, Always, OffsetVerdict, Asked, Least, RealiseVerdict, LoopReadsBack}
use Rattle.calls.proofs.Inversion.{was_refused}
use Rattle.calls.proofs.Linking.{at_most}
use Rattle.calls.proofs.Reading.{nowhere_not, elsewhere_not, words_read}

module _ {L T : Type 0} (M : Meaning L T) (s : State M.quantities.Q) where
  abbrev K : Quantities
  K = M.quantities

  inside_is : (i j : ℕ) → ((Inside s.n (i ∷ j ∷ []) → ⊥) → ⊥) → Inside s.n (i ∷ j ∷ [])
  inside_is i j q = (at_most 1 i (λ n. q (λ x. n x.0)), at_most i s.n (λ n. q (λ x. n x.1)), (at_most 1 j (λ n. q (λ x. n x.2.0)), at_most j s.n (λ n. q (λ x. n x.2.1)), tt))

  enough_is : (rows : Rows) → ((Enough s.n rows → ⊥) → ⊥) → Enough s.n rows
  enough_is rows v = (at_most (2 * s.n) rows.totals (λ n. v (λ x. n x.0)), at_most (4 * s.n) rows.numbers (λ n. v (λ x. n x.1)), at_most s.n rows.steps (λ n. v (λ x. n x.2)))

  module _ (i j : ℕ) (rows : Rows) where
    pub offset_torn : Inside s.n (i ∷ j ∷ []) → Enough s.n rows → (Fits K s.links → ⊥) → Right M s (OFFSET i j rows) (refused Torn [])
    offset_torn a b t = turned_down Torn [] (inr ((λ f. f a), inr ((λ f. f b), inl (refl, t, refl))))

    pub offset_apart : Posed M s i j rows → (Linked K s i j → ⊥) → Right M s (OFFSET i j rows) (refused NotConnected [])
    offset_apart P n = turned_down NotConnected [] (inr ((λ f. f P.inside), inr ((λ f. f P.enough), inr ((λ f. f P.fits), inl (refl, n, refl)))))

    pub offset_known : Posed M s i j rows → Linked K s i j → (q : K.Q) → Always M s i j q → Right M s (OFFSET i j rows) (total q)
    offset_known P l q h = yields (total q) ((λ f. f P.inside), ((λ f. f P.enough), ((λ f. f P.fits), ((λ f. f l), tt)))) (apart i j rows q P.fits l h)

    applied : Posed M s i j rows → (e : Refusal) (steps : List Step) → First (checks M s (OFFSET i j rows)) e steps → (NotConnected ≡ e) × (Linked K s i j → ⊥) × (steps ≡ [])
    applied P e ss (inl (_, b, _)) = absurd (b P.inside)
    applied P e ss (inr (_, inl (_, b, _))) = absurd (b P.enough)
    applied P e ss (inr (_, inr (_, inl (_, b, _)))) = absurd (b P.fits)
    applied P e ss (inr (_, inr (_, inr (_, inl (a, b, c))))) = (a, b, c)
    applied P e ss (inr (_, inr (_, inr (_, inr (_, x))))) = absurd x

    module _ (f : Fits K s.links) where
      was_apart : (steps : List Step) → First (checks M s (OFFSET i j rows)) NotConnected steps → Posed M s i j rows × (Linked K s i j → ⊥)
      was_apart ss (inl (a, _, _)) = let z : ◌≡◌ {A = ℕ} 0 1 = cc in absurd (omega arith)
      was_apart ss (inr (_, inl (a, _, _))) = let z : ◌≡◌ {A = ℕ} 0 1 = cc in absurd (omega arith)
      was_apart ss (inr (_, inr (_, inl (a, _, _)))) = let z : ◌≡◌ {A = ℕ} 0 1 = cc in absurd (omega arith)
      was_apart ss (inr (p, inr (q, inr (_, inl (_, b, _))))) = (record { inside = inside_is i j p; enough = enough_is rows q; fits = f }, b)
      was_apart ss (inr (_, inr (_, inr (_, inr (_, x))))) = absurd x

      differs : (Linked K s i j → ⊥) → Differ M s i j
      differs n = let h = (theory K s.links).free f.0 f.1 i j n in (h.0, f.0, h.1, f.1, h.2)

      unknown : (a : Answer K.Q) → Right M s (OFFSET i j rows) a → Posed M s i j rows → Differ M s i j → a ≡ refused NotConnected []
      unknown _ (yields _ p (apart _ _ _ q _ _ h)) P (b, c, mb, mc, d) = absurd (d (h b mb ∙ sym (h c mc)))
      unknown _ (turned_down e steps x) P d = let y = applied P e steps x in ap (λ z. refused z steps) (sym y.0) ∙ ap (refused NotConnected) y.2

      known : (a : Answer K.Q) → Right M s (OFFSET i j rows) a → Posed M s i j rows → (q : K.Q) → Always M s i j q → a ≡ total q
      known _ (yields _ p (apart _ _ _ r _ _ h)) P q k = ap total (sym (h f.0 f.1) ∙ k f.0 f.1)
      known _ (turned_down e steps x) P q k = let d = differs (applied P e steps x).1 in absurd (d.4 (k d.0 d.2 ∙ sym (k d.1 d.3)))

      known_only : (q : K.Q) → Right M s (OFFSET i j rows) (total q) → Posed M s i j rows × Always M s i j q × Linked K s i j
      known_only q (yields _ (a, (b, _)) (apart _ _ _ _ g l h)) = (record { inside = inside_is i j a; enough = enough_is rows b; fits = g }, h, l)

      pub offset_verdict : (a : Answer K.Q) → Right M s (OFFSET i j rows) a → OffsetVerdict M s i j rows a
      offset_verdict a r = record {
        unknown = unknown a r;
        unknown_only = λ steps e. let x = was_apart steps (was_refused M s (OFFSET i j rows) NotConnected steps (subst (Right M s (OFFSET i j rows)) e r)) in (x.0, differs x.1, x.1);
        known = known a r;
        known_only = λ q e. known_only q (subst (Right M s (OFFSET i j rows)) e r);
      }

  module _ (rows : Rows) where
    pub offsets_torn : Enough s.n rows → (Fits K s.links → ⊥) → Right M s (OFFSETS rows) (refused Torn [])
    offsets_torn b t = turned_down Torn [] (inr ((λ f. f b), inl (refl, t, refl)))

    pub offsets_carried : Enough s.n rows → (c : ℕ → K.Q) → Carries K c s.links → ((v : ℕ) → Lowest K s v → c v ≡ K.zero) → Right M s (OFFSETS rows) (offsets c)
    offsets_carried b c m z = yields (offsets c) ((λ f. f b), ((λ f. f (c, m)), tt)) (carried rows c m z)

    pub realise_unordered : M.ordered ≡ false → Right M s (REALISE rows) (refused Unordered [])
    realise_unordered h = turned_down Unordered [] (inl (refl, h, refl))

    pub realise_short : M.ordered ≡ true → (Enough s.n rows → ⊥) → Right M s (REALISE rows) (refused ShortRow [])
    realise_short o b = turned_down ShortRow [] (inr ((λ f. both_ways M.ordered f o), inl (refl, b, refl)))

    pub realise_loop : Asked M s rows → ((c : ℕ → K.Q) × Leaves M s c → ⊥) → (steps : List Step) → Loop K s steps × (M.below (measured K s steps) ≡ true) → Right M s (REALISE rows) (refused NegativeLoop steps)
    realise_loop A h steps l = turned_down NegativeLoop steps (inr ((λ f. both_ways M.ordered f A.ordered), inr ((λ f. f A.enough), inl (refl, h, l))))

    pub realise_least : Asked M s rows → (c : ℕ → K.Q) → Realises M s c → Least M s c → Right M s (REALISE rows) (offsets c)
    realise_least A c r l = yields (offsets c) ((λ f. both_ways M.ordered f A.ordered), ((λ f. f A.enough), ((λ f. f (c, r.1)), tt))) (least rows c r l)

    ordered_is : (M.ordered ≡ false → ⊥) → M.ordered ≡ true
    ordered_is h = go M.ordered h
      where
        go : (b : Bool) → (b ≡ false → ⊥) → b ≡ true
        go true h = refl
        go false h = absurd (h refl)

    looped : Asked M s rows → (e : Refusal) (steps : List Step) → First (checks M s (REALISE rows)) e steps → (NegativeLoop ≡ e) × ((c : ℕ → K.Q) × Leaves M s c → ⊥)
    looped A e ss (inl (_, b, _)) = absurd (both_ways M.ordered b A.ordered)
    looped A e ss (inr (_, inl (_, b, _))) = absurd (b A.enough)
    looped A e ss (inr (_, inr (_, inl (a, b, c)))) = (a, b)
    looped A e ss (inr (_, inr (_, inr (_, x)))) = absurd x

    was_looped : (steps : List Step) → First (checks M s (REALISE rows)) NegativeLoop steps → Asked M s rows × ((c : ℕ → K.Q) × Leaves M s c → ⊥) × Loop K s steps × (M.below (measured K s steps) ≡ true)
    was_looped ss (inl (a, _, _)) = let z : ◌≡◌ {A = ℕ} 0 1 = cc in absurd (omega arith)
    was_looped ss (inr (_, inl (a, _, _))) = let z : ◌≡◌ {A = ℕ} 0 1 = cc in absurd (omega arith)
    was_looped ss (inr (p, inr (q, inl (_, b, c)))) = (record { ordered = ordered_is p; enough = enough_is rows q }, b, c.0, c.1)
    was_looped ss (inr (_, inr (_, inr (_, x)))) = absurd x

    none : (a : Answer K.Q) → Right M s (REALISE rows) a → Asked M s rows → ((c : ℕ → K.Q) × Leaves M s c → ⊥) → (steps : List Step) × (a ≡ refused NegativeLoop steps)
    none _ (yields _ p (least _ c r l)) A h = absurd (h (c, r.1))
    none _ (turned_down e steps x) A h = (steps, ap (λ z. refused z steps) (sym (looped A e steps x).0))

    some : (a : Answer K.Q) → Right M s (REALISE rows) a → Asked M s rows → (b : ℕ → K.Q) → Leaves M s b → (c : ℕ → K.Q) × (a ≡ offsets c) × Realises M s c × Least M s c
    some _ (yields _ p (least _ c r l)) A b h = (c, refl, r, l)
    some _ (turned_down e steps x) A b h = absurd ((looped A e steps x).1 (b, h))

    some_only : (c : ℕ → K.Q) → Right M s (REALISE rows) (offsets c) → Asked M s rows × Realises M s c × Least M s c
    some_only c (yields _ (a, (b, _)) (least _ _ r l)) = (record { ordered = ordered_is a; enough = enough_is rows b }, r, l)

    pub realise_verdict : (a : Answer K.Q) → Right M s (REALISE rows) a → RealiseVerdict M s rows a
    realise_verdict a r = record {
      none = none a r;
      none_only = λ steps e. was_looped steps (was_refused M s (REALISE rows) NegativeLoop steps (subst (Right M s (REALISE rows)) e r));
      some = some a r;
      some_only = λ c e. some_only c (subst (Right M s (REALISE rows)) e r);
    }

    pub loop_reads_back : (a : Answer K.Q) (words : List ℕ) → Right M s (REALISE rows) a → length s.links ≤ 8192 → length words ≤ 65536
        → ((steps : List Step) → a ≡ refused NegativeLoop steps → words ≡ map word steps) → LoopReadsBack M s a words
    loop_reads_back a words r few short told steps e =
        let x = was_looped steps (was_refused M s (REALISE rows) NegativeLoop steps (subst (Right M s (REALISE rows)) e r)) in
        let v = x.2.0 in
        let read = subst (λ ws. ReadAs K s ws v steps v) (sym (told steps e)) (words_read K s (Standing K s) (λ p u. u) v steps v x.2.1) in
        (v, read, yields _ ((λ b. omega arith), (nowhere_not K s few words v steps v read, (elsewhere_not K s few words v steps v read, tt))) (walked words v v steps read))
