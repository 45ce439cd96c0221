-- Words are read as steps in one way at most, so a walk stops at one place and for one reason.
use Rattle.std.proofs.Common.{◌≡◌, ℕ, ◌≤◌, ◌⊎◌, List, [], ◌∷◌, ◌++◌, map, length, sym, refl, ap, ◌∙◌, subst, inl, inr, ⊎_elim, arith}
use Rattle.kind.specs.Group.{Quantities}
use Rattle.network.specs.Graph.{place, start, end, Walk}
use Rattle.network.specs.declared.Step.{Step}
use Rattle.network.specs.declared.Step.TheVariants.{Forward, Backward}
use Rattle.calls.specs.State.{State}
use Rattle.network.specs.Words.{word}
use Rattle.calls.specs.Standing.{Standing, plan, Reads, ReadAs, Stops, Nowhere, Elsewhere}

-- where two lists that begin alike part
pub parts : (f g : List ℕ) (v w : ℕ) (q r : List ℕ) → f ++ v ∷ q ≡ g ++ w ∷ r
    → ((f ≡ g) × (v ≡ w)) ⊎ (((m : List ℕ) × (f ≡ g ++ w ∷ m)) ⊎ ((m : List ℕ) × (g ≡ f ++ v ∷ m)))
parts [] [] v w q r e = let a : v ≡ w = cc in inl (refl, a)
parts [] (y ∷ g) v w q r e = let a : v ≡ y = cc in inr (inr (g, ap (λ z. z ∷ g) (sym a)))
parts (x ∷ f) [] v w q r e = let a : x ≡ w = cc in inr (inl (f, ap (λ z. z ∷ f) a))
parts (x ∷ f) (y ∷ g) v w q r e =
    let a : x ≡ y = cc in
    let b : f ++ v ∷ q ≡ g ++ w ∷ r = cc in
    ⊎_elim (λ h. inl (let c = h.0 in cc, h.1))
    (λ t. ⊎_elim (λ h. inr (inl (h.0, let c = h.1 in cc))) (λ h. inr (inr (h.0, let c = h.1 in cc))) t)
    (parts f g v w q r b)

module _ (K : Quantities) (s : State K.Q) (small : length s.links ≤ 8192) where
  pub reads_same : (w : ℕ) (a b : Step) → Reads K s w a → Reads K s w b → a ≡ b
  reads_same w (Forward p) (Forward q) a b = let e : p ≡ q = omega (arith, a.0, b.0) in ap Forward e
  reads_same w (Backward p) (Backward q) a b = let e : p ≡ q = omega (arith, a.0, b.0) in ap Backward e
  reads_same w (Forward p) (Backward q) a b = absurd (omega (arith, a.0, b.0, a.1.1, b.1.1))
  reads_same w (Backward p) (Forward q) a b = absurd (omega (arith, a.0, b.0, a.1.1, b.1.1))

  -- a word inside a good walk is read as a step that begins where the walk before it ends
  pub split : (f : List ℕ) (w : ℕ) (r : List ℕ) (i : ℕ) (ss : List Step) (j : ℕ) → ReadAs K s (f ++ w ∷ r) i ss j
      → (ts : List Step) × (m : ℕ) × (st : Step) × ReadAs K s f i ts m × Reads K s w st × (start (plan K s) st ≡ m)
  split [] w r i [] j e = absurd e
  split [] w r i (st ∷ ss) j e = ([], i, st, refl, e.0, e.1)
  split (v ∷ f) w r i [] j e = absurd e
  split (v ∷ f) w r i (x ∷ ss) j e =
      let h = split f w r (end (plan K s) x) ss j e.2 in
      (x ∷ h.0, h.1, h.2, (e.0, e.1, h.3), h.4, h.5)

  -- from one switch, the same words are the same steps to the same switch
  pub same_from : (ws : List ℕ) (i : ℕ) (ss : List Step) (j : ℕ) (ts : List Step) (k : ℕ) → ReadAs K s ws i ss j → ReadAs K s ws i ts k → (ss ≡ ts) × (j ≡ k)
  same_from [] i [] j [] k a b = (refl, sym a ∙ b)
  same_from [] i [] j (y ∷ ts) k a b = absurd b
  same_from [] i (x ∷ ss) j ts k a b = absurd a
  same_from (w ∷ ws) i [] j ts k a b = absurd a
  same_from (w ∷ ws) i (x ∷ ss) j [] k a b = absurd b
  same_from (w ∷ ws) i (x ∷ ss) j (y ∷ ts) k a b =
      let e = reads_same w x y a.0 b.0 in
      let h = same_from ws (end (plan K s) x) ss j ts k a.2 (subst (λ z. ReadAs K s ws (end (plan K s) z) ts k) (sym e) b.2) in
      (let p = h.0 in cc, h.1)

  -- and from any switch, where there is a word
  pub same_end : (ws : List ℕ) (i : ℕ) (ss : List Step) (j l : ℕ) (ts : List Step) (k : ℕ) → 1 ≤ length ss → ReadAs K s ws i ss j → ReadAs K s ws l ts k → (ss ≡ ts) × (j ≡ k)
  same_end [] i [] j l ts k n a b = absurd (omega arith)
  same_end [] i (x ∷ ss) j l ts k n a b = absurd a
  same_end (w ∷ ws) i [] j l ts k n a b = absurd a
  same_end (w ∷ ws) i (x ∷ ss) j l [] k n a b = absurd b
  same_end (w ∷ ws) i (x ∷ ss) j l (y ∷ ts) k n a b =
      let e = reads_same w x y a.0 b.0 in
      let h = same_from ws (end (plan K s) x) ss j ts k a.2 (subst (λ z. ReadAs K s ws (end (plan K s) z) ts k) (sym e) b.2) in
      (let p = h.0 in cc, h.1)

  -- no word of a good walk names nothing, and none begins elsewhere
  pub nowhere_not : (ws : List ℕ) (i : ℕ) (ss : List Step) (j : ℕ) → ReadAs K s ws i ss j → Stops K s ws (Nowhere K s) → ⊥
  nowhere_not ws i ss j h t =
      let g = split t.front t.fault t.rest i ss j (subst (λ z. ReadAs K s z i ss j) t.whole h) in
      t.wrong (g.2, g.4)

  pub elsewhere_not : (ws : List ℕ) (i : ℕ) (ss : List Step) (j : ℕ) → ReadAs K s ws i ss j → Stops K s ws (Elsewhere K s) → ⊥
  elsewhere_not ws i ss j h t =
      let g = split t.front t.fault t.rest i ss j (subst (λ z. ReadAs K s z i ss j) t.whole h) in
      let st = t.wrong.1.0 in
      let e = same_end t.front t.first t.steps t.last i g.0 g.1 t.wrong.0 t.read g.3 in
      let a = reads_same t.fault g.2 st g.4 t.wrong.1.1 in
      t.wrong.1.2 (ap (start (plan K s)) (sym a) ∙ g.5 ∙ sym e.1)

  -- a walk that breaks does not stop at a word that names nothing
  pub clash : (ws : List ℕ) → Stops K s ws (Elsewhere K s) → Stops K s ws (Nowhere K s) → ⊥
  clash ws t u =
      ⊎_elim (λ h. u.wrong (st, subst (λ z. Reads K s z st) h.1 t.wrong.1.1))
      (λ o. ⊎_elim
      (λ h. let g = split u.front u.fault h.0 t.first t.steps t.last (subst (λ z. ReadAs K s z t.first t.steps t.last) h.1 t.read) in u.wrong (g.2, g.4))
      (λ h. let g = split t.front t.fault h.0 u.first u.steps u.last (subst (λ z. ReadAs K s z u.first u.steps u.last) h.1 u.read) in
      let e = same_end t.front t.first t.steps t.last u.first g.0 g.1 t.wrong.0 t.read g.3 in
      let a = reads_same t.fault g.2 st g.4 t.wrong.1.1 in
      t.wrong.1.2 (ap (start (plan K s)) (sym a) ∙ g.5 ∙ sym e.1)) o)
      (parts t.front u.front t.fault u.fault t.rest u.rest (sym t.whole ∙ u.whole)) where
        st : Step
        st = t.wrong.1.0

-- the words of a walk over standing links are read as its steps
pub words_read : (K : Quantities) (s : State K.Q) (among : ℕ → Type 0) → ((p : ℕ) → among p → Standing K s p) → (i : ℕ) (steps : List Step) (j : ℕ)
    → Walk (plan K s) among i steps j → ReadAs K s (map word steps) i steps j
words_read K s among stands i [] j w = w
words_read K s among stands i (st ∷ ss) j (e, a, w) = ((refl, stands (place st) a), e, words_read K s among stands (end (plan K s) st) ss j w)
