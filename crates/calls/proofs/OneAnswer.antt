-- At most one answer is right.
use Rattle.std.proofs.Common.{◌≡◌, ℕ, ◌<◌, ◌≤◌, Bool, true, false, cond, leb, ◌⊎◌, List, [], ◌∷◌, length, sym, refl, ap, ◌∙◌, subst, inl, inr, ⊎_elim, arith}
use Rattle.std.proofs.lemmas.Bool.{cases_eq, cases_lt, le-leb, lt-leb}
use Rattle.kind.specs.Meaning.{Meaning}
use Rattle.network.specs.Offsets.{Link, Carries}
use Rattle.network.specs.Theorems.{Theory}
use Rattle.network.specs.Theorems as theorems
use Rattle.network.specs.declared.Step.{Step}
use Rattle.network.specs.declared.Step.TheVariants.{Forward, Backward}
use Rattle.network.proofs.Lists.{theory}
use Rattle.network.proofs.Sums.{sums}
use Rattle.calls.specs.declared.Refusal.{Refusal}
use Rattle.calls.specs.declared.Refusal.TheVariants.{Contradicts}
use Rattle.calls.specs.State.{State, Call, SIZE, LINK, STRIKE, OFFSET, OFFSETS, REALISE, WALK, ISSUE, RECALL, Answer, done, total, totals, refused, Check, First, Passes}
use Rattle.calls.specs.Standing.{link, Standing, Linked, Lowest, ReadAs, measured, wanted, Back}
use Rattle.calls.specs.Calls.{checks, Right, yields, turned_down, Value, sized, entered, struck, issued, recalled, apart, carried, least, walked}
use Rattle.calls.specs.OneAnswer.{Same, same, same_inside, same_loop}
use Rattle.calls.proofs.Reading.{same_end}

step_cases : (a b : Step) → (a ≡ b) ⊎ (a ≡ b → ⊥)
step_cases (Forward p) (Forward q) = ⊎_elim (λ e. inl (ap Forward e)) (λ n. inr (λ e. n (cc))) (cases_eq p q)
step_cases (Backward p) (Backward q) = ⊎_elim (λ e. inl (ap Backward e)) (λ n. inr (λ e. n (cc))) (cases_eq p q)
step_cases (Forward p) (Backward q) = inr (λ e. let z : ◌≡◌ {A = ℕ} 0 1 = cc in absurd (omega arith))
step_cases (Backward p) (Forward q) = inr (λ e. let z : ◌≡◌ {A = ℕ} 0 1 = cc in absurd (omega arith))

steps_cases : (a b : List Step) → (a ≡ b) ⊎ (a ≡ b → ⊥)
steps_cases [] [] = inl refl
steps_cases [] (y ∷ ys) = inr (λ e. let z : ◌≡◌ {A = ℕ} 0 1 = cc in absurd (omega arith))
steps_cases (x ∷ xs) [] = inr (λ e. let z : ◌≡◌ {A = ℕ} 0 1 = cc in absurd (omega arith))
steps_cases (x ∷ xs) (y ∷ ys) =
    ⊎_elim (λ e. ⊎_elim (λ f. inl (cc)) (λ n. inr (λ f. n (cc))) (steps_cases xs ys)) (λ n. inr (λ e. n (cc))) (step_cases x y)

-- what a check shows is the same, up to the loop
abbrev Agree : (Q : Type 0) → ℕ → List Check → Type 0
Agree Q n [] = Unit {0}
Agree Q n (x ∷ xs) = ((ss ts : List Step) → x.shows ss → x.shows ts → Same {Q = Q} n (refused x.refusal ss) (refused x.refusal ts)) × Agree Q n xs

plainly : (Q : Type 0) (n : ℕ) (e : Refusal) (ss ts : List Step) → ss ≡ [] → ts ≡ [] → Same {Q = Q} n (refused e ss) (refused e ts)
plainly Q n e ss ts a b = subst (λ z. Same {Q = Q} n (refused e ss) (refused e z)) (a ∙ sym b) (same (refused e ss))

passes_first : (xs : List Check) (e : Refusal) (ss : List Step) → Passes xs → First xs e ss → ⊥
passes_first [] e ss p f = f
passes_first (x ∷ xs) e ss p (inl h) = p.0 h.1
passes_first (x ∷ xs) e ss p (inr h) = passes_first xs e ss p.1 h.1

first_same : (Q : Type 0) (n : ℕ) (xs : List Check) (e f : Refusal) (ss ts : List Step) → Agree Q n xs → First xs e ss → First xs f ts → Same {Q = Q} n (refused e ss) (refused f ts)
first_same Q n [] e f ss ts g a b = absurd a
first_same Q n (x ∷ xs) e f ss ts g (inl a) (inl b) =
    subst (λ z. Same {Q = Q} n (refused z ss) (refused f ts)) a.0 (subst (λ z. Same {Q = Q} n (refused x.refusal ss) (refused z ts)) b.0 (g.0 ss ts a.2 b.2))
first_same Q n (x ∷ xs) e f ss ts g (inl a) (inr b) = absurd (b.0 a.1)
first_same Q n (x ∷ xs) e f ss ts g (inr a) (inl b) = absurd (a.0 b.1)
first_same Q n (x ∷ xs) e f ss ts g (inr a) (inr b) = first_same Q n xs e f ss ts g.1 a.1 b.1

module _ {L T : Type 0} (M : Meaning L T) where
  abbrev Q : Type 0
  Q = M.quantities.Q

  module _ (s : State M.quantities.Q) where
    back_same : (l : Link Q) (ss ts : List Step) → Back M.quantities s l ss → Back M.quantities s l ts → ss ≡ ts
    back_same l ss ts a b =
        ⊎_elim (λ e. e)
        (λ ne.
        let no : Linked M.quantities s l.to l.from → ⊥ = λ h. ne ((theory M.quantities s.links).one_path l.to l.from ss ts (a.0 h) (b.0 h)) in
        a.1 no ∙ sym (b.1 no))
        (steps_cases ss ts)

    agree : (c : Call Q) → Agree Q s.n (checks M s c)
    agree (SIZE n) = (plainly _ _ _, (plainly _ _ _, (plainly _ _ _, tt)))
    agree (LINK l rows) = (plainly _ _ _, (plainly _ _ _, (plainly _ _ _, (plainly _ _ _, (plainly _ _ _, (plainly _ _ _, ((λ ss ts a b. subst (λ z. Same {Q = Q} s.n (refused Contradicts ss) (refused Contradicts z)) (back_same l ss ts a b) (same (refused Contradicts ss))), tt)))))))
    agree (STRIKE i j) = (plainly _ _ _, (plainly _ _ _, (plainly _ _ _, tt)))
    agree (OFFSET i j rows) = (plainly _ _ _, (plainly _ _ _, (plainly _ _ _, (plainly _ _ _, tt))))
    agree (OFFSETS rows) = (plainly _ _ _, (plainly _ _ _, tt))
    agree (REALISE rows) = (plainly _ _ _, (plainly _ _ _, ((λ ss ts a b. same_loop ss ts), tt)))
    agree (WALK words) = (plainly _ _ _, (plainly _ _ _, (plainly _ _ _, tt)))
    agree ISSUE = (plainly _ _ _, tt)
    agree RECALL = (plainly _ _ _, tt)

    -- the ends of the links are switches of the book, and each position has a word of its own
    abbrev Kept : Type 0
    Kept = ((p : ℕ) → Standing M.quantities s p → ((link M.quantities s p).from ≤ s.n) × ((link M.quantities s p).to ≤ s.n)) × (length s.links ≤ 8192)

    -- offsets that are zero past the last switch
    abbrev cut : (ℕ → Q) → ℕ → Q
    cut c v = cond (leb v s.n) (c v) M.quantities.zero

    cut_in : (c : ℕ → Q) (v : ℕ) → v ≤ s.n → cut c v ≡ c v
    cut_in c v h = ap (λ z. cond z (c v) M.quantities.zero) (le-leb v s.n h)

    cut_out : (c : ℕ → Q) (v : ℕ) → s.n < v → cut c v ≡ M.quantities.zero
    cut_out c v h = ap (λ z. cond z (c v) M.quantities.zero) (lt-leb v s.n h)

    cut_carries : Kept → (c : ℕ → Q) → Carries M.quantities c s.links → Carries M.quantities (cut c) s.links
    cut_carries k c h p st =
        let l = link M.quantities s p in
        let plus = M.quantities.plus in
        let i = k.0 p st in
        h p st ∙ ap (λ z. plus (plus l.measured z) (M.quantities.minus (c l.from))) (sym (cut_in c l.to i.1)) ∙ ap (λ z. plus (plus l.measured (cut c l.to)) (M.quantities.minus z)) (sym (cut_in c l.from i.0))

    cut_lowest : (c : ℕ → Q) → ((v : ℕ) → Lowest M.quantities s v → c v ≡ M.quantities.zero) → (v : ℕ) → theorems.Lowest M.quantities s.links v → cut c v ≡ M.quantities.zero
    cut_lowest c h v l = ⊎_elim (λ (g : s.n < v). cut_out c v g) (λ (g : v ≤ s.n). cut_in c v g ∙ h v (l.0, g, l.1)) (cases_lt s.n v)

    grounded : Kept → (c b : ℕ → Q) → Carries M.quantities c s.links → Carries M.quantities b s.links
        → ((v : ℕ) → Lowest M.quantities s v → c v ≡ M.quantities.zero) → ((v : ℕ) → Lowest M.quantities s v → b v ≡ M.quantities.zero) → (v : ℕ) → 1 ≤ v → v ≤ s.n → c v ≡ b v
    grounded k c b x y f g v l h =
        sym (cut_in c v h) ∙ (theory M.quantities s.links).one_grounded (cut c) (cut b) (cut_carries k c x) (cut_carries k b y) (cut_lowest c f) (cut_lowest b g) v l ∙ cut_in b v h

    level : M.ordered ≡ true → (x y : Q) → M.below (M.quantities.plus x (M.quantities.minus y)) ≡ false → M.below (M.quantities.plus y (M.quantities.minus x)) ≡ false → x ≡ y
    level o x y a b =
        let plus = M.quantities.plus in
        let minus = M.quantities.minus in
        let turn : minus (plus x (minus y)) ≡ plus y (minus x) = simp (sums) in
        let z = (M.order o).three (plus x (minus y)) a (ap M.below turn ∙ b) in
        let same : plus (plus x (minus y)) y ≡ x = simp (sums) in
        sym same ∙ ap (λ q. plus q y) z ∙ M.quantities.laws.left y

    read_same : Kept → (ws : List ℕ) (i : ℕ) (ss : List Step) (j l : ℕ) (ts : List Step) (k : ℕ) → ReadAs M.quantities s ws i ss j → ReadAs M.quantities s ws l ts k → ss ≡ ts
    read_same h [] i [] j l [] k a b = refl
    read_same h [] i [] j l (y ∷ ts) k a b = absurd b
    read_same h ws i (x ∷ ss) j l ts k a b = (same_end M.quantities s h.1 ws i (x ∷ ss) j l ts k (omega arith) a b).0
    read_same h (w ∷ ws) i [] j l ts k a b = absurd a

    ordered_true : (b : Bool) → (b ≡ false → ⊥) → b ≡ true
    ordered_true true h = refl
    ordered_true false h = absurd (h refl)

    value_same : Kept → (c : Call Q) (a b : Answer Q) → Passes (checks M s c) → Value M s c a → Value M s c b → Same s.n a b
    value_same k _ _ _ p (sized n) (sized _) = same done
    value_same k _ _ _ p (entered l rows f) (entered _ _ g) = same done
    value_same k _ _ _ p (struck i j) (struck _ _) = same done
    value_same k _ _ _ p issued issued = same done
    value_same k _ _ _ p recalled recalled = same done
    value_same k _ _ _ p (apart i j rows q f l h) (apart _ _ _ r g m e) = subst (λ z. Same {Q = Q} s.n (total q) (total z)) (sym (h f.0 f.1) ∙ e f.0 f.1) (same (total q))
    value_same k _ _ _ p (carried rows c x f) (carried _ b y g) = same_inside c b (grounded k c b x y f g)
    value_same k _ _ _ p (least rows c x f) (least _ b y g) =
        same_inside c b (λ v l h. level (ordered_true M.ordered p.0) (c v) (b v) (g c x v l h) (f b y v l h))
    value_same k _ _ _ p (walked words i j ss x) (walked _ l m ts y) =
        subst (λ z. Same {Q = Q} s.n (totals (measured M.quantities s ss) (wanted M.quantities s ss)) (totals (measured M.quantities s z) (wanted M.quantities s z))) (read_same k words i ss j l ts m x y) (same _)

    pub right_same : Kept → (c : Call Q) (a b : Answer Q) → Right M s c a → Right M s c b → Same s.n a b
    right_same k c _ _ (yields a p v) (yields b q w) = value_same k c a b p v w
    right_same k c _ _ (yields a p v) (turned_down e ss f) = absurd (passes_first (checks M s c) e ss p f)
    right_same k c _ _ (turned_down e ss f) (yields a p v) = absurd (passes_first (checks M s c) e ss p f)
    right_same k c _ _ (turned_down e ss f) (turned_down d ts g) = first_same Q s.n (checks M s c) e d ss ts (agree c) f g
