-- Labels that tell what is connected, as links are added.
use Rattle.std.proofs.Common.{◌≡◌, ℕ, suc, ◌⊎◌, sym, ◌∙◌, subst, inl, inr}
use native.Mathlib.Decide.{ℕ_discrete}
use Rattle.network.specs.Graph.{Graph, place, start, end, Connected, Upto}
use Rattle.network.specs.declared.Step.{Step}
use Rattle.network.specs.declared.Step.TheVariants.{Forward, Backward}
use Rattle.network.proofs.Graph.{Near, Through, through, unthrough, none, widen, same, trans, back}
use Rattle.search.specs.Records.{On}
use Rattle.search.specs.Joined.{Labelled}

pub apart : (g : Graph) (n : ℕ) (l : ℕ → ℕ) → ((v : ℕ) → On n v → l v ≡ v) → Labelled g 0 n l
apart g n l f u v a b = (λ e. same g (Upto 0) u v (sym (f u a) ∙ e ∙ f v b), λ c. f u a ∙ none g u c.0 v c.1 ∙ sym (f v b))

-- by the step s over the last link, either way
abbrev Over : Graph → ℕ → Step → ℕ → ℕ → Type 0
Over g k s u v = Near g k u v ⊎ ((Near g k u (start g s) × Near g k (end g s) v) ⊎ (Near g k u (end g s) × Near g k (start g s) v))

over : (g : Graph) (k : ℕ) (s : Step) (u v : ℕ) → place s ≡ suc k → Through g k u v → Over g k s u v
over g k s u v e (inl c) = inl c
over g k (Forward p) u v e (inr (inl (a, b))) = inr (inl (subst (λ q. Near g k u (g.from q)) (sym e) a, subst (λ q. Near g k (g.to q) v) (sym e) b))
over g k (Forward p) u v e (inr (inr (a, b))) = inr (inr (subst (λ q. Near g k u (g.to q)) (sym e) a, subst (λ q. Near g k (g.from q) v) (sym e) b))
over g k (Backward p) u v e (inr (inl (a, b))) = inr (inr (subst (λ q. Near g k u (g.from q)) (sym e) a, subst (λ q. Near g k (g.to q) v) (sym e) b))
over g k (Backward p) u v e (inr (inr (a, b))) = inr (inl (subst (λ q. Near g k u (g.to q)) (sym e) a, subst (λ q. Near g k (g.from q) v) (sym e) b))

unover : (g : Graph) (k : ℕ) (s : Step) (u v : ℕ) → place s ≡ suc k → Over g k s u v → Near g (suc k) u v
unover g k s u v e (inl c) = unthrough g k u v (inl c)
unover g k (Forward p) u v e (inr (inl (a, b))) = unthrough g k u v (inr (inl (subst (λ q. Near g k u (g.from q)) e a, subst (λ q. Near g k (g.to q) v) e b)))
unover g k (Forward p) u v e (inr (inr (a, b))) = unthrough g k u v (inr (inr (subst (λ q. Near g k u (g.to q)) e a, subst (λ q. Near g k (g.from q) v) e b)))
unover g k (Backward p) u v e (inr (inl (a, b))) = unthrough g k u v (inr (inr (subst (λ q. Near g k u (g.to q)) e a, subst (λ q. Near g k (g.from q) v) e b)))
unover g k (Backward p) u v e (inr (inr (a, b))) = unthrough g k u v (inr (inl (subst (λ q. Near g k u (g.from q)) e a, subst (λ q. Near g k (g.to q) v) e b)))

-- a link whose ends are connected already
pub stay : (g : Graph) (k n : ℕ) (l : ℕ → ℕ) → Labelled g k n l → Connected g (Upto k) (g.from (suc k)) (g.to (suc k)) → Labelled g (suc k) n l
stay g k n l h c u v a b = (λ e. widen g k u v ((h u v a b).0 e), λ d. go (through g k u d.0 v d.1))
  where
    go : Through g k u v → l u ≡ l v
    go (inl x) = (h u v a b).1 x
    go (inr (inl (x, y))) = (h u v a b).1 (trans g (Upto k) u (g.from (suc k)) v x (trans g (Upto k) (g.from (suc k)) (g.to (suc k)) v c y))
    go (inr (inr (x, y))) = (h u v a b).1 (trans g (Upto k) u (g.to (suc k)) v x (trans g (Upto k) (g.to (suc k)) (g.from (suc k)) v (back g (Upto k) (g.from (suc k)) (g.to (suc k)) c) y))

-- a joining link: what had its start's label takes its end's
pub merge : (g : Graph) (k n : ℕ) (l m : ℕ → ℕ) (s : Step) → place s ≡ suc k → On n (start g s) → On n (end g s) → Labelled g k n l
    → ((v : ℕ) → On n v → (l v ≡ l (start g s) → m v ≡ l (end g s)) × ((l v ≡ l (start g s) → ⊥) → m v ≡ l v)) → Labelled g (suc k) n m
merge g k n l m s e os oe h f u v a b = (λ q. ahead q (ℕ_discrete (l u) (l (start g s))) (ℕ_discrete (l v) (l (start g s))), λ d. down (over g k s u v e (through g k u d.0 v d.1)))
  where
    ahead : m u ≡ m v → Dec (l u ≡ l (start g s)) → Dec (l v ≡ l (start g s)) → Near g (suc k) u v
    ahead q (yes x) (yes y) = widen g k u v ((h u v a b).0 (x ∙ sym y))
    ahead q (yes x) (no y) = unover g k s u v e (inr (inl ((h u (start g s) a os).0 x, (h (end g s) v oe b).0 (sym ((f u a).0 x) ∙ q ∙ (f v b).1 y))))
    ahead q (no x) (yes y) = unover g k s u v e (inr (inr ((h u (end g s) a oe).0 (sym ((f u a).1 x) ∙ q ∙ (f v b).0 y), (h (start g s) v os b).0 (sym y))))
    ahead q (no x) (no y) = widen g k u v ((h u v a b).0 (sym ((f u a).1 x) ∙ q ∙ (f v b).1 y))

    alike : l u ≡ l v → Dec (l v ≡ l (start g s)) → m u ≡ m v
    alike q (yes y) = (f u a).0 (q ∙ y) ∙ sym ((f v b).0 y)
    alike q (no y) = (f u a).1 (λ x. y (sym q ∙ x)) ∙ q ∙ sym ((f v b).1 y)

    to_end : (w : ℕ) → On n w → l w ≡ l (end g s) → Dec (l w ≡ l (start g s)) → m w ≡ l (end g s)
    to_end w o q (yes y) = (f w o).0 y
    to_end w o q (no y) = (f w o).1 y ∙ q

    down : Over g k s u v → m u ≡ m v
    down (inl c) = alike ((h u v a b).1 c) (ℕ_discrete (l v) (l (start g s)))
    down (inr (inl (x, y))) = (f u a).0 ((h u (start g s) a os).1 x) ∙ sym (to_end v b (sym ((h (end g s) v oe b).1 y)) (ℕ_discrete (l v) (l (start g s))))
    down (inr (inr (x, y))) = to_end u a ((h u (end g s) a oe).1 x) (ℕ_discrete (l u) (l (start g s))) ∙ sym ((f v b).0 (sym ((h (start g s) v os b).1 y)))
