-- The way up from i turned round, a pointer at a time, so that i is the root of its tree.
use Rattle.std.proofs.Common.{◌≡◌, ℕ, List, [], ◌∷◌, Some, None, Option, sym, refl, ap, ◌∙◌, subst, inl, inr, arith}
use native.Mathlib.Decide.{ℕ_discrete}
use Rattle.std.specs.List.{AllByRecursion}
use Rattle.network.specs.Graph.{reverse, Graph, place, start, end, Joining, switches}
use Rattle.network.specs.declared.Step.{Step}
use Rattle.network.specs.declared.Step.TheVariants.{Forward, Backward}
use Rattle.network.specs.Climb.{Climb, Held, Forest}
use Rattle.network.proofs.Climb.{clash, one_step, one_climb, shorter_misses, other_misses, root_none}

start-reverse : (g : Graph) (s : Step) → start g (reverse s) ≡ end g s
start-reverse g (Forward p) = refl
start-reverse g (Backward p) = refl

end-reverse : (g : Graph) (s : Step) → end g (reverse s) ≡ start g s
end-reverse g (Forward p) = refl
end-reverse g (Backward p) = refl

place-reverse : (s : Step) → place (reverse s) ≡ place s
place-reverse (Forward p) = refl
place-reverse (Backward p) = refl

-- `up` with another step, o, at x
pub record Put (up up' : ℕ → Option Step) (x : ℕ) (o : Option Step) : Type 0 where
  pub there : up' x ≡ o
  pub elsewhere : (v : ℕ) → (v ≡ x → ⊥) → up' v ≡ up v

module _ (g : Graph) (up up' : ℕ → Option Step) (x : ℕ) (o : Option Step) (put : Put up up' x o) where
  pub kept : (v : ℕ) (ss : List Step) (r : ℕ) → Climb g up v ss r → AllByRecursion (λ y. y ≡ x → ⊥) (switches g v ss) → Climb g up' v ss r
  kept v [] r (a, b) (n, h) = (a, put.elsewhere v n ∙ b)
  kept v (s ∷ ss) r (a, b) (n, h) = (put.elsewhere v n ∙ a, kept (end g s) ss r b h)

  pub all_climb : (ts : List Step) (q : ℕ) → Climb g up' x ts q → (v : ℕ) (ss : List Step) (r : ℕ) → Climb g up v ss r → (us : List Step) × (t : ℕ) × Climb g up' v us t
  all_climb ts q c v [] r (a, b) = go (ℕ_discrete v x)
    where
      go : Dec (v ≡ x) → (us : List Step) × (t : ℕ) × Climb g up' v us t
      go (yes e) = (ts, q, subst (λ y. Climb g up' y ts q) (sym e) c)
      go (no n) = ([], v, (refl, put.elsewhere v n ∙ b))
  all_climb ts q c v (s ∷ ss) r (a, b) = go (ℕ_discrete v x) (all_climb ts q c (end g s) ss r b)
    where
      go : Dec (v ≡ x) → (us : List Step) × (t : ℕ) × Climb g up' (end g s) us t → (us : List Step) × (t : ℕ) × Climb g up' v us t
      go (yes e) y = (ts, q, subst (λ y. Climb g up' y ts q) (sym e) c)
      go (no n) (us, t, h) = (s ∷ us, t, (put.elsewhere v n ∙ a, h))

-- what has yet to be hung: x, under the end of the step `hang`; or nothing yet, at the start
abbrev pub Pending : Graph → ℕ → (ℕ → Option Step) → ℕ → ℕ → Option Step → Type 0
Pending g k up i x None = x ≡ i
Pending g k up i x (Some t) = (start g t ≡ x) × Joining g k (place t) × (up i ≡ None) × ((ss : List Step) × Climb g up (end g t) ss i) × ((r : ℕ) × ((ss : List Step) × Climb g up x ss r) × (r ≡ i → ⊥))

pub record Rerooting (g : Graph) (k : ℕ) (up : ℕ → Option Step) (i x : ℕ) (hang : Option Step) : Type 0 where
  pub points : (v : ℕ) (s : Step) → up v ≡ Some s → (start g s ≡ v) × Joining g k (place s)
  pub climbs : (v : ℕ) → (ss : List Step) × (r : ℕ) × Climb g up v ss r
  pub held : (p : ℕ) → Joining g k p → ((t : Step) → hang ≡ Some t → place t ≡ p → ⊥) → Held g up p
  pub pending : Pending g k up i x hang

pub begin : (g : Graph) (k : ℕ) (up : ℕ → Option Step) (i : ℕ) → Forest g k up → Rerooting g k up i i None
begin g k up i f = record { points = f.points; climbs = f.climbs; held = λ p j n. f.held p j; pending = refl }

holds : (g : Graph) (up : ℕ → Option Step) (x : ℕ) (t : Step) → up x ≡ Some t → start g t ≡ x → Held g up (place t)
holds g up x (Forward p) e s = inl (ap up s ∙ e)
holds g up x (Backward p) e s = inr (ap up s ∙ e)

module _ (g : Graph) (k : ℕ) (up up' : ℕ → Option Step) (i x : ℕ) where
  -- x climbs to i, once it is hung
  x_climbs : (hang : Option Step) → Pending g k up i x hang → Put up up' x hang → (ss : List Step) × Climb g up' x ss i
  x_climbs None e put = ([], (e, put.there))
  x_climbs (Some t) (s, j, n, (ss, c), (r, (ts, d), ne)) put = (t ∷ ss, (put.there, kept g up up' x (Some t) put (end g t) ss i c (other_misses g up x ts r d (end g t) ss i c (λ e. ne (sym e)))))

  root_kept : (hang : Option Step) → Pending g k up i x hang → Put up up' x hang → up' i ≡ None
  root_kept None e put = sym (ap up' e) ∙ put.there
  root_kept (Some t) (s, j, n, c, (r, (ts, d), ne)) put = put.elsewhere i (λ e. ne (one_climb g up x ts r [] i d (sym e, subst (λ v. up v ≡ None) e n)).1) ∙ n

  points_put : (hang : Option Step) → Pending g k up i x hang → Put up up' x hang → ((v : ℕ) (s : Step) → up v ≡ Some s → (start g s ≡ v) × Joining g k (place s)) → (v : ℕ) (s : Step) → up' v ≡ Some s → (start g s ≡ v) × Joining g k (place s)
  points_put hang w put f v s e = go hang w put (ℕ_discrete v x)
    where
      at_x : (hang : Option Step) → Pending g k up i x hang → hang ≡ Some s → (start g s ≡ x) × Joining g k (place s)
      at_x None w e = absurd (clash None s e refl)
      at_x (Some t) w e = subst (λ u. (start g u ≡ x) × Joining g k (place u)) (one_step (Some t) t s refl e) (w.0, w.1)

      go : (hang : Option Step) → Pending g k up i x hang → Put up up' x hang → Dec (v ≡ x) → (start g s ≡ v) × Joining g k (place s)
      go hang w put (no n) = f v s (sym (put.elsewhere v n) ∙ e)
      go hang w put (yes q) = let h = at_x hang w (sym put.there ∙ sym (ap up' q) ∙ e) in (h.0 ∙ sym q, h.1)

  -- a link that x did not hold is held as before
  held_else : (hang : Option Step) → Put up up' x hang → (p : ℕ) → ((s : Step) → up x ≡ Some s → place s ≡ p → ⊥) → Held g up p → Held g up' p
  held_else hang put p n (inl a) = inl (put.elsewhere (g.from p) (λ e. n (Forward p) (sym (ap up e) ∙ a) refl) ∙ a)
  held_else hang put p n (inr a) = inr (put.elsewhere (g.to p) (λ e. n (Backward p) (sym (ap up e) ∙ a) refl) ∙ a)

  held_put : (hang : Option Step) → Pending g k up i x hang → Put up up' x hang → (p : ℕ) → ((s : Step) → up x ≡ Some s → place s ≡ p → ⊥) → (((t : Step) → hang ≡ Some t → place t ≡ p → ⊥) → Held g up p) → Held g up' p
  held_put None w put p n h = held_else None put p n (h (λ t e q. clash None t e refl))
  held_put (Some t) w put p n h = go (ℕ_discrete (place t) p)
    where
      go : Dec (place t ≡ p) → Held g up' p
      go (yes q) = subst (Held g up') q (holds g up' x t put.there w.0)
      go (no ne) = held_else (Some t) put p n (h (λ u e q. ne (ap place (one_step (Some t) t u refl e) ∙ q)))

  module _ (hang : Option Step) (v : Rerooting g k up i x hang) (put : Put up up' x hang) where
    climbs_put : (w : ℕ) → (ss : List Step) × (r : ℕ) × Climb g up' w ss r
    climbs_put w = let c = x_climbs hang v.pending put in let b = v.climbs w in all_climb g up up' x hang put c.0 i c.1 w b.0 b.1 b.2

    -- the last turn
    pub ended : up x ≡ None → Forest g k up' × (up' i ≡ None)
    ended n = (record { points = points_put hang v.pending put v.points; climbs = climbs_put; held = λ p j. held_put hang v.pending put p (λ s e q. clash (up x) s e n) (λ y. v.held p j y) }, root_kept hang v.pending put)

    -- another turn
    far : (hang : Option Step) → Pending g k up i x hang → (s : Step) (ss : List Step) (r : ℕ) → up x ≡ Some s → Climb g up x ss r → r ≡ i → ⊥
    far None w s ss r e c q = clash (up x) s e (ap up (w ∙ sym q) ∙ root_none g up x ss r c)
    far (Some t) w s ss r e c q = w.4.2 ((one_climb g up x w.4.1.0 w.4.0 ss r w.4.1.1 c).1 ∙ q)

    pub turned : (s : Step) (ss : List Step) (r : ℕ) → up x ≡ Some s → Climb g up (end g s) ss r → Rerooting g k up' i (end g s) (Some (reverse s)) × Climb g up' (end g s) ss r
    turned s ss r e c =
        let c' : Climb g up' (end g s) ss r = kept g up up' x hang put (end g s) ss r c (shorter_misses g up x (s ∷ ss) r (e, c) (end g s) ss r c (omega arith)) in
        let m = v.points x s e in
        let y = x_climbs hang v.pending put in (
          record {
            points = points_put hang v.pending put v.points;
            climbs = climbs_put;
            held = λ p j n. held_put hang v.pending put p (λ t a q. n (reverse s) refl (place-reverse s ∙ ap place (one_step (up x) s t e a) ∙ q)) (λ z. v.held p j z);
            pending = (start-reverse g s, subst (Joining g k) (sym (place-reverse s)) m.1, root_kept hang v.pending put, (y.0, subst (λ w. Climb g up' w y.0 i) (sym m.0 ∙ sym (end-reverse g s)) y.1), (r, (ss, c'), far hang v.pending s (s ∷ ss) r e (e, c)));
          },
          c',
        )
