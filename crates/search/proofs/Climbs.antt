-- Climbing and turning in a forest whose links lie among n switches.
use Rattle.std.proofs.Common.{◌≡◌, ℕ, zero, suc, ◌-◌, ◌<◌, ◌≤◌, List, [], ◌∷◌, length, get_or, set, Some, None, Option, sym, refl, ap, ◌∙◌, subst, arith, get_or-set_other, get_or-set_same}
use Rattle.std.specs.List.{AllByRecursion}
use Rattle.network.specs.declared.Step.{Step}
use Rattle.network.specs.declared.Step.TheVariants.{Forward, Backward}
use Rattle.network.specs.Graph.{Graph, place, start, end, reverse, Connected, Upto, Joining, switches}
use Rattle.network.specs.Climb.{Climb, Forest}
use Rattle.network.specs.Climb.{ups}
use Rattle.network.proofs.Graph.{ahead, trans}
use Rattle.network.proofs.Climb.{climb_distinct}
use Rattle.network.proofs.Turning.{Put, Rerooting, turned, ended}
use Rattle.network.proofs.Count.{pigeons, climb_ups}
use Rattle.network.specs.Words.{decode}
use Rattle.search.specs.Parents.{parents}
use Rattle.search.specs.Records.{On}
use Rattle.search.proofs.Wiring.{Wired, end_on}

pub ups_at : (row : List ℕ) (x : ℕ) → 1 ≤ x → parents row x ≡ decode (get_or row (x - 1) 0)
ups_at row zero h = absurd (omega arith)
ups_at row (suc x) h = let q : x ≡ suc x - 1 = omega arith in ap (λ i. decode (get_or row i 0)) q

pub put_word : (row : List ℕ) (x w : ℕ) → On (length row) x → Put (parents row) (parents (set row (x - 1) w)) x (decode w)
put_word row x w o = record { there = ups_at (set row (x - 1) w) x o.0 ∙ ap decode (get_or-set_same row (x - 1) w 0 (omega (arith, o.0, o.1))); elsewhere = other }
  where
    other : (v : ℕ) → (v ≡ x → ⊥) → parents (set row (x - 1) w) v ≡ parents row v
    other zero n = refl
    other (suc v) n = ap decode (get_or-set_other row (x - 1) v w 0 (λ e. n (omega (arith, o.0))))

length-switches : (g : Graph) (v : ℕ) (ss : List Step) → length (switches g v ss) ≡ suc (length ss)
length-switches g v [] = refl
length-switches g v (s ∷ ss) = ap suc (length-switches g (end g s) ss)

module _ (g : Graph) (k n : ℕ) (z : Wired g k n) where
  module _ (up : ℕ → Option Step) (points : (v : ℕ) (s : Step) → up v ≡ Some s → (start g s ≡ v) × Joining g k (place s)) where
    low : (v : ℕ) (ss : List Step) (r : ℕ) → Climb g up v ss r → On n v → AllByRecursion (λ y. y < suc n) (switches g v ss) × AllByRecursion (λ y. y ≡ 0 → ⊥) (switches g v ss)
    low v [] r c o = ((omega arith, tt), (λ e. omega arith, tt))
    low v (s ∷ ss) r (e, c) o = let h = low (end g s) ss r c (end_on g k n z s (points v s e).1) in ((omega arith, h.0), (λ e. omega arith, h.1))

    -- fewer steps up than switches
    pub climb_short : (v : ℕ) (ss : List Step) (r : ℕ) → Climb g up v ss r → On n v → length ss < n
    climb_short v ss r c o =
        let h = low v ss r c o in
        let p : length (0 ∷ switches g v ss) ≤ suc n = pigeons (suc n) (0 ∷ switches g v ss) (h.1, climb_distinct g up v ss r c) (omega arith, h.0) in
        omega (arith, p, length-switches g v ss)

    pub ups_are : (v : ℕ) (ss : List Step) (r : ℕ) → Climb g up v ss r → On n v → ups g up n v ≡ ss
    ups_are v ss r c l = climb_ups g up n v ss r c (let h = climb_short v ss r c l in omega arith)

  -- one round of the loop that turns a way up
  module _ (i : ℕ) (up up' : ℕ → Option Step) (x : ℕ) (hang : Option Step) (v : Rerooting g k up i x hang) (put : Put up up' x hang) (l : On n x) where
    pub again : (s : Step) → up x ≡ Some s → Rerooting g k up' i (end g s) (Some (reverse s)) × On n (end g s)
    again s e =
        let c = v.climbs (end g s) in
        ((turned g k up up' i x hang v put s c.0 c.1 e c.2).0, end_on g k n z s (v.points x s e).1)

    pub fewer : (s : Step) → up x ≡ Some s → length (ups g up' n (end g s)) < length (ups g up n x)
    fewer s e =
        let c = v.climbs (end g s) in
        let m = turned g k up up' i x hang v put s c.0 c.1 e c.2 in
        let w = end_on g k n z s (v.points x s e).1 in
        let old : ups g up n x ≡ s ∷ c.0 = ups_are up v.points x (s ∷ c.0) c.1 (e, c.2) l in
        let new : ups g up' n (end g s) ≡ c.0 = ups_are up' m.0.points (end g s) c.0 c.1 m.1 w in
        let o : length (ups g up n x) ≡ suc (length c.0) = ap length old in
        let f : length (ups g up' n (end g s)) ≡ length c.0 = ap length new in
        omega (arith, o, f)

    pub done : up x ≡ None → Forest g k up' × (up' i ≡ None)
    done e = ended g k up up' i x hang v put e

  -- one step up
  module _ (up : ℕ → Option Step) (f : Forest g k up) (x : ℕ) (l : On n x) (s : Step) (e : up x ≡ Some s) where
    pub up_on : On n (end g s)
    up_on = end_on g k n z s (f.points x s e).1

    pub up_less : length (ups g up n (end g s)) < length (ups g up n x)
    up_less =
        let c = f.climbs (end g s) in
        let old : ups g up n x ≡ s ∷ c.0 = ups_are up f.points x (s ∷ c.0) c.1 (e, c.2) l in
        let new : ups g up n (end g s) ≡ c.0 = ups_are up f.points (end g s) c.0 c.1 c.2 up_on in
        let o : length (ups g up n x) ≡ suc (length c.0) = ap length old in
        let h : length (ups g up n (end g s)) ≡ length c.0 = ap length new in
        omega (arith, o, h)

place-reverse : (s : Step) → place (reverse s) ≡ place s
place-reverse (Forward p) = refl
place-reverse (Backward p) = refl

-- the same over a row of step words
module _ (g : Graph) (k n : ℕ) (z : Wired g k n) (few : k ≤ 8192) (i : ℕ) (row : List ℕ) (same : length row ≡ n) (x hang : ℕ) (v : Rerooting g k (parents row) i x (decode hang)) (o : On n x) where
  put_here : Put (parents row) (parents (set row (x - 1) hang)) x (decode hang)
  put_here = put_word row x hang (o.0, omega (arith, o.1))

  -- the word read at x is its step up
  pub word_is : (s : Step) → Some s ≡ decode (get_or row (x - 1) 0) → parents row x ≡ Some s
  word_is s e = ups_at row x o.0 ∙ sym e

  pub joining_here : (s : Step) → Some s ≡ parents row x → Joining g k (place s)
  joining_here s e = (v.points x s (sym e)).1

  pub low_turned : (s t : Step) → Some s ≡ parents row x → t ≡ reverse s → place t ≤ 8192
  low_turned s t e q = let j = joining_here s e in let r : place t ≡ place s = ap place q ∙ place-reverse s in omega (arith, j.1)

  pub row_again : (s t : Step) (w y : ℕ) → Some s ≡ parents row x → t ≡ reverse s → decode w ≡ Some t → y ≡ end g s → Rerooting g k (parents (set row (x - 1) hang)) i y (decode w) × On n y
  row_again s t w y e q d p =
      let a = again g k n z i (parents row) (parents (set row (x - 1) hang)) x (decode hang) v put_here o s (sym e) in (
        subst (λ y. Rerooting g k (parents (set row (x - 1) hang)) i y (decode w)) (sym p) (subst (Rerooting g k (parents (set row (x - 1) hang)) i (end g s)) (sym (d ∙ ap Some q)) a.0),
        subst (On n) (sym p) a.1,
      )

  pub row_fewer : (s : Step) (y : ℕ) → Some s ≡ parents row x → y ≡ end g s → length (ups g (parents (set row (x - 1) hang)) n y) < length (ups g (parents row) n x)
  row_fewer s y e p = subst (λ y. length (ups g (parents (set row (x - 1) hang)) n y) < length (ups g (parents row) n x)) (sym p) (fewer g k n z i (parents row) (parents (set row (x - 1) hang)) x (decode hang) v put_here o s (sym e))

  pub row_done : None ≡ parents row x → Forest g k (parents (set row (x - 1) hang)) × (parents (set row (x - 1) hang) i ≡ None)
  row_done e = done g k n z i (parents row) (parents (set row (x - 1) hang)) x (decode hang) v put_here o (sym e)

  -- all that is written belongs to i's group
  module _ (c : Connected g (Upto k) i x) where
    pub row_near : (s : Step) (y : ℕ) → Some s ≡ parents row x → y ≡ end g s → Connected g (Upto k) i y
    row_near s y e p =
        let j = v.points x s (sym e) in
        subst (Connected g (Upto k) i) (sym p) (trans g (Upto k) i x (end g s) c (subst (λ u. Connected g (Upto k) u (end g s)) j.0 (ahead g (Upto k) s (j.1.0, j.1.1))))

    pub row_others : (u : ℕ) → (Connected g (Upto k) i u → ⊥) → parents (set row (x - 1) hang) u ≡ parents row u
    row_others u d = put_here.elsewhere u (λ e. d (subst (Connected g (Upto k) i) (sym e) c))
