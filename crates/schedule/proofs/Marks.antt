-- Going back with a mark on each switch, and writing the steps of the circle that it comes to.
use Rattle.std.proofs.Common.{◌≡◌, ℕ, zero, suc, ◌+◌, ◌-◌, ◌<◌, ◌≤◌, List, [], ◌∷◌, map, length, take, drop, set, sym, refl, ap, ◌∙◌, subst, inl, inr, add-one, arith}
use Rattle.std.specs.List.{AllByRecursion}
use Rattle.std.proofs.lemmas.List.{get_or-set_same, get_or-set_other, drop-set, drop-set-lt}
use Rattle.std.proofs.lemmas.Bool.{cases_eq}
use Rattle.network.specs.declared.Step.TheVariants.{Forward}
use Rattle.network.specs.Graph.{Graph, Distinct}
use Rattle.network.specs.Words.{word}
use Rattle.network.proofs.Count.{pigeons}
use Rattle.search.specs.Records.{On}
use Rattle.search.specs.Written.{Written}
use Rattle.search.proofs.Wiring.{Wired}
use Rattle.schedule.specs.Rounds.{back, trail}
use Rattle.schedule.specs.Rows.{entry, Traced, Circle}
use Rattle.schedule.proofs.Looping.{back_add, trail_length}

-- the first m values of f, the last one first
listed : (ℕ → ℕ) → ℕ → List ℕ
listed f zero = []
listed f (suc m) = f m ∷ listed f m

module _ (f : ℕ → ℕ) where
  all_listed : (P : ℕ → Type 0) (m : ℕ) → ((i : ℕ) → i < m → P (f i)) → AllByRecursion P (listed f m)
  unfolding listed
  all_listed P zero h = tt
  all_listed P (suc m) h = (h m (omega arith), all_listed P m (λ i l. h i (omega arith)))

  apart_listed : (m : ℕ) → ((i j : ℕ) → i < j → j < m → f i ≡ f j → ⊥) → Distinct (listed f m)
  unfolding listed
  apart_listed zero d = tt
  apart_listed (suc m) d = (all_listed (λ y. y ≡ f m → ⊥) m (λ i l. d i m l (omega arith)), apart_listed m (λ i j h l. d i j h (omega arith)))

  length-listed : (m : ℕ) → length (listed f m) ≡ m
  unfolding listed
  length-listed zero = refl
  length-listed (suc m) = ap suc (length-listed m)

  -- n switches are not more
  few : (n m : ℕ) → ((i : ℕ) → i < m → On n (f i)) → ((i j : ℕ) → i < j → j < m → f i ≡ f j → ⊥) → m ≤ n
  few n m o d =
      let q : length (0 ∷ listed f m) ≤ suc n =
      pigeons (suc n) (0 ∷ listed f m) (all_listed (λ y. y ≡ 0 → ⊥) m (λ i l e. omega (arith, (o i l).0)), apart_listed m d) (omega arith, all_listed (λ y. y < suc n) m (λ i l. omega (arith, (o i l).1))) in
      omega (arith, q, length-listed m)

-- t switches back from v are marked, in the order in which they were passed, and u is next
pub record Marked (g : Graph) (n : ℕ) (pred : ℕ → ℕ) (v : ℕ) (marks : List ℕ) (t u : ℕ) : Type 0 where
  pub low : t ≤ n
  pub here : u ≡ back g pred v t
  pub put : (i : ℕ) → i < t → entry marks (back g pred v i) ≡ i + 1
  pub came : (x : ℕ) → On n x → 1 ≤ entry marks x → (entry marks x ≤ t) × (back g pred v (entry marks x - 1) ≡ x)

module _ (g : Graph) (count n : ℕ) (wired : Wired g count n) (pred : ℕ → ℕ) (v : ℕ) (o : On n v) (traced : Traced g count n pred v) where
  back_on : (t : ℕ) → t ≤ n → On n (back g pred v t)
  back_on zero h = o
  back_on (suc t) h = let a = traced t (omega arith) in (wired (pred (back g pred v t)) a.0 a.1).0

  module _ (marks : List ℕ) (t u : ℕ) (H : Marked g n pred v marks t u) where
    pub on : On n u
    on = subst (On n) (sym H.here) (back_on t H.low)

    apart : (i j : ℕ) → i < j → j < t → back g pred v i ≡ back g pred v j → ⊥
    apart i j h l e = let a = H.put i (omega arith) in let b = H.put j l in let c = ap (entry marks) e in omega arith

    fresh : entry marks u ≡ 0 → (i : ℕ) → i < t → back g pred v i ≡ u → ⊥
    fresh z i l e = let a = H.put i l in let c = ap (entry marks) e in omega arith

    -- a switch without a mark is one more, so fewer than n were passed
    pub room : entry marks u ≡ 0 → t < n
    room z =
        few (back g pred v) n (suc t) (λ i l. back_on i (let q = H.low in omega arith))
        (λ i j h l e. elim (cases_eq j t) [ inl q ↦ fresh z i (omega arith) (e ∙ ap (back g pred v) q ∙ sym H.here) | inr q ↦ apart i j h (omega arith) e ])

    pub there : entry marks u ≡ 0 → (1 ≤ pred u) × (pred u ≤ count)
    there z = subst (λ x. (1 ≤ pred x) × (pred x ≤ count)) (sym H.here) (traced t (room z))

    module _ (z : entry marks u ≡ 0) (l : u - 1 < length marks) where
      same : (x : ℕ) → x ≡ u → entry (set marks (u - 1) (t + 1)) x ≡ t + 1
      same x e = ap (entry (set marks (u - 1) (t + 1))) e ∙ get_or-set_same marks (u - 1) (t + 1) 0 l

      other : (x : ℕ) → On n x → (x ≡ u → ⊥) → entry (set marks (u - 1) (t + 1)) x ≡ entry marks x
      other x a d = get_or-set_other marks (u - 1) (x - 1) (t + 1) 0 (λ e. let b = on in d (omega (arith, a.0, b.0)))

      pub mark : (y : ℕ) → y ≡ g.from (pred u) → Marked g n pred v (set marks (u - 1) (t + 1)) (t + 1) y
      mark y e =
          record {
            low = let r = room z in omega arith;
            here = e ∙ ap (λ x. g.from (pred x)) H.here ∙ ap (back g pred v) (sym (add-one t));
            put = λ i h. elim (cases_eq i t) [
              | inl q ↦ same (back g pred v i) (ap (back g pred v) q ∙ sym H.here) ∙ ap (λ x. x + 1) (sym q)
              | inr q ↦ other (back g pred v i) (back_on i (let r = room z in omega arith)) (fresh z i (omega arith)) ∙ H.put i (omega arith)
            ];
            came = λ x a h. elim (cases_eq x u) [
              | inl q ↦
                  let f = same x q in
                  (omega arith, ap (back g pred v) (let b : entry (set marks (u - 1) (t + 1)) x - 1 ≡ t = omega arith in b) ∙ sym H.here ∙ sym q)
              | inr q ↦
                  let f = other x a q in
                  let b = H.came x a (omega arith) in
                  (omega (arith, b.0), ap (λ y. back g pred v (y - 1)) f ∙ b.1)
            ];
          }

    pub circle : (entry marks u ≡ 0 → ⊥) → Circle g n pred v u (t + 1 - entry marks u)
    circle d =
        let b = H.came u on (omega arith) in
        let a = entry marks u - 1 in
        let m = t + 1 - entry marks u in
        let again : (i : ℕ) → back g pred u i ≡ back g pred v (i + a) = λ i. ap (λ x. back g pred x i) (sym b.1) ∙ back_add g pred v a i in
        record {
          far = a;
          from = b.1;
          low = omega (arith, b.0, H.low);
          some = omega (arith, b.0);
          closes = again m ∙ ap (back g pred v) (let q : m + a ≡ t = omega (arith, b.0) in q) ∙ sym H.here;
          apart = λ i j h l e. apart (i + a) (j + a) (omega arith) (omega (arith, b.0)) (sym (again i) ∙ e ∙ again j);
        }

-- the last t of the m steps back to u are written, and x is where they begin
pub record Writing (g : Graph) (pred : ℕ → ℕ) (u m : ℕ) (row row' : List ℕ) (t x : ℕ) : Type 0 where
  pub here : x ≡ back g pred u t
  pub done : take t (drop (m - t) row') ≡ map word (trail g pred u t)
  pub rest : drop m row' ≡ drop m row

module _ (g : Graph) (pred : ℕ → ℕ) (u m : ℕ) (row : List ℕ) where
  module _ (count n : ℕ) (wired : Wired g count n) (traced : Traced g count m pred u) (row' : List ℕ) (t x : ℕ) (H : Writing g pred u m row row' t x) (l : t < m) where
    pub ahead : (1 ≤ pred x) × (pred x ≤ count)
    ahead = subst (λ y. (1 ≤ pred y) × (pred y ≤ count)) (sym H.here) (traced t l)

    pub next_on : (y : ℕ) → y ≡ g.from (pred x) → On n y
    next_on y e = let a = ahead in subst (On n) (sym e) (wired (pred x) a.0 a.1).0

  pub write : (row' : List ℕ) (t x : ℕ) → Writing g pred u m row row' t x → t < m → m ≤ length row' → (w y : ℕ) → w ≡ word (Forward (pred x)) → y ≡ g.from (pred x)
      → Writing g pred u m row (set row' (m - 1 - t) w) (t + 1) y
  write row' t x H l b w y e f =
      let i = m - 1 - t in
      record {
        here = f ∙ ap (λ z. g.from (pred z)) H.here ∙ ap (back g pred u) (sym (add-one t));
        done =
            ap (λ j. take (t + 1) (drop j (set row' i w))) (let q : m - (t + 1) ≡ i = omega arith in q)
            ∙ ap (take (t + 1)) (drop-set row' i w (omega arith))
            ∙ ap (λ j. take j (w ∷ drop (i + 1) row')) (add-one t)
            ∙ ap (λ j. w ∷ take t (drop j row')) (let q : i + 1 ≡ m - t = omega arith in q)
            ∙ ap (λ ws. w ∷ ws) H.done
            ∙ ap (λ a. a ∷ map word (trail g pred u t)) (e ∙ ap (λ z. word (Forward (pred z))) H.here)
            ∙ ap (λ j. map word (trail g pred u j)) (sym (add-one t));
        rest = drop-set-lt m row' i w (omega arith) ∙ H.rest;
      }

  pub written : (row' : List ℕ) (x : ℕ) → Writing g pred u m row row' m x → Written row row' m (trail g pred u m)
  written row' x H = record { count = trail_length g pred u m; front = ap (λ i. take m (drop i row')) (let q : 0 ≡ m - m = omega arith in q) ∙ H.done; rest = H.rest }
