use Rattle.std.proofs.Common.{◌≡◌, ℕ, zero, suc, ◌+◌, ◌<◌, ◌≤◌, ◌↔◌, List, [], ◌∷◌, ◌++◌, length, get_or, sym, refl, ap, ◌∙◌, subst, add-one, arith, length-append}
use native.Mathlib.Decide.{dec_le}
use lib.ListN.{get_or-append}
use lib.Seq.{get_or-append_seam}
use Rattle.std.specs.List.{remove as removed}
use Rattle.std.proofs.lemmas.List.Edits.{length-remove, get_or-remove_below, get_or-remove_above}
use Rattle.kind.specs.Group.{Quantities}
use Rattle.network.specs.Graph.{Graph, Walk, Upto, Joining}
use Rattle.network.specs.declared.Step.{Step}
use Rattle.network.specs.declared.Step.TheVariants.{Forward, Backward}
use Rattle.network.specs.Offsets.{Link, tally, nowhere, at, graph, Positions, Carried, Carries, Fits, difference}
use Rattle.network.specs.Theorems.{Linked, Theory}
use Rattle.network.proofs.Sums.{sums}
use Rattle.network.proofs.Carry
use Rattle.network.proofs.Carry.{Moves}
use Rattle.network.proofs.Equivalence.{equivalence}
use Rattle.network.proofs.Forest.{joining_connect, joining_no_more, unique_path}

-- walks and tallies look only at the places that they pass
pub walk_agree : (g h : Graph) (A : ℕ → Type 0) → ((p : ℕ) → A p → (g.from p ≡ h.from p) × (g.to p ≡ h.to p)) → (i : ℕ) (ss : List Step) (j : ℕ) → Walk g A i ss j → Walk h A i ss j
walk_agree g h A f i [] j e = e
walk_agree g h A f i (Forward p ∷ ss) j (e, a, w) = (sym (f p a).0 ∙ e, a, subst (λ x. Walk h A x ss j) (f p a).1 (walk_agree g h A f (g.to p) ss j w))
walk_agree g h A f i (Backward p ∷ ss) j (e, a, w) = (sym (f p a).1 ∙ e, a, subst (λ x. Walk h A x ss j) (f p a).0 (walk_agree g h A f (g.from p) ss j w))

module _ (K : Quantities) where
  open K use {Q, plus, minus}

  tally_agree : (f h : ℕ → Q) (g : Graph) (A : ℕ → Type 0) → ((p : ℕ) → A p → f p ≡ h p) → (i : ℕ) (ss : List Step) (j : ℕ) → Walk g A i ss j → tally K f ss ≡ tally K h ss
  tally_agree f h g A e i [] j w = refl
  tally_agree f h g A e i (Forward p ∷ ss) j (b, a, w) = λ n. plus (e p a n) (tally_agree f h g A e (g.to p) ss j w n)
  tally_agree f h g A e i (Backward p ∷ ss) j (b, a, w) = λ n. plus (minus (e p a n)) (tally_agree f h g A e (g.from p) ss j w n)

  tally_apart : (f h : ℕ → Q) (ss : List Step) → tally K (λ p. plus (f p) (minus (h p))) ss ≡ plus (tally K f ss) (minus (tally K h ss))
  tally_apart f h [] = sym (simp sums)
  tally_apart f h (Forward p ∷ ss) = ap (plus (plus (f p) (minus (h p)))) (tally_apart f h ss) ∙ simp sums
  tally_apart f h (Backward p ∷ ss) = ap (plus (minus (plus (f p) (minus (h p))))) (tally_apart f h ss) ∙ simp sums

  pub carried_moves : (c : ℕ → Q) (l : Link Q) → Carried K c l → c l.to ≡ plus (c l.from) (difference K l)
  carried_moves c l e = rw e (sym (simp sums))

  pub moves_carried : (c : ℕ → Q) (l : Link Q) → c l.to ≡ plus (c l.from) (difference K l) → Carried K c l
  moves_carried c l e = rw e (sym (simp sums))

  module _ (links : List (Link Q)) where
    d : ℕ → Q
    d p = difference K (at K links p)

    moves : (A : ℕ → Type 0) (c : ℕ → Q) → ((p : ℕ) → A p → Carried K c (at K links p)) → Moves K (graph K links) d A c
    unfolding d
    moves A c m p a = carried_moves c (at K links p) (m p a)

    carries : (A : ℕ → Type 0) (c : ℕ → Q) → Moves K (graph K links) d A c → ((p : ℕ) → A p → Carried K c (at K links p))
    unfolding d
    carries A c m p a = moves_carried c (at K links p) (m p a)

    pub at_old : (new : Link Q) (p : ℕ) → Positions K links p → at K links p ≡ at K (links ++ new ∷ []) p
    at_old new zero u = absurd (omega arith)
    at_old new (suc p) u = sym (get_or-append links (new ∷ []) (nowhere K) p (omega arith))

    pub at_new : (new : Link Q) → at K (links ++ new ∷ []) (suc (length links)) ≡ new
    at_new new = get_or-append_seam links new [] (nowhere K)

    pub longer : (new : Link Q) → length (links ++ new ∷ []) ≡ suc (length links)
    longer new = length-append links (new ∷ []) ∙ add-one (length links)

  module _ (links : List (Link Q)) (new : Link Q) where
    more : List (Link Q)
    more = links ++ new ∷ []

    k : ℕ
    k = length links

    old_moves : (c : ℕ → Q) → Carries K c links → Moves K (graph K more) (d more) (Upto k) c
    unfolding k more
    old_moves c m = moves more (Upto k) c (λ p u. subst (Carried K c) (at_old links new p u) (m p u))

    all_fit : (c : ℕ → Q) × Moves K (graph K more) (d more) (Upto (suc k)) c → Fits K more
    unfolding k more
    all_fit (c, m) = (c, carries more (Positions K more) c (λ p u. m p (u.0, subst (λ n. p ≤ n) (longer links new) u.1)))

    all_move : (c : ℕ → Q) → Carries K c more → Moves K (graph K more) (d more) (Upto (suc k)) c
    unfolding k more
    all_move c m = moves more (Upto (suc k)) c (λ p u. m p (u.0, subst (λ n. p ≤ n) (sym (longer links new)) u.1))

    from_new : (graph K more).from (suc k) ≡ new.from
    unfolding k more
    from_new = ap (λ l. l.from) (at_new links new)

    to_new : (graph K more).to (suc k) ≡ new.to
    unfolding k more
    to_new = ap (λ l. l.to) (at_new links new)

    old_walk : (i : ℕ) (ss : List Step) (j : ℕ) → Walk (graph K links) (Positions K links) i ss j → Walk (graph K more) (Upto k) i ss j
    unfolding k more
    old_walk i ss j w = walk_agree (graph K links) (graph K more) (Upto k) (λ p u. (ap (λ l. l.from) (at_old links new p u), ap (λ l. l.to) (at_old links new p u))) i ss j w

    new_walk : (i : ℕ) (ss : List Step) (j : ℕ) → Walk (graph K more) (Upto k) i ss j → Walk (graph K links) (Positions K links) i ss j
    unfolding k more
    new_walk i ss j w = walk_agree (graph K more) (graph K links) (Upto k) (λ p u. (sym (ap (λ l. l.from) (at_old links new p u)), sym (ap (λ l. l.to) (at_old links new p u)))) i ss j w

    add_apart : Fits K links → (Linked K links new.from new.to → ⊥) → Fits K (links ++ new ∷ [])
    unfolding more
    add_apart (c, m) n = all_fit (Carry.grows K (graph K more) (d more) k c (old_moves c m) (λ x. n (subst (λ i. Linked K links i new.to) from_new (subst (λ j. Linked K links ((graph K more).from (suc k)) j) to_new (x.0, new_walk ((graph K more).from (suc k)) x.0 ((graph K more).to (suc k)) x.1)))))

    module _ (ss : List Step) (w : Walk (graph K links) (Positions K links) new.to ss new.from) where
      w' : Walk (graph K more) (Upto k) ((graph K more).to (suc k)) ss ((graph K more).from (suc k))
      w' = subst (λ i. Walk (graph K more) (Upto k) i ss ((graph K more).from (suc k))) (sym to_new) (subst (λ j. Walk (graph K more) (Upto k) new.to ss j) (sym from_new) (old_walk new.to ss new.from w))

      sum_same : plus (d more (suc k)) (tally K (d more) ss) ≡ plus (difference K new) (tally K (λ p. difference K (at K links p)) ss)
      unfolding d k more
      sum_same = λ n. plus (difference K (at_new links new n)) (tally_agree (λ p. difference K (at K more p)) (λ p. difference K (at K links p)) (graph K links) (Positions K links) (λ p u. ap (difference K) (sym (at_old links new p u))) new.to ss new.from w n)

      add_round : Fits K links → Fits K (links ++ new ∷ []) ↔ (plus (difference K new) (tally K (λ p. difference K (at K links p)) ss) ≡ K.zero)
      unfolding more
      add_round (c, m) = (
        (λ f. sym sum_same ∙ Carry.must_close K (graph K more) (d more) k f.0 (all_move f.0 f.1) ss w'),
        λ z. all_fit (c, Carry.closes K (graph K more) (d more) k c (old_moves c m) ss w' (sum_same ∙ z)),
      )

  remove : (links : List (Link Q)) (p : ℕ) → p < length links → Fits K links → Fits K (removed links p)
  remove links p l (c, m) = (c, λ q u. go q u)
    where
      go : (q : ℕ) → Positions K (removed links p) q → Carried K c (at K (removed links p) q)
      go zero u = absurd (omega arith)
      go (suc q) u =
          let n : length (removed links p) + 1 ≡ length links = length-remove links p l in
          side q u.1 n (dec_le p q)
        where
          side : (q : ℕ) → q < length (removed links p) → length (removed links p) + 1 ≡ length links → Dec (p ≤ q) → Carried K c (at K (removed links p) (suc q))
          side q v n (yes h) = subst (Carried K c) (sym (get_or-remove_above links p (nowhere K) q h l)) (subst (λ x. Carried K c (get_or links x (nowhere K))) (sym (add-one q)) (m (suc (suc q)) (omega arith)))
          side q v n (no h) = subst (Carried K c) (sym (get_or-remove_below links p (nowhere K) q (omega arith) l)) (m (suc q) (omega arith))

  pub theory : (links : List (Link Q)) → Theory K links
  unfolding d
  theory links = record {
    equivalent = equivalence K links;
    walk_law = λ c m i j ss w. sym (tally_apart (λ p. (at K links p).wanted) (λ p. (at K links p).measured) ss) ∙ law c m i j ss w;
    known = λ c b m n i j x. Carry.known K g (d links) k c (moves links (Upto k) c m) b (moves links (Upto k) b n) i j x;
    free = λ c m i j n. let f = Carry.free K g (d links) k c (moves links (Upto k) c m) i j n in (f.0, carries links (Upto k) f.0 f.1, f.2);
    add_apart = λ new f n. add_apart links new f n;
    add_round = λ new f ss w. add_round links new ss w f;
    joining_suffice = λ f b n. carries links (Upto k) b (Carry.joining_suffice K g (d links) k f.0 (moves links (Upto k) f.0 f.1) b (moves links (Joining g k) b n));
    joining_connect = λ i j. (joining_connect g k i j, joining_no_more g k i j);
    one_grounded = λ c b m n gc gb v h. Carry.grounded_unique K g (d links) k c b (moves links (Upto k) c m) (moves links (Upto k) b n) (λ u a x. gc u (a, x)) (λ u a x. gb u (a, x)) (suc v) v h (omega arith);
    one_path = λ i j ss ts p q. unique_path g k i j ss ts p q;
    remove = remove links;
    none = (λ v. K.zero, λ p u. absurd (omega arith));
  }
    where
      g : Graph
      g = graph K links

      k : ℕ
      k = length links

      law : (c : ℕ → Q) → Carries K c links → (i j : ℕ) (ss : List Step) → Walk g (Positions K links) i ss j → tally K (d links) ss ≡ plus (c j) (minus (c i))
      law c m i j ss w = sym (ap (λ x. plus x (minus (c i))) (Carry.walk_law K g (d links) (Upto k) c (moves links (Upto k) c m) i ss j w) ∙ simp sums)
